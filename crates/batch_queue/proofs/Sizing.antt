-- How long requests are: with more letters they are no shorter.
use Rattle.std.proofs.Common.{◌≡◌, ◌∙◌, sym, ap, refl, ℕ, zero, suc, ◌+◌, ◌/◌, ◌%◌, ◌<◌, ◌≤◌, Bool, true, false, cond, ltb, List, [], ◌∷◌, length, take, get_or, arith, sum_by}
use Rattle.std.specs.Prelude.{nat_lt}
use Rattle.std.proofs.lemmas.List.{take_more}
use Rattle.std.proofs.lemmas.List.Sums.{sum_by-append, sum_by-cons}
use Rattle.proto_wire.specs.Varint.{varint, groups_of}
use Rattle.typed_values.specs.declared.letter.Letter.{Letter}
use Rattle.request_reply.specs.Letters.{letter_record}
use Rattle.batch_queue.specs.declared.limits.Limits.{Limits}
use Rattle.batch_queue.specs.Batches.{enclosed, records_size, IsWithin}

some-cond : (b : Bool) (x y : List ℕ) → 1 ≤ length x → 1 ≤ length y → 1 ≤ length (cond b x y)
some-cond true x y p q = p
some-cond false x y p q = q

groups_of-some : (more number : ℕ) → 1 ≤ length (groups_of more number)
unfolding groups_of
groups_of-some zero number = omega arith
groups_of-some (suc more) number = some-cond (ltb number 128) _ _ (omega arith) (omega arith)

pub varint-some : (number : ℕ) → 1 ≤ length (varint number)
unfolding varint
varint-some number = groups_of-some 9 number

pub groups_le : (more m n : ℕ) → m ≤ n → length (groups_of more m) ≤ length (groups_of more n)
unfolding groups_of
groups_le zero m n h = omega arith
groups_le (suc more) m n h = split (nat_lt m 128) (nat_lt n 128) refl refl (groups_le more (m / 128) (n / 128) (grind arith)) (groups_of-some more (n / 128))
  where
    split : (t u : Bool) → nat_lt m 128 ≡ t → nat_lt n 128 ≡ u → length (groups_of more (m / 128)) ≤ length (groups_of more (n / 128)) → 1 ≤ length (groups_of more (n / 128))
        → length (cond t (m ∷ []) ((m % 128 + 128) ∷ groups_of more (m / 128))) ≤ length (cond u (n ∷ []) ((n % 128 + 128) ∷ groups_of more (n / 128)))
    split true true e f k some = omega arith
    split true false e f k some = omega (arith, some)
    split false false e f k some = omega (arith, k)
    split false true e f k some = absurd (grind (arith, e, f, h))

pub enclosed_le : (m n : ℕ) → m ≤ n → enclosed m ≤ enclosed n
unfolding varint
enclosed_le m n h = let k = groups_le 9 m n h in omega (arith, k, h)

pub records_next : (ls : List Letter) (k : ℕ) (letter : Letter) → letter ≡ get_or ls k letter → k < length ls → records_size (take (k + 1) ls) ≡ records_size (take k ls) + length (letter_record letter)
records_next ls k letter read room =
    let f : Letter → ℕ = λ l. length (letter_record l) in
    ap (sum_by f) (take_more ls k letter room) ∙ sum_by-append f (take k ls) (get_or ls k letter ∷ []) ∙ ap (λ (x : Letter). sum_by f (take k ls) + sum_by f (x ∷ [])) (sym read) ∙ (let one : sum_by f (letter ∷ []) ≡ f letter = omega arith in ap (λ n. sum_by f (take k ls) + n) one)

pub records_le : (ls : List Letter) (k m : ℕ) → k ≤ m → records_size (take k ls) ≤ records_size (take m ls)
records_le ls zero m h = omega arith
records_le [] (suc k) m h = omega arith
records_le (l ∷ ls) (suc k) zero h = absurd (omega (arith, h))
records_le (l ∷ ls) (suc k) (suc m) h =
    let f : Letter → ℕ = λ x. length (letter_record x) in
    let more : sum_by f (take k ls) ≤ sum_by f (take m ls) = records_le ls k m (omega (arith, h)) in
    let left : sum_by f (l ∷ take k ls) ≡ f l + sum_by f (take k ls) = sum_by-cons f l (take k ls) in
    let right : sum_by f (l ∷ take m ls) ≡ f l + sum_by f (take m ls) = sum_by-cons f l (take m ls) in
    omega (arith, more, left, right)

-- a front with one letter more is too long: so is each longer front
pub too_long : (limits : Limits) (ls : List Letter) (k more : ℕ) (letter : Letter) (records : ℕ) → letter ≡ get_or ls k letter → k < length ls → records ≡ limits.head_bytes + records_size (take k ls) → limits.max_bytes < enclosed (records + length (letter_record letter)) → k < more → IsWithin limits (take more ls) → ⊥
too_long limits ls k more letter records read room is passes h within =
    let next = records_next ls k letter read room in
    let grows = records_le ls (k + 1) more (omega (arith, h)) in
    let wide = enclosed_le (records + length (letter_record letter)) (limits.head_bytes + records_size (take more ls)) (omega (arith, next, grows, is)) in
    let bytes = within.bytes in
    omega (arith, wide, bytes, passes)
