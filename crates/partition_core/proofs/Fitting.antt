-- One batch alone is the longest front within the bounds.
use Rattle.std.proofs.Common.{◌≡◌, ◌∙◌, sym, ap, subst, refl, ℕ, ◌+◌, ◌-◌, ◌*◌, ◌<◌, ◌≤◌, ◌^◌, List, [], ◌∷◌, ◌++◌, Bool, true, false, cond, length, take, drop, append-nil, length-append, arith}
use Rattle.std.specs.Prelude.{◌&&◌, nat_le}
use Rattle.std.specs.Cmp.{first_so, second_so}
use Rattle.std.proofs.lemmas.Bool.{leb-true, leb-false, le-leb, false_from_ne_true}
use Rattle.std.proofs.lemmas.List.{append_assoc, take-append-drop}
use Rattle.std.proofs.lemmas.List.Sums.{sum_by-append}
use Rattle.std.proofs.Math.Seq.{take-append-add}
use Rattle.proto_wire.specs.Message.{capped}
use Rattle.typed_values.specs.declared.address.Address.{Address}
use Rattle.typed_values.specs.declared.letter.Letter.{Letter}
use Rattle.request_reply.specs.Letters.{letter_record}
use Rattle.batch_queue.specs.declared.fault.BatchFault.{BatchFault}
use Rattle.batch_queue.specs.declared.fault.BatchFault.TheVariants.{TooLarge, OutOfMemory}
use Rattle.batch_queue.specs.Batches.{enclosed, records_size, request_size, IsWithin, IsBatch, IsFaultOf}
use Rattle.batch_queue.proofs.Sizing.{varint-some, enclosed_le}
use Rattle.invocation.specs.Requests.{head_size}
use Rattle.partition_core.specs.declared.bounds.Bounds.{Bounds}
use Rattle.partition_core.specs.Work.{Work}
use Rattle.partition_core.specs.Batches.{keeps, fitting_behind, fitting, limits_of, IsTooLarge}

enclosed_grows : (n : ℕ) → n + 2 ≤ enclosed n
enclosed_grows n = let one = varint-some (8 * 100 + 2) in let two = varint-some n in omega (arith, one, two)

both_true : (a b : Bool) → a ≡ true → b ≡ true → (a && b) ≡ true
both_true a b e f = λ i. e i && f i

module _ (bounds : Bounds) (head cut : ℕ) (is : cut ≡ capped head) (small : bounds.max_bytes < 2 ^ 64) where
  within_keeps : (front : List Letter) → IsWithin (limits_of bounds cut) front → keeps bounds head front ≡ true
  within_keeps front within =
      let grows = enclosed_grows (cut + records_size front) in
      let bytes : enclosed (cut + records_size front) ≤ bounds.max_bytes = within.bytes in
      let same : cut ≡ head = omega (arith, grows, bytes, small, is) in
      both_true (nat_le (length front) bounds.max_letters) (nat_le (request_size head front) bounds.max_bytes)
      (le-leb (length front) bounds.max_letters within.count)
      (le-leb (request_size head front) bounds.max_bytes (subst (λ n. request_size n front ≤ bounds.max_bytes) same within.bytes))

  keeps_within : (front : List Letter) → keeps bounds head front ≡ true → IsWithin (limits_of bounds cut) front
  keeps_within front so =
      let bytes : enclosed (head + records_size front) ≤ bounds.max_bytes = leb-true (request_size head front) bounds.max_bytes (second_so (nat_le (length front) bounds.max_letters) (nat_le (request_size head front) bounds.max_bytes) so) in
      let grows = enclosed_grows (head + records_size front) in
      let same : head ≡ cut = omega (arith, grows, bytes, small, is) in
      record {
        count = leb-true (length front) bounds.max_letters (first_so (nat_le (length front) bounds.max_letters) (nat_le (request_size head front) bounds.max_bytes) so);
        bytes = subst (λ n. request_size n front ≤ bounds.max_bytes) same bytes;
      }

  keeps_shorter : (front more : List Letter) → keeps bounds head (front ++ more) ≡ true → keeps bounds head front ≡ true
  keeps_shorter front more so =
      let count = leb-true (length (front ++ more)) bounds.max_letters (first_so (nat_le (length (front ++ more)) bounds.max_letters) (nat_le (request_size head (front ++ more)) bounds.max_bytes) so) in
      let bytes = leb-true (request_size head (front ++ more)) bounds.max_bytes (second_so (nat_le (length (front ++ more)) bounds.max_letters) (nat_le (request_size head (front ++ more)) bounds.max_bytes) so) in
      let longer : length (front ++ more) ≡ length front + length more = length-append front more in
      let larger : records_size (front ++ more) ≡ records_size front + records_size more = sum_by-append (λ (letter : Letter). length (letter_record letter)) front more in
      let wider = enclosed_le (head + records_size front) (head + records_size (front ++ more)) (omega (arith, larger)) in
      both_true (nat_le (length front) bounds.max_letters) (nat_le (request_size head front) bounds.max_bytes)
      (le-leb (length front) bounds.max_letters (omega (arith, count, longer)))
      (le-leb (request_size head front) bounds.max_bytes (omega (arith, bytes, wider)))

  abbrev Stops : List Letter → List Letter → Type 0
  Stops whole [] = Unit {0}
  Stops whole (letter ∷ letters) = keeps bounds head (whole ++ letter ∷ []) ≡ false

  fit_all : (batch behind front : List Letter) → keeps bounds head (front ++ batch) ≡ true → Stops (front ++ batch) behind → fitting_behind bounds head front (batch ++ behind) ≡ front ++ batch
  fit_all [] [] front so stops = sym (append-nil front)
  fit_all [] (letter ∷ behind) front so stops =
      ap (λ t. cond t (fitting_behind bounds head (front ++ letter ∷ []) behind) front) (ap (λ xs. keeps bounds head (xs ++ letter ∷ [])) (sym (append-nil front)) ∙ stops) ∙ sym (append-nil front)
  fit_all (letter ∷ batch) behind front so stops =
      let whole : (front ++ letter ∷ []) ++ batch ≡ front ++ (letter ∷ batch) = append_assoc front (letter ∷ []) batch in
      let all : keeps bounds head ((front ++ letter ∷ []) ++ batch) ≡ true = ap (keeps bounds head) whole ∙ so in
      ap (λ t. cond t (fitting_behind bounds head (front ++ letter ∷ []) (batch ++ behind)) front) (keeps_shorter (front ++ letter ∷ []) batch all)
      ∙ fit_all batch behind (front ++ letter ∷ []) all (subst (λ xs. Stops xs behind) (sym whole) stops) ∙ whole

  pub one_batch : (letters batch : List Letter) → IsBatch (limits_of bounds cut) letters batch → batch ≡ fitting bounds head letters
  unfolding fitting
  one_batch letters batch b =
      let parts : letters ≡ batch ++ drop (length batch) letters = sym (take-append-drop (length batch) letters) ∙ ap (λ xs. xs ++ drop (length batch) letters) b.front in
      sym (ap (fitting_behind bounds head []) parts ∙ fit_all batch (drop (length batch) letters) [] (within_keeps batch b.within) (ends (drop (length batch) letters) parts))
    where
      ends : (behind : List Letter) → letters ≡ batch ++ behind → Stops batch behind
      ends [] e = tt
      ends (letter ∷ behind) e =
          let longer : length letters ≡ length batch + length (letter ∷ behind) = ap length e ∙ length-append batch (letter ∷ behind) in
          let more : length batch + 1 ≤ length letters = omega (arith, longer) in
          let next : take (length batch + 1) letters ≡ batch ++ letter ∷ [] = ap (take (length batch + 1)) e ∙ take-append-add batch (letter ∷ behind) 1 in
          false_from_ne_true (keeps bounds head (batch ++ letter ∷ []))
          (λ so. b.longest (length batch + 1) (omega arith) more (subst (IsWithin (limits_of bounds cut)) (sym next) (keeps_within (batch ++ letter ∷ []) so)))

  size_same : (first : List Letter) → capped (request_size cut first) ≡ capped (request_size head first)
  size_same first = by (nat_le head (2 ^ 64 - 1)) refl
    where
      by : (t : Bool) → nat_le head (2 ^ 64 - 1) ≡ t → capped (request_size cut first) ≡ capped (request_size head first)
      by true e =
          let le = leb-true head (2 ^ 64 - 1) e in
          let same : cut ≡ head = omega (arith, le, is) in ap (λ n. capped (request_size n first)) same
      by false e =
          let more = leb-false head (2 ^ 64 - 1) e in
          let one = enclosed_grows (cut + records_size first) in
          let two = enclosed_grows (head + records_size first) in
          omega (arith, more, is, one, two)

  size_less : (first : List Letter) → request_size cut first ≤ request_size head first
  size_less first = enclosed_le (cut + records_size first) (head + records_size first) (omega (arith, is))

-- a fault of the letters with the head cut off is one of the batch
pub fault_is : (bounds : Bounds) (moment : ℕ) (address : Address) (work : Work) (cut : ℕ) → cut ≡ capped (head_size address (work.cells address) moment) → bounds.max_bytes < 2 ^ 64 → (fault : BatchFault) → IsFaultOf (limits_of bounds cut) (work.post.letters address) fault → IsTooLarge bounds moment address work fault
fault_is bounds moment address work cut is small (TooLarge size limit) f =
    let head = head_size address (work.cells address) moment in
    let first = take 1 (work.post.letters address) in
    let less : request_size cut first ≤ request_size head first = size_less bounds head cut is small first in
    (omega (arith, f.0, less), f.1 ∙ size_same bounds head cut is small first, f.2)
fault_is bounds moment address work cut is small OutOfMemory f = tt
