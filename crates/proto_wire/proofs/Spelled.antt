-- Varints and records by their spellings.
use Rattle.std.proofs.Common.{◌≡◌, ℕ, zero, suc, ◌+◌, ◌-◌, ◌*◌, ◌%◌, ◌^◌, ◌<◌, ◌≤◌, ◌↔◌, Bool, true, false, cond, ltb, List, [], ◌∷◌, ◌++◌, length, Result, Ok, Err, refl, sym, ap, subst, ◌∙◌, arith, append_assoc, length-append}
use Rattle.std.specs.Prelude.{All}
use Rattle.std.proofs.lemmas.List.Elements.{All-nil, All-cons, All-head, All-tail}
use Rattle.std.proofs.lemmas.Bool.{ltb-true}
use Rattle.std.proofs.lemmas.Bool.Decides.{nat_tests}
use Rattle.std.proofs.Math.Nat.{pow-suc, mul_assoc}
use Rattle.proto_wire.specs.Varint.{ItemFault, ◌>>=◌, groups, varint_in}
use Rattle.proto_wire.specs.Encoding.{AreBytes, sum_by_place, IsContinued, IsVarint, Begins}
use Rattle.proto_wire.proofs.Again.{below, not_below}
use Rattle.proto_wire.proofs.Fronts.{same-ok}

-- the number of groups, the last one behind others
value : List ℕ → ℕ → ℕ
value [] last = last
value (b ∷ front) last = (b - 128 + 128 * value front last) % 2 ^ 64

sum-shifted : (place : ℕ) (bytes : List ℕ) → sum_by_place (suc place) bytes ≡ 128 * sum_by_place place bytes
sum-shifted place [] = refl
sum-shifted place (b ∷ bytes) =
    let deeper = sum-shifted (suc place) bytes in
    let power : 128 ^ suc place ≡ 128 ^ place * 128 = pow-suc 128 place in
    let term : (b % 128) * 128 ^ suc place ≡ (b % 128) * 128 ^ place * 128 = ap (λ (n : ℕ). (b % 128) * n) power ∙ sym (mul_assoc (b % 128) (128 ^ place) 128) in
    omega arith

group-sum : (b high sum : ℕ) → 128 ≤ b → b < 256 → high ≡ sum % 2 ^ 64 → (b - 128 + 128 * high) % 2 ^ 64 ≡ ((b % 128) * 1 + 128 * sum) % 2 ^ 64
group-sum b high sum h k e = omega arith

last-sum : (last : ℕ) → last < 128 → last ≡ ((last % 128) * 1 + 0) % 2 ^ 64
last-sum last h = omega arith

value-sum : (front : List ℕ) (last : ℕ) → All IsContinued front → last < 128 → value front last ≡ sum_by_place 0 (front ++ last ∷ []) % 2 ^ 64
unfolding value
value-sum [] last all h = last-sum last h
value-sum (b ∷ front) last all h =
    let first = All-head IsContinued b front all in
    let deeper = value-sum front last (All-tail IsContinued b front all) h in
    let shifted = sum-shifted 0 (front ++ last ∷ []) in
    group-sum b (value front last) (sum_by_place 0 (front ++ last ∷ [])) first.0 first.1 deeper
    ∙ ap (λ (n : ℕ). ((b % 128) * 1 + n) % 2 ^ 64) (sym shifted)

groups-spelled : (at most : ℕ) (front : List ℕ) (last : ℕ) (rest : List ℕ) → All IsContinued front → last < 128 → length front < most → groups at most (front ++ last ∷ rest) ≡ Ok (value front last, rest)
unfolding groups value
groups-spelled at zero front last rest all h le = absurd (omega arith)
groups-spelled at (suc most) [] last rest all h le = rw (below last 128 h) refl
groups-spelled at (suc most) (b ∷ front) last rest all h le =
    let first = All-head IsContinued b front all in
    let deeper = groups-spelled at most front last rest (All-tail IsContinued b front all) h (omega arith) in
    rw (not_below b 128 first.0, deeper) refl

-- groups that were read: those with the high bit, the last one, and their number
record GroupsRead (most : ℕ) (bytes : List ℕ) (read : ℕ × List ℕ) : Type 0 where
  front : List ℕ
  last : ℕ
  is : bytes ≡ front ++ last ∷ read.1
  continued : All IsContinued front
  ended : last < 128
  short : length front < most
  number : read.0 ≡ value front last

groups-read : (at most : ℕ) (bytes : List ℕ) (read : ℕ × List ℕ) → AreBytes bytes → groups at most bytes ≡ Ok read → GroupsRead most bytes read
unfolding groups value
groups-read at zero bytes read all h = absurd cc
groups-read at (suc most) [] read all h = absurd cc
groups-read at (suc most) (b ∷ bytes) read all h = step (ltb b 128) refl h (λ high e. groups-read at most bytes high (All-tail (λ (n : ℕ). n < 256) b bytes all) e)
  where
    deeper : (r : Result (ℕ × List ℕ) ItemFault) → ltb b 128 ≡ false → ((high : ℕ × List ℕ) → r ≡ Ok high → GroupsRead most bytes high)
        → (r >>= λ high. Ok ((b - 128 + 128 * high.0) % 2 ^ 64, high.1)) ≡ Ok read → GroupsRead (suc most) (b ∷ bytes) read
    deeper (Ok high) e k h =
        let g = k high refl in
        let small : b < 256 = All-head (λ (n : ℕ). n < 256) b bytes all in
        let large : 128 ≤ b = grind (arith, nat_tests) in
        let len = g.short in
        let P : ℕ × List ℕ → Type 0 = λ r. GroupsRead (suc most) (b ∷ bytes) r in
        let whole : GroupsRead (suc most) (b ∷ bytes) ((b - 128 + 128 * high.0) % 2 ^ 64, high.1) = record {
          front = b ∷ g.front;
          last = g.last;
          is = ap (λ (s : List ℕ). b ∷ s) g.is;
          continued = All-cons IsContinued b g.front (large, small) g.continued;
          ended = g.ended;
          short = omega arith;
          number = ap (λ (n : ℕ). (b - 128 + 128 * n) % 2 ^ 64) g.number;
        } in
        subst P (same-ok h) whole
    deeper (Err f) e k h = absurd cc

    step : (t : Bool) → ltb b 128 ≡ t → cond t (Ok (b, bytes)) (groups at most bytes >>= λ high. Ok ((b - 128 + 128 * high.0) % 2 ^ 64, high.1)) ≡ Ok read
        → ((high : ℕ × List ℕ) → groups at most bytes ≡ Ok high → GroupsRead most bytes high) → GroupsRead (suc most) (b ∷ bytes) read
    step true e h k =
        let P : ℕ × List ℕ → Type 0 = λ r. GroupsRead (suc most) (b ∷ bytes) r in
        let whole : GroupsRead (suc most) (b ∷ bytes) (b, bytes) =
        record { front = []; last = b; is = refl; continued = All-nil IsContinued; ended = ltb-true _ _ e; short = omega arith; number = refl } in
        subst P (same-ok h) whole
    step false e h k = deeper (groups at most bytes) e k h

pub varint-spelled : (spelling : List ℕ) (number : ℕ) (rest : List ℕ) → IsVarint spelling number → varint_in (spelling ++ rest) ≡ Ok (number, rest)
unfolding varint_in
varint-spelled spelling number rest v =
    let len = v.short in
    let long : length spelling ≡ length v.front + 1 = ap (λ (s : List ℕ). length s) v.is ∙ length-append v.front (v.last ∷ []) in
    let whole : spelling ++ rest ≡ v.front ++ v.last ∷ rest = ap (λ (s : List ℕ). s ++ rest) v.is ∙ append_assoc v.front (v.last ∷ []) rest in
    let sum : value v.front v.last ≡ number = value-sum v.front v.last v.continued v.ended ∙ ap (λ (s : List ℕ). sum_by_place 0 s % 2 ^ 64) (sym v.is) ∙ sym v.sum in
    ap (groups (length (spelling ++ rest)) 10) whole
    ∙ groups-spelled (length (spelling ++ rest)) 10 v.front v.last rest v.continued v.ended (omega arith)
    ∙ ap (λ (n : ℕ). Ok (n, rest)) sum

pub varint-begins : (bytes rest : List ℕ) (number : ℕ) → AreBytes bytes → varint_in bytes ≡ Ok (number, rest) → Begins bytes number rest
unfolding varint_in
varint-begins bytes rest number all h =
    let g = groups-read (length bytes) 10 bytes (number, rest) all h in
    let len = g.short in
    let spells : IsVarint (g.front ++ g.last ∷ []) number = record {
      front = g.front;
      last = g.last;
      is = refl;
      continued = g.continued;
      ended = g.ended;
      short = omega (arith, length-append g.front (g.last ∷ []));
      sum = g.number ∙ value-sum g.front g.last g.continued g.ended;
    } in
    record { spelling = g.front ++ g.last ∷ []; is = g.is ∙ sym (append_assoc g.front (g.last ∷ []) rest); spells = spells }

pub varints-are-read : (bytes rest : List ℕ) (number : ℕ) → AreBytes bytes → (varint_in bytes ≡ Ok (number, rest)) ↔ Begins bytes number rest
varints-are-read bytes rest number all =
    (λ h. varint-begins bytes rest number all h, λ b. ap varint_in b.is ∙ varint-spelled b.spelling number rest b.spells)
