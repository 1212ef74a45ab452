-- The bytes to come, where they are told.
use Rattle.std.proofs.Common.{◌≡◌, ℕ, ◌+◌, ◌≤◌, ◌<◌, List, [], ◌∷◌, ◌++◌, length, take, drop, Option, Some, None, refl, sym, ap, ◌∙◌, subst, arith, append_assoc, append-nil, length-append}
use Rattle.std.proofs.lemmas.List.{drop-append-le}
use Rattle.std.proofs.Math.Seq.{take-append_seam, drop-append_seam, take-append-add, drop-append-add}
use Rattle.std.proofs.lemmas.Option.{none-some}
use Rattle.std.specs.Prelude.{unwrap_or}
use Rattle.httparse.specs.declared.spans.HeaderSpan.{HeaderSpan}
use Rattle.sf_outside.specs.Left.{ahead, AtEnd}
use Rattle.endpoint_http.specs.Answers.{Told}
use Rattle.endpoint_http.specs.Parts.{Begins}
use Rattle.endpoint_http.specs.Parsed.{headers_at, IsFound}
use Rattle.endpoint_http.specs.Taking.{Takes}
use Rattle.endpoint_http.specs.declared.part.Part.{Part}
use Rattle.endpoint_http.specs.declared.part.Found.{Found}
use Rattle.endpoint_http.proofs.Fronts.{begins}

-- a statement on what is told, from one on the bytes that are
pub tell : (o : Option (List ℕ)) (P : List ℕ → Type 0) → ((bytes : List ℕ) → o ≡ Some bytes → P bytes) → Told o P
tell None P k = tt {0}
tell (Some bytes) P k = k bytes refl

-- and back
pub told_at : (o : Option (List ℕ)) (P : List ℕ → Type 0) (bytes : List ℕ) → o ≡ Some bytes → Told o P → P bytes
told_at o P bytes is h = subst (λ (p : Option (List ℕ)). Told p P) is h

-- what is left behind the bytes held
pub held_of : (held : List ℕ) (left : Option (List ℕ)) (bytes : List ℕ) → ahead held left ≡ Some bytes → (more : List ℕ) × (left ≡ Some more) × (bytes ≡ held ++ more)
held_of held None bytes is = elim (none-some bytes is) [ ]
held_of held (Some more) bytes is = (more, refl, sym (ap (λ (o : Option (List ℕ)). unwrap_or o []) is))

-- where the first bytes held are taken, the others are to come
pub behind : (held : List ℕ) (left : Option (List ℕ)) (bytes : List ℕ) (len : ℕ) → len ≤ length held → ahead held left ≡ Some bytes
    → ahead (drop len held) left ≡ Some (drop len bytes)
behind held None bytes len fits is = elim (none-some bytes is) [ ]
behind held (Some more) bytes len fits is =
    let all : held ++ more ≡ bytes = ap (λ (o : Option (List ℕ)). unwrap_or o []) is in
    ap Some (sym (drop-append-le len held more fits) ∙ ap (λ bs. drop len bs) all)

-- the part that the bytes held begin with is the one that all begin with
pub begins_told : (part : Part) (held : List ℕ) (left : Option (List ℕ)) (bytes : List ℕ) (spans : List HeaderSpan) (found : Found)
    → length held ≤ 16384 → IsFound part held spans found → ahead held left ≡ Some bytes
    → Begins part bytes found.start (headers_at held spans found.headers) (drop found.len bytes)
begins_told part held left bytes spans found short is told =
    let all = held_of held left bytes told in
    subst (λ bs. Begins part bs found.start (headers_at held spans found.headers) (drop found.len bs)) (sym all.2) (begins part held all.0 spans found short is)

-- the bytes to come, where those in front of them are told
pub come : (front held : List ℕ) (left : Option (List ℕ)) (all : List ℕ) → ahead (front ++ held) left ≡ Some all → (rest : List ℕ) × (ahead held left ≡ Some rest) × (all ≡ front ++ rest)
come front held None all is = elim (none-some all is) [ ]
come front held (Some more) all is = (held ++ more, refl, sym (ap (λ (o : Option (List ℕ)). unwrap_or o []) is) ∙ append_assoc front held more)

-- bytes were moved from those to come to behind these
pub took : (had now held still : List ℕ) (left next : Option (List ℕ)) (count : ℕ) (bytes : List ℕ)
    → ahead (now ++ still) next ≡ ahead (had ++ held) left → length now ≡ length had + count → ahead held left ≡ Some bytes → Takes count had bytes now (ahead still next)
took had now held still None next count bytes is len told = elim (none-some bytes told) [ ]
took had now held still (Some more) next count bytes is len told =
    let all : (had ++ held) ++ more ≡ had ++ bytes = append_assoc had held more ∙ ap (λ (o : Option (List ℕ)). had ++ unwrap_or o []) told in
    let rest = come now still next (had ++ bytes) (is ∙ ap Some all) in
    let sizes : length had + length bytes ≡ length now + length rest.0 = sym (length-append had bytes) ∙ ap length rest.2 ∙ length-append now rest.0 in
    let enough : count ≤ length bytes = omega (arith, sizes, len) in
    let t : now ≡ had ++ take count bytes =
    sym (take-append_seam now rest.0) ∙ ap (λ bs. take (length now) bs) (sym rest.2) ∙ ap (λ n. take n (had ++ bytes)) len ∙ take-append-add had bytes count in
    let d : rest.0 ≡ drop count bytes =
    sym (drop-append_seam now rest.0) ∙ ap (λ bs. drop (length now) bs) (sym rest.2) ∙ ap (λ n. drop n (had ++ bytes)) len ∙ drop-append-add had bytes count in
    record { enough = enough; taken = t; rest = rest.1 ∙ ap Some d }

-- fewer are there, where all of them stand behind these and some are missing
pub too_few : (had now held : List ℕ) (left next : Option (List ℕ)) (count missing : ℕ) (bytes : List ℕ)
    → ahead (now ++ []) next ≡ ahead (had ++ held) left → AtEnd next → length now + missing ≡ length had + count → 0 < missing → ahead held left ≡ Some bytes → length bytes < count
too_few had now held None next count missing bytes is end len positive told = elim (none-some bytes told) [ ]
too_few had now held (Some more) None count missing bytes is end len positive told = elim (none-some _ is) [ ]
too_few had now held (Some more) (Some rest) count missing bytes is end len positive told =
    let all : (had ++ held) ++ more ≡ had ++ bytes = append_assoc had held more ∙ ap (λ (o : Option (List ℕ)). had ++ unwrap_or o []) told in
    let whole : (now ++ []) ++ rest ≡ had ++ bytes = ap (λ (o : Option (List ℕ)). unwrap_or o []) is ∙ all in
    let none : length rest ≡ 0 = ap length end in
    let sizes : length (now ++ []) + length rest ≡ length had + length bytes = sym (length-append (now ++ []) rest) ∙ ap length whole ∙ length-append had bytes in
    let plain : length (now ++ []) ≡ length now = ap length (append-nil now) in
    omega (arith, sizes, plain, none, len, positive)

nothing_more : (now held more rest : List ℕ) → now ++ rest ≡ held ++ more → rest ≡ [] → length now ≡ length held → more ≡ []
nothing_more now held [] rest is none same = refl
nothing_more now held (byte ∷ more) rest is none same =
    let sizes : length now + length rest ≡ length held + length (byte ∷ more) = sym (length-append now rest) ∙ ap length is ∙ length-append held (byte ∷ more) in
    let zero : length rest ≡ 0 = ap length none in
    absurd (omega (arith, sizes, zero, same))

-- where a read gave nothing at the end of input, the end was there before it
pub at_end_before : (now held : List ℕ) (next left : Option (List ℕ)) → ahead now next ≡ ahead held left → AtEnd next → length now ≡ length held → AtEnd left
at_end_before now held next None is end same = tt {0}
at_end_before now held None (Some more) is end same = elim (none-some _ is) [ ]
at_end_before now held (Some rest) (Some more) is end same = nothing_more now held more rest (ap (λ (o : Option (List ℕ)). unwrap_or o []) is) end same
