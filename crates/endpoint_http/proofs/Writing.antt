-- What is told of a sink after one more write.
use Rattle.std.proofs.Common.{◌≡◌, ℕ, ◌+◌, List, ◌++◌, length, take, drop, refl, sym, ap, ◌∙◌, arith, length-append, append_assoc, Option}
use Rattle.std.proofs.Math.Seq.{take-add, take-append-add}
use Rattle.std.proofs.lemmas.List.{take-append-le}
use Rattle.sf_outside.specs.Told.{more, more-nil, more-more}
use Rattle.endpoint_http.specs.Chunks.{crlf}
use Rattle.endpoint_http.specs.Written.{line, IsPartWritten}

pub written-more : (told before after : Option (List ℕ)) (bytes rest : List ℕ) (done n : ℕ) → before ≡ more told (take done bytes) → rest ≡ drop done bytes
    → after ≡ more before (take n rest) → after ≡ more told (take (done + n) bytes)
written-more told before after bytes rest done n e f g = let h = take-add done n bytes in rw (g, f, e, more-more told (take done bytes) (take n (drop done bytes)), ← h) refl

-- nothing was written
pub none-written : (told : Option (List ℕ)) (bytes : List ℕ) → IsPartWritten told told bytes
none-written told bytes = (0, omega arith, sym (more-nil told))

-- a part of what stands in front was
pub front-written : (told after : Option (List ℕ)) (head body : List ℕ) → IsPartWritten told after head → IsPartWritten told after (head ++ body)
front-written told after head body h =
    (h.0, omega (arith, h.1, length-append head body), h.2 ∙ ap (more told) (sym (take-append-le h.0 head body h.1)))

-- all of what stands in front was, and a part of what is behind it
pub behind-written : (told between after : Option (List ℕ)) (head body : List ℕ) → between ≡ more told head → IsPartWritten between after body
    → IsPartWritten told after (head ++ body)
behind-written told between after head body e h = (
  length head + h.0,
  omega (arith, h.1, length-append head body),
  h.2 ∙ ap (λ (o : Option (List ℕ)). more o (take h.0 body)) e ∙ more-more told head (take h.0 body) ∙ ap (more told) (sym (take-append-add head body h.0)),
)

pub both-written : (told between after : Option (List ℕ)) (head body : List ℕ) → between ≡ more told head → after ≡ more between body → after ≡ more told (head ++ body)
both-written told between after head body e f = f ∙ ap (λ (o : Option (List ℕ)). more o body) e ∙ more-more told head body

-- ---- lines

pub two-added : (old one two x y : List ℕ) → one ≡ old ++ x → two ≡ one ++ y → two ≡ old ++ (x ++ y)
two-added old one two x y e f = f ∙ ap (λ (bs : List ℕ). bs ++ y) e ∙ append_assoc old x y

pub three-added : (old one two three x y z : List ℕ) → one ≡ old ++ x → two ≡ one ++ y → three ≡ two ++ z → three ≡ old ++ (x ++ (y ++ z))
three-added old one two three x y z e f h = two-added old one three x (y ++ z) e (two-added one two three y z f h)

pub line-of-two : (old one two three x y : List ℕ) → one ≡ old ++ x → two ≡ one ++ y → three ≡ two ++ crlf → three ≡ old ++ line (x ++ y)
unfolding line
line-of-two old one two three x y e f h = two-added old two three (x ++ y) crlf (two-added old one two x y e f) h

pub line-of-three : (old one two three four x y z : List ℕ) → one ≡ old ++ x → two ≡ one ++ y → three ≡ two ++ z → four ≡ three ++ crlf
    → four ≡ old ++ line (x ++ (y ++ z))
unfolding line
line-of-three old one two three four x y z e f h k = two-added old three four (x ++ (y ++ z)) crlf (three-added old one two three x y z e f h) k

pub line-of-four : (old one two three four five w x y z : List ℕ) → one ≡ old ++ w → two ≡ one ++ x → three ≡ two ++ y → four ≡ three ++ z → five ≡ four ++ crlf
    → five ≡ old ++ line (w ++ (x ++ (y ++ z)))
unfolding line
line-of-four old one two three four five w x y z d e f h k =
    two-added old four five (w ++ (x ++ (y ++ z))) crlf (two-added old one four w (x ++ (y ++ z)) d (three-added one two three four x y z e f h)) k
