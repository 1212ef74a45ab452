-- What a source has left to read, where it tells it.
use Rattle.std.specs.Prelude.{◌≡◌, List, [], ◌++◌, refl, Option, Some, None}
use Rattle.std.proofs.Common.{ap, sym, append_assoc}

-- these, and then what is told to be left; what is not told stays so
abbrev pub ahead : {A : Type 0} → List A → Option (List A) → Option (List A)
ahead xs None = None
ahead xs (Some rest) = Some (xs ++ rest)

pub ahead-nil : {A : Type 0} (left : Option (List A)) → ahead [] left ≡ left
ahead-nil None = refl
ahead-nil (Some rest) = refl

pub ahead-ahead : {A : Type 0} (xs ys : List A) (left : Option (List A)) → ahead xs (ahead ys left) ≡ ahead (xs ++ ys) left
ahead-ahead xs ys None = refl
ahead-ahead xs ys (Some rest) = ap Some (sym (append_assoc xs ys rest))

-- nothing is left, where it is told
abbrev pub AtEnd : {A : Type 0} → Option (List A) → Type 0
AtEnd None = Unit {0}
AtEnd (Some rest) = rest ≡ []
