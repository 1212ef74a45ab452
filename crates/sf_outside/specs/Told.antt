-- What an object tells of itself, and when it may say that it failed.
use Rattle.std.specs.Prelude.{◌≡◌, ℕ, ◌+◌, ◌-◌, ◌^◌, ◌≤◌, min, List, [], ◌++◌, refl, Option, Some, None, Result, Ok, Err}
use Rattle.std.proofs.Common.{ap, append_assoc}
use Rattle.std.proofs.lemmas.List.{append-nil}
use Rattle.sf_outside.specs.declared.fault.Fault.{Fault}
use Rattle.sf_outside.specs.declared.fault.Fault.TheVariants.{Failed, OutOfMemory}

-- what is told, and these behind it; what is not told stays so
abbrev pub more : {A : Type 0} → Option (List A) → List A → Option (List A)
more None xs = None
more (Some told) xs = Some (told ++ xs)

pub more-nil : {A : Type 0} (told : Option (List A)) → more told [] ≡ told
more-nil None = refl
more-nil (Some xs) = ap Some (append-nil xs)

pub more-more : {A : Type 0} (told : Option (List A)) (xs ys : List A) → more (more told xs) ys ≡ more told (xs ++ ys)
more-more None xs ys = refl
more-more (Some front) xs ys = ap Some (append_assoc front xs ys)

-- a count of faults rose, or stands at its last value
abbrev pub Rose : ℕ → ℕ → Type 0
Rose before now = min (before + 1) (2 ^ 64 - 1) ≤ now

-- Failed comes only where the count rose; with any other answer it stands
abbrev pub HasCause : {T : Type 0} → ℕ → ℕ → Result T Fault → Type 0
HasCause before now (Err Failed) = (before ≤ now) × Rose before now
HasCause before now (Err OutOfMemory) = now ≡ before
HasCause before now (Ok x) = now ≡ before
