-- What a link with one answer tells.
use Rattle.std.specs.Prelude.{ℕ, List, [], ◌∷◌, Option, Some, None}
use Rattle.sf_outside.specs.declared.call.Call.{Call}
use Rattle.sf_outside.specs.declared.call.Answered.TheVariants.{Answer}
use Rattle.sf_outside.specs.declared.call.Outcome.{Outcome}

-- the first of the calls is answered so
abbrev pub first_answered : List Call → List ℕ → Option Outcome
first_answered [] answer = None
first_answered (call ∷ calls) answer = Some (record { call = call; what = Answer answer })
