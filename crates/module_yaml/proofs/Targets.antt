-- Targets that are read one by one.
use Rattle.std.proofs.Common.{◌≡◌, ap, sym, refl, List, [], ◌∷◌, ◌++◌, append_assoc}
use Rattle.std.specs.Prelude.{Result, Ok, Err}
use Rattle.typed_values.specs.declared.name.TypeName.{TypeName}
use Rattle.module_yaml.specs.declared.fault.Refusal.{Refusal}
use Rattle.module_yaml.specs.Values.{and_target}

-- names, and behind them those that are read
abbrev pub behind : List TypeName → Result (List TypeName) Refusal → Result (List TypeName) Refusal
behind names (Ok more) = Ok (names ++ more)
behind names (Err refusal) = Err refusal

-- one more name
pub behind-more : (names : List TypeName) (name : TypeName) (rest : Result (List TypeName) Refusal) → behind names (and_target (Ok name) rest) ≡ behind (names ++ name ∷ []) rest
behind-more names name (Ok more) = ap Ok (sym (append_assoc names (name ∷ []) more))
behind-more names name (Err refusal) = refl
