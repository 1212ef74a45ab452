-- The first of two refusals is told.
use Rattle.std.proofs.Common.{◌≡◌, ◌∙◌, ap, sym, subst, refl, Bool, true, cond, List, ◌∷◌, Option, Some, None}
use Rattle.std.specs.Prelude.{Result, Ok, Err, IfOk, IfErr}
use Rattle.typed_values.specs.declared.name.TypeName.{TypeName}
use Rattle.yaml_block.specs.declared.node.Node.{Node}
use Rattle.module_yaml.specs.declared.fault.Refusal.{Refusal}
use Rattle.module_yaml.specs.declared.fault.Fault.{Fault}
use Rattle.module_yaml.specs.declared.fault.Fault.TheVariants as fault
use Rattle.module_yaml.specs.declared.fault.ModuleFault.{ModuleFault}
use Rattle.module_yaml.specs.declared.fault.ModuleFault.TheVariants as faults
use Rattle.module_yaml.specs.Mappings.{◌orElse◌}
use Rattle.module_yaml.specs.Values.{target_of, targets_of, and_target}
use Rattle.module_yaml.specs.Files.{Refused, IsToldOf}
use Rattle.module_yaml.specs.Told.{IsTold, Reads}
use Rattle.module_yaml.proofs.Targets.{behind}

pub first_told : (a b : Option Refusal) (f : Fault) → IsTold a f → IsTold (a orElse b) f
first_told a b (fault.Refused told) e = ap (λ o. o orElse b) e
first_told a b fault.OutOfMemory e = tt

pub then_told : (a b : Option Refusal) (f : Fault) → a ≡ None → IsTold b f → IsTold (a orElse b) f
then_told a b (fault.Refused told) none e = ap (λ o. o orElse b) none ∙ e
then_told a b fault.OutOfMemory none e = tt

pub neither : (a b : Option Refusal) → a ≡ None → b ≡ None → (a orElse b) ≡ None
neither a b none e = ap (λ o. o orElse b) none ∙ e

-- what is told of what comes behind, where nothing comes before it
pub told_behind : {A : Type 0} (r : Result A Fault) (a b : Option Refusal) → a ≡ None → IfErr r (IsTold b) → IfErr r (IsTold (a orElse b))
told_behind (Ok x) a b none e = tt
told_behind (Err f) a b none e = then_told a b f none e

pub whatever_ok : {A E P : Type 0} (r : Result A E) → P → IfOk r (λ x. P)
whatever_ok (Ok x) p = p
whatever_ok (Err e) p = tt

-- what is refused where a test holds
pub test_told : {A : Type 0} (test : Bool) (refusal : Refusal) (r : Result A Fault) → IfErr r (λ f. (test ≡ true) × (f ≡ fault.Refused refusal)) → IfErr r (IsTold (cond test (Some refusal) None))
test_told test refusal (Ok x) e = tt
test_told test refusal (Err f) e =
    subst (λ (b : Bool). IsTold (cond b (Some refusal) None) f) (sym e.0) (subst (λ (g : Fault). IsTold (Some refusal) g) (sym e.1) refl)

pub first_told_of : (a b : Option Refused) (f : ModuleFault) → IsToldOf a f → IsToldOf (a orElse b) f
first_told_of a b (faults.Refused document line kind) e = ap (λ o. o orElse b) e
first_told_of a b faults.OutOfMemory e = tt

pub then_told_of : (a b : Option Refused) (f : ModuleFault) → a ≡ None → IsToldOf b f → IsToldOf (a orElse b) f
then_told_of a b (faults.Refused document line kind) none e = ap (λ o. o orElse b) none ∙ e
then_told_of a b faults.OutOfMemory none e = tt

-- a target that is refused, behind names that were read
pub target_told : (items rest : List Node) (names : List TypeName) (item : Node) (f : Fault) → targets_of items ≡ behind names (targets_of (item ∷ rest)) → Reads (target_of item) (Err f) → Reads (targets_of items) (Err f)
target_told items rest names item (fault.Refused told) e h = e ∙ ap (λ r. behind names (and_target r (targets_of rest))) h
target_told items rest names item fault.OutOfMemory e h = tt
