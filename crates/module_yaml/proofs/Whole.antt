-- A whole file, from what its trees come to.
use Rattle.std.proofs.Common.{◌≡◌, ◌∙◌, ap, sym, ℕ, List, None}
use Rattle.std.specs.Prelude.{Result, Ok, Err, IfOk, IfErr}
use Rattle.address_routing.specs.declared.module.Module.{Module}
use Rattle.yaml_block.specs.declared.node.Node.{Node}
use Rattle.yaml_block.specs.Documents as texts
use Rattle.module_yaml.specs.declared.fault.ModuleFault.{ModuleFault}
use Rattle.module_yaml.specs.declared.fault.ModuleFault.TheVariants as fault
use Rattle.module_yaml.specs.Files.{IsToldBy, IsToldOf, no_module, with_documents, refusal_of, module_by, module_of, module_in}

pub file_module : (bytes : List ℕ) (nodes : List Node) (r : Result Module ModuleFault) → texts.read bytes ≡ Ok nodes → IfOk r (λ job. refusal_of nodes ≡ None) → IfOk r (λ job. job ≡ with_documents no_module nodes) →
    IfOk r (λ job. module_in bytes ≡ Ok job)
unfolding module_in
file_module bytes nodes (Ok job) read none made = ap module_of read ∙ ap (module_by nodes) none ∙ ap Ok (sym made)
file_module bytes nodes (Err f) read none made = tt

pub file_refused : (bytes : List ℕ) (nodes : List Node) (r : Result Module ModuleFault) → texts.read bytes ≡ Ok nodes → IfErr r (IsToldOf (refusal_of nodes)) → IfErr r (λ f. IsToldBy f (module_in bytes))
unfolding module_in
file_refused bytes nodes (Ok job) read told = tt
file_refused bytes nodes (Err (fault.Refused document line kind)) read told = ap module_of read ∙ ap (module_by nodes) told
file_refused bytes nodes (Err fault.OutOfMemory) read told = tt
