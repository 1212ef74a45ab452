-- Documents one by one: the refusal of the next one, or on to those behind it.
use Rattle.std.proofs.Common.{◌≡◌, ◌∙◌, ap, sym, subst, ℕ, ◌+◌, ◌<◌, suc, List, ◌∷◌, length, get_or, drop, drop-cons, arith, None}
use Rattle.yaml_block.specs.declared.node.Node.{Node}
use Rattle.address_routing.specs.declared.module.Module.{Module}
use Rattle.module_yaml.specs.declared.fault.ModuleFault.{ModuleFault}
use Rattle.module_yaml.specs.Mappings.{◌orElse◌}
use Rattle.module_yaml.specs.Files.{IsToldOf, document_refusal, first_refused, first_target, in_document, part_at, unserved, with_part, with_documents}
use Rattle.module_yaml.proofs.Telling.{first_told_of}

-- what stands at a place and behind it
pub at-place : (nodes : List Node) (i : ℕ) (node : Node) → i < length nodes → node ≡ get_or nodes i node → drop i nodes ≡ node ∷ drop (i + 1) nodes
at-place nodes i node inside here =
    let next : suc i ≡ i + 1 = omega arith in
    drop-cons nodes i node inside ∙ ap (λ (n : Node). n ∷ drop (suc i) nodes) (sym here) ∙ ap (λ (k : ℕ). node ∷ drop k nodes) next

-- ---- documents

pub refusal-behind : (number : ℕ) (m : Module) (nodes : List Node) (i : ℕ) (node : Node) → i < length nodes → node ≡ get_or nodes i node → document_refusal m node ≡ None →
    first_refused number m (drop i nodes) ≡ first_refused (number + 1) (with_part m (part_at node)) (drop (i + 1) nodes)
refusal-behind number m nodes i node inside here none =
    ap (first_refused number m) (at-place nodes i node inside here)
    ∙ ap (λ o. in_document number o orElse first_refused (number + 1) (with_part m (part_at node)) (drop (i + 1) nodes)) none

pub module-behind : (m : Module) (nodes : List Node) (i : ℕ) (node : Node) → i < length nodes → node ≡ get_or nodes i node →
    with_documents m (drop i nodes) ≡ with_documents (with_part m (part_at node)) (drop (i + 1) nodes)
module-behind m nodes i node inside here = ap (with_documents m) (at-place nodes i node inside here)

pub refusal-here : (number : ℕ) (m : Module) (nodes : List Node) (i : ℕ) (node : Node) (f : ModuleFault) → i < length nodes → node ≡ get_or nodes i node →
    IsToldOf (in_document number (document_refusal m node)) f → IsToldOf (first_refused number m (drop i nodes)) f
refusal-here number m nodes i node f inside here told =
    subst (λ (ns : List Node). IsToldOf (first_refused number m ns) f) (sym (at-place nodes i node inside here))
    (first_told_of (in_document number (document_refusal m node)) (first_refused (number + 1) (with_part m (part_at node)) (drop (i + 1) nodes)) f told)

-- ---- targets

pub target-behind : (number : ℕ) (m : Module) (nodes : List Node) (i : ℕ) (node : Node) → i < length nodes → node ≡ get_or nodes i node → unserved m node ≡ None →
    first_target number m (drop i nodes) ≡ first_target (number + 1) m (drop (i + 1) nodes)
target-behind number m nodes i node inside here none =
    ap (first_target number m) (at-place nodes i node inside here)
    ∙ ap (λ o. in_document number o orElse first_target (number + 1) m (drop (i + 1) nodes)) none

pub target-here : (number : ℕ) (m : Module) (nodes : List Node) (i : ℕ) (node : Node) (f : ModuleFault) → i < length nodes → node ≡ get_or nodes i node →
    IsToldOf (in_document number (unserved m node)) f → IsToldOf (first_target number m (drop i nodes)) f
target-here number m nodes i node f inside here told =
    subst (λ (ns : List Node). IsToldOf (first_target number m ns) f) (sym (at-place nodes i node inside here))
    (first_told_of (in_document number (unserved m node)) (first_target (number + 1) m (drop (i + 1) nodes)) f told)
