use Rattle.std.proofs.Common.{◌≡◌, sym, subst, List, false}
use Rattle.std.proofs.lemmas.Result.{err_from_is_err_and}
use Rattle.yaml_block.specs.declared.node.Pair.{Pair}
use Rattle.module_yaml.specs.Mappings.{bad_value, lacks_key, mapping_refusal, pairs_under, wrong_keys}
use Rattle.module_yaml.specs.Keys.{document_keys, keys_of, spec_keys}
use Rattle.module_yaml.specs.Files.{kind_at, spec_at, spec_pairs}
use Rattle.module_yaml.proofs.Reading.{none_missing, spec_stands}
use Rattle.module_yaml.proofs.Telling.{first_told, then_told, neither, told_behind, whatever_ok}
use Rattle.module_yaml.proofs.documents.part_at.Goals as goal

pub returns-in_err-check_keys-clause-refused : goal.returns-in_err-check_keys-clause-refused
unfolding keys_of
returns-in_err-check_keys-clause-refused c =
    let node = c.args.node.now in
    let p = err_from_is_err_and c.from_residual.result c.from_residual.ensures.1 in
    rw (p.1, p.2)
    (first_told (mapping_refusal document_keys node) (mapping_refusal (spec_keys (kind_at node)) (spec_at node)) c.in_err-check_keys.field-0.0
    (first_told (wrong_keys document_keys node) (bad_value document_keys (pairs_under node)) c.in_err-check_keys.field-0.0 c.in_err-check_keys.ensures.refused))

pub returns-in_err-check_kind-clause-refused : goal.returns-in_err-check_kind-clause-refused
unfolding keys_of
returns-in_err-check_kind-clause-refused c =
    let node = c.args.node.now in
    let p = err_from_is_err_and c.from_residual-in_err-check_kind.result c.from_residual-in_err-check_kind.ensures.1 in
    rw (p.1, p.2)
    (first_told (mapping_refusal document_keys node) (mapping_refusal (spec_keys (kind_at node)) (spec_at node)) c.in_err-check_kind.field-0.0
    (then_told (wrong_keys document_keys node) (bad_value document_keys (pairs_under node)) c.in_err-check_kind.field-0.0 c.in_ok-check_keys.ensures.ok c.in_err-check_kind.ensures.refused))

pub check_spec-requires : goal.check_spec-requires
unfolding keys_of
check_spec-requires c = spec_stands (pairs_under c.args.node.now) (none_missing document_keys c.args.node.now c.in_ok-check_keys.ensures.ok)

pub returns-in_err-check_spec-clause-refused : goal.returns-in_err-check_spec-clause-refused
unfolding keys_of
returns-in_err-check_spec-clause-refused c =
    let node = c.args.node.now in
    let p = err_from_is_err_and c.from_residual-in_err-check_spec.result c.from_residual-in_err-check_spec.ensures.1 in
    let none = neither (wrong_keys document_keys node) (bad_value document_keys (pairs_under node)) c.in_ok-check_keys.ensures.ok c.in_ok-check_kind.ensures.ok in
    rw (p.1, p.2, ← c.kind_at-kind.ensures)
    (then_told (mapping_refusal document_keys node) (mapping_refusal (spec_keys c.kind_at-kind.result) (spec_at node)) c.in_err-check_spec.field-0.0 none
    (first_told (wrong_keys (spec_keys c.kind_at-kind.result) (spec_at node)) (bad_value (spec_keys c.kind_at-kind.result) (spec_pairs node)) c.in_err-check_spec.field-0.0 c.in_err-check_spec.ensures.refused))

pub part_of-requires : goal.part_of-requires
part_of-requires c =
    let e = none_missing (spec_keys c.kind_at-kind.result) (spec_at c.args.node.now) c.in_ok-check_spec.ensures.ok in
    subst (λ (pairs : List Pair). lacks_key (spec_keys c.kind_at-kind.result) pairs ≡ false) (sym c.spec_pairs.ensures) e

pub returns-clause-document : goal.returns-clause-document
unfolding keys_of
returns-clause-document c =
    let node = c.args.node.now in
    whatever_ok c.part_of.result (neither (wrong_keys document_keys node) (bad_value document_keys (pairs_under node)) c.in_ok-check_keys.ensures.ok c.in_ok-check_kind.ensures.ok)

pub returns-clause-refused : goal.returns-clause-refused
unfolding keys_of
returns-clause-refused c =
    let node = c.args.node.now in
    let keys = spec_keys c.kind_at-kind.result in
    let none = neither (wrong_keys document_keys node) (bad_value document_keys (pairs_under node)) c.in_ok-check_keys.ensures.ok c.in_ok-check_kind.ensures.ok in
    rw (← c.kind_at-kind.ensures)
    (told_behind c.part_of.result (mapping_refusal document_keys node) (mapping_refusal keys (spec_at node)) none
    (told_behind c.part_of.result (wrong_keys keys (spec_at node)) (bad_value keys (spec_pairs node)) c.in_ok-check_spec.ensures.ok (rw c.spec_pairs.ensures at c.part_of.ensures.refused)))
