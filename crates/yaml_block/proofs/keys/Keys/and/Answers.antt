use Rattle.std.proofs.Common.{◌≡◌, ℕ, List, [], ◌∷◌, ◌++◌, Bool, true, false, ◌||◌, cond, refl, sym, ap, ◌∙◌}
use Rattle.std.specs.List.{list_any}
use Rattle.std.specs.Str.{bytes_eq}
use Rattle.std.specs.String.{string_bytes}
use Rattle.std.specs.BTreeSet.{contains_text}
use Rattle.std.proofs.lemmas.Bool.Decides.{same_from_decides}
use Rattle.std.proofs.lemmas.Slice.Eq.{bytes_eq-Decides}
use Rattle.std.proofs.lemmas.List.Folds.{list_any-append}
use Rattle.std.proofs.lemmas.Map.Text.{btree_set_updates_text}
use Rattle.yaml_block.proofs.keys.Keys.and.Goals as goal

either_side : (a b : List ℕ) → bytes_eq a b ≡ bytes_eq b a
either_side a b = same_from_decides (bytes_eq a b) (bytes_eq b a) (bytes_eq-Decides a b) ((λ e. sym ((bytes_eq-Decides b a).0 e)), (λ e. (bytes_eq-Decides b a).1 (sym e)))

put_last : (b rest : Bool) → cond b true rest ≡ (rest || (b || false))
put_last true true = refl
put_last true false = refl
put_last false true = refl
put_last false false = refl

-- A key is known if it is the new one, or was known before.
pub invariant_of-result : goal.invariant_of-result
invariant_of-result c = λ key.
    let new = c.args.key.now in
    let old = c.self.inside.in_order in
    let stored : string_bytes c.in_ok-from_str.field-0 ≡ new = c.in_ok-from_str.ensures.ok ∙ c.as_str.ensures in
    let listed : c.push.new.self ≡ old ++ new ∷ [] = c.in_ok-push.ensures.ok ∙ ap (λ (k : List ℕ). old ++ k ∷ []) c.in_ok-try_clone.ensures in
    btree_set_updates_text (string_bytes c.in_ok-from_str.field-0) c.self.inside.known c.insert.new.self true c.in_ok-insert.ensures.updates key
    ∙ ap (λ (k : List ℕ). cond (bytes_eq k key) true (contains_text c.self.inside.known key)) stored
    ∙ ap (λ (v : Bool). cond (bytes_eq new key) true v) (c.self.invariant key)
    ∙ ap (λ (v : Bool). cond v true (list_any (bytes_eq key) old)) (either_side new key)
    ∙ put_last (bytes_eq key new) (list_any (bytes_eq key) old)
    ∙ sym (list_any-append (bytes_eq key) old (new ∷ []))
    ∙ sym (ap (list_any (bytes_eq key)) listed)
