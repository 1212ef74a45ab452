-- Bytes that are read stand behind those held.
use Rattle.std.proofs.Common.{◌≡◌, ℕ, ◌≤◌, List, ◌++◌, length, take, drop, Option, sym, ap, ◌∙◌, take-append-drop}
use Rattle.std.proofs.lemmas.List.{drop-append-le}
use Rattle.sf_outside.specs.Left.{ahead, ahead-ahead}

pub filled : (taken : ℕ) (bytes now held : List ℕ) (left next : Option (List ℕ)) → drop taken bytes ≡ held → taken ≤ length bytes → take (length bytes) now ≡ bytes
    → left ≡ ahead (drop (length bytes) now) next → ahead (drop taken now) next ≡ ahead held left
filled taken bytes now held left next same within kept read =
    let piece = drop (length bytes) now in
    let grown : now ≡ bytes ++ piece = sym (take-append-drop (length bytes) now) ∙ ap (λ (bs : List ℕ). bs ++ piece) kept in
    ap (λ bs. ahead (drop taken bs) next) grown
    ∙ ap (λ (bs : List ℕ). ahead bs next) (drop-append-le taken bytes piece within ∙ ap (λ (bs : List ℕ). bs ++ piece) same)
    ∙ sym (ahead-ahead held piece next) ∙ ap (λ (o : Option (List ℕ)). ahead held o) (sym read)
