-- A sum that is cut off at the top.
use Rattle.std.proofs.Common.{◌≡◌, ℕ, List, map, ap, ◌∙◌}
use Rattle.std.specs.Prelude.{sum}
use Rattle.proto_wire.specs.Message.{capped}
use Rattle.folder_form.specs.Shapes.{splits_in, splits_of_line, lines_of}

pub splits-ends : (text : List ℕ) (lines : List (List ℕ)) (splits : ℕ) → splits ≡ capped (sum (map splits_of_line lines)) → lines ≡ lines_of text → splits ≡ splits_in text
unfolding splits_in
splits-ends text lines splits e l = e ∙ ap (λ ls. capped (sum (map splits_of_line ls))) l
