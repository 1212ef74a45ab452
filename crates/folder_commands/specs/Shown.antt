-- The lines of what was committed to egress.
use Rattle.std.specs.Prelude.{◌≡◌, ℕ, ◌+◌, List, [], ◌∷◌, ◌++◌}
use Rattle.std.specs.List.{flat_map}
use Rattle.std.specs.Fmt.{decimal}
use Rattle.typed_values.specs.declared.record.EgressRecord.{EgressRecord}
use Rattle.run_record.specs.Egress.{egress_line}
use Rattle.sf_disk.specs.Moments.{Moment, WhereTold}
use Rattle.egress_commit.specs.declared.outlet.Outlet.{Outlet}
use Rattle.egress_commit.specs.Epochs.{Epoch}
use Rattle.egress_commit.specs.Outlets.{IsOutlet}

-- `EPOCH SENDER EGRESS TYPENAME HEX`
unfoldable pub show_line : ℕ → EgressRecord → List ℕ
show_line number given = decimal number ++ 32 ∷ egress_line given

-- a line for each record of an epoch
unfoldable pub epoch_text : ℕ → Epoch → List ℕ
epoch_text number epoch = flat_map (show_line number) epoch

-- the lines of epochs, the first of them with that number
abbrev pub text_from : ℕ → List Epoch → List ℕ
text_from number [] = []
text_from number (epoch ∷ epochs) = epoch_text number epoch ++ text_from (number + 1) epochs

unfoldable pub show_text : List Epoch → List ℕ
show_text epochs = text_from 1 epochs

-- the text of what an outlet stands for
abbrev pub IsOutletText : Outlet → List Moment → List ℕ → Type 0
IsOutletText outlet moments text =
    (epochs : List Epoch) × (text ≡ show_text epochs) × WhereTold moments (λ now. (all : List Epoch) → IsOutlet outlet all (now 1) → all ≡ epochs)
