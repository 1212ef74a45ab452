-- The lines of epochs, one more at a time.
use Rattle.std.proofs.Common.{◌≡◌, ℕ, zero, suc, ◌+◌, ◌-◌, ◌<◌, ◌≤◌, List, [], ◌∷◌, ◌++◌, length, take, slice_get, Option, Some, refl, sym, ◌∙◌, ap, arith, append-nil, append_assoc, length-append}
use Rattle.std.proofs.lemmas.Option.{slice_get_within}
use Rattle.std.proofs.lemmas.List.{take_all}
use Rattle.sf_disk.specs.Moments.{Moment, WhereTold}
use Rattle.egress_commit.specs.declared.outlet.Outlet.{Outlet}
use Rattle.egress_commit.specs.Epochs.{Epoch}
use Rattle.egress_commit.specs.Outlets.{IsOutlet, last_epoch}
use Rattle.egress_commit.proofs.Steps.{counted}
use Rattle.folder_commands.specs.Shown.{IsOutletText, epoch_text, show_text, text_from}

-- one epoch more goes behind
pub text_more : (number : ℕ) (epochs : List Epoch) (epoch : Epoch) → text_from number (epochs ++ epoch ∷ []) ≡ text_from number epochs ++ epoch_text (number + length epochs) epoch
text_more number [] epoch = let same : number ≡ number + 0 = omega arith in append-nil (epoch_text number epoch) ∙ ap (λ (n : ℕ). epoch_text n epoch) same
text_more number (first ∷ epochs) epoch =
    let same : number + 1 + length epochs ≡ number + length (first ∷ epochs) = omega arith in
    ap (λ (t : List ℕ). epoch_text number first ++ t) (text_more (number + 1) epochs epoch ∙ ap (λ (n : ℕ). text_from (number + 1) epochs ++ epoch_text n epoch) same)
    ∙ sym (append_assoc (epoch_text number first) (text_from (number + 1) epochs) (epoch_text (number + length (first ∷ epochs)) epoch))

-- a front with the next one behind it
pub front_more : (all : List Epoch) (n : ℕ) (epoch : Epoch) → slice_get all n ≡ Some epoch → take (suc n) all ≡ take n all ++ epoch ∷ []
front_more [] n epoch is = absurd cc
front_more (first ∷ all) zero epoch is = cc
front_more (first ∷ all) (suc n) epoch is = ap (λ (l : List Epoch). first ∷ l) (front_more all n epoch is)

-- ---- how far the epochs of an outlet were read

-- the lines of so many epochs, which are the first of the outlet's
pub record HasLines (moments : List Moment) (outlet : Outlet) (text : List ℕ) (done : ℕ) : Type 0 where
  pub epochs : List Epoch
  pub text_is : text ≡ text_from 1 epochs
  pub count : length epochs ≡ done
  pub told : WhereTold moments (λ now. (all : List Epoch) → IsOutlet outlet all (now 1) → take done all ≡ epochs)

pub lines_more : (moments : List Moment) (outlet : Outlet) (text later : List ℕ) (done : ℕ) (epoch : Epoch) → HasLines moments outlet text done → later ≡ text ++ epoch_text (done + 1) epoch
    → WhereTold moments (λ now. (all : List Epoch) → IsOutlet outlet all (now 1) → slice_get all (done + 1 - 1) ≡ Some epoch) → HasLines moments outlet later (done + 1)
lines_more moments outlet text later done epoch so_far put read =
    let number : done + 1 ≡ 1 + length so_far.epochs = omega (arith, so_far.count) in
    let place : done + 1 - 1 ≡ done = omega arith in
    let next : done + 1 ≡ suc done = omega arith in
    record {
      epochs = so_far.epochs ++ epoch ∷ [];
      text_is = put ∙ (ap (λ (t : List ℕ). t ++ epoch_text (done + 1) epoch) so_far.text_is ∙ (ap (λ (n : ℕ). text_from 1 so_far.epochs ++ epoch_text n epoch) number ∙ sym (text_more 1 so_far.epochs epoch)));
      count = omega (arith, so_far.count, length-append so_far.epochs (epoch ∷ []));
      told = λ m is all outlet_is.
          ap (λ (n : ℕ). take n all) next
          ∙ (front_more all done epoch (ap (slice_get all) (sym place) ∙ read m is all outlet_is) ∙ ap (λ (l : List Epoch). l ++ epoch ∷ []) (so_far.told m is all outlet_is));
    }

pub lines_end : (moments : List Moment) (outlet : Outlet) (text : List ℕ) (done : ℕ) → HasLines moments outlet text done → done ≤ last_epoch outlet → last_epoch outlet ≤ done → IsOutletText outlet moments text
unfolding show_text
lines_end moments outlet text done so_far least most =
    (so_far.epochs, so_far.text_is, λ m is all outlet_is. let count = counted outlet all (m 1) outlet_is in sym (take_all done all (omega (arith, count, most))) ∙ so_far.told m is all outlet_is)
