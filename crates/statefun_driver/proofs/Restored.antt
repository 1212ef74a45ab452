-- Work of letters that were put in their order is one from which turns may begin.
use Rattle.std.proofs.Common.{◌≡◌, refl, subst, ℕ, ◌≤◌, List, [], ◌∷◌, ◌++◌, Bool, true, false, cond}
use Rattle.std.specs.List.{AllByRecursion}
use Rattle.typed_values.specs.declared.address.Address.{Address}
use Rattle.typed_values.specs.declared.letter.Letter.{Letter}
use Rattle.typed_values.specs.declared.cells.Cell.{Cell}
use Rattle.typed_values.specs.declared.record.Delay.{Delay}
use Rattle.typed_values.specs.Sameness.{same_address}
use Rattle.typed_values.proofs.Sameness.{same_address-Decides}
use Rattle.batch_queue.specs.Post.{Post, no_post, put}
use Rattle.partition_core.specs.Work.{put_all}
use Rattle.statefun_driver.specs.Origins.{AreStamped, AreLined, IsStill}
use Rattle.statefun_driver.proofs.Lined.{line_put_all}
use Rattle.statefun_driver.proofs.Emptied.{put_lined, put_flies}

abbrev ArePostedRight : Post → Type 0
ArePostedRight post = (address : Address) → AllByRecursion (λ (letter : Letter). letter.target ≡ address) (post.letters address)

all_push : (P : Letter → Type 0) (letters : List Letter) (letter : Letter) → AllByRecursion P letters → P letter → AllByRecursion P (letters ++ letter ∷ [])
all_push P [] letter h k = (k, tt)
all_push P (other ∷ letters) letter h k = (h.0, all_push P letters letter h.1 k)

right_put : (letter : Letter) (post : Post) → ArePostedRight post → ArePostedRight (put letter post)
right_put letter post h address = by (same_address letter.target address) refl
  where
    by : (t : Bool) → same_address letter.target address ≡ t → AllByRecursion (λ (x : Letter). x.target ≡ address) (cond t (post.letters letter.target ++ letter ∷ []) (post.letters address))
    by true e =
        let same = (same_address-Decides letter.target address).0 e in
        all_push (λ (x : Letter). x.target ≡ address) (post.letters letter.target) letter (subst (λ (a : Address). AllByRecursion (λ (x : Letter). x.target ≡ a) (post.letters letter.target)) same (h letter.target)) same
    by false e = h address

right_put_all : (letters : List Letter) (post : Post) → ArePostedRight post → ArePostedRight (put_all letters post)
right_put_all [] post h = h
right_put_all (letter ∷ letters) post h = right_put_all letters (put letter post) (right_put letter post h)

none_lined : AreLined no_post
none_lined address e = absurd (let k : false ≡ true = e in cc)

-- whatever cells and delays it has, of no later moment
pub still_restored : (letters : List Letter) (cells : Address → List Cell) (seen : Address → ℕ) (delays : List Delay) (moment : ℕ)
    → ((address : Address) → seen address ≤ moment) → ((address : Address) → AreStamped moment (cells address))
    → IsStill (record { post = put_all letters no_post; cells = cells; seen = seen; delays = delays }) moment
still_restored letters cells seen delays moment early stamped = record {
  held = record { owned = right_put_all letters no_post (λ address. tt); seen = early; stamps = stamped; line = line_put_all letters no_post tt };
  lined = put_lined letters no_post none_lined;
  none = put_flies letters no_post (λ address. refl);
}
