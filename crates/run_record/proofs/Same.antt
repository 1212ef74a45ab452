-- Whether parts, and whether machines, stand at the same.
use Rattle.std.proofs.Common.{◌≡◌, ◌∙◌, sym, ap, ℕ, ◌+◌, true≢false, List, [], ◌∷◌, ◌++◌, Bool, false, take, get_or, slice_get, Some}
use Rattle.std.specs.Prelude.{◌↔◌, IsTrue}
use Rattle.std.specs.BTreeMap.{IsOrdered}
use Rattle.std.proofs.lemmas.List.{take_more}
use Rattle.std.proofs.lemmas.Option.{slice_get_within, get_or_from_slice_get}
use mathlib.Core.Path.{fun_ext}
use Rattle.typed_values.specs.declared.address.Address.{Address}
use Rattle.typed_values.specs.declared.letter.Sender.{Sender}
use Rattle.typed_values.specs.declared.letter.Sender.TheVariants.{Split, Function}
use Rattle.typed_values.proofs.Orders.{exact_addresses}
use Rattle.keyed_queues.specs.Keys.{address_order, sender_order}
use Rattle.keyed_queues.specs.Queues.{AreReadIn, list_in}
use Rattle.keyed_queues.proofs.Alike.{read_in, by_both}
use Rattle.run_record.specs.declared.machine.Machine.{Machine}
use Rattle.run_record.specs.declared.parts.Parts.{Parts}
use Rattle.run_record.specs.StateOf.{own_in, own_by, state_of}
use Rattle.run_record.specs.Filled.{own_read}
use Rattle.run_record.proofs.Kept.{addresses_total}

-- one more of two lists is the same
pub one_more : {X : Type 0} (xs ys : List X) (n : ℕ) (x y : X) → slice_get xs n ≡ Some x → slice_get ys n ≡ Some y → take n xs ≡ take n ys → x ≡ y → take (n + 1) xs ≡ take (n + 1) ys
one_more xs ys n x y first second same this =
    take_more xs n x (slice_get_within xs n x first)
    ∙ (λ i. same i ++ (get_or_from_slice_get xs n x x first ∙ this ∙ sym (get_or_from_slice_get ys n y x second)) i ∷ [])
    ∙ sym (take_more ys n x (slice_get_within ys n y second))

-- a test that fails tells what is not so
pub fails : {P Q : Type 0} (t : Bool) → t ≡ false → (IsTrue t ↔ P) → (Q → P) → IsTrue false ↔ Q
fails t e told from = (λ h. absurd (true≢false (sym h)), λ q. absurd (true≢false (sym (told.1 (from q)) ∙ e)))

-- ---- parts

abbrev pub AreAlike : Parts → Parts → Type 0
AreAlike a b = (address : Address) → own_in a address ≡ own_in b address

pub read_all : (a b : Parts) → IsOrdered address_order a.parts → AreAlike a b → AreReadIn address_order own_read b.parts a.parts.entries
read_all a b ordered same = read_in addresses_total exact_addresses own_read a.parts b.parts ordered same

pub alike_both : (a b : Parts) → IsOrdered address_order a.parts → IsOrdered address_order b.parts → AreReadIn address_order own_read b.parts a.parts.entries → (t : Bool) → (IsTrue t ↔ AreReadIn address_order own_read a.parts b.parts.entries) → IsTrue t ↔ AreAlike a b
alike_both a b first second there t told = (
  λ e. by_both addresses_total exact_addresses own_read a.parts b.parts first second there (told.0 e),
  λ same. told.1 (read_all b a second (λ address. sym (same address))),
)

-- ---- machines

abbrev pub Matches : Machine → Machine → Type 0
Matches a b = ((state_of a).own ≡ (state_of b).own) × ((state_of a).mail ≡ (state_of b).mail)

abbrev pub SameCounts : List ℕ → List ℕ → Type 0
SameCounts xs ys = (split : ℕ) → get_or xs split 0 ≡ get_or ys split 0

abbrev pub SameMail : Machine → Machine → Type 0
SameMail a b = (target : Address) (sender : Sender) → list_in address_order sender_order a.mail.shelves target sender ≡ list_in address_order sender_order b.mail.shelves target sender

counts_from : (a b : Machine) → Matches a b → SameCounts a.taken.items b.taken.items
unfolding state_of
counts_from a b same split = ap (λ f. (f (Split split)).taken) same.0

mail_from : (a b : Machine) → Matches a b → SameMail a b
unfolding state_of
mail_from a b same target sender = ap (λ f. f sender target) same.1

parts_from : (a b : Machine) → Matches a b → AreAlike a.parts b.parts
unfolding state_of
parts_from a b same address = ap (λ f. f (Function address)) same.0

pub counts_fail : (a b : Machine) (xs ys : List ℕ) → xs ≡ a.taken.items → ys ≡ b.taken.items → (t : Bool) → t ≡ false → (IsTrue t ↔ SameCounts xs ys) → IsTrue false ↔ Matches a b
counts_fail a b xs ys first second t e told = fails t e told (λ same split. ap (λ zs. get_or zs split 0) first ∙ counts_from a b same split ∙ sym (ap (λ zs. get_or zs split 0) second))

pub mail_fails : (a b : Machine) → (t : Bool) → t ≡ false → (IsTrue t ↔ SameMail a b) → IsTrue false ↔ Matches a b
mail_fails a b t e told = fails t e told (mail_from a b)

own_same : (a b : Machine) → SameCounts a.taken.items b.taken.items → AreAlike a.parts b.parts → (actor : Sender) → own_by a.taken.items a.parts actor ≡ own_by b.taken.items b.parts actor
own_same a b counts parts (Split split) = λ i. record { taken = counts split i; cells = []; seen = 0; delays = [] }
own_same a b counts parts (Function address) = parts address

pub matches_by : (a b : Machine) (xs ys : List ℕ) → xs ≡ a.taken.items → ys ≡ b.taken.items → SameCounts xs ys → SameMail a b → (t : Bool) → (IsTrue t ↔ AreAlike a.parts b.parts) → IsTrue t ↔ Matches a b
unfolding state_of
matches_by a b xs ys first second counts mail t told = (
  λ e. (
    fun_ext (own_same a b (λ split. sym (ap (λ zs. get_or zs split 0) first) ∙ counts split ∙ ap (λ zs. get_or zs split 0) second) (told.0 e)),
    fun_ext (λ sender. fun_ext (λ target. mail target sender)),
  ),
  λ same. told.1 (parts_from a b same),
)
