-- What `==` answers on typed values, cells and delayed letters decides equality.
use Rattle.std.specs.Prelude.{◌≡◌, nat_eq, Bool, ◌&&◌, Option, Some, None}
use Rattle.std.specs.Bool.{Decides}
use Rattle.std.specs.Option.{option_eq}
use Rattle.std.specs.Cmp.Lexicographic.{pointwise, bytes_decides}
use Rattle.std.specs.Cmp.{first_so, second_so, booleans_Decides, unsigned_Decides}
use Rattle.std.proofs.Common.{ap, refl}
use Rattle.typed_values.specs.declared.cells.Cell.{Cell}
use Rattle.typed_values.specs.declared.cell.CellSpec.{CellSpec}
use Rattle.typed_values.specs.declared.cell.Expiry.{Expiry}
use Rattle.typed_values.specs.declared.cell.Expiry.TheVariants.{Never, AfterWrite, AfterInvoke}
use Rattle.typed_values.specs.declared.record.Delay.{Delay}
use Rattle.typed_values.specs.declared.value.TypedValue.{TypedValue}
use Rattle.typed_values.specs.Sameness.{same_address}
use Rattle.typed_values.proofs.Sameness.{same_address-Decides}
use Rattle.typed_values.specs.contracts.cell.ExpiryPartialEq.TheImpl as modes
use Rattle.typed_values.specs.contracts.cell.CellSpecPartialEq.TheImpl as specs_of
use Rattle.typed_values.specs.contracts.cells.CellPartialEq.TheImpl as cells
use Rattle.typed_values.specs.contracts.record.DelayPartialEq.TheImpl as delays
use Rattle.typed_values.specs.contracts.value.TypedValuePartialEq.TheImpl as typed

-- ---- tests, one after the other

both : {P Q : Type 0} (x y : Bool) → Decides x P → Decides y Q → Decides (x && y) (P × Q)
both x y first second = (
  λ e. (first.0 (first_so x y e), second.0 (second_so x y e)),
  λ h i. first.1 h.0 i && second.1 h.1 i,
)

such : {P Q : Type 0} (x : Bool) → Decides x P → (P → Q) → (Q → P) → Decides x Q
such x told there back = (λ e. there (told.0 e), λ q. told.1 (back q))

options_Decides : {A : Type 0} (eq : A → A → Bool) → ((a b : A) → Decides (eq a b) (a ≡ b)) → (a b : Option A) → Decides (option_eq eq a b) (a ≡ b)
options_Decides eq told None None = (λ e. refl, λ e. refl)
options_Decides eq told None (Some b) = (λ e. absurd cc, λ e. absurd cc)
options_Decides eq told (Some a) None = (λ e. absurd cc, λ e. absurd cc)
options_Decides eq told (Some a) (Some b) = such (eq a b) (told a b) (ap Some) (λ e. cc)

-- ---- typed values

abbrev pub same_value : TypedValue → TypedValue → Bool
same_value = (typed.ghosts).eq

pub values_Decides : (a b : TypedValue) → Decides (same_value a b) (a ≡ b)
values_Decides a b =
    such (same_value a b)
    (both (pointwise nat_eq a.typename b.typename) _ (bytes_decides a.typename b.typename)
    (both _ (pointwise nat_eq a.value b.value) (booleans_Decides a.has_value b.has_value) (bytes_decides a.value b.value)))
    (λ h i. record { typename = h.0 i; has_value = h.1.0 i; value = h.1.1 i })
    (λ e. (ap (λ (v : TypedValue). v.typename) e, (ap (λ (v : TypedValue). v.has_value) e, ap (λ (v : TypedValue). v.value) e)))

-- ---- cells

modes_Decides : (a b : Expiry) → Decides ((modes.ghosts).eq a b) (a ≡ b)
modes_Decides Never Never = (λ e. refl, λ e. refl)
modes_Decides Never AfterWrite = (λ e. absurd cc, λ e. absurd cc)
modes_Decides Never AfterInvoke = (λ e. absurd cc, λ e. absurd cc)
modes_Decides AfterWrite Never = (λ e. absurd cc, λ e. absurd cc)
modes_Decides AfterWrite AfterWrite = (λ e. refl, λ e. refl)
modes_Decides AfterWrite AfterInvoke = (λ e. absurd cc, λ e. absurd cc)
modes_Decides AfterInvoke Never = (λ e. absurd cc, λ e. absurd cc)
modes_Decides AfterInvoke AfterWrite = (λ e. absurd cc, λ e. absurd cc)
modes_Decides AfterInvoke AfterInvoke = (λ e. refl, λ e. refl)

abbrev same_spec : CellSpec → CellSpec → Bool
same_spec = (specs_of.ghosts).eq

specs_Decides : (a b : CellSpec) → Decides (same_spec a b) (a ≡ b)
specs_Decides a b =
    such (same_spec a b)
    (both (pointwise nat_eq a.name b.name) _ (bytes_decides a.name b.name)
    (both (pointwise nat_eq a.typename b.typename) _ (bytes_decides a.typename b.typename)
    (both ((modes.ghosts).eq a.mode b.mode) (nat_eq a.millis b.millis) (modes_Decides a.mode b.mode) (unsigned_Decides a.millis b.millis))))
    (λ h i. record { name = h.0 i; typename = h.1.0 i; mode = h.1.1.0 i; millis = h.1.1.1 i })
    (λ e. (ap (λ (s : CellSpec). s.name) e, (ap (λ (s : CellSpec). s.typename) e, (ap (λ (s : CellSpec). s.mode) e, ap (λ (s : CellSpec). s.millis) e))))

abbrev pub same_cell : Cell → Cell → Bool
same_cell = (cells.ghosts).eq

pub cells_Decides : (a b : Cell) → Decides (same_cell a b) (a ≡ b)
cells_Decides a b =
    such (same_cell a b)
    (both (same_spec a.spec b.spec) _ (specs_Decides a.spec b.spec)
    (both (option_eq same_value a.value b.value) (nat_eq a.stamp b.stamp) (options_Decides same_value values_Decides a.value b.value) (unsigned_Decides a.stamp b.stamp)))
    (λ h i. record { spec = h.0 i; value = h.1.0 i; stamp = h.1.1 i })
    (λ e. (ap (λ (c : Cell). c.spec) e, (ap (λ (c : Cell). c.value) e, ap (λ (c : Cell). c.stamp) e)))

-- ---- delayed letters

abbrev pub same_delay : Delay → Delay → Bool
same_delay = (delays.ghosts).eq

pub delays_Decides : (a b : Delay) → Decides (same_delay a b) (a ≡ b)
unfolding same_address
delays_Decides a b =
    such (same_delay a b)
    (both (same_address a.sender b.sender) _ (same_address-Decides a.sender b.sender)
    (both (nat_eq a.due b.due) _ (unsigned_Decides a.due b.due)
    (both (same_address a.target b.target) _ (same_address-Decides a.target b.target)
    (both (pointwise nat_eq a.token b.token) (same_value a.argument b.argument) (bytes_decides a.token b.token) (values_Decides a.argument b.argument)))))
    (λ h i. record { sender = h.0 i; due = h.1.0 i; target = h.1.1.0 i; token = h.1.1.1.0 i; argument = h.1.1.1.1 i })
    (λ e. (ap (λ (d : Delay). d.sender) e, (ap (λ (d : Delay). d.due) e, (ap (λ (d : Delay). d.target) e, (ap (λ (d : Delay). d.token) e, ap (λ (d : Delay). d.argument) e)))))
