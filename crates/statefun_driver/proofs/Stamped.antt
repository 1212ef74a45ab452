-- No stamp of a cell is later than the moment.
use Rattle.std.proofs.Common.{ℕ, ◌≤◌, List, [], ◌∷◌, ◌++◌, map, Bool, true, false, cond, Option, Some, None, is_some, arith}
use Rattle.std.specs.List.{AllByRecursion}
use Rattle.typed_values.specs.declared.address.Address.{Address}
use Rattle.typed_values.specs.declared.letter.Sender.{Sender}
use Rattle.typed_values.specs.declared.letter.Sender.TheVariants.{Split, Function}
use Rattle.typed_values.specs.declared.cell.CellSpec.{CellSpec}
use Rattle.typed_values.specs.declared.cell.Expiry.{Expiry}
use Rattle.typed_values.specs.declared.cell.Expiry.TheVariants.{Never, AfterWrite, AfterInvoke}
use Rattle.typed_values.specs.declared.cells.Cell.{Cell}
use Rattle.typed_values.specs.declared.value.TypedValue.{TypedValue}
use Rattle.typed_values.specs.Sameness.{same_address}
use Rattle.typed_values.specs.Cells.{used, empty, emptied, written, invoked, is_expired, is_named, found, changed}
use Rattle.state_cells.specs.Lifetimes.{Call, Registers, Modifies, Deletes, Invokes, after, after_all}
use Rattle.invocation.specs.declared.effects.Change.{Change}
use Rattle.invocation.specs.declared.effects.Change.TheVariants.{Set, Clear}
use Rattle.run_record.specs.Machine.{cell_call}
use Rattle.partition_core.specs.Work.{set_for, cells_of}
use Rattle.statefun_driver.specs.Origins.{AreStamped}

-- a call of no later moment
abbrev pub IsTimely : ℕ → Call → Type 0
IsTimely moment (Registers spec) = Unit {0}
IsTimely moment (Modifies name value at) = at ≤ moment
IsTimely moment (Deletes name) = Unit {0}
IsTimely moment (Invokes at) = at ≤ moment

abbrev pub AreTimely : ℕ → List Call → Type 0
AreTimely moment calls = AllByRecursion (λ (call : Call). IsTimely moment call) calls

stamped_push : (moment : ℕ) (cells : List Cell) (cell : Cell) → AreStamped moment cells → cell.stamp ≤ moment → AreStamped moment (cells ++ cell ∷ [])
stamped_push moment [] cell h k = (k, tt)
stamped_push moment (other ∷ cells) cell h k = (h.0, stamped_push moment cells cell h.1 k)

stamped_changed : (moment : ℕ) (change : Cell → Cell) (name : List ℕ) (cells : List Cell) → ((cell : Cell) → (change cell).stamp ≤ moment) → AreStamped moment cells → AreStamped moment (changed change name cells)
stamped_changed moment change name [] f h = tt
stamped_changed moment change name (cell ∷ cells) f h = by (is_named name cell) (stamped_changed moment change name cells f h.1)
  where
    by : (t : Bool) → AreStamped moment (changed change name cells) → AreStamped moment (cond t (change cell ∷ cells) (cell ∷ changed change name cells))
    by true more = (f cell, h.1)
    by false more = (h.0, more)

used_stamp : (mode : Expiry) (value : Option TypedValue) (stamp at moment : ℕ) → stamp ≤ moment → at ≤ moment → used mode value stamp at ≤ moment
used_stamp Never value stamp at moment h k = h
used_stamp AfterWrite value stamp at moment h k = h
used_stamp AfterInvoke None stamp at moment h k = h
used_stamp AfterInvoke (Some value) stamp at moment h k = k

stamped_invoked : (moment at : ℕ) (cells : List Cell) → at ≤ moment → AreStamped moment cells → AreStamped moment (map (invoked at) cells)
stamped_invoked moment at [] k h = tt
stamped_invoked moment at (cell ∷ cells) k h = (by (is_expired at cell), stamped_invoked moment at cells k h.1)
  where
    by : (t : Bool) → (cond t (emptied cell) (record { spec = cell.spec; value = cell.value; stamp = used cell.spec.mode cell.value cell.stamp at })).stamp ≤ moment
    by true = omega arith
    by false = used_stamp cell.spec.mode cell.value cell.stamp at moment h.0 k

stamped_one : (moment : ℕ) (call : Call) (cells : List Cell) → IsTimely moment call → AreStamped moment cells → AreStamped moment (after call cells)
stamped_one moment (Registers spec) cells k h = by (is_some (found spec.name cells))
  where
    by : (t : Bool) → AreStamped moment (cond t cells (cells ++ empty spec ∷ []))
    by true = h
    by false = stamped_push moment cells (empty spec) h (omega arith)
stamped_one moment (Modifies name value at) cells k h = stamped_changed moment (written value at) name cells (λ cell. k) h
stamped_one moment (Deletes name) cells k h = stamped_changed moment emptied name cells (λ cell. omega arith) h
stamped_one moment (Invokes at) cells k h = stamped_invoked moment at cells k h

pub stamped_all : (moment : ℕ) (calls : List Call) (cells : List Cell) → AreTimely moment calls → AreStamped moment cells → AreStamped moment (after_all calls cells)
stamped_all moment [] cells k h = h
stamped_all moment (call ∷ calls) cells k h = stamped_all moment calls (after call cells) k.1 (stamped_one moment call cells k.0 h)

pub stamped_later : (moment later : ℕ) (cells : List Cell) → moment ≤ later → AreStamped moment cells → AreStamped later cells
stamped_later moment later [] k h = tt
stamped_later moment later (cell ∷ cells) k h = ((let own = h.0 in omega (arith, k, own)), stamped_later moment later cells k h.1)

-- what an actor has now, if it is an address
pub stamped_for : (actor : Sender) (calls : List Call) (moment : ℕ) (cells : Address → List Cell) → AreTimely moment calls → ((address : Address) → AreStamped moment (cells address))
    → (address : Address) → AreStamped moment (set_for actor (after_all calls (cells_of actor cells)) cells address)
stamped_for (Split split) calls moment cells k h address = h address
stamped_for (Function own) calls moment cells k h address = by (same_address own address)
  where
    by : (t : Bool) → AreStamped moment (cond t (after_all calls (cells own)) (cells address))
    by true = stamped_all moment calls (cells own) k (h own)
    by false = h address

-- ---- what an answer does

pub timely_changes : (moment : ℕ) (changes : List Change) → AreTimely moment (map (cell_call moment) changes)
timely_changes moment [] = tt
timely_changes moment (Set name value ∷ changes) = (omega arith, timely_changes moment changes)
timely_changes moment (Clear name ∷ changes) = (tt, timely_changes moment changes)

pub timely_registers : (moment : ℕ) (specs : List CellSpec) → AreTimely moment (map Registers specs)
timely_registers moment [] = tt
timely_registers moment (spec ∷ specs) = (tt, timely_registers moment specs)
