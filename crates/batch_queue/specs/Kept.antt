-- How mail is kept: a box for each address, which has a number, and the numbers of the ready ones in line.
use Rattle.std.specs.Prelude.{◌≡◌, ℕ, ◌<◌, ◌≤◌, true, List, [], map, length, slice_index_or, Option, Some}
use Rattle.std.specs.Option.{option_map, option_map_or}
use Rattle.std.specs.List.{list_all}
use Rattle.std.specs.Map.{lookup}
use Rattle.std.specs.BTreeMap.{is_at}
use Rattle.std.specs.declared.cmp.Ordering.{Ordering}
use Rattle.typed_values.specs.declared.address.Address.{Address}
use Rattle.typed_values.specs.contracts.address.AddressOrd.TheImpl as address_ord
use Rattle.typed_values.specs.Sameness.{same_address}
use Rattle.typed_values.specs.Tables.{empty_address}
use Rattle.batch_queue.specs.Boxes.{Waiting}
use Rattle.batch_queue.specs.Lines.{InLine, stands}
use Rattle.batch_queue.specs.Post.{Post, waits}

-- by type, and then by id
abbrev pub address_order : Address → Address → Ordering
address_order = (address_ord.ghosts).cmp

pub record Kept : Type 0 where
  -- in the order of their addresses
  pub boxes : List (Address × Waiting)
  -- the address of each number
  pub names : List Address
  pub line : InLine

abbrev pub box_of : Kept → Address → Option Waiting
box_of kept address = lookup (is_at (address_order address)) kept.boxes

abbrev pub name_of : List Address → ℕ → Address
name_of names number = slice_index_or names number empty_address

-- what is kept, as mail
abbrev pub post_of : Kept → Post
post_of kept = record {
  letters = λ address. option_map_or (λ box. box.letters) (box_of kept address) [];
  in_flight = λ address. option_map_or (λ box. box.in_flight) (box_of kept address) 0;
  ready = map (name_of kept.names) kept.line.numbers;
}

-- a box is numbered, has only letters of its address, and is in line exactly where it is ready
pub record IsBoxOf (names : List Address) (line : List ℕ) (address : Address) (box : Waiting) : Type 0 where
  pub numbered : box.number < length names
  pub named : name_of names box.number ≡ address
  pub lined : stands box.number line ≡ waits box.letters box.in_flight
  pub owned : list_all (λ letter. same_address address letter.target) box.letters ≡ true
  pub flown : box.in_flight ≤ length box.letters

pub record IsKept (kept : Kept) : Type 0 where
  pub boxed : (address : Address) (box : Waiting) → box_of kept address ≡ Some box → IsBoxOf kept.names kept.line.numbers address box
  -- each number in line is that of a box
  pub held : (number : ℕ) → stands number kept.line.numbers ≡ true →
      option_map (λ box. box.number) (box_of kept (name_of kept.names number)) ≡ Some number
  pub roomy : length kept.names ≤ kept.line.size
