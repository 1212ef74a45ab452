-- Places: those of faults, and those of records, in the whole input.
use Rattle.std.specs.Prelude.{◌≡◌, ◌≤◌, ℕ, ◌-◌, List, length, Option, Some, None, Result, Ok, Err, ◌==◌, slice_range, if◌then◌else◌}
use Rattle.proto_wire.specs.declared.fault.WireFault.{WireFault}
use Rattle.proto_wire.specs.declared.fault.WireKind.TheVariants.{NoMember}
use Rattle.proto_wire.specs.declared.record.Record.{Record}
use Rattle.proto_wire.specs.declared.record.WireRecord.{WireRecord}
use Rattle.proto_wire.specs.Varint.{ItemFault, ◌>>=◌}
use Rattle.proto_wire.specs.Record.{Item, record_in}

-- what was read of bytes that end at the place `end`, its fault at its place
abbrev pub located : {A : Type 0} → ℕ → Result A ItemFault → Result A WireFault
located end (Ok x) = Ok x
located end (Err e) = Err (record { kind = e.kind; at = end - e.left })

-- what a message needs has to be there; the fault is placed at the end of the input
abbrev pub present : {A : Type 0} → ℕ → Option A → Result A WireFault
present end (Some value) = Ok value
present end None = Err (record { kind = NoMember; at = end })

-- a record as contracts see it
abbrev pub item_of : Record → Item
item_of r = record { field = r.field; wire = r.wire; number = r.number; payload = r.payload.now }

-- the payload lies in front of the place where it ends
abbrev pub IsInside : Record → Type 0
IsInside r = length r.payload.now ≤ r.end

-- a record ends where the bytes behind it begin, which end at the place `end`; its payload lies in front
pub record IsPlaced (end : ℕ) (r : Record) (rest : List ℕ) : Type 0 where
  pub at : r.end ≡ end - length rest
  pub inside : IsInside r

-- a record by its places, where so many bytes are left behind it of those that end at the place `end`
abbrev pub places : ℕ → Item × List ℕ → WireRecord
places end read = record {
  field = read.0.field;
  wire = read.0.wire;
  number = read.0.number;
  start = end - length read.1 - length read.0.payload;
  len = length read.0.payload;
  next = end - length read.1;
}

-- the record at `at` of a message that ends at `end`; none at its end
unfoldable pub next_record : List ℕ → ℕ → ℕ → Result (Option WireRecord) WireFault
next_record bytes at end = if at == end then Ok None else (located end (record_in (slice_range bytes at end)) >>= λ read. Ok (Some (places end read)))
