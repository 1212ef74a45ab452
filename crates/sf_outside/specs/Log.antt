-- Ingress logs: for each record the length of a message, as a varint, and the message.
use Rattle.std.specs.Prelude.{◌≡◌, ◌≢◌, ℕ, zero, suc, ◌-◌, List, [], ◌∷◌, ◌++◌, length, take, drop, Option, Some, None, Result, Ok, Err, nat_lt}
use Rattle.std.specs.Prelude.{if◌then◌else◌, option_map}
use Rattle.proto_wire.specs.declared.fault.WireFault.{WireFault}
use Rattle.proto_wire.specs.declared.fault.WireKind.{WireKind}
use Rattle.proto_wire.specs.declared.fault.WireKind.TheVariants.{Truncated}
use Rattle.proto_wire.specs.Varint.{ItemFault, varint_in}
use Rattle.proto_wire.specs.Message.{Row, texts, bytes, value_of}
use Rattle.sf_outside.specs.declared.ingress.IngressRecord.{IngressRecord}
use Rattle.sf_outside.specs.declared.front.Front.{Front}
use Rattle.sf_outside.specs.declared.front.Front.TheVariants.{Cut, Bad, Whole}

-- the message of a record: the key is field 1, a text, and the value is field 2, bytes
unfoldable pub empty_record : IngressRecord
empty_record = record { key = []; value = [] }

unfoldable pub record_rows : List (Row IngressRecord)
record_rows =
    texts 1 (λ it. it.key) (λ it text. record it { key = text })
    ∷ bytes 2 (λ it. it.value) (λ it payload. record it { value = payload })
    ∷ []

-- a length that ends too early may still be written on; any other fault stays
abbrev pub faulty : WireKind → Front
faulty Truncated = Cut
faulty _ = Bad

-- the message, which ends where this many bytes are left
abbrev pub message : ℕ → Result IngressRecord WireFault → Front
message len (Ok it) = Whole it len
message len (Err e) = Bad

-- what a length says of all the bytes
abbrev pub framed : List ℕ → Result (ℕ × List ℕ) ItemFault → Front
framed log (Err e) = faulty e.kind
framed log (Ok len) =
    if nat_lt (length len.1) len.0 then Cut
    else message (length log - length (drop len.0 len.1)) (value_of record_rows empty_record (take len.0 len.1))

-- what stands at the front of a log: a whole record and its length, a record that is cut, or bytes that are no record
unfoldable pub front_of : List ℕ → Front
front_of log = framed log (varint_in log)

-- the record at the front, if there is one
abbrev pub first_record : Front → Option IngressRecord
first_record Cut = None
first_record Bad = None
first_record (Whole it len) = Some it

-- the log behind it
abbrev pub rest_of : Front → List ℕ → List ℕ
rest_of Cut log = log
rest_of Bad log = log
rest_of (Whole it len) log = drop len log

-- what a reading of the log behind the front finds; nothing where there is no record
abbrev pub behind : Front → List ℕ → (List ℕ → Option IngressRecord) → Option IngressRecord
behind Cut log more = None
behind Bad log more = None
behind (Whole it len) log more = more (drop len log)

-- record number n
abbrev pub log_record : ℕ → List ℕ → Option IngressRecord
log_record zero log = first_record (front_of log)
log_record (suc n) log = behind (front_of log) log (log_record n)

-- the bytes that were read ahead and those behind them, where those are known
abbrev pub known : List ℕ → Option (List ℕ) → Option (List ℕ)
known held left = option_map (λ more. held ++ more) left

-- a read of a known log found its first record, or nothing where that is cut, and left the rest
abbrev pub TakesFirst : Option (List ℕ) → Option (List ℕ) → Option IngressRecord → Type 0
TakesFirst None now found = Unit {0}
TakesFirst (Some log) now found = (front_of log ≢ Bad) × (found ≡ first_record (front_of log)) × (now ≡ Some (rest_of (front_of log) log))

-- a read of a known log found record number n
abbrev pub FindsRecord : Option (List ℕ) → ℕ → Option IngressRecord → Type 0
FindsRecord None n found = Unit {0}
FindsRecord (Some log) n found = found ≡ log_record n log
