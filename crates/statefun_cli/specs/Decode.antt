-- What `statefun decode` writes, and when.
use Rattle.std.specs.Prelude.{◌≡◌, ◌⊎◌, ℕ, List, [], ◌∷◌, ◌++◌, codes, length, nat_lt, if◌then◌else◌, Option, Some, None, Result, Ok, Err}
use Rattle.proto_wire.specs.declared.fault.WireFault.{WireFault}
use Rattle.proto_wire.specs.declared.fault.WireKind.TheVariants.{OverLimit}
use Rattle.proto_wire.specs.Varint.{◌>>=◌}
use Rattle.sf_outside.specs.declared.fault.Fault.{Fault}
use Rattle.sf_outside.specs.declared.fault.Fault.TheVariants.{Failed, OutOfMemory}
use Rattle.sf_outside.specs.Told.{HasCause}
use Rattle.request_reply.specs.Spelling.{to_value, from_value}
use Rattle.message_text.specs.Lines.{answer_lines, fault_line, request_lines}
use Rattle.statefun_cli.specs.declared.decode_words.MessageKind.{MessageKind}
use Rattle.statefun_cli.specs.declared.decode_words.MessageKind.TheVariants.{Request, Answer}
use Rattle.statefun_cli.specs.declared.decode_words.DecodeAsk.{DecodeAsk}
use Rattle.statefun_cli.specs.declared.decode_words.DecodeAsk.TheVariants.{Lines, Help as HelpAsked, Usage as UsageAsked}
use Rattle.statefun_cli.specs.declared.decode.DecodeEnd.{DecodeEnd}
use Rattle.statefun_cli.specs.declared.decode.DecodeEnd.TheVariants.{Decoded, Faulty, Help, Usage, ReadFault}
use Rattle.statefun_cli.specs.DecodeWords.{AsksFor}
use Rattle.statefun_cli.specs.Outside.{Outside, IsRead, IsUnread, Reader, Tells, usage_line}

-- ---- the text

-- the most bytes of a message
abbrev pub limit : ℕ
limit = 8388608

-- the lines of the message that the bytes spell, or their first fault
unfoldable pub spelled_lines : MessageKind → List ℕ → Result (List ℕ) WireFault
spelled_lines Request bytes = to_value bytes >>= λ request. Ok (request_lines request)
spelled_lines Answer bytes = from_value bytes >>= λ answer. Ok (answer_lines answer)

-- and more bytes than the limit are a fault at the limit
abbrev pub lines_of : MessageKind → List ℕ → Result (List ℕ) WireFault
lines_of kind bytes = if nat_lt limit (length bytes) then Err (record { kind = OverLimit; at = limit }) else spelled_lines kind bytes

abbrev pub text_by : Result (List ℕ) WireFault → List ℕ
text_by (Ok lines) = lines
text_by (Err fault) = fault_line fault

abbrev pub end_by : Result (List ℕ) WireFault → DecodeEnd
end_by (Ok lines) = Decoded
end_by (Err fault) = Faulty

-- what is written of the bytes of a message
abbrev pub decode_text : MessageKind → List ℕ → List ℕ
decode_text kind bytes = text_by (lines_of kind bytes)

-- and how that ends
abbrev pub decode_end : MessageKind → List ℕ → DecodeEnd
decode_end kind bytes = end_by (lines_of kind bytes)

-- the status of an end; an `Err` is the sink's fault or want of memory
abbrev pub decode_status : Result DecodeEnd Fault → ℕ
decode_status (Ok Decoded) = 0
decode_status (Ok Help) = 0
decode_status (Ok Usage) = 2
decode_status (Ok Faulty) = 4
decode_status (Ok ReadFault) = 9
decode_status (Err Failed) = 11
decode_status (Err OutOfMemory) = 15

-- what is written where help is asked for
unfoldable pub help_text : List ℕ
help_text =
    codes "Reads a message from standard input and writes it as lines\n\nUsage: statefun decode <KIND>\n\nArguments:\n"
    ++ (codes "  <KIND>  What is decoded: a request to a function or an answer from one [possible values: to, from]\n\n"
    ++ codes "Options:\n  -h, --help  Print help\n")

-- ---- runs

-- what is made of a source
abbrev pub reader : MessageKind → Reader DecodeEnd
reader kind = record {
  limit = limit;
  text = decode_text kind;
  ending = decode_end kind;
  fault_text = codes "read fault" ++ 10 ∷ [];
  fault_ending = ReadFault;
}

-- A message of this kind was read, and its text is told.
abbrev pub IsDecoded : MessageKind → Outside → Outside → Result DecodeEnd Fault → Type 0
IsDecoded kind before after end = IsRead (reader kind) before after end

-- what was asked for was done; nothing where memory ran out at the words
abbrev pub IsAnswered : Option DecodeAsk → Outside → Outside → Result DecodeEnd Fault → Type 0
IsAnswered None before after end = IsUnread before after × (end ≡ Err OutOfMemory) × (after.written ≡ before.written)
IsAnswered (Some (Lines kind)) before after end = IsDecoded kind before after end
IsAnswered (Some HelpAsked) before after end = IsUnread before after × Tells before.written after.written help_text Help end
IsAnswered (Some UsageAsked) before after end = IsUnread before after × Tells before.written after.written usage_line Usage end

abbrev pub IsAsked : List (List ℕ) → Option DecodeAsk → Type 0
IsAsked words None = Unit {0}
IsAsked words (Some ask) = AsksFor words ask

-- A run of the command, up to its end: what its words ask for was done. The sink failed exactly where the end is its fault.
pub record IsAskedRun (words : List (List ℕ)) (before after : Outside) (end : Result DecodeEnd Fault) : Type 0 where
  pub ask : Option DecodeAsk
  pub asked : IsAsked words ask
  pub answered : IsAnswered ask before after end
  pub sink_cause : HasCause before.write_faults after.write_faults end

-- and to its status
pub record IsDecodeRun (words : List (List ℕ)) (before after : Outside) (status : ℕ) : Type 0 where
  pub end : Result DecodeEnd Fault
  pub status_is : status ≡ decode_status end
  pub run : IsAskedRun words before after end

-- A run on right words decodes a message of their kind.
pub record IsRightRun (kind : MessageKind) (before after : Outside) (status : ℕ) : Type 0 where
  pub end : Result DecodeEnd Fault
  pub status_is : status ≡ decode_status end
  pub decoded : IsDecoded kind before after end
  pub sink_cause : HasCause before.write_faults after.write_faults end

-- A run that is asked for help by `-h` or `--help` writes the help, and reads nothing.
abbrev pub AsksForHelp : List (List ℕ) → Type 0
AsksForHelp words = (first : List ℕ) × ((words ≡ first ∷ codes "-h" ∷ []) ⊎ (words ≡ first ∷ codes "--help" ∷ []))

pub record IsHelpRun (before after : Outside) (status : ℕ) : Type 0 where
  pub end : Result DecodeEnd Fault
  pub status_is : status ≡ decode_status end
  pub unread : IsUnread before after
  pub told : Tells before.written after.written help_text Help end
  pub sink_cause : HasCause before.write_faults after.write_faults end
