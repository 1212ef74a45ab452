-- What `statefun append` does, and what it writes.
use Rattle.std.specs.Prelude.{◌≡◌, ◌≤◌, ◌+◌, ℕ, Bool, true, false, List, [], ◌∷◌, ◌++◌, codes, length, take, Option}
use Rattle.std.specs.Fmt.{decimal}
use Rattle.sf_outside.specs.Told.{Rose, more}
use Rattle.sf_outside.specs.Left.{ahead}
use Rattle.command_io.specs.Reading.{IsWhole}
use Rattle.command_io.specs.Telling.{Output, output, usage_line}
use Rattle.command_io.specs.Runs.{Command}
use Rattle.folder_commands.specs.declared.append.AppendEnd.{AppendEnd}
use Rattle.folder_commands.specs.declared.append.AppendEnd.TheVariants.{Appended, BadLine, Help, Usage, ReadFault, LogFault, OutOfMemory}
use Rattle.folder_commands.specs.AppendWords.{append_app}
use Rattle.folder_commands.specs.LogText.{log_text}
use Rattle.folder_commands.specs.Lines.{is_bad, limit, records_in}

-- what an input has left and a log holds, where they tell it, and how often each failed
pub record Outside : Type 0 where
  pub left : Option (List ℕ)
  pub read_faults : ℕ
  pub log : Output

abbrev pub outside : Option (List ℕ) → ℕ → Option (List ℕ) → ℕ → Outside
outside left read_faults written write_faults = record { left = left; read_faults = read_faults; log = output written write_faults }

-- a part of the bytes was written to the log, from the front
abbrev pub IsFront : List ℕ → Output → Output → Type 0
IsFront bytes before after = (k : ℕ) × (k ≤ length bytes) × (after.written ≡ more before.written (take k bytes))

-- The bytes of so many records were put into the log: they come from all lines, or a line behind them is bad. The log failed exactly
-- where the end is its fault; a part of them was put then, and so it was where memory ran out.
abbrev pub IsPut : List ℕ → ℕ → Bool → Output → Output → AppendEnd → Type 0
IsPut bytes count bad before after (Appended records) =
    (bad ≡ false) × (records ≡ count) × (after.faults ≡ before.faults) × (after.written ≡ more before.written bytes)
IsPut bytes count bad before after (BadLine line) =
    (bad ≡ true) × (line ≡ count + 1) × (after.faults ≡ before.faults) × (after.written ≡ more before.written bytes)
IsPut bytes count bad before after Help = ⊥
IsPut bytes count bad before after Usage = ⊥
IsPut bytes count bad before after ReadFault = ⊥
IsPut bytes count bad before after LogFault = (before.faults ≤ after.faults) × Rose before.faults after.faults × IsFront bytes before after
IsPut bytes count bad before after OutOfMemory = (after.faults ≡ before.faults) × IsFront bytes before after

-- the records of the lines that were heard were put into the log
abbrev pub IsAdded : List ℕ → Output → Output → AppendEnd → Type 0
IsAdded heard before after end = IsPut (log_text (records_in heard)) (length (records_in heard)) (is_bad heard) before after end

-- a read failed, and nothing was put; or memory ran out; or the input was read whole
abbrev pub IsSettled : List ℕ → Outside → Outside → AppendEnd → Type 0
IsSettled heard before after ReadFault = (before.read_faults ≤ after.read_faults) × Rose before.read_faults after.read_faults × (after.log ≡ before.log)
IsSettled heard before after OutOfMemory = (after.read_faults ≡ before.read_faults) × IsAdded heard before.log after.log OutOfMemory
IsSettled heard before after end = (after.read_faults ≡ before.read_faults) × IsWhole limit heard after.left × IsAdded heard before.log after.log end

-- An input was read, up to one byte past the limit, and what became of it.
pub record IsAppended (before after : Outside) (end : AppendEnd) : Type 0 where
  pub heard : List ℕ
  pub taken : before.left ≡ ahead heard after.left
  pub bound : length heard ≤ limit + 1
  pub settled : IsSettled heard before after end

-- what is written where help is asked for
unfoldable pub append_help : List ℕ
append_help =
    codes "Reads lines KEY, tab, TEXT from standard input and appends a record for each to the log of a split\n\n"
    ++ (codes "Usage: statefun append <FOLDER> <SPLIT>\n\nArguments:\n  <FOLDER>  The folder of the logs\n"
    ++ (codes "  <SPLIT>   The number of the split, 0 to 31\n\n"
    ++ codes "Options:\n  -h, --help  Print help\n"))

abbrev pub end_text : AppendEnd → List ℕ
end_text (Appended records) = codes "appended " ++ (decimal records ++ 10 ∷ [])
end_text (BadLine line) = codes "bad line " ++ (decimal line ++ 10 ∷ [])
end_text Help = append_help
end_text Usage = usage_line
end_text ReadFault = codes "read fault" ++ 10 ∷ []
end_text LogFault = []
end_text OutOfMemory = []

abbrev pub end_status : AppendEnd → ℕ
end_status (Appended records) = 0
end_status (BadLine line) = 4
end_status Help = 0
end_status Usage = 2
end_status ReadFault = 9
end_status LogFault = 11
end_status OutOfMemory = 15

abbrev pub append_command : Command Outside AppendEnd
append_command = record {
  app = append_app;
  works = IsAppended;
  text = end_text;
  status = end_status;
  help = Help;
  usage = Usage;
  memory = OutOfMemory;
}
