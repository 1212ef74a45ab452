-- The steps of a run, parted, and what they gave to egresses.
use Rattle.std.specs.Prelude.{◌≡◌, Bool, not, List, [], filter}
use Rattle.std.specs.Option.{option_map_or}
use Rattle.typed_values.specs.declared.record.EgressRecord.{EgressRecord}
use Rattle.run_record.specs.declared.entry.Entry.{Entry}
use Rattle.run_record.specs.declared.entry.Step.{Step}
use Rattle.run_record.specs.Machine.{reply_of}
use Rattle.run_record.specs.Egress.{records_of_reply, egress_of}
use Rattle.statefun_driver.specs.declared.steps.Cut.{Cut}
use Rattle.statefun_driver.specs.Turns.{is_take}

-- what the answer of a step gives
abbrev pub given_by : Step → List EgressRecord
given_by step = option_map_or records_of_reply (reply_of step) []

abbrev pub is_other : Entry → Bool
is_other entry = not (is_take entry)

pub record IsParted (entries : List Entry) (cut : Cut) : Type 0 where
  pub takes : cut.takes ≡ filter is_take entries
  pub others : cut.others ≡ filter is_other entries
  pub egress : cut.egress ≡ egress_of entries
