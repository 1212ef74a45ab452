use Rattle.folder_commands.proofs.Logged.{appended_behind, reads_all}
use Rattle.folder_commands.proofs.laws.appended_records_are_read.Goals as goal

pub returns-clause-behind : goal.returns-clause-behind
returns-clause-behind c = appended_behind

pub returns-clause-reads : goal.returns-clause-reads
returns-clause-reads c = reads_all
