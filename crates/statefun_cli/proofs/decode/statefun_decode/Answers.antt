use Rattle.statefun_cli.proofs.Decoding.{help_run, no_write_fault, read_fault, right_run, write_fault}
use Rattle.statefun_cli.proofs.decode.statefun_decode.Goals as goal

pub returns-clause-right : goal.returns-clause-right
returns-clause-right g c kind first right = right_run _ kind first _ _ c.end_of_words.result c.status.result c.end_of_words.ensures.ran c.status.ensures right

pub returns-clause-help : goal.returns-clause-help
returns-clause-help g c help = help_run _ _ _ c.end_of_words.result c.status.result c.end_of_words.ensures.ran c.status.ensures help

pub returns-clause-read_fault : goal.returns-clause-read_fault
returns-clause-read_fault g c at = read_fault _ _ _ c.end_of_words.result c.status.result c.end_of_words.ensures.ran c.status.ensures at

pub returns-clause-write_fault : goal.returns-clause-write_fault
returns-clause-write_fault g c at = write_fault _ _ c.end_of_words.result c.status.result c.end_of_words.ensures.ran.sink_cause c.status.ensures at

pub returns-clause-written : goal.returns-clause-written
returns-clause-written g c other = no_write_fault _ _ c.end_of_words.result c.status.result c.end_of_words.ensures.ran.sink_cause c.status.ensures other
