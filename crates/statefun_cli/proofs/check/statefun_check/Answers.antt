use Rattle.statefun_cli.proofs.Checking.{help_run, module_fault, no_write_fault, right_run, usage, write_fault}
use Rattle.statefun_cli.proofs.check.statefun_check.Goals as goal

pub returns-clause-usage : goal.returns-clause-usage
returns-clause-usage g c at = usage _ _ _ c.end_of_words.result c.status.result c.end_of_words.ensures.ran c.status.ensures at

pub returns-clause-module_fault : goal.returns-clause-module_fault
returns-clause-module_fault g c at = module_fault _ _ _ c.end_of_words.result c.status.result c.end_of_words.ensures.ran c.status.ensures at

pub returns-clause-write_fault : goal.returns-clause-write_fault
returns-clause-write_fault g c at = write_fault _ _ c.end_of_words.result c.status.result c.end_of_words.ensures.ran.sink_cause c.status.ensures at

pub returns-clause-written : goal.returns-clause-written
returns-clause-written g c other = no_write_fault _ _ c.end_of_words.result c.status.result c.end_of_words.ensures.ran.sink_cause c.status.ensures other

pub returns-clause-right : goal.returns-clause-right
returns-clause-right g c first path right plain = right_run _ first path _ _ c.end_of_words.result c.status.result c.end_of_words.ensures.ran c.status.ensures right plain

pub returns-clause-help : goal.returns-clause-help
returns-clause-help g c help = help_run _ _ _ c.end_of_words.result c.status.result c.end_of_words.ensures.ran c.status.ensures help
