use Rattle.std.proofs.Common.{codes}
use Rattle.run_words.proofs.Prefixes.{strips}
use Rattle.run_words.proofs.reading.Key.joined_in.Goals as goal

pub returns-in-Partitions : goal.returns-in-Partitions
returns-in-Partitions c = rw c.in-Partitions.is (strips (codes "--partitions=") c.args.word.now c.strip_prefix.result c.strip_prefix.ensures.cases)
