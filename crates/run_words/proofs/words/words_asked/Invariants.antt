use Rattle.std.proofs.Common.{◌≡◌, ◌+◌, ◌≤◌, drop, map}
use Rattle.std.specs.String.{string_bytes}
use Rattle.run_words.specs.Words.{read_on, words_asked}
use Rattle.run_words.proofs.Budget.{left}
use Rattle.run_words.proofs.words.words_asked.Given as goal

abbrev pub invariant-loop-next : goal.invariant-loop-next
invariant-loop-next l = record {
  same : read_on l.word l.reading (drop l.next-index (map string_bytes l.words)) ≡ words_asked (map string_bytes l.words);
  few : l.word + left l.reading ≤ 10;
}
