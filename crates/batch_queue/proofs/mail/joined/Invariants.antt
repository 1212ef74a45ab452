use Rattle.std.proofs.Common.{◌≡◌, ◌++◌, flat_map}
use Rattle.batch_queue.specs.declared.mail.Gathered.{Gathered}
use Rattle.batch_queue.proofs.mail.joined.Given as goal

-- what was moved so far, and what is left
abbrev pub invariant-loop-one : goal.invariant-loop-one
invariant-loop-one l = l.all.items ++ flat_map (λ (one : Gathered). one.letters) l.one-iterator.rest.items ≡ flat_map (λ (one : Gathered). one.letters) l.fn.gathered.items
