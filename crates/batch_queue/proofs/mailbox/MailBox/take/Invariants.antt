use Rattle.std.proofs.Common.{◌≡◌, drop}
use Rattle.batch_queue.proofs.mailbox.MailBox.take.Given as goal

abbrev pub invariant-loop-self : goal.invariant-loop-self
invariant-loop-self l =
    (drop l.self-inside.in_flight l.self-inside.letters.items ≡ drop l.initial.self-inside.in_flight l.initial.self-inside.letters.items) × (l.self-inside.number ≡ l.initial.self-inside.number)

abbrev pub decreases-loop-self : goal.decreases-loop-self
decreases-loop-self l = l.self-inside.in_flight
