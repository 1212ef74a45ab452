use Rattle.std.proofs.Common.{◌≡◌, ◌≤◌, take, length}
use Rattle.batch_queue.proofs.mailbox.MailBox.front.Given as goal

abbrev pub invariant-loop-index : goal.invariant-loop-index
invariant-loop-index l = (l.index ≤ length l.self.letters) × (l.copy ≡ take l.index l.self.letters)
