use Rattle.std.proofs.Common.{◌≡◌, ◌+◌, ◌<◌, ◌≤◌, take, length}
use Rattle.batch_queue.specs.Batches.{records_size, request_size}
use Rattle.batch_queue.proofs.mailbox.MailBox.fitting.Given as goal

abbrev pub invariant-loop-count : goal.invariant-loop-count
invariant-loop-count l =
    (l.count ≤ length l.self.letters) ×
    (l.records ≡ l.limits.head_bytes + records_size (take l.count l.self.letters)) ×
    (0 < l.count → request_size l.limits.head_bytes (take l.count l.self.letters) ≤ l.limits.max_bytes)
