use Rattle.std.proofs.Common.{◌≡◌, ◌+◌, ℕ, List, take, count_by, option_map}
use Rattle.proto_wire.specs.Message.{capped}
use Rattle.typed_values.specs.declared.letter.Sender.{Sender}
use Rattle.typed_values.specs.declared.letter.Letter.{Letter}
use Rattle.typed_values.specs.Sameness.{same_sender}
use Rattle.batch_queue.specs.Batches.{records_size}
use Rattle.keyed_queues.specs.Keys.{sender_order}
use Rattle.keyed_queues.specs.Queues.{number_at}
use Rattle.run_record.specs.Machine.{picked}
use Rattle.run_record.specs.StateOf.{mail_of}
use Rattle.run_record.proofs.Picks.{sized_on}
use Rattle.run_record.proofs.picking.with_picked.Given as goal

abbrev pub invariant-loop-sender : goal.invariant-loop-sender
invariant-loop-sender l = record {
  counted : (sender : Sender) → number_at sender_order l.tally.numbers sender ≡ count_by (same_sender sender) (take l.sender-index l.fn.picks);
  so_far : (records : ℕ) → l.fn.head ≡ capped records → (l.size ≡ capped l.size) × (option_map (λ (letters : List Letter). capped (records + records_size letters)) (picked l.fn.address (λ sender. mail_of l.fn.mail sender l.fn.address) l.fn.picks) ≡ sized_on l.fn.address (λ sender. mail_of l.fn.mail sender l.fn.address) l.fn.picks l.sender-index l.size);
}
