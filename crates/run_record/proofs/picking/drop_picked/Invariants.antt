use Rattle.std.proofs.Common.{◌≡◌, take}
use Rattle.typed_values.specs.declared.address.Address.{Address}
use Rattle.typed_values.specs.declared.letter.Sender.{Sender}
use Rattle.typed_values.specs.declared.letter.Sender.TheVariants.{Function}
use Rattle.run_record.specs.Machine.{unpicked}
use Rattle.run_record.specs.StateOf.{mail_of}
use Rattle.run_record.proofs.picking.drop_picked.Given as goal

abbrev pub invariant-loop-sender : goal.invariant-loop-sender
invariant-loop-sender l = (sender : Sender) (target : Address) → mail_of l.mail sender target ≡ unpicked (Function l.address) (take l.sender-index l.picks) (mail_of l.fn.mail) sender target
