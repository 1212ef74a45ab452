use Rattle.std.proofs.Common.{◌≡◌, ap, arith, List, [], count_by}
use Rattle.typed_values.specs.declared.letter.Sender.TheVariants.{Function}
use Rattle.typed_values.specs.declared.record.Delay.{Delay}
use Rattle.delayed_messages.specs.Laws.{after_all}
use Rattle.run_record.specs.Machine.{first_state}
use Rattle.run_record.specs.Histories.{delay_calls}
use Rattle.run_record.proofs.LawsOfOwn.{delays_made, sent_once}
use Rattle.run_record.proofs.laws.a_delayed_letter_is_sent_once.Goals as goal

pub returns : goal.returns
unfolding delay_calls
returns c m lists last entries h address looked =
    let calls = delay_calls m lists entries address in
    let made : count_by looked (last.own (Function address)).delays ≡ count_by looked (after_all calls []) = ap (λ (ds : List Delay). count_by looked ds) (delays_made m lists (Function address) first_state last entries h) in
    omega (arith, made, sent_once c.the_least_is_due.ensures looked calls [])
