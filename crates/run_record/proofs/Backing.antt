-- What follows from the definition of backed records.
use Rattle.std.specs.Prelude.{◌≡◌, List, [], ◌∷◌, ◌++◌, Option, Some, None, IfSome, Contains, option_and_then}
use Rattle.std.proofs.Common.{sym, ◌∙◌, subst, arith, length-append}
use Rattle.std.proofs.lemmas.List.{get_or_append_left}
use Rattle.request_reply.specs.Spelling.{to_spelling}
use Rattle.sf_outside.specs.declared.call.Exchange.{Exchange}
use Rattle.sf_outside.specs.Splits.{Lists, GrowTo}
use Rattle.sf_outside.specs.Answers.{Extends}
use Rattle.address_routing.specs.declared.module.Module.{Module}
use Rattle.run_record.specs.declared.entry.Entry.{Entry}
use Rattle.run_record.specs.declared.entry.Step.{Step}
use Rattle.run_record.specs.declared.entry.Reply.{Reply}
use Rattle.run_record.specs.Machine.{State, reply_of}
use Rattle.run_record.specs.Record.{step_after, replayed}
use Rattle.run_record.specs.Backed.{IsBackedReply, IsBackedStep, AreBacked}
use Rattle.run_record.proofs.Steps.{some_from_and_then, step_after-grown}

-- what is contained stays so behind more
contains-append : {A : Type 0} (xs ys : List A) (x : A) → Contains xs x → Contains (xs ++ ys) x
contains-append xs ys x at = (at.0, omega (arith, length-append xs ys, at.1), get_or_append_left xs ys x at.0 at.1 ∙ at.2)

reply_backed-more : (exchanges more : List Exchange) (m : Module) (st : State) (reply : Reply) → Extends exchanges more → IsBackedReply exchanges m st reply → IsBackedReply more m st reply
reply_backed-more exchanges more m st reply extended is =
    record {
      request = is.request;
      asked = is.asked;
      url = is.url;
      at_url = is.at_url;
      exchanged = let P : List Exchange → Type 0 = λ all. Contains all (record { call = reply.call; url = is.url; request = to_spelling is.request; answer = reply.answer }) in
          subst P (sym extended.1) (contains-append exchanges extended.0 _ is.exchanged);
    }

IfSome-map : {A : Type 0} (o : Option A) (P Q : A → Type 0) → ((x : A) → P x → Q x) → IfSome o P → IfSome o Q
IfSome-map None P Q f h = h
IfSome-map (Some x) P Q f h = f x h

pub step_backed-more : (exchanges more : List Exchange) (m : Module) (st : State) (step : Step) → Extends exchanges more → IsBackedStep exchanges m st step → IsBackedStep more m st step
step_backed-more exchanges more m st step extended is =
    IfSome-map (reply_of step) (IsBackedReply exchanges m st) (IsBackedReply more m st) (λ reply. reply_backed-more exchanges more m st reply extended) is

-- a record that some exchanges back is backed by more of them
pub AreBacked-more : (exchanges more : List Exchange) (m : Module) (lists : Lists) (st : State) (entries : List Entry) → Extends exchanges more → AreBacked exchanges m lists st entries → AreBacked more m lists st entries
AreBacked-more exchanges more m lists st [] extended backed = backed
AreBacked-more exchanges more m lists st (entry ∷ entries) extended backed =
    (step_backed-more exchanges more m st entry.step extended backed.0, IfSome-map (step_after m lists st entry.step) (λ next. AreBacked exchanges m lists next entries) (λ next. AreBacked more m lists next entries) (λ next h. AreBacked-more exchanges more m lists next entries extended h) backed.1)

backed_behind : (exchanges : List Exchange) (m : Module) (lists : Lists) (entries others : List Entry) → ((next : State) → AreBacked exchanges m lists next entries → IfSome (replayed m lists next entries) (λ last. AreBacked exchanges m lists last others) → AreBacked exchanges m lists next (entries ++ others)) → (o : Option State) → IfSome o (λ next. AreBacked exchanges m lists next entries) → IfSome (option_and_then (λ next. replayed m lists next entries) o) (λ last. AreBacked exchanges m lists last others) → IfSome o (λ next. AreBacked exchanges m lists next (entries ++ others))
backed_behind exchanges m lists entries others rest None backed behind = backed
backed_behind exchanges m lists entries others rest (Some next) backed behind = rest next backed behind

-- a record is backed where its front is, and what is behind it is from the state that the front gives
pub AreBacked-append : (exchanges : List Exchange) (m : Module) (lists : Lists) (st : State) (entries others : List Entry) → AreBacked exchanges m lists st entries → IfSome (replayed m lists st entries) (λ next. AreBacked exchanges m lists next others) → AreBacked exchanges m lists st (entries ++ others)
AreBacked-append exchanges m lists st [] others backed behind = behind
AreBacked-append exchanges m lists st (entry ∷ entries) others backed behind =
    (backed.0, backed_behind exchanges m lists entries others (λ next. AreBacked-append exchanges m lists next entries others) (step_after m lists st entry.step) backed.1 behind)

-- one more entry
pub AreBacked-push : (exchanges : List Exchange) (m : Module) (lists : Lists) (st next : State) (entries : List Entry) (last : Entry) → AreBacked exchanges m lists st entries → replayed m lists st entries ≡ Some next → IsBackedStep exchanges m next last.step → AreBacked exchanges m lists st (entries ++ last ∷ [])
AreBacked-push exchanges m lists st next entries last backed e is =
    AreBacked-append exchanges m lists st entries (last ∷ []) backed (rw e (is, nothing (step_after m lists next last.step)))
  where
    nothing : (o : Option State) → IfSome o (λ after. Unit {0})
    nothing None = tt
    nothing (Some after) = tt

-- a record that replays is backed over lists that have grown
pub AreBacked-grown : (exchanges : List Exchange) (m : Module) (old new : Lists) (st last : State) (entries : List Entry) → GrowTo old new → replayed m old st entries ≡ Some last → AreBacked exchanges m old st entries → AreBacked exchanges m new st entries
AreBacked-grown exchanges m old new st last [] grown e backed = backed
AreBacked-grown exchanges m old new st last (entry ∷ entries) grown e backed =
    let first = some_from_and_then (λ next. replayed m old next entries) (step_after m old st entry.step) last e in
    let here : IfSome (step_after m old st entry.step) (λ next. AreBacked exchanges m old next entries) = backed.1 in
    (backed.0, rw (step_after-grown m old new st first.0 entry.step grown first.1) (AreBacked-grown exchanges m old new first.0 last entries grown first.2 (rw first.1 at here)))
