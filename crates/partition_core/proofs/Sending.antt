-- A delayed letter that is due is sent.
use mathlib.Core.Path.{fun_ext}
use Rattle.std.proofs.Common.{◌≡◌, ◌∙◌, sym, ap, refl, ℕ, List, [], ◌∷◌, Bool, true, false, cond, Option, Some, None}
use Rattle.typed_values.specs.declared.address.Address.{Address}
use Rattle.typed_values.specs.declared.letter.Letter.{Letter}
use Rattle.typed_values.specs.declared.letter.Sender.TheVariants.{Function}
use Rattle.typed_values.specs.declared.record.Delay.{Delay}
use Rattle.typed_values.specs.Sameness.{same_address}
use Rattle.typed_values.proofs.Sameness.{same_address-Decides}
use Rattle.typed_values.specs.Delays.{due_at}
use Rattle.delayed_messages.specs.Waiting.{TakesDue}
use Rattle.delayed_messages.specs.Laws.{left_by}
use Rattle.batch_queue.specs.Post.{put}
use Rattle.partition_core.specs.Work.{Work, set_for, done, sent, with_posted, IsSentBy}

-- what an address has stays
pub set_same : {A : Type 0} (f : Address → A) (address : Address) → f ≡ set_for (Function address) (f address) f
set_same f address = fun_ext (λ other. by other (same_address address other) refl)
  where
    by : (other : Address) (t : Bool) → same_address address other ≡ t → f other ≡ cond t (f address) (f other)
    by other true e = ap f (sym ((same_address-Decides address other).0 e))
    by other false e = refl

some_same : {X : Type 0} (x y : X) → Some x ≡ Some y → x ≡ y
some_same x y e = cc

some_none : {X : Type 0} (x : X) → Some x ≡ None → ⊥
some_none x e = absurd cc

abbrev pub letter_now : Delay → Letter
letter_now delay = record { sender = Function delay.sender; target = delay.target; argument = delay.argument }

sent_one : (moment : ℕ) (old : Work) (due : Delay × List Delay) → due_at moment old.delays ≡ Some due → with_posted (letter_now due.0 ∷ []) (record old { delays = due.1 }) ≡ sent moment due old
unfolding sent done
sent_one moment old due e =
    λ i. record {
      post = put (letter_now due.0) old.post;
      cells = set_same old.cells due.0.sender i;
      seen = set_same old.seen due.0.sender i;
      delays = ap (left_by old.delays) (sym e) i;
    }

pub sent_is : (moment : ℕ) (old new : Work) (delay : Delay) (left : List Delay) (sender : Address) → TakesDue (due_at moment old.delays) old.delays (Some delay) left → new ≡ with_posted (letter_now delay ∷ []) (record old { delays = left }) → sender ≡ delay.sender → IsSentBy moment (due_at moment old.delays) old (Some sender) new
sent_is moment old new delay left sender takes is from = by (due_at moment old.delays) refl takes
  where
    by : (due : Option (Delay × List Delay)) → due_at moment old.delays ≡ due → TakesDue due old.delays (Some delay) left → IsSentBy moment due old (Some sender) new
    by None e t = absurd (some_none delay t.0)
    by (Some due) e t =
        let same : delay ≡ due.0 = some_same delay due.0 t.0 in (
          ap Some (from ∙ ap (λ (d : Delay). d.sender) same),
          is ∙ (λ i. with_posted (letter_now (same i) ∷ []) (record old { delays = t.1 i })) ∙ sent_one moment old due e,
        )
