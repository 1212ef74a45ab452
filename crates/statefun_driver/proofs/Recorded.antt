-- What a step leaves is what is recorded of it.
use mathlib.Core.Path.{fun_ext}
use Rattle.std.proofs.Common.{◌≡◌, ◌∙◌, sym, ap, refl, ℕ, zero, suc, ◌+◌, ◌<◌, ◌≤◌, nat_eq, take, List, [], ◌∷◌, ◌++◌, Bool, true, false, true≢false, cond, length, get_or, set, Some, None, eqb-true, eq-eqb, arith}
use Rattle.std.specs.Option.{option_map_or}
use Rattle.std.specs.Prelude.{vec_len, replicate}
use Rattle.std.proofs.lemmas.List.{get_or_read, get_or-set_same, get_or-set_other}
use Rattle.typed_values.specs.declared.letter.Sender.TheVariants.{Split}
use Rattle.typed_values.specs.declared.record.Delay.{Delay}
use Rattle.typed_values.specs.Delays.{due_at}
use Rattle.sf_outside.specs.declared.ingress.IngressRecord.{IngressRecord}
use Rattle.address_routing.specs.declared.module.Module.{Module}
use Rattle.run_record.specs.declared.entry.Entry.{Entry}
use Rattle.run_record.specs.declared.entry.Step.TheVariants as step
use Rattle.run_record.specs.Letters.{letters_of}
use Rattle.run_record.specs.Machine.{took}
use Rattle.partition_core.specs.Work.{Work, own_in, done, with_posted, sent}
use Rattle.statefun_driver.specs.declared.progress.Progress.{Progress}
use Rattle.statefun_driver.specs.Turns.{Control, recorded, entry_of, take_record, due_recorded, send_due}
use Rattle.statefun_driver.specs.Work.{here}

-- ---- counts that are not there are 0

zeros : (k i : ℕ) → ◌≡◌ {A = ℕ} (get_or (replicate k 0) i 0) 0
zeros zero i = refl
zeros (suc k) zero = refl
zeros (suc k) (suc i) = zeros k i

pub padded : (xs : List ℕ) (n k i : ℕ) → length xs ≤ n → ◌≡◌ {A = ℕ} (get_or (take n xs ++ replicate k 0) i 0) (get_or xs i 0)
padded [] zero k i h = zeros k i
padded [] (suc n) k i h = zeros k i
padded (x ∷ xs) zero k i h = absurd (omega (arith, h))
padded (x ∷ xs) (suc n) k zero h = refl
padded (x ∷ xs) (suc n) k (suc i) h = padded xs n k i (omega (arith, h))

-- ---- a record is taken

took_work : (m : Module) (split : ℕ) (found : IngressRecord) (counts : ℕ → ℕ) (work : Work) → with_posted (letters_of m split found) work ≡ done (step.Take split) (took m split (own_in counts work (Split split)) found) work
unfolding done
took_work m split found counts work = refl

pub counted_one : (xs : List ℕ) (split n : ℕ) → split < length xs → n ≡ get_or xs split 0 + 1 → ◌≡◌ {A = ℕ → ℕ} (λ (other : ℕ). get_or (set xs split n) other 0) (λ (other : ℕ). cond (nat_eq split other) (get_or xs split 0 + 1) (get_or xs other 0))
counted_one xs split n inside is = fun_ext (λ other. by other (nat_eq split other) refl)
  where
    by : (other : ℕ) (t : Bool) → nat_eq split other ≡ t → get_or (set xs split n) other 0 ≡ cond t (get_or xs split 0 + 1) (get_or xs other 0)
    by other true e = ap (λ k. get_or (set xs split n) k 0) (sym (eqb-true split other e)) ∙ get_or-set_same xs split n 0 inside ∙ is
    by other false e = get_or-set_other xs split other n 0 (λ same. true≢false (sym (eq-eqb split other (sym same)) ∙ e))

pub take_is : (m : Module) (split : ℕ) (found : IngressRecord) (c : Control) (counts : ℕ → ℕ) (work : Work) (entries : List Entry) → ◌≡◌ {A = ℕ → ℕ} counts (λ (other : ℕ). cond (nat_eq split other) (c.counts split + 1) (c.counts other)) → work ≡ with_posted (letters_of m split found) c.work → entries ≡ c.entries ++ entry_of m c (step.Take split) ∷ [] → record c { counts = counts; work = work; entries = entries } ≡ take_record m split found c
unfolding recorded
take_is m split found c counts work entries e f g = λ i. record c { counts = e i; work = (f ∙ took_work m split found c.counts c.work) i; entries = g i }

-- the count of a split, as it is read
pub count_at : (p : Progress) (split n offset : ℕ) → split < n → vec_len p.counts ≡ n → offset ≡ get_or p.counts.items split offset → offset ≡ (here p).counts split
unfolding here
count_at p split n offset inside is e = get_or_read p.counts.items split offset (omega (arith, p.counts.ok.0)) e 0

-- ---- a delayed letter is sent

pub due_is : (m : Module) (due : Delay × List Delay) (c : Control) (work : Work) (entries : List Entry) → work ≡ sent c.moment due c.work → entries ≡ c.entries ++ entry_of m c (step.Due due.0.sender c.moment) ∷ [] → record c { work = work; entries = entries } ≡ due_recorded m due c
unfolding recorded sent
due_is m due c work entries f g = λ i. record c { work = f i; entries = g i }

-- one more is sent
pub sent_more : (m : Module) (n : ℕ) (due : Delay × List Delay) (c : Control) → due_at c.moment c.work.delays ≡ Some due → send_due m (suc n) c ≡ send_due m n (due_recorded m due c)
sent_more m n due c e = ap (λ o. option_map_or (λ due. send_due m n (due_recorded m due c)) o c) e

pub sent_none : (m : Module) (n : ℕ) (c : Control) → due_at c.moment c.work.delays ≡ None → send_due m n c ≡ c
sent_none m zero c e = refl
sent_none m (suc n) c e = ap (λ o. option_map_or (λ due. send_due m n (due_recorded m due c)) o c) e
