-- Who is in line has letters, none of them in flight.
use Rattle.std.proofs.Common.{◌≡◌, ◌∙◌, refl, sym, ap, subst, ℕ, List, [], ◌∷◌, ◌++◌, Bool, true, false, cond, filter, slice_get, Some}
use Rattle.std.specs.Prelude.{not}
use Rattle.std.specs.List.{AllByRecursion, list_any}
use Rattle.typed_values.specs.declared.address.Address.{Address}
use Rattle.typed_values.specs.declared.letter.Letter.{Letter}
use Rattle.typed_values.specs.Sameness.{same_address}
use Rattle.typed_values.proofs.Sameness.{same_address-Decides}
use Rattle.batch_queue.specs.Post.{Post, waits, is_ready, with_letters, put}
use Rattle.run_record.specs.declared.entry.Step.{Step}
use Rattle.run_record.specs.declared.entry.Step.TheVariants as step
use Rattle.partition_core.specs.Work.{settled, put_all}
use Rattle.partition_core.specs.Laws.{AreReady}

pub same_itself : (address : Address) → same_address address address ≡ true
same_itself address = (same_address-Decides address address).1 refl

all_map : (P Q : Address → Type 0) (line : List Address) → ((a : Address) → P a → Q a) → AllByRecursion P line → AllByRecursion Q line
all_map P Q [] f h = tt
all_map P Q (a ∷ line) f h = (f a h.0, all_map P Q line f h.1)

all_push : (P : Address → Type 0) (line : List Address) (a : Address) → AllByRecursion P line → P a → AllByRecursion P (line ++ a ∷ [])
all_push P [] a h k = (k, tt)
all_push P (b ∷ line) a h k = (h.0, all_push P line a h.1 k)

all_filter : (P Q : Address → Type 0) (test : Address → Bool) (line : List Address) → ((a : Address) → test a ≡ true → P a → Q a) → AllByRecursion P line → AllByRecursion Q (filter test line)
all_filter P Q test [] f h = tt
all_filter P Q test (a ∷ line) f h = by (test a) refl (all_filter P Q test line f h.1)
  where
    by : (t : Bool) → test a ≡ t → AllByRecursion Q (filter test line) → AllByRecursion Q (cond t (a ∷ filter test line) (filter test line))
    by true e more = (f a e h.0, more)
    by false e more = more

not_true : (b : Bool) → not b ≡ true → b ≡ false
not_true true e = absurd cc
not_true false e = refl

pub first_all : (P : Address → Type 0) (line : List Address) (a : Address) → slice_get line 0 ≡ Some a → AllByRecursion P line → P a
first_all P [] a e h = absurd cc
first_all P (b ∷ line) a e h = let same : b ≡ a = cc in subst P same h.0

module _ (post : Post) (address : Address) (letters : List Letter) (count : ℕ) where
  still : (other : Address) → (same_address address other ≡ true → waits letters count ≡ true) → is_ready post other ≡ true → waits (cond (same_address address other) letters (post.letters other)) (cond (same_address address other) count (post.in_flight other)) ≡ true
  still other f e = by (same_address address other) refl
    where
      by : (t : Bool) → same_address address other ≡ t → waits (cond t letters (post.letters other)) (cond t count (post.in_flight other)) ≡ true
      by true s = f s
      by false s = e

  itself : waits letters count ≡ true → waits (cond (same_address address address) letters (post.letters address)) (cond (same_address address address) count (post.in_flight address)) ≡ true
  itself w = ap (λ t. waits (cond t letters (post.letters address)) (cond t count (post.in_flight address))) (same_itself address) ∙ w

  -- whatever letters an address has now, and whoever of them is in flight
  pub line_with : AreReady post → AreReady (with_letters address letters count post)
  line_with h = by (waits letters count) refl
    where
      Now : Address → Type 0
      Now = λ other. waits (cond (same_address address other) letters (post.letters other)) (cond (same_address address other) count (post.in_flight other)) ≡ true

      Was : Address → Type 0
      Was = λ other. is_ready post other ≡ true

      in_line : (t : Bool) → waits letters count ≡ true → AllByRecursion Now (cond t post.ready (post.ready ++ address ∷ []))
      in_line true w = all_map Was Now post.ready (λ other e. still other (λ s. w) e) h
      in_line false w = all_push Now post.ready address (all_map Was Now post.ready (λ other e. still other (λ s. w) e) h) (itself w)

      by : (b : Bool) → waits letters count ≡ b → AllByRecursion Now (cond b (cond (list_any (same_address address) post.ready) post.ready (post.ready ++ address ∷ [])) (filter (λ other. not (same_address address other)) post.ready))
      by true w = in_line (list_any (same_address address) post.ready) w
      by false w = all_filter Was Now (λ other. not (same_address address other)) post.ready
          (λ other n e. still other (λ s. absurd (let k : true ≡ false = sym s ∙ not_true (same_address address other) n in cc)) e) h

pub line_put_all : (letters : List Letter) (post : Post) → AreReady post → AreReady (put_all letters post)
line_put_all [] post h = h
line_put_all (letter ∷ letters) post h =
    line_put_all letters (put letter post) (line_with post letter.target (post.letters letter.target ++ letter ∷ []) (post.in_flight letter.target) h)

pub line_settled : (s : Step) (post : Post) → AreReady post → AreReady (settled s post)
line_settled (step.Take split) post h = h
line_settled (step.Batch reply) post h = line_with post reply.address _ 0 h
line_settled (step.Register reply) post h = line_with post reply.address _ 0 h
line_settled (step.Due address moment) post h = h
