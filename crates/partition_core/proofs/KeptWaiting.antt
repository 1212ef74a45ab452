-- What kept work stands for.
use mathlib.Core.Path.{fun_ext}
use Rattle.std.proofs.Common.{◌≡◌, ◌∙◌, sym, ap, subst, refl, ℕ, List, [], ◌∷◌, ◌++◌, Bool, true, false, cond, not, map, filter, eq-eqb}
use Rattle.std.specs.Prelude.{◌||◌}
use Rattle.std.specs.List.{AllByRecursion, IsDistinct, list_any}
use Rattle.std.proofs.lemmas.Bool.{and_parts, false_from_ne_true}
use Rattle.typed_values.specs.declared.address.Address.{Address}
use Rattle.typed_values.specs.declared.letter.Sender.{Sender}
use Rattle.typed_values.specs.declared.letter.Sender.TheVariants.{Split, Function}
use Rattle.typed_values.specs.declared.letter.Letter.{Letter}
use Rattle.typed_values.specs.Sameness.{same_sender, same_address}
use Rattle.typed_values.proofs.Sameness.{same_address-Decides}
use Rattle.batch_queue.specs.Post.{Post, no_post, put, waits, is_ready, IsAll}
use Rattle.run_record.specs.Machine.{is_of_pair, arguments_of, arguments_at}
use Rattle.partition_core.specs.Work.{Work, put_all, own_in, mail_in, state_of}
use Rattle.partition_core.specs.KeptWork.{kept_work}
use Rattle.partition_core.specs.Laws.{IsLined, KeptIsTheState, KeptLettersWait}
use Rattle.partition_core.proofs.Posting.{put_all_mail, put_all_owned}

-- ---- the mail of letters that arrive one by one

no_arguments : (sender : Sender) (target : Address) → arguments_of sender target [] ≡ []
unfolding arguments_of
no_arguments sender target = refl

pub mail_of_all : (letters : List Letter) (sender : Sender) (target : Address) → arguments_of sender target ((put_all letters no_post).letters target) ≡ arguments_of sender target letters
mail_of_all letters sender target = put_all_mail letters no_post sender target ∙ ap (λ xs. xs ++ arguments_of sender target letters) (no_arguments sender target)

-- ---- letters to one address among all

narrowed : {X : Type 0} (p q : X → Bool) → ((x : X) → p x ≡ true → q x ≡ true) → (xs : List X) → filter p (filter q xs) ≡ filter p xs
narrowed p q wider [] = refl
narrowed p q wider (x ∷ xs) = by (q x) refl (narrowed p q wider xs)
  where
    by : (t : Bool) → q x ≡ t → filter p (filter q xs) ≡ filter p xs → filter p (cond t (x ∷ filter q xs) (filter q xs)) ≡ cond (p x) (x ∷ filter p xs) (filter p xs)
    by true e more = ap (λ rest. cond (p x) (x ∷ rest) rest) more
    by false e more = more ∙ ap (λ b. cond b (x ∷ filter p xs) (filter p xs)) (sym (false_from_ne_true (p x) (λ h. let t : true ≡ false = sym (wider x h) ∙ e in absurd cc)))

of_target : (sender : Sender) (target : Address) (letter : Letter) → is_of_pair sender target letter ≡ true → same_address target letter.target ≡ true
of_target sender target letter is = (same_address-Decides target letter.target).1 (sym ((same_address-Decides letter.target target).0 (and_parts (same_sender letter.sender sender) (same_address letter.target target) is).1))

of_each_mail : (post : Post) (all : List Letter) → IsAll post all → (sender : Sender) (target : Address) → arguments_of sender target all ≡ arguments_of sender target (post.letters target)
unfolding arguments_of
of_each_mail post all is sender target =
    ap (map (λ (letter : Letter). letter.argument)) (sym (narrowed (is_of_pair sender target) (λ (letter : Letter). same_address target letter.target) (of_target sender target) all))
    ∙ ap (λ letters. map (λ (letter : Letter). letter.argument) (filter (is_of_pair sender target) letters)) (is.of_each target)

-- ---- the same state

pub kept_is_the_state : KeptIsTheState
unfolding state_of
kept_is_the_state counts given work kept is =
    let now : Work = kept_work kept.letters kept.states kept.delays in
    let mail : mail_in now ≡ mail_in work =
    fun_ext (λ sender. fun_ext (λ target. mail_of_all kept.letters sender target ∙ of_each_mail work.post kept.letters is.letters sender target)) in
    let own : own_in counts now ≡ own_in counts work =
    fun_ext (λ sender. own_of_each sender) in
    (own, mail, λ i. record { own = own i; mail = mail i; egress = λ address name. arguments_at address name given })
  where
    own_of_each : (sender : Sender) → own_in counts (kept_work kept.letters kept.states kept.delays) sender ≡ own_in counts work sender
    own_of_each (Split split) = refl
    own_of_each (Function address) = λ i. own_in counts (record { post = work.post; cells = is.states.cells i; seen = is.states.seen i; delays = is.delays i }) (Function address)

-- ---- who stands in line

none_flies : (letters : List Letter) (post : Post) → ((address : Address) → post.in_flight address ≡ 0) → (address : Address) → (put_all letters post).in_flight address ≡ 0
none_flies [] post none address = none address
none_flies (letter ∷ letters) post none address = none_flies letters (put letter post) one address
  where
    one : (a : Address) → (put letter post).in_flight a ≡ 0
    one a = by (same_address letter.target a)
      where
        by : (t : Bool) → cond t (post.in_flight letter.target) (post.in_flight a) ≡ 0
        by true = none letter.target
        by false = none a

abbrev stands : Address → List Address → Bool
stands address line = list_any (same_address address) line

same_itself : (address : Address) → same_address address address ≡ true
same_itself address = (same_address-Decides address address).1 refl

alike : (a b : Address) → same_address a b ≡ false → same_address b a ≡ false
alike a b apart = false_from_ne_true (same_address b a) (λ e. let t : true ≡ false = sym ((same_address-Decides a b).1 (sym ((same_address-Decides b a).0 e))) ∙ apart in absurd cc)

stands_last : (address who : Address) (line : List Address) → stands address (line ++ who ∷ []) ≡ (stands address line || same_address address who)
stands_last address who [] = by (same_address address who)
  where
    by : (b : Bool) → (b || false) ≡ b
    by true = refl
    by false = refl
stands_last address who (first ∷ line) = by (same_address address first) (stands_last address who line)
  where
    by : (b : Bool) → stands address (line ++ who ∷ []) ≡ (stands address line || same_address address who) → (b || stands address (line ++ who ∷ [])) ≡ ((b || stands address line) || same_address address who)
    by true more = refl
    by false more = more

-- an address goes last, where it does not stand in line yet
abbrev with_last : Address → List Address → List Address
with_last who line = cond (stands who line) line (line ++ who ∷ [])

stands_with : (address who : Address) (line : List Address) → stands address (with_last who line) ≡ cond (same_address who address) true (stands address line)
stands_with address who line = by (stands who line) (same_address who address) refl refl
  where
    by : (s t : Bool) → stands who line ≡ s → same_address who address ≡ t → stands address (cond s line (line ++ who ∷ [])) ≡ cond t true (stands address line)
    by true true e f = subst (λ a. stands a line ≡ true) ((same_address-Decides who address).0 f) e
    by true false e f = refl
    by false true e f = stands_last address who line ∙ ap (λ b. stands address line || b) (subst (λ a. same_address a who ≡ true) ((same_address-Decides who address).0 f) (same_itself who)) ∙ ends (stands address line)
      where
        ends : (b : Bool) → (b || true) ≡ true
        ends true = refl
        ends false = refl
    by false false e f = stands_last address who line ∙ ap (λ b. stands address line || b) (alike who address f) ∙ ends (stands address line)
      where
        ends : (b : Bool) → (b || false) ≡ b
        ends true = refl
        ends false = refl

none_behind : (who : Address) (first : Address) (line : List Address) → (same_address who first || stands who line) ≡ false → (same_address who first ≡ false) × (stands who line ≡ false)
none_behind who first line none = by (same_address who first) (stands who line) none
  where
    by : (s t : Bool) → (s || t) ≡ false → (s ≡ false) × (t ≡ false)
    by true t e = absurd cc
    by false t e = (refl, e)

all_last : (P : Address → Type 0) (line : List Address) (who : Address) → AllByRecursion P line → P who → AllByRecursion P (line ++ who ∷ [])
all_last P [] who all last = (last, tt)
all_last P (first ∷ line) who all last = (all.0, all_last P line who all.1 last)

once_with : (who : Address) (line : List Address) → stands who line ≡ false → IsDistinct same_address line → IsDistinct same_address (line ++ who ∷ [])
unfolding IsDistinct
once_with who [] none once = (tt, tt)
once_with who (first ∷ line) none once =
    let parts = none_behind who first line none in
    (all_last (λ other. same_address first other ≡ false) line who once.0 (alike who first parts.0), once_with who line parts.1 once.1)

waits_more : (letters : List Letter) (letter : Letter) (in_flight : ℕ) → in_flight ≡ 0 → waits (letters ++ letter ∷ []) in_flight ≡ true
waits_more [] letter in_flight none = eq-eqb in_flight 0 none
waits_more (first ∷ letters) letter in_flight none = eq-eqb in_flight 0 none

-- none is in flight, and in line stands who has letters, each once
record Lines (post : Post) : Type 0 where
  none : (address : Address) → post.in_flight address ≡ 0
  lined : (address : Address) → stands address post.ready ≡ is_ready post address
  once : IsDistinct same_address post.ready

lines_put : (letter : Letter) (post : Post) → Lines post → Lines (put letter post)
lines_put letter post lines = record {
  none = none_flies (letter ∷ []) post lines.none;
  lined = λ address. ap (stands address) line ∙ stands_with address who post.ready ∙ ap (cond (same_address who address) true) (lines.lined address) ∙ sym (ready_now address (same_address who address));
  once = subst (IsDistinct same_address) (sym line) (by (stands who post.ready) refl);
}
  where
    who : Address
    who = letter.target

    more : waits (post.letters who ++ letter ∷ []) (post.in_flight who) ≡ true
    more = waits_more (post.letters who) letter (post.in_flight who) (lines.none who)

    line : (put letter post).ready ≡ with_last who post.ready
    line = ap (λ b. cond b (with_last who post.ready) (filter (λ other. not (same_address who other)) post.ready)) more

    ready_now : (address : Address) (t : Bool) → waits (cond t (post.letters who ++ letter ∷ []) (post.letters address)) (cond t (post.in_flight who) (post.in_flight address)) ≡ cond t true (is_ready post address)
    ready_now address true = more
    ready_now address false = refl

    by : (t : Bool) → stands who post.ready ≡ t → IsDistinct same_address (cond t post.ready (post.ready ++ who ∷ []))
    by true e = lines.once
    by false e = once_with who post.ready e lines.once

lines_put_all : (letters : List Letter) (post : Post) → Lines post → Lines (put_all letters post)
lines_put_all [] post lines = lines
lines_put_all (letter ∷ letters) post lines = lines_put_all letters (put letter post) (lines_put letter post lines)

no_lines : Lines no_post
unfolding IsDistinct
no_lines = record { none = λ address. refl; lined = λ address. refl; once = tt }

all_stand : (line rest : List Address) → ((address : Address) → stands address rest ≡ true → stands address line ≡ true) → AllByRecursion (λ address. stands address line ≡ true) rest
all_stand line [] wider = tt
all_stand line (first ∷ rest) wider = (
  wider first (ap (λ b. b || stands first rest) (same_itself first)),
  all_stand line rest (λ address e. wider address (ap (λ b. same_address address first || b) e ∙ ends (same_address address first))),
)
  where
    ends : (b : Bool) → (b || true) ≡ true
    ends true = refl
    ends false = refl

all_weaker : (P Q : Address → Type 0) → ((address : Address) → P address → Q address) → (line : List Address) → AllByRecursion P line → AllByRecursion Q line
all_weaker P Q f [] all = tt
all_weaker P Q f (first ∷ line) all = (f first all.0, all_weaker P Q f line all.1)

line_of : (post : Post) → Lines post → IsLined post
line_of post lines = record {
  ready = all_weaker (λ address. stands address post.ready ≡ true) (λ address. is_ready post address ≡ true) (λ address e. sym (lines.lined address) ∙ e) post.ready (all_stand post.ready post.ready (λ address e. e));
  lined = λ address e. lines.lined address ∙ e;
  once = lines.once;
}

pub kept_letters_wait : KeptLettersWait
kept_letters_wait letters states delays =
    let lines = lines_put_all letters no_post no_lines in
    record {
      owned = put_all_owned letters no_post (λ address. tt);
      none_in_flight = lines.none;
      line = line_of (put_all letters no_post) lines;
      mail = mail_of_all letters;
    }
