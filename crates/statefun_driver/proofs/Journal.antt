-- What an outside tells of a trace: its objects, its journal, and what was read.
use Rattle.std.proofs.Common.{◌≡◌, ◌∙◌, refl, sym, ap, subst, ℕ, zero, suc, List, [], ◌∷◌, ◌++◌, Option, Some, None}
use Rattle.std.specs.Prelude.{slice_get}
use Rattle.std.proofs.lemmas.List.{append-nil, append_assoc}
use Rattle.sf_outside.specs.Told.{more, more-nil, more-more}
use Rattle.sf_outside.specs.Splits.{Lists, split_of, record_at, Grows, Reads}
use Rattle.sf_outside.specs.declared.ingress.IngressRecord.{IngressRecord}
use Rattle.run_record.specs.declared.entry.Entry.{Entry}
use Rattle.statefun_driver.specs.declared.end.End.{End}
use Rattle.statefun_driver.specs.Seen.{Event, Read, Now, Start, Poll, Fails, Seen, Hears}
use Rattle.statefun_driver.specs.Turns.{Plan, Control}
use Rattle.statefun_driver.specs.Traces.{Trace, Ends, turns}
use Rattle.statefun_driver.specs.Runs.{link_part, link_events, IsRead, AreRead}
use Rattle.statefun_driver.proofs.Tracing.{backwards, along}

-- ---- the objects

object_one : (event : Event) (o p : Seen) → Hears event o p → p.objects ≡ o.objects
object_one (Read split offset found) o p h = ap (λ (x : Seen). x.objects) h.others
object_one (Now moment) o p h = ap (λ (x : Seen). x.objects) h.others
object_one (Start call url request) o p h = ap (λ (x : Seen). x.objects) h.others
object_one (Poll outcome) o p h = ap (λ (x : Seen). x.objects) h.others
object_one (Fails by) o p h = ap (λ (x : Seen). x.objects) h.others

pub objects_along : (plan : Plan) (c : Control) (o : Seen) (events : List Event) (d : Control) (q : Seen) → Trace plan c o events d q → q.objects ≡ o.objects
objects_along plan c o events d q t =
    along (turns plan) (λ c p. p.objects ≡ o.objects) (λ c p event r asked heard k. object_one event p r heard ∙ k) c o events d q t refl

pub objects_stay : (plan : Plan) (c : Control) (o : Seen) (entries : List Entry) (end : End) (q : Seen) → Ends plan c o entries end q → q.objects ≡ o.objects
objects_stay plan c o entries end q h = objects_along plan c o (h.leads).0 h.last q (h.leads).1

-- ---- the journal

pub journal_one : (event : Event) (o p : Seen) → Hears event o p → p.journal ≡ more o.journal (link_part event)
journal_one (Read split offset found) o p h = ap (λ (x : Seen). x.journal) h.others ∙ sym (more-nil o.journal)
journal_one (Now moment) o p h = ap (λ (x : Seen). x.journal) h.others ∙ sym (more-nil o.journal)
journal_one (Start call url request) o p h = ap (λ (x : Seen). x.journal) h.others
journal_one (Poll outcome) o p h = ap (λ (x : Seen). x.journal) h.others
journal_one (Fails by) o p h = ap (λ (x : Seen). x.journal) h.others ∙ sym (more-nil o.journal)

pub journal_is : (plan : Plan) (c : Control) (o : Seen) (events : List Event) (d : Control) (q : Seen) → Trace plan c o events d q → q.journal ≡ more o.journal (link_events events)
journal_is plan c o events d q t =
    backwards (turns plan) d q (λ c o events. q.journal ≡ more o.journal (link_events events)) (sym (more-nil q.journal))
    (λ c o event p events asked heard h. h ∙ ap (λ told. more told (link_events events)) (journal_one event o p heard) ∙ more-more o.journal (link_part event) (link_events events))
    c o events t

-- ---- the lists

pub grows_itself : (lists : Option Lists) → Grows lists lists
grows_itself None = tt
grows_itself (Some lists) = λ split. ([], sym (append-nil (split_of lists split)))

pub grows_then : (a b c : Option Lists) → Grows a b → Grows b c → Grows a c
grows_then None None None g h = tt
grows_then None None (Some z) g h = absurd h
grows_then None (Some y) c g h = absurd g
grows_then (Some x) None c g h = absurd g
grows_then (Some x) (Some y) None g h = absurd h
grows_then (Some x) (Some y) (Some z) g h = λ split.
    ((g split).0 ++ (h split).0, (h split).1 ∙ ap (λ list. list ++ (h split).0) (g split).1 ∙ append_assoc (split_of x split) (g split).0 (h split).0)

same_lists : (o p : Seen) → p.lists ≡ o.lists → Grows o.lists p.lists
same_lists o p e = subst (λ (x : Option Lists). Grows o.lists x) (sym e) (grows_itself o.lists)

pub grows_one : (event : Event) (o p : Seen) → Hears event o p → Grows o.lists p.lists
grows_one (Read split offset found) o p h = h.grows
grows_one (Now moment) o p h = same_lists o p (ap (λ (x : Seen). x.lists) h.others)
grows_one (Start call url request) o p h = same_lists o p (ap (λ (x : Seen). x.lists) h.others)
grows_one (Poll outcome) o p h = same_lists o p (ap (λ (x : Seen). x.lists) h.others)
grows_one (Fails by) o p h = h.grows

-- ---- what was read

get_append : (xs ys : List IngressRecord) (n : ℕ) (found : IngressRecord) → slice_get xs n ≡ Some found → slice_get (xs ++ ys) n ≡ Some found
get_append [] ys n found e = absurd cc
get_append (x ∷ xs) ys zero found e = e
get_append (x ∷ xs) ys (suc n) found e = get_append xs ys n found e

stands : (now : Option Lists) (told : Lists) (split offset : ℕ) (found : IngressRecord) → Reads now split offset (Some found) → Grows now (Some told) → record_at told split offset ≡ Some found
stands None told split offset found r g = absurd g
stands (Some lists) told split offset found r g =
    ap (λ list. slice_get list offset) (g split).1 ∙ get_append (split_of lists split) (g split).0 offset found (sym r)

pub read_one : (event : Event) (o p : Seen) (told : Lists) → Hears event o p → Grows p.lists (Some told) → IsRead told event
read_one (Read split offset None) o p told h g = tt
read_one (Read split offset (Some found)) o p told h g = stands p.lists told split offset found h.reads g
read_one (Now moment) o p told h g = tt
read_one (Start call url request) o p told h g = tt
read_one (Poll outcome) o p told h g = tt
read_one (Fails by) o p told h g = tt

pub are_read : (plan : Plan) (c : Control) (o : Seen) (events : List Event) (d : Control) (q : Seen) (told : Lists) → q.lists ≡ Some told → Trace plan c o events d q → AreRead told events
are_read plan c o events d q told e t =
    (backwards (turns plan) d q (λ c o events. Grows o.lists (Some told) × AreRead told events) (subst (Grows q.lists) e (grows_itself q.lists), tt)
    (λ c o event p events asked heard h. (grows_then o.lists p.lists (Some told) (grows_one event o p heard) h.0, (read_one event o p told heard h.0, h.1)))
    c o events t).1
