-- Going on over one block of a manifest.
use Rattle.std.proofs.Common.{◌≡◌, ℕ, suc, ◌+◌, ◌≤◌, max, Bool, true, false, if◌then◌else◌, List, [], ◌∷◌, ◌++◌, length, Option, Some, None, Result, Ok, Err, refl, sym, ◌∙◌, ap, subst, arith, length-append}
use Rattle.std.specs.Result.{OnOk, OnErr, IfErr}
use Rattle.std.proofs.lemmas.Bool.{and_parts, eqb-true}
use Rattle.std.proofs.lemmas.Bool.Decides.{nat_tests}
use Rattle.proto_wire.specs.declared.memory.OutOfMemory.{OutOfMemory}
use Rattle.sf_disk.specs.Moments.{Moment, newest}
use Rattle.block_log.specs.Blocks.{Body}
use Rattle.block_log.specs.Logs.{HasBlockAt}
use Rattle.store_faults.specs.declared.fault.StoreFault.{StoreFault}
use Rattle.store_faults.specs.declared.fault.StoreFault.TheVariants.{DiskFault, NotAStore, StoreOfOther, OutOfMemory as WantsMemory}
use Rattle.folder_messages.specs.declared.manifest.Manifest.{Manifest}
use Rattle.folder_messages.specs.declared.manifest.Manifest.TheVariants as says
use Rattle.folder_messages.specs.declared.manifest.Job.{Job}
use Rattle.folder_messages.specs.declared.manifest.Opening.{Opening}
use Rattle.folder_messages.specs.declared.manifest.Complete.{Complete}
use Rattle.folder_messages.specs.ManifestSpelling.{manifest_value}
use Rattle.folder_form.specs.declared.shape.Shape.{Shape}
use Rattle.folder_form.specs.Folders.{Break, Checkpoint, Contents, Files, Part, Reading, and_then, is_next, mark_of, or_break, said, spelled_at, step_in, valued, with_checkpoint, with_leg}
use Rattle.snapshot_files.specs.declared.store.Store.{Store}
use Rattle.snapshot_files.specs.Stores.{AreKept, complete_in, completes}
use Rattle.snapshot_files.specs.Stores.{newest as count_of}
use Rattle.snapshot_files.specs.Steps.{Advances, AreHeld, HasParts, IsReading, Knows, RefusesBlock, RefusesParts, checked}
use Rattle.snapshot_files.proofs.Growing.{are_pushed}
use Rattle.snapshot_files.proofs.Places.{block_is}
use Rattle.snapshot_files.proofs.Folding.{then_is, then_err}

-- ---- a checkpoint that may come next

pub next_facts : (shape : Shape) (n : ℕ) (complete : Complete) → is_next shape n complete ≡ true → (complete.number ≡ n + 1) × (complete.number ≤ complete.leg) × (length complete.places ≡ shape.partitions)
unfolding is_next
next_facts shape n complete is =
    let a = and_parts _ _ is in
    let b = and_parts _ _ a.0 in
    let c = and_parts _ _ b.0 in
    let d = and_parts _ _ c.0 in
    (eqb-true complete.number (n + 1) d.0, grind (arith, nat_tests, d.1), eqb-true (length complete.places) shape.partitions b.1)

-- a place was pushed, or memory ran out
pub pushed_length : (r : Result (Unit {0}) OutOfMemory) (old new : List ℕ) (place : ℕ) → OnOk r (new ≡ old ++ place ∷ []) → OnErr r (new ≡ old) → length new ≤ length old + 1
pushed_length (Ok u) old new place ok err = omega (arith, ap length ok, length-append old (place ∷ []))
pushed_length (Err e) old new place ok err = omega (arith, ap length err)

-- ---- what a block says

kept_length : (shape : Shape) (files : Files) (places : List ℕ) (checkpoints : List Checkpoint) → AreKept shape files places checkpoints → length places ≡ length checkpoints
kept_length shape files [] [] are = refl
kept_length shape files (place ∷ places) (checkpoint ∷ checkpoints) are = ap suc (kept_length shape files places checkpoints are.1)
kept_length shape files [] (checkpoint ∷ checkpoints) are = absurd are
kept_length shape files (place ∷ places) [] are = absurd are

pub counted : (store : Store) (contents : Contents) (files : Files) → Knows store contents files → count_of store ≡ length contents.checkpoints
counted store contents files knows = kept_length store.shape files store.completes contents.checkpoints knows.kept

parts_made : (t : Bool) (r o : Reading (List Part)) (f : List Part → Reading Contents) (p : Reading Contents) (parts : List Part) (next : Contents) → (o ≡ Ok parts → ⊥) → f parts ≡ Ok next → (if t then r else o) ≡ Ok parts → (if t then and_then r f else p) ≡ Ok next
parts_made true r o f p parts next never made is = then_is r f parts is ∙ made
parts_made false r o f p parts next never made is = absurd (never is)

parts_refused : (t : Bool) (r o : Reading (List Part)) (f : List Part → Reading Contents) (p : Reading Contents) (e : Break) → (o ≡ Err e → p ≡ Err e) → (if t then r else o) ≡ Err e → (if t then and_then r f else p) ≡ Err e
parts_refused true r o f p e same is = then_err r f e is
parts_refused false r o f p e same is = same is

break_same : {A B : Type 0} (place : ℕ) (e : Break) → or_break {A = A} 0 place None ≡ Err e → or_break {A = B} 0 place None ≡ Err e
break_same place e is = let same : record { file = 0; place = place } ≡ e = cc in ap (λ (x : Break). Err x) same

module _ (shape : Shape) (files : Files) (place : ℕ) (contents : Contents) (body : Body) (found : Option Manifest) (read : found ≡ valued (manifest_value body)) where
  step_is : step_in shape files place contents body ≡ said shape files place contents found
  step_is = ap (said shape files place contents) (sym read)

  pub says_opening : (opening : Opening) → found ≡ Some (says.Opening opening) → step_in shape files place contents body ≡ Ok (with_leg opening.leg contents)
  says_opening opening is = step_is ∙ ap (said shape files place contents) is

  pub says_job : (job : Job) → found ≡ Some (says.Job job) → step_in shape files place contents body ≡ Err (record { file = 0; place = place })
  says_job job is = step_is ∙ ap (said shape files place contents) is

  pub says_nothing : found ≡ None → step_in shape files place contents body ≡ Err (record { file = 0; place = place })
  says_nothing is = step_is ∙ ap (said shape files place contents) is

  module _ (complete : Complete) (is : found ≡ Some (says.Complete complete)) (count : ℕ) (same : count ≡ length contents.checkpoints) where
    pub says_complete : (parts : List Part) → checked shape files place count complete ≡ Ok parts → step_in shape files place contents body ≡ Ok (with_checkpoint (mark_of complete) parts contents)
    says_complete parts made =
        step_is ∙ ap (said shape files place contents) is
        ∙ parts_made (is_next shape (length contents.checkpoints) complete) _ _ (λ ps. Ok (with_checkpoint (mark_of complete) ps contents)) _ parts (with_checkpoint (mark_of complete) parts contents) (λ e. absurd cc) refl (ap (λ (n : ℕ). checked shape files place n complete) (sym same) ∙ made)

    pub breaks_complete : (e : Break) → checked shape files place count complete ≡ Err e → step_in shape files place contents body ≡ Err e
    breaks_complete e breaks =
        step_is ∙ ap (said shape files place contents) is
        ∙ parts_refused (is_next shape (length contents.checkpoints) complete) _ _ (λ ps. Ok (with_checkpoint (mark_of complete) ps contents)) _ e (break_same place e) (ap (λ (n : ℕ). checked shape files place n complete) (sym same) ∙ breaks)

    pub spells_it : complete_in body ≡ Some complete
    unfolding complete_in
    spells_it = ap completes (sym read ∙ is)

-- ---- a checkpoint that was read

module _ (store now : Store) (place : ℕ) (a : List Moment) (complete : Complete) (read : (m : Moment) → newest a ≡ Some m → (files : Files) (body : Body) → AreHeld store.manifest store.logs.items files m → HasBlockAt (files 0) place body → Some (says.Complete complete) ≡ valued (manifest_value body)) where
  pub checkpoint_next : (r : Result (Unit {0}) StoreFault) → OnOk r (HasParts store a (λ files. checked store.shape files place (count_of store) complete)) → OnOk r (now.completes ≡ store.completes ++ place ∷ []) → OnOk r (now.stored_leg ≡ max store.stored_leg complete.leg) → IsReading store now → OnOk r (Advances store now place a)
  checkpoint_next (Err e) parts places leg others = tt
  checkpoint_next (Ok u) parts places leg others = λ m told files contents body held knows at.
      let p = parts m told files held.others in
      let same = counted store contents files knows in
      let said_here = read m told files body held at in
      let next : Contents = with_checkpoint (mark_of complete) p.0 contents in (
        next,
        says_complete store.shape files place contents body (Some (says.Complete complete)) said_here complete refl (count_of store) same p.0 p.1,
        record {
          kept = subst (λ (s : Shape). AreKept s files now.completes next.checkpoints) (sym others.shape) (subst (λ (l : List ℕ). AreKept store.shape files l next.checkpoints) (sym places)
              (are_pushed store.shape files store.completes contents.checkpoints place (record { mark = mark_of complete; parts = p.0 }) knows.kept (record {
                complete = complete;
                block = ap (spelled_at complete_in) (block_is (files 0) place body at) ∙ spells_it store.shape files place contents body (Some (says.Complete complete)) said_here complete refl (count_of store) same;
                mark = refl;
                parts = taken_parts (is_next store.shape (count_of store) complete) _ _ p.0 (λ e. absurd cc) p.1;
              })));
          leg_is = leg ∙ ap (λ (n : ℕ). max n complete.leg) knows.leg_is;
        },
      )
    where
      taken_parts : (t : Bool) (r o : Reading (List Part)) (parts : List Part) → (o ≡ Ok parts → ⊥) → (if t then r else o) ≡ Ok parts → r ≡ Ok parts
      taken_parts true r o parts never is = is
      taken_parts false r o parts never is = absurd (never is)

  refused_by : (fault : StoreFault) → RefusesParts store a (λ files. checked store.shape files place (count_of store) complete) fault → RefusesBlock store place a fault
  refused_by DiskFault r = tt
  refused_by (NotAStore file at) r = λ m told files contents body held knows there.
      breaks_complete store.shape files place contents body (Some (says.Complete complete)) (read m told files body held there) complete refl (count_of store) (counted store contents files knows) (record { file = file; place = at }) (r m told files held.others)
  refused_by (StoreOfOther kept given) r = absurd r
  refused_by WantsMemory r = tt

  pub checkpoint_refused : (r : Result (Unit {0}) StoreFault) → IfErr r (RefusesParts store a (λ files. checked store.shape files place (count_of store) complete)) → IfErr r (RefusesBlock store place a)
  checkpoint_refused (Ok u) h = tt
  checkpoint_refused (Err e) h = refused_by e h
