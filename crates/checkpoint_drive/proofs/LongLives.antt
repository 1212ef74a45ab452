-- A folder stays good over many runs, whatever crashes came between them.
use Rattle.std.proofs.Common.{◌≡◌, ℕ, List, [], ◌∷◌, ◌++◌, Option, Some, IfSome, sym, ◌∙◌, ap, subst, arith, append_assoc, append-nil}
use Rattle.std.specs.Prelude.{IsTrue}
use Rattle.sf_outside.specs.Splits.{Lists, GrowTo}
use Rattle.sf_outside.specs.Answers.{Extends-none}
use Rattle.sf_outside.specs.declared.call.Exchange.{Exchange}
use Rattle.sf_outside.specs.declared.call.LinkEvent.{LinkEvent}
use Rattle.sf_disk.specs.Moments.{Moment, Folder, IsImage, MightHaveLeft, newest}
use Rattle.address_routing.specs.declared.module.Module.{Module}
use Rattle.address_routing.specs.Routing.{is_routable}
use Rattle.run_record.specs.Machine.{first_state}
use Rattle.run_record.specs.Backed.{AreBacked}
use Rattle.folder_form.specs.Folders.{Contents, record_of}
use Rattle.egress_commit.specs.Epochs.{Epoch}
use Rattle.checkpoint_state.specs.Meaning.{state_in}
use Rattle.checkpoint_state.specs.Laws.{BackingGrows, ListsKeepGood}
use Rattle.statefun_driver.specs.Traces.{IsFront}
use Rattle.statefun_driver.specs.Runs.{AreModest}
use Rattle.statefun_driver.specs.Stretches.{AreUpTo}
use Rattle.checkpoint_drive.specs.Laws.{IsBackedBy}
use Rattle.checkpoint_drive.specs.Good.{AreKept, BeginsGood, EndsTruly, HasGood, HasGrown, RunsKeepGood, StaysGood}
use Rattle.checkpoint_drive.specs.Lives.{AreLives, IsLife, Life, LivesKeepGood, exchanged_in}
use Rattle.checkpoint_drive.proofs.Whole.{stands_once}

-- what is known of runs, and of contents
pub record Laws : Type 0 where
  pub runs : RunsKeepGood
  pub lists : ListsKeepGood
  pub backing : BackingGrows

-- ---- growing

front_then : {A : Type 0} (a b c : List A) → IsFront a b → IsFront b c → IsFront a c
front_then {A} a b c first second = (first.0 ++ second.0, second.1 ∙ ap (λ (l : List A). l ++ second.0) first.1 ∙ append_assoc a first.0 second.0)

kept_then : (a b c : Contents) (x y z : List Epoch) → AreKept a x b y → AreKept b y c z → AreKept a x c z
kept_then a b c x y z first second = record {
  checkpoints = front_then a.checkpoints b.checkpoints c.checkpoints first.checkpoints second.checkpoints;
  entries = front_then (record_of a) (record_of b) (record_of c) first.entries second.entries;
  egress = front_then x y z first.egress second.egress;
}

kept_as : (a b c : Contents) (x y z : List Epoch) → a ≡ b → x ≡ y → AreKept b y c z → AreKept a x c z
kept_as a b c x y z same also kept = subst (λ (e : Contents). AreKept e x c z) (sym same) (subst (λ (e : List Epoch). AreKept b e c z) (sym also) kept)

module _ (laws : Laws) (m : Module) (text : List ℕ) (told : Lists) (first : Folder) where
  at_first : HasGood m text told first → HasGrown m text told told (Some []) [] first first
  at_first g = record {
    contents = g.contents;
    epochs = g.epochs;
    stood = g.stands;
    now = g.contents;
    committed = g.epochs;
    stands = g.stands;
    good = g.good;
    are = g.are;
    kept = record {
      checkpoints = ([], sym (append-nil (g.contents).checkpoints));
      entries = ([], sym (append-nil (record_of g.contents)));
      egress = ([], sym (append-nil g.epochs));
    };
    backed = λ others b. subst (λ (l : List Exchange). AreBacked l m told first_state (record_of g.contents)) (sym (append-nil others)) b;
  }

  -- over lists that have grown
  over_longer : (one other : Lists) (exchanges : List Exchange) (folder : Folder) → GrowTo one other → HasGrown m text told one (Some []) exchanges first folder → HasGrown m text told other (Some []) exchanges first folder
  over_longer one other exchanges folder grow h = record {
    contents = h.contents;
    epochs = h.epochs;
    stood = h.stood;
    now = h.now;
    committed = h.committed;
    stands = h.stands;
    good = laws.lists m one other h.now grow h.good;
    are = h.are;
    kept = h.kept;
    backed = λ others b.
        let all = h.good.each h.now.checkpoints [] (sym (append-nil h.now.checkpoints)) in
        subst (AreBacked (others ++ exchanges) m other first_state) (append-nil (record_of h.now))
        (laws.backing (others ++ exchanges) (others ++ exchanges) m one other first_state (state_in h.now) (record_of h.now) [] (Extends-none (others ++ exchanges)) grow (h.backed others b) all.replays tt);
  }

  -- and then out of that folder
  grown_then : (one other : Lists) (exchanges more : List Exchange) (middle last : Folder)
      → HasGrown m text told one (Some []) exchanges first middle → HasGrown m text one other (Some []) more middle last → HasGrown m text told other (Some []) (exchanges ++ more) first last
  grown_then one other exchanges more middle last h k =
      let once = stands_once text middle h.now k.contents h.committed k.epochs h.stands k.stood in
      record {
        contents = h.contents;
        epochs = h.epochs;
        stood = h.stood;
        now = k.now;
        committed = k.committed;
        stands = k.stands;
        good = k.good;
        are = k.are;
        kept = kept_then h.contents h.now k.now h.epochs h.committed k.committed h.kept (kept_as h.now k.contents k.now h.committed k.epochs k.committed once.0 once.1 k.kept);
        backed = λ others b.
            subst (λ (l : List Exchange). IsBackedBy l m other k.now) (append_assoc others exchanges more)
            (k.backed (others ++ exchanges) (subst (IsBackedBy (others ++ exchanges) m one) once.0 (h.backed others b)));
      }

  good_there : (later : Lists) (exchanges : List Exchange) (folder : Folder) → HasGrown m text told later (Some []) exchanges first folder → HasGood m text later folder
  good_there later exchanges folder h = record { contents = h.now; epochs = h.committed; stands = h.stands; good = h.good; are = h.are }

-- ---- one life

none_started : (leg : ℕ) → AreUpTo leg []
none_started leg call url request there = absurd (let k = there.1 in omega (arith, k))

one_later : (o : Option Lists) (a b : Lists) → o ≡ Some a → o ≡ Some b → a ≡ b
one_later o a b is_a is_b = cc

module _ (laws : Laws) (m : Module) (text : List ℕ) (routable : IsTrue (is_routable m)) (modest : AreModest m.endpoints) (told : Lists) (first : Folder) where
  -- what a crash leaves of it has grown out of the first folder, where all that it may begin with had
  module _ (may : Folder → Type 0) (one : Lists) (exchanges : List Exchange)
      (grown : (folder : Folder) → may folder → HasGrown m text told one (Some []) exchanges first folder) (life : Life) (is : IsLife m text may one life) where
    longer : (folder : Folder) → may folder → HasGrown m text told is.born.now (Some []) exchanges first folder
    longer folder there = over_longer laws m text told first one is.born.now exchanges folder is.born.grown (grown folder there)

    begins_good : BeginsGood m text is.born.now life.before is.born.first
    begins_good = record {
      each = λ folder image. good_there laws m text told first is.born.now exchanges folder (longer folder (is.born.each folder image));
      fresh = λ contents epochs stands. subst (λ (j : Option (List LinkEvent)). IfSome j (AreUpTo contents.leg)) (sym is.born.journal) (none_started contents.leg);
    }

    stays_good : StaysGood m text is.born.now is.born.first life.old life.new life.before life.after life.end
    stays_good = laws.runs m life.options text life.old life.new life.before life.after life.end routable modest is.driven is.born.now is.born.first is.born.lists is.born.is_first begins_good

    as_told : (earlier folder : Folder) → HasGrown m text is.born.now stays_good.later life.before.journal life.after.exchanges earlier folder
        → HasGrown m text is.born.now is.later (Some []) life.after.exchanges earlier folder
    as_told earlier folder h =
        subst (λ (j : Option (List LinkEvent)). HasGrown m text is.born.now is.later j life.after.exchanges earlier folder) is.born.journal
        (subst (λ (later : Lists). HasGrown m text is.born.now later life.before.journal life.after.exchanges earlier folder) (one_later life.after.lists stays_good.later is.later stays_good.lists is.lists) h)

    one_life : (folder : Folder) → MightHaveLeft life.old life.new folder → HasGrown m text told is.later (Some []) (exchanges ++ life.after.exchanges) first folder
    one_life folder left =
        let l = stays_good.left folder left in
        grown_then laws m text told first is.born.now is.later exchanges life.after.exchanges l.0 folder (longer l.0 (is.born.each l.0 l.1)) (as_told l.0 folder l.2)

  -- ---- all of them

  pub lives_on : (lives : List Life) (may : Folder → Type 0) (one : Lists) (exchanges : List Exchange) (last : Folder)
      → ((folder : Folder) → may folder → HasGrown m text told one (Some []) exchanges first folder) → AreLives m text may one lives last
      → (later : Lists) × HasGrown m text told later (Some []) (exchanges ++ exchanged_in lives) first last
  lives_on [] may one exchanges last grown are = (one, subst (λ (l : List Exchange). HasGrown m text told one (Some []) l first last) (sym (append-nil exchanges)) (grown last are))
  lives_on (life ∷ lives) may one exchanges last grown are =
      let r = lives_on lives (MightHaveLeft life.old life.new) are.0.later (exchanges ++ life.after.exchanges) last (one_life may one exchanges grown life are.0) are.1 in
      (r.0, subst (λ (l : List Exchange). HasGrown m text told r.0 (Some []) l first last) (append_assoc exchanges life.after.exchanges (exchanged_in lives)) r.1)

  -- how the last one ended
  pub last_ends : (lives : List Life) (may : Folder → Type 0) (one : Lists) (exchanges : List Exchange)
      → ((folder : Folder) → may folder → HasGrown m text told one (Some []) exchanges first folder)
      → (last : Life) (folder : Folder) → AreLives m text may one (lives ++ last ∷ []) folder → (moment : Moment) → newest last.new ≡ Some moment → IsImage moment folder
      → (now : Lists) × (last.before.lists ≡ Some now) × EndsTruly m text now last.end folder
  last_ends [] may one exchanges grown last folder are moment is image =
      (are.0.born.now, are.0.born.lists, (stays_good may one exchanges grown last are.0).ends moment is folder image)
  last_ends (life ∷ lives) may one exchanges grown last folder are moment is image =
      last_ends lives (MightHaveLeft life.old life.new) are.0.later (exchanges ++ life.after.exchanges) (one_life may one exchanges grown life are.0) last folder are.1 moment is image

  -- a folder alone
  pub only : HasGood m text told first → (folder : Folder) → folder ≡ first → HasGrown m text told told (Some []) [] first folder
  only good folder same = subst (λ (f : Folder). HasGrown m text told told (Some []) [] first f) (sym same) (at_first laws m text told first good)

pub lives_keep_good : Laws → LivesKeepGood
lives_keep_good laws m text told first last lives routable modest good are =
    lives_on laws m text routable modest told first lives (λ folder. folder ≡ first) told [] last (only laws m text routable modest told first good) are
