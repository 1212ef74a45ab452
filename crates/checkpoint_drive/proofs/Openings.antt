-- A folder is opened and read, and then a run is begun over it.
use Rattle.std.proofs.Common.{◌≡◌, ◌⊎◌, inl, inr, ℕ, ◌+◌, ◌-◌, ◌^◌, ◌<◌, ◌≤◌, min, Bool, true, false, List, [], ◌∷◌, length, Option, Some, None, refl, sym, ◌∙◌, ap, subst, arith}
use Rattle.std.specs.List.{list_all}
use Rattle.std.proofs.lemmas.Bool.{and_from, and_parts}
use Rattle.std.proofs.lemmas.List.Folds.{list_all-append}
use Rattle.sf_disk.specs.Moments.{Moment, WhereTold, Since, Becomes, newest}
use Rattle.sf_disk.proofs.Onward.{since_as, since_then, becomes_then, told_now, at_now}
use Rattle.address_routing.specs.declared.module.Module.{Module}
use Rattle.address_routing.specs.Routing.{splits_in}
use Rattle.piece_messages.specs.declared.piece.Piece.{Piece}
use Rattle.folder_form.specs.declared.shape.Shape.{Shape}
use Rattle.folder_form.specs.declared.loaded.Loaded.{Loaded}
use Rattle.folder_form.specs.Pieces.{latest_in, owns_piece}
use Rattle.std.specs.Prelude.{IsTrue, IsFalse, nat_le, get_or}
use Rattle.folder_form.specs.Folders.{Contents, loaded_of, with_leg}
use Rattle.snapshot_files.specs.declared.store.Store.{Store}
use Rattle.snapshot_files.specs.Reading.{AreOwned, FitsShape, IsUntold}
use Rattle.snapshot_files.specs.Stores as stores
use Rattle.snapshot_files.specs.Stores.{home_in}
use Rattle.egress_commit.specs.Epochs.{Epoch}
use Rattle.egress_commit.specs.Outlets.{last_epoch}
use Rattle.egress_commit.proofs.Steps.{counted}
use Rattle.store_faults.specs.declared.fault.StoreFault.{StoreFault}
use Rattle.store_faults.specs.declared.fault.StoreFault.TheVariants.{DiskFault, NotAStore, StoreOfOther, OutOfMemory}
use Rattle.store_faults.specs.Faults.{IsNoRefusal, RefusesBy}
use Rattle.checkpoint_storage.specs.declared.storage.CheckpointStorage.{CheckpointStorage}
use Rattle.checkpoint_storage.specs.Folders.{Change, IsFar, IsKnown, IsStorage, Leaves, MayBegin, MayCommit, RefusesStorage, Stands, Stays, Turns, with_next}
use Rattle.checkpoint_storage.specs.Opened.{IsOpened}
use Rattle.checkpoint_state.specs.Matching.{HaveCells, has_cells}
use Rattle.checkpoint_state.specs.Stored.{states_in}
use Rattle.checkpoint_state.proofs.Owned.{owned_piece}
use Rattle.checkpoint_state.specs.Laws.{counts_in}
use Rattle.partition_core.specs.declared.kept_work.KeptWork.{KeptWork}
use Rattle.partition_core.specs.KeptWork.{kept_work}
use Rattle.partition_core.specs.Work.{Work}
use Rattle.statefun_driver.specs.Turns.{Control, rested}
use Rattle.statefun_driver.specs.Runs.{AreModest}
use Rattle.statefun_driver.specs.Work.{here, splits_of}
use Rattle.address_routing.specs.Routing.{is_routable}
use Rattle.checkpoint_drive.specs.declared.options.Options.{Options}
use Rattle.checkpoint_drive.specs.declared.opening.Start.{Start}
use Rattle.checkpoint_drive.specs.declared.run.Run.{Run}
use Rattle.checkpoint_drive.specs.Images.{MayLeave, RunsOn, Reaches, begun_run, most_legs}
use Rattle.checkpoint_drive.specs.Begins.{Begins, IsBegun, IsReady, RefusesOpening, stored_origin, RefusesLoaded, reaches_all, reaches_work, shape_of}
use Rattle.checkpoint_drive.specs.Starts.{HasRead, IsUnfit, Reads, origin_at, start_from}
use Rattle.checkpoint_drive.proofs.Growing.{reaches_none}

-- ---- what is loaded may be put back

owned_cells : (shape : Shape) (moment partition : ℕ) (pieces : List Piece) → AreOwned shape moment partition pieces → HaveCells (states_in pieces)
owned_cells shape moment partition [] owned = refl
owned_cells shape moment partition (piece ∷ pieces) owned =
    list_all-append has_cells piece.states (states_in pieces)
    ∙ and_from (list_all has_cells piece.states) (list_all has_cells (states_in pieces))
    (owned_piece (home_in shape partition) piece (and_parts (owns_piece (home_in shape partition) piece) (nat_le (latest_in piece) moment) owned.0).0) (owned_cells shape moment (partition + 1) pieces owned.1)

pub loaded_cells : (shape : Shape) (loaded : Loaded) → FitsShape shape loaded → HaveCells (states_in loaded.pieces)
loaded_cells shape loaded (inl none) = subst (λ (l : Loaded). HaveCells (states_in l.pieces)) (sym none) refl
loaded_cells shape loaded (inr fits) = owned_cells shape loaded.moment 0 loaded.pieces fits.each_piece

-- ---- reading

pub refused_storage : (m : Module) (text : List ℕ) (a : List Moment) (fault : StoreFault) → RefusesStorage text a fault → RefusesOpening m text a fault
refused_storage m text a DiskFault r = tt
refused_storage m text a (NotAStore file place) r = inl r
refused_storage m text a (StoreOfOther kept given) r = r
refused_storage m text a OutOfMemory r = tt

no_moment : (o : Option Moment) (n : Moment) → o ≡ None → o ≡ Some n → ⊥
no_moment o n none some = let k : None ≡ Some n = sym none ∙ some in cc

module _ (m : Module) (text : List ℕ) (a b : List Moment) (R : Moment → Moment → Type 0) (became : Becomes a b R) where
  pub untold : (file place : ℕ) → newest b ≡ None → WhereTold a (RefusesLoaded m text file place)
  untold file place none = λ first told. let k = became first told in absurd (no_moment (newest b) k.0 none k.1)

  pub refused_untold : (fault : StoreFault) → IsUntold b fault → RefusesOpening m text a fault
  refused_untold DiskFault r = tt
  refused_untold (NotAStore file place) r = inr (untold file place r)
  refused_untold (StoreOfOther kept given) r = absurd r
  refused_untold OutOfMemory r = tt

module _ (m : Module) (text : List ℕ) (storage : CheckpointStorage) (loaded : Loaded) (a b : List Moment) (opened : Becomes a b (IsOpened storage text))
    (loads : WhereTold b (λ now. (contents : Contents) (epochs : List Epoch) → IsStorage storage contents epochs now → loaded ≡ loaded_of contents)) where
  reads : (first last : Moment) → newest b ≡ Some last → IsOpened storage text first last → Reads text loaded storage first last
  reads first last told o = record {
    contents = o.contents;
    epochs = o.epochs;
    stood = o.stood;
    loaded_is = sym (loads last told o.contents o.epochs o.is_storage);
    is_storage = o.is_storage;
  }

  pub has_become : Becomes a b (Reads text loaded storage)
  has_become = λ first told. let k = opened first told in (k.0, k.1, reads first k.0 k.1 k.2)

  more_splits : splits_in m.ingresses < length loaded.taken → WhereTold a (RefusesLoaded m text 0 0)
  more_splits less = λ first told.
      let k = has_become first told in
      ((k.2).contents, (k.2).epochs, (k.2).stood, (refl, inr (inr (refl, subst (λ (l : Loaded). splits_in m.ingresses < length l.taken) (sym (k.2).loaded_is) less))))

  pub refused_counts : (splits : ℕ) (taken : List ℕ) → splits ≡ splits_in m.ingresses → taken ≡ loaded.taken → splits < length taken → RefusesOpening m text a (NotAStore 0 0)
  refused_counts splits taken is same less = inr (more_splits (subst (λ (n : ℕ). n < length loaded.taken) is (subst (λ (ns : List ℕ). splits < length ns) same less)))

  pub has_read : (start : Start) (c : List Moment) (splits : ℕ) (taken : List ℕ) → c ≡ b → start ≡ start_from loaded → storage.store.shape ≡ shape_of m → FitsShape storage.store.shape loaded → splits ≡ splits_in m.ingresses → taken ≡ loaded.taken
      → length taken ≤ splits → storage.store.text ≡ text → IsFalse storage.store.spent → IsFalse storage.outlet.spent → HasRead m text a c storage start
  has_read start c splits taken same start_is shape fits splits_are taken_is counted text_is usable committing = record {
    loaded = loaded;
    start_is = start_is;
    fits = subst (λ (s : Shape). FitsShape s loaded) shape fits;
    counted = subst (λ (n : ℕ). length loaded.taken ≤ n) splits_are (subst (λ (ns : List ℕ). length ns ≤ splits) taken_is counted);
    became = subst (λ (l : List Moment). Becomes a l (Reads text loaded storage)) (sym same) has_become;
    text_is = text_is;
    shape = shape;
    usable = usable;
    committing = committing;
  }

pub same_shape : (m : Module) (o : Option Shape) (shape : Shape) → o ≡ Some (shape_of m) → o ≡ Some shape → shape ≡ shape_of m
same_shape m o shape is_m is = let k : Some shape ≡ Some (shape_of m) = sym is ∙ is_m in cc

-- turns that go on behind a checkpoint
pub resumed_at : (leg : ℕ) (start : Start) (taken : List ℕ) (work : Work) → taken ≡ start.taken → work ≡ kept_work start.kept.letters start.kept.states start.kept.delays
    → rested (record { turn = leg; moment = start.moment; counts = λ split. get_or taken split 0; work = work }) ≡ rested (origin_at leg start)
resumed_at leg start taken work same is =
    ap (λ (t : List ℕ). rested (record { turn = leg; moment = start.moment; counts = λ split. get_or t split 0; work = work })) same
    ∙ ap (λ (w : Work). rested (record { turn = leg; moment = start.moment; counts = counts_in start.taken; work = w })) is

-- ---- beginning

leaves_as : (storage : CheckpointStorage) (S R : Change) → ((contents : Contents) (epochs : List Epoch) (now : Contents) (committed : List Epoch) → S contents epochs now committed → R contents epochs now committed) → (m n : Moment) → Leaves storage S m n → Leaves storage R m n
leaves_as storage S R f m n leaves contents epochs is folder image = let h = leaves contents epochs is folder image in (h.0, h.1, f contents epochs h.0 h.1 h.2, h.3)

runs_by : (options : Options) (contents : Contents) (epochs : List Epoch) (limit : ℕ) → limit ≡ contents.leg + most_legs options contents.leg → (now : Contents) (committed : List Epoch) → MayBegin limit contents (with_next contents epochs) now committed → RunsOn options [] contents epochs now committed
runs_by options contents epochs limit is now committed (inl same, given) = inl (same, inr given)
runs_by options contents epochs limit is now committed (inr led, given) =
    inr (subst (λ (c : Contents). Reaches [] (begun_run options contents) (with_next contents epochs) c committed) (sym (led ∙ ap (λ (leg : ℕ). with_leg leg contents) is))
    (subst (λ (e : List Epoch). Reaches [] (begun_run options contents) (with_next contents epochs) (begun_run options contents) e) (sym given) (reaches_none [] (begun_run options contents) (with_next contents epochs))))

module _ (options : Options) (storage after : CheckpointStorage) (a b : List Moment) (caught : Since a b (Leaves storage MayCommit)) where
  pub committing : Since a b (Leaves storage (RunsOn options []))
  committing = since_as a b (Leaves storage MayCommit) (Leaves storage (RunsOn options [])) caught (λ m n told l. leaves_as storage MayCommit (RunsOn options []) (λ contents epochs now committed h. inl h) m n l)

  module _ (turned : Becomes a b (Turns storage after (λ contents epochs. contents) with_next)) where
    pub still_known : IsKnown storage a → IsKnown after b
    still_known known =
        told_now a b (Turns storage after (λ contents epochs. contents) with_next) (Leaves storage MayCommit) (λ now. (contents : Contents) × (epochs : List Epoch) × IsStorage after contents epochs now) caught turned
        (λ m k told t. let x = known m told in (x.0, with_next x.0 x.1, t x.0 x.1 x.2))

    module _ (same : after.store ≡ storage.store) (limit most : ℕ) (limit_is : limit ≡ storage.store.stored_leg + most) (most_is : most ≡ most_legs options storage.store.stored_leg) (c : List Moment) where
      limit_by : (contents : Contents) → storage.store.stored_leg ≡ contents.leg → limit ≡ contents.leg + most_legs options contents.leg
      limit_by contents leg = limit_is ∙ ap (λ (n : ℕ). storage.store.stored_leg + n) most_is ∙ ap (λ (n : ℕ). n + most_legs options n) leg

      leads : (m k n : Moment) → newest a ≡ Some m → newest b ≡ Some k → Leaves after (MayBegin limit) k n → Leaves storage (RunsOn options []) m n
      leads m k n at_m at_k leaves contents epochs is folder image =
          let t : IsStorage after contents (with_next contents epochs) k = at_now a b (Turns storage after (λ contents epochs. contents) with_next) turned m k at_m at_k contents epochs is in
          let h = leaves contents (with_next contents epochs) t folder image in
          (h.0, h.1, runs_by options contents epochs limit (limit_by contents (is.store).leg_is) h.0 h.1 h.2, subst (λ (text : List ℕ). Stands text folder h.0 h.1) (ap (λ (s : Store). s.text) same) h.3)

      pub beginning : Since b c (Leaves after (MayBegin limit)) → Since a c (Leaves storage (RunsOn options []))
      beginning begins = since_then a b c (Leaves storage (RunsOn options [])) (Leaves after (MayBegin limit)) committing begins leads

      begins_there : (last : CheckpointStorage) (m k n : Moment) → Turns storage after (λ contents epochs. contents) with_next m k → Turns after last (λ contents epochs. with_leg limit contents) (λ contents epochs. epochs) k n → Turns storage last (λ contents epochs. begun_run options contents) with_next m n
      begins_there last m k n t u contents epochs is =
          subst (λ (leg : ℕ). IsStorage last (with_leg leg contents) (with_next contents epochs) n) (limit_by contents (is.store).leg_is) (u contents (with_next contents epochs) (t contents epochs is))

      pub has_begun : (last : CheckpointStorage) → Becomes b c (Turns after last (λ contents epochs. with_leg limit contents) (λ contents epochs. epochs)) → Becomes a c (Turns storage last (λ contents epochs. begun_run options contents) with_next)
      has_begun last began =
          becomes_then a b c (Turns storage after (λ contents epochs. contents) with_next) (Turns after last (λ contents epochs. with_leg limit contents) (λ contents epochs. epochs)) (Turns storage last (λ contents epochs. begun_run options contents) with_next) turned began
          (λ m k n at t u. begins_there last m k n t u)

-- why no run is begun
abbrev pub IsUnbegun : Module → CheckpointStorage → KeptWork → List Moment → ℕ → ℕ → Type 0
IsUnbegun m storage kept moments file place = IsUntold moments (NotAStore file place) ⊎ IsUnfit m storage kept file place

module _ (m : Module) (storage : CheckpointStorage) (kept : KeptWork) (a : List Moment) where
  pub far_refused : (fault : StoreFault) → RefusesBy (λ file place. ((file ≡ 1) × (place ≡ 0) × IsFar (stores.newest storage.store) (last_epoch storage.outlet)) ⊎ IsUntold a (NotAStore file place)) fault → RefusesBy (IsUnbegun m storage kept a) fault
  far_refused DiskFault r = tt
  far_refused (NotAStore file place) (inl far) = inr (far.1, inl (far.0, far.2))
  far_refused (NotAStore file place) (inr silent) = inl silent
  far_refused (StoreOfOther other given) r = absurd r
  far_refused OutOfMemory r = tt

  pub none_refused : (fault : StoreFault) → IsNoRefusal fault → RefusesBy (IsUnbegun m storage kept a) fault
  none_refused DiskFault r = tt
  none_refused (NotAStore file place) r = absurd r
  none_refused (StoreOfOther other given) r = absurd r
  none_refused OutOfMemory r = tt

-- ---- both

module _ (m : Module) (text : List ℕ) (options : Options) (a b : List Moment) (stays : Since a b (Stays text)) where
  pub opened_leaves : Since a b (MayLeave text options [])
  opened_leaves = since_as a b (Stays text) (MayLeave text options []) stays (λ first later told s folder image. inl (s folder image))

  module _ (storage : CheckpointStorage) (start : Start) (has : HasRead m text a b storage start) where
    pub is_known : IsKnown storage b
    is_known = told_now a b (Reads text has.loaded storage) (Stays text) (λ now. (contents : Contents) × (epochs : List Epoch) × IsStorage storage contents epochs now) stays has.became (λ first last told r. (r.contents, r.epochs, r.is_storage))

    leads_on : (first middle later : Moment) → newest a ≡ Some first → newest b ≡ Some middle → Leaves storage (RunsOn options []) middle later → MayLeave text options [] first later
    leads_on first middle later at_first at_middle leaves folder image =
        let r : Reads text has.loaded storage first middle = at_now a b (Reads text has.loaded storage) has.became first middle at_first at_middle in
        let h = leaves r.contents r.epochs r.is_storage folder image in
        inr (record {
          contents = r.contents;
          epochs = r.epochs;
          now = h.0;
          committed = h.1;
          stood = r.stood;
          runs = h.2;
          stands = subst (λ (t : List ℕ). Stands t folder h.0 h.1) has.text_is h.3;
        })

    pub run_leaves : (c : List Moment) → Since b c (Leaves storage (RunsOn options [])) → Since a c (MayLeave text options [])
    run_leaves c runs = since_then a b c (MayLeave text options []) (Leaves storage (RunsOn options [])) opened_leaves runs leads_on

    far_then : (contents : Contents) (epochs : List Epoch) (now : Moment) → IsStorage storage contents epochs now → IsFar (stores.newest storage.store) (last_epoch storage.outlet) → IsFar (length contents.checkpoints) (length epochs)
    far_then contents epochs now is far =
        let count = counted storage.outlet epochs (now 1) is.outlet in
        let newest_is = (is.store).newest_is in
        (λ same. far.0 (omega (arith, same, count, newest_is)), λ next. far.1 (omega (arith, next, count, newest_is)))

    reached_by : (b : Bool) → reaches_work m start.kept.letters start.kept.delays ≡ b → reaches_all m has.loaded ≡ b
    reached_by b h = subst (λ (s : Start). reaches_work m s.kept.letters s.kept.delays ≡ b) has.start_is h

    pub reached : reaches_work m start.kept.letters start.kept.delays ≡ true → reaches_all m has.loaded ≡ true
    reached = reached_by true

    unfit : (file place : ℕ) → IsUnfit m storage start.kept file place → WhereTold a (RefusesLoaded m text file place)
    unfit file place (zero_place, inl far) = λ first told.
        let k = has.became first told in
        ((k.2).contents, (k.2).epochs, (k.2).stood, (zero_place, inl (far.0, far_then (k.2).contents (k.2).epochs k.0 (k.2).is_storage far.1)))
    unfit file place (zero_place, inr lost) = λ first told.
        let k = has.became first told in
        ((k.2).contents, (k.2).epochs, (k.2).stood, (zero_place, inr (inl (lost.0, subst (λ (l : Loaded). reaches_all m l ≡ false) (sym (k.2).loaded_is) (reached_by false lost.1)))))

    pub refused_begin : (fault : StoreFault) → RefusesBy (IsUnbegun m storage start.kept b) fault → RefusesOpening m text a fault
    refused_begin DiskFault r = tt
    refused_begin (NotAStore file place) (inl silent) = inr (untold m text a b (Reads text has.loaded storage) has.became file place silent)
    refused_begin (NotAStore file place) (inr is) = inr (unfit file place is)
    refused_begin (StoreOfOther other given) r = absurd r
    refused_begin OutOfMemory r = tt

    -- what turns begin with may be put back
    pub cells_kept : HaveCells start.kept.states
    cells_kept = subst (λ (s : Start). HaveCells s.kept.states) (sym has.start_is) (loaded_cells (shape_of m) has.loaded has.fits)

    pub splits_kept : (splits : ℕ) → splits ≡ splits_in m.ingresses → length start.taken ≤ splits
    splits_kept splits is = subst (λ (n : ℕ). length start.taken ≤ n) (sym is) (subst (λ (s : Start). length s.taken ≤ splits_in m.ingresses) (sym has.start_is) has.counted)

    module _ (run : Run) (c : List Moment) (stored : ℕ) (stored_is : stored ≡ storage.store.stored_leg)
        (turned : Becomes b c (Turns storage run.storage (λ contents epochs. begun_run options contents) with_next)) where
      begins : (first middle last : Moment) → Reads text has.loaded storage first middle → Turns storage run.storage (λ contents epochs. begun_run options contents) with_next middle last → Begins text options stored has.loaded run first last
      begins first middle last r t = record {
        contents = r.contents;
        epochs = r.epochs;
        stood = r.stood;
        leg = sym ((r.is_storage).store).leg_is ∙ sym stored_is;
        loaded_is = r.loaded_is;
        is_storage = t r.contents r.epochs r.is_storage;
      }

      run_became : Becomes a c (Begins text options stored has.loaded run)
      run_became =
          becomes_then a b c (Reads text has.loaded storage) (Turns storage run.storage (λ contents epochs. begun_run options contents) with_next) (Begins text options stored has.loaded run) has.became turned
          (λ first middle last told r t. begins first middle last r t)

      here_loaded : here run.progress ≡ rested (origin_at stored start) → here run.progress ≡ rested (stored_origin stored has.loaded)
      here_loaded here_is = here_is ∙ ap (λ (s : Start). rested (origin_at stored s)) has.start_is

      pub is_begun : IsReady run → here run.progress ≡ rested (origin_at stored start) → reaches_work m start.kept.letters start.kept.delays ≡ true → run.job.routes ≡ m → run.options ≡ options
          → run.most ≡ most_legs options storage.store.stored_leg → run.legs ≡ 0 → run.unheld ≡ false → run.storage.store.text ≡ storage.store.text → IsBegun m options text a c run
      is_begun ready here_is all routes options_are most legs unheld same_text = record {
        stored = stored;
        loaded = has.loaded;
        fits = has.fits;
        reached = reached all;
        ready = ready;
        routes = routes;
        options_are = options_are;
        most = most ∙ ap (λ (n : ℕ). most_legs options n) (sym stored_is);
        legs = legs;
        unheld = unheld;
        here_is = here_loaded here_is;
        text_is = same_text ∙ has.text_is;
        became = run_became;
      }

-- a run that was begun may make its first leg
module _ (m : Module) (options : Options) (storage : CheckpointStorage) (start : Start) (run : Run) (stored : ℕ) where
  turn_is : here run.progress ≡ rested (origin_at stored start) → (here run.progress).turn ≡ stored
  turn_is here_is = ap (λ (c : Control). c.turn) here_is

  room_by : (legs most stored : ℕ) → stored < 2 ^ 64 → most ≡ min legs (2 ^ 64 - 1 - stored) → stored + (most - 0) < 2 ^ 64
  room_by legs most stored small is = omega (arith, small, is)

  pub first_ready : here run.progress ≡ rested (origin_at stored start) → stored < 2 ^ 64 → stored ≡ storage.store.stored_leg → stores.newest storage.store ≤ stored → run.most ≡ most_legs options storage.store.stored_leg → run.legs ≡ 0
      → run.job.rests ≡ true → run.job.turns ≡ 0 → run.job.routes ≡ m → IsTrue (is_routable m) → AreModest m.endpoints → splits_of run.progress ≡ run.job.splits
      → storage.store.shape ≡ shape_of m → run.storage.store.shape ≡ storage.store.shape → IsFalse run.storage.store.spent → IsFalse run.storage.outlet.spent
      → last_epoch run.storage.outlet ≡ stores.newest run.storage.store → stores.newest run.storage.store ≡ stores.newest storage.store → 1 ≤ run.options.every → IsReady run
  first_ready here_is small stored_is numbered most legs rests turns routes routable modest counted shape same_shape usable committing even same_newest every = record {
    rests = rests;
    turns = turns;
    routable = subst (λ (r : Module). IsTrue (is_routable r)) (sym routes) routable;
    modest = subst (λ (r : Module). AreModest r.endpoints) (sym routes) modest;
    counted = counted;
    shape = same_shape ∙ shape ∙ ap shape_of (sym routes);
    usable = usable;
    committing = committing;
    even = even;
    numbered = subst (λ (n : ℕ). n ≤ (here run.progress).turn) (sym same_newest) (subst (λ (n : ℕ). stores.newest storage.store ≤ n) (sym (turn_is here_is)) numbered);
    every = every;
    legs = subst (λ (n : ℕ). n ≤ run.most) (sym legs) (omega arith);
    room =
        subst (λ (n : ℕ). n + (run.most - run.legs) < 2 ^ 64) (sym (turn_is here_is))
        (subst (λ (n : ℕ). stored + (run.most - n) < 2 ^ 64) (sym legs) (room_by options.legs run.most stored small (most ∙ ap (λ (n : ℕ). most_legs options n) (sym stored_is))));
  }
