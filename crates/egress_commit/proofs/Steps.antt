-- Epochs of blocks, one after the other, and what an append makes of them.
use Rattle.std.proofs.Common.{◌≡◌, ◌⊎◌, inl, inr, ℕ, zero, suc, ◌+◌, ◌-◌, ◌<◌, ◌≤◌, List, [], ◌∷◌, ◌++◌, length, slice_index_or, slice_get, Option, Some, None, Ok, refl, sym, ◌∙◌, ap, subst, arith, option_and_then, take, append_assoc, length-append}
use Rattle.std.proofs.lemmas.Bool.Decides.{Decides-eqb}
use Rattle.std.proofs.lemmas.List.{take_at}
use Rattle.sf_disk.specs.Images.{FileState}
use Rattle.piece_messages.specs.Spelling.{commit_value}
use Rattle.block_log.specs.declared.log.BlockLog.{BlockLog}
use Rattle.block_log.specs.Blocks.{Body, extent, places_from, HasBlocks}
use Rattle.block_log.specs.Logs.{IsOpen, HasBlockAt, Adds, Added}
use Rattle.egress_commit.specs.declared.outlet.Outlet.{Outlet}
use Rattle.block_log.specs.Blocks.{Keeps}
use Rattle.sf_disk.specs.Images.{Follows}
use Rattle.egress_commit.specs.Epochs.{Epoch, epoch_in, epochs_from, HasEpochs, BreaksIn, KeepsEpochs}
use Rattle.sf_disk.specs.Moments.{Moment, Becomes, InFile, WhereTold}
use Rattle.block_log.specs.Logs.{IsOpened as IsLogOpened}
use Rattle.store_faults.specs.declared.fault.StoreFault.{StoreFault}
use Rattle.store_faults.specs.declared.fault.StoreFault.TheVariants.{DiskFault, NotAStore, StoreOfOther, OutOfMemory}
use Rattle.egress_commit.specs.Outlets.{last_epoch, IsOutlet, IsOpened, Commits, Committed, RefusesOutlet}
use Rattle.egress_commit.specs.Checking.{RefusesBlocks}

some_parts : (o : Option Epoch) (r : Option (List Epoch)) (es : List Epoch) → option_and_then (λ e. option_and_then (λ rest. Some (e ∷ rest)) r) o ≡ Some es → (e : Epoch) × (rest : List Epoch) × (o ≡ Some e) × (r ≡ Some rest) × (es ≡ e ∷ rest)
some_parts None r es is = absurd cc
some_parts (Some e) None es is = absurd cc
some_parts (Some e) (Some rest) es is = (e, rest, refl, refl, cc)

-- the first epoch, and those behind it
pub split : (n : ℕ) (b : Body) (bs : List Body) (es : List Epoch) → epochs_from n (b ∷ bs) ≡ Some es → (e : Epoch) × (rest : List Epoch) × (epoch_in n b ≡ Some e) × (epochs_from (n + 1) bs ≡ Some rest) × (es ≡ e ∷ rest)
split n b bs es is = some_parts (epoch_in n b) (epochs_from (n + 1) bs) es is

join : (n : ℕ) (b : Body) (bs : List Body) (e : Epoch) (rest : List Epoch) → epoch_in n b ≡ Some e → epochs_from (n + 1) bs ≡ Some rest → epochs_from n (b ∷ bs) ≡ Some (e ∷ rest)
join n b bs e rest first behind = rw first (rw behind refl)

pub push : (n : ℕ) (bs : List Body) (b : Body) (es : List Epoch) (e : Epoch) → epochs_from n bs ≡ Some es → epoch_in (n + length bs) b ≡ Some e → epochs_from n (bs ++ b ∷ []) ≡ Some (es ++ e ∷ [])
push n [] b es e is new =
    let none : es ≡ [] = cc in
    rw none (join n b [] e [] (subst (λ (k : ℕ). epoch_in k b ≡ Some e) (omega arith) new) refl)
push n (x ∷ bs) b es e is new =
    let s = split n x bs es is in
    let further = push (n + 1) bs b s.1 e s.3 (subst (λ (k : ℕ). epoch_in k b ≡ Some e) (omega arith) new) in
    rw s.4 (join n x (bs ++ b ∷ []) s.0 (s.1 ++ e ∷ []) s.2 further)

pub length_epochs : (n : ℕ) (bs : List Body) (es : List Epoch) → epochs_from n bs ≡ Some es → length es ≡ length bs
length_epochs n [] es is = let none : es ≡ [] = cc in ap length none
length_epochs n (b ∷ bs) es is = let s = split n b bs es is in ap length s.4 ∙ ap suc (length_epochs (n + 1) bs s.1 s.3)

-- the epoch of a block is the one at its place
pub at_block : (n : ℕ) (before : List Body) (b : Body) (behind : List Body) (es : List Epoch) → epochs_from n (before ++ b ∷ behind) ≡ Some es → (e : Epoch) × (epoch_in (n + length before) b ≡ Some e) × (slice_get es (length before) ≡ Some e)
at_block n [] b behind es is =
    let s = split n b behind es is in
    (s.0, ap (λ (k : ℕ). epoch_in k b) (omega arith) ∙ s.2, ap (λ (l : List Epoch). slice_get l 0) s.4)
at_block n (x ∷ before) b behind es is =
    let s = split n x (before ++ b ∷ behind) es is in
    let r = at_block (n + 1) before b behind s.1 s.3 in
    (r.0, ap (λ (k : ℕ). epoch_in k b) (omega arith) ∙ r.1, ap (λ (l : List Epoch). slice_get l (length (x ∷ before))) s.4 ∙ r.2)

-- where a block stands
place_at : (p : ℕ) (bodies : List Body) (k d : ℕ) → k < length bodies → (before : List Body) × (b : Body) × (behind : List Body) × (bodies ≡ before ++ b ∷ behind) × (length before ≡ k) × (slice_index_or (places_from p bodies) k d ≡ p + extent before)
place_at p [] k d less = absurd (omega (arith, less))
place_at p (x ∷ bodies) zero d less = ([], x, bodies, refl, refl, omega arith)
place_at p (x ∷ bodies) (suc k) d less =
    let r = place_at (p + 9 + length x) bodies k d (omega (arith, less)) in
    (x ∷ r.0, r.1, r.2, ap (λ (l : List Body). x ∷ l) r.3, omega (arith, r.4), omega (arith, r.5))

length_places : (p : ℕ) (bodies : List Body) → length (places_from p bodies) ≡ length bodies
length_places p [] = refl
length_places p (x ∷ bodies) = ap suc (length_places (p + 9 + length x) bodies)

pub length_blocks : (log : BlockLog) (bodies : List Body) (state : FileState) → IsOpen log bodies state → length log.blocks ≡ length bodies
length_blocks log bodies state opened = ap length opened.knows.blocks ∙ length_places 0 bodies

pub block_at : (log : BlockLog) (bodies : List Body) (state : FileState) (k d : ℕ) → IsOpen log bodies state → k < length log.blocks → (b : Body) × (at : HasBlockAt bodies (slice_index_or log.blocks k d) b) × (length at.before ≡ k)
block_at log bodies state k d opened less =
    let r = place_at 0 bodies k d (omega (arith, less, length_blocks log bodies state opened)) in
    (r.1, record { before = r.0; behind = r.2; is = r.3; place_is = omega (arith, ap (λ (l : List ℕ). slice_index_or l k d) opened.knows.blocks, r.5) }, r.4)

-- how many epochs an outlet has
pub counted : (outlet : Outlet) (epochs : List Epoch) (state : FileState) → IsOutlet outlet epochs state → last_epoch outlet ≡ length epochs
counted outlet epochs state is = length_blocks outlet.log is.bodies state is.is_open ∙ sym (length_epochs 1 is.bodies epochs is.spelled)

-- the block of the newest number spells this epoch
spelled_last : (outlet : Outlet) (number : ℕ) (epoch : Epoch) (body : Body) (epochs : List Epoch) (state : FileState) (is : IsOutlet outlet epochs state) → number ≡ last_epoch outlet + 1 → epoch_in number body ≡ Some epoch → epochs_from 1 (is.bodies ++ body ∷ []) ≡ Some (epochs ++ epoch ∷ [])
spelled_last outlet number epoch body epochs state is next new = push 1 is.bodies body epochs epoch is.spelled (subst (λ (k : ℕ). epoch_in k body ≡ Some epoch) (omega (arith, next, length_blocks outlet.log is.bodies state is.is_open)) new)

-- an append of the newest epoch's block commits it, or not
pub commits : (outlet : Outlet) (number : ℕ) (epoch : Epoch) (body : Body) (old new : FileState) → number ≡ last_epoch outlet + 1 → epoch_in number body ≡ Some epoch → Adds outlet.log body old new → Commits outlet number epoch old new
commits outlet number epoch body old new next is_new adds = λ epochs is bytes left. either epochs is bytes (adds is.bodies is.is_open bytes left)
  where
    either : (epochs : List Epoch) (is : IsOutlet outlet epochs old) (bytes : List ℕ) → HasBlocks bytes is.bodies ⊎ HasBlocks bytes (is.bodies ++ body ∷ []) → HasEpochs bytes epochs ⊎ ((number ≡ length epochs + 1) × HasEpochs bytes (epochs ++ epoch ∷ []))
    either epochs is bytes (inl has) = inl (is.bodies, inl has, is.spelled)
    either epochs is bytes (inr has) = inr (omega (arith, next, counted outlet epochs old is), (is.bodies ++ body ∷ [], inl has, spelled_last outlet number epoch body epochs old is next is_new))

pub is_committed : (outlet now : Outlet) (number : ℕ) (epoch : Epoch) (body : Body) (old new : FileState) → number ≡ last_epoch outlet + 1 → epoch_in number body ≡ Some epoch → Added outlet.log now.log body old new → Committed outlet now epoch old new
is_committed outlet now number epoch body old new next is_new added = λ epochs is. record {
  bodies = is.bodies ++ body ∷ [];
  is_open = added is.bodies is.is_open;
  spelled = spelled_last outlet number epoch body epochs old is next is_new;
}

-- a body of which reading gives this commit
pub spells : (number : ℕ) (epoch : Epoch) (copy : Epoch) (body : Body) → copy ≡ epoch → commit_value body ≡ Ok (record { epoch = number; records = copy }) → epoch_in number body ≡ Some epoch
unfolding epoch_in
spells number epoch copy body same read = rw read (rw ((Decides-eqb number number).1 refl) (ap Some same))

-- ---- going on from block to block

-- the block that was read is the one at its place
module _ (log : BlockLog) (bodies : List Body) (state : FileState) (i : ℕ) (opened : IsOpen log bodies state) (less : i < length log.blocks) (position : ℕ) (is_position : position ≡ slice_index_or log.blocks i 0) (found : Option Epoch) (read : (b : Body) → HasBlockAt bodies position b → found ≡ epoch_in (i + 1) b) (so_far : (es : List Epoch) × (epochs_from 1 (take i bodies) ≡ Some es)) where
  here : (b : Body) × (at : HasBlockAt bodies (slice_index_or log.blocks i 0) b) × (length at.before ≡ i)
  here = block_at log bodies state i 0 opened less

  found_is : found ≡ epoch_in (i + 1) here.0
  found_is = read here.0 (subst (λ (p : ℕ). HasBlockAt bodies p here.0) (sym is_position) here.1)

  front : take i bodies ≡ here.1.before
  front = ap (take i) here.1.is ∙ take_at here.1.before (here.0 ∷ here.1.behind) i here.2

  spelled : epochs_from 1 here.1.before ≡ Some so_far.0
  spelled = ap (epochs_from 1) (sym front) ∙ so_far.1

  size : i + 1 ≡ length (here.1.before ++ here.0 ∷ [])
  size = omega (arith, here.2, length-append here.1.before (here.0 ∷ []))

  next_front : take (i + 1) bodies ≡ here.1.before ++ here.0 ∷ []
  next_front = ap (take (i + 1)) (here.1.is ∙ sym (append_assoc here.1.before (here.0 ∷ []) here.1.behind)) ∙ take_at (here.1.before ++ here.0 ∷ []) here.1.behind (i + 1) (sym size)

  pub goes_on : (e : Epoch) → found ≡ Some e → (es : List Epoch) × (epochs_from 1 (take (i + 1) bodies) ≡ Some es)
  goes_on e is = (so_far.0 ++ e ∷ [], ap (epochs_from 1) next_front ∙ push 1 here.1.before here.0 so_far.0 e spelled (subst (λ (k : ℕ). epoch_in k here.0 ≡ Some e) (omega (arith, here.2)) (sym found_is ∙ is)))

  pub breaks_here : found ≡ None → BreaksIn bodies position
  breaks_here none = record {
    before = here.1.before;
    body = here.0;
    behind = here.1.behind;
    epochs = so_far.0;
    is = here.1.is;
    spelled = spelled;
    breaks = subst (λ (k : ℕ). epoch_in k here.0 ≡ None) (omega (arith, here.2)) (sym found_is ∙ none);
    place_is = is_position ∙ here.1.place_is;
  }

-- ---- opening

pub keeps_epochs : (old new : List ℕ) → Keeps old new → KeepsEpochs old new
keeps_epochs old new keeps = λ epochs has. (has.0, keeps has.0 has.1, has.2)

pub follows_epochs : (old new : FileState) → Follows Keeps old new → Follows KeepsEpochs old new
follows_epochs old new follows = record {
  crash = λ bytes left. let from = follows.crash bytes left in (from.0, from.1, keeps_epochs from.0 bytes from.2);
  reads = keeps_epochs old.seen new.seen follows.reads;
}

pub refused_of : (log : BlockLog) (a b : List Moment) → Becomes a b (InFile 1 (IsLogOpened log)) → (fault : StoreFault) → RefusesBlocks log b fault → RefusesOutlet a fault
refused_of log a b opened DiskFault r = tt
refused_of log a b opened (NotAStore file place) r = (r.0, λ m told. let k = opened m told in inr (k.2.here.bodies, k.2.here.stood, r.1 k.0 k.1 k.2.here.bodies k.2.here.is_open))
refused_of log a b opened (StoreOfOther kept given) r = absurd r
refused_of log a b opened OutOfMemory r = tt

pub opened_of : (log : BlockLog) (a b d : List Moment) → d ≡ b → Becomes a b (InFile 1 (IsLogOpened log)) → WhereTold b (λ now. (bodies : List Body) → IsOpen log bodies (now 1) → (epochs : List Epoch) × (epochs_from 1 bodies ≡ Some epochs)) → (outlet : Outlet) → outlet.log ≡ log → Becomes a d (InFile 1 (IsOpened outlet))
opened_of log a b d same opened spelled outlet is = subst (λ (l : List Moment). Becomes a l (InFile 1 (IsOpened outlet))) (sym same) (λ m told.
    let k = opened m told in
    let log_opened = k.2.here in
    let epochs = spelled k.0 k.1 log_opened.bodies log_opened.is_open in (
      k.0,
      k.1,
      record {
        others = k.2.others;
        here = record {
          follows = follows_epochs (m 1) (k.0 1) log_opened.follows;
          epochs = epochs.0;
          stood = (log_opened.bodies, log_opened.stood, epochs.1);
          is_open = record {
            bodies = log_opened.bodies;
            is_open = subst (λ (l : BlockLog). IsOpen l log_opened.bodies (k.0 1)) (sym is) log_opened.is_open;
            spelled = epochs.1;
          };
        };
      },
    ))

-- ---- what was committed

pub epoch_there : (outlet : Outlet) (epochs : List Epoch) (state : FileState) (is : IsOutlet outlet epochs state) (number : ℕ) → 1 ≤ number → number ≤ last_epoch outlet → (position : ℕ) → position ≡ slice_index_or outlet.log.blocks (number - 1) 0 → (found : Option Epoch) → ((b : Body) → HasBlockAt is.bodies position b → found ≡ epoch_in number b) → (e : Epoch) × (found ≡ Some e) × (slice_get epochs (number - 1) ≡ Some e)
epoch_there outlet epochs state is number first last position is_position found read =
    let r = block_at outlet.log is.bodies state (number - 1) 0 is.is_open (omega (arith, first, last)) in
    let e = at_block 1 r.1.before r.0 r.1.behind epochs (subst (λ (l : List Body). epochs_from 1 l ≡ Some epochs) r.1.is is.spelled) in (
      e.0,
      read r.0 (subst (λ (p : ℕ). HasBlockAt is.bodies p r.0) (sym is_position) r.1) ∙ ap (λ (k : ℕ). epoch_in k r.0) (omega (arith, first, r.2)) ∙ e.1,
      ap (slice_get epochs) (sym r.2) ∙ e.2,
    )
