-- The moments of a disk in memory, from what it held at first and what was done since, and what a crash of it leaves.
use Rattle.std.specs.Prelude.{◌≡◌, ℕ, zero, suc, ◌==◌, nat_le, if◌then◌else◌, List, [], ◌∷◌, length, take, get_or, replicate}
use Rattle.sf_disk.specs.Images.{FileState, Step, Wrote, Shrank, patched}
use Rattle.sf_disk.specs.Moments.{Moment}
use Rattle.sf_disk.specs.declared.change.Change.{Change}
use Rattle.sf_disk.specs.declared.change.Change.TheVariants.{Write, Cut, Sync}

-- the bytes of each file, by number
abbrev pub Files : Type 0
Files = List (List ℕ)

-- a file past the list is empty
abbrev pub file_of : Files → ℕ → List ℕ
file_of files file = get_or files file []

abbrev pub file_named : Change → ℕ
file_named (Write file at bytes) = file
file_named (Cut file len) = file
file_named (Sync file) = file

-- the file that a change names, behind the change
abbrev pub state_after : Change → FileState → FileState
state_after (Write file at bytes) old = record { seen = patched old.seen at bytes; synced = old.synced; unsynced = Wrote at (length bytes) ∷ old.unsynced }
state_after (Cut file len) old = record { seen = take len old.seen; synced = old.synced; unsynced = Shrank len ∷ old.unsynced }
state_after (Sync file) old = record { seen = old.seen; synced = old.seen; unsynced = [] }

abbrev pub moment_after : Change → Moment → Moment
moment_after change moment = λ file. if file == file_named change then state_after change (moment file) else moment file

-- all of it synced
abbrev pub first_moment : Files → Moment
first_moment files = λ file. record { seen = file_of files file; synced = file_of files file; unsynced = [] }

-- the moments behind each of the changes, before those that were already
abbrev pub moments_from : List Moment → Moment → List Change → List Moment
moments_from past moment [] = moment ∷ past
moments_from past moment (change ∷ changes) = moments_from (moment ∷ past) (moment_after change moment) changes

-- the moment behind all of them
abbrev pub moment_behind : Moment → List Change → Moment
moment_behind moment [] = moment
moment_behind moment (change ∷ changes) = moment_behind (moment_after change moment) changes

-- all moments of a disk in memory, the newest first; and the newest
abbrev pub moments_of : Files → List Change → List Moment
moments_of first changes = moments_from [] (first_moment first) changes

abbrev pub now_of : Files → List Change → Moment
now_of first changes = moment_behind (first_moment first) changes

-- What becomes of each file where one of them is written, cut, or put anew.
abbrev pub written : (named at : ℕ) (bytes : List ℕ) (file : ℕ) → List ℕ → List ℕ
written named at bytes file old = if file == named then patched old at bytes else old

abbrev pub shortened : (named len file : ℕ) → List ℕ → List ℕ
shortened named len file old = if file == named then take len old else old

abbrev pub placed : (named : ℕ) (bytes : List ℕ) (file : ℕ) → List ℕ → List ℕ
placed named bytes file old = if file == named then bytes else old

-- a file as it reads behind one change
abbrev pub seen_after : Change → ℕ → List ℕ → List ℕ
seen_after (Write named at bytes) file seen = written named at bytes file seen
seen_after (Cut named len) file seen = shortened named len file seen
seen_after (Sync named) file seen = seen

-- the files read as the changes left them
abbrev pub ReadsAs : Files → List Change → Files → Type 0
ReadsAs first changes seen = (file : ℕ) → file_of seen file ≡ (now_of first changes file).seen

-- the byte that a crash leaves in a range that was written and not synced
abbrev pub filler : ℕ
filler = 165

-- a range filled, where it begins within the file
abbrev pub filled_in : (at n : ℕ) → List ℕ → List ℕ
filled_in at n old = if nat_le at (length old) then patched old at (replicate n filler) else old

abbrev pub filled_at : (named at n file : ℕ) → List ℕ → List ℕ
filled_at named at n file old = if file == named then filled_in at n old else old

-- each range that was written since the last sync filled, and each cut made
abbrev pub filled : List ℕ → List Step → List ℕ
filled synced [] = synced
filled synced (Wrote at n ∷ earlier) = filled_in at n (filled synced earlier)
filled synced (Shrank len ∷ earlier) = take len (filled synced earlier)

-- What a crash leaves of a file: by 0 what was synced, by 1 every write, by 2 each unsynced range filled.
abbrev pub crashed : ℕ → FileState → List ℕ
crashed zero state = state.synced
crashed (suc zero) state = state.seen
crashed (suc (suc pick)) state = filled state.synced state.unsynced

-- What one more change makes of a file that a crash leaves, by a pick other than 1, where the file reads so.
abbrev pub image_after : (pick : ℕ) → Change → (seen : List ℕ) (file : ℕ) → List ℕ → List ℕ
image_after zero (Write named at bytes) seen file old = old
image_after zero (Cut named len) seen file old = old
image_after zero (Sync named) seen file old = placed named seen file old
image_after (suc pick) (Write named at bytes) seen file old = filled_at named at (length bytes) file old
image_after (suc pick) (Cut named len) seen file old = shortened named len file old
image_after (suc pick) (Sync named) seen file old = placed named seen file old
