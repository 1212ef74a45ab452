-- A disk in memory keeps its moments.
use Rattle.std.proofs.Common.{◌≡◌, ◌≢◌, inl, inr, ℕ, zero, suc, ◌+◌, ◌≤◌, Bool, true, false, ◌==◌, nat_le, if◌then◌else◌, List, [], ◌∷◌, ◌++◌, length, take, drop, replicate, refl, sym, ◌∙◌, ap, subst, arith, length-append, length-drop, append_assoc, Some}
use Rattle.std.proofs.lemmas.Bool.Decides.{nat_tests}
use Rattle.std.proofs.lemmas.List.{take_at, drop_at, length-take-le, length-take, take_min, take_all, length-replicate}
use Rattle.sf_disk.specs.Images.{FileState, Step, Wrote, Shrank, Leaves, Reaches, Done, Synced, Torn, Shortened, patched}
use Rattle.sf_disk.specs.Moments.{Moment, newest, Since, Becomes, InFile}
use Rattle.sf_disk.specs.Memory.{Files, file_of, file_named, state_after, moment_after, moments_from, moments_of, moment_behind, now_of, first_moment, seen_after, ReadsAs, crashed, filled, filler, image_after}
use Rattle.sf_disk.specs.declared.change.Change.{Change}
use Rattle.sf_disk.specs.declared.change.Change.TheVariants.{Write, Cut, Sync}

-- one change more
moments_push : (past : List Moment) (m : Moment) (cs : List Change) (c : Change) → moments_from past m (cs ++ c ∷ []) ≡ moment_after c (moment_behind m cs) ∷ moments_from past m cs
moments_push past m [] c = refl
moments_push past m (x ∷ cs) c = moments_push (m ∷ past) (moment_after x m) cs c

pub newest_from : (past : List Moment) (m : Moment) (cs : List Change) → newest (moments_from past m cs) ≡ Some (moment_behind m cs)
newest_from past m [] = refl
newest_from past m (x ∷ cs) = newest_from (m ∷ past) (moment_after x m) cs

pub behind_push : (m : Moment) (cs : List Change) (c : Change) → moment_behind m (cs ++ c ∷ []) ≡ moment_after c (moment_behind m cs)
behind_push m [] c = refl
behind_push m (x ∷ cs) c = behind_push (moment_after x m) cs c

pub same_file : {X : Type 0} (f : ℕ) (x y : X) → (if f == f then x else y) ≡ x
same_file f x y = grind (arith, nat_tests)

pub other_file : {X : Type 0} (g f : ℕ) (x y : X) → g ≢ f → (if g == f then x else y) ≡ y
other_file g f x y differs = grind (arith, nat_tests)

in_file : (c : Change) (m : Moment) (Q : FileState → FileState → Type 0) → Q (m (file_named c)) (state_after c (m (file_named c))) → InFile (file_named c) Q m (moment_after c m)
in_file c m Q here = record {
  others = λ other differs. other_file other (file_named c) (state_after c (m other)) (m other) differs;
  here = subst (Q (m (file_named c))) (sym (same_file (file_named c) (state_after c (m (file_named c))) (m (file_named c)))) here;
}

-- the moment that it is now
pub now_is : (first : Files) (cs : List Change) (m : Moment) → newest (moments_of first cs) ≡ Some m → now_of first cs ≡ m
now_is first cs m told = let e = newest_from [] (first_moment first) cs in cc

-- what one more change does is what it does to the file that it names
module _ (first : Files) (cs : List Change) (c : Change) (first_now : Files) (now : List Change) (same : first_now ≡ first) (pushed : now ≡ cs ++ c ∷ []) (Q : FileState → FileState → Type 0) (here : (m : Moment) → newest (moments_of first cs) ≡ Some m → Q (m (file_named c)) (state_after c (m (file_named c)))) where
  there : InFile (file_named c) Q (now_of first cs) (moment_after c (now_of first cs))
  there = in_file c (now_of first cs) Q (here (now_of first cs) (newest_from [] (first_moment first) cs))

  grown : moments_of first_now now ≡ moment_after c (now_of first cs) ∷ moments_of first cs
  grown = ap (λ (files : Files). moments_of files now) same ∙ ap (moments_of first) pushed ∙ moments_push [] (first_moment first) cs c

  pub went_on : Since (moments_of first cs) (moments_of first_now now) (InFile (file_named c) Q)
  went_on = record {
    more = moment_after c (now_of first cs) ∷ [];
    goes_on = grown;
    each = ((now_of first cs, newest_from [] (first_moment first) cs, there), tt);
  }

  pub came : Becomes (moments_of first cs) (moments_of first_now now) (InFile (file_named c) Q)
  came = λ m told. (moment_after c (now_of first cs), ap newest grown, subst (λ (x : Moment). InFile (file_named c) Q x (moment_after c (now_of first cs))) (now_is first cs m told) there)

pub torn_patched : (at : ℕ) (bytes old : List ℕ) → at ≤ length old → Torn at (length bytes) old (patched old at bytes)
torn_patched at bytes old within =
    let front : length (take at old) ≡ at = length-take-le at old within in
    let size : length (take at old ++ bytes) ≡ at + length bytes = omega (arith, front, length-append (take at old) bytes) in
    let behind = drop (at + length bytes) old in
    let whole : length (patched old at bytes) ≡ at + length bytes + length behind = omega (arith, size, length-append (take at old ++ bytes) behind) in
    record {
      before = ap (take at) (append_assoc (take at old) bytes behind) ∙ take_at (take at old) (bytes ++ behind) at front;
      behind = drop_at (take at old ++ bytes) behind (at + length bytes) size;
      no_shorter = omega (arith, whole, length-drop (at + length bytes) old);
      no_longer = omega (arith, whole, length-drop (at + length bytes) old);
    }

pub wrote : (file at : ℕ) (bytes : List ℕ) (old : FileState) → at ≤ length old.seen → Done (Torn at (length bytes)) (λ d. patched d at bytes) old (state_after (Write file at bytes) old)
wrote file at bytes old within = record {
  follows = record { crash = crash; reads = torn_patched at bytes old.seen within };
  seen = refl;
}
  where
    crash : (c : List ℕ) → Leaves (state_after (Write file at bytes) old) c → (d : List ℕ) × Leaves old d × Torn at (length bytes) d c
    crash c (inl is) = (old.seen, inl refl, subst (Torn at (length bytes) old.seen) (sym is) (torn_patched at bytes old.seen within))
    crash c (inr reached) = (reached.0, inr reached.1, reached.2)

shortened_take : (len : ℕ) (old : List ℕ) → Shortened len old (take len old)
shortened_take len old = record { no_shorter = omega (arith, length-take len old); front = sym (ap (λ (n : ℕ). take n old) (length-take len old) ∙ take_min len old) }

pub was_cut : (file len : ℕ) (old : FileState) → Done (Shortened len) (take len) old (state_after (Cut file len) old)
was_cut file len old = record {
  follows = record { crash = crash; reads = shortened_take len old.seen };
  seen = refl;
}
  where
    crash : (c : List ℕ) → Leaves (state_after (Cut file len) old) c → (d : List ℕ) × Leaves old d × Shortened len d c
    crash c (inl is) = (old.seen, inl refl, subst (Shortened len old.seen) (sym is) (shortened_take len old.seen))
    crash c (inr reached) = (reached.0, inr reached.1, reached.2)

pub was_synced : (file : ℕ) (old : FileState) → Synced old (state_after (Sync file) old)
was_synced file old = record {
  follows = record { crash = λ c left. (old.seen, inl refl, all c left); reads = refl };
  all = all;
}
  where
    all : (c : List ℕ) → Leaves (state_after (Sync file) old) c → c ≡ old.seen
    all c (inl is) = is
    all c (inr is) = is

-- what is read behind one more change
choose : (b : Bool) (x y : FileState) → (if b then x else y).seen ≡ (if b then x.seen else y.seen)
choose true x y = refl
choose false x y = refl

alike : (b : Bool) (x : List ℕ) → (if b then x else x) ≡ x
alike true x = refl
alike false x = refl

seen_next : (c : Change) (m : Moment) (file : ℕ) → seen_after c file (m file).seen ≡ (moment_after c m file).seen
seen_next (Write named at bytes) m file = sym (choose (file == named) (state_after (Write named at bytes) (m file)) (m file))
seen_next (Cut named len) m file = sym (choose (file == named) (state_after (Cut named len) (m file)) (m file))
seen_next (Sync named) m file = sym (choose (file == named) (state_after (Sync named) (m file)) (m file) ∙ alike (file == named) (m file).seen)

pub reads_on : (first : Files) (cs now : List Change) (c : Change) (seen seen_now : Files) → now ≡ cs ++ c ∷ [] → ReadsAs first cs seen → ((file : ℕ) → file_of seen_now file ≡ seen_after c file (file_of seen file)) → ReadsAs first now seen_now
reads_on first cs now c seen seen_now pushed reads changed = λ file.
    changed file ∙ ap (seen_after c file) (reads file) ∙ seen_next c (now_of first cs) file
    ∙ ap (λ (m : Moment). (m file).seen) (sym (behind_push (first_moment first) cs c)) ∙ ap (λ (l : List Change). (now_of first l file).seen) (sym pushed)

-- what a read gives, of the moment that is told
pub read_told : (first : Files) (cs : List Change) (seen : Files) (m : Moment) (file : ℕ) → ReadsAs first cs seen → newest (moments_of first cs) ≡ Some m → file_of seen file ≡ (m file).seen
read_told first cs seen m file reads told = reads file ∙ ap (λ (k : Moment). (k file).seen) (now_is first cs m told)

-- each pick leaves an image
torn_none : (at n : ℕ) (d : List ℕ) → Torn at n d d
torn_none at n d = record { before = refl; behind = refl; no_shorter = omega arith; no_longer = omega arith }

shortened_none : (n : ℕ) (d : List ℕ) → Shortened n d d
shortened_none n d = record { no_shorter = omega arith; front = sym (take_all (length d) d (omega arith)) }

keeps_none : (synced : List ℕ) (steps : List Step) → Reaches synced steps synced
keeps_none synced [] = refl
keeps_none synced (Wrote at n ∷ earlier) = (synced, keeps_none synced earlier, torn_none at n synced)
keeps_none synced (Shrank len ∷ earlier) = (synced, keeps_none synced earlier, shortened_none len synced)

torn_filled : (at n : ℕ) (d : List ℕ) (within : Bool) → within ≡ nat_le at (length d) → Torn at n d (if within then patched d at (replicate n filler) else d)
torn_filled at n d true test =
    let inside : at ≤ length d = grind (arith, nat_tests) in
    subst (λ (k : ℕ). Torn at k d (patched d at (replicate n filler))) (length-replicate n filler) (torn_patched at (replicate n filler) d inside)
torn_filled at n d false test = torn_none at n d

keeps_filled : (synced : List ℕ) (steps : List Step) → Reaches synced steps (filled synced steps)
keeps_filled synced [] = refl
keeps_filled synced (Wrote at n ∷ earlier) = (filled synced earlier, keeps_filled synced earlier, torn_filled at n (filled synced earlier) (nat_le at (length (filled synced earlier))) refl)
keeps_filled synced (Shrank len ∷ earlier) = (filled synced earlier, keeps_filled synced earlier, shortened_take len (filled synced earlier))

pub crashed_leaves : (pick : ℕ) (state : FileState) → Leaves state (crashed pick state)
crashed_leaves zero state = inr (keeps_none state.synced state.unsynced)
crashed_leaves (suc zero) state = inl refl
crashed_leaves (suc (suc pick)) state = inr (keeps_filled state.synced state.unsynced)

-- the image behind one more change, where only what was synced is kept, or each range is filled
abbrev pub unkept : ℕ → FileState → List ℕ
unkept zero state = state.synced
unkept (suc pick) state = filled state.synced state.unsynced

pub crashed_is : (pick : ℕ) (state : FileState) → (pick ≡ 1 → ⊥) → crashed pick state ≡ unkept pick state
crashed_is zero state other = refl
crashed_is (suc zero) state other = absurd (other refl)
crashed_is (suc (suc pick)) state other = refl

unkept_of : (pick : ℕ) (b : Bool) (x y : FileState) → unkept pick (if b then x else y) ≡ (if b then unkept pick x else unkept pick y)
unkept_of pick true x y = refl
unkept_of pick false x y = refl

pub image_next : (pick : ℕ) (c : Change) (m : Moment) (file : ℕ) → image_after pick c (m file).seen file (unkept pick (m file)) ≡ unkept pick (moment_after c m file)
image_next zero (Write named at bytes) m file = sym (unkept_of zero (file == named) (state_after (Write named at bytes) (m file)) (m file) ∙ alike (file == named) (m file).synced)
image_next zero (Cut named len) m file = sym (unkept_of zero (file == named) (state_after (Cut named len) (m file)) (m file) ∙ alike (file == named) (m file).synced)
image_next zero (Sync named) m file = sym (unkept_of zero (file == named) (state_after (Sync named) (m file)) (m file))
image_next (suc pick) (Write named at bytes) m file = sym (unkept_of (suc pick) (file == named) (state_after (Write named at bytes) (m file)) (m file))
image_next (suc pick) (Cut named len) m file = sym (unkept_of (suc pick) (file == named) (state_after (Cut named len) (m file)) (m file))
image_next (suc pick) (Sync named) m file = sym (unkept_of (suc pick) (file == named) (state_after (Sync named) (m file)) (m file))

-- so goes the loop over the changes
pub image_on : (pick : ℕ) (first : Files) (cs now : List Change) (c : Change) (seen image image_now : Files) → now ≡ cs ++ c ∷ [] → ReadsAs first cs seen → ((file : ℕ) → file_of image file ≡ unkept pick (now_of first cs file)) → ((file : ℕ) → file_of image_now file ≡ image_after pick c (file_of seen file) file (file_of image file)) → (file : ℕ) → file_of image_now file ≡ unkept pick (now_of first now file)
image_on pick first cs now c seen image image_now pushed reads was changed file =
    changed file ∙ ap (λ (l : List ℕ). image_after pick c l file (file_of image file)) (reads file) ∙ ap (image_after pick c (now_of first cs file).seen file) (was file) ∙ image_next pick c (now_of first cs) file
    ∙ ap (λ (m : Moment). unkept pick (m file)) (sym (behind_push (first_moment first) cs c)) ∙ ap (λ (l : List Change). unkept pick (now_of first l file)) (sym pushed)

-- the same files, read through a slice
pub reads_slice : (first : Files) (cs : List Change) (seen lent : Files) → lent ≡ seen → ReadsAs first cs seen → ReadsAs first cs lent
reads_slice first cs seen lent same reads = λ file. ap (λ (l : Files). file_of l file) same ∙ reads file
