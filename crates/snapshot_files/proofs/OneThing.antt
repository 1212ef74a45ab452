-- A folder stands for one thing, and what follows of a store that is open.
use Rattle.std.proofs.Common.{◌≡◌, inl, inr, ℕ, zero, suc, ◌+◌, ◌<◌, ◌≤◌, Bool, true, false, ◌&&◌, not, ◌==◌, nat_eq, nat_le, if◌then◌else◌, List, [], ◌∷◌, length, codes, bytes_eq, slice_index, is_some, Option, Some, None, Ok, Err, refl, sym, ◌∙◌, ap, subst, arith}
use Rattle.std.proofs.lemmas.Bool.Decides.{nat_tests}
use Rattle.std.specs.List.{list_all}
use Rattle.std.specs.Option.{option_map, option_map_or}
use Rattle.std.specs.Str.{all_ascii_digits}
use Rattle.std.specs.Str.Parse.{digits_value}
use Rattle.typed_values.specs.declared.letter.Letter.{Letter}
use Rattle.sf_disk.specs.Moments.{Moment, Folder, IsImage}
use Rattle.block_log.specs.Blocks.{Body, IsNoLog}
use Rattle.block_log.proofs.Unique.{stands_for_one, refused_or_stands}
use Rattle.folder_messages.specs.declared.manifest.Manifest.{Manifest}
use Rattle.folder_messages.specs.declared.manifest.Manifest.TheVariants as says
use Rattle.folder_messages.specs.declared.manifest.Complete.{Complete}
use Rattle.folder_messages.specs.declared.manifest.Place.{Place}
use Rattle.folder_messages.specs.ManifestSpelling.{manifest_value}
use Rattle.piece_messages.specs.declared.piece.Piece.{Piece}
use Rattle.folder_form.specs.declared.shape.Shape.{Shape}
use Rattle.folder_form.specs.declared.pieces.Home.{Home}
use Rattle.folder_form.specs.Shapes.{number_up_to, partitions_in, partitions_of_lines, partitions_of_words, lines_of, words_of, shape_in, splits_in, within}
use Rattle.folder_form.specs.Folders.{Break, Part, Contents, Files, Held, Reading, and_then, block_at, completed, contents_from, file_of, form_from, form_of, is_next, job_in, letters_in, mark_of, no_contents, or_break, part_at, parts_from, piece_in, said, spelled_at, step_in, takes, valued, with_checkpoint}
use Rattle.snapshot_files.specs.declared.slot.Slot.{Slot}
use Rattle.snapshot_files.specs.declared.store.Store.{Store}
use Rattle.snapshot_files.specs.Usable.{AreAllPut, slot_at}
use Rattle.snapshot_files.specs.Stores.{AreLogs, HasForm, Pending, IsPut, IsStore, held_by, home_in}
use Rattle.snapshot_files.specs.Changes.{and_parts, part_of, parts_put}
use Rattle.snapshot_files.specs.Opening.{BreaksAt, BreaksFor, IsStoreFile}
use Rattle.snapshot_files.proofs.Writing.{stands}

-- ---- a job is over 16 partitions at most

if_some : {A : Type 0} (t : Bool) (o : Option A) (a : A) → (if t then o else None) ≡ Some a → (t ≡ true) × (o ≡ Some a)
if_some true o a is = (refl, is)
if_some false o a is = absurd cc

both : (s t : Bool) → (s && t) ≡ true → (s ≡ true) × (t ≡ true)
both true t is = (refl, is)
both false t is = absurd cc

some_same : {A : Type 0} (a b : A) → Some a ≡ Some b → a ≡ b
some_same a b is = cc

less_is : (a b : ℕ) → nat_le a b ≡ true → a ≤ b
less_is a b is = grind (arith, nat_tests)

same_is : (a b : ℕ) → nat_eq a b ≡ true → a ≡ b
same_is a b is = grind (arith, nat_tests)

within_most : (most number n : ℕ) → within most number ≡ Some n → n ≤ most
within_most most number n is =
    let t = if_some (nat_le 1 number && nat_le number most) (Some number) n is in
    subst (λ (k : ℕ). k ≤ most) (some_same number n t.1) (less_is number most (both (nat_le 1 number) (nat_le number most) t.0).1)

number_most : (most : ℕ) (word : List ℕ) (n : ℕ) → number_up_to most word ≡ Some n → n ≤ most
unfolding number_up_to
number_most most word n is = within_most most (digits_value 10 word) n (if_some (all_ascii_digits word && not (slice_index word 0 == 48)) (within most (digits_value 10 word)) n is).1

words_most : (words : List (List ℕ)) (n : ℕ) → partitions_of_words words ≡ Some n → n ≤ 16
words_most [] n is = absurd cc
words_most (word ∷ []) n is = absurd cc
words_most (word ∷ number ∷ []) n is = number_most 16 number n (if_some (bytes_eq word (codes "partitions")) (number_up_to 16 number) n is).1
words_most (word ∷ number ∷ other ∷ words) n is = absurd cc

lines_most : (lines : List (List ℕ)) (n : ℕ) → partitions_of_lines lines ≡ Some n → n ≤ 16
lines_most [] n is = absurd cc
lines_most (line ∷ lines) n is = words_most (words_of line) n is

partitions_most : (text : List ℕ) (n : ℕ) → partitions_in text ≡ Some n → n ≤ 16
unfolding partitions_in
partitions_most text n is = lines_most (lines_of text) n is

mapped_most : (splits : ℕ) (o : Option ℕ) (shape : Shape) → ((n : ℕ) → o ≡ Some n → n ≤ 16) → option_map (λ (partitions : ℕ). record { partitions = partitions; splits = splits }) o ≡ Some shape → shape.partitions ≤ 16
mapped_most splits None shape most is = absurd cc
mapped_most splits (Some n) shape most is = let one : record { partitions = n; splits = splits } ≡ shape = cc in subst (λ (s : Shape). s.partitions ≤ 16) one (most n refl)

shape_most : (text : List ℕ) (shape : Shape) → shape_in text ≡ Some shape → shape.partitions ≤ 16
unfolding shape_in
shape_most text shape is = mapped_most (splits_in text) (partitions_in text) shape (partitions_most text) is

-- ---- files that agree where a folder is read

abbrev Agree : Files → Files → Type 0
Agree files others = (file : ℕ) → IsStoreFile file → others file ≡ files file

agree : (folder : Folder) (files others : Files) → AreLogs folder files → AreLogs folder others → Agree files others
agree folder files others are too file (inl same) = ap others same ∙ stands_for_one (folder 0) (files 0) (others 0) are.manifest too.manifest ∙ ap files (sym same)
agree folder files others are too file (inr (p, less, same)) =
    ap others same ∙ stands_for_one (folder (file_of p)) (files (file_of p)) (others (file_of p)) (are.logs p less) (too.logs p less) ∙ ap files (sym same)

then_same : {A B : Type 0} (r s : Reading A) (f g : A → Reading B) → s ≡ r → ((a : A) → r ≡ Ok a → g a ≡ f a) → and_then s g ≡ and_then r f
then_same (Ok a) s f g same next = ap (λ x. and_then x g) same ∙ next a refl
then_same (Err e) s f g same next = ap (λ x. and_then x g) same

or_some : {A : Type 0} (file place : ℕ) (o : Option A) (a : A) → or_break file place o ≡ Ok a → o ≡ Some a
or_some file place None a is = absurd cc
or_some file place (Some x) a is = cc

if_same : {A : Type 0} (t : Bool) (x y o : A) → (t ≡ true → y ≡ x) → (if t then y else o) ≡ (if t then x else o)
if_same true x y o same = same refl
if_same false x y o same = refl

-- a part, by the blocks of its file
abbrev part_of_blocks : Home → ℕ → Place → List Body → Reading Part
part_of_blocks home moment place bodies =
    and_then (or_break (file_of home.partition) place.piece (spelled_at (piece_in home moment) (block_at place.piece bodies)))
    (λ piece. and_then (or_break (file_of home.partition) place.feedback (spelled_at (letters_in home) (block_at place.feedback bodies))) (λ letters. Ok (record { piece = piece; letters = letters })))

parts_same : (n p : ℕ) (files others : Files) (moment : ℕ) (places : List Place) → Agree files others → p + length places ≤ 16 → parts_from n p others moment places ≡ parts_from n p files moment places
parts_same n p files others moment [] same few = refl
parts_same n p files others moment (place ∷ places) same few =
    let home : Home = record { partitions = n; partition = p } in
    then_same (part_at home files moment place) (part_at home others moment place)
    (λ part. and_then (parts_from n (p + 1) files moment places) (λ parts. Ok (part ∷ parts)))
    (λ part. and_then (parts_from n (p + 1) others moment places) (λ parts. Ok (part ∷ parts)))
    (ap (part_of_blocks home moment place) (same (file_of p) (inr (p, omega (arith, few), refl))))
    (λ part is. ap (λ r. and_then r (λ parts. Ok (part ∷ parts))) (parts_same n (p + 1) files others moment places same (omega (arith, few))))

next_places : (shape : Shape) (newest : ℕ) (complete : Complete) → is_next shape newest complete ≡ true → length complete.places ≡ shape.partitions
unfolding is_next
next_places shape newest complete is =
    let t = both (nat_eq complete.number (newest + 1) && nat_le complete.number complete.leg && nat_eq (length complete.taken) shape.splits && nat_eq (length complete.places) shape.partitions) (list_all takes complete.takes) is in
    let p = both (nat_eq complete.number (newest + 1) && nat_le complete.number complete.leg && nat_eq (length complete.taken) shape.splits) (nat_eq (length complete.places) shape.partitions) t.0 in
    same_is (length complete.places) shape.partitions p.1

module _ (shape : Shape) (most : shape.partitions ≤ 16) (files others : Files) (same : Agree files others) where
  completed_same : (complete : Complete) (c : Contents) → length complete.places ≡ shape.partitions → completed shape others complete c ≡ completed shape files complete c
  completed_same complete c places = ap (λ r. and_then r (λ parts. Ok (with_checkpoint (mark_of complete) parts c))) (parts_same shape.partitions 0 files others complete.moment complete.places same (omega (arith, places, most)))

  said_same : (place : ℕ) (c : Contents) (o : Option Manifest) → said shape others place c o ≡ said shape files place c o
  said_same place c None = refl
  said_same place c (Some (says.Job job)) = refl
  said_same place c (Some (says.Opening opening)) = refl
  said_same place c (Some (says.Complete complete)) = if_same (is_next shape (length c.checkpoints) complete) (completed shape files complete c) (completed shape others complete c) (or_break 0 place None)
      (λ is. completed_same complete c (next_places shape (length c.checkpoints) complete is))

  contents_same : (place : ℕ) (c : Contents) (bodies : List Body) → contents_from shape others place c bodies ≡ contents_from shape files place c bodies
  contents_same place c [] = refl
  contents_same place c (body ∷ bodies) = then_same (step_in shape files place c body) (step_in shape others place c body)
      (λ next. contents_from shape files (place + 9 + length body) next bodies)
      (λ next. contents_from shape others (place + 9 + length body) next bodies)
      (said_same place c (valued (manifest_value body)))
      (λ next is. contents_same (place + 9 + length body) next bodies)

abbrev held_of : List ℕ → Shape → Contents → Reading (Option Held)
held_of text shape contents = Ok (Some (record { text = text; shape = shape; contents = contents }))

blocks_same : (files others : Files) (bodies : List Body) → Agree files others → form_from others bodies ≡ form_from files bodies
blocks_same files others [] same = refl
blocks_same files others (job ∷ rest) same = then_same (or_break 0 0 (job_in job)) (or_break 0 0 (job_in job))
    (λ text. and_then (or_break 0 0 (shape_in text)) (λ shape. and_then (contents_from shape files (9 + length job) no_contents rest) (held_of text shape)))
    (λ text. and_then (or_break 0 0 (shape_in text)) (λ shape. and_then (contents_from shape others (9 + length job) no_contents rest) (held_of text shape)))
    refl
    (λ text is_text. then_same (or_break 0 0 (shape_in text)) (or_break 0 0 (shape_in text))
    (λ shape. and_then (contents_from shape files (9 + length job) no_contents rest) (held_of text shape))
    (λ shape. and_then (contents_from shape others (9 + length job) no_contents rest) (held_of text shape))
    refl
    (λ shape is_shape. ap (λ r. and_then r (held_of text shape)) (contents_same shape (shape_most text shape (or_some 0 0 (shape_in text) shape is_shape)) files others same (9 + length job) no_contents rest)))

form_same : (files others : Files) → Agree files others → form_of others ≡ form_of files
form_same files others same = ap (form_from others) (same 0 (inl refl)) ∙ blocks_same files others (files 0) same

-- ---- one thing

ok_same : (a b : Option Held) (r : Reading (Option Held)) → r ≡ Ok a → r ≡ Ok b → a ≡ b
ok_same a b r is_a is_b = cc

ok_or : (a : Option Held) (e : Break) (r : Reading (Option Held)) → r ≡ Ok a → r ≡ Err e → ⊥
ok_or a e r is_a is_e = absurd cc

pub one_thing : (folder : Folder) (a b : Option Held) → HasForm folder a → HasForm folder b → a ≡ b
one_thing folder a b has too = ok_same a b (form_of has.files) has.form_is (sym (form_same has.files too.files (agree folder has.files too.files has.are_logs too.are_logs)) ∙ too.form_is)

-- a file of it is a log
no_log : (folder : Folder) (files : Files) (file place : ℕ) → AreLogs folder files → IsStoreFile file → IsNoLog (folder file) place → ⊥
no_log folder files file place are (inl same) refused = refused_or_stands (folder 0) (files 0) place are.manifest (subst (λ (f : ℕ). IsNoLog (folder f) place) same refused)
no_log folder files file place are (inr (p, less, same)) refused = refused_or_stands (folder (file_of p)) (files (file_of p)) place (are.logs p less) (subst (λ (f : ℕ). IsNoLog (folder f) place) same refused)

pub breaks_or_stands : (folder : Folder) (form : Option Held) (file place : ℕ) → HasForm folder form → BreaksAt folder file place → ⊥
breaks_or_stands folder form file place has (inl (own, refused)) = no_log folder has.files file place has.are_logs own refused
breaks_or_stands folder form file place has (inr (files, are, breaks)) =
    ok_or form (record { file = file; place = place }) (form_of has.files) has.form_is (sym (form_same has.files files (agree folder has.files files has.are_logs are)) ∙ breaks)

pub refused_or_stands_for : (text : List ℕ) (folder : Folder) (form : Option Held) (file place : ℕ) → HasForm folder form → BreaksFor text folder file place → ⊥
refused_or_stands_for text folder form file place has (inl refused) = breaks_or_stands folder form file place has (inl refused)
refused_or_stands_for text folder form file place has (inr (files, are, breaks, own)) = breaks_or_stands folder form file place has (inr (files, are, breaks))

-- ---- an open store

pub store_stands : (store : Store) (contents : Contents) (pending : ℕ → Pending) (now : Moment) → IsStore store contents pending now → (folder : Folder) → IsImage now folder → HasForm folder (Some (held_by store contents))
store_stands store contents pending now is folder image = record {
  files = is.files;
  are_logs = stands store contents pending now is now 0 (λ other differs. refl) folder image is.files (λ other differs. refl) (is.manifest.rest (folder 0) (image 0));
  form_is = is.form_is;
}

-- ---- what was put

-- what a slot has a place for was put
place_put : {A : Type 0} (read : Body → Option A) (bodies : List Body) (place : Option ℕ) (put : Option A) → is_some place ≡ true → IsPut read bodies place put → (a : A) × (put ≡ Some a)
place_put read bodies None put has is = absurd cc
place_put read bodies (Some place) (Some a) has is = (a, refl)
place_put read bodies (Some place) None has is = absurd is

at_slot : (f : Slot → Bool) (o : Option Slot) → option_map_or f o false ≡ true → (slot : Slot) × (o ≡ Some slot) × (f slot ≡ true)
at_slot f None is = absurd cc
at_slot f (Some slot) is = (slot, refl, is)

parts_there : (n p : ℕ) (pending : ℕ → Pending) → ((q : ℕ) → p ≤ q → q < p + n → ((piece : Piece) × ((pending q).piece ≡ Some piece)) × ((letters : List Letter) × ((pending q).letters ≡ Some letters)))
    → (parts : List Part) × (parts_put n p pending ≡ Some parts)
parts_there zero p pending put = ([], refl)
parts_there (suc n) p pending put =
    let here = put p (omega arith) (omega arith) in
    let rest = parts_there n (p + 1) pending (λ q from less. put q (omega (arith, from)) (omega (arith, less))) in
    let part : Part = record { piece = here.0.0; letters = here.1.0 } in
    (part ∷ rest.0, ap (λ (o : Option Piece). and_parts (part_of o (pending p).letters) (parts_put n (p + 1) pending)) here.0.1 ∙ ap (λ (o : Option (List Letter)). and_parts (part_of (Some here.0.0) o) (parts_put n (p + 1) pending)) here.1.1 ∙ ap (and_parts (Some part)) rest.1)

pub all_there : (store : Store) (contents : Contents) (pending : ℕ → Pending) (now : Moment) (moment : ℕ) → IsStore store contents pending now → AreAllPut store moment → (parts : List Part) × (parts_put store.shape.partitions 0 pending ≡ Some parts)
all_there store contents pending now moment is all = parts_there store.shape.partitions 0 pending put
  where
    put : (q : ℕ) → 0 ≤ q → q < 0 + store.shape.partitions → ((piece : Piece) × ((pending q).piece ≡ Some piece)) × ((letters : List Letter) × ((pending q).letters ≡ Some letters))
    put q from less =
        let two = all q (omega (arith, less)) in
        let a = at_slot (λ slot. is_some slot.piece) (slot_at store q) two.0 in
        let b = at_slot (λ slot. is_some slot.letters) (slot_at store q) two.1 in
        let bodies = is.files (file_of q) in (
          place_put (piece_in (home_in store.shape q) a.0.latest) bodies a.0.piece (pending q).piece a.2 (is.slots q a.0 a.1).piece,
          place_put (letters_in (home_in store.shape q)) bodies b.0.letters (pending q).letters b.2 (is.slots q b.0 b.1).letters,
        )
