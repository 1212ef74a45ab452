-- Going on over the blocks of a manifest, and over the parts of a checkpoint.
use Rattle.std.proofs.Common.{◌≡◌, ℕ, ◌+◌, false, List, [], ◌∷◌, ◌++◌, length, Option, Some, None, Ok, Err, refl, sym, ◌∙◌, ap, arith, is_some}
use Rattle.std.specs.Option.{option_map_or}
use Rattle.typed_values.specs.declared.letter.Letter.{Letter}
use Rattle.piece_messages.specs.declared.piece.Piece.{Piece}
use Rattle.folder_messages.specs.declared.manifest.Place.{Place}
use Rattle.folder_form.specs.declared.pieces.Home.{Home}
use Rattle.folder_form.specs.declared.shape.Shape.{Shape}
use Rattle.folder_form.specs.Shapes.{shape_in}
use Rattle.block_log.specs.Blocks.{Body, extent}
use Rattle.folder_form.specs.Folders.{Break, Contents, Files, Held, Part, Reading, and_then, block_at, contents_from, file_of, form_from, job_in, letters_in, no_contents, or_break, part_at, parts_from, piece_in, spelled_at, step_in}
use Rattle.snapshot_files.proofs.Growing.{then_parts, then_made}

-- ---- readings

then_ok : {A : Type 0} (r : Reading A) (f : A → Reading A) → ((a : A) → f a ≡ Ok a) → and_then r f ≡ r
then_ok (Ok a) f same = same a
then_ok (Err e) f same = refl

then_then : {A B C : Type 0} (r : Reading A) (f : A → Reading B) (g : B → Reading C) (h : A → Reading C) → ((a : A) → and_then (f a) g ≡ h a) → and_then (and_then r f) g ≡ and_then r h
then_then (Ok a) f g h same = same a
then_then (Err e) f g h same = refl

pub then_is : {A B : Type 0} (r : Reading A) (f : A → Reading B) (a : A) → r ≡ Ok a → and_then r f ≡ f a
then_is r f a is = ap (λ x. and_then x f) is

pub then_err : {A B : Type 0} (r : Reading A) (f : A → Reading B) (e : Break) → r ≡ Err e → and_then r f ≡ Err e
then_err r f e is = ap (λ x. and_then x f) is

-- ---- parts

parts_join : (n p : ℕ) (files : Files) (moment : ℕ) (front rest : List Place) (parts : List Part) → parts_from n p files moment front ≡ Ok parts
    → parts_from n p files moment (front ++ rest) ≡ and_then (parts_from n (p + length front) files moment rest) (λ more. Ok (parts ++ more))
parts_join n p files moment [] rest parts is =
    let none : parts ≡ [] = cc in
    let here : p + 0 ≡ p = omega arith in
    sym (ap (λ (q : ℕ). and_then (parts_from n q files moment rest) (λ more. Ok (parts ++ more))) here ∙ then_ok (parts_from n p files moment rest) (λ more. Ok (parts ++ more)) (λ more. ap (λ (l : List Part). Ok (l ++ more)) none))
parts_join n p files moment (x ∷ front) rest parts is =
    let home : Home = record { partitions = n; partition = p } in
    let a = then_parts (part_at home files moment x) (λ part. and_then (parts_from n (p + 1) files moment front) (λ more. Ok (part ∷ more))) parts is in
    let b = then_parts (parts_from n (p + 1) files moment front) (λ more. Ok (a.0 ∷ more)) parts a.2 in
    let whole : a.0 ∷ b.0 ≡ parts = cc in
    let there : p + 1 + length front ≡ p + length (x ∷ front) = omega arith in
    then_is (part_at home files moment x) (λ part. and_then (parts_from n (p + 1) files moment (front ++ rest)) (λ more. Ok (part ∷ more))) a.0 a.1
    ∙ ap (λ r. and_then r (λ more. Ok (a.0 ∷ more))) (parts_join n (p + 1) files moment front rest b.0 b.1)
    ∙ then_then (parts_from n (p + 1 + length front) files moment rest) (λ more. Ok (b.0 ++ more)) (λ more. Ok (a.0 ∷ more)) (λ more. Ok (parts ++ more)) (λ more. ap (λ (l : List Part). Ok (l ++ more)) whole)
    ∙ ap (λ (q : ℕ). and_then (parts_from n q files moment rest) (λ more. Ok (parts ++ more))) there

-- one part more
pub parts_next : (n : ℕ) (files : Files) (moment : ℕ) (front : List Place) (place : Place) (parts : List Part) (part : Part) → parts_from n 0 files moment front ≡ Ok parts
    → part_at (record { partitions = n; partition = length front }) files moment place ≡ Ok part → parts_from n 0 files moment (front ++ place ∷ []) ≡ Ok (parts ++ part ∷ [])
parts_next n files moment front place parts part is next =
    let there : 0 + length front ≡ length front = omega arith in
    parts_join n 0 files moment front (place ∷ []) parts is ∙ ap (λ (q : ℕ). and_then (parts_from n q files moment (place ∷ [])) (λ more. Ok (parts ++ more))) there
    ∙ ap (λ r. and_then (and_then r (λ a. and_then (Ok []) (λ more. Ok (a ∷ more)))) (λ more. Ok (parts ++ more))) next

-- a part that may not stand there
pub parts_break : (n : ℕ) (files : Files) (moment : ℕ) (front : List Place) (place : Place) (behind : List Place) (parts : List Part) (e : Break) → parts_from n 0 files moment front ≡ Ok parts
    → part_at (record { partitions = n; partition = length front }) files moment place ≡ Err e → parts_from n 0 files moment (front ++ place ∷ behind) ≡ Err e
parts_break n files moment front place behind parts e is breaks =
    let there : 0 + length front ≡ length front = omega arith in
    parts_join n 0 files moment front (place ∷ behind) parts is ∙ ap (λ (q : ℕ). and_then (parts_from n q files moment (place ∷ behind)) (λ more. Ok (parts ++ more))) there
    ∙ ap (λ r. and_then (and_then r (λ a. and_then (parts_from n (length front + 1) files moment behind) (λ more. Ok (a ∷ more)))) (λ more. Ok (parts ++ more))) breaks

-- ---- one part

none_spelled : {A : Type 0} (read : Body → Option A) (o : Option Body) → option_map_or (λ b. is_some (read b)) o false ≡ false → spelled_at read o ≡ None
none_spelled read None none = refl
none_spelled read (Some b) none = none_of (read b) none
  where
    none_of : {A : Type 0} (o : Option A) → is_some o ≡ false → o ≡ None
    none_of None none = refl
    none_of (Some a) none = absurd cc

module _ (home : Home) (files : Files) (moment : ℕ) (place : Place) where
  module _ (piece : Piece) (spelled : spelled_at (piece_in home moment) (block_at place.piece (files (file_of home.partition))) ≡ Some piece) where
    pub part_is : (letters : List Letter) → spelled_at (letters_in home) (block_at place.feedback (files (file_of home.partition))) ≡ Some letters → part_at home files moment place ≡ Ok (record { piece = piece; letters = letters })
    part_is letters too = then_made _ _ piece (record { piece = piece; letters = letters }) (ap (or_break (file_of home.partition) place.piece) spelled) (then_made _ _ letters (record { piece = piece; letters = letters }) (ap (or_break (file_of home.partition) place.feedback) too) refl)

    pub letters_break : option_map_or (λ b. is_some (letters_in home b)) (block_at place.feedback (files (file_of home.partition))) false ≡ false → part_at home files moment place ≡ Err (record { file = file_of home.partition; place = place.feedback })
    letters_break none =
        then_is _ _ piece (ap (or_break (file_of home.partition) place.piece) spelled) ∙ then_err _ _ (record { file = file_of home.partition; place = place.feedback }) (ap (or_break (file_of home.partition) place.feedback) (none_spelled (letters_in home) (block_at place.feedback (files (file_of home.partition))) none))

  pub piece_breaks : option_map_or (λ b. is_some (piece_in home moment b)) (block_at place.piece (files (file_of home.partition))) false ≡ false → part_at home files moment place ≡ Err (record { file = file_of home.partition; place = place.piece })
  piece_breaks none = then_err _ _ (record { file = file_of home.partition; place = place.piece }) (ap (or_break (file_of home.partition) place.piece) (none_spelled (piece_in home moment) (block_at place.piece (files (file_of home.partition))) none))

-- ---- the manifest

contents_join : (shape : Shape) (files : Files) (place : ℕ) (c : Contents) (front rest : List Body) (d : Contents) → contents_from shape files place c front ≡ Ok d
    → contents_from shape files place c (front ++ rest) ≡ contents_from shape files (place + extent front) d rest
contents_join shape files place c [] rest d is =
    let same : c ≡ d = cc in
    let here : place ≡ place + 0 = omega arith in
    ap (λ (x : Contents). contents_from shape files place x rest) same ∙ ap (λ (q : ℕ). contents_from shape files q d rest) here
contents_join shape files place c (x ∷ front) rest d is =
    let p = then_parts (step_in shape files place c x) (λ next. contents_from shape files (place + 9 + length x) next front) d is in
    let there : place + 9 + length x + extent front ≡ place + extent (x ∷ front) = omega arith in
    then_is (step_in shape files place c x) (λ next. contents_from shape files (place + 9 + length x) next (front ++ rest)) p.0 p.1
    ∙ contents_join shape files (place + 9 + length x) p.0 front rest d p.2 ∙ ap (λ (q : ℕ). contents_from shape files q d rest) there

abbrev held_of : List ℕ → Shape → Contents → Reading (Option Held)
held_of text shape contents = Ok (Some (record { text = text; shape = shape; contents = contents }))

abbrev shaped : Files → ℕ → List Body → List ℕ → Shape → Reading (Option Held)
shaped files place rest text shape = and_then (contents_from shape files place no_contents rest) (held_of text shape)

abbrev texted : Files → ℕ → List Body → List ℕ → Reading (Option Held)
texted files place rest text = and_then (or_break 0 0 (shape_in text)) (shaped files place rest text)

form_join : (files : Files) (front rest : List Body) (held : Held) → form_from files front ≡ Ok (Some held)
    → form_from files (front ++ rest) ≡ and_then (contents_from held.shape files (extent front) held.contents rest) (held_of held.text held.shape)
form_join files [] rest held is = absurd cc
form_join files (job ∷ front) rest held is =
    let place = 9 + length job in
    let t = then_parts (or_break 0 0 (job_in job)) (texted files place front) (Some held) is in
    let s = then_parts (or_break 0 0 (shape_in t.0)) (shaped files place front t.0) (Some held) t.2 in
    let c = then_parts (contents_from s.0 files place no_contents front) (held_of t.0 s.0) (Some held) s.2 in
    let whole : Held = record { text = t.0; shape = s.0; contents = c.0 } in
    let same : whole ≡ held = cc in
    then_is (or_break 0 0 (job_in job)) (texted files place (front ++ rest)) t.0 t.1
    ∙ then_is (or_break 0 0 (shape_in t.0)) (shaped files place (front ++ rest) t.0) s.0 s.1
    ∙ ap (λ r. and_then r (held_of t.0 s.0)) (contents_join s.0 files place no_contents front rest c.0 c.1)
    ∙ ap (λ (h : Held). and_then (contents_from h.shape files (place + extent front) h.contents rest) (held_of h.text h.shape)) same

pub form_next : (files : Files) (front : List Body) (b : Body) (held : Held) (next : Contents) → form_from files front ≡ Ok (Some held) → step_in held.shape files (extent front) held.contents b ≡ Ok next
    → form_from files (front ++ b ∷ []) ≡ Ok (Some (record { text = held.text; shape = held.shape; contents = next }))
form_next files front b held next is step = form_join files front (b ∷ []) held is ∙ ap (λ r. and_then (and_then r (λ c. Ok c)) (held_of held.text held.shape)) step

pub form_breaks : (files : Files) (front : List Body) (b : Body) (behind : List Body) (held : Held) (e : Break) → form_from files front ≡ Ok (Some held) → step_in held.shape files (extent front) held.contents b ≡ Err e
    → form_from files (front ++ b ∷ behind) ≡ Err e
form_breaks files front b behind held e is breaks =
    form_join files front (b ∷ behind) held is ∙ ap (λ r. and_then (and_then r (λ c. contents_from held.shape files (extent front + 9 + length b) c behind)) (held_of held.text held.shape)) breaks

-- the job alone
pub form_first : (files : Files) (job : Body) (text : List ℕ) (shape : Shape) → job_in job ≡ Some text → shape_in text ≡ Some shape → form_from files (job ∷ []) ≡ Ok (Some (record { text = text; shape = shape; contents = no_contents }))
form_first files job text shape is_text is_shape =
    then_is (or_break 0 0 (job_in job)) (texted files (9 + length job) []) text (ap (or_break 0 0) is_text) ∙ then_is (or_break 0 0 (shape_in text)) (shaped files (9 + length job) [] text) shape (ap (or_break 0 0) is_shape)

pub no_job : (files : Files) (job : Body) (rest : List Body) → job_in job ≡ None → form_from files (job ∷ rest) ≡ Err (record { file = 0; place = 0 })
no_job files job rest none = then_err (or_break 0 0 (job_in job)) (texted files (9 + length job) rest) (record { file = 0; place = 0 }) (ap (or_break 0 0) none)

pub no_shape : (files : Files) (job : Body) (rest : List Body) (text : List ℕ) → job_in job ≡ Some text → shape_in text ≡ None → form_from files (job ∷ rest) ≡ Err (record { file = 0; place = 0 })
no_shape files job rest text is_text none =
    then_is (or_break 0 0 (job_in job)) (texted files (9 + length job) rest) text (ap (or_break 0 0) is_text)
    ∙ then_err (or_break 0 0 (shape_in text)) (shaped files (9 + length job) rest text) (record { file = 0; place = 0 }) (ap (or_break 0 0) none)
