-- Scalars within a line (YAML 1.2, section 7.3), as the lists of their bytes.
use Rattle.std.specs.Prelude.{ℕ, Bool, true, ◌&&◌, ◌||◌, ◌==◌, if◌then◌else◌, List, [], ◌∷◌, Option, Some, None, option_map}
use Rattle.proto_wire.specs.declared.module_kind.ModuleKind.{ModuleKind}
use Rattle.proto_wire.specs.declared.module_kind.ModuleKind.TheVariants.{Anchor, Tag, Flow, BlockScalar, Reserved}

-- ---- what stands around scalars (sections 6.1, 6.2 and 6.6)

-- the space or the tab
abbrev pub is_white : ℕ → Bool
is_white b = b == 32 || b == 9

abbrev pub past_white : List ℕ → List ℕ
past_white [] = []
past_white (b ∷ bs) = if is_white b then past_white bs else b ∷ bs

-- the line's end, or the `#` of a comment
abbrev pub is_end : List ℕ → Bool
is_end [] = true
is_end (b ∷ bs) = b == 35

-- A line is over at its end, and at white space with nothing behind it but a comment.
abbrev pub is_over : List ℕ → Bool
is_over [] = true
is_over (b ∷ bs) = is_white b && is_end (past_white bs)

-- A `-` or a colon means something only where a gap follows: a space, or the line is over.
abbrev pub is_gap : List ℕ → Bool
is_gap [] = true
is_gap (b ∷ bs) = b == 32 || is_over (b ∷ bs)

-- the `-` of an item, and what follows it
abbrev pub is_item : ℕ → List ℕ → Bool
is_item b bs = b == 45 && is_gap bs

-- ---- plain scalars (section 7.3.3)

-- A plain scalar lasts until the line is over.
abbrev pub plain : List ℕ → List ℕ
plain [] = []
plain (b ∷ bs) = if is_over (b ∷ bs) then [] else b ∷ plain bs

-- something found, with a byte in front of its first part
abbrev pub in_front : ℕ → Option (List ℕ × List ℕ) → Option (List ℕ × List ℕ)
in_front b found = option_map (λ x. (b ∷ x.0, x.1)) found

-- what stands before and behind the first colon with a gap in a plain scalar, if it has one
abbrev pub cut_at_colon : List ℕ → Option (List ℕ × List ℕ)
cut_at_colon [] = None
cut_at_colon (b ∷ bs) = if is_over (b ∷ bs) then None else (if b == 58 && is_gap bs then Some ([], bs) else in_front b (cut_at_colon bs))

-- Why no plain scalar begins with this byte, before those: it means something that the profile leaves out (section 5.3).
abbrev pub foreign : ℕ → List ℕ → Option ModuleKind
foreign b bs =
    if b == 38 || b == 42 then Some Anchor
    else (if b == 33 then Some Tag
    else (if b == 123 || b == 125 || b == 91 || b == 93 || b == 44 then Some Flow
    else (if b == 124 || b == 62 then Some BlockScalar
    else (if b == 64 || b == 96 || b == 37 || (b == 63 && is_gap bs) then Some Reserved
    else None))))

-- ---- quoted scalars (sections 7.3.1, 7.3.2 and 5.7): what stands between the quotes, and what follows the last one

abbrev pub is_quote : ℕ → Bool
is_quote b = b == 39 || b == 34

-- between `'`, where two are one
abbrev pub single : List ℕ → Option (List ℕ × List ℕ)
single [] = None
single (b ∷ []) = if b == 39 then Some ([], []) else None
single (b ∷ c ∷ bs) = if b == 39 then (if c == 39 then in_front 39 (single bs) else Some ([], c ∷ bs)) else in_front b (single (c ∷ bs))

-- what a backslash and this byte stand for: the byte itself, or the line feed, tab or carriage return
abbrev pub escape : ℕ → Option ℕ
escape b = if b == 92 || b == 34 || b == 47 then Some b else (if b == 110 then Some 10 else (if b == 116 then Some 9 else (if b == 114 then Some 13 else None)))

abbrev pub escaped_in_front : Option ℕ → Option (List ℕ × List ℕ) → Option (List ℕ × List ℕ)
escaped_in_front None found = None
escaped_in_front (Some b) found = in_front b found

-- between `"`
abbrev pub double : List ℕ → Option (List ℕ × List ℕ)
double [] = None
double (b ∷ []) = if b == 34 then Some ([], []) else None
double (b ∷ c ∷ bs) = if b == 34 then Some ([], c ∷ bs) else (if b == 92 then escaped_in_front (escape c) (double bs) else in_front b (double (c ∷ bs)))

-- behind this quote
abbrev pub quoted : ℕ → List ℕ → Option (List ℕ × List ℕ)
quoted b bs = if b == 39 then single bs else double bs
