-- What is written of a record's egress, piece by piece.
use Rattle.std.proofs.Common.{◌≡◌, ◌≤◌, ◌<◌, ◌+◌, ◌∙◌, ap, sym, refl, subst, ℕ, zero, suc, List, [], ◌∷◌, ◌++◌, length, take, drop, get_or, arith, append_assoc, length-append, Option, Some, None}
use Rattle.std.specs.Prelude.{Result}
use Rattle.std.specs.Option.{option_map_or}
use Rattle.std.proofs.lemmas.List.{append-nil, take-append-drop}
use Rattle.std.proofs.lemmas.Grind.{flat_map-append}
use Rattle.std.proofs.Math.Seq.{take-append_seam, take-append-add, take-length, take-suc}
use Rattle.sf_outside.specs.Told.{more, more-nil, more-more}
use Rattle.typed_values.specs.declared.record.EgressRecord.{EgressRecord}
use Rattle.proto_wire.specs.declared.fault.WireFault.{WireFault}
use Rattle.request_reply.specs.declared.answer.FromFunction.{FromFunction}
use Rattle.request_reply.specs.Spelling.{from_value}
use Rattle.run_record.specs.declared.entry.Entry.{Entry}
use Rattle.run_record.specs.declared.entry.Reply.{Reply}
use Rattle.run_record.specs.declared.entry.Step.{Step}
use Rattle.run_record.specs.Machine.{reply_of}
use Rattle.run_record.specs.Egress.{egress_of, egress_text, records_of_reply, records_spelled}
use Rattle.statefun_cli.specs.Running.{IsPart}
use Rattle.statefun_cli.specs.Egress.{entry_text}

-- ---- parts of a text

abbrev Held : Type 0
Held = Option (List ℕ)

pub part-none : (before : Held) (text : List ℕ) → IsPart before before text
part-none before text = (0, omega arith, sym (more-nil before))

-- a front is a part
pub part-front : (before now : Held) (front rest : List ℕ) → now ≡ more before front → IsPart before now (front ++ rest)
part-front before now front rest e = (length front, omega (arith, length-append front rest), e ∙ ap (more before) (sym (take-append_seam front rest)))

pub part-whole : (before now : Held) (text : List ℕ) → now ≡ more before text → IsPart before now text
part-whole before now text e = (length text, omega arith, e ∙ ap (more before) (sym (take-length text)))

-- a part of what comes behind a front
pub part-behind : (before now after : Held) (front text rest : List ℕ) → now ≡ more before front → IsPart now after text → IsPart before after (front ++ (text ++ rest))
part-behind before now after front text rest e (k, short, f) =
    let inner : take k text ≡ take k (text ++ rest) = take-within k text rest short in (
      length front + k,
      omega (arith, length-append front (text ++ rest), length-append text rest),
      f ∙ (ap (λ (told : Held). more told (take k text)) e ∙ (more-more before front (take k text) ∙ ap (more before) (ap (λ (part : List ℕ). front ++ part) inner ∙ sym (take-append-add front (text ++ rest) k)))),
    )
  where
    take-within : (k : ℕ) (text rest : List ℕ) → k ≤ length text → take k text ≡ take k (text ++ rest)
    take-within zero text rest l = refl
    take-within (suc k) [] rest l = absurd (omega arith)
    take-within (suc k) (byte ∷ text) rest l = ap (λ (bytes : List ℕ). byte ∷ bytes) (take-within k text rest (omega arith))

-- ---- the text of a record

text-append : (a b : List EgressRecord) → egress_text (a ++ b) ≡ egress_text a ++ egress_text b
unfolding egress_text
text-append a b = flat_map-append _ a b

of-append : (a b : List Entry) → egress_of (a ++ b) ≡ egress_of a ++ egress_of b
unfolding egress_of
of-append a b = flat_map-append _ a b

-- one entry more
text-more : (entries : List Entry) (entry : Entry) → egress_text (egress_of (entries ++ entry ∷ [])) ≡ egress_text (egress_of entries) ++ entry_text entry
unfolding egress_of
text-more entries entry =
    let given = option_map_or records_of_reply (reply_of entry.step) [] in
    ap egress_text (of-append entries (entry ∷ [])) ∙ (text-append (egress_of entries) (given ++ []) ∙ ap (λ (records : List EgressRecord). egress_text (egress_of entries) ++ egress_text records) (append-nil given))

-- the text of a record is that of a front of it, and of the rest
text-split : (entries : List Entry) (i : ℕ) → egress_text (egress_of entries) ≡ egress_text (egress_of (take i entries)) ++ egress_text (egress_of (drop i entries))
text-split entries i = ap (λ (es : List Entry). egress_text (egress_of es)) (sym (take-append-drop i entries)) ∙ (ap egress_text (of-append (take i entries) (drop i entries)) ∙ text-append _ _)

text-next : (entries : List Entry) (i : ℕ) (entry : Entry) → i < length entries → entry ≡ get_or entries i entry
    → egress_text (egress_of (take (i + 1) entries)) ≡ egress_text (egress_of (take i entries)) ++ entry_text entry
text-next entries i entry inside here =
    let next : i + 1 ≡ suc i = omega arith in
    ap (λ (n : ℕ). egress_text (egress_of (take n entries))) next
    ∙ (ap (λ (es : List Entry). egress_text (egress_of es)) (take-suc entries i entry inside ∙ ap (λ (e : Entry). take i entries ++ e ∷ []) (sym here)) ∙ text-more (take i entries) entry)

-- ---- a loop over entries

-- Of the text of the first entries a front was written, and the rest is gathered.
pub record Sent (before now : Held) (gathered : List ℕ) (entries : List Entry) (i : ℕ) : Type 0 where
  pub front : List ℕ
  pub written : now ≡ more before front
  pub is : egress_text (egress_of (take i entries)) ≡ front ++ gathered

pub sent-first : (before : Held) (entries : List Entry) → Sent before before [] entries 0
unfolding egress_text egress_of
sent-first before entries = record { front = []; written = sym (more-nil before); is = refl }

-- the text of the next entry is gathered, and some of it passed on
pub sent-next : (before now after : Held) (gathered more_gathered left : List ℕ) (entries : List Entry) (i : ℕ) (entry : Entry)
    → Sent before now gathered entries i → i < length entries → entry ≡ get_or entries i entry → more_gathered ≡ gathered ++ entry_text entry
    → (f : List ℕ) × (after ≡ more now f) × (more_gathered ≡ f ++ left) → Sent before after left entries (i + 1)
sent-next before now after gathered more_gathered left entries i entry sent inside here adds (f, writes, parts) = record {
  front = sent.front ++ f;
  written = writes ∙ (ap (λ (told : Held). more told f) sent.written ∙ more-more before sent.front f);
  is = text-next entries i entry inside here
      ∙ (ap (λ (text : List ℕ). text ++ entry_text entry) sent.is
      ∙ (append_assoc sent.front gathered (entry_text entry)
      ∙ (ap (λ (text : List ℕ). sent.front ++ text) (sym adds ∙ parts) ∙ sym (append_assoc sent.front f left))));
}

-- where memory ran out at an entry, a part was written
pub sent-part : (before now : Held) (gathered : List ℕ) (entries : List Entry) (i : ℕ) → Sent before now gathered entries i → IsPart before now (egress_text (egress_of entries))
sent-part before now gathered entries i sent =
    let rest = egress_text (egress_of (drop i entries)) in
    let whole : egress_text (egress_of entries) ≡ sent.front ++ (gathered ++ rest) =
    text-split entries i ∙ (ap (λ (text : List ℕ). text ++ rest) sent.is ∙ append_assoc sent.front gathered rest) in
    subst (λ (text : List ℕ). IsPart before now text) (sym whole) (part-front before now sent.front (gathered ++ rest) sent.written)

-- where the sink failed at what was gathered, so it is too
part-gathered : (before now after : Held) (gathered : List ℕ) (entries : List Entry) (i : ℕ) → Sent before now gathered entries i
    → IsPart now after gathered → IsPart before after (egress_text (egress_of entries))
part-gathered before now after gathered entries i sent part =
    let rest = egress_text (egress_of (drop i entries)) in
    let whole : egress_text (egress_of entries) ≡ sent.front ++ (gathered ++ rest) =
    text-split entries i ∙ (ap (λ (text : List ℕ). text ++ rest) sent.is ∙ append_assoc sent.front gathered rest) in
    subst (λ (text : List ℕ). IsPart before after text) (sym whole) (part-behind before now after sent.front gathered rest sent.written part)

pub sent-broken : (before now after : Held) (gathered more_gathered : List ℕ) (entries : List Entry) (i : ℕ) (entry : Entry)
    → Sent before now gathered entries i → i < length entries → entry ≡ get_or entries i entry → more_gathered ≡ gathered ++ entry_text entry
    → IsPart now after more_gathered → IsPart before after (egress_text (egress_of entries))
sent-broken before now after gathered more_gathered entries i entry sent inside here adds part =
    part-gathered before now after more_gathered entries (i + 1)
    (sent-next before now now gathered more_gathered more_gathered entries i entry sent inside here adds ([], sym (more-nil now), refl)) part

-- behind the last entry
pub sent-all : (before now after : Held) (gathered : List ℕ) (entries : List Entry) (i : ℕ) → Sent before now gathered entries i → length entries ≤ i
    → after ≡ more now gathered → after ≡ more before (egress_text (egress_of entries))
sent-all before now after gathered entries i sent past writes =
    writes ∙ (ap (λ (told : Held). more told gathered) sent.written
    ∙ (more-more before sent.front gathered ∙ ap (more before) (sym sent.is ∙ ap (λ (es : List Entry). egress_text (egress_of es)) (take-past entries i past))))
  where
    take-past : (xs : List Entry) (n : ℕ) → length xs ≤ n → take n xs ≡ xs
    take-past [] zero l = refl
    take-past [] (suc n) l = refl
    take-past (x ∷ xs) zero l = absurd (omega arith)
    take-past (x ∷ xs) (suc n) l = ap (λ (rest : List Entry). x ∷ rest) (take-past xs n (omega arith))

pub sent-all-part : (before now after : Held) (gathered : List ℕ) (entries : List Entry) (i : ℕ) → Sent before now gathered entries i
    → IsPart now after gathered → IsPart before after (egress_text (egress_of entries))
sent-all-part before now after gathered entries i sent part = part-gathered before now after gathered entries i sent part

-- a text, and then a line
pub line-whole : (before now after : Held) (text line : List ℕ) → now ≡ more before text → after ≡ more now line → after ≡ more before (text ++ line)
line-whole before now after text line e f = f ∙ (ap (λ (told : Held). more told line) e ∙ more-more before text line)

pub line-part : (before now after : Held) (text line : List ℕ) → now ≡ more before text → IsPart now after line → IsPart before after (text ++ line)
line-part before now after text line e part =
    subst (λ (rest : List ℕ). IsPart before after (text ++ rest)) (append-nil line) (part-behind before now after text line [] e part)

-- a part of a text is one of that text with a line behind it
pub text-part : (before after : Held) (text line : List ℕ) → IsPart before after text → IsPart before after (text ++ line)
text-part before after text line part = part-behind before before after [] text line (sym (more-nil before)) part

-- ---- the text of one step

-- an answer that spells no egress
pub nothing-spelled : (old : List ℕ) (reply : Reply) (r : Result FromFunction WireFault) → from_value reply.answer ≡ r → records_spelled reply.address r ≡ []
    → old ≡ old ++ egress_text (records_of_reply reply)
unfolding egress_text
nothing-spelled old reply r e none = let f : records_of_reply reply ≡ [] = ap (records_spelled reply.address) e ∙ none in rw f (sym (append-nil old))

-- a step without an answer
pub nothing-said : (old : List ℕ) (entry : Entry) (step : Step) → entry.step ≡ step → reply_of step ≡ None → old ≡ old ++ entry_text entry
unfolding egress_text
nothing-said old entry step e none = let f : reply_of entry.step ≡ None = ap reply_of e ∙ none in rw f (sym (append-nil old))
