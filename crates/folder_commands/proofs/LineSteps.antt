-- Lines one after the other, and the records that they make.
use Rattle.std.proofs.Common.{◌≡◌, ◌⊎◌, inl, inr, ℕ, zero, suc, ◌+◌, ◌<◌, ◌≤◌, Bool, true, false, ◌&&◌, ◌||◌, ◌==◌, not, nat_lt, nat_le, eqb, List, [], ◌∷◌, ◌++◌, length, take, drop, is_some, Option, Some, None, refl, sym, ◌∙◌, ap, subst, arith, append-nil, append_assoc, length-append}
use Rattle.std.specs.List.{slice_split, position_or_len, before_first, after_first, flat_map, count_by}
use Rattle.std.specs.Option.{option_to_list}
use Rattle.std.specs.Str.{is_utf8, IsUtf8}
use Rattle.std.proofs.lemmas.List.{take_all}
use Rattle.std.proofs.lemmas.Str.{is_utf8-from_IsUtf8, IsUtf8-from_is_utf8}
use Rattle.std.proofs.lemmas.Bool.Decides.{nat_tests}
use Rattle.std.proofs.lemmas.List.Splits.{slice_split_first, slice_split_none, length-slice_split}
use Rattle.std.proofs.lemmas.List.Sums.{fails_before_first}
use Rattle.std.proofs.lemmas.List.Elements.{All-from_get_or}
use Rattle.sf_outside.specs.declared.ingress.IngressRecord.{IngressRecord}
use Rattle.folder_commands.specs.declared.append_lines.Appended.{Appended}
use Rattle.folder_commands.specs.LogText.{log_text, record_text}
use Rattle.folder_commands.specs.Lines.{limit, is_whole, lines_in, GoesOn, IsReadTo, good, has_bad, is_feed, is_tab, keyed, last_line, lines_of, parts_of, record_in}

-- ---- one line

utf8_false : (line : List ℕ) → (IsUtf8 line → ⊥) → is_utf8 line ≡ false
utf8_false line bad = by (is_utf8 line) refl
  where
    by : (t : Bool) → is_utf8 line ≡ t → is_utf8 line ≡ false
    by true e = absurd (bad (IsUtf8-from_is_utf8 line e))
    by false e = e

pub no_text : (line : List ℕ) → (IsUtf8 line → ⊥) → None ≡ record_in line
unfolding record_in
no_text line bad = rw (utf8_false line bad) refl

within : (a b : ℕ) → a < b → nat_lt a b ≡ true
within a b less = grind (arith, nat_tests)

past : (a b : ℕ) → a ≡ b → nat_lt a b ≡ false
past a b same = grind (arith, nat_tests)

pub no_tab : (line : List ℕ) → IsUtf8 line → position_or_len is_tab line ≡ length line → None ≡ record_in line
unfolding record_in
no_tab line is none = rw (is_utf8-from_IsUtf8 line is, past _ _ none) refl

pub with_tab : (line key text : List ℕ) → IsUtf8 line → position_or_len is_tab line < length line → key ≡ before_first is_tab line → text ≡ after_first is_tab line → Some (keyed key text) ≡ record_in line
unfolding record_in
with_tab line key text is there key_is text_is = rw (is_utf8-from_IsUtf8 line is, within _ _ there, key_is, text_is) refl

-- ---- the lines of a text

some_part : (text : List ℕ) → parts_of text ≡ [] → ⊥
some_part text none = let count = length-slice_split is_feed text in let empty : length (parts_of text) ≡ 0 = ap length none in omega (arith, count, empty)

led : (whole : Bool) (line text : List ℕ) (parts : List (List ℕ)) → parts_of text ≡ parts → lines_of whole (line ∷ parts) ≡ line ∷ lines_of whole parts
led whole line text [] is = absurd (some_part text is)
led whole line text (part ∷ parts) is = refl

-- a text with a line feed begins with a line
pub first_line : (whole : Bool) (text : List ℕ) → position_or_len is_feed text < length text → lines_of whole (parts_of text) ≡ before_first is_feed text ∷ lines_of whole (parts_of (after_first is_feed text))
first_line whole text there = ap (lines_of whole) (slice_split_first is_feed text 0 there) ∙ led whole (before_first is_feed text) (after_first is_feed text) (parts_of (after_first is_feed text)) refl

-- one without is what stands behind the last
pub last_only : (whole : Bool) (text : List ℕ) → length text ≤ position_or_len is_feed text → lines_of whole (parts_of text) ≡ last_line whole text
last_only whole text none = ap (lines_of whole) (slice_split_none is_feed text (All-from_get_or (λ (x : ℕ). is_feed x ≡ false) text 0 (λ i less. fails_before_first is_feed text i 0 (omega (arith, less, none)))))

-- ---- an input

pub short : (heard : List ℕ) → length heard ≤ limit → (lines_in heard ≡ lines_of true (parts_of heard)) × (is_whole heard ≡ true)
unfolding lines_in
short heard few = let whole : is_whole heard ≡ true = grind (arith, nat_tests) in (rw (whole, take_all limit heard few) refl, whole)

pub long : (heard front : List ℕ) → limit < length heard → front ≡ take limit heard → (lines_in heard ≡ lines_of false (parts_of front)) × (is_whole heard ≡ false)
unfolding lines_in
long heard front many is = let whole : is_whole heard ≡ false = grind (arith, nat_tests) in (rw (whole, is) refl, whole)

-- ---- how far lines were read

pub starts : (whole : Bool) (text : List ℕ) → GoesOn whole text [] 0 (lines_of whole (parts_of text))
starts whole text = record { front = []; log_is = refl; count_is = refl; good_is = refl; bad_is = refl }

log_more : (front : List IngressRecord) (made : IngressRecord) → log_text (front ++ made ∷ []) ≡ log_text front ++ log_text (made ∷ [])
log_more [] made = refl
log_more (first ∷ front) made = ap (λ (t : List ℕ). record_text first ++ t) (log_more front made) ∙ sym (append_assoc (record_text first) (log_text front) (log_text (made ∷ [])))

module _ (whole : Bool) (text log later line : List ℕ) (count : ℕ) (rest : List (List ℕ)) (so_far : GoesOn whole text log count (line ∷ rest)) (put : later ≡ log ++ log_text (option_to_list (record_in line))) where
  -- the next line made a record
  pub one_more : is_some (record_in line) ≡ true → GoesOn whole text later (count + 1) rest
  one_more is = by (record_in line) refl is
    where
      by : (made : Option IngressRecord) → record_in line ≡ made → is_some (record_in line) ≡ true → GoesOn whole text later (count + 1) rest
      by None e is = let bad = ap is_some e in absurd cc
      by (Some made) e is = record {
        front = so_far.front ++ made ∷ [];
        log_is = put ∙ (ap (λ (o : Option IngressRecord). log ++ log_text (option_to_list o)) e ∙ (ap (λ (l : List ℕ). l ++ log_text (made ∷ [])) so_far.log_is ∙ sym (log_more so_far.front made)));
        count_is = omega (arith, so_far.count_is, length-append so_far.front (made ∷ []));
        good_is = so_far.good_is ∙ (ap (λ (l : List IngressRecord). so_far.front ++ l) (rw (is, e) refl) ∙ sym (append_assoc so_far.front (made ∷ []) (good rest)));
        bad_is = so_far.bad_is ∙ (rw is refl);
      }

  -- it made none
  pub stops : is_some (record_in line) ≡ false → IsReadTo whole text (record { log = later; records = count; bad = true })
  stops is = by (record_in line) refl is
    where
      by : (made : Option IngressRecord) → record_in line ≡ made → is_some (record_in line) ≡ false → IsReadTo whole text (record { log = later; records = count; bad = true })
      by (Some made) e is = let bad = ap is_some e in absurd cc
      by None e is =
          let all : good (lines_of whole (parts_of text)) ≡ so_far.front = so_far.good_is ∙ (ap (λ (l : List IngressRecord). so_far.front ++ l) (rw is refl) ∙ append-nil so_far.front) in
          let flaw : has_bad (lines_of whole (parts_of text)) ≡ true = so_far.bad_is ∙ (rw is refl) in
          record {
            log = put ∙ (ap (λ (o : Option IngressRecord). log ++ log_text (option_to_list o)) e ∙ (append-nil log ∙ (so_far.log_is ∙ ap log_text (sym all))));
            records = so_far.count_is ∙ ap length (sym all);
            bad = sym (ap (λ (b : Bool). b || not whole) flaw);
          }

-- no line is left
pub ends : (whole bad : Bool) (text log : List ℕ) (count : ℕ) → GoesOn whole text log count [] → bad ≡ not whole → IsReadTo whole text (record { log = log; records = count; bad = bad })
ends whole bad text log count so_far is =
    let all : good (lines_of whole (parts_of text)) ≡ so_far.front = so_far.good_is ∙ append-nil so_far.front in
    record {
      log = so_far.log_is ∙ ap log_text (sym all);
      records = so_far.count_is ∙ ap length (sym all);
      bad = is ∙ sym (ap (λ (b : Bool). b || not whole) so_far.bad_is);
    }

-- a text with a line feed goes on with its first line
pub goes_first : (whole : Bool) (text log rest line : List ℕ) (count len : ℕ) → GoesOn whole text log count (lines_of whole (parts_of rest)) → len ≡ position_or_len is_feed rest → len < length rest → line ≡ take len rest
    → GoesOn whole text log count (line ∷ lines_of whole (parts_of (after_first is_feed rest)))
goes_first whole text log rest line count len so_far len_is there is =
    let first = first_line whole rest (subst (λ (n : ℕ). n < length rest) len_is there) in
    let same : line ≡ before_first is_feed rest = is ∙ ap (λ (n : ℕ). take n rest) len_is in
    subst (GoesOn whole text log count) (first ∙ ap (λ (l : List ℕ). l ∷ lines_of whole (parts_of (after_first is_feed rest))) (sym same)) so_far

behind_more : (rest : List ℕ) (n : ℕ) → drop 1 (drop n rest) ≡ drop (suc n) rest
behind_more [] zero = refl
behind_more [] (suc n) = refl
behind_more (x ∷ rest) zero = refl
behind_more (x ∷ rest) (suc n) = behind_more rest n

-- what is left behind the first line and its line feed
pub left_behind : (rest behind others : List ℕ) (len : ℕ) → len ≡ position_or_len is_feed rest → behind ≡ drop len rest → others ≡ drop 1 behind → after_first is_feed rest ≡ others
left_behind rest behind others len len_is is other =
    let place : suc len ≡ position_or_len is_feed rest + 1 = omega (arith, len_is) in
    sym (other ∙ (ap (drop 1) is ∙ (behind_more rest len ∙ ap (λ (n : ℕ). drop n rest) place)))
