-- What clap answers of the words of `decode`.
use Rattle.std.proofs.Common.{◌≡◌, ◌≢◌, ℕ, Bool, true, false, List, [], ◌∷◌, ◌||◌, ◌∙◌, sym, ap, refl, Some, codes, inl, inr}
use Rattle.std.specs.Prelude.{map}
use Rattle.std.specs.Borrow.{Bor}
use Rattle.std.specs.Str.{bytes_eq}
use Rattle.std.specs.List.{list_any}
use Rattle.std.proofs.lemmas.Slice.Eq.{bytes_eq-Decides}
use Rattle.clap.specs.Words.{Accepts, fault_of, is_simple, is_simple_and_free, one_of, matches_of, HasKind, kind_of, HasMatchesOf, found_of, one_text, same_text}
use Rattle.clap.specs.declared.error.Error.{Error}
use Rattle.clap.specs.declared.error.kind.ErrorKind.TheVariants.{DisplayHelp}
use Rattle.clap.specs.declared.builder.value_parser.ValueParser.TheVariants.{Names}
use Rattle.clap.specs.declared.parser.matches.ArgMatches.{ArgMatches}
use Rattle.clap.proofs.WalkLemmas.{one_text-rows}
use Rattle.clap.proofs.OnLiterals.{clap_on_literals}
use Rattle.statefun_cli.specs.declared.decode_words.MessageKind.{MessageKind}
use Rattle.statefun_cli.specs.declared.decode_words.MessageKind.TheVariants.{Request, Answer}
use Rattle.statefun_cli.specs.declared.decode_words.DecodeAsk.{DecodeAsk}
use Rattle.statefun_cli.specs.declared.decode_words.DecodeAsk.TheVariants.{Lines, Help, Usage}
use Rattle.statefun_cli.specs.Kinds.{word_of}
use Rattle.statefun_cli.specs.DecodeWords.{decode_app, AreKinds, IsTaken, IsAskOf, AsksFor}

pub is_simple_decode : (names : Bor (List (Bor (List ℕ)))) → is_simple (decode_app names) ≡ true
is_simple_decode names = refl

pub is_free_decode : (names : Bor (List (Bor (List ℕ)))) → is_simple_and_free (decode_app names) ≡ true
is_free_decode names = refl

-- whether one of the names is a text
any_named : (names : List (Bor (List ℕ))) (text : List ℕ)
    → list_any (λ name. same_text false name.now text) names ≡ list_any (λ word. bytes_eq word text) (map (λ name. name.now) names)
any_named [] text = refl
any_named (name ∷ names) text = ap (λ b. bytes_eq name.now text || b) (any_named names text)

any_kind : (names : Bor (List (Bor (List ℕ)))) (text : List ℕ) → AreKinds names
    → list_any (λ name. same_text false name.now text) names.now ≡ (bytes_eq (word_of Request) text || (bytes_eq (word_of Answer) text || false))
any_kind names text kinds = any_named names.now text ∙ ap (λ words. list_any (λ word. bytes_eq word text) words) kinds

-- a text that passes is the word for a kind
pub is_kind : (names : Bor (List (Bor (List ℕ)))) (text : List ℕ) → AreKinds names → Accepts false (Names names) text → ((kind : MessageKind) → text ≢ word_of kind) → ⊥
is_kind names text kinds accepted none = go _ _ refl refl (sym (any_kind names text kinds) ∙ accepted)
  where
    go : (a b : Bool) → bytes_eq (word_of Request) text ≡ a → bytes_eq (word_of Answer) text ≡ b → (a || (b || false)) ≡ true → ⊥
    go true b is_a is_b h = none Request (sym ((bytes_eq-Decides (word_of Request) text).0 is_a))
    go false true is_a is_b h = none Answer (sym ((bytes_eq-Decides (word_of Answer) text).0 is_b))
    go false false is_a is_b h = cc

-- what is asked for by refused words
pub asked_by : (names : Bor (List (Bor (List ℕ)))) (words : List (List ℕ)) (error : Error) (ask : DecodeAsk) → AreKinds names
    → HasKind (fault_of (decode_app names) words) error → IsAskOf (kind_of error) ask → AsksFor words ask
asked_by names words error (Lines kind) kinds has asked = absurd asked
asked_by names words error Help kinds (inl memory) asked = absurd cc
asked_by names words error Help kinds (inr among) asked = record { names = names; kinds = kinds; refused = rw asked at among }
asked_by names words error Usage kinds (inl memory) asked = absurd (asked.0 memory)
asked_by names words error Usage kinds (inr among) asked = record { cause = kind_of error; refused = record { names = names; kinds = kinds; refused = among }; no_help = asked.1 }

-- right words are taken
pub right_is_taken : (names : Bor (List (Bor (List ℕ)))) (first : List ℕ) (kind : MessageKind) → AreKinds names
    → fault_of (decode_app names) (first ∷ word_of kind ∷ []) ≡ []
unfolding clap_on_literals
right_is_taken names first Request kinds = rw (any_kind names (word_of Request) kinds) refl
right_is_taken names first Answer kinds = rw (any_kind names (word_of Answer) kinds) refl

pub right_value : (names : Bor (List (Bor (List ℕ)))) (first : List ℕ) (kind : MessageKind)
    → one_of (codes "KIND") (matches_of (decode_app names) (first ∷ word_of kind ∷ [])) ≡ Some (word_of kind)
unfolding clap_on_literals
right_value names first Request = refl
right_value names first Answer = refl

-- what is asked for by words that are taken, of which KIND is the word for a kind
pub taken_by : (names : Bor (List (Bor (List ℕ)))) (words : List (List ℕ)) (m : ArgMatches) (kind : MessageKind) (text : List ℕ) → AreKinds names
    → fault_of (decode_app names) words ≡ [] → HasMatchesOf (decode_app names) words m → one_text (found_of m) (codes "KIND") ≡ Some text → text ≡ word_of kind
    → IsTaken words kind
taken_by names words m kind text kinds taken matches read named = record {
  names = names;
  kinds = kinds;
  taken = taken;
  value = ap (one_of (codes "KIND")) (sym (matches (is_simple_decode names)).0) ∙ (sym (one_text-rows (found_of m) (codes "KIND")) ∙ (read ∙ ap Some named));
}

-- a call for help is refused for that alone
pub help_is_shown : (names : Bor (List (Bor (List ℕ)))) (first : List ℕ) → fault_of (decode_app names) (first ∷ codes "-h" ∷ []) ≡ DisplayHelp ∷ []
unfolding clap_on_literals
help_is_shown names first = refl

pub long_help_is_shown : (names : Bor (List (Bor (List ℕ)))) (first : List ℕ) → fault_of (decode_app names) (first ∷ codes "--help" ∷ []) ≡ DisplayHelp ∷ []
unfolding clap_on_literals
long_help_is_shown names first = refl
