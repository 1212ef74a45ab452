-- What clap answers of the words of `serve`.
use Rattle.std.proofs.Common.{◌≡◌, ◌≤◌, ℕ, List, [], ◌∙◌, sym, ap, refl, true, Option, Some, None, codes, inl, inr}
use Rattle.std.specs.Str.Parse.{digits_value, without_leading_plus}
use Rattle.clap.specs.Words.{fault_of, is_simple, is_simple_and_free, one_of, HasKind, kind_of, HasMatchesOf, found_of, one_text}
use Rattle.clap.specs.declared.error.Error.{Error}
use Rattle.clap.specs.declared.parser.matches.ArgMatches.{ArgMatches}
use Rattle.clap.proofs.WalkLemmas.{one_text-rows}
use Rattle.serve_words.specs.declared.words.ServeAsk.{ServeAsk}
use Rattle.serve_words.specs.declared.words.ServeAsk.TheVariants.{Port, Help, Usage}
use Rattle.serve_words.specs.Words.{serve_app, IsTaken, IsAskOf, AsksFor}

pub is_simple_serve : is_simple serve_app ≡ true
is_simple_serve = refl

pub is_free_serve : is_simple_and_free serve_app ≡ true
is_free_serve = refl

-- what is asked for by refused words
pub asked_by : (words : List (List ℕ)) (error : Error) (ask : ServeAsk) → HasKind (fault_of serve_app words) error → IsAskOf (kind_of error) ask → AsksFor words ask
asked_by words error (Port port) has asked = absurd asked
asked_by words error Help (inl memory) asked = absurd cc
asked_by words error Help (inr among) asked = rw asked at among
asked_by words error Usage (inl memory) asked = absurd (asked.0 memory)
asked_by words error Usage (inr among) asked = record { cause = kind_of error; refused = among; no_help = asked.1 }

-- what is asked for by words that are taken, of which PORT is this text
pub taken_by : (words : List (List ℕ)) (m : ArgMatches) (port : ℕ) (text : List ℕ)
    → fault_of serve_app words ≡ [] → HasMatchesOf serve_app words m → one_text (found_of m) (codes "PORT") ≡ Some text
    → port ≡ digits_value 10 (without_leading_plus text) → 1 ≤ port → port ≤ 65535 → IsTaken words port
taken_by words m port text taken matches read is least most = record {
  taken = taken;
  word = text;
  value = ap (one_of (codes "PORT")) (sym (matches is_simple_serve).0) ∙ (sym (one_text-rows (found_of m) (codes "PORT")) ∙ read);
  port_is = is;
  least = least;
  most = most;
}

pub none_some : (o : Option ℕ) (n : ℕ) → o ≡ None → o ≡ Some n → ⊥
none_some o n is_none is_some = cc

pub one_some : (o : Option ℕ) (a b : ℕ) → o ≡ Some a → o ≡ Some b → a ≡ b
one_some o a b is_a is_b = cc
