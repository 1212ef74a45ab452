-- Wrapped values: a message with one field, 1, in a value of its type.
use Rattle.std.specs.Prelude.{ℕ, ℤ, pos, Bool, false, true, List, [], ◌∷◌, Option, None, codes, ◌&&◌, if◌then◌else◌}
use Rattle.std.specs.Result.{result_ok}
use Rattle.std.specs.Option.{option_map}
use Rattle.std.specs.Str.{bytes_eq}
use Rattle.proto_wire.specs.Message.{Row, texts, bools, fours, eights, value_in, spelling}
use Rattle.typed_values.specs.declared.value.TypedValue.{TypedValue}
use Rattle.typed_values.specs.declared.wrapped.TextWrapper.{TextWrapper}

unfoldable pub bool_rows : List (Row Bool)
bool_rows = bools 1 (λ held. held) (λ held new. new) ∷ []

unfoldable pub int_rows : List (Row ℤ)
int_rows = fours 1 (λ held. held) (λ held new. new) ∷ []

unfoldable pub long_rows : List (Row ℤ)
long_rows = eights 1 (λ held. held) (λ held new. new) ∷ []

unfoldable pub empty_text : TextWrapper
empty_text = record { text = [] }

unfoldable pub text_rows : List (Row TextWrapper)
text_rows = texts 1 (λ it. it.text) (λ it new. record { text = new }) ∷ []

-- the names of the types
abbrev pub bool_name : List ℕ
bool_name = codes "io.statefun.types/bool"

abbrev pub int_name : List ℕ
int_name = codes "io.statefun.types/int"

abbrev pub long_name : List ℕ
long_name = codes "io.statefun.types/long"

abbrev pub text_name : List ℕ
text_name = codes "io.statefun.types/string"

-- what a value of the type holds; none where it has another type, holds nothing, or its bytes do not spell the wrapper
unfoldable pub wrapped : {W : Type 0} → List ℕ → W → List (Row W) → TypedValue → Option W
wrapped name blank rows value = if value.has_value && bytes_eq value.typename name then result_ok (value_in rows blank value.value) else None

unfoldable pub bool_of : TypedValue → Option Bool
bool_of value = wrapped bool_name false bool_rows value

unfoldable pub int_of : TypedValue → Option ℤ
int_of value = wrapped int_name (pos 0) int_rows value

unfoldable pub long_of : TypedValue → Option ℤ
long_of value = wrapped long_name (pos 0) long_rows value

unfoldable pub text_of : TypedValue → Option (List ℕ)
text_of value = option_map (λ it. it.text) (wrapped text_name empty_text text_rows value)

-- the value of the type with the canonical spelling
abbrev pub wrapping : {W : Type 0} → List ℕ → List (Row W) → W → TypedValue
wrapping name rows it = record { typename = name; has_value = true; value = spelling rows it }
