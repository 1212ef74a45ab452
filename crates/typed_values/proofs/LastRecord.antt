-- What a wrapper holds is what the last record of its field says.
use Rattle.std.proofs.Common.{◌≡◌, ℕ, Bool, true, false, ℤ, pos, List, length, Option, Some, None, Result, Ok, Err, refl, sym, ap, ◌∙◌, ◌&&◌}
use Rattle.std.specs.Str.{bytes_eq}
use Rattle.proto_wire.specs.Varint.{ItemFault}
use Rattle.proto_wire.specs.Record.{Item}
use Rattle.proto_wire.specs.Message.{Row, value_in, last_record, spelled_bool, spelled_four, spelled_eight, fits_signed}
use Rattle.proto_wire.specs.Message.{bool_of as item_bool, int_of as item_int, long_of as item_long}
use Rattle.proto_wire.proofs.LastScalar.{last-some, last-none, last-broken}
use Rattle.typed_values.specs.declared.value.TypedValue.{TypedValue}
use Rattle.typed_values.specs.Wrappers.{bool_rows, int_rows, long_rows, bool_name, int_name, long_name, wrapped, bool_of, int_of, long_of}

-- the value is there and has the type
abbrev pub IsOf : List ℕ → TypedValue → Type 0
IsOf name value = (value.has_value && bytes_eq value.typename name) ≡ true

wrapped-ok : {W : Type 0} (name : List ℕ) (blank : W) (rows : List (Row W)) (value : TypedValue) (it : W) → IsOf name value → value_in rows blank value.value ≡ Ok it → wrapped name blank rows value ≡ Some it
unfolding wrapped
wrapped-ok name blank rows value it h k = rw (h, k) refl

wrapped-err : {W : Type 0} (name : List ℕ) (blank : W) (rows : List (Row W)) (value : TypedValue) (fault : ItemFault) → IsOf name value → value_in rows blank value.value ≡ Err fault → wrapped name blank rows value ≡ None
unfolding wrapped
wrapped-err name blank rows value fault h k = rw (h, k) refl

pub bool-some : (value : TypedValue) (item : Item) → IsOf bool_name value → last_record 1 0 value.value ≡ Ok (Some item) → bool_of value ≡ Some (item_bool item)
unfolding bool_of bool_rows
bool-some value item h k = wrapped-ok bool_name false bool_rows value (item_bool item) h (last-some 1 0 item_bool spelled_bool (λ flag. true) false value.value item k)

pub bool-none : (value : TypedValue) → IsOf bool_name value → last_record 1 0 value.value ≡ Ok None → bool_of value ≡ Some false
unfolding bool_of bool_rows
bool-none value h k = wrapped-ok bool_name false bool_rows value false h (last-none 1 0 item_bool spelled_bool (λ flag. true) false value.value k)

pub bool-broken : (value : TypedValue) (fault : ItemFault) → IsOf bool_name value → last_record 1 0 value.value ≡ Err fault → bool_of value ≡ None
unfolding bool_of bool_rows
bool-broken value fault h k = wrapped-err bool_name false bool_rows value fault h (last-broken 1 0 item_bool spelled_bool (λ flag. true) false value.value fault k)

pub int-some : (value : TypedValue) (item : Item) → IsOf int_name value → last_record 1 5 value.value ≡ Ok (Some item) → int_of value ≡ Some (item_int item)
unfolding int_of int_rows
int-some value item h k = wrapped-ok int_name (pos 0) int_rows value (item_int item) h (last-some 1 5 item_int spelled_four (fits_signed 31) (pos 0) value.value item k)

pub int-none : (value : TypedValue) → IsOf int_name value → last_record 1 5 value.value ≡ Ok None → int_of value ≡ Some (pos 0)
unfolding int_of int_rows
int-none value h k = wrapped-ok int_name (pos 0) int_rows value (pos 0) h (last-none 1 5 item_int spelled_four (fits_signed 31) (pos 0) value.value k)

pub int-broken : (value : TypedValue) (fault : ItemFault) → IsOf int_name value → last_record 1 5 value.value ≡ Err fault → int_of value ≡ None
unfolding int_of int_rows
int-broken value fault h k = wrapped-err int_name (pos 0) int_rows value fault h (last-broken 1 5 item_int spelled_four (fits_signed 31) (pos 0) value.value fault k)

pub long-some : (value : TypedValue) (item : Item) → IsOf long_name value → last_record 1 1 value.value ≡ Ok (Some item) → long_of value ≡ Some (item_long item)
unfolding long_of long_rows
long-some value item h k = wrapped-ok long_name (pos 0) long_rows value (item_long item) h (last-some 1 1 item_long spelled_eight (fits_signed 63) (pos 0) value.value item k)

pub long-none : (value : TypedValue) → IsOf long_name value → last_record 1 1 value.value ≡ Ok None → long_of value ≡ Some (pos 0)
unfolding long_of long_rows
long-none value h k = wrapped-ok long_name (pos 0) long_rows value (pos 0) h (last-none 1 1 item_long spelled_eight (fits_signed 63) (pos 0) value.value k)

pub long-broken : (value : TypedValue) (fault : ItemFault) → IsOf long_name value → last_record 1 1 value.value ≡ Err fault → long_of value ≡ None
unfolding long_of long_rows
long-broken value fault h k = wrapped-err long_name (pos 0) long_rows value fault h (last-broken 1 1 item_long spelled_eight (fits_signed 63) (pos 0) value.value fault k)
