-- Members of bodies, as JSON (RFC 8259).
use Rattle.std.specs.Prelude.{ℕ, ◌&&◌, nat_le, List, [], ◌∷◌, if◌then◌else◌, Some, None, option_and_then, ok_or}
use Rattle.std.specs.Option.{option_map}
use Rattle.std.specs.Str.{is_utf8}
use Rattle.std.specs.declared.option.Option.{Option}
use Rattle.std.specs.declared.result.Result.{Result}
use Rattle.op_model.specs.Asking.{◌>>=◌}
use Rattle.op_model.specs.declared.reply.Refusal.{Refusal}
use Rattle.op_model.specs.declared.reply.Refusal.TheVariants.{BadJson, BadField}
use Rattle.op_model.specs.declared.request.Request.{Request}
use Rattle.serde_json.specs.Data.{Data, null, boolean, number, string, array, object, Items, no_items, item}
use Rattle.serde_json.specs.Read.{read}
use Rattle.serde_json.specs.Find.{get, as_object, as_str, as_number, as_array, as_u64}

-- ---- members

-- the body as a JSON object (RFC 8259)
abbrev pub if_object : Data → Option Data
if_object d = option_and_then (λ members. Some d) (as_object d)

abbrev pub object_in : List ℕ → Option Data
object_in body = option_and_then if_object (if is_utf8 body then read body else None)

-- a text
abbrev pub text_in : List ℕ → Data → Option (List ℕ)
text_in name d = option_and_then as_str (get name d)

-- a number without sign, point or exponent, within bounds
abbrev pub if_within : (low high : ℕ) → ℕ → Option ℕ
if_within low high n = if nat_le low n && nat_le n high then Some n else None

abbrev pub number_of : (low high : ℕ) → Data → Option ℕ
number_of low high d = option_and_then (if_within low high) (option_and_then as_u64 (as_number d))

abbrev pub number_in : (low high : ℕ) → List ℕ → Data → Option ℕ
number_in low high name d = option_and_then (number_of low high) (get name d)

-- an optional member that is `null` is absent
abbrev pub if_there : Data → Option Data
if_there null = None
if_there (boolean b) = Some (boolean b)
if_there (number n) = Some (number n)
if_there (string s) = Some (string s)
if_there (array items) = Some (array items)
if_there (object members) = Some (object members)

abbrev pub optional_in : List ℕ → Data → Option Data
optional_in name d = option_and_then if_there (get name d)

-- the items of an array
abbrev pub items_list : Items → List Data
items_list no_items = []
items_list (item d items) = d ∷ items_list items

abbrev pub as_list : Data → Option (List Data)
as_list d = option_map items_list (as_array d)

abbrev pub list_in : List ℕ → Data → Option (List Data)
list_in name d = option_and_then as_list (get name d)

-- each of this form, or none at all
abbrev pub with_each : {X : Type 0} → Option X → Option (List X) → Option (List X)
with_each (Some x) (Some xs) = Some (x ∷ xs)
with_each _ _ = None

abbrev pub each_of : {X : Type 0} → (Data → Option X) → List Data → Option (List X)
each_of form [] = Some []
each_of form (d ∷ ds) = with_each (form d) (each_of form ds)

-- ---- the whole body

-- the value, or the refusal that names the member
abbrev pub or_bad : {X : Type 0} → List ℕ → Option X → Result X Refusal
or_bad name value = ok_or value (BadField name)

-- what a body asks for, by its members
abbrev pub with_members : (Data → Result Request Refusal) → List ℕ → Result Request Refusal
with_members asked body = ok_or (object_in body) BadJson >>= asked
