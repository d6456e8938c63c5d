-- Values that are read keep their forms.
use Rattle.std.proofs.Common.{◌≡◌, ℕ, Bool, true, false, List, Some, None, refl, arith}
use Rattle.std.specs.Prelude.{⊤, ◌&&◌, nat_le, nat_lt, not, if◌then◌else◌, option_and_then, option_map, codes}
use Rattle.std.specs.Result.{result_ok}
use Rattle.std.specs.Str.Parse.{digits_value}
use Rattle.std.specs.declared.option.Option.{Option}
use Rattle.std.specs.declared.result.Result.{Result}
use Rattle.op_amount.specs.Code.{is_asset_code}
use Rattle.op_amount.specs.Values.{value_of, is_numeral, has_leading_zero}
use Rattle.op_amount.specs.declared.TheConstants.{TOP}
use Rattle.op_amount.specs.declared.Amount.{Amount}
use Rattle.op_amount.specs.declared.value.ValueFault.{ValueFault}
use Rattle.op_amount.specs.declared.value.ValueFault.TheVariants.{NotDigits, LeadingZero, TooLarge}
use Rattle.std.specs.Prelude.{Ok, Err}
use Rattle.op_names.specs.Names.{row_in}
use Rattle.op_names.specs.declared.Kind.TheVariants.{Incoming}
use Rattle.serde_json.specs.Data.{Data}
use Rattle.serde_json.specs.Find.{as_str, as_number, as_u64, get}
use Rattle.op_model.specs.Json.{text_in, if_object, number_of}
use Rattle.op_model.specs.Legal.{is_amount, is_asset, is_value, is_interval, are_limits, passes}
use Rattle.op_model.specs.Members.{code_in, scale_in, asset_of, amount_of, optional_of}
use Rattle.op_model.specs.GrantMembers.{cap_with, cap_in, interval_text, limits_of, limits_with, name_in}
use Rattle.op_model.specs.declared.request.AskedCap.{AskedCap}
use Rattle.op_api.proofs.Yields.{Yields, both, some_same, yields_then, yields_map, yields_if, yields_optional}

abbrev pub Whatever : {X : Type 0} → X → Type 0
Whatever x = ⊤

pub yields_any : {X : Type 0} (o : Option X) → Yields Whatever o
yields_any o x e = tt

pub code_form : (d : Data) → Yields (λ code. is_asset_code code ≡ true) (code_in d)
code_form d = yields_then Whatever (λ code. is_asset_code code ≡ true) _ (text_in (codes "assetCode") d) (yields_any _) (λ text t. yields_if (λ code. is_asset_code code ≡ true) (is_asset_code text) text (λ e. e))

within : (low high n : ℕ) → Yields (λ m. (nat_le low m && nat_le m high) ≡ true) (if nat_le low n && nat_le n high then Some n else None)
within low high n = yields_if (λ m. (nat_le low m && nat_le m high) ≡ true) (nat_le low n && nat_le n high) n (λ e. e)

pub number_form : (low high : ℕ) (v : Data) → Yields (λ m. (nat_le low m && nat_le m high) ≡ true) (number_of low high v)
number_form low high v = yields_then Whatever (λ m. (nat_le low m && nat_le m high) ≡ true) _ (option_and_then as_u64 (as_number v)) (yields_any _) (λ n t. within low high n)

and_right : (a b : Bool) → (a && b) ≡ true → b ≡ true
and_right true b e = e
and_right false b e = absurd cc

pub scale_form : (d : Data) → Yields (λ scale. nat_le scale 18 ≡ true) (scale_in d)
scale_form d = yields_then Whatever (λ scale. nat_le scale 18 ≡ true) _ (get (codes "assetScale") d) (yields_any _) (λ v t n e. and_right (nat_le 0 n) (nat_le n 18) (number_form 0 18 v n e))

pub asset_form : (d : Data) → Yields (λ a. is_asset a ≡ true) (asset_of d)
asset_form d = yields_then (λ code. is_asset_code code ≡ true) (λ a. is_asset a ≡ true) _ (code_in d) (code_form d) (λ code c. yields_map (λ scale. nat_le scale 18 ≡ true) (λ a. is_asset a ≡ true) _ (scale_in d) (scale_form d) (λ scale s. both _ _ c s))

within_top : (v : ℕ) → nat_lt TOP v ≡ false → is_value v ≡ true
within_top v e = grind arith

unless : (P : ℕ → Type 0) (b : Bool) (fault : ValueFault) (r : Result ℕ ValueFault) → (b ≡ false → Yields P (result_ok r)) → Yields P (result_ok (if b then Err fault else r))
unless P true fault r h y e = absurd cc
unless P false fault r h y e = h refl y e

abbrev Valued : ℕ → Type 0
Valued v = is_value v ≡ true

pub value_form : (text : List ℕ) → Yields Valued (result_ok (value_of text))
value_form text =
    unless Valued (not (is_numeral text)) NotDigits _ (λ n.
    unless Valued (has_leading_zero text) LeadingZero _ (λ z.
    unless Valued (nat_lt TOP (digits_value 10 text)) TooLarge (Ok (digits_value 10 text)) (λ l y e.
    some_same Valued (digits_value 10 text) y (within_top (digits_value 10 text) l) e)))

pub amount_form : (d : Data) → Yields (λ a. is_amount a ≡ true) (amount_of d)
amount_form d = yields_then (λ a. is_asset a ≡ true) (λ a. is_amount a ≡ true) _ (asset_of d) (asset_form d) (λ asset a. yields_map (λ v. is_value v ≡ true) (λ a. is_amount a ≡ true) _ _ (yields_then Whatever (λ v. is_value v ≡ true) _ (text_in (codes "value") d) (yields_any _) (λ text t. value_form text)) (λ v x. both _ _ x a))

abbrev cap_passes : Option AskedCap → Type 0
cap_passes cap = passes (λ c. is_amount c.amount) cap ≡ true

cap_with_form : (debit receive : Option Amount) → passes is_amount debit ≡ true → passes is_amount receive ≡ true → Yields cap_passes (cap_with debit receive)
cap_with_form None None x y cap e = some_same cap_passes _ cap refl e
cap_with_form (Some amount) None x y cap e = some_same cap_passes _ cap x e
cap_with_form None (Some amount) x y cap e = some_same cap_passes _ cap y e
cap_with_form (Some a) (Some b) x y cap e = absurd cc

amount_or_none : (name : List ℕ) (d : Data) → Yields (λ x. passes is_amount x ≡ true) (optional_of amount_of name d)
amount_or_none name d = yields_optional is_amount amount_of name d amount_form

cap_form : (d : Data) → Yields cap_passes (cap_in d)
cap_form d = yields_then (λ x. passes is_amount x ≡ true) cap_passes (λ debit. option_and_then (cap_with debit) (optional_of amount_of (codes "receiveAmount") d)) _ (amount_or_none (codes "debitAmount") d) (λ debit x. yields_then (λ x. passes is_amount x ≡ true) cap_passes (cap_with debit) _ (amount_or_none (codes "receiveAmount") d) (λ receive y. cap_with_form debit receive x y))

interval_form : (v : Data) → Yields (λ t. is_interval t ≡ true) (interval_text v)
interval_form v = yields_then Whatever (λ t. is_interval t ≡ true) _ (as_str v) (yields_any _) (λ text t. yields_if (λ t. is_interval t ≡ true) (is_interval text) text (λ e. e))

limits_form : (d : Data) → Yields (λ l. are_limits l ≡ true) (limits_of d)
limits_form d =
    yields_then Whatever (λ l. are_limits l ≡ true) (λ receiver. option_and_then (λ cap. option_map (limits_with receiver cap) (optional_of interval_text (codes "interval") d)) (cap_in d)) (optional_of (name_in (row_in Incoming)) (codes "receiver") d) (yields_any _) (λ receiver t.
    yields_then cap_passes (λ l. are_limits l ≡ true) (λ cap. option_map (limits_with receiver cap) (optional_of interval_text (codes "interval") d)) (cap_in d) (cap_form d) (λ cap c.
    yields_map (λ x. passes is_interval x ≡ true) (λ l. are_limits l ≡ true) (limits_with receiver cap) (optional_of interval_text (codes "interval") d) (yields_optional is_interval interval_text (codes "interval") d interval_form) (λ interval i. both _ _ c i)))

pub are_limits_in : (v : Data) → Yields (λ l. are_limits l ≡ true) (option_and_then limits_of (if_object v))
are_limits_in v = yields_then Whatever (λ l. are_limits l ≡ true) limits_of (if_object v) (yields_any _) (λ d t. limits_form d)
