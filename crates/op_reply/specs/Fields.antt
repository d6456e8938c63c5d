-- Tables of members: what stands in each, and when it is a text. The words are this project's own; JSON is RFC 8259.
use Rattle.std.specs.Prelude.{ℕ, ◌==◌, bit_and, if◌then◌else◌, Bool, true, ◌&&◌, List, [], ◌∷◌, ◌++◌, ⊤, Some, None, IfSome, option_map}
use Rattle.std.specs.Borrow.{Bor}
use Rattle.std.specs.Cmp.Lexicographic.{slice_cmp}
use Rattle.std.specs.List.{list_all}
use Rattle.std.specs.Ordering.{nat_cmp, is_gt}
use Rattle.std.specs.Str.{IsUtf8}
use Rattle.std.specs.declared.option.Option.{Option}
use Rattle.serde_json.specs.Data.{Data, boolean, string, Members, no_members, put}
use Rattle.op_model.specs.Bodies.{optional, whole, digits, text_if, address_url, amount_data, spent_debit, spent_receive, asset_data, grant_url, account_text, state_text, reason_text, list, actions_of, type_text, id}
use Rattle.op_amount.specs.Scaled.{scaled}
use Rattle.op_time.specs.MomentTexts.{moment_text}
use Rattle.op_model.specs.declared.reply.AccountShown.{AccountShown}
use Rattle.op_model.specs.declared.reply.AccountShown.TheVariants as accounts
use Rattle.op_reply.specs.Values.{data_of}
use Rattle.op_reply.specs.declared.fields.Field.{Field}
use Rattle.op_reply.specs.declared.fields.Field.TheVariants as field

-- what stands in a member; `None` where the member is left out
abbrev pub field_data : Field → Option Data
field_data (field.Flag flag) = Some (boolean flag)
field_data (field.Number n) = Some (whole n)
field_data (field.Small n) = Some (whole n)
field_data (field.SmallIf n) = option_map whole n
field_data (field.Digits n) = Some (digits n)
field_data (field.DigitsIf n) = option_map digits n
field_data (field.Word word) = Some (string word.now)
field_data (field.Told text) = Some (string text.now)
field_data (field.ToldIf text) = text_if text.now
field_data (field.Secret text) = Some (string text.now)
field_data (field.SecretIf text) = text_if text.now
field_data (field.IntervalIf text) = text_if text.now
field_data (field.Origin origin) = Some (string origin.now)
field_data (field.Code code) = Some (string code.now)
field_data (field.Asset asset) = Some (asset_data asset.now)
field_data (field.Amount amount) = Some (amount_data amount.now)
field_data (field.AmountIf amount) = option_map amount_data amount.now
field_data (field.SpentDebitIf spent) = spent_debit spent.now
field_data (field.SpentReceiveIf spent) = spent_receive spent.now
field_data (field.Scaled value scale) = Some (string (scaled value scale))
field_data (field.Moment moment) = Some (string (moment_text moment))
field_data (field.Id kind n) = Some (string (id kind n))
field_data (field.IdIf kind n) = option_map (λ k. string (id kind k)) n
field_data (field.AddressUrl origin path) = Some (string (address_url origin.now path.now))
field_data (field.AddressUrlIf origin path) = option_map (λ p. string (address_url origin.now p)) path.now
field_data (field.RowUrl origin directory kind n) = Some (string (origin.now ++ directory.now ++ id kind n))
field_data (field.RowUrlIf origin directory kind n) = option_map (λ k. string (origin.now ++ directory.now ++ id kind k)) n
field_data (field.GrantUrl origin) = Some (string (grant_url origin.now))
field_data (field.Account origin account) = Some (string (account_text origin.now account.now))
field_data (field.State state) = Some (string (state_text state))
field_data (field.Reason reason) = text_if (reason_text reason)
field_data (field.Actions actions) = Some (list (actions_of actions))
field_data (field.ItemType kind) = Some (string (type_text kind))
field_data field.NoItems = Some (list [])
field_data (field.JsonIf json) = option_map data_of json.now
field_data (field.Json json) = Some (data_of json.now)

-- an account is told by a text
abbrev pub IsAccountText : (origin : List ℕ) → AccountShown → Type 0
IsAccountText origin (accounts.Address path) = IsUtf8 origin × IsUtf8 path
IsAccountText origin _ = ⊤

-- JSON texts are UTF-8 (section 8.1)
abbrev pub IsText : Field → Type 0
IsText (field.Told text) = IsUtf8 text.now
IsText (field.ToldIf text) = IfSome text.now IsUtf8
IsText (field.Secret text) = IsUtf8 text.now
IsText (field.SecretIf text) = IfSome text.now IsUtf8
IsText (field.IntervalIf text) = IfSome text.now IsUtf8
IsText (field.Origin origin) = IsUtf8 origin.now
IsText (field.AddressUrl origin path) = IsUtf8 origin.now × IsUtf8 path.now
IsText (field.AddressUrlIf origin path) = IsUtf8 origin.now × IfSome path.now IsUtf8
IsText (field.RowUrl origin directory kind n) = IsUtf8 origin.now
IsText (field.RowUrlIf origin directory kind n) = IsUtf8 origin.now
IsText (field.GrantUrl origin) = IsUtf8 origin.now
IsText (field.Account origin account) = IsAccountText origin.now account.now
IsText _ = ⊤

abbrev pub AreTexts : List (Bor (List ℕ) × Field) → Type 0
AreTexts [] = ⊤
AreTexts (member ∷ members) = IsText member.1 × AreTexts members

-- the members of a table, in its order
abbrev pub members_data : List (Bor (List ℕ) × Field) → Members
members_data [] = no_members
members_data (member ∷ members) = optional member.0.now (field_data member.1) (members_data members)

-- a member is put in where it has a value
abbrev pub put_if : List ℕ → Option Data → Members → Members
put_if name None members = members
put_if name (Some value) members = put name value members

-- a name stands behind another in the order of their bytes
abbrev pub is_behind : List ℕ → List ℕ → Bool
is_behind name other = is_gt (slice_cmp nat_cmp name other)

-- each name stands behind all before it
abbrev pub is_ascending : List (Bor (List ℕ) × Field) → Bool
is_ascending [] = true
is_ascending (member ∷ members) = list_all (λ later. is_behind later.0.now member.0.now) members && is_ascending members

-- an action's name, where its bit stands in a sum
abbrev pub named_action : (actions : ℕ) → ℕ × Bor (List ℕ) → Option Data
named_action actions (bit, name) = if bit_and actions bit == 0 then None else Some (string name.now)
