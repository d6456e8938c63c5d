-- The texts of acts, and of histories whose acts have them.
use Rattle.std.proofs.Common.{◌≡◌, ℕ, Bool, true, false, cond, List, [], ◌∷◌, IfSome, Some, None, Option}
use Rattle.std.specs.Prelude.{⊤}
use Rattle.std.specs.List.{AllByRecursion, list_all}
use Rattle.std.specs.Option.{option_map}
use Rattle.std.specs.Str.{IsUtf8}
use Rattle.std.proofs.lemmas.Bool.{and_parts}
use Rattle.std.proofs.lemmas.Str.{IsUtf8-from_ascii}
use Rattle.op_names.proofs.AsciiTexts.{IsAscii-from_test}
use Rattle.op_model.specs.GrantAnswers.{items_asked, item_asked, limits_asked, finish_of, finish_kept}
use Rattle.op_model.specs.Grants.{is_immediate}
use Rattle.op_model.specs.Legal.{is_text, is_interval, are_limits, is_item, are_items, is_finish, is_interact, passes, name_limit}
use Rattle.op_model.specs.declared.act.Act.{Act}
use Rattle.op_model.specs.declared.act.Act.TheVariants as acts
use Rattle.op_model.specs.declared.act.Entry.{Entry}
use Rattle.op_model.specs.declared.grant.Finish.{Finish}
use Rattle.op_model.specs.declared.grant.Interact.{Interact}
use Rattle.op_model.specs.declared.grant.Interact.TheVariants.{Missing, NoRedirect, Redirect}
use Rattle.op_model.specs.declared.grant.Item.{Item}
use Rattle.op_model.specs.declared.grant.Limits.{Limits}
use Rattle.op_model.specs.declared.request.AskedItem.{AskedItem}
use Rattle.op_model.specs.declared.request.AskedLimits.{AskedLimits}
use Rattle.op_grant.proofs.IntervalTexts.{interval_is_utf8}
use Rattle.op_printable.proofs.Texts.{IsUtf8-from_valid_len}

-- ---- what is told of an act

-- an interval of limits
abbrev pub HasLimitsText : Limits → Type 0
HasLimitsText limits = IfSome limits.interval IsUtf8

abbrev pub HasItemText : Item → Type 0
HasItemText item = IfSome item.limits HasLimitsText

-- the nonce is hashed, and not told
abbrev pub HasFinishText : Finish → Type 0
HasFinishText finish = IsUtf8 finish.uri

-- the texts that replies tell of what an act records
abbrev pub HasActTexts : Act → Type 0
HasActTexts (acts.OriginSet origin) = IsUtf8 origin
HasActTexts (acts.AddressAdded path asset name) = IsUtf8 path × IfSome name IsUtf8
HasActTexts (acts.GrantAsked client items finish word) = AllByRecursion HasItemText items × IfSome finish HasFinishText
HasActTexts _ = ⊤

-- the same of all acts of a history
abbrev pub HasTexts : List Entry → Type 0
HasTexts history = AllByRecursion (λ e. HasActTexts e.act) history

-- ---- forms that are texts

pub name_text : (name : Option (List ℕ)) → passes (is_text name_limit) name ≡ true → IfSome name IsUtf8
name_text None h = tt
name_text (Some text) h = IsUtf8-from_valid_len text (and_parts _ _ h).0

interval_text : (interval : Option (List ℕ)) → passes is_interval interval ≡ true → IfSome interval IsUtf8
interval_text None h = tt
interval_text (Some text) h = interval_is_utf8 text (and_parts _ _ h).1

limits_text : (history : List Entry) (limits : Option AskedLimits) → passes are_limits limits ≡ true → IfSome (option_map (limits_asked history) limits) HasLimitsText
limits_text history None h = tt
limits_text history (Some limits) h = interval_text limits.interval (and_parts _ _ h).1

item_text : (history : List Entry) (item : AskedItem) → is_item item ≡ true → HasItemText (item_asked history item)
item_text history item h = limits_text history item.limits (and_parts _ _ (and_parts _ _ h).1).1

each_text : (history : List Entry) (items : List AskedItem) → list_all is_item items ≡ true → AllByRecursion HasItemText (items_asked history items)
each_text history [] h = tt
each_text history (x ∷ xs) h = let parts = and_parts (is_item x) (list_all is_item xs) h in (item_text history x parts.0, each_text history xs parts.1)

pub items_text : (history : List Entry) (items : List AskedItem) → are_items items ≡ true → AllByRecursion HasItemText (items_asked history items)
items_text history items h = each_text history items (and_parts _ _ (and_parts _ _ h).0).1

finish_text : (finish : Option Finish) → passes is_finish finish ≡ true → IfSome finish HasFinishText
finish_text None h = tt
finish_text (Some finish) h = IsUtf8-from_ascii finish.uri (IsAscii-from_test finish.uri (and_parts _ _ (and_parts _ _ (and_parts _ _ h).0).0).1)

asked_text : (interact : Interact) → is_interact interact ≡ true → IfSome (finish_of interact) HasFinishText
asked_text (Redirect finish) h = finish_text finish h
asked_text Missing h = tt
asked_text NoRedirect h = tt

kept_text : (b : Bool) (finish : Option Finish) → IfSome finish HasFinishText → IfSome (cond b None finish) HasFinishText
kept_text true finish h = tt
kept_text false finish h = h

pub finish_kept_text : (items : List Item) (interact : Interact) → is_interact interact ≡ true → IfSome (finish_kept items interact) HasFinishText
finish_kept_text items interact h = kept_text (is_immediate items) (finish_of interact) (asked_text interact h)
