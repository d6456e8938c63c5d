-- What the items of the grants of a legal history name is there.
use Rattle.std.proofs.Common.{◌≡◌, ℕ, List, [], ◌∷◌, ◌++◌, ◌+◌, length, ◌∙◌, sym, ap, subst, Some, None, Option, is_some}
use Rattle.std.specs.Prelude.{IfSome}
use Rattle.std.specs.List.{AllByRecursion}
use Rattle.std.specs.Option.{option_to_list}
use Rattle.op_granting.proofs.Waiting.{made_at}
use Rattle.op_laws.proofs.Lists.{each_append, each_weaker, each_at}
use Rattle.op_legal.specs.Numbers.{HasAsset, HasAddress, HasIncoming, LimitsNameMade, ItemNamesMade, NamesMade}
use Rattle.op_legal.proofs.Induction.{IsKept, legal_induction}
use Rattle.op_legal.proofs.Named.{next_names}
use Rattle.op_legal.proofs.Stays.{there_stays, incoming_stays}
use Rattle.op_model.specs.Grants.{GrantMade, grant_asked, grants_made, grant_row}
use Rattle.op_model.specs.History.{nth, assets, addresses, asset_added, address_added}
use Rattle.op_model.specs.Legal.{IsLegal}
use Rattle.op_model.specs.declared.act.Act.{Act}
use Rattle.op_model.specs.declared.act.Act.TheVariants as acts
use Rattle.op_model.specs.declared.act.Entry.{Entry}
use Rattle.op_model.specs.declared.grant.Cap.{Cap}
use Rattle.op_model.specs.declared.grant.Item.{Item}
use Rattle.op_model.specs.declared.grant.Limits.{Limits}
use Rattle.op_model.specs.declared.row.GrantRow.{GrantRow}
use Rattle.op_model.proofs.Next.{assets-next, addresses-next, grants_made-next}

-- ---- what is there stays

if_weaker : {X : Type 0} (P Q : X → Type 0) (o : Option X) → ((x : X) → P x → Q x) → IfSome o P → IfSome o Q
if_weaker P Q None step h = h
if_weaker P Q (Some x) step h = step x h

asset_stays : (history : List Entry) (e : Entry) (n : ℕ) → HasAsset history n → HasAsset (history ++ e ∷ []) n
asset_stays history e n h = ap (λ rows. is_some (nth rows n)) (assets-next history e) ∙ there_stays (assets history) (option_to_list (asset_added e.act)) n h

address_stays : (history : List Entry) (e : Entry) (n : ℕ) → HasAddress history n → HasAddress (history ++ e ∷ []) n
address_stays history e n h = ap (λ rows. is_some (nth rows n)) (addresses-next history e) ∙ there_stays (addresses history) (option_to_list (address_added e.act)) n h

limits_stay : (history : List Entry) (e : Entry) (limits : Limits) → LimitsNameMade history limits → LimitsNameMade (history ++ e ∷ []) limits
limits_stay history e limits made = record {
  receiver = if_weaker (HasIncoming history) (HasIncoming (history ++ e ∷ [])) limits.receiver (λ i. incoming_stays history (e ∷ []) i) made.receiver;
  cap = if_weaker (λ (cap : Cap). HasAsset history cap.sum.asset) (λ (cap : Cap). HasAsset (history ++ e ∷ []) cap.sum.asset) limits.cap (λ cap. asset_stays history e cap.sum.asset) made.cap;
}

pub item_stays : (history : List Entry) (e : Entry) (item : Item) → ItemNamesMade history item → ItemNamesMade (history ++ e ∷ []) item
item_stays history e item made = record {
  identifier = if_weaker (HasAddress history) (HasAddress (history ++ e ∷ [])) item.identifier (address_stays history e) made.identifier;
  limits = if_weaker (LimitsNameMade history) (LimitsNameMade (history ++ e ∷ [])) item.limits (limits_stay history e) made.limits;
}

pub items_stay : (history : List Entry) (e : Entry) (items : List Item) → AllByRecursion (ItemNamesMade history) items → AllByRecursion (ItemNamesMade (history ++ e ∷ [])) items
items_stay history e items made = each_weaker (ItemNamesMade history) (ItemNamesMade (history ++ e ∷ [])) items (item_stays history e) made

-- ---- the grants of a history

abbrev ItemsMade : List Entry → GrantMade → Type 0
ItemsMade history made = AllByRecursion (ItemNamesMade history) made.items

abbrev AllItemsMade : List Entry → Type 0
AllItemsMade history = AllByRecursion (ItemsMade history) (grants_made history)

-- the grant that an entry asks for
asked_made : (history : List Entry) (place t : ℕ) (act : Act) (e : Entry) → NamesMade history act → AllByRecursion (ItemsMade (history ++ e ∷ [])) (option_to_list (grant_asked place t act))
asked_made history place t (acts.GrantAsked client items finish word) e named = (items_stay history e items named, tt)
asked_made history place t _ e named = tt

more_made : IsKept AllItemsMade
more_made history e legal next made =
    let after = history ++ e ∷ [] in
    subst (AllByRecursion (ItemsMade after)) (sym (grants_made-next history e))
    (each_append (ItemsMade after) (grants_made history) (option_to_list (grant_asked (1 + length history) e.at e.act))
    (each_weaker (ItemsMade history) (ItemsMade after) (grants_made history) (λ made. items_stay history e made.items) made)
    (asked_made history (1 + length history) e.at e.act e (next_names history e next)))

-- the items of a grant
pub items_named : (history : List Entry) (g : ℕ) (row : GrantRow) → IsLegal history → grant_row history g ≡ Some row → AllByRecursion (ItemNamesMade history) row.items
items_named history g row legal found =
    let at = made_at history g row found in
    let made = each_at (ItemsMade history) (grants_made history) g at.0 (legal_induction AllItemsMade tt more_made history legal) at.1 in
    subst (AllByRecursion (ItemNamesMade history)) (ap (λ (r : GrantRow). r.items) at.2) made
