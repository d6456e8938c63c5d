-- Each address of a legal history has an asset that is there.
use Rattle.std.proofs.Common.{◌≡◌, ℕ, zero, suc, true, List, [], ◌∷◌, ◌++◌, refl, ◌∙◌, sym, ap, subst, inl, inr, ◌⊎◌, Some, None}
use Rattle.std.specs.Prelude.{is_some, slice_get}
use Rattle.std.specs.Option.{option_to_list}
use Rattle.op_model.specs.History.{AssetRow, AddressRow, nth, assets, asset_added, addresses, address_added}
use Rattle.op_model.specs.Legal.{IsLegal, IsNext}
use Rattle.op_model.specs.declared.act.Act.{Act}
use Rattle.op_model.specs.declared.act.Act.TheVariants as acts
use Rattle.op_model.specs.declared.act.Entry.{Entry}
use Rattle.op_model.proofs.Next.{assets-next, addresses-next}
use Rattle.op_legal.proofs.Induction.{legal_induction}
use Rattle.op_legal.proofs.Named.{next_names}
use Rattle.op_legal.proofs.Stays.{there_stays}
use Rattle.op_naming.proofs.NamesNext.{addresses_stay}
use Rattle.op_plans.specs.Plans.{AreBased}

-- an item of a list with one more
get_last : {X : Type 0} (xs : List X) (x y : X) (k : ℕ) → slice_get (xs ++ x ∷ []) k ≡ Some y → (slice_get xs k ≡ Some y) ⊎ (x ≡ y)
get_last [] x y zero is = inr (let e : Some x ≡ Some y = is in cc)
get_last [] x y (suc k) is = inl is
get_last (z ∷ xs) x y zero is = inl is
get_last (z ∷ xs) x y (suc k) is = get_last xs x y k is

nth_last : {X : Type 0} (xs : List X) (x y : X) (n : ℕ) → nth (xs ++ x ∷ []) n ≡ Some y → (nth xs n ≡ Some y) ⊎ (x ≡ y)
nth_last xs x y zero is = inl is
nth_last xs x y (suc k) is = get_last xs x y k is

asset_stays : (history : List Entry) (e : Entry) (n : ℕ) → is_some (nth (assets history) n) ≡ true → is_some (nth (assets (history ++ e ∷ [])) n) ≡ true
asset_stays history e n there =
    subst (λ (rows : List AssetRow). is_some (nth rows n) ≡ true) (sym (assets-next history e)) (there_stays (assets history) (option_to_list (asset_added e.act)) n there)

unless_added : (history : List Entry) (e : Entry) → address_added e.act ≡ None → AreBased history → AreBased (history ++ e ∷ [])
unless_added history e none based n row at =
    asset_stays history e row.asset (based n row (ap (λ (rows : List AddressRow). nth rows n) (sym (addresses_stay history e none)) ∙ at))

of_row : (history : List Entry) (e : Entry) (added row : AddressRow) (n : ℕ) → is_some (nth (assets history) added.asset) ≡ true → AreBased history → (nth (addresses history) n ≡ Some row) ⊎ (added ≡ row) → is_some (nth (assets (history ++ e ∷ [])) row.asset) ≡ true
of_row history e added row n there based (inl before) = asset_stays history e row.asset (based n row before)
of_row history e added row n there based (inr same) = asset_stays history e row.asset (subst (λ (r : AddressRow). is_some (nth (assets history) r.asset) ≡ true) same there)

based_act : (history : List Entry) (t : ℕ) (act : Act) → IsNext history (record { at = t; act = act }) → AreBased history → AreBased (history ++ record { at = t; act = act } ∷ [])
based_act history t (acts.AddressAdded path asset name) next based n row at =
    let e : Entry = record { at = t; act = acts.AddressAdded path asset name } in
    let added : AddressRow = record { path = path; asset = asset; name = name } in
    of_row history e added row n (next_names history e next) based
    (nth_last (addresses history) added row n (ap (λ (rows : List AddressRow). nth rows n) (sym (addresses-next history e)) ∙ at))
based_act history t _ next based n row at = unless_added history _ refl based n row at

none_based : AreBased []
none_based zero row at = absurd (let e : None ≡ Some row = at in cc)
none_based (suc n) row at = absurd (let e : None ≡ Some row = at in cc)

pub legal_based : (history : List Entry) → IsLegal history → AreBased history
legal_based history legal = legal_induction AreBased none_based (λ before e legal_before next based. based_act before e.at e.act next based) history legal
