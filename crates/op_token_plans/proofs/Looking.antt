-- What an access looks at.
use Rattle.std.proofs.Common.{◌≡◌, ℕ, Bool, List, refl, ◌∙◌, sym, ap, subst, Some, None, Option}
use Rattle.std.specs.Option.{option_map}
use Rattle.op_grant.specs.Value.{GrantsValue}
use Rattle.op_granting.specs.Access.{AreLooksOf}
use Rattle.op_granting.specs.Keeping.{IsGrantsOf}
use Rattle.op_granting.specs.declared.access.Looks.{Looks}
use Rattle.op_model.specs.Access.{is_same_client}
use Rattle.op_model.specs.History.{nth}
use Rattle.op_model.specs.PaymentAnswers.{client_of_grant, looks_at_row}
use Rattle.op_model.specs.declared.act.Entry.{Entry}
use Rattle.op_model.specs.declared.row.GrantRow.{GrantRow}
use Rattle.op_token_plans.specs.Looks.{pair_of}
use Rattle.op_token_plans.specs.declared.looks.Place.{Place}

pub looks_there : (history : List Entry) (client : Option (List ℕ)) (kind need all : ℕ) (place : Place) (row : Option Place) (own : Option Bool) → row ≡ Some place → own ≡ option_map (is_same_client client) (client_of_grant history place.grant)
    → AreLooksOf (record { kind = kind; need = need; all = all; address = Some place.address; own = own; payment = None }) history client (looks_at_row history kind need all (option_map pair_of row))
looks_there history client kind need all place row own is own_is =
    let looks : Looks = record { kind = kind; need = need; all = all; address = Some place.address; own = own; payment = None } in
    subst (λ (r : Option Place). AreLooksOf looks history client (looks_at_row history kind need all (option_map pair_of r))) (sym is)
    (record { kind = refl; need = refl; all = refl; address = refl; own = own_is; payment = refl })

pub looks_nowhere : (history : List Entry) (client : Option (List ℕ)) (kind need all : ℕ) (row : Option Place) → row ≡ None → AreLooksOf (record { kind = kind; need = need; all = all; address = None; own = None; payment = None }) history client (looks_at_row history kind need all (option_map pair_of row))
looks_nowhere history client kind need all row is =
    let looks : Looks = record { kind = kind; need = need; all = all; address = None; own = None; payment = None } in
    subst (λ (r : Option Place). AreLooksOf looks history client (looks_at_row history kind need all (option_map pair_of r))) (sym is)
    (record { kind = refl; need = refl; all = refl; address = refl; own = refl; payment = refl })

own_by : (history : List Entry) (value : GrantsValue) (g : ℕ) (client : Option (List ℕ)) (o : Option GrantRow) → IsGrantsOf history value → o ≡ nth value.rows g → option_map (is_same_client client) (option_map (λ row. row.client) o) ≡ option_map (is_same_client client) (client_of_grant history g)
own_by history value g client o are at =
    ap (λ (r : Option GrantRow). option_map (is_same_client client) (option_map (λ row. row.client) r)) (at ∙ ap (λ (rows : List GrantRow). nth rows g) are.rows)

pub own_there : (history : List Entry) (value : GrantsValue) (g : ℕ) (client : Option (List ℕ)) (row : GrantRow) (same : Bool) → IsGrantsOf history value → Some row ≡ nth value.rows g → same ≡ is_same_client client row.client → Some same ≡ option_map (is_same_client client) (client_of_grant history g)
own_there history value g client row same are at same_is = ap Some same_is ∙ own_by history value g client (Some row) are at

pub own_missing : (history : List Entry) (value : GrantsValue) (g : ℕ) (client : Option (List ℕ)) → IsGrantsOf history value → None ≡ nth value.rows g → None ≡ option_map (is_same_client client) (client_of_grant history g)
own_missing history value g client are at = own_by history value g client None are at
