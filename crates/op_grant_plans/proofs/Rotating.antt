-- What is told of a rotated token.
use Rattle.std.proofs.Common.{◌≡◌, ℕ, List, ◌∙◌, refl, sym, ap, Some, Option, Ok}
use Rattle.std.specs.List.{AllByRecursion}
use Rattle.op_grant.specs.Rows.{at_row, token_answer, rotated}
use Rattle.op_grant_plans.specs.GrantPlans.{ArePartsOf}
use Rattle.op_grant_plans.specs.declared.parts.Parts.{Parts}
use Rattle.op_grant_plans.proofs.Itemized.{shown_stays}
use Rattle.op_grant_plans.proofs.ItemsNamed.{items_named}
use Rattle.op_grant_plans.proofs.Rows.{row_in, row_behind, told_row}
use Rattle.op_granting.specs.Models.{behind, next_place}
use Rattle.op_granting.proofs.Following.{follow}
use Rattle.op_legal.specs.Numbers.{ItemNamesMade}
use Rattle.op_model.specs.Answer.{told_of, rotated_body}
use Rattle.op_model.specs.Grants.{grant_row}
use Rattle.op_model.specs.History.{nth}
use Rattle.op_model.specs.Shown.{items_shown}
use Rattle.op_model.specs.declared.act.Act.TheVariants as acts
use Rattle.op_model.specs.declared.act.Entry.{Entry}
use Rattle.op_model.specs.declared.reply.ItemShown.{ItemShown}
use Rattle.op_model.specs.declared.reply.ReplyBody.TheVariants as bodies
use Rattle.op_model.specs.declared.row.GrantRow.{GrantRow}
use Rattle.op_names.specs.Secrets.{secret_text}
use Rattle.op_names.specs.declared.Letter.TheVariants as letters
use Rattle.op_naming.specs.Names.{AreNames}

pub rotation_told : (parts : Parts) (history : List Entry) (place t n : ℕ) (word token : List ℕ) (grant : Option ℕ) (row : GrantRow) (items : List ItemShown) → ArePartsOf history parts place → at_row (token_answer token) parts.grants.now n ≡ Ok tt → nth parts.grants.now.rows n ≡ Some row → grant ≡ Some n
    → ((history : List Entry) → AreNames history parts.names.now → AllByRecursion (ItemNamesMade history) row.items → items ≡ items_shown history row.items)
    → bodies.TokenRotated n items (secret_text letters.Access word place) ≡ told_of (grant_row (behind history t (acts.TokenRotated n word))) (rotated_body (behind history t (acts.TokenRotated n word))) grant
rotation_told parts history place t n word token grant row items are passes there named told =
    let value = parts.grants.now in
    let act = acts.TokenRotated n word in
    let after = behind history t act in
    let change = rotated t word (next_place history) in
    let made = items_named history n row are.legal (row_in value history n (Some row) are.grants_are.rows there) in
    let shown : items ≡ items_shown after row.items = told history are.names_are made ∙ sym (shown_stays history t act row.items refl refl) in
    ap (λ (x : List ItemShown). bodies.TokenRotated n x (secret_text letters.Access word place)) shown
    ∙ ap (λ p. bodies.TokenRotated n (items_shown after row.items) (secret_text letters.Access word p)) are.place_is
    ∙ told_row (rotated_body after) after grant n (change row) named
    (row_behind change value history t n act row (follow.rotated value history t n word token are.grants_are.rows passes) there)
