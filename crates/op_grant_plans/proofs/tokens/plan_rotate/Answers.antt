use Rattle.std.proofs.Common.{◌≡◌, ℕ, List, ◌∙◌, sym, ap, subst, Some}
use Rattle.std.specs.Prelude.{is_some}
use Rattle.std.specs.List.{AllByRecursion}
use Rattle.op_grant.specs.Rows.{token_answer}
use Rattle.op_grant_plans.proofs.Rotating.{rotation_told}
use Rattle.op_grant_plans.proofs.Rows.{passing_row}
use Rattle.op_legal.specs.Numbers.{ItemNamesMade}
use Rattle.op_model.specs.Shown.{items_shown}
use Rattle.op_model.specs.declared.act.Act.TheVariants as acts
use Rattle.op_model.specs.declared.act.Entry.{Entry}
use Rattle.op_model.specs.declared.grant.Item.{Item}
use Rattle.op_model.specs.declared.reply.ItemShown.{ItemShown}
use Rattle.op_model.specs.declared.reply.ReplyBody.TheVariants as bodies
use Rattle.op_model.specs.declared.row.GrantRow.{GrantRow}
use Rattle.op_naming.specs.Names.{AreNames}
use Rattle.op_grant_plans.proofs.tokens.plan_rotate.Goals as goal

pub row_of-row-requires : goal.row_of-row-requires
row_of-row-requires c = ap is_some (passing_row (token_answer c.in-Ok.ensures.current.token) c.args.parts.now.grants.now c.in-Ok.n tt c.in-Ok.ensures.current.passes).there

pub returns : goal.returns
returns c history fee are =
    let parts = c.args.parts.now in
    let context = c.args.context.now in
    let n = c.in-Ok.n in
    let row = c.row_of-row.result.now in
    let current = c.in-Ok.ensures.current in
    let at = passing_row (token_answer current.token) parts.grants.now n tt current.passes in
    let there = at.there ∙ ap (λ (r : GrantRow). Some r) (sym (c.row_of-row.ensures at.row at.there)) in
    let told = subst (λ (is : List Item). (history : List Entry) → AreNames history parts.names.now → AllByRecursion (ItemNamesMade history) is → c.in_ok-items.items.items ≡ items_shown history is) c.as_slice.ensures c.in_ok-items.ensures in (
      c.in-Ok.ensures.answer history (λ g. acts.TokenRotated g context.word.now) are.grants_are.rows,
      ap (λ (x : List ItemShown). bodies.TokenRotated n x c.secret_text.result) c.new.ensures
          ∙ ap (λ (s : List ℕ). bodies.TokenRotated n c.in_ok-items.items.items s) c.secret_text.ensures
          ∙ rotation_told parts history context.next.place context.next.at n context.word.now current.token c.args.grant row c.in_ok-items.items.items are current.passes there c.in-Ok.ensures.named told,
    )
