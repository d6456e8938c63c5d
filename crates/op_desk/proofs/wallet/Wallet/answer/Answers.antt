use Rattle.std.proofs.Common.{◌≡◌, ◌∙◌, sym, ap, subst}
use Rattle.op_model.specs.declared.request.Request.{Request}
use Rattle.op_model.specs.declared.request.Request.TheVariants.{AddAsset}
use Rattle.op_model.specs.declared.request.Task.{Task}
use Rattle.op_model.specs.declared.request.Task.TheVariants.{Ask}
use Rattle.op_desk.specs.Wallets.{Handles}
use Rattle.op_desk.proofs.wallet.Wallet.answer.Goals as goal

pub returns-clause-handled : goal.returns-clause-handled
returns-clause-handled g c place =
    let verdict = c.in-Ask.verdict in
    let is : c.args.task.now ≡ Ask (AddAsset c.in-AddAsset.asset c.in-AddAsset.pieces) verdict = c.in-Ask.is ∙ ap (λ (r : Request). Ask r verdict) c.in-AddAsset.is in
    subst (λ (task : Task). Handles g.F.FeeTerms.allows c.args.self.now.history c.args.t place task c.args.word.now c.add_asset.result.reply c.add_asset.new.self.history) (sym is) (c.add_asset.ensures.handled place verdict c.args.word.now)
