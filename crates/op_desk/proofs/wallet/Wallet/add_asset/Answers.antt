use Rattle.std.proofs.Common.{◌≡◌, ◌∙◌, ◌++◌, ◌∷◌, [], List, true, false, sym, ap, subst}
use Rattle.op_model.specs.declared.act.Entry.{Entry}
use Rattle.op_desk.specs.Wallets.{WalletState, IsTaken}
use Rattle.op_desk.proofs.Assets.{listed_is, next_asset, handles_there, handles_new}
use Rattle.op_desk.proofs.wallet.Wallet.add_asset.Goals as goal

pub returns-then-has_asset-clause-handled : goal.returns-then-has_asset-clause-handled
returns-then-has_asset-clause-handled g c place verdict word =
    let w = c.self.inside in
    let now = c.args.self.now in
    let there = listed_is w.assets.items c.deref.result.now w.history.entries now.history c.args.asset.now c.has_asset.result true c.self.invariant.assets (ap (λ (s : WalletState). s.history) c.self.view_is) c.deref.ensures.value c.has_asset.ensures c.if-has_asset.true in
    handles_there g.F.FeeTerms.allows now.history c.args.t place c.args.asset.now c.args.pieces verdict word c.refused.result.reply there c.refused.ensures.reply

pub put-requires-clause-taken : goal.put-requires-clause-taken
put-requires-clause-taken g c =
    let w = c.self.inside in
    let now = c.args.self.now in
    let free = listed_is w.assets.items c.deref.result.now w.history.entries now.history c.args.asset.now c.has_asset.result false c.self.invariant.assets (ap (λ (s : WalletState). s.history) c.self.view_is) c.deref.ensures.value c.has_asset.ensures c.if-has_asset.false in
    subst (λ (e : Entry). IsTaken now.history e) (sym c.added-entry.ensures.is) (next_asset now.history c.args.t c.args.asset.now c.args.pieces c.requires.proper c.requires.later c.added-entry.ensures.limit free)

pub returns-clause-handled : goal.returns-clause-handled
returns-clause-handled g c place verdict word =
    let w = c.self.inside in
    let now = c.args.self.now in
    let free = listed_is w.assets.items c.deref.result.now w.history.entries now.history c.args.asset.now c.has_asset.result false c.self.invariant.assets (ap (λ (s : WalletState). s.history) c.self.view_is) c.deref.ensures.value c.has_asset.ensures c.if-has_asset.false in
    handles_new g.F.FeeTerms.allows now.history c.put.new.self.history c.args.t place c.args.asset.now c.args.pieces verdict word c.reply.result free
    (ap (λ (s : WalletState). s.history) c.in-Ok.ensures.ok ∙ ap (λ (e : Entry). now.history ++ e ∷ []) c.added-entry.ensures.is) c.reply.ensures
