use Rattle.std.proofs.Common.{◌≡◌, ◌∷◌, ◌++◌, [], refl, subst, ◌∙◌}
use Rattle.op_model.specs.Legal.{IsNext}
use Rattle.op_model.specs.declared.act.Act.TheVariants as acts
use Rattle.op_model.specs.declared.act.Entry.{Entry}
use Rattle.op_paying.specs.Money.{IsMoneyOf}
use Rattle.op_paying.specs.declared.money.Money.{Money}
use Rattle.op_paying.proofs.Acts.{with_act, of_act}
use Rattle.std.specs.Bool.{OnTrue}
use Rattle.op_incoming.specs.Rows.{expired}
use Rattle.op_paying.proofs.Facts.{expired_fits}
use Rattle.op_paying.proofs.IncomingMoney.{kept_some, due_kept, expired_money}
use Rattle.op_paying.proofs.money.Money.take_expiry.Goals as goal

pub expire-requires : goal.expire-requires
expire-requires c =
    let can = c.requires.can in
    let follows = with_act (IsNext can.history) c.args.entry.now (acts.IncomingExpired c.args.incoming) c.requires.is can.next in
    kept_some can.history c.args.self.now.incomings c.args.incoming can.is.received follows.proper

pub returns : goal.returns
returns c history is next =
    let old = c.args.self.now in
    let e = c.args.entry.now in
    let i = c.args.incoming in
    let act = acts.IncomingExpired i in
    let follows = with_act (IsNext history) e act c.requires.is next in
    let new : Money = record { ledger = old.ledger; incomings = c.expire.new.self; outgoings = old.outgoings; pieces = old.pieces; addresses = old.addresses } in
    let due = due_kept history old.incomings i e.at is.received ∙ expired_fits history e.at i follows in
    let done : c.expire.new.self ≡ expired old.incomings i = subst (λ b. OnTrue b (c.expire.new.self ≡ expired old.incomings i)) (c.expire.ensures.due ∙ due) c.expire.ensures.done in
    of_act (λ (x : Entry). IsMoneyOf (history ++ x ∷ []) new) e act c.requires.is
    (expired_money history e.at i old new is follows due (record { incomings_are = done; ledger_is = refl; outgoings_are = refl; pieces_are = refl; counted = refl }))
