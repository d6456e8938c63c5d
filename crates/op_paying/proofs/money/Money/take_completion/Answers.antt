use Rattle.std.proofs.Common.{◌≡◌, ℕ, ◌∷◌, ◌++◌, [], List, refl, sym, ◌∙◌, true, false}
use Rattle.op_model.specs.Legal.{IsNext}
use Rattle.op_model.specs.declared.act.Act.TheVariants as acts
use Rattle.op_model.specs.declared.act.Entry.{Entry}
use Rattle.op_paying.specs.Money.{IsMoneyOf}
use Rattle.op_paying.specs.declared.money.Money.{Money}
use Rattle.op_paying.proofs.Acts.{with_act, of_act}
use Rattle.op_incoming.specs.Rows.{row_is, is_open_at}
use Rattle.op_paying.proofs.Facts.{IsOpenThere, completed_fits}
use Rattle.op_paying.proofs.IncomingMoney.{kept_there, open_there, completed_money}
use Rattle.op_paying.proofs.money.Money.take_completion.Goals as goal

fits : (history : List Entry) (e : Entry) (grant i : ℕ) → e.act ≡ acts.IncomingCompleted grant i → IsNext history e → IsOpenThere history e.at i
fits history e grant i act next = completed_fits history e.at grant i (with_act (IsNext history) e (acts.IncomingCompleted grant i) act next)

pub complete-requires : goal.complete-requires
complete-requires c =
    let can = c.requires.can in
    let is = fits can.history c.args.entry.now c.requires.is.0 c.args.incoming c.requires.is.1 can.next in
    kept_there can.history c.args.self.now.incomings c.args.incoming is.row can.is.received is.there

pub unreachable-requires : goal.unreachable-requires
unreachable-requires c =
    let can = c.requires.can in
    let e = c.args.entry.now in
    let is = fits can.history e c.requires.is.0 c.args.incoming c.requires.is.1 can.next in
    let opened : row_is (is_open_at e.at) c.args.self.now.incomings c.args.incoming ≡ true = open_there can.history c.args.self.now.incomings c.args.incoming e.at can.is.received is in
    let closed : row_is (is_open_at e.at) c.args.self.now.incomings c.args.incoming ≡ false = c.in-Err.ensures.closed.0 refl in
    absurd (let x : true ≡ false = sym opened ∙ closed in cc)

pub returns : goal.returns
returns c history is next =
    let old = c.args.self.now in
    let e = c.args.entry.now in
    let i = c.args.incoming in
    let grant = c.requires.is.0 in
    let act = acts.IncomingCompleted grant i in
    let new : Money = record { ledger = old.ledger; incomings = c.complete.new.self; outgoings = old.outgoings; pieces = old.pieces; addresses = old.addresses } in
    let opened = open_there history old.incomings i e.at is.received (fits history e grant i c.requires.is.1 next) in
    of_act (λ (x : Entry). IsMoneyOf (history ++ x ∷ []) new) e act c.requires.is.1
    (completed_money history e.at grant i old new is (with_act (IsNext history) e act c.requires.is.1 next) opened
    (record { incomings_are = c.in-Ok.ensures.ok; ledger_is = refl; outgoings_are = refl; pieces_are = refl; counted = refl }))
