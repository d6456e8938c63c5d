use Rattle.std.proofs.Common.{◌≡◌, ℕ, ◌∷◌, ◌++◌, [], List, refl, arith}
use Rattle.op_model.specs.Legal.{IsNext}
use Rattle.op_model.specs.declared.act.Act.TheVariants as acts
use Rattle.op_model.specs.declared.act.Entry.{Entry}
use Rattle.op_paying.specs.Money.{IsMoneyOf}
use Rattle.op_paying.specs.declared.money.Money.{Money}
use Rattle.op_paying.proofs.Acts.{with_act, of_act}
use Rattle.op_laws.proofs.Placed.{all_placed}
use Rattle.op_legal.proofs.Named.{next_names}
use Rattle.op_paying.proofs.Moving.{IsMovable, is_movable, withdrawal_fits}
use Rattle.op_paying.proofs.AccountMoney.{withdrawal_money}
use Rattle.op_paying.proofs.money.Money.take_withdrawal.Goals as goal

movable : (history : List Entry) (e : Entry) (money : Money) (id : List ℕ) (account : _) (value : ℕ) → IsMoneyOf history money → e.act ≡ acts.Withdrawn id account value → IsNext history e → IsMovable history money.ledger account
movable history e money id account value is act next =
    let follows = with_act (IsNext history) e (acts.Withdrawn id account value) act next in
    is_movable history money.ledger account is.stands (all_placed history is.legal) (next_names history (record { at = e.at; act = acts.Withdrawn id account value }) follows)

pub withdraw-requires-clause-there : goal.withdraw-requires-clause-there
withdraw-requires-clause-there c =
    let can = c.requires.can in
    (movable can.history c.args.entry.now c.args.self.now c.requires.is.0 c.args.account c.args.value can.is c.requires.is.1 can.next).there

pub withdraw-requires-clause-outside : goal.withdraw-requires-clause-outside
withdraw-requires-clause-outside c =
    let can = c.requires.can in
    (movable can.history c.args.entry.now c.args.self.now c.requires.is.0 c.args.account c.args.value can.is c.requires.is.1 can.next).outside

pub unreachable-requires : goal.unreachable-requires
unreachable-requires c =
    let can = c.requires.can in
    let e = c.args.entry.now in
    let old = c.args.self.now in
    let id = c.requires.is.0 in
    let can_move = movable can.history e old id c.args.account c.args.value can.is c.requires.is.1 can.next in
    let fits = withdrawal_fits can.history old.ledger e.at id c.args.account c.args.value can.is.stands can_move (with_act (IsNext can.history) e (acts.Withdrawn id c.args.account c.args.value) c.requires.is.1 can.next) in
    let over = c.in-Err.ensures.short.0 refl in
    absurd (omega (arith, fits, over))

pub returns : goal.returns
returns c history is next =
    let old = c.args.self.now in
    let e = c.args.entry.now in
    let id = c.requires.is.0 in
    let act = acts.Withdrawn id c.args.account c.args.value in
    let new : Money = record { ledger = c.withdraw.new.self; incomings = old.incomings; outgoings = old.outgoings; pieces = old.pieces; addresses = old.addresses } in
    of_act (λ (x : Entry). IsMoneyOf (history ++ x ∷ []) new) e act c.requires.is.1
    (withdrawal_money history e.at id c.args.account c.args.value old new is (with_act (IsNext history) e act c.requires.is.1 next) c.in-Ok.ensures.ok (record { incomings_are = refl; outgoings_are = refl }) refl refl)
