use Rattle.std.proofs.Common.{◌≡◌, true}
use Rattle.op_ledger.specs.Balances.{is_there}
use Rattle.op_model.specs.declared.act.Account.TheVariants.{Outside, Pool, Fees}
use Rattle.op_paying.specs.Ledgers.{AreOpen}
use Rattle.op_paying.proofs.Opening.{ok_on, there_stays, outside_stands, pool_stands, fees_stands}
use Rattle.op_paying.proofs.accounts.open_asset.Goals as goal

pub returns-in_err-open_if-clause-stands : goal.returns-in_err-open_if-clause-stands
returns-in_err-open_if-clause-stands c history stands = outside_stands history c.args.ledger.now c.open_if.new.ledger c.args.number c.open_if.ensures.may stands

pub returns-in_err-open_if-2-clause-stands : goal.returns-in_err-open_if-2-clause-stands
returns-in_err-open_if-2-clause-stands c history stands =
    let n = c.args.number in
    pool_stands history c.open_if.new.ledger c.open_if-2.new.ledger n c.open_if-2.ensures.may
    (outside_stands history c.args.ledger.now c.open_if.new.ledger n c.open_if.ensures.may stands)

pub returns-clause-stands : goal.returns-clause-stands
returns-clause-stands c history stands =
    let n = c.args.number in
    fees_stands history c.open_if-2.new.ledger c.open_if-3.new.ledger n c.open_if-3.ensures.may
    (pool_stands history c.open_if.new.ledger c.open_if-2.new.ledger n c.open_if-2.ensures.may
    (outside_stands history c.args.ledger.now c.open_if.new.ledger n c.open_if.ensures.may stands))

pub returns-clause-ok : goal.returns-clause-ok
returns-clause-ok c =
    let n = c.args.number in
    let one = c.open_if.new.ledger in
    let two = c.open_if-2.new.ledger in
    let three = c.open_if-3.new.ledger in
    ok_on c.open_if-3.result (is_there three (Fees n) ≡ true) (AreOpen three n)
    (λ fees. record {
      outside = there_stays two three (Fees n) n (Outside n) c.open_if-3.ensures.may (there_stays one two (Pool n) n (Outside n) c.open_if-2.ensures.may c.in_ok-open_if.ensures.ok);
      pool = there_stays two three (Fees n) n (Pool n) c.open_if-3.ensures.may c.in_ok-open_if-2.ensures.ok;
      fees = fees;
    })
    c.open_if-3.ensures.ok
