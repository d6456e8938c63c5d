use Rattle.std.proofs.Common.{◌≡◌, ◌-◌, ℕ, List, [], ◌∷◌, ◌++◌, true, false, refl, ap, sym, subst, ◌∙◌, arith, IsTrue, Ok, Err}
use Rattle.std.specs.Prelude.{is_some, Result, IsErrAnd}
use Rattle.op_incoming.proofs.Places.{place_of_some}
use Rattle.op_model.specs.History.{nth}
use Rattle.op_model.specs.Payments.{made_from_quote}
use Rattle.op_model.specs.declared.row.OutgoingRow.{OutgoingRow}
use Rattle.op_outgoing.specs.Value.{OutgoingsValue, is_paid_in, quote_expiry, with_fresh, fresh_row}
use Rattle.op_model.specs.declared.row.QuoteRow.{QuoteRow}
use Rattle.op_outgoing.specs.declared.outgoings.OutgoingFault.{OutgoingFault}
use Rattle.op_outgoing.specs.declared.outgoings.OutgoingFault.TheVariants as faults
use Rattle.op_outgoing.proofs.Quotes.{rows_of, there_of, quote_at, sound_fresh, tied_made, rows_marked, fresh_is}
use Rattle.op_outgoing.proofs.outgoings.Outgoings.add.Goals as goal

only_memory : (r : Result ℕ OutgoingFault) → IsErrAnd r (λ e. e ≡ faults.Memory) → r ≡ Err faults.Memory
only_memory (Ok n) h = absurd h
only_memory (Err e) h = ap (λ x. Err x) h

pub returns-then-ms-clause-expired : goal.returns-then-ms-clause-expired
returns-then-ms-clause-expired c =
    let q = c.args.quote in
    let x = c.index.result.now in
    let there = subst (λ value. IsTrue (is_some (nth value.quotes q))) (sym c.self.view_is) c.requires in
    let is = quote_at c.self.inside.quotes.items c.self.inside.payments q x c.self.invariant there c.index.ensures in
    let paid : is_paid_in c.args.self.now.rows q ≡ x.used = ap (λ value. is_paid_in value.rows q) (sym c.self.view_is) ∙ is.paid in
    let expiry : quote_expiry c.args.self.now q ≡ x.row.expiry = ap (λ value. quote_expiry value q) (sym c.self.view_is) ∙ is.expiry in
    (λ _. (paid ∙ c.if-used.false, omega (arith, expiry, c.if-ms.true, c.ms.ensures.value, c.ms-2.ensures.value)), λ _. refl)

pub push-requires-clause-sound : goal.push-requires-clause-sound
push-requires-clause-sound c =
    let q = c.args.quote in
    let x = c.index.result.now in
    let there = subst (λ value. IsTrue (is_some (nth value.quotes q))) (sym c.self.view_is) c.requires in
    let is = quote_at c.self.inside.quotes.items c.self.inside.payments q x c.self.invariant there c.index.ensures in
    rw c.fresh.ensures (sound_fresh (made_from_quote c.args.t c.args.grant q c.args.metadata x.row) is.priced)

pub index_mut-requires : goal.index_mut-requires
index_mut-requires c =
    let q = c.args.quote in
    let there = subst (λ value. IsTrue (is_some (nth value.quotes q))) (sym c.self.view_is) c.requires in
    let quotes = c.self.inside.quotes in
    omega (arith, place_of_some quotes.items q (there_of quotes.items q there), quotes.ok.0)

pub invariant_of-self-2 : goal.invariant_of-self-2
invariant_of-self-2 c =
    let q = c.args.quote in
    let quotes = c.self.inside.quotes in
    let x = c.index.result.now in
    let y = c.index_mut.result.now in
    let there = subst (λ value. IsTrue (is_some (nth value.quotes q))) (sym c.self.view_is) c.requires in
    rw c.in_ok-number.ensures.ok.0 rw c.fresh.ensures (tied_made quotes.items c.self.inside.payments q y (fresh_row (made_from_quote c.args.t c.args.grant q c.args.metadata x.row)) c.self.invariant (there_of quotes.items q there) c.index_mut.ensures.value refl)

pub returns-in_err-number-clause-used : goal.returns-in_err-number-clause-used
returns-in_err-number-clause-used c =
    let q = c.args.quote in
    let x = c.index.result.now in
    let there = subst (λ value. IsTrue (is_some (nth value.quotes q))) (sym c.self.view_is) c.requires in
    let is = quote_at c.self.inside.quotes.items c.self.inside.payments q x c.self.invariant there c.index.ensures in
    let paid : is_paid_in c.args.self.now.rows q ≡ x.used = ap (λ value. is_paid_in value.rows q) (sym c.self.view_is) ∙ is.paid in
    let memory = only_memory c.from_residual.result c.from_residual.ensures.1 in
    (λ is_used. absurd (let no : Err faults.Memory ≡ Err faults.QuoteUsed = sym memory ∙ is_used in cc), λ used. absurd (let no : true ≡ false = sym used ∙ paid ∙ c.if-used.false in cc))

pub returns-in_err-number-clause-expired : goal.returns-in_err-number-clause-expired
returns-in_err-number-clause-expired c =
    let q = c.args.quote in
    let x = c.index.result.now in
    let there = subst (λ value. IsTrue (is_some (nth value.quotes q))) (sym c.self.view_is) c.requires in
    let is = quote_at c.self.inside.quotes.items c.self.inside.payments q x c.self.invariant there c.index.ensures in
    let expiry : quote_expiry c.args.self.now q ≡ x.row.expiry = ap (λ value. quote_expiry value q) (sym c.self.view_is) ∙ is.expiry in
    let memory = only_memory c.from_residual.result c.from_residual.ensures.1 in
    (λ is_expired. absurd (let no : Err faults.Memory ≡ Err faults.QuoteExpired = sym memory ∙ is_expired in cc), λ late. absurd (omega (arith, expiry, late.1, c.if-ms.false, c.ms.ensures.value, c.ms-2.ensures.value)))

pub returns-clause-ok : goal.returns-clause-ok
returns-clause-ok c =
    let q = c.args.quote in
    let x = c.index.result.now in
    let there = subst (λ value. IsTrue (is_some (nth value.quotes q))) (sym c.self.view_is) c.requires in
    let is = quote_at c.self.inside.quotes.items c.self.inside.payments q x c.self.invariant there c.index.ensures in
    let expiry : quote_expiry c.args.self.now q ≡ x.row.expiry = ap (λ value. quote_expiry value q) (sym c.self.view_is) ∙ is.expiry in
    let quotes = c.self.inside.quotes.items in
    let rows = c.self.inside.payments in
    let shown : List QuoteRow → List OutgoingRow → OutgoingsValue = λ qs xs. record { quotes = qs; rows = xs } in (
      ap (λ qs. shown qs c.push.new.self) (rows_marked quotes (q - 1) c.index_mut.result.now c.index_mut.ensures.value)
          ∙ ap (shown (rows_of quotes)) (c.in_ok-number.ensures.ok.0 ∙ ap (λ row. rows ++ row ∷ []) c.fresh.ensures)
          ∙ sym (fresh_is (shown (rows_of quotes) rows) c.args.t q c.args.grant c.args.metadata x.row is.found)
          ∙ ap (λ value. with_fresh value c.args.t q c.args.grant c.args.metadata) c.self.view_is,
      c.in_ok-number.ensures.ok.1,
      omega (arith, expiry, c.if-ms.false, c.ms.ensures.value, c.ms-2.ensures.value),
    )

pub returns-clause-used : goal.returns-clause-used
returns-clause-used c =
    let q = c.args.quote in
    let x = c.index.result.now in
    let there = subst (λ value. IsTrue (is_some (nth value.quotes q))) (sym c.self.view_is) c.requires in
    let is = quote_at c.self.inside.quotes.items c.self.inside.payments q x c.self.invariant there c.index.ensures in
    let paid : is_paid_in c.args.self.now.rows q ≡ x.used = ap (λ value. is_paid_in value.rows q) (sym c.self.view_is) ∙ is.paid in
    (λ is_used. absurd (cc), λ used. absurd (let no : true ≡ false = sym used ∙ paid ∙ c.if-used.false in cc))

pub returns-clause-expired : goal.returns-clause-expired
returns-clause-expired c =
    let q = c.args.quote in
    let x = c.index.result.now in
    let there = subst (λ value. IsTrue (is_some (nth value.quotes q))) (sym c.self.view_is) c.requires in
    let is = quote_at c.self.inside.quotes.items c.self.inside.payments q x c.self.invariant there c.index.ensures in
    let expiry : quote_expiry c.args.self.now q ≡ x.row.expiry = ap (λ value. quote_expiry value q) (sym c.self.view_is) ∙ is.expiry in
    (λ is_expired. absurd (cc), λ late. absurd (omega (arith, expiry, late.1, c.if-ms.false, c.ms.ensures.value, c.ms-2.ensures.value)))
