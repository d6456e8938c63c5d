-- A payment that is cancelled, on money that is its history's.
use Rattle.std.proofs.Common.{◌≡◌, ℕ, false, List, [], ◌∷◌, ◌++◌, refl, ◌∙◌, sym, ap, subst, arith, Some}
use Rattle.std.specs.Prelude.{Ok}
use Rattle.std.specs.Option.{option_map, option_and_then}
use Rattle.op_ledger.specs.Balances.{LedgerValue}
use Rattle.op_laws.proofs.Placed.{all_placed}
use Rattle.op_legal.proofs.Chains.{act_in, outcome_act, past_want, past_refusal}
use Rattle.op_model.specs.AdminAnswers.{cancel_outgoing}
use Rattle.op_model.specs.Answer.{act_for}
use Rattle.op_model.specs.History.{with_item}
use Rattle.op_model.specs.Legal.{IsNext, no_verdict}
use Rattle.op_model.specs.Payments.{outgoing_row, is_ended, incoming_made, incomings}
use Rattle.op_model.specs.declared.act.Act.TheVariants as acts
use Rattle.op_model.specs.declared.act.Entry.{Entry}
use Rattle.op_model.specs.declared.act.FailReason.TheVariants.{Cancelled}
use Rattle.op_model.specs.declared.reply.Refusal.TheVariants.{NotFound, AlreadyEnded}
use Rattle.op_model.specs.declared.request.Request.TheVariants as requests
use Rattle.op_model.specs.declared.row.OutgoingRow.{OutgoingRow}
use Rattle.op_model.proofs.Next.{incomings-next}
use Rattle.op_outgoing.specs.Steps.{ended_as, voided}
use Rattle.op_outgoing.specs.Value.{OutgoingsValue, with_payment}
use Rattle.op_outgoing.proofs.NextRows.{rows_are_defined}
use Rattle.op_paying.specs.Ledgers.{StandsAs}
use Rattle.op_paying.specs.Money.{AreIncomings, IsMoneyOf}
use Rattle.op_paying.specs.declared.money.Money.{Money}
use Rattle.op_paying.proofs.Received.{same_incomings, received_next}
use Rattle.op_paying.proofs.StepFollows.{accounts_there, is_covered}
use Rattle.op_paying.proofs.Stays.{nothing_more, names_stay}
use Rattle.op_paying.proofs.Stepping.{next_row_of, failing_stands}
use Rattle.op_paying.proofs.Untouched.{money_next, quotes_stay}

-- a payment that may be cancelled is there, and has not ended
pub record IsCancelled (history : List Entry) (p : ℕ) : Type 0 where
  pub row : OutgoingRow
  pub there : outgoing_row history p ≡ Some row
  pub running : is_ended row.state ≡ false

pub cancel_taken : (history : List Entry) (t p k : ℕ) → IsNext history (record { at = t; act = acts.OutgoingFailed p k Cancelled }) → IsCancelled history p
cancel_taken history t p k next =
    let act = acts.OutgoingFailed p k Cancelled in
    let made : act_in (cancel_outgoing history (Some p)) ≡ Some act =
    sym (outcome_act history t (requests.CancelOutgoing (Some p)) no_verdict (act_for history t [] 0 (requests.CancelOutgoing (Some p)) no_verdict)) ∙ next.act in
    let want = past_want (option_and_then (outgoing_row history) (Some p)) NotFound _ act made in
    let past = past_refusal (is_ended want.0.state) AlreadyEnded (λ _. Ok (option_map (λ n. acts.OutgoingFailed n want.0.step Cancelled) (Some p))) act want.2 in
    record { row = want.0; there = want.1; running = past.0 }

pub cancel_money : (history : List Entry) (t p k : ℕ) (old new : Money) (row : OutgoingRow) → IsMoneyOf history old → IsNext history (record { at = t; act = acts.OutgoingFailed p k Cancelled }) → outgoing_row history p ≡ Some row
    → new.ledger ≡ voided old.ledger row → new.incomings ≡ old.incomings → new.outgoings ≡ with_payment (ended_as Cancelled) old.outgoings p → new.pieces.items ≡ old.pieces.items → new.addresses ≡ old.addresses
    → IsMoneyOf (history ++ record { at = t; act = acts.OutgoingFailed p k Cancelled } ∷ []) new
cancel_money history t p k old new row is next there ledger_is incomings_are outgoings_are pieces_are counted =
    let e : Entry = record { at = t; act = acts.OutgoingFailed p k Cancelled } in
    let placed = all_placed history is.legal in
    let rows = rows_are_defined.cancelled history p k t in
    let none = nothing_more (incomings history) (incomings (history ++ e ∷ [])) (incoming_made t e.act) (incomings-next history e) refl in
    money_next history e old new is next (record { asset = refl; address = refl }) pieces_are counted
    (record {
      stands =
          subst (λ (v : LedgerValue). StandsAs (history ++ e ∷ []) v) (sym ledger_is)
          (failing_stands history e old.ledger p row Cancelled
          (record {
            stands = is.stands;
            accounts = accounts_there history old.ledger p row is.stands placed there;
            covered = is_covered history old.ledger p row is.stands there;
            next = next_row_of history e p row (ended_as Cancelled) rows there;
            no_legs = refl;
            keeps = names_stay history e refl refl;
          }));
      received =
          subst (λ l. AreIncomings (history ++ e ∷ []) l) (sym incomings_are)
          (same_incomings history e old.incomings is.received (record { closes = λ i. refl; completes = λ i. refl; makes = none })
          (λ i. let m = received_next history e (ended_as Cancelled) p i row rows there in omega (arith, m)));
      payments_are = ap (λ (o : OutgoingsValue). o.rows) outgoings_are ∙ ap (λ (l : List OutgoingRow). with_item (ended_as Cancelled) l p) is.payments_are ∙ sym rows;
      quotes_are = ap (λ (o : OutgoingsValue). o.quotes) outgoings_are ∙ is.quotes_are ∙ sym (quotes_stay history e (λ s u. refl));
    })
