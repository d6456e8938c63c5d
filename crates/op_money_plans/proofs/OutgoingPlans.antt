-- What comes of cancelling an outgoing payment.
use Rattle.std.proofs.Common.{◌≡◌, ℕ, Bool, true, false, List, [], ◌∷◌, ◌++◌, refl, ◌∙◌, sym, ap, Some, None, Option}
use Rattle.std.specs.Option.{option_map, option_and_then}
use Rattle.op_model.specs.Answer.{told}
use Rattle.op_model.specs.Payments.{outgoing_row, is_ended}
use Rattle.op_model.specs.Shown.{progress_shown}
use Rattle.op_model.specs.declared.act.Act.TheVariants.{OutgoingFailed}
use Rattle.op_model.specs.declared.act.Entry.{Entry}
use Rattle.op_model.specs.declared.act.FailReason.TheVariants.{Cancelled}
use Rattle.op_model.specs.declared.reply.ProgressShown.{ProgressShown}
use Rattle.op_model.specs.declared.reply.ReplyBody.TheVariants.{OutgoingInspected}
use Rattle.op_model.specs.declared.request.Request.TheVariants.{CancelOutgoing}
use Rattle.op_model.specs.declared.row.OutgoingRow.{OutgoingRow}
use Rattle.op_outgoing.specs.Steps.{ended_as}
use Rattle.op_outgoing.proofs.NextRows.{rows_are_defined}
use Rattle.op_paying.specs.Balances.{cancelled_shown}
use Rattle.op_paying.proofs.Stepping.{next_row_of}
use Rattle.op_plans.specs.Plans.{IsPlanned}
use Rattle.op_plans.specs.declared.plan.Plan.TheVariants.{Acts}

-- what is told of a payment that is there
row_told : (after : List Entry) (p : ℕ) (row : OutgoingRow) (shown : ProgressShown) → outgoing_row after p ≡ Some row → shown ≡ progress_shown row
    → OutgoingInspected p shown ≡ told (λ (x : ℕ × OutgoingRow). OutgoingInspected x.0 (progress_shown x.1)) (option_map (λ (x : OutgoingRow). (p, x)) (outgoing_row after p))
row_told after p row shown there is =
    ap (λ (s : ProgressShown). OutgoingInspected p s) is
    ∙ ap (λ (o : Option OutgoingRow). told (λ (x : ℕ × OutgoingRow). OutgoingInspected x.0 (progress_shown x.1)) (option_map (λ (x : OutgoingRow). (p, x)) o)) (sym there)

-- a payment that is told as cancelled has not ended
record IsRunning (row : OutgoingRow) (shown : ProgressShown) : Type 0 where
  running : is_ended row.state ≡ false
  told_as : shown ≡ progress_shown (ended_as Cancelled row)

running_where : (row : OutgoingRow) (shown : ProgressShown) (b : Bool) → is_ended row.state ≡ b → Some shown ≡ cancelled_shown row → IsRunning row shown
running_where row shown true is some = absurd (let e : Some shown ≡ None = rw is at some in cc)
running_where row shown false is some =
    let e : Some shown ≡ Some (progress_shown (ended_as Cancelled row)) = rw is at some in
    record { running = is; told_as = cc }

pub payment_cancelled : (history : List Entry) (p : ℕ) (row : OutgoingRow) (shown : ProgressShown) → outgoing_row history p ≡ Some row → Some shown ≡ option_and_then cancelled_shown (outgoing_row history p)
    → IsPlanned history (CancelOutgoing (Some p)) (Acts (OutgoingFailed p row.step Cancelled) (OutgoingInspected p shown))
payment_cancelled history p row shown there some t word fee verdict =
    let is = running_where row shown (is_ended row.state) refl (some ∙ ap (option_and_then cancelled_shown) there) in
    let running : is_ended row.state ≡ false = is.running in
    let e : Entry = record { at = t; act = OutgoingFailed p row.step Cancelled } in
    let after : outgoing_row (history ++ e ∷ []) p ≡ Some (ended_as Cancelled row) = (next_row_of history e p row (ended_as Cancelled) (rows_are_defined.cancelled history p row.step t) there).one in
    (rw (there, running) refl, row_told (history ++ e ∷ []) p (ended_as Cancelled row) shown after is.told_as)
