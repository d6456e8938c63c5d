-- What the ledger and the incoming payments of a history tell of a step.
use Rattle.std.proofs.Common.{◌≡◌, ℕ, zero, suc, true, false, List, [], ◌∷◌, refl, ◌∙◌, sym, ap, arith, Some, None, Option, IfSome, map}
use Rattle.std.specs.Prelude.{slice_get, is_some}
use Rattle.std.specs.Option.{option_map, option_map_or}
use Rattle.op_incoming.specs.Rows.{has_row, is_open_at}
use Rattle.op_incoming.specs.declared.incoming.Incoming.{Incoming}
use Rattle.op_incoming.proofs.ModelLemmas.{payments_are_defined}
use Rattle.op_ledger.specs.Balances.{LedgerValue, is_outside, available_in}
use Rattle.op_model.specs.Balances.{available}
use Rattle.op_model.specs.History.{nth, address_asset}
use Rattle.op_model.specs.Incoming.{is_open}
use Rattle.op_model.specs.Payments.{incoming_row, outgoings, outgoing_row}
use Rattle.op_model.specs.Steps.{step_answer}
use Rattle.op_model.specs.declared.act.Account.{Account}
use Rattle.op_model.specs.declared.act.Account.TheVariants.{Pool, Wallet}
use Rattle.op_model.specs.declared.act.Entry.{Entry}
use Rattle.op_model.specs.declared.reply.StepAnswer.{StepAnswer}
use Rattle.op_model.specs.declared.reply.StepAnswer.TheVariants as answers
use Rattle.op_model.specs.declared.row.IncomingRow.{IncomingRow}
use Rattle.op_model.specs.declared.row.OutgoingRow.{OutgoingRow}
use Rattle.op_outgoing.specs.Answers.{row_answer}
use Rattle.op_outgoing.specs.Models.{StandAs}
use Rattle.op_outgoing.specs.Value.{OutgoingsValue, answer_in}
use Rattle.op_outgoing.proofs.ModelLemmas.{answers_are_defined}
use Rattle.op_laws.specs.Placed.{IsPlacedIn}
use Rattle.op_paying.specs.Ledgers.{StandsAs}
use Rattle.op_paying.specs.Money.{AreIncomings}

get_map : {X Y : Type 0} (f : X → Y) (xs : List X) (k : ℕ) → slice_get (map f xs) k ≡ option_map f (slice_get xs k)
get_map f [] k = refl
get_map f (x ∷ xs) zero = refl
get_map f (x ∷ xs) (suc k) = get_map f xs k

pub nth_map : {X Y : Type 0} (f : X → Y) (xs : List X) (n : ℕ) → nth (map f xs) n ≡ option_map f (nth xs n)
nth_map f xs zero = refl
nth_map f xs (suc k) = get_map f xs k

pub some_map : {X Y : Type 0} (f : X → Y) (o : Option X) → is_some (option_map f o) ≡ is_some o
some_map f None = refl
some_map f (Some x) = refl

pub row_at : (history : List Entry) (rows : List Incoming) (i : ℕ) → AreIncomings history rows → incoming_row history i ≡ option_map (λ x. x.row) (nth rows i)
row_at history rows i are = ap (λ (l : List IncomingRow). nth l i) (sym are.rows_are) ∙ nth_map (λ (x : Incoming). x.row) rows i

pub available_same : (history : List Entry) (v : LedgerValue) (a : Account) → StandsAs history v → is_outside a ≡ false → available_in v a ≡ available history a
available_same history v a stands inside = let held = stands.held_is a in omega (arith, stands.posted a inside, held)

receiver_where : (history : List Entry) (rows : List Incoming) (i t : ℕ) (found : Option Incoming) → AreIncomings history rows → nth rows i ≡ found → option_map_or (is_open_at t) found false ≡ option_map_or (λ r. is_open history i r t) (option_map (λ (x : Incoming). x.row) found) false
receiver_where history rows i t None are at = refl
receiver_where history rows i t (Some x) are at = ((payments_are_defined history rows are.rows_are are.each).each i t x at).open_then

pub stand_as : (history : List Entry) (v : LedgerValue) (rows : List Incoming) (t : ℕ) (row : OutgoingRow) → StandsAs history v → AreIncomings history rows → StandAs history t row v rows
stand_as history v rows t row stands are =
    let i = row.terms.incoming in
    record {
      payer_asset = stands.asset row.terms.payer;
      payee_asset = stands.asset row.terms.payee;
      payer = available_same history v (Wallet row.terms.payer) stands refl;
      pool = available_same history v (Pool (address_asset history row.terms.payee)) stands refl;
      receiver =
          receiver_where history rows i t (nth rows i) are refl
          ∙ ap (λ (o : Option IncomingRow). option_map_or (λ r. is_open history i r t) o false) (sym (row_at history rows i are));
    }

answer_where : (history : List Entry) (v : LedgerValue) (rows : List Incoming) (p k t : ℕ) (found : Option OutgoingRow) (reply : StepAnswer) → StandsAs history v → AreIncomings history rows → outgoing_row history p ≡ found → reply ≡ option_map_or (row_answer v rows k t) found answers.Ended
    → IfSome found (λ row. reply ≡ step_answer history p row k t)
answer_where history v rows p k t None reply stands are at is = tt
answer_where history v rows p k t (Some row) reply stands are at is =
    is ∙ answers_are_defined history v rows p k t row at (stand_as history v rows t row stands are)

-- the answer is the plain wallet's
pub step_answers : (history : List Entry) (v : LedgerValue) (rows : List Incoming) (payments : OutgoingsValue) (p k t : ℕ) (reply : StepAnswer) → StandsAs history v → AreIncomings history rows → payments.rows ≡ outgoings history → reply ≡ answer_in payments v rows p k t
    → IfSome (outgoing_row history p) (λ row. reply ≡ step_answer history p row k t)
step_answers history v rows payments p k t reply stands received payments_are is =
    answer_where history v rows p k t (outgoing_row history p) reply stands received refl
    (is ∙ ap (λ (l : List OutgoingRow). option_map_or (row_answer v rows k t) (nth l p) answers.Ended) payments_are)

pub incoming_there : (history : List Entry) (rows : List Incoming) (p : ℕ) (row : OutgoingRow) → AreIncomings history rows → IsPlacedIn history → outgoing_row history p ≡ Some row → has_row rows row.terms.incoming ≡ true
incoming_there history rows p row are placed at =
    sym (some_map (λ (x : Incoming). x.row) (nth rows row.terms.incoming))
    ∙ ap is_some (sym (row_at history rows row.terms.incoming are)) ∙ (placed.payments p row at).incoming
