-- Reads make no act.
use Rattle.std.proofs.Common.{◌≡◌, ℕ, ◌+◌, List, Some, None}
use Rattle.std.specs.Prelude.{Ok}
use Rattle.std.specs.Option.{option_and_then}
use Rattle.std.specs.declared.option.Option.{Option}
use Rattle.op_amount.specs.declared.Asset.{Asset}
use Rattle.op_names.specs.declared.AddressName.{AddressName}
use Rattle.op_model.specs.AdminAnswers as admin
use Rattle.op_model.specs.Asking.{caller, access, address_named}
use Rattle.op_model.specs.History.{nth, addresses, asset_number, path_number}
use Rattle.op_model.specs.Actions as actions
use Rattle.op_model.specs.PaymentAnswers.{list_rows, read_row, looks_at_address, looks_at_row}
use Rattle.op_model.specs.Payments.{outgoing_row}
use Rattle.op_model.specs.declared.act.Act.{Act}
use Rattle.op_model.specs.declared.act.Entry.{Entry}
use Rattle.op_model.specs.declared.reply.Refusal.TheVariants.{NotFound}
use Rattle.op_model.specs.declared.request.Verdict.{Verdict}
use Rattle.op_legal.proofs.Chains.{act_in, none_is_not, past_want, past_step}

pub reads_asset : {P : Type 0} (history : List Entry) (asset : Option Asset) (act : Act) → act_in (admin.inspect_asset history asset) ≡ Some act → P
reads_asset history asset act h = none_is_not act (past_want (option_and_then (asset_number history) asset) NotFound (λ _. Ok None) act h).2

pub reads_address : {P : Type 0} (history : List Entry) (n : Option ℕ) (act : Act) → act_in (admin.inspect_address history n) ≡ Some act → P
reads_address history n act h = none_is_not act (past_want (option_and_then (nth (addresses history)) n) NotFound (λ _. Ok None) act h).2

pub shows_address : {P : Type 0} (history : List Entry) (path : List ℕ) (act : Act) → act_in (admin.read_address history path) ≡ Some act → P
shows_address history path act h = none_is_not act (past_want (path_number history path) NotFound (λ _. Ok None) act h).2

pub reads_payment : {P : Type 0} (history : List Entry) (p : Option ℕ) (act : Act) → act_in (admin.inspect_outgoing history p) ≡ Some act → P
reads_payment history p act h = none_is_not act (past_want (option_and_then (outgoing_row history) p) NotFound (λ _. Ok None) act h).2

pub lists_rows : {P : Type 0} (history : List Entry) (t kind : ℕ) (name : Option AddressName) (verdict : Verdict) (act : Act) → act_in (list_rows history t kind name verdict) ≡ Some act → P
lists_rows history t kind name verdict act h =
    let who = past_step (caller history t verdict) _ act h in
    let may = past_step (access history t verdict who.0 (looks_at_address kind (actions.list + actions.list_all) (address_named history name))) _ act who.2 in
    none_is_not act (past_want (address_named history name) NotFound (λ _. Ok None) act may.2).2

pub reads_row : {P : Type 0} (history : List Entry) (t kind : ℕ) (row : Option (ℕ × ℕ)) (verdict : Verdict) (act : Act) → act_in (read_row history t kind row verdict) ≡ Some act → P
reads_row history t kind row verdict act h =
    let who = past_step (caller history t verdict) _ act h in
    let may = past_step (access history t verdict who.0 (looks_at_row history kind (actions.read + actions.read_all) actions.read_all row)) _ act who.2 in
    none_is_not act (past_want row NotFound (λ _. Ok None) act may.2).2
