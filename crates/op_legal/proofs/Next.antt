-- An act that is answered may follow.
use Rattle.std.proofs.Common.{◌≡◌, ℕ, List, ◌∙◌, sym, Some}
use Rattle.op_model.specs.Answer.{answer, act_for}
use Rattle.op_model.specs.declared.act.Act.{Act}
use Rattle.op_model.specs.declared.act.Entry.{Entry}
use Rattle.op_model.specs.declared.request.PaymentAsked.TheVariants.{Quoted, Direct}
use Rattle.op_model.specs.declared.request.Request.{Request}
use Rattle.op_model.specs.declared.request.Request.TheVariants as requests
use Rattle.op_model.specs.declared.request.Task.{Task}
use Rattle.op_model.specs.declared.request.Task.TheVariants.{Ask, Step, Expire, Attempt}
use Rattle.op_model.specs.declared.request.Verdict.{Verdict}
use Rattle.op_legal.specs.Keeps.{IsAsked, AnswersKeepLegal}
use Rattle.op_legal.proofs.Chains.{act_in, outcome_act}
use Rattle.op_legal.proofs.Tasks.{SpellsItself, step_spells, expire_spells, attempt_spells}
use Rattle.op_legal.proofs.Admin.{set_origin_spells, add_asset_spells, add_address_spells, deposit_spells, withdraw_spells}
use Rattle.op_legal.proofs.Tokens.{rotate_spells, revoke_spells}
use Rattle.op_legal.proofs.Provider.{set_rate_spells, accept_spells, reject_spells, cancel_payment_spells}
use Rattle.op_legal.proofs.Clients.{make_incoming_spells, complete_incoming_spells, pay_quote_spells}
use Rattle.op_legal.proofs.Readings.{reads_asset, reads_address, shows_address, reads_payment, lists_rows, reads_row}
use Rattle.op_legal.proofs.Continuing.{cancel_grant_spells, continue_spells}
use Rattle.op_legal.proofs.Quoting.{make_quote_spells, pay_directly_spells}
use Rattle.op_legal.proofs.AskingGrants.{ask_grant_spells}
use Rattle.std.specs.Option.{option_map, option_and_then}
use Rattle.op_model.specs.PaymentAnswers.{incoming_place, quote_place, outgoing_place}
use Rattle.op_model.specs.Payments.{incoming_row, quote_row, outgoing_row}

made_by : (history : List Entry) (t : ℕ) (word : List ℕ) (fee : ℕ) (request : Request) (verdict : Verdict) (act : Act) → (answer history t word fee (Ask request verdict)).act ≡ Some act → act_in (act_for history t word fee request verdict) ≡ Some act
made_by history t word fee request verdict act is = sym (outcome_act history t request verdict (act_for history t word fee request verdict)) ∙ is

request_spells : (history : List Entry) (t : ℕ) (word : List ℕ) (fee : ℕ) (request : Request) (verdict : Verdict) (act : Act) → IsAsked history t fee (Ask request verdict) → act_in (act_for history t word fee request verdict) ≡ Some act → SpellsItself history t act
request_spells history t word fee (requests.SetOrigin origin) verdict act a made = set_origin_spells history t origin act a.proper made
request_spells history t word fee (requests.AddAsset asset pieces) verdict act a made = add_asset_spells history t asset pieces act a.proper made
request_spells history t word fee (requests.InspectAsset asset) verdict act a made = reads_asset history asset act made
request_spells history t word fee (requests.AddAddress path asset name) verdict act a made = add_address_spells history t path asset name act a.proper made
request_spells history t word fee (requests.InspectAddress address) verdict act a made = reads_address history address act made
request_spells history t word fee (requests.Deposit id name amount) verdict act a made = deposit_spells history t id name amount act a.proper made
request_spells history t word fee (requests.Withdraw id name amount) verdict act a made = withdraw_spells history t id name amount act a.proper made
request_spells history t word fee (requests.SetRate source target rate) verdict act a made = set_rate_spells history t source target rate act a.proper made
request_spells history t word fee (requests.AcceptGrant grant) verdict act a made = accept_spells history t word grant act made
request_spells history t word fee (requests.RejectGrant grant) verdict act a made = reject_spells history t word grant act made
request_spells history t word fee (requests.InspectOutgoing payment) verdict act a made = reads_payment history payment act made
request_spells history t word fee (requests.CancelOutgoing payment) verdict act a made = cancel_payment_spells history t payment act made
request_spells history t word fee (requests.ReadAddress path) verdict act a made = shows_address history path act made
request_spells history t word fee (requests.AskGrant items client interact) verdict act a made = ask_grant_spells history t word items client interact verdict act a.proper made
request_spells history t word fee (requests.ContinueGrant grant reference) verdict act a made = continue_spells history t word grant reference verdict act made
request_spells history t word fee (requests.CancelGrant grant) verdict act a made = cancel_grant_spells history t grant verdict act made
request_spells history t word fee (requests.RotateToken grant) verdict act a made = rotate_spells history t word grant verdict act made
request_spells history t word fee (requests.RevokeToken grant) verdict act a made = revoke_spells history t grant verdict act made
request_spells history t word fee (requests.MakeIncoming address amount expiry metadata) verdict act a made = make_incoming_spells history t address amount expiry metadata verdict act a.proper made
request_spells history t word fee (requests.ListIncomings address first cursor) verdict act a made = lists_rows history t 1 address verdict act made
request_spells history t word fee (requests.ReadIncoming incoming) verdict act a made = reads_row history t 1 (option_map incoming_place (option_and_then (incoming_row history) incoming)) verdict act made
request_spells history t word fee (requests.CompleteIncoming incoming) verdict act a made = complete_incoming_spells history t incoming verdict act made
request_spells history t word fee (requests.MakeQuote address receiver asked) verdict act a made = make_quote_spells history t word fee address receiver asked verdict act a.proper a.charged made
request_spells history t word fee (requests.ReadQuote quote) verdict act a made = reads_row history t 2 (option_map quote_place (option_and_then (quote_row history) quote)) verdict act made
request_spells history t word fee (requests.MakeOutgoing address (Quoted quote) metadata) verdict act a made = pay_quote_spells history t address quote metadata verdict act a.proper made
request_spells history t word fee (requests.MakeOutgoing address (Direct receiver debit) metadata) verdict act a made = pay_directly_spells history t word fee address receiver debit metadata verdict act a.proper a.charged made
request_spells history t word fee (requests.ListOutgoings address first cursor) verdict act a made = lists_rows history t 3 address verdict act made
request_spells history t word fee (requests.ReadOutgoing outgoing) verdict act a made = reads_row history t 3 (option_map outgoing_place (option_and_then (outgoing_row history) outgoing)) verdict act made
request_spells history t word fee (requests.ReadFeed address page) verdict act a made = lists_rows history t 3 address verdict act made

task_spells : (history : List Entry) (t : ℕ) (word : List ℕ) (fee : ℕ) (task : Task) (act : Act) → IsAsked history t fee task → (answer history t word fee task).act ≡ Some act → SpellsItself history t act
task_spells history t word fee (Ask request verdict) act a made = request_spells history t word fee request verdict act a (made_by history t word fee request verdict act made)
task_spells history t word fee (Step payment k) act a made = step_spells history t word fee payment k act a.proper made
task_spells history t word fee (Expire incoming) act a made = expire_spells history t word fee incoming act a.proper made
task_spells history t word fee (Attempt event outcome) act a made = attempt_spells history t word fee event outcome act a.proper made

-- the entry of what is answered may follow
pub answered_next : AnswersKeepLegal
answered_next history t word fee task act a made =
    let own = task_spells history t word fee task act a made in
    record { later = a.later; limit = a.limit; proper = own.proper; fee = own.fee; act = own.again }
