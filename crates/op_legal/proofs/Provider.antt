-- The provider's other requests: rates, decisions, cancelling.
use Rattle.std.proofs.Common.{◌≡◌, ℕ, List, refl, ◌∙◌, sym, ap, Some, None}
use Rattle.std.specs.Prelude.{◌==◌, not, IsTrue, Ok}
use Rattle.std.specs.Option.{option_map, option_and_then}
use Rattle.std.specs.declared.option.Option.{Option}
use Rattle.op_amount.specs.declared.Asset.{Asset}
use Rattle.op_amount.specs.declared.Rate.{Rate}
use Rattle.op_model.specs.Answer.{act_for}
use Rattle.op_model.specs.AdminAnswers as admin
use Rattle.op_model.specs.GrantAnswers.{decide, is_pending}
use Rattle.op_model.specs.Grants.{grant_row}
use Rattle.op_model.specs.History.{asset_number}
use Rattle.op_model.specs.Payments.{outgoing_row, is_ended}
use Rattle.op_model.specs.Legal.{asset_named, asked_by, keeps_forms, no_verdict, word_of, fee_of}
use Rattle.op_model.specs.declared.act.Act.{Act}
use Rattle.op_model.specs.declared.act.Act.TheVariants as acts
use Rattle.op_model.specs.declared.act.Entry.{Entry}
use Rattle.op_model.specs.declared.act.FailReason.TheVariants.{Cancelled}
use Rattle.op_model.specs.declared.reply.Refusal.TheVariants.{NotFound, SameAsset, NotPending, AlreadyEnded}
use Rattle.op_model.specs.declared.request.Request.TheVariants as requests
use Rattle.op_model.specs.declared.request.Task.TheVariants.{Ask}
use Rattle.op_legal.proofs.Chains.{act_in, outcome_act, none_is_not, some_is, past_refusal, past_want}
use Rattle.op_legal.proofs.Names.{asset_found}
use Rattle.op_legal.proofs.Admin.{provider_spells}
use Rattle.op_legal.proofs.Tasks.{SpellsItself, spells}

pub set_rate_spells : (history : List Entry) (t : ℕ) (source target : Asset) (rate : Rate) (act : Act) → IsTrue (keeps_forms (requests.SetRate source target rate)) → act_in (admin.set_rate history source target rate) ≡ Some act → SpellsItself history t act
set_rate_spells history t source target rate act forms made =
    let one = past_want (asset_number history source) NotFound _ act made in
    let two = past_want (asset_number history target) NotFound _ act one.2 in
    let past = past_refusal (one.0 == two.0) SameAsset (λ _. Ok (Some (acts.RateSet one.0 two.0 rate.num rate.den))) act two.2 in
    provider_spells history t (requests.SetRate source target rate) (admin.set_rate history source target rate) act (λ word fee verdict. refl) tt
    (sym (ap (asked_by history) (some_is (acts.RateSet one.0 two.0 rate.num rate.den) act past.1))
    ∙ ap (λ (a : Asset). Ask (requests.SetRate a (asset_named history two.0) rate) no_verdict) (asset_found history source one.0 one.1)
    ∙ ap (λ (a : Asset). Ask (requests.SetRate source a rate) no_verdict) (asset_found history target two.0 two.1))
    forms made

-- the number that an act was made of
record IsMadeOf (act_of : ℕ → Act) (n : Option ℕ) (act : Act) : Type 0 where
  number : ℕ
  there : n ≡ Some number
  is : act_of number ≡ act

made_of : (act_of : ℕ → Act) (n : Option ℕ) (act : Act) → option_map act_of n ≡ Some act → IsMadeOf act_of n act
made_of act_of None act h = none_is_not act h
made_of act_of (Some k) act h = record { number = k; there = refl; is = some_is (act_of k) act h }

pub accept_spells : (history : List Entry) (t : ℕ) (word : List ℕ) (grant : Option ℕ) (act : Act) → act_in (decide history (λ g. acts.GrantAccepted g word) grant) ≡ Some act → SpellsItself history t act
accept_spells history t word grant act made =
    let row = past_want (option_and_then (grant_row history) grant) NotFound _ act made in
    let past = past_refusal (not (is_pending row.0.state)) NotPending (λ _. Ok (option_map (λ g. acts.GrantAccepted g word) grant)) act row.2 in
    let is = made_of (λ g. acts.GrantAccepted g word) grant act past.1 in
    let task : asked_by history act ≡ Ask (requests.AcceptGrant grant) no_verdict =
    sym (ap (asked_by history) is.is) ∙ ap (λ (g : Option ℕ). Ask (requests.AcceptGrant g) no_verdict) (sym is.there) in
    let drawn : word_of act ≡ word = sym (ap word_of is.is) in
    spells history t (Ask (requests.AcceptGrant grant) no_verdict) act task refl tt
    (outcome_act history t (requests.AcceptGrant grant) no_verdict (act_for history t (word_of act) (fee_of act) (requests.AcceptGrant grant) no_verdict)
    ∙ ap (λ (w : List ℕ). act_in (decide history (λ g. acts.GrantAccepted g w) grant)) drawn ∙ made)

pub reject_spells : (history : List Entry) (t : ℕ) (word : List ℕ) (grant : Option ℕ) (act : Act) → act_in (decide history (λ g. acts.GrantRejected g word) grant) ≡ Some act → SpellsItself history t act
reject_spells history t word grant act made =
    let row = past_want (option_and_then (grant_row history) grant) NotFound _ act made in
    let past = past_refusal (not (is_pending row.0.state)) NotPending (λ _. Ok (option_map (λ g. acts.GrantRejected g word) grant)) act row.2 in
    let is = made_of (λ g. acts.GrantRejected g word) grant act past.1 in
    let task : asked_by history act ≡ Ask (requests.RejectGrant grant) no_verdict =
    sym (ap (asked_by history) is.is) ∙ ap (λ (g : Option ℕ). Ask (requests.RejectGrant g) no_verdict) (sym is.there) in
    let drawn : word_of act ≡ word = sym (ap word_of is.is) in
    spells history t (Ask (requests.RejectGrant grant) no_verdict) act task refl tt
    (outcome_act history t (requests.RejectGrant grant) no_verdict (act_for history t (word_of act) (fee_of act) (requests.RejectGrant grant) no_verdict)
    ∙ ap (λ (w : List ℕ). act_in (decide history (λ g. acts.GrantRejected g w) grant)) drawn ∙ made)

pub cancel_payment_spells : (history : List Entry) (t : ℕ) (payment : Option ℕ) (act : Act) → act_in (admin.cancel_outgoing history payment) ≡ Some act → SpellsItself history t act
cancel_payment_spells history t payment act made =
    let row = past_want (option_and_then (outgoing_row history) payment) NotFound _ act made in
    let past = past_refusal (is_ended row.0.state) AlreadyEnded (λ _. Ok (option_map (λ n. acts.OutgoingFailed n row.0.step Cancelled) payment)) act row.2 in
    let is = made_of (λ n. acts.OutgoingFailed n row.0.step Cancelled) payment act past.1 in
    provider_spells history t (requests.CancelOutgoing payment) (admin.cancel_outgoing history payment) act (λ word fee verdict. refl) tt
    (sym (ap (asked_by history) is.is) ∙ ap (λ (p : Option ℕ). Ask (requests.CancelOutgoing p) no_verdict) (sym is.there)) refl made
