-- Continuations: the entry spells the request with the continuation token, and with the reference that was drawn.
use Rattle.std.proofs.Common.{◌≡◌, ℕ, zero, suc, ◌+◌, Bool, true, false, cond, ◌&&◌, ◌||◌, List, [], ◌∷◌, refl, ◌∙◌, sym, ap, subst, arith, Some, None, map}
use Rattle.std.specs.Prelude.{not, nat_lt, Ok, Err, is_some, is_none, slice_get}
use Rattle.std.specs.List.{filter_map, list_any, enumerate_from}
use Rattle.std.specs.Option.{option_map, option_map_or, option_and_then}
use Rattle.std.specs.declared.option.Option.{Option}
use Rattle.op_model.specs.Answer.{act_for}
use Rattle.op_model.specs.Asking.{refuse_if, Caller, caller_with, own_grant, is_own}
use Rattle.op_model.specs.GrantAnswers.{continue_grant, cancel_grant, continuation_refusals, is_pending, is_issued, is_rejected, holds_continuation, is_wrong_reference, poll_wait}
use Rattle.op_model.specs.Grants.{Draw, GrantMade, grants_made, grant_row, grant_so_far, grant_state, has_act, is_accepting, is_rejecting, is_continuing, is_cancelling, is_immediate, reference_word, reference_text, draw_at, is_secret, is_cancelled}
use Rattle.op_model.specs.History.{last}
use Rattle.op_model.specs.Legal.{asked_by, grant_verdict, reference_spelled, reference_told, word_of, fee_of}
use Rattle.op_model.specs.declared.act.Act.{Act}
use Rattle.op_model.specs.declared.act.Act.TheVariants as acts
use Rattle.op_model.specs.declared.act.Entry.{Entry}
use Rattle.op_model.specs.declared.grant.Finish.{Finish}
use Rattle.op_model.specs.declared.reply.Refusal.{Refusal}
use Rattle.op_model.specs.declared.reply.Refusal.TheVariants.{InvalidClient, InvalidContinuation, InvalidInteraction, UserDenied, TooFast}
use Rattle.op_model.specs.declared.request.Request.TheVariants as requests
use Rattle.op_model.specs.declared.request.Task.TheVariants.{Ask}
use Rattle.op_model.specs.declared.request.Verdict.{Verdict}
use Rattle.op_model.specs.declared.row.GrantRow.{GrantRow}
use Rattle.op_model.specs.declared.row.GrantState.TheVariants as states
use Rattle.op_legal.proofs.Chains.{act_in, outcome_act, none_is_not, some_is, past_refusal, past_step, within_want, within_refusal}
use Rattle.op_legal.proofs.Names.{both_left, not_false, bytes_are}
use Rattle.op_legal.proofs.Tokens.{caller_found, token_is, verdict_is}
use Rattle.op_legal.proofs.Tasks.{SpellsItself, spells}

-- ---- a grant's own client with its continuation token

held_is : (text : List ℕ) (token : Option (List ℕ)) → is_secret token text ≡ true → token ≡ Some text
held_is text None h = absurd (let e : false ≡ true = h in cc)
held_is text (Some s) h = ap (λ (x : List ℕ). Some x) (bytes_are s text h)

either_false : (a b : Bool) → (a || b) ≡ false → (a ≡ false) × (b ≡ false)
either_false true b h = absurd (let e : true ≡ false = h in cc)
either_false false b h = (refl, h)

record IsHolder (history : List Entry) (verdict : Verdict) (g : Option ℕ) (who : Caller) : Type 0 where
  grant_is : g ≡ Some who.grant
  row : grant_row history who.grant ≡ Some who.row
  passed : verdict.proved ≡ true
  own : is_own verdict who.row ≡ true

holder_of : (history : List Entry) (verdict : Verdict) (g : Option ℕ) (who : Caller) → not (verdict.proved && is_some verdict.client) ≡ false → own_grant history verdict g InvalidContinuation ≡ Ok who → IsHolder history verdict g who
holder_of history verdict g who proof owns =
    let found = within_want (caller_with history g) InvalidContinuation _ who owns in
    let own = within_refusal (not (is_own verdict found.0.row)) InvalidContinuation _ who found.2 in
    let same : found.0 ≡ who = let e : Ok found.0 ≡ Ok who = own.1 in cc in
    let at = caller_found history g who (subst (λ (c : Caller). caller_with history g ≡ Some c) same found.1) in
    record {
      grant_is = at.0;
      row = at.1;
      passed = both_left verdict.proved (is_some verdict.client) (not_false (verdict.proved && is_some verdict.client) proof);
      own = subst (λ (c : Caller). is_own verdict c.row ≡ true) same (not_false (is_own verdict found.0.row) own.0);
    }

by_holder : (history : List Entry) (verdict : Verdict) (g : Option ℕ) (who : Caller) → IsHolder history verdict g who → holds_continuation verdict who.row ≡ true → grant_verdict history who.grant (λ row. Some row.continuation) ≡ verdict
by_holder history verdict g who is holds =
    verdict_is history who.grant who.row (λ row. Some row.continuation) verdict is.row is.passed is.own (held_is who.row.continuation verdict.token holds)

pub cancel_grant_spells : (history : List Entry) (t : ℕ) (grant : Option ℕ) (verdict : Verdict) (act : Act) → act_in (cancel_grant history grant verdict) ≡ Some act → SpellsItself history t act
cancel_grant_spells history t grant verdict act made =
    let proof = past_refusal (not (verdict.proved && is_some verdict.client)) InvalidClient _ act made in
    let who = past_step (own_grant history verdict grant InvalidContinuation) _ act proof.1 in
    let is = holder_of history verdict grant who.0 proof.0 who.1 in
    let past = past_refusal (is_cancelled who.0.row.state || not (holds_continuation verdict who.0.row)) InvalidContinuation (λ _. Ok (Some (acts.GrantCancelled who.0.grant))) act who.2 in
    let parts = either_false (is_cancelled who.0.row.state) (not (holds_continuation verdict who.0.row)) past.0 in
    let same = by_holder history verdict grant who.0 is (not_false (holds_continuation verdict who.0.row) parts.1) in
    let task : asked_by history act ≡ Ask (requests.CancelGrant grant) verdict =
    sym (ap (asked_by history) (some_is (acts.GrantCancelled who.0.grant) act past.1))
    ∙ ap (λ (v : Verdict). Ask (requests.CancelGrant (Some who.0.grant)) v) same
    ∙ ap (λ (g : Option ℕ). Ask (requests.CancelGrant g) verdict) (sym is.grant_is) in
    spells history t (Ask (requests.CancelGrant grant) verdict) act task refl tt
    (outcome_act history t (requests.CancelGrant grant) verdict (act_for history t (word_of act) (fee_of act) (requests.CancelGrant grant) verdict) ∙ made)

-- ---- a grant that is pending has no reference

record IsMade (history : List Entry) (g : ℕ) (row : GrantRow) : Type 0 where
  made : GrantMade
  is : row ≡ grant_so_far history (g, made)

made_from : (history : List Entry) (b : ℕ) (xs : List GrantMade) (i : ℕ) (row : GrantRow) → slice_get (map (grant_so_far history) (enumerate_from b xs)) i ≡ Some row → IsMade history (b + i) row
made_from history b [] i row h = none_is_not row h
made_from history b (x ∷ xs) zero row h =
    let number : b ≡ b + 0 = omega arith in
    record { made = x; is = sym (some_is (grant_so_far history (b, x)) row h) ∙ ap (λ (n : ℕ). grant_so_far history (n, x)) number }
made_from history b (x ∷ xs) (suc i) row h =
    let rest = made_from history (b + 1) xs i row h in
    let number : (b + 1) + i ≡ b + suc i = omega arith in
    record { made = rest.made; is = rest.is ∙ ap (λ (n : ℕ). grant_so_far history (n, rest.made)) number }

made_of : (history : List Entry) (g : ℕ) (row : GrantRow) → grant_row history g ≡ Some row → IsMade history g row
made_of history zero row h = none_is_not row h
made_of history (suc i) row h =
    let from = made_from history 1 (grants_made history) i row h in
    let number : 1 + i ≡ suc i = omega arith in
    record { made = from.made; is = from.is ∙ ap (λ (n : ℕ). grant_so_far history (n, from.made)) number }

no_word : (g : ℕ) (act : Act) → is_accepting g act ≡ false → is_rejecting g act ≡ false → reference_word g act ≡ None
no_word g (acts.GrantAccepted grant word) a r = rw a refl
no_word g (acts.GrantRejected grant word) a r = rw r refl
no_word g _ a r = refl

no_draws : (g b : ℕ) (history : List Entry) → list_any (λ (e : Entry). is_accepting g e.act) history ≡ false → list_any (λ (e : Entry). is_rejecting g e.act) history ≡ false → filter_map (λ ((place, e) : ℕ × Entry). option_map (draw_at place e.at) (reference_word g e.act)) (enumerate_from b history) ≡ []
no_draws g b [] a r = refl
no_draws g b (e ∷ es) a r =
    let accepts = either_false (is_accepting g e.act) (list_any (λ (f : Entry). is_accepting g f.act) es) a in
    let rejects = either_false (is_rejecting g e.act) (list_any (λ (f : Entry). is_rejecting g f.act) es) r in
    rw (no_word g e.act accepts.0 rejects.0) (no_draws g (b + 1) es accepts.1 rejects.1)

pending_where : (cancelled issued rejected accepted : Bool) → is_pending (cond cancelled states.Cancelled (cond issued states.Issued (cond rejected states.Rejected (cond accepted states.Accepted states.Pending)))) ≡ true → (rejected ≡ false) × (accepted ≡ false)
pending_where true i r a h = absurd (let e : false ≡ true = h in cc)
pending_where false true r a h = absurd (let e : false ≡ true = h in cc)
pending_where false false true a h = absurd (let e : false ≡ true = h in cc)
pending_where false false false true h = absurd (let e : false ≡ true = h in cc)
pending_where false false false false h = (refl, refl)

no_reference : (history : List Entry) (g : ℕ) (made : GrantMade) → is_pending (grant_state history g made) ≡ true → (grant_so_far history (g, made)).reference ≡ None
no_reference history g made h =
    let both = pending_where (has_act (is_cancelling g) history) (is_immediate made.items || has_act (is_continuing g) history) (has_act (is_rejecting g) history) (has_act (is_accepting g) history) h in
    ap (λ (l : List Draw). option_map reference_text (last l)) (no_draws g 1 history both.1 both.0)

pub pending_reference : (history : List Entry) (g : ℕ) (row : GrantRow) → grant_row history g ≡ Some row → is_pending row.state ≡ true → row.reference ≡ None
pending_reference history g row found pending =
    let made = made_of history g row found in
    ap (λ (r : GrantRow). r.reference) made.is ∙ no_reference history g made.made (ap (λ (r : GrantRow). is_pending r.state) (sym made.is) ∙ pending)

-- ---- the reference that was given

right_finish : (finish : Option Finish) (b : Bool) → (is_none finish || not b) ≡ false → (is_some finish ≡ true) × (b ≡ true)
right_finish None b h = absurd (let e : true ≡ false = h in cc)
right_finish (Some f) b h = (refl, not_false b h)

given_right : (row : GrantRow) (given : Option (List ℕ)) → is_wrong_reference row given ≡ false → (is_some row.finish ≡ true) × (given ≡ row.reference)
given_right row given h =
    let parts = right_finish row.finish (option_map_or (is_secret row.reference) given false) h in (parts.0, token_is row.reference given parts.1)

-- a reference that is none and is a secret
no_given : (row : GrantRow) (given : Option (List ℕ)) → row.reference ≡ None → option_map_or (is_secret row.reference) given false ≡ true → false ≡ true
no_given row None none h = h
no_given row (Some text) none h = ap (λ (r : Option (List ℕ)). is_secret r text) (sym none) ∙ h

polled_reference : (row : GrantRow) (reference : Option (Option (List ℕ))) → row.reference ≡ None → option_map_or (is_wrong_reference row) reference false ≡ false → reference ≡ None
polled_reference row None none right = refl
polled_reference row (Some given) none right =
    let parts = right_finish row.finish (option_map_or (is_secret row.reference) given false) right in
    absurd (let e : false ≡ true = no_given row given none parts.1 in cc)

told_where : (finish : Option Finish) (row : GrantRow) (reference : Option (Option (List ℕ))) → row.finish ≡ finish → option_map_or (is_wrong_reference row) reference false ≡ false → (is_some finish && is_none reference) ≡ false → option_map (λ (f : Finish). row.reference) finish ≡ reference
told_where None row None is right there = refl
told_where None row (Some given) is right there =
    let e : is_some row.finish ≡ true = (given_right row given right).0 in
    absurd (let f : false ≡ true = ap is_some (sym is) ∙ e in cc)
told_where (Some f) row None is right there = absurd (let e : true ≡ false = there in cc)
told_where (Some f) row (Some given) is right there = ap (λ (r : Option (List ℕ)). Some r) (sym (given_right row given right).1)

told_reference : (history : List Entry) (g : ℕ) (row : GrantRow) (reference : Option (Option (List ℕ))) → grant_row history g ≡ Some row → option_map_or (is_wrong_reference row) reference false ≡ false → (is_some row.finish && is_none reference) ≡ false → reference_spelled history g ≡ reference
told_reference history g row reference found right there =
    ap (λ (o : Option GrantRow). option_and_then reference_told o) found ∙ told_where row.finish row reference refl right there

-- ---- continuing

last_refusal : (holds : Bool) (refusal : Refusal) → refuse_if holds refusal ≡ Ok tt → holds ≡ false
last_refusal true refusal h = absurd (let e : Err refusal ≡ Ok tt = h in cc)
last_refusal false refusal h = refl

both_false : (a b : Bool) → (a && b) ≡ false → a ≡ true → b ≡ false
both_false true b h is = h
both_false false b h is = absurd (let e : false ≡ true = is in cc)

spelled_where : (pending : Bool) (history : List Entry) (t : ℕ) (word : List ℕ) (grant : Option ℕ) (reference : Option (Option (List ℕ))) (verdict : Verdict) (who : Caller) (act : Act) → is_pending who.row.state ≡ pending → IsHolder history verdict grant who → holds_continuation verdict who.row ≡ true
    → option_map_or (is_wrong_reference who.row) reference false ≡ false → (not (is_pending who.row.state) && (is_some who.row.finish && is_none reference)) ≡ false
    → Some (cond pending (acts.GrantPolled who.grant) (acts.GrantContinued who.grant word)) ≡ Some act → ((w : List ℕ) → act_in (continue_grant history t w grant reference verdict) ≡ Some (cond pending (acts.GrantPolled who.grant) (acts.GrantContinued who.grant w))) → SpellsItself history t act
spelled_where true history t word grant reference verdict who act pending is holds right there made answered =
    let same = by_holder history verdict grant who is holds in
    let none = polled_reference who.row reference (pending_reference history who.grant who.row is.row pending) right in
    let request = requests.ContinueGrant grant reference in
    let task : asked_by history act ≡ Ask request verdict =
    sym (ap (asked_by history) (some_is (acts.GrantPolled who.grant) act made))
    ∙ ap (λ (v : Verdict). Ask (requests.ContinueGrant (Some who.grant) None) v) same
    ∙ ap (λ (g : Option ℕ). Ask (requests.ContinueGrant g None) verdict) (sym is.grant_is)
    ∙ ap (λ (r : Option (Option (List ℕ))). Ask (requests.ContinueGrant grant r) verdict) (sym none) in
    spells history t (Ask request verdict) act task refl tt
    (outcome_act history t request verdict (act_for history t (word_of act) (fee_of act) request verdict) ∙ answered (word_of act) ∙ made)
spelled_where false history t word grant reference verdict who act pending is holds right there made answered =
    let same = by_holder history verdict grant who is holds in
    let drawn : word_of act ≡ word = sym (ap word_of (some_is (acts.GrantContinued who.grant word) act made)) in
    let told = told_reference history who.grant who.row reference is.row right (both_false (not (is_pending who.row.state)) (is_some who.row.finish && is_none reference) there (ap not pending)) in
    let request = requests.ContinueGrant grant reference in
    let task : asked_by history act ≡ Ask request verdict =
    sym (ap (asked_by history) (some_is (acts.GrantContinued who.grant word) act made))
    ∙ ap (λ (v : Verdict). Ask (requests.ContinueGrant (Some who.grant) (reference_spelled history who.grant)) v) same
    ∙ ap (λ (g : Option ℕ). Ask (requests.ContinueGrant g (reference_spelled history who.grant)) verdict) (sym is.grant_is)
    ∙ ap (λ (r : Option (Option (List ℕ))). Ask (requests.ContinueGrant grant r) verdict) told in
    spells history t (Ask request verdict) act task refl tt
    (outcome_act history t request verdict (act_for history t (word_of act) (fee_of act) request verdict)
    ∙ answered (word_of act) ∙ ap (λ (w : List ℕ). Some (acts.GrantContinued who.grant w)) drawn ∙ made)

continued_act : (history : List Entry) (t : ℕ) (word : List ℕ) (grant : Option ℕ) (reference : Option (Option (List ℕ))) (verdict : Verdict) (who : Caller) → not (verdict.proved && is_some verdict.client) ≡ false → own_grant history verdict grant InvalidContinuation ≡ Ok who
    → (is_cancelled who.row.state || (is_issued who.row.state || not (holds_continuation verdict who.row))) ≡ false → continuation_refusals t who.row reference ≡ Ok tt
    → act_in (continue_grant history t word grant reference verdict) ≡ Some (cond (is_pending who.row.state) (acts.GrantPolled who.grant) (acts.GrantContinued who.grant word))
continued_act history t word grant reference verdict who proof owns past lines = rw (proof, owns, past, lines) refl

pub continue_spells : (history : List Entry) (t : ℕ) (word : List ℕ) (grant : Option ℕ) (reference : Option (Option (List ℕ))) (verdict : Verdict) (act : Act) → act_in (continue_grant history t word grant reference verdict) ≡ Some act → SpellsItself history t act
continue_spells history t word grant reference verdict act made =
    let proof = past_refusal (not (verdict.proved && is_some verdict.client)) InvalidClient _ act made in
    let who = past_step (own_grant history verdict grant InvalidContinuation) _ act proof.1 in
    let row = who.0.row in
    let is = holder_of history verdict grant who.0 proof.0 who.1 in
    let past = past_refusal (is_cancelled row.state || (is_issued row.state || not (holds_continuation verdict row))) InvalidContinuation _ act who.2 in
    let parts = either_false (is_cancelled row.state) (is_issued row.state || not (holds_continuation verdict row)) past.0 in
    let more = either_false (is_issued row.state) (not (holds_continuation verdict row)) parts.1 in
    let lines = past_step (continuation_refusals t row reference) (λ _. Ok (Some (cond (is_pending row.state) (acts.GrantPolled who.0.grant) (acts.GrantContinued who.0.grant word)))) act past.1 in
    let one = within_refusal (is_rejected row.state) UserDenied _ lines.0 lines.1 in
    let two = within_refusal (is_none reference && nat_lt t (row.last + poll_wait)) TooFast _ lines.0 one.1 in
    let three = within_refusal (option_map_or (is_wrong_reference row) reference false) InvalidInteraction _ lines.0 two.1 in
    let four = last_refusal (not (is_pending row.state) && (is_some row.finish && is_none reference)) InvalidInteraction three.1 in
    spelled_where (is_pending row.state) history t word grant reference verdict who.0 act refl is (not_false (holds_continuation verdict row) more.1) three.0 four lines.2
    (λ w. continued_act history t w grant reference verdict who.0 proof.0 who.1 past.0 lines.1)
