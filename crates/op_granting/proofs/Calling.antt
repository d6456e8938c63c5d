-- The call that fits an entry that may follow is not refused.
use Rattle.std.proofs.Common.{◌≡◌, ℕ, Bool, true, false, cond, ◌||◌, ◌&&◌, List, [], map, refl, ◌∙◌, sym, ap, subst, Some, None, Ok, Err, Option}
use Rattle.std.proofs.lemmas.Slice.Eq.{bytes_eq-Decides}
use Rattle.std.specs.Prelude.{not, is_some, is_none}
use Rattle.std.specs.List.{list_any}
use Rattle.std.specs.Option.{option_map, option_map_or, option_and_then}
use Rattle.std.specs.Str.{bytes_eq}
use Rattle.std.specs.declared.result.Result.{Result}
use Rattle.op_model.specs.Access.{is_same_client}
use Rattle.op_model.specs.Asking.{refuse_if, ◌>>=◌}
use Rattle.op_model.specs.GrantAnswers.{ask_grant, items_asked, is_strange_item, is_redirect, finish_kept, grant_act, decide, is_pending, is_issued, is_rejected, continuation_refusals, continue_grant, holds_continuation}
use Rattle.op_model.specs.Grants.{grants, grant_row, is_outgoing, is_cancelled, is_secret, current_token}
use Rattle.op_model.specs.History.{nth}
use Rattle.op_model.specs.Legal.{IsNext, grant_verdict, no_verdict, client_verdict, item_spelled, interact_spelled, reference_spelled, reference_told}
use Rattle.op_model.specs.declared.act.Act.{Act}
use Rattle.op_model.specs.declared.act.Act.TheVariants as acts
use Rattle.op_model.specs.declared.act.Entry.{Entry}
use Rattle.op_model.specs.declared.grant.Finish.{Finish}
use Rattle.op_model.specs.declared.grant.Interact.{Interact}
use Rattle.op_model.specs.declared.grant.Interact.TheVariants.{Missing, Redirect}
use Rattle.op_model.specs.declared.grant.Item.{Item}
use Rattle.op_model.specs.declared.reply.Refusal.{Refusal}
use Rattle.op_model.specs.declared.reply.Refusal.TheVariants as refusals
use Rattle.op_model.specs.declared.request.AskedItem.{AskedItem}
use Rattle.op_model.specs.declared.request.Request.TheVariants as requests
use Rattle.op_model.specs.declared.request.Verdict.{Verdict}
use Rattle.op_model.specs.declared.row.GrantRow.{GrantRow}
use Rattle.op_grant.specs.Rows.{ask_fault, decide_answer, proceed_answer, proceeded_by, cancel_answer}
use Rattle.op_grant.specs.Value.{GrantsValue}
use Rattle.op_grant.specs.declared.fault.GrantFault.{GrantFault}
use Rattle.op_grant.specs.declared.fault.GrantFault.TheVariants as faults
use Rattle.op_grant.specs.declared.fault.Proceeded.{Proceeded}
use Rattle.op_grant.specs.declared.fault.Proceeded.TheVariants as proceeded
use Rattle.op_legal.proofs.Chains.{act_in, some_is, past_refusal, past_want, past_step}
use Rattle.op_legal.proofs.Names.{not_false}
use Rattle.op_granting.specs.Models.{decided_act}
use Rattle.op_granting.specs.Calls.{asked_of, CanAsk, told_reference, HasRow, HasToken, CallsFit}
use Rattle.op_granting.proofs.Readable.{asked_readable}
use Rattle.op_granting.proofs.Waiting.{spelled, called, token_there}

left_false : (a b : Bool) → (a || b) ≡ false → a ≡ false
left_false true b h = absurd (let e : true ≡ false = h in cc)
left_false false b h = refl

right_false : (a b : Bool) → (a || b) ≡ false → b ≡ false
right_false true b h = absurd (let e : true ≡ false = h in cc)
right_false false b h = h

same_bytes : (text : List ℕ) → bytes_eq text text ≡ true
same_bytes text = (bytes_eq-Decides text text).1 refl

row_in : (value : GrantsValue) (history : List Entry) (n : ℕ) (row : GrantRow) → value.rows ≡ grants history → grant_row history n ≡ Some row → nth value.rows n ≡ Some row
row_in value history n row same found = ap (λ (rows : List GrantRow). nth rows n) same ∙ found

-- ---- asking

abbrev asked_items_of : Act → List Item
asked_items_of (acts.GrantAsked client items finish word) = items
asked_items_of _ = []

abbrev asked_finish_of : Act → Option Finish
asked_finish_of (acts.GrantAsked client items finish word) = finish
asked_finish_of _ = None

no_fault : (b : Bool) (items : List Item) (finish : Option Finish) → list_any is_outgoing items ≡ b → ask_fault (asked_of [] items finish) ≡ None
no_fault true items finish is =
    let interact : is_redirect (interact_spelled items finish) ≡ true = ap (λ b. is_redirect (cond (not b) Missing (Redirect finish))) is in
    let passes : (list_any is_outgoing items && not (is_redirect (interact_spelled items finish))) ≡ false = ap (λ b. list_any is_outgoing items && not b) interact ∙ ap (λ b. b && false) is in
    ap (λ b. cond b (Some faults.InvalidInteraction) None) passes
no_fault false items finish is =
    let passes : (list_any is_outgoing items && not (is_redirect (interact_spelled items finish))) ≡ false = ap (λ b. b && not (is_redirect (interact_spelled items finish))) is in
    ap (λ b. cond b (Some faults.InvalidInteraction) None) passes

made_act : (history : List Entry) (word : List ℕ) (told : List AskedItem) (client : Option (List ℕ)) (interact : Interact) (verdict : Verdict) (act : Act) → act_in (ask_grant history word told client interact verdict) ≡ Some act
    → (name : List ℕ) × (client ≡ Some name) × (grant_act (items_asked history told) interact word name ≡ act)
made_act history word told client interact verdict act made =
    let proof = past_refusal (not (verdict.proved && is_some verdict.client)) refusals.InvalidClient _ act made in
    let name = past_want client refusals.InvalidClient _ act proof.1 in
    let own = past_refusal (not (is_same_client verdict.client name.0)) refusals.InvalidClient _ act name.2 in
    let passing = past_refusal (list_any is_outgoing (items_asked history told) && not (is_redirect interact)) refusals.InvalidInteraction _ act own.1 in
    let known = past_refusal (list_any (is_strange_item history) told) refusals.RequestDenied (λ _. Ok (Some (grant_act (items_asked history told) interact word name.0))) act passing.1 in
    (name.0, name.1, some_is (grant_act (items_asked history told) interact word name.0) act known.1)

asked : (history : List Entry) (t : ℕ) (client : List ℕ) (items : List Item) (finish : Option Finish) (word : List ℕ) → IsNext history (record { at = t; act = acts.GrantAsked client items finish word })
    → CanAsk (asked_of client items finish) (acts.GrantAsked client items finish word) word
asked history t client items finish word next =
    let act = acts.GrantAsked client items finish word in
    let verdict = client_verdict client in
    let interact = interact_spelled items finish in
    let told : List AskedItem = map (item_spelled history) items in
    let made = spelled history (record { at = t; act = act }) (requests.AskGrant told (Some client) interact) verdict refl next in
    let found = made_act history word told (Some client) interact verdict act made in
    let is : grant_act (items_asked history told) interact word found.0 ≡ act = found.2 in
    let same : items_asked history told ≡ items = ap asked_items_of is in
    let kept : finish_kept items interact ≡ finish = ap (λ (i : List Item). finish_kept i interact) (sym same) ∙ ap asked_finish_of is in
    record { passes = no_fault (list_any is_outgoing items) items finish refl; readable = asked_readable history t client items finish word next; fits = ap (λ (f : Option Finish). acts.GrantAsked client items f word) kept }

-- ---- deciding

decided_by : (value : GrantsValue) (history : List Entry) (n : ℕ) (act_of : ℕ → Act) (act : Act) → value.rows ≡ grants history → act_in (decide history act_of (Some n)) ≡ Some act → HasRow value n (λ row. decide_answer row ≡ Ok tt)
decided_by value history n act_of act same made =
    let row = past_want (grant_row history n) refusals.NotFound _ act made in
    let past = past_refusal (not (is_pending row.0.state)) refusals.NotPending (λ _. Ok (Some (act_of n))) act row.2 in
    record { row = row.0; there = row_in value history n row.0 same row.1; passes = ap (λ b. let r : Result (Unit {0}) GrantFault = cond b (Ok tt) (Err faults.NotPending) in r) (not_false (is_pending row.0.state) past.0) }

decided : (value : GrantsValue) (history : List Entry) (t n : ℕ) (accept : Bool) (word : List ℕ) → value.rows ≡ grants history → IsNext history (record { at = t; act = decided_act accept n word }) → HasRow value n (λ row. decide_answer row ≡ Ok tt)
decided value history t n true word same next =
    let act = acts.GrantAccepted n word in
    decided_by value history n (λ g. acts.GrantAccepted g word) act same (spelled history (record { at = t; act = act }) (requests.AcceptGrant (Some n)) no_verdict refl next)
decided value history t n false word same next =
    let act = acts.GrantRejected n word in
    decided_by value history n (λ g. acts.GrantRejected g word) act same (spelled history (record { at = t; act = act }) (requests.RejectGrant (Some n)) no_verdict refl next)

-- ---- continuing

abbrev Passed : ℕ → GrantRow → Option (Option (List ℕ)) → Type 0
Passed t row reference = continuation_refusals t row reference ≡ Ok tt

record GoesOn (history : List Entry) (t : ℕ) (g : ℕ) (reference : Option (Option (List ℕ))) (word : List ℕ) (act : Act) : Type 0 where
  row : GrantRow
  found : grant_row history g ≡ Some row
  stands : is_cancelled row.state ≡ false
  waits : is_issued row.state ≡ false
  passed : Passed t row reference
  made : (n : ℕ) × (cond (is_pending row.state) (acts.GrantPolled n) (acts.GrantContinued n word) ≡ act)

goes_on : (history : List Entry) (t g : ℕ) (reference : Option (Option (List ℕ))) (word : List ℕ) (act : Act) → act_in (continue_grant history t word (Some g) reference (grant_verdict history g (λ row. Some row.continuation))) ≡ Some act → GoesOn history t g reference word act
goes_on history t g reference word act made =
    let verdict = grant_verdict history g (λ row. Some row.continuation) in
    let is = called history verdict g refusals.InvalidContinuation _ act made in
    let row = is.who.row in
    let held = past_refusal (is_cancelled row.state || (is_issued row.state || not (holds_continuation verdict row))) refusals.InvalidContinuation _ act is.made in
    let passed = past_step (continuation_refusals t row reference) (λ _. Ok (Some (cond (is_pending row.state) (acts.GrantPolled is.who.grant) (acts.GrantContinued is.who.grant word)))) act held.1 in
    record {
      row = row;
      found = is.row;
      stands = left_false (is_cancelled row.state) (is_issued row.state || not (holds_continuation verdict row)) held.0;
      waits = left_false (is_issued row.state) (not (holds_continuation verdict row)) (right_false (is_cancelled row.state) (is_issued row.state || not (holds_continuation verdict row)) held.0);
      passed = passed.1;
      made = (is.who.grant, some_is (cond (is_pending row.state) (acts.GrantPolled is.who.grant) (acts.GrantContinued is.who.grant word)) act passed.2);
    }

abbrev is_poll : Act → Bool
is_poll (acts.GrantPolled n) = true
is_poll _ = false

poll_is : (b : Bool) (n : ℕ) (word : List ℕ) → is_poll (cond b (acts.GrantPolled n) (acts.GrantContinued n word)) ≡ b
poll_is true n word = refl
poll_is false n word = refl

answered : (t : ℕ) (reference : Option (List ℕ)) (row : GrantRow) (b : Bool) → is_cancelled row.state ≡ false → is_issued row.state ≡ false → continuation_refusals t row (option_map (λ r. Some r) reference) ≡ Ok tt → is_pending row.state ≡ b
    → proceed_answer t row.continuation reference row ≡ Ok (cond b proceeded.Polled proceeded.Issued)
answered t reference row b stands waits passed pending =
    let refused : Result Proceeded GrantFault = Err faults.InvalidContinuation in
    let rest = continuation_refusals t row (option_map (λ r. Some r) reference) in
    let answer : Bool → Proceeded = λ c. cond c proceeded.Polled proceeded.Issued in
    let held : is_secret (Some row.continuation) row.continuation ≡ true = same_bytes row.continuation in
    let fails : (is_cancelled row.state || (is_issued row.state || not (is_secret (Some row.continuation) row.continuation))) ≡ false =
    ap (λ c. is_cancelled row.state || (is_issued row.state || not c)) held ∙ ap (λ c. is_cancelled row.state || (c || false)) waits ∙ ap (λ c. c || false) stands in
    ap (λ c. cond c refused (proceeded_by (answer (is_pending row.state)) rest)) fails
    ∙ ap (λ r. proceeded_by (answer (is_pending row.state)) r) passed
    ∙ ap (λ c. let r : Result Proceeded GrantFault = Ok (answer c) in r) pending

polled : (value : GrantsValue) (history : List Entry) (t n : ℕ) → value.rows ≡ grants history → IsNext history (record { at = t; act = acts.GrantPolled n }) → HasRow value n (λ row. proceed_answer t row.continuation None row ≡ Ok proceeded.Polled)
polled value history t n same next =
    let act = acts.GrantPolled n in
    let on = goes_on history t n None [] act (spelled history (record { at = t; act = act }) (requests.ContinueGrant (Some n) None) (grant_verdict history n (λ row. Some row.continuation)) refl next) in
    let pending : is_pending on.row.state ≡ true = sym (poll_is (is_pending on.row.state) on.made.0 []) ∙ ap is_poll on.made.1 in
    record { row = on.row; there = row_in value history n on.row same on.found; passes = answered t None on.row true on.stands on.waits on.passed pending }

-- the third refusal did not come
third_passed : (a b c : Bool) (one two three : Refusal) (rest : Result (Unit {0}) Refusal) → (refuse_if a one >>= λ p. refuse_if b two >>= λ q. refuse_if c three >>= λ r. rest) ≡ Ok tt → c ≡ false
third_passed true b c one two three rest h = absurd (let r : Result (Unit {0}) Refusal = Err one in let e : r ≡ Ok tt = h in cc)
third_passed false true c one two three rest h = absurd (let r : Result (Unit {0}) Refusal = Err two in let e : r ≡ Ok tt = h in cc)
third_passed false false true one two three rest h = absurd (let r : Result (Unit {0}) Refusal = Err three in let e : r ≡ Ok tt = h in cc)
third_passed false false false one two three rest h = refl

-- the reference that was told is one that was drawn
reference_by : (t : ℕ) (row : GrantRow) (finish : Option Finish) (reference : Option (List ℕ)) → row.finish ≡ finish → row.reference ≡ reference → continuation_refusals t row (option_map (λ f. reference) finish) ≡ Ok tt
    → option_map (λ f. reference) finish ≡ option_map (λ r. Some r) (option_and_then (λ f. reference) finish)
reference_by t row None reference is drawn passed = refl
reference_by t row (Some f) (Some r) is drawn passed = refl
reference_by t row (Some f) None is drawn passed =
    let third = third_passed (is_rejected row.state) false (is_none row.finish || true) refusals.UserDenied refusals.TooFast refusals.InvalidInteraction
    (refuse_if (not (is_pending row.state) && (is_some row.finish && false)) refusals.InvalidInteraction) passed in
    absurd (let e : true ≡ false = right_false (is_none row.finish) true third in cc)

continued : (value : GrantsValue) (history : List Entry) (t n : ℕ) (word : List ℕ) → value.rows ≡ grants history → IsNext history (record { at = t; act = acts.GrantContinued n word })
    → HasRow value n (λ row. proceed_answer t row.continuation (told_reference row) row ≡ Ok proceeded.Issued)
continued value history t n word same next =
    let act = acts.GrantContinued n word in
    let on = goes_on history t n (reference_spelled history n) word act (spelled history (record { at = t; act = act }) (requests.ContinueGrant (Some n) (reference_spelled history n)) (grant_verdict history n (λ row. Some row.continuation)) refl next) in
    let told : reference_spelled history n ≡ reference_told on.row = ap (option_and_then reference_told) on.found in
    let passed : Passed t on.row (reference_told on.row) = subst (Passed t on.row) told on.passed in
    let also = reference_by t on.row on.row.finish on.row.reference refl refl passed in
    let pending : is_pending on.row.state ≡ false = sym (poll_is (is_pending on.row.state) on.made.0 word) ∙ ap is_poll on.made.1 in
    record { row = on.row; there = row_in value history n on.row same on.found; passes = answered t (told_reference on.row) on.row false on.stands on.waits (subst (Passed t on.row) also passed) pending }

-- ---- cancelling

cancelled : (value : GrantsValue) (history : List Entry) (t n : ℕ) → value.rows ≡ grants history → IsNext history (record { at = t; act = acts.GrantCancelled n }) → HasRow value n (λ row. cancel_answer row.continuation row ≡ Ok tt)
cancelled value history t n same next =
    let act = acts.GrantCancelled n in
    let verdict = grant_verdict history n (λ row. Some row.continuation) in
    let made = spelled history (record { at = t; act = act }) (requests.CancelGrant (Some n)) verdict refl next in
    let is = called history verdict n refusals.InvalidContinuation _ act made in
    let row = is.who.row in
    let held = past_refusal (is_cancelled row.state || not (holds_continuation verdict row)) refusals.InvalidContinuation _ act is.made in
    let stands = left_false (is_cancelled row.state) (not (holds_continuation verdict row)) held.0 in
    let fails : (is_cancelled row.state || not (is_secret (Some row.continuation) row.continuation)) ≡ false = ap (λ c. is_cancelled row.state || not c) (same_bytes row.continuation) ∙ ap (λ c. c || false) stands in
    record { row = row; there = row_in value history n row same is.row; passes = ap (λ c. let r : Result (Unit {0}) GrantFault = cond c (Err faults.InvalidContinuation) (Ok tt) in r) fails }

-- ---- rotating and revoking

some_of : (o : Option (List ℕ)) → is_some o ≡ true → (x : List ℕ) × (o ≡ Some x)
some_of None h = absurd (let e : false ≡ true = h in cc)
some_of (Some x) h = (x, refl)

token_of : (row : GrantRow) → is_some (current_token row) ≡ true → HasToken row
token_of row h =
    let x = some_of (current_token row) h in
    let own : is_secret (current_token row) x.0 ≡ true = ap (λ (o : Option (List ℕ)). is_secret o x.0) x.1 ∙ same_bytes x.0 in
    record { token = x.0; current = x.1; answer = ap (λ c. let r : Result (Unit {0}) GrantFault = cond c (Ok tt) (Err faults.InvalidToken) in r) own }

rotated : (value : GrantsValue) (history : List Entry) (t n : ℕ) (word : List ℕ) → value.rows ≡ grants history → IsNext history (record { at = t; act = acts.TokenRotated n word }) → HasRow value n HasToken
rotated value history t n word same next =
    let act = acts.TokenRotated n word in
    let verdict = grant_verdict history n current_token in
    let made = spelled history (record { at = t; act = act }) (requests.RotateToken (Some n)) verdict refl next in
    let is = called history verdict n refusals.InvalidToken _ act made in
    let token = past_refusal (not (option_map_or (is_secret (current_token is.who.row)) verdict.token false)) refusals.InvalidToken _ act is.made in
    record { row = is.who.row; there = row_in value history n is.who.row same is.row; passes = token_of is.who.row (token_there (current_token is.who.row) verdict.token token.0) }

revoked : (value : GrantsValue) (history : List Entry) (t n : ℕ) → value.rows ≡ grants history → IsNext history (record { at = t; act = acts.TokenRevoked n }) → HasRow value n HasToken
revoked value history t n same next =
    let act = acts.TokenRevoked n in
    let verdict = grant_verdict history n current_token in
    let made = spelled history (record { at = t; act = act }) (requests.RevokeToken (Some n)) verdict refl next in
    let is = called history verdict n refusals.InvalidToken _ act made in
    let token = past_refusal (not (option_map_or (is_secret (current_token is.who.row)) verdict.token false)) refusals.InvalidToken _ act is.made in
    record { row = is.who.row; there = row_in value history n is.who.row same is.row; passes = token_of is.who.row (token_there (current_token is.who.row) verdict.token token.0) }

pub fit : CallsFit
fit = record { asked = asked; decided = decided; polled = polled; continued = continued; cancelled = cancelled; rotated = rotated; revoked = revoked }
