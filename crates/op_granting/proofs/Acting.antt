-- What the calls for an act ask for, and answer.
use Rattle.std.proofs.Common.{◌≡◌, ℕ, Bool, true, false, cond, ◌||◌, List, ◌∙◌, sym, ap, subst, Some, None, Ok, Err, Option, IsTrue}
use Rattle.std.specs.Prelude.{is_some}
use Rattle.std.specs.Option.{option_map_or}
use Rattle.std.specs.declared.result.Result.{Result}
use Rattle.op_model.specs.Grants.{is_cancelled}
use Rattle.op_model.specs.History.{nth}
use Rattle.op_model.specs.declared.act.Act.TheVariants as acts
use Rattle.op_model.specs.declared.grant.Finish.{Finish}
use Rattle.op_model.specs.declared.grant.Item.{Item}
use Rattle.op_model.specs.declared.row.GrantRow.{GrantRow}
use Rattle.op_grant.specs.Rows.{at_row, decide_answer, proceed_answer, cancel_answer, token_answer}
use Rattle.op_grant.specs.Value.{GrantsValue, has_row}
use Rattle.op_grant.specs.declared.fault.GrantFault.{GrantFault}
use Rattle.op_grant.specs.declared.fault.GrantFault.TheVariants as faults
use Rattle.op_grant.specs.declared.fault.Proceeded.TheVariants as proceeded
use Rattle.op_granting.specs.Calls.{asked_of, told_reference, CanAsk, HasRow, HasToken}
use Rattle.op_granting.specs.Keeping.{MayTake}
use Rattle.op_granting.specs.Models.{decided_act}
use Rattle.op_granting.specs.declared.next.NextEntry.{NextEntry}
use Rattle.op_granting.proofs.Calling.{fit}

-- the row is there
pub row_there : (value : GrantsValue) (n : ℕ) (Passes : GrantRow → Type 0) → HasRow value n Passes → IsTrue (has_row value n)
row_there value n Passes is = ap is_some is.there

-- a call answers by the row
pub by_row : {X : Type 0} (answer : GrantRow → Result X GrantFault) (value : GrantsValue) (n : ℕ) (row : GrantRow) (r : Result X GrantFault) → nth value.rows n ≡ Some row → answer row ≡ r → at_row answer value n ≡ r
by_row answer value n row r there is = ap (λ (o : Option GrantRow). option_map_or answer o (Err faults.Memory)) there ∙ is

-- ---- asking

pub may_ask : (value : GrantsValue) (next : NextEntry) (client : List ℕ) (items : List Item) (finish : Option Finish) (word : List ℕ) → MayTake value next (acts.GrantAsked client items finish word) → CanAsk (asked_of client items finish) (acts.GrantAsked client items finish word) word
may_ask value next client items finish word may = fit.asked may.0 next.at client items finish word may.1.follows

-- ---- deciding

pub may_decide : (value : GrantsValue) (next : NextEntry) (n : ℕ) (accept : Bool) (word : List ℕ) → MayTake value next (decided_act accept n word) → HasRow value n (λ row. decide_answer row ≡ Ok tt)
may_decide value next n accept word may = fit.decided value may.0 next.at n accept word may.1.are.rows may.1.follows

pub decide_passes : (value : GrantsValue) (next : NextEntry) (n : ℕ) (accept : Bool) (word : List ℕ) → MayTake value next (decided_act accept n word) → at_row decide_answer value n ≡ Ok tt
decide_passes value next n accept word may = let is = may_decide value next n accept word may in by_row decide_answer value n is.row (Ok tt) is.there is.passes

-- ---- continuing

pub may_poll : (value : GrantsValue) (next : NextEntry) (n : ℕ) → MayTake value next (acts.GrantPolled n) → HasRow value n (λ row. proceed_answer next.at row.continuation None row ≡ Ok proceeded.Polled)
may_poll value next n may = fit.polled value may.0 next.at n may.1.are.rows may.1.follows

pub poll_passes : (value : GrantsValue) (next : NextEntry) (n : ℕ) (token : List ℕ) → MayTake value next (acts.GrantPolled n) → ((row : GrantRow) → nth value.rows n ≡ Some row → token ≡ row.continuation) → at_row (proceed_answer next.at token None) value n ≡ Ok proceeded.Polled
poll_passes value next n token may own =
    let is = may_poll value next n may in
    by_row (proceed_answer next.at token None) value n is.row (Ok proceeded.Polled) is.there (ap (λ k. proceed_answer next.at k None is.row) (own is.row is.there) ∙ is.passes)

pub may_continue : (value : GrantsValue) (next : NextEntry) (n : ℕ) (word : List ℕ) → MayTake value next (acts.GrantContinued n word) → HasRow value n (λ row. proceed_answer next.at row.continuation (told_reference row) row ≡ Ok proceeded.Issued)
may_continue value next n word may = fit.continued value may.0 next.at n word may.1.are.rows may.1.follows

pub continue_passes : (value : GrantsValue) (next : NextEntry) (n : ℕ) (word token : List ℕ) (reference : Option (List ℕ)) → MayTake value next (acts.GrantContinued n word) → ((row : GrantRow) → nth value.rows n ≡ Some row → token ≡ row.continuation)
    → ((row : GrantRow) → nth value.rows n ≡ Some row → reference ≡ told_reference row) → at_row (proceed_answer next.at token reference) value n ≡ Ok proceeded.Issued
continue_passes value next n word token reference may own told =
    let is = may_continue value next n word may in
    by_row (proceed_answer next.at token reference) value n is.row (Ok proceeded.Issued) is.there
    (ap (λ k. proceed_answer next.at k reference is.row) (own is.row is.there) ∙ ap (λ r. proceed_answer next.at is.row.continuation r is.row) (told is.row is.there) ∙ is.passes)

-- ---- cancelling

pub may_cancel : (value : GrantsValue) (next : NextEntry) (n : ℕ) → MayTake value next (acts.GrantCancelled n) → HasRow value n (λ row. cancel_answer row.continuation row ≡ Ok tt)
may_cancel value next n may = fit.cancelled value may.0 next.at n may.1.are.rows may.1.follows

pub cancel_passes : (value : GrantsValue) (next : NextEntry) (n : ℕ) (token : List ℕ) → MayTake value next (acts.GrantCancelled n) → ((row : GrantRow) → nth value.rows n ≡ Some row → token ≡ row.continuation) → at_row (cancel_answer token) value n ≡ Ok tt
cancel_passes value next n token may own =
    let is = may_cancel value next n may in
    by_row (cancel_answer token) value n is.row (Ok tt) is.there (ap (λ k. cancel_answer k is.row) (own is.row is.there) ∙ is.passes)

-- ---- rotating and revoking

pub may_rotate : (value : GrantsValue) (next : NextEntry) (n : ℕ) (word : List ℕ) → MayTake value next (acts.TokenRotated n word) → HasRow value n HasToken
may_rotate value next n word may = fit.rotated value may.0 next.at n word may.1.are.rows may.1.follows

pub may_revoke : (value : GrantsValue) (next : NextEntry) (n : ℕ) → MayTake value next (acts.TokenRevoked n) → HasRow value n HasToken
may_revoke value next n may = fit.revoked value may.0 next.at n may.1.are.rows may.1.follows

access_where : (b : Bool) (access : Option (List ℕ)) (token : List ℕ) → cond b None access ≡ Some token → access ≡ Some token
access_where true access token h = absurd (let e : None ≡ Some token = h in cc)
access_where false access token h = h

-- the current token is the access token
pub access_is : (row : GrantRow) (is : HasToken row) → row.access ≡ Some is.token
access_is row is = access_where (row.revoked || is_cancelled row.state) row.access is.token is.current

pub token_passes : (value : GrantsValue) (n : ℕ) (token : List ℕ) → HasRow value n HasToken → ((row : GrantRow) → nth value.rows n ≡ Some row → row.access ≡ Some token) → at_row (token_answer token) value n ≡ Ok tt
token_passes value n token is own =
    let current = is.passes in
    let same : current.token ≡ token = let e : Some current.token ≡ Some token = sym (access_is is.row current) ∙ own is.row is.there in cc in
    by_row (token_answer token) value n is.row (Ok tt) is.there (subst (λ k. token_answer k is.row ≡ Ok tt) same current.answer)

-- a row without a token is not the one
pub no_access : {P : Type 0} (value : GrantsValue) (n : ℕ) (row : GrantRow) → HasRow value n HasToken → nth value.rows n ≡ Some row → row.access ≡ None → P
no_access value n row is there none =
    let same : is.row ≡ row = let e : Some is.row ≡ Some row = sym is.there ∙ there in cc in
    let has = access_is is.row is.passes in
    absurd (let e : None ≡ Some is.passes.token = sym none ∙ ap (λ (r : GrantRow). r.access) (sym same) ∙ has in cc)

-- an answer that passes is no fault
pub no_fault : {X P : Type 0} (answer : Result X GrantFault) (x : X) (fault : GrantFault) → answer ≡ Ok x → Err fault ≡ answer → P
no_fault {X = X} answer x fault passes is = absurd (let r : Result X GrantFault = Err fault in let e : r ≡ Ok x = is ∙ passes in cc)
