-- Who may continue a grant.
use Rattle.std.proofs.Common.{◌≡◌, ℕ, Bool, true, false, cond, ◌&&◌, ◌||◌, ◌+◌, List, refl, ◌∙◌, sym, ap, subst, Some, Option, Ok, Err}
use Rattle.std.specs.Prelude.{is_some, is_none, not, nat_lt}
use Rattle.std.specs.Option.{option_map_or}
use Rattle.std.specs.declared.result.Result.{Result}
use Rattle.op_grant.specs.Rows.{at_row, proceeded_by, fault_of}
use Rattle.op_grant.specs.Value.{GrantsValue}
use Rattle.op_grant.specs.declared.fault.GrantFault.{GrantFault}
use Rattle.op_grant.specs.declared.fault.GrantFault.TheVariants as faults
use Rattle.op_grant.specs.declared.fault.Proceeded.{Proceeded}
use Rattle.op_grant.specs.declared.fault.Proceeded.TheVariants as proceeded
use Rattle.op_grant_plans.specs.Callers.{continue_answer, refusal_of}
use Rattle.op_grant_plans.proofs.Owned.{IsOwnAt}
use Rattle.op_grant_plans.proofs.Rows.{answer_at}
use Rattle.op_granting.specs.Models.{proceeded_act}
use Rattle.op_model.specs.Asking.{own_grant, refuse_if, ◌>>=◌}
use Rattle.op_model.specs.GrantAnswers.{continue_grant, continuation_refusals, holds_continuation, is_wrong_reference, is_pending, is_issued, is_rejected, poll_wait}
use Rattle.op_model.specs.Grants.{grants, is_cancelled, is_secret}
use Rattle.op_model.specs.declared.act.Act.{Act}
use Rattle.op_model.specs.declared.act.Act.TheVariants as acts
use Rattle.op_model.specs.declared.act.Entry.{Entry}
use Rattle.op_model.specs.declared.reply.Refusal.{Refusal}
use Rattle.op_model.specs.declared.reply.Refusal.TheVariants as refusals
use Rattle.op_model.specs.declared.reply.Refusal.TheVariants.{InvalidContinuation}
use Rattle.op_model.specs.declared.request.Verdict.{Verdict}
use Rattle.op_model.specs.declared.row.GrantRow.{GrantRow}

told_token : (verdict : Verdict) (row : GrantRow) (token : List ℕ) (b : Bool) → verdict.token ≡ Some token → is_secret (Some token) row.continuation ≡ b → holds_continuation verdict row ≡ b
told_token verdict row token b told is = ap (λ (x : Option (List ℕ)). is_secret x row.continuation) told ∙ is

abbrev Answer : Type 0
Answer = Result Proceeded GrantFault

abbrev lines_of : (rejected early wrong late : Bool) → Result (Unit {0}) Refusal
lines_of rejected early wrong late =
    refuse_if rejected refusals.UserDenied >>= (λ _. refuse_if early refusals.TooFast >>= (λ _. refuse_if wrong refusals.InvalidInteraction >>= (λ _. refuse_if late refusals.InvalidInteraction)))

abbrev answer_of : Bool → Proceeded → Result (Unit {0}) Refusal → Answer
answer_of gone answer lines = cond gone (Err faults.InvalidContinuation) (proceeded_by answer lines)

-- ---- continuing

-- what comes of a client's own grant
abbrev comes_of : (gone pending : Bool) → Result (Unit {0}) Refusal → ℕ → List ℕ → Result (Option Act) Refusal
comes_of gone pending lines n word = refuse_if gone InvalidContinuation >>= (λ _. lines >>= (λ _. Ok (Some (cond pending (acts.GrantPolled n) (acts.GrantContinued n word)))))

after_own : (history : List Entry) (t : ℕ) (word : List ℕ) (grant : Option ℕ) (reference : Option (Option (List ℕ))) (verdict : Verdict) (n : ℕ) (row : GrantRow) (holds : Bool) → (verdict.proved && is_some verdict.client) ≡ true → own_grant history verdict grant InvalidContinuation ≡ Ok (record { grant = n; row = row }) → holds_continuation verdict row ≡ holds
    → continue_grant history t word grant reference verdict ≡ comes_of (is_cancelled row.state || (is_issued row.state || not holds)) (is_pending row.state) (continuation_refusals t row reference) n word
after_own history t word grant reference verdict n row holds proof owns held = rw (proof, owns, held) refl

known : (told refusal : Refusal) → (let r : Result (Unit {0}) Refusal = Err told in r) ≡ Err refusal → told ≡ refusal
known told refusal h = cc

-- each refusal of the table is the one of its fault
known_where : (rejected early wrong late : Bool) (refusal : Refusal) → lines_of rejected early wrong late ≡ Err refusal → refusal_of (fault_of refusal) ≡ refusal
known_where true early wrong late refusal h = let e : refusals.UserDenied ≡ refusal = known refusals.UserDenied refusal h in subst (λ (r : Refusal). refusal_of (fault_of r) ≡ r) e refl
known_where false true wrong late refusal h = let e : refusals.TooFast ≡ refusal = known refusals.TooFast refusal h in subst (λ (r : Refusal). refusal_of (fault_of r) ≡ r) e refl
known_where false false true late refusal h = let e : refusals.InvalidInteraction ≡ refusal = known refusals.InvalidInteraction refusal h in subst (λ (r : Refusal). refusal_of (fault_of r) ≡ r) e refl
known_where false false false true refusal h = let e : refusals.InvalidInteraction ≡ refusal = known refusals.InvalidInteraction refusal h in subst (λ (r : Refusal). refusal_of (fault_of r) ≡ r) e refl
known_where false false false false refusal h = absurd (let r : Result (Unit {0}) Refusal = Err refusal in let e : Ok tt ≡ r = h in cc)

-- the act that an answer is, or its refusal
abbrev told_as : ℕ → List ℕ → Answer → Result (Option Act) Refusal
told_as n word (Ok answer) = Ok (Some (proceeded_act answer n word))
told_as n word (Err fault) = Err (refusal_of fault)

comes_as : (gone pending : Bool) (lines : Result (Unit {0}) Refusal) (n : ℕ) (word : List ℕ) → ((refusal : Refusal) → lines ≡ Err refusal → refusal_of (fault_of refusal) ≡ refusal) → comes_of gone pending lines n word ≡ told_as n word (answer_of gone (cond pending proceeded.Polled proceeded.Issued) lines)
comes_as true pending lines n word each = refl
comes_as false true (Ok _) n word each = refl
comes_as false false (Ok _) n word each = refl
comes_as false pending (Err refusal) n word each = ap (λ (r : Refusal). let x : Result (Option Act) Refusal = Err r in x) (sym (each refusal refl))

pub continues : (history : List Entry) (t : ℕ) (word : List ℕ) (grant : Option ℕ) (reference : Option (Option (List ℕ))) (verdict : Verdict) (value : GrantsValue) (n : ℕ) (token : List ℕ) (answer : Answer) → value.rows ≡ grants history → (verdict.proved && is_some verdict.client) ≡ true → IsOwnAt value verdict grant n → verdict.token ≡ Some token
    → answer ≡ at_row (continue_answer t token reference) value n → continue_grant history t word grant reference verdict ≡ told_as n word answer
continues history t word grant reference verdict value n token answer same proof own told is =
    let row = own.row in
    let gone = is_cancelled row.state || (is_issued row.state || not (is_secret (Some token) row.continuation)) in
    let lines = continuation_refusals t row reference in
    after_own history t word grant reference verdict n row (is_secret (Some token) row.continuation) proof (own.owns history InvalidContinuation same) (told_token verdict row token (is_secret (Some token) row.continuation) told refl)
    ∙ comes_as gone (is_pending row.state) lines n word
    (known_where (is_rejected row.state) (is_none reference && nat_lt t (row.last + poll_wait)) (option_map_or (is_wrong_reference row) reference false) (not (is_pending row.state) && (is_some row.finish && is_none reference)))
    ∙ ap (told_as n word) (sym (answer_at (continue_answer t token reference) value n row answer own.there is))
