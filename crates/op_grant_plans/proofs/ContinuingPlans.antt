-- What comes of continuing a grant.
use Rattle.std.proofs.Common.{◌≡◌, ℕ, Bool, true, false, cond, ◌||◌, List, refl, ◌∙◌, sym, ap, subst, Some, Option, Ok, Err}
use Rattle.std.specs.Prelude.{not}
use Rattle.std.specs.List.{AllByRecursion}
use Rattle.std.specs.Option.{option_map}
use Rattle.std.specs.declared.result.Result.{Result}
use Rattle.op_grant.specs.Rows.{proceed_answer, proceeded_by, proceeded_row}
use Rattle.op_grant.specs.declared.fault.GrantFault.{GrantFault}
use Rattle.op_grant.specs.declared.fault.GrantFault.TheVariants as faults
use Rattle.op_grant.specs.declared.fault.Proceeded.{Proceeded}
use Rattle.op_grant.specs.declared.fault.Proceeded.TheVariants as proceeded
use Rattle.op_grant_plans.specs.Callers.{Proceeds}
use Rattle.op_grant_plans.specs.GrantPlans.{ArePartsOf, IsGrantPlan, IsContinuation}
use Rattle.op_grant_plans.specs.declared.parts.Context.{Context}
use Rattle.op_grant_plans.specs.declared.parts.Parts.{Parts}
use Rattle.op_plans.specs.Plans.{IsPlan}
use Rattle.op_plans.specs.declared.plan.Plan.{Plan}
use Rattle.op_plans.specs.declared.plan.Plan.TheVariants.{Acts}
use Rattle.op_model.specs.declared.reply.ReplyBody.{ReplyBody}
use Rattle.op_model.specs.declared.request.Request.TheVariants.{ContinueGrant}
use Rattle.op_grant_plans.proofs.Itemized.{shown_stays}
use Rattle.op_grant_plans.proofs.ItemsNamed.{items_named}
use Rattle.op_grant_plans.proofs.Rows.{row_in, row_behind, told_row, answer_at}
use Rattle.op_granting.specs.Models.{behind, next_place, proceeded_act}
use Rattle.op_granting.proofs.Following.{follow}
use Rattle.op_legal.specs.Numbers.{ItemNamesMade}
use Rattle.op_model.specs.Answer.{told_of, issued_body, continued_body}
use Rattle.op_model.specs.GrantAnswers.{continue_grant, continuation_refusals, is_pending, is_issued}
use Rattle.op_model.specs.Grants.{grants, grant_row, is_cancelled, is_secret}
use Rattle.op_model.specs.History.{nth}
use Rattle.op_model.specs.Shown.{items_shown}
use Rattle.op_model.specs.declared.act.Act.TheVariants as acts
use Rattle.op_model.specs.declared.act.Entry.{Entry}
use Rattle.op_model.specs.declared.reply.ItemShown.{ItemShown}
use Rattle.op_model.specs.declared.reply.ReplyBody.TheVariants as bodies
use Rattle.op_model.specs.declared.row.GrantRow.{GrantRow}
use Rattle.op_names.specs.Secrets.{secret_text}
use Rattle.op_names.specs.declared.Letter.TheVariants as letters
use Rattle.op_naming.specs.Names.{AreNames}

abbrev Answer : Type 0
Answer = Result Proceeded GrantFault

-- a grant that is continued was not issued
not_issued_where : (cancelled issued other : Bool) (rest : Answer) (x : Proceeded) → cond (cancelled || (issued || other)) (let r : Answer = Err faults.InvalidContinuation in r) rest ≡ Ok x → issued ≡ false
not_issued_where true issued other rest x h = absurd (let r : Answer = Err faults.InvalidContinuation in let e : r ≡ Ok x = h in cc)
not_issued_where false true other rest x h = absurd (let r : Answer = Err faults.InvalidContinuation in let e : r ≡ Ok x = h in cc)
not_issued_where false false other rest x h = refl

not_issued : (t : ℕ) (token : List ℕ) (reference : Option (List ℕ)) (row : GrantRow) (x : Proceeded) → proceed_answer t token reference row ≡ Ok x → is_issued row.state ≡ false
not_issued t token reference row x h =
    not_issued_where (is_cancelled row.state) (is_issued row.state) (not (is_secret (Some token) row.continuation)) (proceeded_by (cond (is_pending row.state) proceeded.Polled proceeded.Issued) (continuation_refusals t row (option_map (λ r. Some r) reference))) x h

-- ---- replies

pub polled_body : (parts : Parts) (history : List Entry) (place t n : ℕ) (word : List ℕ) (grant : Option ℕ) (row : GrantRow) → ArePartsOf history parts place → Proceeds parts.grants.now n t proceeded.Polled → nth parts.grants.now.rows n ≡ Some row → grant ≡ Some n
    → bodies.GrantPolled n row.continuation ≡ told_of (grant_row (behind history t (acts.GrantPolled n))) (continued_body (behind history t (acts.GrantPolled n))) grant
polled_body parts history place t n word grant row are may there named =
    let value = parts.grants.now in
    let after = behind history t (acts.GrantPolled n) in
    let change = proceeded_row t word (next_place history) proceeded.Polled in
    let waits = not_issued t may.token may.reference row proceeded.Polled (sym (answer_at (proceed_answer t may.token may.reference) value n row (Ok proceeded.Polled) there (sym may.passes))) in
    ap (λ b. cond b (issued_body after n (change row)) (bodies.GrantPolled n row.continuation)) (sym waits)
    ∙ told_row (continued_body after) after grant n (change row) named
    (row_behind change value history t n (acts.GrantPolled n) row (follow.proceeded value history t n word may.token may.reference proceeded.Polled are.legal are.grants_are.rows may.passes) there)

pub continued_issued : (parts : Parts) (history : List Entry) (place t n : ℕ) (word : List ℕ) (grant : Option ℕ) (row : GrantRow) (items : List ItemShown) → ArePartsOf history parts place → Proceeds parts.grants.now n t proceeded.Issued → nth parts.grants.now.rows n ≡ Some row → grant ≡ Some n
    → ((history : List Entry) → AreNames history parts.names.now → AllByRecursion (ItemNamesMade history) row.items → items ≡ items_shown history row.items)
    → bodies.GrantIssued n items (secret_text letters.Access word place) (secret_text letters.Continuation word place) ≡ told_of (grant_row (behind history t (acts.GrantContinued n word))) (continued_body (behind history t (acts.GrantContinued n word))) grant
continued_issued parts history place t n word grant row items are may there named told =
    let value = parts.grants.now in
    let act = acts.GrantContinued n word in
    let after = behind history t act in
    let change = proceeded_row t word (next_place history) proceeded.Issued in
    let made = items_named history n row are.legal (row_in value history n (Some row) are.grants_are.rows there) in
    let shown : items ≡ items_shown after row.items = told history are.names_are made ∙ sym (shown_stays history t act row.items refl refl) in
    ap (λ (x : List ItemShown). bodies.GrantIssued n x (secret_text letters.Access word place) (secret_text letters.Continuation word place)) shown
    ∙ ap (λ p. bodies.GrantIssued n (items_shown after row.items) (secret_text letters.Access word p) (secret_text letters.Continuation word p)) are.place_is
    ∙ told_row (continued_body after) after grant n (change row) named
    (row_behind change value history t n act row (follow.proceeded value history t n word may.token may.reference proceeded.Issued are.legal are.grants_are.rows may.passes) there)

-- ---- plans

pub poll_planned : (parts : Parts) (context : Context) (n : ℕ) (row : GrantRow) (answer : Proceeded) → answer ≡ proceeded.Polled → Proceeds parts.grants.now n context.next.at answer → nth parts.grants.now.rows n ≡ Some row
    → IsContinuation parts context n answer (Acts (acts.GrantPolled n) (bodies.GrantPolled n row.continuation))
poll_planned parts context n row answer is may there =
    subst (λ (x : Proceeded). Proceeds parts.grants.now n context.next.at x → IsContinuation parts context n x (Acts (acts.GrantPolled n) (bodies.GrantPolled n row.continuation))) (sym is)
    (λ polled history are. ap (λ (b : ReplyBody). Acts (acts.GrantPolled n) b) (polled_body parts history context.next.place context.next.at n context.word.now (Some n) row are polled there refl)) may

pub issue_planned : (parts : Parts) (context : Context) (n : ℕ) (row : GrantRow) (items : List ItemShown) (answer : Proceeded) → answer ≡ proceeded.Issued → Proceeds parts.grants.now n context.next.at answer → nth parts.grants.now.rows n ≡ Some row
    → ((history : List Entry) → AreNames history parts.names.now → AllByRecursion (ItemNamesMade history) row.items → items ≡ items_shown history row.items)
    → IsContinuation parts context n answer (Acts (acts.GrantContinued n context.word.now) (bodies.GrantIssued n items (secret_text letters.Access context.word.now context.next.place) (secret_text letters.Continuation context.word.now context.next.place)))
issue_planned parts context n row items answer is may there told =
    let body = bodies.GrantIssued n items (secret_text letters.Access context.word.now context.next.place) (secret_text letters.Continuation context.word.now context.next.place) in
    subst (λ (x : Proceeded). Proceeds parts.grants.now n context.next.at x → IsContinuation parts context n x (Acts (acts.GrantContinued n context.word.now) body)) (sym is)
    (λ issued history are. ap (λ (b : ReplyBody). Acts (acts.GrantContinued n context.word.now) b) (continued_issued parts history context.next.place context.next.at n context.word.now (Some n) row items are issued there refl told)) may

pub continue_planned : (parts : Parts) (context : Context) (grant : Option ℕ) (reference : Option (Option (List ℕ))) (n : ℕ) (answer : Proceeded) (plan : Plan) → grant ≡ Some n
    → ((history : List Entry) → parts.grants.now.rows ≡ grants history → continue_grant history context.next.at context.word.now grant reference context.verdict.now ≡ Ok (Some (proceeded_act answer n context.word.now)))
    → IsContinuation parts context n answer plan → IsGrantPlan parts context (ContinueGrant grant reference) plan
continue_planned parts context grant reference n answer plan named passes is history fee are =
    let act = proceeded_act answer n context.word.now in
    let after = behind history context.next.at act in
    subst (IsPlan history context.next.at context.word.now fee (ContinueGrant grant reference) context.verdict.now) (sym (is history are))
    (passes history are.grants_are.rows, ap (λ (g : Option ℕ). told_of (grant_row after) (continued_body after) g) (sym named))
