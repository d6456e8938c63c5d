-- What comes of asking for a grant.
use Rattle.std.proofs.Common.{◌≡◌, ℕ, ◌+◌, ◌≤◌, ◌<◌, Bool, true, false, cond, ◌&&◌, List, [], ◌∷◌, ◌++◌, length, refl, ◌∙◌, sym, ap, subst, arith, Some, None, Option, Ok, Err, length-append}
use Rattle.std.proofs.lemmas.List.{length-map}
use Rattle.std.proofs.lemmas.List.FromFn.{length-enumerate_from}
use Rattle.std.specs.Prelude.{is_some, not, unwrap_or}
use Rattle.std.specs.List.{AllByRecursion, list_any}
use Rattle.std.specs.declared.result.Result.{Result}
use Rattle.op_grant.specs.Rows.{asked_row, ask_fault}
use Rattle.op_grant.specs.declared.fault.GrantFault.{GrantFault}
use Rattle.op_grant.specs.declared.fault.GrantFault.TheVariants as faults
use Rattle.op_grant_plans.specs.Asking.{IsNewGrant}
use Rattle.op_grant_plans.specs.Callers.{refusal_of}
use Rattle.op_grant_plans.specs.GrantPlans.{ArePartsOf, IsGrantPlan}
use Rattle.op_grant_plans.specs.declared.parts.Context.{Context}
use Rattle.op_grant_plans.specs.declared.parts.Parts.{Parts}
use Rattle.op_grant_plans.proofs.AskedNamed.{items_made}
use Rattle.op_grant_plans.proofs.Itemized.{shown_stays}
use Rattle.op_grant_plans.proofs.Rows.{told_row}
use Rattle.op_granting.specs.Models.{behind, next_place, asked_act}
use Rattle.op_granting.proofs.Following.{follow}
use Rattle.op_legal.specs.Numbers.{ItemNamesMade}
use Rattle.op_legal.proofs.Counts.{length-filter_map}
use Rattle.op_model.specs.Access.{is_same_client}
use Rattle.op_model.specs.Answer.{told_of, asked_body, waiting_body}
use Rattle.op_model.specs.Asking.{refuse_if, ◌>>=◌}
use Rattle.op_model.specs.GrantAnswers.{ask_grant, items_asked, is_strange_item, is_redirect, is_issued}
use Rattle.op_model.specs.Grants.{grants, grants_made, grant_asked, grant_row, grant_so_far, is_outgoing, is_immediate}
use Rattle.op_model.specs.History.{nth, numbered}
use Rattle.op_model.specs.Shown.{items_shown}
use Rattle.op_model.specs.declared.act.Act.{Act}
use Rattle.op_model.specs.declared.act.Act.TheVariants as acts
use Rattle.op_model.specs.declared.act.Entry.{Entry}
use Rattle.op_model.specs.declared.grant.Asked.{Asked}
use Rattle.op_model.specs.declared.grant.Interact.{Interact}
use Rattle.op_model.specs.declared.grant.Item.{Item}
use Rattle.op_model.specs.declared.reply.ItemShown.{ItemShown}
use Rattle.op_model.specs.declared.reply.Refusal.{Refusal}
use Rattle.op_model.specs.declared.reply.Refusal.TheVariants.{InvalidInteraction, RequestDenied}
use Rattle.op_model.specs.declared.reply.ReplyBody.TheVariants as bodies
use Rattle.op_model.specs.declared.request.AskedItem.{AskedItem}
use Rattle.op_model.specs.declared.request.Request.TheVariants.{AskGrant}
use Rattle.op_model.specs.declared.request.Verdict.{Verdict}
use Rattle.op_model.specs.declared.row.GrantRow.{GrantRow}
use Rattle.op_names.specs.Secrets.{secret_text}
use Rattle.op_names.specs.declared.Letter.TheVariants as letters
use Rattle.op_naming.specs.Names.{AreNames}
use Rattle.op_naming.specs.declared.names.Names.{Names}
use Rattle.op_naming.proofs.Lists.{nth_here}
use Rattle.op_plans.specs.Plans.{IsPlan}
use Rattle.op_plans.specs.declared.plan.Plan.{Plan}
use Rattle.op_plans.specs.declared.plan.Plan.TheVariants.{Acts}

-- ---- the answer

-- what is asked for, with the names found on a history
abbrev asked_as : List Entry → List AskedItem → Interact → List ℕ → Asked
asked_as history items interact name = record { client = name; items = items_asked history items; interact = interact; strange = list_any (is_strange_item history) items }

abbrev ask_as : Option GrantFault → Act → Result (Option Act) Refusal
ask_as None act = Ok (Some act)
ask_as (Some fault) act = Err (refusal_of fault)

ask_where : (b s : Bool) (act : Act) → (refuse_if b InvalidInteraction >>= (λ _. refuse_if s RequestDenied >>= (λ _. Ok (Some act)))) ≡ ask_as (cond b (Some faults.InvalidInteraction) (cond s (Some faults.RequestDenied) None)) act
ask_where true s act = refl
ask_where false true act = refl
ask_where false false act = refl

asks : (history : List Entry) (word : List ℕ) (items : List AskedItem) (client : Option (List ℕ)) (interact : Interact) (verdict : Verdict) (name : List ℕ) → (verdict.proved && is_some verdict.client) ≡ true → client ≡ Some name → is_same_client verdict.client name ≡ true
    → ask_grant history word items client interact verdict ≡ ask_as (ask_fault (asked_as history items interact name)) (asked_act (asked_as history items interact name) word)
asks history word items client interact verdict name proof named own =
    rw (proof, named, own)
    (ask_where (list_any is_outgoing (items_asked history items) && not (is_redirect interact)) (list_any (is_strange_item history) items) (asked_act (asked_as history items interact name) word))

-- ---- the same request, as it was made ready

pub record IsAskedOf (history : List Entry) (items : List AskedItem) (interact : Interact) (name : List ℕ) (asked : Asked) : Type 0 where
  pub client_is : asked.client ≡ name
  pub items_are : asked.items ≡ items_asked history items
  pub interact_is : asked.interact ≡ interact
  pub strange_is : asked.strange ≡ list_any (is_strange_item history) items

is_asked : (history : List Entry) (items : List AskedItem) (interact : Interact) (name : List ℕ) (asked : Asked) → IsAskedOf history items interact name asked → asked ≡ asked_as history items interact name
is_asked history items interact name asked is =
    ap (λ (c : List ℕ). let x : Asked = record { client = c; items = asked.items; interact = asked.interact; strange = asked.strange } in x) is.client_is
    ∙ ap (λ (i : List Item). let x : Asked = record { client = name; items = i; interact = asked.interact; strange = asked.strange } in x) is.items_are
    ∙ ap (λ (i : Interact). let x : Asked = record { client = name; items = items_asked history items; interact = i; strange = asked.strange } in x) is.interact_is
    ∙ ap (λ (b : Bool). let x : Asked = record { client = name; items = items_asked history items; interact = interact; strange = b } in x) is.strange_is

pub refused_as : (history : List Entry) (word : List ℕ) (items : List AskedItem) (client : Option (List ℕ)) (interact : Interact) (verdict : Verdict) (name : List ℕ) (asked : Asked) (fault : GrantFault) → (verdict.proved && is_some verdict.client) ≡ true → client ≡ Some name → is_same_client verdict.client name ≡ true
    → IsAskedOf history items interact name asked → ask_fault asked ≡ Some fault → ask_grant history word items client interact verdict ≡ Err (refusal_of fault)
refused_as history word items client interact verdict name asked fault proof named own is faulty =
    asks history word items client interact verdict name proof named own
    ∙ ap (λ (f : Option GrantFault). ask_as f (asked_act (asked_as history items interact name) word)) (ap ask_fault (sym (is_asked history items interact name asked is)) ∙ faulty)

not_strange : (b s : Bool) → (let f : Option GrantFault = cond b (Some faults.InvalidInteraction) (cond s (Some faults.RequestDenied) None) in f) ≡ None → s ≡ false
not_strange true s h = absurd (let f : Option GrantFault = Some faults.InvalidInteraction in let e : f ≡ None = h in cc)
not_strange false true h = absurd (let f : Option GrantFault = Some faults.RequestDenied in let e : f ≡ None = h in cc)
not_strange false false h = refl

-- ---- the number of the next grant

same_count : (history : List Entry) → length (grants history) ≡ length (grants_made history)
same_count history = length-map (numbered (grants_made history)) (grant_so_far history) ∙ length-enumerate_from 1 (grants_made history)

grants_few : (history : List Entry) → length (grants history) ≤ length history
grants_few history =
    let own = same_count history in
    let all = length-filter_map (λ (place, e). grant_asked place e.at e.act) (numbered history) in
    let same = length-enumerate_from 1 history in
    omega (arith, own, all, same)

pub next_number : (history : List Entry) (place count number : ℕ) → count ≡ length (grants history) → place ≡ next_place history → (count < place → number ≡ count + 1) → number ≡ 1 + length (grants history)
next_number history place count number same placed is =
    let few = grants_few history in
    let next = is (omega (arith, few, same, placed)) in
    omega (arith, same, next)

-- ---- the plan

-- what is told of the row on the history and behind the act
body_stays : (history : List Entry) (t n : ℕ) (asked : Asked) (word : List ℕ) (row : GrantRow) → asked_body history (n, row) ≡ asked_body (behind history t (asked_act asked word)) (n, row)
body_stays history t n asked word row =
    ap (λ (items : List ItemShown). cond (is_issued row.state) (bodies.GrantIssued n items (unwrap_or row.access []) row.continuation) (waiting_body n row))
    (sym (shown_stays history t (asked_act asked word) row.items refl refl))

body_is : (history : List Entry) (parts : Parts) (t place number : ℕ) (asked : Asked) (word : List ℕ) → ArePartsOf history parts place → number ≡ 1 + length (grants history)
    → asked_body history (number, asked_row t word place asked)
    ≡ told_of (grant_row (behind history t (asked_act asked word))) (asked_body (behind history t (asked_act asked word))) (Some (length (grants_made (behind history t (asked_act asked word)))))
body_is history parts t place number asked word are next =
    let value = parts.grants.now in
    let after = behind history t (asked_act asked word) in
    let row = asked_row t word (next_place history) asked in
    let more : value.rows ++ row ∷ [] ≡ grants after = follow.asked value history t asked word are.legal are.grants_are.rows in
    let there : grant_row after number ≡ Some row = ap (λ (rows : List GrantRow). nth rows number) (sym more) ∙ nth_here value.rows row number (next ∙ ap (λ (rows : List GrantRow). 1 + length rows) (sym are.grants_are.rows)) in
    let counted : length (grants_made after) ≡ number =
    let one = sym (same_count after) in
    let two = ap length (sym more) in
    let three = length-append value.rows (row ∷ []) in
    let four = ap length are.grants_are.rows in
    omega (arith, one, two, three, four, next) in
    ap (λ (p : ℕ). asked_body history (number, asked_row t word p asked)) are.place_is
    ∙ body_stays history t number asked word row
    ∙ told_row (asked_body after) after (Some (length (grants_made after))) number row (ap (λ (k : ℕ). Some k) counted) there

pub planned : (parts : Parts) (context : Context) (items : List AskedItem) (client : Option (List ℕ)) (interact : Interact) (name : List ℕ) (asked : Asked) (number : ℕ) (plan : Plan) → (context.verdict.now.proved && is_some context.verdict.now.client) ≡ true → client ≡ Some name → is_same_client context.verdict.now.client name ≡ true
    → ((history : List Entry) → ArePartsOf history parts context.next.place → IsAskedOf history items interact name asked) → ask_fault asked ≡ None → ((history : List Entry) → ArePartsOf history parts context.next.place → number ≡ 1 + length (grants history))
    → IsNewGrant parts.names.now number context asked plan → IsGrantPlan parts context (AskGrant items client interact) plan
planned parts context items client interact name asked number plan proof named own each passes next is history fee are =
    let t = context.next.at in
    let word = context.word.now in
    let verdict = context.verdict.now in
    let as_is = each history are in
    let same = is_asked history items interact name asked as_is in
    let free = ap ask_fault (sym same) ∙ passes in
    let known = not_strange (list_any is_outgoing (items_asked history items) && not (is_redirect interact)) (list_any (is_strange_item history) items) free in
    let made : AllByRecursion (ItemNamesMade history) asked.items = subst (AllByRecursion (ItemNamesMade history)) (sym as_is.items_are) (items_made history items known) in
    let answer : ask_grant history word items client interact verdict ≡ Ok (Some (asked_act asked word)) =
    asks history word items client interact verdict name proof named own
    ∙ ap (λ (f : Option GrantFault). ask_as f (asked_act (asked_as history items interact name) word)) free
    ∙ ap (λ (a : Asked). let r : Result (Option Act) Refusal = Ok (Some (asked_act a word)) in r) (sym same) in
    subst (IsPlan history t word fee (AskGrant items client interact) verdict) (sym (is history are.names_are made))
    (answer, body_is history parts t context.next.place number asked word are (next history are))

-- ---- a grant that is issued at once

pub issued_planned : (names : Names) (number : ℕ) (context : Context) (asked : Asked) (items : List ItemShown) → is_immediate asked.items ≡ true
    → ((history : List Entry) → AreNames history names → AllByRecursion (ItemNamesMade history) asked.items → items ≡ items_shown history asked.items)
    → IsNewGrant names number context asked (Acts (acts.GrantAsked asked.client asked.items None context.word.now) (bodies.GrantIssued number items (secret_text letters.Access context.word.now context.next.place) (secret_text letters.Continuation context.word.now context.next.place)))
issued_planned names number context asked items immediate told history are made = rw (immediate, told history are made) refl
