-- A value of grants behind a call, and the grants of a history behind its act.
use Rattle.std.proofs.Common.{◌≡◌, ℕ, Bool, true, false, cond, ◌||◌, List, [], ◌∷◌, ◌++◌, refl, ◌∙◌, sym, ap, Some, None, Ok, Err, Option}
use Rattle.std.specs.Prelude.{not, is_some}
use Rattle.std.specs.Option.{option_map, option_map_or}
use Rattle.std.specs.declared.result.Result.{Result}
use Rattle.op_model.specs.History.{nth, with_item}
use Rattle.op_model.specs.Grants.{grants, grant_row, is_cancelled, is_secret, current_token}
use Rattle.op_model.specs.GrantAnswers.{is_pending, is_issued, continuation_refusals, finish_kept}
use Rattle.op_model.specs.Legal.{IsLegal}
use Rattle.op_model.specs.declared.act.Act.{Act}
use Rattle.op_model.specs.declared.act.Act.TheVariants as acts
use Rattle.op_model.specs.declared.act.Entry.{Entry}
use Rattle.op_model.specs.declared.grant.Asked.{Asked}
use Rattle.op_model.specs.declared.reply.Refusal.{Refusal}
use Rattle.op_model.specs.declared.row.GrantRow.{GrantRow}
use Rattle.op_model.proofs.GrantChanges.{next_draw, IsPendingAt, issued_with, rotated_with, revoked_row, grants_asked, grants_accepted, grants_rejected, grants_polled, grants_continued, grants_cancelled, grants_rotated, grants_revoked}
use Rattle.op_model.proofs.GrantsNext.{grants_stay}
use Rattle.op_model.proofs.Numbered.{with_item-agree}
use Rattle.op_grant.specs.Rows.{at_row, asked_row, decide_answer, decided, proceed_answer, proceeded_by, proceeded_row, cancelled, token_answer, rotated, revoked}
use Rattle.op_grant.specs.Value.{GrantsValue, with_row}
use Rattle.op_grant.specs.declared.fault.GrantFault.{GrantFault}
use Rattle.op_grant.specs.declared.fault.GrantFault.TheVariants as faults
use Rattle.op_grant.specs.declared.fault.Proceeded.{Proceeded}
use Rattle.op_grant.specs.declared.fault.Proceeded.TheVariants as proceeded
use Rattle.op_granting.specs.Kinds.{is_on_grants}
use Rattle.op_granting.specs.Models.{grants_behind, next_place, decided_act, proceeded_act, asked_act, GrantsFollow}
use Rattle.op_granting.proofs.Waiting.{next_unnamed, waiting_is_not_revoked}

-- ---- an act that touches no grant

pub stay : (history : List Entry) (t : ℕ) (act : Act) → is_on_grants act ≡ false → grants_behind history t act ≡ grants history
stay history t (acts.GrantAsked client items finish word) h = absurd (let e : true ≡ false = h in cc)
stay history t (acts.GrantAccepted grant word) h = absurd (let e : true ≡ false = h in cc)
stay history t (acts.GrantRejected grant word) h = absurd (let e : true ≡ false = h in cc)
stay history t (acts.GrantPolled grant) h = absurd (let e : true ≡ false = h in cc)
stay history t (acts.GrantContinued grant word) h = absurd (let e : true ≡ false = h in cc)
stay history t (acts.GrantCancelled grant) h = absurd (let e : true ≡ false = h in cc)
stay history t (acts.TokenRotated grant word) h = absurd (let e : true ≡ false = h in cc)
stay history t (acts.TokenRevoked grant) h = absurd (let e : true ≡ false = h in cc)
stay history t act h = grants_stay history (record { at = t; act = act }) refl (λ g. refl)

-- ---- what the answers of calls tell

-- the answer at a row of a history
answer_at : {X : Type 0} (answer : GrantRow → Result X GrantFault) (value : GrantsValue) (history : List Entry) (n : ℕ) (x : X) → value.rows ≡ grants history → at_row answer value n ≡ Ok x → (row : GrantRow) → grant_row history n ≡ Some row → answer row ≡ Ok x
answer_at answer value history n x same is row found =
    sym (ap (λ (rows : List GrantRow). option_map_or answer (nth rows n) (Err faults.Memory)) same ∙ ap (λ (o : Option GrantRow). option_map_or answer o (Err faults.Memory)) found) ∙ is

answer_pending : (b : Bool) → (let r : Result (Unit {0}) GrantFault = cond b (Ok tt) (Err faults.NotPending) in r) ≡ Ok tt → b ≡ true
answer_pending true h = refl
answer_pending false h = absurd (let r : Result (Unit {0}) GrantFault = Err faults.NotPending in let e : r ≡ Ok tt = h in cc)

answer_secret : (b : Bool) → (let r : Result (Unit {0}) GrantFault = cond b (Ok tt) (Err faults.InvalidToken) in r) ≡ Ok tt → b ≡ true
answer_secret true h = refl
answer_secret false h = absurd (let r : Result (Unit {0}) GrantFault = Err faults.InvalidToken in let e : r ≡ Ok tt = h in cc)

-- a current token is not revoked, and it is there
current_is : (r c : Bool) (access : Option (List ℕ)) (token : List ℕ) → is_secret (cond (r || c) None access) token ≡ true → (r ≡ false) × (is_some access ≡ true)
current_is true c access token h = absurd (let e : false ≡ true = h in cc)
current_is false true access token h = absurd (let e : false ≡ true = h in cc)
current_is false false None token h = absurd (let e : false ≡ true = h in cc)
current_is false false (Some text) token h = (refl, refl)

current_row : (row : GrantRow) (token : List ℕ) → token_answer token row ≡ Ok tt → (row.revoked ≡ false) × (is_some row.access ≡ true)
current_row row token h = current_is row.revoked (is_cancelled row.state) row.access token (answer_secret (is_secret (current_token row) token) h)

-- where a grant goes on it is neither cancelled nor issued
goes_on : (b c d : Bool) (answer : Proceeded) (rest : Result (Unit {0}) Refusal) (x : Proceeded) → cond (b || (c || d)) (let r : Result Proceeded GrantFault = Err faults.InvalidContinuation in r) (proceeded_by answer rest) ≡ Ok x → (b ≡ false) × (c ≡ false)
goes_on true c d answer rest x h = absurd (let r : Result Proceeded GrantFault = Err faults.InvalidContinuation in let e : r ≡ Ok x = h in cc)
goes_on false true d answer rest x h = absurd (let r : Result Proceeded GrantFault = Err faults.InvalidContinuation in let e : r ≡ Ok x = h in cc)
goes_on false false d answer rest x h = (refl, refl)

goes_on_row : (t : ℕ) (token : List ℕ) (reference : Option (List ℕ)) (row : GrantRow) (x : Proceeded) → proceed_answer t token reference row ≡ Ok x → (is_cancelled row.state ≡ false) × (is_issued row.state ≡ false)
goes_on_row t token reference row x h =
    goes_on (is_cancelled row.state) (is_issued row.state) (not (is_secret (Some token) row.continuation)) (cond (is_pending row.state) proceeded.Polled proceeded.Issued) (continuation_refusals t row (option_map (λ r. Some r) reference)) x h

-- ---- a row that is changed

row_behind : (change : GrantRow → GrantRow) (value : GrantsValue) (history : List Entry) (n : ℕ) (after : List GrantRow) → value.rows ≡ grants history → after ≡ with_item change (grants history) n → (with_row change value n).rows ≡ after
row_behind change value history n after same is = ap (λ (rows : List GrantRow). with_item change rows n) same ∙ sym is

pending_at : (history : List Entry) (g : ℕ) → ((row : GrantRow) → grant_row history g ≡ Some row → decide_answer row ≡ Ok tt) → IsPendingAt history g
pending_at history g may row found = answer_pending (is_pending row.state) (may row found)

decide : (value : GrantsValue) (history : List Entry) (t n : ℕ) (accept : Bool) (word : List ℕ) → value.rows ≡ grants history → at_row decide_answer value n ≡ Ok tt
    → (with_row (decided accept word (next_place history)) value n).rows ≡ grants_behind history t (decided_act accept n word)
decide value history t n true word same is =
    row_behind (decided true word (next_place history)) value history n _ same (grants_accepted history t n word (pending_at history n (answer_at decide_answer value history n tt same is)))
decide value history t n false word same is =
    row_behind (decided false word (next_place history)) value history n _ same (grants_rejected history t n word (pending_at history n (answer_at decide_answer value history n tt same is)))

-- a row whose token was not revoked
kept : (row : GrantRow) (change : GrantRow → GrantRow) (b : Bool) → (change row).revoked ≡ b → (let r : GrantRow = record (change row) { revoked = b } in r) ≡ change row
kept row change b h = ap (λ (x : Bool). let r : GrantRow = record (change row) { revoked = x } in r) (sym h)

proceed : (value : GrantsValue) (history : List Entry) (t n : ℕ) (word token : List ℕ) (reference : Option (List ℕ)) (answer : Proceeded) → IsLegal history → value.rows ≡ grants history → at_row (proceed_answer t token reference) value n ≡ Ok answer
    → (with_row (proceeded_row t word (next_place history) answer) value n).rows ≡ grants_behind history t (proceeded_act answer n word)
proceed value history t n word token reference proceeded.Polled legal same is =
    row_behind (proceeded_row t word (next_place history) proceeded.Polled) value history n _ same (grants_polled history t n)
proceed value history t n word token reference proceeded.Issued legal same is =
    let own = answer_at (proceed_answer t token reference) value history n proceeded.Issued same is in
    let change = proceeded_row t word (next_place history) proceeded.Issued in
    let on : (row : GrantRow) → grant_row history n ≡ Some row → (is_cancelled row.state ≡ false) × (is_issued row.state ≡ false) = λ row found. goes_on_row t token reference row proceeded.Issued (own row found) in
    row_behind change value history n _ same
    (grants_continued history t n word (λ row found. (on row found).0)
    ∙ with_item-agree (issued_with (next_draw history t word)) change (grants history) n
    (λ row found. kept row change false (let o = on row found in waiting_is_not_revoked history n row legal found o.0 o.1)))

rotate : (value : GrantsValue) (history : List Entry) (t n : ℕ) (word token : List ℕ) → value.rows ≡ grants history → at_row (token_answer token) value n ≡ Ok tt
    → (with_row (rotated t word (next_place history)) value n).rows ≡ grants_behind history t (acts.TokenRotated n word)
rotate value history t n word token same is =
    let change = rotated t word (next_place history) in
    row_behind change value history n _ same
    (grants_rotated history t n word
    ∙ with_item-agree (rotated_with (next_draw history t word)) change (grants history) n
    (λ row found. kept row change false (current_row row token (answer_at (token_answer token) value history n tt same is row found)).0))

revoke : (value : GrantsValue) (history : List Entry) (t n : ℕ) (token : List ℕ) → value.rows ≡ grants history → at_row (token_answer token) value n ≡ Ok tt
    → (with_row revoked value n).rows ≡ grants_behind history t (acts.TokenRevoked n)
revoke value history t n token same is =
    row_behind revoked value history n _ same
    (grants_revoked history t n
    ∙ with_item-agree revoked_row revoked (grants history) n
    (λ row found. ap (λ (x : Bool). let r : GrantRow = record row { revoked = x } in r) (current_row row token (answer_at (token_answer token) value history n tt same is row found)).1))

asks : (value : GrantsValue) (history : List Entry) (t : ℕ) (asked : Asked) (word : List ℕ) → IsLegal history → value.rows ≡ grants history
    → value.rows ++ asked_row t word (next_place history) asked ∷ [] ≡ grants_behind history t (asked_act asked word)
asks value history t asked word legal same =
    ap (λ (rows : List GrantRow). rows ++ asked_row t word (next_place history) asked ∷ []) same
    ∙ sym (grants_asked history t asked.client asked.items (finish_kept asked.items asked.interact) word (next_unnamed history legal))

pub follow : GrantsFollow
follow = record {
  other = λ value history t act same none. same ∙ sym (stay history t act none);
  asked = asks;
  decided = decide;
  proceeded = proceed;
  cancelled = λ value history t n same. row_behind cancelled value history n _ same (grants_cancelled history t n);
  rotated = rotate;
  revoked = revoke;
}
