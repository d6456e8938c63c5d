-- A caller, its access, and the rest of a route.
use Rattle.std.proofs.Common.{◌≡◌, ℕ, true, false, List, refl, ◌∙◌, sym, ap, Some, None, Option, Result, Ok, Err}
use Rattle.std.specs.Prelude.{◌&&◌, not, is_some, ok_or}
use Rattle.std.specs.Option.{option_map_or, option_and_then}
use Rattle.op_granting.specs.Keeping.{IsGrantsOf}
use Rattle.op_grant.specs.Rows.{grant_of_live}
use Rattle.op_grant.specs.Value.{GrantsValue, has_row}
use Rattle.op_legal.proofs.Chains.{ok_is}
use Rattle.op_legal.proofs.Callers.{caller_is}
use Rattle.op_legal.proofs.Names.{number_found}
use Rattle.op_model.specs.Access.{Looked}
use Rattle.op_model.specs.Asking.{◌>>=◌, refuse_with, Caller, caller, caller_with, access}
use Rattle.op_model.specs.Grants.{grants, grant_row, grant_of_token, is_secret, live_token}
use Rattle.op_model.specs.History.{number_of as number_in}
use Rattle.op_model.specs.declared.act.Act.{Act}
use Rattle.op_model.specs.declared.act.Entry.{Entry}
use Rattle.op_model.specs.declared.reply.Refusal.{Refusal}
use Rattle.op_model.specs.declared.reply.Refusal.TheVariants.{InvalidClient, InvalidToken}
use Rattle.op_model.specs.declared.request.Verdict.{Verdict}
use Rattle.op_model.specs.declared.row.GrantRow.{GrantRow}
use Rattle.op_token_plans.specs.Asking.{number_of, admission}

-- ---- the caller

pub unproved : (history : List Entry) (t : ℕ) (verdict : Verdict) → not (verdict.proved && is_some verdict.client) ≡ true → Err InvalidClient ≡ number_of (caller history t verdict)
unproved history t verdict fails = rw fails refl

-- the answer of a caller whose proof passes
called : (history : List Entry) (t : ℕ) (verdict : Verdict) → not (verdict.proved && is_some verdict.client) ≡ false
    → number_of (caller history t verdict) ≡ number_of (ok_or (caller_with history (option_and_then (grant_of_token history t) verdict.token)) InvalidToken)
called history t verdict passes = rw passes refl

pub no_token : (history : List Entry) (t : ℕ) (verdict : Verdict) → not (verdict.proved && is_some verdict.client) ≡ false → verdict.token ≡ None → Err InvalidToken ≡ number_of (caller history t verdict)
no_token history t verdict passes none =
    sym (called history t verdict passes ∙ ap (λ (o : Option (List ℕ)). number_of (ok_or (caller_with history (option_and_then (grant_of_token history t) o)) InvalidToken)) none)

live_is : (history : List Entry) (value : GrantsValue) (t : ℕ) (token : List ℕ) → IsGrantsOf history value → grant_of_live value t token ≡ grant_of_token history t token
live_is history value t token are = ap (λ (rows : List GrantRow). number_in (λ row. is_secret (live_token t row) token) rows) are.rows

caller_at : (history : List Entry) (g : ℕ) (row : GrantRow) → grant_row history g ≡ Some row → Ok g ≡ number_of (ok_or (caller_with history (Some g)) InvalidToken)
caller_at history g row there = sym (ap (λ (o : Option GrantRow). number_of (ok_or (option_map_or (λ r. Some (let c : Caller = record { grant = g; row = r } in c)) o None) InvalidToken)) there)

pub of_token : (history : List Entry) (value : GrantsValue) (t : ℕ) (verdict : Verdict) (token : List ℕ) (g : ℕ) → IsGrantsOf history value → not (verdict.proved && is_some verdict.client) ≡ false → verdict.token ≡ Some token
    → grant_of_live value t token ≡ Some g → Ok g ≡ number_of (caller history t verdict)
of_token history value t verdict token g are passes told found =
    let same : grant_of_token history t token ≡ Some g = sym (live_is history value t token are) ∙ found in
    let item = number_found (λ (row : GrantRow). is_secret (live_token t row) token) (grants history) g same in
    caller_at history g item.item item.there
    ∙ ap (λ (o : Option ℕ). number_of (ok_or (caller_with history o) InvalidToken)) (sym same)
    ∙ sym (called history t verdict passes ∙ ap (λ (o : Option (List ℕ)). number_of (ok_or (caller_with history (option_and_then (grant_of_token history t) o)) InvalidToken)) told)

pub of_no_token : (history : List Entry) (value : GrantsValue) (t : ℕ) (verdict : Verdict) (token : List ℕ) → IsGrantsOf history value → not (verdict.proved && is_some verdict.client) ≡ false → verdict.token ≡ Some token
    → grant_of_live value t token ≡ None → Err InvalidToken ≡ number_of (caller history t verdict)
of_no_token history value t verdict token are passes told none =
    sym (called history t verdict passes
    ∙ ap (λ (o : Option (List ℕ)). number_of (ok_or (caller_with history (option_and_then (grant_of_token history t) o)) InvalidToken)) told
    ∙ ap (λ (o : Option ℕ). number_of (ok_or (caller_with history o) InvalidToken)) (sym (live_is history value t token are) ∙ none))

pub live_there : (value : GrantsValue) (t : ℕ) (token : List ℕ) (g : ℕ) → grant_of_live value t token ≡ Some g → has_row value g ≡ true
live_there value t token g found =
    ap is_some (number_found (λ (row : GrantRow). is_secret (live_token t row) token) value.rows g found).there

-- ---- its access

abbrev pub passed_or : ℕ → Option Refusal → Result ℕ Refusal
passed_or grant None = Ok grant
passed_or grant (Some refusal) = Err refusal

passed : (who : Caller) (answer : Option Refusal) → passed_or who.grant answer ≡ number_of (refuse_with answer >>= λ _. Ok who)
passed who None = refl
passed who (Some refusal) = refl

admitted_as : (c : Result Caller Refusal) (a : Caller → Result (Unit {0}) Refusal) (grant : ℕ) (answer : Option Refusal) → Ok grant ≡ number_of c
    → ((who : Caller) → c ≡ Ok who → who.grant ≡ grant → refuse_with answer ≡ a who) → passed_or grant answer ≡ number_of (c >>= λ who. a who >>= λ _. Ok who)
admitted_as (Err refusal) a grant answer is each = absurd (let e : Ok grant ≡ Err refusal = is in cc)
admitted_as (Ok who) a grant answer is each =
    let same : grant ≡ who.grant = ok_is grant who.grant is in
    ap (λ (g : ℕ). passed_or g answer) same
    ∙ passed who answer
    ∙ ap (λ (r : Result (Unit {0}) Refusal). number_of (r >>= λ _. Ok who)) (each who refl (sym same))

pub admitted : (history : List Entry) (t : ℕ) (verdict : Verdict) (looked : Looked) (grant : ℕ) (answer : Option Refusal) → Ok grant ≡ number_of (caller history t verdict)
    → ((row : GrantRow) → grant_row history grant ≡ Some row → refuse_with answer ≡ access history t verdict (record { grant = grant; row = row }) looked)
    → passed_or grant answer ≡ number_of (admission history t verdict looked)
admitted history t verdict looked grant answer is each =
    admitted_as (caller history t verdict) (λ who. access history t verdict who looked) grant answer is
    (λ who called same.
    let row : grant_row history grant ≡ Some who.row = ap (grant_row history) (sym same) ∙ (caller_is history t verdict who called).row in
    each who.row row ∙ ap (λ (g : ℕ). access history t verdict (record { grant = g; row = who.row }) looked) (sym same))

refused_from : (c : Result Caller Refusal) (a : Caller → Result (Unit {0}) Refusal) (refusal : Refusal) → Err refusal ≡ number_of c → Err refusal ≡ number_of (c >>= λ who. a who >>= λ _. Ok who)
refused_from (Err r) a refusal is = is
refused_from (Ok who) a refusal is = absurd (let e : Err refusal ≡ Ok who.grant = is in cc)

pub not_admitted : (history : List Entry) (t : ℕ) (verdict : Verdict) (looked : Looked) (refusal : Refusal) → Err refusal ≡ number_of (caller history t verdict) → Err refusal ≡ number_of (admission history t verdict looked)
not_admitted history t verdict looked refusal is = refused_from (caller history t verdict) (λ who. access history t verdict who looked) refusal is

-- ---- the rest of a route, which looks at the number of the grant alone

rest_of : (passes : Result (Unit {0}) Refusal) (who : Caller) (rest : ℕ → Result (Option Act) Refusal) → (passes >>= λ _. rest who.grant) ≡ (number_of (passes >>= λ _. Ok who) >>= rest)
rest_of (Ok u) who rest = refl
rest_of (Err refusal) who rest = refl

route_of : (c : Result Caller Refusal) (a : Caller → Result (Unit {0}) Refusal) (rest : ℕ → Result (Option Act) Refusal) → (c >>= λ who. a who >>= λ _. rest who.grant) ≡ (number_of (c >>= λ who. a who >>= λ _. Ok who) >>= rest)
route_of (Err refusal) a rest = refl
route_of (Ok who) a rest = rest_of (a who) who rest

pub route_is : (history : List Entry) (t : ℕ) (verdict : Verdict) (looked : Looked) (rest : ℕ → Result (Option Act) Refusal) (admitted : Result ℕ Refusal) → admitted ≡ number_of (admission history t verdict looked)
    → (caller history t verdict >>= λ who. access history t verdict who looked >>= λ _. rest who.grant) ≡ (admitted >>= rest)
route_is history t verdict looked rest admitted is =
    route_of (caller history t verdict) (λ who. access history t verdict who looked) rest ∙ ap (λ (r : Result ℕ Refusal). r >>= rest) (sym is)
