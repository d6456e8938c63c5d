-- Who asks: the verdict is that of the caller's grant.
use Rattle.std.proofs.Common.{◌≡◌, ℕ, Bool, true, false, cond, ◌&&◌, List, refl, ◌∙◌, sym, ap, Some, None}
use Rattle.std.specs.Prelude.{not, nat_lt, Ok, Err, is_some, ok_or}
use Rattle.std.specs.Option.{option_map, option_map_or, option_and_then}
use Rattle.std.specs.declared.option.Option.{Option}
use Rattle.op_model.specs.Access.{Looked, failures, first_failure, is_same_client, access_refusal, denial}
use Rattle.op_model.specs.Asking.{refuse_with, Caller, caller_with, caller, access}
use Rattle.op_model.specs.Grants.{grants, grant_row, grant_of_token, current_token, live_token, is_secret, token_lifetime}
use Rattle.op_model.specs.History.{lifetime_end}
use Rattle.op_model.specs.Legal.{grant_verdict}
use Rattle.op_model.specs.declared.act.Entry.{Entry}
use Rattle.op_model.specs.declared.reply.Refusal.{Refusal}
use Rattle.op_model.specs.declared.reply.Refusal.TheVariants.{InvalidClient, InvalidToken}
use Rattle.op_model.specs.declared.request.Verdict.{Verdict}
use Rattle.op_model.specs.declared.row.GrantRow.{GrantRow}
use Rattle.op_legal.proofs.Chains.{none_is_not, some_is, within_refusal}
use Rattle.op_legal.proofs.Names.{both_left, not_false, bytes_are, number_found}
use Rattle.op_legal.proofs.Tokens.{caller_found, verdict_is}

-- ---- the live token is the current one

live_is : (young : Bool) (current : Option (List ℕ)) (text : List ℕ) → is_secret (cond young current None) text ≡ true → Some text ≡ current
live_is true None text h = absurd (let e : false ≡ true = h in cc)
live_is true (Some s) text h = ap (λ (x : List ℕ). Some x) (sym (bytes_are s text h))
live_is false current text h = absurd (let e : false ≡ true = h in cc)

young : ℕ → GrantRow → Bool
young t row = option_map_or (λ m. nat_lt t (lifetime_end m token_lifetime)) row.issued false

live_token_is : (t : ℕ) (row : GrantRow) → live_token t row ≡ cond (young t row) (current_token row) None
unfolding young
live_token_is t row = refl

pub record IsCaller (history : List Entry) (t : ℕ) (verdict : Verdict) (who : Caller) : Type 0 where
  pub row : grant_row history who.grant ≡ Some who.row
  pub passed : verdict.proved ≡ true
  pub token : verdict.token ≡ current_token who.row

token_where : (history : List Entry) (t : ℕ) (token : Option (List ℕ)) (who : Caller) → caller_with history (option_and_then (grant_of_token history t) token) ≡ Some who → token ≡ current_token who.row
token_where history t None who h = none_is_not who h
token_where history t (Some text) who h =
    let found = caller_found history (grant_of_token history t text) who h in
    let item = number_found (λ (row : GrantRow). is_secret (live_token t row) text) (grants history) who.grant found.0 in
    let same : item.item ≡ who.row = some_is item.item who.row (sym item.there ∙ found.1) in
    let live : is_secret (cond (young t who.row) (current_token who.row) None) text ≡ true =
    ap (λ (s : Option (List ℕ)). is_secret s text) (sym (live_token_is t who.row)) ∙ ap (λ (row : GrantRow). is_secret (live_token t row) text) (sym same) ∙ item.passes in
    live_is (young t who.row) (current_token who.row) text live

want_ok : {X : Type 0} (found : Option X) (refusal : Refusal) (x : X) → ok_or found refusal ≡ Ok x → found ≡ Some x
want_ok None refusal x h = absurd (let e : Err refusal ≡ Ok x = h in cc)
want_ok (Some y) refusal x h = let e : Ok y ≡ Ok x = h in cc

pub caller_is : (history : List Entry) (t : ℕ) (verdict : Verdict) (who : Caller) → caller history t verdict ≡ Ok who → IsCaller history t verdict who
caller_is history t verdict who h =
    let proof = within_refusal (not (verdict.proved && is_some verdict.client)) InvalidClient _ who h in
    let found = want_ok (caller_with history (option_and_then (grant_of_token history t) verdict.token)) InvalidToken who proof.1 in
    record {
      row = (caller_found history (option_and_then (grant_of_token history t) verdict.token) who found).1;
      passed = both_left verdict.proved (is_some verdict.client) (not_false (verdict.proved && is_some verdict.client) proof.0);
      token = token_where history t verdict.token who found;
    }

-- ---- access passes only the grant's client

pub refused_with : (refusal : Option Refusal) → refuse_with refusal ≡ Ok tt → refusal ≡ None
refused_with None h = refl
refused_with (Some r) h = absurd (let e : Err r ≡ Ok tt = h in cc)

pub no_denial : (deny : ℕ → Refusal) (failed : Option ℕ) → option_map deny failed ≡ None → failed ≡ None
no_denial deny None h = refl
no_denial deny (Some n) h = absurd (let e : Some (deny n) ≡ None = h in cc)

first_passes : (b : Bool) (rest : Option ℕ) → cond b (Some 1) rest ≡ None → b ≡ false
first_passes true rest h = absurd (let e : Some 1 ≡ None = h in cc)
first_passes false rest h = refl

pub own_client : (history : List Entry) (t : ℕ) (verdict : Verdict) (who : Caller) (looked : Looked) → access history t verdict who looked ≡ Ok tt → is_same_client verdict.client who.row.client ≡ true
own_client history t verdict who looked h =
    let failed = no_denial (denial history t who.grant who.row) (first_failure (failures history t verdict.client who.grant who.row looked)) (refused_with (access_refusal history t verdict.client who.grant who.row looked) h) in
    not_false (is_same_client verdict.client who.row.client) (first_passes (not (is_same_client verdict.client who.row.client)) _ failed)

-- the verdict of a caller that passes
pub caller_verdict : (history : List Entry) (t : ℕ) (verdict : Verdict) (who : Caller) (looked : Looked) → caller history t verdict ≡ Ok who → access history t verdict who looked ≡ Ok tt → grant_verdict history who.grant current_token ≡ verdict
caller_verdict history t verdict who looked called passes =
    let is = caller_is history t verdict who called in
    verdict_is history who.grant who.row current_token verdict is.row is.passed (own_client history t verdict who looked passes) is.token
