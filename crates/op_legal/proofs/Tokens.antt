-- Requests of a client on a grant of its own: the entry spells the request with its verdict.
use Rattle.std.proofs.Common.{◌≡◌, ℕ, Bool, true, false, ◌&&◌, List, refl, ◌∙◌, sym, ap, subst, Some, None}
use Rattle.std.specs.Prelude.{not, Ok, is_some}
use Rattle.std.specs.Option.{option_map_or}
use Rattle.std.specs.declared.option.Option.{Option}
use Rattle.op_model.specs.Access.{is_same_client}
use Rattle.op_model.specs.Answer.{act_for}
use Rattle.op_model.specs.Asking.{Caller, caller_with, own_grant, is_own}
use Rattle.op_model.specs.GrantAnswers.{change_token}
use Rattle.op_model.specs.Grants.{grant_row, current_token, is_secret}
use Rattle.op_model.specs.Legal.{asked_by, grant_verdict, verdict_of, no_verdict, word_of, fee_of}
use Rattle.op_model.specs.declared.act.Act.{Act}
use Rattle.op_model.specs.declared.act.Act.TheVariants as acts
use Rattle.op_model.specs.declared.act.Entry.{Entry}
use Rattle.op_model.specs.declared.reply.Refusal.TheVariants.{InvalidClient, InvalidToken}
use Rattle.op_model.specs.declared.request.Request.TheVariants as requests
use Rattle.op_model.specs.declared.request.Task.TheVariants.{Ask}
use Rattle.op_model.specs.declared.request.Verdict.{Verdict}
use Rattle.op_model.specs.declared.row.GrantRow.{GrantRow}
use Rattle.op_legal.proofs.Chains.{act_in, outcome_act, none_is_not, some_is, past_refusal, past_step, within_want, within_refusal}
use Rattle.op_legal.proofs.Names.{both_left, not_false, bytes_are}
use Rattle.op_legal.proofs.Tasks.{SpellsItself, spells}

-- ---- the caller's grant

caller_at : (history : List Entry) (n : ℕ) (found : Option GrantRow) (who : Caller) → grant_row history n ≡ found → option_map_or (λ (row : GrantRow). Some (record { grant = n; row = row })) found None ≡ Some who
    → (n ≡ who.grant) × (grant_row history who.grant ≡ Some who.row)
caller_at history n None who is h = none_is_not who h
caller_at history n (Some row) who is h =
    let same : record { grant = n; row = row } ≡ who = some_is (record { grant = n; row = row }) who h in
    let number : n ≡ who.grant = ap (λ (c : Caller). c.grant) same in
    (number, subst (λ (k : ℕ). grant_row history k ≡ Some row) number is ∙ ap (λ (c : Caller). Some c.row) same)

pub caller_found : (history : List Entry) (g : Option ℕ) (who : Caller) → caller_with history g ≡ Some who → (g ≡ Some who.grant) × (grant_row history who.grant ≡ Some who.row)
caller_found history None who h = none_is_not who h
caller_found history (Some n) who h =
    let at = caller_at history n (grant_row history n) who refl h in (ap (λ (k : ℕ). Some k) at.0, at.1)

-- ---- the verdict

client_is : (asking : Option (List ℕ)) (client : List ℕ) → is_same_client asking client ≡ true → asking ≡ Some client
client_is None client h = absurd (let e : false ≡ true = h in cc)
client_is (Some c) client h = ap (λ (x : List ℕ). Some x) (bytes_are c client h)

secret_is : (secret : Option (List ℕ)) (text : List ℕ) → is_secret secret text ≡ true → Some text ≡ secret
secret_is None text h = absurd (let e : false ≡ true = h in cc)
secret_is (Some s) text h = ap (λ (x : List ℕ). Some x) (sym (bytes_are s text h))

pub token_is : (secret token : Option (List ℕ)) → option_map_or (is_secret secret) token false ≡ true → token ≡ secret
token_is secret None h = absurd (let e : false ≡ true = h in cc)
token_is secret (Some text) h = secret_is secret text h

pub verdict_is : (history : List Entry) (g : ℕ) (row : GrantRow) (secret : GrantRow → Option (List ℕ)) (verdict : Verdict) → grant_row history g ≡ Some row → verdict.proved ≡ true → is_same_client verdict.client row.client ≡ true → verdict.token ≡ secret row
    → grant_verdict history g secret ≡ verdict
verdict_is history g row secret verdict found passed own token =
    let client : verdict.client ≡ Some row.client = client_is verdict.client row.client own in
    ap (λ (o : Option GrantRow). option_map_or (verdict_of secret) o no_verdict) found
    ∙ sym
    (ap (λ (c : Option (List ℕ)). let v : Verdict = record { client = c; proved = verdict.proved; token = verdict.token } in v) client
    ∙ ap (λ (p : Bool). let v : Verdict = record { client = Some row.client; proved = p; token = verdict.token } in v) passed
    ∙ ap (λ (k : Option (List ℕ)). let v : Verdict = record { client = Some row.client; proved = true; token = k } in v) token)

-- ---- rotating and revoking

-- the grant whose token is changed, and the act
record IsChange (history : List Entry) (act_of : ℕ → Act) (grant : Option ℕ) (verdict : Verdict) (act : Act) : Type 0 where
  n : ℕ
  grant_is : grant ≡ Some n
  verdict_is : grant_verdict history n current_token ≡ verdict
  act_is : act_of n ≡ act

change_of : (history : List Entry) (act_of : ℕ → Act) (grant : Option ℕ) (verdict : Verdict) (act : Act) → act_in (change_token history act_of grant verdict) ≡ Some act → IsChange history act_of grant verdict act
change_of history act_of grant verdict act h =
    let proof = past_refusal (not (verdict.proved && is_some verdict.client)) InvalidClient _ act h in
    let step = past_step (own_grant history verdict grant InvalidToken) _ act proof.1 in
    let found = within_want (caller_with history grant) InvalidToken _ step.0 step.1 in
    let own = within_refusal (not (is_own verdict found.0.row)) InvalidToken _ step.0 found.2 in
    let same : found.0 ≡ step.0 = let e : Ok found.0 ≡ Ok step.0 = own.1 in cc in
    let token = past_refusal (not (option_map_or (is_secret (current_token step.0.row)) verdict.token false)) InvalidToken _ act step.2 in
    let at = caller_found history grant step.0 (subst (λ (c : Caller). caller_with history grant ≡ Some c) same found.1) in
    record {
      n = step.0.grant;
      grant_is = at.0;
      verdict_is =
          verdict_is history step.0.grant step.0.row current_token verdict at.1
          (both_left verdict.proved (is_some verdict.client) (not_false (verdict.proved && is_some verdict.client) proof.0))
          (subst (λ (c : Caller). is_own verdict c.row ≡ true) same (not_false (is_own verdict found.0.row) own.0))
          (token_is (current_token step.0.row) verdict.token (not_false (option_map_or (is_secret (current_token step.0.row)) verdict.token false) token.0));
      act_is = some_is (act_of step.0.grant) act token.1;
    }

pub rotate_spells : (history : List Entry) (t : ℕ) (word : List ℕ) (grant : Option ℕ) (verdict : Verdict) (act : Act) → act_in (change_token history (λ g. acts.TokenRotated g word) grant verdict) ≡ Some act → SpellsItself history t act
rotate_spells history t word grant verdict act made =
    let is = change_of history (λ g. acts.TokenRotated g word) grant verdict act made in
    let task : asked_by history act ≡ Ask (requests.RotateToken grant) verdict =
    sym (ap (asked_by history) is.act_is)
    ∙ ap (λ (v : Verdict). Ask (requests.RotateToken (Some is.n)) v) is.verdict_is
    ∙ ap (λ (g : Option ℕ). Ask (requests.RotateToken g) verdict) (sym is.grant_is) in
    let drawn : word_of act ≡ word = sym (ap word_of is.act_is) in
    spells history t (Ask (requests.RotateToken grant) verdict) act task refl tt
    (outcome_act history t (requests.RotateToken grant) verdict (act_for history t (word_of act) (fee_of act) (requests.RotateToken grant) verdict)
    ∙ ap (λ (w : List ℕ). act_in (change_token history (λ g. acts.TokenRotated g w) grant verdict)) drawn ∙ made)

pub revoke_spells : (history : List Entry) (t : ℕ) (grant : Option ℕ) (verdict : Verdict) (act : Act) → act_in (change_token history acts.TokenRevoked grant verdict) ≡ Some act → SpellsItself history t act
revoke_spells history t grant verdict act made =
    let is = change_of history acts.TokenRevoked grant verdict act made in
    let task : asked_by history act ≡ Ask (requests.RevokeToken grant) verdict =
    sym (ap (asked_by history) is.act_is)
    ∙ ap (λ (v : Verdict). Ask (requests.RevokeToken (Some is.n)) v) is.verdict_is
    ∙ ap (λ (g : Option ℕ). Ask (requests.RevokeToken g) verdict) (sym is.grant_is) in
    spells history t (Ask (requests.RevokeToken grant) verdict) act task refl tt
    (outcome_act history t (requests.RevokeToken grant) verdict (act_for history t (word_of act) (fee_of act) (requests.RevokeToken grant) verdict) ∙ made)
