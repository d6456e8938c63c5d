-- A grant that waits for the provider has no access token, so none of it was revoked.
use Rattle.std.proofs.Common.{◌≡◌, ℕ, ◌+◌, Bool, true, false, cond, ◌||◌, ◌&&◌, List, [], ◌∷◌, ◌++◌, length, refl, ◌∙◌, sym, ap, subst, arith, Some, None, Ok, Option, append-nil}
use Rattle.std.proofs.lemmas.Bool.Decides.{nat_tests}
use Rattle.std.specs.Prelude.{◌==◌, is_some, not}
use Rattle.std.specs.Option.{option_map, option_map_or, option_to_list}
use Rattle.std.specs.declared.result.Result.{Result}
use Rattle.op_model.specs.History.{nth, last}
use Rattle.op_model.specs.Answer.{answer, act_for}
use Rattle.op_model.specs.Asking.{Caller, caller_with, proved, own_grant, is_own, ◌>>=◌}
use Rattle.op_model.specs.GrantAnswers.{is_issued}
use Rattle.op_model.specs.Grants.{Draw, GrantMade, grants_made, grant_asked, grant_row, grant_so_far, grant_state, draws, draw_at, access_word, has_act, is_immediate, is_accepting, is_rejecting, is_continuing, is_cancelling, is_cancelled, is_revoked, current_token, is_secret, access_text}
use Rattle.op_model.specs.Legal.{IsLegal, IsNext, asked_by, grant_verdict, word_of, fee_of}
use Rattle.op_model.specs.declared.act.Act.{Act}
use Rattle.op_model.specs.declared.act.Act.TheVariants as acts
use Rattle.op_model.specs.declared.act.Entry.{Entry}
use Rattle.op_model.specs.declared.reply.Refusal.{Refusal}
use Rattle.op_model.specs.declared.reply.Refusal.TheVariants.{InvalidClient, InvalidToken}
use Rattle.op_model.specs.declared.request.Request.{Request}
use Rattle.op_model.specs.declared.request.Request.TheVariants as requests
use Rattle.op_model.specs.declared.request.Task.TheVariants.{Ask}
use Rattle.op_model.specs.declared.request.Verdict.{Verdict}
use Rattle.op_model.specs.declared.row.GrantRow.{GrantRow}
use Rattle.op_model.proofs.GrantChanges.{behind}
use Rattle.op_model.proofs.GrantParts.{act-next}
use Rattle.op_model.proofs.GrantsNext.{changes_grant, apart_act, state_by, state_was}
use Rattle.op_model.proofs.Next.{grants_made-next, draws-next}
use Rattle.op_model.proofs.Numbered.{nth-numbered, nth-front, none_numbered}
use Rattle.op_grant.proofs.Numbered.{nth_either, of_map}
use Rattle.op_legal.proofs.Chains.{act_in, outcome_act, past_refusal, past_step, within_want, within_refusal}
use Rattle.op_legal.proofs.Induction.{legal_induction}
use Rattle.op_legal.proofs.Tokens.{caller_found}
use Rattle.op_legal.proofs.Unnamed.{grant_unnamed, grant_made}
use Rattle.op_laws.proofs.Lists.{is_counted, nth_uncounted}

-- ---- what an entry's task asks of its grant

-- the row of grant g, where a caller holds it
pub record IsCalled (history : List Entry) (g : ℕ) (rest : Caller → Result (Option Act) Refusal) (act : Act) : Type 0 where
  pub who : Caller
  pub row : grant_row history g ≡ Some who.row
  pub made : act_in (rest who) ≡ Some act

pub called : (history : List Entry) (verdict : Verdict) (g : ℕ) (refusal : Refusal) (rest : Caller → Result (Option Act) Refusal) (act : Act) → act_in (proved verdict >>= λ p. own_grant history verdict (Some g) refusal >>= rest) ≡ Some act → IsCalled history g rest act
called history verdict g refusal rest act h =
    let proof = past_refusal (not (verdict.proved && is_some verdict.client)) InvalidClient _ act h in
    let step = past_step (own_grant history verdict (Some g) refusal) rest act proof.1 in
    let found = within_want (caller_with history (Some g)) refusal _ step.0 step.1 in
    let own = within_refusal (not (is_own verdict found.0.row)) refusal _ step.0 found.2 in
    let same : found.0 ≡ step.0 = let e : Ok found.0 ≡ Ok step.0 = own.1 in cc in
    let at = caller_found history (Some g) step.0 (subst (λ (c : Caller). caller_with history (Some g) ≡ Some c) same found.1) in
    let number : step.0.grant ≡ g = let e : Some g ≡ Some step.0.grant = at.0 in cc in
    record { who = step.0; row = subst (λ (k : ℕ). grant_row history k ≡ Some step.0.row) number at.1; made = step.2 }

-- the act of a request that an entry spells
pub spelled : (history : List Entry) (e : Entry) (request : Request) (verdict : Verdict) → (answer history e.at (word_of e.act) (fee_of e.act) (asked_by history e.act)).act ≡ (answer history e.at (word_of e.act) (fee_of e.act) (Ask request verdict)).act → IsNext history e
    → act_in (act_for history e.at (word_of e.act) (fee_of e.act) request verdict) ≡ Some e.act
spelled history e request verdict same next =
    sym (outcome_act history e.at request verdict (act_for history e.at (word_of e.act) (fee_of e.act) request verdict)) ∙ sym same ∙ next.act

-- ---- no entry names the next grant

past_end : (n : ℕ) → is_counted (1 + n) n ≡ false
past_end n = grind (arith, nat_tests)

pub next_unnamed : (history : List Entry) → IsLegal history → has_act (changes_grant (1 + length (grants_made history))) history ≡ false
next_unnamed history legal =
    let n = 1 + length (grants_made history) in
    grant_unnamed history n legal (grant_made history n ∙ ap is_some (nth_uncounted (grants_made history) n (past_end (length (grants_made history)))))

-- ---- no token is drawn before the grant is issued

pub made_at : (history : List Entry) (g : ℕ) (row : GrantRow) → grant_row history g ≡ Some row → (m : GrantMade) × (nth (grants_made history) g ≡ Some m) × (grant_so_far history (g, m) ≡ row)
made_at history g row h = of_map (λ (m : GrantMade). grant_so_far history (g, m)) (nth (grants_made history) g) row (sym (nth-numbered (grant_so_far history) (grants_made history) g) ∙ h)

-- a grant that waits for the provider has no access token
DrawsNone : List Entry → Type 0
DrawsNone history = (g : ℕ) (m : GrantMade) → nth (grants_made history) g ≡ Some m → is_immediate m.items ≡ false → has_act (is_continuing g) history ≡ false → draws (access_word g) history ≡ []

none_drawn : (history : List Entry) (g : ℕ) → has_act (changes_grant g) history ≡ false → draws (access_word g) history ≡ []
none_drawn history g h =
    none_numbered (λ ((place, f) : ℕ × Entry). option_map (draw_at place f.at) (access_word g f.act)) (λ (e : Entry). changes_grant g e.act) 1 history (λ k f e. ap (option_map (draw_at k f.at)) (apart_act f.at f.act g e).leaves.no_access) h

-- a rotation needs a token
pub token_there : (s token : Option (List ℕ)) → not (option_map_or (is_secret s) token false) ≡ false → is_some s ≡ true
token_there s None h = absurd (let e : true ≡ false = h in cc)
token_there None (Some text) h = absurd (let e : true ≡ false = h in cc)
token_there (Some x) (Some text) h = refl

current_access : (b : Bool) (access : Option (List ℕ)) → is_some (cond b None access) ≡ true → is_some access ≡ true
current_access true access h = absurd (let e : false ≡ true = h in cc)
current_access false access h = h

rotated_there : (history : List Entry) (t n : ℕ) (word : List ℕ) → IsNext history (record { at = t; act = acts.TokenRotated n word }) → (row : GrantRow) × (grant_row history n ≡ Some row) × (is_some row.access ≡ true)
rotated_there history t n word next =
    let act = acts.TokenRotated n word in
    let verdict = grant_verdict history n current_token in
    let made = spelled history (record { at = t; act = act }) (requests.RotateToken (Some n)) verdict refl next in
    let row = called history verdict n InvalidToken _ act made in
    let token = past_refusal (not (option_map_or (is_secret (current_token row.who.row)) verdict.token false)) InvalidToken _ act row.made in
    (row.who.row, row.row, current_access (row.who.row.revoked || is_cancelled row.who.row.state) row.who.row.access (token_there (current_token row.who.row) verdict.token token.0))

some_made : (x y : GrantMade) (o : Option GrantMade) → o ≡ Some x → o ≡ Some y → x ≡ y
some_made x y o p q = let e : Some x ≡ Some y = sym p ∙ q in cc

no_access : (b : Bool) (draw : Draw) (xs : List Draw) → b ≡ false → xs ≡ [] → is_some (option_map access_text (last (cond b (draw ∷ []) [] ++ xs))) ≡ false
no_access b draw xs p q = rw (p, q) refl

-- an entry that draws no token of grant g
drawn_none : (history : List Entry) (e : Entry) (g : ℕ) → draws (access_word g) history ≡ [] → access_word g e.act ≡ None → draws (access_word g) (history ++ e ∷ []) ≡ []
drawn_none history e g before none =
    draws-next (access_word g) history e
    ∙ ap (λ (o : Option (List ℕ)). draws (access_word g) history ++ option_to_list (option_map (draw_at (1 + length history) e.at) o)) none
    ∙ append-nil (draws (access_word g) history) ∙ before

-- the draws of grant g are none in the history, made before or by this entry
none_in : (history : List Entry) (e : Entry) (g : ℕ) (m : GrantMade) (added : Option GrantMade) → IsLegal history → DrawsNone history → grants_made (history ++ e ∷ []) ≡ grants_made history ++ option_to_list added → nth (grants_made (history ++ e ∷ [])) g ≡ Some m
    → is_immediate m.items ≡ false → has_act (is_continuing g) history ≡ false → draws (access_word g) history ≡ []
unfolding DrawsNone
none_in history e g m None legal before more there waits still =
    before g m (ap (λ (l : List GrantMade). nth l g) (sym (append-nil (grants_made history))) ∙ ap (λ (l : List GrantMade). nth l g) (sym more) ∙ there) waits still
none_in history e g m (Some x) legal before more there waits still =
    let end : 1 + length (grants_made history) ≡ length (grants_made history) + 1 = omega arith in
    nth_either (λ (k : ℕ) (y : GrantMade). is_immediate y.items ≡ false → has_act (is_continuing k) history ≡ false → draws (access_word k) history ≡ []) (grants_made history) x m g
    (λ k h w s. before k m h w s)
    (λ w s. none_drawn history (length (grants_made history) + 1) (subst (λ (k : ℕ). has_act (changes_grant k) history ≡ false) end (next_unnamed history legal)))
    (ap (λ (l : List GrantMade). nth l g) (sym more) ∙ there) waits still

-- what the entry itself draws
drawn_by_act : (history : List Entry) (t : ℕ) (act : Act) (g : ℕ) (m : GrantMade) → IsNext history (record { at = t; act = act }) → nth (grants_made (behind history t act)) g ≡ Some m → is_immediate m.items ≡ false → is_continuing g act ≡ false → draws (access_word g) history ≡ []
    → access_word g act ≡ None
drawn_by_act history t (acts.GrantContinued n word) g m next there waits still none = ap (λ b. cond b (Some word) None) still
drawn_by_act history t (acts.TokenRotated n word) g m next there waits still none = by_test (n == g) refl
  where
    by_test : (b : Bool) → (n == g) ≡ b → cond (n == g) (Some word) None ≡ None
    by_test false is = ap (λ b. cond b (Some word) None) is
    by_test true is =
        let same : n ≡ g = grind (arith, nat_tests) in
        let found = rotated_there history t n word next in
        let at = made_at history n found.0 found.1 in
        let later : nth (grants_made (behind history t (acts.TokenRotated n word))) n ≡ Some at.0 = ap (λ (l : List GrantMade). nth l n) (grants_made-next history (record { at = t; act = acts.TokenRotated n word })) ∙ nth-front (grants_made history) [] n at.0 at.1 in
        let one : at.0 ≡ m = some_made at.0 m (nth (grants_made (behind history t (acts.TokenRotated n word))) n) later (subst (λ (k : ℕ). nth (grants_made (behind history t (acts.TokenRotated n word))) k ≡ Some m) (sym same) there) in
        let immediate : is_immediate at.0.items ≡ false = ap (λ (x : GrantMade). is_immediate x.items) one ∙ waits in
        let nothing : is_some (grant_so_far history (n, at.0)).access ≡ false = no_access (is_immediate at.0.items) at.0.draw (draws (access_word n) history) immediate (subst (λ (k : ℕ). draws (access_word k) history ≡ []) (sym same) none) in
        let e : false ≡ true = sym nothing ∙ ap (λ (r : GrantRow). is_some r.access) at.2 ∙ found.2 in
        absurd cc
drawn_by_act history t _ g m next there waits still none = refl

left_part : (a b : Bool) → (a || b) ≡ false → a ≡ false
left_part true b h = absurd (let e : true ≡ false = h in cc)
left_part false b h = refl

right_part : (a b : Bool) → (a || b) ≡ false → b ≡ false
right_part true b h = absurd (let e : true ≡ false = h in cc)
right_part false b h = h

draws_none_next : (history : List Entry) (e : Entry) → IsLegal history → IsNext history e → DrawsNone history → DrawsNone (history ++ e ∷ [])
unfolding DrawsNone
draws_none_next history e legal next before g m there waits still =
    let parts : (has_act (is_continuing g) history || is_continuing g e.act) ≡ false = sym (act-next (is_continuing g) history e) ∙ still in
    let none = none_in history e g m (grant_asked (1 + length history) e.at e.act) legal before (grants_made-next history e) there waits (left_part (has_act (is_continuing g) history) (is_continuing g e.act) parts) in
    drawn_none history e g none (drawn_by_act history e.at e.act g m next there waits (right_part (has_act (is_continuing g) history) (is_continuing g e.act) parts) none)

draws_none_first : DrawsNone []
unfolding DrawsNone
draws_none_first g m there waits still = refl

draws_none : (history : List Entry) → IsLegal history → DrawsNone history
draws_none history legal = legal_induction DrawsNone draws_none_first draws_none_next history legal

-- the parts of a state that is neither issued nor cancelled
waiting_parts : (a i b c d : Bool) → is_cancelled (state_by a i b c d) ≡ false → is_issued (state_by a i b c d) ≡ false → (i ≡ false) × (b ≡ false)
unfolding state_by
waiting_parts true i b c d p q = absurd (let e : true ≡ false = p in cc)
waiting_parts false true b c d p q = absurd (let e : true ≡ false = q in cc)
waiting_parts false false true c d p q = absurd (let e : true ≡ false = q in cc)
waiting_parts false false false c d p q = (refl, refl)

no_revoking : (history : List Entry) (g : ℕ) (b : Bool) (draw : Draw) (xs : List Draw) → b ≡ false → xs ≡ [] → option_map_or (is_revoked history g) (last (cond b (draw ∷ []) [] ++ xs)) false ≡ false
no_revoking history g b draw xs p q =
    ap (λ (c : Bool). option_map_or (is_revoked history g) (last (cond c (draw ∷ []) [] ++ xs)) false) p
    ∙ ap (λ (l : List Draw). option_map_or (is_revoked history g) (last l) false) q

-- a grant that is neither issued nor cancelled has no token that was revoked
pub waiting_is_not_revoked : (history : List Entry) (g : ℕ) (row : GrantRow) → IsLegal history → grant_row history g ≡ Some row → is_cancelled row.state ≡ false → is_issued row.state ≡ false → row.revoked ≡ false
unfolding DrawsNone
waiting_is_not_revoked history g row legal found stands waits =
    let at = made_at history g row found in
    let m = at.0 in
    let state : grant_state history g m ≡ row.state = ap (λ (r : GrantRow). r.state) at.2 in
    let parts = waiting_parts (has_act (is_cancelling g) history) (is_immediate m.items) (has_act (is_continuing g) history) (has_act (is_rejecting g) history) (has_act (is_accepting g) history)
    (ap is_cancelled (sym (state_was history g m) ∙ state) ∙ stands) (ap is_issued (sym (state_was history g m) ∙ state) ∙ waits) in
    let none = draws_none history legal g m at.1 parts.0 parts.1 in
    ap (λ (r : GrantRow). r.revoked) (sym at.2) ∙ no_revoking history g (is_immediate m.items) m.draw (draws (access_word g) history) parts.0 none
