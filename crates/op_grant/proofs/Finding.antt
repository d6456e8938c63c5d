-- A grant that is found by its token.
use Rattle.std.proofs.Common.{◌≡◌, ℕ, Bool, true, false, cond, List, refl, sym, ap, ◌∙◌}
use Rattle.std.specs.Prelude.{Some, None, ◌||◌, nat_lt}
use Rattle.std.specs.Option.{option_map, option_map_or}
use Rattle.std.specs.declared.option.Option.{Option}
use Rattle.op_names.proofs.Choices.{from_same_bytes}
use Rattle.op_model.specs.History.{nth, number_of, lifetime_end}
use Rattle.op_model.specs.Grants.{live_token, current_token, is_secret, is_cancelled, token_lifetime}
use Rattle.op_model.specs.declared.row.GrantRow.{GrantRow}
use Rattle.op_grant.specs.Tokens.{TokensValue, grant_at}
use Rattle.op_grant.specs.Indexed.{IsDrawnAt, IsFound, IsKept}
use Rattle.op_grant.proofs.Numbered.{nth-map, number_of_none, number_of_only}

some_is : {X : Type 0} (x y : X) → Some x ≡ Some y → x ≡ y
some_is x y h = cc

secret_is : (o : Option (List ℕ)) (text : List ℕ) → is_secret o text ≡ true → o ≡ Some text
secret_is None text h = absurd (let e : false ≡ true = h in cc)
secret_is (Some s) text h = ap (λ x. Some x) (from_same_bytes s text h)

current_is : (b : Bool) (access : Option (List ℕ)) (text : List ℕ) → cond b None access ≡ Some text → access ≡ Some text
current_is true access text h = absurd (let e : None ≡ Some text = h in cc)
current_is false access text h = h

live_step : (b : Bool) (current : Option (List ℕ)) (text : List ℕ) → cond b current None ≡ Some text → current ≡ Some text
live_step true current text h = h
live_step false current text h = absurd (let e : None ≡ Some text = h in cc)

-- a current token is the grant's access token
pub current_access : (row : GrantRow) (text : List ℕ) → current_token row ≡ Some text → row.access ≡ Some text
current_access row text h = current_is (row.revoked || is_cancelled row.state) row.access text h

pub live_current : (t : ℕ) (row : GrantRow) (text : List ℕ) → live_token t row ≡ Some text → current_token row ≡ Some text
live_current t row text h =
    live_step (option_map_or (λ m. nat_lt t (lifetime_end m token_lifetime)) row.issued false) (current_token row) text h

pub live_is : (t : ℕ) (row : GrantRow) (text : List ℕ) → is_secret (live_token t row) text ≡ true → live_token t row ≡ Some text
live_is t row text h = secret_is (live_token t row) text h

abbrev pub is_live : ℕ → List ℕ → GrantRow → Bool
is_live t token row = is_secret (live_token t row) token

-- a live token is in the index
pub found_live : (tokens : TokensValue) (rows : List GrantRow) (t : ℕ) (token : List ℕ) (n : ℕ) (row : GrantRow) → IsKept tokens rows → nth rows n ≡ Some row → is_live t token row ≡ true → IsFound tokens.tokens n token
found_live tokens rows t token n row h there live =
    let access : row.access ≡ Some token = current_access row token (live_current t row token (live_is t row token live)) in
    h.indexed.found n token (nth-map (λ r. r.access) rows n ∙ ap (option_map (λ r. r.access)) there ∙ ap (λ o. Some o) access)

pub false_where : (b : Bool) → (b ≡ true → ⊥) → b ≡ false
false_where true h = absurd (h refl)
false_where false h = refl

pub nowhere : (tokens : TokensValue) (rows : List GrantRow) (t : ℕ) (token : List ℕ) → IsKept tokens rows
    → ((n : ℕ) (row : GrantRow) → nth rows n ≡ Some row → is_live t token row ≡ true → IsFound tokens.tokens n token → ⊥)
    → number_of (is_live t token) rows ≡ None
nowhere tokens rows t token h never =
    number_of_none (is_live t token) rows (λ n row there. false_where (is_live t token row) (λ live. never n row there live (found_live tokens rows t token n row h there live)))

-- the place that was read has no other grant
pub one_grant : (tokens : TokensValue) (place n m : ℕ) (token : List ℕ) → ((p : ℕ) → IsDrawnAt p token → Some place ≡ Some p) → grant_at tokens.tokens place ≡ Some n → IsFound tokens.tokens m token → m ≡ n
one_grant tokens place n m token reads at f =
    let same = some_is place f.place (reads f.place f.drawn) in
    some_is m n (sym f.at ∙ ap (grant_at tokens.tokens) (sym same) ∙ at)

pub somewhere : (tokens : TokensValue) (rows : List GrantRow) (t : ℕ) (token : List ℕ) (place n : ℕ) (row : GrantRow) → IsKept tokens rows
    → ((p : ℕ) → IsDrawnAt p token → Some place ≡ Some p) → grant_at tokens.tokens place ≡ Some n → nth rows n ≡ Some row → is_live t token row ≡ true
    → number_of (is_live t token) rows ≡ Some n
somewhere tokens rows t token place n row h reads at there live =
    number_of_only (is_live t token) rows n row there live (λ m other o l. one_grant tokens place n m token reads at (found_live tokens rows t token m other h o l))
