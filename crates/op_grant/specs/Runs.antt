-- Lists of calls on grants, and what holds behind them.
use Rattle.std.specs.Prelude.{ℕ, ◌≡◌, ◌+◌, ◌^◌, ◌<◌, ◌≤◌, Bool, ◌==◌, ◌&&◌, if◌then◌else◌, List, [], ◌∷◌, ◌++◌, sum_by, Some, None, Ok, IsTrue, MatchOption}
use Rattle.std.specs.declared.option.Option.{Option}
use Rattle.op_names.specs.Secrets.{IsDrawn}
use Rattle.op_model.specs.History.{nth}
use Rattle.op_model.specs.Grants.{current_token, live_token}
use Rattle.op_model.specs.declared.grant.Asked.{Asked}
use Rattle.op_model.specs.declared.grant.Cap.{Cap}
use Rattle.op_model.specs.declared.row.GrantRow.{GrantRow}
use Rattle.op_grant.specs.Value.{GrantsValue, no_grants, has_row, with_grant, with_row, cap_in, spent_in, with_counter, spent_more, spent_less}
use Rattle.op_grant.specs.Places.{IsNewPlace}
use Rattle.op_grant.specs.Limits.{are_readable, covers_spending}
use Rattle.op_grant.specs.Rows.{at_row, asked_row, ask_fault, decide_answer, decided, proceed_answer, proceeded_row, cancel_answer, cancelled, token_answer, rotated, revoked, grant_of_live}
use Rattle.op_grant.specs.declared.fault.Proceeded.{Proceeded}

-- a word, and the place of the entry that drew it
pub record Drawing : Type 0 where
  pub word : List ℕ
  pub place : ℕ

-- a call that changed grants
pub data Call : Type 0 where
  Requested : (t : ℕ) (drawing : Drawing) (asked : Asked) → Call
  Decided : (n : ℕ) (accept : Bool) (drawing : Drawing) → Call
  Continued : (n t : ℕ) (token : List ℕ) (reference : Option (List ℕ)) (drawing : Drawing) (answer : Proceeded) → Call
  Cancelled : (n : ℕ) (token : List ℕ) → Call
  Rotated : (n t : ℕ) (token : List ℕ) (drawing : Drawing) → Call
  Revoked : (n : ℕ) (token : List ℕ) → Call
  Reserved : (n j : ℕ) → Call
  Spent : (n j v : ℕ) → Call
  GivenBack : (n j v : ℕ) → Call

-- what a drawn word and its place are
pub record IsDrawing (value : GrantsValue) (drawing : Drawing) : Type 0 where
  pub word : IsDrawn drawing.word
  pub small : drawing.place < 2 ^ 64
  pub new : IsNewPlace drawing.place value.rows

-- what a call asks for, and that it is not refused
abbrev pub CanCall : GrantsValue → Call → Type 0
CanCall value (Requested t drawing asked) = IsDrawing value drawing × IsTrue (are_readable asked.items) × (ask_fault asked ≡ None)
CanCall value (Decided n accept drawing) = IsTrue (has_row value n) × IsDrawing value drawing × (at_row decide_answer value n ≡ Ok tt)
CanCall value (Continued n t token reference drawing answer) =
    IsTrue (has_row value n) × IsDrawing value drawing × (at_row (proceed_answer t token reference) value n ≡ Ok answer)
CanCall value (Cancelled n token) = IsTrue (has_row value n) × (at_row (cancel_answer token) value n ≡ Ok tt)
CanCall value (Rotated n t token drawing) = IsTrue (has_row value n) × IsDrawing value drawing × (at_row (token_answer token) value n ≡ Ok tt)
CanCall value (Revoked n token) = IsTrue (has_row value n) × (at_row (token_answer token) value n ≡ Ok tt)
CanCall value (Reserved n j) = Unit {0}
CanCall value (Spent n j v) = IsTrue (has_row value n) × IsTrue (covers_spending value n j v)
CanCall value (GivenBack n j v) = IsTrue (has_row value n) × (v ≤ spent_in value n j)

-- the grants behind a call, as the call's contract has them
abbrev pub after_call : GrantsValue → Call → GrantsValue
after_call value (Requested t drawing asked) = with_grant value (asked_row t drawing.word drawing.place asked)
after_call value (Decided n accept drawing) = with_row (decided accept drawing.word drawing.place) value n
after_call value (Continued n t token reference drawing answer) = with_row (proceeded_row t drawing.word drawing.place answer) value n
after_call value (Cancelled n token) = with_row cancelled value n
after_call value (Rotated n t token drawing) = with_row (rotated t drawing.word drawing.place) value n
after_call value (Revoked n token) = with_row revoked value n
after_call value (Reserved n j) = with_counter value n j
after_call value (Spent n j v) = spent_more value n j v
after_call value (GivenBack n j v) = spent_less value n j v

-- Calls that can be made one after another. A refused call changes nothing, so it stands in no such list.
abbrev pub AreCalls : GrantsValue → List Call → Type 0
AreCalls value [] = Unit {0}
AreCalls value (call ∷ calls) = CanCall value call × AreCalls (after_call value call) calls

abbrev pub after_calls : GrantsValue → List Call → GrantsValue
after_calls value [] = value
after_calls value (call ∷ calls) = after_calls (after_call value call) calls

-- ---- spending

abbrev pub spent_by : (n j : ℕ) → Call → ℕ
spent_by n j (Spent m k v) = if (m == n) && (k == j) then v else 0
spent_by n j _ = 0

abbrev pub given_back_by : (n j : ℕ) → Call → ℕ
given_back_by n j (GivenBack m k v) = if (m == n) && (k == j) then v else 0
given_back_by n j _ = 0

-- what was spent in an interval of a grant with a cap is the sum of what was spent there, less what was given back, and
-- it is within the cap
pub record IsSpentSum (value : GrantsValue) (calls : List Call) (n j : ℕ) (cap : Cap) : Type 0 where
  pub sum : spent_in value n j + sum_by (given_back_by n j) calls ≡ sum_by (spent_by n j) calls
  pub within : spent_in value n j ≤ cap.sum.value

-- behind any list of calls on no grants; nothing is counted for a grant without a cap
abbrev pub SpendingIsSum : Type 0
SpendingIsSum =
    (calls : List Call) (n j : ℕ) → AreCalls no_grants calls
    → MatchOption (cap_in (after_calls no_grants calls) n) (spent_in (after_calls no_grants calls) n j ≡ 0) (IsSpentSum (after_calls no_grants calls) calls n j)

-- ---- secrets

-- no two grants have one secret of this kind
abbrev pub AreApart : (GrantRow → Option (List ℕ)) → List GrantRow → Type 0
AreApart secret rows =
    (m n : ℕ) (a b : GrantRow) (text : List ℕ) → nth rows m ≡ Some a → nth rows n ≡ Some b → secret a ≡ Some text → secret b ≡ Some text → m ≡ n

pub record HaveOwnSecrets (rows : List GrantRow) : Type 0 where
  pub access : AreApart (λ row. row.access) rows
  pub continuation : AreApart (λ row. Some row.continuation) rows
  pub nonce : AreApart (λ row. Some row.nonce) rows
  pub reference : AreApart (λ row. row.reference) rows

abbrev pub SecretsAreApart : Type 0
SecretsAreApart = (calls : List Call) → AreCalls no_grants calls → HaveOwnSecrets (after_calls no_grants calls).rows

-- ---- tokens

-- a grant has at most one live token
abbrev pub OneLiveToken : Type 0
OneLiveToken =
    (value : GrantsValue) (t n : ℕ) (token other : List ℕ) → grant_of_live value t token ≡ Some n → grant_of_live value t other ≡ Some n
    → token ≡ other

-- behind any list of calls on no grants, a live token is found as its grant's
abbrev pub LiveTokensAreFound : Type 0
LiveTokensAreFound =
    (calls : List Call) (n t : ℕ) (row : GrantRow) (token : List ℕ) → AreCalls no_grants calls → nth (after_calls no_grants calls).rows n ≡ Some row
    → live_token t row ≡ Some token → grant_of_live (after_calls no_grants calls) t token ≡ Some n

-- a call that ends the current token of grant n
abbrev pub Ends : ℕ → Call → Type 0
Ends n (Cancelled m token) = m ≡ n
Ends n (Rotated m t token drawing) = m ≡ n
Ends n (Revoked m token) = m ≡ n
Ends n _ = ⊥

-- a token that was rotated or revoked, or whose grant was cancelled, is never found again
abbrev pub EndedTokensAreGone : Type 0
EndedTokensAreGone =
    (before behind : List Call) (call : Call) (n t : ℕ) (row : GrantRow) (token : List ℕ) → AreCalls no_grants (before ++ call ∷ behind)
    → nth (after_calls no_grants before).rows n ≡ Some row → current_token row ≡ Some token → Ends n call
    → grant_of_live (after_calls no_grants (before ++ call ∷ behind)) t token ≡ None
