-- Grants are what the wallet's definitions say, which speak of a history.
use Rattle.std.specs.Prelude.{ℕ, ◌≡◌, ◌+◌, Bool, true, false, List, [], ◌∷◌, ◌++◌, length, Ok}
use Rattle.std.specs.declared.option.Option.{Option}
use Rattle.op_model.specs.Grants.{grants}
use Rattle.op_model.specs.GrantAnswers.{grant_act}
use Rattle.op_model.specs.Legal.{IsLegal}
use Rattle.op_model.specs.declared.act.Act.{Act}
use Rattle.op_model.specs.declared.act.Act.TheVariants as acts
use Rattle.op_model.specs.declared.act.Entry.{Entry}
use Rattle.op_model.specs.declared.grant.Asked.{Asked}
use Rattle.op_model.specs.declared.row.GrantRow.{GrantRow}
use Rattle.op_grant.specs.Rows.{at_row, asked_row, decide_answer, decided, proceed_answer, proceeded_row, cancelled, token_answer, rotated, revoked}
use Rattle.op_grant.specs.Value.{GrantsValue, with_grant, with_row}
use Rattle.op_grant.specs.declared.fault.Proceeded.{Proceeded}
use Rattle.op_grant.specs.declared.fault.Proceeded.TheVariants as proceeded
use Rattle.op_granting.specs.Kinds.{is_on_grants}

-- a history with an act at t behind it
abbrev pub behind : List Entry → ℕ → Act → List Entry
behind history t act = history ++ record { at = t; act = act } ∷ []

-- the grants of a history behind an act at t
abbrev pub grants_behind : List Entry → ℕ → Act → List GrantRow
grants_behind history t act = grants (behind history t act)

-- the place of the entry behind a history
abbrev pub next_place : List Entry → ℕ
next_place history = 1 + length history

-- the acts of calls
abbrev pub decided_act : Bool → ℕ → List ℕ → Act
decided_act true g word = acts.GrantAccepted g word
decided_act false g word = acts.GrantRejected g word

abbrev pub proceeded_act : Proceeded → ℕ → List ℕ → Act
proceeded_act proceeded.Polled g word = acts.GrantPolled g
proceeded_act proceeded.Issued g word = acts.GrantContinued g word

abbrev pub asked_act : Asked → List ℕ → Act
asked_act asked word = grant_act asked.items asked.interact word asked.client

-- A value of grants whose rows are those of a legal history has, behind the call that fits an act, the rows of the
-- history with the act's entry. The rows of a call that is refused are not changed, and the calls that count spending
-- change none.
pub record GrantsFollow : Type 0 where
  pub other :
      (value : GrantsValue) (history : List Entry) (t : ℕ) (act : Act) → value.rows ≡ grants history → is_on_grants act ≡ false →
      value.rows ≡ grants_behind history t act
  pub asked :
      (value : GrantsValue) (history : List Entry) (t : ℕ) (asked : Asked) (word : List ℕ) →
      IsLegal history → value.rows ≡ grants history →
      (with_grant value (asked_row t word (next_place history) asked)).rows ≡ grants_behind history t (asked_act asked word)
  pub decided :
      (value : GrantsValue) (history : List Entry) (t n : ℕ) (accept : Bool) (word : List ℕ) →
      value.rows ≡ grants history → at_row decide_answer value n ≡ Ok tt →
      (with_row (decided accept word (next_place history)) value n).rows ≡ grants_behind history t (decided_act accept n word)
  pub proceeded :
      (value : GrantsValue) (history : List Entry) (t n : ℕ) (word token : List ℕ) (reference : Option (List ℕ)) (answer : Proceeded) →
      IsLegal history → value.rows ≡ grants history → at_row (proceed_answer t token reference) value n ≡ Ok answer →
      (with_row (proceeded_row t word (next_place history) answer) value n).rows ≡ grants_behind history t (proceeded_act answer n word)
  pub cancelled :
      (value : GrantsValue) (history : List Entry) (t n : ℕ) → value.rows ≡ grants history →
      (with_row cancelled value n).rows ≡ grants_behind history t (acts.GrantCancelled n)
  pub rotated :
      (value : GrantsValue) (history : List Entry) (t n : ℕ) (word token : List ℕ) →
      value.rows ≡ grants history → at_row (token_answer token) value n ≡ Ok tt →
      (with_row (rotated t word (next_place history)) value n).rows ≡ grants_behind history t (acts.TokenRotated n word)
  pub revoked :
      (value : GrantsValue) (history : List Entry) (t n : ℕ) (token : List ℕ) →
      value.rows ≡ grants history → at_row (token_answer token) value n ≡ Ok tt →
      (with_row revoked value n).rows ≡ grants_behind history t (acts.TokenRevoked n)
