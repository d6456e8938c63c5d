-- Requests that read a row.
use Rattle.std.proofs.Common.{◌≡◌, ℕ, ◌+◌, List, refl, ◌∙◌, sym, ap, Some, None, Option, Result, Ok, Err}
use Rattle.std.specs.Prelude.{ok_or}
use Rattle.std.specs.Option.{option_map, option_and_then}
use Rattle.op_legal.proofs.Chains.{none_is_not}
use Rattle.op_model.specs.Actions as actions
use Rattle.op_model.specs.Asking.{◌>>=◌, Caller, caller, access}
use Rattle.op_model.specs.PaymentAnswers.{looks_at_row, read_row}
use Rattle.op_model.specs.declared.act.Act.{Act}
use Rattle.op_model.specs.declared.act.Entry.{Entry}
use Rattle.op_model.specs.declared.reply.Refusal.{Refusal}
use Rattle.op_model.specs.declared.reply.Refusal.TheVariants.{NotFound}
use Rattle.op_model.specs.declared.request.Verdict.{Verdict}
use Rattle.op_token_plans.specs.Asking.{number_of, admission}
use Rattle.op_token_plans.specs.Shown.{row_beside}
use Rattle.op_token_plans.proofs.Admitting.{route_is}

-- a row, where its access passes
abbrev pub rest_of_reading : Option (ℕ × ℕ) → ℕ → Result (Option Act) Refusal
rest_of_reading row grant = do
  _ ← ok_or row NotFound
  Ok None

pub read_is : (history : List Entry) (t kind : ℕ) (row : Option (ℕ × ℕ)) (verdict : Verdict) (admitted : Result ℕ Refusal) → admitted ≡ number_of (admission history t verdict (looks_at_row history kind (actions.read + actions.read_all) actions.read_all row))
    → (admitted >>= rest_of_reading row) ≡ read_row history t kind row verdict
read_is history t kind row verdict admitted is =
    sym (route_is history t verdict (looks_at_row history kind (actions.read + actions.read_all) actions.read_all row) (rest_of_reading row) admitted is)

-- what is read is there
never_read : (c : Result Caller Refusal) (a : Caller → Result (Unit {0}) Refusal) → (c >>= λ who. a who >>= λ _. rest_of_reading None who.grant) ≡ Ok None → ⊥
never_read (Err refusal) a is = absurd (let e : (let r : Result (Option Act) Refusal = Err refusal in r) ≡ Ok None = is in cc)
never_read (Ok who) a is = never (a who) is
  where
    never : (r : Result (Unit {0}) Refusal) → (r >>= λ _. rest_of_reading None who.grant) ≡ Ok None → ⊥
    never (Ok u) is = absurd (let e : (let r : Result (Option Act) Refusal = Err NotFound in r) ≡ Ok None = is in cc)
    never (Err refusal) is = absurd (let e : (let r : Result (Option Act) Refusal = Err refusal in r) ≡ Ok None = is in cc)

place_where : {X S P : Type 0} (n : ℕ) (show : ℕ × X → S) (place : X → P) (o : Option X) → None ≡ option_map show (option_map (λ x. (n, x)) o) → option_map place o ≡ None
place_where n show place None is = refl
place_where n show place (Some x) is = none_is_not (show (n, x)) is

place_missing : {X S P : Type 0} (row : ℕ → Option X) (n : Option ℕ) (show : ℕ × X → S) (place : X → P) → None ≡ option_map show (row_beside row n) → option_map place (option_and_then row n) ≡ None
place_missing row None show place is = refl
place_missing row (Some n) show place is = place_where n show place (row n) is

pub read_there : {X S : Type 0} (history : List Entry) (t kind : ℕ) (verdict : Verdict) (row : ℕ → Option X) (n : Option ℕ) (show : ℕ × X → S) (place : X → ℕ × ℕ) → read_row history t kind (option_map place (option_and_then row n)) verdict ≡ Ok None → None ≡ option_map show (row_beside row n) → ⊥
read_there history t kind verdict row n show place read none =
    let missing = place_missing row n show place none in
    let unread : read_row history t kind None verdict ≡ Ok None = ap (λ (p : Option (ℕ × ℕ)). read_row history t kind p verdict) (sym missing) ∙ read in
    never_read (caller history t verdict) (λ who. access history t verdict who (looks_at_row history kind (actions.read + actions.read_all) actions.read_all None)) unread

-- ---- the place of a row

by_number : {X : Type 0} (rows : ℕ → Option X) (n : Option ℕ) (k : ℕ) (o : Option X) → n ≡ Some k → o ≡ rows k → o ≡ option_and_then rows n
by_number rows n k o is at = at ∙ sym (ap (option_and_then rows) is)

pub place_there : {X : Type 0} (rows : ℕ → Option X) (place : X → ℕ × ℕ) (n : Option ℕ) (k : ℕ) (x : X) → n ≡ Some k → Some x ≡ rows k → Some (place x) ≡ option_map place (option_and_then rows n)
place_there rows place n k x is at = ap (option_map place) (by_number rows n k (Some x) is at)

pub place_nowhere : {X : Type 0} (rows : ℕ → Option X) (place : X → ℕ × ℕ) (n : Option ℕ) (k : ℕ) → n ≡ Some k → None ≡ rows k → None ≡ option_map place (option_and_then rows n)
place_nowhere rows place n k is at = ap (option_map place) (by_number rows n k None is at)

pub place_unnamed : {X : Type 0} (rows : ℕ → Option X) (place : X → ℕ × ℕ) (n : Option ℕ) → n ≡ None → None ≡ option_map place (option_and_then rows n)
place_unnamed rows place n is = ap (λ (o : Option ℕ). option_map place (option_and_then rows o)) (sym is)
