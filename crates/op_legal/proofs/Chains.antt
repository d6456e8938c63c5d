-- The act behind a chain of refusals.
use Rattle.std.proofs.Common.{◌≡◌, ℕ, Bool, true, false, List, refl, Some, None}
use Rattle.std.specs.Prelude.{Ok, Err, ok_or}
use Rattle.std.specs.declared.option.Option.{Option}
use Rattle.std.specs.declared.result.Result.{Result}
use Rattle.op_model.specs.Answer.{ask_outcome}
use Rattle.op_model.specs.Asking.{◌>>=◌, refuse_if}
use Rattle.op_model.specs.declared.act.Act.{Act}
use Rattle.op_model.specs.declared.act.Entry.{Entry}
use Rattle.op_model.specs.declared.reply.Refusal.{Refusal}
use Rattle.op_model.specs.declared.request.Request.{Request}
use Rattle.op_model.specs.declared.request.Verdict.{Verdict}

abbrev pub act_in : Result (Option Act) Refusal → Option Act
act_in (Ok act) = act
act_in (Err refusal) = None

pub outcome_act : (history : List Entry) (t : ℕ) (request : Request) (verdict : Verdict) (result : Result (Option Act) Refusal) → (ask_outcome history t request verdict result).act ≡ act_in result
outcome_act history t request verdict (Ok act) = refl
outcome_act history t request verdict (Err refusal) = refl

pub none_is_not : {X : Type 0} {P : Type 0} (x : X) → None ≡ Some x → P
none_is_not x h = absurd (let e : None ≡ Some x = h in cc)

pub some_is : {X : Type 0} (x y : X) → Some x ≡ Some y → x ≡ y
some_is x y h = cc

-- a refusal that did not come
pub past_refusal : (holds : Bool) (refusal : Refusal) (rest : Unit {0} → Result (Option Act) Refusal) (act : Act) → act_in (refuse_if holds refusal >>= rest) ≡ Some act → (holds ≡ false) × (act_in (rest tt) ≡ Some act)
past_refusal true refusal rest act h = none_is_not act h
past_refusal false refusal rest act h = (refl, h)

-- what was wanted is there
pub past_want : {X : Type 0} (found : Option X) (refusal : Refusal) (rest : X → Result (Option Act) Refusal) (act : Act) → act_in (ok_or found refusal >>= rest) ≡ Some act → (x : X) × (found ≡ Some x) × (act_in (rest x) ≡ Some act)
past_want None refusal rest act h = none_is_not act h
past_want (Some x) refusal rest act h = (x, refl, h)

-- a step that may refuse, of any result
abbrev pub value_in : {X : Type 0} → Result X Refusal → Option X
value_in (Ok x) = Some x
value_in (Err refusal) = None

pub past_step : {X : Type 0} (first : Result X Refusal) (rest : X → Result (Option Act) Refusal) (act : Act) → act_in (first >>= rest) ≡ Some act → (x : X) × (first ≡ Ok x) × (act_in (rest x) ≡ Some act)
past_step (Err refusal) rest act h = none_is_not act h
past_step (Ok x) rest act h = (x, refl, h)

-- the same within a chain that gives another value
pub within_refusal : {X : Type 0} (holds : Bool) (refusal : Refusal) (rest : Unit {0} → Result X Refusal) (x : X) → (refuse_if holds refusal >>= rest) ≡ Ok x → (holds ≡ false) × (rest tt ≡ Ok x)
within_refusal true refusal rest x h = absurd (let e : Err refusal ≡ Ok x = h in cc)
within_refusal false refusal rest x h = (refl, h)

pub within_want : {X Y : Type 0} (found : Option Y) (refusal : Refusal) (rest : Y → Result X Refusal) (x : X) → (ok_or found refusal >>= rest) ≡ Ok x → (y : Y) × (found ≡ Some y) × (rest y ≡ Ok x)
within_want None refusal rest x h = absurd (let e : Err refusal ≡ Ok x = h in cc)
within_want (Some y) refusal rest x h = (y, refl, h)

pub within_step : {X Y : Type 0} (first : Result Y Refusal) (rest : Y → Result X Refusal) (x : X) → (first >>= rest) ≡ Ok x → (y : Y) × (first ≡ Ok y) × (rest y ≡ Ok x)
within_step (Err refusal) rest x h = absurd (let e : Err refusal ≡ Ok x = h in cc)
within_step (Ok y) rest x h = (y, refl, h)

pub ok_is : {X : Type 0} (x y : X) → (let r : Result X Refusal = Ok x in r) ≡ Ok y → x ≡ y
ok_is x y h = cc
