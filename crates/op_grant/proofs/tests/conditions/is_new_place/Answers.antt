use Rattle.std.proofs.Common.{◌≡◌, ℕ, zero, suc, ◌+◌, ◌≤◌, List, sym, subst, ap, ◌∙◌, arith, Some, None, ⊎_elim}
use Rattle.std.specs.Prelude.{All}
use Rattle.op_model.specs.History.{nth}
use Rattle.op_model.specs.declared.row.GrantRow.{GrantRow}
use Rattle.op_grant.specs.Places.{IsDrawnBefore, secrets_of}
use Rattle.op_grant.proofs.Indexing.{number_cases, number_within}
use Rattle.op_grant.proofs.TokenLaw.{new_from}
use Rattle.op_grant.proofs.tests.conditions.is_new_place.Goals as goal

abbrev Before : ℕ → List GrantRow → ℕ → Type 0
Before place rows k = (n : ℕ) (row : GrantRow) → n ≤ k → nth rows n ≡ Some row → All (IsDrawnBefore place) (secrets_of row)

no_row : (rows : List GrantRow) (n : ℕ) (row : GrantRow) → n ≤ 0 → nth rows n ≡ Some row → ⊥
no_row rows zero row le h = absurd (let e : None ≡ Some row = h in cc)
no_row rows (suc n) row le h = absurd (omega (arith, le))

one_more : (place : ℕ) (rows : List GrantRow) (k : ℕ) (found : GrantRow) → Before place rows k → Some found ≡ nth rows (k + 1) → All (IsDrawnBefore place) (secrets_of found) → Before place rows (k + 1)
one_more place rows k found before at all n row le h =
    ⊎_elim
    (λ same. let both = at ∙ ap (nth rows) (sym same) ∙ h in let is : found ≡ row = cc both in subst (λ r. All (IsDrawnBefore place) (secrets_of r)) is all)
    (λ apart. before n row (omega (arith, le, apart)) h) (number_cases n (k + 1))

pub loop-k-init : goal.loop-k-init
loop-k-init c = λ n row le h. absurd (no_row c.args.grants.now.rows n row le h)

pub loop-k-preserved : goal.loop-k-preserved
loop-k-preserved c =
    one_more c.args.place c.args.grants.now.rows c.loop-k.k c.in-Some.row.now c.loop-k.invariant c.in-Some.ensures c.if-not-row_before.ensures

pub returns : goal.returns
returns c =
    let rows = c.args.grants.now.rows in
    new_from c.args.place rows (λ n row h. c.loop-k.invariant n row (omega (arith, number_within rows n row h, c.loop-k-test.false, c.count-k-end.ensures)) h)
