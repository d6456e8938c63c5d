use Rattle.std.proofs.Common.{◌≡◌, ◌∙◌, ℕ, List, true, sym, ap, subst}
use Rattle.op_amount.specs.Code.{is_asset_code}
use Rattle.op_desk.specs.Answers.{may_add}
use Rattle.op_desk.specs.WalletInside.{IsAddedBy}
use Rattle.op_desk.proofs.Assets.{some_code, taken_where, not_taken, adds_its_asset}
use Rattle.op_desk.proofs.wallet.Wallet.taken.Goals as goal

pub returns-then-not-may_add-clause-no : goal.returns-then-not-may_add-clause-no
returns-then-not-may_add-clause-no c =
    let a = c.in-AssetAdded in
    let history = c.args.self.now.history in
    let both = some_code c.as_bytes.result.now c.in-Some.code (sym c.in-Some.is ∙ c.code_of.ensures) in
    not_taken history c.args.entry.now a.code a.scale a.pieces a.is
    (ap (λ (k : List ℕ). may_add history c.args.entry.now.at (record { code = k; scale = a.scale }) a.pieces) (sym (both.1 ∙ c.as_bytes.ensures.value)) ∙ (sym c.may_add.ensures ∙ c.if-not-may_add.true))

pub returns-clause-yes : goal.returns-clause-yes
returns-clause-yes c =
    let a = c.in-AssetAdded in
    let history = c.args.self.now.history in
    let e = c.args.entry.now in
    let both = some_code c.as_bytes.result.now c.in-Some.code (sym c.in-Some.is ∙ c.code_of.ensures) in
    let same = both.1 ∙ c.as_bytes.ensures.value in
    let valid = subst (λ (k : List ℕ). is_asset_code k ≡ true) c.as_bytes.ensures.value both.0 in
    let may = ap (λ (k : List ℕ). may_add history e.at (record { code = k; scale = a.scale }) a.pieces) (sym same) ∙ (sym c.may_add.ensures ∙ c.if-not-may_add.false) in (
      taken_where history e a.code a.scale a.pieces a.is valid c.ms-at_most_last.ensures.bound may,
      subst (λ (k : List ℕ). IsAddedBy e (record { code = k; scale = a.scale })) (sym same) (adds_its_asset e a.code a.scale a.pieces a.is),
    )
