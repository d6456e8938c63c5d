use Rattle.std.proofs.Common.{◌≡◌, ap, sym, ◌∙◌}
use Rattle.op_model.specs.History.{nth}
use Rattle.op_grant.specs.Tokens.{grant_at}
use Rattle.op_grant.proofs.Finding.{is_live, nowhere, one_grant, somewhere}
use Rattle.op_grant.proofs.grants.Grants.grant_of.Goals as goal

pub returns-in_err-place_of : goal.returns-in_err-place_of
returns-in_err-place_of c =
    let token = c.args.token.now in
    rw (c.from_residual.ensures, ← c.self.view_is)
    (sym (nowhere c.self.inside.tokens c.self.inside.rows.items c.args.t token c.self.invariant
    (λ n row there live f. absurd (let none = c.in_err-place_of.ensures f.place f.drawn in cc none))))

pub returns-in_err-n : goal.returns-in_err-n
returns-in_err-n c =
    let token = c.args.token.now in
    rw (c.from_residual-in_err-n.ensures, ← c.self.view_is)
    (sym (nowhere c.self.inside.tokens c.self.inside.rows.items c.args.t token c.self.invariant
    (λ n row there live f.
    let same = c.in_ok-place_of.ensures f.place f.drawn in
    let place : c.in_ok-place_of.field-0 ≡ f.place = cc same in
    absurd (let none = c.in_err-n.ensures ∙ ap (grant_at c.self.inside.tokens.tokens) place ∙ f.at in cc none))))

pub returns-in_err-row : goal.returns-in_err-row
returns-in_err-row c =
    let token = c.args.token.now in
    let rows = c.self.inside.rows.items in
    let none = c.in_err-row.ensures ∙ ap (λ v. nth v.rows c.in_ok-n.n) (sym c.self.view_is) in
    rw (c.from_residual-in_err-row.ensures, ← c.self.view_is)
    (sym (nowhere c.self.inside.tokens rows c.args.t token c.self.invariant
    (λ n row there live f.
    let same = one_grant c.self.inside.tokens c.in_ok-place_of.field-0 c.in_ok-n.n n token c.in_ok-place_of.ensures (sym c.in_ok-n.ensures) f in
    absurd (let nothing = none ∙ ap (nth rows) (sym same) ∙ there in cc nothing))))

pub returns-then-is_live : goal.returns-then-is_live
returns-then-is_live c =
    let rows = c.self.inside.rows.items in
    let there = ap (λ v. nth v.rows c.in_ok-n.n) c.self.view_is ∙ sym c.in_ok-row.ensures in
    rw (← c.self.view_is)
    (sym (somewhere c.self.inside.tokens rows c.args.t c.args.token.now c.in_ok-place_of.field-0 c.in_ok-n.n c.in_ok-row.row.now c.self.invariant
    c.in_ok-place_of.ensures (sym c.in_ok-n.ensures) there (sym c.if-is_live.ensures)))

pub returns-else-is_live : goal.returns-else-is_live
returns-else-is_live c =
    let token = c.args.token.now in
    let rows = c.self.inside.rows.items in
    let here = ap (λ v. nth v.rows c.in_ok-n.n) c.self.view_is ∙ sym c.in_ok-row.ensures in
    rw (← c.self.view_is)
    (sym (nowhere c.self.inside.tokens rows c.args.t token c.self.invariant
    (λ n row there live f.
    let same = one_grant c.self.inside.tokens c.in_ok-place_of.field-0 c.in_ok-n.n n token c.in_ok-place_of.ensures (sym c.in_ok-n.ensures) f in
    let both = sym here ∙ ap (nth rows) (sym same) ∙ there in
    let is : c.in_ok-row.row.now ≡ row = cc both in
    absurd (let e = c.if-is_live.ensures ∙ ap (is_live c.args.t token) is ∙ live in cc e))))
