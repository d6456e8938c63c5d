use Rattle.std.proofs.Common.{◌≡◌, sym, subst, ap, ◌∙◌}
use Rattle.std.specs.Prelude.{OnOk}
use Rattle.op_model.specs.declared.act.Act.TheVariants as acts
use Rattle.op_granting.specs.Keeping.{MayTake, Takes}
use Rattle.op_granting.specs.Models.{asked_act}
use Rattle.op_granting.proofs.Acting.{may_ask}
use Rattle.op_granting.proofs.Keeping.{none_on, other_takes}
use Rattle.op_granting.proofs.take.take_grants.Goals as goal

pub returns-in-GrantAsked-clause-ok : goal.returns-in-GrantAsked-clause-ok
returns-in-GrantAsked-clause-ok c =
    let a = c.in-GrantAsked in
    let may : MayTake c.args.grants.now c.args.next (acts.GrantAsked a.client a.items a.finish a.word) = subst (MayTake c.args.grants.now c.args.next) a.is c.requires.may in
    let fits : asked_act c.in_ok-asked-in-GrantAsked.asked a.word ≡ c.args.act.now =
    ap (λ x. asked_act x a.word) c.in_ok-asked-in-GrantAsked.ensures ∙ (may_ask c.args.grants.now c.args.next a.client a.items a.finish a.word may).fits ∙ sym a.is in
    subst (λ act. OnOk c.take_asked.result (Takes c.args.grants.now c.take_asked.new.grants c.args.next act)) fits c.take_asked.ensures.ok

pub returns-in_default : goal.returns-in_default
returns-in_default c =
    let d = c.in_default in
    record {
      ok =
          other_takes c.args.grants.now c.args.next c.args.act.now
          (none_on c.args.act.now d.not-GrantAsked d.not-GrantAccepted d.not-GrantRejected d.not-GrantPolled d.not-GrantContinued d.not-GrantCancelled d.not-TokenRotated d.not-TokenRevoked)
          c.requires.quiet;
      err = tt;
    }
