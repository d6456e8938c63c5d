use Rattle.std.proofs.Common.{refl}
use Rattle.std.proofs.lemmas.Result.{on_ok_weaker, on_err_weaker}
use Rattle.op_parts.specs.declared.parts.Parts.{Parts}
use Rattle.op_parts.proofs.Leaving.{grant_alone}
use Rattle.op_parts.proofs.Taking.{may_take_grant, grant_taken, grants_kept}
use Rattle.op_parts.proofs.parts.Parts.take_grant.Goals as goal

pub take_grants-requires-clause-may : goal.take_grants-requires-clause-may
take_grants-requires-clause-may c = may_take_grant c.args.self.now c.args.place c.args.entry.now c.requires.may

pub take_grants-requires-clause-quiet : goal.take_grants-requires-clause-quiet
take_grants-requires-clause-quiet c = (grant_alone c.args.entry.now.act c.requires.on).quiet

pub returns-clause-ok : goal.returns-clause-ok
returns-clause-ok c =
    let old = c.args.self.now in
    let new : Parts = record { names = old.names; money = old.money; grants = c.take_grants.new.grants } in
    on_ok_weaker c.take_grants.result (λ takes. grant_taken old new c.args.place c.args.entry.now c.requires.on refl refl takes) c.take_grants.ensures.ok

pub returns-clause-err : goal.returns-clause-err
returns-clause-err c =
    let old = c.args.self.now in
    let new : Parts = record { names = old.names; money = old.money; grants = c.take_grants.new.grants } in
    on_err_weaker c.take_grants.result (λ same. grants_kept old new refl refl same) c.take_grants.ensures.err
