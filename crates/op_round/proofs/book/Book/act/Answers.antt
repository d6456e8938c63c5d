use Rattle.std.proofs.Common.{◌≡◌, refl, subst, ap}
use Rattle.std.specs.Prelude.{Some, slice_get}
use Rattle.std.specs.declared.option.Option.{Option}
use Rattle.op_model.specs.declared.reply.Reply.{Reply}
use Rattle.op_round.specs.Books.{IsActed}
use Rattle.op_round.proofs.Keeping.{picked, same_there}
use Rattle.op_round.proofs.book.Book.act.Goals as goal

pub reply-requires : goal.reply-requires
reply-requires g c = (c.act_at.ensures.0, c.act_at.ensures.2)

pub returns : goal.returns
returns g c =
    let e = c.act_at.ensures in
    let same : Some e.0 ≡ Some c.reply.result.now = same_there (slice_get c.act_at.new.self.replies c.args.index) (Some e.0) (Some c.reply.result.now) e.2 c.reply.ensures in
    let reply : e.0 ≡ c.reply.result.now = ap (picked e.0) same in (
      (refl, λ _. tt, subst (λ (r : Reply). IsActed g.F.FeeTerms.allows c.args.self.now c.act_at.new.self c.args.index c.args.word.now c.args.task.now r) reply e.1),
      record { after = tt },
    )
