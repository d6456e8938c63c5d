use Rattle.std.proofs.Common.{◌≡◌, List, ap, sym, subst, ◌∙◌}
use Rattle.std.specs.Prelude.{Some, None, slice_get}
use Rattle.std.specs.declared.option.Option.{Option}
use Rattle.std.proofs.lemmas.Option.{slice_get_within}
use Rattle.op_model.specs.declared.reply.Reply.{Reply}
use Rattle.op_desk.specs.Batches.{history_in}
use Rattle.op_round.specs.Books.{BookValue, IsActed}
use Rattle.op_round.proofs.Keeping.{replies_within, kept_next}
use Rattle.op_round.proofs.Rounds.{get_set_same}
use Rattle.op_round.proofs.book.Book.act_at.Goals as goal

pub put-requires : goal.put-requires
put-requires g c =
    replies_within g.F.FeeTerms.allows g.N.Named.start g.N.Named.moment g.N.Named.asked _ c.self.invariant c.args.index (slice_get_within g.N.Named.asked c.args.index _ c.requires.named)

pub invariant_of-self : goal.invariant_of-self
invariant_of-self g c =
    let within = replies_within g.F.FeeTerms.allows g.N.Named.start g.N.Named.moment g.N.Named.asked _ c.self.invariant c.args.index (slice_get_within g.N.Named.asked c.args.index _ c.requires.named) in
    let unused = ap (λ (b : BookValue). slice_get b.batch.used c.args.index) c.self.view_is ∙ c.requires.unused in
    let e = c.act-reply.ensures in
    let new : BookValue = record { batch = c.act-reply.new.self; replies = c.put.new.replies.items } in
    let old : BookValue = record { batch = c.self.inside.batch; replies = c.self.inside.replies.items } in
    let acted : IsActed g.F.FeeTerms.allows old new c.args.index c.args.word.now c.args.task.now c.act-reply.result = record { replies = c.put.ensures; used = e.used; places = e.places; handled = e.handled; tellable = record { built = e.printed; history = history_in c.act-reply.new.self; sound = e.sound; origin = e.origin } } in
    kept_next g.F.FeeTerms.allows g.N.Named.start g.N.Named.moment g.N.Named.asked _ c.self.invariant c.args.index new c.args.word.now c.args.task.now c.act-reply.result c.requires.named unused acted e.begun.0 e.begun.1 within

pub returns : goal.returns
returns g c =
    let e = c.act-reply.ensures in
    let within = replies_within g.F.FeeTerms.allows g.N.Named.start g.N.Named.moment g.N.Named.asked _ c.self.invariant c.args.index (slice_get_within g.N.Named.asked c.args.index _ c.requires.named) in
    let new : BookValue = record { batch = c.act-reply.new.self; replies = c.put.new.replies.items } in
    let old : BookValue = record { batch = c.self.inside.batch; replies = c.self.inside.replies.items } in
    let acted : IsActed g.F.FeeTerms.allows old new c.args.index c.args.word.now c.args.task.now c.act-reply.result = record { replies = c.put.ensures; used = e.used; places = e.places; handled = e.handled; tellable = record { built = e.printed; history = history_in c.act-reply.new.self; sound = e.sound; origin = e.origin } } in (
      c.act-reply.result,
      subst (λ (b : BookValue). IsActed g.F.FeeTerms.allows b new c.args.index c.args.word.now c.args.task.now c.act-reply.result) c.self.view_is acted,
      ap (λ (l : List (Option Reply)). slice_get l c.args.index) c.put.ensures ∙ get_set_same c.self.inside.replies.items c.args.index (Some c.act-reply.result) within,
    )
