use Rattle.std.proofs.Common.{◌≡◌, ◌<◌, Bool, true, false, length, ap, sym, subst, ◌∙◌, rules, arith}
use Rattle.std.specs.Prelude.{Some, None, slice_get}
use Rattle.std.specs.Option.{is_some}
use Rattle.std.specs.declared.option.Option.{Option}
use Rattle.std.proofs.lemmas.Option.{get_or_from_slice_get}
use Rattle.op_model.specs.declared.reply.Reply.{Reply}
use Rattle.op_round.specs.Books.{BookValue, IsKept}
use Rattle.op_round.proofs.Keeping.{replies_within, used_told}
use Rattle.op_round.proofs.book.Book.is_used.Goals as goal

pub index-requires : goal.index-requires
index-requires g c =
    let within : c.args.index < length c.self.inside.replies.items = replies_within g.F.FeeTerms.allows g.N.Named.start g.N.Named.moment g.N.Named.asked _ c.self.invariant c.args.index c.requires in
    search rules

pub returns-clause-used : goal.returns-clause-used
returns-clause-used g c =
    let kept = subst (λ (b : BookValue). IsKept g.F.FeeTerms.allows g.N.Named.start g.N.Named.moment g.N.Named.asked b) c.self.view_is c.self.invariant in
    let seen = ap (λ (b : BookValue). slice_get b.replies c.args.index) c.self.view_is in
    let found = c.index.ensures in
    used_told g.F.FeeTerms.allows g.N.Named.start g.N.Named.moment g.N.Named.asked c.args.self.now kept c.args.index c.requires c.is_some.result
    (λ none. c.is_some.ensures ∙ ap (λ (o : Option Reply). is_some o) (found ∙ get_or_from_slice_get c.self.inside.replies.items c.args.index None c.index.result.now (seen ∙ none)))
    (λ r some. c.is_some.ensures ∙ ap (λ (o : Option Reply). is_some o) (found ∙ get_or_from_slice_get c.self.inside.replies.items c.args.index (Some r) c.index.result.now (seen ∙ some)))
