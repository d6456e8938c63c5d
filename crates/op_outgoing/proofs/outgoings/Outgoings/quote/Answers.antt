use Rattle.std.proofs.Common.{◌∙◌, sym, ap}
use Rattle.op_model.specs.History.{nth}
use Rattle.op_outgoing.proofs.Quotes.{quote_found}
use Rattle.op_outgoing.proofs.outgoings.Outgoings.quote.Goals as goal

pub returns-clause-value : goal.returns-clause-value
returns-clause-value c =
    let lookup = c.in_ok-quoted.ensures.lookup in
    sym (quote_found c.self.inside.quotes.items c.deref.result.now c.args.n c.in_ok-place.place c.in_ok-quoted.quoted.now c.deref.ensures.value c.in_ok-place.ensures lookup.3.0 lookup.1)
    ∙ ap (λ value. nth value.quotes c.args.n) c.self.view_is
