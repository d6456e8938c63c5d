use Rattle.std.proofs.Common.{◌≡◌, ◌∙◌, sym, ap}
use Rattle.std.specs.Option.{option_copied}
use Rattle.op_model.specs.Messages.{message_of}
use Rattle.op_noting.specs.Laws.{IsMessage}
use Rattle.op_noting.proofs.Reading.{message_told, within}
use Rattle.op_noting.proofs.messages.hook.Goals as goal

pub returns : goal.returns
returns c =
    let a = c.args in
    within c.message.result (λ bytes. bytes.items ≡ message_of a.origin.now a.path.now a.event c.in-Some.row.now a.t a.secret.now)
    (λ bytes. IsMessage a.events.now a.origin.now a.path.now a.event a.t a.secret.now bytes.items)
    (λ bytes is. message_told a.events.now a.origin.now a.path.now a.event a.t a.secret.now bytes.items c.in-Some.row.now (sym c.row.ensures ∙ ap option_copied c.in-Some.is) is)
    c.message.ensures
