use Rattle.std.proofs.Common.{◌∙◌, sym, ap}
use Rattle.op_model.specs.declared.act.Act.{Act}
use Rattle.op_noting.specs.Kept.{after_act}
use Rattle.op_noting.proofs.Following.{goes_on}
use Rattle.op_noting.proofs.Noted.{both_noted, plain_act, room_left}
use Rattle.op_noting.proofs.noting.note_act.Goals as goal

pub returns-in-Attempted-clause-follows : goal.returns-in-Attempted-clause-follows
returns-in-Attempted-clause-follows c =
    let a = c.args in
    goes_on a.events.now c.attempt.new.events (record { at = a.at; act = a.act.now }) a.touched.now
    (c.attempt.ensures ∙ sym (ap (λ (act : Act). after_act a.events.now a.at act a.touched.now) c.in-Attempted.is))

pub returns : goal.returns
returns c =
    let a = c.args in
    let noted = both_noted a.events.now c.note_outgoing.new.events c.note_incoming.new.events a.at a.act.now a.touched.now c.outgoing_word.result c.incoming_word.result
    c.note_outgoing.ensures c.note_incoming.ensures c.outgoing_word.ensures c.incoming_word.ensures in
    let value = noted ∙ plain_act a.events.now a.at a.act.now a.touched.now c.in_default.not-Attempted in
    record {
      value = value;
      follows = goes_on a.events.now c.note_incoming.new.events (record { at = a.at; act = a.act.now }) a.touched.now value;
      room = room_left a.events.now c.note_incoming.new.events a.at a.act.now a.touched.now noted;
    }
