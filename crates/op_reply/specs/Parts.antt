-- Parts of bodies that are printed before the rest.
use Rattle.std.specs.Prelude.{codes}
use Rattle.op_amount.specs.Scaled.{scaled}
use Rattle.op_model.specs.declared.reply.FeedEvent.{FeedEvent}
use Rattle.serde_json.specs.Data.{Data, object, member, no_members, string}

-- what an event tells of the amount that was sent
abbrev pub sent_data : FeedEvent → Data
sent_data event = object (
    member (codes "currency") (string event.sent.asset.code) (
    member (codes "value") (string (scaled event.sent.value event.sent.asset.scale)) no_members))
