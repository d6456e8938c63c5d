use Rattle.op_grant.proofs.Indexing.{room_left, behind_left}
use Rattle.op_grant.proofs.tokens.Tokens.replace.Goals as goal

pub push-requires-clause-room : goal.push-requires-clause-room
push-requires-clause-room c =
    room_left c.args.self.now c.take_away.new.self c.args.last c.args.token.grant c.requires.room c.take_away.ensures.tokens c.take_away.ensures.room

pub push-requires-clause-behind : goal.push-requires-clause-behind
push-requires-clause-behind c =
    behind_left c.args.self.now c.take_away.new.self c.args.last c.args.token.grant c.args.token.place c.requires.room c.take_away.ensures.tokens c.requires.behind
