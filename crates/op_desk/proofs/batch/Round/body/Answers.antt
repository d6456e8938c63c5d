use Rattle.op_desk.proofs.Rounds.{frame_body, payload_some}
use Rattle.op_desk.specs.Wallets.{round_payload}
use Rattle.op_desk.proofs.batch.Round.body.Goals as goal

pub returns-clause-whole : goal.returns-clause-whole
returns-clause-whole c = (frame_body c.round_body.result.now (round_payload c.args.self.now.wallet) (payload_some c.args.self.now.wallet) c.round_body.ensures).whole

pub returns-clause-payload : goal.returns-clause-payload
returns-clause-payload c = (frame_body c.round_body.result.now (round_payload c.args.self.now.wallet) (payload_some c.args.self.now.wallet) c.round_body.ensures).payload_is

pub returns-clause-length : goal.returns-clause-length
returns-clause-length c = (frame_body c.round_body.result.now (round_payload c.args.self.now.wallet) (payload_some c.args.self.now.wallet) c.round_body.ensures).length_is
