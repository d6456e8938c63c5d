use Rattle.std.proofs.Common.{◌≡◌, subst}
use Rattle.op_http.specs.Held.{Held}
use Rattle.op_http.specs.Reader.{Reads}
use Rattle.op_round.proofs.prepare.prepare_conn.Goals as goal

pub returns-clause-prepared : goal.returns-clause-prepared
returns-clause-prepared g c = (
  c.next-read.new.self,
  c.next-read.result,
  subst (λ (h : Held). Reads h c.next-read.new.self (g.C.Source.left c.args.conn.now) (g.C.Source.left c.next-read.new.source) c.next-read.result) c.new-reader.ensures c.next-read.ensures.reads,
  c.follow.ensures.follows,
)
