use Rattle.op_record.proofs.RoundLaws.{says_read, says_short, says_bad, whole_is_read, cut_is_told, bad_is_told}
use Rattle.op_record.proofs.rounds.read_round.Goals as goal

pub returns-clause-read : goal.returns-clause-read
returns-clause-read c = says_read _ _ _ c.read_whole.result c.read_whole.ensures.says

pub returns-clause-short : goal.returns-clause-short
returns-clause-short c = says_short _ _ _ c.read_whole.result c.read_whole.ensures.says

pub returns-clause-bad : goal.returns-clause-bad
returns-clause-bad c = λ at e. says_bad _ _ _ c.read_whole.result at c.read_whole.ensures.says e

pub returns-clause-whole : goal.returns-clause-whole
returns-clause-whole c = λ round is. whole_is_read _ _ _ c.read_whole.result c.read_whole.ensures.says round is

pub returns-clause-cut : goal.returns-clause-cut
returns-clause-cut c = λ cut. cut_is_told _ _ _ c.read_whole.result c.read_whole.ensures.says cut

pub returns-clause-strange : goal.returns-clause-strange
returns-clause-strange c = λ at bad. bad_is_told _ _ _ c.read_whole.result at c.read_whole.ensures.says bad
