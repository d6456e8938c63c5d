use Rattle.std.proofs.Common.{◌≡◌, ◌≢◌, ◌∙◌, ◌+◌, [], ℕ, List, length, ap, sym, subst, arith}
use Rattle.std.proofs.lemmas.Result.{err_from_is_err_and}
use Rattle.op_model.specs.declared.act.Entry.{Entry}
use Rattle.op_record.specs.Rounds.{IsRound, round_of}
use Rattle.op_desk.specs.Batches.{DeskValue, history_in}
use Rattle.op_desk.specs.Spelling.{LacksRoom, Stands, with_round, SpellsRounds}
use Rattle.op_desk.proofs.Closing.{lacks_room, stands_more, image_spells, moments_more, moments_none}
use Rattle.op_desk.proofs.desk.Desk.close_round.Goals as goal

pub returns-in_err-commit-clause-any_moment : goal.returns-in_err-commit-clause-any_moment
returns-in_err-commit-clause-any_moment g c told rounds stands =
    let r = c.into_round-round.ensures in
    let tail : c.args.self.now.tail ≡ c.self.inside.journal.tail = ap (λ (v : DeskValue). v.tail) (sym c.self.view_is) in
    let here : Stands rounds c.self.inside.journal.tail (g.D.Disk.seen c.args.disk.now) (g.D.Disk.images c.args.disk.now) = subst (λ (k : ℕ). Stands rounds k (g.D.Disk.seen c.args.disk.now) (g.D.Disk.images c.args.disk.now)) tail stands in
    let only = c.commit.ensures.any_moment told here.payloads here.holds in
    let b = c.args.batch in
    let body = c.body.result.now in
    let some : b.entries ≢ [] = λ none. let no = r.empty.1 none in cc (no, c.if-not-round.false) in
    let is = subst (λ (l : List ℕ). IsRound l b.entries) (sym c.body.ensures.payload) (r.round c.if-not-round.false) in
    moments_more g.D.Disk c.args.disk.now c.commit.new.disk rounds b.entries here.payloads body c.self.inside.journal.tail some here.are is only

pub returns-in_err-commit-clause-no_room : goal.returns-in_err-commit-clause-no_room
returns-in_err-commit-clause-no_room g c tail need is told =
    let p = err_from_is_err_and c.from_residual.result c.from_residual.ensures.1 in
    let full = c.in_err-commit.ensures.full tail need (cc (p.1, p.2, is)) in
    let stood = c.requires.stands told in
    let here : c.args.self.now.tail ≡ c.self.inside.journal.tail = ap (λ (v : DeskValue). v.tail) (sym c.self.view_is) in
    let disk = c.args.disk.now in
    let r = c.into_round-round.ensures in
    let b = c.args.batch in
    let size : length c.body.result.now ≡ length (round_of b.moment b.entries) + 5 = omega (arith, c.body.ensures.length, ap length r.payload) in
    subst (λ (seen : List ℕ). LacksRoom b.begun (history_in b) seen) (ap g.D.Disk.seen (sym full.3))
    (lacks_room stood.0 b.begun b.entries b.moment c.args.self.now.tail (g.D.Disk.seen disk) (g.D.Disk.images disk) stood.2 (g.met.D.Disk.reads_an_image disk told) stood.1
    (omega (arith, full.0, full.1, full.2, here, size)))

pub returns-clause-any_moment : goal.returns-clause-any_moment
returns-clause-any_moment g c told rounds stands =
    let r = c.into_round-round.ensures in
    let tail : c.args.self.now.tail ≡ c.self.inside.journal.tail = ap (λ (v : DeskValue). v.tail) (sym c.self.view_is) in
    let here : Stands rounds c.self.inside.journal.tail (g.D.Disk.seen c.args.disk.now) (g.D.Disk.images c.args.disk.now) = subst (λ (k : ℕ). Stands rounds k (g.D.Disk.seen c.args.disk.now) (g.D.Disk.images c.args.disk.now)) tail stands in
    let only = c.commit.ensures.any_moment told here.payloads here.holds in
    let b = c.args.batch in
    let body = c.body.result.now in
    let some : b.entries ≢ [] = λ none. let no = r.empty.1 none in cc (no, c.if-not-round.false) in
    let is = subst (λ (l : List ℕ). IsRound l b.entries) (sym c.body.ensures.payload) (r.round c.if-not-round.false) in
    moments_more g.D.Disk c.args.disk.now c.commit.new.disk rounds b.entries here.payloads body c.self.inside.journal.tail some here.are is only

pub returns-clause-stands : goal.returns-clause-stands
returns-clause-stands g c told rounds stands =
    let r = c.into_round-round.ensures in
    let tail : c.args.self.now.tail ≡ c.self.inside.journal.tail = ap (λ (v : DeskValue). v.tail) (sym c.self.view_is) in
    let here : Stands rounds c.self.inside.journal.tail (g.D.Disk.seen c.args.disk.now) (g.D.Disk.images c.args.disk.now) = subst (λ (k : ℕ). Stands rounds k (g.D.Disk.seen c.args.disk.now) (g.D.Disk.images c.args.disk.now)) tail stands in
    let e = c.in_ok-commit.ensures in
    let b = c.args.batch in
    let body = c.body.result.now in
    let some : b.entries ≢ [] = λ none. let no = r.empty.1 none in cc (no, c.if-not-round.false) in
    let is = subst (λ (l : List ℕ). IsRound l b.entries) (sym c.body.ensures.payload) (r.round c.if-not-round.false) in
    let more = stands_more rounds b.entries here.payloads body c.commit.new.journal.tail (g.D.Disk.seen c.commit.new.disk) (g.D.Disk.images c.commit.new.disk) some here.are is (e.spells told here.payloads here.holds) (e.settled told) in
    subst (λ (k : ℕ). Stands (with_round rounds c.args.batch.entries) k (g.D.Disk.seen c.commit.new.disk) (g.D.Disk.images c.commit.new.disk)) (sym c.take_back-2.ensures.same.0) more

pub returns-clause-images : goal.returns-clause-images
returns-clause-images g c told rounds stands x image =
    image_spells (with_round rounds c.args.batch.entries) c.take_back-2.new.self.tail (g.D.Disk.seen c.commit.new.disk) (g.D.Disk.images c.commit.new.disk) x (returns-clause-stands g c told rounds stands) image

-- ---- a round without entries

pub returns-then-not-round-clause-images : goal.returns-then-not-round-clause-images
returns-then-not-round-clause-images g c told rounds stands x image =
    let none : c.args.batch.entries ≡ [] = c.into_round-round.ensures.empty.0 c.if-not-round.true in
    subst (λ (round : List Entry). SpellsRounds (with_round rounds round) x) (sym none)
    (image_spells rounds c.args.self.now.tail (g.D.Disk.seen c.args.disk.now) (g.D.Disk.images c.args.disk.now) x stands image)

pub returns-then-not-round-clause-any_moment : goal.returns-then-not-round-clause-any_moment
returns-then-not-round-clause-any_moment g c told rounds stands =
    moments_none g.D.Disk g.met.D.Disk.only_now c.args.disk.now rounds c.args.batch.entries c.args.self.now.tail stands
