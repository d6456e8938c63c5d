use Rattle.std.proofs.Common.{◌+◌, ◌<◌, length, arith, ◌∙◌}
use Rattle.op_disk.proofs.Moments.{started, goes_on}
use Rattle.op_journal.specs.Frames.{limit}
use Rattle.op_journal.specs.Commits.{SpellsEither}
use Rattle.op_journal.proofs.Steps.{at_start, staging, opening, opened, settled_again}
use Rattle.op_journal.proofs.commits.write_frame.Goals as goal

pub returns-in_err-sync-clause-any_moment : goal.returns-in_err-sync-clause-any_moment
returns-in_err-sync-clause-any_moment g c told payloads holds =
    let settled = c.requires.settled told in
    let body = c.args.body.now in
    let whole = c.requires.body in
    let room : c.args.tail + length body < limit = omega (arith, c.requires.room) in
    let P = SpellsEither payloads c.args.tail body in
    let disk = g.D.Disk in
    let old = c.args.disk.now in
    let start = started disk old P (λ x left. at_start c.args.tail _ _ settled body whole payloads holds room x (g.met.D.Disk.only_now old x left)) in
    let first = staging c.args.tail _ _ settled body whole payloads holds room _ _ c.write_at.ensures.crash in
    let written = goes_on disk old old c.write_at.new.self P _ start c.write_at.ensures.time first in
    goes_on disk old c.write_at.new.self c.sync.new.self P _ written c.sync.ensures.time (λ x now. first x (c.sync.ensures.crash x now))

pub returns-in_err-write_at-2-clause-any_moment : goal.returns-in_err-write_at-2-clause-any_moment
returns-in_err-write_at-2-clause-any_moment g c told payloads holds =
    let settled = c.requires.settled told in
    let body = c.args.body.now in
    let whole = c.requires.body in
    let room : c.args.tail + length body < limit = omega (arith, c.requires.room) in
    let P = SpellsEither payloads c.args.tail body in
    let disk = g.D.Disk in
    let old = c.args.disk.now in
    let start = started disk old P (λ x left. at_start c.args.tail _ _ settled body whole payloads holds room x (g.met.D.Disk.only_now old x left)) in
    let first = staging c.args.tail _ _ settled body whole payloads holds room _ _ c.write_at.ensures.crash in
    let written = goes_on disk old old c.write_at.new.self P _ start c.write_at.ensures.time first in
    let kept = goes_on disk old c.write_at.new.self c.sync.new.self P _ written c.sync.ensures.time (λ x now. first x (c.sync.ensures.crash x now)) in
    let is = c.in_ok-sync.ensures.seen ∙ c.in_ok-write_at.ensures.written told in
    let second = opening c.args.tail _ _ settled body whole payloads holds room _ _ _ is c.in_ok-sync.ensures.durable c.write_at-2.ensures.crash in
    goes_on disk old c.sync.new.self c.write_at-2.new.self P _ kept c.write_at-2.ensures.time second

pub returns-in_err-sync-2-clause-any_moment : goal.returns-in_err-sync-2-clause-any_moment
returns-in_err-sync-2-clause-any_moment g c told payloads holds =
    let settled = c.requires.settled told in
    let body = c.args.body.now in
    let whole = c.requires.body in
    let room : c.args.tail + length body < limit = omega (arith, c.requires.room) in
    let P = SpellsEither payloads c.args.tail body in
    let disk = g.D.Disk in
    let old = c.args.disk.now in
    let start = started disk old P (λ x left. at_start c.args.tail _ _ settled body whole payloads holds room x (g.met.D.Disk.only_now old x left)) in
    let first = staging c.args.tail _ _ settled body whole payloads holds room _ _ c.write_at.ensures.crash in
    let written = goes_on disk old old c.write_at.new.self P _ start c.write_at.ensures.time first in
    let kept = goes_on disk old c.write_at.new.self c.sync.new.self P _ written c.sync.ensures.time (λ x now. first x (c.sync.ensures.crash x now)) in
    let is = c.in_ok-sync.ensures.seen ∙ c.in_ok-write_at.ensures.written told in
    let second = opening c.args.tail _ _ settled body whole payloads holds room _ _ _ is c.in_ok-sync.ensures.durable c.write_at-2.ensures.crash in
    let gated = goes_on disk old c.sync.new.self c.write_at-2.new.self P _ kept c.write_at-2.ensures.time second in
    goes_on disk old c.write_at-2.new.self c.sync-2.new.self P _ gated c.sync-2.ensures.time (λ x now. second x (c.sync-2.ensures.crash x now))

pub returns-clause-any_moment : goal.returns-clause-any_moment
returns-clause-any_moment g c told payloads holds =
    let settled = c.requires.settled told in
    let body = c.args.body.now in
    let whole = c.requires.body in
    let room : c.args.tail + length body < limit = omega (arith, c.requires.room) in
    let P = SpellsEither payloads c.args.tail body in
    let disk = g.D.Disk in
    let old = c.args.disk.now in
    let start = started disk old P (λ x left. at_start c.args.tail _ _ settled body whole payloads holds room x (g.met.D.Disk.only_now old x left)) in
    let first = staging c.args.tail _ _ settled body whole payloads holds room _ _ c.write_at.ensures.crash in
    let written = goes_on disk old old c.write_at.new.self P _ start c.write_at.ensures.time first in
    let kept = goes_on disk old c.write_at.new.self c.sync.new.self P _ written c.sync.ensures.time (λ x now. first x (c.sync.ensures.crash x now)) in
    let is = c.in_ok-sync.ensures.seen ∙ c.in_ok-write_at.ensures.written told in
    let second = opening c.args.tail _ _ settled body whole payloads holds room _ _ _ is c.in_ok-sync.ensures.durable c.write_at-2.ensures.crash in
    let gated = goes_on disk old c.sync.new.self c.write_at-2.new.self P _ kept c.write_at-2.ensures.time second in
    goes_on disk old c.write_at-2.new.self c.sync-2.new.self P _ gated c.sync-2.ensures.time (λ x now. second x (c.sync-2.ensures.crash x now))

pub returns-clause-spells : goal.returns-clause-spells
returns-clause-spells g c told payloads holds =
    let settled = c.requires.settled told in
    let body = c.args.body.now in
    let whole = c.requires.body in
    let room : c.args.tail + length body < limit = omega (arith, c.requires.room) in
    let is = c.in_ok-sync.ensures.seen ∙ c.in_ok-write_at.ensures.written told in
    let made = c.in_ok-sync-2.ensures.seen ∙ c.in_ok-write_at-2.ensures.written told in
    opened c.args.tail _ _ settled body whole payloads holds room _ _ is made

pub returns-clause-settled : goal.returns-clause-settled
returns-clause-settled g c told =
    let is = c.in_ok-sync.ensures.seen ∙ c.in_ok-write_at.ensures.written told in
    let made = c.in_ok-sync-2.ensures.seen ∙ c.in_ok-write_at-2.ensures.written told in
    settled_again c.args.tail _ _ (c.requires.settled told) c.args.body.now c.requires.body _ _ is made _ c.in_ok-sync-2.ensures.durable
