use Rattle.std.proofs.Common.{◌≡◌, ◌≤◌, ◌*◌, ◌∙◌, None, sym, subst}
use Rattle.op_time.specs.Calendar.{Date, day_number, months_later, past_last_day}
use Rattle.op_time.specs.Interval.{Interval, IsInterval}
use Rattle.op_time.specs.Starts.{start_of}
use Rattle.op_time.proofs.Starting.{starts_rise, start_of-none, start_of-day, nominal_start-by_seconds, nominal_start-by_day}
use Rattle.op_time.proofs.Interval.start_of.Goals as goal

pub returns-then-seconds-from-clause-rises : goal.returns-then-seconds-from-clause-rises
returns-then-seconds-from-clause-rises c =
    starts_rise c.args.self.now (subst IsInterval c.self.view_is c.self.invariant)

pub returns-in-None-clause-rises : goal.returns-in-None-clause-rises
returns-in-None-clause-rises c =
    starts_rise c.args.self.now (subst IsInterval c.self.view_is c.self.invariant)

pub returns-in-Some-clause-rises : goal.returns-in-Some-clause-rises
returns-in-Some-clause-rises c =
    starts_rise c.args.self.now (subst IsInterval c.self.view_is c.self.invariant)

pub returns-then-seconds-from-clause-value : goal.returns-then-seconds-from-clause-value
returns-then-seconds-from-clause-value c =
    let i : Interval = record { count = c.self.inside.count; start = c.self.inside.start; months = c.self.inside.months; seconds = c.self.inside.seconds } in
    let IsNone : Interval → Type 0 = λ i. None ≡ start_of i c.args.j in
    let late = rw (c.from.ensures, c.from-2.ensures, c.from-3.ensures) at c.if-seconds-from.true in
    subst IsNone c.self.view_is (sym (start_of-none i c.args.j (nominal_start-by_seconds i c.args.j late)))

pub returns-in-None-clause-value : goal.returns-in-None-clause-value
returns-in-None-clause-value c =
    let i : Interval = record { count = c.self.inside.count; start = c.self.inside.start; months = c.self.inside.months; seconds = c.self.inside.seconds } in
    let IsNone : Interval → Type 0 = λ i. None ≡ start_of i c.args.j in
    let first = rw c.ms-start.ensures.value at c.date_of-first.ensures.value in
    let IsLate : Date → Type 0 = λ date. past_last_day ≤ day_number (months_later date (c.args.j * c.self.inside.months)) in
    let late = subst IsLate first (rw (c.from-4.ensures, c.from-5.ensures) at c.in-None.ensures) in
    subst IsNone c.self.view_is (sym (start_of-none i c.args.j (nominal_start-by_day i c.args.j late)))

pub returns-in-Some-clause-value : goal.returns-in-Some-clause-value
returns-in-Some-clause-value c =
    let i : Interval = record { count = c.self.inside.count; start = c.self.inside.start; months = c.self.inside.months; seconds = c.self.inside.seconds } in
    let IsStart : Interval → Type 0 = λ i. c.checked.result ≡ start_of i c.args.j in
    let first = rw c.ms-start.ensures.value at c.date_of-first.ensures.value in
    let IsDay : Date → Type 0 = λ date. c.in-Some.day ≡ day_number (months_later date (c.args.j * c.self.inside.months)) in
    let day = subst IsDay first (rw (c.from-4.ensures, c.from-5.ensures) at c.in-Some.ensures.0) in
    let ms = rw (c.ms-start.ensures.value, c.from.ensures, c.from-2.ensures) at c.checked.ensures in
    subst IsStart c.self.view_is (ms ∙ sym (start_of-day i c.args.j c.in-Some.day day))
