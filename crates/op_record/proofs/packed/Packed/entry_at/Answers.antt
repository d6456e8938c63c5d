use Rattle.std.proofs.Common.{◌≡◌, ◌∙◌, ◌+◌, ◌-◌, ◌/◌, ◌%◌, ◌<◌, ◌≤◌, ℕ, List, Ok, Err, Result, drop, ap, sym, subst, arith, length, get_or}
use Rattle.std.specs.Prelude.{IfOk}
use Rattle.std.specs.declared.alloc.AllocError.{AllocError}
use Rattle.op_model.specs.declared.act.Entry.{Entry}
use Rattle.op_record.specs.declared.packed.Point.{Point}
use Rattle.op_record.specs.declared.packed.Packed.TheInside.{Inside}
use Rattle.op_record.specs.Packing.{PackedValue, held}
use Rattle.op_record.specs.PackedInside.{IsKept, packed_of}
use Rattle.op_record.proofs.PackedSteps.{IsFoundBy, found_by, whole_bytes}
use Rattle.op_record.proofs.packed.Packed.entry_at.Goals as goal

found : (p : Inside) (v : PackedValue) (place : ℕ) (q : Point) → IsKept p → packed_of p ≡ v → 1 ≤ place → place ≤ length v.entries → q ≡ get_or p.points.items ((place - 1) / 16) q → IsFoundBy p.bytes.items (place - 1) q
found p v place q kept view low high is =
    let all : length (held 0 p.bytes.items) ≡ length v.entries = ap (λ (v : PackedValue). length v.entries) view in
    subst (λ (q : Point). IsFoundBy p.bytes.items (place - 1) q) (sym is)
    (found_by p.bytes.items p.points.items (place - 1) q (whole_bytes p.moment p.bytes.items p.points.items p.start p.before kept.stands)
    (omega (arith, kept.pointed, kept.counted, all, low, high)) (omega (arith, all, low, high)))

-- the bytes from the point on
behind : (p : Inside) (bytes rest : List ℕ) (place : ℕ) → bytes ≡ p.bytes.items → rest ≡ drop place bytes → rest ≡ drop place p.bytes.items
behind p bytes rest place whole is = is ∙ ap (λ (l : List ℕ). drop place l) whole

is_entry : (read : Result Entry AllocError) (p : Inside) (v : PackedValue) (place : ℕ) (q : Point) (rest : List ℕ) → packed_of p ≡ v → IsFoundBy p.bytes.items (place - 1) q → rest ≡ drop q.place p.bytes.items
    → IfOk read (λ entry. entry ≡ get_or (held q.moment rest) ((place - 1) % 16) entry) → IfOk read (λ entry. entry ≡ get_or v.entries (place - 1) entry)
is_entry (Err e) p v place q rest view found is read = tt
is_entry (Ok x) p v place q rest view found is read =
    read ∙ ap (λ (l : List ℕ). get_or (held q.moment l) ((place - 1) % 16) x) is ∙ found.same x ∙ ap (λ (v : PackedValue). get_or v.entries (place - 1) x) view

pub split_at-requires : goal.split_at-requires
split_at-requires c =
    omega (
      arith,
      (found c.self.inside c.args.self.now c.args.place c.index-point.result.now c.self.invariant c.self.view_is c.requires.low c.requires.high c.index-point.ensures).within,
      ap length c.as_slice.ensures.value,
    )

pub entry_in-requires-clause-low : goal.entry_in-requires-clause-low
entry_in-requires-clause-low c = (found c.self.inside c.args.self.now c.args.place c.index-point.result.now c.self.invariant c.self.view_is c.requires.low c.requires.high c.index-point.ensures).low

pub entry_in-requires-clause-there : goal.entry_in-requires-clause-there
entry_in-requires-clause-there c =
    let q = c.index-point.result.now in
    let there = (found c.self.inside c.args.self.now c.args.place q c.self.invariant c.self.view_is c.requires.low c.requires.high c.index-point.ensures).there in
    subst (λ (l : List ℕ). (c.args.place - 1) % 16 < length (held q.moment l)) (sym (behind c.self.inside _ _ q.place c.as_slice.ensures.value c.split_at.ensures.back)) there

pub returns : goal.returns
returns c =
    let q = c.index-point.result.now in
    is_entry c.entry_in.result c.self.inside c.args.self.now c.args.place q _ c.self.view_is (found c.self.inside c.args.self.now c.args.place q c.self.invariant c.self.view_is c.requires.low c.requires.high c.index-point.ensures)
    (behind c.self.inside _ _ q.place c.as_slice.ensures.value c.split_at.ensures.back) c.entry_in.ensures
