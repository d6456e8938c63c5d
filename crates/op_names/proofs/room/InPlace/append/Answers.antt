use Rattle.std.proofs.Common.{◌≡◌, ◌+◌, ◌-◌, ◌≤◌, ◌++◌, ℕ, List, length, take, replicate, sym, ap, ◌∙◌, arith, length-take}
use Rattle.op_names.proofs.Rooms.{filled, length-filled, length-room, take_front}
use Rattle.op_names.proofs.room.InPlace.append.Goals as goal

fits_kept : (n len p : ℕ) (kept seen : List ℕ) → length kept ≡ n → len ≤ n → take len kept ≡ seen → length seen + p ≤ n → len + p ≤ n
fits_kept n len p kept seen size short view h = omega (arith, length-take len kept, ap length view)

pub invariant_of-self : goal.invariant_of-self
invariant_of-self g c =
    let len = c.self.inside.len in
    let kept = c.self.inside.kept in
    let part = c.args.part.now in
    let inv = c.self.invariant in
    let fits : len + length part ≤ g.row.N = fits_kept g.row.N len (length part) kept c.args.self.now inv.0 inv.1 c.self.view_is c.requires in
    let k : len + length part ≡ length (take len kept ++ part) = length-filled g.row.N len kept part inv.0 fits in
    let is = filled g.row.N len kept part inv.0 fits inv.2 in
    rw (c.copy_from_slice.ensures.after, is) (length-room g.row.N _ (take len kept ++ part) k fits, fits, ap (λ t. t ++ replicate (g.row.N - (len + length part)) 0) (sym (take_front (take len kept ++ part) _ _ k)))

pub returns : goal.returns
returns g c =
    let len = c.self.inside.len in
    let kept = c.self.inside.kept in
    let part = c.args.part.now in
    let inv = c.self.invariant in
    let fits : len + length part ≤ g.row.N = fits_kept g.row.N len (length part) kept c.args.self.now inv.0 inv.1 c.self.view_is c.requires in
    let k : len + length part ≡ length (take len kept ++ part) = length-filled g.row.N len kept part inv.0 fits in
    let is = filled g.row.N len kept part inv.0 fits inv.2 in
    rw (c.copy_from_slice.ensures.after, is) (take_front (take len kept ++ part) _ _ k ∙ ap (λ t. t ++ part) c.self.view_is)
