use Rattle.std.proofs.Common.{sym, subst, ap}
use Rattle.op_granting.specs.Keeping.{IsGrantsOf, HasRoom}
use Rattle.op_granting.proofs.Taking.{room_kept, room_made, no_room}
use Rattle.op_granting.proofs.spending.make_room.Goals as goal

pub returns-in_default-clause-room : goal.returns-in_default-clause-room
returns-in_default-clause-room c = no_room c.args.grants.now c.args.n c.args.at (sym c.in_default.ensures)

pub returns-clause-room : goal.returns-clause-room
returns-clause-room c =
    subst (λ v. HasRoom v c.args.n c.args.at) (sym c.in_ok-reserve_spending.ensures.ok) (room_made c.args.grants.now c.args.n c.args.at c.in-Some.j (sym c.in-Some.ensures))

pub returns-clause-kept : goal.returns-clause-kept
returns-clause-kept c =
    λ history are. subst (IsGrantsOf history) (sym c.in_ok-reserve_spending.ensures.ok) (room_kept history c.args.grants.now c.args.n c.in-Some.j are)

pub returns-clause-rows : goal.returns-clause-rows
returns-clause-rows c = ap (λ v. v.rows) c.in_ok-reserve_spending.ensures.ok
