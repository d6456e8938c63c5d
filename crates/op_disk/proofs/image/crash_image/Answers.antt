use Rattle.std.proofs.Common.{◌≡◌, ◌<◌, ◌^◌, length, arith, rules}
use Rattle.op_disk.proofs.Images.{wanted_made}
use Rattle.op_disk.specs.Memory.{written, newest}
use Rattle.op_disk.proofs.image.crash_image.Goals as goal

pub returns-clause-wanted : goal.returns-clause-wanted
returns-clause-wanted c allowed =
    let i = c.loop-place.invariant in
    let fits : length c.args.wanted.now < 2 ^ 63 = search rules in
    let size : length c.loop-place.image.items ≡ length c.args.wanted.now = omega (arith, fits, allowed.no_shorter, allowed.no_longer) in
    wanted_made c.args.synced.now (written (newest c.args.calls.now)) c.loop-place.image.items c.args.wanted.now allowed size
    (λ k inside. i.stays k (omega (arith, inside, i.size))) (λ k inside. i.free k (omega (arith, inside, i.size)))
