use Rattle.std.proofs.Common.{take, drop, ap, ◌∙◌, zero-add}
use Rattle.std.specs.List.{position_or_len}
use Rattle.op_names.specs.Forms.{is_slash}
use Rattle.op_names.specs.Names.{pointer_origin, pointer_path}
use Rattle.op_names.proofs.Naming.{reads_pointer}
use Rattle.op_names.proofs.names.read_pointer.Goals as goal

pub returns : goal.returns
returns c =
    let pointer = c.args.pointer.now in
    let at = zero-add (position_or_len is_slash pointer) in
    let host = c.cut.ensures.origin ∙ ap (λ n. take n pointer) at in
    let path = c.cut.ensures.path ∙ ap (λ n. drop n pointer) at in
    reads_pointer pointer _ _ _ (c.as_str.ensures.value ∙ c.in_ok-origin.ensures.ok ∙ ap pointer_origin host) (c.pointer_path.ensures ∙ ap (λ t. pointer_path t) path) c.portless_at.ensures
