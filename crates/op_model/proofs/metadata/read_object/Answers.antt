use Rattle.std.proofs.Common.{rules, ◌∙◌, sym, inl, inr}
use Rattle.std.proofs.lemmas.Slice.Eq.{bytes_eq-Decides}
use Rattle.serde_json.specs.View.{view}
use Rattle.op_model.proofs.PrintedObjects.{printed-found, printed-refused}
use Rattle.op_model.proofs.metadata.read_object.Goals as goal
use Rattle.op_model.proofs.metadata.read_object.Goals.{then-is_memory, else-is_memory}

pub returns-in-Err-clause-err : goal.returns-in-Err-clause-err
returns-in-Err-clause-err c = elim c.if-is_memory.branch [
  | then-is_memory w ↦ inl w.result-is
  | else-is_memory w ↦ inr (w.result-is, printed-refused c.args.bytes.now (λ u. c.in-Err.ensures.err (λ m. search rules) u))
]

pub returns-then-eq-clause-ok : goal.returns-then-eq-clause-ok
returns-then-eq-clause-ok c =
    let same = (bytes_eq-Decides c.as_slice.result.now c.args.bytes.now).0 (sym c.eq.ensures ∙ c.if-eq.true) in
    let plain = sym c.has_float.ensures ∙ c.if-has_float.false in
    printed-found c.args.bytes.now (view c.in-Ok.value) c.in-Ok.ensures.ok.0 c.in-Ok.ensures.ok.1 (search rules) plain
    (sym same ∙ c.as_slice.ensures.value ∙ c.in-Ok-to_vec.ensures.text plain)
