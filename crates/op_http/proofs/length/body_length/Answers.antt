use Rattle.std.proofs.Common.{codes, sym, ◌∙◌}
use Rattle.op_http.proofs.Telling.{told_other, told_named, told_against}
use Rattle.op_http.proofs.length.body_length.Goals as goal
use Rattle.op_http.proofs.length.body_length.Goals.{then-is_named+in-Some, else-is_named}

pub loop-field-preserved : goal.loop-field-preserved
loop-field-preserved c =
    elim c.if-is_named.branch [
      | then-is_named+in-Some w ↦ record {
        form = rw w.told-is w.in-Some.ensures.form;
        same = rw w.told-is (told_named _ _ _ (codes "content-length") c.args.fields.now _ c.field-item.result _ c.loop-field-test.true c.field-item.is
            (sym c.is_named.ensures ∙ w.if-is_named.true) w.value.ensures w.in-Some.ensures c.loop-field.invariant.same);
      }
      | else-is_named w ↦ record {
        form = rw w.told-is c.loop-field.invariant.form;
        same = rw w.told-is (told_other c.loop-field.told (codes "content-length") c.args.fields.now _ c.field-item.result _ c.loop-field-test.true c.field-item.is
            (sym c.is_named.ensures ∙ w.if-is_named.false) c.loop-field.invariant.same);
      }
    ]

pub returns-in_default : goal.returns-in_default
returns-in_default c =
    sym (told_against c.loop-field.told c.value.result.now (codes "content-length") c.args.fields.now _ c.field-item.result _ c.loop-field-test.true c.field-item.is
    (sym c.is_named.ensures ∙ c.if-is_named.true) c.value.ensures c.in_default.ensures c.loop-field.invariant.same)
