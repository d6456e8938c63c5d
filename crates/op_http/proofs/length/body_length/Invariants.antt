use Rattle.std.proofs.Common.{◌≡◌, true, codes, drop, IfSome}
use Rattle.op_model.specs.Requests.{body_length, values_of, is_length}
use Rattle.op_http.specs.Lengths.{told_with}
use Rattle.op_http.proofs.length.body_length.Given as goal

abbrev pub invariant-loop-field : goal.invariant-loop-field
invariant-loop-field l =
    record {
      form : IfSome l.told (λ value. is_length value.now ≡ true);
      same : told_with l.told (values_of (codes "content-length") (drop l.field-index l.fields)) ≡ body_length l.fields;
    }
