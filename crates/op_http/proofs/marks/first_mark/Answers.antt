use Rattle.std.proofs.Common.{◌≡◌, ◌<◌, ◌+◌, ◌&&◌, ◌||◌, Bool, length, take, not, nat_eq, codes, sym, ap, ◌∙◌, arith, below_more}
use Rattle.std.specs.List.{ends_with, list_any}
use Rattle.std.proofs.lemmas.List.Folds.{list_any_more}
use Rattle.op_model.specs.Requests.{is_line_byte}
use Rattle.op_http.proofs.Windows.{below_all}
use Rattle.op_http.proofs.marks.first_mark.Goals as goal

pub loop-i-preserved : goal.loop-i-preserved
loop-i-preserved c =
    let t = c.args.text.now in
    let i = c.loop-i.i in
    let within : i < length t = omega arith in
    let more = list_any_more (λ b. not (is_line_byte b)) t i 0 within in
    let other : c.either-other.result ≡ list_any (λ b. not (is_line_byte b)) (take (i + 1) t) = cc in
    record {
      other = other;
      none = below_more _ _ c.loop-i.invariant.none (ap (λ (o : Bool). (ends_with nat_eq (take (i + 1) t) (codes "\n\n") || ends_with nat_eq (take (i + 1) t) (codes "\n\r\n")) && o) (sym other) ∙ (sym c.is_marked.ensures ∙ c.if-is_marked.false));
    }

pub returns : goal.returns
returns c =
    below_all c.args.text.now (λ k below. c.loop-i.invariant.none k (omega arith))

pub loop-i-init : goal.loop-i-init
loop-i-init c = record { other = c.has_other-other.ensures; none = λ k below. c.requires.none k (omega arith) }

pub returns-then-is_marked : goal.returns-then-is_marked
returns-then-is_marked c =
    let t = c.args.text.now in
    let i = c.loop-i.i in
    let within : i < length t = omega arith in
    let more = list_any_more (λ b. not (is_line_byte b)) t i 0 within in
    let other : c.either-other.result ≡ list_any (λ b. not (is_line_byte b)) (take (i + 1) t) = cc in
    record {
      ends = ap (λ (o : Bool). (ends_with nat_eq (take (i + 1) t) (codes "\n\n") || ends_with nat_eq (take (i + 1) t) (codes "\n\r\n")) && o) (sym other) ∙ (sym c.is_marked.ensures ∙ c.if-is_marked.true);
      first = c.loop-i.invariant.none;
      within = omega (arith, within);
    }
