use Rattle.std.proofs.Common.{◌≡◌, ◌∙◌, ◌+◌, length, sym, ap, arith, Some, cond}
use Rattle.std.proofs.lemmas.List.{length_push}
use Rattle.std.specs.Str.{bytes_eq}
use Rattle.op_naming.proofs.Texts.{put_texts, numbered_next}
use Rattle.op_naming.proofs.index.Index.add.Goals as goal

pub returns : goal.returns
returns c keys is fresh =
    let key = c.args.key.items in
    let number : c.args.self.now.count + 1 ≡ 1 + length keys = omega (arith, is.count) in
    record {
      count = omega (arith, is.count, length_push keys key);
      numbers =
          λ text. put_texts c.args.self.now.numbers.entries c.insert.new.self.entries c.args.key (c.args.self.now.count + 1) c.in-Ok.ensures.updates.0 text
          ∙ ap (λ o. cond (bytes_eq key text) (Some (c.args.self.now.count + 1)) o) (is.numbers text)
          ∙ sym (numbered_next keys key text (c.args.self.now.count + 1) (sym (is.numbers key) ∙ fresh) number);
    }
