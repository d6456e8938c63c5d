use Rattle.std.proofs.Common.{◌≡◌, ◌++◌, ℕ, List, length, max, sym, subst, ap, ◌∙◌, IsUtf8}
use Rattle.std.proofs.lemmas.List.{append-nil}
use Rattle.op_desk.specs.Batches.{history_in}
use Rattle.op_desk.specs.Wallets.{WalletValue}
use Rattle.op_model.specs.History.{last_moment, moment_of_turn}
use Rattle.op_model.specs.declared.act.Entry.{Entry}
use Rattle.op_cli.specs.Kept.{history_at}
use Rattle.op_cli.proofs.Journals.{whole_is, wallet_is}
use Rattle.op_cli.proofs.Printable.{legal_origin}
use Rattle.op_cli.proofs.RoundLemmas.{handles_same}
use Rattle.op_cli.proofs.session.begin_round.Goals as goal

pub text_of-requires-clause-origin : goal.text_of-requires-clause-origin
text_of-requires-clause-origin g c = subst IsUtf8 (sym c.act-reply.ensures.origin) (legal_origin _ c.act-reply.ensures.sound.legal)

pub returns-clause-answered : goal.returns-clause-answered
returns-clause-answered g c =
    let history = history_at c.args.desk.now in
    let batch = c.in-Ok.batch in
    let fresh = c.in-Ok.ensures.fresh in
    let begun : batch.begun ≡ history = sym (whole_is c.args.desk.now batch.begun c.in-Ok.ensures.begun.0) in
    let is : history_in batch ≡ history = ap (λ (entries : List Entry). batch.begun ++ entries) fresh.1 ∙ (append-nil batch.begun ∙ begun) in
    let wallet = c.wallet.ensures.value in
    let same : c.wallet.result.now.history ≡ history = ap (λ (w : WalletValue). w.history) wallet.2 ∙ sym (wallet_is c.args.desk.now wallet.0 wallet.1) in
    let at : batch.moment ≡ moment_of_turn history c.args.asked.now.answer = (
    fresh.0 ∙ c.later-t.ensures ∙ ap (λ (n : ℕ). max n c.at_most_last.result) (c.last.ensures.value ∙ ap last_moment same) ∙ ap (λ (n : ℕ). max (last_moment history) n) c.at_most_last.ensures
    ) in (
      c.act-reply.result,
      handles_same g.F.FeeTerms.allows (history_in batch) history (history_in c.act-reply.new.self) batch.moment (moment_of_turn history c.args.asked.now.answer) (length batch.entries) 0 c.args.task.now c.args.asked.now.word c.act-reply.result is at (ap length fresh.1) c.act-reply.ensures.handled,
      c.in_ok-text.ensures,
    )
