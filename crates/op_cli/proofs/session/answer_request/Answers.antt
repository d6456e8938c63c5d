use Rattle.std.proofs.Common.{◌≡◌, ◌++◌, [], List, Err, sym, subst, ◌∙◌}
use Rattle.std.proofs.lemmas.List.{append-nil}
use Rattle.std.specs.Io.KnownBytes.{Appends}
use Rattle.std.specs.declared.result.Result.{Result}
use Rattle.op_desk.specs.Wallets.{Handles}
use Rattle.op_model.specs.History.{moment_of_turn}
use Rattle.op_session.specs.Built.{meant_so_far}
use Rattle.op_model.specs.Printed.{printed}
use Rattle.op_model.specs.Round.{refusal_reply}
use Rattle.op_model.specs.Verdicts.{verdict_of}
use Rattle.op_model.specs.declared.act.Entry.{Entry}
use Rattle.op_model.specs.declared.reply.Refusal.{Refusal}
use Rattle.op_model.specs.declared.reply.Refusal.TheVariants.{Memory}
use Rattle.op_model.specs.declared.request.Request.{Request}
use Rattle.op_model.specs.declared.request.Task.TheVariants.{Ask}
use Rattle.op_model.specs.declared.request.Verdict.{Verdict}
use Rattle.op_session.specs.Session.{settled}
use Rattle.op_session.specs.Stood.{Stood, now}
use Rattle.op_cli.specs.Kept.{history_at}
use Rattle.op_cli.specs.Turns.{Told, NotTold, NotHandled, NotWritten, Answers}
use Rattle.op_cli.proofs.Journals.{leaves_same, leaves_none}
use Rattle.op_cli.proofs.Results.{on_ok_map, if_err_map}
use Rattle.op_cli.proofs.RoundLemmas.{answers_handled, answers_refused, answers_wanting, not_told, not_told_refused}
use Rattle.op_cli.proofs.session.answer_request.Goals as goal

pub run_request-requires-clause-fit : goal.run_request-requires-clause-fit
run_request-requires-clause-fit g c = c.in-Ok.ensures.fit

pub returns-in-Ok-clause-ok : goal.returns-in-Ok-clause-ok
returns-in-Ok-clause-ok g c =
    let verdict = verdict_of (g.V.Verifier.accepts c.args.outside.now.verifier) c.args.raw.now in
    on_ok_map c.run_request.result
    (λ handles stood is.
    let old = now stood in
    let done = handles stood is in
    let entries = done.0 in
    let handled = done.2 in (
      entries,
      done.1,
      subst (λ (asked : Result Request Refusal). Told g.F.FeeTerms.allows old entries (g.K.Sink.written c.args.outside.now.sink) (g.K.Sink.written c.run_request.new.outside.sink) verdict c.args.asked.now.answer c.args.asked.now.word asked) (sym c.in-Ok.ensures.meant)
          (handled.0, answers_handled g.F.FeeTerms.allows old entries verdict c.args.asked.now.answer c.args.asked.now.word c.in-Ok.request handled.0 (subst (λ (v : Verdict). Handles g.F.FeeTerms.allows old (moment_of_turn old c.args.asked.now.answer) 0 (Ask c.in-Ok.request v) c.args.asked.now.word handled.0 (old ++ entries)) c.in-Ok.ensures.asker handled.1), handled.2),
      done.3,
    ))
    c.run_request.ensures.ok

pub returns-in-Ok-clause-err : goal.returns-in-Ok-clause-err
returns-in-Ok-clause-err g c =
    let verdict = verdict_of (g.V.Verifier.accepts c.args.outside.now.verifier) c.args.raw.now in
    if_err_map c.run_request.result
    (λ end failing stood is.
    let failed = failing stood is in (
      failed.0,
      subst (λ (asked : Result Request Refusal). NotTold g.F.FeeTerms.allows stood (g.K.Sink.written c.args.outside.now.sink) (g.K.Sink.written c.run_request.new.outside.sink) verdict c.args.asked.now.answer c.args.asked.now.word asked end failed.0) (sym c.in-Ok.ensures.meant)
          (not_told g.F.FeeTerms.allows stood _ _ c.args.asked.now.answer c.args.asked.now.word c.in-Ok.request verdict end failed.0
          (subst (λ (v : Verdict). NotHandled g.F.FeeTerms.allows stood (g.K.Sink.written c.args.outside.now.sink) (g.K.Sink.written c.run_request.new.outside.sink) c.args.asked.now.answer c.args.asked.now.word (Ask c.in-Ok.request v) end failed.0) c.in-Ok.ensures.asker failed.1)),
      failed.2,
    ))
    c.run_request.ensures.err

-- a reply that adds nothing
unchanged : (history : List Entry) (s : Stood) → now s ≡ history → history ≡ now s ++ []
unchanged history s is = sym is ∙ sym (append-nil (now s))

pub returns-in-Err-Refused-clause-ok : goal.returns-in-Err-Refused-clause-ok
returns-in-Err-Refused-clause-ok g c =
    let history = history_at c.args.desk.now in
    let verdict = verdict_of (g.V.Verifier.accepts c.args.outside.now.verifier) c.args.raw.now in
    let refusal = c.in-Err-Refused.refusal in
    let meant_so : meant_so_far c.args.raw.now ≡ Err refusal = rw c.in-Err-Refused.field-0-is at c.in-Err-Refused.ensures.meant in
    on_ok_map c.refuse_request.result
    (λ written stood is. (
      [],
      unchanged history stood is,
      (
        refusal_reply (now stood) refusal,
        subst (λ (asked : Result Request Refusal). Answers g.F.FeeTerms.allows (now stood) verdict c.args.asked.now.answer c.args.asked.now.word asked (refusal_reply (now stood) refusal) []) (sym meant_so) (answers_refused g.F.FeeTerms.allows (now stood) verdict c.args.asked.now.answer c.args.asked.now.word refusal),
        subst (λ (h : List Entry). Appends (g.K.Sink.written c.args.outside.now.sink) (g.K.Sink.written c.refuse_request.new.sink) (printed (refusal_reply h refusal))) (sym is) written,
      ),
      leaves_none g.D.Disk g.met.D.Disk.only_now history c.args.outside.now.disk c.requires.sound stood is,
    ))
    c.refuse_request.ensures.ok

pub returns-in-Err-Refused-clause-err : goal.returns-in-Err-Refused-clause-err
returns-in-Err-Refused-clause-err g c =
    let history = history_at c.args.desk.now in
    let verdict = verdict_of (g.V.Verifier.accepts c.args.outside.now.verifier) c.args.raw.now in
    let refusal = c.in-Err-Refused.refusal in
    let meant_so : meant_so_far c.args.raw.now ≡ Err refusal = rw c.in-Err-Refused.field-0-is at c.in-Err-Refused.ensures.meant in
    if_err_map c.refuse_request.result
    (λ end failed stood is. (
      settled stood,
      not_told_refused g.F.FeeTerms.allows stood _ _ c.args.asked.now.answer c.args.asked.now.word verdict (meant_so_far c.args.raw.now) (refusal_reply (now stood) refusal) end
          (subst (λ (asked : Result Request Refusal). Answers g.F.FeeTerms.allows (now stood) verdict c.args.asked.now.answer c.args.asked.now.word asked (refusal_reply (now stood) refusal) []) (sym meant_so) (answers_refused g.F.FeeTerms.allows (now stood) verdict c.args.asked.now.answer c.args.asked.now.word refusal))
          (subst (λ (h : List Entry). NotWritten (refusal_reply h refusal) (g.K.Sink.written c.args.outside.now.sink) (g.K.Sink.written c.refuse_request.new.sink) end) (sym is) failed),
      leaves_same g.D.Disk g.met.D.Disk.only_now history c.args.outside.now.disk c.requires.sound stood is,
    ))
    c.refuse_request.ensures.err

pub returns-in-Err-Memory-clause-ok : goal.returns-in-Err-Memory-clause-ok
returns-in-Err-Memory-clause-ok g c =
    let history = history_at c.args.desk.now in
    let verdict = verdict_of (g.V.Verifier.accepts c.args.outside.now.verifier) c.args.raw.now in
    on_ok_map c.refuse_request-in-Err-Memory.result
    (λ written stood is. (
      [],
      unchanged history stood is,
      (
        refusal_reply (now stood) Memory,
        answers_wanting g.F.FeeTerms.allows (now stood) verdict c.args.asked.now.answer c.args.asked.now.word (meant_so_far c.args.raw.now),
        subst (λ (h : List Entry). Appends (g.K.Sink.written c.args.outside.now.sink) (g.K.Sink.written c.refuse_request-in-Err-Memory.new.sink) (printed (refusal_reply h Memory))) (sym is) written,
      ),
      leaves_none g.D.Disk g.met.D.Disk.only_now history c.args.outside.now.disk c.requires.sound stood is,
    ))
    c.refuse_request-in-Err-Memory.ensures.ok

pub returns-in-Err-Memory-clause-err : goal.returns-in-Err-Memory-clause-err
returns-in-Err-Memory-clause-err g c =
    let history = history_at c.args.desk.now in
    let verdict = verdict_of (g.V.Verifier.accepts c.args.outside.now.verifier) c.args.raw.now in
    if_err_map c.refuse_request-in-Err-Memory.result
    (λ end failed stood is. (
      settled stood,
      not_told_refused g.F.FeeTerms.allows stood _ _ c.args.asked.now.answer c.args.asked.now.word verdict (meant_so_far c.args.raw.now) (refusal_reply (now stood) Memory) end (answers_wanting g.F.FeeTerms.allows (now stood) verdict c.args.asked.now.answer c.args.asked.now.word (meant_so_far c.args.raw.now))
          (subst (λ (h : List Entry). NotWritten (refusal_reply h Memory) (g.K.Sink.written c.args.outside.now.sink) (g.K.Sink.written c.refuse_request-in-Err-Memory.new.sink) end) (sym is) failed),
      leaves_same g.D.Disk g.met.D.Disk.only_now history c.args.outside.now.disk c.requires.sound stood is,
    ))
    c.refuse_request-in-Err-Memory.ensures.err
