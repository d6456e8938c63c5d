-- From the plan of a request to the plain wallet's answer.
use Rattle.std.proofs.Common.{◌≡◌, ℕ, ◌≤◌, true, false, List, [], ◌∷◌, ◌++◌, refl, ◌∙◌, sym, ap, subst, inl, inr, Some, None, Option, Result, append-nil, IfSome, IfNone}
use Rattle.std.specs.Prelude.{IsTrue, MatchOption}
use Rattle.op_time.specs.declared.TheConstants.{LAST}
use Rattle.op_model.specs.Answer.{body_for, ask_outcome, fee_asked}
use Rattle.op_model.specs.History.{last_moment, with_act}
use Rattle.op_model.specs.Legal.{IsNext, is_proper}
use Rattle.op_model.specs.PaymentAnswers.{FeeAsked}
use Rattle.op_model.specs.Round.{FeesAllowed, IsFee, refusal_reply}
use Rattle.op_model.specs.declared.act.Act.{Act}
use Rattle.op_model.specs.declared.act.Entry.{Entry}
use Rattle.op_model.specs.declared.reply.Refusal.{Refusal}
use Rattle.op_model.specs.declared.reply.Refusal.TheVariants.{Memory}
use Rattle.op_model.specs.declared.reply.Reply.{Reply}
use Rattle.op_model.specs.declared.reply.ReplyBody.{ReplyBody}
use Rattle.op_model.specs.declared.request.Request.{Request}
use Rattle.op_model.specs.declared.request.Request.TheVariants as requests
use Rattle.op_model.specs.declared.request.Task.TheVariants.{Ask}
use Rattle.op_model.specs.declared.request.Verdict.{Verdict}
use Rattle.op_legal.specs.Keeps.{IsAsked}
use Rattle.op_legal.proofs.Next.{answered_next}
use Rattle.op_plans.specs.Plans.{IsPlan}
use Rattle.op_wallet.specs.Answers.{Handles, is_built_request, reply_with}
use Rattle.op_wallet.specs.Wallets.{WalletValue, with_taken}
use Rattle.op_plans.specs.declared.plan.Plan.TheVariants.{Refused, Told, Acts}

-- ---- no fee is asked

asks_no_fee : (history : List Entry) (t : ℕ) (request : Request) (verdict : Verdict) → IsTrue (is_built_request request) → fee_asked history t (Ask request verdict) ≡ None
asks_no_fee history t (requests.MakeQuote address receiver asked) verdict built = absurd (let e : false ≡ true = built in cc)
asks_no_fee history t (requests.MakeOutgoing address asked metadata) verdict built = absurd (let e : false ≡ true = built in cc)
asks_no_fee history t _ verdict built = refl

zero_is : (let n : ℕ = 0 in n ≡ 0)
zero_is = refl

no_fee : (allows : FeesAllowed) (history : List Entry) (t : ℕ) (request : Request) (verdict : Verdict) → IsTrue (is_built_request request) → IsFee allows history t (Ask request verdict) 0
no_fee allows history t request verdict built =
    subst (λ (o : Option FeeAsked). MatchOption o (let n : ℕ = 0 in n ≡ 0) (λ asked. allows asked.pair asked.amount 0)) (sym (asks_no_fee history t request verdict built)) zero_is

-- ---- what is handled

module _ (allows : FeesAllowed) (history : List Entry) (t place : ℕ) (word : List ℕ) (request : Request) (verdict : Verdict) (built : IsTrue (is_built_request request)) where
  pub wants_memory : (reply : Reply) → reply ≡ refusal_reply history Memory → Handles allows history t place (Ask request verdict) word reply history
  wants_memory reply is = (0, true, inl (refl, (tt, ap (λ (r : Reply). r.body) is), refl))

  pub refused_handles : (refusal : Refusal) (reply : Reply) → IsPlan history t word 0 request verdict (Refused refusal) → reply ≡ refusal_reply history refusal → Handles allows history t place (Ask request verdict) word reply history
  refused_handles refusal reply plan is = (
    0,
    false,
    inr (
      refl,
      no_fee allows history t request verdict built,
      is ∙ ap (λ (r : Result (Option Act) Refusal). (ask_outcome history t request verdict r).reply) (sym plan),
      sym (append-nil history) ∙ ap (λ (r : Result (Option Act) Refusal). with_act history t (ask_outcome history t request verdict r).act) (sym plan),
    ),
  )

  pub told_handles : (body : ReplyBody) (reply : Reply) → IsPlan history t word 0 request verdict (Told body) → reply ≡ reply_with history body → Handles allows history t place (Ask request verdict) word reply history
  told_handles body reply plan is = (
    0,
    false,
    inr (
      refl,
      no_fee allows history t request verdict built,
      is ∙ ap (reply_with history) plan.1 ∙ ap (λ (h : List Entry). reply_with h (body_for h t request verdict)) (sym (append-nil history))
          ∙ ap (λ (r : Result (Option Act) Refusal). (ask_outcome history t request verdict r).reply) (sym plan.0),
      sym (append-nil history) ∙ ap (λ (r : Result (Option Act) Refusal). with_act history t (ask_outcome history t request verdict r).act) (sym plan.0),
    ),
  )

  pub acted_handles : (act : Act) (body : ReplyBody) (reply : Reply) (new : List Entry) → IsPlan history t word 0 request verdict (Acts act body) → new ≡ history ++ record { at = t; act = act } ∷ [] → reply ≡ reply_with new body
      → Handles allows history t place (Ask request verdict) word reply new
  acted_handles act body reply new plan grown is =
      let after = history ++ record { at = t; act = act } ∷ [] in (
        0,
        false,
        inr (
          refl,
          no_fee allows history t request verdict built,
          is ∙ ap (λ (h : List Entry). reply_with h body) grown ∙ ap (reply_with after) plan.1
              ∙ ap (λ (r : Result (Option Act) Refusal). (ask_outcome history t request verdict r).reply) (sym plan.0),
          grown ∙ ap (λ (r : Result (Option Act) Refusal). with_act history t (ask_outcome history t request verdict r).act) (sym plan.0),
        ),
      )

-- ---- a wallet behind an act that was to be taken

pub record WasTaken (old new : WalletValue) (t : ℕ) (act : Act) (body : ReplyBody) (reply : Reply) (e : Entry) : Type 0 where
  pub entry_is : e ≡ record { at = t; act = act }
  pub grown : new ≡ with_taken old e
  pub reply_is : reply ≡ reply_with new.history body

module _ (allows : FeesAllowed) (old new : WalletValue) (t place : ℕ) (word : List ℕ) (request : Request) (verdict : Verdict) (built : IsTrue (is_built_request request)) (act : Act) (body : ReplyBody) (reply : Reply)
    (plan : IsPlan old.history t word 0 request verdict (Acts act body)) where
  pub act_handles : (entry : Option Entry) → IfSome entry (λ e. (e ≡ record { at = t; act = act }) × (new ≡ with_taken old e) × (reply ≡ reply_with new.history body)) → IfNone entry ((new ≡ old) × (reply ≡ refusal_reply old.history Memory))
      → Handles allows old.history t place (Ask request verdict) word reply new.history
  act_handles (Some e) is none =
      let grown : new.history ≡ old.history ++ record { at = t; act = act } ∷ [] = ap (λ (w : WalletValue). w.history) is.1 ∙ ap (λ (k : Entry). old.history ++ k ∷ []) is.0 in
      acted_handles allows old.history t place word request verdict built act body reply new.history plan grown is.2
  act_handles None is none =
      let wanted = none in
      subst (λ (h : List Entry). Handles allows old.history t place (Ask request verdict) word reply h) (sym (ap (λ (w : WalletValue). w.history) wanted.0))
      (wants_memory allows old.history t place word request verdict built reply wanted.1)

-- ---- the act may follow

pub planned_next : (history : List Entry) (t : ℕ) (word : List ℕ) (request : Request) (verdict : Verdict) (act : Act) (body : ReplyBody) → last_moment history ≤ t → t ≤ LAST → IsTrue (is_built_request request) → IsTrue (is_proper history (Ask request verdict)) → IsPlan history t word 0 request verdict (Acts act body)
    → IsNext history (record { at = t; act = act })
planned_next history t word request verdict act body later limit built proper plan =
    let asked : IsAsked history t 0 (Ask request verdict) = record {
      later = later;
      limit = limit;
      proper = proper;
      charged = subst (λ (o : Option FeeAsked). MatchOption o (let n : ℕ = 0 in n ≡ 0) (λ a. 0 ≤ a.amount)) (sym (asks_no_fee history t request verdict built)) zero_is;
    } in
    answered_next history t word 0 (Ask request verdict) act asked (ap (λ (r : Result (Option Act) Refusal). (ask_outcome history t request verdict r).act) plan.0)
