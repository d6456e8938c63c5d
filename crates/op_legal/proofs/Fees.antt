-- The fee rule is asked on an amount, and what it may answer there is at most that.
use Rattle.std.proofs.Common.{◌≡◌, ℕ, ◌≤◌, Bool, true, false, cond, List, refl, arith, Some, None, Option}
use Rattle.std.specs.Prelude.{nat_lt, MatchOption}
use Rattle.std.specs.Option.{option_map, option_and_then}
use Rattle.std.specs.Result.{result_ok}
use Rattle.std.proofs.lemmas.Bool.Decides.{nat_tests}
use Rattle.op_amount.specs.Prices.{fee_base}
use Rattle.op_amount.specs.declared.Pair.{Pair}
use Rattle.op_amount.specs.declared.TheConstants.{TOP}
use Rattle.op_model.specs.Answer.{fee_asked, fee_asked_by}
use Rattle.op_model.specs.Asking.{Found, address_named}
use Rattle.op_model.specs.PaymentAnswers.{FeeAsked, Pricing, QuotePricing, fee_of_pricing, quote_pricing, direct_pricing, receiver_named}
use Rattle.op_model.specs.Round.{FeesAllowed, IsFee}
use Rattle.op_model.specs.declared.act.Entry.{Entry}
use Rattle.op_model.specs.declared.request.PaymentAsked.TheVariants.{Quoted, Direct}
use Rattle.op_model.specs.declared.request.Request.{Request}
use Rattle.op_model.specs.declared.request.Request.TheVariants as requests
use Rattle.op_model.specs.declared.request.Task.{Task}
use Rattle.op_model.specs.declared.request.Task.TheVariants.{Ask, Step, Expire, Attempt}
use Rattle.op_model.specs.declared.request.Verdict.{Verdict}
use Rattle.op_model.specs.declared.row.IncomingRow.{IncomingRow}
use Rattle.op_legal.specs.Rounds.{AreWithin}

abbrev pub IsSmall : Option FeeAsked → Type 0
IsSmall asked = MatchOption asked (Unit {0}) (λ a. a.amount ≤ TOP)

small_where : (pair : Pair) (n : ℕ) (b : Bool) → nat_lt TOP n ≡ b → IsSmall (option_map (λ amount. let a : FeeAsked = record { pair = pair; amount = amount } in a) (cond b None (Some n)))
small_where pair n true h = tt
small_where pair n false h = grind (arith, nat_tests)

small_pricing : (p : Pricing) → IsSmall (fee_of_pricing p)
small_pricing p = small_where p.pair (fee_base p.rate p.mode) (nat_lt TOP (fee_base p.rate p.mode)) refl

small_then : {X : Type 0} (f : X → Option FeeAsked) (o : Option X) → ((x : X) → IsSmall (f x)) → IsSmall (option_and_then f o)
small_then f None each = tt
small_then f (Some x) each = each x

small_request : (history : List Entry) (t : ℕ) (request : Request) (verdict : Verdict) → IsSmall (fee_asked_by history t request verdict)
small_request history t (requests.MakeQuote address receiver asked) verdict =
    small_then (λ (q : QuotePricing). fee_of_pricing q.pricing) (result_ok (quote_pricing history t address receiver asked verdict)) (λ q. small_pricing q.pricing)
small_request history t (requests.MakeOutgoing address (Quoted quote) metadata) verdict = tt
small_request history t (requests.MakeOutgoing address (Direct receiver debit) metadata) verdict =
    small_then (λ (n : ℕ). option_and_then (λ (it : Found IncomingRow). option_and_then fee_of_pricing (result_ok (direct_pricing history debit n it))) (receiver_named history receiver)) (address_named history address)
    (λ n. small_then (λ (it : Found IncomingRow). option_and_then fee_of_pricing (result_ok (direct_pricing history debit n it))) (receiver_named history receiver)
    (λ it. small_then fee_of_pricing (result_ok (direct_pricing history debit n it)) small_pricing))
small_request history t _ verdict = tt

pub small_asked : (history : List Entry) (t : ℕ) (task : Task) → IsSmall (fee_asked history t task)
small_asked history t (Ask request verdict) = small_request history t request verdict
small_asked history t (Step payment k) = tt
small_asked history t (Expire incoming) = tt
small_asked history t (Attempt event outcome) = tt

charged_by : (allows : FeesAllowed) (asked : Option FeeAsked) (fee : ℕ) → AreWithin allows → IsSmall asked → MatchOption asked (fee ≡ 0) (λ a. allows a.pair a.amount fee) → MatchOption asked (fee ≡ 0) (λ a. fee ≤ a.amount)
charged_by allows None fee within small h = h
charged_by allows (Some a) fee within small h = within a.pair a.amount fee small h

-- what the terms allow is charged
pub charged : (allows : FeesAllowed) (history : List Entry) (t : ℕ) (task : Task) (fee : ℕ) → AreWithin allows → IsFee allows history t task fee → MatchOption (fee_asked history t task) (fee ≡ 0) (λ a. fee ≤ a.amount)
charged allows history t task fee within h = charged_by allows (fee_asked history t task) fee within (small_asked history t task) h
