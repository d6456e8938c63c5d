-- What is read off a history behind one more entry: the origin, rates, and what became of an incoming payment.
use Rattle.std.proofs.Common.{◌≡◌, ℕ, cond, List, [], ◌∷◌, ◌++◌, ◌∙◌, ap, Some, None, Option, append-nil, codes}
use Rattle.std.specs.Prelude.{◌==◌, ◌||◌, unwrap_or}
use Rattle.std.specs.List.{filter_map, list_any}
use Rattle.std.specs.Option.{option_or, option_to_list}
use Rattle.op_amount.specs.declared.Rate.{Rate}
use Rattle.op_model.specs.Events.{Attempt, attempts, attempt_of}
use Rattle.op_model.specs.History.{last, origins, origin_of, origin_set, rate_between, rate_set}
use Rattle.op_model.specs.Incoming.{is_closed, is_closing, is_completing}
use Rattle.op_model.specs.declared.act.Entry.{Entry}
use Rattle.op_model.proofs.GrantParts.{any-append}
use Rattle.op_model.proofs.Next.{last-next, collected-next, origins-next, attempts-next}

pub last-added : {X : Type 0} (xs : List X) (o : Option X) → last (xs ++ option_to_list o) ≡ option_or o (last xs)
last-added xs None = ap last (append-nil xs)
last-added xs (Some x) = last-next xs x

pub origin_of-next : (history : List Entry) (e : Entry) → origin_of (history ++ e ∷ []) ≡ unwrap_or (option_or (origin_set e.act) (last (origins history))) (codes "https://wallet.example")
origin_of-next history e =
    ap (λ (o : Option (List ℕ)). unwrap_or o (codes "https://wallet.example")) (ap (λ (l : List (List ℕ)). last l) (origins-next history e) ∙ last-added (origins history) (origin_set e.act))

-- the rate of a pair of assets is the entry's, where it sets it
pub rate_between-next : (history : List Entry) (e : Entry) (source target : ℕ) → rate_between (history ++ e ∷ []) source target ≡ cond (source == target) (Some (record { num = 1; den = 1 })) (option_or (rate_set source target e.act) (last (filter_map (λ f. rate_set source target f.act) history)))
rate_between-next history e source target =
    ap (λ (o : Option Rate). cond (source == target) (Some (record { num = 1; den = 1 })) o)
    (ap (λ (l : List Rate). last l) (collected-next (λ f. rate_set source target f.act) history e) ∙ last-added (filter_map (λ f. rate_set source target f.act) history) (rate_set source target e.act))

pub last_attempt-next : (history : List Entry) (e : Entry) (n : ℕ) → last (attempts (history ++ e ∷ []) n) ≡ option_or (attempt_of n e.at e.act) (last (attempts history n))
last_attempt-next history e n = ap (λ (l : List Attempt). last l) (attempts-next history e n) ∙ last-added (attempts history n) (attempt_of n e.at e.act)

pub is_closed-next : (history : List Entry) (e : Entry) (i : ℕ) → is_closed (history ++ e ∷ []) i ≡ (is_closed history i || is_closing i e.act)
is_closed-next history e i = any-append (λ (f : Entry). is_closing i f.act) history e

pub was_completed-next : (history : List Entry) (e : Entry) (i : ℕ) → list_any (λ f. is_completing i f.act) (history ++ e ∷ []) ≡ (list_any (λ f. is_completing i f.act) history || is_completing i e.act)
was_completed-next history e i = any-append (λ (f : Entry). is_completing i f.act) history e
