-- Assets sum to zero.
use Rattle.std.proofs.Common.{◌≡◌, ℕ, ◌+◌, ◌-◌, Bool, true, false, cond, List, [], ◌∷◌, ◌++◌, refl, ◌∙◌, sym, ap, subst, arith, Some, None, Option, sum_by}
use Rattle.std.specs.Prelude.{◌==◌, if◌then◌else◌}
use Rattle.std.specs.List.{AllByRecursion}
use Rattle.std.specs.Option.{option_map_or}
use Rattle.std.proofs.lemmas.List.Sums.{sum_by-append, sum_by-cons}
use Rattle.op_model.specs.Balances.{Movement, movements, legs, act_legs, comes, goes, account_asset, piece_legs}
use Rattle.op_model.specs.History.{nth, address_asset}
use Rattle.op_model.specs.Legal.{IsLegal, IsNext}
use Rattle.op_model.specs.Payments.{PaymentMade, payments_made, payment_so_far}
use Rattle.op_model.specs.declared.act.Account.{Account}
use Rattle.op_model.specs.declared.act.Account.TheVariants.{Outside, Pool, Fees, Wallet}
use Rattle.op_model.specs.declared.act.Act.{Act}
use Rattle.op_model.specs.declared.act.Act.TheVariants as acts
use Rattle.op_model.specs.declared.act.Entry.{Entry}
use Rattle.op_model.specs.declared.row.OutgoingRow.{OutgoingRow}
use Rattle.op_model.proofs.Next.{movements-next}
use Rattle.op_laws.specs.Keep.{AssetsSumToZero}
use Rattle.op_legal.proofs.Induction.{legal_induction}
use Rattle.op_laws.proofs.Known.{AreKnown, all_known, account_stays, account_asset_stays}
use Rattle.op_laws.proofs.Lists.{each_append, each_weaker, each_at, numbers_same}
use Rattle.op_laws.proofs.MakingActs.{IsAddress, IsAccount, AreGood, deposit_acts, withdrawal_acts}
use Rattle.op_laws.proofs.Pieces.{growth_is}

-- ---- sums in an asset, with the addresses of a history

came_in : List Entry → ℕ → List Movement → ℕ
came_in names asset moves = sum_by (λ m. if account_asset names m.account == asset then m.came else 0) moves

went_in : List Entry → ℕ → List Movement → ℕ
went_in names asset moves = sum_by (λ m. if account_asset names m.account == asset then m.went else 0) moves

AreThere : List Entry → List Movement → Type 0
AreThere history moves = AllByRecursion (λ m. IsAccount history m.account) moves

came_stays : (history : List Entry) (e : Entry) (asset : ℕ) (moves : List Movement) → AreThere history moves → came_in (history ++ e ∷ []) asset moves ≡ came_in history asset moves
unfolding came_in AreThere
came_stays history e asset [] there = refl
came_stays history e asset (m ∷ ms) there =
    sum_by-cons (λ m. if account_asset (history ++ e ∷ []) m.account == asset then m.came else 0) m ms
    ∙ ap (λ a. (if a == asset then m.came else 0) + came_in (history ++ e ∷ []) asset ms) (account_asset_stays history e m.account there.0)
    ∙ ap (λ n. (if account_asset history m.account == asset then m.came else 0) + n) (came_stays history e asset ms there.1)
    ∙ sym (sum_by-cons (λ m. if account_asset history m.account == asset then m.came else 0) m ms)

went_stays : (history : List Entry) (e : Entry) (asset : ℕ) (moves : List Movement) → AreThere history moves → went_in (history ++ e ∷ []) asset moves ≡ went_in history asset moves
unfolding went_in AreThere
went_stays history e asset [] there = refl
went_stays history e asset (m ∷ ms) there =
    sum_by-cons (λ m. if account_asset (history ++ e ∷ []) m.account == asset then m.went else 0) m ms
    ∙ ap (λ a. (if a == asset then m.went else 0) + went_in (history ++ e ∷ []) asset ms) (account_asset_stays history e m.account there.0)
    ∙ ap (λ n. (if account_asset history m.account == asset then m.went else 0) + n) (went_stays history e asset ms there.1)
    ∙ sym (sum_by-cons (λ m. if account_asset history m.account == asset then m.went else 0) m ms)

-- ---- the movements of an entry

record AreBalanced (history : List Entry) (moves : List Movement) : Type 0 where
  there : AreThere history moves
  zero : (asset : ℕ) → came_in history asset moves ≡ went_in history asset moves

none_balanced : (history : List Entry) → AreBalanced history []
unfolding came_in went_in AreThere
none_balanced history = record { there = tt; zero = λ asset. refl }

in_out : (b : Bool) (value : ℕ) → 0 + cond b value 0 + cond b 0 0 ≡ 0 + cond b 0 0 + cond b value 0
in_out true value = omega arith
in_out false value = refl

out_in : (b : Bool) (value : ℕ) → 0 + cond b 0 0 + cond b value 0 ≡ 0 + cond b value 0 + cond b 0 0
out_in true value = omega arith
out_in false value = refl

came_balanced : (history : List Entry) (account : Account) (value : ℕ) → IsAccount history account → AreBalanced history (comes value account ∷ goes value (Outside (account_asset history account)) ∷ [])
unfolding came_in went_in AreThere
came_balanced history account value there = record { there = (there, (tt, tt)); zero = λ asset. in_out (account_asset history account == asset) value }

went_balanced : (history : List Entry) (account : Account) (value : ℕ) → IsAccount history account → AreBalanced history (goes value account ∷ comes value (Outside (account_asset history account)) ∷ [])
unfolding came_in went_in AreThere
went_balanced history account value there = record { there = (there, (tt, tt)); zero = λ asset. out_in (account_asset history account == asset) value }

-- a piece within one asset, and between two
one_asset : (a b : Bool) (sent fee : ℕ) → a ≡ b → 0 + cond a 0 0 + cond a fee 0 + cond b sent 0 ≡ 0 + cond a (sent + fee) 0 + cond a 0 0 + cond b 0 0
one_asset true true sent fee is = omega arith
one_asset false false sent fee is = refl
one_asset true false sent fee is = absurd (let e : true ≡ false = is in cc)
one_asset false true sent fee is = absurd (let e : false ≡ true = is in cc)

two_assets : (a b : Bool) (sent fee delivered : ℕ) → 0 + cond a 0 0 + cond a fee 0 + cond a sent 0 + cond b 0 0 + cond b delivered 0 ≡ 0 + cond a (sent + fee) 0 + cond a 0 0 + cond a 0 0 + cond b delivered 0 + cond b 0 0
two_assets true true sent fee delivered = omega arith
two_assets true false sent fee delivered = omega arith
two_assets false true sent fee delivered = omega arith
two_assets false false sent fee delivered = refl

unfoldable pub legs_by : Bool → List Entry → (payer payee sent fee delivered : ℕ) → List Movement
legs_by one history payer payee sent fee delivered =
    goes (sent + fee) (Wallet payer) ∷ comes fee (Fees (address_asset history payer))
    ∷ (cond one [] (comes sent (Pool (address_asset history payer)) ∷ goes delivered (Pool (address_asset history payee)) ∷ []) ++ comes (cond one sent delivered) (Wallet payee) ∷ [])

legs_balanced : (one : Bool) (history : List Entry) (payer payee sent fee delivered : ℕ) → (address_asset history payer == address_asset history payee) ≡ one → IsAddress history payer → IsAddress history payee → AreBalanced history (legs_by one history payer payee sent fee delivered)
unfolding came_in went_in AreThere legs_by
legs_balanced true history payer payee sent fee delivered is from into =
    let same = numbers_same (address_asset history payer) (address_asset history payee) is in
    record { there = (from, (tt, (into, tt))); zero = λ asset. one_asset (address_asset history payer == asset) (address_asset history payee == asset) sent fee (ap (λ a. a == asset) same) }
legs_balanced false history payer payee sent fee delivered is from into =
    record { there = (from, (tt, (tt, (tt, (into, tt))))); zero = λ asset. two_assets (address_asset history payer == asset) (address_asset history payee == asset) sent fee delivered }

pub legs_are : (history : List Entry) (old new : OutgoingRow) → piece_legs history old new ≡ legs_by (address_asset history new.terms.payer == address_asset history new.terms.payee) history new.terms.payer new.terms.payee (new.sent - old.sent) (new.fee - old.fee) (new.delivered - old.delivered)
unfolding legs_by
legs_are history old new = refl

piece_balanced : (history : List Entry) (old new : OutgoingRow) → IsAddress history new.terms.payer → IsAddress history new.terms.payee → AreBalanced history (piece_legs history old new)
piece_balanced history old new from into =
    subst (AreBalanced history) (sym (legs_are history old new))
    (legs_balanced (address_asset history new.terms.payer == address_asset history new.terms.payee) history new.terms.payer new.terms.payee (new.sent - old.sent) (new.fee - old.fee) (new.delivered - old.delivered) refl from into)

grown_balanced : (history : List Entry) (e : Entry) (p : ℕ) (found : Option PaymentMade) → ((m : PaymentMade) → found ≡ Some m → AreGood history m.terms)
    → AreBalanced history (option_map_or (λ m. piece_legs history (payment_so_far history (p, m)) (payment_so_far (history ++ e ∷ []) (p, m))) found [])
grown_balanced history e p None good = none_balanced history
grown_balanced history e p (Some m) good =
    let g = good m refl in
    piece_balanced history (payment_so_far history (p, m)) (payment_so_far (history ++ e ∷ []) (p, m)) g.payer g.payee

made_good : (history : List Entry) (p : ℕ) (m : PaymentMade) → AreKnown history → nth (payments_made history) p ≡ Some m → AreGood history m.terms
made_good history p m known is = each_at (λ (m : PaymentMade). AreGood history m.terms) (payments_made history) p m known.payments_are is

act_balanced : (history : List Entry) (t : ℕ) (act : Act) → AreKnown history → IsNext history (record { at = t; act = act }) → AreBalanced history (act_legs history (record { at = t; act = act }) act)
act_balanced history t (acts.Deposited id account value) known next = came_balanced history account value (deposit_acts history t id account value next).there
act_balanced history t (acts.Withdrawn id account value) known next = went_balanced history account value (withdrawal_acts history t id account value next).there
act_balanced history t (acts.OutgoingSent p k) known next =
    let e : Entry = record { at = t; act = acts.OutgoingSent p k } in
    subst (AreBalanced history) (sym (growth_is (piece_legs history) history e p refl)) (grown_balanced history e p (nth (payments_made history) p) (λ m is. made_good history p m known is))
act_balanced history t (acts.OutgoingCompleted p k) known next =
    let e : Entry = record { at = t; act = acts.OutgoingCompleted p k } in
    subst (AreBalanced history) (sym (growth_is (piece_legs history) history e p refl)) (grown_balanced history e p (nth (payments_made history) p) (λ m is. made_good history p m known is))
act_balanced history t _ known next = none_balanced history

-- ---- all movements

all_next : (history : List Entry) (e : Entry) → AreBalanced history (movements history) → AreBalanced history (legs history e) → AreBalanced (history ++ e ∷ []) (movements (history ++ e ∷ []))
unfolding came_in went_in AreThere
all_next history e old new =
    let next : List Entry = history ++ e ∷ [] in
    subst (AreBalanced next) (sym (movements-next history e)) (record {
      there =
          each_weaker (λ (m : Movement). IsAccount history m.account) (λ (m : Movement). IsAccount next m.account) (movements history ++ legs history e) (λ m h. account_stays history e m.account h)
          (each_append (λ (m : Movement). IsAccount history m.account) (movements history) (legs history e) old.there new.there);
      zero =
          λ asset.
          sum_by-append (λ m. if account_asset next m.account == asset then m.came else 0) (movements history) (legs history e)
          ∙ ap (λ n. n + came_in next asset (legs history e)) (came_stays history e asset (movements history) old.there ∙ old.zero asset ∙ sym (went_stays history e asset (movements history) old.there))
          ∙ ap (λ n. went_in next asset (movements history) + n) (came_stays history e asset (legs history e) new.there ∙ new.zero asset ∙ sym (went_stays history e asset (legs history e) new.there))
          ∙ sym (sum_by-append (λ m. if account_asset next m.account == asset then m.went else 0) (movements history) (legs history e));
    })

all_balanced : (history : List Entry) → IsLegal history → AreBalanced history (movements history)
all_balanced = legal_induction (λ history. AreBalanced history (movements history)) (none_balanced [])
    (λ history e legal next old. all_next history e old (act_balanced history e.at e.act (all_known history legal) next))

pub all_zero : AssetsSumToZero
unfolding came_in went_in
all_zero history legal asset = (all_balanced history legal).zero asset
