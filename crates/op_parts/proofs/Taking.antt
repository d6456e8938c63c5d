-- The parts of a history, behind one more entry.
use Rattle.std.proofs.Common.{◌≡◌, ℕ, true, false, List, [], ◌∷◌, ◌++◌, refl, ◌∙◌, sym, ap, subst, arith, Some, None, Option}
use Rattle.std.specs.Prelude.{is_some, IsSome, MatchOption}
use Rattle.op_grant.specs.Value.{GrantsValue, has_row}
use Rattle.op_granting.specs.Keeping.{IsGrantsOf, IsEntryOf, MayTake, Takes, MayPay, Pays, MayFail, Fails}
use Rattle.op_granting.specs.Kinds.{is_on_grants, is_on_spending}
use Rattle.op_granting.specs.Spending.{paid_by}
use Rattle.op_granting.specs.declared.next.NextEntry.{NextEntry}
use Rattle.op_granting.specs.declared.next.PaidUnder.{PaidUnder}
use Rattle.op_granting.proofs.Keeping.{other_takes}
use Rattle.op_granting.proofs.Taking.{paid_there}
use Rattle.op_laws.proofs.Paying.{IsPaying, outgoing_acts}
use Rattle.op_model.specs.History.{asset_added, address_added}
use Rattle.op_model.specs.Legal.{IsNext}
use Rattle.op_model.specs.Payments.{quote_row, outgoing_row}
use Rattle.op_model.specs.declared.act.Act.{Act}
use Rattle.op_model.specs.declared.act.Act.TheVariants as acts
use Rattle.op_model.specs.declared.act.Entry.{Entry}
use Rattle.op_model.specs.declared.act.FailReason.{FailReason}
use Rattle.op_model.specs.declared.act.FailReason.TheVariants.{QuoteExpired, ReceiverClosed, Cancelled}
use Rattle.op_model.specs.declared.row.OutgoingRow.{OutgoingRow}
use Rattle.op_model.specs.declared.row.QuoteRow.{QuoteRow}
use Rattle.op_model.proofs.LegalNext.{legal-next}
use Rattle.op_naming.specs.Added.{adds_name, IsAddedBy, IsFresh}
use Rattle.op_naming.specs.declared.added.Added.{Added}
use Rattle.op_naming.specs.Names.{AreNames, AreAlike}
use Rattle.op_naming.specs.declared.names.Names.{Names}
use Rattle.op_naming.proofs.Adding.{nothing_added}
use Rattle.op_naming.proofs.Lists.{length_filter_map}
use Rattle.op_naming.proofs.NamesNext.{alike_names}
use Rattle.op_parts.specs.Parts.{AreParts, MayFollow, MayGoOn, GoOn, KeepHistories}
use Rattle.op_parts.specs.declared.parts.Parts.{Parts}
use Rattle.op_paying.specs.Money.{IsMoneyOf}
use Rattle.op_paying.specs.Taking.{CanTake, TakesEntry, KeepsHistories}
use Rattle.op_paying.proofs.Acts.{with_act, of_act}
use Rattle.op_paying.proofs.CancelMoney.{cancel_taken}
use Rattle.op_paying.proofs.Untouched.{money_stays}
use Rattle.op_parts.proofs.Leaving.{name_leaves, grant_alone}
use Rattle.op_parts.proofs.Names.{fresh_by}

-- ---- what an entry that may follow tells each part

abbrev pub next_at : ℕ → Entry → NextEntry
next_at place e = record { at = e.at; place = place }

pub can_take : (history : List Entry) (parts : Parts) (place : ℕ) (e : Entry) → MayFollow history parts place e → CanTake parts.money e
can_take history parts place e may = record {
  history = history;
  is = may.are.money_is;
  next = may.follows;
  assets_fit = let few = length_filter_map (λ (x : Entry). asset_added x.act) history in let small = may.small in omega (arith, few, small);
  addresses_fit = let few = length_filter_map (λ (x : Entry). address_added x.act) history in let small = may.small in omega (arith, few, small);
}

pub grants_entry : (history : List Entry) (parts : Parts) (place : ℕ) (e : Entry) → MayFollow history parts place e → IsEntryOf history parts.grants (next_at place e) e.act
grants_entry history parts place e may = record { legal = may.are.legal; are = may.are.grants_are; follows = may.follows; place = may.stands }

-- ---- no history, and a longer one

pub parts_behind : (history : List Entry) (old new : Parts) (place : ℕ) (e : Entry) → MayFollow history old place e → AreNames (history ++ e ∷ []) new.names → IsMoneyOf (history ++ e ∷ []) new.money → IsGrantsOf (history ++ e ∷ []) new.grants
    → AreParts (history ++ e ∷ []) new
parts_behind history old new place e may names money grants = record {
  legal = (legal-next history e).1 (may.are.legal, may.follows);
  names_are = names;
  money_is = money;
  grants_are = grants;
}

pub grants_stay : (history : List Entry) (parts : Parts) (place : ℕ) (e : Entry) → MayFollow history parts place e → is_on_grants e.act ≡ false → is_on_spending e.act ≡ false → IsGrantsOf (history ++ e ∷ []) parts.grants
grants_stay history parts place e may on quiet = other_takes parts.grants (next_at place e) e.act on quiet history (grants_entry history parts place e may)

-- ---- parts that are kept, whatever the room

pub names_kept : (old new : Parts) → AreAlike old.names new.names → KeepsHistories old.money new.money → new.grants ≡ old.grants → KeepHistories old new
names_kept old new alike money grants history are = record {
  legal = are.legal;
  names_are = alike_names history old.names new.names alike are.names_are;
  money_is = money history are.money_is;
  grants_are = subst (IsGrantsOf history) (sym grants) are.grants_are;
}

pub payment_kept : (old new : Parts) → new.names ≡ old.names → KeepsHistories old.money new.money → ((h : List Entry) → IsGrantsOf h old.grants → IsGrantsOf h new.grants) → KeepHistories old new
payment_kept old new names money grants history are = record {
  legal = are.legal;
  names_are = subst (AreNames history) (sym names) are.names_are;
  money_is = money history are.money_is;
  grants_are = grants history are.grants_are;
}

pub money_kept : (old new : Parts) → new.names ≡ old.names → KeepsHistories old.money new.money → new.grants ≡ old.grants → KeepHistories old new
money_kept old new names money grants = payment_kept old new names money (λ h are. subst (IsGrantsOf h) (sym grants) are)

pub grants_kept : (old new : Parts) → new.names ≡ old.names → new.money ≡ old.money → new.grants ≡ old.grants → KeepHistories old new
grants_kept old new names money grants = money_kept old new names (λ h is. subst (IsMoneyOf h) (sym money) is) grants

-- ---- a name that is added

pub name_taken : (old new : Parts) (place : ℕ) (e : Entry) (ready : Names) (added : Added) → adds_name e.act ≡ true → AreAlike old.names ready → IsAddedBy e.act added
    → ((h : List Entry) (x : Entry) → AreNames h ready → IsAddedBy x.act added → IsFresh h added → AreNames (h ++ x ∷ []) new.names) → TakesEntry e old.money new.money → new.grants ≡ old.grants → GoOn old new place e
name_taken old new place e ready added adds alike is add money grants history may =
    let leaves = name_leaves e.act adds in
    parts_behind history old new place e may
    (add history e (alike_names history old.names ready alike may.are.names_are) is (fresh_by history e added may.follows is))
    (money history may.are.money_is may.follows)
    (subst (IsGrantsOf (history ++ e ∷ [])) (sym grants) (grants_stay history old place e may leaves.on leaves.quiet))

-- ---- an act on a grant

pub may_take_grant : (parts : Parts) (place : ℕ) (e : Entry) → MayGoOn parts place e → MayTake parts.grants (next_at place e) e.act
may_take_grant parts place e may = (may.0, grants_entry may.0 parts place e may.1)

pub grant_taken : (old new : Parts) (place : ℕ) (e : Entry) → is_on_grants e.act ≡ true → new.names ≡ old.names → new.money ≡ old.money → Takes old.grants new.grants (next_at place e) e.act → GoOn old new place e
grant_taken old new place e on names money takes history may =
    let alone = grant_alone e.act on in
    parts_behind history old new place e may
    (subst (AreNames (history ++ e ∷ [])) (sym names) (nothing_added history e old.names may.are.names_are alone.unnamed))
    (subst (IsMoneyOf (history ++ e ∷ [])) (sym money) (money_stays history e old.money alone.unpaid may.are.money_is may.follows))
    (takes history (grants_entry history old place e may))

-- ---- money alone

pub money_taken : (old new : Parts) (place : ℕ) (e : Entry) → adds_name e.act ≡ false → is_on_grants e.act ≡ false → is_on_spending e.act ≡ false → new.names ≡ old.names → TakesEntry e old.money new.money → new.grants ≡ old.grants → GoOn old new place e
money_taken old new place e adds on quiet names money grants history may =
    parts_behind history old new place e may
    (subst (AreNames (history ++ e ∷ [])) (sym names) (nothing_added history e old.names may.are.names_are adds))
    (money history may.are.money_is may.follows)
    (subst (IsGrantsOf (history ++ e ∷ [])) (sym grants) (grants_stay history old place e may on quiet))

-- ---- a payment that is made

quote_where : (o : Option QuoteRow) (P : QuoteRow → Type 0) → MatchOption o ⊥ P → IsSome o
quote_where None P h = absurd h
quote_where (Some row) P h = refl

pub quote_there : (history : List Entry) (e : Entry) (grant quote : ℕ) (metadata : Option (List ℕ)) → e.act ≡ acts.OutgoingMade grant quote metadata → IsNext history e → IsSome (quote_row history quote)
quote_there history e grant quote metadata is next =
    quote_where (quote_row history quote) (λ row. IsPaying history e.at grant row.terms.debit row.terms.receive)
    (outgoing_acts history e.at grant quote metadata (with_act (IsNext history) e (acts.OutgoingMade grant quote metadata) is next))

-- what an act pays, by the parts
abbrev pub PaysBy : Parts → Entry → PaidUnder → Type 0
PaysBy parts e paid = (history : List Entry) → AreParts history parts → paid_by history e.act ≡ Some paid

kept_entry : (history : List Entry) (old : Parts) (place : ℕ) (e : Entry) (ready : GrantsValue) → MayFollow history old place e → ((h : List Entry) → IsGrantsOf h old.grants → IsGrantsOf h ready) → IsEntryOf history ready (next_at place e) e.act
kept_entry history old place e ready may kept = record { legal = may.are.legal; are = kept history may.are.grants_are; follows = may.follows; place = may.stands }

pub may_pay : (old : Parts) (place : ℕ) (e : Entry) (paid : PaidUnder) (ready : GrantsValue) → MayGoOn old place e → PaysBy old e paid → ((h : List Entry) → IsGrantsOf h old.grants → IsGrantsOf h ready) → MayPay ready (next_at place e) paid
may_pay old place e paid ready may pays kept = record {
  history = may.0;
  act = e.act;
  entry = kept_entry may.0 old place e ready may.1 kept;
  pays = pays may.0 may.1.are;
}

pub payer_there : (old : Parts) (place : ℕ) (e : Entry) (paid : PaidUnder) → MayGoOn old place e → PaysBy old e paid → has_row old.grants paid.grant ≡ true
payer_there old place e paid may pays = paid_there old.grants (next_at place e) paid (may_pay old place e paid old.grants may pays (λ h are. are))

pays_unnamed : (history : List Entry) (act : Act) (paid : PaidUnder) → paid_by history act ≡ Some paid → adds_name act ≡ false
pays_unnamed history (acts.OutgoingMade grant quote metadata) paid is = refl
pays_unnamed history (acts.OutgoingDirect grant address incoming debit source fee receive num den metadata) paid is = refl
pays_unnamed history _ paid is = absurd (let e : None ≡ Some paid = is in cc)

pub payment_taken : (old new : Parts) (place : ℕ) (e : Entry) (paid : PaidUnder) (ready : GrantsValue) → PaysBy old e paid → new.names ≡ old.names → TakesEntry e old.money new.money
    → ((h : List Entry) → IsGrantsOf h old.grants → IsGrantsOf h ready) → Pays ready new.grants (next_at place e) paid → GoOn old new place e
payment_taken old new place e paid ready by names money kept pays history may =
    let paying = by history may.are in
    parts_behind history old new place e may
    (subst (AreNames (history ++ e ∷ [])) (sym names) (nothing_added history e old.names may.are.names_are (pays_unnamed history e.act paid paying)))
    (money history may.are.money_is may.follows)
    (pays history e.act (kept_entry history old place e ready may kept) paying)

-- ---- a payment that fails

fails_there : (history : List Entry) (t p k : ℕ) (reason : FailReason) → IsNext history (record { at = t; act = acts.OutgoingFailed p k reason }) → is_some (outgoing_row history p) ≡ true
fails_there history t p k QuoteExpired next = next.proper
fails_there history t p k ReceiverClosed next = next.proper
fails_there history t p k Cancelled next = ap is_some (cancel_taken history t p k next).there

-- the payment is there
pub no_failure : {P : Type 0} (parts : Parts) (place : ℕ) (e : Entry) (p k : ℕ) (reason : FailReason) (may : MayGoOn parts place e) → e.act ≡ acts.OutgoingFailed p k reason → None ≡ outgoing_row may.0 p → P
no_failure parts place e p k reason may is none =
    let there = fails_there may.0 e.at p k reason (with_act (IsNext may.0) e (acts.OutgoingFailed p k reason) is may.1.follows) in
    let f : false ≡ true = ap is_some none ∙ there in
    absurd cc

failing_entry : (history : List Entry) (parts : Parts) (place : ℕ) (e : Entry) (p k : ℕ) (reason : FailReason) → MayFollow history parts place e → e.act ≡ acts.OutgoingFailed p k reason → IsEntryOf history parts.grants (next_at place e) (acts.OutgoingFailed p k reason)
failing_entry history parts place e p k reason may is = subst (IsEntryOf history parts.grants (next_at place e)) is (grants_entry history parts place e may)

pub may_fail : (parts : Parts) (place : ℕ) (e : Entry) (p k : ℕ) (reason : FailReason) (row : OutgoingRow) (may : MayGoOn parts place e) → e.act ≡ acts.OutgoingFailed p k reason → Some row ≡ outgoing_row may.0 p → MayFail parts.grants (next_at place e) row
may_fail parts place e p k reason row may is there = record {
  history = may.0;
  payment = p;
  step = k;
  reason = reason;
  entry = failing_entry may.0 parts place e p k reason may.1 is;
  there = sym there;
}

pub failure_taken : (old new : Parts) (place : ℕ) (e : Entry) (p k : ℕ) (reason : FailReason) (row : OutgoingRow) → e.act ≡ acts.OutgoingFailed p k reason → ((h : List Entry) → IsMoneyOf h old.money → Some row ≡ outgoing_row h p) → new.names ≡ old.names
    → TakesEntry e old.money new.money → Fails old.grants new.grants (next_at place e) row → GoOn old new place e
failure_taken old new place e p k reason row is found names money fails history may =
    let act : Act = acts.OutgoingFailed p k reason in
    parts_behind history old new place e may
    (subst (AreNames (history ++ e ∷ [])) (sym names) (nothing_added history e old.names may.are.names_are (ap adds_name is)))
    (money history may.are.money_is may.follows)
    (of_act (λ (x : Entry). IsGrantsOf (history ++ x ∷ []) new.grants) e act is
    (fails history p k reason (failing_entry history old place e p k reason may is) (sym (found history may.are.money_is))))
