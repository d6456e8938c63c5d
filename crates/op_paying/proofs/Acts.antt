-- An entry by its act.
use Rattle.std.proofs.Common.{◌≡◌, ℕ, true, false, List, refl, ◌∙◌, sym, ap, subst, inl, inr, Some, Option}
use Rattle.std.specs.Prelude.{◌⊎◌}
use Rattle.op_amount.specs.declared.Priced.{Priced}
use Rattle.op_legal.proofs.Chains.{some_is}
use Rattle.op_model.specs.Legal.{asked_by}
use Rattle.op_model.specs.declared.act.Account.{Account}
use Rattle.op_model.specs.declared.act.Act.{Act}
use Rattle.op_model.specs.declared.act.Act.TheVariants as acts
use Rattle.op_model.specs.declared.act.Entry.{Entry}
use Rattle.op_model.specs.declared.act.FailReason.{FailReason}
use Rattle.op_model.specs.declared.act.FailReason.TheVariants.{QuoteExpired, ReceiverClosed}
use Rattle.op_model.specs.declared.act.QuoteMode.{QuoteMode}
use Rattle.op_model.specs.declared.request.Task.TheVariants.{Step}
use Rattle.op_paying.specs.Taking.{makes_rows, makes_payment, price_in, leaves_money}

pub with_act : (P : Entry → Type 0) (e : Entry) (act : Act) → e.act ≡ act → P e → P (record { at = e.at; act = act })
with_act P e act is h = subst (λ (a : Act). P (record { at = e.at; act = a })) is h

pub of_act : (P : Entry → Type 0) (e : Entry) (act : Act) → e.act ≡ act → P (record { at = e.at; act = act }) → P e
of_act P e act is h = subst (λ (a : Act). P (record { at = e.at; act = a })) (sym is) h

-- ---- the act of an entry, where it is none of some acts

pub makes_none : (act : Act) → ((code : List ℕ) (scale pieces : ℕ) → act ≡ acts.AssetAdded code scale pieces → ⊥) → ((path : List ℕ) (asset : ℕ) (name : Option (List ℕ)) → act ≡ acts.AddressAdded path asset name → ⊥)
    → ((grant address : ℕ) (amount : Option ℕ) (expiry : ℕ) (metadata : Option (List ℕ)) → act ≡ acts.IncomingMade grant address amount expiry metadata → ⊥)
    → ((grant address incoming : ℕ) (mode : QuoteMode) (asked debit source fee receive num den : ℕ) → act ≡ acts.QuoteMade grant address incoming mode asked debit source fee receive num den → ⊥)
    → ((grant quote : ℕ) (metadata : Option (List ℕ)) → act ≡ acts.OutgoingMade grant quote metadata → ⊥)
    → ((grant address incoming debit source fee receive num den : ℕ) (metadata : Option (List ℕ)) → act ≡ acts.OutgoingDirect grant address incoming debit source fee receive num den metadata → ⊥)
    → makes_rows act ≡ false
makes_none (acts.AssetAdded code scale pieces) a b c d e f = absurd (a code scale pieces refl)
makes_none (acts.AddressAdded path asset name) a b c d e f = absurd (b path asset name refl)
makes_none (acts.IncomingMade grant address amount expiry metadata) a b c d e f = absurd (c grant address amount expiry metadata refl)
makes_none (acts.QuoteMade grant address incoming mode asked debit source fee receive num den) a b c d e f = absurd (d grant address incoming mode asked debit source fee receive num den refl)
makes_none (acts.OutgoingMade grant quote metadata) a b c d e f = absurd (e grant quote metadata refl)
makes_none (acts.OutgoingDirect grant address incoming debit source fee receive num den metadata) a b c d e f = absurd (f grant address incoming debit source fee receive num den metadata refl)
makes_none _ a b c d e f = refl

pub makes_more : (act : Act) → makes_rows act ≡ true → ((code : List ℕ) (scale pieces : ℕ) → act ≡ acts.AssetAdded code scale pieces → ⊥) → ((path : List ℕ) (asset : ℕ) (name : Option (List ℕ)) → act ≡ acts.AddressAdded path asset name → ⊥)
    → ((grant address : ℕ) (amount : Option ℕ) (expiry : ℕ) (metadata : Option (List ℕ)) → act ≡ acts.IncomingMade grant address amount expiry metadata → ⊥) → makes_payment act ≡ true
makes_more (acts.AssetAdded code scale pieces) h a b c = absurd (a code scale pieces refl)
makes_more (acts.AddressAdded path asset name) h a b c = absurd (b path asset name refl)
makes_more (acts.IncomingMade grant address amount expiry metadata) h a b c = absurd (c grant address amount expiry metadata refl)
makes_more (acts.QuoteMade grant address incoming mode asked debit source fee receive num den) h a b c = refl
makes_more (acts.OutgoingMade grant quote metadata) h a b c = refl
makes_more (acts.OutgoingDirect grant address incoming debit source fee receive num den metadata) h a b c = refl
makes_more _ h a b c = absurd (let e : false ≡ true = h in cc)

pub makes_no_more : (act : Act) → makes_payment act ≡ true
    → ((grant address incoming : ℕ) (mode : QuoteMode) (asked debit source fee receive num den : ℕ) → act ≡ acts.QuoteMade grant address incoming mode asked debit source fee receive num den → ⊥)
    → ((grant quote : ℕ) (metadata : Option (List ℕ)) → act ≡ acts.OutgoingMade grant quote metadata → ⊥)
    → ((grant address incoming debit source fee receive num den : ℕ) (metadata : Option (List ℕ)) → act ≡ acts.OutgoingDirect grant address incoming debit source fee receive num den metadata → ⊥)
    → ⊥
makes_no_more (acts.QuoteMade grant address incoming mode asked debit source fee receive num den) h a b c = a grant address incoming mode asked debit source fee receive num den refl
makes_no_more (acts.OutgoingMade grant quote metadata) h a b c = b grant quote metadata refl
makes_no_more (acts.OutgoingDirect grant address incoming debit source fee receive num den metadata) h a b c = c grant address incoming debit source fee receive num den metadata refl
makes_no_more _ h a b c = absurd (let e : false ≡ true = h in cc)

pub leaves_rest : (act : Act) → makes_rows act ≡ false → ((id : List ℕ) (account : Account) (value : ℕ) → act ≡ acts.Deposited id account value → ⊥) → ((id : List ℕ) (account : Account) (value : ℕ) → act ≡ acts.Withdrawn id account value → ⊥) → ((grant i : ℕ) → act ≡ acts.IncomingCompleted grant i → ⊥)
    → ((i : ℕ) → act ≡ acts.IncomingExpired i → ⊥) → ((p k : ℕ) → act ≡ acts.OutgoingFunded p k → ⊥) → ((p k : ℕ) → act ≡ acts.OutgoingSent p k → ⊥) → ((p k : ℕ) → act ≡ acts.OutgoingCompleted p k → ⊥) → ((p k : ℕ) (reason : FailReason) → act ≡ acts.OutgoingFailed p k reason → ⊥)
    → leaves_money act ≡ true
leaves_rest (acts.Deposited id account value) h a b c d e f g i = absurd (a id account value refl)
leaves_rest (acts.Withdrawn id account value) h a b c d e f g i = absurd (b id account value refl)
leaves_rest (acts.IncomingCompleted grant n) h a b c d e f g i = absurd (c grant n refl)
leaves_rest (acts.IncomingExpired n) h a b c d e f g i = absurd (d n refl)
leaves_rest (acts.OutgoingFunded p k) h a b c d e f g i = absurd (e p k refl)
leaves_rest (acts.OutgoingSent p k) h a b c d e f g i = absurd (f p k refl)
leaves_rest (acts.OutgoingCompleted p k) h a b c d e f g i = absurd (g p k refl)
leaves_rest (acts.OutgoingFailed p k reason) h a b c d e f g i = absurd (i p k reason refl)
leaves_rest (acts.AssetAdded code scale pieces) h a b c d e f g i = absurd (let x : true ≡ false = h in cc)
leaves_rest (acts.AddressAdded path asset name) h a b c d e f g i = absurd (let x : true ≡ false = h in cc)
leaves_rest (acts.IncomingMade grant address amount expiry metadata) h a b c d e f g i = absurd (let x : true ≡ false = h in cc)
leaves_rest (acts.QuoteMade grant address incoming mode asked debit source fee receive num den) h a b c d e f g i = absurd (let x : true ≡ false = h in cc)
leaves_rest (acts.OutgoingMade grant quote metadata) h a b c d e f g i = absurd (let x : true ≡ false = h in cc)
leaves_rest (acts.OutgoingDirect grant address incoming debit source fee receive num den metadata) h a b c d e f g i = absurd (let x : true ≡ false = h in cc)
leaves_rest _ h a b c d e f g i = refl

-- ---- the price of an act

pub quote_priced : (act : Act) (grant address incoming : ℕ) (mode : QuoteMode) (asked debit source fee receive num den : ℕ) (price : Priced) → act ≡ acts.QuoteMade grant address incoming mode asked debit source fee receive num den → price_in act ≡ Some price
    → act ≡ acts.QuoteMade grant address incoming mode asked price.debit price.source price.fee price.receive price.num price.den
quote_priced act grant address incoming mode asked debit source fee receive num den price is priced =
    is
    ∙ ap (λ (p : Priced). acts.QuoteMade grant address incoming mode asked p.debit p.source p.fee p.receive p.num p.den)
    (some_is {X = Priced} (record { debit = debit; source = source; fee = fee; receive = receive; num = num; den = den }) price (sym (ap price_in is) ∙ priced))

pub direct_priced : (act : Act) (grant address incoming debit source fee receive num den : ℕ) (metadata : Option (List ℕ)) (price : Priced) → act ≡ acts.OutgoingDirect grant address incoming debit source fee receive num den metadata → price_in act ≡ Some price
    → act ≡ acts.OutgoingDirect grant address incoming price.debit price.source price.fee price.receive price.num price.den metadata
direct_priced act grant address incoming debit source fee receive num den metadata price is priced =
    is
    ∙ ap (λ (p : Priced). acts.OutgoingDirect grant address incoming p.debit p.source p.fee p.receive p.num p.den metadata)
    (some_is {X = Priced} (record { debit = debit; source = source; fee = fee; receive = receive; num = num; den = den }) price (sym (ap price_in is) ∙ priced))

-- ---- a step that is asked for

pub step_asked : (act : Act) (p k : ℕ) → (act ≡ acts.OutgoingFunded p k) ⊎ ((act ≡ acts.OutgoingSent p k) ⊎ (act ≡ acts.OutgoingCompleted p k)) → (history : List Entry) → asked_by history act ≡ Step p k
step_asked act p k (inl is) history = ap (asked_by history) is
step_asked act p k (inr (inl is)) history = ap (asked_by history) is
step_asked act p k (inr (inr is)) history = ap (asked_by history) is

pub failure_asked : (act : Act) (p k : ℕ) (reason : FailReason) → act ≡ acts.OutgoingFailed p k reason → (reason ≡ QuoteExpired) ⊎ (reason ≡ ReceiverClosed) → (history : List Entry) → asked_by history act ≡ Step p k
failure_asked act p k reason is (inl why) history = ap (asked_by history) (is ∙ ap (λ (r : FailReason). acts.OutgoingFailed p k r) why)
failure_asked act p k reason is (inr why) history = ap (asked_by history) (is ∙ ap (λ (r : FailReason). acts.OutgoingFailed p k r) why)
