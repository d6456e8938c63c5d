-- The fields of acts, read back.
use Rattle.std.proofs.Common.{◌≡◌, ◌≢◌, ℕ, zero, suc, ◌+◌, ◌-◌, ◌*◌, ◌/◌, ◌%◌, ◌^◌, ◌<◌, ◌≤◌, Bool, true, false, cond, ltb, leb, eqb, lit<, lit≤, List, [], ◌∷◌, ◌++◌, length, Option, Some, None, Result, Ok, Err, refl, sym, ap, subst, ◌∙◌, append_assoc, arith, ◌⊎◌, inl, inr}
use Rattle.std.specs.Prelude.{IfSome, ◌&&◌, ◌||◌}
use Rattle.std.specs.List.{flat_map}
use Rattle.std.proofs.Math.Nat.{div-mul-le_self}
use Rattle.std.proofs.lemmas.Bool.{ltb-true, lt-ltb, leb-true, le-leb, eqb-true}
use Rattle.std.proofs.lemmas.List.{append-nil}
use Rattle.std.proofs.lemmas.Nat.{div-mul-add, mod-mul-add, div-add-mod', mod_below}
use Rattle.op_time.specs.declared.TheConstants.{LAST}
use Rattle.op_model.specs.Legal.{has_actions, is_outcome}
use Rattle.op_model.specs.declared.act.Account.{Account}
use Rattle.op_model.specs.declared.act.Account.TheVariants.{Outside, Pool, Fees, Wallet}
use Rattle.op_model.specs.declared.act.QuoteMode.{QuoteMode}
use Rattle.op_model.specs.declared.act.QuoteMode.TheVariants as modes
use Rattle.op_model.specs.declared.act.FailReason.{FailReason}
use Rattle.op_model.specs.declared.act.FailReason.TheVariants.{QuoteExpired, ReceiverClosed, Cancelled}
use Rattle.op_model.specs.declared.grant.Cap.{Cap}
use Rattle.op_model.specs.declared.grant.Limits.{Limits}
use Rattle.op_model.specs.declared.grant.Item.{Item}
use Rattle.op_model.specs.declared.grant.Finish.{Finish}
use Rattle.op_record.specs.Fields.{number, text, optional, account, mode_number, reason_number, cap, limits, item, items, finish}
use Rattle.op_record.specs.Recordable.{IsShort, IsInside, AreLimits, IsItem, AreAbove, AreItems, IsFinish, IsU16, IsU32, IsU64, IsMoment, IsWord, FitsAccount, FitsCap, FitsLimits, FitsItem, FitItems}
use Rattle.op_record.specs.Readers.{Reader, bind, done, byte, is_between, byte_between, number_at, bytes_at, text_at, option_at}
use Rattle.op_record.specs.Rows.{u32_at, u64_at, moment_at, word_at, account_of, account_at, mode_of, mode_at, reason_of, reason_at, outcome_at, cap_at, limits_at, item_at, more_items_at, items_at, finish_at}
use Rattle.op_record.proofs.Good.{good-bind, good-done, bound}
use Rattle.op_record.proofs.Numbers.{both, and_true}
use Rattle.op_record.proofs.FieldLaws.{Field, Row, Taken, row-bind, row-done, row-if, again-bind, again-done, field-of, field-fits, one, byte-field, IsBetween, between-field, number-field, bytes-field, text-field, option-field}

pub u32-field : Field u32_at (number 4) IsU32
u32-field = field-fits (number-field 4 4294967295 (lit< tt)) (λ n le. omega arith) (λ n lt. omega arith)

pub u64-field : Field u64_at (number 8) IsU64
u64-field = field-fits (number-field 8 18446744073709551615 (lit< tt)) (λ n le. omega arith) (λ n lt. omega arith)

pub moment-field : Field moment_at (number 8) IsMoment
moment-field = number-field 8 LAST (lit< tt)

pub word-field : Field word_at (λ bytes. bytes) IsWord
word-field = bytes-field 16

-- ---- accounts

record IsAccount (kind n : ℕ) (a : Account) : Type 0 where
  spelled : kind ∷ (number 4 n ++ []) ≡ account a
  fits : IsInside a × FitsAccount a

account_is : (kind n : ℕ) → IsBetween 1 3 kind → IsU32 n → IsAccount kind n (account_of kind n)
account_is zero n h fits = absurd (omega (arith, h.0))
account_is (suc zero) n h fits = record { spelled = ap (λ (t : List ℕ). 1 ∷ t) (append-nil (number 4 n)); fits = (tt, fits) }
account_is (suc (suc zero)) n h fits = record { spelled = ap (λ (t : List ℕ). 2 ∷ t) (append-nil (number 4 n)); fits = (tt, fits) }
account_is (suc (suc (suc zero))) n h fits = record { spelled = ap (λ (t : List ℕ). 3 ∷ t) (append-nil (number 4 n)); fits = (tt, fits) }
account_is (suc (suc (suc (suc k)))) n h fits = absurd (omega (arith, h.1))

account_one : (kind n : ℕ) (rest : List ℕ) → IsBetween 1 3 kind → IsU32 n → account_at ((kind ∷ number 4 n) ++ rest) ≡ Ok (account_of kind n, rest)
unfolding account_at
account_one kind n rest h fits =
    again-bind (between-field 1 3 (lit≤ tt)) (λ kind. bind u32_at (λ n. done (account_of kind n))) kind (number 4 n) rest _ h
    (ap (λ (t : List ℕ). bind u32_at (λ n. done (account_of kind n)) (t ++ rest)) (sym (append-nil (number 4 n)))
    ∙ again-bind u32-field (λ n. done (account_of kind n)) n [] rest _ fits (again-done (account_of kind n) rest))

account_again : (a : Account) (rest : List ℕ) → IsInside a × FitsAccount a → account_at (account a ++ rest) ≡ Ok (a, rest)
account_again (Outside n) rest h = absurd h.0
account_again (Pool n) rest h = account_one 1 n rest (lit≤ tt, lit≤ tt) h.1
account_again (Fees n) rest h = account_one 2 n rest (lit≤ tt, lit≤ tt) h.1
account_again (Wallet n) rest h = account_one 3 n rest (lit≤ tt, lit≤ tt) h.1

pub account-field : Field account_at account (λ a. IsInside a × FitsAccount a)
unfolding account_at
account-field = field-of account_at account (λ a. IsInside a × FitsAccount a)
    (row-bind (λ t. t) (between-field 1 3 (lit≤ tt)) (λ kind h. row-bind (λ t. kind ∷ t) u32-field (λ n fits.
    row-done (λ t. kind ∷ (number 4 n ++ t)) (account_of kind n) (account_is kind n h fits).spelled (account_is kind n h fits).fits)))
    account_again

-- ---- modes and reasons

mode_is : (n : ℕ) → IsBetween 1 3 n → n ≡ mode_number (mode_of n)
mode_is zero h = absurd (omega (arith, h.0))
mode_is (suc zero) h = refl
mode_is (suc (suc zero)) h = refl
mode_is (suc (suc (suc zero))) h = refl
mode_is (suc (suc (suc (suc n)))) h = absurd (omega (arith, h.1))

mode_again : (m : QuoteMode) (rest : List ℕ) → Unit {0} → mode_at (one (mode_number m) ++ rest) ≡ Ok (m, rest)
unfolding mode_at
mode_again modes.Debit rest h = again-bind (between-field 1 3 (lit≤ tt)) (λ n. done (mode_of n)) 1 [] rest _ (lit≤ tt, lit≤ tt) (again-done modes.Debit rest)
mode_again modes.Receive rest h = again-bind (between-field 1 3 (lit≤ tt)) (λ n. done (mode_of n)) 2 [] rest _ (lit≤ tt, lit≤ tt) (again-done modes.Receive rest)
mode_again modes.Rest rest h = again-bind (between-field 1 3 (lit≤ tt)) (λ n. done (mode_of n)) 3 [] rest _ (lit≤ tt, lit≤ tt) (again-done modes.Rest rest)

pub mode-field : Field mode_at (λ m. one (mode_number m)) (λ _. Unit {0})
unfolding mode_at
mode-field = field-of mode_at (λ m. one (mode_number m)) (λ _. Unit {0})
    (row-bind (λ t. t) (between-field 1 3 (lit≤ tt)) (λ n h. row-done (λ t. n ∷ t) (mode_of n) (ap one (mode_is n h)) tt))
    mode_again

reason_is : (n : ℕ) → IsBetween 1 3 n → n ≡ reason_number (reason_of n)
reason_is zero h = absurd (omega (arith, h.0))
reason_is (suc zero) h = refl
reason_is (suc (suc zero)) h = refl
reason_is (suc (suc (suc zero))) h = refl
reason_is (suc (suc (suc (suc n)))) h = absurd (omega (arith, h.1))

reason_again : (m : FailReason) (rest : List ℕ) → Unit {0} → reason_at (one (reason_number m) ++ rest) ≡ Ok (m, rest)
unfolding reason_at
reason_again QuoteExpired rest h = again-bind (between-field 1 3 (lit≤ tt)) (λ n. done (reason_of n)) 1 [] rest _ (lit≤ tt, lit≤ tt) (again-done QuoteExpired rest)
reason_again ReceiverClosed rest h = again-bind (between-field 1 3 (lit≤ tt)) (λ n. done (reason_of n)) 2 [] rest _ (lit≤ tt, lit≤ tt) (again-done ReceiverClosed rest)
reason_again Cancelled rest h = again-bind (between-field 1 3 (lit≤ tt)) (λ n. done (reason_of n)) 3 [] rest _ (lit≤ tt, lit≤ tt) (again-done Cancelled rest)

pub reason-field : Field reason_at (λ m. one (reason_number m)) (λ _. Unit {0})
unfolding reason_at
reason-field = field-of reason_at (λ m. one (reason_number m)) (λ _. Unit {0})
    (row-bind (λ t. t) (between-field 1 3 (lit≤ tt)) (λ n h. row-done (λ t. n ∷ t) (reason_of n) (ap one (reason_is n h)) tt))
    reason_again

-- ---- outcomes

abbrev low_passes : ℕ → ℕ → Bool
low_passes high low = ltb low 256 && is_outcome (high * 256 + low)

-- with each first byte some outcome begins
some_low : (high : ℕ) → high ≤ 3 → (low : ℕ) × (low_passes high low ≡ true)
some_low zero h = (0, refl)
some_low (suc zero) h = (0, refl)
some_low (suc (suc zero)) h = (0, refl)
some_low (suc (suc (suc zero))) h = (0, refl)
some_low (suc (suc (suc (suc n)))) h = absurd (omega (arith, h))

low-field : (high : ℕ) → high ≤ 3 → Field (byte (low_passes high)) one (λ b. low_passes high b ≡ true)
low-field high h = let some = some_low high h in byte-field (low_passes high) some.0 some.1

either : (a b : Bool) → (a || b) ≡ true → (a ≡ true) ⊎ (b ≡ true)
either true b e = inl refl
either false b e = inr e

outcome_low : (n : ℕ) → is_outcome n ≡ true → n ≤ 999
outcome_low n e =
    elim (either (eqb n 0) (leb 100 n && leb n 999) e) [
      | inl p ↦ let z = eqb-true n 0 p in omega arith
      | inr p ↦ leb-true n 999 ((both (leb 100 n) (leb n 999) p).1)
    ]

number_two : (n : ℕ) → number 2 n ≡ n / 256 % 256 ∷ n % 256 ∷ []
unfolding number
number_two n = refl

outcome_spelled : (high low : ℕ) → high ≤ 3 → low < 256 → high ∷ low ∷ [] ≡ number 2 (high * 256 + low)
outcome_spelled high low h l =
    let a : (high * 256 + low) / 256 % 256 ≡ high = omega (arith, div-mul-add high 256 low l) in
    let b : (high * 256 + low) % 256 ≡ low = mod-mul-add high 256 low l in
    sym (number_two (high * 256 + low) ∙ ap (λ (v : ℕ). v ∷ (high * 256 + low) % 256 ∷ []) a ∙ ap (λ (v : ℕ). high ∷ v ∷ []) b)

outcome_again : (n : ℕ) (rest : List ℕ) → is_outcome n ≡ true → outcome_at (number 2 n ++ rest) ≡ Ok (n, rest)
unfolding outcome_at
outcome_again n rest e =
    let le = outcome_low n e in
    let high = n / 256 in
    let low = n % 256 in
    let whole : high * 256 + low ≡ n = div-add-mod' n 256 in
    let small : high ≤ 3 = omega arith in
    let head : n / 256 % 256 ≡ high = omega arith in
    let less : low < 256 = mod_below n 256 (lit< tt) in
    let passes : low_passes high low ≡ true = and_true (ltb low 256) (is_outcome (high * 256 + low)) (lt-ltb _ _ less) (ap is_outcome whole ∙ e) in
    let spelled : number 2 n ≡ high ∷ low ∷ [] = number_two n ∙ ap (λ (v : ℕ). v ∷ low ∷ []) head in
    ap (λ (t : List ℕ). outcome_at (t ++ rest)) spelled
    ∙ again-bind (between-field 0 3 (lit≤ tt)) (λ high. bind (byte (low_passes high)) (λ low. done (high * 256 + low))) high (low ∷ []) rest _ (omega arith, small)
    (again-bind (low-field high small) (λ low. done (high * 256 + low)) low [] rest _ passes (again-done (high * 256 + low) rest))
    ∙ ap (λ (v : ℕ). Ok (v, rest)) whole

pub outcome-field : Field outcome_at (number 2) (λ n. is_outcome n ≡ true)
unfolding outcome_at
outcome-field = field-of outcome_at (number 2) (λ n. is_outcome n ≡ true)
    (row-bind (λ t. t) (between-field 0 3 (lit≤ tt)) (λ high h. row-bind (λ t. high ∷ t) (low-field high h.1) (λ low p.
    let q = both (ltb low 256) (is_outcome (high * 256 + low)) p in
    row-done (λ t. high ∷ low ∷ t) (high * 256 + low) (outcome_spelled high low h.1 (ltb-true _ _ q.0)) q.1)))
    outcome_again

-- ---- caps and limits

abbrev cap_row : ℕ → Reader (Option Cap)
cap_row way = cond (eqb way 0) (done None) (bind u32_at (λ asset. bind u64_at (λ value. done (Some (record { debit = eqb way 1; sum = record { asset = asset; value = value } })))))

way_is : (way : ℕ) → IsBetween 0 2 way → eqb way 0 ≡ false → way ≡ cond (eqb way 1) 1 2
way_is zero h e = absurd cc
way_is (suc zero) h e = refl
way_is (suc (suc zero)) h e = refl
way_is (suc (suc (suc n))) h e = absurd (omega (arith, h.1))

cap_some : (way asset value : ℕ) (rest : List ℕ) → IsBetween 0 2 way → eqb way 0 ≡ false → IsU32 asset → IsU64 value
    → cap_at ((way ∷ (number 4 asset ++ number 8 value)) ++ rest) ≡ Ok (Some (record { debit = eqb way 1; sum = record { asset = asset; value = value } }), rest)
unfolding cap_at
cap_some way asset value rest h e a v =
    again-bind (between-field 0 2 (lit≤ tt)) cap_row way (number 4 asset ++ number 8 value) rest _ h
    (ap (λ (b : Bool). cond b (done None) (bind u32_at (λ asset. bind u64_at (λ value. done (Some (record { debit = eqb way 1; sum = record { asset = asset; value = value } }))))) ((number 4 asset ++ number 8 value) ++ rest)) e
    ∙ again-bind u32-field (λ asset. bind u64_at (λ value. done (Some (record { debit = eqb way 1; sum = record { asset = asset; value = value } })))) asset (number 8 value) rest _ a
    (ap (λ (t : List ℕ). bind u64_at (λ value. done (Some (record { debit = eqb way 1; sum = record { asset = asset; value = value } }))) (t ++ rest)) (sym (append-nil (number 8 value)))
    ∙ again-bind u64-field (λ value. done (Some (record { debit = eqb way 1; sum = record { asset = asset; value = value } }))) value [] rest _ v (again-done _ rest)))

cap_of_parts : (debit : Bool) (asset value : ℕ) (rest : List ℕ) → IsU32 asset → IsU64 value
    → cap_at (cap (Some (record { debit = debit; sum = record { asset = asset; value = value } })) ++ rest) ≡ Ok (Some (record { debit = debit; sum = record { asset = asset; value = value } }), rest)
cap_of_parts true asset value rest a v = cap_some 1 asset value rest (lit≤ tt, lit≤ tt) refl a v
cap_of_parts false asset value rest a v = cap_some 2 asset value rest (lit≤ tt, lit≤ tt) refl a v

cap_again : (o : Option Cap) (rest : List ℕ) → IfSome o FitsCap → cap_at (cap o ++ rest) ≡ Ok (o, rest)
unfolding cap_at
cap_again None rest h = again-bind (between-field 0 2 (lit≤ tt)) cap_row 0 [] rest _ (lit≤ tt, lit≤ tt) (again-done None rest)
cap_again (Some c) rest h = cap_of_parts c.debit c.sum.asset c.sum.value rest h.0 h.1

pub cap-field : Field cap_at cap (λ o. IfSome o FitsCap)
unfolding cap_at
cap-field = field-of cap_at cap (λ o. IfSome o FitsCap)
    (row-bind (λ t. t) (between-field 0 2 (lit≤ tt)) (λ way h. row-if (λ t. way ∷ t) (eqb way 0)
    (λ e. row-done (λ t. way ∷ t) None (ap one (eqb-true way 0 e)) tt)
    (λ e. row-bind (λ t. way ∷ t) u32-field (λ asset a. row-bind (λ t. way ∷ (number 4 asset ++ t)) u64-field (λ value v.
    row-done (λ t. way ∷ (number 4 asset ++ (number 8 value ++ t))) (Some (record { debit = eqb way 1; sum = record { asset = asset; value = value } }))
    (ap (λ (v : ℕ). v ∷ (number 4 asset ++ (number 8 value ++ []))) (way_is way h e) ∙ ap (λ (t : List ℕ). cond (eqb way 1) 1 2 ∷ (number 4 asset ++ t)) (append-nil (number 8 value)))
    (a, v))))))
    cap_again

limits_again : (l : Limits) (rest : List ℕ) → AreLimits l × FitsLimits l → limits_at (limits l ++ rest) ≡ Ok (l, rest)
unfolding limits_at
limits_again l rest h =
    again-bind (option-field u64-field) _ l.receiver _ rest _ h.1.0
    (again-bind cap-field _ l.cap _ rest _ h.1.1
    (again-bind (option-field (text-field 128 (lit< tt))) _ l.interval [] rest _ h.0
    (again-done l rest)))

pub limits-field : Field limits_at limits (λ l. AreLimits l × FitsLimits l)
unfolding limits_at
limits-field = field-of limits_at limits (λ l. AreLimits l × FitsLimits l)
    (row-bind (λ t. t) (option-field u64-field) (λ receiver r. row-bind (λ t. optional (number 8) receiver ++ t) cap-field (λ c k.
    row-bind (λ t. optional (number 8) receiver ++ (cap c ++ t)) (option-field (text-field 128 (lit< tt))) (λ interval i.
    row-done (λ t. optional (number 8) receiver ++ (cap c ++ (optional text interval ++ t))) (record { receiver = receiver; cap = c; interval = interval }) refl (i, (r, k))))))
    limits_again
