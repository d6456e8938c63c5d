-- What a task leaves of a batch.
use Rattle.std.proofs.Common.{◌≡◌, ℕ, ◌+◌, ◌-◌, ◌≤◌, Bool, true, false, cond, List, [], ◌∷◌, ◌++◌, length, take, drop, sym, ap, ◌∙◌, subst, arith, length-append}
use Rattle.std.specs.Prelude.{not, Some, None, IfSome, slice_get, slice_set}
use Rattle.std.specs.List.{AllByRecursion}
use Rattle.std.specs.Option.{option_to_list}
use Rattle.std.specs.Vec.{with_item}
use Rattle.std.specs.declared.option.Option.{Option}
use Rattle.std.proofs.lemmas.List.{append-nil, drop-append-le, take-append-le, length-set}
use Rattle.std.proofs.lemmas.List.Sums.{sum_by-set}
use Rattle.std.proofs.lemmas.Option.{get_or_from_slice_get, slice_get_within}
use Rattle.op_model.proofs.Next.{last-next}
use Rattle.op_model.specs.History.{last_moment}
use Rattle.op_model.specs.declared.act.Entry.{Entry}
use Rattle.op_desk.specs.Batches.{unused}
use Rattle.op_desk.specs.Inside.{IsKept, entries_of}
use Rattle.op_desk.specs.Wallets.{WalletState, FitsRound, IsSound, with_entry}
use Rattle.op_desk.specs.declared.batch.Batch.TheInside.{Inside}
use Rattle.op_desk.proofs.Lists.{all-append}

later_next : (history : List Entry) (moment : ℕ) (entry : Option Entry) → last_moment history ≤ moment → IfSome entry (FitsRound moment) → last_moment (with_entry history entry) ≤ moment
later_next history moment None later fits = subst (λ (h : List Entry). last_moment h ≤ moment) (sym (append-nil history)) later
later_next history moment (Some e) later fits = rw last-next (omega (arith, fits.takes.0))

fit_next : (xs : List Entry) (moment : ℕ) (entry : Option Entry) → AllByRecursion (FitsRound moment) xs → IfSome entry (FitsRound moment) → AllByRecursion (FitsRound moment) (with_entry xs entry)
fit_next xs moment None fit fits = all-append (FitsRound moment) xs [] fit tt
fit_next xs moment (Some e) fit fits = all-append (FitsRound moment) xs (e ∷ []) fit (fits, tt)

length_next : (xs : List Entry) (entry : Option Entry) → length (with_entry xs entry) ≤ length xs + 1
length_next xs None = omega (arith, length-append {A = Entry} xs [])
length_next xs (Some e) = omega (arith, length-append xs (e ∷ []))

unused_next : (used : List Bool) (i : ℕ) → slice_get used i ≡ Some false → unused (slice_set used i true) + 1 ≡ unused used
unused_next used i is =
    let here = get_or_from_slice_get used i false false is in
    let sum = sum_by-set (λ (x : Bool). cond (not x) 1 0) used i true false (slice_get_within used i false is) in
    let one = ap {B = ℕ} (λ (b : Bool). cond (not b) 1 0) here in
    omega (arith, sum, one)

pub behind_next : (history new : List Entry) (n : ℕ) (entry : Option Entry) → n ≤ length history → new ≡ with_entry history entry → drop n new ≡ with_entry (drop n history) entry
behind_next history new n entry le grown = ap (λ (h : List Entry). drop n h) grown ∙ drop-append-le n history (option_to_list entry) le

pub front_next : (history new : List Entry) (n : ℕ) (entry : Option Entry) → n ≤ length history → new ≡ with_entry history entry → take n new ≡ take n history
front_next history new n entry le grown = ap (λ (h : List Entry). take n h) grown ∙ take-append-le n history (option_to_list entry) le

pub kept_next : (b : Inside) (wallet : WalletState) (index place : ℕ) (entry : Option Entry) → IsKept b → IsSound wallet.history → wallet.history ≡ with_entry b.wallet.history entry → wallet.round ≡ with_entry b.wallet.round entry
    → wallet.moment ≡ b.wallet.moment → IfSome entry (FitsRound b.moment) → slice_get b.used.items index ≡ Some false
    → IsKept (record { wallet = wallet; begun = b.begun; moment = b.moment; places = with_item b.places index place; used = with_item b.used index true })
kept_next b wallet index place entry kept sound grown round moment fits is =
    let behind = behind_next b.wallet.history wallet.history b.begun entry kept.begun grown in
    record {
      sound = sound;
      later = subst (λ (h : List Entry). last_moment h ≤ b.moment) (sym grown) (later_next b.wallet.history b.moment entry kept.later fits);
      begun = omega (arith, kept.begun, ap length grown, length-append b.wallet.history (option_to_list entry));
      moment = moment ∙ kept.moment;
      round = round ∙ ap (λ (l : List Entry). with_entry l entry) kept.round ∙ sym behind;
      fit = subst (λ (l : List Entry). AllByRecursion (FitsRound b.moment) l) (sym behind) (fit_next (entries_of b) b.moment entry kept.fit fits);
      places = length-set b.used.items index true ∙ kept.places ∙ sym (length-set b.places.items index place);
      indexes = omega (arith, kept.indexes, ap length behind, length_next (entries_of b) entry, unused_next b.used.items index is);
    }
