-- What incoming payments have received behind a step.
use Rattle.std.proofs.Common.{◌≡◌, ℕ, ◌+◌, ◌-◌, ◌<◌, ◌≤◌, Bool, true, false, cond, List, [], ◌∷◌, ◌++◌, length, refl, ◌∙◌, sym, ap, subst, arith, Some, None, Option, map, sum_by, not}
use Rattle.std.specs.Prelude.{◌==◌, ◌||◌, if◌then◌else◌, slice_set}
use Rattle.std.specs.List.{list_any, enumerate_from}
use Rattle.std.specs.Option.{option_map}
use Rattle.std.proofs.lemmas.Bool.Decides.{nat_tests}
use Rattle.std.proofs.lemmas.List.Sums.{sum_by-set}
use Rattle.std.proofs.lemmas.Option.{slice_get_within, get_or_from_slice_get}
use Rattle.op_incoming.specs.Models.{StandsAs as IsIncoming}
use Rattle.op_incoming.specs.Rows.{paid, with_received, is_unclosed, was_completed}
use Rattle.op_incoming.specs.declared.incoming.Incoming.{Incoming}
use Rattle.op_incoming.proofs.Places.{nth-with_item}
use Rattle.op_model.specs.History.{nth, with_item, changed_at}
use Rattle.op_model.specs.Incoming.{is_closing, is_completing}
use Rattle.op_model.specs.Payments.{incomings, outgoings, received}
use Rattle.op_model.specs.declared.act.Entry.{Entry}
use Rattle.op_model.specs.declared.row.OutgoingRow.{OutgoingRow}
use Rattle.op_outgoing.proofs.Rows.{place_of, written}
use Rattle.op_legal.proofs.Chains.{none_is_not, some_is}
use Rattle.op_paying.specs.Money.{AreIncomings}

any_next : (test : Entry → Bool) (history : List Entry) (e : Entry) → test e ≡ false → list_any test (history ++ e ∷ []) ≡ list_any test history
any_next test [] e h = rw h refl
any_next test (f ∷ fs) e h = ap (λ b. test f || b) (any_next test fs e h)

pub sum_changed : (f : OutgoingRow → ℕ) (rows : List OutgoingRow) (change : OutgoingRow → OutgoingRow) (n : ℕ) (row : OutgoingRow) → nth rows n ≡ Some row → sum_by f (with_item change rows n) + f row ≡ sum_by f rows + f (change row)
sum_changed f rows change n row h =
    let at = place_of rows n row h in
    let within : n - 1 < length rows = slice_get_within rows (n - 1) row at.got in
    ap (λ xs. sum_by f xs + f row) (sym (written change rows n row h))
    ∙ ap (λ x. sum_by f (slice_set rows (n - 1) (change row)) + f x) (sym (get_or_from_slice_get rows (n - 1) row row at.got))
    ∙ sum_by-set f rows (n - 1) (change row) row within

abbrev pub share_of : ℕ → OutgoingRow → ℕ
share_of i row = if row.terms.incoming == i then row.delivered else 0

pub received_next : (history : List Entry) (e : Entry) (change : OutgoingRow → OutgoingRow) (p i : ℕ) (row : OutgoingRow) → outgoings (history ++ e ∷ []) ≡ with_item change (outgoings history) p → nth (outgoings history) p ≡ Some row → received (history ++ e ∷ []) i + share_of i row ≡ received history i + share_of i (change row)
received_next history e change p i row rows there =
    ap (λ (l : List OutgoingRow). sum_by (share_of i) l + share_of i row) rows ∙ sum_changed (share_of i) (outgoings history) change p row there

-- an entry that closes no incoming payment and makes none
pub record ClosesNone (history : List Entry) (e : Entry) : Type 0 where
  pub closes : (i : ℕ) → is_closing i e.act ≡ false
  pub completes : (i : ℕ) → is_completing i e.act ≡ false
  pub makes : incomings (history ++ e ∷ []) ≡ incomings history

still_incoming : (history : List Entry) (e : Entry) (i : ℕ) (x y : Incoming) → ClosesNone history e → IsIncoming history i x → y.closing ≡ x.closing → y.received ≡ received (history ++ e ∷ []) i → IsIncoming (history ++ e ∷ []) i y
still_incoming history e i x y none is same got = record {
  received = got;
  closed = ap is_unclosed same ∙ is.closed ∙ ap not (sym (any_next (λ (f : Entry). is_closing i f.act) history e (none.closes i)));
  completed = ap was_completed same ∙ is.completed ∙ sym (any_next (λ (f : Entry). is_completing i f.act) history e (none.completes i));
}

pub same_incomings : (history : List Entry) (e : Entry) (rows : List Incoming) → AreIncomings history rows → ClosesNone history e → ((i : ℕ) → received (history ++ e ∷ []) i ≡ received history i) → AreIncomings (history ++ e ∷ []) rows
same_incomings history e rows are none same = record {
  rows_are = are.rows_are ∙ sym none.makes;
  each = λ i x at. still_incoming history e i x x none (are.each i x at) refl ((are.each i x at).received ∙ sym (same i));
}

same_either : {X Y : Type 0} (f : X → Y) (change : X → X) (b : Bool) (x : X) → f (change x) ≡ f x → f (cond b (change x) x) ≡ f x
same_either f change true x h = h
same_either f change false x h = refl

pub map_from : {X Y : Type 0} (f : X → Y) (change : X → X) (n b : ℕ) (xs : List X) → ((x : X) → f (change x) ≡ f x) → map f (map (changed_at change n) (enumerate_from b xs)) ≡ map f xs
map_from f change n b [] h = refl
map_from f change n b (x ∷ xs) h =
    ap (λ y. y ∷ map f (map (changed_at change n) (enumerate_from (b + 1) xs))) (same_either f change (b == n) x (h x))
    ∙ ap (λ ys. f x ∷ ys) (map_from f change n (b + 1) xs h)

paid_where : (b : Bool) (history : List Entry) (e : Entry) (rows : List Incoming) (n d k : ℕ) (found : Option Incoming) (y : Incoming) → AreIncomings history rows → ClosesNone history e → ((i : ℕ) → received (history ++ e ∷ []) i ≡ received history i + cond (n == i) d 0)
    → (k == n) ≡ b → nth rows k ≡ found → cond b (option_map (with_received d) found) found ≡ Some y → IsIncoming (history ++ e ∷ []) k y
paid_where true history e rows n d k None y are none more same at h = none_is_not y h
paid_where true history e rows n d k (Some x) y are none more same at h =
    let is = are.each k x at in
    let new : with_received d x ≡ y = some_is (with_received d x) y h in
    let here : (n == k) ≡ true = grind (arith, nat_tests) in
    let sum : x.received + d ≡ received (history ++ e ∷ []) k = ap (λ r. r + d) is.received ∙ sym (more k ∙ ap (λ t. received history k + cond t d 0) here) in
    subst (IsIncoming (history ++ e ∷ []) k) new (still_incoming history e k x (with_received d x) none is refl sum)
paid_where false history e rows n d k None y are none more same at h = none_is_not y h
paid_where false history e rows n d k (Some x) y are none more same at h =
    let is = are.each k x at in
    let new : x ≡ y = some_is x y h in
    let other : (n == k) ≡ false = grind (arith, nat_tests) in
    let sum : x.received ≡ received (history ++ e ∷ []) k = let m = more k ∙ ap (λ t. received history k + cond t d 0) other in omega (arith, is.received, m) in
    subst (IsIncoming (history ++ e ∷ []) k) new (still_incoming history e k x x none is refl sum)

pub paid_incomings : (history : List Entry) (e : Entry) (rows : List Incoming) (n d : ℕ) → AreIncomings history rows → ClosesNone history e → ((i : ℕ) → received (history ++ e ∷ []) i ≡ received history i + cond (n == i) d 0) → AreIncomings (history ++ e ∷ []) (paid rows n d)
paid_incomings history e rows n d are none more = record {
  rows_are = map_from (λ (x : Incoming). x.row) (with_received d) n 1 rows (λ x. refl) ∙ are.rows_are ∙ sym none.makes;
  each = λ k y at. paid_where (k == n) history e rows n d k (nth rows k) y are none more refl refl (sym (nth-with_item (with_received d) rows n k) ∙ at);
}

pub share_step : (b : Bool) (r s old new : ℕ) → s + cond b old 0 ≡ r + cond b new 0 → old ≤ new → s ≡ r + cond b (new - old) 0
share_step true r s old new h le = omega (arith, h)
share_step false r s old new h le = omega (arith, h)
