-- Grants of a history, behind a payment that is made or fails.
use Rattle.std.proofs.Common.{◌≡◌, ℕ, ◌+◌, ◌-◌, ◌≤◌, true, false, cond, List, [], refl, ◌∙◌, sym, ap, subst, arith, Some, None, Option}
use Rattle.std.specs.Prelude.{is_some, IfSome, IsSome}
use Rattle.std.specs.BTreeMap.{is_at}
use Rattle.std.specs.Map.{lookup}
use Rattle.std.specs.Option.{option_map_or, option_and_then}
use Rattle.op_model.specs.Grants.{grants, items_of, interval_at}
use Rattle.op_model.specs.History.{nth}
use Rattle.op_model.specs.Payments.{left_to_post}
use Rattle.op_model.specs.declared.act.Act.TheVariants.{OutgoingFailed}
use Rattle.op_model.specs.declared.act.Entry.{Entry}
use Rattle.op_model.specs.declared.grant.Cap.{Cap}
use Rattle.op_model.specs.declared.row.GrantRow.{GrantRow}
use Rattle.op_model.specs.declared.row.OutgoingRow.{OutgoingRow}
use Rattle.op_grant.specs.Limits.{covers_spending}
use Rattle.op_grant.specs.Value.{GrantsValue, has_row, cap_in, interval_in, counted_under, counter_of, spent_in, with_counter, spent_more, spent_less, by_grant}
use Rattle.op_grant.proofs.Counters.{lookup-insert_entry, own_key}
use Rattle.op_grant.proofs.SpendingLaw.{counter_kept, rows_stay}
use Rattle.op_granting.specs.Keeping.{IsGrantsOf, MayPay, Pays, HasRoom, MayFail, Fails}
use Rattle.op_granting.specs.Models.{behind}
use Rattle.op_granting.specs.Spending.{counted_in, given_back, HasCover}
use Rattle.op_granting.specs.declared.next.NextEntry.{NextEntry}
use Rattle.op_granting.specs.declared.next.PaidUnder.{PaidUnder}
use Rattle.op_granting.proofs.Counting.{makes, made}
use Rattle.op_granting.proofs.Failing.{failed, IsWithinTerms, within_terms}
use Rattle.op_granting.proofs.Following.{stay}
use Rattle.op_granting.proofs.Granted.{payments_lie, payment_granted}
use Rattle.op_granting.proofs.Keeping.{words_behind, no_word, draws_none}
use Rattle.op_granting.proofs.SpendingFollows.{fits}

-- ---- room for what is counted

pub room_kept : (history : List Entry) (value : GrantsValue) (n j : ℕ) → IsGrantsOf history value → IsGrantsOf history (with_counter value n j)
room_kept history value n j are = record {
  rows = are.rows;
  spends = λ g k. let kept = counter_kept value n j g k in omega (arith, kept, are.spends g k);
  words = are.words;
}

counter_there : (value : GrantsValue) (n j : ℕ) → is_some (counter_of (with_counter value n j) n j) ≡ true
counter_there value n j =
    ap is_some (lookup-insert_entry (n, j) (n, j) value.spent (spent_in value n j))
    ∙ ap (λ b. is_some (cond b (Some (spent_in value n j)) (lookup (is_at (by_grant (n, j))) value.spent))) (own_key (n, j))

some_there : (o : Option ℕ) → is_some o ≡ true → IsSome o
some_there None h = absurd (let e : false ≡ true = h in cc)
some_there (Some x) h = refl

room_where : (value : GrantsValue) (n j : ℕ) (o : Option ℕ) → o ≡ Some j → IfSome o (λ k. IsSome (counter_of (with_counter value n j) n k))
room_where value n j None is = absurd (let e : None ≡ Some j = is in cc)
room_where value n j (Some k) is =
    let same : k ≡ j = cc in
    subst (λ i. IsSome (counter_of (with_counter value n j) n i)) (sym same) (some_there (counter_of (with_counter value n j) n j) (counter_there value n j))

pub room_made : (value : GrantsValue) (n t j : ℕ) → interval_in value n t ≡ Some j → HasRoom (with_counter value n j) n t
room_made value n t j at = room_where value n j (interval_in value n t) at

room_none : (value : GrantsValue) (n : ℕ) (o : Option ℕ) → o ≡ None → IfSome o (λ k. IsSome (counter_of value n k))
room_none value n None is = tt
room_none value n (Some k) is = absurd (let e : Some k ≡ None = is in cc)

pub no_room : (value : GrantsValue) (n t : ℕ) → interval_in value n t ≡ None → HasRoom value n t
no_room value n t at = room_none value n (interval_in value n t) at

-- ---- the interval

interval_where : (o : Option GrantRow) (t : ℕ) → is_some o ≡ true → option_and_then (λ (row : GrantRow). interval_at row.items t) o ≡ interval_at (option_map_or (λ (row : GrantRow). row.items) o []) t
interval_where None t h = absurd (let e : false ≡ true = h in cc)
interval_where (Some row) t h = refl

interval_is : (value : GrantsValue) (history : List Entry) (n t : ℕ) → value.rows ≡ grants history → has_row value n ≡ true → interval_in value n t ≡ interval_at (items_of history n) t
interval_is value history n t rows there =
    interval_where (nth value.rows n) t there ∙ ap (λ (l : List GrantRow). interval_at (option_map_or (λ (row : GrantRow). row.items) (nth l n) []) t) rows

-- ---- a payment that is made

pub cover_of : (value : GrantsValue) (next : NextEntry) (paid : PaidUnder) (may : MayPay value next paid) → HasCover value may.history next.at paid
cover_of value next paid may = fits value may.history next.at may.act paid may.entry.are.rows may.entry.are.spends may.pays may.entry.follows

pub paid_there : (value : GrantsValue) (next : NextEntry) (paid : PaidUnder) → MayPay value next paid → has_row value paid.grant ≡ true
paid_there value next paid may = (cover_of value next paid may).there

pub paid_interval : (value : GrantsValue) (next : NextEntry) (paid : PaidUnder) (may : MayPay value next paid) → interval_in value paid.grant next.at ≡ Some (cover_of value next paid may).interval
paid_interval value next paid may =
    let cover = cover_of value next paid may in
    interval_is value may.history paid.grant next.at may.entry.are.rows cover.there ∙ cover.lies

pub paid_covered : (value : GrantsValue) (next : NextEntry) (paid : PaidUnder) (j : ℕ) → MayPay value next paid → interval_in value paid.grant next.at ≡ Some j → covers_spending value paid.grant j (counted_in value paid) ≡ true
paid_covered value next paid j may at =
    let cover = cover_of value next paid may in
    let same : cover.interval ≡ j = let e : Some cover.interval ≡ Some j = sym (paid_interval value next paid may) ∙ at in cc in
    subst (λ i. covers_spending value paid.grant i (counted_in value paid) ≡ true) same cover.covers

pub made_pays : (value new : GrantsValue) (next : NextEntry) (paid : PaidUnder) (j : ℕ) → interval_in value paid.grant next.at ≡ Some j → has_row value paid.grant ≡ true → new ≡ spent_more value paid.grant j (counted_in value paid) → Pays value new next paid
made_pays value new next paid j at there is history act entry pays =
    let makes_it = makes history next.at act paid pays in
    let lies : interval_at (items_of history paid.grant) next.at ≡ Some j = sym (interval_is value history paid.grant next.at entry.are.rows there) ∙ at in
    let spends = made value history next.at j act paid entry.legal entry.are.rows entry.are.spends pays lies in
    subst (IsGrantsOf (behind history next.at act)) (sym is)
    (record {
      rows = rows_stay (cap_in value paid.grant) value paid.grant j (spent_in value paid.grant j + counted_in value paid) ∙ entry.are.rows ∙ sym (stay history next.at act makes_it.other);
      spends = spends;
      words = words_behind history next.at act entry.are.words (no_word act (draws_none act makes_it.other));
    })

-- ---- a payment that fails

pub fail_within : (value : GrantsValue) (next : NextEntry) (row : OutgoingRow) → MayFail value next row → IsWithinTerms row
fail_within value next row may = within_terms may.history may.payment row may.entry.legal may.there

pub fail_there : (value : GrantsValue) (next : NextEntry) (row : OutgoingRow) → MayFail value next row → has_row value row.grant ≡ true
fail_there value next row may =
    ap (λ (l : List GrantRow). is_some (nth l row.grant)) may.entry.are.rows ∙ payment_granted may.history may.payment row may.entry.legal may.there

pub fail_lies : (value : GrantsValue) (next : NextEntry) (row : OutgoingRow) → MayFail value next row → (j : ℕ) × (interval_in value row.grant row.made ≡ Some j)
fail_lies value next row may =
    let lies = payments_lie may.history may.payment row may.entry.legal may.there in
    (lies.0, interval_is value may.history row.grant row.made may.entry.are.rows (fail_there value next row may) ∙ lies.1)

-- what is given back, as it is counted
pub counts_back : (row : OutgoingRow) (cap : Option Cap) → counted_under (left_to_post row) (row.terms.receive - row.delivered) cap ≡ given_back cap row
counts_back row None = refl
counts_back row (Some cap) = refl

back_at : (value : GrantsValue) (history : List Entry) (row : OutgoingRow) (j : ℕ) → value.rows ≡ grants history → has_row value row.grant ≡ true → interval_in value row.grant row.made ≡ Some j → interval_at (items_of history row.grant) row.made ≡ Some j
back_at value history row j rows there at = sym (interval_is value history row.grant row.made rows there) ∙ at

pub fail_covered : (value : GrantsValue) (next : NextEntry) (row : OutgoingRow) (j v : ℕ) → MayFail value next row → interval_in value row.grant row.made ≡ Some j → v ≡ given_back (cap_in value row.grant) row → v ≤ spent_in value row.grant j
fail_covered value next row j v may at is =
    let lies = back_at value may.history row j may.entry.are.rows (fail_there value next row may) at in
    let back = failed value may.history next.at may.payment may.step j may.reason row may.entry.legal may.entry.follows may.entry.are.rows may.entry.are.spends may.there lies in
    subst (λ n. n ≤ spent_in value row.grant j) (sym is) back.covered

pub failed_fails : (value new : GrantsValue) (next : NextEntry) (row : OutgoingRow) (j v : ℕ) → has_row value row.grant ≡ true → interval_in value row.grant row.made ≡ Some j → v ≡ given_back (cap_in value row.grant) row → new ≡ spent_less value row.grant j v → Fails value new next row
failed_fails value new next row j v there at counted is history payment step reason entry found =
    let act = OutgoingFailed payment step reason in
    let lies = back_at value history row j entry.are.rows there at in
    let back = failed value history next.at payment step j reason row entry.legal entry.follows entry.are.rows entry.are.spends found lies in
    subst (IsGrantsOf (behind history next.at act)) (sym (is ∙ ap (spent_less value row.grant j) counted))
    (record {
      rows = entry.are.rows ∙ sym (stay history next.at act refl);
      spends = back.spends;
      words = words_behind history next.at act entry.are.words (no_word act refl);
    })

-- where there is room, something is counted
there_where : {P : Type 0} (value : GrantsValue) (n j : ℕ) (o : Option ℕ) → o ≡ Some j → counter_of value n j ≡ None → IfSome o (λ k. IsSome (counter_of value n k)) → P
there_where value n j None is none room = absurd (let e : None ≡ Some j = is in cc)
there_where value n j (Some k) is none room =
    let same : k ≡ j = cc in
    no_counter (counter_of value n k) (ap (counter_of value n) same ∙ none) room
  where
    no_counter : {P : Type 0} (o : Option ℕ) → o ≡ None → IsSome o → P
    no_counter None e h = absurd (let f : false ≡ true = h in cc)
    no_counter (Some x) e h = absurd (let f : Some x ≡ None = e in cc)

pub room_counts : {P : Type 0} (value : GrantsValue) (n t j : ℕ) → interval_in value n t ≡ Some j → counter_of value n j ≡ None → HasRoom value n t → P
room_counts value n t j at none room = there_where value n j (interval_in value n t) at none room

-- a moment that lies in an interval
pub no_interval : {P : Type 0} (o : Option ℕ) (j : ℕ) → o ≡ Some j → None ≡ o → P
no_interval o j is none = absurd (let e : None ≡ Some j = none ∙ is in cc)

pub sent_within : (row : OutgoingRow) → IsWithinTerms row → row.sent ≤ row.terms.debit
sent_within row is = let d = is.debit in omega (arith, d)

pub fee_left : (row : OutgoingRow) → IsWithinTerms row → row.fee ≤ row.terms.debit - row.sent
fee_left row is = let d = is.debit in omega (arith, d)
