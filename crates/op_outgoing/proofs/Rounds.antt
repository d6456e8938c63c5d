-- The steps of the first payments that have not ended, and the cursor behind them.
use Rattle.std.proofs.Common.{◌≡◌, refl, sym, ap, subst, ◌∙◌, ℕ, suc, ◌+◌, ◌<◌, ◌≤◌, Bool, true, false, cond, List, [], ◌∷◌, ◌++◌, length, map, take, arith, add-zero, unwrap_or, get_or, append-nil}
use Rattle.std.specs.Prelude.{◌&&◌, nat_lt, filter, slice_get, Some, None}
use Rattle.std.specs.List.{enumerate_from, filter_map, cons_option}
use Rattle.std.specs.Option.{option_map_or}
use Rattle.std.proofs.lemmas.List.{length-map, length-take, map-append, take-map, take_more}
use Rattle.std.proofs.lemmas.List.Elements.{filter-append}
use Rattle.std.proofs.lemmas.Bool.Decides.{nat_tests}
use Rattle.op_model.specs.Numbers.{number_if, numbers_where}
use Rattle.op_model.specs.History.{nth, last}
use Rattle.op_model.specs.Work.{Running, step_task}
use Rattle.op_model.specs.declared.request.Task.{Task}
use Rattle.op_model.specs.declared.request.Task.TheVariants.{Step}
use Rattle.op_model.specs.declared.row.OutgoingRow.{OutgoingRow}
use Rattle.op_model.proofs.Next.{last-next}
use Rattle.op_outgoing.specs.Progress.{is_alive}
use Rattle.op_outgoing.specs.Work.{running_if, running_in, due_steps, next_cursor}

abbrev pub is_above : ℕ → ℕ → Bool
is_above cursor n = nat_lt cursor n

abbrev pub step_number_in : List OutgoingRow → ℕ → ℕ
step_number_in rows n = option_map_or (λ row. row.step) (nth rows n) 0

-- the step of payment n that is due
abbrev pub step_in : List OutgoingRow → ℕ → Task
step_in rows n = Step n (step_number_in rows n)

abbrev running_of : (ℕ → ℕ) → ℕ → Running
running_of steps n = record { payment = n; step = steps n }

one_running : (above alive : Bool) (steps : ℕ → ℕ) (b step : ℕ) (test : ℕ → Bool) (ns : List ℕ) (rs : List Running) → test b ≡ above → steps b ≡ step → map (running_of steps) (filter test ns) ≡ rs → map (running_of steps) (filter test (cons_option (cond alive (Some b) None) ns)) ≡ cons_option (cond (above && alive) (Some (record { payment = b; step = step })) None) rs
one_running true true steps b step test ns rs is s rest = rw (is, s, rest) refl
one_running false true steps b step test ns rs is s rest = rw is rest
one_running true false steps b step test ns rs is s rest = rest
one_running false false steps b step test ns rs is s rest = rest

running_from : (cursor : ℕ) (steps : ℕ → ℕ) (b : ℕ) (rows : List OutgoingRow) → ((i : ℕ) → steps (b + i) ≡ option_map_or (λ row. row.step) (slice_get rows i) 0) → map (running_of steps) (filter (is_above cursor) (filter_map (number_if is_alive) (enumerate_from b rows))) ≡ filter_map (running_if cursor) (enumerate_from b rows)
running_from cursor steps b [] at = refl
running_from cursor steps b (row ∷ rows) at =
    let here : steps b ≡ row.step = subst (λ k. steps k ≡ row.step) (add-zero b) (at 0) in
    let next = λ (i : ℕ). let number : b + suc i ≡ (b + 1) + i = omega arith in subst (λ k. steps k ≡ option_map_or (λ r. r.step) (slice_get rows i) 0) number (at (suc i)) in
    one_running (is_above cursor b) (is_alive row) steps b row.step (is_above cursor) _ _ refl here (running_from cursor steps (b + 1) rows next)

-- the running payments above the cursor, by their numbers
pub running_numbers : (rows : List OutgoingRow) (cursor : ℕ) → map (running_of (step_number_in rows)) (filter (is_above cursor) (numbers_where is_alive rows)) ≡ running_in rows cursor
running_numbers rows cursor =
    running_from cursor (step_number_in rows) 1 rows (λ i. let number : 1 + i ≡ suc i = omega arith in ap (step_number_in rows) number)

tasks_of : (rows : List OutgoingRow) (ns : List ℕ) → map (step_in rows) ns ≡ map step_task (map (running_of (step_number_in rows)) ns)
tasks_of rows [] = refl
tasks_of rows (n ∷ ns) = ap (λ ts. step_in rows n ∷ ts) (tasks_of rows ns)

payments_of : (steps : ℕ → ℕ) (ns : List ℕ) → map (λ r. r.payment) (map (running_of steps) ns) ≡ ns
payments_of steps [] = refl
payments_of steps (n ∷ ns) = ap (λ ks. n ∷ ks) (payments_of steps ns)

-- the first numbers give the first running payments
firsts : (rows : List OutgoingRow) (cursor room : ℕ) → map (running_of (step_number_in rows)) (take room (filter (is_above cursor) (numbers_where is_alive rows))) ≡ take room (running_in rows cursor)
firsts rows cursor room =
    sym (take-map (running_of (step_number_in rows)) room (filter (is_above cursor) (numbers_where is_alive rows))) ∙ ap (take room) (running_numbers rows cursor)

pub due_of_numbers : (rows : List OutgoingRow) (cursor room : ℕ) (tasks : List Task) (ns : List ℕ) → tasks ≡ map (step_in rows) ns → ns ≡ take room (filter (is_above cursor) (numbers_where is_alive rows)) → tasks ≡ due_steps rows cursor room
due_of_numbers rows cursor room tasks ns is first =
    is ∙ ap (map (step_in rows)) first ∙ tasks_of rows (take room (filter (is_above cursor) (numbers_where is_alive rows))) ∙ ap (map step_task) (firsts rows cursor room)

cursor_step : (few : Bool) (k m : ℕ) → few ≡ false → k ≡ m → k ≡ cond few 0 m
cursor_step true k m never is = absurd (let e : true ≡ false = never in cc)
cursor_step false k m _ is = is

last_number : (rows : List OutgoingRow) (cursor room : ℕ) (ns : List ℕ) → ns ≡ take room (filter (is_above cursor) (numbers_where is_alive rows)) → unwrap_or (last ns) 0 ≡ unwrap_or (last (map (λ r. r.payment) (take room (running_in rows cursor)))) 0
last_number rows cursor room ns first =
    ap (λ ks. unwrap_or (last ks) 0)
    (first ∙ sym (payments_of (step_number_in rows) (take room (filter (is_above cursor) (numbers_where is_alive rows)))) ∙ ap (map (λ r. r.payment)) (firsts rows cursor room))

count_running : (rows : List OutgoingRow) (cursor : ℕ) → length (running_in rows cursor) ≡ length (filter (is_above cursor) (numbers_where is_alive rows))
count_running rows cursor =
    ap length (sym (running_numbers rows cursor)) ∙ length-map (filter (is_above cursor) (numbers_where is_alive rows)) (running_of (step_number_in rows))

not_few : (n room : ℕ) → room ≤ n → nat_lt n room ≡ false
not_few n room h = grind (arith, nat_tests)

few : (n room : ℕ) → n < room → nat_lt n room ≡ true
few n room h = grind (arith, nat_tests)

-- as many were taken as there was room for
pub cursor_full : (rows : List OutgoingRow) (cursor room k : ℕ) (ns : List ℕ) → k ≡ unwrap_or (last ns) 0 → ns ≡ take room (filter (is_above cursor) (numbers_where is_alive rows)) → length ns ≡ room → k ≡ next_cursor rows cursor room
cursor_full rows cursor room k ns is first full =
    let all = filter (is_above cursor) (numbers_where is_alive rows) in
    let many : room ≤ length all = omega (arith, ap length first, full, length-take room all) in
    cursor_step (nat_lt (length (running_in rows cursor)) room) k _ (not_few (length (running_in rows cursor)) room (omega (arith, many, count_running rows cursor))) (is ∙ last_number rows cursor room ns first)

zero_step : (few : Bool) (m : ℕ) → few ≡ true → 0 ≡ cond few 0 m
zero_step true m is = refl
zero_step false m is = absurd (let e : false ≡ true = is in cc)

-- fewer were left
pub cursor_short : (rows : List OutgoingRow) (cursor room : ℕ) (ns : List ℕ) → ns ≡ filter (is_above cursor) (numbers_where is_alive rows) → length ns < room → 0 ≡ next_cursor rows cursor room
cursor_short rows cursor room ns all short =
    zero_step (nat_lt (length (running_in rows cursor)) room) _ (few (length (running_in rows cursor)) room (omega (arith, count_running rows cursor, ap length all)))

-- ---- one more number

numbers_more : (cursor : ℕ) (items : List ℕ) (i n : ℕ) (is : Bool) → i < length items → get_or items i 0 ≡ n → is_above cursor n ≡ is → filter (is_above cursor) (take (i + 1) items) ≡ filter (is_above cursor) (take i items) ++ cond is (n ∷ []) []
numbers_more cursor items i n is within at above =
    ap (filter (is_above cursor)) (take_more items i 0 within) ∙ filter-append (is_above cursor) (take i items) (get_or items i 0 ∷ [])
    ∙ ap (λ m. filter (is_above cursor) (take i items) ++ cond (is_above cursor m) (m ∷ []) []) at
    ∙ ap (λ b. filter (is_above cursor) (take i items) ++ cond b (n ∷ []) []) above

over : (cursor n : ℕ) → cursor < n → is_above cursor n ≡ true
over cursor n h = grind (arith, nat_tests)

under : (cursor n : ℕ) → n ≤ cursor → is_above cursor n ≡ false
under cursor n h = grind (arith, nat_tests)

pub taken_more : (cursor : ℕ) (items : List ℕ) (i n : ℕ) → i < length items → get_or items i 0 ≡ n → cursor < n → filter (is_above cursor) (take (i + 1) items) ≡ filter (is_above cursor) (take i items) ++ n ∷ []
taken_more cursor items i n within at h = numbers_more cursor items i n true within at (over cursor n h)

pub taken_same : (cursor : ℕ) (items : List ℕ) (i n : ℕ) → i < length items → get_or items i 0 ≡ n → n ≤ cursor → filter (is_above cursor) (take (i + 1) items) ≡ filter (is_above cursor) (take i items)
taken_same cursor items i n within at h = numbers_more cursor items i n false within at (under cursor n h) ∙ append-nil _

pub step_more : (rows : List OutgoingRow) (tasks : List Task) (ns more : List ℕ) (n k : ℕ) → tasks ≡ map (step_in rows) ns → k ≡ step_number_in rows n → more ≡ ns ++ n ∷ [] → tasks ++ Step n k ∷ [] ≡ map (step_in rows) more
step_more rows tasks ns more n k is step next =
    ap (λ ts. ts ++ Step n k ∷ []) is ∙ ap (λ s. map (step_in rows) ns ++ Step n s ∷ []) step ∙ sym (map-append (step_in rows) ns (n ∷ [])) ∙ ap (map (step_in rows)) (sym next)

pub last_more : (ns more : List ℕ) (n : ℕ) → more ≡ ns ++ n ∷ [] → n ≡ unwrap_or (last more) 0
last_more ns more n next = sym (ap (λ ks. unwrap_or (last ks) 0) next ∙ ap (λ o. unwrap_or o 0) (last-next ns n))
