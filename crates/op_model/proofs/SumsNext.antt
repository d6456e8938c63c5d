-- What is received, held and spent behind one more entry, and whose a token is. These are sums over payments, or read off
-- grants: an entry that leaves those leaves them, one more payment adds its own part, and a step changes one part.
use Rattle.std.proofs.Common.{◌≡◌, ℕ, ◌+◌, Bool, true, false, cond, ◌&&◌, List, [], ◌∷◌, ◌++◌, length, map, refl, ◌∙◌, sym, ap, Some, None, Option, append-nil, add-zero}
use Rattle.std.proofs.lemmas.List.Sums.{sum_by_push}
use Rattle.std.specs.Prelude.{◌==◌, is_some, sum_by}
use Rattle.std.specs.List.{filter_map, list_any, position_from, enumerate_from}
use Rattle.std.specs.Option.{option_map, option_map_or, option_or, option_to_list}
use Rattle.op_model.specs.Balances.{held, is_payer}
use Rattle.op_model.specs.History.{nth, numbered, last, with_item, changed_at, number_of}
use Rattle.op_model.specs.Grants.{GrantMade, grants_made, grant_asked, grants, grant_so_far, items_of, cap_of, lies_within, spent, weight, is_failed, grant_of_token, live_token, is_secret}
use Rattle.op_model.specs.Payments.{PaymentMade, payments_made, payment_added, payment_so_far, outgoings, outgoing_row, received, is_step, is_last_piece, is_funding, failure, fail_reason, is_sending, left_to_post}
use Rattle.op_model.specs.declared.act.Account.{Account}
use Rattle.op_model.specs.declared.act.Entry.{Entry}
use Rattle.op_model.specs.declared.act.FailReason.{FailReason}
use Rattle.op_model.specs.declared.grant.Cap.{Cap}
use Rattle.op_model.specs.declared.grant.Item.{Item}
use Rattle.op_model.specs.declared.row.GrantRow.{GrantRow}
use Rattle.op_model.specs.declared.row.OutgoingRow.{OutgoingRow}
use Rattle.op_model.specs.declared.row.PaymentState.TheVariants as states
use Rattle.op_model.specs.declared.row.Terms.{Terms}
use Rattle.op_model.proofs.GrantsNext.{grants_made_stay}
use Rattle.op_model.proofs.Next.{grants_made-next, collected-next, position_from-append}
use Rattle.op_model.proofs.Numbered.{nth-numbered, nth-front, sum_by-with_item, sum_by-rows}
use Rattle.op_model.proofs.OutgoingsNext.{payment_at, payments_made_stay, fresh_payment}
use Rattle.op_model.proofs.Payments.{payment_stays}

-- ---- what each payment counts

abbrev pub received_by : ℕ → OutgoingRow → ℕ
received_by i row = cond (row.terms.incoming == i) row.delivered 0

abbrev pub held_by : Account → OutgoingRow → ℕ
held_by account row = cond (is_payer account row && is_sending row.state) (left_to_post row) 0

abbrev pub spent_by : List Item → (g j : ℕ) → OutgoingRow → ℕ
spent_by items g j row = cond ((row.grant == g) && lies_within items row.made j) (weight (cap_of items) row) 0

pub received_is : (history : List Entry) (i : ℕ) → received history i ≡ sum_by (received_by i) (outgoings history)
received_is history i = refl

pub held_is : (history : List Entry) (account : Account) → held history account ≡ sum_by (held_by account) (outgoings history)
held_is history account = refl

pub spent_is : (history : List Entry) (g j : ℕ) → spent history g j ≡ sum_by (spent_by (items_of history g) g j) (outgoings history)
spent_is history g j = refl

-- ---- one more payment, and a step of one

pub sum_made : (w : OutgoingRow → ℕ) (history longer : List Entry) (row : OutgoingRow) → outgoings longer ≡ outgoings history ++ row ∷ [] → sum_by w (outgoings longer) ≡ sum_by w (outgoings history) + w row
sum_made w history longer row rows = ap (sum_by w) rows ∙ sum_by_push w (outgoings history) row

pub sum_stepped : (w : OutgoingRow → ℕ) (history longer : List Entry) (change : OutgoingRow → OutgoingRow) (p : ℕ) (row : OutgoingRow) → outgoings longer ≡ with_item change (outgoings history) p → outgoing_row history p ≡ Some row
    → sum_by w (outgoings longer) + w row ≡ sum_by w (outgoings history) + w (change row)
sum_stepped w history longer change p row rows there = ap (λ (l : List OutgoingRow). sum_by w l + w row) rows ∙ sum_by-with_item w change (outgoings history) p row there

-- ---- received

pub received_stays : (history longer : List Entry) (i : ℕ) → outgoings longer ≡ outgoings history → received longer i ≡ received history i
received_stays history longer i same = ap (sum_by (received_by i)) same

-- a payment that is made has delivered nothing
none_received : (b : Bool) (n : ℕ) → n ≡ 0 → cond b n 0 ≡ 0
none_received true n h = h
none_received false n h = refl

pub received_made : (history longer : List Entry) (i : ℕ) (made : PaymentMade) → outgoings longer ≡ outgoings history ++ fresh_payment made ∷ [] → received longer i ≡ received history i
received_made history longer i made rows =
    let none = none_received ((fresh_payment made).terms.incoming == i) (fresh_payment made).delivered refl in
    sum_made (received_by i) history longer (fresh_payment made) rows ∙ ap (λ n. received history i + n) none ∙ add-zero (received history i)

pub received_step : (history longer : List Entry) (i : ℕ) (change : OutgoingRow → OutgoingRow) (p : ℕ) (row : OutgoingRow) → outgoings longer ≡ with_item change (outgoings history) p → outgoing_row history p ≡ Some row
    → received longer i + received_by i row ≡ received history i + received_by i (change row)
received_step history longer i change p row rows there = sum_stepped (received_by i) history longer change p row rows there

-- ---- held

pub held_stays : (history longer : List Entry) (account : Account) → outgoings longer ≡ outgoings history → held longer account ≡ held history account
held_stays history longer account same = ap (sum_by (held_by account)) same

none_held : (b : Bool) (n : ℕ) → cond (b && false) n 0 ≡ 0
none_held true n = refl
none_held false n = refl

-- a payment that is made holds nothing
pub held_made : (history longer : List Entry) (account : Account) (made : PaymentMade) → outgoings longer ≡ outgoings history ++ fresh_payment made ∷ [] → held longer account ≡ held history account
held_made history longer account made rows =
    let none = none_held (is_payer account (fresh_payment made)) (left_to_post (fresh_payment made)) in
    sum_made (held_by account) history longer (fresh_payment made) rows ∙ ap (λ n. held history account + n) none ∙ add-zero (held history account)

pub held_step : (history longer : List Entry) (account : Account) (change : OutgoingRow → OutgoingRow) (p : ℕ) (row : OutgoingRow) → outgoings longer ≡ with_item change (outgoings history) p → outgoing_row history p ≡ Some row
    → held longer account + held_by account row ≡ held history account + held_by account (change row)
held_step history longer account change p row rows there = sum_stepped (held_by account) history longer change p row rows there

-- ---- spent: the items of a grant that is there stay

items_in : (history : List Entry) (g : ℕ) (o : Option GrantMade) → option_map_or (λ (row : GrantRow). row.items) (option_map (λ (m : GrantMade). grant_so_far history (g, m)) o) [] ≡ option_map_or (λ (m : GrantMade). m.items) o []
items_in history g None = refl
items_in history g (Some m) = refl

pub items_made : (history : List Entry) (g : ℕ) → items_of history g ≡ option_map_or (λ (m : GrantMade). m.items) (nth (grants_made history) g) []
items_made history g =
    ap (λ (o : Option GrantRow). option_map_or (λ row. row.items) o []) (nth-numbered (grant_so_far history) (grants_made history) g)
    ∙ items_in history g (nth (grants_made history) g)

-- an entry that asks for no grant leaves the items of all
pub items_stay : (history : List Entry) (e : Entry) (g : ℕ) → grant_asked (1 + length history) e.at e.act ≡ None → items_of (history ++ e ∷ []) g ≡ items_of history g
items_stay history e g none =
    items_made (history ++ e ∷ []) g ∙ ap (λ (l : List GrantMade). option_map_or (λ (m : GrantMade). m.items) (nth l g) []) (grants_made_stay history e none) ∙ sym (items_made history g)

-- any entry leaves the items of a grant that is there
pub items_keep : (history : List Entry) (e : Entry) (g : ℕ) (m : GrantMade) → nth (grants_made history) g ≡ Some m → items_of (history ++ e ∷ []) g ≡ items_of history g
items_keep history e g m there =
    let later : nth (grants_made (history ++ e ∷ [])) g ≡ Some m = ap (λ (l : List GrantMade). nth l g) (grants_made-next history e) ∙ nth-front (grants_made history) (option_to_list (grant_asked (1 + length history) e.at e.act)) g m there in
    items_made (history ++ e ∷ []) g ∙ ap (λ (x : Option GrantMade). option_map_or (λ (y : GrantMade). y.items) x []) (later ∙ sym there) ∙ sym (items_made history g)

-- what a payment that has not failed counts
abbrev pub promised : Option Cap → Terms → ℕ
promised None terms = 0
promised (Some cap) terms = cond cap.debit terms.debit terms.receive

pub alive_weight : (cap : Option Cap) (row : OutgoingRow) → is_failed row.state ≡ false → weight cap row ≡ promised cap row.terms
alive_weight None row h = refl
alive_weight (Some cap) row h =
    ap (λ b. cond cap.debit (cond b (row.sent + row.fee) row.terms.debit) (cond (is_failed row.state) row.delivered row.terms.receive)) h
    ∙ ap (λ b. cond cap.debit row.terms.debit (cond b row.delivered row.terms.receive)) h

failed_by : (x a b : Bool) → is_failed (cond x states.Failed (cond a states.Completed (cond b states.Sending states.Funding))) ≡ x
failed_by true a b = refl
failed_by false true b = refl
failed_by false false true = refl
failed_by false false false = refl

pub failed_is : (history : List Entry) (p : ℕ) (m : PaymentMade) → is_failed (payment_so_far history (p, m)).state ≡ is_some (fail_reason history p)
failed_is history p m = failed_by (is_some (fail_reason history p)) (list_any (λ (e : Entry). is_last_piece p e.act) history) (list_any (λ (e : Entry). is_funding p e.act) history)

reason_next : (history : List Entry) (e : Entry) (p : ℕ) → failure p e.act ≡ None → fail_reason (history ++ e ∷ []) p ≡ fail_reason history p
reason_next history e p none =
    let reasons : List FailReason = filter_map (λ (f : Entry). failure p f.act) history in
    ap (λ (l : List FailReason). last l) (collected-next (λ (f : Entry). failure p f.act) history e ∙ ap (λ (o : Option FailReason). reasons ++ option_to_list o) none ∙ append-nil reasons)

-- a payment that has not failed, and does not fail, counts what it counted
counts_same : (history : List Entry) (e : Entry) (items : List Item) (g j p : ℕ) (m : PaymentMade) (b : Bool) → is_step p e.act ≡ b → failure p e.act ≡ None → (b ≡ true → is_failed (payment_so_far history (p, m)).state ≡ false)
    → spent_by items g j (payment_so_far (history ++ e ∷ []) (p, m)) ≡ spent_by items g j (payment_so_far history (p, m))
counts_same history e items g j p m false is none alive = ap (spent_by items g j) (payment_stays history e p m is)
counts_same history e items g j p m true is none alive =
    let old = payment_so_far history (p, m) in
    let new = payment_so_far (history ++ e ∷ []) (p, m) in
    let later : is_failed new.state ≡ false = failed_is (history ++ e ∷ []) p m ∙ ap is_some (reason_next history e p none) ∙ sym (failed_is history p m) ∙ alive refl in
    ap (λ n. cond ((old.grant == g) && lies_within items old.made j) n 0) (alive_weight (cap_of items) new later ∙ sym (alive_weight (cap_of items) old (alive refl)))

-- an entry that makes no payment, and by which none fails, leaves what is spent: a step counts what it counted
pub spent_stays : (history : List Entry) (e : Entry) (items : List Item) (g j : ℕ) → payment_added history e.at e.act ≡ [] → ((p : ℕ) → failure p e.act ≡ None)
    → ((p : ℕ) (row : OutgoingRow) → is_step p e.act ≡ true → outgoing_row history p ≡ Some row → is_failed row.state ≡ false)
    → sum_by (spent_by items g j) (outgoings (history ++ e ∷ [])) ≡ sum_by (spent_by items g j) (outgoings history)
spent_stays history e items g j none fails alive =
    ap (λ (xs : List PaymentMade). sum_by (spent_by items g j) (map (payment_so_far (history ++ e ∷ [])) (numbered xs))) (payments_made_stay history e none)
    ∙ sum_by-rows (spent_by items g j) (payment_so_far (history ++ e ∷ [])) (payment_so_far history) (payments_made history)
    (λ p m h. counts_same history e items g j p m (is_step p e.act) refl (fails p) (λ is. alive p (payment_so_far history (p, m)) is (payment_at history p m h)))

-- a payment that is made counts what it promises
pub spent_made : (history longer : List Entry) (items : List Item) (g j : ℕ) (made : PaymentMade) → outgoings longer ≡ outgoings history ++ fresh_payment made ∷ []
    → (let fresh = fresh_payment made in sum_by (spent_by items g j) (outgoings longer) ≡ sum_by (spent_by items g j) (outgoings history) + cond ((fresh.grant == g) && lies_within items fresh.made j) (promised (cap_of items) fresh.terms) 0)
spent_made history longer items g j made rows =
    let fresh = fresh_payment made in
    sum_made (spent_by items g j) history longer fresh rows
    ∙ ap (λ k. sum_by (spent_by items g j) (outgoings history) + cond ((fresh.grant == g) && lies_within items fresh.made j) k 0) (alive_weight (cap_of items) fresh refl)

pub spent_step : (history longer : List Entry) (items : List Item) (g j : ℕ) (change : OutgoingRow → OutgoingRow) (p : ℕ) (row : OutgoingRow) → outgoings longer ≡ with_item change (outgoings history) p → outgoing_row history p ≡ Some row
    → sum_by (spent_by items g j) (outgoings longer) + spent_by items g j row ≡ sum_by (spent_by items g j) (outgoings history) + spent_by items g j (change row)
spent_step history longer items g j change p row rows there = sum_stepped (spent_by items g j) history longer change p row rows there

-- ---- whose a token is

pub token_stays : (history longer : List Entry) (t : ℕ) (token : List ℕ) → grants longer ≡ grants history → grant_of_token longer t token ≡ grant_of_token history t token
token_stays history longer t token same = ap (number_of (λ (row : GrantRow). is_secret (live_token t row) token)) same

-- one more grant: the number is that of the new one only where it is no other's
pub token_asked : (history longer : List Entry) (t : ℕ) (token : List ℕ) (row : GrantRow) → grants longer ≡ grants history ++ row ∷ []
    → grant_of_token longer t token ≡ option_or (grant_of_token history t token) (cond (is_secret (live_token t row) token) (Some (1 + length (grants history))) None)
token_asked history longer t token row rows =
    ap (number_of (λ (r : GrantRow). is_secret (live_token t r) token)) rows ∙ position_from-append (λ (r : GrantRow). is_secret (live_token t r) token) 1 (grants history) (row ∷ [])

same_position : {X : Type 0} (test : X → Bool) (change : X → X) (n b : ℕ) (xs : List X) → ((x : X) → test (change x) ≡ test x) → position_from test b (map (changed_at change n) (enumerate_from b xs)) ≡ position_from test b xs
same_position test change n b xs same = positions b b xs
  where
    own : (c : Bool) (x : _) → test (cond c (change x) x) ≡ test x
    own true x = same x
    own false x = refl

    positions : (from at : ℕ) (ys : List _) → position_from test from (map (changed_at change n) (enumerate_from at ys)) ≡ position_from test from ys
    positions from at [] = refl
    positions from at (y ∷ ys) = rw (own (at == n) y, positions (from + 1) (at + 1) ys) refl

-- a change of one grant that leaves its live token
pub token_changed : (history longer : List Entry) (t : ℕ) (token : List ℕ) (change : GrantRow → GrantRow) (g : ℕ) → grants longer ≡ with_item change (grants history) g → ((row : GrantRow) → live_token t (change row) ≡ live_token t row)
    → grant_of_token longer t token ≡ grant_of_token history t token
token_changed history longer t token change g rows same =
    ap (number_of (λ (r : GrantRow). is_secret (live_token t r) token)) rows
    ∙ same_position (λ (r : GrantRow). is_secret (live_token t r) token) change g 1 (grants history) (λ row. ap (λ (o : Option (List ℕ)). is_secret o token) (same row))
