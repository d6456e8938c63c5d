-- Acts and entries, read back.
use Rattle.std.proofs.Common.{◌≡◌, ◌≢◌, ℕ, zero, suc, ◌+◌, ◌-◌, ◌<◌, ◌≤◌, Bool, true, false, cond, ltb, leb, eqb, lit<, lit≤, List, [], ◌∷◌, ◌++◌, length, Option, Some, None, Result, Ok, Err, refl, sym, ap, subst, ◌∙◌, append_assoc, arith}
use Rattle.std.specs.Prelude.{IfSome}
use Rattle.std.proofs.lemmas.Bool.{leb-true, eqb-true, leb-false, eqb-false}
use Rattle.std.proofs.lemmas.List.{append-nil}
use Rattle.op_model.specs.declared.act.Entry.{Entry}
use Rattle.op_model.specs.declared.act.Act.{Act}
use Rattle.op_model.specs.declared.act.Act.TheVariants as acts
use Rattle.op_record.specs.Fields.{number, text, optional, account, items, finish, mode_number, reason_number}
use Rattle.op_time.specs.declared.TheConstants.{LAST}
use Rattle.op_record.specs.Records.{row, act_of, record_of}
use Rattle.op_record.specs.Recordable.{IsWithinLimits, IsOfVersion1, FitsAct, IsU64, IsWord}
use Rattle.op_record.specs.Cuts.{HasRecord}
use Rattle.op_record.specs.Rounds.{act_in, IsInRound}
use Rattle.op_record.specs.Readers.{Reader, bind, done, byte_between, text_at, option_at}
use Rattle.op_record.specs.Rows.{moment_at, origin_set_at, asset_added_at, address_added_at, moved_at, rate_set_at, incoming_made_at, quote_made_at, grant_asked_at, one_at, two_at, drawn_at, outgoing_made_at, outgoing_failed_at, attempted_at, outgoing_direct_at, provider_at, receiving_at, grant_at, sending_at, fields_at, act_at, entry_at, entry_of_round_at}
use Rattle.op_record.proofs.FieldLaws.{Field, Row, row-bind, row-done, row-last, row-if, row-fits, again-bind, again-done, field-of, field-fits, one, IsBetween, between-field, text-field, option-field}
use Rattle.op_record.proofs.Parts.{u32-field, u64-field, moment-field, word-field, account-field, mode-field, reason-field, outcome-field}
use Rattle.op_record.proofs.ItemLaws.{items-field, finish-field}

abbrev pub ActFits : Act → Type 0
ActFits act = IsWithinLimits act × FitsAct act

abbrev head_of : List ℕ → ℕ
head_of [] = 0
head_of (b ∷ bytes) = b

-- the kind of an act
abbrev pub kind_of : Act → ℕ
kind_of act = head_of (act_of act)

-- the acts of kinds up to the highest that is known
abbrev pub IsActOf : ℕ → Act → Type 0
IsActOf highest act = ActFits act × (kind_of act ≤ highest)

-- the acts of a kind
abbrev Kind : ℕ → Reader Act → Type 0
Kind kind r = Row act_of ActFits (λ t. kind ∷ t) r

byte-any : Field (byte_between 0 255) one (λ b. b < 256)
byte-any = field-fits (between-field 0 255 (lit≤ tt)) (λ b h. omega (arith, h.1)) (λ b h. (omega arith, omega arith))

origin_set : Kind 1 origin_set_at
unfolding origin_set_at
origin_set = row-bind _ (text-field 200 (lit< tt)) (λ origin o. row-done _ _ refl (tt, o))

asset_added : Kind 2 asset_added_at
unfolding asset_added_at
asset_added = row-bind _ (text-field 8 (lit< tt)) (λ code c. row-bind _ byte-any (λ scale s. row-bind _ byte-any (λ pieces p. row-done _ _ refl (tt, (c, s, p)))))

address_added : Kind 3 address_added_at
unfolding address_added_at
address_added = row-bind _ (text-field 128 (lit< tt)) (λ path p. row-bind _ u32-field (λ asset a. row-bind _ (option-field (text-field 128 (lit< tt))) (λ name n.
    row-done _ _ refl ((p, n), a))))

deposited : Kind 4 (moved_at acts.Deposited)
unfolding moved_at
deposited = row-bind _ (text-field 64 (lit< tt)) (λ transfer t. row-bind _ account-field (λ account a. row-bind _ u64-field (λ value v. row-done _ _ refl ((t, a.0), (a.1, v)))))

withdrawn : Kind 5 (moved_at acts.Withdrawn)
unfolding moved_at
withdrawn = row-bind _ (text-field 64 (lit< tt)) (λ transfer t. row-bind _ account-field (λ account a. row-bind _ u64-field (λ value v. row-done _ _ refl ((t, a.0), (a.1, v)))))

rate_set : Kind 6 rate_set_at
unfolding rate_set_at
rate_set = row-bind _ u32-field (λ source s. row-bind _ u32-field (λ target t. row-bind _ u64-field (λ num n. row-bind _ u64-field (λ den d. row-done _ _ refl (tt, (s, t, n, d))))))

incoming_made : Kind 7 incoming_made_at
unfolding incoming_made_at
incoming_made = row-bind _ u64-field (λ grant g. row-bind _ u32-field (λ address a. row-bind _ (option-field u64-field) (λ amount m. row-bind _ moment-field (λ expiry e.
    row-bind _ (option-field (text-field 1024 (lit< tt))) (λ metadata d. row-done _ _ refl (d, (g, a, m, e)))))))

quote_made : Kind 10 quote_made_at
unfolding quote_made_at
quote_made = row-bind _ u64-field (λ grant a. row-bind _ u32-field (λ address b. row-bind _ u64-field (λ incoming c. row-bind _ mode-field (λ mode d. row-bind _ u64-field (λ asked e.
    row-bind _ u64-field (λ debit f. row-bind _ u64-field (λ source g. row-bind _ u64-field (λ fee h. row-bind _ u64-field (λ receive i. row-bind _ u64-field (λ num j. row-bind _ u64-field (λ den k.
    row-done _ _ refl (tt, (a, b, c, e, f, g, h, i, j, k)))))))))))))

grant_asked : Kind 11 grant_asked_at
unfolding grant_asked_at
grant_asked = row-bind _ (text-field 256 (lit< tt)) (λ client c. row-bind _ items-field (λ items i. row-bind _ (option-field finish-field) (λ finish f. row-bind _ word-field (λ word w.
    row-done _ _ refl ((c, i.0, f), (i.1, w))))))

one_of : (kind : ℕ) (made : ℕ → Act) → ((n : ℕ) → kind ∷ (number 8 n ++ []) ≡ act_of (made n)) → ((n : ℕ) → IsU64 n → ActFits (made n)) → Kind kind (one_at made)
unfolding one_at
one_of kind made spelled fits = row-bind _ u64-field (λ n h. row-done _ _ (spelled n) (fits n h))

two_of : (kind : ℕ) (made : ℕ → ℕ → Act) → ((m n : ℕ) → kind ∷ (number 8 m ++ (number 8 n ++ [])) ≡ act_of (made m n)) → ((m n : ℕ) → IsU64 m → IsU64 n → ActFits (made m n)) → Kind kind (two_at made)
unfolding two_at
two_of kind made spelled fits = row-bind _ u64-field (λ m h. row-bind _ u64-field (λ n k. row-done _ _ (spelled m n) (fits m n h k)))

drawn_of : (kind : ℕ) (made : ℕ → List ℕ → Act) → ((n : ℕ) (word : List ℕ) → kind ∷ (number 8 n ++ (word ++ [])) ≡ act_of (made n word)) → ((n : ℕ) (word : List ℕ) → IsU64 n → IsWord word → ActFits (made n word)) → Kind kind (drawn_at made)
unfolding drawn_at
drawn_of kind made spelled fits = row-bind _ u64-field (λ n h. row-bind _ word-field (λ word k. row-done _ _ (spelled n word) (fits n word h k)))

outgoing_made : Kind 19 outgoing_made_at
unfolding outgoing_made_at
outgoing_made = row-bind _ u64-field (λ grant g. row-bind _ u64-field (λ quote q. row-bind _ (option-field (text-field 1024 (lit< tt))) (λ metadata d. row-done _ _ refl (d, (g, q)))))

outgoing_failed : Kind 23 outgoing_failed_at
unfolding outgoing_failed_at
outgoing_failed = row-bind _ u64-field (λ payment p. row-bind _ u64-field (λ step s. row-bind _ reason-field (λ reason r. row-done _ _ refl (tt, (p, s)))))

outgoing_direct : Kind 25 outgoing_direct_at
unfolding outgoing_direct_at
outgoing_direct = row-bind _ u64-field (λ grant a. row-bind _ u32-field (λ address b. row-bind _ u64-field (λ incoming c. row-bind _ u64-field (λ debit d. row-bind _ u64-field (λ source e.
    row-bind _ u64-field (λ fee f. row-bind _ u64-field (λ receive g. row-bind _ u64-field (λ num h. row-bind _ u64-field (λ den i. row-bind _ (option-field (text-field 1024 (lit< tt))) (λ metadata m.
    row-done _ _ refl (m, (a, b, c, d, e, f, g, h, i))))))))))))

attempted : Kind 24 attempted_at
unfolding attempted_at
attempted = row-bind _ u64-field (λ event e. row-bind _ outcome-field (λ outcome o. row-done _ _ refl (o, e)))

-- ---- the row of a kind

at_kind : (kind k : ℕ) (r : Reader Act) → Kind k r → kind ≡ k → Kind kind r
at_kind kind k r row e = subst (λ (v : ℕ). Kind v r) (sym e) row

-- the row of a kind, or another one
pick : (kind k : ℕ) (r s : Reader Act) → Kind k r → (kind ≢ k → Kind kind s) → Kind kind (cond (eqb kind k) r s)
pick kind k r s row other = row-if _ (eqb kind k) (λ e. at_kind kind k r row (eqb-true kind k e)) (λ e. other (eqb-false kind k e))

provider : (kind : ℕ) → 1 ≤ kind → kind ≤ 6 → Kind kind (provider_at kind)
unfolding provider_at
provider kind low high =
    pick kind 1 _ _ origin_set (λ a. pick kind 2 _ _ asset_added (λ b. pick kind 3 _ _ address_added (λ c. pick kind 4 _ _ deposited (λ d. pick kind 5 _ _ withdrawn (λ e.
    at_kind kind 6 _ rate_set (omega arith))))))

receiving : (kind : ℕ) → 7 ≤ kind → kind ≤ 10 → Kind kind (receiving_at kind)
unfolding receiving_at
receiving kind low high =
    pick kind 7 _ _ incoming_made (λ a. pick kind 8 _ _ (two_of 8 acts.IncomingCompleted (λ m n. refl) (λ m n h k. (tt, (h, k))))
    (λ b. pick kind 9 _ _ (one_of 9 acts.IncomingExpired (λ n. refl) (λ n h. (tt, h))) (λ c. at_kind kind 10 _ quote_made (omega arith))))

granting : (kind : ℕ) → 11 ≤ kind → kind ≤ 18 → Kind kind (grant_at kind)
unfolding grant_at
granting kind low high =
    pick kind 11 _ _ grant_asked (λ a. pick kind 12 _ _ (drawn_of 12 acts.GrantAccepted (λ n w. refl) (λ n w h k. (tt, (h, k))))
    (λ b. pick kind 13 _ _ (drawn_of 13 acts.GrantRejected (λ n w. refl) (λ n w h k. (tt, (h, k))))
    (λ c. pick kind 14 _ _ (one_of 14 acts.GrantPolled (λ n. refl) (λ n h. (tt, h)))
    (λ d. pick kind 15 _ _ (drawn_of 15 acts.GrantContinued (λ n w. refl) (λ n w h k. (tt, (h, k))))
    (λ e. pick kind 16 _ _ (one_of 16 acts.GrantCancelled (λ n. refl) (λ n h. (tt, h)))
    (λ f. pick kind 17 _ _ (drawn_of 17 acts.TokenRotated (λ n w. refl) (λ n w h k. (tt, (h, k))))
    (λ g. at_kind kind 18 _ (one_of 18 acts.TokenRevoked (λ n. refl) (λ n h. (tt, h))) (omega arith))))))))

sending : (kind : ℕ) → 19 ≤ kind → kind ≤ 25 → Kind kind (sending_at kind)
unfolding sending_at
sending kind low high =
    pick kind 19 _ _ outgoing_made (λ a. pick kind 20 _ _ (two_of 20 acts.OutgoingFunded (λ m n. refl) (λ m n h k. (tt, (h, k))))
    (λ b. pick kind 21 _ _ (two_of 21 acts.OutgoingSent (λ m n. refl) (λ m n h k. (tt, (h, k))))
    (λ c. pick kind 22 _ _ (two_of 22 acts.OutgoingCompleted (λ m n. refl) (λ m n h k. (tt, (h, k))))
    (λ d. pick kind 23 _ _ outgoing_failed (λ e. pick kind 24 _ _ attempted (λ f. at_kind kind 25 _ outgoing_direct (omega arith)))))))

fields : (kind : ℕ) → 1 ≤ kind → kind ≤ 25 → Kind kind (fields_at kind)
unfolding fields_at
fields kind low high =
    row-if _ (leb kind 6) (λ e. provider kind low (leb-true kind 6 e)) (λ e. let a : 6 < kind = leb-false kind 6 e in
    row-if _ (leb kind 10) (λ e. receiving kind (omega arith) (leb-true kind 10 e)) (λ e. let b : 10 < kind = leb-false kind 10 e in
    row-if _ (leb kind 18) (λ e. granting kind (omega arith) (leb-true kind 18 e)) (λ e. let c : 18 < kind = leb-false kind 18 e in
    sending kind (omega arith) high)))

-- ---- what was written is read again

kind_again : (highest kind : ℕ) (t rest : List ℕ) (act : Act) → 1 ≤ highest → 1 ≤ kind → kind ≤ highest → fields_at kind (t ++ rest) ≡ Ok (act, rest) → act_at highest ((kind ∷ t) ++ rest) ≡ Ok (act, rest)
unfolding act_at
kind_again highest kind t rest act some low high e = again-bind (between-field 1 highest some) fields_at kind t rest _ (low, high) e

one_again : (made : ℕ → Act) (n : ℕ) (rest : List ℕ) → IsU64 n → one_at made ((number 8 n ++ []) ++ rest) ≡ Ok (made n, rest)
unfolding one_at
one_again made n rest h = again-bind u64-field _ n [] rest _ h (again-done _ rest)

two_again : (made : ℕ → ℕ → Act) (m n : ℕ) (rest : List ℕ) → IsU64 m → IsU64 n → two_at made ((number 8 m ++ (number 8 n ++ [])) ++ rest) ≡ Ok (made m n, rest)
unfolding two_at
two_again made m n rest h k = again-bind u64-field _ m _ rest _ h (again-bind u64-field _ n [] rest _ k (again-done _ rest))

drawn_again : (made : ℕ → List ℕ → Act) (n : ℕ) (word rest : List ℕ) → IsU64 n → IsWord word → drawn_at made ((number 8 n ++ (word ++ [])) ++ rest) ≡ Ok (made n word, rest)
unfolding drawn_at
drawn_again made n word rest h k = again-bind u64-field _ n _ rest _ h (again-bind word-field _ word [] rest _ k (again-done _ rest))

act_again : (highest : ℕ) (act : Act) (rest : List ℕ) → 1 ≤ highest → kind_of act ≤ highest → ActFits act → act_at highest (act_of act ++ rest) ≡ Ok (act, rest)
unfolding fields_at provider_at receiving_at grant_at sending_at origin_set_at asset_added_at address_added_at moved_at rate_set_at incoming_made_at quote_made_at grant_asked_at outgoing_made_at outgoing_failed_at attempted_at outgoing_direct_at
act_again highest (acts.OriginSet origin) rest some low h = kind_again highest 1 _ rest _ some (lit≤ tt) low (again-bind (text-field 200 (lit< tt)) _ origin [] rest _ h.1 (again-done _ rest))
act_again highest (acts.AssetAdded code scale pieces) rest some low h = kind_again highest 2 _ rest _ some (lit≤ tt) low
    (again-bind (text-field 8 (lit< tt)) _ code (scale ∷ pieces ∷ []) rest _ (h.1.0) (again-bind byte-any _ scale (pieces ∷ []) rest _ (h.1.1) (again-bind byte-any _ pieces [] rest _ (h.1.2) (again-done _ rest))))
act_again highest (acts.AddressAdded path asset name) rest some low h = kind_again highest 3 _ rest _ some (lit≤ tt) low
    (again-bind (text-field 128 (lit< tt)) _ path _ rest _ (h.0.0) (again-bind u32-field _ asset _ rest _ h.1 (again-bind (option-field (text-field 128 (lit< tt))) _ name [] rest _ (h.0.1) (again-done _ rest))))
act_again highest (acts.Deposited transfer account value) rest some low h = kind_again highest 4 _ rest _ some (lit≤ tt) low
    (again-bind (text-field 64 (lit< tt)) _ transfer _ rest _ (h.0.0) (again-bind account-field _ account _ rest _ (h.0.1, h.1.0) (again-bind u64-field _ value [] rest _ (h.1.1) (again-done _ rest))))
act_again highest (acts.Withdrawn transfer account value) rest some low h = kind_again highest 5 _ rest _ some (lit≤ tt) low
    (again-bind (text-field 64 (lit< tt)) _ transfer _ rest _ (h.0.0) (again-bind account-field _ account _ rest _ (h.0.1, h.1.0) (again-bind u64-field _ value [] rest _ (h.1.1) (again-done _ rest))))
act_again highest (acts.RateSet source target num den) rest some low h = kind_again highest 6 _ rest _ some (lit≤ tt) low
    (again-bind u32-field _ source _ rest _ (h.1.0) (again-bind u32-field _ target _ rest _ (h.1.1) (again-bind u64-field _ num _ rest _ (h.1.2) (again-bind u64-field _ den [] rest _ (h.1.3) (again-done _ rest)))))
act_again highest (acts.IncomingMade grant address amount expiry metadata) rest some low h = kind_again highest 7 _ rest _ some (lit≤ tt) low
    (again-bind u64-field _ grant _ rest _ (h.1.0) (again-bind u32-field _ address _ rest _ (h.1.1) (again-bind (option-field u64-field) _ amount _ rest _ (h.1.2) (again-bind moment-field _ expiry _ rest _ (h.1.3)
    (again-bind (option-field (text-field 1024 (lit< tt))) _ metadata [] rest _ h.0 (again-done _ rest))))))
act_again highest (acts.IncomingCompleted grant incoming) rest some low h = kind_again highest 8 _ rest _ some (lit≤ tt) low (two_again _ grant incoming rest (h.1.0) (h.1.1))
act_again highest (acts.IncomingExpired incoming) rest some low h = kind_again highest 9 _ rest _ some (lit≤ tt) low (one_again _ incoming rest h.1)
act_again highest (acts.QuoteMade grant address incoming mode asked debit source fee receive num den) rest some low h = kind_again highest 10 _ rest _ some (lit≤ tt) low
    (again-bind u64-field _ grant _ rest _ (h.1.0) (again-bind u32-field _ address _ rest _ (h.1.1) (again-bind u64-field _ incoming (mode_number mode ∷ (number 8 asked ++ (number 8 debit ++ (number 8 source ++ (number 8 fee ++ (number 8 receive ++ (number 8 num ++ (number 8 den ++ [])))))))) rest _ (h.1.2)
    (again-bind mode-field _ mode (number 8 asked ++ (number 8 debit ++ (number 8 source ++ (number 8 fee ++ (number 8 receive ++ (number 8 num ++ (number 8 den ++ []))))))) rest _ tt
    (again-bind u64-field _ asked _ rest _ (h.1.3) (again-bind u64-field _ debit _ rest _ (h.1.4) (again-bind u64-field _ source _ rest _ (h.1.5) (again-bind u64-field _ fee _ rest _ (h.1.6)
    (again-bind u64-field _ receive _ rest _ (h.1.7) (again-bind u64-field _ num _ rest _ (h.1.8) (again-bind u64-field _ den [] rest _ (h.1.9) (again-done _ rest))))))))))))
act_again highest (acts.GrantAsked client asked end word) rest some low h = kind_again highest 11 _ rest _ some (lit≤ tt) low
    (again-bind (text-field 256 (lit< tt)) _ client (items asked ++ (optional finish end ++ (word ++ []))) rest _ (h.0.0) (again-bind items-field _ asked (optional finish end ++ (word ++ [])) rest _ (h.0.1, h.1.0)
    (again-bind (option-field finish-field) _ end (word ++ []) rest _ (h.0.2) (again-bind word-field _ word [] rest _ (h.1.1) (again-done _ rest)))))
act_again highest (acts.GrantAccepted grant word) rest some low h = kind_again highest 12 _ rest _ some (lit≤ tt) low (drawn_again _ grant word rest (h.1.0) (h.1.1))
act_again highest (acts.GrantRejected grant word) rest some low h = kind_again highest 13 _ rest _ some (lit≤ tt) low (drawn_again _ grant word rest (h.1.0) (h.1.1))
act_again highest (acts.GrantPolled grant) rest some low h = kind_again highest 14 _ rest _ some (lit≤ tt) low (one_again _ grant rest h.1)
act_again highest (acts.GrantContinued grant word) rest some low h = kind_again highest 15 _ rest _ some (lit≤ tt) low (drawn_again _ grant word rest (h.1.0) (h.1.1))
act_again highest (acts.GrantCancelled grant) rest some low h = kind_again highest 16 _ rest _ some (lit≤ tt) low (one_again _ grant rest h.1)
act_again highest (acts.TokenRotated grant word) rest some low h = kind_again highest 17 _ rest _ some (lit≤ tt) low (drawn_again _ grant word rest (h.1.0) (h.1.1))
act_again highest (acts.TokenRevoked grant) rest some low h = kind_again highest 18 _ rest _ some (lit≤ tt) low (one_again _ grant rest h.1)
act_again highest (acts.OutgoingMade grant quote metadata) rest some low h = kind_again highest 19 _ rest _ some (lit≤ tt) low
    (again-bind u64-field _ grant _ rest _ (h.1.0) (again-bind u64-field _ quote _ rest _ (h.1.1) (again-bind (option-field (text-field 1024 (lit< tt))) _ metadata [] rest _ h.0 (again-done _ rest))))
act_again highest (acts.OutgoingFunded payment step) rest some low h = kind_again highest 20 _ rest _ some (lit≤ tt) low (two_again _ payment step rest (h.1.0) (h.1.1))
act_again highest (acts.OutgoingSent payment step) rest some low h = kind_again highest 21 _ rest _ some (lit≤ tt) low (two_again _ payment step rest (h.1.0) (h.1.1))
act_again highest (acts.OutgoingCompleted payment step) rest some low h = kind_again highest 22 _ rest _ some (lit≤ tt) low (two_again _ payment step rest (h.1.0) (h.1.1))
act_again highest (acts.OutgoingFailed payment step reason) rest some low h = kind_again highest 23 _ rest _ some (lit≤ tt) low
    (again-bind u64-field _ payment _ rest _ (h.1.0) (again-bind u64-field _ step (reason_number reason ∷ []) rest _ (h.1.1) (again-bind reason-field _ reason [] rest _ tt (again-done _ rest))))
act_again highest (acts.Attempted event outcome) rest some low h = kind_again highest 24 _ rest _ some (lit≤ tt) low
    (again-bind u64-field _ event _ rest _ h.1 (again-bind outcome-field _ outcome [] rest _ h.0 (again-done _ rest)))
act_again highest (acts.OutgoingDirect grant address incoming debit source fee receive num den metadata) rest some low h = kind_again highest 25 _ rest _ some (lit≤ tt) low
    (again-bind u64-field _ grant _ rest _ (h.1.0) (again-bind u32-field _ address _ rest _ (h.1.1) (again-bind u64-field _ incoming _ rest _ (h.1.2) (again-bind u64-field _ debit _ rest _ (h.1.3)
    (again-bind u64-field _ source _ rest _ (h.1.4) (again-bind u64-field _ fee _ rest _ (h.1.5) (again-bind u64-field _ receive _ rest _ (h.1.6) (again-bind u64-field _ num _ rest _ (h.1.7)
    (again-bind u64-field _ den _ rest _ (h.1.8) (again-bind (option-field (text-field 1024 (lit< tt))) _ metadata [] rest _ h.0 (again-done _ rest)))))))))))

pub act-field : (highest : ℕ) → 1 ≤ highest → highest ≤ 25 → Field (act_at highest) act_of (IsActOf highest)
unfolding act_at
act-field highest some known = field-of (act_at highest) act_of (IsActOf highest)
    (row-bind _ (between-field 1 highest some) (λ kind k. row-fits _ (fields kind k.0 (omega (arith, k.1))) (λ t act spelled fits.
    (fits, subst (λ (n : ℕ). n ≤ highest) (ap head_of spelled) k.1))))
    (λ act rest h. act_again highest act rest some h.1 h.0)

-- ---- entries

-- the kinds of version 1
kind_of_version_1 : (act : Act) → IsOfVersion1 act → kind_of act ≤ 24
kind_of_version_1 (acts.OutgoingDirect grant address incoming debit source fee receive num den metadata) of = absurd of
kind_of_version_1 _ of = lit≤ tt

is_of_version_1 : (act : Act) → kind_of act ≤ 24 → IsOfVersion1 act
is_of_version_1 (acts.OutgoingDirect grant address incoming debit source fee receive num den metadata) le = absurd (omega (arith, le))
is_of_version_1 _ le = tt

-- and those of version 2
kind_of_version_2 : (act : Act) → kind_of act ≤ 25
kind_of_version_2 (acts.OutgoingDirect grant address incoming debit source fee receive num den metadata) = lit≤ tt
kind_of_version_2 _ = lit≤ tt

entry_again : (entry : Entry) (rest : List ℕ) → HasRecord entry → entry_at (record_of entry ++ rest) ≡ Ok (entry, rest)
unfolding entry_at record_of
entry_again entry rest h =
    again-bind moment-field _ entry.at (act_of entry.act) rest _ (h.1.0)
    (ap (λ (t : List ℕ). bind (act_at 24) (λ act. done (record { at = entry.at; act = act })) (t ++ rest)) (sym (append-nil (act_of entry.act)))
    ∙ again-bind (act-field 24 (lit≤ tt) (lit≤ tt)) _ entry.act [] rest _ ((h.0.0, h.1.1), kind_of_version_1 entry.act h.0.1) (again-done entry rest))

pub entry-field : Field entry_at record_of HasRecord
unfolding entry_at record_of
entry-field = field-of entry_at record_of HasRecord
    (row-bind _ moment-field (λ at a. row-bind _ (act-field 24 (lit≤ tt) (lit≤ tt)) (λ act f.
    row-done _ _ (ap (λ (t : List ℕ). number 8 at ++ t) (append-nil (act_of act))) ((f.0.0, is_of_version_1 act f.1), (a, f.0.1)))))
    entry_again

entry_of_round_again : (at : ℕ) (entry : Entry) (rest : List ℕ) → IsInRound at entry → entry_of_round_at at (act_in entry ++ rest) ≡ Ok (entry, rest)
unfolding entry_of_round_at done
entry_of_round_again at entry rest h =
    ap (λ (t : List ℕ). bind (act_at 25) (λ act. done (record { at = at; act = act })) (t ++ rest)) (sym (append-nil (act_in entry)))
    ∙ again-bind (act-field 25 (lit≤ tt) (lit≤ tt)) (λ act. done (record { at = at; act = act })) entry.act [] rest _ ((h.1, h.2.1), kind_of_version_2 entry.act)
    (ap (λ (n : ℕ). Ok (record { at = n; act = entry.act }, rest)) (sym h.0))

pub entry_of_round-field : (at : ℕ) → at ≤ LAST → Field (entry_of_round_at at) act_in (IsInRound at)
unfolding entry_of_round_at
entry_of_round-field at moment = field-of (entry_of_round_at at) act_in (IsInRound at)
    (row-bind (λ t. t) (act-field 25 (lit≤ tt) (lit≤ tt)) (λ act f. row-done (λ t. act_of act ++ t) (record { at = at; act = act }) (append-nil (act_of act)) (refl, f.0.0, (moment, f.0.1))))
    (entry_of_round_again at)
