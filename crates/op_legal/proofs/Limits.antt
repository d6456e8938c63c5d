-- The texts and items of an act that may follow are within the limits of its record.
use Rattle.std.proofs.Common.{◌≡◌, ℕ, ◌+◌, ◌<◌, ◌≤◌, Bool, true, false, cond, ◌&&◌, List, [], ◌∷◌, length, map, refl, ◌∙◌, sym, ap, arith, Some, None, Option}
use Rattle.std.specs.Prelude.{◌==◌, nat_le, nat_lt, bit_and, IfSome}
use Rattle.std.specs.Int.Bits.{and_zero_r}
use Rattle.std.specs.List.{list_all}
use Rattle.std.specs.Option.{option_map}
use Rattle.std.proofs.lemmas.Bool.Decides.{nat_tests}
use Rattle.op_names.specs.Forms.{is_word, is_client, is_path, is_finish_uri}
use Rattle.op_model.specs.Actions as actions
use Rattle.op_model.specs.Answer.{act_for}
use Rattle.op_model.specs.GrantAnswers.{ask_grant, items_asked}
use Rattle.op_model.specs.Grants.{is_immediate}
use Rattle.op_model.specs.Legal.{IsNext, has_actions, is_item, is_ascending, are_items, are_limits, is_interval, is_interact, is_finish, is_text, passes, item_spelled, limits_spelled, interact_spelled, client_verdict, is_outcome}
use Rattle.op_model.specs.Metadata.{is_metadata}
use Rattle.op_model.specs.declared.act.Account.{Account}
use Rattle.op_model.specs.declared.act.Account.TheVariants.{Outside, Pool, Fees, Wallet}
use Rattle.op_model.specs.declared.act.Act.{Act}
use Rattle.op_model.specs.declared.act.Act.TheVariants as acts
use Rattle.op_model.specs.declared.act.Entry.{Entry}
use Rattle.op_model.specs.declared.grant.Finish.{Finish}
use Rattle.op_model.specs.declared.grant.Interact.TheVariants.{Missing, Redirect}
use Rattle.op_model.specs.declared.grant.Item.{Item}
use Rattle.op_model.specs.declared.grant.Limits.{Limits}
use Rattle.op_model.specs.declared.request.AskedItem.{AskedItem}
use Rattle.op_model.specs.declared.request.Request.TheVariants as requests
use Rattle.op_model.specs.Events.{event_row}
use Rattle.std.specs.Prelude.{is_some}
use Rattle.op_record.specs.Recordable.{IsShort, IsInside, AreLimits, IsItem, AreAbove, AreItems, IsFinish, IsWithinLimits}
use Rattle.op_legal.specs.Numbers.{HasAccount}
use Rattle.op_legal.proofs.Chains.{act_in, outcome_act}
use Rattle.op_legal.proofs.Named.{next_names, asks_grant}
use Rattle.op_legal.proofs.Names.{both_left, both_right}

-- ---- texts

at_most : (n limit : ℕ) → nat_le n limit ≡ true → n ≤ limit
at_most n limit h = grind (arith, nat_tests)

pub word_short : (limit : ℕ) (text : List ℕ) → is_word limit text ≡ true → length text ≤ limit
word_short limit text h =
    at_most (length text) limit (both_right (nat_le 1 (length text)) (nat_le (length text) limit) (both_left (nat_le 1 (length text) && nat_le (length text) limit) _ h))

client_short : (text : List ℕ) → is_client text ≡ true → length text ≤ 256
client_short text h = word_short 256 text (both_left (is_word 256 text) _ h)

path_short : (path : List ℕ) → is_path path ≡ true → length path ≤ 128
path_short path h = at_most (length path) 128 (both_left (nat_le (length path) 128) _ (both_left (nat_le (length path) 128 && _) _ h))

name_short : (name : Option (List ℕ)) → passes (is_text 128) name ≡ true → IfSome name (IsShort 128)
name_short None h = tt
name_short (Some text) h = at_most (length text) 128 (both_right _ (nat_le (length text) 128) h)

metadata_short : (metadata : Option (List ℕ)) → passes is_metadata metadata ≡ true → IfSome metadata (IsShort 1024)
metadata_short None h = tt
metadata_short (Some text) h = at_most (length text) 1024 (both_left (nat_le (length text) 1024) _ h)

-- ---- items

no_actions : (bits : ℕ) → (nat_lt 0 bits && (bit_and bits 0 == bits)) ≡ true → ⊥
no_actions bits h =
    let some : 0 < bits = let e = both_left (nat_lt 0 bits) (bit_and bits 0 == bits) h in grind (arith, nat_tests) in
    let same : (bit_and bits 0 == bits) ≡ true = both_right (nat_lt 0 bits) (bit_and bits 0 == bits) h in
    let equal : (0 == bits) ≡ true = sym (ap (λ n. n == bits) (and_zero_r bits)) ∙ same in
    let zero : 0 ≡ bits = grind (arith, nat_tests) in
    absurd (omega (arith, some, zero))

kind_where : (kind bits : ℕ) (one two three : Bool) → (kind == 1) ≡ one → (kind == 2) ≡ two → (kind == 3) ≡ three
    → (nat_lt 0 bits && (bit_and bits (cond one actions.of_incoming_payment (cond two actions.of_quote (cond three actions.of_outgoing_payment 0))) == bits)) ≡ true → (0 < kind) × (kind ≤ 3)
kind_where kind bits true two three a b c h = let k : kind ≡ 1 = grind (arith, nat_tests) in (omega (arith, k), omega (arith, k))
kind_where kind bits false true three a b c h = let k : kind ≡ 2 = grind (arith, nat_tests) in (omega (arith, k), omega (arith, k))
kind_where kind bits false false true a b c h = let k : kind ≡ 3 = grind (arith, nat_tests) in (omega (arith, k), omega (arith, k))
kind_where kind bits false false false a b c h = absurd (no_actions bits h)

kind_is : (kind bits : ℕ) → has_actions kind bits ≡ true → (0 < kind) × (kind ≤ 3)
kind_is kind bits h = kind_where kind bits (kind == 1) (kind == 2) (kind == 3) refl refl refl h

interval_short : (interval : Option (List ℕ)) → passes is_interval interval ≡ true → IfSome interval (IsShort 128)
interval_short None h = tt
interval_short (Some text) h = at_most (length text) 128 (both_left (nat_le (length text) 128) _ h)

limits_short : (history : List Entry) (limits : Option Limits) → passes are_limits (option_map (limits_spelled history) limits) ≡ true → IfSome limits AreLimits
limits_short history None h = tt
limits_short history (Some l) h = interval_short l.interval (both_right _ (passes is_interval l.interval) h)

item_short : (history : List Entry) (item : Item) → is_item (item_spelled history item) ≡ true → IsItem item
item_short history item h =
    let first = both_left _ _ h in
    let bits : has_actions item.kind item.actions ≡ true = both_left (has_actions item.kind item.actions) _ first in
    let rest : (_ && passes are_limits (option_map (limits_spelled history) item.limits)) ≡ true = both_right _ _ h in
    ((kind_is item.kind item.actions bits).1, bits, limits_short history item.limits (both_right _ (passes are_limits (option_map (limits_spelled history) item.limits)) rest))

above : (low kind : ℕ) → nat_lt low kind ≡ true → low < kind
above low kind h = grind (arith, nat_tests)

items_short : (history : List Entry) (low : ℕ) (items : List Item) → list_all (λ y. nat_lt low y.kind) (map (item_spelled history) items) ≡ true → list_all is_item (map (item_spelled history) items) ≡ true → is_ascending (map (item_spelled history) items) ≡ true → AreAbove low items
items_short history low [] over each ascends = tt
items_short history low (x ∷ xs) over each ascends =
    let own = both_left (is_item (item_spelled history x)) (list_all is_item (map (item_spelled history) xs)) each in (
      above low x.kind (both_left (nat_lt low x.kind) (list_all (λ y. nat_lt low y.kind) (map (item_spelled history) xs)) over),
      item_short history x own,
      items_short history x.kind xs (both_left (list_all (λ y. nat_lt x.kind y.kind) (map (item_spelled history) xs)) _ ascends)
          (both_right (is_item (item_spelled history x)) (list_all is_item (map (item_spelled history) xs)) each)
          (both_right (list_all (λ y. nat_lt x.kind y.kind) (map (item_spelled history) xs)) _ ascends),
    )

above_zero : (kind : ℕ) → 0 < kind → nat_lt 0 kind ≡ true
above_zero kind h = grind (arith, nat_tests)

both_true : (a b : Bool) → a ≡ true → b ≡ true → (a && b) ≡ true
both_true a b p q = rw p q

all_above_zero : (items : List AskedItem) → list_all is_item items ≡ true → list_all (λ y. nat_lt 0 y.kind) items ≡ true
all_above_zero [] h = refl
all_above_zero (x ∷ xs) h =
    let own = both_left (is_item x) (list_all is_item xs) h in
    let bits : has_actions x.kind x.actions ≡ true = both_left (has_actions x.kind x.actions) _ (both_left _ _ own) in
    both_true (nat_lt 0 x.kind) (list_all (λ y. nat_lt 0 y.kind) xs) (above_zero x.kind (kind_is x.kind x.actions bits).0) (all_above_zero xs (both_right (is_item x) (list_all is_item xs) h))

some_items : (history : List Entry) (items : List Item) → nat_le 1 (length (map (item_spelled history) items)) ≡ true → 1 ≤ length items
some_items history [] h = absurd (let e : false ≡ true = h in cc)
some_items history (x ∷ xs) h = let longer : length (x ∷ xs) ≡ length xs + 1 = omega arith in omega (arith, longer)

are_short : (history : List Entry) (items : List Item) → are_items (map (item_spelled history) items) ≡ true → AreItems items
are_short history items h =
    let asked = map (item_spelled history) items in
    let counted = both_left (nat_le 1 (length asked) && list_all is_item asked) (is_ascending asked) h in
    let each = both_right (nat_le 1 (length asked)) (list_all is_item asked) counted in (
      some_items history items (both_left (nat_le 1 (length asked)) (list_all is_item asked) counted),
      items_short history 0 items (all_above_zero asked each) each (both_right (nat_le 1 (length asked) && list_all is_item asked) (is_ascending asked) h),
    )

-- ---- the finish

finish_short : (finish : Option Finish) → passes is_finish finish ≡ true → IfSome finish IsFinish
finish_short None h = tt
finish_short (Some f) h =
    let uri = both_left (is_finish_uri f.uri) _ h in (
      at_most (length f.uri) 512 (both_left (nat_le (length f.uri) 512) _ (both_left (nat_le (length f.uri) 512 && _) _ uri)),
      word_short 128 f.nonce (both_right (is_finish_uri f.uri) (is_word 128 f.nonce) h),
    )

no_finish : (finish : Option Finish) → finish ≡ None → IfSome finish IsFinish
no_finish None h = tt
no_finish (Some f) h = absurd (let e : Some f ≡ None = h in cc)

finish_where : (b : Bool) (items : List Item) (finish : Option Finish) → is_immediate items ≡ b → (is_immediate items ≡ true → finish ≡ None) → is_interact (cond b Missing (Redirect finish)) ≡ true → IfSome finish IsFinish
finish_where true items finish is none h = no_finish finish (none is)
finish_where false items finish is none h = finish_short finish h

-- a grant that is issued at once has no finish
abbrev KeepsNoFinish : Act → Type 0
KeepsNoFinish (acts.GrantAsked client items finish word) = is_immediate items ≡ true → finish ≡ None
KeepsNoFinish _ = Unit {0}

kept_where : (b : Bool) (finish : Option Finish) → b ≡ true → cond b None finish ≡ None
kept_where true finish h = refl
kept_where false finish h = absurd (let e : false ≡ true = h in cc)

asked_finish : (history : List Entry) (t : ℕ) (client : List ℕ) (items : List Item) (finish : Option Finish) (word : List ℕ) → IsNext history (record { at = t; act = acts.GrantAsked client items finish word }) → is_immediate items ≡ true → finish ≡ None
asked_finish history t client items finish word next =
    let act = acts.GrantAsked client items finish word in
    let asked = map (item_spelled history) items in
    let interact = interact_spelled items finish in
    let request = requests.AskGrant asked (Some client) interact in
    let made : act_in (ask_grant history word asked (Some client) interact (client_verdict client)) ≡ Some act = sym (outcome_act history t request (client_verdict client) (act_for history t word 0 request (client_verdict client))) ∙ next.act in
    asks_grant KeepsNoFinish history word asked (Some client) interact (client_verdict client) act (λ name known h. kept_where (is_immediate (items_asked history asked)) _ h) made

-- ---- each act

inside : (history : List Entry) (account : Account) → HasAccount history account → IsInside account
inside history (Outside n) h = h
inside history (Pool n) h = tt
inside history (Fees n) h = tt
inside history (Wallet n) h = tt

within_limits : (history : List Entry) (t : ℕ) (act : Act) → IsNext history (record { at = t; act = act }) → IsWithinLimits act
within_limits history t (acts.AddressAdded path asset name) next =
    let rest = both_right (is_path path) _ next.proper in (path_short path (both_left (is_path path) _ next.proper), name_short name (both_right _ (passes (is_text 128) name) rest))
within_limits history t (acts.Deposited transfer account value) next =
    (word_short 64 transfer (both_left (is_word 64 transfer) _ next.proper), inside history account (next_names history (record { at = t; act = acts.Deposited transfer account value }) next))
within_limits history t (acts.Withdrawn transfer account value) next =
    (word_short 64 transfer (both_left (is_word 64 transfer) _ next.proper), inside history account (next_names history (record { at = t; act = acts.Withdrawn transfer account value }) next))
within_limits history t (acts.IncomingMade grant address amount expiry metadata) next =
    metadata_short metadata (both_right _ (passes is_metadata metadata) (both_right _ _ next.proper))
within_limits history t (acts.GrantAsked client items finish word) next =
    let rest = both_right (are_items (map (item_spelled history) items)) _ next.proper in (
      client_short client (both_left (is_client client) _ rest),
      are_short history items (both_left (are_items (map (item_spelled history) items)) _ next.proper),
      finish_where (is_immediate items) items finish refl (asked_finish history t client items finish word next) (both_right (is_client client) (is_interact (interact_spelled items finish)) rest),
    )
within_limits history t (acts.OutgoingMade grant quote metadata) next = metadata_short metadata (both_right true (passes is_metadata metadata) next.proper)
within_limits history t (acts.OutgoingDirect grant address incoming debit source fee receive num den metadata) next = metadata_short metadata (both_right _ (passes is_metadata metadata) next.proper)
within_limits history t (acts.Attempted event outcome) next = both_right (is_some (event_row history event)) (is_outcome outcome) next.proper
within_limits history t (acts.OriginSet origin) next = tt
within_limits history t (acts.AssetAdded code scale pieces) next = tt
within_limits history t (acts.RateSet source target num den) next = tt
within_limits history t (acts.IncomingCompleted grant incoming) next = tt
within_limits history t (acts.IncomingExpired incoming) next = tt
within_limits history t (acts.QuoteMade grant address incoming mode asked debit source fee receive num den) next = tt
within_limits history t (acts.GrantAccepted grant word) next = tt
within_limits history t (acts.GrantRejected grant word) next = tt
within_limits history t (acts.GrantPolled grant) next = tt
within_limits history t (acts.GrantContinued grant word) next = tt
within_limits history t (acts.GrantCancelled grant) next = tt
within_limits history t (acts.TokenRotated grant word) next = tt
within_limits history t (acts.TokenRevoked grant) next = tt
within_limits history t (acts.OutgoingFunded payment step) next = tt
within_limits history t (acts.OutgoingSent payment step) next = tt
within_limits history t (acts.OutgoingCompleted payment step) next = tt
within_limits history t (acts.OutgoingFailed payment step reason) next = tt

pub next_within_limits : (history : List Entry) (e : Entry) → IsNext history e → IsWithinLimits e.act
next_within_limits history e next = within_limits history e.at e.act next
