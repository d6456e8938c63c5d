-- A legal entry has a record: each of its numbers fits its type.
use Rattle.std.proofs.Common.{◌≡◌, ℕ, ◌*◌, ◌^◌, ◌<◌, ◌≤◌, true, ◌&&◌, List, [], ◌∷◌, length, map, ◌∙◌, sym, ap, arith, Some, None, Option, is_some}
use Rattle.std.specs.Prelude.{nat_le, IfSome}
use Rattle.std.specs.List.{AllByRecursion, list_all}
use Rattle.std.specs.Option.{option_map}
use Rattle.std.proofs.lemmas.Bool.Decides.{nat_tests}
use Rattle.op_amount.specs.Code.{is_asset_code}
use Rattle.op_amount.specs.Prices.{mode_value}
use Rattle.op_amount.specs.declared.Amount.{Amount}
use Rattle.op_amount.specs.declared.Asset.{Asset}
use Rattle.op_amount.specs.declared.TheConstants.{TOP, RATE_TOP}
use Rattle.op_names.specs.Forms.{is_word}
use Rattle.op_names.specs.declared.AddressName.{AddressName}
use Rattle.op_names.specs.declared.Kind.TheVariants as kinds
use Rattle.op_names.specs.declared.RowName.{RowName}
use Rattle.op_time.specs.declared.TheConstants.{LAST}
use Rattle.op_model.specs.Answer.{act_for}
use Rattle.op_model.specs.Grants.{current_token}
use Rattle.op_model.specs.History.{assets, addresses, asset_of_address}
use Rattle.op_model.specs.Legal.{IsNext, is_amount, is_item, are_items, are_limits, passes, amount_of, item_spelled, limits_spelled, cap_spelled, is_rate_number, grant_verdict, name_of_address, name_of_row, quote_spelled, asset_of_account}
use Rattle.op_model.specs.PaymentAnswers.{make_quote, pay_directly}
use Rattle.op_model.specs.Payments.{step_number}
use Rattle.op_model.specs.declared.act.Account.{Account}
use Rattle.op_model.specs.declared.act.Account.TheVariants.{Outside, Pool, Fees, Wallet}
use Rattle.op_model.specs.declared.act.Act.{Act}
use Rattle.op_model.specs.declared.act.Act.TheVariants as acts
use Rattle.op_model.specs.declared.act.Entry.{Entry}
use Rattle.op_model.specs.declared.act.QuoteMode.{QuoteMode}
use Rattle.op_model.specs.declared.grant.Cap.{Cap}
use Rattle.op_model.specs.declared.grant.Item.{Item}
use Rattle.op_model.specs.declared.grant.Limits.{Limits}
use Rattle.op_model.specs.declared.request.PaymentAsked.TheVariants.{Direct}
use Rattle.op_model.specs.declared.request.Request.TheVariants as requests
use Rattle.op_model.specs.declared.row.OutgoingRow.{OutgoingRow}
use Rattle.op_record.specs.Recordable.{IsByte, IsU32, IsU64, FitsAccount, FitsCap, FitsLimits, FitItems, FitsAct}
use Rattle.op_legal.specs.Numbers.{HasAsset, HasAddress, HasGrant, HasIncoming, HasOutgoing, HasAccount, LimitsNameMade, ItemNamesMade}
use Rattle.op_legal.specs.Records.{AreCounted, DrawsWord, EntriesHaveRecords}
use Rattle.op_legal.proofs.Chains.{act_in, outcome_act}
use Rattle.op_legal.proofs.Counts.{nth_within, grant_within, incoming_within, quote_within, outgoing_within, event_within, step_within}
use Rattle.op_legal.proofs.Limits.{next_within_limits, word_short}
use Rattle.op_legal.proofs.Named.{next_names, makes_quote, pays_directly, quotes_made}
use Rattle.op_legal.proofs.Names.{both_left, both_right}
use Rattle.op_legal.proofs.Once.{step_is}
use Rattle.op_legal.proofs.StepActs.{funded_acts, sent_acts, completed_acts, failed_acts}
use Rattle.op_legal.proofs.Values.{HasValues, has_values, value_small, rate_small, quote_values, price_values, direct_values}

-- ---- numbers and values fit

value_fits : (n : ℕ) → n ≤ TOP → n < 2 ^ 64
value_fits n h = omega (arith, h)

rate_fits : (n : ℕ) → n ≤ RATE_TOP → n < 2 ^ 64
rate_fits n h = omega (arith, h)

row_fits : (n made : ℕ) → n ≤ made → made < 2 ^ 63 → n < 2 ^ 64
row_fits n made h few = omega (arith, h, few)

event_fits : (n made : ℕ) → n ≤ 2 * made → made < 2 ^ 63 → n < 2 ^ 64
event_fits n made h few = omega (arith, h, few)

module _ (history : List Entry) (counted : AreCounted history) where
  asset_fits : (n : ℕ) → HasAsset history n → IsU32 n
  asset_fits n h = let few = counted.of_assets in let le = nth_within (assets history) n h in omega (arith, few, le)

  address_fits : (n : ℕ) → HasAddress history n → IsU32 n
  address_fits n h = let few = counted.of_addresses in let le = nth_within (addresses history) n h in omega (arith, few, le)

  grant_fits : (n : ℕ) → HasGrant history n → IsU64 n
  grant_fits n h = row_fits n (length history) (grant_within history n h) counted.of_entries

  incoming_fits : (n : ℕ) → HasIncoming history n → IsU64 n
  incoming_fits n h = row_fits n (length history) (incoming_within history n h) counted.of_entries

  outgoing_fits : (n : ℕ) → HasOutgoing history n → IsU64 n
  outgoing_fits n h = row_fits n (length history) (outgoing_within history n h) counted.of_entries

  account_fits : (account : Account) → HasAccount history account → FitsAccount account
  account_fits (Outside n) h = absurd h
  account_fits (Pool n) h = asset_fits n h
  account_fits (Fees n) h = asset_fits n h
  account_fits (Wallet n) h = address_fits n h

  -- ---- the items of a grant

  if_fits : (P Q : ℕ → Type 0) (o : Option ℕ) → ((n : ℕ) → P n → Q n) → IfSome o P → IfSome o Q
  if_fits P Q None each h = tt
  if_fits P Q (Some n) each h = each n h

  cap_fits : (cap : Option Cap) → IfSome cap (λ c. HasAsset history c.sum.asset) → passes (λ c. is_amount c.amount) (option_map (cap_spelled history) cap) ≡ true → IfSome cap FitsCap
  cap_fits None there h = tt
  cap_fits (Some c) there h = (asset_fits c.sum.asset there, value_fits c.sum.value (value_small ((cap_spelled history c).amount) h))

  limits_fit : (limits : Option Limits) → IfSome limits (LimitsNameMade history) → passes are_limits (option_map (limits_spelled history) limits) ≡ true → IfSome limits FitsLimits
  limits_fit None there h = tt
  limits_fit (Some l) there h = (
    if_fits (HasIncoming history) IsU64 l.receiver incoming_fits there.receiver,
    cap_fits l.cap there.cap (both_left (passes (λ c. is_amount c.amount) (option_map (cap_spelled history) l.cap)) _ h),
  )

  items_fit : (items : List Item) → AllByRecursion (ItemNamesMade history) items → list_all is_item (map (item_spelled history) items) ≡ true → FitItems items
  items_fit [] there h = tt
  items_fit (x ∷ xs) there h =
      let own = both_left (is_item (item_spelled history x)) (list_all is_item (map (item_spelled history) xs)) h in
      let limits = both_right _ (passes are_limits (option_map (limits_spelled history) x.limits)) (both_right _ _ own) in (
        (if_fits (HasAddress history) IsU32 x.identifier address_fits there.0.identifier, limits_fit x.limits there.0.limits limits),
        items_fit xs there.1 (both_right (is_item (item_spelled history x)) (list_all is_item (map (item_spelled history) xs)) h),
      )

  -- ---- prices

  quote_fits : (t grant address incoming : ℕ) (mode : QuoteMode) (asked debit source fee receive num den : ℕ) → HasValues history → IsNext history (record { at = t; act = acts.QuoteMade grant address incoming mode asked debit source fee receive num den })
      → FitsAct (acts.QuoteMade grant address incoming mode asked debit source fee receive num den)
  quote_fits t grant address incoming mode asked debit source fee receive num den has next =
      let act = acts.QuoteMade grant address incoming mode asked debit source fee receive num den in
      let name : Option AddressName = Some (name_of_address history address) in
      let receiver : Option RowName = Some (name_of_row history kinds.Incoming incoming) in
      let spelled = quote_spelled history address incoming mode asked in
      let verdict = grant_verdict history grant current_token in
      let request = requests.MakeQuote name receiver spelled in
      let made : act_in (make_quote history t fee name receiver spelled verdict) ≡ Some act = sym (outcome_act history t request verdict (act_for history t [] fee request verdict)) ∙ next.act in
      makes_quote FitsAct history t fee name receiver spelled verdict act
      (λ q price is priced.
      let are = quotes_made history t name receiver spelled verdict q is in
      let values = quote_values history t name receiver spelled verdict q has next.proper is in
      let price_is = price_values fee q.pricing price values.rate priced in (
        grant_fits q.grant are.grant,
        address_fits q.address are.address,
        incoming_fits q.incoming are.incoming,
        value_fits (mode_value q.pricing.mode) values.asked,
        value_fits price.debit price_is.debit,
        value_fits price.source price_is.source,
        value_fits price.fee price_is.fee,
        value_fits price.receive price_is.receive,
        rate_fits price.num price_is.num,
        rate_fits price.den price_is.den,
      ))
      made

  direct_fits : (t grant address incoming debit source fee receive num den : ℕ) (metadata : Option (List ℕ)) → HasValues history → IsNext history (record { at = t; act = acts.OutgoingDirect grant address incoming debit source fee receive num den metadata })
      → FitsAct (acts.OutgoingDirect grant address incoming debit source fee receive num den metadata)
  direct_fits t grant address incoming debit source fee receive num den metadata has next =
      let act = acts.OutgoingDirect grant address incoming debit source fee receive num den metadata in
      let name : Option AddressName = Some (name_of_address history address) in
      let receiver : Option RowName = Some (name_of_row history kinds.Incoming incoming) in
      let amount : Amount = amount_of (asset_of_address history address) debit in
      let verdict = grant_verdict history grant current_token in
      let request = requests.MakeOutgoing name (Direct receiver amount) metadata in
      let made : act_in (pay_directly history t fee name receiver amount metadata verdict) ≡ Some act = sym (outcome_act history t request verdict (act_for history t [] fee request verdict)) ∙ next.act in
      pays_directly FitsAct history t fee name receiver amount metadata verdict act
      (λ g n it price there named waits is.
      let pricing = direct_values history fee amount n it price has is in
      let price_is = price_values fee pricing.0 price pricing.1 pricing.2 in (
        grant_fits g there,
        address_fits n named,
        incoming_fits it.number (ap is_some waits),
        value_fits price.debit price_is.debit,
        value_fits price.source price_is.source,
        value_fits price.fee price_is.fee,
        value_fits price.receive price_is.receive,
        rate_fits price.num price_is.num,
        rate_fits price.den price_is.den,
      ))
      made

  -- ---- steps

  step_fits : (p k : ℕ) (row : OutgoingRow) → k ≡ row.step → row.step ≡ step_number history p → IsU64 k
  step_fits p k row now is = let few = counted.of_entries in let within = step_within history p in omega (arith, few, within, now, is)

-- ---- each act

code_short : (code : List ℕ) → is_asset_code code ≡ true → length code ≤ 8
code_short code h =
    let e : nat_le (length code) 8 ≡ true = both_right (nat_le 3 (length code)) (nat_le (length code) 8) (both_left (nat_le 3 (length code) && nat_le (length code) 8) _ h) in grind (arith, nat_tests)

byte_of : (n limit : ℕ) → nat_le n limit ≡ true → limit < 2 ^ 8 → IsByte n
byte_of n limit h few = let e : n ≤ limit = grind (arith, nat_tests) in omega (arith, e, few)

moment_of : (t : ℕ) → nat_le t LAST ≡ true → t ≤ LAST
moment_of t h = grind (arith, nat_tests)

amounts_fit : (asset : Asset) (amount : Option ℕ) → passes is_amount (option_map (amount_of asset) amount) ≡ true → IfSome amount IsU64
amounts_fit asset None h = tt
amounts_fit asset (Some v) h = value_fits v (value_small (amount_of asset v) h)

act_fits : (history : List Entry) (t : ℕ) (act : Act) → HasValues history → AreCounted history → DrawsWord act → IsNext history (record { at = t; act = act }) → FitsAct act
act_fits history t (acts.OriginSet origin) has counted word next = word_short 200 origin (both_left (is_word 200 origin) _ (both_left (is_word 200 origin && _) _ next.proper))
act_fits history t (acts.AssetAdded code scale pieces) has counted word next =
    let asset = both_left (is_asset_code code && nat_le scale 18) _ next.proper in
    let few = both_right (is_asset_code code && nat_le scale 18) (nat_le 1 pieces && nat_le pieces 64) next.proper in
    (code_short code (both_left (is_asset_code code) (nat_le scale 18) asset), byte_of scale 18 (both_right (is_asset_code code) (nat_le scale 18) asset) (omega arith), byte_of pieces 64 (both_right (nat_le 1 pieces) (nat_le pieces 64) few) (omega arith))
act_fits history t (acts.AddressAdded path asset name) has counted word next = asset_fits history counted asset (next_names history (record { at = t; act = acts.AddressAdded path asset name }) next)
act_fits history t (acts.Deposited transfer account value) has counted word next =
    (account_fits history counted account (next_names history (record { at = t; act = acts.Deposited transfer account value }) next), value_fits value (value_small (amount_of (asset_of_account history account) value) (both_right _ _ next.proper)))
act_fits history t (acts.Withdrawn transfer account value) has counted word next =
    (account_fits history counted account (next_names history (record { at = t; act = acts.Withdrawn transfer account value }) next), value_fits value (value_small (amount_of (asset_of_account history account) value) (both_right _ _ next.proper)))
act_fits history t (acts.RateSet source target num den) has counted word next =
    let made = next_names history (record { at = t; act = acts.RateSet source target num den }) next in
    let rest = both_right _ (is_rate_number num && is_rate_number den) (both_right _ _ next.proper) in (
      asset_fits history counted source made.0,
      asset_fits history counted target made.1,
      rate_fits num (rate_small num (both_left (is_rate_number num) (is_rate_number den) rest)),
      rate_fits den (rate_small den (both_right (is_rate_number num) (is_rate_number den) rest)),
    )
act_fits history t (acts.IncomingMade grant address amount expiry metadata) has counted word next =
    let made = next_names history (record { at = t; act = acts.IncomingMade grant address amount expiry metadata }) next in
    let asset = asset_of_address history address in (
      grant_fits history counted grant made.0,
      address_fits history counted address made.1,
      amounts_fit asset amount (both_left (passes is_amount (option_map (amount_of asset) amount)) _ next.proper),
      moment_of expiry (both_left (nat_le expiry LAST) _ (both_right (passes is_amount (option_map (amount_of asset) amount)) _ next.proper)),
    )
act_fits history t (acts.IncomingCompleted grant incoming) has counted word next =
    let made = next_names history (record { at = t; act = acts.IncomingCompleted grant incoming }) next in (grant_fits history counted grant made.0, incoming_fits history counted incoming made.1)
act_fits history t (acts.IncomingExpired incoming) has counted word next = incoming_fits history counted incoming next.proper
act_fits history t (acts.QuoteMade grant address incoming mode asked debit source fee receive num den) has counted word next = quote_fits history counted t grant address incoming mode asked debit source fee receive num den has next
act_fits history t (acts.GrantAsked client items finish drawn) has counted word next =
    let asked = map (item_spelled history) items in
    let forms = both_left (are_items asked) _ next.proper in
    let each = both_right (nat_le 1 (length asked)) (list_all is_item asked) (both_left (nat_le 1 (length asked) && list_all is_item asked) _ forms) in
    (items_fit history counted items (next_names history (record { at = t; act = acts.GrantAsked client items finish drawn }) next) each, word)
act_fits history t (acts.GrantAccepted grant drawn) has counted word next = (grant_fits history counted grant (next_names history (record { at = t; act = acts.GrantAccepted grant drawn }) next), word)
act_fits history t (acts.GrantRejected grant drawn) has counted word next = (grant_fits history counted grant (next_names history (record { at = t; act = acts.GrantRejected grant drawn }) next), word)
act_fits history t (acts.GrantPolled grant) has counted word next = grant_fits history counted grant (next_names history (record { at = t; act = acts.GrantPolled grant }) next)
act_fits history t (acts.GrantContinued grant drawn) has counted word next = (grant_fits history counted grant (next_names history (record { at = t; act = acts.GrantContinued grant drawn }) next), word)
act_fits history t (acts.GrantCancelled grant) has counted word next = grant_fits history counted grant (next_names history (record { at = t; act = acts.GrantCancelled grant }) next)
act_fits history t (acts.TokenRotated grant drawn) has counted word next = (grant_fits history counted grant (next_names history (record { at = t; act = acts.TokenRotated grant drawn }) next), word)
act_fits history t (acts.TokenRevoked grant) has counted word next = grant_fits history counted grant (next_names history (record { at = t; act = acts.TokenRevoked grant }) next)
act_fits history t (acts.OutgoingMade grant quote metadata) has counted word next =
    let made = next_names history (record { at = t; act = acts.OutgoingMade grant quote metadata }) next in
    (grant_fits history counted grant made.0, row_fits quote (length history) (quote_within history quote made.1) counted.of_entries)
act_fits history t (acts.OutgoingDirect grant address incoming debit source fee receive num den metadata) has counted word next = direct_fits history counted t grant address incoming debit source fee receive num den metadata has next
act_fits history t (acts.OutgoingFunded payment step) has counted word next =
    let is = funded_acts history t payment step next in
    (outgoing_fits history counted payment (ap is_some is.there), step_fits history counted payment step is.row is.now (step_is history payment is.row is.there))
act_fits history t (acts.OutgoingSent payment step) has counted word next =
    let is = sent_acts history t payment step next in
    (outgoing_fits history counted payment (ap is_some is.there), step_fits history counted payment step is.row is.now (step_is history payment is.row is.there))
act_fits history t (acts.OutgoingCompleted payment step) has counted word next =
    let is = completed_acts history t payment step next in
    (outgoing_fits history counted payment (ap is_some is.there), step_fits history counted payment step is.row is.now (step_is history payment is.row is.there))
act_fits history t (acts.OutgoingFailed payment step reason) has counted word next =
    let is = failed_acts history t payment step reason next in
    (outgoing_fits history counted payment (ap is_some is.there), step_fits history counted payment step is.row is.now (step_is history payment is.row is.there))
act_fits history t (acts.Attempted event outcome) has counted word next =
    event_fits event (length history) (event_within history event (next_names history (record { at = t; act = acts.Attempted event outcome }) next)) counted.of_entries

pub entries_have_records : EntriesHaveRecords
entries_have_records history e legal next counted word =
    (next_within_limits history e next, (next.limit, act_fits history e.at e.act (has_values history legal) counted word next))
