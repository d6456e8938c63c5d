-- Incoming payments that are made or completed.
use Rattle.std.proofs.Common.{◌≡◌, ℕ, ◌+◌, Bool, true, false, List, [], ◌∷◌, ◌++◌, length, refl, ◌∙◌, sym, ap, subst, arith, Some, None, Option, Result, Ok, Err}
use Rattle.std.specs.Prelude.{◌||◌, ◌==◌, not, nat_le, unwrap_or}
use Rattle.std.specs.List.{list_any}
use Rattle.std.specs.Option.{option_map, option_map_or, option_and_then}
use Rattle.std.proofs.lemmas.Bool.Decides.{nat_tests}
use Rattle.std.proofs.lemmas.List.{length-map, length_push}
use Rattle.op_amount.specs.declared.TheConstants.{TOP}
use Rattle.op_amount.specs.declared.Amount.{Amount}
use Rattle.op_amount.specs.declared.Asset.{Asset}
use Rattle.op_amount.specs.Asset.{is_same_asset}
use Rattle.op_incoming.specs.Rows.{fresh}
use Rattle.op_incoming.specs.declared.incoming.Incoming.{Incoming}
use Rattle.op_laws.proofs.Lists.{any_next}
use Rattle.op_laws.proofs.Placed.{all_placed}
use Rattle.op_legal.proofs.Chains.{none_is_not, some_is, within_refusal}
use Rattle.op_model.specs.Actions as actions
use Rattle.op_model.specs.Answer.{act_for, body_for}
use Rattle.op_model.specs.Asking.{◌>>=◌, refuse_if, Found, found, address_named}
use Rattle.op_model.specs.History.{AssetRow, AddressRow, nth, assets, addresses, asset_of_address, no_asset, no_address}
use Rattle.op_model.specs.Incoming.{bound_of, is_open, is_completing, is_completed}
use Rattle.op_model.specs.Legal.{IsLegal}
use Rattle.op_model.specs.PaymentAnswers.{incoming_place, looks_at_address, looks_at_row, complete_incoming, make_incoming, expiry_of, incoming_refusals, is_strange_amount}
use Rattle.op_model.specs.Payments.{incomings, incoming_made, incoming_row, received}
use Rattle.op_model.specs.Shown.{path_of_address, incoming_shown}
use Rattle.op_model.specs.declared.act.Act.{Act}
use Rattle.op_model.specs.declared.act.Act.TheVariants as acts
use Rattle.op_model.specs.declared.act.Entry.{Entry}
use Rattle.op_model.specs.declared.reply.IncomingShown.{IncomingShown}
use Rattle.op_model.specs.declared.reply.Refusal.{Refusal}
use Rattle.op_model.specs.declared.reply.Refusal.TheVariants.{NotFound, AlreadyClosed, ZeroAmount, AssetMismatch, ExpiresInPast}
use Rattle.op_model.specs.declared.reply.ReplyBody.TheVariants as bodies
use Rattle.op_model.specs.declared.request.Request.{Request}
use Rattle.op_model.specs.declared.request.Request.TheVariants as requests
use Rattle.op_model.specs.declared.request.Verdict.{Verdict}
use Rattle.op_model.specs.declared.row.IncomingRow.{IncomingRow}
use Rattle.op_model.proofs.Next.{incomings-next}
use Rattle.op_model.proofs.SumsNext.{received_stays}
use Rattle.op_naming.proofs.Lists.{nth_here}
use Rattle.op_paying.specs.Money.{AreIncomings}
use Rattle.op_paying.proofs.Closing.{made_incomings}
use Rattle.op_paying.proofs.Stays.{nothing_more, assets_stay, addresses_stay}
use Rattle.op_paying.proofs.Untouched.{AddsNoPayment, payments_stay}
use Rattle.op_plans.specs.Plans.{IsPlan}
use Rattle.op_plans.specs.declared.plan.Plan.{Plan}
use Rattle.op_plans.specs.declared.plan.Plan.TheVariants.{Refused, Told, Acts}
use Rattle.op_token_plans.specs.Answered.{IsAnswered}
use Rattle.op_token_plans.specs.Asking.{number_of, admission}
use Rattle.op_token_plans.specs.Incomings.{completion, making, made_plan}
use Rattle.op_token_plans.specs.Shown.{row_beside}
use Rattle.op_token_plans.specs.declared.incomings.IncomingAsked.{IncomingAsked}
use Rattle.op_token_plans.proofs.Admitting.{route_is}
use Rattle.op_token_plans.proofs.Showing.{beside_there}

-- ---- the plan of a route, from what it answers

pub is_plan : (history : List Entry) (t : ℕ) (word : List ℕ) (fee : ℕ) (request : Request) (verdict : Verdict) (answer : Result (Option Act) Refusal) (plan : Plan) → act_for history t word fee request verdict ≡ answer
    → IsAnswered history t request verdict answer plan → IsPlan history t word fee request verdict plan
is_plan history t word fee request verdict answer (Refused refusal) same is = same ∙ is
is_plan history t word fee request verdict answer (Told body) same is = (same ∙ is.0, is.1)
is_plan history t word fee request verdict answer (Acts act body) same is = (same ∙ is.0, is.1)

-- ---- the rows that a completion looks at

pub found_place : (history : List Entry) (n : Option ℕ) → option_map incoming_place (option_and_then (incoming_row history) n) ≡ option_map (λ it. incoming_place it.row) (found (incoming_row history) n)
found_place history None = refl
found_place history (Some n) = at (incoming_row history n)
  where
    at : (o : Option IncomingRow) → option_map incoming_place o ≡ option_map (λ it. incoming_place it.row) (option_map (λ x. let f : Found IncomingRow = record { number = n; row = x } in f) o)
    at None = refl
    at (Some row) = refl

pub complete_is : (history : List Entry) (t : ℕ) (n : Option ℕ) (verdict : Verdict) (place : Option (ℕ × ℕ)) (admitted : Result ℕ Refusal) → place ≡ option_map incoming_place (option_and_then (incoming_row history) n)
    → admitted ≡ number_of (admission history t verdict (looks_at_row history actions.incoming_payment actions.complete 0 place)) → complete_incoming history t n verdict ≡ (admitted >>= completion history t n)
complete_is history t n verdict place admitted at is =
    let looked : Option (ℕ × ℕ) = option_map (λ it. incoming_place it.row) (found (incoming_row history) n) in
    route_is history t verdict (looks_at_row history actions.incoming_payment actions.complete 0 looked) (completion history t n) admitted
    (is ∙ ap (λ (p : Option (ℕ × ℕ)). number_of (admission history t verdict (looks_at_row history actions.incoming_payment actions.complete 0 p))) (at ∙ found_place history n))

-- ---- a completion whose access passes

shown_where : {X S : Type 0} (n : ℕ) (show : ℕ × X → S) (s : S) (o : Option X) → Some s ≡ option_map show (option_map (λ x. (n, x)) o) → (x : X) × (o ≡ Some x) × (s ≡ show (n, x))
shown_where n show s None is = none_is_not s (sym is)
shown_where n show s (Some x) is = (x, refl, some_is s (show (n, x)) is)

-- the row of what is told
pub shown_row : (history : List Entry) (n : ℕ) (s : IncomingShown) → Some s ≡ option_map (incoming_shown history) (row_beside (incoming_row history) (Some n)) → (row : IncomingRow) × (incoming_row history n ≡ Some row) × (s ≡ incoming_shown history (n, row))
shown_row history n s told = shown_where n (incoming_shown history) s (incoming_row history n) told

missing_where : {X S : Type 0} (n : ℕ) (show : ℕ × X → S) (o : Option X) → None ≡ option_map show (option_map (λ x. (n, x)) o) → o ≡ None
missing_where n show None is = refl
missing_where n show (Some x) is = none_is_not (show (n, x)) is

pub no_incoming : (history : List Entry) (t n grant : ℕ) → incoming_row history n ≡ None → completion history t (Some n) grant ≡ Err NotFound
no_incoming history t n grant none = rw none refl

pub is_closed_then : (history : List Entry) (t n grant : ℕ) (row : IncomingRow) → incoming_row history n ≡ Some row → is_open history n row t ≡ false → completion history t (Some n) grant ≡ Err AlreadyClosed
is_closed_then history t n grant row there closed = rw (there, closed) refl

pub is_open_then : (history : List Entry) (t n grant : ℕ) (row : IncomingRow) → incoming_row history n ≡ Some row → is_open history n row t ≡ true → completion history t (Some n) grant ≡ Ok (Some (acts.IncomingCompleted grant n))
is_open_then history t n grant row there opened = rw (there, opened) refl

pub completes_none : (history : List Entry) (t grant : ℕ) (incoming : Option ℕ) (n : ℕ) → incoming ≡ Some n → None ≡ option_map (incoming_shown history) (row_beside (incoming_row history) (Some n)) → completion history t incoming grant ≡ Err NotFound
completes_none history t grant incoming n is told =
    let gone : incoming_row history n ≡ None = missing_where n (incoming_shown history) (incoming_row history n) told in
    ap (λ (o : Option ℕ). completion history t o grant) is ∙ no_incoming history t n grant gone

pub completes_closed : (history : List Entry) (t grant : ℕ) (incoming : Option ℕ) (n : ℕ) (s : IncomingShown) (opened : Bool) → incoming ≡ Some n → Some s ≡ option_map (incoming_shown history) (row_beside (incoming_row history) (Some n))
    → opened ≡ option_map_or (λ row. is_open history n row t) (incoming_row history n) false → opened ≡ false → completion history t incoming grant ≡ Err AlreadyClosed
completes_closed history t grant incoming n s opened is told by_row closed =
    let row = shown_row history n s told in
    let now : is_open history n row.0 t ≡ false = sym (by_row ∙ ap (λ (o : Option IncomingRow). option_map_or (λ r. is_open history n r t) o false) row.1) ∙ closed in
    ap (λ (o : Option ℕ). completion history t o grant) is ∙ is_closed_then history t n grant row.0 row.1 now

-- ---- what is told behind an act

-- what is told of a payment, from addresses and assets, and what it has received
shown_from : List AddressRow → List AssetRow → (got : ℕ) → (done : Bool) → (n : ℕ) → IncomingRow → IncomingShown
shown_from rows kinds got done n row =
    let home : AddressRow = unwrap_or (nth rows row.address) no_address in
    let asset : Asset = (unwrap_or (nth kinds home.asset) no_asset).asset in
    record {
      number = n;
      path = home.path;
      amount = option_map (λ v. record { value = v; asset = asset }) row.amount;
      received = record { value = got; asset = asset };
      completed = done;
      made = row.made;
      expiry = row.expiry;
      metadata = row.metadata;
    }

shown_is : (history : List Entry) (n : ℕ) (row : IncomingRow) → incoming_shown history (n, row) ≡ shown_from (addresses history) (assets history) (received history n) (is_completed history n row) n row
unfolding shown_from
shown_is history n row = refl

-- behind an act that adds no name
shown_then : (history : List Entry) (e : Entry) (n got : ℕ) (done : Bool) (row : IncomingRow) → addresses (history ++ e ∷ []) ≡ addresses history → assets (history ++ e ∷ []) ≡ assets history → received (history ++ e ∷ []) n ≡ got → is_completed (history ++ e ∷ []) n row ≡ done
    → incoming_shown (history ++ e ∷ []) (n, row) ≡ shown_from (addresses history) (assets history) got done n row
shown_then history e n got done row same_addresses same_assets got_is done_is =
    shown_is (history ++ e ∷ []) n row
    ∙ ap (λ (l : List AddressRow). shown_from l (assets (history ++ e ∷ [])) (received (history ++ e ∷ []) n) (is_completed (history ++ e ∷ []) n row) n row) same_addresses
    ∙ ap (λ (l : List AssetRow). shown_from (addresses history) l (received (history ++ e ∷ []) n) (is_completed (history ++ e ∷ []) n row) n row) same_assets
    ∙ ap (λ (k : ℕ). shown_from (addresses history) (assets history) k (is_completed (history ++ e ∷ []) n row) n row) got_is
    ∙ ap (λ (b : Bool). shown_from (addresses history) (assets history) got b n row) done_is

-- ---- behind a completion

or_true : (a b : Bool) → b ≡ true → (a || b) ≡ true
or_true true b h = refl
or_true false b h = h

same_number : (n : ℕ) → (n == n) ≡ true
same_number n = grind (arith, nat_tests)

with_done : IncomingShown → IncomingShown
with_done shown = record shown { completed = true }

done_from : (rows : List AddressRow) (kinds : List AssetRow) (got : ℕ) (done : Bool) (n : ℕ) (row : IncomingRow) → shown_from rows kinds got true n row ≡ with_done (shown_from rows kinds got done n row)
unfolding shown_from with_done
done_from rows kinds got done n row = refl

done_is : (shown : IncomingShown) → with_done shown ≡ (record shown { completed = true })
unfolding with_done
done_is shown = refl

pub completed_body : (history : List Entry) (t n grant : ℕ) (row : IncomingRow) (shown : IncomingShown) (verdict : Verdict) → incoming_row history n ≡ Some row → shown ≡ incoming_shown history (n, row)
    → bodies.IncomingRead (record shown { completed = true }) ≡ body_for (history ++ record { at = t; act = acts.IncomingCompleted grant n } ∷ []) t (requests.CompleteIncoming (Some n)) verdict
completed_body history t n grant row shown verdict there shown_now =
    let e : Entry = record { at = t; act = acts.IncomingCompleted grant n } in
    let after = history ++ e ∷ [] in
    let kept : incomings after ≡ incomings history = nothing_more (incomings history) (incomings after) (incoming_made t e.act) (incomings-next history e) refl in
    let row_then : incoming_row after n ≡ Some row = ap (λ (l : List IncomingRow). nth l n) kept ∙ there in
    let none : AddsNoPayment e.act = record { payment = λ s u. refl; step = λ p. refl } in
    let got : received after n ≡ received history n = received_stays history after n (payments_stay history e none) in
    let by_act : list_any (λ f. is_completing n f.act) after ≡ true = any_next (λ (f : Entry). is_completing n f.act) history e ∙ or_true (list_any (λ f. is_completing n f.act) history) (n == n) (same_number n) in
    let done : is_completed after n row ≡ true = ap (λ b. b || nat_le (bound_of row) (received after n)) by_act in
    let shown_behind : incoming_shown after (n, row) ≡ with_done shown =
    shown_then history e n (received history n) true row (addresses_stay history e refl) (assets_stay history e refl) got done
    ∙ done_from (addresses history) (assets history) (received history n) (is_completed history n row) n row
    ∙ ap with_done (sym (shown_is history n row) ∙ sym shown_now) in
    ap bodies.IncomingRead (sym (done_is shown) ∙ sym shown_behind)
    ∙ ap (λ (o : Option (ℕ × IncomingRow)). option_map_or (λ i. bodies.IncomingRead (incoming_shown after i)) o (bodies.Refused NotFound)) (sym (beside_there (incoming_row after) n row row_then))

pub completes : (history : List Entry) (t grant : ℕ) (incoming : Option ℕ) (n : ℕ) (s : IncomingShown) (opened : Bool) (verdict : Verdict) → incoming ≡ Some n → Some s ≡ option_map (incoming_shown history) (row_beside (incoming_row history) (Some n))
    → opened ≡ option_map_or (λ row. is_open history n row t) (incoming_row history n) false → opened ≡ true
    → IsAnswered history t (requests.CompleteIncoming incoming) verdict (completion history t incoming grant) (Acts (acts.IncomingCompleted grant n) (bodies.IncomingRead (record s { completed = true })))
completes history t grant incoming n s opened verdict is told by_row open_now =
    let row = shown_row history n s told in
    let now : is_open history n row.0 t ≡ true = sym (by_row ∙ ap (λ (o : Option IncomingRow). option_map_or (λ r. is_open history n r t) o false) row.1) ∙ open_now in
    let plan : Plan = Acts (acts.IncomingCompleted grant n) (bodies.IncomingRead (record s { completed = true })) in
    subst (λ (o : Option ℕ). IsAnswered history t (requests.CompleteIncoming o) verdict (completion history t o grant) plan) (sym is)
    (is_open_then history t n grant row.0 row.1 now, completed_body history t n grant row.0 s verdict row.1 row.2)

-- ---- a making whose access passes

pub make_is : (history : List Entry) (t : ℕ) (asked : IncomingAsked) (verdict : Verdict) (address : Option ℕ) (admitted : Result ℕ Refusal) → address ≡ address_named history asked.address.now
    → admitted ≡ number_of (admission history t verdict (looks_at_address actions.incoming_payment actions.create address)) → make_incoming history t asked.address.now asked.amount asked.expiry asked.metadata.now verdict ≡ (admitted >>= making history t address asked)
make_is history t asked verdict address admitted at is =
    let named = address_named history asked.address.now in
    route_is history t verdict (looks_at_address actions.incoming_payment actions.create named) (making history t named asked) admitted
    (is ∙ ap (λ (a : Option ℕ). number_of (admission history t verdict (looks_at_address actions.incoming_payment actions.create a))) at)
    ∙ ap (λ (a : Option ℕ). admitted >>= making history t a asked) (sym at)

pub strange_refused : (history : List Entry) (t n : ℕ) (asked : IncomingAsked) (grant : ℕ) → option_map_or (is_strange_amount history) asked.amount false ≡ true → making history t (Some n) asked grant ≡ Err NotFound
strange_refused history t n asked grant strange = rw strange refl

-- the same where the amount is in an asset that is there
known : (history : List Entry) (t n : ℕ) (asked : IncomingAsked) (grant : ℕ) → option_map_or (is_strange_amount history) asked.amount false ≡ false
    → making history t (Some n) asked grant
    ≡ (incoming_refusals t (asset_of_address history n) asked.amount (expiry_of t asked.expiry) >>= λ _. Ok (Some (acts.IncomingMade grant n (option_map (λ a. a.value) asked.amount) (expiry_of t asked.expiry) asked.metadata.now)))
known history t n asked grant plain = rw plain refl

pub making_refused : (history : List Entry) (t n : ℕ) (asked : IncomingAsked) (grant : ℕ) (refusal : Refusal) → option_map_or (is_strange_amount history) asked.amount false ≡ false → Err refusal ≡ incoming_refusals t (asset_of_address history n) asked.amount (expiry_of t asked.expiry)
    → making history t (Some n) asked grant ≡ Err refusal
making_refused history t n asked grant refusal plain is =
    known history t n asked grant plain
    ∙ ap (λ (r : Result (Unit {0}) Refusal). let act : Result (Option Act) Refusal = r >>= λ _. Ok (Some (acts.IncomingMade grant n (option_map (λ a. a.value) asked.amount) (expiry_of t asked.expiry) asked.metadata.now)) in act) (sym is)

pub making_passed : (history : List Entry) (t n : ℕ) (asked : IncomingAsked) (grant : ℕ) → option_map_or (is_strange_amount history) asked.amount false ≡ false → Ok tt ≡ incoming_refusals t (asset_of_address history n) asked.amount (expiry_of t asked.expiry)
    → making history t (Some n) asked grant ≡ Ok (Some (acts.IncomingMade grant n (option_map (λ a. a.value) asked.amount) (expiry_of t asked.expiry) asked.metadata.now))
making_passed history t n asked grant plain is =
    known history t n asked grant plain
    ∙ ap (λ (r : Result (Unit {0}) Refusal). let act : Result (Option Act) Refusal = r >>= λ _. Ok (Some (acts.IncomingMade grant n (option_map (λ a. a.value) asked.amount) (expiry_of t asked.expiry) asked.metadata.now)) in act) (sym is)

-- ---- behind a making

-- a payment that may be made has some bound
unbounded : (amount : Option Amount) → option_map_or (λ a. a.value == 0) amount false ≡ false → nat_le (unwrap_or (option_map (λ a. a.value) amount) TOP) 0 ≡ false
unbounded None some = refl
unbounded (Some amount) some = above amount.value some
  where
    above : (n : ℕ) → (n == 0) ≡ false → nat_le n 0 ≡ false
    above n other = grind (arith, nat_tests)

length_one : {X : Type 0} (xs : List X) (x : X) → length (xs ++ x ∷ []) ≡ 1 + length xs
length_one xs x = omega (arith, length_push xs x)

made_told : (history : List Entry) (number place : ℕ) (row : IncomingRow) (asset : Asset) (path : List ℕ) → number ≡ place → asset ≡ asset_of_address history row.address → path ≡ path_of_address history row.address
    → (let shown : IncomingShown = record {
      number = number;
      path = path;
      amount = option_map (λ v. record { value = v; asset = asset }) row.amount;
      received = record { value = 0; asset = asset };
      completed = false;
      made = row.made;
      expiry = row.expiry;
      metadata = row.metadata;
    } in shown) ≡ shown_from (addresses history) (assets history) 0 false place row
unfolding shown_from
made_told history number place row asset path number_is asset_is path_is = rw (number_is, asset_is, path_is) refl

pub made_body : (history : List Entry) (t n grant number : ℕ) (asset : Asset) (path : List ℕ) (asked : IncomingAsked) (rows : List Incoming) (verdict : Verdict) → IsLegal history → AreIncomings history rows → number ≡ 1 + length (incomings history)
    → asset ≡ asset_of_address history n → path ≡ path_of_address history n → Ok tt ≡ incoming_refusals t asset asked.amount (expiry_of t asked.expiry)
    → bodies.IncomingMade (record {
      number = number;
      path = path;
      amount = option_map (λ v. record { value = v; asset = asset }) (option_map (λ a. a.value) asked.amount);
      received = record { value = 0; asset = asset };
      completed = false;
      made = t;
      expiry = expiry_of t asked.expiry;
      metadata = asked.metadata.now;
    })
    ≡ body_for (history ++ record { at = t; act = acts.IncomingMade grant n (option_map (λ a. a.value) asked.amount) (expiry_of t asked.expiry) asked.metadata.now } ∷ []) t (requests.MakeIncoming asked.address.now asked.amount asked.expiry asked.metadata.now) verdict
made_body history t n grant number asset path asked rows verdict legal are number_is asset_is path_is passes =
    let value : Option ℕ = option_map (λ a. a.value) asked.amount in
    let ends : ℕ = expiry_of t asked.expiry in
    let e : Entry = record { at = t; act = acts.IncomingMade grant n value ends asked.metadata.now } in
    let row : IncomingRow = record { address = n; grant = grant; amount = value; expiry = ends; made = t; metadata = asked.metadata.now } in
    let after = history ++ e ∷ [] in
    let none : AddsNoPayment e.act = record { payment = λ s u. refl; step = λ p. refl } in
    let next : incomings after ≡ incomings history ++ row ∷ [] = incomings-next history e in
    let place : ℕ = 1 + length (incomings history) in
    let row_then : incoming_row after place ≡ Some row = ap (λ (l : List IncomingRow). nth l place) next ∙ nth_here (incomings history) row place refl in
    let all = made_incomings history e rows row are (all_placed history legal) legal refl (λ i. refl) (payments_stay history e none) in
    let long : length rows ≡ length (incomings history) = sym (length-map rows (λ (x : Incoming). x.row)) ∙ ap length are.rows_are in
    let new = all.each place (fresh row) (nth_here rows (fresh row) place (ap (λ (k : ℕ). 1 + k) (sym long))) in
    let got : received after place ≡ 0 = sym new.received in
    let some : option_map_or (λ a. a.value == 0) asked.amount false ≡ false = (within_refusal (option_map_or (λ a. a.value == 0) asked.amount false) ZeroAmount (λ u. refuse_if (option_map_or (λ a. not (is_same_asset a.asset asset)) asked.amount false) AssetMismatch >>= λ v. refuse_if (nat_le ends t) ExpiresInPast) tt (sym passes)).0 in
    let done : is_completed after place row ≡ false =
    ap (λ b. b || nat_le (bound_of row) (received after place)) (sym new.completed)
    ∙ ap (λ (k : ℕ). nat_le (bound_of row) k) got
    ∙ unbounded asked.amount some in
    let counted : length (incomings after) ≡ place = ap length next ∙ length_one (incomings history) row in
    let shown_behind : incoming_shown after (place, row) ≡ shown_from (addresses history) (assets history) 0 false place row =
    shown_then history e place 0 false row (addresses_stay history e refl) (assets_stay history e refl) got done in
    let told : (let shown : IncomingShown = record {
      number = number;
      path = path;
      amount = option_map (λ v. record { value = v; asset = asset }) value;
      received = record { value = 0; asset = asset };
      completed = false;
      made = t;
      expiry = ends;
      metadata = asked.metadata.now;
    } in shown) ≡ shown_from (addresses history) (assets history) 0 false place row = made_told history number place row asset path number_is asset_is path_is in
    ap bodies.IncomingMade (told ∙ sym shown_behind)
    ∙ ap (λ (o : Option (ℕ × IncomingRow)). option_map_or (λ i. bodies.IncomingMade (incoming_shown after i)) o (bodies.Refused NotFound)) (sym (ap (λ (k : ℕ). row_beside (incoming_row after) (Some k)) counted ∙ beside_there (incoming_row after) place row row_then))

-- the answer and the plan of a making, from the parts that the row is made of
pub made_answer : (history : List Entry) (t : ℕ) (address : Option ℕ) (n grant number : ℕ) (asset : Asset) (path : List ℕ) (asked : IncomingAsked) (row : IncomingRow) (rows : List Incoming) (verdict : Verdict) → IsLegal history → AreIncomings history rows
    → address ≡ Some n → row ≡ (record { address = n; grant = grant; amount = option_map (λ a. a.value) asked.amount; expiry = expiry_of t asked.expiry; made = t; metadata = asked.metadata.now })
    → number ≡ 1 + length (incomings history) → asset ≡ asset_of_address history n → path ≡ path_of_address history n
    → option_map_or (is_strange_amount history) asked.amount false ≡ false → Ok tt ≡ incoming_refusals t asset asked.amount (expiry_of t asked.expiry)
    → IsAnswered history t (requests.MakeIncoming asked.address.now asked.amount asked.expiry asked.metadata.now) verdict (making history t address asked grant) (made_plan number path asset row)
made_answer history t address n grant number asset path asked row rows verdict legal are at row_is number_is asset_is path_is plain passes =
    let request = requests.MakeIncoming asked.address.now asked.amount asked.expiry asked.metadata.now in
    let there : Ok tt ≡ incoming_refusals t (asset_of_address history n) asked.amount (expiry_of t asked.expiry) =
    passes ∙ ap (λ (a : Asset). incoming_refusals t a asked.amount (expiry_of t asked.expiry)) asset_is in
    subst (λ (a : Option ℕ). IsAnswered history t request verdict (making history t a asked grant) (made_plan number path asset row)) (sym at)
    (subst (λ (r : IncomingRow). IsAnswered history t request verdict (making history t (Some n) asked grant) (made_plan number path asset r)) (sym row_is)
    (making_passed history t n asked grant plain there, made_body history t n grant number asset path asked rows verdict legal are number_is asset_is path_is passes))

-- the same refusals, of an asset and an expiry that are those
pub refusals_are : (history : List Entry) (t n : ℕ) (asked : IncomingAsked) (asset : Asset) (ends : ℕ) (answer : Result (Unit {0}) Refusal) → asset ≡ asset_of_address history n → ends ≡ expiry_of t asked.expiry → answer ≡ incoming_refusals t asset asked.amount ends
    → answer ≡ incoming_refusals t (asset_of_address history n) asked.amount (expiry_of t asked.expiry)
refusals_are history t n asked asset ends answer asset_is ends_is is =
    is ∙ ap (λ (a : Asset). incoming_refusals t a asked.amount ends) asset_is ∙ ap (λ (k : ℕ). incoming_refusals t (asset_of_address history n) asked.amount k) ends_is

pub row_from : (n grant t : ℕ) (value value_then : Option ℕ) (ends ends_then : ℕ) (copy copy_then : Option (List ℕ)) → value ≡ value_then → ends ≡ ends_then → copy ≡ copy_then
    → (let row : IncomingRow = record { address = n; grant = grant; amount = value; expiry = ends; made = t; metadata = copy } in row) ≡ record { address = n; grant = grant; amount = value_then; expiry = ends_then; made = t; metadata = copy_then }
row_from n grant t value value_then ends ends_then copy copy_then value_is ends_is copy_is = rw (value_is, ends_is, copy_is) refl
