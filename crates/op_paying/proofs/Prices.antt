-- What an entry that may follow tells of the price that it records.
use Rattle.std.proofs.Common.{◌≡◌, ℕ, zero, suc, ◌+◌, ◌-◌, ◌*◌, ◌/◌, ◌<◌, ◌≤◌, true, List, [], refl, ◌∙◌, sym, subst, arith, Some, None, Option}
use Rattle.std.specs.Prelude.{◌==◌, nat_le, Ok, unwrap_or}
use Rattle.std.specs.List.{AllByRecursion}
use Rattle.std.specs.Option.{option_to_list}
use Rattle.std.proofs.Math.Nat.{div-le_of_le-mul}
use Rattle.std.proofs.lemmas.Bool.Decides.{nat_tests}
use Rattle.std.proofs.lemmas.Nat.{le-div}
use Rattle.op_amount.specs.Prices.{price_with, terms_of, is_too_large, is_too_small, is_over_receiver}
use Rattle.op_amount.specs.Rates.{floor_mul, ceil_div}
use Rattle.op_amount.specs.declared.Amount.{Amount}
use Rattle.op_amount.specs.declared.Priced.{Priced}
use Rattle.op_names.specs.declared.AddressName.{AddressName}
use Rattle.op_names.specs.declared.RowName.{RowName}
use Rattle.op_names.specs.declared.Kind.TheVariants as kinds
use Rattle.op_model.specs.Answer.{act_for}
use Rattle.op_model.specs.Grants.{current_token}
use Rattle.op_model.specs.History.{AssetRow, nth, assets, asset_added, asset_row, no_asset, asset_of_address, address_asset}
use Rattle.op_model.specs.Legal.{IsLegal, IsNext, grant_verdict, name_of_address, name_of_row, quote_spelled, amount_of}
use Rattle.op_model.specs.PaymentAnswers.{Pricing, priced, make_quote, pay_directly}
use Rattle.op_model.specs.Payments.{terms_at}
use Rattle.op_model.specs.declared.act.Act.{Act}
use Rattle.op_model.specs.declared.act.Act.TheVariants as acts
use Rattle.op_model.specs.declared.act.Entry.{Entry}
use Rattle.op_model.specs.declared.act.QuoteMode.{QuoteMode}
use Rattle.op_model.specs.declared.request.PaymentAsked.TheVariants.{Direct}
use Rattle.op_model.specs.declared.request.Request.TheVariants as requests
use Rattle.op_model.specs.declared.row.IncomingRow.{IncomingRow}
use Rattle.op_model.proofs.Next.{assets-next}
use Rattle.op_model.proofs.Numbered.{all-append}
use Rattle.op_legal.proofs.Chains.{act_in, outcome_act}
use Rattle.op_legal.proofs.Induction.{legal_induction}
use Rattle.op_legal.proofs.Named.{makes_quote, pays_directly}
use Rattle.op_legal.proofs.Names.{both_left, both_right}
use Rattle.op_legal.proofs.Quoting.{price_is, priced_ok}
use Rattle.op_legal.proofs.Values.{HasPriceValues, has_values, price_values, quote_values, direct_values}
use Rattle.op_laws.proofs.Known.{all_known}
use Rattle.op_laws.proofs.Lists.{each_at, or_right}
use Rattle.op_laws.proofs.MakingActs.{AreGood, AreAddressed, IsAddress, not_small, not_none, quote_acts, direct_acts}
use Rattle.op_outgoing.specs.Sound.{ArePriced}

-- ---- pieces

have_pieces : (history : List Entry) → IsLegal history → AllByRecursion (λ (row : AssetRow). 1 ≤ row.pieces) (assets history)
have_pieces = legal_induction (λ h. AllByRecursion (λ (row : AssetRow). 1 ≤ row.pieces) (assets h)) tt
    (λ history e legal next before. subst (AllByRecursion (λ (row : AssetRow). 1 ≤ row.pieces)) (sym (assets-next history e))
    (all-append (λ (row : AssetRow). 1 ≤ row.pieces) (assets history) (option_to_list (asset_added e.act)) before (added history e.at e.act next)))
  where
    some_pieces : (n : ℕ) → nat_le 1 n ≡ true → 1 ≤ n
    some_pieces n h = grind (arith, nat_tests)

    added : (history : List Entry) (t : ℕ) (act : Act) → IsNext history (record { at = t; act = act }) → AllByRecursion (λ (row : AssetRow). 1 ≤ row.pieces) (option_to_list (asset_added act))
    added history t (acts.AssetAdded code scale pieces) next = (some_pieces pieces (both_left (nat_le 1 pieces) _ (both_right _ _ next.proper)), tt)
    added history t _ next = tt

pieces_where : (rows : List AssetRow) (n : ℕ) (found : Option AssetRow) → AllByRecursion (λ (row : AssetRow). 1 ≤ row.pieces) rows → nth rows n ≡ found → 1 ≤ (unwrap_or found no_asset).pieces
pieces_where rows n None each at = omega arith
pieces_where rows n (Some row) each at = each_at (λ (r : AssetRow). 1 ≤ r.pieces) rows n row each at

pub has_pieces : (history : List Entry) (n : ℕ) → IsLegal history → 1 ≤ (asset_row history n).pieces
has_pieces history n legal = pieces_where (assets history) n (nth (assets history) n) (have_pieces history legal) refl

-- ---- a price that gives something

gives : (fee : ℕ) (p : Pricing) (price : Priced) → priced fee p ≡ Ok price → 0 < price.receive
gives fee p price h =
    let terms = terms_of fee p.rate p.mode in
    let small = not_small (is_too_large terms) (is_too_small terms) (is_over_receiver terms p.room) p.room terms price (priced_ok (price_with fee p.rate p.mode p.room) price h) in
    subst (λ (x : Priced). 0 < x.receive) (price_is fee p price h) (not_none terms.receive (or_right (terms.source == 0) (terms.receive == 0) small.0))

pub record IsPrice (price : Priced) : Type 0 where
  pub values : HasPriceValues price
  pub gives : 0 < price.receive

abbrev RecordsPrice : Act → Type 0
RecordsPrice (acts.QuoteMade grant address incoming mode asked debit source fee receive num den) = IsPrice (record { debit = debit; source = source; fee = fee; receive = receive; num = num; den = den })
RecordsPrice (acts.OutgoingDirect grant address incoming debit source fee receive num den metadata) = IsPrice (record { debit = debit; source = source; fee = fee; receive = receive; num = num; den = den })
RecordsPrice _ = Unit {0}

quote_price : (history : List Entry) (t grant address incoming : ℕ) (mode : QuoteMode) (asked debit source fee receive num den : ℕ) → IsLegal history → IsNext history (record { at = t; act = acts.QuoteMade grant address incoming mode asked debit source fee receive num den })
    → IsPrice (record { debit = debit; source = source; fee = fee; receive = receive; num = num; den = den })
quote_price history t grant address incoming mode asked debit source fee receive num den legal next =
    let act = acts.QuoteMade grant address incoming mode asked debit source fee receive num den in
    let name : Option AddressName = Some (name_of_address history address) in
    let receiver : Option RowName = Some (name_of_row history kinds.Incoming incoming) in
    let spelled = quote_spelled history address incoming mode asked in
    let verdict = grant_verdict history grant current_token in
    let request = requests.MakeQuote name receiver spelled in
    let made : act_in (make_quote history t fee name receiver spelled verdict) ≡ Some act = sym (outcome_act history t request verdict (act_for history t [] fee request verdict)) ∙ next.act in
    makes_quote RecordsPrice history t fee name receiver spelled verdict act
    (λ q price is is_priced. record {
      values = price_values fee q.pricing price (quote_values history t name receiver spelled verdict q (has_values history legal) next.proper is).rate is_priced;
      gives = gives fee q.pricing price is_priced;
    })
    made

direct_price_is : (history : List Entry) (t grant address incoming debit source fee receive num den : ℕ) (metadata : Option (List ℕ)) → IsLegal history → IsNext history (record { at = t; act = acts.OutgoingDirect grant address incoming debit source fee receive num den metadata })
    → IsPrice (record { debit = debit; source = source; fee = fee; receive = receive; num = num; den = den })
direct_price_is history t grant address incoming debit source fee receive num den metadata legal next =
    let act = acts.OutgoingDirect grant address incoming debit source fee receive num den metadata in
    let name : Option AddressName = Some (name_of_address history address) in
    let receiver : Option RowName = Some (name_of_row history kinds.Incoming incoming) in
    let amount : Amount = amount_of (asset_of_address history address) debit in
    let verdict = grant_verdict history grant current_token in
    let request = requests.MakeOutgoing name (Direct receiver amount) metadata in
    let made : act_in (pay_directly history t fee name receiver amount metadata verdict) ≡ Some act = sym (outcome_act history t request verdict (act_for history t [] fee request verdict)) ∙ next.act in
    pays_directly RecordsPrice history t fee name receiver amount metadata verdict act
    (λ g n it price there named waits is.
    let from = direct_values history fee amount n it price (has_values history legal) is in
    record { values = price_values fee from.0 price from.1 from.2; gives = gives fee from.0 price from.2 })
    made

-- ---- terms

some_num : (a num den n : ℕ) → n ≡ floor_mul a num den → 0 < n → 1 ≤ num
some_num a zero den n is h = let none : a * 0 / den ≤ 0 = div-le_of_le-mul den (omega arith) in omega (arith, none, is, h)
some_num a (suc m) den n is h = omega arith

pub piece_some : (source pieces : ℕ) → 1 ≤ source → 1 ≤ pieces → 1 ≤ ceil_div source pieces
piece_some source pieces some many = le-div 1 (source + (pieces - 1)) pieces (omega (arith, many)) (omega (arith, some, many))

pub piece_within : (source pieces : ℕ) → 1 ≤ source → 1 ≤ pieces → ceil_div source pieces ≤ source
piece_within zero pieces some many = absurd (omega (arith, some))
piece_within source zero some many = absurd (omega (arith, many))
piece_within (suc s) (suc d) some many =
    let product : suc d * suc s ≡ suc s + d + d * s = grind arith in
    let more : suc s + (suc d - 1) ≤ suc d * suc s = omega (arith, product) in
    div-le_of_le-mul (suc d) more

terms_priced : (history : List Entry) (address incoming : ℕ) (price : Priced) → IsLegal history → AreGood history (terms_at history address incoming price) → IsPrice price → ArePriced (terms_at history address incoming price)
terms_priced history address incoming price legal good is =
    let pieces = has_pieces history (address_asset history address) legal in
    record {
      debit = good.debit;
      top = is.values.debit;
      some = good.some;
      receive = good.receive;
      receive_top = good.top;
      num = (some_num price.source price.num price.den price.receive good.receive is.gives, is.values.num);
      den = (good.den, is.values.den);
      piece = (piece_some price.source (asset_row history (address_asset history address)).pieces good.some pieces, piece_within price.source (asset_row history (address_asset history address)).pieces good.some pieces);
    }

addressed : (history : List Entry) → IsLegal history → AreAddressed history
addressed history legal i row h = each_at (λ (r : IncomingRow). IsAddress history r.address) _ i row (all_known history legal).incomings_are h

pub quote_terms : (history : List Entry) (t grant address incoming : ℕ) (mode : QuoteMode) (asked debit source fee receive num den : ℕ) → IsLegal history → IsNext history (record { at = t; act = acts.QuoteMade grant address incoming mode asked debit source fee receive num den })
    → ArePriced (terms_at history address incoming (record { debit = debit; source = source; fee = fee; receive = receive; num = num; den = den }))
quote_terms history t grant address incoming mode asked debit source fee receive num den legal next =
    terms_priced history address incoming (record { debit = debit; source = source; fee = fee; receive = receive; num = num; den = den }) legal
    (quote_acts history t grant address incoming mode asked debit source fee receive num den (addressed history legal) next)
    (quote_price history t grant address incoming mode asked debit source fee receive num den legal next)

pub direct_terms : (history : List Entry) (t grant address incoming debit source fee receive num den : ℕ) (metadata : Option (List ℕ)) → IsLegal history → IsNext history (record { at = t; act = acts.OutgoingDirect grant address incoming debit source fee receive num den metadata })
    → ArePriced (terms_at history address incoming (record { debit = debit; source = source; fee = fee; receive = receive; num = num; den = den }))
direct_terms history t grant address incoming debit source fee receive num den metadata legal next =
    terms_priced history address incoming (record { debit = debit; source = source; fee = fee; receive = receive; num = num; den = den }) legal
    (direct_acts history t grant address incoming debit source fee receive num den metadata (addressed history legal) next)
    (direct_price_is history t grant address incoming debit source fee receive num den metadata legal next)
