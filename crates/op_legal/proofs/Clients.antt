-- A client's requests with a token: the entry spells the request again, with the caller's verdict.
use Rattle.std.proofs.Common.{◌≡◌, ℕ, Bool, true, false, cond, ◌&&◌, List, refl, ◌∙◌, sym, ap, arith, Some, None}
use Rattle.std.specs.Prelude.{◌==◌, not, nat_le, IsTrue, Ok}
use Rattle.std.specs.Option.{option_map, option_map_or}
use Rattle.std.specs.Str.{bytes_eq}
use Rattle.std.specs.declared.option.Option.{Option}
use Rattle.std.proofs.lemmas.Bool.Decides.{nat_tests}
use Rattle.op_amount.specs.Asset.{is_same_asset}
use Rattle.op_amount.specs.declared.Amount.{Amount}
use Rattle.op_amount.specs.declared.Asset.{Asset}
use Rattle.op_names.specs.Ids.{kind_number}
use Rattle.op_names.specs.declared.Kind.{Kind}
use Rattle.op_names.specs.declared.Kind.TheVariants as kinds
use Rattle.op_names.specs.declared.AddressName.{AddressName}
use Rattle.op_names.specs.declared.RowName.{RowName}
use Rattle.op_time.specs.declared.TheConstants.{LAST}
use Rattle.op_model.specs.Answer.{act_for}
use Rattle.op_model.specs.Asking.{caller, access, address_named, row_named, Found, found}
use Rattle.op_model.specs.History.{origin_of, asset_of_address}
use Rattle.op_model.specs.Incoming.{is_open}
use Rattle.op_model.specs.PaymentAnswers.{make_incoming, complete_incoming, pay_quote, looks_at_address, looks_at_row, looks_at_quote, is_strange_amount, incoming_refusals, expiry_of, incoming_place, is_paid}
use Rattle.op_model.specs.Actions as actions
use Rattle.op_model.specs.Payments.{incoming_row, quote_row}
use Rattle.op_model.specs.Legal.{asked_by, keeps_forms, name_of_address, name_of_row, amount_of, word_of, fee_of, passes, is_amount}
use Rattle.op_model.specs.Metadata.{is_metadata}
use Rattle.op_model.specs.declared.act.Act.{Act}
use Rattle.op_model.specs.declared.act.Act.TheVariants as acts
use Rattle.op_model.specs.declared.act.Entry.{Entry}
use Rattle.op_model.specs.declared.reply.Refusal.TheVariants.{NotFound, ZeroAmount, AssetMismatch, AlreadyClosed, QuoteUsed, QuoteExpired}
use Rattle.op_model.specs.declared.request.PaymentAsked.TheVariants.{Quoted}
use Rattle.op_model.specs.declared.request.Request.TheVariants as requests
use Rattle.op_model.specs.declared.request.Task.TheVariants.{Ask}
use Rattle.op_model.specs.declared.request.Verdict.{Verdict}
use Rattle.op_model.specs.declared.row.IncomingRow.{IncomingRow}
use Rattle.op_model.specs.declared.row.QuoteRow.{QuoteRow}
use Rattle.op_legal.proofs.Chains.{act_in, outcome_act, none_is_not, some_is, past_refusal, past_want, past_step, within_refusal}
use Rattle.op_legal.proofs.Names.{both_left, both_right, not_false, bytes_are, asset_is, address_found}
use Rattle.op_legal.proofs.Callers.{caller_verdict}
use Rattle.op_legal.proofs.Tasks.{SpellsItself, spells}

-- ---- names

pub named_found : (history : List Entry) (name : Option AddressName) (n : ℕ) → address_named history name ≡ Some n → name ≡ Some (name_of_address history n)
named_found history None n h = none_is_not n h
named_found history (Some a) n h = ap (λ (x : AddressName). Some x) (sym (address_found history a n h))

kind_is : (a b : Kind) → (kind_number a == kind_number b) ≡ true → a ≡ b
kind_is kinds.Incoming kinds.Incoming h = refl
kind_is kinds.Incoming kinds.Quote h = absurd (let e : false ≡ true = h in cc)
kind_is kinds.Incoming kinds.Outgoing h = absurd (let e : false ≡ true = h in cc)
kind_is kinds.Incoming kinds.Grant h = absurd (let e : false ≡ true = h in cc)
kind_is kinds.Incoming kinds.Event h = absurd (let e : false ≡ true = h in cc)
kind_is kinds.Incoming kinds.Address h = absurd (let e : false ≡ true = h in cc)
kind_is kinds.Quote kinds.Incoming h = absurd (let e : false ≡ true = h in cc)
kind_is kinds.Quote kinds.Quote h = refl
kind_is kinds.Quote kinds.Outgoing h = absurd (let e : false ≡ true = h in cc)
kind_is kinds.Quote kinds.Grant h = absurd (let e : false ≡ true = h in cc)
kind_is kinds.Quote kinds.Event h = absurd (let e : false ≡ true = h in cc)
kind_is kinds.Quote kinds.Address h = absurd (let e : false ≡ true = h in cc)
kind_is kinds.Outgoing kinds.Incoming h = absurd (let e : false ≡ true = h in cc)
kind_is kinds.Outgoing kinds.Quote h = absurd (let e : false ≡ true = h in cc)
kind_is kinds.Outgoing kinds.Outgoing h = refl
kind_is kinds.Outgoing kinds.Grant h = absurd (let e : false ≡ true = h in cc)
kind_is kinds.Outgoing kinds.Event h = absurd (let e : false ≡ true = h in cc)
kind_is kinds.Outgoing kinds.Address h = absurd (let e : false ≡ true = h in cc)
kind_is kinds.Grant kinds.Incoming h = absurd (let e : false ≡ true = h in cc)
kind_is kinds.Grant kinds.Quote h = absurd (let e : false ≡ true = h in cc)
kind_is kinds.Grant kinds.Outgoing h = absurd (let e : false ≡ true = h in cc)
kind_is kinds.Grant kinds.Grant h = refl
kind_is kinds.Grant kinds.Event h = absurd (let e : false ≡ true = h in cc)
kind_is kinds.Grant kinds.Address h = absurd (let e : false ≡ true = h in cc)
kind_is kinds.Event kinds.Incoming h = absurd (let e : false ≡ true = h in cc)
kind_is kinds.Event kinds.Quote h = absurd (let e : false ≡ true = h in cc)
kind_is kinds.Event kinds.Outgoing h = absurd (let e : false ≡ true = h in cc)
kind_is kinds.Event kinds.Grant h = absurd (let e : false ≡ true = h in cc)
kind_is kinds.Event kinds.Event h = refl
kind_is kinds.Event kinds.Address h = absurd (let e : false ≡ true = h in cc)
kind_is kinds.Address kinds.Incoming h = absurd (let e : false ≡ true = h in cc)
kind_is kinds.Address kinds.Quote h = absurd (let e : false ≡ true = h in cc)
kind_is kinds.Address kinds.Outgoing h = absurd (let e : false ≡ true = h in cc)
kind_is kinds.Address kinds.Grant h = absurd (let e : false ≡ true = h in cc)
kind_is kinds.Address kinds.Event h = absurd (let e : false ≡ true = h in cc)
kind_is kinds.Address kinds.Address h = refl

row_where : (history : List Entry) (kind : Kind) (name : RowName) (n : ℕ) (b : Bool) → (bytes_eq name.origin (origin_of history) && (kind_number name.id.kind == kind_number kind)) ≡ b → cond b (Some name.id.number) None ≡ Some n → name ≡ name_of_row history kind n
row_where history kind name n true same h =
    let origin : name.origin ≡ origin_of history = bytes_are name.origin (origin_of history) (both_left (bytes_eq name.origin (origin_of history)) _ same) in
    let is : name.id.kind ≡ kind = kind_is name.id.kind kind (both_right (bytes_eq name.origin (origin_of history)) (kind_number name.id.kind == kind_number kind) same) in
    let number : name.id.number ≡ n = some_is name.id.number n h in
    ap (λ (o : List ℕ). let x : RowName = record { origin = o; id = name.id } in x) origin
    ∙ ap (λ (k : Kind). let x : RowName = record { origin = origin_of history; id = record { kind = k; number = name.id.number } } in x) is
    ∙ ap (λ (m : ℕ). let x : RowName = record { origin = origin_of history; id = record { kind = kind; number = m } } in x) number
row_where history kind name n false same h = none_is_not n h

pub row_found : (history : List Entry) (kind : Kind) (name : Option RowName) (n : ℕ) → row_named history kind name ≡ Some n → name ≡ Some (name_of_row history kind n)
row_found history kind None n h = none_is_not n h
row_found history kind (Some r) n h = ap (λ (x : RowName). Some x) (row_where history kind r n (bytes_eq r.origin (origin_of history) && (kind_number r.id.kind == kind_number kind)) refl h)

-- a row that was found, with its number
found_at : {X : Type 0} (rows : ℕ → Option X) (k : ℕ) (x : Option X) (it : Found X) → rows k ≡ x → option_map (λ (r : X). let f : Found X = record { number = k; row = r } in f) x ≡ Some it → (k ≡ it.number) × (rows it.number ≡ Some it.row)
found_at rows k None it is h = none_is_not it h
found_at rows k (Some r) it is h =
    let f : Found _ = record { number = k; row = r } in
    let same : f ≡ it = some_is f it h in
    let number : k ≡ it.number = ap (λ (x : Found _). x.number) same in
    (number, ap rows (sym number) ∙ is ∙ ap (λ (x : Found _). Some x.row) same)

pub found_there : {X : Type 0} (rows : ℕ → Option X) (n : Option ℕ) (it : Found X) → found rows n ≡ Some it → (n ≡ Some it.number) × (rows it.number ≡ Some it.row)
found_there rows None it h = none_is_not it h
found_there rows (Some k) it h = let at = found_at rows k (rows k) it refl h in (ap (λ (m : ℕ). Some m) at.0, at.1)

-- ---- incoming payments

ends_within : (t : ℕ) (expiry : Option ℕ) → passes (λ x. nat_le x LAST) expiry ≡ true → nat_le (expiry_of t expiry) LAST ≡ true
ends_within t None h = grind (arith, nat_tests)
ends_within t (Some x) h = h

both_parts : (a b c d : Bool) → (a && (b && c)) ≡ true → (b ≡ true → d ≡ true) → (a && (d && c)) ≡ true
both_parts a b c d h step = let e = step (both_left b c (both_right a (b && c) h)) in let f = both_left a (b && c) h in let g = both_right b c (both_right a (b && c) h) in rw (f, e, g) refl

forms_with : (t : ℕ) (amount : Option Amount) (expiry : Option ℕ) (metadata : Option (List ℕ)) → (passes is_amount amount && (passes (λ x. nat_le x LAST) expiry && passes is_metadata metadata)) ≡ true
    → (passes is_amount amount && (nat_le (expiry_of t expiry) LAST && passes is_metadata metadata)) ≡ true
forms_with t amount expiry metadata h = both_parts (passes is_amount amount) (passes (λ x. nat_le x LAST) expiry) (passes is_metadata metadata) (nat_le (expiry_of t expiry) LAST) h (ends_within t expiry)

amount_same : (asset : Asset) (amount : Option Amount) → option_map_or (λ a. not (is_same_asset a.asset asset)) amount false ≡ false → option_map (amount_of asset) (option_map (λ a. a.value) amount) ≡ amount
amount_same asset None h = refl
amount_same asset (Some a) h = ap (λ (x : Asset). Some (amount_of x a.value)) (sym (asset_is a.asset asset (not_false (is_same_asset a.asset asset) h)))

pub make_incoming_spells : (history : List Entry) (t : ℕ) (name : Option AddressName) (amount : Option Amount) (expiry : Option ℕ) (metadata : Option (List ℕ)) (verdict : Verdict) (act : Act) → IsTrue (keeps_forms (requests.MakeIncoming name amount expiry metadata))
    → act_in (make_incoming history t name amount expiry metadata verdict) ≡ Some act → SpellsItself history t act
make_incoming_spells history t name amount expiry metadata verdict act forms made =
    let who = past_step (caller history t verdict) _ act made in
    let address = address_named history name in
    let may = past_step (access history t verdict who.0 (looks_at_address actions.incoming_payment actions.create address)) _ act who.2 in
    let found = past_want address NotFound _ act may.2 in
    let n = found.0 in
    let known = past_refusal (option_map_or (is_strange_amount history) amount false) NotFound _ act found.2 in
    let asset = asset_of_address history n in
    let ends = expiry_of t expiry in
    let made_act : Act = acts.IncomingMade who.0.grant n (option_map (λ a. a.value) amount) ends metadata in
    let past = past_step (incoming_refusals t asset amount ends) (λ _. Ok (Some made_act)) act known.1 in
    let zero = within_refusal (option_map_or (λ a. a.value == 0) amount false) ZeroAmount _ past.0 past.1 in
    let mismatch = within_refusal (option_map_or (λ a. not (is_same_asset a.asset asset)) amount false) AssetMismatch _ past.0 zero.1 in
    let passing : access history t verdict who.0 (looks_at_address actions.incoming_payment actions.create address) ≡ Ok tt = may.1 in
    let same = caller_verdict history t verdict who.0 (looks_at_address actions.incoming_payment actions.create address) who.1 passing in
    let request = requests.MakeIncoming name amount (Some ends) metadata in
    let task : asked_by history act ≡ Ask request verdict =
    sym (ap (asked_by history) (some_is made_act act past.2))
    ∙ ap (λ (v : Verdict). Ask (requests.MakeIncoming (Some (name_of_address history n)) (option_map (amount_of asset) (option_map (λ a. a.value) amount)) (Some ends) metadata) v) same
    ∙ ap (λ (a : Option AddressName). Ask (requests.MakeIncoming a (option_map (amount_of asset) (option_map (λ a. a.value) amount)) (Some ends) metadata) verdict) (sym (named_found history name n found.1))
    ∙ ap (λ (a : Option Amount). Ask (requests.MakeIncoming name a (Some ends) metadata) verdict) (amount_same asset amount mismatch.0) in
    spells history t (Ask request verdict) act task (forms_with t amount expiry metadata forms) tt
    (outcome_act history t request verdict (act_for history t (word_of act) (fee_of act) request verdict) ∙ made)

pub complete_incoming_spells : (history : List Entry) (t : ℕ) (incoming : Option ℕ) (verdict : Verdict) (act : Act) → act_in (complete_incoming history t incoming verdict) ≡ Some act → SpellsItself history t act
complete_incoming_spells history t incoming verdict act made =
    let who = past_step (caller history t verdict) _ act made in
    let it = found (incoming_row history) incoming in
    let looked = looks_at_row history actions.incoming_payment actions.complete 0 (option_map (λ (x : Found IncomingRow). incoming_place x.row) it) in
    let may = past_step (access history t verdict who.0 looked) _ act who.2 in
    let there = past_want it NotFound _ act may.2 in
    let n = there.0.number in
    let past = past_refusal (not (is_open history n there.0.row t)) AlreadyClosed (λ _. Ok (Some (acts.IncomingCompleted who.0.grant n))) act there.2 in
    let same = caller_verdict history t verdict who.0 looked who.1 may.1 in
    let request = requests.CompleteIncoming incoming in
    let task : asked_by history act ≡ Ask request verdict =
    sym (ap (asked_by history) (some_is (acts.IncomingCompleted who.0.grant n) act past.1))
    ∙ ap (λ (v : Verdict). Ask (requests.CompleteIncoming (Some n)) v) same
    ∙ ap (λ (i : Option ℕ). Ask (requests.CompleteIncoming i) verdict) (sym (found_there (incoming_row history) incoming there.0 there.1).0) in
    spells history t (Ask request verdict) act task refl tt
    (outcome_act history t request verdict (act_for history t (word_of act) (fee_of act) request verdict) ∙ made)

-- ---- a payment from a quote

pub pay_quote_spells : (history : List Entry) (t : ℕ) (name : Option AddressName) (quote : Option RowName) (metadata : Option (List ℕ)) (verdict : Verdict) (act : Act) → IsTrue (keeps_forms (requests.MakeOutgoing name (Quoted quote) metadata))
    → act_in (pay_quote history t name quote metadata verdict) ≡ Some act → SpellsItself history t act
pay_quote_spells history t name quote metadata verdict act forms made =
    let who = past_step (caller history t verdict) _ act made in
    let address = address_named history name in
    let quoted = found (quote_row history) (row_named history kinds.Quote quote) in
    let looked = looks_at_quote history address quoted in
    let may = past_step (access history t verdict who.0 looked) _ act who.2 in
    let there = past_want address NotFound _ act may.2 in
    let n = there.0 in
    let row = past_want quoted NotFound _ act there.2 in
    let k = row.0.number in
    let payer = past_refusal (not (row.0.row.terms.payer == n)) NotFound _ act row.2 in
    let unpaid = past_refusal (is_paid history k) QuoteUsed _ act payer.1 in
    let past = past_refusal (nat_le row.0.row.expiry t) QuoteExpired (λ _. Ok (Some (acts.OutgoingMade who.0.grant k metadata))) act unpaid.1 in
    let same = caller_verdict history t verdict who.0 looked who.1 may.1 in
    let at = found_there (quote_row history) (row_named history kinds.Quote quote) row.0 row.1 in
    let is_payer : row.0.row.terms.payer ≡ n = let e = not_false (row.0.row.terms.payer == n) payer.0 in grind (arith, nat_tests) in
    let request = requests.MakeOutgoing name (Quoted quote) metadata in
    let named : option_map (λ (r : QuoteRow). name_of_address history r.terms.payer) (quote_row history k) ≡ name =
    ap (option_map (λ (r : QuoteRow). name_of_address history r.terms.payer)) at.1 ∙ ap (λ (m : ℕ). Some (name_of_address history m)) is_payer ∙ sym (named_found history name n there.1) in
    let task : asked_by history act ≡ Ask request verdict =
    sym (ap (asked_by history) (some_is (acts.OutgoingMade who.0.grant k metadata) act past.1))
    ∙ ap (λ (v : Verdict). Ask (requests.MakeOutgoing (option_map (λ (r : QuoteRow). name_of_address history r.terms.payer) (quote_row history k)) (Quoted (Some (name_of_row history kinds.Quote k))) metadata) v) same
    ∙ ap (λ (a : Option AddressName). Ask (requests.MakeOutgoing a (Quoted (Some (name_of_row history kinds.Quote k))) metadata) verdict) named
    ∙ ap (λ (r : Option RowName). Ask (requests.MakeOutgoing name (Quoted r) metadata) verdict) (sym (row_found history kinds.Quote quote k at.0)) in
    spells history t (Ask request verdict) act task forms tt
    (outcome_act history t request verdict (act_for history t (word_of act) (fee_of act) request verdict) ∙ made)
