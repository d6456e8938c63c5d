-- Grants that are asked for: the entry spells the items again, and the interaction as far as it counts.
use Rattle.std.proofs.Common.{◌≡◌, ℕ, Bool, true, false, cond, ◌&&◌, ◌||◌, List, [], ◌∷◌, refl, ◌∙◌, sym, ap, Some, None, map}
use Rattle.std.specs.Prelude.{not, IsTrue, Ok, is_some, is_none}
use Rattle.std.specs.List.{list_any}
use Rattle.std.specs.Option.{option_map, option_map_or, option_and_then}
use Rattle.std.specs.Str.{bytes_eq}
use Rattle.std.specs.declared.option.Option.{Option}
use Rattle.std.proofs.lemmas.Slice.Eq.{bytes_eq-Decides}
use Rattle.op_amount.specs.declared.Asset.{Asset}
use Rattle.op_names.specs.declared.Kind.TheVariants as kinds
use Rattle.op_names.specs.declared.AddressName.{AddressName}
use Rattle.op_names.specs.declared.RowName.{RowName}
use Rattle.op_model.specs.Access.{is_same_client}
use Rattle.op_model.specs.Answer.{act_for}
use Rattle.op_model.specs.Asking.{row_named, address_named}
use Rattle.op_model.specs.GrantAnswers.{ask_grant, items_asked, item_asked, limits_asked, cap_asked, address_asked, receiver_asked, receiver_there, is_strange, has_strange_limits, is_strange_item, is_redirect, finish_of, finish_kept, grant_act}
use Rattle.op_model.specs.Grants.{is_outgoing, is_immediate}
use Rattle.op_model.specs.History.{asset_number}
use Rattle.op_model.specs.Payments.{incoming_row}
use Rattle.op_model.specs.Legal.{asked_by, keeps_forms, are_items, is_interact, passes, client_verdict, name_of_address, name_of_row, amount_of, cap_spelled, limits_spelled, item_spelled, interact_spelled, word_of, fee_of}
use Rattle.op_names.specs.Forms.{is_client as is_client_text}
use Rattle.op_model.specs.declared.act.Act.{Act}
use Rattle.op_model.specs.declared.act.Act.TheVariants as acts
use Rattle.op_model.specs.declared.act.Entry.{Entry}
use Rattle.op_model.specs.declared.grant.Item.{Item}
use Rattle.op_model.specs.declared.grant.Cap.{Cap}
use Rattle.op_model.specs.declared.grant.Finish.{Finish}
use Rattle.op_model.specs.declared.grant.Interact.{Interact}
use Rattle.op_model.specs.declared.grant.Interact.TheVariants.{Missing, NoRedirect, Redirect}
use Rattle.op_model.specs.declared.reply.Refusal.TheVariants.{InvalidClient, InvalidInteraction, RequestDenied}
use Rattle.op_model.specs.declared.request.AskedItem.{AskedItem}
use Rattle.op_model.specs.declared.request.AskedLimits.{AskedLimits}
use Rattle.op_model.specs.declared.request.AskedCap.{AskedCap}
use Rattle.op_model.specs.declared.request.Request.TheVariants as requests
use Rattle.op_model.specs.declared.request.Task.TheVariants.{Ask}
use Rattle.op_model.specs.declared.request.Verdict.{Verdict}
use Rattle.op_legal.proofs.Chains.{act_in, outcome_act, some_is, past_refusal, past_want}
use Rattle.op_legal.proofs.Names.{both_left, both_right, asset_found}
use Rattle.op_legal.proofs.Clients.{named_found, row_found}
use Rattle.op_legal.proofs.Tasks.{SpellsItself, spells}

either_false : (a b : Bool) → (a || b) ≡ false → (a ≡ false) × (b ≡ false)
either_false true b h = absurd (let e : true ≡ false = h in cc)
either_false false b h = (refl, h)

-- ---- names in items

address_again : (history : List Entry) (name : Option AddressName) (found : Option ℕ) → address_named history name ≡ found → is_none found ≡ false → option_map (λ a. Some (name_of_address history a)) found ≡ Some name
address_again history name None is h = absurd (let e : true ≡ false = h in cc)
address_again history name (Some n) is h = ap (λ (x : Option AddressName). Some x) (sym (named_found history name n is))

identifier_again : (history : List Entry) (name : Option (Option AddressName)) → is_strange name (address_asked history name) ≡ false → option_map (λ a. Some (name_of_address history a)) (address_asked history name) ≡ name
identifier_again history None h = refl
identifier_again history (Some name) h = address_again history name (address_named history name) refl h

row_again : (history : List Entry) (name : Option RowName) (found : Option ℕ) → row_named history kinds.Incoming name ≡ found → is_none (option_and_then (λ i. option_map (λ row. i) (incoming_row history i)) found) ≡ false
    → option_map (λ i. Some (name_of_row history kinds.Incoming i)) found ≡ Some name
row_again history name None is h = absurd (let e : true ≡ false = h in cc)
row_again history name (Some n) is h = ap (λ (x : Option RowName). Some x) (sym (row_found history kinds.Incoming name n is))

receiver_again : (history : List Entry) (name : Option (Option RowName)) → is_strange name (receiver_there history name) ≡ false → option_map (λ i. Some (name_of_row history kinds.Incoming i)) (receiver_asked history name) ≡ name
receiver_again history None h = refl
receiver_again history (Some name) h = row_again history name (row_named history kinds.Incoming name) refl h

cap_where : (history : List Entry) (cap : AskedCap) (found : Option ℕ) → asset_number history cap.amount.asset ≡ found → is_none (option_map (λ n. let c : Cap = record { debit = cap.debit; sum = record { asset = n; value = cap.amount.value } } in c) found) ≡ false
    → option_map (cap_spelled history) (option_map (λ n. let c : Cap = record { debit = cap.debit; sum = record { asset = n; value = cap.amount.value } } in c) found) ≡ Some cap
cap_where history cap None is h = absurd (let e : true ≡ false = h in cc)
cap_where history cap (Some n) is h =
    ap (λ (a : Asset). let c : AskedCap = record { debit = cap.debit; amount = amount_of a cap.amount.value } in Some c) (asset_found history cap.amount.asset n is)

cap_again : (history : List Entry) (cap : Option AskedCap) → option_map_or (λ c. is_none (cap_asked history c)) cap false ≡ false → option_map (cap_spelled history) (option_and_then (cap_asked history) cap) ≡ cap
cap_again history None h = refl
cap_again history (Some cap) h = cap_where history cap (asset_number history cap.amount.asset) refl h

limits_again : (history : List Entry) (limits : Option AskedLimits) → option_map_or (has_strange_limits history) limits false ≡ false → option_map (limits_spelled history) (option_map (limits_asked history) limits) ≡ limits
limits_again history None h = refl
limits_again history (Some l) h =
    let parts = either_false (is_strange l.receiver (receiver_there history l.receiver)) (option_map_or (λ cap. is_none (cap_asked history cap)) l.cap false) h in
    ap (λ (r : Option (Option RowName)). let x : AskedLimits = record { receiver = r; cap = option_map (cap_spelled history) (option_and_then (cap_asked history) l.cap); interval = l.interval } in Some x) (receiver_again history l.receiver parts.0)
    ∙ ap (λ (c : Option AskedCap). let x : AskedLimits = record { receiver = l.receiver; cap = c; interval = l.interval } in Some x) (cap_again history l.cap parts.1)

item_again : (history : List Entry) (item : AskedItem) → is_strange_item history item ≡ false → item_spelled history (item_asked history item) ≡ item
item_again history item h =
    let parts = either_false (is_strange item.identifier (address_asked history item.identifier)) (option_map_or (has_strange_limits history) item.limits false) h in
    ap (λ (a : Option (Option AddressName)). let x : AskedItem = record { kind = item.kind; actions = item.actions; identifier = a; limits = option_map (limits_spelled history) (option_map (limits_asked history) item.limits) } in x) (identifier_again history item.identifier parts.0)
    ∙ ap (λ (l : Option AskedLimits). let x : AskedItem = record { kind = item.kind; actions = item.actions; identifier = item.identifier; limits = l } in x) (limits_again history item.limits parts.1)

items_again : (history : List Entry) (items : List AskedItem) → list_any (is_strange_item history) items ≡ false → map (item_spelled history) (items_asked history items) ≡ items
items_again history [] h = refl
items_again history (x ∷ xs) h =
    let parts = either_false (is_strange_item history x) (list_any (is_strange_item history) xs) h in
    ap (λ (y : AskedItem). y ∷ map (item_spelled history) (items_asked history xs)) (item_again history x parts.0)
    ∙ ap (λ (ys : List AskedItem). x ∷ ys) (items_again history xs parts.1)

-- ---- the interaction

-- what is spelled of it
told_interact : List Item → Interact → Interact
told_interact items interact = interact_spelled items (finish_kept items interact)

told_is : (items : List Item) (interact : Interact) → interact_spelled items (finish_kept items interact) ≡ told_interact items interact
unfolding told_interact
told_is items interact = refl

record IsToldInteract (items : List Item) (interact told : Interact) : Type 0 where
  passes_again : (list_any is_outgoing items && not (is_redirect told)) ≡ false
  finish_again : finish_kept items told ≡ finish_kept items interact
  forms : is_interact interact ≡ true → is_interact told ≡ true

interact_where : (outgoing : Bool) (items : List Item) (interact : Interact) → list_any is_outgoing items ≡ outgoing → (outgoing && not (is_redirect interact)) ≡ false → IsToldInteract items interact (told_interact items interact)
unfolding told_interact
interact_where false items interact is h =
    let immediate : is_immediate items ≡ true = ap not is in
    record {
      passes_again = ap (λ b. b && not (is_redirect (cond (is_immediate items) Missing (Redirect (finish_kept items interact))))) is;
      finish_again =
          ap (λ b. cond b None (finish_of (cond (is_immediate items) Missing (Redirect (finish_kept items interact))))) immediate
          ∙ sym (ap (λ b. cond b None (finish_of interact)) immediate);
      forms = λ forms. ap (λ b. is_interact (cond b Missing (Redirect (finish_kept items interact)))) immediate;
    }
interact_where true items (Redirect finish) is h =
    let waits : is_immediate items ≡ false = ap not is in
    let kept : finish_kept items (Redirect finish) ≡ finish = ap (λ b. cond b None finish) waits in
    let told : cond (is_immediate items) Missing (Redirect (finish_kept items (Redirect finish))) ≡ Redirect finish =
    ap (λ b. cond b Missing (Redirect (finish_kept items (Redirect finish)))) waits ∙ ap (λ (f : Option Finish). Redirect f) kept in
    record {
      passes_again = ap (λ (i : Interact). list_any is_outgoing items && not (is_redirect i)) told ∙ ap (λ b. b && false) is;
      finish_again = ap (finish_kept items) told;
      forms = λ forms. ap is_interact told ∙ forms;
    }
interact_where true items Missing is h = absurd (let e : true ≡ false = h in cc)
interact_where true items NoRedirect is h = absurd (let e : true ≡ false = h in cc)

-- ---- asking

client_same : (client : Option (List ℕ)) (name : List ℕ) → client ≡ Some name → passes is_client_text client ≡ true → passes is_client_text (Some name) ≡ true
client_same client name is h = ap (passes is_client_text) (sym is) ∙ h

forms_again : (a b c d e : Bool) → (a && (b && c)) ≡ true → (b ≡ true → d ≡ true) → (c ≡ true → e ≡ true) → (a && (d && e)) ≡ true
forms_again a b c d e h one two =
    let rest = both_right a (b && c) h in
    let x = both_left a (b && c) h in
    let y = one (both_left b c rest) in
    let z = two (both_right b c rest) in
    rw (x, y, z) refl

same_bytes : (name : List ℕ) → bytes_eq name name ≡ true
same_bytes name = (bytes_eq-Decides name name).1 refl

asked_again : (history : List Entry) (word : List ℕ) (asked : List AskedItem) (name : List ℕ) (told : Interact) → (list_any is_outgoing (items_asked history asked) && not (is_redirect told)) ≡ false → list_any (is_strange_item history) asked ≡ false
    → act_in (ask_grant history word asked (Some name) told (client_verdict name)) ≡ Some (grant_act (items_asked history asked) told word name)
asked_again history word asked name told passing known =
    let own = same_bytes name in rw (own, passing, known) refl

pub ask_grant_spells : (history : List Entry) (t : ℕ) (word : List ℕ) (asked : List AskedItem) (client : Option (List ℕ)) (interact : Interact) (verdict : Verdict) (act : Act) → IsTrue (keeps_forms (requests.AskGrant asked client interact))
    → act_in (ask_grant history word asked client interact verdict) ≡ Some act → SpellsItself history t act
ask_grant_spells history t word asked client interact verdict act forms made =
    let items = items_asked history asked in
    let proof = past_refusal (not (verdict.proved && is_some verdict.client)) InvalidClient _ act made in
    let name = past_want client InvalidClient _ act proof.1 in
    let own = past_refusal (not (is_same_client verdict.client name.0)) InvalidClient _ act name.2 in
    let passing = past_refusal (list_any is_outgoing items && not (is_redirect interact)) InvalidInteraction _ act own.1 in
    let known = past_refusal (list_any (is_strange_item history) asked) RequestDenied (λ _. Ok (Some (grant_act items interact word name.0))) act passing.1 in
    let told = told_interact items interact in
    let is = interact_where (list_any is_outgoing items) items interact refl passing.0 in
    let made_act : grant_act items interact word name.0 ≡ act = some_is (grant_act items interact word name.0) act known.1 in
    let drawn : word_of act ≡ word = sym (ap word_of made_act) in
    let request = requests.AskGrant asked (Some name.0) told in
    let task : asked_by history act ≡ Ask request (client_verdict name.0) =
    sym (ap (asked_by history) made_act)
    ∙ ap (λ (i : List AskedItem). Ask (requests.AskGrant i (Some name.0) (interact_spelled items (finish_kept items interact))) (client_verdict name.0)) (items_again history asked known.0)
    ∙ ap (λ (i : Interact). Ask (requests.AskGrant asked (Some name.0) i) (client_verdict name.0)) (told_is items interact) in
    spells history t (Ask request (client_verdict name.0)) act task
    (forms_again (are_items asked) (passes is_client_text client) (is_interact interact) (passes is_client_text (Some name.0)) (is_interact told) forms (client_same client name.0 name.1) is.forms) tt
    (outcome_act history t request (client_verdict name.0) (act_for history t (word_of act) (fee_of act) request (client_verdict name.0))
    ∙ asked_again history (word_of act) asked name.0 told is.passes_again known.0
    ∙ ap (λ (f : Option Finish). Some (acts.GrantAsked name.0 items f (word_of act))) is.finish_again
    ∙ ap (λ (w : List ℕ). Some (acts.GrantAsked name.0 items (finish_kept items interact) w)) drawn
    ∙ ap (λ (a : Act). Some a) made_act)
