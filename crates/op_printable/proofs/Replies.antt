-- The replies on a legal history have texts.
use Rattle.std.proofs.Common.{◌≡◌, ℕ, true, List, [], ◌∷◌, ◌++◌, map, subst, Some, None, Option}
use Rattle.std.specs.Prelude.{Ok, Err}
use Rattle.std.specs.Option.{option_map, option_to_list}
use Rattle.std.specs.declared.result.Result.{Result}
use Rattle.op_model.specs.Answer.{answer, act_for, ask_outcome}
use Rattle.op_model.specs.History.{with_act}
use Rattle.op_model.specs.Legal.{IsLegal, IsLegalFrom, IsNext, keeps_forms, no_verdict, asset_named, item_spelled, interact_spelled, client_verdict}
use Rattle.op_model.specs.declared.act.Act.{Act}
use Rattle.op_model.specs.declared.act.Act.TheVariants as acts
use Rattle.op_model.specs.declared.act.Entry.{Entry}
use Rattle.op_model.specs.declared.reply.Refusal.{Refusal}
use Rattle.op_model.specs.declared.request.Request.{Request}
use Rattle.op_model.specs.declared.request.Request.TheVariants as requests
use Rattle.op_model.specs.declared.request.Task.TheVariants.{Ask}
use Rattle.op_model.specs.declared.request.Verdict.{Verdict}
use Rattle.op_model.proofs.Numbered.{all-append}
use Rattle.op_reply.specs.Printable.{IsPrintable}
use Rattle.op_printable.specs.Printing.{RepliesArePrintable, RefusalsArePrintable}
use Rattle.op_printable.proofs.Acts.{HasActTexts, HasTexts}
use Rattle.op_printable.proofs.Bodies.{body_is_text}
use Rattle.op_printable.proofs.Histories.{origin_is_text}
use Rattle.op_printable.proofs.Refusals.{IsTextual, HasOwnTexts, request_is_textual}

-- ---- the acts of a legal history

act_of : (history : List Entry) (t : ℕ) (request : Request) (verdict : Verdict) (result : Result (Option Act) Refusal) (act : Act) → IsTextual HasOwnTexts result → (ask_outcome history t request verdict result).act ≡ Some act → HasActTexts act
act_of history t request verdict (Ok (Some made)) act told is = subst HasActTexts (let e : made ≡ act = cc in e) told.text
act_of history t request verdict (Ok None) act told is = absurd (let e : None ≡ Some act = is in cc)
act_of history t request verdict (Err refusal) act told is = absurd (let e : None ≡ Some act = is in cc)

asked_act : (history : List Entry) (t : ℕ) (word : List ℕ) (fee : ℕ) (request : Request) (verdict : Verdict) (act : Act) → keeps_forms request ≡ true → (answer history t word fee (Ask request verdict)).act ≡ Some act → HasActTexts act
asked_act history t word fee request verdict act forms is =
    act_of history t request verdict (act_for history t word fee request verdict) act (request_is_textual history t word fee request verdict forms) is

next_act : (history : List Entry) (t : ℕ) (act : Act) → IsNext history (record { at = t; act = act }) → HasActTexts act
next_act history t (acts.OriginSet origin) next = asked_act history t [] 0 (requests.SetOrigin origin) no_verdict (acts.OriginSet origin) next.proper next.act
next_act history t (acts.AddressAdded path asset name) next =
    asked_act history t [] 0 (requests.AddAddress path (asset_named history asset) name) no_verdict (acts.AddressAdded path asset name) next.proper next.act
next_act history t (acts.GrantAsked client items finish word) next =
    asked_act history t word 0 (requests.AskGrant (map (item_spelled history) items) (Some client) (interact_spelled items finish)) (client_verdict client) (acts.GrantAsked client items finish word) next.proper next.act
next_act history t _ next = tt

texts_from : (before history : List Entry) → IsLegalFrom before history → HasTexts history
texts_from before [] legal = tt
texts_from before (e ∷ es) legal = (next_act before e.at e.act legal.0, texts_from (before ++ e ∷ []) es legal.1)

legal_texts : (history : List Entry) → IsLegal history → HasTexts history
legal_texts history legal = texts_from [] history legal

-- ---- the reply

own_texts : (t : ℕ) (act : Option Act) → HasOwnTexts act → HasTexts (option_to_list (option_map (λ a. record { at = t; act = a }) act))
own_texts t None own = tt
own_texts t (Some act) own = (own, tt)

outcome_is_printable : (history : List Entry) (t : ℕ) (request : Request) (verdict : Verdict) (result : Result (Option Act) Refusal) → HasTexts history → keeps_forms request ≡ true → IsTextual HasOwnTexts result → IsPrintable (ask_outcome history t request verdict result).reply
outcome_is_printable history t request verdict (Ok act) texts forms told =
    let after = with_act history t act in
    let all = all-append (λ (e : Entry). HasActTexts e.act) history (option_to_list (option_map (λ a. record { at = t; act = a }) act)) texts (own_texts t act told.text) in
    record { origin = origin_is_text after all; body = body_is_text after all t request verdict forms }
outcome_is_printable history t request verdict (Err refusal) texts forms told = record { origin = origin_is_text history texts; body = told.text }

pub replies : RepliesArePrintable
replies history t word fee request verdict legal forms =
    outcome_is_printable history t request verdict (act_for history t word fee request verdict) (legal_texts history legal) forms
    (request_is_textual history t word fee request verdict forms)

pub refusals : RefusalsArePrintable
refusals history refusal legal told = record { origin = origin_is_text history (legal_texts history legal); body = told }
