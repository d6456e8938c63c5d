-- Replies of a built form on a legal history have a printed form.
use Rattle.std.proofs.Common.{◌≡◌, ◌++◌, ℕ, true, List, [], ◌∷◌, IsTrue, IfSome, Some, None, codes, unwrap_or, IsUtf8, refl}
use Rattle.std.specs.declared.option.Option.{Option}
use Rattle.std.specs.List.{last_or, cons_option}
use Rattle.std.proofs.lemmas.Bool.{and_parts}
use Rattle.std.proofs.lemmas.Str.{IsUtf8-from_is_utf8}
use Rattle.op_names.specs.Forms.{is_web, is_origin}
use Rattle.op_api.proofs.Clients.{IsUtf8-from_visible}
use Rattle.op_model.specs.History.{origin_of, origin_set, origins}
use Rattle.op_model.specs.Legal.{IsLegal, IsLegalFrom, asked_by, is_proper}
use Rattle.op_desk.specs.Built.{is_built_refusal, is_built_reply}
use Rattle.op_model.specs.declared.act.Act.{Act}
use Rattle.op_model.specs.declared.act.Act.TheVariants.{OriginSet}
use Rattle.op_model.specs.declared.act.Entry.{Entry}
use Rattle.op_model.specs.declared.reply.Refusal.{Refusal}
use Rattle.op_model.specs.declared.reply.Refusal.TheVariants as refusals
use Rattle.op_model.specs.declared.reply.Reply.{Reply}
use Rattle.op_model.specs.declared.reply.ReplyBody.{ReplyBody}
use Rattle.op_model.specs.declared.reply.ReplyBody.TheVariants as replies
use Rattle.op_reply.specs.Printable.{IsRefusalText, IsBodyText, IsPrintable}

-- ---- origins are visible ASCII

origin_text : (origin : List ℕ) → is_origin origin ≡ true → IsUtf8 origin
origin_text origin e = IsUtf8-from_visible origin (and_parts _ _ (and_parts _ (is_web origin) (and_parts _ _ e).0).0).1

-- ---- the origin of a legal history is one, or the first

abbrev IsOrigin : List ℕ → Type 0
IsOrigin origin = is_origin origin ≡ true

set_proper : (before : List Entry) (act : Act) → is_proper before (asked_by before act) ≡ true → IfSome (origin_set act) IsOrigin
set_proper before (OriginSet origin) e = e
set_proper before _ e = tt

last_set : (o set : Option (List ℕ)) (rest : List (List ℕ)) → IfSome o IsOrigin → IfSome set IsOrigin → ((p : Option (List ℕ)) → IfSome p IsOrigin → IfSome (last_or p rest) IsOrigin) → IfSome (last_or o (cons_option set rest)) IsOrigin
last_set o None rest was is more = more o was
last_set o (Some origin) rest was is more = more (Some origin) is

origin_from : (o : Option (List ℕ)) (before es : List Entry) → IfSome o IsOrigin → IsLegalFrom before es → IfSome (last_or o (origins es)) IsOrigin
origin_from o before [] was legal = was
origin_from o before (e ∷ es) was (next, legal) =
    last_set o (origin_set e.act) (origins es) was (set_proper before e.act next.proper) (λ p is. origin_from p (before ++ e ∷ []) es is legal)

set_text : (o : Option (List ℕ)) → IfSome o IsOrigin → IsUtf8 (unwrap_or o (codes "https://wallet.example"))
set_text None is = IsUtf8-from_visible (codes "https://wallet.example") refl
set_text (Some origin) is = origin_text origin is

pub legal_origin : (history : List Entry) → IsLegal history → IsUtf8 (origin_of history)
legal_origin history legal = set_text (last_or None (origins history)) (origin_from None [] history tt legal)

-- ---- bodies of a built form

refusal_text : (refusal : Refusal) → is_built_refusal refusal ≡ true → IsRefusalText refusal
refusal_text (refusals.BadField name) e = IsUtf8-from_is_utf8 name e
refusal_text (refusals.InvalidRequest None) e = tt
refusal_text (refusals.InvalidRequest (Some name)) e = IsUtf8-from_is_utf8 name e
refusal_text _ e = tt

body_text : (origin : List ℕ) (body : ReplyBody) → is_built_reply body ≡ true → IsBodyText origin body
body_text origin (replies.AssetAdded asset pieces) e = tt
body_text origin (replies.Refused refusal) e = refusal_text refusal e
body_text origin _ e = absurd cc

pub built_is_printable : (reply : Reply) → IsUtf8 reply.origin → IsTrue (is_built_reply reply.body) → IsPrintable reply
built_is_printable reply origin built = record { origin = origin; body = body_text reply.origin reply.body built }
