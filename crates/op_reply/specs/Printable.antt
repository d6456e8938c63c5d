-- When a reply's body can be JSON: its texts are UTF-8 (RFC 8259, section 8.1).
use Rattle.std.specs.Prelude.{ℕ, List, ⊤, IfSome}
use Rattle.std.specs.List.{All}
use Rattle.std.specs.Str.{IsUtf8}
use Rattle.op_model.specs.declared.reply.Refusal.{Refusal}
use Rattle.op_model.specs.declared.reply.Refusal.TheVariants as refusals
use Rattle.op_model.specs.declared.reply.Reply.{Reply}
use Rattle.op_model.specs.declared.reply.ReplyBody.{ReplyBody}
use Rattle.op_model.specs.declared.reply.ReplyBody.TheVariants as replies
use Rattle.op_model.specs.declared.reply.AddressShown.{AddressShown}
use Rattle.op_model.specs.declared.reply.LimitsShown.{LimitsShown}
use Rattle.op_model.specs.declared.reply.ItemShown.{ItemShown}
use Rattle.op_model.specs.declared.reply.IncomingShown.{IncomingShown}
use Rattle.op_model.specs.declared.reply.OutgoingShown.{OutgoingShown}
use Rattle.op_model.specs.declared.reply.FeedEvent.{FeedEvent}
use Rattle.op_model.specs.declared.reply.Redirect.{Redirect}
use Rattle.op_reply.specs.Fields.{IsAccountText}

abbrev pub IsRefusalText : Refusal → Type 0
IsRefusalText (refusals.BadField name) = IsUtf8 name
IsRefusalText (refusals.InvalidRequest name) = IfSome name IsUtf8
IsRefusalText _ = ⊤

abbrev pub IsAddressText : AddressShown → Type 0
IsAddressText address = IsUtf8 address.path × IfSome address.name IsUtf8

abbrev pub IsLimitsText : LimitsShown → Type 0
IsLimitsText limits = IfSome limits.interval IsUtf8

abbrev pub IsItemText : ItemShown → Type 0
IsItemText item = IfSome item.identifier IsUtf8 × IfSome item.limits IsLimitsText

abbrev pub AreItemTexts : List ItemShown → Type 0
AreItemTexts items = All IsItemText items

abbrev pub IsIncomingText : IncomingShown → Type 0
IsIncomingText row = IsUtf8 row.path

abbrev pub AreIncomingTexts : List IncomingShown → Type 0
AreIncomingTexts rows = All IsIncomingText rows

abbrev pub IsOutgoingText : OutgoingShown → Type 0
IsOutgoingText row = IsUtf8 row.path

abbrev pub AreOutgoingTexts : List OutgoingShown → Type 0
AreOutgoingTexts rows = All IsOutgoingText rows

abbrev pub IsEventText : FeedEvent → Type 0
IsEventText event = IsUtf8 event.payee

abbrev pub AreEventTexts : List FeedEvent → Type 0
AreEventTexts events = All IsEventText events

-- the nonces are hashed, and not told
abbrev pub IsRedirectText : Redirect → Type 0
IsRedirectText redirect = IsUtf8 redirect.finish.uri × IsUtf8 redirect.reference

-- The texts of a body. What is not replied to anybody (a step, an expiry, an attempt) is not printed.
abbrev pub IsBodyText : (origin : List ℕ) → ReplyBody → Type 0
IsBodyText origin (replies.OriginSet set) = IsUtf8 set
IsBodyText origin (replies.AssetAdded asset pieces) = ⊤
IsBodyText origin (replies.AssetInspected asset pieces pool fees total) = ⊤
IsBodyText origin (replies.AddressAdded number address) = IsAddressText address
IsBodyText origin (replies.AddressInspected number path available posted) = IsUtf8 path
IsBodyText origin (replies.Transferred transfer account amount) = IsUtf8 transfer × IsAccountText origin account
IsBodyText origin (replies.RateSet source target rate) = ⊤
IsBodyText origin (replies.GrantDecided redirect) = IfSome redirect IsRedirectText
IsBodyText origin (replies.OutgoingInspected number payment) = ⊤
IsBodyText origin (replies.AddressRead address) = IsAddressText address
IsBodyText origin (replies.GrantIssued number items access continuation) = AreItemTexts items × IsUtf8 access × IsUtf8 continuation
IsBodyText origin (replies.GrantPending number nonce continuation) = IfSome nonce IsUtf8 × IsUtf8 continuation
IsBodyText origin (replies.GrantPolled number continuation) = IsUtf8 continuation
IsBodyText origin (replies.TokenRotated number items access) = AreItemTexts items × IsUtf8 access
IsBodyText origin replies.NoContent = ⊤
IsBodyText origin (replies.IncomingMade incoming) = IsUtf8 incoming.path
IsBodyText origin (replies.IncomingRead incoming) = IsUtf8 incoming.path
IsBodyText origin (replies.IncomingsListed rows has_previous has_next) = AreIncomingTexts rows
IsBodyText origin (replies.QuoteMade quote) = IsUtf8 quote.path
IsBodyText origin (replies.QuoteRead quote) = IsUtf8 quote.path
IsBodyText origin (replies.OutgoingMade outgoing spent) = IsUtf8 outgoing.path
IsBodyText origin (replies.OutgoingRead outgoing) = IsUtf8 outgoing.path
IsBodyText origin (replies.OutgoingsListed rows has_previous has_next) = AreOutgoingTexts rows
IsBodyText origin (replies.FeedRead events) = AreEventTexts events
IsBodyText origin (replies.Refused refusal) = IsRefusalText refusal
IsBodyText origin (replies.Stepped answer) = ⊥
IsBodyText origin replies.Noted = ⊥
IsBodyText origin replies.NotDue = ⊥

pub record IsPrintable (reply : Reply) : Type 0 where
  pub origin : IsUtf8 reply.origin
  pub body : IsBodyText reply.origin reply.body
