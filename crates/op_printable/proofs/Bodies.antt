-- The body of each reply has texts, where the history has them and the request keeps its forms.
use Rattle.std.proofs.Common.{◌≡◌, ℕ, Bool, true, false, cond, List, [], ◌∷◌, map, length, All, Some, None, Option, IfSome, IsUtf8}
use Rattle.std.specs.Prelude.{unwrap_or}
use Rattle.std.specs.List.{AllByRecursion}
use Rattle.std.specs.Option.{option_map, option_and_then}
use Rattle.std.proofs.lemmas.Bool.{and_parts}
use Rattle.std.proofs.lemmas.List.Elements.{All-nil, All-cons}
use Rattle.std.proofs.lemmas.Str.{IsUtf8-nil}
use Rattle.op_amount.specs.declared.Amount.{Amount}
use Rattle.op_names.specs.Forms.{is_word}
use Rattle.op_names.proofs.AsciiTexts.{IsUtf8-from_word}
use Rattle.op_model.specs.AdminAnswers.{account_meant}
use Rattle.op_model.specs.Answer.{told, told_of, body_for, transferred_body, issued_body, waiting_body, asked_body, continued_body, rotated_body, grant_decided_body, incoming_list, outgoing_list, asking_grant, asset_body, address_body}
use Rattle.op_model.specs.Asking.{address_named}
use Rattle.op_model.specs.Events.{feed}
use Rattle.op_model.specs.GrantAnswers.{is_issued}
use Rattle.op_model.specs.Grants.{grant_row, grants_made}
use Rattle.op_model.specs.History.{origin_of, asset_number, path_number}
use Rattle.op_model.specs.Legal.{keeps_forms, transfer_limit}
use Rattle.op_model.specs.Payments.{incomings, incoming_row, quotes, quote_row, outgoing_row, payments_made}
use Rattle.op_model.specs.Shown.{path_of_address, account_shown, incoming_shown, outgoing_shown, limits_shown, item_shown, items_shown, listed, incomings_reached, outgoings_reached, event_shown}
use Rattle.op_model.specs.declared.act.Account.{Account}
use Rattle.op_model.specs.declared.act.Account.TheVariants.{Outside, Pool, Fees, Wallet}
use Rattle.op_model.specs.declared.act.Entry.{Entry}
use Rattle.op_model.specs.declared.grant.Finish.{Finish}
use Rattle.op_model.specs.declared.grant.Item.{Item}
use Rattle.op_model.specs.declared.grant.Limits.{Limits}
use Rattle.op_model.specs.declared.reply.ReplyBody.{ReplyBody}
use Rattle.op_model.specs.declared.reply.ReplyBody.TheVariants as bodies
use Rattle.op_model.specs.declared.request.AccountName.{AccountName}
use Rattle.op_model.specs.declared.request.Request.{Request}
use Rattle.op_model.specs.declared.request.Request.TheVariants as requests
use Rattle.op_model.specs.declared.request.Verdict.{Verdict}
use Rattle.op_model.specs.declared.row.GrantRow.{GrantRow}
use Rattle.op_reply.specs.Fields.{IsAccountText}
use Rattle.op_reply.specs.Printable.{IsBodyText, IsLimitsText, IsItemText, AreItemTexts, IsRedirectText, IsIncomingText, IsOutgoingText, IsEventText}
use Rattle.op_printable.proofs.Acts.{HasLimitsText, HasItemText, HasFinishText, HasTexts}
use Rattle.op_printable.proofs.Histories.{HasGrantTexts, origin_is_text, address_is_text, path_is_text, grant_is_text}
use Rattle.op_printable.proofs.Paths.{origin_text}

-- ---- options and lists

each_some : {X : Type 0} (P : X → Type 0) (o : Option X) → ((x : X) → P x) → IfSome o P
each_some P None each = tt
each_some P (Some x) each = each x

weaker : {X : Type 0} (P Q : X → Type 0) (o : Option X) → ((x : X) → P x → Q x) → IfSome o P → IfSome o Q
weaker P Q None each h = tt
weaker P Q (Some x) each h = each x h

mapped : {X Y : Type 0} (P : X → Type 0) (Q : Y → Type 0) (f : X → Y) (o : Option X) → ((x : X) → P x → Q (f x)) → IfSome o P → IfSome (option_map f o) Q
mapped P Q f None each h = tt
mapped P Q f (Some x) each h = each x h

all_mapped : {X Y : Type 0} (P : Y → Type 0) (f : X → Y) (xs : List X) → ((x : X) → P (f x)) → All P (map f xs)
all_mapped P f [] each = All-nil P
all_mapped P f (x ∷ xs) each = All-cons P (f x) (map f xs) (each x) (all_mapped P f xs each)

-- ---- rows that are told

told_text : {X : Type 0} (origin : List ℕ) (body : X → ReplyBody) (row : Option X) → IfSome row (λ x. IsBodyText origin (body x)) → IsBodyText origin (told body row)
told_text origin body None each = tt
told_text origin body (Some x) each = each

told_at : {X : Type 0} (origin : List ℕ) (body : ℕ × X → ReplyBody) (k : ℕ) (row : Option X) → IfSome row (λ x. IsBodyText origin (body (k, x))) → IsBodyText origin (told body (option_map (λ x. (k, x)) row))
told_at origin body k None each = tt
told_at origin body k (Some x) each = each

told_of_text : {X : Type 0} (origin : List ℕ) (rows : ℕ → Option X) (body : ℕ × X → ReplyBody) (n : Option ℕ) → ((k : ℕ) → IfSome (rows k) (λ x. IsBodyText origin (body (k, x)))) → IsBodyText origin (told_of rows body n)
told_of_text origin rows body None each = tt
told_of_text origin rows body (Some k) each = told_at origin body k (rows k) (each k)

-- where every row is told by texts
any_text : {X : Type 0} (origin : List ℕ) (rows : ℕ → Option X) (body : ℕ × X → ReplyBody) (n : Option ℕ) → ((k : ℕ) (x : X) → IsBodyText origin (body (k, x))) → IsBodyText origin (told_of rows body n)
any_text origin rows body n each = told_of_text origin rows body n (λ k. each_some (λ x. IsBodyText origin (body (k, x))) (rows k) (each k))

either_text : (origin : List ℕ) (b : Bool) (x y : ReplyBody) → IsBodyText origin x → IsBodyText origin y → IsBodyText origin (cond b x y)
either_text origin true x y p q = p
either_text origin false x y p q = q

-- ---- items, and what waits for the provider

limits_told : (after : List Entry) (limits : Limits) → HasLimitsText limits → IsLimitsText (limits_shown after limits)
limits_told after limits h = h

item_told : (after : List Entry) (item : Item) → HasTexts after → HasItemText item → IsItemText (item_shown after item)
item_told after item texts h =
    (each_path item.identifier, mapped HasLimitsText IsLimitsText (limits_shown after) item.limits (limits_told after) h)
  where
    each_path : (identifier : Option ℕ) → IfSome (option_map (path_of_address after) identifier) IsUtf8
    each_path None = tt
    each_path (Some n) = path_is_text after n texts

items_told : (after : List Entry) (items : List Item) → HasTexts after → AllByRecursion HasItemText items → AreItemTexts (items_shown after items)
items_told after [] texts h = All-nil IsItemText
items_told after (x ∷ xs) texts h = All-cons IsItemText (item_shown after x) (items_shown after xs) (item_told after x texts h.0) (items_told after xs texts h.1)

or_nothing : (access : Option (List ℕ)) → IfSome access IsUtf8 → IsUtf8 (unwrap_or access [])
or_nothing None h = IsUtf8-nil
or_nothing (Some text) h = h

nonce_told : (nonce : List ℕ) (finish : Option Finish) → IsUtf8 nonce → IfSome (option_map (λ (f : Finish). nonce) finish) IsUtf8
nonce_told nonce None h = tt
nonce_told nonce (Some f) h = h

reference_told : (row : GrantRow) (finish : Finish) (reference : Option (List ℕ)) → IsUtf8 finish.uri → IfSome reference IsUtf8
    → IfSome (option_map (λ r. record { finish = finish; nonce = row.nonce; reference = r }) reference) IsRedirectText
reference_told row finish None uri h = tt
reference_told row finish (Some r) uri h = (uri, h)

redirect_where : (row : GrantRow) (finish : Option Finish) → IfSome finish HasFinishText → IfSome row.reference IsUtf8
    → IfSome (option_and_then (λ finish. option_map (λ r. record { finish = finish; nonce = row.nonce; reference = r }) row.reference) finish) IsRedirectText
redirect_where row None uri h = tt
redirect_where row (Some finish) uri h = reference_told row finish row.reference uri h

-- ---- grants

module _ (after : List Entry) (texts : HasTexts after) where
  issued_text : (g : ℕ) (row : GrantRow) → HasGrantTexts row → IsBodyText (origin_of after) (issued_body after g row)
  issued_text g row own = (items_told after row.items texts own.items, or_nothing row.access own.access, own.continuation)

  waiting_text : (g : ℕ) (row : GrantRow) → HasGrantTexts row → IsBodyText (origin_of after) (waiting_body g row)
  waiting_text g row own = (nonce_told row.nonce row.finish own.nonce, own.continuation)

  asked_text : (g : ℕ) (row : GrantRow) → HasGrantTexts row → IsBodyText (origin_of after) (asked_body after (g, row))
  asked_text g row own = either_text (origin_of after) (is_issued row.state) (issued_body after g row) (waiting_body g row) (issued_text g row own) (waiting_text g row own)

  continued_text : (g : ℕ) (row : GrantRow) → HasGrantTexts row → IsBodyText (origin_of after) (continued_body after (g, row))
  continued_text g row own =
      either_text (origin_of after) (is_issued row.state) (issued_body after g row) (bodies.GrantPolled g row.continuation) (issued_text g row own) own.continuation

  rotated_text : (g : ℕ) (row : GrantRow) → HasGrantTexts row → IsBodyText (origin_of after) (rotated_body after (g, row))
  rotated_text g row own = (items_told after row.items texts own.items, or_nothing row.access own.access)

  decided_text : (g : ℕ) (row : GrantRow) → HasGrantTexts row → IsBodyText (origin_of after) (grant_decided_body (g, row))
  decided_text g row own = redirect_where row row.finish own.finish own.reference

  -- a grant that is told
  grant_told : (body : ℕ × GrantRow → ReplyBody) (n : Option ℕ) → ((g : ℕ) (row : GrantRow) → HasGrantTexts row → IsBodyText (origin_of after) (body (g, row))) → IsBodyText (origin_of after) (told_of (grant_row after) body n)
  grant_told body n each =
      told_of_text (origin_of after) (grant_row after) body n
      (λ g. weaker HasGrantTexts (λ row. IsBodyText (origin_of after) (body (g, row))) (grant_row after g) (each g) (grant_is_text after g texts))

  -- ---- addresses and transfers

  account_told : (account : Account) → IsAccountText (origin_of after) (account_shown after account)
  account_told (Wallet address) = (origin_is_text after texts, path_is_text after address texts)
  account_told (Fees asset) = tt
  account_told (Pool asset) = tt
  account_told (Outside asset) = tt

  transferred_text : (deposit : Bool) (transfer : List ℕ) (account : AccountName) (amount : Amount) → is_word transfer_limit transfer ≡ true → IsBodyText (origin_of after) (transferred_body after deposit transfer account amount)
  transferred_text deposit transfer account amount h =
      told_text (origin_of after) _ (account_meant after deposit account amount.asset)
      (each_some (λ a. IsBodyText (origin_of after) (bodies.Transferred transfer (account_shown after a) amount)) (account_meant after deposit account amount.asset)
      (λ a. (IsUtf8-from_word transfer_limit transfer h, account_told a)))

  -- ---- lists

  incoming_list_text : (address first cursor : ℕ) (row : GrantRow) → IsBodyText (origin_of after) (incoming_list after address first cursor row)
  incoming_list_text address first cursor row =
      all_mapped IsIncomingText (incoming_shown after) (listed first cursor (incomings_reached after row address)).rows (λ (i, made). path_is_text after made.address texts)

  outgoing_list_text : (address first cursor : ℕ) (row : GrantRow) → IsBodyText (origin_of after) (outgoing_list after address first cursor row)
  outgoing_list_text address first cursor row =
      all_mapped IsOutgoingText (outgoing_shown after) (listed first cursor (outgoings_reached after row address)).rows (λ (p, made). path_is_text after made.terms.payer texts)

  -- ---- each request

  pub body_is_text : (t : ℕ) (request : Request) (verdict : Verdict) → keeps_forms request ≡ true → IsBodyText (origin_of after) (body_for after t request verdict)
  body_is_text t (requests.SetOrigin origin) verdict forms = origin_text origin forms
  body_is_text t (requests.AddAsset asset pieces) verdict forms = tt
  body_is_text t (requests.InspectAsset asset) verdict forms =
      told_text (origin_of after) _ asset (each_some _ asset (λ a. told_text (origin_of after) (asset_body after a) (asset_number after a) (each_some _ (asset_number after a) (λ n. tt))))
  body_is_text t (requests.AddAddress path asset name) verdict forms =
      told_text (origin_of after) _ (path_number after path) (each_some _ (path_number after path) (λ n. address_is_text after n texts))
  body_is_text t (requests.InspectAddress address) verdict forms =
      told_text (origin_of after) (address_body after) address (each_some _ address (λ n. path_is_text after n texts))
  body_is_text t (requests.Deposit transfer account amount) verdict forms = transferred_text true transfer account amount (and_parts (is_word transfer_limit transfer) _ forms).0
  body_is_text t (requests.Withdraw transfer account amount) verdict forms = transferred_text false transfer account amount (and_parts (is_word transfer_limit transfer) _ forms).0
  body_is_text t (requests.SetRate source target rate) verdict forms = tt
  body_is_text t (requests.AcceptGrant grant) verdict forms = grant_told grant_decided_body grant decided_text
  body_is_text t (requests.RejectGrant grant) verdict forms = grant_told grant_decided_body grant decided_text
  body_is_text t (requests.InspectOutgoing payment) verdict forms = any_text (origin_of after) (outgoing_row after) _ payment (λ p row. tt)
  body_is_text t (requests.CancelOutgoing payment) verdict forms = any_text (origin_of after) (outgoing_row after) _ payment (λ p row. tt)
  body_is_text t (requests.ReadAddress path) verdict forms =
      told_text (origin_of after) _ (path_number after path) (each_some _ (path_number after path) (λ n. address_is_text after n texts))
  body_is_text t (requests.AskGrant items client interact) verdict forms = grant_told (asked_body after) (Some (length (grants_made after))) asked_text
  body_is_text t (requests.ContinueGrant grant reference) verdict forms = grant_told (continued_body after) grant continued_text
  body_is_text t (requests.CancelGrant grant) verdict forms = tt
  body_is_text t (requests.RotateToken grant) verdict forms = grant_told (rotated_body after) grant rotated_text
  body_is_text t (requests.RevokeToken grant) verdict forms = tt
  body_is_text t (requests.MakeIncoming address amount expiry metadata) verdict forms =
      any_text (origin_of after) (incoming_row after) _ (Some (length (incomings after))) (λ i row. path_is_text after row.address texts)
  body_is_text t (requests.ListIncomings address first cursor) verdict forms =
      told_text (origin_of after) _ (address_named after address) (each_some _ (address_named after address)
      (λ n. told_text (origin_of after) _ (asking_grant after t verdict) (each_some _ (asking_grant after t verdict) (λ row. incoming_list_text n first (unwrap_or cursor 0) row))))
  body_is_text t (requests.ReadIncoming incoming) verdict forms = any_text (origin_of after) (incoming_row after) _ incoming (λ i row. path_is_text after row.address texts)
  body_is_text t (requests.CompleteIncoming incoming) verdict forms = any_text (origin_of after) (incoming_row after) _ incoming (λ i row. path_is_text after row.address texts)
  body_is_text t (requests.MakeQuote address receiver asked) verdict forms =
      any_text (origin_of after) (quote_row after) _ (Some (length (quotes after))) (λ q row. path_is_text after row.terms.payer texts)
  body_is_text t (requests.ReadQuote quote) verdict forms = any_text (origin_of after) (quote_row after) _ quote (λ q row. path_is_text after row.terms.payer texts)
  body_is_text t (requests.MakeOutgoing address asked metadata) verdict forms =
      any_text (origin_of after) (outgoing_row after) _ (Some (length (payments_made after))) (λ p row. path_is_text after row.terms.payer texts)
  body_is_text t (requests.ListOutgoings address first cursor) verdict forms =
      told_text (origin_of after) _ (address_named after address) (each_some _ (address_named after address)
      (λ n. told_text (origin_of after) _ (asking_grant after t verdict) (each_some _ (asking_grant after t verdict) (λ row. outgoing_list_text n first (unwrap_or cursor 0) row))))
  body_is_text t (requests.ReadOutgoing outgoing) verdict forms = any_text (origin_of after) (outgoing_row after) _ outgoing (λ p row. path_is_text after row.terms.payer texts)
  body_is_text t (requests.ReadFeed address page) verdict forms =
      told_text (origin_of after) _ (address_named after address) (each_some _ (address_named after address)
      (λ n. all_mapped IsEventText (event_shown after) (feed after verdict.client n page) (λ row. path_is_text after row.payee texts)))
