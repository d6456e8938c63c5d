-- Worked bodies of outgoing payments, by computation: each name that `bad_field` gives, in the order in which members are
-- read.
use Rattle.std.proofs.Common.{◌≡◌, refl, ℕ, List, codes, Some, None, Ok, Err}
use Rattle.hex.specs.Hex.{encode_with}
use Rattle.op_names.specs.Ids.{hex_of}
use Rattle.std.specs.Str.Lossy.{utf8_valid_len}
use Rattle.url.proofs.OnLiterals.{url_on_literals}
use Rattle.std.specs.declared.result.Result.{Result}
use Rattle.op_names.specs.declared.Kind.TheVariants as kinds
use Rattle.op_model.specs.Members.{make_outgoing_members}
use Rattle.op_model.specs.declared.reply.Refusal.{Refusal}
use Rattle.op_model.specs.declared.reply.Refusal.TheVariants.{BadField}
use Rattle.op_model.specs.declared.request.PaymentAsked.TheVariants.{Quoted, Direct}
use Rattle.op_model.specs.declared.request.Request.{Request}
use Rattle.op_model.specs.declared.request.Request.TheVariants.{MakeOutgoing}
use Rattle.op_model.proofs.WorkedPayments.{amount, named}
use Rattle.serde_json.specs.Data.{Data, Members, null, number, unsigned, string, object, member, no_members}

abbrev alice : Members → Data
alice more = object (member (codes "walletAddress") (string (codes "https://wallet.example/alice")) more)

abbrev quote_id : Data
quote_id = string (codes "https://wallet.example/quotes/00000002-0000-8000-8000-000000000001")

abbrev incoming_payment : Data
incoming_payment = string (codes "https://wallet.example/incoming-payments/00000001-0000-8000-8000-000000000002")

abbrev debit_amount : Data
debit_amount = object (
    member (codes "assetCode") (string (codes "USD")) (
    member (codes "assetScale") (number (unsigned 2)) (
    member (codes "value") (string (codes "505")) no_members)))

abbrev bad : List ℕ → Result Request Refusal
bad name = Err (BadField name)

no_address : make_outgoing_members (object (member (codes "quoteId") quote_id no_members)) ≡ bad (codes "walletAddress")
no_address = refl

neither : make_outgoing_members (alice (member (codes "debitAmount") debit_amount no_members)) ≡ bad (codes "quoteId")
neither = refl

neither_with_null : make_outgoing_members (alice (member (codes "quoteId") null (member (codes "incomingPayment") null no_members))) ≡ bad (codes "quoteId")
neither_with_null = refl

quote_is_no_text : make_outgoing_members (alice (member (codes "quoteId") (number (unsigned 1)) (member (codes "incomingPayment") incoming_payment no_members))) ≡ bad (codes "quoteId")
quote_is_no_text = refl

both : make_outgoing_members (alice (member (codes "quoteId") quote_id (member (codes "incomingPayment") incoming_payment (member (codes "debitAmount") debit_amount no_members)))) ≡ bad (codes "incomingPayment")
both = refl

incoming_is_no_text : make_outgoing_members (alice (member (codes "incomingPayment") debit_amount (member (codes "debitAmount") debit_amount no_members))) ≡ bad (codes "incomingPayment")
incoming_is_no_text = refl

no_debit : make_outgoing_members (alice (member (codes "incomingPayment") incoming_payment no_members)) ≡ bad (codes "debitAmount")
no_debit = refl

debit_is_null : make_outgoing_members (alice (member (codes "incomingPayment") incoming_payment (member (codes "debitAmount") null no_members))) ≡ bad (codes "debitAmount")
debit_is_null = refl

debit_beside_quote : make_outgoing_members (alice (member (codes "quoteId") quote_id (member (codes "debitAmount") debit_amount no_members))) ≡ bad (codes "debitAmount")
debit_beside_quote = refl

debit_is_no_amount : make_outgoing_members (alice (member (codes "incomingPayment") incoming_payment (member (codes "debitAmount") incoming_payment no_members))) ≡ bad (codes "debitAmount")
debit_is_no_amount = refl

metadata_is_no_object : make_outgoing_members (alice (member (codes "incomingPayment") incoming_payment (member (codes "debitAmount") debit_amount (member (codes "metadata") quote_id no_members)))) ≡ bad (codes "metadata")
metadata_is_no_object = refl

-- what is meant

without_quote : make_outgoing_members (alice (member (codes "incomingPayment") incoming_payment (member (codes "quoteId") null (member (codes "debitAmount") debit_amount no_members))))
    ≡ Ok (MakeOutgoing (named (codes "/alice")) (Direct (Some (record { origin = codes "https://wallet.example"; id = record { kind = kinds.Incoming; number = 2 } })) (amount 505)) None)
unfolding hex_of encode_with url_on_literals utf8_valid_len
without_quote = refl

with_quote : make_outgoing_members (alice (member (codes "quoteId") quote_id (member (codes "incomingPayment") null (member (codes "debitAmount") null no_members))))
    ≡ Ok (MakeOutgoing (named (codes "/alice")) (Quoted (Some (record { origin = codes "https://wallet.example"; id = record { kind = kinds.Quote; number = 1 } }))) None)
unfolding hex_of encode_with url_on_literals utf8_valid_len
with_quote = refl

-- the name of a quote is none of an incoming payment
another_kind : make_outgoing_members (alice (member (codes "incomingPayment") quote_id (member (codes "debitAmount") debit_amount no_members)))
    ≡ Ok (MakeOutgoing (named (codes "/alice")) (Direct None (amount 505)) None)
unfolding hex_of encode_with url_on_literals utf8_valid_len
another_kind = refl
