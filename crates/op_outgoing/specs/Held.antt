-- What is held on payers, and the accounts that a payment needs.
use Rattle.std.specs.Prelude.{ℕ, ◌≡◌, ◌+◌, ◌≤◌, Bool, not, ◌&&◌, ◌||◌, ◌==◌, if◌then◌else◌, List, sum_by}
use Rattle.op_incoming.specs.Rows.{has_row}
use Rattle.op_incoming.specs.declared.incoming.Incoming.{Incoming}
use Rattle.op_ledger.specs.Balances.{LedgerValue, is_there, asset_in, held_in}
use Rattle.op_model.specs.Balances.{is_payer}
use Rattle.op_model.specs.Payments.{is_sending, left_to_post}
use Rattle.op_model.specs.declared.act.Account.{Account}
use Rattle.op_model.specs.declared.act.Account.TheVariants.{Outside, Pool, Fees, Wallet}
use Rattle.op_model.specs.declared.row.OutgoingRow.{OutgoingRow}
use Rattle.op_outgoing.specs.Answers.{is_within_one_asset}
use Rattle.op_outgoing.specs.Value.{OutgoingsValue}

-- what the payments from an account that send have left to post
abbrev pub left_by : Account → OutgoingRow → ℕ
left_by account row = if is_payer account row && is_sending row.state then left_to_post row else 0

abbrev pub left_of : List OutgoingRow → Account → ℕ
left_of rows account = sum_by (left_by account) rows

-- what is held on each payer covers that
abbrev pub IsCovered : OutgoingsValue → LedgerValue → Type 0
IsCovered value ledger = (address : ℕ) → left_of value.rows (Wallet address) ≤ held_in ledger (Wallet address)

-- What is held on each wallet has changed by what its payments that send have left to post. So where the two were
-- equal they are equal, and where the one covered the other it does.
abbrev pub ChangesAlike : OutgoingsValue → OutgoingsValue → LedgerValue → LedgerValue → Type 0
ChangesAlike old new ledger after =
    (address : ℕ) → held_in after (Wallet address) + left_of old.rows (Wallet address) ≡ held_in ledger (Wallet address) + left_of new.rows (Wallet address)

-- the same of one payment
abbrev pub HoldsAlike : OutgoingRow → OutgoingRow → LedgerValue → LedgerValue → Type 0
HoldsAlike old new ledger after =
    (address : ℕ) → held_in after (Wallet address) + left_by (Wallet address) old ≡ held_in ledger (Wallet address) + left_by (Wallet address) new

-- the wallets of payer and payee, and the accounts of their assets, are in the ledger
abbrev pub is_asset_there : LedgerValue → ℕ → Bool
is_asset_there ledger asset = is_there ledger (Outside asset) && (is_there ledger (Pool asset) && is_there ledger (Fees asset))

abbrev pub is_wallet_there : LedgerValue → ℕ → Bool
is_wallet_there ledger address = is_there ledger (Wallet address) && is_asset_there ledger (asset_in ledger (Wallet address))

abbrev pub are_accounts_there : LedgerValue → OutgoingRow → Bool
are_accounts_there ledger row = is_wallet_there ledger row.terms.payer && is_wallet_there ledger row.terms.payee

-- the incoming payment is there
abbrev pub is_incoming_there : List Incoming → OutgoingRow → Bool
is_incoming_there incomings row = has_row incomings row.terms.incoming

-- within one asset the rate is one
abbrev pub is_rate_plain : LedgerValue → OutgoingRow → Bool
is_rate_plain ledger row = not (is_within_one_asset ledger row) || ((row.terms.num == 1) && (row.terms.den == 1))
