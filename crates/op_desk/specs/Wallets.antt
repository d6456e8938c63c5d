-- What is seen of a wallet: its history, the round that is open, and the room that it has for more.
use Rattle.std.specs.Prelude.{◌≡◌, ◌⊎◌, ◌≤◌, ℕ, Bool, List, [], ◌++◌, length, IsTrue, Some}
use Rattle.std.specs.Option.{option_to_list, unwrap_or}
use Rattle.std.specs.declared.option.Option.{Option}
use Rattle.op_model.specs.Legal.{IsNext, IsLegal}
use Rattle.op_model.specs.Round.{FeesAllowed, Handled, IsHandledNext}
use Rattle.op_model.specs.declared.act.Entry.{Entry}
use Rattle.op_model.specs.declared.reply.Reply.{Reply}
use Rattle.op_model.specs.declared.request.Task.{Task}
use Rattle.op_model.specs.History.{last_moment}
use Rattle.op_record.specs.Rounds.{IsInRound, act_in, round_of}
use Rattle.op_record.specs.declared.TheConstants.{ACT_LIMIT}
use Rattle.op_desk.specs.Built.{is_built, AreBuilt}

-- a desk shows the history of its wallet
pub record WalletValue : Type 0 where
  pub history : List Entry

pub record WalletState : Type 0 where
  pub history : List Entry
  -- the moment of the open round, if one is open, and its entries, which are the last of the history
  pub moment : Option ℕ
  pub round : List Entry
  -- so many steps, expiries and attempts more take no memory
  pub spare : ℕ

abbrev pub shown : WalletState → WalletValue
shown wallet = record { history = wallet.history }

-- the payload of the open round, in version 2
abbrev pub round_payload : WalletState → List ℕ
round_payload wallet = round_of (unwrap_or wallet.moment 0) wallet.round

-- a round at this moment takes the entry, which has at most so many bytes there
pub record FitsRound (at : ℕ) (entry : Entry) : Type 0 where
  pub takes : IsInRound at entry
  pub short : length (act_in entry) ≤ ACT_LIMIT

-- an open round is that of the last entry
abbrev pub IsAtLast : WalletState → Type 0
IsAtLast wallet = (wallet.history ≡ []) ⊎ (wallet.moment ≡ Some (last_moment wallet.history))

-- what is true of every wallet: its history is legal, and made of acts that are built
pub record IsSound (history : List Entry) : Type 0 where
  pub legal : IsLegal history
  pub built : AreBuilt history

-- a wallet takes this entry: it may follow the history, and its act is built
pub record IsTaken (history : List Entry) (entry : Entry) : Type 0 where
  pub next : IsNext history entry
  pub built : IsTrue (is_built entry.act)

-- a task as it was handled, at this place of its round
abbrev pub handled_at : (place : ℕ) → Task → (word : List ℕ) → (fee : ℕ) → (wanted : Bool) → Reply → Handled
handled_at place task word fee wanted reply =
    record { task = task; word = word; fee = fee; place = place; wanted_memory = wanted; reply = reply }

-- the plain wallet's answer to a task at a moment, at this place of its round and with a fee that the terms allow, or want of memory
abbrev pub Handles : FeesAllowed → (old : List Entry) → (t place : ℕ) → Task → (word : List ℕ) → Reply → (new : List Entry) → Type 0
Handles allows old t place task word reply new =
    (fee : ℕ) × (wanted : Bool) × IsHandledNext allows old t (handled_at place task word fee wanted reply) new

-- the history with the entry at its end, if there is one
abbrev pub with_entry : List Entry → Option Entry → List Entry
with_entry history entry = history ++ option_to_list entry
