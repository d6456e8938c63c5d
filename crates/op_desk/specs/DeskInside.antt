-- What a desk keeps.
use Rattle.std.specs.Prelude.{◌≡◌, false, IsSome, Some}
use Rattle.op_desk.specs.Batches.{DeskValue}
use Rattle.std.specs.Option.{option_map}
use Rattle.op_desk.specs.Wallets.{WalletState, IsSound, shown}
use Rattle.op_desk.specs.declared.desk.Desk.TheInside.{Inside}

abbrev pub desk_of : Inside → DeskValue
desk_of d = record { tail = d.journal.tail; closed = d.journal.closed; wallet = option_map shown d.wallet }

pub record IsOpen (d : Inside) : Type 0 where
  pub sound : (w : WalletState) → d.wallet ≡ Some w → IsSound w.history
  pub is_open : IsSome d.wallet → d.journal.closed ≡ false
