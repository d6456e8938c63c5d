use Rattle.std.proofs.Common.{◌≡◌, ◌++◌, take}
use Rattle.op_desk.specs.Wallets.{IsSound, IsAtLast}
use Rattle.op_desk.proofs.payload.load_entries.Given as goal

abbrev pub invariant-loop-entry : goal.invariant-loop-entry
invariant-loop-entry l = record {
  grown : l.wallet.history ≡ l.fn.wallet.history ++ take l.entry-index l.entries;
  sound : IsSound l.wallet.history;
  last : IsAtLast l.wallet;
}
