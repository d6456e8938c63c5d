-- Loading the entries of a payload.
use Rattle.std.proofs.Common.{◌≡◌, inr, ℕ, ◌+◌, ◌<◌, List, [], ◌∷◌, ◌++◌, Some, Result, Ok, Err, length, take, drop, get_or, sym, ap, ◌∙◌, subst, take-append-drop}
use Rattle.std.specs.Prelude.{OnOk}
use Rattle.std.proofs.lemmas.List.{drop_more}
use Rattle.op_model.proofs.Next.{last_moment-next}
use Rattle.op_model.specs.History.{last_moment}
use Rattle.op_model.specs.declared.act.Entry.{Entry}
use Rattle.op_desk.specs.Reading.{StopsAtEntry}
use Rattle.op_desk.specs.Wallets.{WalletState, IsSound, IsTaken, IsAtLast}
use Rattle.op_desk.specs.Faults.{of_wallet}
use Rattle.op_desk.specs.declared.fault.LoadFault.{LoadFault}
use Rattle.op_desk.specs.declared.fault.LoadFault.TheVariants as wallet
use Rattle.op_desk.specs.declared.fault.DeskFault.TheVariants.{Illegal}

-- an entry that is not taken
pub stops_here : (history entries now : List Entry) (i number : ℕ) (e : Entry) → i < length entries → e ≡ get_or entries i e → now ≡ history ++ take i entries → IsSound now → (IsTaken now e → ⊥) → number ≡ length now + 1
    → StopsAtEntry history entries number
stops_here history entries now i number e inside is grown sound illegal number_is = record {
  before = take i entries;
  entry = e;
  after = drop (i + 1) entries;
  split = sym (take-append-drop i entries) ∙ ap (λ (l : List Entry). take i entries ++ l) (drop_more entries i e inside ∙ ap (λ (x : Entry). x ∷ drop (i + 1) entries) (sym is));
  sound = subst IsSound grown sound;
  illegal = λ taken. illegal (subst (λ (h : List Entry). IsTaken h e) (sym grown) taken);
  place = number_is ∙ ap (λ (h : List Entry). length h + 1) grown;
}

-- the wallet's fault where a desk names an illegal entry
pub illegal_from : (fault : LoadFault) (place : ℕ) → of_wallet fault ≡ Illegal place → fault ≡ wallet.Illegal place
illegal_from (wallet.Illegal at) place is = cc
illegal_from wallet.Memory place is = cc

-- an entry was loaded into a round at its moment
pub at_last : (result : Result (Unit {0}) LoadFault) (old new : WalletState) (e : Entry) → old.moment ≡ Some e.at → OnOk result (IsTaken old.history e × (new.history ≡ old.history ++ e ∷ []) × (new.moment ≡ old.moment)) → OnOk result (IsAtLast new)
at_last (Ok x) old new e moment loaded = inr (loaded.2 ∙ moment ∙ ap (λ (n : ℕ). Some n) (sym (ap last_moment loaded.1 ∙ last_moment-next old.history e)))
at_last (Err fault) old new e moment loaded = tt
