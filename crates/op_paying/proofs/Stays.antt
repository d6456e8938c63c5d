-- What an entry does not change.
use Rattle.std.proofs.Common.{◌≡◌, List, [], ◌∷◌, ◌++◌, ◌∙◌, ap, None, Option, append-nil}
use Rattle.std.specs.Option.{option_to_list}
use Rattle.op_model.specs.History.{assets, asset_added, addresses, address_added}
use Rattle.op_model.specs.declared.act.Entry.{Entry}
use Rattle.op_model.proofs.Next.{assets-next, addresses-next}
use Rattle.op_paying.proofs.Ledgers.{KeepsNames}

pub nothing_more : {X : Type 0} (xs ys : List X) (o : Option X) → ys ≡ xs ++ option_to_list o → o ≡ None → ys ≡ xs
nothing_more {X = X} xs ys o more none = more ∙ ap (λ (k : Option X). xs ++ option_to_list k) none ∙ append-nil xs

pub assets_stay : (history : List Entry) (e : Entry) → asset_added e.act ≡ None → assets (history ++ e ∷ []) ≡ assets history
assets_stay history e none = nothing_more (assets history) (assets (history ++ e ∷ [])) (asset_added e.act) (assets-next history e) none

pub addresses_stay : (history : List Entry) (e : Entry) → address_added e.act ≡ None → addresses (history ++ e ∷ []) ≡ addresses history
addresses_stay history e none = nothing_more (addresses history) (addresses (history ++ e ∷ [])) (address_added e.act) (addresses-next history e) none

pub names_stay : (history : List Entry) (e : Entry) → asset_added e.act ≡ None → address_added e.act ≡ None → KeepsNames history e
names_stay history e no_asset no_address = record { assets_stay = assets_stay history e no_asset; addresses_stay = addresses_stay history e no_address }
