-- The terms of payments are placed, and addresses have their assets.
use Rattle.std.proofs.Common.{◌≡◌, ℕ, true, List, [], ◌∷◌, ◌++◌, ◌∙◌, sym, ap, subst, is_some}
use Rattle.std.specs.List.{AllByRecursion}
use Rattle.std.specs.Option.{option_to_list}
use Rattle.op_model.specs.History.{AssetRow, AddressRow, nth, assets, asset_added, addresses, address_added}
use Rattle.op_model.specs.Legal.{IsLegal, IsNext}
use Rattle.op_model.specs.declared.act.Act.{Act}
use Rattle.op_model.specs.declared.act.Act.TheVariants as acts
use Rattle.op_model.specs.declared.act.Entry.{Entry}
use Rattle.op_model.proofs.Next.{assets-next, addresses-next}
use Rattle.op_laws.specs.Placed.{PaymentsArePlaced}
use Rattle.op_legal.proofs.Induction.{legal_induction}
use Rattle.op_laws.proofs.Known.{all_known, terms_good}
use Rattle.op_laws.proofs.Lists.{each_append, each_weaker, each_at, some_kept, counted_some}
use Rattle.op_legal.proofs.Named.{next_names}

HasAsset : List Entry → AddressRow → Type 0
HasAsset history row = is_some (nth (assets history) row.asset) ≡ true

added_has : (history : List Entry) (t : ℕ) (act : Act) → IsNext history (record { at = t; act = act }) → AllByRecursion (HasAsset history) (option_to_list (address_added act))
unfolding HasAsset
added_has history t (acts.AddressAdded path asset name) next = (next_names history (record { at = t; act = acts.AddressAdded path asset name }) next, tt)
added_has history t _ next = tt

has_stays : (history : List Entry) (e : Entry) (row : AddressRow) → HasAsset history row → HasAsset (history ++ e ∷ []) row
unfolding HasAsset
has_stays history e row h = ap (λ (l : List AssetRow). is_some (nth l row.asset)) (assets-next history e) ∙ some_kept (assets history) (option_to_list (asset_added e.act)) row.asset h

all_based : (history : List Entry) → IsLegal history → AllByRecursion (HasAsset history) (addresses history)
all_based = legal_induction (λ history. AllByRecursion (HasAsset history) (addresses history)) tt
    (λ history e legal next old.
    subst (AllByRecursion (HasAsset (history ++ e ∷ []))) (sym (addresses-next history e))
    (each_weaker (HasAsset history) (HasAsset (history ++ e ∷ [])) (addresses history ++ option_to_list (address_added e.act)) (has_stays history e)
    (each_append (HasAsset history) (addresses history) (option_to_list (address_added e.act)) old (added_has history e.at e.act next))))

pub all_placed : PaymentsArePlaced
unfolding HasAsset
all_placed history legal = record {
  payments =
      λ p row there.
      let good = terms_good history p row (all_known history legal) there in
      record {
        payer = counted_some (addresses history) row.terms.payer good.payer;
        payee = counted_some (addresses history) row.terms.payee good.payee;
        incoming = good.incoming;
        plain = good.plain;
        debit = good.debit;
        some = good.some;
        receive = good.receive;
        den = good.den;
      };
  based = λ n row there. each_at (HasAsset history) (addresses history) n row (all_based history legal) there;
}
