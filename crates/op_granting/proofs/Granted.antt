-- Each payment of a legal history has a grant, and an interval of it in which it was made.
use Rattle.std.proofs.Common.{◌≡◌, ℕ, ◌+◌, true, false, List, [], ◌∷◌, ◌++◌, length, refl, ◌∙◌, sym, ap, subst, Some, None, Option}
use Rattle.std.specs.Prelude.{is_some}
use Rattle.std.specs.List.{AllByRecursion}
use Rattle.std.specs.Option.{option_map, option_map_or, option_to_list}
use Rattle.op_model.specs.Grants.{GrantMade, grants_made, grant_asked, grant_row, grant_so_far, items_of, interval_at}
use Rattle.op_model.specs.History.{nth}
use Rattle.op_model.specs.Legal.{IsLegal, IsNext}
use Rattle.op_model.specs.Payments.{PaymentMade, payments_made, payment_added, payment_so_far, made_from_quote, outgoing_row, quote_row}
use Rattle.op_model.specs.declared.act.Act.{Act}
use Rattle.op_model.specs.declared.act.Act.TheVariants as acts
use Rattle.op_model.specs.declared.act.Entry.{Entry}
use Rattle.op_model.specs.declared.grant.Item.{Item}
use Rattle.op_model.specs.declared.row.GrantRow.{GrantRow}
use Rattle.op_model.specs.declared.row.OutgoingRow.{OutgoingRow}
use Rattle.op_model.specs.declared.row.QuoteRow.{QuoteRow}
use Rattle.op_model.proofs.Next.{grants_made-next, payments_made-next}
use Rattle.op_model.proofs.Numbered.{nth-numbered, nth-front}
use Rattle.op_grant.proofs.Numbered.{of_map}
use Rattle.op_legal.specs.Numbers.{HasGrant}
use Rattle.op_legal.proofs.Induction.{legal_induction}
use Rattle.op_legal.proofs.Named.{next_names}
use Rattle.op_legal.proofs.Unnamed.{grant_made}
use Rattle.op_laws.proofs.Lists.{each_append, each_at, some_kept}
use Rattle.op_granting.specs.Spending.{PaymentsLie}
use Rattle.op_granting.proofs.Paying.{LiesFor, next_lies}

-- ---- the items of a grant

-- the items of a grant, of those that were made
abbrev pub items_at : List GrantMade → ℕ → List Item
items_at made g = option_map_or (λ (m : GrantMade). m.items) (nth made g) []

items_in : (history : List Entry) (g : ℕ) (o : Option GrantMade) → option_map_or (λ (row : GrantRow). row.items) (option_map (λ (m : GrantMade). grant_so_far history (g, m)) o) [] ≡ option_map_or (λ (m : GrantMade). m.items) o []
items_in history g None = refl
items_in history g (Some m) = refl

pub items_made : (history : List Entry) (g : ℕ) → items_of history g ≡ items_at (grants_made history) g
items_made history g =
    ap (λ (o : Option GrantRow). option_map_or (λ row. row.items) o []) (nth-numbered (grant_so_far history) (grants_made history) g)
    ∙ items_in history g (nth (grants_made history) g)

-- ---- a payment has its grant, and lies in an interval of it

pub record IsGranted (made : List GrantMade) (m : PaymentMade) : Type 0 where
  pub there : is_some (nth made m.grant) ≡ true
  pub lies : is_some (interval_at (items_at made m.grant) m.made) ≡ true

AreGranted : List Entry → Type 0
AreGranted history = AllByRecursion (IsGranted (grants_made history)) (payments_made history)

still_by : (xs ys : List GrantMade) (g : ℕ) (o : Option GrantMade) → nth xs g ≡ o → is_some o ≡ true → items_at (xs ++ ys) g ≡ items_at xs g
still_by xs ys g None is h = absurd (let e : false ≡ true = h in cc)
still_by xs ys g (Some x) is h = ap (λ (o : Option GrantMade). option_map_or (λ (m : GrantMade). m.items) o []) (nth-front xs ys g x is ∙ sym is)

all_still : (xs ys : List GrantMade) (ps : List PaymentMade) → AllByRecursion (IsGranted xs) ps → AllByRecursion (IsGranted (xs ++ ys)) ps
all_still xs ys [] all = tt
all_still xs ys (p ∷ ps) all = (
  record { there = some_kept xs ys p.grant all.0.there; lies = ap (λ (i : List Item). is_some (interval_at i p.made)) (still_by xs ys p.grant (nth xs p.grant) refl all.0.there) ∙ all.0.lies },
  all_still xs ys ps all.1,
)

granted_now : (history : List Entry) (t grant : ℕ) (m : PaymentMade) → HasGrant history grant → is_some (interval_at (items_of history grant) t) ≡ true → m.grant ≡ grant → m.made ≡ t → IsGranted (grants_made history) m
granted_now history t grant m has lies ours at = record {
  there = ap (λ (n : ℕ). is_some (nth (grants_made history) n)) ours ∙ sym (grant_made history grant) ∙ has;
  lies =
      ap (λ (n : ℕ). is_some (interval_at (items_at (grants_made history) n) m.made)) ours
      ∙ ap (λ (n : ℕ). is_some (interval_at (items_at (grants_made history) grant) n)) at
      ∙ ap (λ (i : List Item). is_some (interval_at i t)) (sym (items_made history grant)) ∙ lies;
}

quoted_granted : (history : List Entry) (t grant quote : ℕ) (metadata : Option (List ℕ)) (o : Option QuoteRow) → HasGrant history grant → is_some (interval_at (items_of history grant) t) ≡ true
    → AllByRecursion (IsGranted (grants_made history)) (option_to_list (option_map (made_from_quote t grant quote metadata) o))
quoted_granted history t grant quote metadata None has lies = tt
quoted_granted history t grant quote metadata (Some row) has lies = (granted_now history t grant (made_from_quote t grant quote metadata row) has lies refl refl, tt)

added_granted : (history : List Entry) (t : ℕ) (act : Act) → IsNext history (record { at = t; act = act }) → AllByRecursion (IsGranted (grants_made history)) (payment_added history t act)
added_granted history t (acts.OutgoingMade grant quote metadata) next =
    let act = acts.OutgoingMade grant quote metadata in
    let lies : LiesFor history t act = next_lies history t act next in
    quoted_granted history t grant quote metadata (quote_row history quote) (next_names history (record { at = t; act = act }) next).0 lies
added_granted history t (acts.OutgoingDirect grant address incoming debit source fee receive num den metadata) next =
    let act = acts.OutgoingDirect grant address incoming debit source fee receive num den metadata in
    let lies : LiesFor history t act = next_lies history t act next in
    (granted_now history t grant _ (next_names history (record { at = t; act = act }) next).0 lies refl refl, tt)
added_granted history t _ next = tt

granted_next : (history : List Entry) (e : Entry) → IsLegal history → IsNext history e → AreGranted history → AreGranted (history ++ e ∷ [])
unfolding AreGranted
granted_next history e legal next old =
    let added = option_to_list (grant_asked (1 + length history) e.at e.act) in
    let more = payment_added history e.at e.act in
    subst (λ (xs : List GrantMade). AllByRecursion (IsGranted xs) (payments_made (history ++ e ∷ []))) (sym (grants_made-next history e))
    (subst (AllByRecursion (IsGranted (grants_made history ++ added))) (sym (payments_made-next history e))
    (all_still (grants_made history) added (payments_made history ++ more)
    (each_append (IsGranted (grants_made history)) (payments_made history) more old (added_granted history e.at e.act next))))

granted_first : AreGranted []
unfolding AreGranted
granted_first = tt

pub all_granted : (history : List Entry) → IsLegal history → AllByRecursion (IsGranted (grants_made history)) (payments_made history)
unfolding AreGranted
all_granted history legal = legal_induction AreGranted granted_first granted_next history legal

some_of : (o : Option ℕ) → is_some o ≡ true → (j : ℕ) × (o ≡ Some j)
some_of None h = absurd (let e : false ≡ true = h in cc)
some_of (Some j) h = (j, refl)

pub payments_lie : PaymentsLie
payments_lie history p row legal found =
    let at = of_map (λ (m : PaymentMade). payment_so_far history (p, m)) (nth (payments_made history) p) row (sym (nth-numbered (payment_so_far history) (payments_made history) p) ∙ found) in
    let m = at.0 in
    let granted = each_at (IsGranted (grants_made history)) (payments_made history) p m (all_granted history legal) at.1 in
    let here : is_some (interval_at (items_of history m.grant) m.made) ≡ true = ap (λ (i : List Item). is_some (interval_at i m.made)) (items_made history m.grant) ∙ granted.lies in
    some_of (interval_at (items_of history row.grant) row.made) (ap (λ (r : OutgoingRow). is_some (interval_at (items_of history r.grant) r.made)) (sym at.2) ∙ here)

-- a payment's grant is there
pub payment_granted : (history : List Entry) (p : ℕ) (row : OutgoingRow) → IsLegal history → outgoing_row history p ≡ Some row → is_some (grant_row history row.grant) ≡ true
payment_granted history p row legal found =
    let at = of_map (λ (m : PaymentMade). payment_so_far history (p, m)) (nth (payments_made history) p) row (sym (nth-numbered (payment_so_far history) (payments_made history) p) ∙ found) in
    let granted = each_at (IsGranted (grants_made history)) (payments_made history) p at.0 (all_granted history legal) at.1 in
    ap (λ (r : OutgoingRow). is_some (grant_row history r.grant)) (sym at.2) ∙ grant_made history at.0.grant ∙ granted.there
