-- What was spent under grants, behind one more entry.
use Rattle.std.proofs.Common.{◌≡◌, ℕ, ◌+◌, Bool, true, false, cond, ◌&&◌, List, [], ◌∷◌, refl, ◌∙◌, sym, ap, subst, arith, Some, None, Option}
use Rattle.std.proofs.lemmas.List.Sums.{sum_by_push}
use Rattle.std.specs.Prelude.{◌==◌, sum_by}
use Rattle.std.specs.Option.{option_map, option_map_or, option_and_then, option_to_list}
use Rattle.op_model.specs.Grants.{grants, grant_row, items_of, cap_of, interval_at, lies_within, spent, weight}
use Rattle.op_model.specs.History.{nth}
use Rattle.op_model.specs.Legal.{IsLegal}
use Rattle.op_model.specs.Payments.{PaymentMade, payment_added, made_from_quote, outgoings, quote_row, is_step}
use Rattle.op_model.specs.declared.act.Act.{Act}
use Rattle.op_model.specs.declared.act.Act.TheVariants as acts
use Rattle.op_model.specs.declared.act.Entry.{Entry}
use Rattle.op_model.specs.declared.grant.Cap.{Cap}
use Rattle.op_model.specs.declared.grant.Item.{Item}
use Rattle.op_model.specs.declared.row.GrantRow.{GrantRow}
use Rattle.op_model.specs.declared.row.OutgoingRow.{OutgoingRow}
use Rattle.op_model.specs.declared.row.QuoteRow.{QuoteRow}
use Rattle.op_model.proofs.Numbered.{same_number}
use Rattle.op_model.proofs.OutgoingsNext.{fresh_payment}
use Rattle.op_grant.specs.Value.{GrantsValue, cap_in, counted_under, spent_in, spent_more, with_spent}
use Rattle.op_grant.proofs.SpendingLaw.{counted_more}
use Rattle.op_legal.proofs.Chains.{some_is}
use Rattle.op_laws.proofs.Known.{all_known}
use Rattle.op_laws.proofs.Renewed.{made_rows}
use Rattle.op_granting.specs.Models.{behind}
use Rattle.op_granting.specs.declared.next.PaidUnder.{PaidUnder}
use Rattle.op_granting.specs.Spending.{SpendsAs, under, paid_by, counted_in}
use Rattle.op_granting.proofs.Following.{stay}
use Rattle.op_granting.proofs.Intervals.{lies_within_is}
use Rattle.op_granting.specs.Kinds.{is_on_grants}

-- what a row counts under grant g in interval j
abbrev pub counts : List Item → (g j : ℕ) → OutgoingRow → ℕ
counts items g j row = cond ((row.grant == g) && lies_within items row.made j) (weight (cap_of items) row) 0

-- ---- items and caps

pub items_stay : (history : List Entry) (t : ℕ) (act : Act) (g : ℕ) → is_on_grants act ≡ false → items_of (behind history t act) g ≡ items_of history g
items_stay history t act g none = ap (λ (rows : List GrantRow). option_map_or (λ row. row.items) (nth rows g) []) (stay history t act none)

cap_where : (o : Option GrantRow) → option_and_then (λ (row : GrantRow). cap_of row.items) o ≡ cap_of (option_map_or (λ (row : GrantRow). row.items) o [])
cap_where None = refl
cap_where (Some row) = refl

pub cap_is : (value : GrantsValue) (history : List Entry) (g : ℕ) → value.rows ≡ grants history → cap_in value g ≡ cap_of (items_of history g)
cap_is value history g same = ap (λ (rows : List GrantRow). option_and_then (λ (row : GrantRow). cap_of row.items) (nth rows g)) same ∙ cap_where (grant_row history g)

-- ---- a payment that is made

fresh_weight : (o : Option Cap) (made : PaymentMade) → weight o (fresh_payment made) ≡ counted_under made.terms.debit made.terms.receive o
fresh_weight None made = refl
fresh_weight (Some cap) made = refl

-- the payment that an act makes
pub record Makes (history : List Entry) (t : ℕ) (act : Act) (paid : PaidUnder) : Type 0 where
  pub made : PaymentMade
  pub adds : payment_added history t act ≡ made ∷ []
  pub none : (p : ℕ) → is_step p act ≡ false
  pub other : is_on_grants act ≡ false
  pub grant : made.grant ≡ paid.grant
  pub at : made.made ≡ t
  pub debit : made.terms.debit ≡ paid.debit
  pub receive : made.terms.receive ≡ paid.receive

quoted_makes : (history : List Entry) (t grant quote : ℕ) (metadata : Option (List ℕ)) (found : Option QuoteRow) (paid : PaidUnder) → quote_row history quote ≡ found
    → option_map (λ (row : QuoteRow). under grant row.terms.debit row.terms.receive) found ≡ Some paid → Makes history t (acts.OutgoingMade grant quote metadata) paid
quoted_makes history t grant quote metadata None paid there is = absurd (let e : None ≡ Some paid = is in cc)
quoted_makes history t grant quote metadata (Some row) paid there is =
    subst (Makes history t (acts.OutgoingMade grant quote metadata)) (some_is (under grant row.terms.debit row.terms.receive) paid is)
    (record {
      made = made_from_quote t grant quote metadata row;
      adds = ap (λ (o : Option QuoteRow). option_to_list (option_map (made_from_quote t grant quote metadata) o)) there;
      none = λ p. refl;
      other = refl;
      grant = refl;
      at = refl;
      debit = refl;
      receive = refl;
    })

pub makes : (history : List Entry) (t : ℕ) (act : Act) (paid : PaidUnder) → paid_by history act ≡ Some paid → Makes history t act paid
makes history t (acts.OutgoingMade grant quote metadata) paid is = quoted_makes history t grant quote metadata (quote_row history quote) paid refl is
makes history t (acts.OutgoingDirect grant address incoming debit source fee receive num den metadata) paid is =
    subst (Makes history t (acts.OutgoingDirect grant address incoming debit source fee receive num den metadata)) (some_is (under grant debit receive) paid is)
    (record { made = _; adds = refl; none = λ p. refl; other = refl; grant = refl; at = refl; debit = refl; receive = refl })
makes history t _ paid is = absurd (let e : None ≡ Some paid = is in cc)

same_count : (b c d : Bool) (p v : ℕ) → (b ≡ true → c ≡ d) → (b ≡ true → p ≡ v) → cond (b && c) p 0 ≡ cond (b && d) v 0
same_count true c d p v e f = ap (λ x. cond x p 0) (e refl) ∙ ap (λ n. cond d n 0) (f refl)
same_count false c d p v e f = refl

counted_by : (b c : Bool) (p : ℕ) → (b ≡ true → p ≡ 0) → cond (b && c) p 0 ≡ 0
counted_by true true p h = h refl
counted_by true false p h = refl
counted_by false c p h = refl

more : (value : GrantsValue) (before after grant j v g k : ℕ) (c : Bool) (p : ℕ) (cap : Option Cap) → spent_in value g k ≡ before → after ≡ before + cond ((grant == g) && c) p 0 → ((grant == g) ≡ true → c ≡ (j == k))
    → ((grant == g) ≡ true → cap ≡ None → p ≡ 0) → ((x : Cap) → (grant == g) ≡ true → cap ≡ Some x → p ≡ v)
    → spent_in (option_map_or (λ (x : Cap). with_spent value grant j (spent_in value grant j + v)) cap value) g k ≡ after
more value before after grant j v g k c p None same grows lies none some =
    let nothing = counted_by (grant == g) c p (λ h. none h refl) in
    omega (arith, same, grows, nothing)
more value before after grant j v g k c p (Some x) same grows lies none some =
    let counted = counted_more value grant j g k v in
    let equal = same_count (grant == g) c (j == k) p v lies (λ h. some x h refl) in
    omega (arith, same, grows, counted, equal)

-- what one more payment counts
pub spent_next : (history : List Entry) (t : ℕ) (act : Act) (paid : PaidUnder) (g k : ℕ) → IsLegal history → Makes history t act paid
    → spent (behind history t act) g k ≡ spent history g k + cond ((paid.grant == g) && lies_within (items_of history g) t k) (counted_under paid.debit paid.receive (cap_of (items_of history g))) 0
spent_next history t act paid g k legal is =
    let e : Entry = record { at = t; act = act } in
    let items = items_of history g in
    let fresh = fresh_payment is.made in
    let own : counts items g k fresh ≡ cond ((paid.grant == g) && lies_within items t k) (counted_under paid.debit paid.receive (cap_of items)) 0 =
    ap (λ n. cond ((is.made.grant == g) && lies_within items is.made.made k) n 0) (fresh_weight (cap_of items) is.made)
    ∙ ap (λ n. cond ((n == g) && lies_within items is.made.made k) (counted_under is.made.terms.debit is.made.terms.receive (cap_of items)) 0) is.grant
    ∙ ap (λ n. cond ((paid.grant == g) && lies_within items n k) (counted_under is.made.terms.debit is.made.terms.receive (cap_of items)) 0) is.at
    ∙ ap (λ n. cond ((paid.grant == g) && lies_within items t k) (counted_under n is.made.terms.receive (cap_of items)) 0) is.debit
    ∙ ap (λ n. cond ((paid.grant == g) && lies_within items t k) (counted_under paid.debit n (cap_of items)) 0) is.receive in
    ap (λ (i : List Item). sum_by (counts i g k) (outgoings (behind history t act))) (items_stay history t act g is.other)
    ∙ ap (sum_by (counts items g k)) (made_rows history e is.made (all_known history legal) is.adds is.none)
    ∙ sum_by_push (counts items g k) (outgoings history) fresh
    ∙ ap (λ n. spent history g k + n) own

pub made : (value : GrantsValue) (history : List Entry) (t j : ℕ) (act : Act) (paid : PaidUnder) → IsLegal history → value.rows ≡ grants history → SpendsAs value history → paid_by history act ≡ Some paid
    → interval_at (items_of history paid.grant) t ≡ Some j → SpendsAs (spent_more value paid.grant j (counted_in value paid)) (behind history t act)
made value history t j act paid legal rows spends is lies g k =
    let items = items_of history g in
    let v = counted_in value paid in
    let p = counted_under paid.debit paid.receive (cap_of items) in
    let after = spent_next history t act paid g k legal (makes history t act paid is) in
    let caps : (paid.grant == g) ≡ true → cap_of items ≡ cap_in value paid.grant = λ h. ap (λ (n : ℕ). cap_of (items_of history n)) (sym (same_number paid.grant g h)) ∙ sym (cap_is value history paid.grant rows) in
    more value (spent history g k) (spent (behind history t act) g k) paid.grant j v g k (lies_within items t k) p (cap_in value paid.grant) (spends g k) after
    (λ h. lies_within_is items t k ∙ ap (λ (n : ℕ). option_map_or (λ x. x == k) (interval_at (items_of history n) t) false) (sym (same_number paid.grant g h)) ∙ ap (λ (o : Option ℕ). option_map_or (λ x. x == k) o false) lies)
    (λ h none. ap (counted_under paid.debit paid.receive) (caps h ∙ none))
    (λ x h some. ap (counted_under paid.debit paid.receive) (caps h))
