-- When the expiry of an incoming payment is due.
use Rattle.std.proofs.Common.{◌≡◌, ℕ, ◌<◌, ◌≤◌, Bool, true, false, ◌&&◌, List, refl, ◌∙◌, sym, ap, subst, arith, Some, None, Option}
use Rattle.std.specs.Prelude.{nat_lt, nat_le}
use Rattle.std.specs.List.{AllByRecursion}
use Rattle.std.specs.Option.{option_map, option_map_or, option_to_list}
use Rattle.std.proofs.lemmas.Bool.Decides.{nat_tests}
use Rattle.op_incoming.specs.Rows.{row_is, is_open_at, is_due_at, is_unfinished}
use Rattle.op_incoming.specs.declared.incoming.Incoming.{Incoming}
use Rattle.op_laws.proofs.Lists.{each_at}
use Rattle.op_legal.proofs.Chains.{some_is}
use Rattle.op_legal.proofs.Induction.{legal_induction}
use Rattle.op_model.specs.History.{nth}
use Rattle.op_model.specs.Legal.{IsLegal, IsNext}
use Rattle.op_model.specs.Payments.{incomings, incoming_made, incoming_row}
use Rattle.op_model.specs.Steps.{is_incoming_due}
use Rattle.op_model.specs.declared.act.Act.{Act}
use Rattle.op_model.specs.declared.act.Act.TheVariants as acts
use Rattle.op_model.specs.declared.act.Entry.{Entry}
use Rattle.op_model.specs.declared.row.IncomingRow.{IncomingRow}
use Rattle.op_model.proofs.Next.{incomings-next}
use Rattle.op_model.proofs.Numbered.{all-append}
use Rattle.op_paying.specs.Money.{IsMoneyOf}
use Rattle.op_paying.specs.declared.money.Money.{Money}
use Rattle.op_paying.proofs.Facts.{incoming_fits}
use Rattle.op_paying.proofs.IncomingMoney.{due_kept}
use Rattle.op_paying.proofs.StepReplies.{row_at}

-- ---- an incoming payment is made below its expiry

abbrev IsLater : IncomingRow → Type 0
IsLater row = row.made < row.expiry

all_later : (history : List Entry) → IsLegal history → AllByRecursion IsLater (incomings history)
all_later = legal_induction (λ h. AllByRecursion IsLater (incomings h)) tt
    (λ history e legal next before. subst (AllByRecursion IsLater) (sym (incomings-next history e))
    (all-append IsLater (incomings history) (option_to_list (incoming_made e.at e.act)) before (added history e.at e.act next)))
  where
    added : (history : List Entry) (t : ℕ) (act : Act) → IsNext history (record { at = t; act = act }) → AllByRecursion IsLater (option_to_list (incoming_made t act))
    added history t (acts.IncomingMade grant address amount expiry metadata) next = ((incoming_fits history t grant address amount expiry metadata next).later, tt)
    added history t _ next = tt

made_before : (history : List Entry) (i : ℕ) (row : IncomingRow) → IsLegal history → incoming_row history i ≡ Some row → row.made < row.expiry
made_before history i row legal there = each_at IsLater (incomings history) i row (all_later history legal) there

-- ---- due where it would be open in its first moment, and its expiry is reached

later_true : (a b : ℕ) → a < b → nat_lt a b ≡ true
later_true a b h = grind (arith, nat_tests)

reached_true : (a b : ℕ) → a ≤ b → nat_le a b ≡ true
reached_true a b h = grind (arith, nat_tests)

opened_where : (row : IncomingRow) (t : ℕ) (found : Option Incoming) → option_map (λ (x : Incoming). x.row) found ≡ Some row → row.made < row.expiry → row.expiry ≤ t → option_map_or (is_open_at row.made) found false ≡ option_map_or (is_due_at t) found false
opened_where row t None is later reached = refl
opened_where row t (Some x) is later reached =
    let same : x.row ≡ row = some_is x.row row is in
    let first : nat_lt row.made x.row.expiry ≡ true = ap (λ (r : IncomingRow). nat_lt row.made r.expiry) same ∙ later_true row.made row.expiry later in
    let last : nat_le x.row.expiry t ≡ true = ap (λ (r : IncomingRow). nat_le r.expiry t) same ∙ reached_true row.expiry t reached in
    ap (λ (b : Bool). is_unfinished x && b) (first ∙ sym last)

pub due_reached : (history : List Entry) (money : Money) (i t : ℕ) (row : IncomingRow) → IsMoneyOf history money → option_map (λ (x : Incoming). x.row) (nth money.incomings i) ≡ Some row → row.expiry ≤ t → row_is (is_open_at row.made) money.incomings i ≡ is_incoming_due history i t
due_reached history money i t row is at reached =
    let there : incoming_row history i ≡ Some row = row_at history money.incomings i is.received ∙ at in
    opened_where row t (nth money.incomings i) at (made_before history i row is.legal there) reached ∙ due_kept history money.incomings i t is.received
