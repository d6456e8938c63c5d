-- Rows that are there stay there, and so a proper task stays proper.
use Rattle.std.proofs.Common.{◌≡◌, ℕ, Bool, true, false, ◌&&◌, List, [], ◌++◌, refl, ◌∙◌, sym, ap, Some, None, Option, is_some}
use Rattle.std.specs.Option.{option_map}
use Rattle.std.proofs.lemmas.List.Elements.{filter_map-append}
use Rattle.op_model.specs.Events.{events, event_row, events_added}
use Rattle.op_model.specs.History.{nth, along, along_from}
use Rattle.op_model.specs.Legal.{is_outcome}
use Rattle.op_model.specs.Payments.{PaymentMade, payments_made, payment_added, payment_so_far, outgoing_row, incomings, incoming_row, incoming_made}
use Rattle.op_model.specs.declared.act.Entry.{Entry}
use Rattle.op_model.specs.declared.request.Task.TheVariants.{Ask, Step, Expire, Attempt}
use Rattle.op_model.proofs.Next.{along_from-append}
use Rattle.op_model.proofs.Numbered.{nth-numbered, nth-front}
use Rattle.op_legal.proofs.Names.{both_left, both_right}
use Rattle.op_legal.specs.Grows.{TasksStayProper}

there_where : {X : Type 0} (xs ys : List X) (n : ℕ) (o : Option X) → nth xs n ≡ o → is_some o ≡ true → is_some (nth (xs ++ ys) n) ≡ true
there_where xs ys n None is h = absurd (let e : false ≡ true = h in cc)
there_where xs ys n (Some x) is h = ap is_some (nth-front xs ys n x is)

pub there_stays : {X : Type 0} (xs ys : List X) (n : ℕ) → is_some (nth xs n) ≡ true → is_some (nth (xs ++ ys) n) ≡ true
there_stays xs ys n h = there_where xs ys n (nth xs n) refl h

pub some_mapped : {X Y : Type 0} (f : X → Y) (o : Option X) → is_some (option_map f o) ≡ is_some o
some_mapped f None = refl
some_mapped f (Some x) = refl

-- what each entry adds, on a history that grows
pub along-grows : {X : Type 0} (add : List Entry → Entry → List X) (history more : List Entry) → along add (history ++ more) ≡ along add history ++ along_from add history more
along-grows add history more = along_from-append add [] history more

pub outgoing_made : (history : List Entry) (p : ℕ) → is_some (outgoing_row history p) ≡ is_some (nth (payments_made history) p)
outgoing_made history p = ap is_some (nth-numbered (payment_so_far history) (payments_made history) p) ∙ some_mapped (λ (m : PaymentMade). payment_so_far history (p, m)) (nth (payments_made history) p)

pub outgoing_stays : (history more : List Entry) (p : ℕ) → is_some (outgoing_row history p) ≡ true → is_some (outgoing_row (history ++ more) p) ≡ true
outgoing_stays history more p h =
    let add : List Entry → Entry → List PaymentMade = λ before e. payment_added before e.at e.act in
    outgoing_made (history ++ more) p
    ∙ ap (λ (l : List PaymentMade). is_some (nth l p)) (along-grows add history more)
    ∙ there_stays (payments_made history) (along_from add history more) p (sym (outgoing_made history p) ∙ h)

pub incoming_stays : (history more : List Entry) (i : ℕ) → is_some (incoming_row history i) ≡ true → is_some (incoming_row (history ++ more) i) ≡ true
incoming_stays history more i h =
    ap (λ l. is_some (nth l i)) (filter_map-append (λ (e : Entry). incoming_made e.at e.act) history more)
    ∙ there_stays (incomings history) (incomings more) i h

pub event_stays : (history more : List Entry) (n : ℕ) → is_some (event_row history n) ≡ true → is_some (event_row (history ++ more) n) ≡ true
event_stays history more n h =
    ap (λ l. is_some (nth l n)) (along-grows events_added history more)
    ∙ there_stays (events history) (along_from events_added history more) n h

both : (a b : Bool) → a ≡ true → b ≡ true → (a && b) ≡ true
both a b p q = rw p q

pub stays_proper : TasksStayProper
stays_proper history more (Ask request verdict) h = h
stays_proper history more (Step payment k) h = outgoing_stays history more payment h
stays_proper history more (Expire incoming) h = incoming_stays history more incoming h
stays_proper history more (Attempt event outcome) h =
    both (is_some (event_row (history ++ more) event)) (is_outcome outcome)
    (event_stays history more event (both_left (is_some (event_row history event)) (is_outcome outcome) h))
    (both_right (is_some (event_row history event)) (is_outcome outcome) h)
