-- The events that an entry adds are those that its act tells of the payments that it touches.
use Rattle.std.proofs.Common.{◌≡◌, ℕ, ◌≤◌, Bool, true, false, cond, List, [], ◌∷◌, ◌++◌, length, refl, ◌∙◌, ap, Some, None, Option, append-nil, arith}
use Rattle.std.proofs.lemmas.List.{length-append}
use Rattle.std.specs.Option.{option_map, option_map_or, option_and_then, option_to_list}
use Rattle.op_model.specs.Events.{events, act_events, incoming_event_of, outgoing_event_of, is_filled, filled_row, filled_event}
use Rattle.op_model.specs.Payments.{incomings, incoming_row, payments_made, outgoing_row}
use Rattle.op_model.specs.declared.act.Act.{Act}
use Rattle.op_model.specs.declared.act.Act.TheVariants as acts
use Rattle.op_model.specs.declared.act.Entry.{Entry}
use Rattle.op_model.specs.declared.row.EventRow.{EventRow}
use Rattle.op_model.specs.declared.row.EventWord.{EventWord}
use Rattle.op_model.specs.declared.row.EventWord.TheVariants as words
use Rattle.op_model.specs.declared.row.IncomingRow.{IncomingRow}
use Rattle.op_model.specs.declared.row.OutgoingRow.{OutgoingRow}
use Rattle.op_model.proofs.Next.{events-next}
use Rattle.op_noting.specs.Laws.{EventsNext}
use Rattle.op_noting.specs.Touched.{incoming_of, outgoing_of, filled_of, filled_of_payment, touched_by, incoming_told, outgoing_told, incoming_word, outgoing_word, told_of, told, events_limit}
use Rattle.op_noting.specs.declared.touched.Touched.{Touched}

of_incoming : (after : List Entry) (t : ℕ) (word : EventWord) (i : ℕ) (found : Option IncomingRow) → option_to_list (option_map (incoming_event_of after t word i) found) ≡ told_of (incoming_told t) (Some word) (option_map (incoming_of after i) found)
of_incoming after t word i None = refl
of_incoming after t word i (Some row) = refl

-- of an outgoing payment, where nothing is told of an incoming one
of_outgoing : (after : List Entry) (t : ℕ) (word : EventWord) (p : ℕ) (found : Option OutgoingRow) → option_to_list (option_map (outgoing_event_of after t word p) found) ≡ told_of (outgoing_told t) (Some word) (option_map (outgoing_of after p) found) ++ []
of_outgoing after t word p None = refl
of_outgoing after t word p (Some row) = refl

filled_where : (before after : List Entry) (t i : ℕ) (row : IncomingRow) (b : Bool) → cond b (incoming_event_of after t words.IncomingCompleted i row ∷ []) [] ≡ told_of (incoming_told t) (Some words.IncomingCompleted) (cond b (Some (incoming_of after i row)) None)
filled_where before after t i row true = refl
filled_where before after t i row false = refl

filled_at : (before after : List Entry) (t i : ℕ) (found : Option IncomingRow) → option_map_or (filled_row before after t i) found [] ≡ told_of (incoming_told t) (Some words.IncomingCompleted) (option_and_then (filled_of before after i) found)
filled_at before after t i None = refl
filled_at before after t i (Some row) = filled_where before after t i row (is_filled before after i row)

of_filled : (before after : List Entry) (t : ℕ) (found : Option OutgoingRow) → option_map_or (filled_event before after t) found [] ≡ told_of (incoming_told t) (Some words.IncomingCompleted) (option_and_then (filled_of_payment before after) found)
of_filled before after t None = refl
of_filled before after t (Some row) = filled_at before after t row.terms.incoming (incoming_row after row.terms.incoming)

joined : (xs xs' ys ys' : List EventRow) → xs ≡ xs' ++ [] → ys ≡ ys' → xs ++ ys ≡ xs' ++ ys'
joined xs xs' ys ys' p q = ap (λ l. l ++ ys) (p ∙ append-nil xs') ∙ ap (λ l. xs' ++ l) q

pub told_is : (before after : List Entry) (t : ℕ) (act : Act) → act_events before after t act ≡ told t act (touched_by before after act)
told_is before after t (acts.IncomingMade grant address amount expiry metadata) = of_incoming after t words.IncomingCreated (length (incomings after)) (incoming_row after (length (incomings after)))
told_is before after t (acts.IncomingCompleted grant incoming) = of_incoming after t words.IncomingCompleted incoming (incoming_row after incoming)
told_is before after t (acts.IncomingExpired incoming) = of_incoming after t words.IncomingExpired incoming (incoming_row after incoming)
told_is before after t (acts.OutgoingMade grant quote metadata) = of_outgoing after t words.OutgoingCreated (length (payments_made after)) (outgoing_row after (length (payments_made after)))
told_is before after t (acts.OutgoingDirect grant address incoming debit source fee receive num den metadata) =
    of_outgoing after t words.OutgoingCreated (length (payments_made after)) (outgoing_row after (length (payments_made after)))
told_is before after t (acts.OutgoingSent payment step) = of_filled before after t (outgoing_row after payment)
told_is before after t (acts.OutgoingCompleted payment step) =
    joined _ _ _ _ (of_outgoing after t words.OutgoingCompleted payment (outgoing_row after payment)) (of_filled before after t (outgoing_row after payment))
told_is before after t (acts.OutgoingFailed payment step reason) = of_outgoing after t words.OutgoingFailed payment (outgoing_row after payment)
told_is before after t _ = refl

one_at_most : {X : Type 0} (row : EventWord → X → EventRow) (word : Option EventWord) (payment : Option X) → length (told_of row word payment) ≤ 1
one_at_most row (Some word) (Some payment) = omega arith
one_at_most row (Some word) None = omega arith
one_at_most row None payment = omega arith

two_at_most : (xs ys : List EventRow) → length xs ≤ 1 → length ys ≤ 1 → length (xs ++ ys) ≤ 2
two_at_most xs ys p q = omega (arith, length-append xs ys, p, q)

pub few_told : (t : ℕ) (act : Act) (payments : Touched) → length (told t act payments) ≤ events_limit
few_told t act payments =
    two_at_most _ _ (one_at_most (outgoing_told t) (outgoing_word act) payments.outgoing) (one_at_most (incoming_told t) (incoming_word act) payments.incoming)

pub next : EventsNext
next = record {
  adds = λ history e. events-next history e ∙ ap (λ (rows : List EventRow). events history ++ rows) (told_is history (history ++ e ∷ []) e.at e.act);
  few = λ t e payments. few_told t e.act payments;
}
