-- Events behind several that were noted.
use Rattle.std.proofs.Common.{◌≡◌, ℕ, ◌-◌, ◌+◌, ◌≤◌, List, ◌++◌, length, map, refl, sym, ap, ◌∙◌, append_assoc, arith, Option}
use Rattle.std.proofs.lemmas.List.{map-append, length-append}
use Rattle.op_model.specs.declared.row.EventRow.{EventRow}
use Rattle.op_hooks.specs.Due.{untried}
use Rattle.op_hooks.specs.Value.{EventsValue}
use Rattle.op_hooks.specs.declared.event.Event.{Event}
use Rattle.op_model.specs.declared.act.Act.{Act}
use Rattle.op_model.specs.declared.act.Act.TheVariants.{Attempted}
use Rattle.op_model.specs.declared.row.EventWord.{EventWord}
use Rattle.op_noting.specs.Kept.{noted_all, after_act}
use Rattle.op_noting.specs.Touched.{told, told_of, incoming_told, outgoing_told, incoming_word, outgoing_word, events_limit}
use Rattle.op_noting.specs.declared.touched.Touched.{Touched}
use Rattle.op_noting.proofs.Adding.{few_told}

abbrev value_of : List Event → ℕ → EventsValue
value_of events spare = record { events = events; spare = spare }

same_value : (xs ys : List Event) (m n : ℕ) → xs ≡ ys → m ≡ n → value_of xs m ≡ value_of ys n
same_value xs ys m n p q = cc

pub noted_twice : (value : EventsValue) (xs ys : List EventRow) → noted_all (noted_all value xs) ys ≡ noted_all value (xs ++ ys)
noted_twice value xs ys =
    same_value ((value.events ++ map untried xs) ++ map untried ys) (value.events ++ map untried (xs ++ ys)) ((value.spare - length xs) - length ys) (value.spare - length (xs ++ ys))
    (append_assoc value.events (map untried xs) (map untried ys) ∙ ap (λ l. value.events ++ l) (sym (map-append untried xs ys)))
    (omega (arith, length-append xs ys))

-- an act that is no attempt
pub plain_act : (value : EventsValue) (t : ℕ) (act : Act) (payments : Touched) → ((event outcome : ℕ) → ¬ (act ≡ Attempted event outcome)) → noted_all value (told t act payments) ≡ after_act value t act payments
plain_act value t (Attempted event outcome) payments never = absurd (never event outcome refl)
plain_act value t _ payments never = refl

-- the outgoing payment's event was noted, and then that of the incoming one
pub both_noted : (old between new : EventsValue) (t : ℕ) (act : Act) (payments : Touched) (first second : Option EventWord) → between ≡ noted_all old (told_of (outgoing_told t) first payments.outgoing) → new ≡ noted_all between (told_of (incoming_told t) second payments.incoming)
    → first ≡ outgoing_word act → second ≡ incoming_word act → new ≡ noted_all old (told t act payments)
both_noted old between new t act payments first second p q f g =
    let xs = λ (w : Option EventWord). told_of (outgoing_told t) w payments.outgoing in
    let ys = λ (w : Option EventWord). told_of (incoming_told t) w payments.incoming in
    q ∙ ap (λ v. noted_all v (ys second)) p ∙ noted_twice old (xs first) (ys second)
    ∙ ap (λ w. noted_all old (xs w ++ ys second)) f ∙ ap (λ w. noted_all old (xs (outgoing_word act) ++ ys w)) g

pub room_left : (old new : EventsValue) (t : ℕ) (act : Act) (payments : Touched) → new ≡ noted_all old (told t act payments) → old.spare ≤ new.spare + events_limit
room_left old new t act payments is =
    let spare : new.spare ≡ old.spare - length (told t act payments) = ap (λ v. v.spare) is in
    omega (arith, spare, few_told t act payments)
