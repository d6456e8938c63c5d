-- No entry of a legal history changes what is not there.
use Rattle.std.proofs.Common.{◌≡◌, ℕ, Bool, true, false, cond, ◌||◌, List, [], ◌∷◌, ◌++◌, ◌+◌, length, refl, ◌∙◌, sym, ap, subst, Some, None, is_some}
use Rattle.std.specs.Prelude.{◌==◌}
use Rattle.op_model.specs.Events.{event_row}
use Rattle.op_model.specs.Grants.{GrantMade, grants_made, grant_asked, grant_row, grant_so_far, has_act}
use Rattle.op_model.specs.History.{nth}
use Rattle.op_model.specs.Incoming.{is_closing}
use Rattle.op_model.specs.Legal.{IsLegal, IsNext}
use Rattle.op_model.specs.Payments.{outgoing_row, incoming_row, is_step}
use Rattle.op_model.specs.declared.act.Act.{Act}
use Rattle.op_model.specs.declared.act.Act.TheVariants as acts
use Rattle.op_model.specs.declared.act.Entry.{Entry}
use Rattle.op_model.specs.declared.act.FailReason.{FailReason}
use Rattle.op_model.proofs.GrantParts.{act-next}
use Rattle.op_model.proofs.GrantsNext.{changes_grant}
use Rattle.op_model.proofs.Next.{grants_made-next}
use Rattle.op_model.proofs.Numbered.{same_number, nth-numbered}
use Rattle.std.specs.Option.{option_to_list}
use Rattle.op_legal.specs.Numbers.{NamesMade, HasOutgoing, HasGrant, HasIncoming, HasEvent}
use Rattle.op_legal.proofs.Induction.{legal_induction}
use Rattle.op_legal.proofs.Named.{next_names}
use Rattle.op_legal.proofs.Stays.{there_stays, outgoing_stays, incoming_stays, event_stays, some_mapped}

-- ---- acts that change a row name it

or_false : (b : Bool) → (b || false) ≡ true → b ≡ true
or_false true h = refl
or_false false h = h

failing : (b : Bool) (reason : FailReason) → is_some (cond b (Some reason) None) ≡ true → b ≡ true
failing true reason h = refl
failing false reason h = h

at_number : (P : ℕ → Type 0) (k n : ℕ) → (k == n) ≡ true → P k → P n
at_number P k n same h = subst P (same_number k n same) h

pub step_named : (history : List Entry) (act : Act) (p : ℕ) → is_step p act ≡ true → NamesMade history act → HasOutgoing history p
step_named history (acts.OutgoingFunded n k) p h made = at_number (HasOutgoing history) n p (or_false (n == p) h) made
step_named history (acts.OutgoingSent n k) p h made = at_number (HasOutgoing history) n p (or_false (n == p) h) made
step_named history (acts.OutgoingCompleted n k) p h made = at_number (HasOutgoing history) n p (or_false (n == p) h) made
step_named history (acts.OutgoingFailed n k reason) p h made = at_number (HasOutgoing history) n p (failing (n == p) reason h) made
step_named history _ p h made = absurd (let e : false ≡ true = h in cc)

pub change_named : (history : List Entry) (act : Act) (g : ℕ) → changes_grant g act ≡ true → NamesMade history act → HasGrant history g
change_named history (acts.GrantAccepted n word) g h made = at_number (HasGrant history) n g h made
change_named history (acts.GrantRejected n word) g h made = at_number (HasGrant history) n g h made
change_named history (acts.GrantPolled n) g h made = at_number (HasGrant history) n g h made
change_named history (acts.GrantContinued n word) g h made = at_number (HasGrant history) n g h made
change_named history (acts.GrantCancelled n) g h made = at_number (HasGrant history) n g h made
change_named history (acts.TokenRotated n word) g h made = at_number (HasGrant history) n g h made
change_named history (acts.TokenRevoked n) g h made = at_number (HasGrant history) n g h made
change_named history _ g h made = absurd (let e : false ≡ true = h in cc)

pub closing_named : (history : List Entry) (act : Act) (i : ℕ) → is_closing i act ≡ true → NamesMade history act → HasIncoming history i
closing_named history (acts.IncomingCompleted grant n) i h made = at_number (HasIncoming history) n i h made.1
closing_named history (acts.IncomingExpired n) i h made = at_number (HasIncoming history) n i h made
closing_named history _ i h made = absurd (let e : false ≡ true = h in cc)

-- an attempt on event n
abbrev pub is_attempt : ℕ → Act → Bool
is_attempt n (acts.Attempted event outcome) = event == n
is_attempt n _ = false

pub attempt_named : (history : List Entry) (act : Act) (n : ℕ) → is_attempt n act ≡ true → NamesMade history act → HasEvent history n
attempt_named history (acts.Attempted event outcome) n h made = at_number (HasEvent history) event n h made
attempt_named history _ n h made = absurd (let e : false ≡ true = h in cc)

-- ---- what is not there

-- what an act changes is there, and stays there
pub record IsNamed (test : Act → Bool) (made : List Entry → Bool) : Type 0 where
  pub stays : (history : List Entry) (e : Entry) → made history ≡ true → made (history ++ e ∷ []) ≡ true
  pub named : (history : List Entry) (act : Act) → test act ≡ true → NamesMade history act → made history ≡ true

false_where : (b : Bool) → (b ≡ true → ⊥) → b ≡ false
false_where true h = absurd (h refl)
false_where false h = refl

unnamed_next : (test : Act → Bool) (made : List Entry → Bool) (history : List Entry) (e : Entry) → IsNamed test made → IsNext history e → (made history ≡ false → has_act test history ≡ false) → made (history ++ e ∷ []) ≡ false → has_act test (history ++ e ∷ []) ≡ false
unnamed_next test made history e is next before none =
    let not : made history ≡ false = false_where (made history) (λ h. absurd (let f : true ≡ false = sym (is.stays history e h) ∙ none in cc)) in
    let own : test e.act ≡ false = false_where (test e.act) (λ h. absurd (let f : true ≡ false = sym (is.named history e.act h (next_names history e next)) ∙ not in cc)) in
    act-next test history e ∙ ap (λ b. b || test e.act) (before not) ∙ own

pub unnamed : (test : Act → Bool) (made : List Entry → Bool) → IsNamed test made → (history : List Entry) → IsLegal history → made history ≡ false → has_act test history ≡ false
unnamed test made is history legal =
    legal_induction (λ h. made h ≡ false → has_act test h ≡ false) (λ none. refl) (λ h e front next before none. unnamed_next test made h e is next before none) history legal

pub payment_unnamed : (history : List Entry) (p : ℕ) → IsLegal history → is_some (outgoing_row history p) ≡ false → has_act (is_step p) history ≡ false
payment_unnamed history p legal none =
    unnamed (is_step p) (λ h. is_some (outgoing_row h p)) (record { stays = λ h e there. outgoing_stays h (e ∷ []) p there; named = λ h act is made. step_named h act p is made }) history legal none

pub grant_made : (history : List Entry) (g : ℕ) → is_some (grant_row history g) ≡ is_some (nth (grants_made history) g)
grant_made history g = ap is_some (nth-numbered (grant_so_far history) (grants_made history) g) ∙ some_mapped (λ (m : GrantMade). grant_so_far history (g, m)) (nth (grants_made history) g)

pub grant_stays_there : (history : List Entry) (e : Entry) (g : ℕ) → is_some (grant_row history g) ≡ true → is_some (grant_row (history ++ e ∷ []) g) ≡ true
grant_stays_there history e g h =
    grant_made (history ++ e ∷ []) g
    ∙ ap (λ (l : List GrantMade). is_some (nth l g)) (grants_made-next history e)
    ∙ there_stays (grants_made history) (option_to_list (grant_asked (1 + length history) e.at e.act)) g (sym (grant_made history g) ∙ h)

pub grant_unnamed : (history : List Entry) (g : ℕ) → IsLegal history → is_some (grant_row history g) ≡ false → has_act (changes_grant g) history ≡ false
grant_unnamed history g legal none =
    unnamed (changes_grant g) (λ h. is_some (grant_row h g)) (record { stays = λ h e there. grant_stays_there h e g there; named = λ h act is made. change_named h act g is made }) history legal none

pub incoming_unnamed : (history : List Entry) (i : ℕ) → IsLegal history → is_some (incoming_row history i) ≡ false → has_act (is_closing i) history ≡ false
incoming_unnamed history i legal none =
    unnamed (is_closing i) (λ h. is_some (incoming_row h i)) (record { stays = λ h e there. incoming_stays h (e ∷ []) i there; named = λ h act is made. closing_named h act i is made }) history legal none

pub event_unnamed : (history : List Entry) (n : ℕ) → IsLegal history → is_some (event_row history n) ≡ false → has_act (is_attempt n) history ≡ false
event_unnamed history n legal none =
    unnamed (is_attempt n) (λ h. is_some (event_row h n)) (record { stays = λ h e there. event_stays h (e ∷ []) n there; named = λ h act is made. attempt_named h act n is made }) history legal none
