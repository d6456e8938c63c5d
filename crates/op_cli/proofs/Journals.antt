-- What rounds leave on a disk, one after another.
use Rattle.std.proofs.Common.{◌≡◌, ◌≢◌, ◌≤◌, ◌<◌, ◌+◌, ◌*◌, ◌⊎◌, ℕ, Bool, List, [], ◌∷◌, ◌++◌, length, IsTrue, IsSome, Some, refl, sym, ap, subst, ◌∙◌, inl, inr, arith, append_assoc, length-append, nat_le}
use Rattle.std.specs.Option.{option_map_or}
use Rattle.std.specs.declared.option.Option.{Option}
use Rattle.std.proofs.lemmas.Bool.{cases_Bool, leb-true, leb-false}
use Rattle.std.proofs.lemmas.List.{take-append-le, append-nil}
use Rattle.std.proofs.lemmas.List.Concat.{flat_map-append}
use Rattle.std.proofs.Math.Seq.{take-length}
use Rattle.op_causes.specs.Causes.{Rose}
use Rattle.op_desk.specs.Batches.{DeskValue, IsWhole}
use Rattle.op_desk.specs.Spelling.{SpellsRounds, SpellsEither, Stands, LacksRoom, history_of, with_round}
use Rattle.op_desk.specs.Wallets.{WalletValue, IsSound}
use Rattle.op_desk.proofs.Closing.{image_spells}
use Rattle.op_desk.proofs.Unique.{one_spelling}
use Rattle.op_disk.specs.Moments.{LeavesOnly}
use Rattle.op_disk.specs.declared.Disk.{Ghosts}
use Rattle.op_model.specs.declared.act.Entry.{Entry}
use Rattle.op_session.specs.Session.{Final, settled, tried_after, unfit_after}
use Rattle.op_session.specs.Stood.{Stood, opened_with, entries_of, now, with_rounds, round_of, with_entries}
use Rattle.op_cli.specs.Kept.{AllSpell, FromEach, SpellsAtLeast, SpellsFinal, GoesOn, Lasts, IsUnfit, Leaves, Endures, Kept, IsReady, history_at}

-- ---- what stands, and more rounds

pub now_opened : (history : List Entry) → now (opened_with history) ≡ history
now_opened history = append-nil history

-- what stands, with these rounds in place of its own
abbrev pub with_list : Stood → List (List Entry) → Stood
with_list s rounds = record { found = s.found; rounds = rounds }

pub no_more : (s : Stood) → s ≡ with_rounds s []
no_more s = ap (with_list s) (sym (append-nil s.rounds))

pub now_more : (s : Stood) (more : List (List Entry)) → now (with_rounds s more) ≡ now s ++ entries_of more
now_more s more = ap (λ (h : List Entry). s.found ++ h) (flat_map-append (λ (round : List Entry). round) s.rounds more) ∙ sym (append_assoc s.found (entries_of s.rounds) (entries_of more))

pub round_entries : (entries : List Entry) → entries_of (round_of entries) ≡ entries
round_entries [] = refl
round_entries (e ∷ es) = append-nil (e ∷ es)

pub now_with : (s : Stood) (entries : List Entry) → now (with_entries s entries) ≡ now s ++ entries
now_with s entries = now_more s (round_of entries) ∙ ap (λ (h : List Entry). now s ++ h) (round_entries entries)

-- the same, from a history
pub now_from : (history : List Entry) (s : Stood) (entries : List Entry) → now s ≡ history → now (with_entries s entries) ≡ history ++ entries
now_from history s entries is = now_with s entries ∙ ap (λ (h : List Entry). h ++ entries) is

-- ---- rounds and those that begin them

-- all of them
pub spells_all : (least : ℕ) (found new : List (List Entry)) (c : List ℕ) → least ≤ length new → SpellsRounds (found ++ new) c → SpellsAtLeast least found new c
spells_all least found new c enough is = (length new, enough, omega arith, subst (λ (rounds : List (List Entry)). SpellsRounds (found ++ rounds) c) (sym (take-length new)) is)

-- what begins rounds begins more of them
pub spells_longer : (least : ℕ) (found new more : List (List Entry)) (c : List ℕ) → SpellsAtLeast least found new c → SpellsAtLeast least found (new ++ more) c
spells_longer least found new more c (n, enough, within, is) =
    (n, enough, omega (arith, within, length-append new more), subst (λ (rounds : List (List Entry)). SpellsRounds (found ++ rounds) c) (sym (take-append-le n new more within)) is)

-- ---- a round behind rounds

pub history_with : (rounds : List (List Entry)) (round : List Entry) → history_of (with_round rounds round) ≡ history_of rounds ++ round
history_with rounds [] = sym (append-nil (history_of rounds))
history_with rounds (e ∷ es) = flat_map-append (λ (round : List Entry). round) rounds ((e ∷ es) ∷ []) ∙ ap (λ (h : List Entry). history_of rounds ++ h) (append-nil (e ∷ es))

round_behind : (found rounds : List (List Entry)) (round : List Entry) → with_round (found ++ rounds) round ≡ found ++ (rounds ++ round_of round)
round_behind found rounds [] = ap (λ (more : List (List Entry)). found ++ more) (sym (append-nil rounds))
round_behind found rounds (e ∷ es) = append_assoc found rounds ((e ∷ es) ∷ [])

spells_round : (found : List (List Entry)) (s : Stood) (round : List Entry) (c : List ℕ) → SpellsRounds (with_round (found ++ s.rounds) round) c → SpellsRounds (found ++ (s.rounds ++ round_of round)) c
spells_round found s round c spelled = subst (λ (rounds : List (List Entry)). SpellsRounds rounds c) (round_behind found s.rounds round) spelled

-- what stands, or that with a round
spells_either : (found : List (List Entry)) (s : Stood) (round : List Entry) (c : List ℕ) → SpellsEither (found ++ s.rounds) round c → SpellsRounds (found ++ s.rounds) c ⊎ SpellsRounds (found ++ (s.rounds ++ round_of round)) c
spells_either found s round c (inl spelled) = inl spelled
spells_either found s round c (inr spelled) = inr (spells_round found s round c spelled)

-- where a round has no room behind a history, it has none behind what stands with it
pub lacks_room : (history : List Entry) (s : Stood) (round : List Entry) (bytes : List ℕ) → now s ≡ history → LacksRoom history (history ++ round) bytes → LacksRoom (now s) (now (with_entries s round)) bytes
lacks_room history s round bytes is lacks = subst (λ (h : List Entry). LacksRoom h (now (with_entries s round)) bytes) (sym is) (subst (λ (h : List Entry). LacksRoom history h bytes) (sym (now_from history s round is)) lacks)

-- ---- one round

leaves_map : {D : Type 0} (g : Ghosts D) (old new : D) (P Q : List ℕ → Type 0) → ((c : List ℕ) → P c → Q c) → LeavesOnly g old new P → LeavesOnly g old new Q
leaves_map g old new P Q f leaves = record {
  later = leaves.later;
  each = λ c there. f c (leaves.each c there);
  before = λ t c early there. elim (leaves.before t c early there) [ inl past ↦ inl past | inr now ↦ inr (f c now) ];
}

at_most_one : (round : List Entry) → length (round_of round) ≤ 1
at_most_one [] = omega arith
at_most_one (e ∷ es) = omega arith

settled_round : (before : Stood) (round : List Entry) → GoesOn before (settled (with_entries before round))
settled_round before round = record {
  more = round_of round;
  stands = refl;
  rest = [];
  tried = no_more (with_entries before round);
  one = omega (arith, at_most_one round, length-append (round_of round) []);
}

module _ {D : Type 0} (g : Ghosts D) where
  -- no call on the disk was made, and where a round did not fit, there was no room for it
  pub leaves_unfit : (only_now : (disk : D) (c : List ℕ) → g.since disk (g.moment disk) c → g.images disk c) (history : List Entry) (before unfit : Stood) (disk : D) → now before ≡ history → IsSound history
      → IsUnfit g.tells (unfit_after before unfit) (g.seen disk) → Leaves g before (unfit_after before unfit) disk disk
  leaves_unfit only_now history before unfit disk is sound room = record {
    goes_on = record { more = []; stands = no_more before; rest = []; tried = no_more before; one = omega arith };
    sound = subst IsSound (sym is) sound;
    settled = λ none. refl;
    unfit = room;
    lasts = λ told found all. record {
      leaves = record {
        later = omega arith;
        each = λ c there. inl (all c (only_now disk c there));
        before = λ t c early there. inl there;
      };
      at_end = λ c image. inl (all c image);
      least = omega arith;
      most = omega arith;
    };
  }

  -- no call on the disk was made, and all fitted
  pub leaves_same : (only_now : (disk : D) (c : List ℕ) → g.since disk (g.moment disk) c → g.images disk c) (history : List Entry) (disk : D) → IsSound history
      → FromEach history (λ s. Leaves g s (settled s) disk disk)
  leaves_same only_now history disk sound s is = leaves_unfit only_now history s s disk is sound (λ differs told. absurd (differs refl))

  -- the same, as a round without entries
  pub leaves_none : (only_now : (disk : D) (c : List ℕ) → g.since disk (g.moment disk) c → g.images disk c) (history : List Entry) (disk : D) → IsSound history
      → FromEach history (λ s. Leaves g s (settled (with_entries s [])) disk disk)
  leaves_none only_now history disk sound s is =
      subst (λ (after : Stood). Leaves g s (settled after) disk disk) (no_more s) (leaves_same only_now history disk sound s is)

  -- a disk on which a journal stands has the rounds that each image of it has
  stands_behind : (reads : (disk : D) → IsTrue g.tells → g.images disk (g.seen disk)) (history : List Entry) (tail : ℕ) (found : List (List Entry)) (s : Stood) (disk : D) → IsTrue g.tells → AllSpell (found ++ s.rounds) (g.images disk)
      → (rounds : List (List Entry)) × (history_of rounds ≡ history) × Stands rounds tail (g.seen disk) (g.images disk) → Stands (found ++ s.rounds) tail (g.seen disk) (g.images disk)
  stands_behind reads history tail found s disk told all (rounds, is, stands) =
      let here = reads disk told in
      subst (λ (r : List (List Entry)). Stands r tail (g.seen disk) (g.images disk))
      (one_spelling (g.seen disk) rounds (found ++ s.rounds) (image_spells rounds tail (g.seen disk) (g.images disk) (g.seen disk) stands here) (all (g.seen disk) here)) stands

  -- the round stands
  pub leaves_round : (reads : (disk : D) → IsTrue g.tells → g.images disk (g.seen disk)) (history round : List Entry) (tail : ℕ) (old new : D) → IsSound (history ++ round)
      → (IsTrue g.tells → (rounds : List (List Entry)) × (history_of rounds ≡ history) × Stands rounds tail (g.seen old) (g.images old))
      → (IsTrue g.tells → (rounds : List (List Entry)) → Stands rounds tail (g.seen old) (g.images old) → LeavesOnly g old new (SpellsEither rounds round))
      → (IsTrue g.tells → (rounds : List (List Entry)) → Stands rounds tail (g.seen old) (g.images old) → (c : List ℕ) → g.images new c → SpellsRounds (with_round rounds round) c)
      → (round ≢ [] → g.moment new ≡ g.moment old + 4) → (round ≡ [] → new ≡ old) → FromEach history (λ s. Leaves g s (settled (with_entries s round)) old new)
  leaves_round reads history round tail old new sound stood any_moment spelled calls empty before is =
      let count = counted round calls empty in
      record {
        goes_on = settled_round before round;
        sound = subst IsSound (sym (now_from history before round is)) sound;
        settled = λ none. refl;
        unfit = λ differs told. absurd (differs refl);
        lasts = λ told found all.
            let stands = stands_behind reads history tail found before old told all (stood told) in
            record {
              leaves = leaves_map g old new (SpellsEither (found ++ before.rounds) round) _ (λ c. spells_either found before round c) (any_moment told (found ++ before.rounds) stands);
              at_end = λ c image. inl (spells_round found before round c (spelled told (found ++ before.rounds) stands c image));
              least = omega (arith, count, length-append before.rounds (round_of round));
              most = omega (arith, count, length-append before.rounds (round_of round));
            };
      }
    where
      counted : (round : List Entry) → (round ≢ [] → g.moment new ≡ g.moment old + 4) → (round ≡ [] → new ≡ old) → g.moment new ≡ g.moment old + 4 * length (round_of round)
      counted [] calls empty = let same = ap g.moment (empty refl) in omega (arith, same)
      counted (e ∷ es) calls empty = let four = calls (λ none. cc) in omega (arith, four)

  -- the round failed on the disk
  pub leaves_failed : (reads : (disk : D) → IsTrue g.tells → g.images disk (g.seen disk)) (counts_now : (disk : D) (t : ℕ) (c : List ℕ) → t ≤ g.moment disk → g.images disk c → g.since disk t c) (history round : List Entry) (tail : ℕ) (old new : D) → round ≢ [] → IsSound (history ++ round)
      → (IsTrue g.tells → (rounds : List (List Entry)) × (history_of rounds ≡ history) × Stands rounds tail (g.seen old) (g.images old))
      → (IsTrue g.tells → (rounds : List (List Entry)) → Stands rounds tail (g.seen old) (g.images old) → LeavesOnly g old new (SpellsEither rounds round))
      → Rose (g.faults old) (g.faults new) → g.moment new ≤ g.moment old + 4 → FromEach history (λ s. Leaves g s (tried_after s (with_entries s round)) old new)
  leaves_failed reads counts_now history [] tail old new some sound stood any_moment rose most before is = absurd (some refl)
  leaves_failed reads counts_now history (e ∷ es) tail old new some sound stood any_moment rose most before is = record {
    goes_on = record { more = []; stands = no_more before; rest = (e ∷ es) ∷ []; tried = refl; one = omega arith };
    sound = subst IsSound (sym (now_from history before (e ∷ es) is)) sound;
    settled = λ none. absurd (none rose);
    unfit = λ differs told. absurd (differs refl);
    lasts = λ told found all.
        let leaves = any_moment told (found ++ before.rounds) (stands_behind reads history tail found before old told all (stood told)) in
        record {
          leaves = leaves_map g old new (SpellsEither (found ++ before.rounds) (e ∷ es)) _ (λ c. spells_either found before (e ∷ es) c) leaves;
          at_end = λ c image. spells_either found before (e ∷ es) c (leaves.each c (counts_now new (g.moment old) c leaves.later image));
          least = omega (arith, leaves.later);
          most = omega (arith, most, length-append before.rounds ((e ∷ es) ∷ []));
        };
  }

-- ---- desks

pub whole_some : (wallet : Option WalletValue) (history : List Entry) → IsWhole wallet history → IsSome wallet
whole_some wallet history is = rw is refl

pub whole_is : (desk : DeskValue) (history : List Entry) → IsWhole desk.wallet history → history_at desk ≡ history
whole_is desk history is = ap (λ (w : Option WalletValue). option_map_or (λ w. w.history) w []) is

pub wallet_is : (desk : DeskValue) (w : WalletValue) → desk.wallet ≡ Some w → history_at desk ≡ w.history
wallet_is desk w is = ap (λ (x : Option WalletValue). option_map_or (λ y. y.history) x []) is

module _ {D : Type 0} (g : Ghosts D) where
  -- the desk is ready behind a round that stands
  pub ready_behind : (desk : DeskValue) (before round : List Entry) (tail : ℕ) (old new : D) → IsWhole desk.wallet (before ++ round)
      → (IsTrue g.tells → (rounds : List (List Entry)) × (history_of rounds ≡ before) × Stands rounds tail (g.seen old) (g.images old))
      → (IsTrue g.tells → (rounds : List (List Entry)) → Stands rounds tail (g.seen old) (g.images old) → Stands (with_round rounds round) desk.tail (g.seen new) (g.images new))
      → IsReady g desk new
  ready_behind desk before round tail old new whole stood stands = record {
    whole = whole_some desk.wallet (before ++ round) whole;
    stands = λ told.
        let s = stood told in
        (with_round s.0 round, history_with s.0 round ∙ (ap (λ (h : List Entry). h ++ round) s.1 ∙ sym (whole_is desk (before ++ round) whole)), stands told s.0 s.2);
  }

-- ---- one more round

module _ {D : Type 0} (g : Ghosts D) (only_now : (disk : D) (c : List ℕ) → g.since disk (g.moment disk) c → g.images disk c) (found : List (List Entry)) where
  -- the rounds that are tried are those before, and then more
  tried_rounds : (before : Stood) (final : Final) (goes : GoesOn before final) → final.tried.rounds ≡ before.rounds ++ (goes.more ++ goes.rest)
  tried_rounds before final goes = ap (λ (h : Stood). h.rounds) goes.tried ∙ (ap (λ (h : Stood). h.rounds ++ goes.rest) goes.stands ∙ append_assoc before.rounds goes.more goes.rest)

  longer_left : (least : ℕ) (before : Stood) (final : Final) (c : List ℕ) → GoesOn before final → SpellsAtLeast least found before.rounds c → SpellsAtLeast least found final.tried.rounds c
  longer_left least before final c goes s =
      subst (λ (rounds : List (List Entry)). SpellsAtLeast least found rounds c) (sym (tried_rounds before final goes)) (spells_longer least found before.rounds (goes.more ++ goes.rest) c s)

  -- what a round leaves is at least what stood before it
  left_at_least : (least : ℕ) (before : Stood) (final : Final) (c : List ℕ) → least ≤ length before.rounds → GoesOn before final → SpellsRounds (found ++ before.rounds) c ⊎ SpellsRounds (found ++ final.tried.rounds) c → SpellsAtLeast least found final.tried.rounds c
  left_at_least least before final c enough goes (inl s) = longer_left least before final c goes (spells_all least found before.rounds c enough s)
  left_at_least least before final c enough goes (inr s) =
      spells_all least found final.tried.rounds c (omega (arith, enough, ap length (tried_rounds before final goes), length-append before.rounds (goes.more ++ goes.rest))) s

  pub endures_more : (before : Stood) (final : Final) (opened old new : D) → Endures g found (settled before) opened old → GoesOn before final → Lasts g found before final old new → Endures g found final opened new
  endures_more before final opened old new stood goes lasts =
      let s = ap (λ (h : Stood). length h.rounds) goes.stands in
      let sl = length-append before.rounds goes.more in
      let t = ap (λ (h : Stood). length h.rounds) goes.tried in
      let tl = length-append final.stands.rounds goes.rest in
      let one = goes.one in
      let ol = length-append goes.more goes.rest in
      record {
        each = λ k c within there. elim (cases_Bool (nat_le k (length before.rounds))) [
          | inl soon ↦
              let early : k ≤ length before.rounds = leb-true k (length before.rounds) soon in
              elim (lasts.leaves.before (g.moment opened + 4 * k) c (omega (arith, early, stood.least)) there) [
                | inl past ↦ longer_left k before final c goes (stood.each k c early past)
                | inr now ↦ left_at_least k before final c early goes now
              ]
          | inr after ↦
              let late : length before.rounds < k = leb-false k (length before.rounds) after in
              let at_end : g.moment opened + 4 * k ≡ g.moment new = omega (arith, late, within, stood.least, stood.most, lasts.least, lasts.most, s, sl, t, tl, one, ol) in
              elim (lasts.at_end c (only_now new c (subst (λ (m : ℕ). g.since new m c) at_end there))) [
                | inl stands ↦ subst (λ (h : Stood). SpellsAtLeast k found h.rounds c) (sym goes.tried) (spells_longer k found final.stands.rounds goes.rest c (spells_all k found final.stands.rounds c within stands))
                | inr tried ↦ spells_all k found final.tried.rounds c (omega (arith, within, t, tl)) tried
              ]
        ];
        before = λ m c early there. elim (lasts.leaves.before m c (omega (arith, early, stood.least)) there) [
          | inl past ↦ elim (stood.before m c early past) [
            | inl opening ↦ inl opening
            | inr left ↦ inr (longer_left 0 before final c goes left)
          ]
          | inr now ↦ inr (left_at_least 0 before final c (omega arith) goes now)
        ];
        at_end = lasts.at_end;
        least = omega (arith, stood.least, lasts.least, s, sl);
        most = omega (arith, stood.most, lasts.most, s, sl, t, tl);
      }

-- where no commit failed, each image has what stands
settled_end : (found : List (List Entry)) (s : Stood) (c : List ℕ) → SpellsFinal found (settled s) c → SpellsRounds (found ++ s.rounds) c
settled_end found s c (inl spelled) = spelled
settled_end found s c (inr spelled) = spelled

module _ {D : Type 0} (g : Ghosts D) (only_now : (disk : D) (c : List ℕ) → g.since disk (g.moment disk) c → g.images disk c) where
  -- a session goes on by a turn
  pub kept_more : (first : List Entry) (before : Stood) (final : Final) (opened old new : D) → Kept g first (settled before) opened old → g.faults old ≡ g.faults opened
      → Leaves g before final old new → Kept g first final opened new
  kept_more first before final opened old new kept calm leaves = record {
    begins = ap (λ (h : Stood). h.found) leaves.goes_on.stands ∙ kept.begins;
    tried = (leaves.goes_on.rest, leaves.goes_on.tried);
    sound = leaves.sound;
    unfit = leaves.unfit;
    settled = λ none. leaves.settled (λ rose. none (subst (λ (n : ℕ). Rose n (g.faults new)) calm rose));
    endures = λ told found all.
        let stood = kept.endures told found all in
        endures_more g only_now found before final opened old new stood leaves.goes_on (leaves.lasts told found (λ c image. settled_end found before c (stood.at_end c image)));
  }

  -- a session begins
  pub kept_first : (first : List Entry) (opened : D) → IsSound first → Kept g first (settled (opened_with first)) opened opened
  kept_first first opened sound = record {
    begins = refl;
    tried = ([], refl);
    sound = subst IsSound (sym (now_opened first)) sound;
    settled = λ none. refl;
    unfit = λ differs told. absurd (differs refl);
    endures = λ told found all.
        let spelled : (c : List ℕ) → g.images opened c → SpellsRounds (found ++ []) c = λ c image. subst (λ (rounds : List (List Entry)). SpellsRounds rounds c) (sym (append-nil found)) (all c image) in
        record {
          each = λ k c within there.
              let none : k ≡ 0 = omega (arith, within) in
              spells_all k found [] c within (spelled c (only_now opened c (subst (λ (m : ℕ). g.since opened m c) (omega (arith, none)) there)));
          before = λ m c early there. inl there;
          at_end = λ c image. inl (spelled c image);
          least = omega arith;
          most = omega arith;
        };
  }
