-- What an opening leaves, and what stands behind it.
use Rattle.std.proofs.Common.{◌≡◌, ◌⊎◌, ◌≤◌, ◌<◌, ◌+◌, ◌++◌, ℕ, List, [], length, sym, ap, subst, ◌∙◌, inl, inr, arith}
use Rattle.std.proofs.lemmas.List.{append-nil}
use Rattle.std.proofs.lemmas.List.Concat.{flat_map-append}
use Rattle.op_desk.proofs.Recovering.{short_spells}
use Rattle.op_desk.specs.Spelling.{Spells, SpellsRounds, history_of, opening_calls}
use Rattle.op_disk.specs.declared.Disk.{Ghosts}
use Rattle.op_journal.specs.Recovered.{IsOldOrShort}
use Rattle.op_model.specs.declared.act.Entry.{Entry}
use Rattle.op_session.specs.Session.{Final}
use Rattle.op_session.specs.Stood.{Stood, entries_of, now, with_rounds}
use Rattle.op_cli.specs.Applies.{EveryMoment}
use Rattle.op_cli.specs.Kept.{AllSpell, SpellsFinal, Endures}
use Rattle.op_cli.proofs.Journals.{spells_all, spells_longer}

-- what an opening may leave spells the rounds that the disk spelled
pub old_or_short_spells : (seen c : List ℕ) (rounds : List (List Entry)) → SpellsRounds rounds seen → IsOldOrShort (λ d. d ≡ seen) seen c → SpellsRounds rounds c
old_or_short_spells seen c rounds s (inl same) = subst (λ (d : List ℕ). SpellsRounds rounds d) (sym same) s
old_or_short_spells seen c rounds s (inr (short, is)) = short_spells rounds seen c short is s

module _ {D : Type 0} (g : Ghosts D) where
  -- an opened disk has the rounds that were found
  pub opened_spells : (counts_now : (disk : D) (t : ℕ) (c : List ℕ) → t ≤ g.moment disk → g.images disk c → g.since disk t c) (rounds : List (List Entry)) (old opened : D) → SpellsRounds rounds (g.seen old) → g.moment old + 1 < g.moment opened
      → ((c : List ℕ) → g.since opened (g.moment old + 1) c → IsOldOrShort (λ d. d ≡ g.seen old) (g.seen old) c) → AllSpell rounds (g.images opened)
  opened_spells counts_now rounds old opened spelled later synced c image =
      old_or_short_spells (g.seen old) c rounds spelled (synced c (counts_now opened (g.moment old + 1) c (omega (arith, later)) image))

  pub every_moment : (final : Final) (old opened new : D) (rounds : List (List Entry)) → SpellsRounds rounds (g.seen old) → g.moment opened ≡ g.moment old + opening_calls (length rounds) (g.seen old) → g.moment old + 1 < g.moment opened
      → ((c : List ℕ) → g.since opened (g.moment old + 1) c → IsOldOrShort (λ d. d ≡ g.seen old) (g.seen old) c) → Endures g rounds final opened new → EveryMoment g final old new
  every_moment final old opened new rounds spelled calls later synced stood = record {
    found = rounds;
    spelled = spelled;
    opened = g.moment opened;
    opening = calls;
    prefix = λ c there. elim (stood.before (g.moment old + 1) c (omega (arith, later)) there) [
      | inl opening ↦
          spells_longer 0 rounds [] final.tried.rounds c
          (spells_all 0 rounds [] c (omega arith) (subst (λ (r : List (List Entry)). SpellsRounds r c) (sym (append-nil rounds)) (old_or_short_spells (g.seen old) c rounds spelled (synced c opening))))
      | inr left ↦ left
    ];
    each = stood.each;
    least = stood.least;
    most = stood.most;
  }

-- ---- the end

-- the history of the rounds that were found and of those behind them
end_history : (rounds : List (List Entry)) (s : Stood) → history_of rounds ≡ s.found → history_of (rounds ++ s.rounds) ≡ now s
end_history rounds s is = flat_map-append (λ (round : List Entry). round) rounds s.rounds ∙ ap (λ (h : List Entry). h ++ entries_of s.rounds) is

-- a crash at the end leaves what stands, or that with the round that was tried
pub end_spells : (rounds : List (List Entry)) (final : Final) (c : List ℕ) → history_of rounds ≡ final.stands.found → (rest : List (List Entry)) × (final.tried ≡ with_rounds final.stands rest) → SpellsFinal rounds final c
    → Spells (now final.stands) c ⊎ Spells (now final.tried) c
end_spells rounds final c is tried (inl stands) = inl (rounds ++ final.stands.rounds, stands, end_history rounds final.stands is)
end_spells rounds final c is tried (inr more) = inr (rounds ++ final.tried.rounds, more, end_history rounds final.tried (is ∙ sym (ap (λ (s : Stood). s.found) tried.1)))
