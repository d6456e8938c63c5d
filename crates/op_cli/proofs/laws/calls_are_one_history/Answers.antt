use Rattle.std.proofs.Common.{◌≡◌, List, ◌++◌, inl, inr, ◌∙◌, ap, subst}
use Rattle.op_desk.proofs.Lists.{all-front}
use Rattle.op_desk.specs.Wallets.{IsSound}
use Rattle.op_model.proofs.LegalNext.{legal-front}
use Rattle.op_model.specs.declared.act.Entry.{Entry}
use Rattle.op_session.specs.Stood.{Stood, now, with_rounds, entries_of}
use Rattle.op_cli.proofs.Journals.{now_more}
use Rattle.op_cli.proofs.laws.calls_are_one_history.Goals as goal

pub returns-clause-tried : goal.returns-clause-tried
returns-clause-tried g c old new next last before after before' after' status status' first second told image =
    elim (first.at_exit told (g.D.Disk.seen next) image) [
      | inl stands ↦ inl (second.continues told (now first.final.stands) stands)
      | inr tried ↦ inr (second.continues told (now first.final.tried) tried)
    ]

-- what begins a sound history is one
sound_front : (xs ys : List Entry) → IsSound (xs ++ ys) → IsSound xs
sound_front xs ys sound = record { legal = legal-front xs ys sound.legal; built = all-front _ xs ys sound.built }

sound_before : (s t : Stood) (rest : List (List Entry)) → t ≡ with_rounds s rest → IsSound (now t) → IsSound (now s)
sound_before s t rest is sound = sound_front (now s) (entries_of rest) (subst IsSound (ap now is ∙ now_more s rest) sound)

pub returns-clause-legal : goal.returns-clause-legal
returns-clause-legal g c old new next before after status first told image =
    elim (first.at_exit told (g.D.Disk.seen next) image) [
      | inl stands ↦ (now first.final.stands, record { spells = stands; sound = sound_before first.final.stands first.final.tried first.tried.0 first.tried.1 first.sound })
      | inr tried ↦ (now first.final.tried, record { spells = tried; sound = first.sound })
    ]

pub returns-clause-settled : goal.returns-clause-settled
returns-clause-settled g c old new next last before after before' after' status status' first second told image calm =
    elim (first.at_exit told (g.D.Disk.seen next) image) [
      | inl stands ↦ second.continues told (now first.final.stands) stands
      | inr tried ↦ second.continues told (now first.final.tried) tried ∙ ap now (first.settled calm)
    ]
