-- What a round of one task is replied, and what is written of it.
use Rattle.std.proofs.Common.{◌≡◌, ◌≢◌, ◌⊎◌, ◌++◌, ℕ, true, false, List, [], Ok, Err, refl, sym, ap, subst, inl, inr, arith}
use Rattle.std.specs.declared.option.Option.{Option}
use Rattle.std.specs.declared.result.Result.{Result}
use Rattle.std.specs.Io.KnownBytes.{Appends}
use Rattle.std.proofs.lemmas.List.{append-nil}
use Rattle.op_desk.specs.Wallets.{Handles}
use Rattle.op_ports.specs.Sink.{AppendsFront}
use Rattle.op_model.specs.History.{moment_of_turn}
use Rattle.op_model.specs.Printed.{printed}
use Rattle.op_model.specs.Round.{FeesAllowed, refusal_reply}
use Rattle.op_model.specs.declared.act.Entry.{Entry}
use Rattle.op_model.specs.declared.reply.Reply.{Reply}
use Rattle.op_model.specs.declared.reply.Refusal.{Refusal}
use Rattle.op_model.specs.declared.reply.Refusal.TheVariants.{Memory, DiskFault, JournalFull}
use Rattle.op_model.specs.declared.request.Request.{Request}
use Rattle.op_model.specs.declared.request.Task.{Task}
use Rattle.op_model.specs.declared.request.Task.TheVariants.{Ask}
use Rattle.op_model.specs.declared.request.Verdict.{Verdict}
use Rattle.op_session.specs.Session.{Final, settled, tried_after, unfit_after}
use Rattle.op_session.specs.Stood.{Stood, now, with_entries}
use Rattle.op_session.specs.declared.end.End.{End}
use Rattle.op_session.specs.declared.end.End.TheVariants as ends
use Rattle.op_cli.specs.Turns.{Answers, NotHandled, NotStood, NotWritten, NotTold}
use Rattle.op_cli.proofs.Journals.{no_more}

-- ---- handling

pub handles_same : (allows : FeesAllowed) (a b new : List Entry) (s t p q : ℕ) (task : Task) (word : List ℕ) (reply : Reply) → a ≡ b → s ≡ t → p ≡ q → Handles allows a s p task word reply new → Handles allows b t q task word reply new
handles_same allows a b new s t p q task word reply x y z h =
    subst (λ (n : ℕ). Handles allows b t n task word reply new) z (subst (λ (n : ℕ). Handles allows b n p task word reply new) y (subst (λ (k : List Entry). Handles allows k s p task word reply new) x h))

-- a round that began with what stands
pub handles_from : (allows : FeesAllowed) (history begun entries : List Entry) (s : Stood) (answer : ℕ) (task : Task) (word : List ℕ) (reply : Reply) → now s ≡ history → begun ≡ history → Handles allows history (moment_of_turn history answer) 0 task word reply (begun ++ entries)
    → Handles allows (now s) (moment_of_turn (now s) answer) 0 task word reply (now s ++ entries)
handles_from allows history begun entries s answer task word reply is from h =
    subst (λ (k : List Entry). Handles allows k (moment_of_turn k answer) 0 task word reply (k ++ entries)) (sym is) (subst (λ (k : List Entry). Handles allows history (moment_of_turn history answer) 0 task word reply (k ++ entries)) from h)

-- a task that is handled is answered in a turn
pub answers_handled : (allows : FeesAllowed) (old entries : List Entry) (verdict : Verdict) (answer : ℕ) (word : List ℕ) (request : Request) (reply : Reply) → Handles allows old (moment_of_turn old answer) 0 (Ask request verdict) word reply (old ++ entries) → Answers allows old verdict answer word (Ok request) reply entries
answers_handled allows old entries verdict answer word request reply (fee, wanted, handled) = (fee, wanted, λ text raw. (old ++ entries, handled, omega arith, refl))

-- a refusal of what means no request
pub answers_refused : (allows : FeesAllowed) (old : List Entry) (verdict : Verdict) (answer : ℕ) (word : List ℕ) (refusal : Refusal) → Answers allows old verdict answer word (Err refusal) (refusal_reply old refusal) []
answers_refused allows old verdict answer word refusal = (0, false, λ text raw. (refl, append-nil old))

-- memory is wanting
pub answers_wanting : (allows : FeesAllowed) (old : List Entry) (verdict : Verdict) (answer : ℕ) (word : List ℕ) (asked : Result Request Refusal) → Answers allows old verdict answer word asked (refusal_reply old Memory) []
answers_wanting allows old verdict answer word (Ok request) = (0, true, λ text raw. (old ++ [], inl (refl, (tt, refl), append-nil old), omega arith, refl))
answers_wanting allows old verdict answer word (Err refusal) = (0, true, λ text raw. (refl, append-nil old))

-- ---- what is written of a round

module _ (old : Stood) (entries : List Entry) (written written' : Option (List ℕ)) (text : List ℕ) where
  pub cut_reply : (end : End) → end ≡ ends.WriteFault → AppendsFront written written' text → NotStood old entries written written' text end (settled (with_entries old entries))
  cut_reply end is front = subst (λ (e : End). NotStood old entries written written' text e (settled (with_entries old entries))) (sym is) (inl (front, refl))

  pub lost_on_disk : (end : End) (last : List ℕ) → entries ≢ [] → last ≡ printed (refusal_reply (now old) DiskFault) → ((end ≡ ends.DiskFault) × Appends written written' last) ⊎ ((end ≡ ends.WriteFault) × AppendsFront written written' last)
      → NotStood old entries written written' text end (tried_after old (with_entries old entries))
  lost_on_disk end last some is (inl (whole, all)) =
      subst (λ (e : End). NotStood old entries written written' text e (tried_after old (with_entries old entries))) (sym whole) (some, subst (λ (k : List ℕ). Appends written written' k) is all, refl)
  lost_on_disk end last some is (inr (cut, front)) =
      subst (λ (e : End). NotStood old entries written written' text e (tried_after old (with_entries old entries))) (sym cut) (inr (inl (some, subst (λ (k : List ℕ). AppendsFront written written' k) is front, refl)))

  pub lost_for_room : (end : End) (last : List ℕ) → entries ≢ [] → last ≡ printed (refusal_reply (now old) JournalFull) → ((end ≡ ends.JournalFull) × Appends written written' last) ⊎ ((end ≡ ends.WriteFault) × AppendsFront written written' last)
      → NotStood old entries written written' text end (unfit_after old (with_entries old entries))
  lost_for_room end last some is (inl (whole, all)) =
      subst (λ (e : End). NotStood old entries written written' text e (unfit_after old (with_entries old entries))) (sym whole) (some, subst (λ (k : List ℕ). Appends written written' k) is all, refl)
  lost_for_room end last some is (inr (cut, front)) =
      subst (λ (e : End). NotStood old entries written written' text e (unfit_after old (with_entries old entries))) (sym cut) (inr (inr (some, subst (λ (k : List ℕ). AppendsFront written written' k) is front, refl)))

module _ (allows : FeesAllowed) (old : Stood) (written written' : Option (List ℕ)) (answer : ℕ) (word : List ℕ) where
  pub not_handled : (entries : List Entry) (task : Task) (reply : Reply) (end : End) (final : Final) → Handles allows (now old) (moment_of_turn (now old) answer) 0 task word reply (now old ++ entries) → NotStood old entries written written' (printed reply) end final
      → NotHandled allows old written written' answer word task end final
  not_handled entries task reply ends.Done final h n = (entries, reply, h, n)
  not_handled entries task reply ends.ReadFault final h n = (entries, reply, h, n)
  not_handled entries task reply ends.DiskFault final h n = (entries, reply, h, n)
  not_handled entries task reply ends.WriteFault final h n = (entries, reply, h, n)
  not_handled entries task reply ends.JournalFull final h n = (entries, reply, h, n)
  not_handled entries task reply ends.OutOfMemory final h n = absurd n
  not_handled entries task reply ends.WordsFault final h n = (entries, reply, h, n)
  not_handled entries task reply ends.Malformed final h n = (entries, reply, h, n)
  not_handled entries task reply ends.TurnLimit final h n = (entries, reply, h, n)

  pub not_told : (request : Request) (verdict : Verdict) (end : End) (final : Final) → NotHandled allows old written written' answer word (Ask request verdict) end final → NotTold allows old written written' verdict answer word (Ok request) end final
  not_told request verdict ends.WriteFault final (entries, reply, h, inl (front, is)) = inl (entries, reply, answers_handled allows (now old) entries verdict answer word request reply h, front, is)
  not_told request verdict ends.WriteFault final (entries, reply, h, inr (inl (some, front, is))) = inr (inl (entries, reply, answers_handled allows (now old) entries verdict answer word request reply h, some, front, is))
  not_told request verdict ends.WriteFault final (entries, reply, h, inr (inr (some, front, is))) = inr (inr (entries, reply, answers_handled allows (now old) entries verdict answer word request reply h, some, front, is))
  not_told request verdict ends.DiskFault final (entries, reply, h, (some, all, is)) = (entries, reply, answers_handled allows (now old) entries verdict answer word request reply h, some, all, is)
  not_told request verdict ends.JournalFull final (entries, reply, h, (some, all, is)) = (entries, reply, answers_handled allows (now old) entries verdict answer word request reply h, some, all, is)
  not_told request verdict ends.OutOfMemory final n = n
  not_told request verdict ends.Done final n = absurd n.3
  not_told request verdict ends.ReadFault final n = absurd n.3
  not_told request verdict ends.WordsFault final n = absurd n.3
  not_told request verdict ends.Malformed final n = absurd n.3
  not_told request verdict ends.TurnLimit final n = absurd n.3

  -- a reply that adds nothing is not written whole
  pub not_told_refused : (verdict : Verdict) (asked : Result Request Refusal) (reply : Reply) (end : End) → Answers allows (now old) verdict answer word asked reply [] → NotWritten reply written written' end → NotTold allows old written written' verdict answer word asked end (settled old)
  not_told_refused verdict asked reply ends.WriteFault h n = inl ([], reply, h, n, ap settled (no_more old))
  not_told_refused verdict asked reply ends.OutOfMemory h n = (n, refl)
  not_told_refused verdict asked reply ends.Done h n = absurd n
  not_told_refused verdict asked reply ends.ReadFault h n = absurd n
  not_told_refused verdict asked reply ends.DiskFault h n = absurd n
  not_told_refused verdict asked reply ends.JournalFull h n = absurd n
  not_told_refused verdict asked reply ends.WordsFault h n = absurd n
  not_told_refused verdict asked reply ends.Malformed h n = absurd n
  not_told_refused verdict asked reply ends.TurnLimit h n = absurd n
