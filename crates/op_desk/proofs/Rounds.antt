-- Payloads one after another, and the round of a batch.
use Rattle.std.proofs.Common.{◌≡◌, inl, inr, ⊎_elim, ℕ, ◌+◌, ◌-◌, ◌*◌, ◌≤◌, ◌<◌, ◌^◌, List, [], ◌∷◌, ◌++◌, length, take, drop, Some, refl, sym, ap, ◌∙◌, subst, arith}
use Rattle.std.specs.List.{flat_map, AllByRecursion}
use Rattle.std.specs.Option.{unwrap_or}
use Rattle.std.proofs.lemmas.List.{length-append, take_at}
use Rattle.op_journal.specs.Commits.{IsBody, payload_of}
use Rattle.op_model.specs.declared.act.Entry.{Entry}
use Rattle.op_record.proofs.LengthLaws.{length_number}
use Rattle.op_record.specs.Cuts.{HasRecord}
use Rattle.op_record.specs.Fields.{number}
use Rattle.op_record.specs.Packing.{body_of}
use Rattle.op_record.specs.Rounds.{IsInRound, IsRound, act_in, moment_of, round_of}
use Rattle.op_record.specs.declared.TheConstants.{ACT_LIMIT}
use Rattle.op_desk.specs.Payloads.{CanBePut}
use Rattle.op_desk.specs.Spelling.{AreRounds}
use Rattle.op_desk.specs.Wallets.{WalletState, FitsRound, round_payload}
use Rattle.op_desk.specs.declared.TheConstants.{TASK_LIMIT}

pub one_more_round : (payloads : List (List ℕ)) (rounds : List (List Entry)) (payload : List ℕ) (round : List Entry) → AreRounds payloads rounds → IsRound payload round → AreRounds (payloads ++ payload ∷ []) (rounds ++ round ∷ [])
one_more_round [] [] payload round are is = (is, tt)
one_more_round [] (r ∷ rounds) payload round are is = absurd are
one_more_round (p ∷ payloads) [] payload round are is = absurd are
one_more_round (p ∷ payloads) (r ∷ rounds) payload round are is = (are.0, one_more_round payloads rounds payload round are.1 is)

pub none_spelled : (payloads : List (List ℕ)) (rounds : List (List Entry)) → AreRounds payloads rounds → payloads ≡ [] → rounds ≡ []
none_spelled [] [] are none = refl
none_spelled [] (r ∷ rounds) are none = absurd are
none_spelled (p ∷ payloads) rounds are none = cc

pub same_count : (payloads : List (List ℕ)) (rounds : List (List Entry)) → AreRounds payloads rounds → length payloads ≡ length rounds
same_count [] [] are = refl
same_count [] (r ∷ rounds) are = absurd are
same_count (p ∷ payloads) [] are = absurd are
same_count (p ∷ payloads) (r ∷ rounds) are = omega (arith, same_count payloads rounds are.1)

-- ---- the entries of a round can be put into a wallet

put_records : (entries : List Entry) → AllByRecursion HasRecord entries → AllByRecursion CanBePut entries
put_records [] have = tt
put_records (e ∷ entries) have = ((refl, have.0.0.0, have.0.1), put_records entries have.1)

put_round : (at : ℕ) (entries : List Entry) → AllByRecursion (IsInRound at) entries → AllByRecursion CanBePut entries
put_round at [] have = tt
put_round at (e ∷ entries) have = ((refl, have.0.1, have.0.2), put_round at entries have.1)

pub can_be_put : (payload : List ℕ) (entries : List Entry) → IsRound payload entries → AllByRecursion CanBePut entries
can_be_put payload entries (inl first) = put_records entries first.have
can_be_put payload entries (inr second) = put_round second.at entries second.have

-- ---- the round of a batch

in_round : (at : ℕ) (entries : List Entry) → AllByRecursion (FitsRound at) entries → AllByRecursion (IsInRound at) entries
in_round at [] fit = tt
in_round at (e ∷ entries) fit = (fit.0.takes, in_round at entries fit.1)

pub is_round : (at : ℕ) (entries : List Entry) → 0 < length entries → AllByRecursion (FitsRound at) entries → IsRound (round_of at entries) entries
is_round at entries some fit = inr (record { some = some; at = at; have = in_round at entries fit; is = refl })

acts_size : (at : ℕ) (entries : List Entry) → AllByRecursion (FitsRound at) entries → length (flat_map act_in entries) ≤ ACT_LIMIT * length entries
acts_size at [] fit = omega arith
acts_size at (e ∷ entries) fit = omega (arith, length-append (act_in e) (flat_map act_in entries), fit.0.short, acts_size at entries fit.1)

pub round_size : (at : ℕ) (entries : List Entry) → length (round_of at entries) ≡ 9 + length (flat_map act_in entries)
round_size at entries = omega (arith, length-append (number 8 at) (flat_map act_in entries), length_number 8 at)

pub round_small : (at : ℕ) (entries : List Entry) → AllByRecursion (FitsRound at) entries → length entries ≤ TASK_LIMIT → length (round_of at entries) < 2 ^ 32
round_small at entries fit few = omega (arith, round_size at entries, acts_size at entries fit, few)

pub moment_is : (at : ℕ) (entries : List Entry) → 0 < length entries → AllByRecursion (FitsRound at) entries → moment_of entries ≡ at
moment_is at [] some fit = absurd (omega (arith, some))
moment_is at (e ∷ entries) some fit = fit.0.takes.0

pub open_payload : (wallet : WalletState) (at : ℕ) (entries : List Entry) → wallet.moment ≡ Some at → wallet.round ≡ entries → round_payload wallet ≡ round_of at entries
open_payload wallet at entries moment round = rw (moment, round) refl

-- ---- what a commit writes

pub record IsFrameBody (body payload : List ℕ) : Type 0 where
  pub length_is : length body ≡ length payload + 5
  pub payload_is : payload_of body ≡ payload
  pub whole : IsBody body

pub frame_body : (body payload : List ℕ) → 0 < length payload → body ≡ body_of payload → IsFrameBody body payload
frame_body body p some is =
    let long : length body ≡ length p + 5 = omega (arith, ap length is, length-append p (0 ∷ [])) in
    let inner : payload_of body ≡ p = (
    let count : length body - 5 ≡ length p = omega (arith, long) in
    ap (λ (n : ℕ). take n (drop 4 body)) count ∙ ap (λ (l : List ℕ). take (length p) (drop 4 l)) is ∙ take_at p (0 ∷ []) (length p) refl
    ) in
    record {
      length_is = long;
      payload_is = inner;
      whole = record { whole = is ∙ ap body_of (sym inner); some = subst (λ (l : List ℕ). 0 < length l) (sym inner) some };
    }

pub some_entries : (entries : List Entry) → (entries ≡ [] → ⊥) → 0 < length entries
some_entries [] some = absurd (some refl)
some_entries (e ∷ entries) some = omega arith

-- a body is not empty: its payload has a version and a moment
pub payload_some : (wallet : WalletState) → 0 < length (round_payload wallet)
payload_some wallet = omega (arith, round_size (unwrap_or wallet.moment 0) wallet.round)
