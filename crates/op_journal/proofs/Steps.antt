-- What a crash leaves in each step of a commit.
use Rattle.std.proofs.Common.{◌≡◌, inl, ℕ, ◌+◌, ◌≤◌, ◌<◌, min, List, [], ◌∷◌, ◌++◌, length, take, drop, sym, ◌∙◌, ap, subst, arith, append_assoc, length-append, length-take}
use Rattle.std.proofs.lemmas.List.{take_at, drop_at, length-take-le, take-take}
use Rattle.op_disk.specs.Calls.{Torn, Follows, Only, overlaid}
use Rattle.op_journal.specs.Frames.{Holds, SpellsUpTo, limit}
use Rattle.op_journal.specs.Commits.{IsBody, IsSettled, SpellsEither, payload_of}
use Rattle.op_journal.proofs.Fronts.{same_spells, closed_behind, open_gate, torn_gate}

module _ (tail : ℕ) (seen : List ℕ) (images : List ℕ → Type 0) (settled : IsSettled tail seen images) (body : List ℕ) (whole : IsBody body) where
  pub place : tail + 1 ≤ length seen
  place = omega (arith, settled.closed.0)

  abbrev pub staged : List ℕ
  staged = overlaid seen (tail + 1) body

  abbrev rest : List ℕ
  rest = drop (tail + 1 + length body) seen

  front_size : length (take (tail + 1) seen) ≡ tail + 1
  front_size = length-take-le (tail + 1) seen place

  staged_split : staged ≡ take (tail + 1) seen ++ (body ++ rest)
  staged_split = append_assoc (take (tail + 1) seen) body rest

  staged_behind : drop (tail + 1) staged ≡ body ++ rest
  staged_behind = ap (λ (l : List ℕ). drop (tail + 1) l) staged_split ∙ drop_at (take (tail + 1) seen) (body ++ rest) (tail + 1) front_size

  staged_front : take tail staged ≡ take tail seen
  staged_front =
      sym (take-take tail (tail + 1) staged (omega arith))
      ∙ ap (λ (l : List ℕ). take tail l) (ap (λ (l : List ℕ). take (tail + 1) l) staged_split ∙ take_at (take (tail + 1) seen) (body ++ rest) (tail + 1) front_size)
      ∙ take-take tail (tail + 1) seen (omega arith)

  pub staged_long : tail < length staged
  staged_long = omega (arith, ap length staged_split, length-append (take (tail + 1) seen) (body ++ rest), front_size)

  -- after the second write the frame stands behind an open gate
  module _ (seen1 seen2 : List ℕ) (is : seen1 ≡ staged) (made : seen2 ≡ overlaid seen1 tail (1 ∷ [])) where
    made_split : seen2 ≡ take tail staged ++ (1 ∷ drop (tail + 1) staged)
    made_split = made ∙ ap (λ (l : List ℕ). overlaid l tail (1 ∷ [])) is ∙ append_assoc (take tail staged) (1 ∷ []) (drop (tail + 1) staged)

    made_size : length (take tail staged) ≡ tail
    made_size = length-take-le tail staged (omega (arith, staged_long))

    pub made_front : take tail seen2 ≡ take tail seen
    made_front = ap (λ (l : List ℕ). take tail l) made_split ∙ take_at (take tail staged) (1 ∷ drop (tail + 1) staged) tail made_size ∙ staged_front

    pub made_behind : drop tail seen2 ≡ 1 ∷ (body ++ rest)
    made_behind = ap (λ (l : List ℕ). drop tail l) made_split ∙ drop_at (take tail staged) (1 ∷ drop (tail + 1) staged) tail made_size ∙ ap (λ (l : List ℕ). 1 ∷ l) staged_behind

    pub settled_again : (images2 : List ℕ → Type 0) → Only seen2 images2 → IsSettled (tail + length body) seen2 images2
    settled_again images2 only = record {
      closed = closed_behind tail seen2 body rest made_behind whole;
      alike = λ c image. ap (λ (l : List ℕ). take (tail + length body + 1) l) (only c image);
    }

  module _ (payloads : List (List ℕ)) (holds : Holds payloads tail seen) (room : tail + length body < limit) where
    pub at_start : (c : List ℕ) → images c → SpellsEither payloads tail body c
    at_start c image = inl (same_spells payloads tail seen c holds settled.closed.1 (settled.alike c image))

    -- the first write leaves the closed gate and what stands before it
    pub staging : (images1 : List ℕ → Type 0) (n : ℕ) → Follows (Torn (tail + 1) n) images images1 → (c : List ℕ) → images1 c → SpellsEither payloads tail body c
    staging images1 n follows c image =
        let from = follows c image in
        let alike = settled.alike from.0 from.1 in
        let long : tail + 1 ≤ length from.0 = omega (arith, place, length-take (tail + 1) from.0, front_size, ap length alike) in
        let is : min (tail + 1) (length from.0) ≡ tail + 1 = omega (arith, long) in
        let same : take (tail + 1) c ≡ take (tail + 1) seen = ap (λ (k : ℕ). take k c) (sym is) ∙ from.2.before ∙ alike in
        inl (same_spells payloads tail seen c holds settled.closed.1 same)

    -- the second write leaves the frame behind any gate
    pub opening : (seen1 : List ℕ) (images1 images2 : List ℕ → Type 0) → seen1 ≡ staged → Only seen1 images1 → Follows (Torn tail 1) images1 images2 → (c : List ℕ) → images2 c → SpellsEither payloads tail body c
    opening seen1 images1 images2 is only follows c image =
        let from = follows c image in
        let torn = subst (λ (l : List ℕ). Torn tail 1 l c) (only from.0 from.1 ∙ is) from.2 in
        let at : min tail (length staged) ≡ tail = omega (arith, staged_long) in
        let front : take tail c ≡ take tail seen = ap (λ (k : ℕ). take k c) (sym at) ∙ torn.before ∙ staged_front in
        torn_gate payloads tail seen c body rest holds front (omega (arith, staged_long, torn.no_shorter)) (torn.after ∙ staged_behind) whole room

    -- and then the frame counts
    pub opened : (seen1 seen2 : List ℕ) → seen1 ≡ staged → seen2 ≡ overlaid seen1 tail (1 ∷ []) → SpellsUpTo (payloads ++ payload_of body ∷ []) (tail + length body) seen2
    opened seen1 seen2 is made = open_gate payloads tail seen seen2 body rest holds (made_front seen1 seen2 is made) (made_behind seen1 seen2 is made) whole room
