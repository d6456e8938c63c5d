-- The first slash of a text.
use Rattle.std.proofs.Common.{◌≡◌, ◌+◌, ◌<◌, ◌≤◌, ℕ, List, length, take, drop, ◌-◌, [], ◌∷◌, ◌++◌, ◌==◌, get_or, not, true, sym, ap, ◌∙◌, arith, length-append, length-drop, rules, tests}
use Rattle.std.specs.Str.{bytes_eq}
use Rattle.std.proofs.Math.Seq.{get_or-append_seam}
use Rattle.std.proofs.lemmas.Bool.Decides.{same_from_decides, Decides-eqb}
use Rattle.std.proofs.lemmas.Slice.Eq.{bytes_eq-Decides}
use Rattle.std.specs.List.{position_or_len}
use Rattle.std.proofs.lemmas.List.{get_or-drop, append_cancel_right}
use Rattle.std.proofs.lemmas.List.Sums.{passes_at_first, prefix_len-le-length}
use Rattle.op_names.specs.Forms.{is_slash}
use Rattle.op_names.proofs.Rooms.{take_all}

is_47 : (b : ℕ) → is_slash b ≡ true → b ≡ 47
is_47 b h = search (rules, tests)

-- what stands there is below 128
pub slash_is_boundary : (text : List ℕ) (start k : ℕ) → k ≡ position_or_len is_slash (drop start text) → start + k < length text → get_or text (start + k) 0 ≡ 47
slash_is_boundary text start k at h =
    let inside : position_or_len is_slash (drop start text) < length (drop start text) = omega (arith, at, length-drop start text) in
    let passes = passes_at_first is_slash (drop start text) 0 inside in
    sym (get_or-drop start text k 0) ∙ ap (λ i. get_or (drop start text) i 0) at ∙ is_47 _ passes

-- a text whose last byte is a slash is another and a slash exactly where its front is the other
pub slashed_front : (printed front text : List ℕ) (last : ℕ) → printed ≡ front ++ last ∷ [] → last ≡ 47 → bytes_eq front text ≡ bytes_eq printed (text ++ 47 ∷ [])
slashed_front printed front text last split slash =
    let whole : printed ≡ front ++ 47 ∷ [] = rw slash at split in
    same_from_decides (bytes_eq front text) (bytes_eq printed (text ++ 47 ∷ [])) (bytes_eq-Decides front text) (
      (λ e. append_cancel_right front text (47 ∷ []) (sym whole ∙ (bytes_eq-Decides printed (text ++ 47 ∷ [])).0 e)),
      (λ e. (bytes_eq-Decides printed (text ++ 47 ∷ [])).1 (whole ∙ ap (λ t. t ++ 47 ∷ []) e)),
    )

last_is : (front text : List ℕ) (last other : ℕ) → front ++ last ∷ [] ≡ text ++ other ∷ [] → last ≡ other
last_is front text last other e =
    let same : length front ≡ length text = omega (arith, ap length e, length-append front (last ∷ []), length-append text (other ∷ [])) in
    sym (get_or-append_seam front last [] 0) ∙ ap (λ t. get_or t (length front) 0) e ∙ ap (λ k. get_or (text ++ other ∷ []) k 0) same ∙ get_or-append_seam text other [] 0

pub not_slashed : (printed front text : List ℕ) (last : ℕ) → printed ≡ front ++ last ∷ [] → (last ≡ 47 → ⊥) → (last == 47) ≡ bytes_eq printed (text ++ 47 ∷ [])
not_slashed printed front text last split other =
    same_from_decides (last == 47) (bytes_eq printed (text ++ 47 ∷ [])) (Decides-eqb last 47) (
      (λ e. absurd (other (last_is front text last 47 (sym split ∙ (bytes_eq-Decides printed (text ++ 47 ∷ [])).0 e)))),
      (λ e. absurd (other e)),
    )

-- a search behind a place
pub slash_behind : (text bytes : List ℕ) (start k : ℕ) → bytes ≡ text → k ≡ position_or_len is_slash (take (length bytes - start) (drop start bytes))
    → (k ≡ position_or_len is_slash (drop start text)) × (start ≤ length text → start + k ≤ length text)
slash_behind text bytes start k same at =
    let here : k ≡ position_or_len is_slash (take (length text - start) (drop start text)) = rw same at at in
    let whole : k ≡ position_or_len is_slash (drop start text) =
    here ∙ ap (λ t. position_or_len is_slash t) (take_all (drop start text) (length text - start) (sym (length-drop start text))) in
    (whole, λ within. omega (arith, whole, prefix_len-le-length (λ b. not (is_slash b)) (drop start text), length-drop start text))
