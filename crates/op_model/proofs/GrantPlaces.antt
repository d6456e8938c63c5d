-- The places of draws: none is behind the history.
use Rattle.std.proofs.Common.{◌≡◌, ℕ, ◌+◌, ◌<◌, Bool, true, false, cond, ◌&&◌, List, [], ◌∷◌, length, refl, sym, ap, arith, Some, None, Option}
use Rattle.std.proofs.lemmas.Bool.Decides.{nat_tests}
use Rattle.std.specs.Prelude.{nat_lt}
use Rattle.std.specs.List.{AllByRecursion}
use Rattle.std.specs.Option.{option_map}
use Rattle.op_model.specs.History.{nth, last}
use Rattle.op_model.specs.Grants.{Draw, GrantMade, grants_made, grant_asked, draws, draw_at, access_draws, access_word, is_immediate, is_revoked, is_revoking}
use Rattle.op_model.specs.declared.act.Act.{Act}
use Rattle.op_model.specs.declared.act.Act.TheVariants as acts
use Rattle.op_model.specs.declared.act.Entry.{Entry}
use Rattle.op_model.proofs.Numbered.{all_placed, all-append, last_in, nth_in, none_above}

abbrev IsPlaced : List Entry → Draw → Type 0
IsPlaced history draw = draw.place < 1 + length history

drawn_place : (k t : ℕ) (o : Option (List ℕ)) (draw : Draw) → option_map (draw_at k t) o ≡ Some draw → draw.place ≡ k
drawn_place k t None draw h = absurd (let e : None ≡ Some draw = h in cc)
drawn_place k t (Some word) draw h = let e : draw_at k t word ≡ draw = cc in sym (ap (λ (d : Draw). d.place) e)

draws_placed : (word : Act → Option (List ℕ)) (history : List Entry) → AllByRecursion (IsPlaced history) (draws word history)
draws_placed word history =
    all_placed (λ ((place, f) : ℕ × Entry). option_map (draw_at place f.at) (word f.act)) (λ (d : Draw). d.place) 1 (1 + length history) history (omega arith) (λ k f draw h. drawn_place k f.at (word f.act) draw h)

asked_place : (k t : ℕ) (act : Act) (m : GrantMade) → grant_asked k t act ≡ Some m → m.draw.place ≡ k
asked_place k t (acts.GrantAsked client items finish word) m h =
    let made : GrantMade = record { draw = draw_at k t word; client = client; items = items; finish = finish } in
    let e : made ≡ m = cc in sym (ap (λ (x : GrantMade). x.draw.place) e)
asked_place k t _ m h = absurd (let e : None ≡ Some m = h in cc)

made_placed : (history : List Entry) (g : ℕ) (m : GrantMade) → nth (grants_made history) g ≡ Some m → IsPlaced history m.draw
made_placed history g m h =
    nth_in (λ (x : GrantMade). x.draw.place < 1 + length history) (grants_made history) g m
    (all_placed (λ ((place, f) : ℕ × Entry). grant_asked place f.at f.act) (λ (x : GrantMade). x.draw.place) 1 (1 + length history) history (omega arith) (λ k f x e. asked_place k f.at f.act x e)) h

first_placed : (history : List Entry) (draw : Draw) (b : Bool) → IsPlaced history draw → AllByRecursion (IsPlaced history) (cond b (draw ∷ []) [])
first_placed history draw true h = (h, tt)
first_placed history draw false h = tt

-- the draw of a grant's access token
pub access_placed : (history : List Entry) (g : ℕ) (m : GrantMade) (draw : Draw) → nth (grants_made history) g ≡ Some m → last (access_draws history g m) ≡ Some draw → draw.place < 1 + length history
access_placed history g m draw there h =
    let first : List Draw = cond (is_immediate m.items) (m.draw ∷ []) [] in
    last_in (IsPlaced history) (access_draws history g m) draw
    (all-append (IsPlaced history) first (draws (access_word g) history) (first_placed history m.draw (is_immediate m.items) (made_placed history g m there)) (draws_placed (access_word g) history)) h

not_less : (c k n : ℕ) → k < 1 + n → c ≡ 1 + n → nat_lt c k ≡ false
not_less c k n h is = grind (arith, nat_tests)

-- no revocation stands behind the place behind a history
pub not_revoked : (history : List Entry) (g t : ℕ) (word : List ℕ) → is_revoked history g (draw_at (1 + length history) t word) ≡ false
not_revoked history g t word =
    none_above (λ ((place, f) : ℕ × Entry). nat_lt (1 + length history) place && is_revoking g f.act) 1 history
    (λ k f h. ap (λ b. b && is_revoking g f.act) (not_less (1 + length history) k (length history) h refl))
