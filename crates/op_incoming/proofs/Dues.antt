-- The expiry of the first payments that are due for it.
use Rattle.std.proofs.Common.{◌≡◌, refl, sym, ap, ◌∙◌, ℕ, ◌≤◌, Bool, true, false, List, length, map, take}
use Rattle.std.specs.Prelude.{◌&&◌, filter}
use Rattle.std.proofs.lemmas.List.{length-map}
use Rattle.op_model.specs.declared.request.Task.{Task}
use Rattle.op_model.specs.declared.request.Task.TheVariants.{Expire}
use Rattle.op_incoming.specs.Rows.{is_unfinished, is_due_at}
use Rattle.op_incoming.specs.declared.incoming.Incoming.{Incoming}
use Rattle.op_model.proofs.Numbers.{first_passing, all_passing}

first_holds : (a b : Bool) → (a && b) ≡ true → a ≡ true
first_holds true b h = refl
first_holds false b h = h

-- a payment that is due for expiry is unfinished
pub unfinished_where_due : (t : ℕ) (i : Incoming) → is_due_at t i ≡ true → is_unfinished i ≡ true
unfinished_where_due t i h = first_holds (is_unfinished i) _ h

how_many : (numbers : List ℕ) (tasks : List Task) → tasks ≡ map Expire numbers → length numbers ≡ length tasks
how_many numbers tasks is = sym (length-map numbers Expire) ∙ ap length (sym is)

pub first_tasks : (p : ℕ → Bool) (xs : List ℕ) (tasks : List Task) (i room : ℕ) → tasks ≡ map Expire (filter p (take i xs)) → length tasks ≡ room → tasks ≡ map Expire (take room (filter p xs))
first_tasks p xs tasks i room is full =
    is ∙ ap (map Expire) (first_passing p xs (filter p (take i xs)) i room refl (how_many (filter p (take i xs)) tasks is ∙ full))

pub all_tasks : (p : ℕ → Bool) (xs : List ℕ) (tasks : List Task) (i room : ℕ) → tasks ≡ map Expire (filter p (take i xs)) → length xs ≤ i → length tasks ≤ room → tasks ≡ map Expire (take room (filter p xs))
all_tasks p xs tasks i room is all few =
    let count = how_many (filter p (take i xs)) tasks is in
    is ∙ ap (map Expire) (all_passing p xs (filter p (take i xs)) i room refl all (rw count few))
