-- How deep a member nests.
use Rattle.std.proofs.Common.{◌≡◌, ◌≤◌, ℕ, max, List, Some, None, ap, arith}
use Rattle.std.specs.Ordering.{nat_cmp, match_ordering}
use Rattle.std.specs.Cmp.Lexicographic.{slice_cmp}
use Rattle.std.specs.declared.cmp.Ordering.{Ordering}
use Rattle.std.specs.declared.cmp.Ordering.TheVariants.{Less, Equal, Greater}
use Rattle.std.specs.declared.option.Option.{Option}
use Rattle.serde_json.specs.Data.{Data, null, boolean, number, string, array, object, Members, no_members, member, depth, members_depth}
use Rattle.serde_json.specs.Find.{get, get_member}
use Rattle.op_model.specs.Json.{if_there, optional_in}
use Rattle.std.specs.Prelude.{option_and_then}

at_order : (o : Ordering) (x d : Data) (rest : Option Data) (n : ℕ) → (rest ≡ Some d → depth d ≤ n) → match_ordering o rest (Some x) rest ≡ Some d → depth d ≤ max (depth x) n
at_order Less x d rest n h e = let k : depth d ≤ n = h e in omega arith
at_order Equal x d rest n h e = let k : depth x ≡ depth d = cc in omega arith
at_order Greater x d rest n h e = let k : depth d ≤ n = h e in omega arith

depth-get_member : (k : List ℕ) (ms : Members) (d : Data) → get_member k ms ≡ Some d → depth d ≤ members_depth ms
depth-get_member k no_members d e = absurd cc
depth-get_member k (member l x ms) d e = at_order (slice_cmp nat_cmp k l) x d (get_member k ms) (members_depth ms) (depth-get_member k ms d) e

depth-get : (k : List ℕ) (v d : Data) → get k v ≡ Some d → depth d ≤ depth v
depth-get k null d e = absurd cc
depth-get k (boolean b) d e = absurd cc
depth-get k (number n) d e = absurd cc
depth-get k (string s) d e = absurd cc
depth-get k (array ds) d e = absurd cc
depth-get k (object ms) d e = let h : depth d ≤ members_depth ms = depth-get_member k ms d e in omega arith

there_is_same : (v d : Data) → if_there v ≡ Some d → v ≡ d
there_is_same null d e = absurd cc
there_is_same (boolean b) d e = cc
there_is_same (number n) d e = cc
there_is_same (string s) d e = cc
there_is_same (array ds) d e = cc
there_is_same (object ms) d e = cc

there_of : (o : Option Data) (d : Data) → option_and_then if_there o ≡ Some d → o ≡ Some d
there_of None d e = absurd cc
there_of (Some v) d e = ap (λ (x : Data). Some x) (there_is_same v d e)

-- an optional member nests no deeper than its object
pub depth-optional_in : (k : List ℕ) (v d : Data) → optional_in k v ≡ Some d → depth d ≤ depth v
depth-optional_in k v d e = depth-get k v d (there_of (get k v) d e)
