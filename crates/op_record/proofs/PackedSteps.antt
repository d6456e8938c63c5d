-- What each call on a packed history leaves.
use Rattle.std.proofs.Common.{◌≡◌, ◌≢◌, ℕ, zero, suc, ◌+◌, ◌-◌, ◌*◌, ◌/◌, ◌%◌, ◌<◌, ◌≤◌, lit<, lit≤, Bool, true, false, cond, eqb, List, [], ◌∷◌, ◌++◌, length, take, drop, get_or, Option, Some, None, Result, Ok, Err, refl, sym, ap, subst, ◌∙◌, append_assoc, arith, ◌⊎◌, inl, inr, length-drop}
use Rattle.std.specs.Prelude.{IsSome}
use Rattle.std.specs.Option.{unwrap_or}
use Rattle.std.specs.Int.{w32, to_be_bytes}
use Rattle.std.proofs.lemmas.Bool.{eqb-true, eqb-false, cases_lt}
use Rattle.std.proofs.lemmas.List.{append-nil, length-append, drop-append-le, take_at, drop_at, get_or-drop}
use Rattle.std.proofs.Math.Seq.{drop-append_seam}
use Rattle.std.proofs.Math.ListN.{drop_of_length-le}
use Rattle.op_time.specs.declared.TheConstants.{LAST}
use Rattle.op_model.specs.declared.act.Entry.{Entry}
use Rattle.op_model.specs.declared.act.Act.TheVariants as acts
use Rattle.op_record.specs.declared.fault.Fault.{Fault}
use Rattle.op_record.specs.declared.fault.Fault.TheVariants.{Short, Bad}
use Rattle.op_record.specs.declared.packed.Point.{Point}
use Rattle.op_record.specs.Fields.{number}
use Rattle.op_record.specs.Readers.{bind, byte, byte_between, bytes_at}
use Rattle.op_record.specs.Rows.{act_at, moment_at, entry_of_round_at}
use Rattle.op_record.specs.Rounds.{act_in, IsInRound, round_of}
use Rattle.op_record.specs.Packing.{PackedValue, opening_at, then_entries, entries_from, held, body_of}
use Rattle.op_record.specs.declared.packed.TheConstants.{STRIDE}
use Rattle.op_record.specs.PackedInside.{IsPiece, IsPoint, ArePoints, IsClosed, IsOpen, Stands, round_in}
use Rattle.op_record.proofs.FieldLaws.{again-bind, between-field, bytes-field}
use Rattle.op_record.proofs.Parts.{moment-field}
use Rattle.op_record.proofs.ActLaws.{entry_of_round-field}
use Rattle.op_record.proofs.RoundSteps.{none_left}
use Rattle.op_record.proofs.Held.{held_opening, held_entry, held_end, entry_shorter}
use Rattle.op_record.proofs.LengthLaws.{length_number, length_four}
use Rattle.op_record.proofs.Many.{flat_map_more}

-- ---- pieces

pub piece_then : (from mid to : ℕ) (x y : List ℕ) (es fs : List Entry) → IsPiece from x es mid → IsPiece mid y fs to → IsPiece from (x ++ y) (es ++ fs) to
piece_then from mid to x y es fs p q more =
    ap (held from) (append_assoc x y more) ∙ p (y ++ more) ∙ ap (λ (t : List Entry). es ++ t) (q more) ∙ sym (append_assoc es fs (held to more))

opening_again : (digits : List ℕ) (at : ℕ) (more : List ℕ) → length digits ≡ 4 → at ≤ LAST → opening_at ((digits ++ round_of at []) ++ more) ≡ Ok (at, more)
unfolding opening_at
opening_again digits at more four low =
    again-bind (bytes-field 4) _ digits (round_of at []) more _ four (again-bind (between-field 2 2 (lit≤ tt)) _ 2 (number 8 at ++ []) more _ (lit≤ tt, lit≤ tt)
    (ap (λ (t : List ℕ). moment_at (t ++ more)) (append-nil (number 8 at)) ∙ moment-field.again at more low))

pub piece_opening : (from at : ℕ) (digits : List ℕ) → length digits ≡ 4 → at ≤ LAST → IsPiece from (0 ∷ (digits ++ round_of at [])) [] at
piece_opening from at digits four low more = held_opening from ((digits ++ round_of at []) ++ more) at more (opening_again digits at more four low)

no_gate : {X : Type 0} (at : ℕ) (rest : List ℕ) (x : Entry × List ℕ) → entry_of_round_at at (zero ∷ rest) ≡ Ok x → X
unfolding entry_of_round_at act_at bind byte
no_gate at rest x e = absurd cc

no_entry : {X : Type 0} (at : ℕ) (x : Entry × List ℕ) → entry_of_round_at at [] ≡ Ok x → X
no_entry at x e = let none = none_left (Some at) in absurd cc

held_read : (at : ℕ) (bytes : List ℕ) (entry : Entry) (rest : List ℕ) → entry_of_round_at at bytes ≡ Ok (entry, rest) → held at bytes ≡ entry ∷ held at rest
held_read at [] entry rest e = no_entry at (entry, rest) e
held_read at (zero ∷ bytes) entry rest e = no_gate at bytes (entry, rest) e
held_read at (suc b ∷ bytes) entry rest e = held_entry at b bytes entry rest e

pub piece_entry : (at : ℕ) (entry : Entry) → at ≤ LAST → IsInRound at entry → IsPiece at (act_in entry) (entry ∷ []) at
piece_entry at entry low fits more = held_read at (act_in entry ++ more) entry more ((entry_of_round-field at low).again entry more fits)

-- ---- points

point_later : (from to number : ℕ) (text more : List ℕ) (es fs : List Entry) (p : Point) → STRIDE * number ≤ length es → IsPoint text es from number p → IsPiece from more fs to → IsPoint (text ++ more) (es ++ fs) to number p
point_later from to number text more es fs p there point piece = record {
  within = omega (arith, length-append text more, point.within);
  low = point.low;
  holds = λ rest.
      let d : drop p.place (text ++ more) ≡ drop p.place text ++ more = drop-append-le p.place text more point.within in
      let e : drop (STRIDE * number) (es ++ fs) ≡ drop (STRIDE * number) es ++ fs = drop-append-le (STRIDE * number) es fs there in
      ap (λ (t : List ℕ). held p.moment (t ++ rest)) d
      ∙ piece_then p.moment from to (drop p.place text) more (drop (STRIDE * number) es) fs point.holds piece rest
      ∙ ap (λ (t : List Entry). t ++ held to rest) (sym e);
}

-- the number of a point is that of an entry
there : (points : List Point) (es : List Entry) (number : ℕ) → length points ≡ (length es + 15) / STRIDE → number < length points → STRIDE * number ≤ length es
there points es number pointed lt = omega (arith, pointed, lt)

-- ---- what is held

pub held_closed : (bytes : List ℕ) (points : List Point) (entries : List Entry) → IsClosed bytes points entries → held 0 bytes ≡ entries
held_closed bytes points entries c =
    ap (held 0) c.bytes_are ∙ c.holds (0 ∷ []) ∙ ap (λ (t : List Entry). entries ++ t) (held_end c.to) ∙ append-nil entries

-- a history without entries
pub record IsFresh (bytes : List ℕ) (points : List Point) : Type 0 where
  pub none : held 0 bytes ≡ []
  pub stands : IsClosed bytes points (held 0 bytes)

pub fresh : (bytes : List ℕ) (points : List Point) → bytes ≡ 0 ∷ [] → points ≡ [] → IsFresh bytes points
fresh bytes points gate no_points =
    let none : held 0 bytes ≡ [] = ap (held 0) gate ∙ held_end 0 in
    record {
      none = none;
      stands = record {
        text = [];
        to = 0;
        bytes_are = gate;
        holds = λ more. ap (λ (t : List Entry). t ++ held 0 more) (sym none);
        points_are = λ number d lt. absurd (omega (arith, lt, ap length no_points));
      };
    }

-- ---- opening a round

none_more : (es : List Entry) → es ++ [] ≡ es
none_more es = append-nil es

pub opened : (at : ℕ) (bytes new : List ℕ) (points : List Point) (entries : List Entry) (start : ℕ) → at ≤ LAST → length points ≡ (length entries + 15) / STRIDE → IsClosed bytes points entries
    → start ≡ length bytes → new ≡ bytes ++ body_of (round_of at []) → IsOpen at new points start entries []
opened at bytes new points entries start low pointed c start_is is =
    let body = body_of (round_of at []) in
    record {
      text = c.text;
      low = low;
      start_is = start_is ∙ ap length c.bytes_are ∙ length-append c.text (0 ∷ []);
      bytes_are = is ∙ ap (λ (t : List ℕ). t ++ body) c.bytes_are ∙ append_assoc c.text (0 ∷ []) body;
      holds = λ digits four.
          subst (λ (t : List Entry). IsPiece 0 (c.text ++ 0 ∷ (digits ++ round_of at [])) t at) (none_more entries)
          (piece_then 0 c.to at c.text (0 ∷ (digits ++ round_of at [])) entries [] c.holds (piece_opening c.to at digits four low));
      points_are = λ digits four number d lt.
          subst (λ (t : List Entry). IsPoint (c.text ++ 0 ∷ (digits ++ round_of at [])) t at number (get_or points number d)) (none_more entries)
          (point_later c.to at number c.text (0 ∷ (digits ++ round_of at [])) entries [] (get_or points number d) (there points entries number pointed lt) (c.points_are number d lt) (piece_opening c.to at digits four low));
      unused = λ none. subst (λ (t : List ℕ). IsClosed t points entries) (sym (ap (λ (t : List ℕ). take start t) is ∙ take_at bytes body start (sym start_is))) c;
    }

-- ---- closing one

pub closed : (at : ℕ) (bytes : List ℕ) (points : List Point) (start : ℕ) (entries round : List Entry) → IsOpen at bytes points start entries round → IsClosed bytes points entries
closed at bytes points start entries round o =
    let payload = round_of at round in
    let digits = to_be_bytes w32 (length payload) in
    let four = length_four (length payload) in
    record {
      text = o.text ++ 0 ∷ (digits ++ payload);
      to = at;
      bytes_are = o.bytes_are ∙ ap (λ (t : List ℕ). o.text ++ 0 ∷ t) (sym (append_assoc digits payload (0 ∷ []))) ∙ sym (append_assoc o.text (0 ∷ (digits ++ payload)) (0 ∷ []));
      holds = o.holds digits four;
      points_are = o.points_are digits four;
    }

-- what stands then
pub record IsOpened (at : ℕ) (bytes new : List ℕ) (points : List Point) (start before : ℕ) : Type 0 where
  pub same : held 0 new ≡ held 0 bytes
  pub none : drop before (held 0 new) ≡ []
  pub stands : IsOpen at new points start (held 0 new) (drop before (held 0 new))

held_open : (at : ℕ) (bytes : List ℕ) (points : List Point) (start : ℕ) (entries round : List Entry) → IsOpen at bytes points start entries round → held 0 bytes ≡ entries
held_open at bytes points start entries round o = held_closed bytes points entries (closed at bytes points start entries round o)

pub opens : (at : ℕ) (bytes new : List ℕ) (points : List Point) (start before : ℕ) → at ≤ LAST → length points ≡ (before + 15) / STRIDE → before ≡ length (held 0 bytes) → IsClosed bytes points (held 0 bytes)
    → start ≡ length bytes → new ≡ bytes ++ body_of (round_of at []) → IsOpened at bytes new points start before
opens at bytes new points start before low pointed counted c start_is is =
    let entries = held 0 bytes in
    let o = opened at bytes new points entries start low (pointed ∙ ap (λ (n : ℕ). (n + 15) / STRIDE) counted) c start_is is in
    let same = held_open at new points start entries [] o in
    let none : drop before (held 0 new) ≡ [] = ap (λ (t : List Entry). drop before t) same ∙ drop_of_length-le entries (omega (arith, counted)) in
    record {
      same = same;
      none = none;
      stands = subst (λ (t : List Entry). IsOpen at new points start (held 0 new) t) (sym none) (subst (λ (t : List Entry). IsOpen at new points start t []) (sym same) o);
    }

-- ---- one more entry

round_more : (at : ℕ) (round : List Entry) (entry : Entry) → round_of at round ++ act_in entry ≡ round_of at (round ++ entry ∷ [])
round_more at round entry =
    ap (λ (t : List ℕ). 2 ∷ t) (append_assoc (number 8 at) _ (act_in entry) ∙ ap (λ (t : List ℕ). number 8 at ++ t) (sym (flat_map_more act_in round entry)))

text_more : (text digits : List ℕ) (at : ℕ) (round : List Entry) (entry : Entry) → (text ++ 0 ∷ (digits ++ round_of at round)) ++ act_in entry ≡ text ++ 0 ∷ (digits ++ round_of at (round ++ entry ∷ []))
text_more text digits at round entry =
    append_assoc text (0 ∷ (digits ++ round_of at round)) (act_in entry)
    ∙ ap (λ (t : List ℕ). text ++ 0 ∷ t) (append_assoc digits (round_of at round) (act_in entry) ∙ ap (λ (t : List ℕ). digits ++ t) (round_more at round entry))

pub length_empty_body : (at : ℕ) → length (body_of (round_of at [])) ≡ 14
length_empty_body at =
    let payload = round_of at [] in
    omega (arith, length-append (to_be_bytes w32 (length payload)) (payload ++ 0 ∷ []), length_four (length payload), length-append (number 8 at ++ []) (0 ∷ []), length-append (number 8 at) [], length_number 8 at)

-- the entries of a point that is new
new_point : (at number : ℕ) (text act : List ℕ) (es : List Entry) (entry : Entry) (p : Point) → p.place ≡ length text → p.moment ≡ at → at ≤ LAST → STRIDE * number ≡ length es → IsPiece at act (entry ∷ []) at
    → IsPoint (text ++ act) (es ++ entry ∷ []) at number p
new_point at number text act es entry p place moment low all piece = record {
  within = omega (arith, place, length-append text act);
  low = subst (λ (n : ℕ). n ≤ LAST) (sym moment) low;
  holds = λ more.
      let bytes : drop p.place (text ++ act) ≡ act = ap (λ (n : ℕ). drop n (text ++ act)) place ∙ drop-append_seam text act in
      let entries : drop (STRIDE * number) (es ++ entry ∷ []) ≡ entry ∷ [] = ap (λ (n : ℕ). drop n (es ++ entry ∷ [])) all ∙ drop-append_seam es (entry ∷ []) in
      ap (λ (n : ℕ). held n (drop p.place (text ++ act) ++ more)) moment ∙ ap (λ (t : List ℕ). held at (t ++ more)) bytes ∙ piece more ∙ ap (λ (t : List Entry). t ++ held at more) (sym entries);
}

get_front : (points : List Point) (p d : Point) (number : ℕ) → number < length points → get_or (points ++ p ∷ []) number d ≡ get_or points number d
get_front [] p d number lt = absurd (omega (arith, lt))
get_front (q ∷ points) p d zero lt = refl
get_front (q ∷ points) p d (suc number) lt = get_front points p d number (omega (arith, lt))

get_last : (points : List Point) (p d : Point) (number : ℕ) → number ≡ length points → get_or (points ++ p ∷ []) number d ≡ p
get_last [] p d zero is = refl
get_last [] p d (suc number) is = absurd (omega (arith, is))
get_last (q ∷ points) p d zero is = absurd (omega (arith, is))
get_last (q ∷ points) p d (suc number) is = get_last points p d number (omega (arith, is))

-- each point with one more entry, the new one where there is one included
points_later : (at : ℕ) (text act : List ℕ) (es : List Entry) (entry : Entry) (points : List Point) (place : ℕ) (b : Bool) → eqb (length es % STRIDE) 0 ≡ b → at ≤ LAST → length points ≡ (length es + 15) / STRIDE
    → place ≡ length text → IsPiece at act (entry ∷ []) at → ArePoints text es at points
    → ArePoints (text ++ act) (es ++ entry ∷ []) at (cond b (points ++ record { place = place; moment = at } ∷ []) points)
points_later at text act es entry points place false test low pointed place_is piece are number d lt =
    point_later at at number text act es (entry ∷ []) (get_or points number d) (there points es number pointed lt) (are number d lt) piece
points_later at text act es entry points place true test low pointed place_is piece are number d lt =
    let p : Point = record { place = place; moment = at } in
    let round : length es % STRIDE ≡ 0 = eqb-true (length es % STRIDE) 0 test in
    elim (cases_lt number (length points)) [
      | inl old ↦
          subst (λ (q : Point). IsPoint (text ++ act) (es ++ entry ∷ []) at number q) (sym (get_front points p d number old))
          (point_later at at number text act es (entry ∷ []) (get_or points number d) (there points es number pointed old) (are number d old) piece)
      | inr new ↦
          let last : number ≡ length points = omega (arith, new, lt, length-append points (p ∷ [])) in
          subst (λ (q : Point). IsPoint (text ++ act) (es ++ entry ∷ []) at number q) (sym (get_last points p d number last))
          (new_point at number text act es entry p place_is refl low (omega (arith, last, pointed, round)) piece)
    ]

body_more : (text : List ℕ) (at : ℕ) (round : List Entry) (entry : Entry) → (text ++ 0 ∷ []) ++ body_of (round_of at round ++ act_in entry) ≡ text ++ 0 ∷ body_of (round_of at (round ++ entry ∷ []))
body_more text at round entry =
    append_assoc text (0 ∷ []) (body_of (round_of at round ++ act_in entry)) ∙ ap (λ (t : List ℕ). text ++ 0 ∷ body_of t) (round_more at round entry)

-- how new bytes are put
abbrev pub IsPut : (start : ℕ) → (act old new : List ℕ) → Type 0
IsPut start act old new = (text digits payload : List ℕ) → length text ≡ start → length digits ≡ 4 → old ≡ text ++ (digits ++ (payload ++ 0 ∷ [])) → new ≡ text ++ body_of (payload ++ act)

long_text : (text digits : List ℕ) (at : ℕ) (round : List Entry) → length digits ≡ 4 → length (text ++ 0 ∷ (digits ++ round_of at round)) + 1 ≡ length (text ++ 0 ∷ body_of (round_of at round))
long_text text digits at round four =
    let payload = round_of at round in
    let mine = to_be_bytes w32 (length payload) in
    omega (
      arith,
      length-append text (0 ∷ (digits ++ payload)),
      length-append digits payload,
      four,
      length-append text (0 ∷ (mine ++ (payload ++ 0 ∷ []))),
      length-append mine (payload ++ 0 ∷ []),
      length_four (length payload),
      length-append payload (0 ∷ []),
    )

pushed : (at : ℕ) (bytes new : List ℕ) (points newer : List Point) (start place : ℕ) (es round : List Entry) (entry : Entry) → IsInRound at entry → IsOpen at bytes points start es round
    → length points ≡ (length es + 15) / STRIDE → newer ≡ cond (eqb (length es % STRIDE) 0) (points ++ record { place = place; moment = at } ∷ []) points → place + 1 ≡ length bytes → IsPut start (act_in entry) bytes new
    → IsOpen at new newer start (es ++ entry ∷ []) (round ++ entry ∷ [])
pushed at bytes new points newer start place es round entry fits o pointed newer_is place_is put =
    let payload = round_of at round in
    let piece = piece_entry at entry o.low fits in
    let whole : bytes ≡ (o.text ++ 0 ∷ []) ++ (to_be_bytes w32 (length payload) ++ (payload ++ 0 ∷ [])) = o.bytes_are ∙ sym (append_assoc o.text (0 ∷ []) (body_of payload)) in
    let len : length (o.text ++ 0 ∷ []) ≡ start = omega (arith, length-append o.text (0 ∷ []), o.start_is) in
    record {
      text = o.text;
      low = o.low;
      start_is = o.start_is;
      bytes_are = put (o.text ++ 0 ∷ []) (to_be_bytes w32 (length payload)) payload len (length_four (length payload)) whole ∙ body_more o.text at round entry;
      holds = λ digits four.
          subst (λ (t : List ℕ). IsPiece 0 t (es ++ entry ∷ []) at) (text_more o.text digits at round entry)
          (piece_then 0 at at (o.text ++ 0 ∷ (digits ++ payload)) (act_in entry) es (entry ∷ []) (o.holds digits four) piece);
      points_are = λ digits four.
          let text = o.text ++ 0 ∷ (digits ++ payload) in
          let here : place ≡ length text = omega (arith, place_is, ap length o.bytes_are, long_text o.text digits at round four) in
          subst (λ (l : List Point). ArePoints (o.text ++ 0 ∷ (digits ++ round_of at (round ++ entry ∷ []))) (es ++ entry ∷ []) at l) (sym newer_is)
          (subst (λ (t : List ℕ). ArePoints t (es ++ entry ∷ []) at (cond (eqb (length es % STRIDE) 0) (points ++ record { place = place; moment = at } ∷ []) points)) (text_more o.text digits at round entry)
          (points_later at text (act_in entry) es entry points place (eqb (length es % STRIDE) 0) refl o.low pointed here piece (o.points_are digits four)));
      unused = λ none. absurd (omega (arith, ap length none, length-append round (entry ∷ [])));
    }

-- what stands then
pub record IsPushed (at : ℕ) (bytes new : List ℕ) (points : List Point) (start before : ℕ) (entry : Entry) : Type 0 where
  pub more : held 0 new ≡ held 0 bytes ++ entry ∷ []
  pub round : drop before (held 0 new) ≡ drop before (held 0 bytes) ++ entry ∷ []
  pub stands : IsOpen at new points start (held 0 new) (drop before (held 0 new))

pub pushes : (at : ℕ) (bytes new : List ℕ) (points newer : List Point) (start before count place : ℕ) (entry : Entry) → IsInRound at entry → IsOpen at bytes points start (held 0 bytes) (drop before (held 0 bytes))
    → count ≡ length (held 0 bytes) → before ≤ count → length points ≡ (count + 15) / STRIDE → newer ≡ cond (eqb (count % STRIDE) 0) (points ++ record { place = place; moment = at } ∷ []) points
    → place + 1 ≡ length bytes → IsPut start (act_in entry) bytes new → IsPushed at bytes new newer start before entry
pushes at bytes new points newer start before count place entry fits o counted le pointed newer_is place_is put =
    let es = held 0 bytes in
    let round = drop before es in
    let q =
    pushed at bytes new points newer start place es round entry fits o (pointed ∙ ap (λ (n : ℕ). (n + 15) / STRIDE) counted)
    (newer_is ∙ ap (λ (n : ℕ). cond (eqb (n % STRIDE) 0) (points ++ record { place = place; moment = at } ∷ []) points) counted) place_is put in
    let more = held_open at new newer start (es ++ entry ∷ []) (round ++ entry ∷ []) q in
    let behind : drop before (held 0 new) ≡ round ++ entry ∷ [] = ap (λ (t : List Entry). drop before t) more ∙ drop-append-le before es (entry ∷ []) (omega (arith, counted, le)) in
    record {
      more = more;
      round = behind;
      stands = subst (λ (t : List Entry). IsOpen at new newer start (held 0 new) t) (sym behind) (subst (λ (t : List Entry). IsOpen at new newer start t (round ++ entry ∷ [])) (sym more) q);
    }

-- ---- what is seen

abbrev pub seen : List Entry → Option ℕ → List Entry → ℕ → PackedValue
seen entries moment round room = record { entries = entries; moment = moment; round = round; room = room }

pub same_seen : (es es' : List Entry) (m m' : Option ℕ) (r r' : List Entry) (n n' : ℕ) → es ≡ es' → m ≡ m' → r ≡ r' → n ≡ n' → seen es m r n ≡ seen es' m' r' n'
same_seen es es' m m' r r' n n' a b c d =
    ap (λ (x : List Entry). seen x m r n) a ∙ ap (λ (x : Option ℕ). seen es' x r n) b ∙ ap (λ (x : List Entry). seen es' m' x n) c ∙ ap (λ (x : ℕ). seen es' m' r' x) d

-- ---- closing the open round

pub record IsShut (bytes new : List ℕ) (points : List Point) : Type 0 where
  pub same : held 0 new ≡ held 0 bytes
  pub stands : IsClosed new points (held 0 new)

pub shuts : (at : ℕ) (bytes : List ℕ) (points : List Point) (start before : ℕ) → IsOpen at bytes points start (held 0 bytes) (drop before (held 0 bytes)) → IsShut bytes bytes points
shuts at bytes points start before o = record { same = refl; stands = closed at bytes points start (held 0 bytes) (drop before (held 0 bytes)) o }

pub shuts_unused : (at : ℕ) (bytes new : List ℕ) (points : List Point) (start before : ℕ) → length (held 0 bytes) ≤ before → new ≡ take start bytes → IsOpen at bytes points start (held 0 bytes) (drop before (held 0 bytes))
    → IsShut bytes new points
shuts_unused at bytes new points start before none new_is o =
    let c = subst (λ (t : List ℕ). IsClosed t points (held 0 bytes)) (sym new_is) (o.unused (drop_of_length-le (held 0 bytes) none)) in
    let same = held_closed new points (held 0 bytes) c in
    record { same = same; stands = subst (λ (t : List Entry). IsClosed new points t) (sym same) c }

pub shuts_by : (moment : Option ℕ) (bytes new : List ℕ) (points : List Point) (start before : ℕ) → IsSome moment → length (held 0 bytes) ≤ before → new ≡ take start bytes
    → Stands moment bytes points start before (held 0 bytes) → IsShut bytes new points
shuts_by None bytes new points start before some none new_is stands = absurd cc
shuts_by (Some at) bytes new points start before some none new_is stands = shuts_unused at bytes new points start before none new_is stands

-- where the open round begins
pub start_within : (moment : Option ℕ) (bytes : List ℕ) (points : List Point) (start before : ℕ) → IsSome moment → Stands moment bytes points start before (held 0 bytes) → (0 < start) × (start + 5 ≤ length bytes)
start_within None bytes points start before some stands = absurd cc
start_within (Some at) bytes points start before some o =
    let payload = round_of at (drop before (held 0 bytes)) in
    let mine = to_be_bytes w32 (length payload) in (
      omega (arith, o.start_is),
      omega (arith, o.start_is, ap length o.bytes_are, length-append o.text (0 ∷ body_of payload), length-append mine (payload ++ 0 ∷ []), length_four (length payload), length-append payload (0 ∷ [])),
    )

-- an entry takes a byte at least
few_opened : (n : ℕ) (read : Result (ℕ × List ℕ) Fault) → ((at : ℕ) (rest : List ℕ) → length (entries_from n at rest) ≤ n) → length (then_entries read (λ later rest. entries_from n later rest)) ≤ suc n
few_opened n (Ok x) few = omega (arith, few x.0 x.1)
few_opened n (Err f) few = omega arith

few_taken : (n at : ℕ) (read : Result (Entry × List ℕ) Fault) → ((rest : List ℕ) → length (entries_from n at rest) ≤ n) → length (then_entries read (λ entry rest. entry ∷ entries_from n at rest)) ≤ suc n
few_taken n at (Ok x) few = omega (arith, few x.1)
few_taken n at (Err f) few = omega arith

few_from : (n at : ℕ) (bytes : List ℕ) → length (entries_from n at bytes) ≤ n
unfolding entries_from
few_from zero at bytes = omega arith
few_from (suc n) at [] = omega arith
few_from (suc n) at (zero ∷ bytes) = few_opened n (opening_at bytes) (λ later rest. few_from n later rest)
few_from (suc n) at (suc b ∷ bytes) = few_taken n at (entry_of_round_at at (suc b ∷ bytes)) (λ rest. few_from n at rest)

pub few_held : (at : ℕ) (bytes : List ℕ) → length (held at bytes) ≤ length bytes
few_held at bytes = few_from (length bytes) at bytes

pub act_some : (at : ℕ) (entry : Entry) → at ≤ LAST → IsInRound at entry → 0 < length (act_in entry)
act_some at entry low fits =
    let lt = entry_shorter at (act_in entry ++ []) entry [] ((entry_of_round-field at low).again entry [] fits) in
    omega (arith, lt, length-append (act_in entry) [])

-- how many points there are with one more entry
pub pointed_more : (points newer : List Point) (count : ℕ) (p : Point) → length points ≡ (count + 15) / STRIDE → newer ≡ cond (eqb (count % STRIDE) 0) (points ++ p ∷ []) points → length newer ≡ (count + 1 + 15) / STRIDE
pointed_more points newer count p pointed is = by_test (eqb (count % STRIDE) 0) refl is
  where
    by_test : (b : Bool) → eqb (count % STRIDE) 0 ≡ b → newer ≡ cond b (points ++ p ∷ []) points → length newer ≡ (count + 1 + 15) / STRIDE
    by_test true test e = omega (arith, eqb-true (count % STRIDE) 0 test, ap length e, length-append points (p ∷ []), pointed)
    by_test false test e = omega (arith, eqb-false (count % STRIDE) 0 test, ap length e, pointed)

-- ---- the body, and an entry

pub body_is : (at : ℕ) (bytes : List ℕ) (points : List Point) (start : ℕ) (es round : List Entry) → IsOpen at bytes points start es round → drop start bytes ≡ body_of (round_of at round)
body_is at bytes points start es round o =
    let body = body_of (round_of at round) in
    let len : length (o.text ++ 0 ∷ []) ≡ start = omega (arith, length-append o.text (0 ∷ []), o.start_is) in
    ap (λ (t : List ℕ). drop start t) (o.bytes_are ∙ sym (append_assoc o.text (0 ∷ []) body)) ∙ drop_at (o.text ++ 0 ∷ []) body start len

pub lent : (moment : Option ℕ) (bytes : List ℕ) (points : List Point) (start before : ℕ) → 0 < length (round_in moment before (held 0 bytes)) → Stands moment bytes points start before (held 0 bytes)
    → drop start bytes ≡ body_of (round_of (unwrap_or moment 0) (round_in moment before (held 0 bytes)))
lent None bytes points start before some stands = absurd (omega (arith, some))
lent (Some at) bytes points start before some o = body_is at bytes points start (held 0 bytes) (drop before (held 0 bytes)) o

-- an entry, by its point
pub record IsFoundBy (bytes : List ℕ) (index : ℕ) (p : Point) : Type 0 where
  pub within : p.place ≤ length bytes
  pub low : p.moment ≤ LAST
  pub there : index % STRIDE < length (held p.moment (drop p.place bytes))
  pub same : (d : Entry) → get_or (held p.moment (drop p.place bytes)) (index % STRIDE) d ≡ get_or (held 0 bytes) index d

pub found_by : (bytes : List ℕ) (points : List Point) (index : ℕ) (d : Point) → IsClosed bytes points (held 0 bytes) → index / STRIDE < length points → index < length (held 0 bytes) → IsFoundBy bytes index (get_or points (index / STRIDE) d)
found_by bytes points index d c pointed inside =
    let number = index / STRIDE in
    let es = held 0 bytes in
    let p = get_or points number d in
    let point = c.points_are number d pointed in
    let long : length bytes ≡ length c.text + 1 = ap length c.bytes_are ∙ length-append c.text (0 ∷ []) in
    let cut : drop p.place bytes ≡ drop p.place c.text ++ 0 ∷ [] = ap (λ (t : List ℕ). drop p.place t) c.bytes_are ∙ drop-append-le p.place c.text (0 ∷ []) point.within in
    let holds : held p.moment (drop p.place bytes) ≡ drop (STRIDE * number) es =
    ap (held p.moment) cut ∙ point.holds (0 ∷ []) ∙ ap (λ (t : List Entry). drop (STRIDE * number) es ++ t) (held_end c.to) ∙ append-nil (drop (STRIDE * number) es) in
    let whole : STRIDE * number + index % STRIDE ≡ index = omega arith in
    record {
      within = omega (arith, point.within, long);
      low = point.low;
      there = omega (arith, ap length holds, length-drop (STRIDE * number) es, inside, whole);
      same = λ e. ap (λ (t : List Entry). get_or t (index % STRIDE) e) holds ∙ get_or-drop (STRIDE * number) es (index % STRIDE) e ∙ ap (λ (n : ℕ). get_or es n e) whole;
    }

-- whether a round is open or not, its bytes are whole
pub whole_bytes : (moment : Option ℕ) (bytes : List ℕ) (points : List Point) (start before : ℕ) → Stands moment bytes points start before (held 0 bytes) → IsClosed bytes points (held 0 bytes)
whole_bytes None bytes points start before c = c
whole_bytes (Some at) bytes points start before o = closed at bytes points start (held 0 bytes) (drop before (held 0 bytes)) o

-- a round of one step has 26 bytes

pub one_step : (first at payment step : ℕ) (round : List Entry) → round ≡ record { at = at; act = acts.OutgoingFunded payment step } ∷ [] → length (round_of first round) ≡ 26
one_step first at payment step round is =
    let act = number 8 payment ++ (number 8 step ++ []) in
    ap (λ (l : List Entry). length (round_of first l)) is ∙ omega (
      arith,
      length-append (number 8 first) ((20 ∷ act) ++ []),
      length-append (20 ∷ act) [],
      length-append (number 8 payment) (number 8 step ++ []),
      length-append (number 8 step) [],
      length_number 8 first,
      length_number 8 payment,
      length_number 8 step,
    )
