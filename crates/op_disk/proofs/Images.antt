-- The disk model byte by byte and the same a write at a time are one.
use Rattle.std.proofs.Common.{◌≡◌, ◌⊎◌, inl, inr, ⊎_elim, ℕ, ◌+◌, ◌-◌, ◌≤◌, ◌<◌, min, max, Bool, true, false, List, [], ◌∷◌, ◌++◌, length, take, drop, get_or, refl, sym, ◌∙◌, ap, subst, arith, length-append, length-drop, length-take, nat_le, nat_lt, ◌&&◌, ◌||◌}
use Rattle.std.proofs.lemmas.Bool.{cases_lt, cases_Bool}
use Rattle.std.proofs.lemmas.List.{take_all, ext_get_or, get_or-take, get_or-drop, length-take-le, get_or-append_right, get_or_append_left}
use Rattle.op_disk.specs.Calls.{Torn, overlaid}
use Rattle.op_disk.specs.Crash.{Range, is_written, greatest_end, MayLeave, MayReach}

front_of : (at : ℕ) (l : List ℕ) → take (min at (length l)) l ≡ take at l
front_of at l = elim (cases_lt at (length l)) [
  | inl low ↦ let is : min at (length l) ≡ at = omega arith in ap (λ (k : ℕ). take k l) is
  | inr high ↦ let is : min at (length l) ≡ length l = omega arith in ap (λ (k : ℕ). take k l) is ∙ take_all (length l) l (omega arith) ∙ sym (take_all at l (omega arith))
]

-- a write may be lost
pub torn_lost : (at count : ℕ) (l : List ℕ) → Torn at count l l
torn_lost at count l = record { before = front_of at l; after = refl; no_shorter = omega arith; no_longer = omega arith }

-- what a torn write leaves, by the place
pub torn_before : (at count : ℕ) (old new : List ℕ) → Torn at count old new → (i : ℕ) → i < at → i < length old → get_or new i 0 ≡ get_or old i 0
torn_before at count old new torn i low inside =
    sym (get_or-take (min at (length old)) new i 0 (omega arith)) ∙ ap (λ (l : List ℕ). get_or l i 0) torn.before ∙ get_or-take at old i 0 low

pub torn_after : (at count : ℕ) (old new : List ℕ) → Torn at count old new → (i : ℕ) → at + count ≤ i → get_or new i 0 ≡ get_or old i 0
torn_after at count old new torn i high =
    let is : i ≡ at + count + (i - (at + count)) = omega arith in
    ap (λ (k : ℕ). get_or new k 0) is ∙ sym (get_or-drop (at + count) new (i - (at + count)) 0) ∙ ap (λ (l : List ℕ). get_or l (i - (at + count)) 0) torn.after
    ∙ get_or-drop (at + count) old (i - (at + count)) 0 ∙ ap (λ (k : ℕ). get_or old k 0) (sym is)

same_take : (n m : ℕ) (xs ys : List ℕ) → min n (length xs) ≡ min m (length ys) → ((i : ℕ) → i < n → i < length xs → get_or xs i 0 ≡ get_or ys i 0) → take n xs ≡ take m ys
same_take n m xs ys size each =
    ext_get_or 0 (take n xs) (take m ys) (omega (arith, size, length-take n xs, length-take m ys))
    (λ i le. get_or-take n xs i 0 (omega (arith, le, length-take n xs)) ∙ each i (omega (arith, le, length-take n xs)) (omega (arith, le, length-take n xs)) ∙ sym (get_or-take m ys i 0 (omega (arith, le, size, length-take n xs))))

same_drop : (n : ℕ) (xs ys : List ℕ) → length xs - n ≡ length ys - n → ((i : ℕ) → n ≤ i → i < length xs → get_or xs i 0 ≡ get_or ys i 0) → drop n xs ≡ drop n ys
same_drop n xs ys size each =
    ext_get_or 0 (drop n xs) (drop n ys) (omega (arith, size, length-drop n xs, length-drop n ys))
    (λ i le. get_or-drop n xs i 0 ∙ each (n + i) (omega arith) (omega (arith, le, length-drop n xs)) ∙ sym (get_or-drop n ys i 0))

-- a torn write, from what it leaves by the place
torn_from : (at count : ℕ) (old new : List ℕ) → length old ≤ length new → length new ≤ max (length old) (at + count)
    → ((i : ℕ) → i < at → i < length old → get_or new i 0 ≡ get_or old i 0) → ((i : ℕ) → at + count ≤ i → i < length new → get_or new i 0 ≡ get_or old i 0)
    → Torn at count old new
torn_from at count old new low high front back = record {
  before = same_take (min at (length old)) at new old (omega (arith, low)) (λ i le inside. front i (omega (arith, le)) (omega (arith, le)));
  after = same_drop (at + count) new old (omega (arith, low, high)) back;
  no_shorter = low;
  no_longer = high;
}

-- what stands where these bytes were written over others
pub overlaid_within : (old : List ℕ) (at : ℕ) (bytes : List ℕ) (i : ℕ) → at ≤ length old → at ≤ i → i < at + length bytes → get_or (overlaid old at bytes) i 0 ≡ get_or bytes (i - at) 0
overlaid_within old at bytes i place low high =
    let front : length (take at old) ≡ at = length-take-le at old place in
    get_or_append_left (take at old ++ bytes) (drop (at + length bytes) old) 0 i (omega (arith, front, high, length-append (take at old) bytes))
    ∙ get_or-append_right (take at old) bytes at i 0 front low

pub overlaid_before : (old : List ℕ) (at : ℕ) (bytes : List ℕ) (i : ℕ) → at ≤ length old → i < at → get_or (overlaid old at bytes) i 0 ≡ get_or old i 0
overlaid_before old at bytes i place low =
    let front : length (take at old) ≡ at = length-take-le at old place in
    get_or_append_left (take at old ++ bytes) (drop (at + length bytes) old) 0 i (omega (arith, front, low, length-append (take at old) bytes))
    ∙ get_or_append_left (take at old) bytes 0 i (omega (arith, front, low)) ∙ get_or-take at old i 0 low

pub overlaid_after : (old : List ℕ) (at : ℕ) (bytes : List ℕ) (i : ℕ) → at ≤ length old → at + length bytes ≤ i → get_or (overlaid old at bytes) i 0 ≡ get_or old i 0
overlaid_after old at bytes i place high =
    let front : length (take at old) ≡ at = length-take-le at old place in
    let both : length (take at old ++ bytes) ≡ at + length bytes = omega (arith, front, length-append (take at old) bytes) in
    let is : at + length bytes + (i - (at + length bytes)) ≡ i = omega (arith, high) in
    get_or-append_right (take at old ++ bytes) (drop (at + length bytes) old) (at + length bytes) i 0 both high
    ∙ get_or-drop (at + length bytes) old (i - (at + length bytes)) 0 ∙ ap (λ (k : ℕ). get_or old k 0) is

pub overlaid_length : (old : List ℕ) (at : ℕ) (bytes : List ℕ) → at ≤ length old → length (overlaid old at bytes) ≡ max (length old) (at + length bytes)
overlaid_length old at bytes place =
    omega (arith, place, length-take-le at old place, length-append (take at old) bytes, length-append (take at old ++ bytes) (drop (at + length bytes) old), length-drop (at + length bytes) old)

-- a write may be made
pub torn_made : (at : ℕ) (bytes old : List ℕ) → at ≤ length old → Torn at (length bytes) old (overlaid old at bytes)
torn_made at bytes old place =
    torn_from at (length bytes) old (overlaid old at bytes) (omega (arith, overlaid_length old at bytes place)) (omega (arith, overlaid_length old at bytes place))
    (λ i low inside. overlaid_before old at bytes i place low) (λ i high inside. overlaid_after old at bytes i place high)

-- of a range that was not written
not_within : (at count i : ℕ) (rest : Bool) → ((nat_le at i && nat_lt i (at + count)) || rest) ≡ false → (rest ≡ false) × ((i < at) ⊎ (at + count ≤ i))
not_within at count i false is = elim (cases_lt i at) [
  | inl low ↦ (refl, inl low)
  | inr high ↦ elim (cases_lt i (at + count)) [
    | inl inner ↦ absurd (grind (arith, is, high, inner))
    | inr outer ↦ (refl, inr outer)
  ]
]
not_within at count i true is = absurd (grind (arith, is))

outside : (at count i : ℕ) (rest : Bool) → rest ≡ false → (i < at) ⊎ (at + count ≤ i) → ((nat_le at i && nat_lt i (at + count)) || rest) ≡ false
outside at count i rest is out = elim out [ inl low ↦ grind (arith, low, is) | inr high ↦ grind (arith, high, is) ]

-- one write more
pub leaves_torn : (synced : List ℕ) (range : Range) (written : List Range) (old new : List ℕ) → MayLeave synced written old → Torn range.at range.count old new → MayLeave synced (range ∷ written) new
leaves_torn synced range written old new leaves torn = record {
  no_shorter = omega (arith, leaves.no_shorter, torn.no_shorter);
  no_longer = omega (arith, leaves.no_longer, torn.no_longer);
  stays = λ i inside is.
      let out = not_within range.at range.count i (is_written written i) is in
      let same : get_or new i 0 ≡ get_or old i 0 = elim out.1 [
        | inl low ↦ torn_before range.at range.count old new torn i low (omega (arith, inside, leaves.no_shorter))
        | inr high ↦ torn_after range.at range.count old new torn i high
      ] in
      same ∙ leaves.stays i inside out.0;
}

-- What stood before a write: the image as far as it may reach without it, with the synced bytes in the range.
module _ (synced : List ℕ) (range : Range) (written : List Range) (image : List ℕ) (leaves : MayLeave synced (range ∷ written) image) where
  abbrev top : ℕ
  top = min (length image) (max (length synced) (greatest_end written))

  abbrev part : List ℕ
  part = take range.count (drop range.at synced)

  abbrev place : ℕ
  place = min range.at (length synced)

  abbrev before : List ℕ
  before = overlaid (take top image) place part

  size_part : length part ≡ min range.count (length synced - range.at)
  size_part = omega (arith, length-take range.count (drop range.at synced), length-drop range.at synced)

  size_front : length (take top image) ≡ top
  size_front = omega (arith, length-take top image)

  reaches_past : length synced ≤ top
  reaches_past = omega (arith, leaves.no_shorter)

  fits : place ≤ length (take top image)
  fits = omega (arith, size_front, reaches_past)

  size : length before ≡ top
  size = omega (arith, overlaid_length (take top image) place part fits, size_part, size_front, reaches_past)

  untouched : (i : ℕ) → (i < range.at) ⊎ (range.at + range.count ≤ i) → i < top → get_or before i 0 ≡ get_or image i 0
  untouched i out inside =
      let front : get_or (take top image) i 0 ≡ get_or image i 0 = get_or-take top image i 0 inside in
      elim (cases_lt i place) [
        | inl low ↦ overlaid_before (take top image) place part i fits low ∙ front
        | inr high ↦ overlaid_after (take top image) place part i fits (⊎_elim (λ below. omega (arith, below, high, size_part)) (λ above. omega (arith, above, high, size_part)) out) ∙ front
      ]

  pub before_torn : Torn range.at range.count before image
  before_torn =
      torn_from range.at range.count before image (omega (arith, size)) (omega (arith, size, leaves.no_longer))
      (λ i low inside. sym (untouched i (inl low) (omega (arith, size, inside))))
      (λ i high inside. sym (untouched i (inr high) (omega (arith, high, inside, leaves.no_longer))))

  pub before_leaves : MayLeave synced written before
  before_leaves = record {
    no_shorter = omega (arith, size, reaches_past);
    no_longer = omega (arith, size);
    stays = λ i inside is.
        let outer : (i < range.at) ⊎ (range.at + range.count ≤ i) → get_or before i 0 ≡ get_or synced i 0 = λ out.
        untouched i out (omega (arith, inside, reaches_past)) ∙ leaves.stays i inside (outside range.at range.count i (is_written written i) is out) in
        elim (cases_lt i range.at) [
          | inl low ↦ outer (inl low)
          | inr high ↦ elim (cases_lt i (range.at + range.count)) [
            | inr above ↦ outer (inr above)
            | inl inner ↦
                let here : place ≡ range.at = omega (arith, high, inside) in
                let there : range.at + (i - place) ≡ i = omega (arith, here, high) in
                overlaid_within (take top image) place part i fits (omega (arith, here, high)) (omega (arith, here, size_part, inside, inner))
                ∙ get_or-take range.count (drop range.at synced) (i - place) 0 (omega (arith, here, inner, high))
                ∙ get_or-drop range.at synced (i - place) 0 ∙ ap (λ (k : ℕ). get_or synced k 0) there
          ]
        ];
  }

pub torn_back : (synced : List ℕ) (range : Range) (written : List Range) (image : List ℕ) → MayLeave synced (range ∷ written) image → (old : List ℕ) × MayLeave synced written old × Torn range.at range.count old image
torn_back synced range written image leaves = (before synced range written image leaves, before_leaves synced range written image leaves, before_torn synced range written image leaves)

pub leaves_itself : (bytes : List ℕ) → MayLeave bytes [] bytes
leaves_itself bytes = record { no_shorter = omega arith; no_longer = omega arith; stays = λ i inside is. refl }

-- after a sync that nothing was written since
pub leaves_only : (bytes image : List ℕ) → MayLeave bytes [] image → image ≡ bytes
leaves_only bytes image leaves =
    ext_get_or 0 image bytes (omega (arith, leaves.no_shorter, leaves.no_longer)) (λ i le. leaves.stays i (omega (arith, le, leaves.no_longer)) refl)

pub reaches : (synced : List ℕ) (written : List Range) (image : List ℕ) → MayLeave synced written image → MayReach synced written image
reaches synced [] image leaves = leaves_only synced image leaves
reaches synced (range ∷ written) image leaves =
    let old = torn_back synced range written image leaves in
    (old.0, reaches synced written old.0 old.1, old.2)

pub leaves : (synced : List ℕ) (written : List Range) (image : List ℕ) → MayReach synced written image → MayLeave synced written image
leaves synced [] image reached = subst (λ (l : List ℕ). MayLeave synced [] l) (sym reached) (leaves_itself synced)
leaves synced (range ∷ written) image reached = leaves_torn synced range written reached.0 image (leaves synced written reached.0 reached.1) reached.2

-- an image that has the wanted bytes where they are free is the wanted one, where that is allowed
pub wanted_made : (synced : List ℕ) (written : List Range) (image wanted : List ℕ) → MayLeave synced written wanted → length image ≡ length wanted
    → ((k : ℕ) → k < length image → k < length synced → is_written written k ≡ false → get_or image k 0 ≡ get_or synced k 0)
    → ((k : ℕ) → k < length image → k < length wanted → (length synced ≤ k) ⊎ (is_written written k ≡ true) → get_or image k 0 ≡ get_or wanted k 0)
    → image ≡ wanted
wanted_made synced written image wanted allowed size stays free =
    ext_get_or 0 image wanted size
    (λ k inside. elim (cases_lt k (length synced)) [
      | inr past ↦ free k inside (omega (arith, size, inside)) (inl past)
      | inl old ↦ elim (cases_Bool (is_written written k)) [
        | inl is ↦ free k inside (omega (arith, size, inside)) (inr is)
        | inr not ↦ stays k inside old not ∙ sym (allowed.stays k old not)
      ]
    ])
