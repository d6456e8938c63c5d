-- The texts of a history: its origin, its addresses, its grants.
use Rattle.std.proofs.Common.{◌≡◌, ℕ, ◌+◌, List, [], ◌∷◌, codes, refl, sym, subst, Some, None, Option, IfSome, IsUtf8}
use Rattle.std.specs.Prelude.{unwrap_or}
use Rattle.std.specs.List.{AllByRecursion, enumerate_from, filter_map, last_or, cons_option}
use Rattle.std.specs.Option.{option_map}
use Rattle.std.proofs.lemmas.Str.{IsUtf8-nil}
use Rattle.op_names.specs.Secrets.{secret_text}
use Rattle.op_names.specs.declared.Letter.{Letter}
use Rattle.op_names.specs.declared.Letter.TheVariants as letters
use Rattle.op_names.proofs.AsciiTexts.{IsUtf8-from_visible}
use Rattle.op_model.specs.Grants.{Draw, GrantMade, grants_made, grant_asked, grant_so_far, grant_row, access_draws, continuation_draws, draws, reference_word}
use Rattle.op_model.specs.History.{AddressRow, nth, last, origins, origin_set, origin_of, addresses, address_added, address_row, no_address}
use Rattle.op_model.specs.Shown.{path_of_address}
use Rattle.op_model.specs.declared.act.Act.{Act}
use Rattle.op_model.specs.declared.act.Act.TheVariants.{OriginSet, AddressAdded, GrantAsked}
use Rattle.op_model.specs.declared.act.Entry.{Entry}
use Rattle.op_model.specs.declared.row.GrantRow.{GrantRow}
use Rattle.op_model.proofs.Numbered.{nth-numbered, nth_in}
use Rattle.op_printable.proofs.Acts.{HasItemText, HasFinishText, HasActTexts, HasTexts}
use Rattle.op_printable.proofs.Texts.{IsUtf8-secret_text}

-- ---- what a choice takes of the entries

taken : {X : Type 0} (P : X → Type 0) (o : Option X) (xs : List X) → IfSome o P → AllByRecursion P xs → AllByRecursion P (cons_option o xs)
taken P None xs own rest = rest
taken P (Some x) xs own rest = (own, rest)

collected : {X : Type 0} (P : X → Type 0) (take_of : Entry → Option X) → ((e : Entry) → HasActTexts e.act → IfSome (take_of e) P) → (history : List Entry) → HasTexts history → AllByRecursion P (filter_map take_of history)
collected P take_of each [] texts = tt
collected P take_of each (e ∷ es) texts = taken P (take_of e) (filter_map take_of es) (each e texts.0) (collected P take_of each es texts.1)

-- the same, where it sees an entry's number
numbered_collected : {X : Type 0} (P : X → Type 0) (take_of : ℕ × Entry → Option X) → ((k : ℕ) (e : Entry) → HasActTexts e.act → IfSome (take_of (k, e)) P) → (b : ℕ) (history : List Entry) → HasTexts history
    → AllByRecursion P (filter_map take_of (enumerate_from b history))
numbered_collected P take_of each b [] texts = tt
numbered_collected P take_of each b (e ∷ es) texts = taken P (take_of (b, e)) (filter_map take_of (enumerate_from (b + 1) es)) (each b e texts.0) (numbered_collected P take_of each (b + 1) es texts.1)

-- ---- the origin

last_text : (first : List ℕ) (o : Option (List ℕ)) (xs : List (List ℕ)) → IsUtf8 first → IfSome o IsUtf8 → AllByRecursion IsUtf8 xs → IsUtf8 (unwrap_or (last_or o xs) first)
last_text first None [] d own all = d
last_text first (Some x) [] d own all = own
last_text first o (x ∷ xs) d own all = last_text first (Some x) xs d all.0 all.1

set_text : (act : Act) → HasActTexts act → IfSome (origin_set act) IsUtf8
set_text (OriginSet origin) h = h
set_text _ h = tt

pub origin_is_text : (history : List Entry) → HasTexts history → IsUtf8 (origin_of history)
origin_is_text history texts =
    let first = codes "https://wallet.example" in
    last_text first None (origins history) (IsUtf8-from_visible first refl) tt (collected IsUtf8 (λ e. origin_set e.act) (λ e h. set_text e.act h) history texts)

-- ---- addresses

abbrev pub HasAddressTexts : AddressRow → Type 0
HasAddressTexts row = IsUtf8 row.path × IfSome row.name IsUtf8

added_text : (act : Act) → HasActTexts act → IfSome (address_added act) HasAddressTexts
added_text (AddressAdded path asset name) h = h
added_text _ h = tt

row_or_none : (rows : List AddressRow) (n : ℕ) (found : Option AddressRow) → nth rows n ≡ found → AllByRecursion HasAddressTexts rows → HasAddressTexts (unwrap_or found no_address)
row_or_none rows n None is all = (IsUtf8-nil, tt)
row_or_none rows n (Some row) is all = nth_in HasAddressTexts rows n row all is

pub address_is_text : (history : List Entry) (n : ℕ) → HasTexts history → HasAddressTexts (address_row history n)
address_is_text history n texts =
    row_or_none (addresses history) n (nth (addresses history) n) refl (collected HasAddressTexts (λ e. address_added e.act) (λ e h. added_text e.act h) history texts)

pub path_is_text : (history : List Entry) (n : ℕ) → HasTexts history → IsUtf8 (path_of_address history n)
path_is_text history n texts = (address_is_text history n texts).0

-- ---- grants

abbrev HasMadeTexts : GrantMade → Type 0
HasMadeTexts made = AllByRecursion HasItemText made.items × IfSome made.finish HasFinishText

-- the texts of a grant, as it stands
pub record HasGrantTexts (row : GrantRow) : Type 0 where
  pub items : AllByRecursion HasItemText row.items
  pub finish : IfSome row.finish HasFinishText
  pub access : IfSome row.access IsUtf8
  pub continuation : IsUtf8 row.continuation
  pub nonce : IsUtf8 row.nonce
  pub reference : IfSome row.reference IsUtf8

asked_text : (k t : ℕ) (act : Act) → HasActTexts act → IfSome (grant_asked k t act) HasMadeTexts
asked_text k t (GrantAsked client items finish word) h = h
asked_text k t _ h = tt

drawn_text : (letter : Letter) (o : Option Draw) → IfSome (option_map (λ (draw : Draw). secret_text letter draw.word draw.place) o) IsUtf8
drawn_text letter None = tt
drawn_text letter (Some draw) = IsUtf8-secret_text letter draw.word draw.place

so_far_text : (history : List Entry) (g : ℕ) (made : GrantMade) → HasMadeTexts made → HasGrantTexts (grant_so_far history (g, made))
so_far_text history g made texts =
    let continued = unwrap_or (last (continuation_draws history g made)) made.draw in
    record {
      items = texts.0;
      finish = texts.1;
      access = drawn_text letters.Access (last (access_draws history g made));
      continuation = IsUtf8-secret_text letters.Continuation continued.word continued.place;
      nonce = IsUtf8-secret_text letters.Nonce made.draw.word made.draw.place;
      reference = drawn_text letters.Interaction (last (draws (reference_word g) history));
    }

row_text : (history : List Entry) (g : ℕ) (found : Option GrantMade) → nth (grants_made history) g ≡ found → AllByRecursion HasMadeTexts (grants_made history) → IfSome (option_map (λ (made : GrantMade). grant_so_far history (g, made)) found) HasGrantTexts
row_text history g None is all = tt
row_text history g (Some made) is all = so_far_text history g made (nth_in HasMadeTexts (grants_made history) g made all is)

pub grant_is_text : (history : List Entry) (g : ℕ) → HasTexts history → IfSome (grant_row history g) HasGrantTexts
grant_is_text history g texts =
    subst (λ (o : Option GrantRow). IfSome o HasGrantTexts) (sym (nth-numbered (grant_so_far history) (grants_made history) g))
    (row_text history g (nth (grants_made history) g) refl
    (numbered_collected HasMadeTexts (λ ((place, e) : ℕ × Entry). grant_asked place e.at e.act) (λ k e h. asked_text k e.at e.act h) 1 history texts))
