-- What an added asset changes.
use Rattle.std.proofs.Common.{◌≡◌, ℕ, suc, ◌+◌, Bool, true, false, cond, ◌||◌, List, [], ◌∷◌, ◌++◌, length, Some, None, is_some, refl, sym, ap, subst, if◌then◌else◌, ◌∙◌, arith, inl, inr}
use Rattle.std.specs.Prelude.{codes, ◌≤◌, IsTrue, Ok}
use Rattle.std.specs.List.{list_any, position_from, cons_option}
use Rattle.std.specs.Option.{option_map_or, unwrap_or}
use Rattle.std.specs.declared.option.Option.{Option}
use Rattle.std.proofs.lemmas.List.{append-nil}
use Rattle.std.proofs.lemmas.List.Elements.{filter_map-append}
use Rattle.std.proofs.lemmas.List.Folds.{list_any-append}
use Rattle.std.proofs.lemmas.Bool.Decides.{nat_tests}
use Rattle.op_amount.specs.Code.{is_asset_code}
use Rattle.op_amount.specs.Asset.{is_same_asset}
use Rattle.op_amount.specs.declared.Asset.{Asset}
use Rattle.op_model.specs.History.{AssetRow, asset_added, assets, asset_number, origin_set, origins, origin_of, last, last_moment}
use Rattle.op_model.specs.declared.act.Entry.{Entry}
use Rattle.op_model.specs.declared.act.Act.TheVariants as acts
use Rattle.op_model.specs.declared.reply.Reply.{Reply}
use Rattle.op_model.specs.declared.reply.ReplyBody.TheVariants.{AssetAdded}
use Rattle.op_model.specs.declared.reply.Refusal.TheVariants.{AlreadyExists, Memory}
use Rattle.op_model.specs.declared.request.Request.TheVariants.{AddAsset}
use Rattle.op_model.specs.Round.{FeesAllowed, refusal_reply}
use Rattle.op_model.specs.declared.request.Task.TheVariants.{Ask}
use Rattle.op_model.specs.declared.request.Verdict.{Verdict}
use Rattle.op_desk.specs.Answers.{adds, may_add, reply_with}
use Rattle.op_desk.specs.WalletInside.{AreAdded, IsAddedBy}
use Rattle.op_desk.specs.Wallets.{Handles, IsSound, IsTaken}
use Rattle.op_desk.specs.Built.{is_built}
use Rattle.op_desk.proofs.Lists.{all-append}
use Rattle.op_record.proofs.LengthLaws.{length_append, length_number}
use Rattle.op_record.specs.Fields.{number}
use Rattle.op_record.specs.Records.{record_of}
use Rattle.op_record.specs.Rounds.{act_in}
use Rattle.op_model.proofs.LegalNext.{legal-next}
use Rattle.op_model.proofs.Next.{last_moment-next}
use Rattle.op_model.specs.Answer.{ask_outcome}
use Rattle.op_model.specs.Asking.{◌>>=◌, refuse_if}
use Rattle.op_model.specs.Legal.{keeps_forms, no_verdict}
use Rattle.op_model.specs.declared.act.Act.{Act}
use Rattle.op_time.specs.declared.TheConstants.{LAST}

-- ---- an asset is there where some entry adds it

-- one entry more, whether or not it adds an asset
any_step : (test : AssetRow → Bool) (n : ℕ) (row : Option AssetRow) (rows : List AssetRow) (rest : Bool) → ((m : ℕ) → rest ≡ is_some (position_from test m rows)) → (option_map_or test row false || rest) ≡ is_some (position_from test n (cons_option row rows))
any_step test n None rows rest more = more n
any_step test n (Some row) rows rest more =
    elim (test row) as (λ t. (t || rest) ≡ is_some (cond t (Some n) (position_from test (n + 1) rows))) [
      | true ↦ refl
      | false ↦ more (n + 1)
    ]

any_from : (asset : Asset) (n : ℕ) (history : List Entry) → list_any (adds asset) history ≡ is_some (position_from (λ row. is_same_asset row.asset asset) n (assets history))
any_from asset n [] = refl
any_from asset n (e ∷ es) = any_step (λ row. is_same_asset row.asset asset) n (asset_added e.act) (assets es) (list_any (adds asset) es) (λ m. any_from asset m es)

pub any_adds : (asset : Asset) (history : List Entry) → list_any (adds asset) history ≡ is_some (asset_number history asset)
any_adds asset history = any_from asset 1 history

-- ---- the origin

not_origin : (act : Act) → IsTrue (is_built act) → origin_set act ≡ None
not_origin (acts.OriginSet origin) built = cc
not_origin _ built = refl

pub origin_kept : (history : List Entry) (e : Entry) → IsTrue (is_built e.act) → origin_of (history ++ e ∷ []) ≡ origin_of history
origin_kept history e built =
    let none : cons_option (origin_set e.act) [] ≡ [] = ap (λ (o : Option (List ℕ)). cons_option o []) (not_origin e.act built) in
    ap (λ (set : List (List ℕ)). unwrap_or (last set) (codes "https://wallet.example"))
    (filter_map-append (λ (x : Entry). origin_set x.act) history (e ∷ []) ∙ ap (λ (l : List (List ℕ)). origins history ++ l) none ∙ append-nil (origins history))

-- ---- what may follow

-- the act that adding an asset makes, where it is there or not
act_where : List Entry → ℕ → Asset → ℕ → Bool → Option Act
act_where history t asset pieces there =
    (ask_outcome history t (AddAsset asset pieces) no_verdict (refuse_if there AlreadyExists >>= (λ _. Ok (Some (acts.AssetAdded asset.code asset.scale pieces))))).act

abbrev asset_entry : ℕ → Asset → ℕ → Entry
asset_entry t asset pieces = record { at = t; act = acts.AssetAdded asset.code asset.scale pieces }

pub next_asset : (history : List Entry) (t : ℕ) (asset : Asset) (pieces : ℕ) → IsTrue (keeps_forms (AddAsset asset pieces)) → last_moment history ≤ t → t ≤ LAST → list_any (adds asset) history ≡ false
    → IsTaken history (asset_entry t asset pieces)
next_asset history t asset pieces forms later limit free =
    let found : is_some (asset_number history asset) ≡ false = sym (any_adds asset history) ∙ free in
    record { next = record { later = later; limit = limit; proper = forms; fee = tt; act = rw found refl }; built = refl }

free_where : (history : List Entry) (t : ℕ) (asset : Asset) (pieces : ℕ) (there : Bool) → act_where history t asset pieces there ≡ Some (acts.AssetAdded asset.code asset.scale pieces) → there ≡ false
unfolding act_where
free_where history t asset pieces true act = cc
free_where history t asset pieces false act = refl

pub free_asset : (history : List Entry) (t : ℕ) (asset : Asset) (pieces : ℕ) → IsTaken history (asset_entry t asset pieces) → list_any (adds asset) history ≡ false
unfolding act_where
free_asset history t asset pieces taken = any_adds asset history ∙ free_where history t asset pieces (is_some (asset_number history asset)) taken.next.act

pub sound_next : (history : List Entry) (e : Entry) → IsSound history → IsTaken history e → IsSound (history ++ e ∷ [])
sound_next history e sound taken = record {
  legal = (legal-next history e).1 (sound.legal, taken.next);
  built = all-append (λ (x : Entry). IsTrue (is_built x.act)) history (e ∷ []) sound.built (taken.built, tt);
}

-- a history and one entry more that it takes
pub loaded : (old new : List Entry) (e : Entry) → IsSound old → IsTaken old e → new ≡ old ++ e ∷ [] → IsSound new × (origin_of old ≡ origin_of new)
loaded old new e sound taken grown =
    subst (λ (l : List Entry). IsSound l × (origin_of old ≡ origin_of l)) (sym grown) (sound_next old e sound taken, sym (origin_kept old e taken.built))

-- ---- the assets that are listed

added_entry : (asset : Asset) (e : Entry) → list_any (adds asset) (e ∷ []) ≡ adds asset e
added_entry asset e = elim (adds asset e) as (λ b. (b || false) ≡ b) [ true ↦ refl | false ↦ refl ]

added_listed : (asset one : Asset) → list_any (λ (listed : Asset). is_same_asset listed asset) (one ∷ []) ≡ is_same_asset one asset
added_listed asset one = elim (is_same_asset one asset) as (λ b. (b || false) ≡ b) [ true ↦ refl | false ↦ refl ]

pub added_next : (assets : List Asset) (history : List Entry) (one : Asset) (e : Entry) → AreAdded assets history → IsAddedBy e one → AreAdded (assets ++ one ∷ []) (history ++ e ∷ [])
added_next assets history one e are adds_one asset =
    list_any-append (λ (listed : Asset). is_same_asset listed asset) assets (one ∷ [])
    ∙ ap (λ (b : Bool). b || list_any (λ (listed : Asset). is_same_asset listed asset) (one ∷ [])) (are asset)
    ∙ ap (λ (b : Bool). list_any (adds asset) history || b) (added_listed asset one ∙ sym (adds_one asset) ∙ sym (added_entry asset e))
    ∙ sym (list_any-append (adds asset) history (e ∷ []))

pub are_added : (assets new_assets : List Asset) (old new : List Entry) (one : Asset) (e : Entry) → AreAdded assets old → IsAddedBy e one → new_assets ≡ assets ++ one ∷ [] → new ≡ old ++ e ∷ [] → AreAdded new_assets new
are_added assets new_assets old new one e are adds_one listed grown =
    subst (λ (l : List Asset). AreAdded l new) (sym listed) (subst (λ (h : List Entry). AreAdded (assets ++ one ∷ []) h) (sym grown) (added_next assets old one e are adds_one))

pub last_put : (old new : List Entry) (e : Entry) → new ≡ old ++ e ∷ [] → e.at ≡ last_moment new
last_put old new e grown = sym (ap last_moment grown ∙ last_moment-next old e)

pub listed_is : (assets deref : List Asset) (old history : List Entry) (asset : Asset) (told b : Bool) → AreAdded assets old → old ≡ history → deref ≡ assets → told ≡ list_any (λ (listed : Asset). is_same_asset listed asset) deref → told ≡ b
    → list_any (adds asset) history ≡ b
listed_is assets deref old history asset told b are same is told_is test =
    ap (λ (h : List Entry). list_any (adds asset) h) (sym same) ∙ sym (are asset) ∙ ap (λ (l : List Asset). list_any (λ (listed : Asset). is_same_asset listed asset) l) (sym is) ∙ sym told_is ∙ test

pub record_length : (e : Entry) → length (record_of e) ≡ 8 + length (act_in e)
unfolding record_of
record_length e = omega (arith, length_append (number 8 e.at) (act_in e), length_number 8 e.at)

pub adds_its_asset : (e : Entry) (code : List ℕ) (scale pieces : ℕ) → e.act ≡ acts.AssetAdded code scale pieces → IsAddedBy e (record { code = code; scale = scale })
adds_its_asset e code scale pieces is asset = ap (λ (act : Act). adds asset (record { at = e.at; act = act })) is

-- ---- the code of an asset

some_code_where : (text x : List ℕ) (b : Bool) → Some x ≡ (if b then Some text else None) → (b ≡ true) × (x ≡ text)
some_code_where text x true is = (refl, cc)
some_code_where text x false is = cc

pub some_code : (text x : List ℕ) → Some x ≡ (if is_asset_code text then Some text else None) → (is_asset_code text ≡ true) × (x ≡ text)
some_code text x is = some_code_where text x (is_asset_code text) is

no_code_where : (text : List ℕ) (b : Bool) → None ≡ (if b then Some text else None) → b ≡ false
no_code_where text true is = cc
no_code_where text false is = refl

pub no_code : (text : List ℕ) → None ≡ (if is_asset_code text then Some text else None) → is_asset_code text ≡ false
no_code text is = no_code_where text (is_asset_code text) is

may_add_means : (history : List Entry) (t : ℕ) (asset : Asset) (pieces : ℕ) → is_asset_code asset.code ≡ true → may_add history t asset pieces ≡ true
    → IsTrue (keeps_forms (AddAsset asset pieces)) × (last_moment history ≤ t) × (list_any (adds asset) history ≡ false)
may_add_means history t asset pieces code may = (grind (arith, nat_tests), grind (arith, nat_tests), grind (arith, nat_tests))

pub taken_where : (history : List Entry) (e : Entry) (code : List ℕ) (scale pieces : ℕ) → e.act ≡ acts.AssetAdded code scale pieces → is_asset_code code ≡ true → e.at ≤ LAST
    → may_add history e.at (record { code = code; scale = scale }) pieces ≡ true → IsTaken history e
taken_where history e code scale pieces is valid limit may =
    let means = may_add_means history e.at (record { code = code; scale = scale }) pieces valid may in
    subst (λ (a : Act). IsTaken history (record { at = e.at; act = a })) (sym is) (next_asset history e.at (record { code = code; scale = scale }) pieces means.0 means.1 limit means.2)

may_add_from : (history : List Entry) (t : ℕ) (asset : Asset) (pieces : ℕ) → IsTrue (keeps_forms (AddAsset asset pieces)) → last_moment history ≤ t → list_any (adds asset) history ≡ false
    → (is_asset_code asset.code ≡ true) × (may_add history t asset pieces ≡ true)
may_add_from history t asset pieces forms later free = (grind (arith, nat_tests), grind (arith, nat_tests))

pub not_taken : (history : List Entry) (e : Entry) (code : List ℕ) (scale pieces : ℕ) → e.act ≡ acts.AssetAdded code scale pieces → may_add history e.at (record { code = code; scale = scale }) pieces ≡ false → IsTaken history e → ⊥
not_taken history e code scale pieces is may taken =
    let asset : Asset = record { code = code; scale = scale } in
    let here : IsTaken history (asset_entry e.at asset pieces) = subst (λ (a : Act). IsTaken history (record { at = e.at; act = a })) is taken in
    let from = may_add_from history e.at asset pieces here.next.proper here.next.later (free_asset history e.at asset pieces here) in
    absurd (cc (from.1, may))

-- ---- the three ways in which an asset is handled

-- it is there
pub handles_there : (allows : FeesAllowed) (history : List Entry) (t place : ℕ) (asset : Asset) (pieces : ℕ) (verdict : Verdict) (word : List ℕ) (reply : Reply) → list_any (adds asset) history ≡ true → reply ≡ refusal_reply history AlreadyExists
    → Handles allows history t place (Ask (AddAsset asset pieces) verdict) word reply history
handles_there allows history t place asset pieces verdict word reply there is =
    let found : is_some (asset_number history asset) ≡ true = sym (any_adds asset history) ∙ there in
    (0, false, inr (refl, refl, rw found is, rw found (sym (append-nil history))))

-- it is added
pub handles_new : (allows : FeesAllowed) (history new : List Entry) (t place : ℕ) (asset : Asset) (pieces : ℕ) (verdict : Verdict) (word : List ℕ) (reply : Reply) → list_any (adds asset) history ≡ false
    → new ≡ history ++ record { at = t; act = acts.AssetAdded asset.code asset.scale pieces } ∷ []
    → reply ≡ reply_with new (AssetAdded asset pieces) → Handles allows history t place (Ask (AddAsset asset pieces) verdict) word reply new
handles_new allows history new t place asset pieces verdict word reply free grown is =
    let found : is_some (asset_number history asset) ≡ false = sym (any_adds asset history) ∙ free in
    (0, false, inr (refl, refl, rw found (is ∙ ap (λ (h : List Entry). reply_with h (AssetAdded asset pieces)) grown), rw found grown))

-- memory is wanting
pub handles_wanting : (allows : FeesAllowed) (history : List Entry) (t place : ℕ) (asset : Asset) (pieces : ℕ) (verdict : Verdict) (word : List ℕ) (reply : Reply) → reply ≡ refusal_reply history Memory
    → Handles allows history t place (Ask (AddAsset asset pieces) verdict) word reply history
handles_wanting allows history t place asset pieces verdict word reply is = (0, true, inl (refl, (tt, ap (λ (r : Reply). r.body) is), refl))
