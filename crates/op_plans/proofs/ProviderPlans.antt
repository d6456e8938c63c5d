-- What comes of the provider's requests.
use Rattle.std.proofs.Common.{◌≡◌, ℕ, ◌+◌, Bool, true, false, cond, List, [], ◌∷◌, ◌++◌, length, refl, ◌∙◌, sym, ap, arith, Some, None, Option, Result, Ok, Err, IfOk}
use Rattle.std.specs.Prelude.{◌||◌, ◌==◌, not, is_some, unwrap_or}
use Rattle.std.specs.Option.{option_or, option_map}
use Rattle.std.specs.Str.{bytes_eq}
use Rattle.std.proofs.lemmas.Slice.Eq.{bytes_eq-Decides}
use Rattle.op_amount.specs.declared.Asset.{Asset}
use Rattle.op_amount.specs.declared.Rate.{Rate}
use Rattle.op_model.specs.Answer.{body_for, told}
use Rattle.op_model.specs.History.{number_of, AssetRow, AddressRow, nth, origins, assets, addresses, asset_number, path_number, no_asset, no_address}
use Rattle.op_model.specs.Legal.{asset_named}
use Rattle.op_model.specs.Shown.{address_shown}
use Rattle.op_model.specs.declared.act.Act.TheVariants as acts
use Rattle.op_model.specs.declared.act.Entry.{Entry}
use Rattle.op_model.specs.declared.reply.AddressShown.{AddressShown}
use Rattle.op_model.specs.declared.reply.ReplyBody.TheVariants as bodies
use Rattle.op_model.specs.declared.reply.Refusal.TheVariants.{NotFound, AlreadyExists, OriginFixed, SameAsset}
use Rattle.op_model.specs.declared.request.Request.TheVariants as requests
use Rattle.op_model.specs.declared.request.Verdict.{Verdict}
use Rattle.op_model.proofs.Next.{addresses-next, position_from-append}
use Rattle.op_legal.proofs.Names.{asset_found}
use Rattle.op_plans.specs.Plans.{IsPlanned}
use Rattle.op_plans.specs.declared.plan.Plan.TheVariants.{Refused, Told, Acts}
use Rattle.op_plans.specs.Plans.{AreBased}
use Rattle.op_naming.specs.Kept.{asset_kept, address_kept}
use Rattle.op_naming.specs.declared.kept.AssetKept.{AssetKept}
use Rattle.op_naming.specs.declared.kept.AddressKept.{AddressKept}
use Rattle.op_naming.proofs.Lists.{nth_here, number_found}
use Rattle.op_naming.proofs.NamesNext.{assets_stay}

pub none_of : {X : Type 0} (o : Option X) → is_some o ≡ false → o ≡ None
none_of None h = refl
none_of (Some x) h = absurd (let e : true ≡ false = h in cc)

pub ok_from : {X E : Type 0} (result : Result X E) (P Q : X → Type 0) → ((x : X) → P x → Q x) → IfOk result P → IfOk result Q
ok_from (Ok x) P Q step h = step x h
ok_from (Err e) P Q step h = h

-- ---- the origin

pub origin_refused : (history : List Entry) (origin : List ℕ) → (not (length (origins history) == 0) || not (length (addresses history) == 0)) ≡ true → IsPlanned history (requests.SetOrigin origin) (Refused OriginFixed)
origin_refused history origin fixed t word fee verdict = rw fixed refl

pub origin_planned : (history : List Entry) (origin : List ℕ) → (not (length (origins history) == 0) || not (length (addresses history) == 0)) ≡ false → IsPlanned history (requests.SetOrigin origin) (Acts (acts.OriginSet origin) (bodies.OriginSet origin))
origin_planned history origin free t word fee verdict = (rw free refl, refl)

-- ---- assets

pub asset_refused : (history : List Entry) (asset : Asset) (pieces : ℕ) → is_some (asset_number history asset) ≡ true → IsPlanned history (requests.AddAsset asset pieces) (Refused AlreadyExists)
asset_refused history asset pieces there t word fee verdict = rw there refl

pub asset_planned : (history : List Entry) (asset : Asset) (pieces : ℕ) → is_some (asset_number history asset) ≡ false → IsPlanned history (requests.AddAsset asset pieces) (Acts (acts.AssetAdded asset.code asset.scale pieces) (bodies.AssetAdded asset pieces))
asset_planned history asset pieces fresh t word fee verdict = (rw fresh refl, refl)

-- ---- rates

pub source_missing : (history : List Entry) (source target : Asset) (rate : Rate) → asset_number history source ≡ None → IsPlanned history (requests.SetRate source target rate) (Refused NotFound)
source_missing history source target rate none t word fee verdict = rw none refl

pub target_missing : (history : List Entry) (source target : Asset) (rate : Rate) (s : ℕ) → asset_number history source ≡ Some s → asset_number history target ≡ None → IsPlanned history (requests.SetRate source target rate) (Refused NotFound)
target_missing history source target rate s some none t word fee verdict = rw (some, none) refl

pub rate_same : (history : List Entry) (source target : Asset) (rate : Rate) (s u : ℕ) → asset_number history source ≡ Some s → asset_number history target ≡ Some u → (s == u) ≡ true → IsPlanned history (requests.SetRate source target rate) (Refused SameAsset)
rate_same history source target rate s u some there same t word fee verdict = rw (some, there, same) refl

pub rate_planned : (history : List Entry) (source target : Asset) (rate : Rate) (s u : ℕ) → asset_number history source ≡ Some s → asset_number history target ≡ Some u → (s == u) ≡ false → IsPlanned history (requests.SetRate source target rate) (Acts (acts.RateSet s u rate.num rate.den) (bodies.RateSet source target rate))
rate_planned history source target rate s u some there other t word fee verdict = (rw (some, there, other) refl, refl)

-- ---- addresses

pub asset_missing : (history : List Entry) (path : List ℕ) (asset : Asset) (name : Option (List ℕ)) → asset_number history asset ≡ None → IsPlanned history (requests.AddAddress path asset name) (Refused NotFound)
asset_missing history path asset name none t word fee verdict = rw none refl

pub address_exists : (history : List Entry) (path : List ℕ) (asset : Asset) (name : Option (List ℕ)) (n : ℕ) → asset_number history asset ≡ Some n → is_some (path_number history path) ≡ true → IsPlanned history (requests.AddAddress path asset name) (Refused AlreadyExists)
address_exists history path asset name n found there t word fee verdict = rw (found, there) refl

-- the path that was added is found under the next number
found_last : (found : Option ℕ) (b : Bool) (n : ℕ) → found ≡ None → b ≡ true → option_or found (cond b (Some n) None) ≡ Some n
found_last found b n none same = rw (none, same) refl

path_added : (history : List Entry) (e : Entry) (row : AddressRow) (path : List ℕ) → addresses (history ++ e ∷ []) ≡ addresses history ++ row ∷ [] → row.path ≡ path → path_number history path ≡ None → path_number (history ++ e ∷ []) path ≡ Some (1 + length (addresses history))
path_added history e row path added is fresh =
    ap (λ (rows : List AddressRow). number_of (λ (r : AddressRow). bytes_eq r.path path) rows) added
    ∙ position_from-append (λ (r : AddressRow). bytes_eq r.path path) 1 (addresses history) (row ∷ [])
    ∙ found_last (path_number history path) (bytes_eq row.path path) (1 + length (addresses history)) fresh ((bytes_eq-Decides row.path path).1 is)

address_body : (history : List Entry) (t : ℕ) (path : List ℕ) (asset : Asset) (name : Option (List ℕ)) (n count : ℕ) (verdict : Verdict) → asset_number history asset ≡ Some n → path_number history path ≡ None → count ≡ length (addresses history)
    → bodies.AddressAdded (count + 1) (record { path = path; asset = asset; name = name }) ≡ body_for (history ++ record { at = t; act = acts.AddressAdded path n name } ∷ []) t (requests.AddAddress path asset name) verdict
address_body history t path asset name n count verdict found fresh counted =
    let e : Entry = record { at = t; act = acts.AddressAdded path n name } in
    let row : AddressRow = record { path = path; asset = n; name = name } in
    let after = history ++ e ∷ [] in
    let number = 1 + length (addresses history) in
    let added : addresses after ≡ addresses history ++ row ∷ [] = addresses-next history e in
    let there : path_number after path ≡ Some number = path_added history e row path added refl fresh in
    let at : nth (addresses after) number ≡ Some row = ap (λ (rows : List AddressRow). nth rows number) added ∙ nth_here (addresses history) row number refl in
    let same : count + 1 ≡ number = omega (arith, counted) in
    let named : asset ≡ asset_named after n = sym (asset_found history asset n found) ∙ ap (λ (rows : List AssetRow). (unwrap_or (nth rows n) no_asset).asset) (sym (assets_stay history e refl)) in
    let shown : record { path = path; asset = asset; name = name } ≡ address_shown after number =
    ap (λ (a : Asset). let x : AddressShown = record { path = path; asset = a; name = name } in x) named
    ∙ ap (λ (o : Option AddressRow). let r = unwrap_or o no_address in let x : AddressShown = record { path = r.path; asset = asset_named after r.asset; name = r.name } in x) (sym at) in
    ap (λ (k : ℕ). bodies.AddressAdded k (record { path = path; asset = asset; name = name })) same
    ∙ ap (λ (a : AddressShown). bodies.AddressAdded number a) shown
    ∙ ap (λ (o : Option ℕ). told (λ m. bodies.AddressAdded m (address_shown after m)) o) (sym there)

pub address_planned : (history : List Entry) (path : List ℕ) (asset : Asset) (name : Option (List ℕ)) (n count : ℕ) → asset_number history asset ≡ Some n → is_some (path_number history path) ≡ false → count ≡ length (addresses history)
    → IsPlanned history (requests.AddAddress path asset name) (Acts (acts.AddressAdded path n name) (bodies.AddressAdded (count + 1) (record { path = path; asset = asset; name = name })))
address_planned history path asset name n count found fresh counted t word fee verdict =
    (rw (found, fresh) refl, address_body history t path asset name n count verdict found (none_of (path_number history path) fresh) counted)

-- ---- reading an address

pub path_missing : (history : List Entry) (path : List ℕ) → path_number history path ≡ None → IsPlanned history (requests.ReadAddress path) (Refused NotFound)
path_missing history path none t word fee verdict = rw none refl

pub address_told : (history : List Entry) (path : List ℕ) (n : ℕ) (shown : AddressShown) → path_number history path ≡ Some n → shown ≡ address_shown history n → IsPlanned history (requests.ReadAddress path) (Told (bodies.AddressRead shown))
address_told history path n shown found is t word fee verdict =
    (rw found refl, ap bodies.AddressRead is ∙ ap (λ (o : Option ℕ). told (λ m. bodies.AddressRead (address_shown history m)) o) (sym found))

-- ---- what cannot be missing

some_is : {X : Type 0} (x y : X) → Some x ≡ Some y → x ≡ y
some_is x y h = cc

some_mapped : {X Y : Type 0} (f : X → Y) (o : Option X) → is_some (option_map f o) ≡ is_some o
some_mapped f None = refl
some_mapped f (Some x) = refl

not_both : (b : Bool) → b ≡ true → b ≡ false → ⊥
not_both b yes_it no_it = absurd (let e : true ≡ false = sym yes_it ∙ no_it in cc)

row_where : (history : List Entry) (n : ℕ) (o : Option AddressRow) (kept : AddressKept) (asset : Option AssetKept) → nth (addresses history) n ≡ o → AreBased history → Some kept ≡ option_map address_kept o → asset ≡ option_map asset_kept (nth (assets history) kept.asset) → asset ≡ None → ⊥
row_where history n None kept asset at based is of none = absurd (let e : Some kept ≡ None = is in cc)
row_where history n (Some row) kept asset at based is of none =
    let same : kept.asset ≡ row.asset = ap (λ (k : AddressKept). k.asset) (some_is kept (address_kept row) is) in
    let there : is_some (nth (assets history) kept.asset) ≡ true = ap (λ (k : ℕ). is_some (nth (assets history) k)) same ∙ based n row at in
    let missing : is_some (nth (assets history) kept.asset) ≡ false =
    sym (some_mapped asset_kept (nth (assets history) kept.asset)) ∙ ap is_some (sym of) ∙ ap is_some none in
    not_both (is_some (nth (assets history) kept.asset)) there missing

-- the asset of an address is there
pub asset_there : (history : List Entry) (n : ℕ) (kept : AddressKept) (asset : Option AssetKept) → AreBased history → Some kept ≡ option_map address_kept (nth (addresses history) n) → asset ≡ option_map asset_kept (nth (assets history) kept.asset) → asset ≡ None → ⊥
asset_there history n kept asset based is of none = row_where history n (nth (addresses history) n) kept asset refl based is of none

-- an address whose path was found is there
pub address_there : (history : List Entry) (path : List ℕ) (n : ℕ) (shown : Option AddressShown) → path_number history path ≡ Some n → shown ≡ option_map (λ (row : AddressRow). address_shown history n) (nth (addresses history) n) → shown ≡ None → ⊥
address_there history path n shown found of none =
    let item = number_found (λ (row : AddressRow). bytes_eq row.path path) (addresses history) n found in
    absurd (let e : None ≡ Some (address_shown history n) = sym none ∙ of ∙ ap (option_map (λ (row : AddressRow). address_shown history n)) item.there in cc)
