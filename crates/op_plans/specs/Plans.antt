-- What is to come of a request.
use Rattle.std.specs.Prelude.{◌≡◌, ℕ, ◌+◌, List, [], ◌∷◌, ◌++◌, Some, None, Ok, Err, is_some, Bool, true, false}
use Rattle.std.specs.declared.option.Option.{Option}
use Rattle.op_amount.specs.declared.Asset.{Asset}
use Rattle.op_model.specs.Answer.{act_for, body_for}
use Rattle.op_model.specs.History.{AddressRow, nth, assets, addresses}
use Rattle.op_model.specs.declared.act.Act.TheVariants as acts
use Rattle.op_model.specs.declared.act.Entry.{Entry}
use Rattle.op_model.specs.declared.reply.ReplyBody.TheVariants as bodies
use Rattle.op_model.specs.declared.request.Request.{Request}
use Rattle.op_model.specs.declared.request.Request.TheVariants as requests
use Rattle.op_model.specs.declared.request.Verdict.{Verdict}
use Rattle.op_plans.specs.declared.plan.Plan.{Plan}
use Rattle.op_plans.specs.declared.plan.Plan.TheVariants.{Refused, Told, Acts}

-- what is to come of a request on a history: its first refusal, or the reply, or the act and the reply behind it
abbrev pub IsPlan : List Entry → (t : ℕ) (word : List ℕ) (fee : ℕ) → Request → Verdict → Plan → Type 0
IsPlan history t word fee request verdict (Refused refusal) = act_for history t word fee request verdict ≡ Err refusal
IsPlan history t word fee request verdict (Told body) =
    (act_for history t word fee request verdict ≡ Ok None) × (body ≡ body_for history t request verdict)
IsPlan history t word fee request verdict (Acts act body) =
    (act_for history t word fee request verdict ≡ Ok (Some act))
    × (body ≡ body_for (history ++ record { at = t; act = act } ∷ []) t request verdict)

-- the same at every moment, with every word, fee and verdict: a provider's request looks at none of them
abbrev pub IsPlanned : List Entry → Request → Plan → Type 0
IsPlanned history request plan = (t : ℕ) (word : List ℕ) (fee : ℕ) (verdict : Verdict) → IsPlan history t word fee request verdict plan

-- the provider's requests on origin, assets, addresses and rates, and reading an address
abbrev pub is_provider_request : Request → Bool
is_provider_request (requests.SetOrigin origin) = true
is_provider_request (requests.AddAsset asset pieces) = true
is_provider_request (requests.AddAddress path asset name) = true
is_provider_request (requests.SetRate source target rate) = true
is_provider_request (requests.ReadAddress path) = true
is_provider_request _ = false

-- each address has an asset that is there
abbrev pub AreBased : List Entry → Type 0
AreBased history = (n : ℕ) (row : AddressRow) → nth (addresses history) n ≡ Some row → is_some (nth (assets history) row.asset) ≡ true

-- the plan of a new address, behind so many others
abbrev pub address_plan : List ℕ → Asset → Option (List ℕ) → (number count : ℕ) → Plan
address_plan path asset name number count =
    Acts (acts.AddressAdded path number name) (bodies.AddressAdded (count + 1) (record { path = path; asset = asset; name = name }))
