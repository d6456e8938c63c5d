-- The grant of a client's own.
use Rattle.std.proofs.Common.{◌≡◌, ℕ, Bool, true, false, cond, List, refl, ◌∙◌, sym, ap, Some, None, Option, Ok}
use Rattle.std.specs.Option.{option_map, option_and_then}
use Rattle.op_grant.specs.Value.{GrantsValue}
use Rattle.op_grant_plans.specs.Callers.{own_row, own_caller}
use Rattle.op_grant_plans.proofs.Rows.{row_in}
use Rattle.op_legal.proofs.Chains.{none_is_not, some_is}
use Rattle.op_model.specs.Asking.{Caller, is_own, own_grant}
use Rattle.op_model.specs.Grants.{grants, grant_row}
use Rattle.op_model.specs.History.{nth}
use Rattle.op_model.specs.declared.act.Entry.{Entry}
use Rattle.op_model.specs.declared.reply.Refusal.{Refusal}
use Rattle.op_model.specs.declared.request.Verdict.{Verdict}
use Rattle.op_model.specs.declared.row.GrantRow.{GrantRow}

pub record IsOwnAt (value : GrantsValue) (verdict : Verdict) (grant : Option ℕ) (n : ℕ) : Type 0 where
  pub row : GrantRow
  pub named : grant ≡ Some n
  pub there : nth value.rows n ≡ Some row
  pub owns : (history : List Entry) (refusal : Refusal) → value.rows ≡ grants history → own_grant history verdict grant refusal ≡ Ok (record { grant = n; row = row })

owned_at : (history : List Entry) (verdict : Verdict) (n : ℕ) (refusal : Refusal) (row : GrantRow) → grant_row history n ≡ Some row → is_own verdict row ≡ true → own_grant history verdict (Some n) refusal ≡ Ok (record { grant = n; row = row })
owned_at history verdict n refusal row is own = rw (is, own) refl

found_at : (value : GrantsValue) (verdict : Verdict) (k n : ℕ) (found : Option GrantRow) → nth value.rows k ≡ found → Some n ≡ option_map (λ (who : Caller). who.grant) (option_and_then (own_row verdict k) found) → IsOwnAt value verdict (Some k) n
found_at value verdict k n None is h = none_is_not n (sym h)
found_at value verdict k n (Some row) is h = found_own value verdict k n row (is_own verdict row) is refl h
  where
    found_own : (value : GrantsValue) (verdict : Verdict) (k n : ℕ) (row : GrantRow) (b : Bool) → nth value.rows k ≡ Some row → is_own verdict row ≡ b → Some n ≡ option_map (λ (who : Caller). who.grant) (cond b (Some (record { grant = k; row = row })) None) → IsOwnAt value verdict (Some k) n
    found_own value verdict k n row false is own h = none_is_not n (sym h)
    found_own value verdict k n row true is own h =
        let same : n ≡ k = some_is n k h in
        record {
          row = row;
          named = ap (λ (x : ℕ). Some x) (sym same);
          there = ap (λ (x : ℕ). nth value.rows x) same ∙ is;
          owns = λ history refusal rows.
              owned_at history verdict k refusal row (row_in value history k (Some row) rows is) own
              ∙ ap (λ (x : ℕ). let who : Caller = record { grant = x; row = row } in Ok who) (sym same);
        }

pub own_found : (value : GrantsValue) (verdict : Verdict) (grant : Option ℕ) (n : ℕ) → Some n ≡ option_map (λ (who : Caller). who.grant) (own_caller value verdict grant) → IsOwnAt value verdict grant n
own_found value verdict None n h = none_is_not n (sym h)
own_found value verdict (Some k) n h = found_at value verdict k n (nth value.rows k) refl h
