use Rattle.std.proofs.Common.{◌≡◌, ◌∙◌, List, ℕ, Ok, Err, Some, None, refl, ap, subst, sym, true, false}
use Rattle.std.specs.Prelude.{not}
use Rattle.std.specs.Option.{option_map}
use Rattle.op_model.specs.AdminAnswers.{transfer_named, transfer_act, is_used, has_asset}
use Rattle.op_model.specs.declared.act.Act.{Act}
use Rattle.op_naming.specs.Kept.{transfer_kept}
use Rattle.op_plans.specs.Plans.{IsPlanned}
use Rattle.op_plans.specs.declared.plan.Plan.TheVariants.{Acts}
use Rattle.op_money_plans.specs.Transfers.{is_deposit, transfer_request, is_repeat_of}
use Rattle.op_money_plans.proofs.TransferPlans.{meant_there, used_is, made_there, made_nowhere, move_repeated, move_answered, told_here, told_after, transfer_refused, transfer_told, transfer_acts}
use Rattle.op_money_plans.proofs.transfers.plan_transfer.Goals as goal

pub returns-in-Some-transfer : goal.returns-in-Some-transfer
returns-in-Some-transfer c history names_are is meant =
    let asked = c.args.asked in
    let d = asked.direction in
    let id = c.args.transfer.now in
    let name = c.args.name.now in
    let fits = c.stands_in-fits.result in
    let made = c.in-Some-transfer.made in
    let own : fits ≡ has_asset history asked.account asked.amount.asset = c.stands_in-fits.ensures history names_are is (meant_there history (is_deposit d) name asked.amount.asset asked.account meant) in
    let kept : Some made ≡ option_map transfer_kept (transfer_named history id) = c.in-Some-transfer.ensures history names_are ∙ ap (λ (text : List ℕ). option_map transfer_kept (transfer_named history text)) c.bytes.ensures in
    let repeat : is_repeat_of made asked fits ≡ true = sym c.is_repeat.ensures ∙ c.if-not-is_repeat.false in
    let unused : is_used history (is_deposit d) id asked.account asked.amount ≡ false = used_is history id asked fits made own kept ∙ ap not repeat in
    transfer_told history d id name asked.amount c.in_ok-body.body
    (move_repeated history (is_deposit d) id name asked.amount asked.account c.in-Some.field-0 meant (sym (c.in-Some.ensures history names_are)) unused (made_there transfer_kept (transfer_named history id) made kept))
    (told_here history (is_deposit d) id name asked.amount asked.account c.in_ok-body.body meant c.in_ok-body.ensures)

pub returns-in-Err : goal.returns-in-Err
returns-in-Err c history names_are is meant =
    let asked = c.args.asked in
    let d = asked.direction in
    let id = c.args.transfer.now in
    let name = c.args.name.now in
    let own : c.stands_in-fits.result ≡ has_asset history asked.account asked.amount.asset = c.stands_in-fits.ensures history names_are is (meant_there history (is_deposit d) name asked.amount.asset asked.account meant) in
    let none : transfer_named history id ≡ None = made_nowhere transfer_kept (transfer_named history id) None (c.in_default-transfer.ensures history names_are ∙ ap (λ (text : List ℕ). option_map transfer_kept (transfer_named history text)) c.bytes.ensures) refl in
    transfer_refused history d id name asked.amount c.in-Err.refusal
    (move_answered history (is_deposit d) id name asked.amount asked.account c.in-Some.field-0 (Err c.in-Err.refusal) meant (sym (c.in-Some.ensures history names_are)) none (c.in-Err.ensures history is own))

pub returns : goal.returns
returns c history names_are is meant =
    let asked = c.args.asked in
    let d = asked.direction in
    let id = c.args.transfer.now in
    let name = c.args.name.now in
    let act = transfer_act (is_deposit d) id asked.account asked.amount.value in
    let own : c.stands_in-fits.result ≡ has_asset history asked.account asked.amount.asset = c.stands_in-fits.ensures history names_are is (meant_there history (is_deposit d) name asked.amount.asset asked.account meant) in
    let none : transfer_named history id ≡ None = made_nowhere transfer_kept (transfer_named history id) None (c.in_default-transfer.ensures history names_are ∙ ap (λ (text : List ℕ). option_map transfer_kept (transfer_named history text)) c.bytes.ensures) refl in
    subst (λ (a : Act). IsPlanned history (transfer_request d id name asked.amount) (Acts a c.in_ok-body-2.body)) (sym c.in_ok-act.ensures)
    (transfer_acts history d id name asked.amount act c.in_ok-body-2.body
    (move_answered history (is_deposit d) id name asked.amount asked.account c.in-Some.field-0 (Ok c.in_default-new_transfer.field-0) meant (sym (c.in-Some.ensures history names_are)) none (c.in_default-new_transfer.ensures history is own))
    (λ t. told_after history t (is_deposit d) id name asked.amount asked.account asked.amount.value c.in_ok-body-2.body meant c.in_ok-body-2.ensures))
