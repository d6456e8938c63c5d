use Rattle.std.proofs.Common.{take, sym, ap, subst, ◌∙◌}
use Rattle.std.proofs.lemmas.List.{take_all}
use Rattle.serde_json.proofs.Views.{view-Object}
use Rattle.serde_json.specs.Data.{object}
use Rattle.serde_json.specs.View.{members_view}
use Rattle.op_reply.specs.Fields.{field_data, members_data, put_if, IsText}
use Rattle.op_reply.proofs.Tables.{next_members, text_at}
use Rattle.op_reply.proofs.fields.object.Goals as goal

pub value_of-requires : goal.value_of-requires
value_of-requires c =
    subst (λ m. IsText m.1) (sym c.member-item.is)
    (text_at c.args.members.now c.loop-member.member-index c.member-item.result c.loop-member-test.true c.requires.texts)

pub loop-member-preserved : goal.loop-member-preserved
loop-member-preserved c =
    let table = c.args.members.now in
    let i = c.loop-member.member-index in
    let m = c.member-item.result in
    let old = members_view c.loop-member.map.entries in (
      c.in_ok-put_if.ensures.members
          ∙ ap (λ value. put_if m.0.now value old) c.in_ok-json.ensures
          ∙ ap (λ members. put_if m.0.now (field_data m.1) members) c.loop-member.invariant.0
          ∙ ap (λ x. put_if x.0.now (field_data x.1) (members_data (take i table))) c.member-item.is
          ∙ next_members table i m c.loop-member-test.true c.requires.order,
      c.in_ok-put_if.ensures.plain,
    )

pub returns : goal.returns
returns c = view-Object c.loop-member.map ∙ ap object (c.loop-member.invariant.0 ∙ ap members_data (take_all c.loop-member.member-index c.args.members.now c.loop-member-test.false))
