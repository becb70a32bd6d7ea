use Rattle.std.proofs.Common.{◌≡◌, ◌-◌, ◌∙◌, ℕ, List, OnOk, ap, subst, sym}
use Rattle.std.specs.Str.{IsAscii}
use Rattle.cfb_list.specs.Contents.{row_streams}
use Rattle.cfb_list.specs.Listed.{Listed}
use Rattle.msg_props.proofs.AddedStreams.{Streams, row_is}
use Rattle.msg_props.proofs.NameForms.{front_ascii}
use Rattle.msg_props.specs.Tagged.{with_streams}
use Rattle.prop_values.specs.Kinds.{kind_number}
use Rattle.msg_props.proofs.write_streams.add_elements.Goals as goal

pub text_of-requires : goal.text_of-requires
text_of-requires g c = subst IsAscii (sym c.element_front-front.ensures) (front_ascii c.args.tag)

pub returns : goal.returns
returns g c =
    let list = c.args.list.now in
    let nulls = c.part_null_size-zeros.result in
    subst (λ (l : Streams). OnOk c.add_row.result (◌≡◌ {A = Listed} c.add_row.new.self (with_streams c.args.files.now c.args.at l)))
    (ap (row_streams c.text_of.result.now nulls 0) c.as_slice.ensures
    ∙ ap (λ (front : List ℕ). row_streams front nulls 0 list) (c.text_of.ensures.bytes ∙ c.element_front-front.ensures)
    ∙ row_is c.args.tag (kind_number c.args.kind - 0x1000) nulls 0 list c.part_null_size-zeros.ensures)
    c.add_row.ensures.ok
