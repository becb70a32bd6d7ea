use Rattle.std.proofs.Common.{◌∙◌}
use Rattle.msg_nameid.specs.Maps.{names_in}
use Rattle.msg_props.specs.Heads.{head_bytes}
use Rattle.msg_props.proofs.AddedStreams.{list_added}
use Rattle.msg_props.proofs.writing.add_props.Goals as goal

pub returns : goal.returns
returns g c =
    let names = names_in c.args.names.now in
    list_added c.add_values.result c.args.files.now _ _ c.args.at names (head_bytes c.args.head) c.args.props.now c.args.object _ _
    (c.in_ok-stream.ensures names (c.deref.ensures.value ∙ c.in_ok-tags.ensures)) (c.deref-2.ensures.value ∙ c.in_ok-tags.ensures) c.in_ok-add_stream.ensures.ok c.add_values.ensures
