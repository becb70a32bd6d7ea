use Rattle.std.proofs.Common.{List, ℕ, ◌-◌, [], ◌∷◌, ap, refl, sym, ◌∙◌}
use Rattle.std.proofs.lemmas.List.{append-nil}
use Rattle.msg_model.specs.StreamNames.{value_name}
use Rattle.msg_model.specs.WrittenMsg.{value_streams, element_streams}
use Rattle.prop_values.specs.Kinds.{kind_number}
use Rattle.prop_values.specs.Meaning.{value_of}
use Rattle.msg_props.proofs.AddedStreams.{one_stream, stream_before}
use Rattle.msg_props.proofs.write_streams.add_value.Goals as goal

pub returns-in_ok-bytes-in-Guid : goal.returns-in_ok-bytes-in-Guid
returns-in_ok-bytes-in-Guid g c =
    let tag = c.args.tag in
    one_stream c.add_numbered_stream.result c.args.files.now _ c.args.at tag (value_name tag) _ _
    (ap (λ v. value_streams tag (value_of g.B.Blob.bytes v)) c.in-Guid.is ∙ ap (λ (b : List ℕ). (value_name tag, b) ∷ []) (sym c.in_ok-bytes-in-Guid.ensures.items))
    refl c.add_numbered_stream.ensures.ok

pub returns-in-Bytes : goal.returns-in-Bytes
returns-in-Bytes g c =
    let tag = c.args.tag in
    one_stream c.add_numbered_stream-in-Bytes.result c.args.files.now _ c.args.at tag (value_name tag) _ _
    (ap (λ v. value_streams tag (value_of g.B.Blob.bytes v)) c.in-Bytes.is ∙ ap (λ (b : List ℕ). (value_name tag, b) ∷ []) (sym (append-nil (g.B.Blob.bytes c.in-Bytes.bytes))))
    refl c.add_numbered_stream-in-Bytes.ensures.ok

pub returns-in_ok-bytes-in-Numbers : goal.returns-in_ok-bytes-in-Numbers
returns-in_ok-bytes-in-Numbers g c =
    let tag = c.args.tag in
    one_stream c.add_numbered_stream-in-Numbers.result c.args.files.now _ c.args.at tag (value_name tag) _ _
    (ap (λ v. value_streams tag (value_of g.B.Blob.bytes v)) c.in-Numbers.is ∙ ap (λ (b : List ℕ). (value_name tag, b) ∷ []) (sym c.in_ok-bytes-in-Numbers.ensures))
    refl c.add_numbered_stream-in-Numbers.ensures.ok

pub returns-in_ok-bytes-in-Guids : goal.returns-in_ok-bytes-in-Guids
returns-in_ok-bytes-in-Guids g c =
    let tag = c.args.tag in
    one_stream c.add_numbered_stream-in-Guids.result c.args.files.now _ c.args.at tag (value_name tag) _ _
    (ap (λ v. value_streams tag (value_of g.B.Blob.bytes v)) c.in-Guids.is ∙ ap (λ (b : List ℕ). (value_name tag, b) ∷ []) (sym c.in_ok-bytes-in-Guids.ensures))
    refl c.add_numbered_stream-in-Guids.ensures.ok

pub returns-in_ok-add_numbered_stream-in-Parts : goal.returns-in_ok-add_numbered_stream-in-Parts
returns-in_ok-add_numbered_stream-in-Parts g c =
    let tag = c.args.tag in
    let others = element_streams tag (kind_number c.in-Parts.kind - 0x1000) 0 c.in-Parts.list in
    stream_before c.add_elements.result c.args.files.now _ _ c.args.at tag (value_name tag) _ others _
    (ap (λ v. value_streams tag (value_of g.B.Blob.bytes v)) c.in-Parts.is ∙ ap (λ (b : List ℕ). (value_name tag, b) ∷ others) (sym c.in_ok-bytes-in-Parts.ensures))
    refl c.in_ok-add_numbered_stream-in-Parts.ensures.ok c.add_elements.ensures
