use Rattle.std.proofs.Common.{◌≡◌, ◌∙◌, ap, []}
use Rattle.std.specs.Prelude.{unwrap_or}
use Rattle.carrier_model.specs.KindNames.{kind_name}
use Rattle.carrier_model.specs.Values.{Prop, kind_of}
use Rattle.json_model.specs.Properties.{prop_json}
use Rattle.serde_json.specs.Written.{compact_text}
use Rattle.prop_names.specs.Meaning.{key_of}
use Rattle.prop_values.specs.Meaning.{value_of}
use Rattle.json_writer.proofs.Counted.{andthen, failing, counts_as}
use Rattle.tree_json.proofs.Objects.{prop_text}
use Rattle.tree_json.proofs.write_props.write_prop.Goals as goal

pub returns-in_err-append-clause-json : goal.returns-in_err-append-clause-json
returns-in_err-append-clause-json g c =
    counts_as _ (prop_text c.args.prop.now) (failing _ c.from_residual.ensures.0 c.in_err-append.ensures)

pub returns-in_err-write_key-clause-json : goal.returns-in_err-write_key-clause-json
returns-in_err-write_key-clause-json g c =
    let p : Prop = record { key = key_of c.prop.inside.key; value = value_of g.B.Blob.bytes c.prop.inside.value } in
    counts_as _ (prop_text p ∙ ap (λ p. compact_text (prop_json p)) c.prop.view_is) (andthen c.in_ok-append.ensures (failing _ c.from_residual-in_err-write_key.ensures.0 c.in_err-write_key.ensures.json))

pub returns-in_err-append-2-clause-json : goal.returns-in_err-append-2-clause-json
returns-in_err-append-2-clause-json g c =
    let p : Prop = record { key = key_of c.prop.inside.key; value = value_of g.B.Blob.bytes c.prop.inside.value } in
    counts_as _ (prop_text p ∙ ap (λ p. compact_text (prop_json p)) c.prop.view_is) (andthen c.in_ok-append.ensures (andthen c.in_ok-write_key.ensures.json (failing _ c.from_residual-in_err-append-2.ensures.0 c.in_err-append-2.ensures)))

pub returns-in_err-append_string-clause-json : goal.returns-in_err-append_string-clause-json
returns-in_err-append_string-clause-json g c =
    let p : Prop = record { key = key_of c.prop.inside.key; value = value_of g.B.Blob.bytes c.prop.inside.value } in
    let v = value_of g.B.Blob.bytes c.prop.inside.value in
    let name : c.as_bytes.result.now ≡ unwrap_or (kind_name (kind_of v)) [] = c.as_bytes.ensures.value ∙ (ap (λ o. unwrap_or o []) c.name.ensures ∙ ap (λ k. unwrap_or (kind_name k) []) c.kind.ensures) in
    counts_as _ (prop_text p ∙ ap (λ p. compact_text (prop_json p)) c.prop.view_is) (andthen c.in_ok-append.ensures (andthen c.in_ok-write_key.ensures.json (andthen c.in_ok-append-2.ensures (failing _ c.from_residual-in_err-append_string.ensures.0 (rw name at c.in_err-append_string.ensures)))))

pub returns-in_err-append-3-clause-json : goal.returns-in_err-append-3-clause-json
returns-in_err-append-3-clause-json g c =
    let p : Prop = record { key = key_of c.prop.inside.key; value = value_of g.B.Blob.bytes c.prop.inside.value } in
    let v = value_of g.B.Blob.bytes c.prop.inside.value in
    let name : c.as_bytes.result.now ≡ unwrap_or (kind_name (kind_of v)) [] = c.as_bytes.ensures.value ∙ (ap (λ o. unwrap_or o []) c.name.ensures ∙ ap (λ k. unwrap_or (kind_name k) []) c.kind.ensures) in
    counts_as _ (prop_text p ∙ ap (λ p. compact_text (prop_json p)) c.prop.view_is) (andthen c.in_ok-append.ensures (andthen c.in_ok-write_key.ensures.json (andthen c.in_ok-append-2.ensures (andthen (rw name at c.in_ok-append_string.ensures) (failing _ c.from_residual-in_err-append-3.ensures.0 c.in_err-append-3.ensures)))))

pub returns-in_err-write_value-clause-json : goal.returns-in_err-write_value-clause-json
returns-in_err-write_value-clause-json g c =
    let p : Prop = record { key = key_of c.prop.inside.key; value = value_of g.B.Blob.bytes c.prop.inside.value } in
    let v = value_of g.B.Blob.bytes c.prop.inside.value in
    let name : c.as_bytes.result.now ≡ unwrap_or (kind_name (kind_of v)) [] = c.as_bytes.ensures.value ∙ (ap (λ o. unwrap_or o []) c.name.ensures ∙ ap (λ k. unwrap_or (kind_name k) []) c.kind.ensures) in
    counts_as _ (prop_text p ∙ ap (λ p. compact_text (prop_json p)) c.prop.view_is) (andthen c.in_ok-append.ensures (andthen c.in_ok-write_key.ensures.json (andthen c.in_ok-append-2.ensures (andthen (rw name at c.in_ok-append_string.ensures) (andthen c.in_ok-append-3.ensures (failing _ c.from_residual-in_err-write_value.ensures.0 c.in_err-write_value.ensures.json))))))

pub returns-clause-json : goal.returns-clause-json
returns-clause-json g c =
    let p : Prop = record { key = key_of c.prop.inside.key; value = value_of g.B.Blob.bytes c.prop.inside.value } in
    let v = value_of g.B.Blob.bytes c.prop.inside.value in
    let name : c.as_bytes.result.now ≡ unwrap_or (kind_name (kind_of v)) [] = c.as_bytes.ensures.value ∙ (ap (λ o. unwrap_or o []) c.name.ensures ∙ ap (λ k. unwrap_or (kind_name k) []) c.kind.ensures) in
    counts_as _ (prop_text p ∙ ap (λ p. compact_text (prop_json p)) c.prop.view_is) (andthen c.in_ok-append.ensures (andthen c.in_ok-write_key.ensures.json (andthen c.in_ok-append-2.ensures (andthen (rw name at c.in_ok-append_string.ensures) (andthen c.in_ok-append-3.ensures (andthen c.in_ok-write_value.ensures.json c.append-4.ensures))))))
