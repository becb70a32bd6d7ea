use Rattle.std.proofs.Common.{◌≡◌, [], ◌∷◌, ◌++◌, List, ℕ, ap, ◌∙◌}
use Rattle.std.specs.Prelude.{codes, unwrap_or}
use Rattle.carrier_model.specs.KeyTexts.{key_text}
use Rattle.carrier_model.specs.KindNames.{kind_name}
use Rattle.carrier_model.specs.Values.{kind_of}
use Rattle.text_model.specs.TreeTexts.{prop_text}
use Rattle.text_model.specs.ValueTexts.{value_text}
use Rattle.prop_names.specs.Meaning.{key_of}
use Rattle.prop_values.specs.Meaning.{value_of}
use Rattle.carrier_io.proofs.Known.{andthen, failing}
use Rattle.tree_texts.proofs.Lists.{prop_parts}
use Rattle.tree_texts.proofs.Partly.{writes_as}
use Rattle.tree_texts.proofs.props.write_prop.Goals as goal

pub returns-in_err-print_key : goal.returns-in_err-print_key
returns-in_err-print_key g c =
    let v = value_of g.B.Blob.bytes c.prop.inside.value in
    writes_as _ (ap prop_text c.prop.view_is) (failing (codes " " ++ (unwrap_or (kind_name (kind_of v)) [] ++ (codes " " ++ value_text v))) c.from_residual.ensures.0 c.in_err-print_key.ensures)

pub returns-in_err-write_parts : goal.returns-in_err-write_parts
returns-in_err-write_parts g c =
    let key = key_text (key_of c.prop.inside.key) in
    let v = value_of g.B.Blob.bytes c.prop.inside.value in
    let kind = unwrap_or (kind_name (kind_of v)) [] in
    let name : c.as_bytes.result.now ≡ kind = c.as_bytes.ensures.value ∙ (ap (λ o. unwrap_or o []) c.name-kind.ensures ∙ ap (λ k. unwrap_or (kind_name k) []) c.kind.ensures) in
    writes_as _ (prop_parts key kind (value_text v) ∙ ap prop_text c.prop.view_is) (andthen c.in_ok-print_key.ensures (failing (value_text v) c.from_residual-in_err-write_parts.ensures.0 (writes_as _ (ap (λ (z : List ℕ). 0x20 ∷ z ++ 0x20 ∷ []) name) c.in_err-write_parts.ensures)))

pub returns : goal.returns
returns g c =
    let key = key_text (key_of c.prop.inside.key) in
    let v = value_of g.B.Blob.bytes c.prop.inside.value in
    let kind = unwrap_or (kind_name (kind_of v)) [] in
    let name : c.as_bytes.result.now ≡ kind = c.as_bytes.ensures.value ∙ (ap (λ o. unwrap_or o []) c.name-kind.ensures ∙ ap (λ k. unwrap_or (kind_name k) []) c.kind.ensures) in
    writes_as _ (prop_parts key kind (value_text v) ∙ ap prop_text c.prop.view_is) (andthen c.in_ok-print_key.ensures (andthen (writes_as _ (ap (λ (z : List ℕ). 0x20 ∷ z ++ 0x20 ∷ []) name) c.in_ok-write_parts.ensures) c.write_value.ensures))
