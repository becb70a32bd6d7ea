use Rattle.std.proofs.Common.{◌≡◌, ◌∙◌, sym, ap, option_map}
use Rattle.json.specs.Find.{get, get_member}
use Rattle.json_values.specs.Values.{value_view, json_members}
use Rattle.json_values.specs.View.{data_of}
use Rattle.json_values.proofs.Values.{object_seen}
use Rattle.json_values.proofs.Views.{seen_by_ref, get_seen}
use Rattle.json_values.proofs.parts.get.Goals as goal

pub returns-in-Object : goal.returns-in-Object
returns-in-Object c =
    let name = c.args.name.now in
    let found : option_map (λ v. value_view v.now) c.last_named.result ≡ get name (value_view c.args.value.now) =
    c.last_named.ensures ∙ (ap (λ ms. get_member name (json_members ms)) c.unboxed.ensures ∙ ap (get name) (sym (ap value_view c.in-Object.is ∙ object_seen c.in-Object.members))) in
    seen_by_ref c.last_named.result ∙ (ap (option_map data_of) found ∙ get_seen name (value_view c.args.value.now))
