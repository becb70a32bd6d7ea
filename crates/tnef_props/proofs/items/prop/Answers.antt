use Rattle.carrier_model.specs.Grammar.{and_then, gives}
use Rattle.carrier_model.specs.Keys.{Key}
use Rattle.carrier_model.specs.Values.{Value, Prop}
use Rattle.tnef_model.specs.TnefLists.{property, key, value}
use Rattle.prop_names.specs.Meaning.{key_of}
use Rattle.prop_values.specs.Kinds.{kind_number}
use Rattle.tnef_props.specs.Meaning.{seen}
use Rattle.tnef_props.proofs.Forms.{then_takes, seen_takes}
use Rattle.tnef_props.proofs.items.prop.Goals as goal

pub returns-clause-found : goal.returns-clause-found
unfolding property
returns-clause-found c =
    let kind = kind_number c.args.kind in
    let k : Key = key_of c.in_ok-key.key in
    let view : Key → Value → Prop = λ k v. record { key = k; value = v } in
    then_takes (key c.args.id) (λ (k : Key). and_then (value kind) (λ v. gives (view k v))) c.args.from c.in_ok-key.rest c.in_ok-value.rest k _ c.in_ok-key.ensures.found
    (seen_takes (value kind) (view k) c.in_ok-key.rest c.in_ok-value.rest (seen c.in_ok-value.value) c.in_ok-value.ensures.found)
