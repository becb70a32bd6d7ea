use Rattle.std.specs.Prelude.{nat_lt}
use Rattle.std.proofs.lemmas.Bool.{le-ltb}
use Rattle.carrier_model.specs.Keys.{Name, id, named}
use Rattle.carrier_model.specs.Grammar.{and_then, gives}
use Rattle.tnef_model.specs.TnefLists.{name, key}
use Rattle.prop_names.specs.Meaning.{name_of}
use Rattle.tnef_props.proofs.Forms.{right_takes, seen_takes}
use Rattle.tnef_props.proofs.names.key.Goals as goal

pub returns-clause-found : goal.returns-clause-found
unfolding key
returns-clause-found c =
    right_takes (nat_lt c.args.id 0x8000) (gives (id c.args.id)) (and_then name (λ (x : Name). gives (named x))) c.args.from c.in_ok-name.rest _ (le-ltb _ _ c.if-id-lt32768.false)
    (seen_takes name named c.args.from c.in_ok-name.rest (name_of c.in_ok-name.name) c.in_ok-name.ensures.found)
