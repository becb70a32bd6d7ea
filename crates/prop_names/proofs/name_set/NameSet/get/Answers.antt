use Rattle.std.proofs.Common.{◌<◌, length, refl}
use Rattle.std.proofs.lemmas.List.{length-map}
use Rattle.std.proofs.lemmas.Option.{slice_get_read}
use Rattle.carrier_model.specs.Keys.{IsName}
use Rattle.carrier_model.proofs.Elements.{all_got}
use Rattle.prop_names.specs.Meaning.{name_of}
use Rattle.prop_names.proofs.name_set.NameSet.get.Goals as goal

pub returns-clause-short : goal.returns-clause-short
returns-clause-short c =
    let inside : c.args.k < length c.self.inside.list.items = rw (← c.self.view_is, length-map) at c.requires in
    all_got IsName name_of c.self.inside.list.items c.args.k _ c.self.invariant.names (slice_get_read c.self.inside.list.items (length c.self.inside.list.items) c.args.k _ refl inside c.index.ensures)
