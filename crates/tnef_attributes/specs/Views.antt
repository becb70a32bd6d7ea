-- Attributes without where they lie in memory.
use Rattle.std.specs.Prelude.{List, map}
use Rattle.tnef_attributes.specs.declared.attributes.Attribute.{Attribute}
use Rattle.tnef_model.specs.Attributes.{Attr, attr}

abbrev pub view : Attribute → Attr
view a = attr a.level a.id a.offset a.bytes.now

abbrev pub views : List Attribute → List Attr
views attributes = map view attributes
