use Rattle.cfb_sectors.specs.Seen.{bytes_of}
use Rattle.msg_props.specs.Entries.{streams_in}
use Rattle.msg_props.proofs.ElementForms.{Gone}
use Rattle.prop_values.specs.Kinds.{kind_number}
use Rattle.msg_props.proofs.elements.elements.Given as goal

abbrev pub invariant-loop-k : goal.invariant-loop-k
invariant-loop-k l = Gone (kind_number l.single) l.entry.place (streams_in l.files l.at) l.entry.tag (bytes_of l.sizes) l.k l.list l.missing
