use Rattle.std.proofs.Common.{[], get_or}
use Rattle.carrier_io.proofs.Known.{andthen, failing}
use Rattle.prop_values.specs.Meaning.{value_of}
use Rattle.tree_texts.specs.Elements.{elements_of}
use Rattle.tree_texts.proofs.elements.write_next.Goals as goal

pub returns-in_err-write_separator : goal.returns-in_err-write_separator
returns-in_err-write_separator g c = failing (get_or (elements_of (value_of g.B.Blob.bytes c.args.value.now)) c.args.k []) c.from_residual.ensures.0 c.in_err-write_separator.ensures

pub returns : goal.returns
returns g c = andthen c.in_ok-write_separator.ensures c.write_element.ensures
