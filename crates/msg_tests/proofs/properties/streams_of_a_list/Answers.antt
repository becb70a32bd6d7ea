use Rattle.msg_nameid.specs.Maps.{names_in}
use Rattle.msg_tests.proofs.properties.streams_of_a_list.Goals as goal

-- no property of the list has a name
pub add_props-requires-clause-named : goal.add_props-requires-clause-named
add_props-requires-clause-named g c = c.in_ok-props.ensures (names_in c.in_ok-names.names)
