use Rattle.std.proofs.Common.{◌≡◌, ◌+◌, ◌++◌, length, map, take, drop}
use Rattle.text8_model.specs.Unicode.{converted_prop, bad_from}
use Rattle.tree_text8.proofs.properties.convert_each.Given as goal

abbrev pub invariant-loop-prop : goal.invariant-loop-prop
invariant-loop-prop g l = record {
  left : l.yielded ++ l.prop-iterator.rest.items ≡ l.fn.props;
  counted : length l.prop-iterator.rest.items ≡ l.prop-iterator.rest.len;
  count : l.k ≡ length l.yielded;
  made : l.all ≡ map (converted_prop l.code l.fn.props) (take l.k l.fn.props);
  bad : bad_from l.code l.fn.props l.first l.fn.props ≡ bad_from l.code l.fn.props (l.first + l.k) (drop l.k l.fn.props);
}
