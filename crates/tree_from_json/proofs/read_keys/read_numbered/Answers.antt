use Rattle.std.proofs.Common.{refl}
use Rattle.tree_from_json.proofs.Reading.{under_ok}
use Rattle.tree_from_json.proofs.read_keys.read_numbered.Goals as goal

pub returns : goal.returns
returns c =
    let a = c.in_ok-member.ensures in
    let number = under_ok (λ n. n) _ 0 _ _ c.read_number.ensures c.in_ok-number.ensures in
    let b = c.in_ok-member-2.ensures in
    let set = under_ok (λ g. g.0) _ 1 _ _ c.read_guid.ensures c.in_ok-set.ensures in
    rw (a, number, b, set) refl
