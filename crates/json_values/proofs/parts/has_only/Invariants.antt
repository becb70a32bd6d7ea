use Rattle.std.proofs.Common.{◌≡◌, drop, map}
use Rattle.std.specs.List.{list_all}
use Rattle.json.specs.Strict.{keys}
use Rattle.json_values.specs.Keys.{is_among}
use Rattle.json_values.specs.Values.{json_members}
use Rattle.json_values.proofs.parts.has_only.Given as goal

abbrev pub invariant-loop-member : goal.invariant-loop-member
invariant-loop-member l =
    list_all (is_among (map (λ name. name.now) l.names)) (keys (json_members (drop l.member-index l.member-items)))
    ≡ list_all (is_among (map (λ name. name.now) l.names)) (keys (json_members l.member-items))
