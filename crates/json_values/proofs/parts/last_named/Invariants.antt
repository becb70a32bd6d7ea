use Rattle.std.proofs.Common.{◌≡◌, take, option_map}
use Rattle.json.specs.Find.{get_member}
use Rattle.json_values.specs.Values.{value_view, json_members}
use Rattle.json_values.proofs.parts.last_named.Given as goal

abbrev pub invariant-loop-member : goal.invariant-loop-member
invariant-loop-member l = option_map (λ v. value_view v.now) l.last ≡ get_member l.name (json_members (take l.member-index l.members))
