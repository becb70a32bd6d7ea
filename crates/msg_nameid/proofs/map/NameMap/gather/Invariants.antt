use Rattle.std.proofs.Common.{◌≡◌, ◌≤◌, length, map, take}
use Rattle.prop_names.specs.Meaning.{name_of}
use Rattle.msg_nameid.specs.Gathered.{nothing, gathered}
use Rattle.msg_nameid.proofs.map.NameMap.gather.Given as goal

abbrev pub invariant-loop-k : goal.invariant-loop-k
invariant-loop-k l = record { value : l.streams ≡ gathered nothing 0 (map (λ e. name_of e.name) (take l.k l.entry-items)); few : length l.streams.sets ≤ l.k }
