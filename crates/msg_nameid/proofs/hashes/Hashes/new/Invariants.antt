use Rattle.std.proofs.Common.{◌≡◌, [], length, map, replicate}
use Rattle.msg_nameid.proofs.hashes.Hashes.new.Given as goal

abbrev pub invariant-loop : goal.invariant-loop
invariant-loop l = record { empty : map (λ v. v.items) l.streams.items ≡ replicate l.counter []; count : length l.streams.items ≡ l.counter }
