use Rattle.msg_nameid.specs.Read.{streams_seen}
use Rattle.msg_nameid.proofs.DraftLaws.{ReadTo}
use Rattle.msg_nameid.proofs.reading.read_entries.Given as goal

abbrev pub invariant-loop-k : goal.invariant-loop-k
invariant-loop-k l = ReadTo (streams_seen l.streams) l.draft l.k
