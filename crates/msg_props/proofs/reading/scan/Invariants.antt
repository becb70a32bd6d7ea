use Rattle.std.proofs.Common.{◌+◌, ◌-◌, ◌*◌, ◌/◌, length}
use Rattle.cfb_sectors.specs.Seen.{bytes_of, stream}
use Rattle.msg_model.specs.MsgProps.{head_size, prop_entry}
use Rattle.msg_props.specs.Entries.{streams_in}
use Rattle.msg_props.specs.Sections.{part_of}
use Rattle.msg_props.proofs.DraftForms.{Filled}
use Rattle.msg_props.proofs.reading.scan.Given as goal

abbrev pub invariant-loop-k : goal.invariant-loop-k
invariant-loop-k l = Filled (part_of l.part) l.names (streams_in l.files l.at) (λ k. prop_entry (stream l.view) (head_size (part_of l.part) + 16 * k)) ((length (bytes_of l.view) - head_size (part_of l.part)) / 16) l.k l.draft l.fn.passed l.passed
