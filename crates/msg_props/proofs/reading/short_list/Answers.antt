use Rattle.std.proofs.Common.{ℕ, ap}
use Rattle.carrier_model.specs.Reasons.{BAD_PROP_STREAM}
use Rattle.carrier_model.specs.Stores.{PROPERTIES}
use Rattle.msg_props.specs.Entries.{streams_in}
use Rattle.msg_props.proofs.NameForms.{properties_text, size_at, no_size}
use Rattle.msg_props.proofs.reading.short_list.Goals as goal

pub unreachable-requires : goal.unreachable-requires
unreachable-requires c = no_size (streams_in c.args.files.now c.args.at PROPERTIES) (c.in-None.ensures PROPERTIES properties_text) c.requires.some

pub returns : goal.returns
returns c = ap (λ (n : ℕ). (BAD_PROP_STREAM, n)) (size_at (streams_in c.args.files.now c.args.at PROPERTIES) c.in-Some.offset (c.in-Some.ensures PROPERTIES properties_text))
