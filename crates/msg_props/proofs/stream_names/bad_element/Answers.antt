use Rattle.std.proofs.Common.{ℕ, ap}
use Rattle.carrier_model.specs.Reasons.{BAD_ELEMENT}
use Rattle.msg_props.specs.Entries.{streams_in}
use Rattle.msg_props.proofs.NameForms.{size_at, no_size}
use Rattle.msg_props.proofs.stream_names.bad_element.Goals as goal

pub unreachable-requires : goal.unreachable-requires
unreachable-requires c = no_size (streams_in c.args.files.now c.args.at c.args.name.now) (c.in-None.ensures c.args.name.now c.text_of.ensures.units) c.requires.some

pub returns : goal.returns
returns c = ap (λ (n : ℕ). (BAD_ELEMENT, n)) (size_at (streams_in c.args.files.now c.args.at c.args.name.now) c.in-Some.offset (c.in-Some.ensures c.args.name.now c.text_of.ensures.units))
