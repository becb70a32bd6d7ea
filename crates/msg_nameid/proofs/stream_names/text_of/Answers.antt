use Rattle.std.proofs.Common.{sym, ◌∙◌}
use Rattle.std.proofs.lemmas.Str.{IsUtf8-from_ascii, encodes-IsAscii}
use Rattle.msg_model.proofs.AsciiNames.{units_ascii}
use Rattle.msg_nameid.proofs.stream_names.text_of.Goals as goal

pub unreachable-requires : goal.unreachable-requires
unreachable-requires c = c.in-Err.ensures.cases.0 (IsUtf8-from_ascii c.args.name.now c.requires)

pub returns-clause-units : goal.returns-clause-units
returns-clause-units c = (c.args.name.now, units_ascii c.args.name.now c.requires, c.in-Ok.ensures.cases.0 ∙ sym (encodes-IsAscii c.args.name.now c.requires))
