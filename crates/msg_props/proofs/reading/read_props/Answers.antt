use Rattle.std.proofs.Common.{◌<◌, ◌≤◌, ℕ, Err, length, is_some, ap, sym, ◌∙◌, arith}
use Rattle.carrier_model.specs.Reasons.{MISSING_PROPERTIES}
use Rattle.carrier_model.specs.Stores.{PROPERTIES}
use Rattle.cfb_directory.specs.Found.{storage_seen}
use Rattle.cfb_sectors.specs.Seen.{bytes_of, stream}
use Rattle.msg_model.specs.MsgProps.{head_size}
use Rattle.msg_props.specs.Entries.{streams_in}
use Rattle.msg_props.specs.Sections.{part_of}
use Rattle.msg_props.proofs.DraftForms.{list_missing, list_short, list_gives, front_kept}
use Rattle.msg_props.proofs.NameForms.{properties_text, there}
use Rattle.msg_props.proofs.reading.read_props.Goals as goal

pub short_list-requires-clause-some : goal.short_list-requires-clause-some
short_list-requires-clause-some c = ap is_some (there (streams_in c.args.files.now c.args.at PROPERTIES) (stream c.in-Some.view.now) (c.in-Some.ensures.found PROPERTIES properties_text)).1

pub returns-then-len-head_size-clause-answer : goal.returns-then-len-head_size-clause-answer
returns-then-len-head_size-clause-answer c =
    let part = part_of c.args.part in
    let view = c.in-Some.view.now in
    let lt : length (bytes_of view) < head_size part = omega (arith, c.if-len-head_size.true, c.len.ensures, c.head_size.ensures) in
    list_short part c.args.names.now (storage_seen c.args.files.now c.args.at).place (streams_in c.args.files.now c.args.at) (stream view) (c.in-Some.ensures.found PROPERTIES properties_text) lt
    ∙ sym (ap (λ (g : ℕ × ℕ). Err g) c.short_list.ensures)

pub returns-else-len-head_size-clause-answer : goal.returns-else-len-head_size-clause-answer
returns-else-len-head_size-clause-answer c =
    let part = part_of c.args.part in
    let view = c.in-Some.view.now in
    let le : head_size part ≤ length (bytes_of view) = omega (arith, c.if-len-head_size.false, c.len.ensures, c.head_size.ensures) in
    list_gives part c.args.names.now (storage_seen c.args.files.now c.args.at).place (streams_in c.args.files.now c.args.at) (stream view) c.args.passed.now c.gather.new.passed c.gather.result (c.in-Some.ensures.found PROPERTIES properties_text) le c.gather.ensures.found c.gather.ensures.fault

pub returns-else-len-head_size-clause-kept : goal.returns-else-len-head_size-clause-kept
returns-else-len-head_size-clause-kept c =
    front_kept (part_of c.args.part) (streams_in c.args.files.now c.args.at PROPERTIES) (stream c.in-Some.view.now) c.args.passed.now c.gather.new.passed (c.in-Some.ensures.found PROPERTIES properties_text) c.gather.ensures.kept

pub returns-in-None-clause-answer : goal.returns-in-None-clause-answer
returns-in-None-clause-answer c =
    list_missing (part_of c.args.part) c.args.names.now (storage_seen c.args.files.now c.args.at).place (streams_in c.args.files.now c.args.at) (c.in-None.ensures.found PROPERTIES properties_text)
    ∙ ap (λ (n : ℕ). Err (MISSING_PROPERTIES, n)) (sym c.storage_offset.ensures.place)
