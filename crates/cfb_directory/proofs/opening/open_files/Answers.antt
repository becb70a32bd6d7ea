use Rattle.std.proofs.Common.{◌≡◌, ◌+◌, ◌≤◌, length, [], map, sym, ◌∙◌, ap, arith}
use Rattle.std.proofs.lemmas.Result.{err_from_is_err_and}
use Rattle.carrier_model.specs.Bytes.{AllBytes}
use Rattle.carrier_model.specs.Loads.{taken_by, mini_bound}
use Rattle.carrier_model.specs.Sectors.{sector_count}
use Rattle.carrier_model.specs.Tables.{sector_size}
use Rattle.carrier_model.proofs.EntryLaws.{few_entries}
use Rattle.carrier_model.proofs.HoldsLaws.{size_known}
use Rattle.cfb_sectors.specs.States.{State, entries}
use Rattle.cfb_directory.specs.Families.{family_at}
use Rattle.cfb_directory.specs.Named.{first_named, key_of, name_at, are_apart}
use Rattle.cfb_directory.specs.Shown.{files}
use Rattle.cfb_directory.specs.Walks.{directory_of}
use Rattle.cfb_directory.proofs.BothSides.{both_sides, found_sides}
use Rattle.cfb_directory.proofs.OpenLaws.{load_stops, linked_stops, open_stops, open_done, shape_is, shape_ends, shape_apart, load_same, opened_once, exact_steps, stopped_same, opened_same, files_same}
use Rattle.cfb_directory.proofs.opening.open_files.Goals as goal

pub returns-in_err-sectors-clause-answer : goal.returns-in_err-sectors-clause-answer
returns-in_err-sectors-clause-answer c =
    let p = err_from_is_err_and c.from_residual.result c.from_residual.ensures.1 in
    rw (p.1, p.2) (load_stops (sector_size c.args.bytes.now) c.args.bytes.now c.in_err-sectors.field-0.0 c.in_err-sectors.ensures.answer)

pub returns-in_err-families-clause-answer : goal.returns-in_err-families-clause-answer
returns-in_err-families-clause-answer c =
    let p = err_from_is_err_and c.from_residual-in_err-families.result c.from_residual-in_err-families.ensures.1 in
    let s = c.in_ok-sectors.sectors in
    rw (p.1, p.2) (stopped_same s c.args.bytes.now c.in_err-families.field-0.0 c.in_ok-sectors.ensures.file (linked_stops s.size s.file s.loaded c.in_err-families.field-0.0 (load_same s c.args.bytes.now c.in_ok-sectors.ensures.file c.in_ok-sectors.ensures.answer) c.in_err-families.ensures))

pub returns-in_err-streams-clause-answer : goal.returns-in_err-streams-clause-answer
returns-in_err-streams-clause-answer c =
    let p = err_from_is_err_and c.from_residual-in_err-streams.result c.from_residual-in_err-streams.ensures.1 in
    let s = c.in_ok-sectors.sectors in
    let outline = c.in_ok-families.field-0 in
    let o = c.in_ok-families.ensures in
    let load = load_same s c.args.bytes.now c.in_ok-sectors.ensures.file c.in_ok-sectors.ensures.answer in
    let failed = c.in_err-streams.ensures.answer (taken_by s.loaded) [] c.in_ok-sectors.ensures.marks c.in_ok-sectors.ensures.mini_marks in
    rw (p.1, p.2) (stopped_same s c.args.bytes.now c.in_err-streams.field-0.0 c.in_ok-sectors.ensures.file (open_stops s outline o.0 c.in_err-streams.field-0.0 load o.1 c.in_ok-sectors.ensures.root failed))

pub invariant_of-result : goal.invariant_of-result
invariant_of-result c =
    let s = c.in_ok-sectors.sectors in
    let outline = c.in_ok-families.field-0 in
    let o = c.in_ok-families.ensures in
    let same = c.in_ok-streams.ensures.same in
    let load = load_same s c.args.bytes.now c.in_ok-sectors.ensures.file c.in_ok-sectors.ensures.answer in
    let streams = c.in_ok-streams.streams in
    let claimed = c.in_ok-streams.ensures.answer (taken_by s.loaded) [] c.in_ok-sectors.ensures.marks c.in_ok-sectors.ensures.mini_marks in
    let length_is : length streams.numbers.items ≡ (directory_of s).count = sym streams.numbers.ok.0 ∙ c.in_ok-streams.ensures.count in
    let bytes : AllBytes c.args.bytes.now = λ i. omega (arith, c.type_inv.bytes i) in
    let opens = files_same s c.args.bytes.now claimed.0 o.0 _ c.in_ok-sectors.ensures.file
    (rw c.in_ok-streams.ensures.same (shape_is s outline o.0 claimed.0 streams.numbers.items streams.views.items o.1 c.in_ok-sectors.ensures.root claimed.2 length_is))
    (open_done s outline o.0 claimed.0 load o.1 c.in_ok-sectors.ensures.root claimed.1) in
    record {
      count = o.1.count ∙ sym (ap (λ (x : State). entries x) same);
      numbers = c.in_ok-streams.ensures.count ∙ sym (ap (λ (x : State). entries x) same);
      some = rw o.1.count o.1.some;
      inside = λ p. rw o.1.count (o.1.inside p);
      named = λ p q below. o.1.names p q (rw o.1.count at below) ∙ sym (ap (λ (x : State). first_named (key_of (directory_of x)) q (family_at outline.families.items p)) same);
      spelled = λ p below. o.1.spelled p (rw o.1.count at below) ∙ sym (ap (λ (x : State). map (name_at (directory_of x)) (family_at outline.families.items p)) same);
      apart = λ p. ap (λ (x : State). are_apart (key_of (directory_of x)) (family_at outline.families.items p)) same ∙ shape_apart s outline o.0 o.1 p;
      deep = shape_ends s outline o.0 o.1;
      opened = ∣ record { bytes = c.args.bytes.now; each = bytes; few = c.requires.short; opens = opens } ∣₁;
    }

pub returns-clause-answer : goal.returns-clause-answer
returns-clause-answer c =
    let s = c.in_ok-sectors.sectors in
    let outline = c.in_ok-families.field-0 in
    let o = c.in_ok-families.ensures in
    let load = load_same s c.args.bytes.now c.in_ok-sectors.ensures.file c.in_ok-sectors.ensures.answer in
    let streams = c.in_ok-streams.streams in
    let claimed = c.in_ok-streams.ensures.answer (taken_by s.loaded) [] c.in_ok-sectors.ensures.marks c.in_ok-sectors.ensures.mini_marks in
    let length_is : length streams.numbers.items ≡ (directory_of s).count = sym streams.numbers.ok.0 ∙ c.in_ok-streams.ensures.count in
    files_same s c.args.bytes.now claimed.0 o.0 _ c.in_ok-sectors.ensures.file
    (rw c.in_ok-streams.ensures.same (shape_is s outline o.0 claimed.0 streams.numbers.items streams.views.items o.1 c.in_ok-sectors.ensures.root claimed.2 length_is))
    (open_done s outline o.0 claimed.0 load o.1 c.in_ok-sectors.ensures.root claimed.1)

pub returns-clause-steps : goal.returns-clause-steps
returns-clause-steps c =
    let s = c.in_ok-sectors.sectors in
    let outline = c.in_ok-families.field-0 in
    let o = c.in_ok-families.ensures in
    let load = load_same s c.args.bytes.now c.in_ok-sectors.ensures.file c.in_ok-sectors.ensures.answer in
    let claimed = c.in_ok-streams.ensures.answer (taken_by s.loaded) [] c.in_ok-sectors.ensures.marks c.in_ok-sectors.ensures.mini_marks in
    λ p is small.
    let same = opened_once p _ (sym is ∙ opened_same s c.args.bytes.now _ c.in_ok-sectors.ensures.file (open_done s outline o.0 claimed.0 load o.1 c.in_ok-sectors.ensures.root claimed.1)) in
    let few : sector_count (sector_size c.args.bytes.now) c.args.bytes.now ≤ 524288 = (few_entries (sector_size c.args.bytes.now) (sector_count (sector_size c.args.bytes.now) c.args.bytes.now) (length c.args.bytes.now) (size_known c.args.bytes.now) (omega arith) c.requires.short).0 in
    let within : c.claim_streams.new.walk ≤ c.args.walk.now + sector_count (sector_size c.args.bytes.now) c.args.bytes.now + mini_bound s.loaded.mini = omega (arith, c.in_ok-sectors.ensures.left, c.in_ok-sectors.ensures.left_mini, c.claim_streams.ensures.bounded) in
    rw same (exact_steps c.args.walk.now c.load.new.walk c.claim_streams.new.walk _ _ (sector_count (sector_size c.args.bytes.now) c.args.bytes.now) (mini_bound s.loaded.mini) c.in_ok-sectors.ensures.steps claimed.3 within few c.in_ok-sectors.ensures.few small)

pub returns-in_err-sectors-clause-both : goal.returns-in_err-sectors-clause-both
returns-in_err-sectors-clause-both c = both_sides files c.from_residual.result c.args.bytes.now c.requires.short (returns-in_err-sectors-clause-answer c)

pub returns-in_err-families-clause-both : goal.returns-in_err-families-clause-both
returns-in_err-families-clause-both c = both_sides files c.from_residual-in_err-families.result c.args.bytes.now c.requires.short (returns-in_err-families-clause-answer c)

pub returns-in_err-streams-clause-both : goal.returns-in_err-streams-clause-both
returns-in_err-streams-clause-both c = both_sides files c.from_residual-in_err-streams.result c.args.bytes.now c.requires.short (returns-in_err-streams-clause-answer c)

pub returns-clause-both : goal.returns-clause-both
returns-clause-both c = found_sides _ c.args.bytes.now c.requires.short (returns-clause-answer c)
