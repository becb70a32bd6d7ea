use Rattle.std.proofs.Common.{◌≡◌, ◌+◌, ◌-◌, ◌*◌, ◌/◌, ◌++◌, ℕ, Err, length, refl, sym, ap, ◌∙◌, append_assoc, arith}
use Rattle.std.specs.List.{flat_map, range_with_len}
use Rattle.carrier_io.specs.declared.failures.Failed.{Failed}
use Rattle.carrier_model.specs.Layout.{root_bytes, slots_bytes, long_start, unused_slot}
use Rattle.cfb_writer.specs.Laid.{slots_in, root_slot}
use Rattle.cfb_layout.specs.Counts.{plan_seen}
use Rattle.cfb_layout.specs.Versions.{sector_of}
use Rattle.cfb_writer.proofs.Going.{as_bytes}
use Rattle.carrier_io.proofs.Summed.{sums_both, sums_first, sums_second}
use Rattle.cfb_writer.proofs.directory.append_directory.Goals as goal

pub returns-in_err-root : goal.returns-in_err-root
returns-in_err-root g c =
    let z = sector_of c.args.version in
    let p = plan_seen c.args.numbers.now in
    let laid = c.args.entries.now in
    let root = root_bytes p (root_slot laid.root_class laid.top) in
    let others = slots_bytes z 0 (long_start p) laid.others in
    let free = z / 128 * p.sizes.directory - length (slots_in laid) in
    let unused = flat_map (λ (k : ℕ). unused_slot) (range_with_len 0 free) in
    let all : root ++ (others ++ unused) ≡ (root ++ others) ++ unused = sym (append_assoc root others unused) in
    as_bytes all (sums_first (others ++ unused) c.from_residual.ensures.0 c.in_err-root.ensures)

pub returns-in_err-others : goal.returns-in_err-others
returns-in_err-others g c =
    let z = sector_of c.args.version in
    let p = plan_seen c.args.numbers.now in
    let laid = c.args.entries.now in
    let root = root_bytes p (root_slot laid.root_class laid.top) in
    let others = slots_bytes z 0 (long_start p) laid.others in
    let free = z / 128 * p.sizes.directory - length (slots_in laid) in
    let unused = flat_map (λ (k : ℕ). unused_slot) (range_with_len 0 free) in
    let all : root ++ (others ++ unused) ≡ (root ++ others) ++ unused = sym (append_assoc root others unused) in
    let second = (rw c.long_start.ensures at c.in_err-others.ensures) in
    as_bytes all (sums_second c.from_residual-in_err-others.ensures.0 c.in_ok-root.ensures (sums_first {r = Err c.in_err-others.field-0.0} unused refl second))

pub returns-in_err-unused : goal.returns-in_err-unused
returns-in_err-unused g c =
    let z = sector_of c.args.version in
    let p = plan_seen c.args.numbers.now in
    let laid = c.args.entries.now in
    let root = root_bytes p (root_slot laid.root_class laid.top) in
    let others = slots_bytes z 0 (long_start p) laid.others in
    let free = z / 128 * p.sizes.directory - length (slots_in laid) in
    let unused = flat_map (λ (k : ℕ). unused_slot) (range_with_len 0 free) in
    let all : root ++ (others ++ unused) ≡ (root ++ others) ++ unused = sym (append_assoc root others unused) in
    let second = (rw c.long_start.ensures at c.in_ok-others.ensures) in
    let count : c.sector.result / 128 * p.sizes.directory - (1 + c.len.result) ≡ free = ap (λ (s : ℕ). s / 128 * p.sizes.directory - (1 + c.len.result)) c.sector.ensures ∙ ap (λ (n : ℕ). z / 128 * p.sizes.directory - (1 + n)) c.len.ensures ∙ ap (λ (n : ℕ). z / 128 * p.sizes.directory - n) (omega arith) in
    let last = as_bytes (ap (λ (n : ℕ). flat_map (λ (k : ℕ). unused_slot) (range_with_len 0 n)) count) c.in_err-unused.ensures in
    as_bytes all (sums_second c.from_residual-in_err-unused.ensures.0 c.in_ok-root.ensures (sums_second {r = Err c.in_err-unused.field-0.0} refl second last))

pub returns : goal.returns
returns g c =
    let z = sector_of c.args.version in
    let p = plan_seen c.args.numbers.now in
    let laid = c.args.entries.now in
    let root = root_bytes p (root_slot laid.root_class laid.top) in
    let others = slots_bytes z 0 (long_start p) laid.others in
    let free = z / 128 * p.sizes.directory - length (slots_in laid) in
    let unused = flat_map (λ (k : ℕ). unused_slot) (range_with_len 0 free) in
    let all : root ++ (others ++ unused) ≡ (root ++ others) ++ unused = sym (append_assoc root others unused) in
    let second = (rw c.long_start.ensures at c.in_ok-others.ensures) in
    let count : c.sector.result / 128 * p.sizes.directory - (1 + c.len.result) ≡ free = ap (λ (s : ℕ). s / 128 * p.sizes.directory - (1 + c.len.result)) c.sector.ensures ∙ ap (λ (n : ℕ). z / 128 * p.sizes.directory - (1 + n)) c.len.ensures ∙ ap (λ (n : ℕ). z / 128 * p.sizes.directory - n) (omega arith) in
    let last = as_bytes (ap (λ (n : ℕ). flat_map (λ (k : ℕ). unused_slot) (range_with_len 0 n)) count) c.in_ok-unused.ensures in
    as_bytes all (sums_both {F = Failed} _ refl c.in_ok-root.ensures (sums_both {F = Failed} _ refl second last))
