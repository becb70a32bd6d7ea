-- The parts of a file, one behind the other.
use Rattle.std.proofs.Common.{◌≡◌, ℕ, ◌-◌, ◌*◌, ◌≤◌, List, ◌++◌, length, sym, ap, ◌∙◌, append_assoc, arith}
use Rattle.std.specs.Int.{div_ceil}
use Rattle.std.specs.List.{flat_map}
use Rattle.std.proofs.Math.Nat.{mul_comm}
use Rattle.carrier_model.specs.Layout.{Plan, Slot, all_pieces, filled, pieces, plan_of, short_streams}
use Rattle.carrier_model.proofs.LaidParts.{all-short}
use Rattle.cfb_layout.specs.Versions.{sector_of}
use Rattle.cfb_layout.specs.declared.version.Version.{Version}
use Rattle.cfb_layout.specs.declared.version.Version.TheVariants.{Three, Four}

pub mini_is : (z s : ℕ) (p : Plan) (slots : List Slot) → p ≡ plan_of z slots → s ≡ z → s * p.sizes.mini_stream - 64 * p.sizes.mini_sectors ≡ pieces z (flat_map (filled 64) (short_streams slots)) * z - length (flat_map (filled 64) (short_streams slots))
mini_is z s p slots is e =
    let x = flat_map (filled 64) (short_streams slots) in
    let mini : p.sizes.mini_sectors ≡ all_pieces 64 (short_streams slots) = ap (λ (q : Plan). q.sizes.mini_sectors) is in
    let long : length x ≡ 64 * p.sizes.mini_sectors = all-short (short_streams slots) ∙ ap (λ (n : ℕ). 64 * n) (sym mini) in
    let count : pieces z x ≡ p.sizes.mini_stream = ap (λ (n : ℕ). div_ceil n z) long ∙ ap (λ (n : ℕ). div_ceil (64 * n) z) mini ∙ sym (ap (λ (q : Plan). q.sizes.mini_stream) is) in
    ap (λ (k : ℕ). k * p.sizes.mini_stream - 64 * p.sizes.mini_sectors) e
    ∙ ap (λ (k : ℕ). k - 64 * p.sizes.mini_sectors) (mul_comm z p.sizes.mini_stream)
    ∙ ap (λ (k : ℕ). k * z - 64 * p.sizes.mini_sectors) (sym count)
    ∙ ap (λ (k : ℕ). pieces z x * z - k) (sym long)

pub mini_fits : (v : Version) (p : Plan) (slots : List Slot) → p ≡ plan_of (sector_of v) slots → 64 * p.sizes.mini_sectors ≤ sector_of v * p.sizes.mini_stream
mini_fits Three p slots is = omega (arith, ap (λ (q : Plan). q.sizes.mini_stream) is, ap (λ (q : Plan). q.sizes.mini_sectors) is)
mini_fits Four p slots is = omega (arith, ap (λ (q : Plan). q.sizes.mini_stream) is, ap (λ (q : Plan). q.sizes.mini_sectors) is)

pub parts_are : (h t l rest : List ℕ) → (h ++ (t ++ l)) ++ rest ≡ h ++ (t ++ (l ++ rest))
parts_are h t l rest = append_assoc h (t ++ l) rest ∙ ap (λ (x : List ℕ). h ++ x) (append_assoc t l rest)
