-- The numbers of a file, and how many bytes it has.
use Rattle.std.proofs.Common.{◌≡◌, ℕ, ◌*◌, ◌≤◌, sym, ap, subst, ◌∙◌, arith}
use Rattle.carrier_model.specs.Bytes.{MOST_BYTES}
use Rattle.carrier_model.specs.Layout.{Plan}
use Rattle.carrier_model.specs.Totals.{capped}
use Rattle.cfb_writer.specs.Measures.{CanBeTold, sectors_in}
use Rattle.cfb_layout.specs.Counts.{plan_seen, IsSmall}
use Rattle.cfb_writer.specs.Planned.{planned}
use Rattle.cfb_layout.specs.Versions.{sector_of}
use Rattle.cfb_layout.specs.declared.numbers.SectorCounts.{SectorCounts}
use Rattle.cfb_writer.specs.declared.totals.Totals.{Totals}
use Rattle.cfb_layout.specs.declared.version.Version.{Version}
use Rattle.cfb_layout.specs.declared.version.Version.TheVariants.{Three, Four}

-- totals that are not at the greatest number are those that they stand for
pub exact : (z : ℕ) (t : Totals) (entries mini long : ℕ) → t ≡ record { entries = capped entries; mini = capped mini; long = capped long } → CanBeTold t → planned z t.entries t.mini t.long ≡ planned z entries mini long
exact z t entries mini long e told =
    let a : t.entries ≡ entries = let h : t.entries ≡ capped entries = ap (λ (u : Totals). u.entries) e in omega (arith, h, told.entries) in
    let b : t.mini ≡ mini = let h : t.mini ≡ capped mini = ap (λ (u : Totals). u.mini) e in omega (arith, h, told.mini) in
    let c : t.long ≡ long = let h : t.long ≡ capped long = ap (λ (u : Totals). u.long) e in omega (arith, h, told.long) in
    ap (λ (n : ℕ). planned z n t.mini t.long) a ∙ ap (λ (n : ℕ). planned z entries n t.long) b ∙ ap (planned z entries mini) c

-- so many mini sectors lie in the sectors of the mini stream
mini_few : (v : Version) (entries mini long : ℕ) → 64 * mini ≤ sector_of v * (planned (sector_of v) entries mini long).sizes.mini_stream
mini_few Three entries mini long = omega arith
mini_few Four entries mini long = omega arith

sectors_few : (v : Version) (p : Plan) → sector_of v * sectors_in p ≤ MOST_BYTES → (sectors_in p ≤ 524288) × (sector_of v * p.sizes.mini_stream ≤ MOST_BYTES)
sectors_few Three p h = (omega (arith, h), omega (arith, h))
sectors_few Four p h = (omega (arith, h), omega (arith, h))

pub small_is : (v : Version) (n : SectorCounts) (entries mini long : ℕ) → plan_seen n ≡ planned (sector_of v) entries mini long → sector_of v * sectors_in (planned (sector_of v) entries mini long) ≤ MOST_BYTES → IsSmall n
small_is v n entries mini long e h =
    let p = plan_seen n in
    let few = sectors_few v p (subst (λ (q : Plan). sector_of v * sectors_in q ≤ MOST_BYTES) (sym e) h) in
    let count : n.mini_sectors ≡ mini = ap (λ (q : Plan). q.sizes.mini_sectors) e in
    let room : 64 * mini ≤ sector_of v * p.sizes.mini_stream = subst (λ (q : Plan). 64 * mini ≤ sector_of v * q.sizes.mini_stream) (sym e) (mini_few v entries mini long) in
    record {
      fat = omega (arith, few.0);
      difat = omega (arith, few.0);
      directory = omega (arith, few.0);
      mini_fat = omega (arith, few.0);
      mini_stream = omega (arith, few.0);
      long = omega (arith, few.0);
      mini_sectors = omega (arith, few.1, room, count);
    }
