-- The least FAT that suffices.
use Rattle.std.proofs.Common.{◌≡◌, ℕ, zero, suc, ◌+◌, ◌-◌, ◌*◌, ◌/◌, ◌<◌, ◌≤◌, Bool, true, false, refl, sym, ap, subst, ◌∙◌, arith, inl, inr}
use Rattle.std.specs.Prelude.{cond, nat_le}
use Rattle.std.specs.Int.{div_ceil}
use Rattle.std.specs.Prelude.{◌⊎◌}
use Rattle.std.proofs.lemmas.Bool.{cases_lt}
use Rattle.carrier_model.specs.Layout.{suffices, first_that_suffices, fat_count}
use Rattle.carrier_model.specs.Tables.{difat_count}
use Rattle.carrier_model.proofs.LaidTables.{first-suffices}
use Rattle.cfb_layout.specs.Versions.{sector_of}
use Rattle.cfb_layout.specs.declared.version.Version.{Version}
use Rattle.cfb_layout.specs.declared.version.Version.TheVariants.{Three, Four}

-- none before it suffices
least : (more z rest f g : ℕ) → f ≤ g → g < first_that_suffices more z rest f → suffices z rest g ≡ true → ⊥
least zero z rest f g low high good = omega (arith, low, high)
least (suc more) z rest f g low high good = by (least more z rest (f + 1) g) (suffices z rest f) refl
  where
    by : (f + 1 ≤ g → g < first_that_suffices more z rest (f + 1) → suffices z rest g ≡ true → ⊥) → (b : Bool) → suffices z rest f ≡ b → ⊥
    by later true e = let h : g < f = subst (λ (b : Bool). g < cond b f (first_that_suffices more z rest (f + 1))) e high in omega (arith, h, low)
    by later false e = elim (cases_lt f g) [
      | inl lt ↦ later (omega (arith, lt)) (subst (λ (b : Bool). g < cond b f (first_that_suffices more z rest (f + 1))) e high) good
      | inr ge ↦ let same : g ≡ f = omega (arith, ge, low) in let bad : true ≡ false = sym good ∙ ap (suffices z rest) same ∙ e in cc
    ]

pub le_true : (a b : ℕ) → nat_le a b ≡ true → a ≤ b
le_true a b e = grind (arith, e)

le_false : (a b : ℕ) → nat_le a b ≡ false → b < a
le_false a b e = grind (arith, e)

true_le : (a b : ℕ) → a ≤ b → nat_le a b ≡ true
true_le a b e = grind (arith, e)

-- one more than all others suffices
always : (v : Version) (rest : ℕ) → suffices (sector_of v) rest (rest + 1) ≡ true
always Three rest = true_le (rest + 1 + difat_count 512 (rest + 1) + rest) (128 * (rest + 1)) (omega arith)
always Four rest = true_le (rest + 1 + difat_count 4096 (rest + 1) + rest) (1024 * (rest + 1)) (omega arith)

pub count-suffices : (v : Version) (rest : ℕ) → suffices (sector_of v) rest (fat_count (sector_of v) rest) ≡ true
count-suffices v rest = first-suffices (rest + 1) (sector_of v) rest 0 (rest + 1) (omega arith) (omega arith) (always v rest)

pub count-bound : (v : Version) (rest : ℕ) → fat_count (sector_of v) rest ≤ rest + 1
count-bound v rest = elim (cases_lt (rest + 1) (fat_count (sector_of v) rest)) [
  | inl lt ↦ absurd (least (rest + 1) (sector_of v) rest 0 (rest + 1) (omega arith) lt (always v rest))
  | inr ge ↦ ge
]

-- a number that suffices and is not above it is the least
pub count-is : (v : Version) (rest f : ℕ) → f ≤ fat_count (sector_of v) rest → suffices (sector_of v) rest f ≡ true → f ≡ fat_count (sector_of v) rest
count-is v rest f low good = elim (cases_lt f (fat_count (sector_of v) rest)) [
  | inl lt ↦ absurd (least (rest + 1) (sector_of v) rest 0 f (omega arith) lt good)
  | inr ge ↦ omega (arith, ge, low)
]

-- the next number to try: it is above the last one, and not above the least
pub next-above : (v : Version) (rest f : ℕ) → suffices (sector_of v) rest f ≡ false → f < div_ceil (rest + difat_count (sector_of v) f) (sector_of v / 4 - 1)
next-above Three rest f bad = let h : 128 * f < f + difat_count 512 f + rest = le_false (f + difat_count 512 f + rest) (128 * f) bad in omega (arith, h)
next-above Four rest f bad = let h : 1024 * f < f + difat_count 4096 f + rest = le_false (f + difat_count 4096 f + rest) (1024 * f) bad in omega (arith, h)

next-below : (v : Version) (rest f g : ℕ) → f ≤ g → suffices (sector_of v) rest g ≡ true → div_ceil (rest + difat_count (sector_of v) f) (sector_of v / 4 - 1) ≤ g
next-below Three rest f g low good = let h : g + difat_count 512 g + rest ≤ 128 * g = le_true (g + difat_count 512 g + rest) (128 * g) good in omega (arith, h, low)
next-below Four rest f g low good = let h : g + difat_count 4096 g + rest ≤ 1024 * g = le_true (g + difat_count 4096 g + rest) (1024 * g) good in omega (arith, h, low)

pub next-within : (v : Version) (rest f : ℕ) → f ≤ fat_count (sector_of v) rest → div_ceil (rest + difat_count (sector_of v) f) (sector_of v / 4 - 1) ≤ fat_count (sector_of v) rest
next-within v rest f low = next-below v rest f (fat_count (sector_of v) rest) low (count-suffices v rest)

-- sectors have 512 or 4096 bytes
pub sector-is : (v : Version) → (sector_of v ≡ 512) ⊎ (sector_of v ≡ 4096)
sector-is Three = inl refl
sector-is Four = inr refl
