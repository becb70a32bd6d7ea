-- How many bytes the file of a tree has.
use Rattle.std.proofs.Common.{◌≡◌, ℕ, zero, suc, ◌+◌, ◌-◌, ◌*◌, ◌<◌, ◌≤◌, List, [], ◌∷◌, ◌++◌, length, drop, refl, sym, ap, subst, ◌∙◌, arith}
use Rattle.std.specs.Prelude.{Err, Ok}
use Rattle.std.specs.List.{AllByRecursion}
use Rattle.carrier_model.specs.Bytes.{MOST_BYTES}
use Rattle.carrier_model.specs.FileTrees as trees
use Rattle.carrier_model.specs.FileTrees.{FileTree, entries_in, sorted}
use Rattle.carrier_model.specs.Layout.{Plan, Slot, file_bytes, links_of_siblings, plan_of, sibling_numbers, slots_from}
use Rattle.carrier_io.specs.declared.failures.PlanEnd.TheVariants.{TooLarge}
use Rattle.carrier_model.specs.Totals.{capped}
use Rattle.cfb_writer.specs.PlanEnds.{IsEndOf}
use Rattle.std.proofs.lemmas.Bool.Decides.{nat_tests}
use Rattle.carrier_model.proofs.LaidParts.{IsFit, IsPlan, parts_lie}
use Rattle.carrier_model.proofs.Sizes.{SizeOf, version3, version4}
use Rattle.cfb_list.specs.Grown.{MayBeAdded}
use Rattle.cfb_writer.specs.Laid.{Laid, IsShort, slots_in}
use Rattle.cfb_list.specs.Listed.{Child, stream, storage, built, tree_at, trees_from, tree_of, IsChild, AreSound, IsSound}
use Rattle.cfb_writer.specs.Measures.{IsMeasure, sectors_in}
use Rattle.cfb_layout.specs.Counts.{plan_seen}
use Rattle.cfb_writer.specs.PlanKept.{IsPlanned}
use Rattle.cfb_writer.specs.Planned.{laid_of, layout_of, planned}
use Rattle.cfb_writer.specs.Shares.{share_pieces, share_total}
use Rattle.cfb_list.specs.Trees.{long_in, mini_in}
use Rattle.cfb_layout.specs.Versions.{sector_of}
use Rattle.cfb_writer.specs.declared.parts.Measure.{Measure}
use Rattle.cfb_writer.specs.declared.streams.Share.TheVariants.{Short, Long}
use Rattle.cfb_layout.specs.declared.version.Version.{Version}
use Rattle.cfb_layout.specs.declared.version.Version.TheVariants.{Three, Four}
use Rattle.cfb_writer.proofs.PlanSizes.{plan_is, mini_total, long_total}
use Rattle.cfb_writer.proofs.Shared.{total_then}
use Rattle.cfb_writer.proofs.Tables.{enough}

sized : (v : Version) → SizeOf (sector_of v)
sized Three = version3
sized Four = version4

-- ---- names and classes

built_fits : (f : ℕ → FileTree) (n count : ℕ) (cs : List Child) → ((k : ℕ) → MayBeAdded (f k)) → AllByRecursion (IsChild n count) cs → MayBeAdded (built f cs)
built_fits f n count [] h all = tt
built_fits f n count (stream name bytes ∷ cs) h all = (all.0, built_fits f n count cs h all.1)
built_fits f n count (storage name class number ∷ cs) h all = (all.0.0, all.0.3, h number, built_fits f n count cs h all.1)

trees_fit : (n count : ℕ) (storages : List (List Child)) → AreSound n count storages → (k : ℕ) → MayBeAdded (tree_at (trees_from n storages) k)
trees_fit n count [] a k = tt
trees_fit n count (s ∷ ss) a k = by (λ j. trees_fit (n + 1) count ss a.1 j) k
  where
    by : ((j : ℕ) → MayBeAdded (tree_at (trees_from (n + 1) ss) j)) → (k : ℕ) → MayBeAdded (tree_at (trees_from n (s ∷ ss)) k)
    by later zero = built_fits (λ j. tree_at (trees_from (n + 1) ss) (j - (n + 1))) n count s (λ j. later (j - (n + 1))) a.0
    by later (suc k) = later k

-- a sound list is a tree of files that may be added
pub sound_fits : (storages : List (List Child)) → IsSound storages → MayBeAdded (tree_of storages)
sound_fits storages s = trees_fit 0 (length storages) storages s.each 0

each_both : {X : Type 0} (P : X → Type 0) (xs ys : List X) → AllByRecursion P xs → AllByRecursion P ys → AllByRecursion P (xs ++ ys)
each_both P [] ys a b = b
each_both P (x ∷ xs) ys a b = (a.0, each_both P xs ys a.1 b)

slots_fit : (n : ℕ) (ls : List (ℕ × ℕ)) (files : FileTree) → MayBeAdded files → AllByRecursion IsFit (slots_from n ls files)
slots_fit n ls trees.no_file h = tt
slots_fit n ls (trees.stream name bytes others) h = (record { name = h.0; class = refl }, slots_fit (n + 1) (drop 1 ls) others h.1)
slots_fit n ls (trees.storage name class below others) h =
    let inner = links_of_siblings (sibling_numbers (n + 1) below) in (
      record { name = h.0; class = h.1 },
      each_both IsFit (slots_from (n + 1) inner below) (slots_from (n + 1 + entries_in below) (drop 1 ls) others)
          (slots_fit (n + 1) inner below h.2) (slots_fit (n + 1 + entries_in below) (drop 1 ls) others h.3),
    )

-- ---- the whole

laid_fits : (v : Version) (class : List ℕ) (files : FileTree) → length class ≡ 16 → MayBeAdded files → let slots = slots_in (laid_of class files) in IsPlan (sector_of v) (plan_of (sector_of v) slots) slots
laid_fits v class files h fits =
    let slots = slots_in (laid_of class files) in
    record {
      fits = (record { name = omega arith; class = h }, slots_fit 1 (links_of_siblings (sibling_numbers 1 files)) files fits);
      directory = refl;
      mini_sectors = refl;
      mini_fat = refl;
      mini_stream = refl;
      long = refl;
      difat = refl;
      enough = enough v (plan_of (sector_of v) slots) slots refl;
    }

-- the file of a tree has so many sectors
pub size_is : (v : Version) (class : List ℕ) (files : FileTree) → length class ≡ 16 → MayBeAdded files → let slots = slots_in (laid_of class files) in length (file_bytes (sector_of v) (plan_of (sector_of v) slots) slots) ≡ sector_of v * sectors_in (planned (sector_of v) (entries_in files) (mini_in files) (long_in (sector_of v) files))
size_is v class files h fits =
    let slots = slots_in (laid_of class files) in
    (parts_lie (sector_of v) (sized v) (plan_of (sector_of v) slots) slots (laid_fits v class files h fits)).size
    ∙ ap (λ (p : Plan). sector_of v * sectors_in p) (plan_is (sector_of v) class files)

pub layout_size : (v : Version) (class : List ℕ) (storages : List (List Child)) (files : FileTree) → files ≡ sorted (tree_of storages) → length class ≡ 16 → MayBeAdded files → length (layout_of (sector_of v) class (tree_of storages)) ≡ sector_of v * sectors_in (planned (sector_of v) (entries_in files) (mini_in files) (long_in (sector_of v) files))
layout_size v class storages files e h fits =
    ap (λ (t : FileTree). length (file_bytes (sector_of v) (plan_of (sector_of v) (slots_in (laid_of class t))) (slots_in (laid_of class t)))) (sym e)
    ∙ size_is v class files h fits

-- ---- streams are short

stream_few : (v : Version) (x : List ℕ) → length x ≤ 64 * share_pieces Short 64 x + sector_of v * share_pieces Long (sector_of v) x
stream_few Three x = grind (arith, nat_tests)
stream_few Four x = grind (arith, nat_tests)

-- what all streams need bounds each
streams_few : (v : Version) (slots : List Slot) (most : ℕ) → 64 * share_total Short 64 slots + sector_of v * share_total Long (sector_of v) slots ≤ most → AllByRecursion (λ s. length s.bytes ≤ most) slots
streams_few v [] most h = tt
streams_few v (s ∷ slots) most h =
    let z = sector_of v in
    let short = total_then Short 64 s slots in
    let long = ap (λ (n : ℕ). z * n) (total_then Long z s slots) in
    (omega (arith, short, long, stream_few v s.bytes, h), streams_few v slots most (omega (arith, short, long, h)))

names_and_bytes : (slots : List Slot) → AllByRecursion IsFit slots → AllByRecursion (λ s. length s.bytes ≤ MOST_BYTES) slots → AllByRecursion IsShort slots
names_and_bytes [] a b = tt
names_and_bytes (s ∷ slots) a b = (record { name = a.0.name; size = omega (arith, b.0) }, names_and_bytes slots a.1 b.1)

room : (v : Version) (entries mini long : ℕ) → 64 * mini + sector_of v * long ≤ sector_of v * sectors_in (planned (sector_of v) entries mini long)
room Three entries mini long = omega arith
room Four entries mini long = omega arith

slots_short : (v : Version) (ls : List (ℕ × ℕ)) (files : FileTree) → MayBeAdded files → sector_of v * sectors_in (planned (sector_of v) (entries_in files) (mini_in files) (long_in (sector_of v) files)) ≤ MOST_BYTES → AllByRecursion IsShort (slots_from 1 ls files)
slots_short v ls files fits few =
    let z = sector_of v in
    let slots = slots_from 1 ls files in
    let mini = mini_total 1 ls files in
    let long = ap (λ (n : ℕ). z * n) (long_total z 1 ls files) in
    let all : 64 * share_total Short 64 slots + z * share_total Long z slots ≤ MOST_BYTES = omega (arith, mini, long, few, room v (entries_in files) (mini_in files) (long_in z files)) in
    names_and_bytes slots (slots_fit 1 ls files fits) (streams_few v slots MOST_BYTES all)

-- ---- a plan, or its end

pub end_of : (v : Version) (class : List ℕ) (storages : List (List Child)) (files : FileTree) (n : ℕ) → files ≡ sorted (tree_of storages) → length class ≡ 16 → MayBeAdded files → IsMeasure (sector_of v) (planned (sector_of v) (entries_in files) (mini_in files) (long_in (sector_of v) files)) (Err n) → IsEndOf (layout_of (sector_of v) class (tree_of storages)) (TooLarge n)
end_of v class storages files n e h fits end =
    let size = layout_size v class storages files e h fits in
    (subst (λ (k : ℕ). MOST_BYTES < k) (sym size) end.0, end.1 ∙ ap capped (sym size))

-- what is measured has few entries
pub few_entries : (v : Version) (entries mini long : ℕ) (m : Measure) → IsMeasure (sector_of v) (planned (sector_of v) entries mini long) (Ok m) → 1 + entries ≤ 2147483648
few_entries Three entries mini long m is = omega (arith, is.0.directory, ap (λ (p : Plan). p.sizes.directory) is.1)
few_entries Four entries mini long m is = omega (arith, is.0.directory, ap (λ (p : Plan). p.sizes.directory) is.1)

pub plan_of_files : (v : Version) (class : List ℕ) (files : FileTree) (laid : Laid) (m : Measure) → laid ≡ laid_of class files → length class ≡ 16 → MayBeAdded files → IsMeasure (sector_of v) (planned (sector_of v) (entries_in files) (mini_in files) (long_in (sector_of v) files)) (Ok m) → IsPlanned (sector_of v) m.numbers laid m.size
plan_of_files v class files laid m e h fits is =
    let z = sector_of v in
    let slots = slots_in (laid_of class files) in
    let p = plan_seen m.numbers in
    let plan : p ≡ plan_of z slots = is.1 ∙ sym (plan_is z class files) in
    let whole : m.size ≡ length (file_bytes z p slots) = is.2 ∙ sym (size_is v class files h fits) ∙ ap (λ (q : Plan). length (file_bytes z q slots)) (sym plan) in
    subst (λ (l : Laid). IsPlanned z m.numbers l m.size) (sym e)
    (record {
      small = is.0;
      plan = plan;
      short = slots_short v (links_of_siblings (sibling_numbers 1 files)) files fits (subst (λ (k : ℕ). k ≤ MOST_BYTES) is.2 is.3);
      whole = whole;
    })

pub file_is : (v : Version) (class : List ℕ) (storages : List (List Child)) (files : FileTree) (laid : Laid) (p : Plan) → files ≡ sorted (tree_of storages) → laid ≡ laid_of class files → p ≡ planned (sector_of v) (entries_in files) (mini_in files) (long_in (sector_of v) files) → file_bytes (sector_of v) p (slots_in laid) ≡ layout_of (sector_of v) class (tree_of storages)
file_is v class storages files laid p e l is =
    let z = sector_of v in
    ap (λ (x : Laid). file_bytes z p (slots_in x)) l
    ∙ ap (λ (q : Plan). file_bytes z q (slots_in (laid_of class files))) (is ∙ sym (plan_is z class files))
    ∙ ap (λ (t : FileTree). file_bytes z (plan_of z (slots_in (laid_of class t))) (slots_in (laid_of class t))) e
