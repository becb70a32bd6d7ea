-- What samples are made of: their names, their levels, and how few parts they have.
use Rattle.std.proofs.Common.{◌≡◌, ℕ, zero, suc, ◌+◌, ◌*◌, ◌%◌, ◌<◌, ◌≤◌, ◌^◌, List, [], ◌∷◌, ◌++◌, length, map, refl, ap, ◌∙◌, arith}
use Rattle.std.specs.List.{range_with_len, flat_map, AllByRecursion}
use Rattle.std.specs.Prelude.{codes, decimal}
use Rattle.std.proofs.lemmas.Fmt.{length-decimal-le}
use Rattle.std.proofs.lemmas.List.{length-append, append-nil}
use Rattle.std.proofs.lemmas.List.FromFn.{length-map-range_with_len}
use Rattle.carrier_model.proofs.Elements.{all_of}
use Rattle.carrier_model.proofs.Trees.{listed-from}
use Rattle.carrier_model.specs.Keys.{Name, numbered, id}
use Rattle.carrier_model.specs.SmallTrees.{wide, string_prop, integer32}
use Rattle.carrier_model.specs.Tree.{Attached, attachments_from, depth, depth_in, names_in, names_below, names_in_props}
use Rattle.carrier_model.specs.Trees.{IsPropList, HasPropLists, HavePropLists, IsTree, KeyHasUnits}
use Rattle.carrier_model.specs.Values.{Prop, IsProp, prop_cmp, bytes}
use Rattle.text_model.specs.SampleTrees.{GREATEST_SAMPLE, COMMON, named_prop, sample_props, sample_recipient, sample_data, plain_attachment, level_props, level_message, level_attachment, sample_attachments, sample_tree}
use Rattle.text_model.specs.TreeTexts.{counted}
use Rattle.job_model.proofs.SampleLists.{sample_sorted, data_sorted, one_sorted, nothing_sorted}
use Rattle.msg_model.specs.ReadBack.{HasFewParts, HaveFewParts}

-- ---- texts

pub length_wide : (text : List ℕ) → length (wide text) ≡ 2 * length text
length_wide [] = refl
length_wide (c ∷ text) = omega (arith, length_wide text)

pub digits_few : (n : ℕ) → n < 10000 → length (decimal n) ≤ 4
digits_few n few = length-decimal-le 4 n (omega arith) (omega (arith, few)) (omega (arith, few))

pub counted_few : (word : List ℕ) (n : ℕ) → n < 10000 → length (counted word n) ≤ length word + 5
counted_few word n few = omega (arith, digits_few n few, length-append word (codes " " ++ decimal n), length-append (codes " ") (decimal n))

-- ---- each property

abbrev HasUnitsOf : Prop → Type 0
HasUnitsOf p = KeyHasUnits p.key

pub string_is : (n : ℕ) (text : List ℕ) → n < 0x8000 → length text < 0x1000 → IsProp (string_prop n text)
string_is n text small short = record {
  key = small;
  value = record { kind_is = refl; short = omega (arith, short, length_wide text); even = λ e. omega (arith, length_wide text) };
}

integer_is : (n bits : ℕ) → n < 0x8000 → bits < 2 ^ 32 → IsProp (integer32 n bits)
integer_is n bits small few = record { key = small; value = (few, omega arith, λ e. absurd (omega (arith, e))) }

named_is : (n i : ℕ) → i < n → n ≤ GREATEST_SAMPLE → IsProp (named_prop i)
named_is n i lt few = record { key = (refl, omega (arith, lt, few)); value = (omega (arith, lt, few), omega arith, λ e. absurd (omega (arith, e))) }

each_named : (a n : ℕ) → a + n ≤ GREATEST_SAMPLE → AllByRecursion IsProp (map named_prop (range_with_len a n))
each_named a zero few = tt
each_named a (suc n) few = (named_is (a + 1) a (omega arith) (omega (arith, few)), each_named (a + 1) n (omega (arith, few)))

units_named : (a n : ℕ) → AllByRecursion HasUnitsOf (map named_prop (range_with_len a n))
units_named a zero = tt
units_named a (suc n) = (tt, units_named (a + 1) n)

-- ---- each list

alone : (p : Prop) → IsProp p → KeyHasUnits p.key → IsPropList (p ∷ [])
alone p is units = record { sorted = one_sorted prop_cmp p; each = all_of IsProp (p ∷ []) (is, tt); units = all_of HasUnitsOf (p ∷ []) (units, tt) }

nothing_is : IsPropList []
nothing_is = record { sorted = nothing_sorted prop_cmp; each = all_of IsProp [] tt; units = all_of HasUnitsOf [] tt }

props_are : (n : ℕ) → n ≤ GREATEST_SAMPLE → IsPropList (sample_props n)
props_are n few = record {
  sorted = sample_sorted n;
  each = all_of IsProp (sample_props n) (integer_is 0x0017 (n % 3) (omega arith) (omega arith), (string_is 0x001A (codes "IPM.Note") (omega arith) (omega arith), (string_is 0x0037 (counted (codes "sample") n) (omega arith) (omega (arith, counted_few (codes "sample") n (omega (arith, few)))), each_named 0 n (omega (arith, few)))));
  units = all_of HasUnitsOf (sample_props n) (tt, (tt, (tt, units_named 0 n)));
}

recipient_is : (i : ℕ) → i < 10000 → IsPropList (sample_recipient i)
recipient_is i few = alone (string_prop 0x3001 (codes "r" ++ decimal i)) (string_is 0x3001 (codes "r" ++ decimal i) (omega arith) (omega (arith, digits_few i few))) tt

recipients_are : (a n : ℕ) → a + n ≤ 10000 → AllByRecursion IsPropList (map sample_recipient (range_with_len a n))
recipients_are a zero few = tt
recipients_are a (suc n) few = (recipient_is a (omega (arith, few)), recipients_are (a + 1) n (omega (arith, few)))

pub binary_is : (i : ℕ) → i < 10000 → IsProp (record { key = id 0x3701; value = bytes 0x0102 (sample_data i) })
binary_is i few =
    let long : length (sample_data i) ≡ 128 * i = length-map-range_with_len (λ j. (i + j) % 251) 0 (128 * i) in
    record { key = omega arith; value = record { kind_is = refl; short = omega (arith, long, few); even = λ e. absurd (omega (arith, e)) } }

data_is : (i : ℕ) → i < 10000 → IsPropList (plain_attachment i).0
data_is i few = record {
  sorted = data_sorted (sample_data i);
  each = all_of IsProp (plain_attachment i).0 (binary_is i few, (integer_is 0x3705 1 (omega arith) (omega arith), tt));
  units = all_of HasUnitsOf (plain_attachment i).0 (tt, (tt, tt));
}

level_is : (k : ℕ) → k < 10000 → IsPropList (level_props k)
level_is k few = alone (string_prop 0x0037 (counted (codes "level") k)) (string_is 0x0037 (counted (codes "level") k) (omega arith) (omega (arith, counted_few (codes "level") k few))) tt

-- ---- each message

level_lists : (below k : ℕ) → below + k < 10000 → HasPropLists (level_message below k)
level_lists zero k few = (level_is k (omega (arith, few)), (all_of IsPropList [] tt, tt))
level_lists (suc below) k few = (level_is k (omega (arith, few)), (all_of IsPropList [] tt, (nothing_is, (level_lists below (k + 1) (omega (arith, few)), tt))))

attachments_lists : (levels a n : ℕ) → a + n ≤ 1000 → levels ≤ 1000 → HavePropLists (attachments_from (map plain_attachment (range_with_len a n) ++ level_attachment levels))
attachments_lists zero a zero few low = tt
attachments_lists (suc below) a zero few low = (nothing_is, (level_lists below 1 (omega (arith, low)), tt))
attachments_lists levels a (suc n) few low = (data_is a (omega (arith, few)), (tt, attachments_lists levels (a + 1) n (omega (arith, few)) low))

pub level_depth : (below k : ℕ) → depth (level_message below k) ≡ below
level_depth zero k = refl
level_depth (suc below) k = omega (arith, level_depth below (k + 1))

pub attachments_depth : (levels a n : ℕ) → depth_in (attachments_from (map plain_attachment (range_with_len a n) ++ level_attachment levels)) ≡ levels
attachments_depth zero a zero = refl
attachments_depth (suc below) a zero = omega (arith, level_depth below 1)
attachments_depth levels a (suc n) = omega (arith, attachments_depth levels (a + 1) n)

pub sample_is_tree : (n : ℕ) → n ≤ GREATEST_SAMPLE → IsTree (sample_tree n)
sample_is_tree n few = record {
  lists = (props_are n few, (all_of IsPropList (map sample_recipient (range_with_len 0 (n % 2049))) (recipients_are 0 (n % 2049) (omega arith)), attachments_lists (n % 33) 0 (n % 33) (omega arith) (omega arith)));
  levels = omega (arith, attachments_depth (n % 33) 0 (n % 33));
}

-- ---- how few parts there are

level_few : (below k : ℕ) → HasFewParts (level_message below k)
level_few zero k = (omega arith, omega arith, tt)
level_few (suc below) k = (omega arith, omega arith, (level_few below (k + 1), tt))

attachments_few : (levels a n : ℕ) → HaveFewParts (attachments_from (map plain_attachment (range_with_len a n) ++ level_attachment levels))
attachments_few zero a zero = tt
attachments_few (suc below) a zero = (level_few below 1, tt)
attachments_few levels a (suc n) = (tt, attachments_few levels (a + 1) n)

few_levels : (levels : ℕ) → length (level_attachment levels) ≤ 1
few_levels zero = omega arith
few_levels (suc below) = omega arith

pub sample_few : (n : ℕ) → HasFewParts (sample_tree n)
sample_few n =
    let plain : List Attached = map plain_attachment (range_with_len 0 (n % 33)) in
    let all : List Attached = sample_attachments (n % 33) in (
      omega (arith, length-map-range_with_len sample_recipient 0 (n % 2049)),
      omega (arith, ap length (listed-from all), length-append plain (level_attachment (n % 33)), length-map-range_with_len plain_attachment 0 (n % 33), few_levels (n % 33)),
      attachments_few (n % 33) 0 (n % 33),
    )

-- ---- their names

no_names : (a n : ℕ) → flat_map names_in_props (map sample_recipient (range_with_len a n)) ≡ []
no_names a zero = refl
no_names a (suc n) = no_names (a + 1) n

level_names : (below k : ℕ) → names_in (level_message below k) ≡ []
level_names zero k = refl
level_names (suc below) k = ap (λ (l : List Name). l ++ []) (level_names below (k + 1))

attachments_names : (levels a n : ℕ) → names_below (attachments_from (map plain_attachment (range_with_len a n) ++ level_attachment levels)) ≡ []
attachments_names zero a zero = refl
attachments_names (suc below) a zero = ap (λ (l : List Name). l ++ []) (level_names below 1)
attachments_names levels a (suc n) = attachments_names levels (a + 1) n

named_names : (a n : ℕ) → names_in_props (map named_prop (range_with_len a n)) ≡ map (λ i. numbered COMMON (0x8500 + i)) (range_with_len a n)
named_names a zero = refl
named_names a (suc n) = ap (λ (l : List Name). numbered COMMON (0x8500 + a) ∷ l) (named_names (a + 1) n)

-- the names of the named properties alone
pub sample_names : (n : ℕ) → names_in (sample_tree n) ≡ map (λ i. numbered COMMON (0x8500 + i)) (range_with_len 0 n)
sample_names n =
    let names : List Name = map (λ i. numbered COMMON (0x8500 + i)) (range_with_len 0 n) in
    rw (no_names 0 (n % 2049), attachments_names (n % 33) 0 (n % 33), named_names 0 n) (append-nil (names ++ []) ∙ append-nil names)
