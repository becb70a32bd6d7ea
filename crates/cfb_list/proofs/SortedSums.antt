-- Storages in order need as much room as before.
use Rattle.std.proofs.Common.{◌≡◌, ℕ, ◌+◌, List, map, refl, sym, ap, ◌∙◌, arith}
use Rattle.std.specs.declared.cmp.Ordering.{Ordering}
use Rattle.std.specs.declared.cmp.Ordering.TheVariants.{Less, Equal, Greater}
use Rattle.carrier_model.specs.FileTrees as trees
use Rattle.carrier_model.specs.FileTrees.{FileTree, sibling_cmp, with_stream, with_storage, sorted, entries_in}
use Rattle.carrier_model.specs.Sorted.{choose}
use Rattle.cfb_list.specs.Listed.{Child, tree_at, trees_from}
use Rattle.cfb_list.specs.Sorting.{siblings_in_order}
use Rattle.cfb_list.specs.Trees.{inside, mini_pieces, mini_in, long_pieces, long_in}
use Rattle.cfb_list.proofs.BuiltTrees.{sorted_at, trees_sorted}

-- two trees with one sum, whichever is chosen
chosen_sum : (m : FileTree → ℕ) (o : Ordering) (a b : FileTree) (n : ℕ) → m a ≡ n → m b ≡ n → m (choose o a b b) ≡ n
chosen_sum m Less a b n x y = x
chosen_sum m Equal a b n x y = y
chosen_sum m Greater a b n x y = y

-- a sum over a tree, of what each stream's bytes and each storage count for
module _ (m : FileTree → ℕ) (weight : List ℕ → ℕ) (one : ℕ) (of_stream : (name bytes : List ℕ) (others : FileTree) → m (trees.stream name bytes others) ≡ weight bytes + m others) (of_storage : (name class : List ℕ) (below others : FileTree) → m (trees.storage name class below others) ≡ one + m below + m others) where
  stream_sum : (name bytes : List ℕ) (t : FileTree) → m (with_stream name bytes t) ≡ weight bytes + m t
  stream_sum name bytes trees.no_file = of_stream name bytes trees.no_file
  stream_sum name bytes (trees.stream other x others) =
      let deep : m (trees.stream other x (with_stream name bytes others)) ≡ weight bytes + m (trees.stream other x others) = omega (arith, of_stream other x (with_stream name bytes others), of_stream other x others, stream_sum name bytes others) in
      chosen_sum m (sibling_cmp other name) (trees.stream other x (with_stream name bytes others)) (trees.stream name bytes (trees.stream other x others)) _ deep (of_stream name bytes (trees.stream other x others))
  stream_sum name bytes (trees.storage other class below others) =
      let deep : m (trees.storage other class below (with_stream name bytes others)) ≡ weight bytes + m (trees.storage other class below others) = omega (arith, of_storage other class below (with_stream name bytes others), of_storage other class below others, stream_sum name bytes others) in
      chosen_sum m (sibling_cmp other name) (trees.storage other class below (with_stream name bytes others)) (trees.stream name bytes (trees.storage other class below others)) _ deep (of_stream name bytes (trees.storage other class below others))

  storage_sum : (name class : List ℕ) (below t : FileTree) → m (with_storage name class below t) ≡ one + m below + m t
  storage_sum name class below trees.no_file = of_storage name class below trees.no_file
  storage_sum name class below (trees.stream other x others) =
      let deep : m (trees.stream other x (with_storage name class below others)) ≡ one + m below + m (trees.stream other x others) = omega (arith, of_stream other x (with_storage name class below others), of_stream other x others, storage_sum name class below others) in
      chosen_sum m (sibling_cmp other name) (trees.stream other x (with_storage name class below others)) (trees.storage name class below (trees.stream other x others)) _ deep (of_storage name class below (trees.stream other x others))
  storage_sum name class below (trees.storage other kind under others) =
      let deep : m (trees.storage other kind under (with_storage name class below others)) ≡ one + m below + m (trees.storage other kind under others) = omega (arith, of_storage other kind under (with_storage name class below others), of_storage other kind under others, storage_sum name class below others) in
      chosen_sum m (sibling_cmp other name) (trees.storage other kind under (with_storage name class below others)) (trees.storage name class below (trees.storage other kind under others)) _ deep (of_storage name class below (trees.storage other kind under others))

  -- is the same over the sorted tree
  sorted_sum : (t : FileTree) → m (sorted t) ≡ m t
  sorted_sum trees.no_file = refl
  sorted_sum (trees.stream name bytes others) = omega (arith, stream_sum name bytes (sorted others), of_stream name bytes others, sorted_sum others)
  sorted_sum (trees.storage name class below others) =
      omega (arith, storage_sum name class (sorted below) (sorted others), of_storage name class below others, sorted_sum below, sorted_sum others)

pub entries_sorted : (t : FileTree) → entries_in (sorted t) ≡ entries_in t
entries_sorted t = sorted_sum entries_in (λ bytes. 1) 1 (λ name bytes others. omega arith) (λ name class below others. omega arith) t

pub mini_sorted : (t : FileTree) → mini_in (sorted t) ≡ mini_in t
mini_sorted t = sorted_sum mini_in mini_pieces 0 (λ name bytes others. refl) (λ name class below others. omega arith) t

pub long_sorted : (z : ℕ) (t : FileTree) → long_in z (sorted t) ≡ long_in z t
long_sorted z t = sorted_sum (long_in z) (long_pieces z) 0 (λ name bytes others. refl) (λ name class below others. omega arith) t

-- what is in a storage of sorted storages is the sorted tree
pub inside_sorted : (storages : List (List Child)) (k : ℕ) → inside (map siblings_in_order storages) k ≡ sorted (inside storages k)
inside_sorted storages k = ap (λ (ts : List FileTree). tree_at ts k) (trees_sorted 0 storages) ∙ sym (sorted_at (trees_from 0 storages) k)
