-- Lists that grow by whole trees.
use Rattle.std.proofs.Common.{◌≡◌, ℕ, zero, suc, ◌+◌, ◌<◌, ◌≤◌, List, [], ◌∷◌, ◌++◌, length, refl, sym, ap, subst, ◌∙◌, append_assoc, arith}
use Rattle.std.specs.Prelude.{slice_set}
use Rattle.std.specs.List.{AllByRecursion}
use Rattle.std.proofs.lemmas.List.{length-append, length-set}
use Rattle.carrier_model.specs.FileTrees as trees
use Rattle.carrier_model.specs.FileTrees.{FileTree, and_files, files_from, files_listed}
use Rattle.cfb_list.specs.Grown.{grown, storages_in, MayBeAdded}
use Rattle.cfb_list.specs.Listed.{Child, stream, storage, children_at, with_child, with_children, built, tree_of, IsSound}
use Rattle.cfb_list.specs.Trees.{inside}
use Rattle.cfb_list.proofs.BuiltTrees.{IsLater, AreLater, inside_later}
use Rattle.cfb_list.proofs.Soundness.{child_added, child_of_front, storage_added}

-- ---- what is added: children, and storages behind the others

kids : ℕ → FileTree → List Child
kids n trees.no_file = []
kids n (trees.stream name bytes others) = stream name bytes ∷ kids n others
kids n (trees.storage name class below others) = storage name class n ∷ kids (n + 1 + storages_in below) others

behind : ℕ → FileTree → List (List Child)
behind n trees.no_file = []
behind n (trees.stream name bytes others) = behind n others
behind n (trees.storage name class below others) = kids (n + 1) below ∷ (behind (n + 1) below ++ behind (n + 1 + storages_in below) others)

behind_count : (n : ℕ) (files : FileTree) → length (behind n files) ≡ storages_in files
unfolding behind
behind_count n trees.no_file = refl
behind_count n (trees.stream name bytes others) = behind_count n others
behind_count n (trees.storage name class below others) =
    omega (arith, length-append (behind (n + 1) below) (behind (n + 1 + storages_in below) others), behind_count (n + 1) below, behind_count (n + 1 + storages_in below) others)

set_again : (ss : List (List Child)) (p : ℕ) (a b : List Child) → slice_set (slice_set ss p a) p b ≡ slice_set ss p b
set_again [] p a b = refl
set_again (s ∷ ss) zero a b = refl
set_again (s ∷ ss) (suc p) a b = ap (λ (t : List (List Child)). s ∷ t) (set_again ss p a b)

set_same : (ss : List (List Child)) (p : ℕ) → slice_set ss p (children_at ss p) ≡ ss
set_same [] p = refl
set_same (s ∷ ss) zero = refl
set_same (s ∷ ss) (suc p) = ap (λ (t : List (List Child)). s ∷ t) (set_same ss p)

at_set : (ss : List (List Child)) (p : ℕ) (a : List Child) → p < length ss → children_at (slice_set ss p a) p ≡ a
at_set [] p a lt = absurd (omega (arith, lt))
at_set (s ∷ ss) zero a lt = refl
at_set (s ∷ ss) (suc p) a lt = at_set ss p a (omega (arith, lt))

set_front : (ss more : List (List Child)) (p : ℕ) (a : List Child) → p < length ss → slice_set (ss ++ more) p a ≡ slice_set ss p a ++ more
set_front [] more p a lt = absurd (omega (arith, lt))
set_front (s ∷ ss) more zero a lt = refl
set_front (s ∷ ss) more (suc p) a lt = ap (λ (t : List (List Child)). s ∷ t) (set_front ss more p a (omega (arith, lt)))

at_front : (ss more : List (List Child)) (p : ℕ) → p < length ss → children_at (ss ++ more) p ≡ children_at ss p
at_front [] more p lt = absurd (omega (arith, lt))
at_front (s ∷ ss) more zero lt = refl
at_front (s ∷ ss) more (suc p) lt = at_front ss more p (omega (arith, lt))

at_behind : (ss more : List (List Child)) (k : ℕ) → children_at (ss ++ more) (length ss + k) ≡ children_at more k
at_behind [] more k = ap (children_at more) (omega arith)
at_behind (s ∷ ss) more k = let e : length (s ∷ ss) + k ≡ suc (length ss + k) = omega arith in rw e (at_behind ss more k)

set_last : (ss : List (List Child)) (s a : List Child) → slice_set (ss ++ s ∷ []) (length ss) a ≡ ss ++ a ∷ []
set_last [] s a = refl
set_last (x ∷ ss) s a = ap (λ (t : List (List Child)). x ∷ t) (set_last ss s a)

at_last : (ss : List (List Child)) (s : List Child) → children_at (ss ++ s ∷ []) (length ss) ≡ s
at_last [] s = refl
at_last (x ∷ ss) s = at_last ss s

-- the list with children behind those of a storage, and storages behind all
with_both : List (List Child) → ℕ → List Child → List (List Child) → List (List Child)
with_both ss p cs more = slice_set ss p (children_at ss p ++ cs) ++ more

nil_end : {X : Type 0} (xs : List X) → xs ++ [] ≡ xs
nil_end [] = refl
nil_end (x ∷ xs) = ap (λ (t : List _). x ∷ t) (nil_end xs)

pub none_added : (ss : List (List Child)) (p : ℕ) → with_children ss p [] ≡ ss
none_added ss p = ap (slice_set ss p) (nil_end (children_at ss p)) ∙ set_same ss p

both_none : (ss : List (List Child)) (p : ℕ) → ss ≡ with_both ss p [] []
unfolding with_both
both_none ss p = sym (nil_end (slice_set ss p (children_at ss p ++ [])) ∙ none_added ss p)

pub child_again : (ss : List (List Child)) (p : ℕ) (c : Child) (cs : List Child) → p < length ss → with_children (with_child ss p c) p cs ≡ with_children ss p (c ∷ cs)
child_again ss p c cs lt =
    ap (λ (x : List Child). slice_set (with_child ss p c) p (x ++ cs)) (at_set ss p (children_at ss p ++ c ∷ []) lt)
    ∙ set_again ss p (children_at ss p ++ c ∷ []) (children_at ss p ++ c ∷ [] ++ cs)
    ∙ ap (slice_set ss p) (append_assoc (children_at ss p) (c ∷ []) cs)

both_child : (ss : List (List Child)) (p : ℕ) (c : Child) (cs : List Child) (more : List (List Child)) → p < length ss → with_both (with_child ss p c) p cs more ≡ with_both ss p (c ∷ cs) more
unfolding with_both
both_child ss p c cs more lt = ap (λ (t : List (List Child)). t ++ more) (child_again ss p c cs lt)

both_last : (ss : List (List Child)) (cs : List Child) (more : List (List Child)) → with_both (ss ++ [] ∷ []) (length ss) cs more ≡ ss ++ (cs ∷ more)
unfolding with_both
both_last ss cs more =
    ap (λ (x : List Child). slice_set (ss ++ [] ∷ []) (length ss) (x ++ cs) ++ more) (at_last ss [])
    ∙ ap (λ (t : List (List Child)). t ++ more) (set_last ss [] cs)
    ∙ append_assoc ss (cs ∷ []) more

both_front : (ss others : List (List Child)) (p : ℕ) (cs : List Child) (more : List (List Child)) → p < length ss → with_both (ss ++ others) p cs more ≡ with_both ss p cs (others ++ more)
unfolding with_both
both_front ss others p cs more lt =
    ap (λ (x : List Child). slice_set (ss ++ others) p (x ++ cs) ++ more) (at_front ss others p lt)
    ∙ ap (λ (t : List (List Child)). t ++ more) (set_front ss others p (children_at ss p ++ cs) lt)
    ∙ append_assoc (slice_set ss p (children_at ss p ++ cs)) others more

-- ---- a list that has grown

pub grown_count : (ss : List (List Child)) (p : ℕ) (files : FileTree) → length (grown ss p files) ≡ length ss + storages_in files
grown_count ss p trees.no_file = omega arith
grown_count ss p (trees.stream name bytes others) =
    let c = stream name bytes in
    omega (arith, grown_count (with_child ss p c) p others, length-set ss p (children_at ss p ++ c ∷ []))
grown_count ss p (trees.storage name class below others) =
    let c = storage name class (length ss) in
    let first = with_child ss p c ++ [] ∷ [] in
    omega (arith, grown_count (grown first (length ss) below) p others, grown_count first (length ss) below, length-append (with_child ss p c) ([] ∷ []), length-set ss p (children_at ss p ++ c ∷ []))

grown_is : (ss : List (List Child)) (p n : ℕ) (files : FileTree) → length ss ≡ n → p < n → grown ss p files ≡ with_both ss p (kids n files) (behind n files)
unfolding kids behind
grown_is ss p n trees.no_file e lt = both_none ss p
grown_is ss p n (trees.stream name bytes others) e lt =
    let c = stream name bytes in
    let same : length (with_child ss p c) ≡ length ss = length-set ss p (children_at ss p ++ c ∷ []) in
    grown_is (with_child ss p c) p n others (same ∙ e) lt
    ∙ both_child ss p c (kids n others) (behind n others) (omega (arith, lt, e))
grown_is ss p n (trees.storage name class below others) e lt =
    let c = storage name class (length ss) in
    let front = with_child ss p c in
    let first = front ++ [] ∷ [] in
    let added = kids (n + 1) below ∷ behind (n + 1) below in
    let m = n + 1 + storages_in below in
    let same : length front ≡ length ss = length-set ss p (children_at ss p ++ c ∷ []) in
    let many : length first ≡ n + 1 = omega (arith, length-append front ([] ∷ []), same, e) in
    let inner : grown first (length ss) below ≡ front ++ added =
    grown_is first (length ss) (n + 1) below many (omega (arith, e))
    ∙ ap (λ (k : ℕ). with_both first k (kids (n + 1) below) (behind (n + 1) below)) (sym same)
    ∙ both_last front (kids (n + 1) below) (behind (n + 1) below)
    in
    let all : length (front ++ added) ≡ m = omega (arith, length-append front added, same, e, behind_count (n + 1) below) in
    ap (λ (t : List (List Child)). grown t p others) inner
    ∙ grown_is (front ++ added) p m others all (omega (arith, lt))
    ∙ both_front front added p (kids m others) (behind m others) (omega (arith, lt, same, e))
    ∙ both_child ss p c (kids m others) (added ++ behind m others) (omega (arith, lt, e))
    ∙ ap (λ (k : ℕ). with_both ss p (storage name class k ∷ kids m others) (added ++ behind m others)) e

-- two trees, one behind the other
pub grown_steps : (ss : List (List Child)) (p : ℕ) (files more : FileTree) → grown (grown ss p files) p more ≡ grown ss p (and_files files more)
grown_steps ss p trees.no_file more = refl
grown_steps ss p (trees.stream name bytes others) more = grown_steps (with_child ss p (stream name bytes)) p others more
grown_steps ss p (trees.storage name class below others) more =
    grown_steps (grown (with_child ss p (storage name class (length ss)) ++ [] ∷ []) (length ss) below) p others more

pub listed_and : (files more : FileTree) → files_from (files_listed files ++ files_listed more) ≡ and_files files more
listed_and trees.no_file more = from_listed more
  where
    from_listed : (t : FileTree) → files_from (files_listed t) ≡ t
    from_listed trees.no_file = refl
    from_listed (trees.stream name bytes others) = ap (trees.stream name bytes) (from_listed others)
    from_listed (trees.storage name class below others) = ap (trees.storage name class below) (from_listed others)
listed_and (trees.stream name bytes others) more = ap (trees.stream name bytes) (listed_and others more)
listed_and (trees.storage name class below others) more = ap (trees.storage name class below) (listed_and others more)

-- ---- it stays sound

pub grown_sound : (ss : List (List Child)) (p : ℕ) (files : FileTree) → IsSound ss → p < length ss → MayBeAdded files → IsSound (grown ss p files)
grown_sound ss p trees.no_file s lt short = s
grown_sound ss p (trees.stream name bytes others) s lt short =
    let c = stream name bytes in
    let same : length (with_child ss p c) ≡ length ss = length-set ss p (children_at ss p ++ c ∷ []) in
    grown_sound (with_child ss p c) p others (child_added ss p c short.0 s) (omega (arith, same, lt)) short.1
grown_sound ss p (trees.storage name class below others) s lt short =
    let c = storage name class (length ss) in
    let first = with_child ss p c ++ [] ∷ [] in
    let many : length first ≡ length ss + 1 = omega (arith, length-append (with_child ss p c) ([] ∷ []), length-set ss p (children_at ss p ++ c ∷ [])) in
    let more : length (ss ++ [] ∷ []) ≡ length ss + 1 = length-append ss ([] ∷ []) in
    let empty : IsSound first = subst IsSound (child_of_front ss p c lt) (child_added (ss ++ [] ∷ []) p c (short.0, lt, omega (arith, more), short.1) (storage_added ss s)) in
    let inner : IsSound (grown first (length ss) below) = grown_sound first (length ss) below empty (omega (arith, many)) short.2 in
    grown_sound (grown first (length ss) below) p others inner (omega (arith, grown_count first (length ss) below, many, lt)) short.3

-- ---- its tree

kids_later : (parent n count : ℕ) (files : FileTree) → parent < n → n + storages_in files ≤ count → AllByRecursion (IsLater parent count) (kids n files)
unfolding kids
kids_later parent n count trees.no_file lt le = tt
kids_later parent n count (trees.stream name bytes others) lt le = (tt, kids_later parent n count others lt le)
kids_later parent n count (trees.storage name class below others) lt le =
    ((lt, omega (arith, le)), kids_later parent (n + 1 + storages_in below) count others (omega (arith, lt)) (omega (arith, le)))

later_join : (n count : ℕ) (xs ys : List (List Child)) → AreLater n count xs → AreLater (n + length xs) count ys → AreLater n count (xs ++ ys)
later_join n count [] ys a b = subst (λ (k : ℕ). AreLater k count ys) (omega arith) b
later_join n count (x ∷ xs) ys a b = (a.0, later_join (n + 1) count xs ys a.1 (subst (λ (k : ℕ). AreLater k count ys) (omega arith) b))

behind_later : (n count : ℕ) (files : FileTree) → n + storages_in files ≤ count → AreLater n count (behind n files)
unfolding behind
behind_later n count trees.no_file le = tt
behind_later n count (trees.stream name bytes others) le = behind_later n count others le
behind_later n count (trees.storage name class below others) le =
    let m = n + 1 + storages_in below in
    let here : n + 1 + length (behind (n + 1) below) ≡ m = ap (λ (k : ℕ). n + 1 + k) (behind_count (n + 1) below) in (
      kids_later n (n + 1) count below (omega arith) (omega (arith, le)),
      later_join (n + 1) count (behind (n + 1) below) (behind m others)
          (behind_later (n + 1) count below (omega (arith, le)))
          (subst (λ (k : ℕ). AreLater k count (behind m others)) (sym here) (behind_later m count others (omega (arith, le)))),
    )

-- children whose numbers stand for the trees that were added
kids_built : (f : ℕ → FileTree) (n : ℕ) (files : FileTree) → ((j : ℕ) → j < storages_in files → f (n + j) ≡ built f (children_at (behind n files) j)) → built f (kids n files) ≡ files
unfolding kids behind
kids_built f n trees.no_file h = refl
kids_built f n (trees.stream name bytes others) h = ap (trees.stream name bytes) (kids_built f n others h)
kids_built f n (trees.storage name class below others) h =
    let m = n + 1 + storages_in below in
    let count = behind_count (n + 1) below in
    let first = behind (n + 1) below in
    let here : f n ≡ built f (kids (n + 1) below) = let none : n ≡ n + 0 = omega arith in ap f none ∙ h 0 (omega arith) in
    let inner : built f (kids (n + 1) below) ≡ below =
    kids_built f (n + 1) below (λ j lt.
    let number : n + 1 + j ≡ n + suc j = omega arith in
    ap f number ∙ h (suc j) (omega (arith, lt)) ∙ ap (built f) (at_front first (behind m others) j (omega (arith, count, lt))))
    in
    let outer : built f (kids m others) ≡ others =
    kids_built f m others (λ j lt.
    let number : m + j ≡ n + suc (length first + j) = omega (arith, count) in
    ap f number ∙ h (suc (length first + j)) (omega (arith, count, lt)) ∙ ap (built f) (at_behind first (behind m others) j))
    in
    ap (λ (t : FileTree). trees.storage name class t (built f (kids m others))) (here ∙ inner) ∙ ap (trees.storage name class below) outer

whole_tree : (files : FileTree) → tree_of (with_both ([] ∷ []) 0 (kids 1 files) (behind 1 files)) ≡ files
unfolding with_both
whole_tree files =
    let all = kids 1 files ∷ behind 1 files in
    let count = behind_count 1 files in
    let later : AreLater 0 (length all) all = (kids_later 0 1 (length all) files (omega arith) (omega (arith, count)), behind_later 1 (length all) files (omega (arith, count))) in
    inside_later all 0 later (omega arith)
    ∙ kids_built (inside all) 1 files (λ j lt.
    let number : 1 + j ≡ suc j = omega arith in
    ap (inside all) number ∙ inside_later all (suc j) later (omega (arith, count, lt)))

pub grown_tree : (files : FileTree) → tree_of (grown ([] ∷ []) 0 files) ≡ files
grown_tree files = ap tree_of (grown_is ([] ∷ []) 0 1 files refl (omega arith)) ∙ whole_tree files
