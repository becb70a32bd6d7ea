-- Changes laid over a property list.
use Rattle.std.proofs.Common.{◌≡◌, ℕ, suc, ◌+◌, ◌<◌, length, get_or, List, [], ◌∷◌, ◌++◌, drop, map, refl, ap, sym, subst, ◌∙◌, arith, append_assoc}
use Rattle.std.specs.Prelude.{true, false, not, ◌||◌, Bool, Option, Some, None, Ok, is_some}
use Rattle.std.specs.BTreeMap.{insert_entry, is_at}
use Rattle.std.specs.List.{AllByRecursion, list_any}
use Rattle.std.specs.List.Sorted.{IsStrictlySortedBy}
use Rattle.std.specs.Map.{lookup}
use Rattle.std.specs.Option.{MatchOption, option_to_list}
use Rattle.std.specs.Ordering.{ordering_reverse}
use Rattle.std.specs.declared.cmp.Ordering.{Ordering}
use Rattle.std.specs.declared.cmp.Ordering.TheVariants.{Less, Equal, Greater}
use Rattle.std.proofs.lemmas.List.Kept.{AllPairs-filter}
use Rattle.carrier_model.specs.Keys.{Key}
use Rattle.carrier_model.specs.Sorted.{choose, with_element, IsStrictlySorted}
use Rattle.carrier_model.specs.Values.{Prop, kind_of, prop_cmp, with_pair}
use Rattle.carrier_model.proofs.OrderLaws.{props_exactly}
use Rattle.carrier_model.proofs.Orders.{prop_total}
use Rattle.carrier_model.proofs.SortedLists.{tail_sorted, with_element_sorted}
use Rattle.edit_model.specs.Edits.{has_pair, with_prop, without_pair, without_prop}
use Rattle.tree_edit.specs.PropChanges.{Change, changed, with_changes, IsChange, AreChanges, first_put, first_order}
use Rattle.tree_edit.proofs.Found.{none_left}

-- ---- the order

less_turned : (p q : Prop) → prop_cmp p q ≡ Less → prop_cmp q p ≡ Greater
less_turned p q e = prop_total.antisymm q p ∙ ap ordering_reverse e

greater_turned : (p q : Prop) → prop_cmp p q ≡ Greater → prop_cmp q p ≡ Less
greater_turned p q e = prop_total.antisymm q p ∙ ap ordering_reverse e

equal_turned : (p q : Prop) → prop_cmp p q ≡ Equal → prop_cmp q p ≡ Equal
equal_turned p q e = prop_total.antisymm q p ∙ ap ordering_reverse e

-- the first is below the second, and the third is equal to that
less_same : (y q p : Prop) → prop_cmp y q ≡ Less → prop_cmp p q ≡ Equal → prop_cmp y p ≡ Less
less_same y q p e own = greater_turned p y (prop_total.congr p q y own ∙ less_turned y q e)

-- the property is below each of the list
abbrev IsBelow : Prop → List Prop → Type 0
IsBelow p l = AllByRecursion (λ q. prop_cmp p q ≡ Less) l

below_each : (p : Prop) (l : List Prop) → ((k : ℕ) (d : Prop) → k < length l → prop_cmp p (get_or l k d) ≡ Less) → IsBelow p l
below_each p [] h = tt
below_each p (q ∷ l) h = (h 0 q (omega arith), below_each p l (λ k d lt. h (suc k) d (omega (arith, lt))))

first_below : (p : Prop) (l : List Prop) → IsStrictlySorted prop_cmp (p ∷ l) → IsBelow p l
first_below p l s = below_each p l (λ k d lt. s 0 (suc k) d (omega arith) (omega (arith, lt)))

below_more : (o p : Prop) (l : List Prop) → prop_cmp o p ≡ Less → IsBelow p l → IsBelow o l
below_more o p [] e h = tt
below_more o p (q ∷ l) e h = (prop_total.trans o p q e h.0, below_more o p l e h.1)

below_same : (o p : Prop) (l : List Prop) → prop_cmp o p ≡ Equal → IsBelow o l → IsBelow p l
below_same o p [] e h = tt
below_same o p (q ∷ l) e h = (sym (prop_total.congr o p q e) ∙ h.0, below_same o p l e h.1)

-- what is below the first of a sorted list is below each
below_all : (q y : Prop) (l : List Prop) → IsStrictlySorted prop_cmp (y ∷ l) → prop_cmp y q ≡ Greater → IsBelow q (y ∷ l)
below_all q y l s e = let less = greater_turned y q e in (less, below_more q y l less (first_below y l s))

-- ---- one change

changed_behind : (y q : Prop) (o : Option Prop) (l : List Prop) → IsChange (q, o) → prop_cmp y q ≡ Less → changed (q, o) (y ∷ l) ≡ y ∷ changed (q, o) l
changed_behind y q None l own e = rw e refl
changed_behind y q (Some p) l own e = let less = less_same y q p e own in rw (e, less) refl

changed_first : (y q : Prop) (o : Option Prop) (l : List Prop) → prop_cmp y q ≡ Equal → changed (q, o) (y ∷ l) ≡ changed (q, o) l
changed_first y q None l e = rw e refl
changed_first y q (Some p) l e = rw e refl

left_whole : (p : Prop) (l : List Prop) → IsBelow p l → without_pair p.key (kind_of p.value) l ≡ l
left_whole p [] h = refl
left_whole p (q ∷ l) h = let e = less_turned p q h.0 in rw e (ap (λ m. q ∷ m) (left_whole p l h.1))

put_before : (p : Prop) (l : List Prop) → IsBelow p l → with_element prop_cmp l p ≡ p ∷ l
put_before p [] h = refl
put_before p (q ∷ l) h = let e = less_turned p q h.0 in rw e refl

changed_before : (q : Prop) (o : Option Prop) (l : List Prop) → IsChange (q, o) → IsBelow q l → changed (q, o) l ≡ option_to_list o ++ l
changed_before q None l own h = left_whole q l h
changed_before q (Some p) l own h = ap (λ m. with_element prop_cmp m p) (left_whole q l h) ∙ put_before p l (below_same q p l (equal_turned p q own) h)

without_same : (q r : Prop) (l : List Prop) → prop_cmp q r ≡ Equal → without_pair q.key (kind_of q.value) l ≡ without_pair r.key (kind_of r.value) l
without_same q r l e = let (key, kind) = (props_exactly q r).0 e in ap (λ k. without_pair k (kind_of q.value) l) key ∙ ap (λ k. without_pair r.key k l) kind

changed_same : (q r : Prop) (o : Option Prop) (l : List Prop) → prop_cmp q r ≡ Equal → changed (q, o) l ≡ changed (r, o) l
changed_same q r None l e = without_same q r l e
changed_same q r (Some p) l e = ap (λ m. with_element prop_cmp m p) (without_same q r l e)

without_sorted : (key : Key) (kind : ℕ) (l : List Prop) → IsStrictlySorted prop_cmp l → IsStrictlySorted prop_cmp (without_pair key kind l)
without_sorted key kind l s = AllPairs-filter (λ x y. prop_cmp x y ≡ Less) (λ q. not (has_pair key kind q)) l s

changed_sorted : (q : Prop) (o : Option Prop) (l : List Prop) → IsChange (q, o) → IsStrictlySorted prop_cmp l → IsStrictlySorted prop_cmp (changed (q, o) l)
changed_sorted q None l own s = without_sorted q.key (kind_of q.value) l s
changed_sorted q (Some p) l own s =
    with_element_sorted prop_total (without_pair q.key (kind_of q.value) l) p (without_sorted q.key (kind_of q.value) l s)
    (λ y (k, lt, at) e. none_left q l (k, y, lt, at, prop_total.congr y p q e ∙ own))

-- what is below the changed list and below the change is below what it makes
below_changed : (q r : Prop) (o : Option Prop) (l : List Prop) → IsChange (r, o) → IsStrictlySorted prop_cmp l → prop_cmp q r ≡ Less → IsBelow q l → IsBelow q (changed (r, o) l)
below_changed q r o [] own s less h = subst (IsBelow q) (sym (changed_before r o [] own tt)) (put o own)
  where
    put : (o : Option Prop) → IsChange (r, o) → IsBelow q (option_to_list o ++ [])
    put None own = tt
    put (Some p) own = (less_same q r p less own, tt)
below_changed q r o (y ∷ l) own s less h = by (prop_cmp y r) refl (below_changed q r o l own (tail_sorted prop_total y l s) less h.1)
  where
    put : (o : Option Prop) → IsChange (r, o) → IsBelow q (option_to_list o ++ y ∷ l)
    put None own = h
    put (Some p) own = (less_same q r p less own, h)

    by : (a : Ordering) → prop_cmp y r ≡ a → IsBelow q (changed (r, o) l) → IsBelow q (changed (r, o) (y ∷ l))
    by Less e rest = subst (IsBelow q) (sym (changed_behind y r o l own e)) (h.0, rest)
    by Equal e rest = subst (IsBelow q) (sym (changed_first y r o l e)) rest
    by Greater e rest = subst (IsBelow q) (sym (changed_before r o (y ∷ l) own (below_all r y l s e))) (put o own)

-- ---- two changes

-- of two changes of one key and kind the first is of no account
again_before : (q : Prop) (o n : Option Prop) (l : List Prop) → IsChange (q, o) → IsBelow q l → changed (q, n) (changed (q, o) l) ≡ changed (q, n) l
again_before q o n l own h = ap (changed (q, n)) (changed_before q o l own h) ∙ by o own
  where
    by : (o : Option Prop) → IsChange (q, o) → changed (q, n) (option_to_list o ++ l) ≡ changed (q, n) l
    by None own = refl
    by (Some p) own = changed_first p q n l own

again : (q : Prop) (o n : Option Prop) (l : List Prop) → IsChange (q, o) → IsChange (q, n) → IsStrictlySorted prop_cmp l → changed (q, n) (changed (q, o) l) ≡ changed (q, n) l
again q o n [] own new s = again_before q o n [] own tt
again q o n (y ∷ l) own new s = by (prop_cmp y q) refl (again q o n l own new (tail_sorted prop_total y l s))
  where
    by : (a : Ordering) → prop_cmp y q ≡ a → changed (q, n) (changed (q, o) l) ≡ changed (q, n) l → changed (q, n) (changed (q, o) (y ∷ l)) ≡ changed (q, n) (y ∷ l)
    by Less e rest = ap (changed (q, n)) (changed_behind y q o l own e) ∙ (changed_behind y q n (changed (q, o) l) new e ∙ (ap (λ m. y ∷ m) rest ∙ sym (changed_behind y q n l new e)))
    by Equal e rest = ap (changed (q, n)) (changed_first y q o l e) ∙ (rest ∙ sym (changed_first y q n l e))
    by Greater e rest = again_before q o n (y ∷ l) own (below_all q y l s e)

-- two changes of which the first is below the second, in either order
swapped_before : (q r : Prop) (o n : Option Prop) (l : List Prop) → IsChange (q, o) → IsChange (r, n) → IsStrictlySorted prop_cmp l → prop_cmp q r ≡ Less → IsBelow q l → changed (q, o) (changed (r, n) l) ≡ changed (r, n) (changed (q, o) l)
swapped_before q r o n l own new s less h = changed_before q o (changed (r, n) l) own (below_changed q r n l new s less h) ∙ sym (ap (changed (r, n)) (changed_before q o l own h) ∙ by o own)
  where
    by : (o : Option Prop) → IsChange (q, o) → changed (r, n) (option_to_list o ++ l) ≡ option_to_list o ++ changed (r, n) l
    by None own = refl
    by (Some p) own = changed_behind p r n l new (prop_total.congr p q r own ∙ less)

swapped : (q r : Prop) (o n : Option Prop) (l : List Prop) → IsChange (q, o) → IsChange (r, n) → IsStrictlySorted prop_cmp l → prop_cmp q r ≡ Less → changed (q, o) (changed (r, n) l) ≡ changed (r, n) (changed (q, o) l)
swapped q r o n [] own new s less = swapped_before q r o n [] own new s less tt
swapped q r o n (y ∷ l) own new s less = by (prop_cmp y q) refl (swapped q r o n l own new (tail_sorted prop_total y l s) less)
  where
    by : (a : Ordering) → prop_cmp y q ≡ a → changed (q, o) (changed (r, n) l) ≡ changed (r, n) (changed (q, o) l) → changed (q, o) (changed (r, n) (y ∷ l)) ≡ changed (r, n) (changed (q, o) (y ∷ l))
    by Less e rest =
        let under : prop_cmp y r ≡ Less = prop_total.trans y q r e less in
        ap (changed (q, o)) (changed_behind y r n l new under)
        ∙ (changed_behind y q o (changed (r, n) l) own e ∙ (ap (λ m. y ∷ m) rest ∙ sym (ap (changed (r, n)) (changed_behind y q o l own e) ∙ changed_behind y r n (changed (q, o) l) new under)))
    by Equal e rest =
        let under : prop_cmp y r ≡ Less = prop_total.congr y q r e ∙ less in
        ap (changed (q, o)) (changed_behind y r n l new under)
        ∙ (changed_first y q o (changed (r, n) l) e ∙ (rest ∙ sym (ap (changed (r, n)) (changed_first y q o l e))))
    by Greater e rest = swapped_before q r o n (y ∷ l) own new s less (below_all q y l s e)

-- ---- changes of a list

pub whole_sorted : (cs : List Change) (l : List Prop) → AreChanges cs → IsStrictlySorted prop_cmp l → IsStrictlySorted prop_cmp (with_changes cs l)
whole_sorted [] l own s = s
whole_sorted (c ∷ cs) l own s = changed_sorted c.0 c.1 (with_changes cs l) own.0 (whole_sorted cs l own.1 s)

-- a change of the whole is one more of the changes
pub one_more : (cs : List Change) (l : List Prop) (q : Prop) (o : Option Prop) → AreChanges cs → IsChange (q, o) → IsStrictlySorted prop_cmp l → changed (q, o) (with_changes cs l) ≡ with_changes (insert_entry prop_cmp cs q o) l
one_more [] l q o own new s = refl
one_more (c ∷ cs) l q o own new s = by (prop_cmp q c.0) refl (one_more cs l q o own.1 new s)
  where
    rest_sorted : IsStrictlySorted prop_cmp (with_changes cs l)
    rest_sorted = whole_sorted cs l own.1 s

    moved : (o : Option Prop) → prop_cmp q c.0 ≡ Equal → IsChange (q, o) → IsChange (c.0, o)
    moved None e new = tt
    moved (Some p) e new = prop_total.congr p q c.0 new ∙ e

    by : (a : Ordering) → prop_cmp q c.0 ≡ a → changed (q, o) (with_changes cs l) ≡ with_changes (insert_entry prop_cmp cs q o) l → changed (q, o) (with_changes (c ∷ cs) l) ≡ with_changes (insert_entry prop_cmp (c ∷ cs) q o) l
    by Less e rest = rw e refl
    by Equal e rest = rw e (changed_same q c.0 o (changed c (with_changes cs l)) e ∙ again c.0 c.1 o (with_changes cs l) own.0 (moved o e new) rest_sorted)
    by Greater e rest = rw e (sym (swapped c.0 q c.1 o (with_changes cs l) own.0 new rest_sorted (greater_turned q c.0 e)) ∙ ap (changed c) rest)

pub insert_changes : (cs : List Change) (q : Prop) (o : Option Prop) → AreChanges cs → IsChange (q, o) → AreChanges (insert_entry prop_cmp cs q o)
insert_changes [] q o own new = (new, tt)
insert_changes (c ∷ cs) q o own new = by (prop_cmp q c.0) refl (insert_changes cs q o own.1 new)
  where
    moved : (o : Option Prop) → prop_cmp q c.0 ≡ Equal → IsChange (q, o) → IsChange (c.0, o)
    moved None e new = tt
    moved (Some p) e new = prop_total.congr p q c.0 new ∙ e

    by : (a : Ordering) → prop_cmp q c.0 ≡ a → AreChanges (insert_entry prop_cmp cs q o) → AreChanges (insert_entry prop_cmp (c ∷ cs) q o)
    by Less e rest = rw e (new, own)
    by Equal e rest = rw e (moved o e new, own.1)
    by Greater e rest = rw e (own.0, rest)

-- ---- what is there

-- a key and a kind that no property of the list has
any_before : (q : Prop) (l : List Prop) → IsBelow q l → list_any (has_pair q.key (kind_of q.value)) l ≡ false
any_before q [] h = refl
any_before q (y ∷ l) h = let e = less_turned q y h.0 in rw e (any_before q l h.1)

any_own : (q : Prop) (o : Option Prop) (l : List Prop) → IsChange (q, o) → IsStrictlySorted prop_cmp l → list_any (has_pair q.key (kind_of q.value)) (changed (q, o) l) ≡ is_some o
any_own q o [] own s = ap (list_any (has_pair q.key (kind_of q.value))) (changed_before q o [] own tt) ∙ put o own
  where
    put : (o : Option Prop) → IsChange (q, o) → list_any (has_pair q.key (kind_of q.value)) (option_to_list o ++ []) ≡ is_some o
    put None own = refl
    put (Some p) own = rw own refl
any_own q o (y ∷ l) own s = by (prop_cmp y q) refl (any_own q o l own (tail_sorted prop_total y l s))
  where
    any : List Prop → Bool
    any = list_any (has_pair q.key (kind_of q.value))

    put : (o : Option Prop) → IsChange (q, o) → any (y ∷ l) ≡ false → any (option_to_list o ++ y ∷ l) ≡ is_some o
    put None own h = h
    put (Some p) own h = rw own refl

    by : (a : Ordering) → prop_cmp y q ≡ a → any (changed (q, o) l) ≡ is_some o → any (changed (q, o) (y ∷ l)) ≡ is_some o
    by Less e rest = ap any (changed_behind y q o l own e) ∙ rw e rest
    by Equal e rest = ap any (changed_first y q o l e) ∙ rest
    by Greater e rest = let under = below_all q y l s e in ap any (changed_before q o (y ∷ l) own under) ∙ put o own (any_before q (y ∷ l) under)

any_other : (q r : Prop) (o : Option Prop) (l : List Prop) → IsChange (r, o) → IsStrictlySorted prop_cmp l → has_pair q.key (kind_of q.value) r ≡ false → list_any (has_pair q.key (kind_of q.value)) (changed (r, o) l) ≡ list_any (has_pair q.key (kind_of q.value)) l
any_other q r o [] own s not_it = ap (list_any (has_pair q.key (kind_of q.value))) (changed_before r o [] own tt) ∙ put o own
  where
    put : (o : Option Prop) → IsChange (r, o) → list_any (has_pair q.key (kind_of q.value)) (option_to_list o ++ []) ≡ false
    put None own = refl
    put (Some p) own = let gone : has_pair q.key (kind_of q.value) p ≡ false = ap (λ a. choose a false true false) (prop_total.congr p r q own) ∙ not_it in rw gone refl
any_other q r o (y ∷ l) own s not_it = by (prop_cmp y r) refl (any_other q r o l own (tail_sorted prop_total y l s) not_it)
  where
    any : List Prop → Bool
    any = list_any (has_pair q.key (kind_of q.value))

    put : (o : Option Prop) → IsChange (r, o) → any (option_to_list o ++ y ∷ l) ≡ any (y ∷ l)
    put None own = refl
    put (Some p) own = let gone : has_pair q.key (kind_of q.value) p ≡ false = ap (λ a. choose a false true false) (prop_total.congr p r q own) ∙ not_it in ap (λ b. b || any (y ∷ l)) gone

    by : (a : Ordering) → prop_cmp y r ≡ a → any (changed (r, o) l) ≡ any l → any (changed (r, o) (y ∷ l)) ≡ any (y ∷ l)
    by Less e rest = ap any (changed_behind y r o l own e) ∙ ap (λ b. has_pair q.key (kind_of q.value) y || b) rest
    by Equal e rest =
        let gone : has_pair q.key (kind_of q.value) y ≡ false = ap (λ a. choose a false true false) (prop_total.congr y r q e) ∙ not_it in
        ap any (changed_first y r o l e) ∙ (rest ∙ ap (λ b. b || any l) (sym gone))
    by Greater e rest = ap any (changed_before r o (y ∷ l) own (below_all r y l s e)) ∙ put o own

-- what changes say of a key and a kind, where the list says the second
abbrev pub said : Option (Option Prop) → Bool → Bool
said None b = b
said (Some o) b = is_some o

pub found : (cs : List Change) (l : List Prop) (q : Prop) → AreChanges cs → IsStrictlySorted prop_cmp l → list_any (has_pair q.key (kind_of q.value)) (with_changes cs l) ≡ said (lookup (is_at (prop_cmp q)) cs) (list_any (has_pair q.key (kind_of q.value)) l)
found [] l q own s = refl
found (c ∷ cs) l q own s = by (prop_cmp q c.0) refl (found cs l q own.1 s)
  where
    any : List Prop → Bool
    any = list_any (has_pair q.key (kind_of q.value))

    other : has_pair q.key (kind_of q.value) c.0 ≡ false → any (with_changes (c ∷ cs) l) ≡ any (with_changes cs l)
    other not_it = any_other q c.0 c.1 (with_changes cs l) own.0 (whole_sorted cs l own.1 s) not_it

    same : (o : Option Prop) → prop_cmp c.0 q ≡ Equal → IsChange (c.0, o) → IsChange (q, o)
    same None e own = tt
    same (Some p) e own = prop_total.congr p c.0 q own ∙ e

    by : (a : Ordering) → prop_cmp q c.0 ≡ a → any (with_changes cs l) ≡ said (lookup (is_at (prop_cmp q)) cs) (any l) → any (with_changes (c ∷ cs) l) ≡ said (lookup (is_at (prop_cmp q)) (c ∷ cs)) (any l)
    by Less e rest = let turned = less_turned q c.0 e in rw e (other (ap (λ a. choose a false true false) turned) ∙ rest)
    by Equal e rest =
        let turned = equal_turned q c.0 e in
        rw e (ap any (changed_same c.0 q c.1 (with_changes cs l) turned) ∙ any_own q c.1 (with_changes cs l) (same c.1 turned own.0) (whole_sorted cs l own.1 s))
    by Greater e rest = let turned = greater_turned q c.0 e in rw e (other (ap (λ a. choose a false true false) turned) ∙ rest)

-- ---- the changes laid over the list in one go

-- each change is below those after it
abbrev AreOrdered : List Change → Type 0
AreOrdered cs = IsStrictlySortedBy prop_cmp (map (λ (c : Change). c.0) cs)

laid_behind : (y : Prop) (cs : List Change) (l : List Prop) → AreChanges cs → IsBelow y (map (λ (c : Change). c.0) cs) → with_changes cs (y ∷ l) ≡ y ∷ with_changes cs l
laid_behind y [] l own h = refl
laid_behind y (c ∷ cs) l own h = ap (changed c) (laid_behind y cs l own.1 h.1) ∙ changed_behind y c.0 c.1 (with_changes cs l) own.0 h.0

below_laid : (q : Prop) (cs : List Change) (l : List Prop) → AreChanges cs → IsStrictlySorted prop_cmp l → IsBelow q (map (λ (c : Change). c.0) cs) → IsBelow q l → IsBelow q (with_changes cs l)
below_laid q [] l own s h b = b
below_laid q (c ∷ cs) l own s h b = below_changed q c.0 c.1 (with_changes cs l) own.0 (whole_sorted cs l own.1 s) h.0 (below_laid q cs l own.1 s h.1 b)

-- a first change that is below the whole list
first_laid : (c : Change) (cs : List Change) (l : List Prop) → AreChanges (c ∷ cs) → AreOrdered (c ∷ cs) → IsStrictlySorted prop_cmp l → IsBelow c.0 l → with_changes (c ∷ cs) l ≡ option_to_list c.1 ++ with_changes cs l
unfolding IsStrictlySortedBy
first_laid c cs l own order s h = changed_before c.0 c.1 (with_changes cs l) own.0 (below_laid c.0 cs l own.1 s order.0 h)

pub when_less : (cs : List Change) (p : Prop) (l : List Prop) → AreChanges cs → AreOrdered cs → IsStrictlySorted prop_cmp (p ∷ l) → first_order cs p ≡ Less → with_changes cs (p ∷ l) ≡ first_put cs ++ with_changes (drop 1 cs) (p ∷ l)
when_less [] p l own order s e = absurd cc
when_less (c ∷ cs) p l own order s e = first_laid c cs (p ∷ l) own order s (e, below_more c.0 p l e (first_below p l s))

pub when_equal : (cs : List Change) (p : Prop) (l : List Prop) → AreChanges cs → AreOrdered cs → first_order cs p ≡ Equal → with_changes cs (p ∷ l) ≡ with_changes cs l
unfolding IsStrictlySortedBy
when_equal [] p l own order e = absurd cc
when_equal (c ∷ cs) p l own order e = ap (changed c) (laid_behind p cs l own.1 (below_same c.0 p (map (λ (c : Change). c.0) cs) e order.0)) ∙ changed_first p c.0 c.1 (with_changes cs l) (equal_turned c.0 p e)

pub when_greater : (cs : List Change) (p : Prop) (l : List Prop) → AreChanges cs → AreOrdered cs → first_order cs p ≡ Greater → with_changes cs (p ∷ l) ≡ p ∷ with_changes cs l
unfolding IsStrictlySortedBy
when_greater [] p l own order e = refl
when_greater (c ∷ cs) p l own order e = let less = greater_turned c.0 p e in laid_behind p (c ∷ cs) l own (less, below_more p c.0 (map (λ (c : Change). c.0) cs) less order.0)

pub at_end : (cs : List Change) → AreChanges cs → AreOrdered cs → with_changes cs [] ≡ first_put cs ++ with_changes (drop 1 cs) []
at_end [] own order = refl
at_end (c ∷ cs) own order = first_laid c cs [] own order (λ i j d lt within. absurd (omega (arith, within))) tt

-- so far m was put down, and with what is left it makes v
pub step_less : (m v : List Prop) (cs : List Change) (n : Option Prop) (p : Prop) (l : List Prop) → m ++ with_changes cs (option_to_list n ++ l) ≡ v → n ≡ Some p → AreChanges cs → AreOrdered cs → IsStrictlySorted prop_cmp (option_to_list n ++ l) → first_order cs p ≡ Less → m ++ (first_put cs ++ with_changes (drop 1 cs) (p ∷ l)) ≡ v
step_less m v cs n p l whole is own order s e = ap (λ x. m ++ x) (sym (when_less cs p l own order (subst (λ n. IsStrictlySorted prop_cmp (option_to_list n ++ l)) is s) e)) ∙ (ap (λ n. m ++ with_changes cs (option_to_list n ++ l)) (sym is) ∙ whole)

pub step_equal : (m v : List Prop) (cs : List Change) (n : Option Prop) (p : Prop) (l : List Prop) → m ++ with_changes cs (option_to_list n ++ l) ≡ v → n ≡ Some p → AreChanges cs → AreOrdered cs → first_order cs p ≡ Equal → m ++ with_changes cs l ≡ v
step_equal m v cs n p l whole is own order e = ap (λ x. m ++ x) (sym (when_equal cs p l own order e)) ∙ (ap (λ n. m ++ with_changes cs (option_to_list n ++ l)) (sym is) ∙ whole)

pub step_greater : (m v : List Prop) (cs : List Change) (n : Option Prop) (p : Prop) (l : List Prop) → m ++ with_changes cs (option_to_list n ++ l) ≡ v → n ≡ Some p → AreChanges cs → AreOrdered cs → first_order cs p ≡ Greater → m ++ p ∷ with_changes cs l ≡ v
step_greater m v cs n p l whole is own order e = ap (λ x. m ++ x) (sym (when_greater cs p l own order e)) ∙ (ap (λ n. m ++ with_changes cs (option_to_list n ++ l)) (sym is) ∙ whole)

pub step_end : (m v : List Prop) (cs : List Change) → m ++ with_changes cs [] ≡ v → AreChanges cs → AreOrdered cs → m ++ (first_put cs ++ with_changes (drop 1 cs) []) ≡ v
step_end m v cs whole own order = ap (λ x. m ++ x) (sym (at_end cs own order)) ∙ whole

pub after_put : (m f k v : List Prop) (cs ds : List Change) (l : List Prop) → k ≡ m ++ f → ds ≡ cs → m ++ (f ++ with_changes cs l) ≡ v → k ++ with_changes ds l ≡ v
after_put m f k v cs ds l put same whole = ap (λ x. x ++ with_changes ds l) put ∙ (ap (λ d. (m ++ f) ++ with_changes d l) same ∙ (append_assoc m f (with_changes cs l) ∙ whole))

pub named_sorted : (n : Option Prop) (p : Prop) (l : List Prop) → n ≡ Some p → IsStrictlySorted prop_cmp (option_to_list n ++ l) → IsStrictlySorted prop_cmp (p ∷ l)
named_sorted n p l is s = subst (λ n. IsStrictlySorted prop_cmp (option_to_list n ++ l)) is s

-- what is left of a sorted list behind its first
pub left_sorted : (n : Option Prop) (p : Prop) (l m : List Prop) → n ≡ Some p → l ≡ m → IsStrictlySorted prop_cmp (option_to_list n ++ l) → IsStrictlySorted prop_cmp m
left_sorted n p l m is same s = subst (IsStrictlySorted prop_cmp) same (tail_sorted prop_total p l (named_sorted n p l is s))

none_in : (l : List Prop) → length l ≡ 0 → l ≡ []
none_in [] e = refl
none_in (p ∷ l) e = absurd cc

-- an iterator's count stays that of its items
pub counted_on : (r : Option Prop) (l m : List Prop) (a b : ℕ) → l ≡ option_to_list r ++ m → b + length (option_to_list r) ≡ a → a ≡ length l → b ≡ length m
counted_on None l m a b e len count = let same : length l ≡ length m = ap length e in omega (arith, len, count, same)
counted_on (Some p) l m a b e len count = let same : length l ≡ suc (length m) = ap length e in omega (arith, len, count, same)

-- an iterator that gives none has none left
pub spent : (r : Option Prop) (a b : ℕ) (m : List Prop) (R : Prop → Type 0) → MatchOption r ((a ≡ 0) × (b ≡ 0)) R → b ≡ length m → r ≡ None → m ≡ []
spent None a b m R h count e = none_in m (sym count ∙ h.1)
spent (Some p) a b m R h count e = absurd cc

pub at_last : (m v : List Prop) (cs : List Change) (n : Option Prop) (l : List Prop) → m ++ with_changes cs (option_to_list n ++ l) ≡ v → n ≡ None → l ≡ [] → m ++ with_changes cs [] ≡ v
at_last m v cs n l whole is ended = sym (ap (λ n. m ++ with_changes cs (option_to_list n ++ l)) is ∙ ap (λ l. m ++ with_changes cs l) ended) ∙ whole

pub rest_changes : (cs : List Change) → AreChanges cs → AreChanges (drop 1 cs)
rest_changes [] own = tt
rest_changes (c ∷ cs) own = own.1

-- ---- the calls

same_pair : (p : Prop) (key : Key) (kind : ℕ) → key ≡ p.key → kind ≡ kind_of p.value → prop_cmp p (with_pair key kind) ≡ Equal
same_pair p key kind keyed kinded = (props_exactly p (with_pair key kind)).1 (sym keyed, sym kinded)

pub set_more : (cs ds : List Change) (l : List Prop) (p : Prop) (key : Key) (kind : ℕ) → AreChanges cs → IsStrictlySorted prop_cmp l → key ≡ p.key → kind ≡ kind_of p.value → ds ≡ insert_entry prop_cmp cs (with_pair key kind) (Some p)
    → AreChanges ds × (with_prop p (with_changes cs l) ≡ Ok (with_changes ds l))
set_more cs ds l p key kind own s keyed kinded is =
    let new = same_pair p key kind keyed kinded in
    let one = ap (λ k. with_element prop_cmp (without_pair k (kind_of p.value) (with_changes cs l)) p) (sym keyed) ∙ ap (λ k. with_element prop_cmp (without_pair key k (with_changes cs l)) p) (sym kinded) in (
      subst AreChanges (sym is) (insert_changes cs (with_pair key kind) (Some p) own new),
      ap Ok (one ∙ (one_more cs l (with_pair key kind) (Some p) own new s ∙ ap (λ c. with_changes c l) (sym is))),
    )

pub taken_more : (cs ds : List Change) (l : List Prop) (key given : Key) (kind : ℕ) → AreChanges cs → IsStrictlySorted prop_cmp l → given ≡ key → ds ≡ insert_entry prop_cmp cs (with_pair given kind) None
    → AreChanges ds × (list_any (has_pair key kind) (with_changes cs l) ≡ true → without_prop key kind (with_changes cs l) ≡ Ok (with_changes ds l))
taken_more cs ds l key given kind own s keyed is = (
  subst AreChanges (sym is) (insert_changes cs (with_pair given kind) None own tt),
  λ there. rw there (ap Ok (ap (λ k. without_pair k kind (with_changes cs l)) (sym keyed) ∙ (one_more cs l (with_pair given kind) None own tt s ∙ ap (λ c. with_changes c l) (sym is)))),
)
