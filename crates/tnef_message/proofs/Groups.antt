-- The attributes of a message and of its attachments, with one more.
use Rattle.std.proofs.Common.{◌≡◌, ℕ, Bool, true, false, List, [], ◌∷◌, ◌++◌, map, cond, eqb, refl, sym, ap, subst, ◌∙◌, append_assoc}
use Rattle.std.specs.Prelude.{filter, reverse, not, ◌||◌, take_while, if◌then◌else◌, ◌==◌}
use Rattle.std.specs.List.{list_any}
use Rattle.std.proofs.lemmas.List.{append-nil, reverse-append, map-append}
use Rattle.std.proofs.lemmas.List.Elements.{filter-append}
use Rattle.std.proofs.lemmas.List.Folds.{list_any-append}
use Rattle.std.proofs.lemmas.List.Sums.{take_while-cons}
use Rattle.std.proofs.lemmas.Bool.{eqb-true}
use Rattle.tnef_model.specs.TnefMessage.{Read, has_attr, groups}
use Rattle.tnef_model.specs.LegacyAttributes.{RENDERING}
use Rattle.tnef_message.specs.Drafts.{attrs_of, begins}

or_false : (a : Bool) → (a || false) ≡ a
or_false true = refl
or_false false = refl

or_swap : (a b : Bool) → (a || b) ≡ (b || a)
or_swap true true = refl
or_swap true false = refl
or_swap false true = refl
or_swap false false = refl

pub left_false : (a b : Bool) → (a || b) ≡ false → a ≡ false
left_false true b e = absurd cc
left_false false b e = refl

pub right_false : (a b : Bool) → (a || b) ≡ false → b ≡ false
right_false true b e = absurd cc
right_false false b e = e

pub both_false : (a b : Bool) → a ≡ false → b ≡ false → (a || b) ≡ false
both_false a b p q = rw (p, q) refl

pub any_reverse : {A : Type 0} (p : A → Bool) (xs : List A) → list_any p (reverse xs) ≡ list_any p xs
any_reverse p [] = refl
any_reverse p (x ∷ xs) =
    ap (list_any p) (reverse-append (x ∷ []) xs) ∙ list_any-append p (reverse xs) (x ∷ []) ∙ ap (λ (b : Bool). list_any p (reverse xs) || b) (or_false (p x)) ∙ or_swap (list_any p (reverse xs)) (p x) ∙ ap (λ (b : Bool). p x || b) (any_reverse p xs)

-- what passes up to the first that does not
pub until : {A : Type 0} (p : A → Bool) (xs : List A) (f : A) (ys : List A) → list_any (λ x. not (p x)) xs ≡ false → p f ≡ false → take_while p (xs ++ f ∷ ys) ≡ xs
until p [] f ys all stop = take_while-cons p f ys ∙ ap (λ (b : Bool). cond b (f ∷ take_while p ys) []) stop
until {A} p (x ∷ xs) f ys all stop = take_while-cons p x (xs ++ f ∷ ys) ∙ by (p x) all ∙ ap (λ (z : List A). x ∷ z) (until p xs f ys (right_false (not (p x)) (list_any (λ x. not (p x)) xs) all) stop)
  where
    by : (b : Bool) → (not b || list_any (λ x. not (p x)) xs) ≡ false → cond b (x ∷ take_while p (xs ++ f ∷ ys)) [] ≡ x ∷ take_while p (xs ++ f ∷ ys)
    by true e = refl
    by false e = absurd cc

-- what stands behind the first that does not pass changes nothing
pub stops : {A : Type 0} (p : A → Bool) (xs : List A) (f : A) (ys : List A) → p f ≡ false → take_while p (xs ++ f ∷ ys) ≡ take_while p xs
stops p [] f ys stop = take_while-cons p f ys ∙ ap (λ (b : Bool). cond b (f ∷ take_while p ys) []) stop
stops {A} p (x ∷ xs) f ys stop = take_while-cons p x (xs ++ f ∷ ys) ∙ ap (λ (z : List A). cond (p x) (x ∷ z) []) (stops p xs f ys stop) ∙ sym (take_while-cons p x xs)

pub all_pass : {A : Type 0} (p : A → Bool) (xs : List A) → list_any (λ x. not (p x)) xs ≡ false → take_while p xs ≡ xs
all_pass p [] all = refl
all_pass {A} p (x ∷ xs) all = take_while-cons p x xs ∙ by (p x) all ∙ ap (λ (z : List A). x ∷ z) (all_pass p xs (right_false (not (p x)) (list_any (λ x. not (p x)) xs) all))
  where
    by : (b : Bool) → (not b || list_any (λ x. not (p x)) xs) ≡ false → cond b (x ∷ take_while p xs) [] ≡ x ∷ take_while p xs
    by true e = refl
    by false e = absurd cc

any_agree : {A : Type 0} (p q : A → Bool) (xs : List A) → ((x : A) → p x ≡ q x) → list_any p xs ≡ list_any q xs
any_agree p q [] h = refl
any_agree p q (x ∷ xs) h = λ i. h x i || any_agree p q xs h i

not_not : (b : Bool) → not (not b) ≡ b
not_not true = refl
not_not false = refl

any_map : {A B : Type 0} (f : A → B) (p : B → Bool) (xs : List A) → list_any p (map f xs) ≡ list_any (λ x. p (f x)) xs
any_map f p [] = refl
any_map f p (x ∷ xs) = ap (λ (b : Bool). p (f x) || b) (any_map f p xs)

pub any_filter : {A : Type 0} (q p : A → Bool) (xs : List A) → list_any p xs ≡ false → list_any p (filter q xs) ≡ false
any_filter q p [] e = refl
any_filter {A} q p (x ∷ xs) e = by (q x) (any_filter q p xs (right_false (p x) (list_any p xs) e))
  where
    by : (b : Bool) → list_any p (filter q xs) ≡ false → list_any p (cond b (x ∷ filter q xs) (filter q xs)) ≡ false
    by true h = both_false (p x) (list_any p (filter q xs)) (left_false (p x) (list_any p xs) e) h
    by false h = h

pub filter_in : {A : Type 0} (p : A → Bool) (xs : List A) (x : A) → p x ≡ true → filter p (xs ++ x ∷ []) ≡ filter p xs ++ x ∷ []
filter_in {A} p xs x e = filter-append p xs (x ∷ []) ∙ ap (λ (b : Bool). filter p xs ++ cond b (x ∷ []) []) e

pub filter_out : {A : Type 0} (p : A → Bool) (xs : List A) (x : A) → p x ≡ false → filter p (xs ++ x ∷ []) ≡ filter p xs
filter_out {A} p xs x e = filter-append p xs (x ∷ []) ∙ ap (λ (b : Bool). filter p xs ++ cond b (x ∷ []) []) e ∙ append-nil (filter p xs)

-- ---- which ids are there

-- of the attributes that pass a test of the id, those with an id that passes
pub seen_of : (p : ℕ → Bool) (n : ℕ) (reads : List Read) → p n ≡ true → list_any (λ m. m == n) (map (λ r. r.0.id) (filter (λ r. p r.0.id) reads)) ≡ list_any (has_attr n) (attrs_of reads)
seen_of p n [] h = refl
seen_of p n (r ∷ reads) h = by (p r.0.id) refl (seen_of p n reads h)
  where
    other : (b : Bool) → eqb r.0.id n ≡ b → p r.0.id ≡ false → b ≡ false
    other false e f = refl
    other true e f = let same : r.0.id ≡ n = eqb-true r.0.id n e in let there : p n ≡ false = subst (λ (z : ℕ). p z ≡ false) same f in absurd cc

    by : (b : Bool) → p r.0.id ≡ b → list_any (λ m. m == n) (map (λ r. r.0.id) (filter (λ r. p r.0.id) reads)) ≡ list_any (has_attr n) (attrs_of reads)
        → list_any (λ m. m == n) (map (λ (r : Read). r.0.id) (cond b (r ∷ filter (λ r. p r.0.id) reads) (filter (λ r. p r.0.id) reads))) ≡ list_any (has_attr n) (attrs_of (r ∷ reads))
    by true e f = ap (λ (b : Bool). eqb r.0.id n || b) f
    by false e f = f ∙ sym (ap (λ (b : Bool). b || list_any (has_attr n) (attrs_of reads)) (other (eqb r.0.id n) refl e))

-- the attributes since the last that begins an attachment
pub since_last : (before : List Read) (f : Read) (others : List Read) → begins f ≡ true → list_any begins others ≡ false
    → take_while (λ b. not (has_attr RENDERING b)) (reverse (attrs_of (before ++ f ∷ others))) ≡ reverse (attrs_of others)
since_last before f others opens goes_on =
    ap (λ z. take_while (λ b. not (has_attr RENDERING b)) (reverse z)) (map-append (λ (r : Read). r.0) before (f ∷ others))
    ∙ ap (take_while (λ b. not (has_attr RENDERING b))) (reverse-append (attrs_of before) (attrs_of (f ∷ others)) ∙ ap (λ z. z ++ reverse (attrs_of before)) (reverse-append (f.0 ∷ []) (attrs_of others)) ∙ append_assoc (reverse (attrs_of others)) (f.0 ∷ []) (reverse (attrs_of before)))
    ∙ until (λ b. not (has_attr RENDERING b)) (reverse (attrs_of others)) f.0 (reverse (attrs_of before))
    (any_agree (λ b. not (not (has_attr RENDERING b))) (has_attr RENDERING) (reverse (attrs_of others)) (λ b. not_not (has_attr RENDERING b)) ∙ any_reverse (has_attr RENDERING) (attrs_of others) ∙ any_map (λ (r : Read). r.0) (has_attr RENDERING) others ∙ goes_on)
    (ap not opens)

pub any_attrs : (p : _) (reads : List Read) → list_any p (attrs_of reads) ≡ list_any (λ r. p r.0) reads
any_attrs p reads = any_map (λ (r : Read). r.0) p reads

-- ---- groups

no_groups : (reads : List Read) → list_any begins reads ≡ false → groups reads ≡ []
no_groups [] e = refl
no_groups (r ∷ reads) e = by (begins r) (left_false (begins r) (list_any begins reads) e) (no_groups reads (right_false (begins r) (list_any begins reads) e))
  where
    by : (b : Bool) → b ≡ false → groups reads ≡ [] → (if b then (r ∷ take_while (λ o. not (begins o)) reads) ∷ groups reads else groups reads) ≡ []
    by true f h = absurd cc
    by false f h = h

pub last_group : (before : List Read) (f : Read) (others : List Read) → begins f ≡ true → list_any begins others ≡ false → groups (before ++ f ∷ others) ≡ groups before ++ (f ∷ others) ∷ []
last_group [] f others opens goes_on = by (begins f) opens
  where
    by : (b : Bool) → b ≡ true → (if b then (f ∷ take_while (λ o. not (begins o)) others) ∷ groups others else groups others) ≡ (f ∷ others) ∷ []
    by false e = absurd cc
    by true e = λ i. (f ∷ all_pass (λ o. not (begins o)) others (any_agree (λ o. not (not (begins o))) begins others (λ o. not_not (begins o)) ∙ goes_on) i) ∷ no_groups others goes_on i
last_group (r ∷ before) f others opens goes_on = by (begins r) (last_group before f others opens goes_on)
  where
    by : (b : Bool) → groups (before ++ f ∷ others) ≡ groups before ++ (f ∷ others) ∷ []
        → (if b then (r ∷ take_while (λ o. not (begins o)) (before ++ f ∷ others)) ∷ groups (before ++ f ∷ others) else groups (before ++ f ∷ others)) ≡ (if b then (r ∷ take_while (λ o. not (begins o)) before) ∷ groups before else groups before) ++ (f ∷ others) ∷ []
    by true h = λ i. (r ∷ stops (λ o. not (begins o)) before f others (ap not opens) i) ∷ h i
    by false h = h
