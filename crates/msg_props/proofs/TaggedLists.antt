-- Lists of properties with their tags.
use Rattle.std.proofs.Common.{◌≡◌, ℕ, zero, suc, ◌+◌, ◌-◌, ◌<◌, List, [], ◌∷◌, ◌++◌, Some, length, map, take, drop, refl, sym, ap, ◌∙◌, append_assoc, arith}
use Rattle.std.specs.Prelude.{slice_get}
use Rattle.std.specs.List.{flat_map, zip}
use Rattle.std.proofs.lemmas.List.{append-nil, map-append}
use Rattle.std.proofs.lemmas.List.Concat.{flat_map-append}
use Rattle.std.proofs.lemmas.Option.{slice_get_within, get_or_from_slice_get}
use Rattle.carrier_model.specs.Keys.{Name, Key, id, named}
use Rattle.carrier_model.specs.Values.{Prop}
use Rattle.carrier_model.proofs.Messages.{taken_at}
use Rattle.msg_model.specs.ReadBack.{NamesAmong}
use Rattle.msg_props.specs.Tagged.{IsAmong, tagged_range}

-- one element more
pub flat_map_more : {X Y : Type 0} (f : X → List Y) (xs : List X) (k : ℕ) (x : X) → slice_get xs k ≡ Some x → flat_map f (take (k + 1) xs) ≡ flat_map f (take k xs) ++ f x
flat_map_more f xs k x at = ap (flat_map f) (taken_at xs k x at) ∙ flat_map-append f (take k xs) (x ∷ []) ∙ ap (λ (z : List _). flat_map f (take k xs) ++ z) (append-nil (f x))

pub loop_more : {X Y : Type 0} (f : X → List Y) (xs : List X) (k : ℕ) (x : X) (start now next y : List Y) → slice_get xs k ≡ Some x → now ≡ start ++ flat_map f (take k xs) → next ≡ now ++ y → y ≡ f x → next ≡ start ++ flat_map f (take (k + 1) xs)
loop_more f xs k x start now next y at is more e =
    more ∙ (λ i. is i ++ e i) ∙ append_assoc start (flat_map f (take k xs)) (f x) ∙ ap (λ (z : List _). start ++ z) (sym (flat_map_more f xs k x at))

pub map_more : {X Y : Type 0} (f : X → Y) (xs : List X) (k : ℕ) (x : X) (now next : List Y) (y : Y) → slice_get xs k ≡ Some x → now ≡ map f (take k xs) → next ≡ now ++ y ∷ [] → y ≡ f x → next ≡ map f (take (k + 1) xs)
map_more f xs k x now next y at is more e =
    more ∙ (λ i. is i ++ e i ∷ []) ∙ sym (ap (map f) (taken_at xs k x at) ∙ map-append f (take k xs) (x ∷ []))

pub among : (names : List Name) (props : List Prop) (k : ℕ) (p : Prop) → NamesAmong names props → slice_get props k ≡ Some p → IsAmong names p.key
among names props k p h at = by p.key refl
  where
    by : (key : Key) → p.key ≡ key → IsAmong names key
    by (id n) e = tt
    by (named name) e = h p name (k, slice_get_within props k p at, get_or_from_slice_get props k p p at) e

-- ---- elements side by side

pub zip_at : {X Y : Type 0} (xs : List X) (ys : List Y) (k : ℕ) (x : X) (y : Y) → slice_get xs k ≡ Some x → slice_get ys k ≡ Some y → slice_get (zip xs ys) k ≡ Some (x, y)
zip_at [] ys k x y p q = absurd cc
zip_at (a ∷ xs) [] k x y p q = absurd cc
zip_at (a ∷ xs) (b ∷ ys) zero x y p q = let e : a ≡ x = cc in let f : b ≡ y = cc in λ i. Some (e i, f i)
zip_at (a ∷ xs) (b ∷ ys) (suc k) x y p q = zip_at xs ys k x y p q

pub zip_length : {X Y : Type 0} (xs : List X) (ys : List Y) → length xs ≡ length ys → length (zip xs ys) ≡ length ys
zip_length [] [] e = refl
zip_length [] (y ∷ ys) e = absurd (omega (arith, e))
zip_length (x ∷ xs) [] e = absurd (omega (arith, e))
zip_length (x ∷ xs) (y ∷ ys) e = ap suc (zip_length xs ys (omega (arith, e)))

slice_get-drop : {A : Type 0} (n : ℕ) (xs : List A) (k m : ℕ) → m ≡ n + k → slice_get (drop n xs) k ≡ slice_get xs m
slice_get-drop zero xs k m e = let h : k ≡ m = omega arith in ap (slice_get xs) h
slice_get-drop (suc n) [] k m e = refl
slice_get-drop (suc n) (x ∷ xs) k zero e = absurd (omega arith)
slice_get-drop (suc n) (x ∷ xs) k (suc m) e = slice_get-drop n xs k m (omega arith)

slice_get-take : {A : Type 0} (n : ℕ) (xs : List A) (k : ℕ) → k < n → slice_get (take n xs) k ≡ slice_get xs k
slice_get-take zero xs k lt = absurd (omega arith)
slice_get-take (suc n) [] k lt = refl
slice_get-take (suc n) (x ∷ xs) zero lt = refl
slice_get-take (suc n) (x ∷ xs) (suc k) lt = slice_get-take n xs k (omega arith)

pub range_at : (from to : ℕ) (tags : List ℕ) (props : List Prop) (k t : ℕ) (p : Prop) → k < to - from → slice_get tags (from + k) ≡ Some t → slice_get props (from + k) ≡ Some p → slice_get (tagged_range from to tags props) k ≡ Some (t, p)
range_at from to tags props k t p lt a b =
    slice_get-take (to - from) (drop from (zip tags props)) k lt ∙ slice_get-drop from (zip tags props) k (from + k) refl ∙ zip_at tags props (from + k) t p a b

-- where each has the tag that a function gives
pub zip_mapped : (f : Prop → ℕ) (ps : List Prop) → zip (map f ps) ps ≡ map (λ (p : Prop). (f p, p)) ps
zip_mapped f [] = refl
zip_mapped f (p ∷ ps) = ap (λ (l : List (ℕ × Prop)). (f p, p) ∷ l) (zip_mapped f ps)

flat_map_mapped : {X Y Z : Type 0} (f : Y → List Z) (g : X → Y) (xs : List X) → flat_map f (map g xs) ≡ flat_map (λ (x : X). f (g x)) xs
flat_map_mapped f g [] = refl
flat_map_mapped f g (x ∷ xs) = ap (λ (l : List _). f (g x) ++ l) (flat_map_mapped f g xs)

drop_mapped : {X Y : Type 0} (g : X → Y) (n : ℕ) (xs : List X) → drop n (map g xs) ≡ map g (drop n xs)
drop_mapped g zero xs = refl
drop_mapped g (suc n) [] = refl
drop_mapped g (suc n) (x ∷ xs) = drop_mapped g n xs

take_mapped : {X Y : Type 0} (g : X → Y) (n : ℕ) (xs : List X) → take n (map g xs) ≡ map g (take n xs)
take_mapped g zero xs = refl
take_mapped g (suc n) [] = refl
take_mapped g (suc n) (x ∷ xs) = ap (λ (l : List _). g x ∷ l) (take_mapped g n xs)

pub zipped_flat : {Z : Type 0} (f : ℕ × Prop → List Z) (t : Prop → ℕ) (tags : List ℕ) (ps : List Prop) → tags ≡ map t ps → flat_map f (zip tags ps) ≡ flat_map (λ (p : Prop). f (t p, p)) ps
zipped_flat f t tags ps e = ap (λ (l : List ℕ). flat_map f (zip l ps)) e ∙ ap (flat_map f) (zip_mapped t ps) ∙ flat_map_mapped f (λ (p : Prop). (t p, p)) ps

pub range_flat : {Z : Type 0} (f : ℕ × Prop → List Z) (t : Prop → ℕ) (tags : List ℕ) (ps : List Prop) (from to : ℕ) → tags ≡ map t ps → flat_map f (tagged_range from to tags ps) ≡ flat_map (λ (p : Prop). f (t p, p)) (take (to - from) (drop from ps))
range_flat f t tags ps from to e =
    let g : Prop → ℕ × Prop = λ (p : Prop). (t p, p) in
    ap (λ (l : List ℕ). flat_map f (tagged_range from to l ps)) e
    ∙ ap (λ (l : List (ℕ × Prop)). flat_map f (take (to - from) (drop from l))) (zip_mapped t ps)
    ∙ ap (λ (l : List (ℕ × Prop)). flat_map f (take (to - from) l)) (drop_mapped g from ps)
    ∙ ap (flat_map f) (take_mapped g (to - from) (drop from ps))
    ∙ flat_map_mapped f g (take (to - from) (drop from ps))
