-- The streams of a row.
use Rattle.std.proofs.Common.{◌≡◌, Bor, Global, Vec, ℕ, zero, suc, ◌+◌, ◌<◌, ◌≤◌, List, [], ◌∷◌, ◌++◌, length, get_or, map, refl, sym, ap, ◌∙◌, arith}
use Rattle.std.specs.Prelude.{replicate}
use Rattle.std.specs.List.{AllByRecursion}
use Rattle.std.proofs.lemmas.List.{length-append, length-map, length-set}
use Rattle.carrier_model.specs.FileTrees.{streams_from}
use Rattle.carrier_model.specs.KeyTexts.{hex_digits, upper}
use Rattle.cfb_list.specs.Contents.{file_children, row_streams, stream_of}
use Rattle.cfb_list.specs.declared.content.File.{File}
use Rattle.cfb_list.specs.declared.content.File.TheVariants.{Row}
use Rattle.cfb_list.specs.Grown.{grown}
use Rattle.cfb_list.specs.Listed.{Child, IsChild, children_at, name_of, nothing, stream, with_child, with_children}
use Rattle.cfb_list.proofs.Grown.{child_again, none_added}

pub row_long : (front : List ℕ) (nulls n : ℕ) (xs : List (List ℕ)) → length (map stream_of (row_streams front nulls n xs)) ≡ length xs
row_long front nulls n [] = refl
row_long front nulls n (x ∷ xs) = ap suc (row_long front nulls (n + 1) xs)

pub row_name : (front : List ℕ) (nulls n : ℕ) (xs : List (List ℕ)) (k : ℕ) → k < length xs → name_of (get_or (map stream_of (row_streams front nulls n xs)) k nothing) ≡ front ++ hex_digits upper 8 (n + k)
row_name front nulls n [] k lt = absurd (omega (arith, lt))
row_name front nulls n (x ∷ xs) zero lt = let e : n ≡ n + 0 = omega arith in ap (λ (m : ℕ). front ++ hex_digits upper 8 m) e
row_name front nulls n (x ∷ xs) (suc k) lt = let e : n + 1 + k ≡ n + suc k = omega arith in row_name front nulls (n + 1) xs k (omega (arith, lt)) ∙ ap (λ (m : ℕ). front ++ hex_digits upper 8 m) e

module _ {B : Type 0} (of : B → List ℕ) where
  row_at : (front : List ℕ) (nulls n : ℕ) (xs : List B) (k : ℕ) (d : B) → k < length xs → get_or (map stream_of (row_streams front nulls n (map of xs))) k nothing ≡ stream (front ++ hex_digits upper 8 (n + k)) (of (get_or xs k d) ++ replicate nulls 0)
  row_at front nulls n [] k d lt = absurd (omega (arith, lt))
  row_at front nulls n (x ∷ xs) zero d lt = let e : n ≡ n + 0 = omega arith in ap (λ (m : ℕ). stream (front ++ hex_digits upper 8 m) (of x ++ replicate nulls 0)) e
  row_at front nulls n (x ∷ xs) (suc k) d lt = let e : n + 1 + k ≡ n + suc k = omega arith in row_at front nulls (n + 1) xs k d (omega (arith, lt)) ∙ ap (λ (m : ℕ). stream (front ++ hex_digits upper 8 m) (of (get_or xs k d) ++ replicate nulls 0)) e

  -- a file that is a row
  module _ (file : File B) (front : Vec ℕ Global) (list : Bor (List B)) (nulls : ℕ) (is : file ≡ Row nulls front list) where
    children : file_children of file ≡ map stream_of (row_streams front.items nulls 0 (map of list.now))
    children = ap (file_children of) is

    pub row_count : length (file_children of file) ≡ length list.now
    row_count = ap length children ∙ row_long front.items nulls 0 (map of list.now) ∙ length-map list.now of

    pub row_kind : (k : ℕ) (d : B) → k < length list.now → stream (name_of (get_or (file_children of file) k nothing)) (of (get_or list.now k d) ++ replicate nulls 0) ≡ get_or (file_children of file) k nothing
    row_kind k d lt =
        let bytes : List ℕ = of (get_or list.now k d) ++ replicate nulls 0 in
        let whole = ap (λ (cs : List Child). get_or cs k nothing) children ∙ row_at front.items nulls 0 list.now k d lt in
        ap (λ (c : Child). stream (name_of c) bytes) whole ∙ sym whole

    pub row_named : (k : ℕ) → k < length list.now → front.items ++ hex_digits upper 8 k ≡ name_of (get_or (file_children of file) k nothing)
    row_named k lt =
        let same : k ≡ 0 + k = omega arith in
        ap (λ (n : ℕ). front.items ++ hex_digits upper 8 n) same
        ∙ sym (ap (λ (cs : List Child). name_of (get_or cs k nothing)) children ∙ row_name front.items nulls 0 (map of list.now) k (omega (arith, lt, length-map list.now of)))

-- ---- a row that is added

digits_long : (n : ℕ) → length (hex_digits upper 8 n) ≡ 8
digits_long n = refl

pub row_short : (parent count : ℕ) (front : List ℕ) (nulls n : ℕ) (xs : List (List ℕ)) → length front ≤ 23 → AllByRecursion (IsChild parent count) (map stream_of (row_streams front nulls n xs))
row_short parent count front nulls n [] h = tt
row_short parent count front nulls n (x ∷ xs) h = (omega (arith, h, length-append front (hex_digits upper 8 n), digits_long n), row_short parent count front nulls (n + 1) xs h)

pub streams_added : (ss : List (List Child)) (p : ℕ) (streams : List (List ℕ × List ℕ)) → p < length ss → with_children ss p (map stream_of streams) ≡ grown ss p (streams_from streams)
streams_added ss p [] lt = none_added ss p
streams_added ss p (s ∷ others) lt =
    sym (child_again ss p (stream s.0 s.1) (map stream_of others) lt)
    ∙ streams_added (with_child ss p (stream s.0 s.1)) p others (omega (arith, lt, length-set ss p (children_at ss p ++ stream s.0 s.1 ∷ [])))
