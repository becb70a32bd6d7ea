-- The places of what files stand for, in the order of adding.
use Rattle.std.proofs.Common.{◌≡◌, ℕ, zero, suc, ◌+◌, ◌<◌, ◌≤◌, List, [], ◌∷◌, ◌++◌, length, get_or, take, map, refl, sym, ap, subst, ◌∙◌, append_assoc, add-one, arith}
use Rattle.std.specs.Prelude.{All, Some, flat_map, slice_get}
use Rattle.std.proofs.lemmas.Grind.{flat_map-append}
use Rattle.std.proofs.lemmas.List.{append-nil, get_or-map, length-map, length_push, map-append, take_more}
use Rattle.std.proofs.lemmas.List.Elements.{All-append, All-cons, All-nil}
use Rattle.std.proofs.lemmas.Option.{get_or_from_slice_get, slice_get-get_or}
use Rattle.std.proofs.Math.Seq.{get_or-append_seam}
use Rattle.cfb_list.specs.Contents.{file_children}
use Rattle.cfb_list.specs.Listed.{Child, nothing}
use Rattle.cfb_list.specs.Places.{IsThere, child_at, children_from, places_of}
use Rattle.cfb_list.specs.declared.content.File.{File}
use Rattle.cfb_list.specs.declared.content.Place.{Place}

abbrev place : (file number : ℕ) → Place
place file number = record { file = file; number = number }

one_more_place : (file from count next : ℕ) → from + count ≡ next → places_of file from (suc count) ≡ places_of file from count ++ place file next ∷ []
one_more_place file from zero next e = ap (λ (n : ℕ). place file n ∷ []) (omega (arith, e))
one_more_place file from (suc count) next e = ap (λ (ps : List Place). place file from ∷ ps) (one_more_place file (from + 1) count next (omega (arith, e)))

-- one number more
pub next_place : (old now more : List Place) (file number next : ℕ) → now ≡ old ++ places_of file 0 number → more ≡ now ++ record { file = file; number = next } ∷ [] → next ≡ number → more ≡ old ++ places_of file 0 (number + 1)
next_place old now more file number next is pushed e =
    pushed
    ∙ ap (λ (ps : List Place). ps ++ place file next ∷ []) is
    ∙ append_assoc old (places_of file 0 number) (place file next ∷ [])
    ∙ ap (λ (ps : List Place). old ++ ps) (sym (ap (places_of file 0) (add-one number) ∙ one_more_place file 0 number next (omega (arith, e))))

has_file : (lists : List (List Child)) (k n : ℕ) → n < length (get_or lists k []) → k < length lists
has_file [] k n lt = absurd (omega (arith, lt))
has_file (cs ∷ lists) zero n lt = omega arith
has_file (cs ∷ lists) (suc k) n lt = omega (arith, has_file lists k n lt)

module _ {B : Type 0} (of : B → List ℕ) (files : List (File B)) where
  -- the places of a file from one of its numbers on stand for the rest of what it does
  rest_found : (k : ℕ) (front rest : List Child) → children_from of files k ≡ front ++ rest → map (child_at of files) (places_of k (length front) (length rest)) ≡ rest
  rest_found k front [] e = refl
  rest_found k front (x ∷ rest) e =
      let first : get_or (children_from of files k) (length front) nothing ≡ x = ap (λ (cs : List Child). get_or cs (length front) nothing) e ∙ get_or-append_seam front x rest nothing in
      let others = rest_found k (front ++ x ∷ []) rest (e ∙ sym (append_assoc front (x ∷ []) rest)) in
      (λ i. first i ∷ map (child_at of files) (places_of k (sym (length_push front x) i) (length rest)))
      ∙ ap (λ (cs : List Child). x ∷ cs) others

  rest_there : (k from count : ℕ) → from + count ≤ length (children_from of files k) → All (IsThere of files) (places_of k from count)
  rest_there k from zero few = All-nil (IsThere of files)
  rest_there k from (suc count) few = All-cons (IsThere of files) (record { file = k; number = from }) (places_of k (from + 1) count) (omega arith) (rest_there k (from + 1) count (omega arith))

  here : (k : ℕ) (file : File B) → k < length files → file ≡ get_or files k file → children_from of files k ≡ file_children of file
  here k file lt at = get_or-map (file_children of) files k file [] lt ∙ ap (file_children of) (sym at)

  -- what stands at a place
  pub found_at : (places : List Place) (k : ℕ) (p : Place) (file : File B) (x : Child) → All (IsThere of files) places → k < length (map (child_at of files) places) → p ≡ get_or places k p → file ≡ get_or files p.file file → slice_get (file_children of file) p.number ≡ Some x → slice_get (map (child_at of files) places) k ≡ Some x
  found_at places k p file x all lt is at found =
      let lt' : k < length places = omega (arith, lt, length-map places (child_at of files)) in
      let there : IsThere of files p = subst (IsThere of files) (sym is) (all k p lt') in
      let inside : p.file < length files = omega (arith, has_file (map (file_children of) files) p.file p.number there, length-map files (file_children of)) in
      let child : child_at of files p ≡ x = ap (λ (cs : List Child). get_or cs p.number nothing) (here p.file file inside at) ∙ get_or_from_slice_get (file_children of file) p.number x nothing found in
      slice_get-get_or (map (child_at of files) places) k x lt
      ∙ ap Some (get_or-map (child_at of files) places k p x lt' ∙ ap (child_at of files) (sym is) ∙ child)

  -- the places of one file more, with its place among the files and how many there are of them
  module _ (k : ℕ) (file : File B) (old new : List Place) (at count : ℕ) (lt : k < length files) (is : file ≡ get_or files k file) (at-is : at ≡ k) (count-is : count ≡ length (file_children of file)) (more : new ≡ old ++ places_of at 0 count) where
    pushed : new ≡ old ++ places_of k 0 (length (file_children of file))
    pushed = more ∙ (λ i. old ++ places_of (at-is i) 0 (count-is i))

    pub next_found : map (child_at of files) old ≡ flat_map (file_children of) (take k files) → map (child_at of files) new ≡ flat_map (file_children of) (take (k + 1) files)
    next_found before =
        ap (map (child_at of files)) pushed
        ∙ map-append (child_at of files) old (places_of k 0 (length (file_children of file)))
        ∙ (λ i. before i ++ rest_found k [] (file_children of file) (here k file lt is) i)
        ∙ ap (λ (cs : List Child). flat_map (file_children of) (take k files) ++ cs) (sym (append-nil (file_children of file)))
        ∙ sym (flat_map-append (file_children of) (take k files) (file ∷ []))
        ∙ ap (flat_map (file_children of)) (ap (λ (f : File B). take k files ++ f ∷ []) is ∙ sym (take_more files k file lt))

    pub next_there : All (IsThere of files) old → All (IsThere of files) new
    next_there before = subst (All (IsThere of files)) (sym pushed) (All-append (IsThere of files) old (places_of k 0 (length (file_children of file))) before (rest_there k 0 (length (file_children of file)) (omega (arith, ap length (here k file lt is)))))
