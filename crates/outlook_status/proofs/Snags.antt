-- The lines of snags, as the definitions have them and as they are appended.
use Rattle.std.proofs.Common.{◌≡◌, ℕ, List, [], ◌∷◌, ◌++◌, refl, ap}
use Rattle.std.specs.Prelude.{codes, decimal}
use Rattle.std.specs.List.{flat_map}
use Rattle.json_model.specs.Faults.{JsonFault, json_fault_text, shape_name, path_text, steps_text}
use Rattle.edit_model.specs.EditTexts.{edit_text, why_name}
use Rattle.text_model.specs.TreeTexts.{line, counted}
use Rattle.text8_model.specs.Unmapped.{Unmapped, unmapped_text, why_text}
use Rattle.edit_model.specs.Edits.{EditFault}

behind : (a b c : List ℕ) → (a ++ b) ++ c ≡ a ++ (b ++ c)
behind [] b c = refl
behind (x ∷ a) b c = ap (λ (l : List ℕ). x ∷ l) (behind a b c)

-- a text in pieces: its beginning, and words each with a number behind it
regroup : (a w p n e m t k g j z : List ℕ) → (a ++ w) ++ ((p ++ n) ++ ((e ++ m) ++ ((t ++ k) ++ ((g ++ j) ++ z)))) ≡ (a ++ (w ++ (p ++ (n ++ (e ++ (m ++ (t ++ (k ++ (g ++ j))))))))) ++ z
regroup a w p n e m t k g j z =
    rw (behind a w ((p ++ n) ++ ((e ++ m) ++ ((t ++ k) ++ ((g ++ j) ++ z)))), behind p n ((e ++ m) ++ ((t ++ k) ++ ((g ++ j) ++ z))), behind e m ((t ++ k) ++ ((g ++ j) ++ z)), behind t k ((g ++ j) ++ z), behind g j z, behind a (w ++ (p ++ (n ++ (e ++ (m ++ (t ++ (k ++ (g ++ j)))))))) z, behind w (p ++ (n ++ (e ++ (m ++ (t ++ (k ++ (g ++ j))))))) z, behind p (n ++ (e ++ (m ++ (t ++ (k ++ (g ++ j)))))) z, behind n (e ++ (m ++ (t ++ (k ++ (g ++ j))))) z, behind e (m ++ (t ++ (k ++ (g ++ j)))) z, behind m (t ++ (k ++ (g ++ j))) z, behind t (k ++ (g ++ j)) z, behind k (g ++ j) z, behind g j z) refl

-- the line of a text that isn't mapped, in its five pieces
pub unmapped_is : (x : Unmapped) → (codes "unmapped " ++ why_text x.why) ++ (counted (codes " property") x.property ++ (counted (codes " element") x.element ++ (counted (codes " at") x.at ++ line 0 (counted (codes " page") x.page)))) ≡ line 0 (unmapped_text x)
unmapped_is x = regroup (codes "unmapped ") (why_text x.why) (codes " property ") (decimal x.property) (codes " element ") (decimal x.element) (codes " at ") (decimal x.at) (codes " page ") (decimal x.page) (10 ∷ [])

-- that of an edit that can't be done, in its two
pub undone_is : (g : EditFault) → counted (codes "edit") g.0 ++ (codes " " ++ (why_name g.1 ++ 10 ∷ [])) ≡ line 0 (edit_text g)
undone_is g = rw (behind (codes "edit ") (decimal g.0) (codes " " ++ (why_name g.1 ++ 10 ∷ [])), behind (codes "edit ") (decimal g.0 ++ (codes " " ++ why_name g.1)) (10 ∷ []), behind (decimal g.0) (codes " " ++ why_name g.1) (10 ∷ []), behind (codes " ") (why_name g.1) (10 ∷ [])) refl

-- that of a JSON text that means no message, in its three
pub no_tree_is : (g : JsonFault) → (codes "json " ++ (shape_name g.why ++ codes " at ")) ++ (path_text g.path ++ 10 ∷ []) ≡ line 0 (json_fault_text g)
no_tree_is g = rw (behind (codes "json ") (shape_name g.why ++ codes " at ") (path_text g.path ++ 10 ∷ []), behind (shape_name g.why) (codes " at ") (path_text g.path ++ 10 ∷ []), behind (codes "json ") (shape_name g.why ++ (codes " at " ++ path_text g.path)) (10 ∷ []), behind (shape_name g.why) (codes " at " ++ path_text g.path) (10 ∷ []), behind (codes " at ") (path_text g.path) (10 ∷ [])) refl

-- the steps of a path, one after another
pub steps_are : (steps : List ℕ) → flat_map (λ n. codes "/" ++ decimal n) steps ≡ steps_text steps
steps_are [] = refl
steps_are (n ∷ more) = rw (behind (codes "/") (decimal n) (flat_map (λ n. codes "/" ++ decimal n) more)) (ap (λ (l : List ℕ). codes "/" ++ (decimal n ++ l)) (steps_are more))

pub path_is : (n : ℕ) (more : List ℕ) → flat_map (λ n. codes "/" ++ decimal n) (n ∷ more) ≡ path_text (n ∷ more)
path_is n more = steps_are (n ∷ more)
