-- What stands behind a name, put into place part by part.
use Rattle.std.proofs.Common.{◌≡◌, ℕ, ◌+◌, ◌*◌, List, [], ◌∷◌, ◌++◌, length, take, drop, replicate, refl, ap, ◌∙◌, arith}
use Rattle.std.proofs.lemmas.List.{append-nil, take_at, drop_at}
use Rattle.carrier_model.specs.Bytes.{le16, le32}
use Rattle.carrier_model.specs.Layout.{BLACK}
use Rattle.cfb_writer.specs.Entered.{behind_name}
use Rattle.cfb_writer.specs.declared.directory.Fields.{Fields}

-- bytes with others in place of k of them
abbrev pub put : ℕ → ℕ → List ℕ → List ℕ → List ℕ
put at k bytes part = take at bytes ++ (part ++ drop k (drop at bytes))

-- bytes with a front, a class and a back
abbrev pub filled : List ℕ → List ℕ → List ℕ → List ℕ
filled front class back = put 52 12 (put 16 16 (put 0 16 (replicate 64 0) front) class) back

by_class : (n kind left right child start size : ℕ) (class : List ℕ) → length class ≡ 16
    → filled (le16 n ++ kind ∷ BLACK ∷ (le32 left ++ (le32 right ++ le32 child))) class (le32 start ++ (le32 size ++ le32 0)) ≡ le16 n ++ (kind ∷ BLACK ∷ (le32 left ++ (le32 right ++ (le32 child ++ (class ++ (replicate 20 0 ++ (le32 start ++ (le32 size ++ le32 0))))))))
by_class n kind left right child start size (a ∷ b ∷ c ∷ d ∷ e ∷ f ∷ g ∷ h ∷ i ∷ j ∷ k ∷ l ∷ m ∷ o ∷ p ∷ q ∷ []) long = refl
by_class n kind left right child start size _ long = absurd (omega arith)

pub behind_filled : (count : ℕ) (f : Fields) (front class back : List ℕ) → front ≡ le16 (2 * (count + 1)) ++ f.kind ∷ BLACK ∷ (le32 f.left ++ (le32 f.right ++ le32 f.child)) → class ≡ f.class → back ≡ le32 f.start ++ (le32 f.size ++ le32 0) → length f.class ≡ 16
    → filled front class back ≡ behind_name count f
behind_filled count f front class back a b c long = (λ t. filled (a t) (b t) (c t)) ∙ by_class (2 * (count + 1)) f.kind f.left f.right f.child f.start f.size f.class long

-- zeros with a front and a back in their place
pub both_put : (front back : List ℕ) → length front ≡ 64 → put 64 64 (put 0 64 (replicate 128 0) front) back ≡ front ++ back
both_put front back long =
    let rest = replicate {A = ℕ} 64 0 in
    (λ t. take_at front rest 64 long t ++ (back ++ drop 64 (drop_at front rest 64 long t))) ∙ ap (λ (z : List ℕ). front ++ z) (append-nil back)
