-- Names that are equal in the order of siblings.
use Rattle.std.proofs.Common.{◌≡◌, ◌∙◌, refl, sym, Bool, true, false, ℕ, List}
use Rattle.std.specs.declared.cmp.Ordering.{Ordering}
use Rattle.std.specs.declared.cmp.Ordering.TheVariants.{Equal}
use Rattle.std.proofs.lemmas.Slice.Eq.{bytes_eq-Decides}
use Rattle.carrier_model.specs.Files.{folded}
use Rattle.carrier_model.specs.FileTrees.{sibling_cmp}
use Rattle.carrier_model.specs.Lookups.{same_name}
use Rattle.carrier_model.proofs.StoreOrder.{equal_folded, folded_equal}

-- they are the same
pub same_from : (m n : List ℕ) → Equal ≡ sibling_cmp m n → true ≡ same_name m n
same_from m n e = sym ((bytes_eq-Decides (folded m) (folded n)).1 (equal_folded m n (sym e)))

pub other_from : (m n : List ℕ) (o : Ordering) → (o ≡ Equal → ⊥) → o ≡ sibling_cmp m n → false ≡ same_name m n
other_from m n o h e = by (same_name m n) (bytes_eq-Decides (folded m) (folded n))
  where
    by : (b : Bool) → ((b ≡ true → folded m ≡ folded n) × (folded m ≡ folded n → b ≡ true)) → false ≡ b
    by true d = absurd (h (e ∙ folded_equal m n (d.0 refl)))
    by false d = refl
