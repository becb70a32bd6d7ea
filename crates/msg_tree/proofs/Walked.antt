-- One turn of a walk that appends the names of its pieces.
use Rattle.std.proofs.Common.{◌≡◌, List, ◌++◌, sym, ap, ◌∙◌, append_assoc}

pub more_appended : {A : Type 0} (old new xs more rest start : List A) → new ≡ old ++ xs → rest ≡ xs ++ more → old ++ rest ≡ start → new ++ more ≡ start
more_appended old new xs more rest start e r h = ap (λ l. l ++ more) e ∙ (append_assoc old xs more ∙ (ap (λ l. old ++ l) (sym r) ∙ h))
