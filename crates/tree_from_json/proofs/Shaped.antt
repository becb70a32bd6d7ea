-- Values of several numbers.
use Rattle.std.proofs.Common.{◌≡◌, ◌∙◌, ℕ, ◌+◌, ◌*◌, ◌^◌, List, refl, ap, sym, subst}
use Rattle.std.specs.Prelude.{Result, Err}
use Rattle.serde_json.specs.Data.{Data}
use Rattle.carrier_model.specs.Values as plain
use Rattle.json_model.specs.Faults.{mapped}
use Rattle.json_model.specs.Parts.{number_below}
use Rattle.json_model.specs.Properties.{read_value, read_list, numbers_limit}
use Rattle.prop_values.specs.Shapes.{HasShape}
use Rattle.prop_values.specs.declared.shapes.Shape.TheVariants.{Numbers}
use Rattle.tree_from_json.specs.Ends.{Reads}
use Rattle.tree_from_json.specs.declared.read_ends.ReadEnd.{ReadEnd}
use Rattle.tree_from_json.proofs.Reading.{mapped_err}

shaped : (n width : ℕ) (v : Data) → HasShape n (Numbers width) → read_value n v ≡ mapped (plain.numbers n) (read_list (number_below (numbers_limit n)) v)
shaped n width v h = rw (h.0, h.1, h.2, h.3) refl

pub numbers_err : {X : Type 0} (see : X → plain.Value) (n width most : ℕ) (v : Data) (e : ReadEnd) (out : Result X ReadEnd)
    → HasShape n (Numbers width) → most + 1 ≡ 2 ^ (8 * width) → Reads (λ (l : List ℕ). l) (read_list (number_below (most + 1)) v) (Err e) → out ≡ Err e → Reads see (read_value n v) out
numbers_err see n width most v e out h up r is =
    let limit : numbers_limit n ≡ most + 1 = ap (λ w. 2 ^ (8 * w)) h.4 ∙ sym up in
    let inner = mapped_err (λ (l : List ℕ). l) see (plain.numbers n) (read_list (number_below (numbers_limit n)) v) e (subst (λ m. Reads (λ (l : List ℕ). l) (read_list (number_below m) v) (Err e)) (sym limit) r) in
    rw is (subst (λ m. Reads see m (Err e)) (sym (shaped n width v h)) inner)
