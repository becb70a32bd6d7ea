-- The rows of older attributes, and what they give.
use Rattle.std.proofs.Common.{◌≡◌, ℕ, List, [], ◌∷◌, Option, Some, None, Bool, true, false, refl, sym, ap, ◌∙◌}
use Rattle.std.specs.Prelude.{◌==◌, if◌then◌else◌}
use Rattle.std.specs.Option.{option_map}
use Rattle.carrier_model.specs.Keys.{id}
use Rattle.carrier_model.specs.Values.{Value, Prop}
use Rattle.tnef_model.specs.LegacyAttributes as plain
use Rattle.tnef_attributes.specs.Rules.{rule_among}

-- the property that a value is, by the id and the rule of a row
abbrev pub given_by : Option (ℕ × plain.Rule) → List ℕ → Option Prop
given_by None x = None
given_by (Some r) x = option_map (λ v. record { key = id r.0; value = v }) (plain.value_by r.1 x)

by_test : (b : Bool) (one two : Option (ℕ × plain.Rule)) (x : List ℕ) → (if b then given_by one x else given_by two x) ≡ given_by (if b then one else two) x
by_test true one two x = refl
by_test false one two x = refl

rows_give : (rows : List plain.Row) (n : ℕ) (x : List ℕ) → plain.prop_by rows n x ≡ given_by (rule_among rows n) x
rows_give [] n x = refl
rows_give (row ∷ rows) n x =
    ap (λ (p : Option Prop). if row.0 == n then given_by (Some (row.1, row.2)) x else p) (rows_give rows n x)
    ∙ by_test (row.0 == n) (Some (row.1, row.2)) (rule_among rows n) x

pub row_found : (rows : List plain.Row) (n : ℕ) (x : List ℕ) (r : ℕ × plain.Rule) (v : Value) → Some r ≡ rule_among rows n → Some v ≡ plain.value_by r.1 x
    → Some (record { key = id r.0; value = v }) ≡ plain.prop_by rows n x
row_found rows n x r v e f =
    ap (option_map (λ v. record { key = id r.0; value = v })) f ∙ ap (λ (o : Option (ℕ × plain.Rule)). given_by o x) e ∙ sym (rows_give rows n x)

pub row_lost : (rows : List plain.Row) (n : ℕ) (x : List ℕ) (r : ℕ × plain.Rule) → Some r ≡ rule_among rows n → None ≡ plain.value_by r.1 x → None ≡ plain.prop_by rows n x
row_lost rows n x r e f =
    ap (option_map (λ v. record { key = id r.0; value = v })) f ∙ ap (λ (o : Option (ℕ × plain.Rule)). given_by o x) e ∙ sym (rows_give rows n x)

pub no_row : (rows : List plain.Row) (n : ℕ) (x : List ℕ) → None ≡ rule_among rows n → None ≡ plain.prop_by rows n x
no_row rows n x e = ap (λ (o : Option (ℕ × plain.Rule)). given_by o x) e ∙ sym (rows_give rows n x)
