-- The kinds that a tag may name.
use Rattle.std.proofs.Common.{◌≡◌, ℕ, ◌-◌, ◌≤◌, Bool, true, false, List, [], ◌∷◌, ◌++◌, None, refl, sym, arith}
use Rattle.std.specs.Prelude.{nat_le, ◌&&◌}
use Rattle.std.proofs.lemmas.Bool.{ne_eqb, leb-true}
use Rattle.carrier_model.specs.Values.{width_among, width_of, number_widths, numbers_widths, guid_widths, is_bytes_kind}
use Rattle.carrier_model.specs.Kinds.{is_kind}
use Rattle.prop_values.specs.Kinds.{kind_number}
use Rattle.prop_values.specs.declared.kinds.Kind.{Kind}
use Rattle.prop_values.specs.declared.kinds.Kind.TheVariants.{Integer16, Integer32, Floating32, Floating64, Currency, FloatingTime, ErrorCode, Boolean, Integer64, String8, String, Time, Guid, Binary, MultipleInteger16, MultipleInteger32, MultipleFloating32, MultipleFloating64, MultipleCurrency, MultipleFloatingTime, MultipleInteger64, MultipleString8, MultipleString, MultipleTime, MultipleGuid, MultipleBinary}

pub is_kind_of : (k : Kind) → is_kind (kind_number k) ≡ true
is_kind_of Integer16 = refl
is_kind_of Integer32 = refl
is_kind_of Floating32 = refl
is_kind_of Floating64 = refl
is_kind_of Currency = refl
is_kind_of FloatingTime = refl
is_kind_of ErrorCode = refl
is_kind_of Boolean = refl
is_kind_of Integer64 = refl
is_kind_of String8 = refl
is_kind_of String = refl
is_kind_of Time = refl
is_kind_of Guid = refl
is_kind_of Binary = refl
is_kind_of MultipleInteger16 = refl
is_kind_of MultipleInteger32 = refl
is_kind_of MultipleFloating32 = refl
is_kind_of MultipleFloating64 = refl
is_kind_of MultipleCurrency = refl
is_kind_of MultipleFloatingTime = refl
is_kind_of MultipleInteger64 = refl
is_kind_of MultipleString8 = refl
is_kind_of MultipleString = refl
is_kind_of MultipleTime = refl
is_kind_of MultipleGuid = refl
is_kind_of MultipleBinary = refl

abbrev Without : ℕ → List (ℕ × ℕ) → Type 0
Without n [] = Unit {0}
Without n (row ∷ rows) = (row.0 ≡ n → ⊥) × Without n rows

none_among : (n : ℕ) (rows : List (ℕ × ℕ)) → Without n rows → width_among rows n ≡ None
none_among n [] h = refl
none_among n (row ∷ rows) h = rw (ne_eqb row.0 n h.0) (none_among n rows h.1)

module _ (n : ℕ) (absent : (k : Kind) → kind_number k ≡ n → ⊥) where
  no_width : width_of n ≡ None
  no_width = none_among n (number_widths ++ numbers_widths ++ guid_widths) (absent Integer16, (absent Integer32, (absent Floating32, (absent Floating64, (absent Currency, (absent FloatingTime, (absent ErrorCode, (absent Boolean, (absent Integer64, (absent Time, (absent MultipleInteger16, (absent MultipleInteger32, (absent MultipleFloating32, (absent MultipleFloating64, (absent MultipleCurrency, (absent MultipleFloatingTime, (absent MultipleInteger64, (absent MultipleTime, (absent Guid, (absent MultipleGuid, tt))))))))))))))))))))

  no_bytes : is_bytes_kind n ≡ false
  no_bytes = rw (ne_eqb n 0x001E (λ e. absent String8 (sym e)), ne_eqb n 0x001F (λ e. absent String (sym e)), ne_eqb n 0x0102 (λ e. absent Binary (sym e))) refl

  no_parts : (nat_le 0x1000 n && is_bytes_kind (n - 0x1000)) ≡ false
  no_parts = by (nat_le 0x1000 n) refl
    where
      by : (b : Bool) → nat_le 0x1000 n ≡ b → (b && is_bytes_kind (n - 0x1000)) ≡ false
      by false e = refl
      by true e =
          let le : 0x1000 ≤ n = leb-true 0x1000 n e in
          rw (ne_eqb (n - 0x1000) 0x001E (λ f. absent MultipleString8 (omega arith)), ne_eqb (n - 0x1000) 0x001F (λ f. absent MultipleString (omega arith)), ne_eqb (n - 0x1000) 0x0102 (λ f. absent MultipleBinary (omega arith))) refl

  pub is_no_kind : is_kind n ≡ false
  is_no_kind = rw (no_width, no_bytes, no_parts) refl
