-- Two ways to say what a GUID is in print, and that it has a label.
use Rattle.std.proofs.Common.{◌≡◌, ℕ, List, [], ◌∷◌, length, take, drop, Bool, true, if◌then◌else◌, None, refl, sym, ap, ◌∙◌, arith, length-drop}
use Rattle.std.specs.Str.{bytes_eq}
use Rattle.std.proofs.lemmas.List.{take_all}
use Rattle.uuid.specs.Text as printed
use Rattle.uuid.specs.Parts.{swap_fields}
use Rattle.carrier_model.specs.Bytes.{number32}
use Rattle.carrier_model.specs.KeyTexts.{guid_text, label_of, label_among, labels, label_family}

pub braced : (set : List ℕ) → length set ≡ 16 → printed.braced_text printed.lower (swap_fields set) ≡ guid_text set
unfolding printed.by_index
braced (a ∷ b ∷ c ∷ d ∷ e ∷ f ∷ g ∷ h ∷ i ∷ j ∷ k ∷ l ∷ m ∷ n ∷ o ∷ p ∷ []) is = refl
braced _ is = absurd (omega arith)

pub labelled : (set : List ℕ) (field : ℕ) (is_family : Bool) → length set ≡ 16 → is_family ≡ bytes_eq (take 12 (drop 4 set)) label_family → is_family ≡ true → field ≡ number32 set → label_among labels field ≡ label_of set
labelled set field is_family long test holds number =
    let whole : take 12 (drop 4 set) ≡ drop 4 set = take_all 12 (drop 4 set) (omega (arith, length-drop 4 set)) in
    let passes : bytes_eq (drop 4 set) label_family ≡ true = ap (λ behind. bytes_eq behind label_family) (sym whole) ∙ (sym test ∙ holds) in
    ap (label_among labels) number ∙ sym (ap (λ b. if b then label_among labels (number32 set) else None) passes)
