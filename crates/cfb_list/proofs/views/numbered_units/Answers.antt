use Rattle.std.proofs.Common.{◌≡◌, ◌+◌, ℕ, List, ◌++◌, length, take, ap, ◌∙◌}
use Rattle.std.proofs.Math.Seq.{take-append_seam, take-append-add}
use Rattle.carrier_model.specs.KeyTexts.{hex_digits, upper}
use Rattle.cfb_list.proofs.views.numbered_units.Goals as goal

-- a front, and digits that were written behind it
written : (front digits zeros rest xs ys : List ℕ) → xs ≡ front → ys ≡ digits → take (length front + length digits) (take (length front) (xs ++ zeros) ++ (ys ++ rest)) ≡ front ++ digits
written front digits zeros rest xs ys e f =
    (λ i. take (length front + length digits) (take (length front) (e i ++ zeros) ++ (f i ++ rest)))
    ∙ ap (λ (us : List ℕ). take (length front + length digits) (us ++ (digits ++ rest))) (take-append_seam front zeros)
    ∙ take-append-add front (digits ++ rest) (length digits)
    ∙ ap (λ (us : List ℕ). front ++ us) (take-append_seam digits rest)

pub returns-clause-units : goal.returns-clause-units
returns-clause-units c = written c.args.front.now (hex_digits upper 8 c.args.number) _ _ c.copy_from_slice.new.self c.copy_from_slice-2.new.self c.copy_from_slice.ensures.after (c.copy_from_slice-2.ensures.after ∙ c.digit_units.ensures)
