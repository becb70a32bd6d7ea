use Rattle.std.proofs.Common.{◌≡◌, ◌∷◌, ◌++◌, List, ℕ, [], length, take, min, refl, arith, ap, ◌∙◌}
use Rattle.mime_envelope.specs.Parts.{delimiter_front}
use Rattle.mime_envelope.proofs.Texts.{take_least}
use Rattle.mime_envelope.proofs.marks.Marks.new.Goals as goal

pub invariant_of-result-clause-finds : goal.invariant_of-result-clause-finds
unfolding delimiter_front
invariant_of-result-clause-finds c =
    let pushed = c.in_ok-push.ensures.items ∙ ap (λ (z : List ℕ). z ++ 10 ∷ []) c.new-needle.ensures.items in
    let least : c.min.result ≡ min (length c.deref-3.result.now) 31 = omega (arith, c.min.ensures, c.len.ensures, c.deref-3.ensures.len) in
    c.build_forward_owned.ensures ∙ c.in_ok-extend_from_slice-5.ensures.items ∙ ap (λ (z : List ℕ). z ++ take c.min.result c.deref-3.result.now) pushed
    ∙ ap (λ (z : List ℕ). 10 ∷ z) (take_least c.deref-3.result.now (take c.min.result c.deref-3.result.now) c.min.result 31 least refl ∙ ap (take 31) (c.deref-3.ensures.value ∙ c.in_ok-extend_from_slice-2.ensures.items ∙ (λ i. (c.in_ok-extend_from_slice.ensures.items ∙ ap (λ (z : List ℕ). z ++ 45 ∷ 45 ∷ []) c.new-delimiter.ensures.items) i ++ c.deref.ensures.value i)))
