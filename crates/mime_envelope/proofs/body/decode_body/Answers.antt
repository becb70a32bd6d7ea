use Rattle.std.proofs.Common.{◌≡◌, ℕ, List, ◌++◌, sym, ap, ◌∙◌, append_assoc, arith}
use Rattle.std.proofs.lemmas.List.{append-nil}
use Rattle.mail_model.specs.Base64.{base64_text}
use Rattle.mail_model.specs.Envelope.{characters}
use Rattle.mime_envelope.proofs.Canonical.{one_text}
use Rattle.mime_envelope.proofs.Coded.{none_left}
use Rattle.mime_envelope.proofs.Pieces.{last_piece}
use Rattle.mime_envelope.proofs.Shorter.{coded_is_short}
use Rattle.mime_envelope.proofs.body.decode_body.Goals as goal

pub loop-rest-init : goal.loop-rest-init
unfolding base64_text
loop-rest-init c = record {
  text = ap (λ (l : List ℕ). base64_text l ++ characters c.args.body.now) c.in_ok-payload.ensures.items;
  bytes = λ i. rw c.in_ok-payload.ensures.items (omega arith);
}

pub returns-then-not-branch-clause-value : goal.returns-then-not-branch-clause-value
returns-then-not-branch-clause-value c = λ p all is.
    let bad = rw c.if-not-branch.true at c.in_ok-decode_piece.ensures in
    let last = last_piece c.fill.new.piece.items c.in_ok-rest.rest.now c.in_ok-rest.ensures.full in
    let piece = sym c.deref.ensures.value in
    bad (characters c.in_ok-rest.rest.now) p (rw piece at last) all
    (ap (λ (l : List ℕ). base64_text c.loop-rest.payload.items ++ l) ((λ i. sym piece i ++ characters c.in_ok-rest.rest.now) ∙ c.in_ok-rest.ensures.text) ∙ c.loop-rest.invariant.text ∙ is)

pub returns-clause-value : goal.returns-clause-value
returns-clause-value c =
    let none = none_left _ _ c.is_empty.ensures c.loop-rest-test.false in
    let payload = c.loop-rest.payload.items in
    let text : characters c.args.body.now ≡ base64_text payload = sym c.loop-rest.invariant.text ∙ ap (λ (l : List ℕ). base64_text payload ++ characters l) none ∙ append-nil (base64_text payload) in
    (c.loop-rest.invariant.bytes, text, λ p all is. one_text c.new-coder.result.engine c.new-coder.result.standard payload p c.loop-rest.invariant.bytes all (sym text ∙ is))

pub returns-clause-short : goal.returns-clause-short
returns-clause-short c =
    let none = none_left _ _ c.is_empty.ensures c.loop-rest-test.false in
    let payload = c.loop-rest.payload.items in
    coded_is_short c.args.body.now payload (sym c.loop-rest.invariant.text ∙ ap (λ (l : List ℕ). base64_text payload ++ characters l) none ∙ append-nil (base64_text payload))

pub loop-rest-preserved : goal.loop-rest-preserved
loop-rest-preserved c =
    let taken = rw c.if-not-branch.false at c.in_ok-decode_piece.ensures in
    let piece = sym c.deref.ensures.value in
    record {
      text = (λ i. taken.0 i ++ characters c.in_ok-rest.rest.now)
          ∙ append_assoc (base64_text c.loop-rest.payload.items) c.deref.result.now (characters c.in_ok-rest.rest.now)
          ∙ ap (λ (l : List ℕ). base64_text c.loop-rest.payload.items ++ l) ((λ i. sym piece i ++ characters c.in_ok-rest.rest.now) ∙ c.in_ok-rest.ensures.text)
          ∙ c.loop-rest.invariant.text;
      bytes = taken.1;
    }
