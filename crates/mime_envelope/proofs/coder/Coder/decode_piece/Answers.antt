use Rattle.std.proofs.Common.{◌≡◌, ℕ, ◌%◌, List, ◌++◌, length, sym, ap, ◌∙◌, arith}
use Rattle.std.proofs.lemmas.List.{append-nil}
use Rattle.carrier_model.specs.Bytes.{AllBytes}
use Rattle.mail_model.specs.Base64.{base64_text}
use Rattle.mime_envelope.proofs.Coded.{some_left, none_left}
use Rattle.mime_envelope.proofs.Pieces.{all_bytes, behind_padding, piece_refused, piece_taken}
use Rattle.mime_envelope.proofs.coder.Coder.decode_piece.Goals as goal

pub returns-then-is_empty : goal.returns-then-is_empty
returns-then-is_empty c =
    let none = none_left _ _ c.is_empty.ensures c.if-is_empty.true in
    (sym (append-nil (base64_text c.args.payload.now.items)) ∙ ap (λ (l : List ℕ). base64_text c.args.payload.now.items ++ l) (sym none), all_bytes _ (λ i lt. c.type_inv.payload i 0 lt))

pub returns-then-len-ne0 : goal.returns-then-len-ne0
returns-then-len-ne0 c = λ rest p last all e.
    let some = some_left _ _ c.is_empty.ensures c.if-is_empty.false in
    behind_padding c.args.payload.now.items c.args.piece.now rest p (λ whole. omega (arith, whole, c.len.ensures, c.if-len-ne0.true)) some e

pub returns-in_default : goal.returns-in_default
returns-in_default c = λ rest p last all e.
    let bytes : AllBytes c.args.piece.now = λ i. omega (arith, c.type_inv.piece i) in
    let whole : length c.args.payload.now.items % 3 ≡ 0 = omega (arith, c.len.ensures, c.if-len-ne0.false) in
    piece_refused c.args.self.now.engine c.in_default.field-0 c.args.payload.now.items c.args.piece.now rest p c.args.self.now.standard bytes c.in_default.ensures.err whole last all e

pub returns : goal.returns
returns c =
    let bytes : AllBytes c.args.piece.now = λ i. omega (arith, c.type_inv.piece i) in
    let whole : length c.args.payload.now.items % 3 ≡ 0 = omega (arith, c.len.ensures, c.if-len-ne0.false) in
    (piece_taken c.args.self.now.engine c.args.payload.now.items c.args.piece.now _ c.extend_from_slice.new.self.items c.args.self.now.standard bytes c.in-Ok.ensures.ok.0 whole c.in_ok-extend_from_slice.ensures.items, all_bytes _ (λ i lt. c.type_inv.payload i 0 lt))
