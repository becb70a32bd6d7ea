use Rattle.std.proofs.Common.{◌+◌, ◌<◌, length, refl, sym, arith}
use Rattle.std.proofs.Math.ListN.{set}
use Rattle.mail_model.specs.Base64.{base64_text}
use Rattle.mime_envelope.proofs.Coded.{ended_line}
use Rattle.mime_envelope.proofs.writing.write_line.Goals as goal

pub returns : goal.returns
returns g c =
    let text = c.encode_line-size.new.text in
    let n = c.encode_line-size.result in
    let room : n + 1 < length text = omega (arith, c.encode_line-size.ensures.size) in
    let e = ended_line text (set (set text n 13) (n + 1) 10) (base64_text c.args.line.now) n room c.encode_line-size.ensures.text refl in
    rw (sym e) c.write_pieces.ensures
