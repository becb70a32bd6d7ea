use Rattle.std.proofs.Common.{◌≡◌, ◌-◌, ◌≤◌, ℕ, length, take, sym, ap, ◌∙◌, arith}
use Rattle.cfb_sectors.specs.Seen.{bytes_of, number_in}
use Rattle.msg_props.proofs.ValueForms.{cut_other, cut_null_off}
use Rattle.msg_props.proofs.elements.cut_null.Goals as goal

pub returns-then-number-ne0 : goal.returns-then-number-ne0
returns-then-number-ne0 c =
    let x = bytes_of c.args.view.now in
    let le : c.args.null ≤ length x = omega (arith, c.if-len-null.false, c.len-len.ensures) in
    let read : c.number.result ≡ number_in x (length x - c.args.null) c.args.null = c.number.ensures ∙ ap (λ (n : ℕ). number_in x (n - c.args.null) c.args.null) c.len-len.ensures in
    c.in_ok-copy-2.ensures.bytes ∙ sym (cut_other c.args.null c.number.result x le read c.if-number-ne0.true)

pub returns : goal.returns
returns c =
    let x = bytes_of c.args.view.now in
    let le : c.args.null ≤ length x = omega (arith, c.if-len-null.false, c.len-len.ensures) in
    let read : c.number.result ≡ number_in x (length x - c.args.null) c.args.null = c.number.ensures ∙ ap (λ (n : ℕ). number_in x (n - c.args.null) c.args.null) c.len-len.ensures in
    c.in_ok-prefix.ensures.bytes ∙ ap (λ (n : ℕ). take (n - c.args.null) x) c.len-len.ensures ∙ sym (cut_null_off c.args.null c.number.result x le read c.if-number-ne0.false)
