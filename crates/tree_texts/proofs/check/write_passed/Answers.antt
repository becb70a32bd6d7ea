use Rattle.std.proofs.Common.{[], ◌∷◌, ◌++◌}
use Rattle.std.specs.Prelude.{codes, decimal}
use Rattle.carrier_model.specs.KeyTexts.{hex_digits, upper}
use Rattle.carrier_io.proofs.Known.{andthen, failing}
use Rattle.text_model.specs.TreeTexts.{passed_word}
use Rattle.tree_texts.proofs.Lists.{passed_parts}
use Rattle.tree_texts.proofs.Partly.{writes_as}
use Rattle.tree_texts.proofs.check.write_passed.Goals as goal

pub returns-in_err-write_parts : goal.returns-in_err-write_parts
returns-in_err-write_parts g c =
    let p = c.args.passed in
    let parts = rw (c.word_of.ensures, c.upper_digits8.ensures) at c.in_err-write_parts.ensures in
    writes_as _ (passed_parts (passed_word p.attribute) (hex_digits upper 8 p.what) (codes " at ") (decimal p.offset) (0x0A ∷ [])) (failing (decimal p.offset ++ 0x0A ∷ []) c.from_residual.ensures.0 parts)

pub returns-in_err-write_decimal : goal.returns-in_err-write_decimal
returns-in_err-write_decimal g c =
    let p = c.args.passed in
    let parts = rw (c.word_of.ensures, c.upper_digits8.ensures) at c.in_ok-write_parts.ensures in
    writes_as _ (passed_parts (passed_word p.attribute) (hex_digits upper 8 p.what) (codes " at ") (decimal p.offset) (0x0A ∷ [])) (andthen parts (failing (0x0A ∷ []) c.from_residual-in_err-write_decimal.ensures.0 c.in_err-write_decimal.ensures))

pub returns : goal.returns
returns g c =
    let p = c.args.passed in
    let parts = rw (c.word_of.ensures, c.upper_digits8.ensures) at c.in_ok-write_parts.ensures in
    writes_as _ (passed_parts (passed_word p.attribute) (hex_digits upper 8 p.what) (codes " at ") (decimal p.offset) (0x0A ∷ [])) (andthen parts (andthen c.in_ok-write_decimal.ensures c.write_pieces.ensures))
