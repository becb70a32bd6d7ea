use Rattle.std.specs.Str.{chars, is_utf8}
use Rattle.std.specs.Str.Lossy.{utf8_valid_len}
use Rattle.std.specs.Char.{encode_utf8}
use Rattle.std.specs.Prelude.{refl}
use Rattle.text8_model.proofs.text_rows.the_page_of_a_text.Goals as goal

pub returns-clause-named : goal.returns-clause-named
unfolding chars is_utf8 utf8_valid_len encode_utf8
returns-clause-named c = refl
