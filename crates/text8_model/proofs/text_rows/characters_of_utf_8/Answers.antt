use Rattle.std.specs.Str.{chars, is_utf8}
use Rattle.std.specs.Str.Lossy.{utf8_valid_len}
use Rattle.std.specs.Char.{encode_utf8}
use Rattle.std.specs.Prelude.{refl}
use Rattle.text8_model.proofs.text_rows.characters_of_utf_8.Goals as goal

pub returns-clause-pair : goal.returns-clause-pair
unfolding chars is_utf8 utf8_valid_len encode_utf8
returns-clause-pair c = refl

pub returns-clause-whole : goal.returns-clause-whole
unfolding chars is_utf8 utf8_valid_len encode_utf8
returns-clause-whole c = refl

pub returns-clause-overlong : goal.returns-clause-overlong
unfolding chars is_utf8 utf8_valid_len encode_utf8
returns-clause-overlong c = refl

pub returns-clause-surrogate : goal.returns-clause-surrogate
unfolding chars is_utf8 utf8_valid_len encode_utf8
returns-clause-surrogate c = refl

pub returns-clause-above : goal.returns-clause-above
unfolding chars is_utf8 utf8_valid_len encode_utf8
returns-clause-above c = refl

pub returns-clause-cut : goal.returns-clause-cut
unfolding chars is_utf8 utf8_valid_len encode_utf8
returns-clause-cut c = refl
