-- The canonical envelope of bytes: one mail entity with a base64 body. Source: RFC 2045, sections 3 to 6.
use Rattle.std.specs.Prelude.{ℕ, zero, suc, List, [], ◌++◌, length, take, drop, codes}
use Rattle.std.specs.Int.{div_ceil}
use Rattle.mail_model.specs.Base64.{base64_text}

-- a carriage return and a line feed
abbrev pub line_end : List ℕ
line_end = codes "\r\n"

unfoldable pub version_line : List ℕ
version_line = codes "MIME-Version: 1.0\r\n"

unfoldable pub type_line : List ℕ
type_line = codes "Content-Type: application/ms-tnef; name=\"winmail.dat\"\r\n"

unfoldable pub encoding_line : List ℕ
encoding_line = codes "Content-Transfer-Encoding: base64\r\n"

unfoldable pub disposition_line : List ℕ
disposition_line = codes "Content-Disposition: attachment; filename=\"winmail.dat\"\r\n"

-- the header lines, and the empty line that ends them
unfoldable pub envelope_head : List ℕ
envelope_head = version_line ++ type_line ++ encoding_line ++ disposition_line ++ line_end

-- a text in so many lines of 76 characters, of which the last may be shorter
unfoldable pub text_lines : ℕ → List ℕ → List ℕ
text_lines zero text = []
text_lines (suc n) text = take 76 text ++ line_end ++ text_lines n (drop 76 text)

-- the base64 text of the bytes in lines
unfoldable pub body_lines : List ℕ → List ℕ
body_lines bytes = text_lines (div_ceil (length (base64_text bytes)) 76) (base64_text bytes)

unfoldable pub envelope_of : List ℕ → List ℕ
envelope_of bytes = envelope_head ++ body_lines bytes
