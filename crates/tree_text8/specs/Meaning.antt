-- What pages and unmapped texts mean.
use Rattle.text8_model.specs.Pages as plain
use Rattle.text8_model.specs.Unmapped as told
use Rattle.tree_text8.specs.declared.pages.Page.{Page}
use Rattle.tree_text8.specs.declared.pages.Page.TheVariants.{Windows1252, Latin1, Ascii, Utf8}
use Rattle.tree_text8.specs.declared.ends.Why.{Why}
use Rattle.tree_text8.specs.declared.ends.Why.TheVariants.{Page as NoPage, Byte}
use Rattle.tree_text8.specs.declared.ends.Unmapped.{Unmapped}

abbrev pub plain_page : Page → plain.Page
plain_page Windows1252 = plain.windows_1252
plain_page Latin1 = plain.latin_1
plain_page Ascii = plain.us_ascii
plain_page Utf8 = plain.utf_8

abbrev pub why_of : Why → told.Why
why_of NoPage = told.at_page
why_of Byte = told.at_byte

abbrev pub unmapped_of : Unmapped → told.Unmapped
unmapped_of u = record { why = why_of u.why; property = u.property; element = u.element; at = u.at; page = u.page }
