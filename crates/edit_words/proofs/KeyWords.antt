-- The name that a key's word is.
use Rattle.std.proofs.Common.{◌≡◌, ◌≢◌, ℕ, List, get_or, take, drop, refl, sym, Some, None}
use Rattle.std.specs.Prelude.{true, false, ◌==◌}
use Rattle.std.proofs.lemmas.Bool.{eq-eqb, ne_eqb}
use Rattle.carrier_model.specs.HexDigits.{guid_of, number_of}
use Rattle.carrier_model.specs.Keys.{named, numbered}
use Rattle.edit_model.specs.EditWords.{name_of}

pub name_found : (w set : List ℕ) (n : ℕ) → Some set ≡ guid_of (take 32 w) → Some n ≡ number_of 8 (drop 33 w) → get_or w 32 0 ≡ 0x2F → Some (named (numbered set n)) ≡ name_of w
name_found w set n g h slash =
    let yes : (get_or w 32 0 == 0x2F) ≡ true = eq-eqb (get_or w 32 0) 0x2F slash in
    rw (sym g, sym h, yes) refl

pub name_lost : (w set : List ℕ) → Some set ≡ guid_of (take 32 w) → None ≡ number_of 8 (drop 33 w) → None ≡ name_of w
name_lost w set g h = rw (sym g, sym h) refl

pub name_unslashed : (w set : List ℕ) (n : ℕ) → Some set ≡ guid_of (take 32 w) → Some n ≡ number_of 8 (drop 33 w) → get_or w 32 0 ≢ 0x2F → None ≡ name_of w
name_unslashed w set n g h other =
    let no : (get_or w 32 0 == 0x2F) ≡ false = ne_eqb (get_or w 32 0) 0x2F other in
    rw (sym g, sym h, no) refl
