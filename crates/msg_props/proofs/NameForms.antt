-- Names of streams as texts.
use Rattle.std.proofs.Common.{◌≡◌, ℕ, ◌++◌, Option, Some, None, is_some, true, refl}
use Rattle.std.specs.Prelude.{codes}
use Rattle.std.specs.Option.{option_map}
use Rattle.std.specs.Str.{IsAscii}
use Rattle.std.specs.String.{IsUtf16Of}
use Rattle.std.proofs.lemmas.Str.{IsAscii-append}
use Rattle.carrier_model.specs.KeyTexts.{upper, hex_digits}
use Rattle.carrier_model.specs.Lookups.{Found, size_place, size_place_at}
use Rattle.carrier_model.specs.Stores.{PROPERTIES}
use Rattle.carrier_model.specs.Streams.{Stream}
use Rattle.msg_model.specs.StreamNames.{value_name, element_name}
use Rattle.msg_model.proofs.AsciiNames.{all_ascii, numbered_ascii, value_ascii}

pub front_ascii : (tag : ℕ) → IsAscii (value_name tag ++ codes "-")
front_ascii tag = IsAscii-append (value_name tag) (codes "-") (value_ascii tag) (all_ascii (codes "-") refl)

pub element_ascii : (tag k : ℕ) → IsAscii (element_name tag k)
element_ascii tag k = IsAscii-append (value_name tag) (codes "-" ++ hex_digits upper 8 k) (value_ascii tag) (numbered_ascii (codes "-") k refl)

pub properties_text : IsUtf16Of PROPERTIES PROPERTIES
unfolding lib.Utf8.encode
properties_text = (PROPERTIES, refl, refl)

-- ---- what was looked up

pub there : (o : Option Found) (s : Stream) → Some s ≡ option_map (λ f. f.stream) o → (f : Found) × (o ≡ Some f) × (s ≡ f.stream)
there None s e = absurd cc
there (Some f) s e = (f, refl, cc)

pub nowhere : (o : Option Found) → None ≡ option_map (λ f. f.stream) o → o ≡ None
nowhere None e = refl
nowhere (Some f) e = absurd cc

pub size_at : (o : Option Found) (place : ℕ) → Some place ≡ option_map size_place o → place ≡ size_place_at o
size_at None place e = absurd cc
size_at (Some f) place e = cc

pub no_size : (o : Option Found) → None ≡ option_map size_place o → is_some o ≡ true → ⊥
no_size None e s = absurd cc
no_size (Some f) e s = absurd cc
