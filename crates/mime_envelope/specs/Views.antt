-- What the types mean.
use Rattle.std.specs.Prelude.{ℕ, List, Option, Some, None}
use Rattle.std.specs.Global.{Global}
use Rattle.std.specs.Prelude.{Vec}
use Rattle.mime_envelope.specs.declared.header.Field.{Field}

abbrev pub field_view : Option Field → Option (ℕ × List ℕ)
field_view None = None
field_view (Some f) = Some (f.at, f.value.items)

abbrev pub text_view : Option (Vec ℕ Global) → Option (List ℕ)
text_view None = None
text_view (Some v) = Some v.items
