-- The bytes that are held.
use Rattle.std.specs.Prelude.{◌≡◌, ℕ, List, refl}
use Rattle.std.specs.Int.{div_ceil}
use Rattle.carrier_io.specs.Pieces.{joined}
use Rattle.carrier_model.proofs.ViewLaws.{pieces_join}
use Rattle.cfb_sectors.specs.Seen.{bytes_of, piece_of}
use Rattle.tnef_message.specs.declared.held.Held.{Held}
use Rattle.tnef_message.specs.declared.held.Held.TheVariants.{Slice, View, Owned}

abbrev pub held_bytes : Held → List ℕ
held_bytes (Slice s) = s.now
held_bytes (View b) = bytes_of b.value
held_bytes (Owned b) = b.value.items

-- a slice is one piece, so are bytes of its own, and a view has one for each sector or mini sector
abbrev pub held_count : Held → ℕ
held_count (Slice s) = 1
held_count (View b) = div_ceil b.value.len b.value.each
held_count (Owned b) = 1

abbrev pub held_part : Held → ℕ → List ℕ
held_part (Slice s) k = s.now
held_part (View b) k = piece_of b.value k
held_part (Owned b) k = b.value.items

-- the pieces, one after another, are the bytes
pub held_joins : (x : Held) → joined (held_part x) (held_count x) ≡ held_bytes x
held_joins (Slice s) = refl
held_joins (View b) =
    let v = b.value in
    pieces_join v.file.now v.each v.starts.items v.len v.cut v.within (joined (piece_of v)) refl (λ _. refl)
held_joins (Owned b) = refl
