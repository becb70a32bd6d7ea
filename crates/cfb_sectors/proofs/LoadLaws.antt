-- The tables, from their parts.
use Rattle.std.proofs.Common.{◌≡◌, ℕ, ◌+◌, List, [], ◌++◌, refl, subst, Ok}
use Rattle.carrier_model.specs.Chains.{chain_of}
use Rattle.carrier_model.specs.Sectors.{word_offset, whole_count, table_words}
use Rattle.carrier_model.specs.Tables.{Head, header_of, difat_of, difat_count, fat_sectors_of}
use Rattle.carrier_model.specs.Loads.{Tables, chain_bound, tables_of}
use Rattle.carrier_io.specs.declared.reasons.Stop.{Stop}
use Rattle.carrier_io.specs.declared.reasons.Stop.TheVariants as stops
use Rattle.carrier_io.specs.Reads.{Fails}

pub tables_fat_stops : (z : ℕ) (b : List ℕ) (h : Head) (L : List ℕ) (s : Stop) → header_of z b ≡ Ok h → difat_of (difat_count z h.fat_count) 68 z b [] ≡ Ok L → Fails s (fat_sectors_of h.fat_count 0 z b L L) → Fails s (tables_of z b)
unfolding tables_of
tables_fat_stops z b h L stops.NoMemory eh el f = tt
tables_fat_stops z b h L (stops.Fault g) eh el f = rw (eh, el, f) refl

pub tables_directory_stops : (z : ℕ) (b : List ℕ) (h : Head) (L A T : List ℕ) (bound whole : ℕ) (s : Stop) → header_of z b ≡ Ok h → difat_of (difat_count z h.fat_count) 68 z b [] ≡ Ok L → fat_sectors_of h.fat_count 0 z b L L ≡ Ok A → T ≡ table_words z b A → bound ≡ chain_bound z b T → whole ≡ whole_count z b → Fails s (chain_of T (word_offset z A) h.directory 48 bound whole 1 (L ++ A)) → Fails s (tables_of z b)
unfolding tables_of
tables_directory_stops z b h L A T bound whole stops.NoMemory eh el ea et eb ew f = tt
tables_directory_stops z b h L A T bound whole (stops.Fault g) eh el ea et eb ew f = rw (eh, el, ea, ← et, ← eb, ← ew, f) refl

pub tables_ok : (z : ℕ) (b : List ℕ) (h : Head) (L A T D : List ℕ) (bound whole : ℕ) → header_of z b ≡ Ok h → difat_of (difat_count z h.fat_count) 68 z b [] ≡ Ok L → fat_sectors_of h.fat_count 0 z b L L ≡ Ok A → T ≡ table_words z b A → bound ≡ chain_bound z b T → whole ≡ whole_count z b → chain_of T (word_offset z A) h.directory 48 bound whole 1 (L ++ A) ≡ Ok D → tables_of z b ≡ Ok (record { head = h; difat = L; table = record { sectors = A; words = T }; directory = D })
unfolding tables_of
tables_ok z b h L A T D bound whole eh el ea et eb ew f = rw (eh, el, ea, ← et, ← eb, ← ew, f) refl

-- of the size that the version says
pub tables_moved : (y z : ℕ) (b : List ℕ) (t : Tables) → y ≡ z → tables_of y b ≡ Ok t → tables_of z b ≡ Ok t
tables_moved y z b t same h = subst (λ k. tables_of k b ≡ Ok t) same h
