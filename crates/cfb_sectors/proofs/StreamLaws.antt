-- The chain of a stream, from its parts.
use Rattle.std.proofs.Common.{◌≡◌, ℕ, ◌+◌, List, length, true, false, refl, Ok, Err}
use Rattle.std.specs.Int.{div_ceil}
use Rattle.carrier_model.specs.Chains.{chain_of}
use Rattle.carrier_model.specs.Loads.{Table, Mini, chain_bound, mini_bound, long_chain_of, short_chain_of}
use Rattle.carrier_model.specs.Reasons.{FILE_TRUNCATED}
use Rattle.carrier_model.specs.Sectors.{word_offset}
use Rattle.carrier_model.specs.Streams.{places_of, starts_of, mini_offsets, lie_below}

pub long_past : (z : ℕ) (b : List ℕ) (t : Table) (start size o : ℕ) (e c starts : List ℕ) (bound need : ℕ) → bound ≡ chain_bound z b t.words → need ≡ div_ceil size z → starts ≡ starts_of z c → chain_of t.words (word_offset z t.sectors) start (o + 116) bound bound need e ≡ Ok c → lie_below (length b) (places_of z starts size) ≡ false → long_chain_of z b t start size o e ≡ Err (FILE_TRUNCATED, o + 120)
unfolding long_chain_of
long_past z b t start size o e c starts bound need eb en es h past = rw (← eb, ← en, h, ← es, past) refl

pub long_ok : (z : ℕ) (b : List ℕ) (t : Table) (start size o : ℕ) (e c starts : List ℕ) (bound need : ℕ) → bound ≡ chain_bound z b t.words → need ≡ div_ceil size z → starts ≡ starts_of z c → chain_of t.words (word_offset z t.sectors) start (o + 116) bound bound need e ≡ Ok c → lie_below (length b) (places_of z starts size) ≡ true → long_chain_of z b t start size o e ≡ Ok c
unfolding long_chain_of
long_ok z b t start size o e c starts bound need eb en es h within = rw (← eb, ← en, h, ← es, within) refl

pub short_past : (z : ℕ) (m : Mini) (start size o : ℕ) (e c starts : List ℕ) (bound need : ℕ) → bound ≡ mini_bound m → need ≡ div_ceil size 64 → starts ≡ mini_offsets c → chain_of m.table.words (word_offset z m.table.sectors) start (o + 116) bound bound need e ≡ Ok c → lie_below m.size (places_of 64 starts size) ≡ false → short_chain_of z m start size o e ≡ Err (FILE_TRUNCATED, o + 120)
unfolding short_chain_of
short_past z m start size o e c starts bound need eb en es h past = rw (← eb, ← en, h, ← es, past) refl

pub short_ok : (z : ℕ) (m : Mini) (start size o : ℕ) (e c starts : List ℕ) (bound need : ℕ) → bound ≡ mini_bound m → need ≡ div_ceil size 64 → starts ≡ mini_offsets c → chain_of m.table.words (word_offset z m.table.sectors) start (o + 116) bound bound need e ≡ Ok c → lie_below m.size (places_of 64 starts size) ≡ true → short_chain_of z m start size o e ≡ Ok c
unfolding short_chain_of
short_ok z m start size o e c starts bound need eb en es h within = rw (← eb, ← en, h, ← es, within) refl
