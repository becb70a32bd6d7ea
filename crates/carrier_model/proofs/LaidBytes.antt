-- Bytes and numbers that lie at a place in a file.
use Rattle.std.proofs.Common.{◌≡◌, ℕ, zero, suc, ◌+◌, ◌*◌, ◌^◌, ◌<◌, List, [], ◌∷◌, ◌++◌, length, get_or, map, refl, sym, ◌∙◌, ap, arith}
use Rattle.std.specs.List.{range_with_len, AllByRecursion}
use Rattle.std.proofs.lemmas.List.{append_assoc, append-nil, length-append, drop_at, get_or_at}
use Rattle.carrier_model.specs.Bytes.{le16, le32}
use Rattle.carrier_model.specs.Layout.{words_bytes}
use Rattle.carrier_model.specs.Sectors.{u16_of, u32_of}
use Rattle.carrier_model.proofs.Numbers.{number16-le16, number32-le32}

-- x lies in b, from a place on
pub record Lies (b : List ℕ) (at : ℕ) (x : List ℕ) : Type 0 where
  pub before : List ℕ
  pub behind : List ℕ
  pub parts : b ≡ before ++ (x ++ behind)
  pub place : length before ≡ at

pub lies-whole : (b : List ℕ) → Lies b 0 b
lies-whole b = record { before = []; behind = []; parts = sym (append-nil b); place = refl }

pub lies-front : (b : List ℕ) (at : ℕ) (x y : List ℕ) → Lies b at (x ++ y) → Lies b at x
lies-front b at x y l = record { before = l.before; behind = y ++ l.behind; parts = l.parts ∙ ap (λ r. l.before ++ r) (append_assoc x y l.behind); place = l.place }

pub lies-back : (b : List ℕ) (at to : ℕ) (x y : List ℕ) → to ≡ at + length x → Lies b at (x ++ y) → Lies b to y
lies-back b at to x y is l = record {
  before = l.before ++ x;
  behind = l.behind;
  parts = l.parts ∙ (ap (λ r. l.before ++ r) (append_assoc x y l.behind) ∙ sym (append_assoc l.before x (y ++ l.behind)));
  place = length-append l.before x ∙ (ap (λ k. k + length x) l.place ∙ sym is);
}

pub u32-lies : (b : List ℕ) (at n : ℕ) → n < 2 ^ 32 → Lies b at (le32 n) → u32_of b at ≡ n
unfolding u32_of
u32-lies b at n small l =
    ap (λ x. u32_of x at) l.parts
    ∙ (ap (λ x. u32_of x 0) (drop_at l.before (le32 n ++ l.behind) at l.place)
    ∙ number32-le32 n l.behind small)

pub u16-lies : (b : List ℕ) (at n : ℕ) → n < 2 ^ 16 → Lies b at (le16 n) → u16_of b at ≡ n
unfolding u16_of
u16-lies b at n small l =
    ap (λ x. u16_of x at) l.parts
    ∙ (ap (λ x. u16_of x 0) (drop_at l.before (le16 n ++ l.behind) at l.place)
    ∙ number16-le16 n l.behind small)

-- words that fit
abbrev pub AreWords : List ℕ → Type 0
AreWords ws = AllByRecursion (λ w. w < 2 ^ 32) ws

pub word-lies : (b : List ℕ) (at i : ℕ) (ws : List ℕ) → AreWords ws → i < length ws → Lies b at (words_bytes ws) → u32_of b (at + 4 * i) ≡ get_or ws i 0
word-lies b at i [] fit below l = absurd (omega arith)
word-lies b at zero (w ∷ ws) fit below l = ap (u32_of b) (omega arith) ∙ u32-lies b at w fit.0 (lies-front b at (le32 w) (words_bytes ws) l)
word-lies b at (suc i) (w ∷ ws) fit below l =
    let rest = lies-back b at (at + 4) (le32 w) (words_bytes ws) refl l in
    ap (u32_of b) (omega arith) ∙ word-lies b (at + 4) i ws fit.1 (omega arith) rest

-- the bytes at the places
pub bytes-lie : (b : List ℕ) (at : ℕ) (x : List ℕ) → Lies b at x → map (λ p. get_or b p 0) (range_with_len at (length x)) ≡ x
bytes-lie b at [] l = refl
bytes-lie b at (y ∷ x) l =
    let rest = lies-back b at (at + 1) (y ∷ []) x refl l in
    let one : get_or b at 0 ≡ y = ap (λ c. get_or c at 0) l.parts ∙ get_or_at l.before y (x ++ l.behind) 0 at l.place in
    rw one (ap (λ (r : List ℕ). y ∷ r) (bytes-lie b (at + 1) x rest))

pub byte-lies : (b : List ℕ) (at y : ℕ) → Lies b at (y ∷ []) → get_or b at 0 ≡ y
byte-lies b at y l = ap (λ c. get_or c at 0) l.parts ∙ get_or_at l.before y l.behind 0 at l.place
