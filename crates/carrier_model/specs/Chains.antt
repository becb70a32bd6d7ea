-- Chains of sectors, as lists that exist (MS-CFB 2.1, 2.3), and the first fault of one.
use Rattle.std.specs.Prelude.{◌≡◌, ℕ, zero, suc, ◌<◌, ◌≤◌, List, [], ◌∷◌, length, get_or, Bool, true, false, not, ◌&&◌, nat_lt, nat_eq, if◌then◌else◌, Result, Ok, Err}
use Rattle.std.specs.List.{list_any, IsDistinct, AllByRecursion}
use Rattle.carrier_model.specs.Trail.{Fault}
use Rattle.carrier_model.specs.Reasons.{SECTOR_OUT_OF_RANGE, CYCLE, SHARED, SHORT_CHAIN, FILE_TRUNCATED}

-- the word that ends a chain
abbrev pub end_word : ℕ
end_word = 4294967294

-- the word of a sector
abbrev pub word : List ℕ → ℕ → ℕ
word T n = get_or T n 0

-- From s the list is linked by the table, and x follows it.
abbrev pub Leads : List ℕ → ℕ → List ℕ → ℕ → Type 0
Leads T s [] x = s ≡ x
Leads T s (n ∷ c) x = (s ≡ n) × Leads T (word T n) c x

-- The chain from s: distinct members below the bound, linked by the table up to the word that ends it.
pub record Chain (T : List ℕ) (s bound : ℕ) (c : List ℕ) : Type 0 where
  pub linked : Leads T s c end_word
  pub distinct : IsDistinct nat_eq c
  pub below : AllByRecursion (λ n. n < bound) c

-- whether a number is in a list
abbrev pub member : ℕ → List ℕ → Bool
member n ms = list_any (nat_eq n) ms

-- below the bound, whole, and in no earlier chain or list
abbrev pub is_open : ℕ → ℕ → List ℕ → ℕ → Bool
is_open bound whole earlier n = nat_lt n bound && (nat_lt n whole && not (member n earlier))

-- A list from s that is linked by the table, whose members are distinct, below the bound, whole and in no earlier list; x follows it.
pub record Run (T : List ℕ) (s bound whole : ℕ) (earlier c : List ℕ) (x : ℕ) : Type 0 where
  pub linked : Leads T s c x
  pub distinct : IsDistinct nat_eq c
  pub opened : AllByRecursion (λ n. is_open bound whole earlier n ≡ true) c

-- The longest such list of at most k members.
unfoldable pub longest : ℕ → List ℕ → ℕ → ℕ → ℕ → List ℕ → List ℕ
longest zero T s bound whole earlier = []
longest (suc k) T s bound whole earlier =
    if is_open bound whole earlier s then s ∷ longest k T (word T s) bound whole (s ∷ earlier) else []

-- the number that follows a list from s: the last member's word, or s
abbrev pub after : List ℕ → ℕ → List ℕ → ℕ
after T s [] = s
after T s (n ∷ c) = after T (word T n) c

-- the offset of the word or field that names what follows a list
abbrev pub named_at : (ℕ → ℕ) → ℕ → List ℕ → ℕ
named_at at field [] = field
named_at at field (n ∷ c) = named_at at (at n) c

-- why x, which is not the end, may not be the next member of c
abbrev pub stop_reason : ℕ → List ℕ → List ℕ → ℕ → ℕ
stop_reason bound earlier c x =
    if nat_lt x bound then (if member x c then CYCLE else if member x earlier then SHARED else FILE_TRUNCATED) else SECTOR_OUT_OF_RANGE

-- the answer where c is the longest list and x follows it
abbrev pub chain_end : (ℕ → ℕ) → ℕ → ℕ → ℕ → List ℕ → List ℕ → ℕ → Result (List ℕ) Fault
chain_end at field bound need earlier c x =
    if nat_eq x end_word
    then (if nat_lt (length c) need then Err ((SHORT_CHAIN, named_at at field c)) else Ok c)
    else Err ((stop_reason bound earlier c x, named_at at field c))

-- the chain from s, or its first fault
unfoldable pub chain_of : List ℕ → (ℕ → ℕ) → ℕ → ℕ → ℕ → ℕ → ℕ → List ℕ → Result (List ℕ) Fault
chain_of T at s field bound whole need earlier =
    let c = longest bound T s bound whole earlier in
    chain_end at field bound need earlier c (after T s c)

-- A chain that a reader may take after the earlier lists: of enough sectors, whole where that is asked for, and in no earlier list.
pub record FreshChain (T : List ℕ) (s bound whole need : ℕ) (earlier c : List ℕ) : Type 0 where
  pub chain : Chain T s bound c
  pub all_whole : AllByRecursion (λ n. n < whole) c
  pub fresh : AllByRecursion (λ n. member n earlier ≡ false) c
  pub enough : need ≤ length c
