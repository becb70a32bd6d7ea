-- A stream of attributes: a signature, a key, and attributes up to the end.
use Rattle.std.specs.Prelude.{◌≡◌, ◌⊎◌, ℕ, ◌+◌, ◌^◌, ◌<◌, ◌==◌, ◌||◌, ◌&&◌, Bool, true, List, [], ◌∷◌, ◌++◌, length, take, drop, slice_index, nat_le, Some, None}
use Rattle.std.specs.List.{flat_map}
use Rattle.carrier_model.specs.Reasons.{BAD_SIGNATURE, BAD_LEVEL, TRUNCATED, BAD_SUM}
use Rattle.carrier_model.specs.Trail.{Fault, Test, test, first_fault}
use Rattle.carrier_model.specs.Bytes.{number16, number32, le16, le32, sum16}
use Rattle.carrier_model.specs.Items.{Kind, FaultBehind, AllGood}

-- an attribute without where it lies in memory; the offset is that of its level byte
pub record Attr : Type 0 where
  pub level : ℕ
  pub id : ℕ
  pub offset : ℕ
  pub bytes : List ℕ

abbrev pub attr : ℕ → ℕ → ℕ → List ℕ → Attr
attr level id offset bytes = record { level = level; id = id; offset = offset; bytes = bytes }

abbrev pub is_level : ℕ → Bool
is_level n = (n == 1) || (n == 2)

-- level, id, length, the bytes and their sum
abbrev pub spelling : Attr → List ℕ
spelling a = a.level ∷ (le32 a.id ++ (le32 (length a.bytes) ++ (a.bytes ++ le16 (sum16 a.bytes))))

-- what may stand at an offset
pub record IsAttr (at : ℕ) (a : Attr) : Type 0 where
  pub level : is_level a.level ≡ true
  pub id : a.id < 2 ^ 32
  pub few : length a.bytes < 2 ^ 32
  pub offset : a.offset ≡ at

-- the length that the bytes of an attribute say
abbrev pub attr_len : List ℕ → ℕ
attr_len bytes = number32 (drop 5 bytes)

-- the tests of an attribute that begins at an offset, with at least its level byte
abbrev pub attr_tests : ℕ → List ℕ → List Test
attr_tests at bytes =
    test (is_level (slice_index bytes 0)) BAD_LEVEL at
    ∷ test (nat_le 5 (length bytes)) TRUNCATED (at + 1)
    ∷ test (nat_le 9 (length bytes)) TRUNCATED (at + 5)
    ∷ test (nat_le (9 + attr_len bytes) (length bytes)) TRUNCATED (at + 9)
    ∷ test (nat_le (11 + attr_len bytes) (length bytes)) TRUNCATED (at + 9 + attr_len bytes)
    ∷ test (sum16 (take (attr_len bytes) (drop 9 bytes)) == number16 (drop (9 + attr_len bytes) bytes)) BAD_SUM (at + 9 + attr_len bytes)
    ∷ []

abbrev pub attrs : Kind ℕ Attr
attrs = record {
  spelling = spelling;
  next = λ at a. at + (11 + length a.bytes);
  good = IsAttr;
  tests = attr_tests;
}

abbrev pub SIGNATURE : ℕ
SIGNATURE = 0x223e9f78

-- the stream that begins at an offset is these attributes
pub record Attrs (at : ℕ) (bytes : List ℕ) (l : List Attr) : Type 0 where
  pub key : List ℕ
  pub key_len : length key ≡ 2
  pub parts : bytes ≡ le32 SIGNATURE ++ (key ++ flat_map spelling l)
  pub good : AllGood attrs (at + 6) l

abbrev pub head_tests : ℕ → List ℕ → List Test
head_tests at bytes = test (nat_le 4 (length bytes) && (number32 bytes == SIGNATURE)) BAD_SIGNATURE at ∷ test (nat_le 6 (length bytes)) TRUNCATED (at + 4) ∷ []

-- behind attributes that are there stands one that fails
pub record BodyFault (at : ℕ) (bytes : List ℕ) (g : Fault) : Type 0 where
  pub before : List Attr
  pub rest : List ℕ
  pub some : 0 < length rest
  pub fault : FaultBehind attrs at bytes before rest g

-- the head fails, or an attribute behind it
abbrev pub AttrsFault : ℕ → List ℕ → Fault → Type 0
AttrsFault at bytes g = (first_fault (head_tests at bytes) ≡ Some g) ⊎ ((first_fault (head_tests at bytes) ≡ None) × BodyFault (at + 6) (drop 6 bytes) g)
