-- Children of a storage by their names, ASCII letters in one case. (MS-CFB 2.6.4)
use Rattle.std.specs.Prelude.{ℕ, ◌+◌, Bool, nat_eq, if◌then◌else◌, List, [], Option, Some, None}
use Rattle.std.specs.Cmp.Lexicographic.{pointwise}
use Rattle.carrier_model.specs.Files.{Tag, Children, none, storage, stream, Files, folded}
use Rattle.carrier_model.specs.Streams.{Stream}

-- a stream, and where its directory entry lies in the file
pub record Found : Type 0 where
  pub stream : Stream
  pub entry : ℕ

-- where the size of a stream stands
abbrev pub size_place : Found → ℕ
size_place f = f.entry + 120

-- the bytes of a stream, none where it is absent
abbrev pub bytes_at : Option Found → List ℕ
bytes_at None = []
bytes_at (Some f) = f.stream.bytes

abbrev pub size_place_at : Option Found → ℕ
size_place_at None = 0
size_place_at (Some f) = size_place f

abbrev pub same_name : List ℕ → List ℕ → Bool
same_name one other = pointwise nat_eq (folded one) (folded other)

-- a storage, by its tag and what is below it
abbrev pub storage_at : Tag → Children → Files
storage_at tag below = record { place = tag.place; class = tag.class; children = below }

-- the stream of a name; a storage of that name is none
abbrev pub stream_named : Children → List ℕ → Option Found
stream_named none name = None
stream_named (storage tag below rest) name = stream_named rest name
stream_named (stream tag s rest) name = if same_name tag.name name then Some (record { stream = s; entry = tag.place }) else stream_named rest name

-- the storage of a name; a stream of that name is none
abbrev pub storage_named : Children → List ℕ → Option Files
storage_named none name = None
storage_named (storage tag below rest) name = if same_name tag.name name then Some (storage_at tag below) else storage_named rest name
storage_named (stream tag s rest) name = storage_named rest name
