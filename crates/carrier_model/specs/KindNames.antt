-- The names of the property types of MS-OXCDATA, section 2.11.1, in print.
use Rattle.std.specs.Prelude.{ℕ, List, [], ◌∷◌, Option, codes}
use Rattle.carrier_model.specs.Lists.{looked_up}

abbrev pub kind_names : List (ℕ × List ℕ)
kind_names =
    (0x0002, codes "Integer16") ∷ (0x0003, codes "Integer32") ∷ (0x0004, codes "Floating32") ∷ (0x0005, codes "Floating64") ∷
    (0x0006, codes "Currency") ∷ (0x0007, codes "FloatingTime") ∷ (0x000A, codes "ErrorCode") ∷ (0x000B, codes "Boolean") ∷
    (0x0014, codes "Integer64") ∷ (0x001E, codes "String8") ∷ (0x001F, codes "String") ∷ (0x0040, codes "Time") ∷
    (0x0048, codes "Guid") ∷ (0x0102, codes "Binary") ∷ (0x1002, codes "MultipleInteger16") ∷
    (0x1003, codes "MultipleInteger32") ∷ (0x1004, codes "MultipleFloating32") ∷ (0x1005, codes "MultipleFloating64") ∷
    (0x1006, codes "MultipleCurrency") ∷ (0x1007, codes "MultipleFloatingTime") ∷ (0x1014, codes "MultipleInteger64") ∷
    (0x101E, codes "MultipleString8") ∷ (0x101F, codes "MultipleString") ∷ (0x1040, codes "MultipleTime") ∷
    (0x1048, codes "MultipleGuid") ∷ (0x1102, codes "MultipleBinary") ∷ []

-- the name of a kind, by its number
abbrev pub kind_name : ℕ → Option (List ℕ)
kind_name = looked_up kind_names
