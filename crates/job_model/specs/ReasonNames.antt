-- The names of the reasons of refusals, in print.
use Rattle.std.specs.Prelude.{ℕ, List, [], ◌∷◌, Option, codes}
use Rattle.carrier_model.specs.Lists.{looked_up}

abbrev pub reason_names : List (ℕ × List ℕ)
reason_names =
    (1, codes "NotACarrier") ∷ (3, codes "InputTooLong") ∷ (4, codes "TooDeep") ∷
    (10, codes "BadFileSignature") ∷ (11, codes "BadVersion") ∷ (12, codes "BadHeader") ∷
    (13, codes "BadFatCount") ∷ (14, codes "SectorOutOfRange") ∷ (15, codes "Cycle") ∷ (16, codes "Shared") ∷
    (17, codes "ShortChain") ∷ (18, codes "FileTruncated") ∷ (25, codes "BadEntryType") ∷ (26, codes "BadName") ∷
    (27, codes "EntryShared") ∷ (28, codes "EntryOutOfRange") ∷ (29, codes "DoubleName") ∷
    (30, codes "StorageTooDeep") ∷ (35, codes "BadGuidIndex") ∷ (36, codes "BadNameOffset") ∷
    (37, codes "BadNameLength") ∷ (38, codes "DoubleId") ∷ (39, codes "BadPropertyIndex") ∷
    (43, codes "BadPropStream") ∷ (44, codes "UnknownType") ∷ (45, codes "UnmappedId") ∷ (46, codes "MissingStream") ∷
    (47, codes "BadElement") ∷ (48, codes "DuplicateProperty") ∷ (53, codes "MissingProperties") ∷
    (54, codes "MissingStorage") ∷ (55, codes "StoreTooDeep") ∷ (56, codes "StoreIsMessage") ∷ (60, codes "BadSignature") ∷ (61, codes "BadLevel") ∷ (62, codes "Truncated") ∷
    (63, codes "BadSum") ∷ (70, codes "ListTruncated") ∷ (71, codes "UnknownListType") ∷ (72, codes "BadNameKind") ∷
    (73, codes "BadNameSize") ∷ (74, codes "BadCount") ∷ (75, codes "BadSize") ∷ (76, codes "DuplicateListProperty") ∷
    (79, codes "NoAttachment") ∷ (80, codes "DoubleAttribute") ∷ (82, codes "BadInterface") ∷
    (85, codes "NoTnefPart") ∷ (86, codes "NotBase64") ∷ (87, codes "BadBase64") ∷ (88, codes "BadPadding") ∷
    (89, codes "BadBoundary") ∷ (90, codes "BadHeaderLine") ∷ (91, codes "PartTooDeep") ∷ (92, codes "MissingClose") ∷ []

-- the name of a reason, by its number
abbrev pub reason_name : ℕ → Option (List ℕ)
reason_name = looked_up reason_names
