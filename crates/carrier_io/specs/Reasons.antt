-- The reasons as numbers and names, and a fault as the pair of its number and its offset.
use Rattle.std.specs.Prelude.{ℕ, List, codes, Option, Some, None, Result, Ok, Err}
use Rattle.carrier_io.specs.declared.reasons.Reason.{Reason}
use Rattle.carrier_io.specs.declared.reasons.Reason.TheVariants.{NotACarrier, InputTooLong, TooDeep, BadFileSignature, BadVersion, BadHeader, BadFatCount, SectorOutOfRange, Cycle, Shared, ShortChain, FileTruncated, BadEntryType, BadName, EntryShared, EntryOutOfRange, DoubleName, StorageTooDeep, BadGuidIndex, BadNameOffset, BadNameLength, DoubleId, BadPropertyIndex, BadPropStream, UnknownType, UnmappedId, MissingStream, BadElement, DuplicateProperty, MissingProperties, MissingStorage, StoreTooDeep, StoreIsMessage, BadSignature, BadLevel, Truncated, BadSum, ListTruncated, UnknownListType, BadNameKind, BadNameSize, BadCount, BadSize, DuplicateListProperty, NoAttachment, DoubleAttribute, BadInterface, NoTnefPart, NotBase64, BadBase64, BadPadding, BadBoundary, BadHeaderLine, PartTooDeep, MissingClose}
use Rattle.carrier_io.specs.declared.reasons.Fault.{Fault}

abbrev pub number_of : Reason → ℕ
number_of NotACarrier = 1
number_of InputTooLong = 3
number_of TooDeep = 4
number_of BadFileSignature = 10
number_of BadVersion = 11
number_of BadHeader = 12
number_of BadFatCount = 13
number_of SectorOutOfRange = 14
number_of Cycle = 15
number_of Shared = 16
number_of ShortChain = 17
number_of FileTruncated = 18
number_of BadEntryType = 25
number_of BadName = 26
number_of EntryShared = 27
number_of EntryOutOfRange = 28
number_of DoubleName = 29
number_of StorageTooDeep = 30
number_of BadGuidIndex = 35
number_of BadNameOffset = 36
number_of BadNameLength = 37
number_of DoubleId = 38
number_of BadPropertyIndex = 39
number_of BadPropStream = 43
number_of UnknownType = 44
number_of UnmappedId = 45
number_of MissingStream = 46
number_of BadElement = 47
number_of DuplicateProperty = 48
number_of MissingProperties = 53
number_of MissingStorage = 54
number_of StoreTooDeep = 55
number_of StoreIsMessage = 56
number_of BadSignature = 60
number_of BadLevel = 61
number_of Truncated = 62
number_of BadSum = 63
number_of ListTruncated = 70
number_of UnknownListType = 71
number_of BadNameKind = 72
number_of BadNameSize = 73
number_of BadCount = 74
number_of BadSize = 75
number_of DuplicateListProperty = 76
number_of NoAttachment = 79
number_of DoubleAttribute = 80
number_of BadInterface = 82
number_of NoTnefPart = 85
number_of NotBase64 = 86
number_of BadBase64 = 87
number_of BadPadding = 88
number_of BadBoundary = 89
number_of BadHeaderLine = 90
number_of PartTooDeep = 91
number_of MissingClose = 92

abbrev pub name_of : Reason → List ℕ
name_of NotACarrier = codes "NotACarrier"
name_of InputTooLong = codes "InputTooLong"
name_of TooDeep = codes "TooDeep"
name_of BadFileSignature = codes "BadFileSignature"
name_of BadVersion = codes "BadVersion"
name_of BadHeader = codes "BadHeader"
name_of BadFatCount = codes "BadFatCount"
name_of SectorOutOfRange = codes "SectorOutOfRange"
name_of Cycle = codes "Cycle"
name_of Shared = codes "Shared"
name_of ShortChain = codes "ShortChain"
name_of FileTruncated = codes "FileTruncated"
name_of BadEntryType = codes "BadEntryType"
name_of BadName = codes "BadName"
name_of EntryShared = codes "EntryShared"
name_of EntryOutOfRange = codes "EntryOutOfRange"
name_of DoubleName = codes "DoubleName"
name_of StorageTooDeep = codes "StorageTooDeep"
name_of BadGuidIndex = codes "BadGuidIndex"
name_of BadNameOffset = codes "BadNameOffset"
name_of BadNameLength = codes "BadNameLength"
name_of DoubleId = codes "DoubleId"
name_of BadPropertyIndex = codes "BadPropertyIndex"
name_of BadPropStream = codes "BadPropStream"
name_of UnknownType = codes "UnknownType"
name_of UnmappedId = codes "UnmappedId"
name_of MissingStream = codes "MissingStream"
name_of BadElement = codes "BadElement"
name_of DuplicateProperty = codes "DuplicateProperty"
name_of MissingProperties = codes "MissingProperties"
name_of MissingStorage = codes "MissingStorage"
name_of StoreTooDeep = codes "StoreTooDeep"
name_of StoreIsMessage = codes "StoreIsMessage"
name_of BadSignature = codes "BadSignature"
name_of BadLevel = codes "BadLevel"
name_of Truncated = codes "Truncated"
name_of BadSum = codes "BadSum"
name_of ListTruncated = codes "ListTruncated"
name_of UnknownListType = codes "UnknownListType"
name_of BadNameKind = codes "BadNameKind"
name_of BadNameSize = codes "BadNameSize"
name_of BadCount = codes "BadCount"
name_of BadSize = codes "BadSize"
name_of DuplicateListProperty = codes "DuplicateListProperty"
name_of NoAttachment = codes "NoAttachment"
name_of DoubleAttribute = codes "DoubleAttribute"
name_of BadInterface = codes "BadInterface"
name_of NoTnefPart = codes "NoTnefPart"
name_of NotBase64 = codes "NotBase64"
name_of BadBase64 = codes "BadBase64"
name_of BadPadding = codes "BadPadding"
name_of BadBoundary = codes "BadBoundary"
name_of BadHeaderLine = codes "BadHeaderLine"
name_of PartTooDeep = codes "PartTooDeep"
name_of MissingClose = codes "MissingClose"

abbrev pub fault_of : Fault → ℕ × ℕ
fault_of g = (number_of g.reason, g.offset)

-- what a test refused, if it did
abbrev pub refusal : {X : Type 0} → Result X Fault → Option (ℕ × ℕ)
refusal (Ok x) = None
refusal (Err g) = Some (fault_of g)
