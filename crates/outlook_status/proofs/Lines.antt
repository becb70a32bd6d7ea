-- The line of a refusal, as the definitions have it and as it is appended.
use Rattle.std.proofs.Common.{◌≡◌, ℕ, List, [], ◌∷◌, ◌++◌, refl, ap, ◌∙◌}
use Rattle.std.specs.Prelude.{codes, decimal, unwrap_or}
use Rattle.carrier_io.specs.Reasons.{number_of, name_of, fault_of}
use Rattle.carrier_io.specs.declared.reasons.Fault.{Fault}
use Rattle.carrier_io.specs.declared.reasons.Reason.{Reason}
use Rattle.carrier_io.specs.declared.reasons.Reason.TheVariants.{NotACarrier, InputTooLong, TooDeep, BadFileSignature, BadVersion, BadHeader, BadFatCount, SectorOutOfRange, Cycle, Shared, ShortChain, FileTruncated, BadEntryType, BadName, EntryShared, EntryOutOfRange, DoubleName, StorageTooDeep, BadGuidIndex, BadNameOffset, BadNameLength, DoubleId, BadPropertyIndex, BadPropStream, UnknownType, UnmappedId, MissingStream, BadElement, DuplicateProperty, MissingProperties, MissingStorage, StoreTooDeep, StoreIsMessage, BadSignature, BadLevel, Truncated, BadSum, ListTruncated, UnknownListType, BadNameKind, BadNameSize, BadCount, BadSize, DuplicateListProperty, NoAttachment, DoubleAttribute, BadInterface, NoTnefPart, NotBase64, BadBase64, BadPadding, BadBoundary, BadHeaderLine, PartTooDeep, MissingClose}
use Rattle.job_model.specs.ReasonNames.{reason_name}
use Rattle.job_model.specs.ReportTexts.{fault_text}
use Rattle.text_model.specs.TreeTexts.{line, counted}

-- a reason has the same name in both
reason_named : (r : Reason) → unwrap_or (reason_name (number_of r)) [] ≡ name_of r
reason_named NotACarrier = refl
reason_named InputTooLong = refl
reason_named TooDeep = refl
reason_named BadFileSignature = refl
reason_named BadVersion = refl
reason_named BadHeader = refl
reason_named BadFatCount = refl
reason_named SectorOutOfRange = refl
reason_named Cycle = refl
reason_named Shared = refl
reason_named ShortChain = refl
reason_named FileTruncated = refl
reason_named BadEntryType = refl
reason_named BadName = refl
reason_named EntryShared = refl
reason_named EntryOutOfRange = refl
reason_named DoubleName = refl
reason_named StorageTooDeep = refl
reason_named BadGuidIndex = refl
reason_named BadNameOffset = refl
reason_named BadNameLength = refl
reason_named DoubleId = refl
reason_named BadPropertyIndex = refl
reason_named BadPropStream = refl
reason_named UnknownType = refl
reason_named UnmappedId = refl
reason_named MissingStream = refl
reason_named BadElement = refl
reason_named DuplicateProperty = refl
reason_named MissingProperties = refl
reason_named MissingStorage = refl
reason_named StoreTooDeep = refl
reason_named StoreIsMessage = refl
reason_named BadSignature = refl
reason_named BadLevel = refl
reason_named Truncated = refl
reason_named BadSum = refl
reason_named ListTruncated = refl
reason_named UnknownListType = refl
reason_named BadNameKind = refl
reason_named BadNameSize = refl
reason_named BadCount = refl
reason_named BadSize = refl
reason_named DuplicateListProperty = refl
reason_named NoAttachment = refl
reason_named DoubleAttribute = refl
reason_named BadInterface = refl
reason_named NoTnefPart = refl
reason_named NotBase64 = refl
reason_named BadBase64 = refl
reason_named BadPadding = refl
reason_named BadBoundary = refl
reason_named BadHeaderLine = refl
reason_named PartTooDeep = refl
reason_named MissingClose = refl

regroup : (a b n t d e : List ℕ) → a ++ ((b ++ (n ++ t)) ++ (d ++ e)) ≡ (a ++ (b ++ (n ++ (t ++ d)))) ++ e
regroup [] [] [] [] d e = refl
regroup [] [] [] (x ∷ t) d e = ap (λ (l : List ℕ). x ∷ l) (regroup [] [] [] t d e)
regroup [] [] (x ∷ n) t d e = ap (λ (l : List ℕ). x ∷ l) (regroup [] [] n t d e)
regroup [] (x ∷ b) n t d e = ap (λ (l : List ℕ). x ∷ l) (regroup [] b n t d e)
regroup (x ∷ a) b n t d e = ap (λ (l : List ℕ). x ∷ l) (regroup a b n t d e)

pub refusal_is : (g : Fault) → counted (codes "refused") (number_of g.reason) ++ ((codes " " ++ (name_of g.reason ++ codes " at ")) ++ (decimal g.offset ++ 10 ∷ [])) ≡ line 0 (fault_text (fault_of g))
refusal_is g =
    regroup (counted (codes "refused") (number_of g.reason)) (codes " ") (name_of g.reason) (codes " at ") (decimal g.offset) (10 ∷ [])
    ∙ rw (reason_named g.reason) refl
