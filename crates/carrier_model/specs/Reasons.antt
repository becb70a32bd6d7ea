-- The reasons of refusals, each by its number.
use Rattle.std.specs.Prelude.{ℕ}

abbrev pub NOT_A_CARRIER : ℕ
NOT_A_CARRIER = 1

abbrev pub INPUT_TOO_LONG : ℕ
INPUT_TOO_LONG = 3

abbrev pub TOO_DEEP : ℕ
TOO_DEEP = 4

abbrev pub BAD_FILE_SIGNATURE : ℕ
BAD_FILE_SIGNATURE = 10

abbrev pub BAD_VERSION : ℕ
BAD_VERSION = 11

abbrev pub BAD_HEADER : ℕ
BAD_HEADER = 12

abbrev pub BAD_FAT_COUNT : ℕ
BAD_FAT_COUNT = 13

abbrev pub SECTOR_OUT_OF_RANGE : ℕ
SECTOR_OUT_OF_RANGE = 14

abbrev pub CYCLE : ℕ
CYCLE = 15

abbrev pub SHARED : ℕ
SHARED = 16

abbrev pub SHORT_CHAIN : ℕ
SHORT_CHAIN = 17

abbrev pub FILE_TRUNCATED : ℕ
FILE_TRUNCATED = 18

abbrev pub BAD_ENTRY_TYPE : ℕ
BAD_ENTRY_TYPE = 25

abbrev pub BAD_NAME : ℕ
BAD_NAME = 26

abbrev pub ENTRY_SHARED : ℕ
ENTRY_SHARED = 27

abbrev pub ENTRY_OUT_OF_RANGE : ℕ
ENTRY_OUT_OF_RANGE = 28

abbrev pub DOUBLE_NAME : ℕ
DOUBLE_NAME = 29

abbrev pub STORAGE_TOO_DEEP : ℕ
STORAGE_TOO_DEEP = 30

abbrev pub BAD_GUID_INDEX : ℕ
BAD_GUID_INDEX = 35

abbrev pub BAD_NAME_OFFSET : ℕ
BAD_NAME_OFFSET = 36

abbrev pub BAD_NAME_LENGTH : ℕ
BAD_NAME_LENGTH = 37

abbrev pub DOUBLE_ID : ℕ
DOUBLE_ID = 38

abbrev pub BAD_PROPERTY_INDEX : ℕ
BAD_PROPERTY_INDEX = 39

abbrev pub BAD_PROP_STREAM : ℕ
BAD_PROP_STREAM = 43

abbrev pub UNKNOWN_TYPE : ℕ
UNKNOWN_TYPE = 44

abbrev pub UNMAPPED_ID : ℕ
UNMAPPED_ID = 45

abbrev pub MISSING_STREAM : ℕ
MISSING_STREAM = 46

abbrev pub BAD_ELEMENT : ℕ
BAD_ELEMENT = 47

abbrev pub DUPLICATE_PROPERTY : ℕ
DUPLICATE_PROPERTY = 48

abbrev pub MISSING_PROPERTIES : ℕ
MISSING_PROPERTIES = 53

abbrev pub MISSING_STORAGE : ℕ
MISSING_STORAGE = 54

abbrev pub STORE_TOO_DEEP : ℕ
STORE_TOO_DEEP = 55

abbrev pub STORE_IS_MESSAGE : ℕ
STORE_IS_MESSAGE = 56

abbrev pub BAD_SIGNATURE : ℕ
BAD_SIGNATURE = 60

abbrev pub BAD_LEVEL : ℕ
BAD_LEVEL = 61

abbrev pub TRUNCATED : ℕ
TRUNCATED = 62

abbrev pub BAD_SUM : ℕ
BAD_SUM = 63

abbrev pub LIST_TRUNCATED : ℕ
LIST_TRUNCATED = 70

abbrev pub UNKNOWN_LIST_TYPE : ℕ
UNKNOWN_LIST_TYPE = 71

abbrev pub BAD_NAME_KIND : ℕ
BAD_NAME_KIND = 72

abbrev pub BAD_NAME_SIZE : ℕ
BAD_NAME_SIZE = 73

abbrev pub BAD_COUNT : ℕ
BAD_COUNT = 74

abbrev pub BAD_SIZE : ℕ
BAD_SIZE = 75

abbrev pub DUPLICATE_LIST_PROPERTY : ℕ
DUPLICATE_LIST_PROPERTY = 76

abbrev pub NO_ATTACHMENT : ℕ
NO_ATTACHMENT = 79

abbrev pub DOUBLE_ATTRIBUTE : ℕ
DOUBLE_ATTRIBUTE = 80

abbrev pub BAD_INTERFACE : ℕ
BAD_INTERFACE = 82

abbrev pub NO_TNEF_PART : ℕ
NO_TNEF_PART = 85

abbrev pub NOT_BASE64 : ℕ
NOT_BASE64 = 86

abbrev pub BAD_BASE64 : ℕ
BAD_BASE64 = 87

abbrev pub BAD_PADDING : ℕ
BAD_PADDING = 88

abbrev pub BAD_BOUNDARY : ℕ
BAD_BOUNDARY = 89

abbrev pub BAD_HEADER_LINE : ℕ
BAD_HEADER_LINE = 90

abbrev pub PART_TOO_DEEP : ℕ
PART_TOO_DEEP = 91

abbrev pub MISSING_CLOSE : ℕ
MISSING_CLOSE = 92
