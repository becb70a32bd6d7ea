-- What an attachment holds beside its properties, in print: a message before them, a store behind them.
use Rattle.std.specs.Prelude.{ℕ, List, [], ◌++◌, codes}
use Rattle.carrier_model.specs.Tree.{Body, nothing, embedded, stored}
use Rattle.json_model.specs.MessageForms.{json_of}
use Rattle.json_model.specs.StoreForms.{store_json}
use Rattle.serde_json.specs.Written.{compact_text}
use Rattle.tree_json.specs.Wholes.{IsWhole, StoreHasBytes}

abbrev pub before_properties : Body → List ℕ
before_properties nothing = []
before_properties (embedded inner) = codes "\"message\":" ++ (compact_text (json_of inner) ++ codes ",")
before_properties (stored store) = []

abbrev pub behind_properties : Body → List ℕ
behind_properties nothing = []
behind_properties (embedded inner) = []
behind_properties (stored store) = codes ",\"store\":" ++ compact_text (store_json store)

abbrev pub MessageIsWhole : Body → Type 0
MessageIsWhole nothing = Unit {0}
MessageIsWhole (embedded inner) = IsWhole inner
MessageIsWhole (stored store) = Unit {0}

abbrev pub StoreIsWhole : Body → Type 0
StoreIsWhole nothing = Unit {0}
StoreIsWhole (embedded inner) = Unit {0}
StoreIsWhole (stored store) = StoreHasBytes store
