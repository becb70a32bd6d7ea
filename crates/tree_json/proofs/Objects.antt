-- Objects in print.
use Rattle.std.proofs.Common.{◌≡◌, ◌∙◌, ap, sym, refl, ℕ, List, [], ◌∷◌, ◌++◌, false, append_assoc}
use Rattle.std.specs.Prelude.{codes, map}
use Rattle.carrier_model.specs.FileTrees.{Store}
use Rattle.carrier_model.specs.Keys.{named, numbered, texted}
use Rattle.carrier_model.specs.Tree.{message, Attachments, Body, nothing, embedded, stored}
use Rattle.carrier_model.specs.Values.{Prop, kind_of}
use Rattle.json.specs.Print.{escape_byte}
use Rattle.json_model.specs.MessageForms.{json_of, attachments_json, attachment_json}
use Rattle.json_model.specs.Properties.{number_json, hex_json, key_json, kind_json, value_json, prop_json, props_json, listed_json}
use Rattle.json_model.specs.StoreForms.{storage_entry, stream_entry, path_json, entry_json, entries_below, store_json}
use Rattle.json_model.specs.Texts.{name_json}
use Rattle.serde_json.specs.Data.{array}
use Rattle.serde_json.specs.View.{items_of}
use Rattle.serde_json.specs.Written.{compact_text, items_text}
use Rattle.tree_json.specs.Lists.{behind}
use Rattle.tree_json.proofs.Lists.{items_behind}
use Rattle.tree_json.specs.Bodies.{before_properties, behind_properties}

pub numbered_text : (set : List ℕ) (n : ℕ) → codes "{\"number\":" ++ (compact_text (number_json n) ++ (codes ",\"set\":" ++ (compact_text (hex_json set) ++ codes "}"))) ≡ compact_text (key_json (named (numbered set n)))
unfolding escape_byte
numbered_text set n = refl

pub texted_text : (set units : List ℕ) → codes "{\"set\":" ++ (compact_text (hex_json set) ++ (codes ",\"text\":" ++ (compact_text (name_json units) ++ codes "}"))) ≡ compact_text (key_json (named (texted set units)))
unfolding escape_byte
texted_text set units = refl

pub prop_text : (p : Prop) → codes "{\"key\":" ++ (compact_text (key_json p.key) ++ (codes ",\"kind\":" ++ (compact_text (kind_json (kind_of p.value)) ++ (codes ",\"value\":" ++ (compact_text (value_json p.value) ++ codes "}"))))) ≡ compact_text (prop_json p)
unfolding escape_byte
prop_text p = refl

pub stream_text : (path : List (List ℕ)) (bytes : List ℕ) → codes "{\"data\":" ++ (compact_text (hex_json bytes) ++ (codes ",\"path\":" ++ (compact_text (path_json path) ++ codes "}"))) ≡ compact_text (entry_json (stream_entry path bytes))
unfolding escape_byte
stream_text path bytes = refl

pub storage_text : (path : List (List ℕ)) (class : List ℕ) → codes "{\"class\":" ++ (compact_text (hex_json class) ++ (codes ",\"path\":" ++ (compact_text (path_json path) ++ codes "}"))) ≡ compact_text (entry_json (storage_entry path class))
unfolding escape_byte
storage_text path class = refl

pub message_text : (props : List Prop) (recipients : List (List Prop)) (attachments : Attachments) → codes "{\"attachments\":" ++ (compact_text (array (attachments_json attachments)) ++ (codes ",\"properties\":" ++ (compact_text (props_json props) ++ (codes ",\"recipients\":" ++ (compact_text (listed_json (map props_json recipients)) ++ codes "}"))))) ≡ compact_text (json_of (message props recipients attachments))
unfolding escape_byte
message_text props recipients attachments = refl

-- the members of a store stand in an array that begins with its key
pub store_text : (s : Store) → codes "{\"class\":" ++ (compact_text (hex_json s.class) ++ (codes ",\"members\":[" ++ (behind false (map entry_json (entries_below [] s.members)) ++ codes "]}"))) ≡ compact_text (store_json s)
unfolding escape_byte
store_text s =
    let list = map entry_json (entries_below [] s.members) in
    let inside : behind false list ++ codes "]}" ≡ items_text false (items_of list) ++ codes "}" = sym (append_assoc (behind false list) (93 ∷ []) (125 ∷ [])) ∙ ap (λ (z : List ℕ). z ++ codes "}") (sym (items_behind false list)) in
    ap (λ (z : List ℕ). codes "{\"class\":" ++ (compact_text (hex_json s.class) ++ (codes ",\"members\":[" ++ z))) inside

-- an attachment, with its message before its properties and its store behind them
pub attachment_text : (props : List Prop) (body : Body) → codes "{" ++ (before_properties body ++ (codes "\"properties\":" ++ (compact_text (props_json props) ++ (behind_properties body ++ codes "}")))) ≡ compact_text (attachment_json (props, body))
unfolding escape_byte
attachment_text props nothing = refl
attachment_text props (embedded inner) =
    let m = compact_text (json_of inner) in
    let p = codes "\"properties\":" ++ (compact_text (props_json props) ++ codes "}") in
    ap (λ (z : List ℕ). codes "{\"message\":" ++ z) (append_assoc m (codes ",") p)
attachment_text props (stored store) = refl
