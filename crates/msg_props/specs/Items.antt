-- What the entries of a list give.
use Rattle.msg_model.specs.MsgProps as plain
use Rattle.msg_model.specs.MsgValues.{PropEntry}
use Rattle.msg_props.specs.declared.items.Item.{Item}
use Rattle.msg_props.specs.declared.items.Item.TheVariants.{Kept, Passed, Embedding}

abbrev pub item_of : PropEntry → Item → plain.Item
item_of e (Kept p) = plain.kept p
item_of e Passed = plain.passed e.tag e.place
item_of e Embedding = plain.embedding e.place
