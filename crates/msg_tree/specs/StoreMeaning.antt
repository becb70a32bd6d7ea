-- The plain store of a store, where bytes_of gives the bytes of a blob.
use Rattle.std.specs.Prelude.{ℕ, List}
use Rattle.carrier_model.specs.FileTrees as plain
use Rattle.msg_tree.specs.declared.stores.Store.{Store, Store-F, fold-Store}
use Rattle.msg_tree.specs.declared.stores.Entry.{Entry, Entry-F, fold-Entry}
use Rattle.msg_tree.specs.declared.stores.Member.{Member, Member-F, fold-Member}
use Rattle.msg_tree.specs.declared.stores.Member.TheOpen as one

module _ {B : Type 0} (bytes_of : B → List ℕ) where
  abbrev pub member_step : {A A' : Type 0} → Member-F B A A' plain.Store → plain.Member
  member_step (one.Stream blob) = plain.bytes_at (bytes_of blob)
  member_step (one.Storage inner) = plain.store_at inner

  abbrev pub entry_step : {A' A'' : Type 0} → Entry-F B plain.Member A' A'' → plain.Named
  entry_step e = (e.name.items, e.member)

  abbrev pub store_step : {A A'' : Type 0} → Store-F B A plain.Named A'' → plain.Store
  store_step s = record { class = s.class; members = plain.files_from s.entries.items }

  -- the plain store
  abbrev pub store_of : Store B → plain.Store
  store_of = fold-Store B plain.Member plain.Named plain.Store member_step entry_step store_step

  -- a member with its name
  abbrev pub entry_of : Entry B → plain.Named
  entry_of = fold-Entry B plain.Member plain.Named plain.Store member_step entry_step store_step

  abbrev pub member_of : Member B → plain.Member
  member_of = fold-Member B plain.Member plain.Named plain.Store member_step entry_step store_step
