use Rattle.msg_model.specs.WrittenMsg.{tag_of}
use Rattle.msg_nameid.specs.Maps.{names_in}
use Rattle.msg_props.proofs.TaggedLists.{among, map_more}
use Rattle.msg_props.proofs.write_tags.tags_of.Goals as goal

pub tag-tag-requires-clause-known : goal.tag-tag-requires-clause-known
tag-tag-requires-clause-known g c = among (names_in c.args.names.now) c.args.props.now c.loop-k.k c.get.result.now c.requires.named c.get.ensures

pub loop-k-preserved : goal.loop-k-preserved
loop-k-preserved g c = map_more (tag_of (names_in c.args.names.now)) c.args.props.now c.loop-k.k _ _ _ _ c.get.ensures c.loop-k.invariant c.in_ok-push.ensures.items c.tag-tag.ensures
