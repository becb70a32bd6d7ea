use Rattle.std.proofs.Common.{[], ◌∷◌, map, arith}
use Rattle.std.proofs.lemmas.List.{length-append}
use Rattle.msg_nameid.specs.Gathered.{hash_files}
use Rattle.msg_nameid.proofs.AddedFiles.{grown_within, hash_added}
use Rattle.msg_nameid.proofs.writing.add_hashes.Goals as goal

pub add_filled-requires : goal.add_filled-requires
add_filled-requires g c = grown_within c.args.files.now c.loop-bytes.files c.args.at (hash_files (map (λ v. v.items) c.loop-bytes.yielded)) c.loop-bytes.invariant.files c.requires

pub loop-bytes-preserved : goal.loop-bytes-preserved
loop-bytes-preserved g c = record {
  files = hash_added (λ v. v.items) c.args.files.now c.loop-bytes.files c.add_filled.new.files c.args.at c.loop-bytes.tag c.loop-bytes.yielded c.in-Some.bytes c.loop-bytes.invariant.tag c.loop-bytes.invariant.files c.in_ok-add_filled.ensures;
  tag = omega (arith, c.loop-bytes.invariant.tag, length-append c.loop-bytes.yielded (c.in-Some.bytes ∷ []));
}
