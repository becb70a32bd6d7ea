use Rattle.std.proofs.Common.{◌≡◌, ◌+◌, ◌*◌, length, map}
use Rattle.carrier_model.specs.FileTrees.{streams_from}
use Rattle.cfb_list.specs.Grown.{grown}
use Rattle.msg_nameid.specs.Gathered.{hash_files}
use Rattle.msg_nameid.proofs.writing.add_hashes.Given as goal

abbrev pub invariant-loop-bytes : goal.invariant-loop-bytes
invariant-loop-bytes g l = record { files : l.files ≡ record l.fn.files { storages = grown l.fn.files.storages l.at (streams_from (hash_files (map (λ v. v.items) l.yielded))) }; tag : l.tag ≡ (0x1000 + length l.yielded) * 65536 + 0x0102 }
