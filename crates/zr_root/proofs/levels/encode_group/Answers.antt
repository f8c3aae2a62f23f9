use Rattle.std.specs.List.{sum_by}
use Rattle.zr_bptr.specs.Spelling.{fill_of}
use Rattle.zr_tree.proofs.Spelled.{spelled}
use Rattle.zr_root.proofs.levels.encode_group.Goals as goal

pub returns-clause-pointers : goal.returns-clause-pointers
returns-clause-pointers c = spelled c.in_ok-bytes.bytes.items c.args.below (sum_by fill_of c.args.pointers.now) c.args.pointers.now c.in_ok-bytes.ensures.spelling
