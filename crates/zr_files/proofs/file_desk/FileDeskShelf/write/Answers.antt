use Rattle.std.proofs.Common.{◌<◌, length, arith}
use Rattle.std.proofs.lemmas.Result.{on_ok_weaker}
use Rattle.std.proofs.lemmas.List.{length-map}
use Rattle.zr_files.specs.Devices.{has_written}
use Rattle.zr_files.proofs.SameFiles.{same_files, one_changed}
use Rattle.zr_files.proofs.file_desk.FileDeskShelf.write.Goals as goal

pub returns-clause-sizes : goal.returns-clause-sizes
returns-clause-sizes c =
    (same_files c.args.self.now.devices.items c.args.slot c.index_mut.result.now c.write.new.self c.index_mut.ensures.value c.write.ensures.same).sizes

pub returns-clause-moved : goal.returns-clause-moved
returns-clause-moved c =
    let there : c.args.slot < length c.args.self.now.devices.items = omega (arith, length-map c.args.self.now.devices.items (λ f. f.size), c.requires.exists) in
    on_ok_weaker c.write.result
    (one_changed (λ t. has_written t c.args.at (length c.args.bytes.now)) c.args.self.now.devices.items c.args.slot c.index_mut.result.now c.write.new.self there c.index_mut.ensures.value)
    c.write.ensures.moved

pub returns-clause-same : goal.returns-clause-same
returns-clause-same c = same_files c.args.self.now.devices.items c.args.slot c.index_mut.result.now c.write.new.self c.index_mut.ensures.value c.write.ensures.same
