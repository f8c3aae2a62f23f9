use Rattle.std.proofs.Common.{◌<◌, length, get_or, ap, arith, rules}
use Rattle.zr_files.specs.declared.file_desk.DeviceFile.{DeviceFile}
use Rattle.zr_files.proofs.SameFiles.{same_files_more, one_more_synced}
use Rattle.zr_files.proofs.file_desk.sync_each.Goals as goal

pub loop-device-preserved : goal.loop-device-preserved
loop-device-preserved c =
    let l = c.loop-device in
    let there : l.device-index < length c.args.devices.now = omega arith in
    let file = get_or l.devices l.device-index c.device-item.result in
    let here = ap (λ (f : DeviceFile). get_or l.devices l.device-index f) c.device-item.is in
    record {
      moved = one_more_synced _ l.devices l.device-index file c.sync.new.self there l.invariant.moved here c.in_ok-sync.ensures.moved;
      same = same_files_more _ l.devices l.device-index file c.sync.new.self l.invariant.same here c.in_ok-sync.ensures.same;
      faults = search rules;
    }

pub returns-in_err-sync-clause-same : goal.returns-in_err-sync-clause-same
returns-in_err-sync-clause-same c =
    let l = c.loop-device in
    let here = ap (λ (f : DeviceFile). get_or l.devices l.device-index f) c.device-item.is in
    same_files_more _ l.devices l.device-index (get_or l.devices l.device-index c.device-item.result) c.sync.new.self l.invariant.same here c.in_err-sync.ensures.same

pub returns-in_err-sync-clause-faults : goal.returns-in_err-sync-clause-faults
returns-in_err-sync-clause-faults c = let failed = rw c.loop-device.invariant.faults at c.in_err-sync.ensures.faults in search rules
