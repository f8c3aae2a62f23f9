use Rattle.std.proofs.Common.{◌≡◌, List, map, take, drop, ◌++◌}
use Rattle.zr_files.specs.declared.file_desk.DeviceFile.{DeviceFile}
use Rattle.zr_files.specs.declared.file_desk.Traffic.{Traffic}
use Rattle.zr_files.specs.Devices.{AreSameFiles, is_synced}
use Rattle.zr_files.proofs.file_desk.sync_each.Given as goal

abbrev pub invariant-loop-device : goal.invariant-loop-device
invariant-loop-device l =
    let traffic : List DeviceFile → List Traffic = λ files. map (λ (f : DeviceFile). f.traffic) files in
    record {
      moved : traffic l.devices ≡ map is_synced (take l.device-index (traffic l.initial.devices)) ++ drop l.device-index (traffic l.initial.devices);
      same : AreSameFiles l.initial.devices l.devices;
      faults : l.faults ≡ l.initial.faults;
    }
