-- What the errors of the layers below mean for a commit.
use Rattle.zr_store.specs.declared.StoreErr.{StoreErr}
use Rattle.zr_store.specs.declared.StoreErr.TheVariants as store
use Rattle.zr_scan.specs.declared.error.ScanErr.{ScanErr}
use Rattle.zr_scan.specs.declared.error.ScanErr.TheVariants as scan
use Rattle.zr_base.specs.declared.refusal.Refusal.TheVariants as refusal
use Rattle.zr_sync.specs.declared.fault.Fault.{Fault}
use Rattle.zr_sync.specs.declared.fault.Fault.TheVariants.{No, Stops}
use Rattle.zr_sync.specs.declared.stop.Stop.{Stop}
use Rattle.zr_sync.specs.declared.stop.Stop.TheVariants.{DiskFault, Damaged, NoMemory}

-- a block that does not resolve, or is no spelling of what should stand there, is told with its own sum twice
abbrev pub stop_of : StoreErr → Stop
stop_of store.Failed = DiskFault
stop_of (store.Damaged at expected found) = Damaged at expected found
stop_of (store.Unresolved at expected) = Damaged at expected expected
stop_of (store.Malformed at expected) = Damaged at expected expected
stop_of (store.NoRun needed longest) = NoMemory
stop_of store.NoMemory = NoMemory

abbrev pub stop_of_scan : ScanErr → Stop
stop_of_scan scan.Failed = DiskFault
stop_of_scan scan.NoMemory = NoMemory

-- what the errors of the layers below mean for a command: a missing run and a damaged block are answers
abbrev pub fault_of : StoreErr → Fault
fault_of store.Failed = Stops DiskFault
fault_of (store.Damaged at expected found) = No (refusal.Damaged at expected found)
fault_of (store.Unresolved at expected) = No (refusal.Damaged at expected expected)
fault_of (store.Malformed at expected) = No (refusal.Damaged at expected expected)
fault_of (store.NoRun needed longest) = No (refusal.NoRun needed longest)
fault_of store.NoMemory = Stops NoMemory
