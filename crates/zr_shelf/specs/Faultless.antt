-- A desk in memory on which no call has failed yet.
use Rattle.std.specs.Prelude.{◌≡◌}
use Rattle.zr_shelf.specs.declared.mem_desk.MemDesk.{MemDesk}

-- each count of faults is 0
pub record HasNoFault (desk : MemDesk) : Type 0 where
  pub disk : desk.disk_faults ≡ 0
  pub attach : desk.attach_faults ≡ 0
  pub input : desk.input_faults ≡ 0
  pub output : desk.output_faults ≡ 0
