use Rattle.std.proofs.Common.{◌≡◌, ◌++◌, take}
use Rattle.zr_vdev.specs.Stores.{addresses_of}
use Rattle.zr_tables.proofs.live.put_addresses.Given as goal

abbrev pub invariant-loop-pointer : goal.invariant-loop-pointer
invariant-loop-pointer l = l.out.items ≡ l.fn.out.items ++ addresses_of (take l.pointer-index l.pointers)
