-- A block that was not put.
use Rattle.std.specs.Prelude.{None}
use Rattle.zr_store.specs.declared.StoreErr.{StoreErr}
use Rattle.zr_vdev.specs.declared.writes.NotPut.{NotPut}

-- no units were taken
abbrev pub not_put : StoreErr → NotPut
not_put error = record { error = error; taken = None }
