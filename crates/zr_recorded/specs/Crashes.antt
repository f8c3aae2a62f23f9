-- What a crash shows of a pool.
use Rattle.std.specs.Prelude.{◌≡◌, ℕ, List}
use Rattle.zr_model.specs.Objects.{Objects}
use Rattle.zr_model.specs.State.{PoolState}
use Rattle.zr_open.specs.Shown.{Shows}
use Rattle.zr_shelf.specs.Disks.{MayLeave, Stand}

-- whatever a crash leaves shows a pool, and it has these objects
abbrev pub ShowsPool : List (List ℕ) → Objects → Stand → Type 0
ShowsPool paths objects stand = (image : List (List ℕ)) → MayLeave stand image → (p : PoolState) × Shows paths image p × (p.objects ≡ objects)
