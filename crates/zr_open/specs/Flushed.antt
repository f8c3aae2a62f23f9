-- What an import does to the disks.
use Rattle.zr_shelf.specs.Doings.{DoesOnly}
use Rattle.zr_shelf.specs.Moments.{World}

-- nothing was done but flushes
abbrev pub FlushesOnly : World → World → Type 0
FlushesOnly before now = DoesOnly (λ _. ⊥) before now
