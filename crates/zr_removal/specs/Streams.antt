-- Streams that are given back.
use Rattle.std.specs.Prelude.{◌≡◌, ℕ, List}
use Rattle.zr_shelf.specs.Counts.{Counts}
use Rattle.zr_shelf.specs.Moments.{World}
use Rattle.zr_vdev.specs.Stores.{Continues}
use Rattle.zr_vdev.specs.declared.kind.Kind.TheVariants.{Meta}
use Rattle.zr_sync.specs.declared.open.OpenPool.{OpenPool}

-- metadata was given back: the space, the cache and the streams changed, and all else of the pool is the same
pub record GivesStreams (sizes_old sizes_new : List ℕ) (counts_old counts_new : Counts) (told_old told_new : Type 0) (before now : World) (old new : OpenPool) : Type 0 where
  pub goes : Continues Meta old.table.slots sizes_old sizes_new counts_old counts_new told_old told_new before now old.space new.space old.cache new.cache
  pub rest : new ≡ record old { space = new.space; cache = new.cache; streams = new.streams; cond = new.cond }
