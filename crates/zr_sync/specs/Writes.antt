-- What the steps of a commit do.
use Rattle.std.specs.Prelude.{◌≡◌, ℕ, List, length}
use Rattle.zr_shelf.specs.Counts.{Counts, NoneFell}
use Rattle.zr_shelf.specs.Doings.{DoesOnly, WritesOnly}
use Rattle.zr_shelf.specs.Moments.{World}
use Rattle.zr_rules.specs.Space.{Space}
use Rattle.zr_vdev.specs.Stores.{Continues, IsWriteInto, KeepsOthers}
use Rattle.zr_vdev.specs.declared.kind.Kind.TheVariants.{Block, Meta}
use Rattle.zr_sync.specs.Copies.{KeepsCopies}
use Rattle.zr_sync.specs.declared.open.OpenPool.{OpenPool}

-- Metadata was written and given back: the space, the cache and the streams changed, and all else of the pool is the same.
pub record WritesMetadata (sizes_old sizes_new : List ℕ) (counts_old counts_new : Counts) (told_old told_new : Type 0) (before now : World) (old new : OpenPool) : Type 0 where
  pub goes : Continues Meta old.table.slots sizes_old sizes_new counts_old counts_new told_old told_new before now old.space new.space old.cache new.cache
  pub rest : new ≡ record old { space = new.space; cache = new.cache; streams = new.streams; cond = new.cond }
  pub count : length new.streams.items ≡ length old.streams.items

-- The trees were written: the space, the cache and the directory changed, and all else of the pool is the same.
pub record WritesTrees (sizes_old sizes_new : List ℕ) (counts_old counts_new : Counts) (told_old told_new : Type 0) (before now : World) (old new : OpenPool) : Type 0 where
  pub goes : Continues Block old.table.slots sizes_old sizes_new counts_old counts_new told_old told_new before now old.space new.space old.cache new.cache
  pub rest : new ≡ record old { space = new.space; cache = new.cache; dir = new.dir }

-- Blocks of objects were read, put or freed: the space, the cache and the group changed, and all else of the pool is the same.
pub record WritesBlocks (sizes_old sizes_new : List ℕ) (counts_old counts_new : Counts) (told_old told_new : Type 0) (before now : World) (old new : OpenPool) : Type 0 where
  pub goes : Continues Block old.table.slots sizes_old sizes_new counts_old counts_new told_old told_new before now old.space new.space old.cache new.cache
  pub rest : new ≡ record old { space = new.space; cache = new.cache; group = new.group }
  pub txg : new.group.txg ≡ old.group.txg

-- nothing was done but writes to the disks and flushes
abbrev pub WorksOnDisks : World → World → Type 0
WorksOnDisks before now = DoesOnly (λ _. Unit {0}) before now

-- nothing was written but units that were free, or that the open group had allocated
abbrev pub WritesIntoFree : OpenPool → World → World → Type 0
WritesIntoFree pool before now = WritesOnly (IsWriteInto Block pool.table.slots pool.space) before now

-- All blocks of a root were written, those of trees and then those of metadata: the space, the cache, the directory and the streams changed, and all else of the
-- pool is the same.
pub record WritesAll (sizes_old sizes_new : List ℕ) (counts_old counts_new : Counts) (told_old told_new : Type 0) (before now : World) (old new : OpenPool) : Type 0 where
  pub sizes : sizes_new ≡ sizes_old
  pub none_fell : NoneFell counts_old counts_new
  pub told : told_old → told_new
  pub disks : told_old → WorksOnDisks before now
  pub written : told_old → WritesIntoFree old before now
  pub copies : told_old → KeepsCopies before now old new
  pub mid : Space
  pub blocks : KeepsOthers Block old.space mid
  pub metadata : KeepsOthers Meta mid new.space
  pub rest : new ≡ record old { space = new.space; cache = new.cache; dir = new.dir; streams = new.streams; cond = new.cond }
