-- Metadata that is given back beside what a commit writes.
use Rattle.std.proofs.Common.{◌≡◌, ℕ, ◌+◌, ◌<◌, Bool, true, false, List, refl, sym, ap, subst, arith, if◌then◌else◌}
use Rattle.zr_rules.specs.Space.{Space}
use Rattle.zr_shelf.specs.Counts.{Counts}
use Rattle.zr_shelf.specs.Moments.{World}
use Rattle.zr_space.specs.Metadata.{GivesMeta, HasNoMeta, meta_left}
use Rattle.zr_vdev.specs.Stores.{KeepsOthers}
use Rattle.zr_vdev.specs.declared.kind.Kind.TheVariants.{Meta}
use Rattle.zr_vdev.proofs.Alike.{copies_stay, metadata_no_copy}
use Rattle.zr_vdev.proofs.Follows.{gives_others, others_more, rows_devices, space_step}
use Rattle.zr_vdev.proofs.Held.{read_same}
use Rattle.zr_sync.specs.Pools.{IsOpen}
use Rattle.zr_sync.specs.Writes.{WritesMetadata}
use Rattle.zr_sync.specs.declared.open.OpenPool.{OpenPool}
use Rattle.zr_sync.proofs.Pools.{metadata_open}

-- ---- on one device

gives_run : (old new : Space) (dev : ℕ) → GivesMeta old new dev → KeepsOthers Meta old new
gives_run old new dev g = gives_others Meta old new g.at 0 g.meta.is (g.drops, g.parts)

pub leave_step : (first mid new : Space) (dev : ℕ) (b : Bool) → KeepsOthers Meta first mid → (b ≡ true → GivesMeta mid new dev) → (b ≡ false → (new ≡ mid) × HasNoMeta mid dev) → KeepsOthers Meta first new
leave_step first mid new dev true others did left = others_more Meta first mid new others (gives_run mid new dev (did refl))
leave_step first mid new dev false others did left = let n = left refl in subst (KeepsOthers Meta first) (sym n.0) others

pub none_step : (mid new : Space) (dev : ℕ) (b : Bool) → (b ≡ false → (new ≡ mid) × HasNoMeta mid dev) → b ≡ false → HasNoMeta new dev
none_step mid new dev b left is = let n = left is in subst (λ (s : Space). HasNoMeta s dev) (sym n.0) n.1

pub less_step : (mid new : Space) (dev : ℕ) (b : Bool) → (b ≡ true → GivesMeta mid new dev) → (b ≡ false → (new ≡ mid) × HasNoMeta mid dev) → meta_left new + (if b then 1 else 0) < meta_left mid + 1
less_step mid new dev true did left = let g = did refl in let less = g.less in omega (arith, less)
less_step mid new dev false did left = let n = left refl in let same = ap (λ (s : Space). meta_left s) n.0 in omega (arith, same)

-- ---- in a pool

-- a step that leaves all but the space
pub space_wrote : (n : List ℕ) (c : Counts) (t : Type 0) (w : World) (x y : OpenPool) → KeepsOthers Meta x.space y.space → y ≡ record x { space = y.space } → WritesMetadata n n c c t t w w x y
space_wrote n c t w x y others rest =
    subst (WritesMetadata n n c c t t w w x) (sym rest)
    (record {
      goes = space_step Meta x.table.slots n c t w x.space y.space x.cache x.cache others (λ disks read. read_same disks x.table.slots x.space y.space x.cache (rows_devices x.space y.space others.rows) read) (λ disks stand. copies_stay disks x.table.slots x.space y.space (metadata_no_copy x.space y.space others) stand) refl;
      rest = refl;
      count = refl;
    })

pub space_open : (n : List ℕ) (c : Counts) (t : Type 0) (w : World) (x y : OpenPool) → IsOpen n x → KeepsOthers Meta x.space y.space → y ≡ record x { space = y.space } → IsOpen n y
space_open n c t w x y o others rest =
    subst (IsOpen n) (sym rest)
    (metadata_open n n c c t t w w x (record x { space = y.space }) o (space_wrote n c t w x (record x { space = y.space }) others refl) o.streams o.cond)
