-- The blocks of the trees of a pool's streams are the metadata of its current root.
use Rattle.std.proofs.Common.{◌≡◌, ◌∙◌, inl, inr, ℕ, ◌<◌, ◌≤◌, ◌++◌, Bool, true, false, List, refl, arith}
use Rattle.std.specs.List.{sum_by}
use Rattle.zr_base.specs.declared.space.Dva.{Dva}
use Rattle.zr_beside.specs.Beside.{Standing, blocks_of, rows_of}
use Rattle.zr_bptr.specs.declared.Bptr.{Bptr}
use Rattle.zr_rules.specs.Equation.{devices_in, live_hits}
use Rattle.zr_rules.specs.Places.{one_if}
use Rattle.zr_rules.specs.Resolve.{resolve_hits}
use Rattle.zr_rules.specs.Space.{role_at}
use Rattle.zr_sync.specs.Streams.{streams_at}
use Rattle.zr_sync.specs.Trees.{Place, Stage, HasMetaUnits, HasTrees, HoldsStreams, cond_trees, device_trees}
use Rattle.zr_sync.specs.Trees.Stage.{Had}
use Rattle.zr_sync.specs.declared.mappings.MappingStream.{MappingStream}
use Rattle.zr_sync.specs.declared.open.OpenPool.{OpenPool}
use Rattle.zr_vdev.proofs.Leading.{zero_or}
use Rattle.zr_vdev.proofs.Moves.{weight_of}
use Rattle.zr_vdev.specs.Stores.{addresses_of, is_current}

one_where : (is : Bool) (n : ℕ) → n ≤ 1 → (is ≡ true → 0 < n) → (0 < n → is ≡ true) → n ≡ one_if is
one_where true n few some led = let more = some refl in omega (arith, few, more)
one_where false n few some led = elim (zero_or n) [
  | inl none ↦ none
  | inr more ↦ absurd (let e = led more in cc)
]

module _ (stage : ℕ → Place → Stage) (cond : MappingStream → Stage) (others : List Standing) (tells : Type 0) (disks : List (List ℕ)) (pool : OpenPool) (h : HoldsStreams stage cond others tells disks pool) where
  abbrev all : List Standing
  all = rows_of (λ dev. device_trees (streams_at pool dev) (h.words dev)) pool.table.count ++ (cond_trees pool.cond h.cond ++ others)

  -- the blocks of the trees weigh what is stored weighs
  same : (f : Dva → ℕ) → sum_by f (addresses_of (blocks_of h.stored all)) ≡ sum_by f (addresses_of h.stored.pointers)
  same f =
      let most = h.beside.stored (λ (b : Bptr). f b.at) in
      let least = h.beside.whole (λ (b : Bptr). f b.at) in
      let x = weight_of f (blocks_of h.stored all) in
      let y = weight_of f h.stored.pointers in
      omega (arith, most, least, x, y)

  -- to each unit of metadata of the current root one of them leads, and none to another
  pub trees_once : (d u : ℕ) → live_hits (devices_in pool.space) (addresses_of (blocks_of h.stored all)) d u ≡ one_if (is_current (role_at pool.space d u))
  trees_once d u =
      same (λ (a : Dva). resolve_hits (devices_in pool.space) a d u)
      ∙ one_where (is_current (role_at pool.space d u)) (live_hits (devices_in pool.space) (addresses_of h.stored.pointers) d u) (h.held.once d u) (h.held.all.used d u) (h.held.all.current d u)

pub meta_units : (disks : List (List ℕ)) (pool : OpenPool) → HasTrees Had (Unit {0}) disks pool → HasMetaUnits disks pool
meta_units disks pool h = record { bytes = h.0; streams = h.1; once = trees_once _ _ _ (Unit {0}) disks pool h.1 }
