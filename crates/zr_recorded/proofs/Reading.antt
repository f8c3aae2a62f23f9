-- What stands in the streams of an open pool, as an import reads it on the bare devices.
use Rattle.std.proofs.Common.{◌≡◌, ◌<◌, ℕ, List, sym, ◌∙◌, subst, arith}
use Rattle.zr_beside.specs.Beside.{Standing}
use Rattle.zr_bptr.specs.declared.Bptr.{Bptr}
use Rattle.zr_current.specs.Current.{GoesOnFrom}
use Rattle.zr_image.specs.Reading.{store_of}
use Rattle.zr_label.specs.declared.root.Uber.{Uber}
use Rattle.zr_meta.specs.declared.Stream.{Stream}
use Rattle.zr_open.proofs.Left.{own_image}
use Rattle.zr_open.specs.There.{AreThere}
use Rattle.zr_root.proofs.Beside.{words_beside}
use Rattle.zr_root.specs.Streams.{HasWords}
use Rattle.zr_roots.specs.Standing.{image_of}
use Rattle.zr_rules.specs.Equation.{devices_in}
use Rattle.zr_store.proofs.Meeting.{at_each}
use Rattle.zr_store.specs.Store.{AreStored, Stored, hits, one_at}
use Rattle.zr_sync.proofs.CondTrees.{cond_stands}
use Rattle.zr_sync.proofs.TreeRows.{place_stands}
use Rattle.zr_sync.specs.Mappings.{cond_stream}
use Rattle.zr_sync.specs.Pools.{IsOpen}
use Rattle.zr_sync.specs.Streams.{streams_at}
use Rattle.zr_sync.specs.Trees.{HoldsStreams, Place, Stage, stream_in}
use Rattle.zr_sync.specs.declared.mappings.MappingStream.{MappingStream}
use Rattle.zr_sync.specs.declared.open.OpenPool.{OpenPool}
use Rattle.zr_tree.specs.Trees.{tree_reach}
use Rattle.zr_vdev.specs.Runs.{view_of}
use Rattle.zr_vdev.specs.Stores.{IsStoredAt}
use Rattle.zr_vdev.specs.declared.kind.Kind.TheVariants.{Meta}
use Rattle.zr_view.specs.Views.{address_bytes}
use Rattle.std.specs.Prelude.{None}

-- metadata that is stored reads in the image as on the disks
abbrev pub ReadsMetadata : List (List ℕ) → List (List ℕ) → OpenPool → Type 0
ReadsMetadata disks image pool = (b : Bptr) → IsStoredAt Meta pool.space None b.at → address_bytes (view_of image pool.table.slots pool.space) b.at ≡ address_bytes (view_of disks pool.table.slots pool.space) b.at

module _ (disks image : List (List ℕ)) (sizes : List ℕ) (u : Uber) (pool : OpenPool) (stage : ℕ → Place → Stage) (cond : MappingStream → Stage) (others : List Standing) (tells : Type 0) (ready : IsOpen sizes pool) (there : AreThere (devices_in pool.space)) (from : GoesOnFrom u pool) (same : ReadsMetadata disks image pool) (h : HoldsStreams stage cond others tells disks pool) where
  -- blocks that are stored have the bytes that stand in the image
  alike : (bs : List Bptr) → AreStored bs h.stored → (b : Bptr) → 0 < hits bs b.at → (store_of (view_of image pool.table.slots pool.space)).bytes b ≡ h.stored.bytes b
  alike bs stored b met =
      let all = stored (one_at b.at) in
      let found : 0 < hits h.stored.pointers b.at = omega (arith, all, met) in
      let stands = at_each (IsStoredAt Meta pool.space None) h.stored.pointers b.at h.held.stored found in
      same b stands ∙ sym (h.held.there b stands)

  read : (t : Stream) (ns : List ℕ) → AreStored (tree_reach h.stored t.tree) h.stored → HasWords h.stored t ns → HasWords (image_of image pool.table.slots u) t ns
  read t ns stored has =
      subst (λ (s : Stored). HasWords s t ns) (own_image sizes u pool ready there from image)
      (words_beside h.stored (store_of (view_of image pool.table.slots pool.space)) t ns (alike (tree_reach h.stored t.tree) stored) has)

  pub stream_read : (dev : ℕ) (place : Place) → dev < pool.table.count → HasWords (image_of image pool.table.slots u) (stream_in place (streams_at pool dev)) (h.words dev place)
  stream_read dev place below = let is = place_stands stage cond others tells disks pool h dev place below in read (stream_in place (streams_at pool dev)) (h.words dev place) is.0 is.1

  pub cond_read : (which : MappingStream) → HasWords (image_of image pool.table.slots u) (cond_stream which pool.cond) (h.cond which)
  cond_read which = let is = cond_stands stage cond others tells disks pool h which in read (cond_stream which pool.cond) (h.cond which) is.0 is.1
