-- The streams that a commit has written tell where the units of removed devices have moved.
use Rattle.std.proofs.Common.{◌≡◌, ◌∙◌, ◌⊎◌, inl, inr, ℕ, ◌<◌, Bool, true, false, List, [], ◌∷◌, ◌++◌, length, None, refl, sym, ap, subst, arith}
use Rattle.std.specs.Prelude.{All}
use Rattle.zr_base.specs.Words.{words}
use Rattle.zr_base.specs.declared.space.DevRow.{DevRow}
use Rattle.zr_base.specs.declared.space.DevState.{DevState}
use Rattle.zr_base.specs.declared.space.DevState.TheVariants.{On, Leaving, Gone}
use Rattle.zr_beside.specs.Beside.{Standing}
use Rattle.zr_bptr.specs.declared.Bptr.{Bptr}
use Rattle.zr_bptr.specs.declared.Ptr.{Ptr}
use Rattle.zr_bptr.specs.declared.Ptr.TheVariants.{Hole, At}
use Rattle.zr_bptr.specs.declared.Tree.{Tree}
use Rattle.zr_image.specs.Reading.{store_of}
use Rattle.zr_label.specs.Blocks.{IsMetaRoot}
use Rattle.zr_meta.specs.declared.Stream.{Stream}
use Rattle.zr_objset.proofs.Keeping.{tree_same}
use Rattle.zr_root.proofs.Beside.{bytes_beside}
use Rattle.zr_root.proofs.Words.{one_height}
use Rattle.zr_root.specs.Streams.{HasBytes, IsTreeFor}
use Rattle.zr_space.specs.Drops.{IsMeta}
use Rattle.zr_store.proofs.Meeting.{at_each}
use Rattle.zr_store.specs.Store.{AreStored, hits, one_at}
use Rattle.zr_tree.proofs.Frames.{Agree}
use Rattle.zr_tree.specs.Trees.{tree_reach}
use Rattle.zr_vdev.specs.Runs.{view_of}
use Rattle.zr_vdev.specs.Stores.{IsStoredAt}
use Rattle.zr_vdev.specs.declared.kind.Kind.TheVariants.{Meta}
use Rattle.zr_sync.specs.Heads.{HasHead, cond_at, cond_streams, head_of, streams_of, told_of}
use Rattle.zr_sync.specs.Mappings.{mapping_stream, words_at}
use Rattle.zr_sync.specs.Moves.{StandsInMeta, StandsMapping, TellsMoves}
use Rattle.zr_sync.specs.Streams.{streams_at}
use Rattle.zr_sync.specs.Trees.{HasTrees, HoldsStreams, IsAt, MaySpell, Place, Stage, every, head_tree, one_stage, settling}
use Rattle.zr_sync.specs.Trees.Place.{OfMapping}
use Rattle.zr_sync.specs.Trees.Stage.{Written, Recorded}
use Rattle.zr_sync.specs.declared.mappings.MappingStream.{MappingStream}
use Rattle.zr_sync.specs.declared.mappings.MappingStream.TheVariants.{Entries}
use Rattle.zr_sync.specs.declared.open.DeviceStreams.{DeviceStreams}
use Rattle.zr_sync.specs.declared.open.OpenPool.{OpenPool}
use Rattle.zr_sync.proofs.HeadTrees.{head_is_stored}
use Rattle.zr_sync.proofs.Safe.{all_met}
use Rattle.zr_sync.proofs.TreeRows.{place_stands}

-- ---- a head of the second form tells of all streams

pub all_told : (rows : List DevRow) (devices : List DeviceStreams) → told_of 2 rows devices ≡ streams_of rows devices
all_told [] devices = refl
all_told (r ∷ rows) [] = refl
all_told (r ∷ rows) (d ∷ devices) = (elim r.state as (λ (s : DevState). told_of 2 (record r { state = s } ∷ rows) (d ∷ devices) ≡ streams_of (record r { state = s } ∷ rows) (d ∷ devices)) [
  | On ↦ ap (λ (ss : List Stream). d.held ∷ d.kept ∷ d.late1 ∷ d.late2 ∷ ss) (all_told rows devices)
  | Leaving ↦ ap (λ (ss : List Stream). d.held ∷ d.kept ∷ d.entries ∷ d.counts ∷ d.fresh ∷ d.late1 ∷ d.late2 ∷ ss) (all_told rows devices)
  | Gone ↦ ap (λ (ss : List Stream). d.entries ∷ d.counts ∷ d.fresh ∷ ss) (all_told rows devices)
])

-- ---- one tree for a root

-- the root of a head has a tree
pub root_tree : (root : Ptr) (len : ℕ) → IsMetaRoot root len → (t : Tree) × IsTreeFor len root t
root_tree Hole len is = absurd is
root_tree (At b) len is = (record { root = At b; height = b.level }, (refl, is.2))

-- and no other
one_tree : (root : Ptr) (len : ℕ) (a b : Tree) → IsTreeFor len root a → IsTreeFor len root b → a ≡ b
one_tree root len a b is same =
    ap (λ (r : Ptr). make r a.height) (is.0 ∙ sym same.0) ∙ ap (λ (h : ℕ). make b.root h) (one_height _ a.height b.height is.1 same.1)
  where
    make : Ptr → ℕ → Tree
    make r h = record { root = r; height = h }

-- ---- what stands in metadata

-- the stream of a mapping that is written has all its words
mapping_told : (s : Stage) (pool : OpenPool) (dev : ℕ) (which : MappingStream) (ws : List ℕ) → (s ≡ Written) ⊎ (s ≡ Recorded) → IsAt s pool dev (OfMapping which) ws → (ws ≡ words_at pool dev which) × MaySpell pool dev
mapping_told s pool dev which ws (inl is) at = subst (λ (q : Stage). IsAt q pool dev (OfMapping which) ws) is at
mapping_told s pool dev which ws (inr is) at = subst (λ (q : Stage). IsAt q pool dev (OfMapping which) ws) is at

module _ (stage : ℕ → Place → Stage) (cond : MappingStream → Stage) (others : List Standing) (tells : Type 0) (disks : List (List ℕ)) (pool : OpenPool) (h : HoldsStreams stage cond others tells disks pool) where
  module _ (t : Tree) (stored : AreStored (tree_reach h.stored t) h.stored) where
    there : (b : Bptr) → 0 < hits (tree_reach h.stored t) b.at → IsStoredAt Meta pool.space None b.at
    there b met = let all = stored (one_at b.at) in at_each (IsStoredAt Meta pool.space None) h.stored.pointers b.at h.held.stored (omega (arith, all, met))

    agree : Agree h.stored (store_of (view_of disks pool.table.slots pool.space)) (tree_reach h.stored t)
    agree = record { same = λ b met. sym (h.held.there b (there b met)) }

    reach : tree_reach (store_of (view_of disks pool.table.slots pool.space)) t ≡ tree_reach h.stored t
    reach = (tree_same h.stored (store_of (view_of disks pool.table.slots pool.space)) t agree).same_reach

    -- the blocks of a tree that is stored are metadata on the disks
    blocks_in_meta : All (λ (b : Bptr). IsMeta pool.space b.at) (tree_reach (store_of (view_of disks pool.table.slots pool.space)) t)
    blocks_in_meta = subst (All (λ (b : Bptr). IsMeta pool.space b.at)) (sym reach) (all_met (IsMeta pool.space) (tree_reach h.stored t) (λ b met. (there b met).used))

    bytes_in_meta : (bytes : List ℕ) → HasBytes h.stored t bytes → StandsInMeta pool.space (view_of disks pool.table.slots pool.space) t bytes
    bytes_in_meta bytes has = record {
      stands = bytes_beside h.stored (store_of (view_of disks pool.table.slots pool.space)) t bytes (λ b met. sym (h.held.there b (there b met))) has;
      blocks = blocks_in_meta;
    }

  -- the mapping of a device
  mapping_stands : (dev : ℕ) (which : MappingStream) → dev < pool.table.count → (stage dev (OfMapping which) ≡ Written) ⊎ (stage dev (OfMapping which) ≡ Recorded) → StandsMapping disks pool dev which
  mapping_stands dev which below told =
      let is = (mapping_told (stage dev (OfMapping which)) pool dev which (h.words dev (OfMapping which)) told (h.are dev (OfMapping which) below)).0 in
      let stands = place_stands stage cond others tells disks pool h dev (OfMapping which) below in
      let view = view_of disks pool.table.slots pool.space in
      record {
        count = ap (λ (ws : List ℕ). length ws) (sym is) ∙ h.counts dev (OfMapping which) below;
        stands = subst (λ (ws : List ℕ). StandsInMeta pool.space view (mapping_stream which (streams_at pool dev)).tree (words ws)) is (bytes_in_meta (mapping_stream which (streams_at pool dev)).tree stands.0 (words (h.words dev (OfMapping which))) stands.1.bytes);
      }

  mapping_spelled : (dev : ℕ) → dev < pool.table.count → (stage dev (OfMapping Entries) ≡ Written) ⊎ (stage dev (OfMapping Entries) ≡ Recorded) → MaySpell pool dev
  mapping_spelled dev below told = (mapping_told (stage dev (OfMapping Entries)) pool dev Entries (h.words dev (OfMapping Entries)) told (h.are dev (OfMapping Entries) below)).1

-- ---- a pool whose mappings are written

module _ (stage : ℕ → Place → Stage) (cond : MappingStream → Stage) (tells : Type 0) (disks : List (List ℕ)) (pool : OpenPool) (root : Ptr) (len : ℕ) (told : (dev : ℕ) (which : MappingStream) → (stage dev (OfMapping which) ≡ Written) ⊎ (stage dev (OfMapping which) ≡ Recorded)) (has : HasHead disks pool root len) where
  moves_told : (next : List ℕ) (t : Tree) → IsTreeFor len root t → HoldsStreams stage cond (head_tree t next) tells disks pool → TellsMoves disks pool root len
  moves_told next t tall h = record {
    head = head_of pool;
    lawful = has.lawful;
    same = refl;
    streams = ap (λ (ss : List Stream). ss ++ cond_streams (cond_at pool.space.parts.cond) pool.cond) (all_told _ pool.streams.items);
    stands = λ u is. record {
      stands = has.stands u is;
      blocks = subst (λ (w : Tree). All (λ (b : Bptr). IsMeta pool.space b.at) (tree_reach (store_of (view_of disks pool.table.slots pool.space)) w)) (one_tree root len t u tall is)
          (blocks_in_meta stage cond (head_tree t next) tells disks pool h t (head_is_stored stage cond tells disks pool t next [] h));
    };
    spelled = λ dev below gone. mapping_spelled stage cond (head_tree t next) tells disks pool h dev below (told dev Entries);
    mappings = λ dev which below gone. mapping_stands stage cond (head_tree t next) tells disks pool h dev which below (told dev which);
  }

settled_mapping : (first : Stage) (reset : Bool) (count dev : ℕ) (which : MappingStream) → settling first reset count dev (OfMapping which) ≡ Written
settled_mapping first true count dev which = refl
settled_mapping first false count dev which = refl

-- before the root is published
pub written_moves : (first : Stage) (reset : Bool) (count : ℕ) (tells : Type 0) (disks : List (List ℕ)) (pool : OpenPool) (root : Ptr) (len : ℕ) → IsMetaRoot root len → HasHead disks pool root len
    → (next : List ℕ) × ((t : Tree) → IsTreeFor len root t → HoldsStreams (settling first reset count) (one_stage Written) (head_tree t next) tells disks pool) → TellsMoves disks pool root len
written_moves first reset count tells disks pool root len is has wrote =
    let tree = root_tree root len is in
    moves_told (settling first reset count) (one_stage Written) tells disks pool root len (λ dev which. inl (settled_mapping first reset count dev which)) has wrote.0 tree.0 tree.1 (wrote.1 tree.0 tree.1)

-- and once the group has ended
pub recorded_moves : (tells : Type 0) (disks : List (List ℕ)) (pool : OpenPool) (root : Ptr) (len : ℕ) → IsTreeFor len root pool.head → HasHead disks pool root len → HasTrees Recorded tells disks pool → TellsMoves disks pool root len
recorded_moves tells disks pool root len tall has trees = moves_told (every Recorded) (one_stage Recorded) tells disks pool root len (λ dev which. inr refl) has trees.0 pool.head tall trees.1
