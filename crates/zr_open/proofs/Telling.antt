-- A pool that is opened tells where the units of removed devices have moved.
use Rattle.std.proofs.Common.{◌≡◌, ℕ, ◌<◌, ◌≤◌, List, [], ◌∷◌, ◌++◌, length, take, None, sym, ◌∙◌, ap, subst, arith}
use Rattle.std.specs.Prelude.{All}
use Rattle.std.specs.List.{sum_by}
use Rattle.std.proofs.lemmas.List.Elements.{All-cons, All-head, All-nil, All-weaker}
use Rattle.std.proofs.lemmas.List.Sums.{sum_by-cons}
use Rattle.zr_base.specs.Words.{words}
use Rattle.zr_base.specs.declared.space.DevPart.{DevPart}
use Rattle.zr_base.specs.declared.space.DevRow.{DevRow}
use Rattle.zr_base.specs.declared.space.Dva.{Dva}
use Rattle.zr_beside.proofs.Staying.{all_back, weigh_first, weigh_two}
use Rattle.zr_beside.specs.Beside.{Standing, Stands as StandsIn, of_tree, rows_of as trees_of}
use Rattle.zr_bptr.specs.declared.Bptr.{Bptr}
use Rattle.zr_bptr.specs.declared.Ptr.{Ptr}
use Rattle.zr_bptr.specs.declared.Ptr.TheVariants.{Hole, At}
use Rattle.zr_bptr.specs.declared.Tree.{Tree}
use Rattle.zr_image.specs.Reading.{store_of}
use Rattle.zr_image.specs.Roots.{head_tree, rows_of}
use Rattle.zr_import.specs.declared.roots.Root.{Root}
use Rattle.zr_label.specs.Blocks.{IsMetaRoot, IsUber}
use Rattle.zr_label.specs.declared.root.Uber.{Uber}
use Rattle.zr_meta.specs.Heads.{IsHead, head_bytes}
use Rattle.zr_root.proofs.Beside.{bytes_beside}
use Rattle.zr_root.proofs.Standing.{blocks_within}
use Rattle.zr_root.proofs.Words.{one_height}
use Rattle.zr_root.specs.Streams.{HasBytes, IsTreeFor}
use Rattle.zr_roots.specs.Standing.{Stands}
use Rattle.zr_rules.specs.Places.{part_of}
use Rattle.zr_space.specs.Drops.{IsMeta}
use Rattle.zr_store.proofs.Keeping.{one_itself}
use Rattle.zr_store.proofs.Meeting.{at_each}
use Rattle.zr_store.specs.Store.{Stored, AreStored, hits, one_at}
use Rattle.zr_sync.proofs.TreeRows.{place_stands}
use Rattle.zr_sync.specs.Heads.{HasDirectory, HasSafeHead, IsInMetadata}
use Rattle.zr_sync.specs.Mappings.{mapping_stream, words_at}
use Rattle.zr_sync.specs.Moves.{StandsInMeta, StandsMapping, TellsMoves}
use Rattle.zr_sync.specs.Pools.{IsOpen}
use Rattle.zr_sync.specs.Streams.{HasMeta, streams_at}
use Rattle.zr_sync.specs.Trees.{cond_trees, device_trees, every, one_stage}
use Rattle.zr_sync.specs.Trees as trees
use Rattle.zr_sync.specs.Trees.Place.{OfMapping}
use Rattle.zr_sync.specs.Trees.Stage.{Had}
use Rattle.zr_sync.specs.declared.mappings.MappingStream.{MappingStream}
use Rattle.zr_sync.specs.declared.mappings.MappingStream.TheVariants.{Entries, Counts}
use Rattle.zr_sync.specs.declared.open.OpenPool.{OpenPool}
use Rattle.zr_tree.proofs.Others.{keeps}
use Rattle.zr_tree.specs.Trees.{tree_reach}
use Rattle.zr_vdev.proofs.Uses.{use_roles}
use Rattle.zr_vdev.specs.Runs.{view_of}
use Rattle.zr_vdev.specs.Stores.{IsStoredAt}
use Rattle.zr_vdev.specs.declared.kind.Kind.TheVariants.{Meta}
use Rattle.zr_view.specs.Views.{address_bytes}
use Rattle.zr_open.proofs.OwnTrees.{HoldsMappings, own_streams, spelled_is}
use Rattle.zr_open.specs.Opened.{IsFresh}
use Rattle.zr_open.specs.Roots.{HasParts}

-- ---- blocks that are stored

-- what holds of each address that is stored holds of these blocks, which are stored
all_stored : (P : Dva → Type 0) (ps : List Bptr) → All (λ (b : Bptr). P b.at) ps → (bs : List Bptr) → ((weight : Bptr → ℕ) → sum_by weight bs ≤ sum_by weight ps) → All (λ (b : Bptr). P b.at) bs
all_stored P ps all [] most = All-nil (λ (b : Bptr). P b.at)
all_stored P ps all (b ∷ bs) most =
    All-cons (λ (x : Bptr). P x.at) b bs
    (at_each P ps b.at all (let m = most (one_at b.at) in let one = one_itself b in let sum = sum_by-cons (one_at b.at) b bs in omega (arith, m, one, sum)))
    (all_stored P ps all bs (λ weight. let m = most weight in let sum = sum_by-cons weight b bs in omega (arith, m, sum)))

-- what stands in a tree whose blocks are stored as metadata stands on the disks, in metadata
module _ (tells : Type 0) (disks : List (List ℕ)) (pool : OpenPool) (s : Stored) (held : HasMeta tells disks pool s) where
  abbrev own : Stored
  own = store_of (view_of disks pool.table.slots pool.space)

  module _ (t : Tree) (bytes : List ℕ) (stored : AreStored (tree_reach s t) s) (stands : HasBytes s t bytes) where
    same : (b : Bptr) → 0 < hits (tree_reach s t) b.at → own.bytes b ≡ s.bytes b
    same b met = sym (held.there b (at_each (IsStoredAt Meta pool.space None) s.pointers b.at held.stored (let m = stored (one_at b.at) in omega (arith, m, met))))

    same_reach : tree_reach own t ≡ tree_reach s t
    same_reach = (keeps s own t (λ b met. same b (let within = blocks_within s t (one_at b.at) in omega (arith, within, met)))).same_reach

    pub stored_stands : StandsInMeta pool.space (view_of disks pool.table.slots pool.space) t bytes
    stored_stands = record {
      stands = bytes_beside s own t bytes same stands;
      blocks = subst (λ (bs : List Bptr). All (λ (b : Bptr). IsMeta pool.space b.at) bs) (sym same_reach) (All-weaker (λ (b : Bptr). IsStoredAt Meta pool.space None b.at) (λ (b : Bptr). IsMeta pool.space b.at) (λ b is. is.used) (tree_reach s t) (all_stored (IsStoredAt Meta pool.space None) s.pointers held.stored (tree_reach s t) stored));
    }

-- ---- the tree of a root

one_tree : (u : Uber) → IsMetaRoot u.root u.len → (t : Tree) → IsTreeFor u.len u.root t → head_tree u ≡ t
one_tree u is t tall = by_root u.root is tall
  where
    with_root : Ptr → ℕ → Tree
    with_root p n = record { root = p; height = n }

    by_root : (root : Ptr) → IsMetaRoot root u.len → IsTreeFor u.len root t → head_tree (record u { root = root }) ≡ t
    by_root Hole meta tall = absurd meta
    by_root (At b) meta tall = ap (λ (p : Ptr). with_root p b.level) (sym tall.0) ∙ ap (λ (n : ℕ). with_root t.root n) (one_height _ b.level t.height meta.2 tall.1)

-- ---- the pool

-- The disks are others now, on which each address reads as on those where the root was read.
module _ (disks seen : List (List ℕ)) (sizes : List ℕ) (u : Uber) (pool : OpenPool) (r : Root) (saved : List Dva) (lawful : IsUber u) (ready : IsOpen sizes pool) (fresh : IsFresh u pool) (is_head : IsHead (rows_of u) r.head) (parts : HasParts r saved pool)
    (stands : Stands disks pool.table.slots u r) (same : (a : Dva) → address_bytes (view_of seen pool.table.slots pool.space) a ≡ address_bytes (view_of disks pool.table.slots pool.space) a) where
  all : HoldsMappings (Unit {0}) seen pool r.head
  all = own_streams (Unit {0}) tt disks seen sizes u pool r saved lawful ready fresh is_head parts stands same

  abbrev rows : List Standing
  rows = trees_of (λ dev. device_trees (streams_at pool dev) (all.streams.words dev)) pool.table.count

  abbrev conds : List Standing
  conds = cond_trees pool.cond all.streams.cond

  abbrev heads : List Standing
  heads = trees.head_tree pool.head (head_bytes r.head)

  -- ---- its head

  head_stored : AreStored (tree_reach all.streams.stored pool.head) all.streams.stored
  head_stored weight =
      let s = all.streams.stored in
      let two = weigh_two s rows (conds ++ heads) weight in
      let three = weigh_two s conds heads weight in
      let last = weigh_first s (of_tree pool.head (head_bytes r.head)) [] weight in
      let most = all.streams.beside.stored weight in
      omega (arith, two, three, last, most)

  head_stands : HasBytes all.streams.stored pool.head (head_bytes r.head)
  head_stands =
      let s = all.streams.stored in
      All-head (StandsIn s) (of_tree pool.head (head_bytes r.head)) [] (all_back (StandsIn s) conds heads (all_back (StandsIn s) rows (conds ++ heads) all.streams.beside.stand))

  head_there : (t : Tree) → IsTreeFor u.len u.root t → StandsInMeta pool.space (view_of seen pool.table.slots pool.space) t (head_bytes r.head)
  head_there t is =
      subst (λ (x : Tree). StandsInMeta pool.space (view_of seen pool.table.slots pool.space) x (head_bytes r.head)) (fresh.head ∙ one_tree u lawful.root t is)
      (stored_stands (Unit {0}) seen pool all.streams.stored all.streams.held pool.head (head_bytes r.head) head_stored head_stands)

  -- ---- its mappings

  all_words : (dev : ℕ) (which : MappingStream) → dev < pool.table.count → all.streams.words dev (OfMapping which) ≡ words_at pool dev which
  all_words dev Entries lt = (all.mapping dev lt).entries_are.spelling
  all_words dev Counts lt = (all.mapping dev lt).counts_are.spelling

  mapping_there : (dev : ℕ) (which : MappingStream) → dev < pool.table.count → StandsMapping seen pool dev which
  mapping_there dev which lt =
      let own = place_stands (every Had) (one_stage Had) heads (Unit {0}) seen pool all.streams dev (OfMapping which) lt in
      let are = all_words dev which lt in
      record {
        count = ap (λ (ns : List ℕ). length ns) (sym are) ∙ own.1.count;
        stands = subst (λ (ns : List ℕ). StandsInMeta pool.space (view_of seen pool.table.slots pool.space) (mapping_stream which (streams_at pool dev)).tree (words ns)) are
            (stored_stands (Unit {0}) seen pool all.streams.stored all.streams.held (mapping_stream which (streams_at pool dev)).tree (words (all.streams.words dev (OfMapping which))) own.0 own.1.bytes);
      }

  pub told_moves : TellsMoves seen pool u.root u.len
  told_moves = record {
    head = r.head;
    lawful = subst (λ (rs : List DevRow). IsHead rs r.head) (sym (ap (λ (n : ℕ). take n pool.table.rows) fresh.count ∙ ap (λ (rs : List DevRow). take u.count rs) fresh.rows)) is_head;
    same = sym parts.dir;
    streams = parts.streams.are;
    stands = head_there;
    spelled = λ dev lt gone. (let p : DevPart = part_of pool.space.parts.devs dev in spelled_is _ _ p.entries p.counts (all.mapping dev lt));
    mappings = λ dev which lt gone. mapping_there dev which lt;
  }

-- ---- what is told of a root

-- where it tells where units have moved, it leads to its directory
pub directory_of : (disks : List (List ℕ)) (pool : OpenPool) (root : Ptr) (len : ℕ) → TellsMoves disks pool root len → HasDirectory disks pool root len
directory_of disks pool root len h = record { head = h.head; lawful = h.lawful; same = h.same; stands = λ t is. (h.stands t is).stands }

-- by a head in units of metadata
pub safe_of : (disks : List (List ℕ)) (pool : OpenPool) (root : Ptr) (len : ℕ) → TellsMoves disks pool root len → HasSafeHead disks pool root len
safe_of disks pool root len h t is =
    All-weaker (λ (b : Bptr). IsMeta pool.space b.at) (λ (b : Bptr). IsInMetadata pool.space b.at) (λ b meta. use_roles Meta pool.space b.at meta) (tree_reach (store_of (view_of disks pool.table.slots pool.space)) t) (h.stands t is).blocks
