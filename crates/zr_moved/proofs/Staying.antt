-- What tells where the units of removed devices have moved stays while the metadata reads as it did.
use Rattle.std.proofs.Common.{◌≡◌, ◌<◌, ℕ, List, sym, subst, arith}
use Rattle.std.specs.Prelude.{All}
use Rattle.zr_base.specs.Words.{words}
use Rattle.zr_base.specs.declared.space.Dva.{Dva}
use Rattle.zr_bptr.specs.declared.Bptr.{Bptr}
use Rattle.zr_bptr.specs.declared.Ptr.{Ptr}
use Rattle.zr_bptr.specs.declared.Tree.{Tree}
use Rattle.zr_image.specs.Reading.{store_of}
use Rattle.zr_meta.specs.Heads.{head_bytes}
use Rattle.zr_root.proofs.Beside.{bytes_beside}
use Rattle.zr_root.proofs.Standing.{blocks_within}
use Rattle.zr_rules.specs.Space.{Space}
use Rattle.zr_space.specs.Drops.{IsMeta}
use Rattle.zr_store.proofs.Meeting.{at_each}
use Rattle.zr_store.specs.Store.{hits, one_at}
use Rattle.zr_sync.specs.Mappings.{mapping_stream, words_at}
use Rattle.zr_sync.specs.Moves.{StandsInMeta, StandsMapping, TellsMoves}
use Rattle.zr_sync.specs.Streams.{streams_at}
use Rattle.zr_sync.specs.declared.mappings.MappingStream.{MappingStream}
use Rattle.zr_sync.specs.declared.open.OpenPool.{OpenPool}
use Rattle.zr_tree.proofs.Others.{keeps}
use Rattle.zr_tree.specs.Trees.{tree_reach}
use Rattle.zr_vdev.specs.Runs.{view_of}
use Rattle.zr_view.specs.Views.{View, address_bytes}

-- ---- one tree

module _ (s : Space) (then now : View) (same : (a : Dva) → IsMeta s a → address_bytes now a ≡ address_bytes then a) where
  -- a block of a tree of metadata reads as it did
  block_stays : (t : Tree) → All (λ (b : Bptr). IsMeta s b.at) (tree_reach (store_of then) t) → (b : Bptr) → 0 < hits (tree_reach (store_of then) t) b.at → (store_of now).bytes b ≡ (store_of then).bytes b
  block_stays t all b met = same b.at (at_each (IsMeta s) (tree_reach (store_of then) t) b.at all met)

  reach_stays : (t : Tree) → All (λ (b : Bptr). IsMeta s b.at) (tree_reach (store_of then) t) → tree_reach (store_of now) t ≡ tree_reach (store_of then) t
  reach_stays t all =
      (keeps (store_of then) (store_of now) t (λ b met. block_stays t all b (let within = blocks_within (store_of then) t (one_at b.at) in omega (arith, within, met)))).same_reach

  pub tree_stays : (t : Tree) (bytes : List ℕ) → StandsInMeta s then t bytes → StandsInMeta s now t bytes
  tree_stays t bytes h = record {
    stands = bytes_beside (store_of then) (store_of now) t bytes (block_stays t h.blocks) h.stands;
    blocks = subst (λ (bs : List Bptr). All (λ (b : Bptr). IsMeta s b.at) bs) (sym (reach_stays t h.blocks)) h.blocks;
  }

-- ---- all that tells

module _ (disks image : List (List ℕ)) (pool : OpenPool) (root : Ptr) (len : ℕ) (same : (a : Dva) → IsMeta pool.space a → address_bytes (view_of image pool.table.slots pool.space) a ≡ address_bytes (view_of disks pool.table.slots pool.space) a) where
  stays : (t : Tree) (bytes : List ℕ) → StandsInMeta pool.space (view_of disks pool.table.slots pool.space) t bytes → StandsInMeta pool.space (view_of image pool.table.slots pool.space) t bytes
  stays = tree_stays pool.space (view_of disks pool.table.slots pool.space) (view_of image pool.table.slots pool.space) same

  mapping_stays : (dev : ℕ) (which : MappingStream) → StandsMapping disks pool dev which → StandsMapping image pool dev which
  mapping_stays dev which m = record { count = m.count; stands = stays (mapping_stream which (streams_at pool dev)).tree (words (words_at pool dev which)) m.stands }

  pub moves_stay : TellsMoves disks pool root len → TellsMoves image pool root len
  moves_stay m = record {
    head = m.head;
    lawful = m.lawful;
    same = m.same;
    streams = m.streams;
    stands = λ t is. stays t (head_bytes m.head) (m.stands t is);
    spelled = m.spelled;
    mappings = λ dev which lt gone. mapping_stays dev which (m.mappings dev which lt gone);
  }
