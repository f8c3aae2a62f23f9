-- Where the units of removed devices have moved, as the disks of an open pool tell it.
use Rattle.std.specs.Prelude.{◌≡◌, ℕ, ◌<◌, true, List, ◌++◌, All, length, take}
use Rattle.zr_base.specs.Words.{words}
use Rattle.zr_bptr.specs.declared.Bptr.{Bptr}
use Rattle.zr_bptr.specs.declared.Ptr.{Ptr}
use Rattle.zr_bptr.specs.declared.Tree.{Tree}
use Rattle.zr_image.specs.Reading.{store_of}
use Rattle.zr_meta.specs.Heads.{IsHead, head_bytes}
use Rattle.zr_meta.specs.declared.Head.{Head}
use Rattle.zr_root.specs.Streams.{HasBytes, IsTreeFor}
use Rattle.zr_rules.specs.Places.{is_gone, state_of_dev}
use Rattle.zr_rules.specs.Space.{Space}
use Rattle.zr_space.specs.Drops.{IsMeta}
use Rattle.zr_tree.specs.Trees.{tree_reach}
use Rattle.zr_vdev.specs.Runs.{view_of}
use Rattle.zr_view.specs.Views.{View}
use Rattle.zr_sync.specs.Heads.{cond_streams, told_of}
use Rattle.zr_sync.specs.Mappings.{mapping_stream, words_at}
use Rattle.zr_sync.specs.Streams.{streams_at}
use Rattle.zr_sync.specs.Trees.{MaySpell}
use Rattle.zr_sync.specs.declared.mappings.MappingStream.{MappingStream}
use Rattle.zr_sync.specs.declared.open.OpenPool.{OpenPool}

-- The bytes stand in the tree on the disks, and each of its blocks is metadata of this space.
pub record StandsInMeta (s : Space) (view : View) (t : Tree) (bytes : List ℕ) : Type 0 where
  pub stands : HasBytes (store_of view) t bytes
  pub blocks : All (λ (b : Bptr). IsMeta s b.at) (tree_reach (store_of view) t)

-- the words of a device's mapping stand in its stream, and they are all of them
pub record StandsMapping (disks : List (List ℕ)) (pool : OpenPool) (dev : ℕ) (which : MappingStream) : Type 0 where
  pub count : length (words_at pool dev which) ≡ (mapping_stream which (streams_at pool dev)).words
  pub stands : StandsInMeta pool.space (view_of disks pool.table.slots pool.space) (mapping_stream which (streams_at pool dev)).tree (words (words_at pool dev which))

-- The disks tell where the units of removed devices have moved: at this root stands a head with the pool's directory and its streams, and in those of each removed device the words of its mapping. All of it is metadata, so
-- it lies on devices that are there, and nobody writes over it.
pub record TellsMoves (disks : List (List ℕ)) (pool : OpenPool) (root : Ptr) (len : ℕ) : Type 0 where
  pub head : Head
  pub lawful : IsHead (take pool.table.count pool.table.rows) head
  pub same : head.dir ≡ pool.dir
  pub streams : told_of head.form (take pool.table.count pool.table.rows) pool.streams.items ++ cond_streams head.cond pool.cond ≡ head.streams
  pub stands : (t : Tree) → IsTreeFor len root t → StandsInMeta pool.space (view_of disks pool.table.slots pool.space) t (head_bytes head)
  pub spelled : (dev : ℕ) → dev < pool.table.count → is_gone (state_of_dev pool.space.parts.devs dev) ≡ true → MaySpell pool dev
  pub mappings : (dev : ℕ) (which : MappingStream) → dev < pool.table.count → is_gone (state_of_dev pool.space.parts.devs dev) ≡ true → StandsMapping disks pool dev which
