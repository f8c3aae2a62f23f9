-- What commands do to the objects of an open group.
use Rattle.std.specs.Prelude.{◌≡◌, ◌≢◌, ◌⊎◌, ℕ, ◌+◌, ◌-◌, ◌*◌, ◌/◌, ◌^◌, ◌<◌, Bool, not, nat_lt, List, [], ◌++◌, length, map, filter, filter_map, sum_by, count_by, Contains, if◌then◌else◌, Option, Some, None, is_some, MatchBool}
use Rattle.std.specs.List.{AllZip, AllByRecursion, list_any, range_with_len}
use Rattle.std.specs.Int.{div_ceil}
use Rattle.zr_base.specs.declared.space.Dva.{Dva}
use Rattle.zr_base.specs.declared.space.Policy.{Policy}
use Rattle.zr_base.specs.declared.space.Sizes.{Sizes}
use Rattle.zr_base.specs.declared.refusal.Refusal.TheVariants as refusal
use Rattle.zr_script.specs.declared.reply.Reply.{Reply}
use Rattle.zr_script.specs.declared.reply.Reply.TheVariants as reply
use Rattle.zr_bptr.specs.declared.Bptr.{Bptr}
use Rattle.zr_bptr.specs.declared.Ptr.{Ptr}
use Rattle.zr_bptr.specs.declared.Ptr.TheVariants.{Hole, At}
use Rattle.zr_bptr.specs.declared.ObjRec.{ObjRec}
use Rattle.zr_rules.specs.Devices.{devices_of}
use Rattle.zr_rules.specs.Placement.{HasNoPlacement}
use Rattle.zr_rules.specs.Steps.{touch}
use Rattle.zr_rules.specs.Space.{Space}
use Rattle.zr_rules.specs.Columns.{free_of, free_units, on_units, sizes}
use Rattle.zr_rules.specs.Owed.{owed, slop}
use Rattle.zr_store.specs.Store.{Stored}
use Rattle.zr_txg.specs.Changes.{object_in, change_in, changes_in}
use Rattle.zr_model.specs.Objects.{Object, block_len, bytes_at}
use Rattle.zr_image.specs.Walks.{addresses}
use Rattle.zr_moves.specs.Account.{Account, changed_blocks, changed_objects, record_now, leaf_now, tree_now}
use Rattle.zr_moves.specs.Commits.{AllocatesAll, FreesAll}

-- the blocks that a range of an object meets
abbrev pub touched_blocks : Object → ℕ → ℕ → List ℕ
touched_blocks o off len = range_with_len (off / block_len o) (div_ceil (off + len) (block_len o) - off / block_len o)

-- the block has a byte that is not 0
abbrev pub has_byte : Object → ℕ → Bool
has_byte o i = list_any (λ b. nat_lt 0 b) (bytes_at o.bytes (block_len o * i) (block_len o))

-- of these blocks those that are stored, as the object is then
abbrev pub stored_blocks : Object → List ℕ → List ℕ
stored_blocks o touched = filter (has_byte o) touched

abbrev pub blocks_in : List Ptr → List Bptr
blocks_in ps = filter_map block_in ps
  where
    block_in : Ptr → Option Bptr
    block_in Hole = None
    block_in (At b) = Some b

-- how many pieces frees of these blocks touch
abbrev pub touches : Space → List Bptr → ℕ
touches s bs = sum_by (λ (b : Bptr). touch (devices_of s.parts.devs) b.at) bs

-- the counts with so many more words
abbrev pub with_words : Sizes → ℕ → Sizes
with_words s n = record s { words = s.words + n }

-- what is owed after a command that touches so many pieces and leaves so many changed blocks and objects
abbrev pub owed_after : Account → ℕ → ℕ → ℕ → ℕ
owed_after a blocks objects pieces = owed (with_words (sizes a.space blocks objects) (4 * pieces))

-- how many objects are changed when this one is too
abbrev pub objects_with : Account → ℕ → ℕ
objects_with a id = if is_some (object_in a.changes id) then changed_objects a else changed_objects a + 1

-- how many blocks are changed when these of the object are too
abbrev pub blocks_with : Account → ℕ → List ℕ → ℕ
blocks_with a id touched = changed_blocks a + count_by (λ i. not (is_some (change_in a.changes id i))) touched

-- how many are changed without those of the object
abbrev pub blocks_without : Account → ℕ → ℕ
blocks_without a id = changed_blocks a - length (changes_in a.changes id)

-- the room that is kept free of new blocks
abbrev pub slop_of : Account → ℕ
slop_of a = slop (on_units a.space)

-- where the command needs more units than are free it is refused and changes nothing
abbrev pub WithRoom : Account → ℕ → Reply → Account → Type 0 → Type 0
WithRoom old needed answer new Done =
    MatchBool (nat_lt (free_units old.space) needed) ((answer ≡ reply.No (refusal.NoRoom needed (free_units old.space))) × (new ≡ old)) Done

-- the directory, the group, the other objects and the other blocks are as they were
pub record KeepsOthers (id : ℕ) (touched : List ℕ) (old new : Account) : Type 0 where
  pub dir : new.dir ≡ old.dir
  pub group : new.changes.txg ≡ old.changes.txg
  pub records : (other : ℕ) → other ≢ id → object_in new.changes other ≡ object_in old.changes other
  pub blocks : (other i : ℕ) → other ≢ id → change_in new.changes other i ≡ change_in old.changes other i
  pub rest : (i : ℕ) → (Contains touched i → ⊥) → change_in new.changes id i ≡ change_in old.changes id i

-- the open group has new blocks at these addresses for what is stored, and holes for what else was touched
pub record HasBlocks (id : ℕ) (touched stored : List ℕ) (ats : List Dva) (new : Account) : Type 0 where
  pub blocks : List Bptr
  pub addresses_are : addresses blocks ≡ ats
  pub leaves : AllByRecursion (λ (b : Bptr). (b.birth ≡ new.changes.txg) × (b.level ≡ 0)) blocks
  pub pointers : AllZip (λ i b. change_in new.changes id i ≡ Some (At b)) stored blocks
  pub holes : (i : ℕ) → Contains touched i → (Contains stored i → ⊥) → change_in new.changes id i ≡ Some Hole

-- All blocks are placed, then the old ones are freed, and the open group has the new ones.
pub record PutsBlocks (policy : Policy) (id units : ℕ) (r : ObjRec) (touched stored : List ℕ) (olds : List Bptr) (old new : Account) : Type 0 where
  pub ats : List Dva
  pub count : length ats ≡ length stored
  pub mid : Space
  pub placed : AllocatesAll policy units ats old.space mid
  pub freed : FreesAll olds mid new.space
  pub has : HasBlocks id touched stored ats new
  pub others : KeepsOthers id touched old new
  pub recorded : object_in new.changes id ≡ Some (Some r)
  pub blocks_are : changed_blocks new ≡ blocks_with old id touched
  pub objects_are : changed_objects new ≡ objects_with old id

-- Some are placed, and for the next there is no run: nothing is done.
pub record HasNoRun (policy : Policy) (units : ℕ) (stored : List ℕ) (old : Account) (answer : Reply) (new : Account) : Type 0 where
  pub ats : List Dva
  pub fewer : length ats < length stored
  pub mid : Space
  pub placed : AllocatesAll policy units ats old.space mid
  pub longest : ℕ
  pub none : HasNoPlacement (free_of mid) units longest
  pub answer_is : answer ≡ reply.No (refusal.NoRun units longest)
  pub same : new ≡ old

-- A change of a range of an object, from what the object is before and after it. It needs room for its blocks, for what is owed then, and so many units more.
pub record ChangesRange (policy : Policy) (s : Stored) (id : ℕ) (before after : Object) (off len extra : ℕ) (old : Account) (answer : Reply) (new : Account) : Type 0 where
  pub r : ObjRec
  pub there : record_now s old id ≡ Some r
  pub touched : List ℕ
  pub touched_are : touched ≡ touched_blocks before off len
  pub stored : List ℕ
  pub stored_are : stored ≡ stored_blocks after touched
  pub olds : List Bptr
  pub olds_are : olds ≡ blocks_in (map (leaf_now s old id) touched)
  pub changed : WithRoom old
      (r.units * length stored + owed_after old (blocks_with old id touched) (objects_with old id) (length stored + touches old.space olds) + extra) answer new
      (((answer ≡ reply.Done) × PutsBlocks policy id r.units r touched stored olds old new) ⊎ HasNoRun policy r.units stored old answer new)

-- the record of a new object
abbrev pub new_record : ℕ → ObjRec
new_record units = record { units = units; tree = record { root = Hole; height = 0 } }

-- a new object
abbrev pub MakesObject : ℕ → ℕ → Account → Reply → Account → Type 0
MakesObject id units old answer new =
    WithRoom old (owed_after old (changed_blocks old) (objects_with old id) 0 + slop_of old) answer new
    ((answer ≡ reply.Done) × (new.space ≡ old.space) × KeepsOthers id [] old new × (object_in new.changes id ≡ Some (Some (new_record units))) × (changed_objects new ≡ objects_with old id))

-- An object is dropped: its leaves and its tree blocks are freed, and it has no changed blocks any more.
pub record DropsObject (s : Stored) (id : ℕ) (old : Account) (answer : Reply) (new : Account) : Type 0 where
  pub leaves : List Bptr
  pub leaves_are : leaves ≡ blocks_in (map (leaf_now s old id) (range_with_len 0 (2 ^ 25)))
  pub blocks : List Bptr
  pub blocks_are : blocks ≡ leaves ++ tree_now s (record_now s old id)
  pub dropped : WithRoom old (owed_after old (blocks_without old id) (objects_with old id) (touches old.space blocks)) answer new
      ((answer ≡ reply.Done) × FreesAll blocks old.space new.space × (object_in new.changes id ≡ Some None) × (changes_in new.changes id ≡ [])
      × KeepsOthers id (range_with_len 0 (2 ^ 25)) old new × (changed_objects new ≡ objects_with old id))
