-- What a root means by itself and with the root that it saved, or why it cannot be opened.
use Rattle.std.specs.Prelude.{◌≡◌, ◌↔◌, ℕ, ◌^◌, ◌<◌, ◌≤◌, ◌==◌, Bool, true, false, nat_le, nat_lt, List, [], ◌++◌, length, take, map, sum_by, if◌then◌else◌, All, Option, Some, None, IfSome}
use Rattle.std.specs.List.{AllByRecursion, filter, list_any}
use Rattle.std.specs.Int.{div_ceil}
use Rattle.zr_base.specs.declared.space.DevRow.{DevRow}
use Rattle.zr_base.specs.declared.space.DevPart.{DevPart}
use Rattle.zr_base.specs.declared.space.SpaceParts.{SpaceParts}
use Rattle.zr_base.specs.declared.space.CkptPart.TheVariants.{Clear, Held}
use Rattle.zr_base.specs.declared.refusal.Refusal.{Refusal}
use Rattle.zr_base.specs.declared.refusal.Refusal.TheVariants.{Damaged}
use Rattle.zr_bptr.specs.declared.Bptr.{Bptr}
use Rattle.zr_bptr.specs.declared.Ptr.{Ptr}
use Rattle.zr_bptr.specs.declared.Ptr.TheVariants.{Hole, At}
use Rattle.zr_bptr.specs.declared.Tree.{Tree}
use Rattle.zr_bptr.specs.declared.ObjRec.{ObjRec}
use Rattle.zr_bptr.specs.Spelling.{SpellsRecords}
use Rattle.zr_label.specs.Blocks.{SpellsUber}
use Rattle.zr_label.specs.declared.root.Uber.{Uber}
use Rattle.zr_meta.specs.declared.Stream.{Stream}
use Rattle.zr_meta.specs.declared.Head.{Head}
use Rattle.zr_meta.specs.Heads.{SpellsHead}
use Rattle.zr_meta.specs.Parts.{SpellsParts, HasMappings}
use Rattle.zr_root.specs.Streams.{HasBytes, HasWords}
use Rattle.zr_tree.specs.Trees.{tree_leaves}
use Rattle.zr_rules.specs.Places.{is_on, is_gone, is_held, address_hits, late_hits}
use Rattle.zr_rules.specs.Devices.{devices_of, state_at}
use Rattle.zr_rules.specs.Resolve.{leads_to}
use Rattle.zr_rules.specs.Space.{Space}
use Rattle.zr_rules.specs.Equation.{SavedRoot, root_space, is_live}
use Rattle.zr_image.specs.Checks.{Check, ◌>>=◌, Gives, Demands, Finds, Each, Under}
use Rattle.zr_image.specs.Current.{row_at, reset_of}
use Rattle.zr_image.specs.Numbers.{Form, Sets, Units, SavedRoots, Room, broken}
use Rattle.zr_view.specs.Views.{View}
use Rattle.zr_image.specs.Reading.{content, store_of, ReadsBlock, bare_devices}
use Rattle.zr_image.specs.Rules.{HoldsNoMeta, AreLawfulParts, IsBalanced, HasRoom}
use Rattle.zr_image.specs.Walks.{Setting, Walks, addresses}

-- what a root means: its head, its parts, the pointers of its metadata, and those of its directory and objects
pub record Root : Type 0 where
  pub uber : Uber
  pub head : Head
  pub parts : SpaceParts
  pub meta : List Bptr
  pub live : List Bptr

-- the disks as the root sees them
abbrev pub view_of : List (List ℕ) → List (Option ℕ) → Root → View
view_of disks slots r = record { disks = disks; slots = slots; devices = devices_of r.parts.devs }

-- the rows of the devices of a root
abbrev pub rows_of : Uber → List DevRow
rows_of u = take u.count u.rows

-- Metadata lies on devices in service, each place once. A tree of n leaves has the first n, each of one unit, and no others.
abbrev pub meta_setting : View → Uber → ℕ → Setting
meta_setting v u n =
    record { view = v; txg = u.txg; may_be = λ d unit. is_on (state_at (bare_devices u) d); leaf_units = 1; reads = true; holes = λ i. nat_le n i; blocks = λ i. nat_lt i n }

-- the tree of the head, whose height its root tells
abbrev pub head_tree : Uber → Tree
head_tree u = record { root = u.root; height = level_of u.root }
  where
    level_of : Ptr → ℕ
    level_of Hole = 0
    level_of (At b) = b.level

-- the units of the devices in service or leaving
abbrev pub concrete_units : List DevRow → ℕ
concrete_units rows = sum_by (λ (r : DevRow). if is_gone r.state then 0 else r.units) rows

-- the bytes in the tree of the head are a head, of the first form exactly where the root tells no reset, and no stream has more leaves than there are units
pub record IsHeadOf (v : View) (u : Uber) (h : Head) : Type 0 where
  pub bytes : List ℕ
  pub read : HasBytes (store_of v) (head_tree u) bytes
  pub length_is : length bytes ≡ u.len
  pub spelled : SpellsHead (rows_of u) bytes h
  pub form : (h.form ≡ 1) ↔ (u.reset ≡ 0)
  pub fits : AllByRecursion (λ (t : Stream). div_ceil t.words 512 ≤ concrete_units (rows_of u)) h.streams

-- the head, with the pointers that are marked
abbrev pub ReadsHead : View → Uber → Check (Head × List Bptr)
ReadsHead v u = do
  marks ← Walks (meta_setting v u (div_ceil u.len 4096)) (head_tree u) []
  h ← Finds (IsHeadOf v u) (broken Form)
  Gives (h, marks)

-- the words stand in the stream, and each is one of 64 bits: a larger number would be spelled as a smaller one is
pub record StandIn (v : View) (t : Stream) (words : List ℕ) : Type 0 where
  pub stand : HasWords (store_of v) t words
  pub small : All (λ n. n < 2 ^ 64) words

-- one stream, behind the words of those before it and the pointers that are marked
abbrev pub ReadsStream : View → Uber → Stream → List ℕ × List Bptr → Check (List ℕ × List Bptr)
ReadsStream v u t before = do
  marks ← Walks (meta_setting v u (div_ceil t.words 512)) t.tree before.1
  words ← Finds (StandIn v t) (broken Form)
  Gives (before.0 ++ words, marks)

-- the late sets count as empty
abbrev pub without_late : SpaceParts → SpaceParts
without_late parts = record parts { devs = map (λ (p : DevPart). record p { late1 = []; late2 = [] }) parts.devs }

-- a root that is a reset has freed all, whatever its late sets say
abbrev pub late_counted : Uber → SpaceParts → SpaceParts
late_counted u parts = if reset_of u == u.txg then without_late parts else parts

-- The parts: mappings in their form, then sets, then no metadata that is held, and then the other rules of parts.
abbrev pub ReadsParts : Uber → Head → List ℕ → List Bptr → Check SpaceParts
ReadsParts u h words meta = do
  mappings ← Demands (HasMappings (rows_of u) h words) (broken Form)
  parts ← Finds (SpellsParts u.version (rows_of u) h words) (broken Sets)
  apart ← Demands (HoldsNoMeta parts.devs (addresses meta)) (broken Units)
  lawful ← AreLawfulParts parts
  Gives (late_counted u parts)

-- blocks lie where they are held; a hole may stand anywhere, and a leaf below the limit
abbrev pub block_setting : View → (ℕ → ℕ → Bool) → ℕ → ℕ → ℕ → Setting
block_setting v may_be txg leaf_units limit =
    record { view = v; txg = txg; may_be = may_be; leaf_units = leaf_units; reads = false; holes = λ i. true; blocks = λ i. nat_lt i limit }

-- an object that is one leaf has a leaf of its block size
abbrev pub HasRootSize : ObjRec → Type 0
HasRootSize r = (b : Bptr) → r.tree.height ≡ 0 → r.tree.root ≡ At b → b.at.len ≡ r.units

-- a leaf of the directory has these sixteen records
pub record IsLeafOf (v : View) (b : Bptr) (records : List (Option ObjRec)) : Type 0 where
  pub spelled : SpellsRecords (content v b) records
  pub sizes : AllByRecursion (λ (r : Option ObjRec). IfSome r HasRootSize) records

-- one leaf of the directory, behind the records of those before it
abbrev pub ReadsRecords : View → Bptr → List (Option ObjRec) → Check (List (Option ObjRec))
ReadsRecords v b before = do
  read ← ReadsBlock v b
  records ← Finds (IsLeafOf v b) (broken Form)
  Gives (before ++ records)

-- the tree of one object, whose leaves are not read
abbrev pub WalksObject : View → (ℕ → ℕ → Bool) → ℕ → Option ObjRec → List Bptr → Check (List Bptr)
WalksObject v may_be txg None marks = Gives marks
WalksObject v may_be txg (Some r) marks = Walks (block_setting v may_be txg r.units (2 ^ 25)) r.tree marks

-- The pointers of the directory, which has at most 4,096 leaves, and then those of its objects by rising ID.
abbrev pub WalksAll : View → (ℕ → ℕ → Bool) → ℕ → Tree → Check (List Bptr)
WalksAll v may_be txg dir = do
  marks ← Walks (block_setting v may_be txg 1 4096) dir []
  records ← Each (ReadsRecords v) (tree_leaves (store_of v) dir) []
  Each (WalksObject v may_be txg) records marks

-- A root by itself: its head, its streams, its parts, and all that it points to.
abbrev pub ReadsRoot : List (List ℕ) → List (Option ℕ) → Uber → Check Root
ReadsRoot disks slots u = do
  head ← ReadsHead (record { disks = disks; slots = slots; devices = bare_devices u }) u
  streams ← Each (ReadsStream (record { disks = disks; slots = slots; devices = bare_devices u }) u) head.0.streams ([], head.1)
  parts ← ReadsParts u head.0 streams.0 streams.1
  live ← WalksAll (record { disks = disks; slots = slots; devices = devices_of parts.devs }) (is_held parts.devs) u.txg head.0.dir
  Gives (record { uber = u; head = head.0; parts = parts; meta = streams.1; live = live })

-- the space of a root beside the metadata of the root that it saved
abbrev pub space_with : Root → List Bptr → Space
space_with r saved_meta = root_space r.parts (addresses r.meta) (addresses saved_meta)

-- a row of the saved root: a device that was there was in service, and has the same row now
abbrev pub IsRowStill : DevRow → DevRow → Type 0
IsRowStill saved now = is_gone saved.state ≡ false → (is_on saved.state ≡ true) × (now ≡ saved)

-- What a held checkpoint has of the root that it saved: an older root of the same pool, whose devices are still there.
pub record IsSavedUber (r : Root) (block : List ℕ) (u : Uber) : Type 0 where
  pub spelled : SpellsUber block u
  pub guid : u.guid ≡ r.uber.guid
  pub txg : r.parts.ckpt ≡ Held u.txg
  pub past : u.txg < r.uber.txg
  pub rows : (d : ℕ) → d < u.count → IsRowStill (row_at u d) (row_at r.uber d)

-- the saved root as the equation of the current one sees it
abbrev pub saved_root : Root → SavedRoot
saved_root r = record { devices = devices_of r.parts.devs; live = addresses r.live }

-- some unit of the root is there
abbrev pub has_live : Root → ℕ → ℕ → Bool
has_live r d u = is_live (devices_of r.parts.devs) (addresses r.live) d u

-- a pointer that passes the test leads there
abbrev pub has_live_where : Root → (Bptr → Bool) → ℕ → ℕ → Bool
has_live_where r test d u = list_any (λ (b : Bptr). leads_to (devices_of r.parts.devs) b.at d u) (filter test r.live)

-- The current root and the one that it saved: the kept units are those that the saved one has alone, what both have was born by the checkpoint, and what the
-- current one has alone was born later. Nothing of the saved one is late.
pub record AgreesWith (r saved : Root) : Type 0 where
  pub clear : saved.parts.ckpt ≡ Clear
  pub balanced : IsBalanced (space_with r saved.meta) (addresses r.live) (Some (saved_root saved))
  pub old : (d u : ℕ) → has_live_where r (λ b. nat_le b.birth saved.uber.txg) d u ≡ true → has_live saved d u ≡ true
  pub new : (d u : ℕ) → has_live_where r (λ b. nat_lt saved.uber.txg b.birth) d u ≡ true → has_live saved d u ≡ false
  pub late : (d u : ℕ) → 0 < late_hits r.parts.devs d u → (has_live saved d u ≡ false) × (address_hits (addresses saved.meta) d u ≡ 0)

-- what is wrong with a saved root is one rule, but a damaged block is told as it is
abbrev pub as_saved : Refusal → Refusal
as_saved (Damaged at expected found) = Damaged at expected found
as_saved r = broken SavedRoots

-- the saved root, where the head has one
abbrev pub ReadsSaved : List (List ℕ) → List (Option ℕ) → Root → Option (List ℕ) → Check (Option Root)
ReadsSaved disks slots r None = Gives None
ReadsSaved disks slots r (Some block) = do
  u ← Finds (IsSavedUber r block) (broken SavedRoots)
  saved ← Under as_saved (ReadsRoot disks slots u)
  balanced ← Demands (IsBalanced (space_with saved []) (addresses saved.live) None) (broken SavedRoots)
  room ← Demands (HasRoom u.txg (space_with saved [])) (broken SavedRoots)
  together ← Demands (AgreesWith r saved) (broken SavedRoots)
  Gives (Some saved)

-- the metadata of the saved root, if there is one
abbrev pub meta_of : Option Root → List Bptr
meta_of None = []
meta_of (Some r) = r.meta

-- A root as an import reads it, with the root that it saved: what they mean, or the first refusal.
abbrev pub OpensRoot : List (List ℕ) → List (Option ℕ) → Uber → Check (Root × Option Root)
OpensRoot disks slots u = do
  r ← ReadsRoot disks slots u
  balanced ← Demands (IsBalanced (space_with r []) (addresses r.live) None) (broken Units)
  saved ← ReadsSaved disks slots r r.head.saved
  room ← Demands (HasRoom u.txg (space_with r (meta_of saved))) (broken Room)
  Gives (r, saved)
