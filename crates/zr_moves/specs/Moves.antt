-- What each command does to the account of an open pool, to the answer, and to the disks: one line for each.
use Rattle.std.specs.Prelude.{◌≡◌, ◌≢◌, ◌⊎◌, ℕ, ◌+◌, ◌*◌, ◌==◌, Bool, true, false, ◌&&◌, ◌||◌, nat_le, nat_lt, List, length, replicate, position, Contains, if◌then◌else◌, Option, Some, None, MatchBool, unwrap_or}
use Rattle.std.specs.Str.{bytes_eq}
use Rattle.std.specs.FinMap as map
use Rattle.sha2.specs.Sha256.{sha256}
use Rattle.zr_base.specs.declared.space.CkptPart.TheVariants as ckpt
use Rattle.zr_base.specs.declared.space.Policy.{Policy}
use Rattle.zr_base.specs.declared.space.Condensed.{Condensed}
use Rattle.zr_base.specs.declared.space.Condensed.TheVariants as condensed
use Rattle.zr_base.specs.declared.refusal.Refusal.TheVariants as refusal
use Rattle.zr_base.specs.Extents.{first_part_from}
use Rattle.zr_script.specs.declared.command.Command.{Command}
use Rattle.zr_script.specs.declared.command.Command.TheVariants as cmd
use Rattle.zr_script.specs.declared.reply.Reply.{Reply}
use Rattle.zr_script.specs.declared.reply.Reply.TheVariants as reply
use Rattle.zr_bptr.specs.declared.Bptr.{Bptr}
use Rattle.zr_bptr.specs.declared.Ptr.TheVariants.{At}
use Rattle.zr_label.specs.declared.root.Seen.{Seen}
use Rattle.zr_label.specs.Geometry.{units_of_size}
use Rattle.zr_rules.specs.Places.{part_of}
use Rattle.zr_rules.specs.Space.{Space, frontier}
use Rattle.zr_rules.specs.Columns.{free_units, sizes}
use Rattle.zr_rules.specs.Owed.{owed, metadata_units}
use Rattle.zr_rules.specs.Steps as steps
use Rattle.zr_store.specs.Store.{Stored}
use Rattle.zr_shelf.specs.Disks.{disk}
use Rattle.zr_model.specs.Objects.{Object, block_len, with_bytes}
use Rattle.zr_model.specs.State.{PoolState}
use Rattle.zr_model.specs.Runs.{Shelf}
use Rattle.zr_image.specs.Walks.{addresses}
use Rattle.zr_image.specs.Roots.{Root}
use Rattle.zr_moves.specs.Account.{Account, changed_blocks, changed_objects, leaf_now, AreLive, HasRoots, store_now}
use Rattle.zr_moves.specs.Changes.{touched_blocks, objects_with, blocks_with, slop_of, ChangesRange, MakesObject, DropsObject}
use Rattle.zr_moves.specs.Commits.{Commits, IsAllAnew, KeepsRoots}
use Rattle.zr_moves.specs.Prefix.{has_path}
use Rattle.zr_moves.specs.Tables.{leaving_of, list_lines, status_lines, map_lines, audit_lines, estimate}

-- A command: the policy of its placements, how the shelf read before it, at each of its moments, and after it.
pub record Course : Type 0 where
  pub policy : Policy
  pub before : Shelf
  pub moments : List Shelf
  pub after : Shelf

abbrev pub with_space : Account → Space → Account
with_space a s = record { space = s; dir = a.dir; changes = a.changes }

-- the shelf as the account reads it
pub record Reads (shelf : Shelf) (a : Account) (s : Stored) : Type 0 where
  pub seen : List Seen
  pub root : Root
  pub saved : Option Root
  pub roots : HasRoots shelf seen root saved
  pub live : List Bptr
  pub store_is : s ≡ store_now shelf seen root a
  pub are_live : AreLive s a live

-- the open group has at most 64 changed blocks and 64 changed objects
abbrev pub fits : ℕ → ℕ → Bool
fits blocks objects = nat_le blocks 64 && nat_le objects 64

-- Where the open group would be too large, it is committed first, at some moment of the command.
abbrev pub FitsFirst : Course → Account → ℕ → ℕ → Shelf → Account → Type 0
FitsFirst c old blocks objects between mid =
    MatchBool (fits blocks objects) ((between ≡ c.before) × (mid ≡ old)) (Contains c.moments between × Commits c.policy false c.before between old mid)

-- the range has a part of the block, but not all
abbrev pub has_part : ℕ → ℕ → ℕ → ℕ → Bool
has_part size off len i = nat_lt (size * i) off || nat_lt (off + len) (size * (i + 1))

-- the answer is the damage of a block that the command needs
pub record IsDamaged (s : Stored) (a : Account) (id : ℕ) (Needs : ℕ → Type 0) (answer : Reply) : Type 0 where
  pub index : ℕ
  pub needed : Needs index
  pub b : Bptr
  pub leaf : leaf_now s a id index ≡ At b
  pub lost : sha256 (s.bytes b) ≢ b.sum
  pub answer_is : answer ≡ reply.No (refusal.Damaged b.at b.sum (sha256 (s.bytes b)))

-- no block is lost that the command needs
abbrev pub IsUnharmed : Stored → Account → ℕ → (ℕ → Type 0) → Type 0
IsUnharmed s a id Needs = (i : ℕ) (b : Bptr) → Needs i → leaf_now s a id i ≡ At b → sha256 (s.bytes b) ≡ b.sum

-- a change of a range needs a block that it changes a part of
abbrev pub NeedsPart : Object → ℕ → ℕ → ℕ → Type 0
NeedsPart o off len i = Contains (touched_blocks o off len) i × (has_part (block_len o) off len i ≡ true)

-- A change of a range of an object, behind the commit of a full group.
pub record MovesRange (c : Course) (p : PoolState) (old : Account) (id off len : ℕ) (bytes : List ℕ) (extra : Account → ℕ) (answer : Reply) (new : Account) : Type 0 where
  pub o : Object
  pub there : map.get p.objects id ≡ Some o
  pub between : Shelf
  pub mid : Account
  pub first : FitsFirst c old (blocks_with old id (touched_blocks o off len)) (objects_with old id) between mid
  pub store : Stored
  pub reads : Reads between mid store
  pub roots : KeepsRoots between c.after
  pub moves :
      (IsDamaged store mid id (NeedsPart o off len) answer × (new ≡ mid))
      ⊎ (IsUnharmed store mid id (NeedsPart o off len) × ChangesRange c.policy store id o (with_bytes o off bytes) off len (extra mid) mid answer new)

abbrev pub no_extra : Account → ℕ
no_extra a = 0

-- the index of a device by the path of its slot
abbrev pub index_of : PoolState → List ℕ → ℕ
index_of p path = unwrap_or (position (has_path path) p.devs) 0

-- the size of the disk of this path
abbrev pub size_of : Shelf → List ℕ → ℕ
size_of shelf path = length (disk shelf.disks (unwrap_or (position (λ own. bytes_eq path own) shelf.paths) 0))

-- A device is added: the group is committed as it is, the slot is labelled, and then a root has the device, added in that root's group.
pub record AddsDevice (c : Course) (path : List ℕ) (old new : Account) : Type 0 where
  pub committed : Shelf
  pub one_moment : Contains c.moments committed
  pub mid : Account
  pub first : Commits c.policy false c.before committed old mid
  pub labelled : Shelf
  pub next_moment : Contains c.moments labelled
  pub still : KeepsRoots committed labelled
  pub units : ℕ
  pub units_are : units_of_size (size_of c.before path) old.space.parts.version ≡ Some units
  pub added : Space
  pub adds : steps.AddsDevice mid.space added units mid.changes.txg
  pub second : Commits c.policy true labelled c.after (with_space mid added) new

-- A checkpoint: the group is committed as it is, and then a root that holds that group's uberblock, with all metadata anew.
pub record HoldsCheckpoint (c : Course) (old new : Account) : Type 0 where
  pub committed : Shelf
  pub one_moment : Contains c.moments committed
  pub mid : Account
  pub first : Commits c.policy false c.before committed old mid
  pub held : Space
  pub holds : steps.HoldsCheckpoint mid.space held first.root.uber.txg
  pub second : Commits c.policy true committed c.after (with_space mid held) new
  pub anew : IsAllAnew second.root
  pub saved : Root
  pub saved_is : second.saved ≡ Some saved
  pub same : saved.uber ≡ first.root.uber

-- a commit of a space that the command has changed, with all metadata anew
abbrev pub CommitsAnew : Course → Account → Space → Account → Type 0
CommitsAnew c old s new = (commit : Commits c.policy true c.before c.after (with_space old s) new) × IsAllAnew commit.root

-- the device that is leaving has units to copy, or has none
abbrev pub IsLeft : Space → ℕ → Bool → Type 0
IsLeft s d true = (leaving_of s ≡ Some d) × (first_part_from (frontier s d) (part_of s.parts.devs d).held ≢ None)
IsLeft s d false = (leaving_of s ≡ Some d) × (first_part_from (frontier s d) (part_of s.parts.devs d).held ≡ None)

-- a removal is given up and the device is in service again, by a commit
abbrev pub GivesUp : Course → ℕ → Account → Account → Type 0
GivesUp c d old new = (s : Space) × steps.Cancels old.space s d × Commits c.policy true c.before c.after (with_space old s) new

-- nothing commits, and the account is this one
abbrev pub Stays : Course → Account → Account → Type 0
Stays c a new = (new ≡ a) × KeepsRoots c.before c.after

-- a reading: a block that it needs is lost and told, or none is
abbrev pub IsReading : Course → Account → ℕ → (ℕ → Type 0) → Reply → Type 0
IsReading c a id Needs answer = (s : Stored) × Reads c.before a s × (IsDamaged s a id Needs answer ⊎ IsUnharmed s a id Needs)

-- a removal begins, where there is room for what it owes
abbrev pub BeginsRemoval : Course → ℕ → Account → Reply → Account → Type 0
BeginsRemoval c d old answer new =
    (s : Space) × steps.Leaves old.space s d
    × MatchBool (nat_lt (free_units s) (owed (sizes s (changed_blocks old) (changed_objects old))))
    ((answer ≡ reply.No (refusal.NoRoom (owed (sizes s (changed_blocks old) (changed_objects old))) (free_units s))) × Stays c old new)
    ((answer ≡ reply.Done) × CommitsAnew c old s new)

-- the room that a checkpoint needs: what is owed, and the metadata once more
abbrev pub checkpoint_needs : Account → ℕ
checkpoint_needs a = owed (sizes a.space (changed_blocks a) (changed_objects a)) + metadata_units (sizes a.space (changed_blocks a) (changed_objects a))

abbrev pub BeginsCheckpoint : Course → Account → Reply → Account → Type 0
BeginsCheckpoint c old answer new =
    MatchBool (nat_lt (free_units old.space) (checkpoint_needs old))
    ((answer ≡ reply.No (refusal.NoRoom (checkpoint_needs old) (free_units old.space))) × Stays c old new)
    ((answer ≡ reply.Done) × HoldsCheckpoint c old new)

abbrev pub with_version : Space → ℕ → Space
with_version s version = record s { parts = record s.parts { version = version } }

-- the answer to a step of discarding that freed so many units
abbrev pub discard_reply : ℕ → Reply
discard_reply units = if units == 0 then reply.Ended else reply.Freed units

abbrev pub condense_reply : Condensed → Reply
condense_reply (condensed.Kept n) = reply.Kept n
condense_reply condensed.Done = reply.Ended
condense_reply condensed.Nothing = reply.No refusal.NothingToDo

-- What a command does to an open pool where nothing of its state refuses it.
abbrev pub Moves : Course → PoolState → Account → Command → Reply → Account → Type 0
Moves c p old (cmd.Make id units) answer new =
    (between : Shelf) × (mid : Account) × FitsFirst c old (changed_blocks old) (objects_with old id) between mid × MakesObject id units mid answer new × KeepsRoots between c.after
Moves c p old (cmd.Drop id) answer new =
    (between : Shelf) × (mid : Account) × (s : Stored) × FitsFirst c old (changed_blocks old) (objects_with old id) between mid × Reads between mid s × DropsObject s id mid answer new × KeepsRoots between c.after
Moves c p old (cmd.Write id off bytes) answer new = MovesRange c p old id off (length bytes) bytes slop_of answer new
Moves c p old (cmd.Fill id off len byte) answer new = MovesRange c p old id off len (replicate len byte) slop_of answer new
Moves c p old (cmd.Punch id off len) answer new = MovesRange c p old id off len (replicate len 0) no_extra answer new
Moves c p old (cmd.Read id off len) answer new = (o : Object) × (map.get p.objects id ≡ Some o) × IsReading c old id (Contains (touched_blocks o off len)) answer × Stays c old new
Moves c p old (cmd.Sum id) answer new = IsReading c old id (λ i. Unit {0}) answer × Stays c old new
Moves c p old cmd.Sync (reply.Synced txg) new = (commit : Commits c.policy false c.before c.after old new) × (txg ≡ commit.root.uber.txg)
Moves c p old (cmd.Add dev) reply.Done new = AddsDevice c dev old new
Moves c p old (cmd.Remove dev) answer new = BeginsRemoval c (index_of p dev) old answer new
Moves c p old (cmd.Estimate dev) (reply.Estimate n) new = (n ≡ estimate old.space (index_of p dev)) × Stays c old new
Moves c p old cmd.Cancel (reply.Cancelled d) new = (leaving_of old.space ≡ Some d) × GivesUp c d old new
Moves c p old cmd.Checkpoint answer new = BeginsCheckpoint c old answer new
Moves c p old cmd.Discard reply.Done new = Commits c.policy true c.before c.after (with_space old (steps.with_ckpt old.space ckpt.Discarding)) new
Moves c p old cmd.StepEvac (reply.Copied n) new =
    (d : ℕ) × IsLeft old.space d true × (s : Space) × steps.Copies c.policy old.space s d n × Stays c (with_space old s) new
Moves c p old cmd.StepEvac (reply.Gone d) new =
    IsLeft old.space d false × (s : Space) × steps.Finishes old.space s d old.changes.txg × Commits c.policy true c.before c.after (with_space old s) new
Moves c p old cmd.StepEvac (reply.Cancelled d) new = IsLeft old.space d true × GivesUp c d old new
Moves c p old cmd.StepDiscard answer new = (units : ℕ) × (s : Space) × steps.DiscardsSome old.space units s × (answer ≡ discard_reply units) × Stays c (with_space old s) new
Moves c p old cmd.StepCondense answer new = (outcome : Condensed) × (s : Space) × steps.CondensesSome old.space outcome s × (answer ≡ condense_reply outcome) × Stays c (with_space old s) new
Moves c p old cmd.List (reply.List lines) new = (lines ≡ list_lines p old.space) × Stays c old new
Moves c p old cmd.Status (reply.Status lines) new = (lines ≡ status_lines p old) × Stays c old new
Moves c p old (cmd.Map index) (reply.Map lines) new = (lines ≡ map_lines old.space index) × Stays c old new
Moves c p old cmd.Audit (reply.Audit lines) new = (s : Stored) × (reads : Reads c.before old s) × (lines ≡ audit_lines old.space (addresses reads.live)) × Stays c old new
Moves c p old cmd.Upgrade answer new =
    MatchBool (old.space.parts.version == 2) ((answer ≡ reply.No refusal.NothingToDo) × Stays c old new) ((answer ≡ reply.Done) × CommitsAnew c old (with_version old.space 2) new)
Moves c p old command answer new = ⊥
