-- What a reply sends, and the last line of a run.
use Rattle.std.specs.Prelude.{ℕ, List, [], ◌∷◌, ◌++◌, codes, Option, Some, None}
use Rattle.std.specs.List.{flat_map}
use Rattle.std.specs.Fmt.{decimal}
use Rattle.hex.specs.Hex.{encode_lower}
use Rattle.zr_base.specs.declared.space.DevState.{DevState}
use Rattle.zr_base.specs.declared.space.DevState.TheVariants as state
use Rattle.zr_base.specs.declared.refusal.Refusal.{Refusal}
use Rattle.zr_base.specs.declared.refusal.Refusal.TheVariants as refusal
use Rattle.zr_base.specs.Refusals.{number_of}
use Rattle.zr_script.specs.declared.replies.Word.{Word}
use Rattle.zr_script.specs.declared.replies.Word.TheVariants as word
use Rattle.zr_script.specs.declared.reply.Reply.{Reply}
use Rattle.zr_script.specs.declared.reply.Reply.TheVariants as reply
use Rattle.zr_script.specs.declared.reply.ListLine.{ListLine}
use Rattle.zr_script.specs.declared.reply.CkptLine.{CkptLine}
use Rattle.zr_script.specs.declared.reply.CkptLine.TheVariants as ckpt
use Rattle.zr_script.specs.declared.reply.StatusLines.{StatusLines}
use Rattle.zr_script.specs.declared.reply.MapLine.{MapLine}
use Rattle.zr_script.specs.declared.reply.MapLine.TheVariants as mapped
use Rattle.zr_script.specs.declared.reply.AuditLine.{AuditLine}

-- a word as it is printed
abbrev pub word_text : Word → List ℕ
word_text (word.Text bytes) = bytes.now
word_text (word.Number n) = decimal n
word_text (word.Hex bytes) = encode_lower bytes.now

-- words with a space before each
abbrev pub with_spaces : List (List ℕ) → List ℕ
with_spaces words = flat_map (λ text. 32 ∷ text) words

-- words with single spaces between them
abbrev pub spaced : List (List ℕ) → List ℕ
spaced [] = []
spaced (first ∷ others) = first ++ with_spaces others

-- a line with its line feed
abbrev pub line : List (List ℕ) → List ℕ
line words = spaced words ++ 10 ∷ []

-- a field of a refusal: its name and its value
abbrev pub field : List ℕ → ℕ → List (List ℕ)
field name n = name ∷ decimal n ∷ []

-- what a refusal says
abbrev pub refusal_text : Refusal → List ℕ
refusal_text refusal.NoPoolOpen = codes "no pool open"
refusal_text refusal.PoolIsOpen = codes "pool is open"
refusal_text refusal.NoSuchObject = codes "no such object"
refusal_text refusal.ObjectExists = codes "object exists"
refusal_text refusal.OutOfRange = codes "out of range"
refusal_text (refusal.NoRun needed longest) = codes "no run"
refusal_text (refusal.NoRoom needed free) = codes "no room"
refusal_text refusal.NoSuchDevice = codes "no such device"
refusal_text refusal.NotInService = codes "device not in service"
refusal_text refusal.OnlyDevice = codes "only device"
refusal_text refusal.RemovalInProgress = codes "removal in progress"
refusal_text refusal.NoRemoval = codes "no removal"
refusal_text refusal.CheckpointExists = codes "checkpoint exists"
refusal_text refusal.DiscardingCheckpoint = codes "discarding checkpoint"
refusal_text refusal.NoCheckpoint = codes "no checkpoint"
refusal_text (refusal.TooMany limit) = codes "too many"
refusal_text (refusal.DeviceInUse slot) = codes "device in use"
refusal_text (refusal.DeviceSize size) = codes "device size"
refusal_text refusal.NothingToDo = codes "nothing to do"
refusal_text (refusal.Damaged at expected found) = codes "damaged"
refusal_text (refusal.MissingDevice index added) = codes "missing device"
refusal_text refusal.NoPoolOnDevices = codes "no pool on the devices"
refusal_text (refusal.TwoPools first second) = codes "two pools or two copies"
refusal_text (refusal.BadRoot rule) = codes "bad root"
refusal_text (refusal.GroupNotKept oldest) = codes "group not kept"
refusal_text (refusal.UnknownVersion found) = codes "version"

-- the names and values that a refusal tells
abbrev pub refusal_fields : Refusal → List (List ℕ)
refusal_fields (refusal.NoRun needed longest) = field (codes "needed") needed ++ field (codes "longest") longest
refusal_fields (refusal.NoRoom needed free) = field (codes "needed") needed ++ field (codes "free") free
refusal_fields (refusal.TooMany limit) = field (codes "limit") limit
refusal_fields (refusal.DeviceInUse slot) = field (codes "slot") slot
refusal_fields (refusal.DeviceSize size) = field (codes "size") size
refusal_fields (refusal.Damaged at expected found) =
    field (codes "device") at.dev ++ field (codes "unit") at.start ++ codes "expected" ∷ encode_lower expected ∷ codes "found" ∷ encode_lower found ∷ []
refusal_fields (refusal.MissingDevice index added) = field (codes "index") index ++ field (codes "txg") added
refusal_fields (refusal.TwoPools first second) = field (codes "slot") first ++ field (codes "slot") second
refusal_fields (refusal.BadRoot rule) = field (codes "rule") rule
refusal_fields (refusal.GroupNotKept oldest) = field (codes "oldest") oldest
refusal_fields (refusal.UnknownVersion found) = field (codes "found") found
refusal_fields _ = []

-- the words of a refusal
abbrev pub refusal_words : Refusal → List (List ℕ)
refusal_words r = refusal_text r ∷ refusal_fields r

abbrev pub state_word : DevState → List ℕ
state_word state.On = codes "on"
state_word state.Leaving = codes "leaving"
state_word state.Gone = codes "gone"

-- where there is no path a '-'
abbrev pub path_word : Option (List ℕ) → List ℕ
path_word None = codes "-"
path_word (Some path) = path

abbrev pub list_line : ListLine → List ℕ
list_line l = line (codes "dev" ∷ decimal l.index ∷ path_word l.path ∷ state_word l.state ∷ decimal l.units ∷ decimal l.allocated ∷ decimal l.checkpointed ∷ decimal l.deferred ∷ decimal l.free ∷ [])

abbrev pub map_line : MapLine → List ℕ
map_line (mapped.Entry e obsolete) = line (codes "entry" ∷ decimal e.src ∷ decimal e.len ∷ decimal e.dev ∷ decimal e.dst ∷ decimal obsolete ∷ [])
map_line (mapped.Fresh e) = line (codes "fresh" ∷ decimal e.start ∷ decimal e.len ∷ [])

abbrev pub audit_line : AuditLine → List ℕ
audit_line l = line (codes "dev" ∷ decimal l.index ∷ codes "walked" ∷ decimal l.walked ∷ codes "allocated" ∷ decimal l.allocated ∷ [])

abbrev pub removal_line : Option (ℕ × ℕ) → List ℕ
removal_line None = line (codes "removal" ∷ codes "none" ∷ [])
removal_line (Some r) = line (codes "removal" ∷ decimal r.0 ∷ codes "left" ∷ decimal r.1 ∷ [])

abbrev pub checkpoint_line : CkptLine → List ℕ
checkpoint_line ckpt.Clear = line (codes "checkpoint" ∷ codes "none" ∷ [])
checkpoint_line (ckpt.Held txg) = line (codes "checkpoint" ∷ decimal txg ∷ [])
checkpoint_line (ckpt.Discarding units) = line (codes "discarding" ∷ decimal units ∷ [])

abbrev pub condense_line : Option (ℕ × ℕ × ℕ) → List ℕ
condense_line None = line (codes "condense" ∷ codes "none" ∷ [])
condense_line (Some c) = line (codes "condense" ∷ decimal c.0 ∷ codes "at" ∷ decimal c.1 ∷ codes "of" ∷ decimal c.2 ∷ [])

abbrev pub open_line : StatusLines → List ℕ
open_line s = line (codes "open" ∷ s.name ∷ decimal s.guid ∷ codes "txg" ∷ decimal s.txg ∷ [])

abbrev pub room_line : StatusLines → List ℕ
room_line s = line (codes "room" ∷ decimal s.free ∷ codes "owed" ∷ decimal s.owed ∷ codes "slop" ∷ decimal s.slop ∷ [])

abbrev pub status_text : StatusLines → List ℕ
status_text s = open_line s ++ removal_line s.removal ++ checkpoint_line s.checkpoint ++ condense_line s.condense ++ room_line s

abbrev pub end_line : List ℕ
end_line = line (codes "end" ∷ [])

-- the lines of a reply
abbrev pub reply_text : Reply → List ℕ
reply_text reply.Done = line (codes "ok" ∷ [])
reply_text (reply.Data bytes) = line (codes "data" ∷ encode_lower bytes ∷ [])
reply_text (reply.Sum sum) = line (codes "sum" ∷ encode_lower sum ∷ [])
reply_text (reply.Synced txg) = line (codes "synced" ∷ decimal txg ∷ [])
reply_text (reply.Estimate n) = line (codes "estimate" ∷ decimal n ∷ [])
reply_text (reply.Cancelled index) = line (codes "cancelled" ∷ decimal index ∷ [])
reply_text (reply.Copied n) = line (codes "copied" ∷ decimal n ∷ [])
reply_text (reply.Gone index) = line (codes "gone" ∷ decimal index ∷ [])
reply_text (reply.Freed n) = line (codes "freed" ∷ decimal n ∷ [])
reply_text (reply.Kept n) = line (codes "kept" ∷ decimal n ∷ [])
reply_text reply.Ended = line (codes "done" ∷ [])
reply_text (reply.List lines) = flat_map list_line lines ++ end_line
reply_text (reply.Status lines) = status_text lines ++ end_line
reply_text (reply.Map lines) = flat_map map_line lines ++ end_line
reply_text (reply.Audit lines) = flat_map audit_line lines ++ end_line
reply_text (reply.No r) = line (codes "refused" ∷ decimal (number_of r) ∷ refusal_words r)

-- how a run ends, with what its last line says
pub data End : Type 0 where
  Answered : End
  BadWords : End
  NoInput : End
  NoOutput : End
  DiskFault : End
  BadLine : ℕ → End
  Damage : Refusal → End
  NoDevice : End
  InputLimit : End
  NoMemory : End

-- the status with which it ends
abbrev pub status_of : End → ℕ
status_of Answered = 0
status_of BadWords = 1
status_of NoInput = 2
status_of NoOutput = 3
status_of DiskFault = 4
status_of (BadLine n) = 5
status_of (Damage r) = 6
status_of NoDevice = 7
status_of InputLimit = 8
status_of NoMemory = 9

-- its last line, where it has one
abbrev pub last_line : End → List ℕ
last_line DiskFault = line (codes "stopped disk fault" ∷ [])
last_line (BadLine n) = line (codes "bad line" ∷ decimal n ∷ [])
last_line (Damage r) = line (codes "stopped" ∷ refusal_words r)
last_line InputLimit = line (codes "stopped input limit" ∷ [])
last_line _ = []

-- the line that stands for all replies of a generated run
abbrev pub generated_line : ℕ → ℕ → ℕ → ℕ → List ℕ → List ℕ
generated_line number count accepted refused sum =
    line (codes "gen" ∷ decimal number ∷ decimal count ∷ codes "ok" ∷ decimal accepted ∷ codes "refused" ∷ decimal refused ∷ codes "sums" ∷ encode_lower sum ∷ [])
