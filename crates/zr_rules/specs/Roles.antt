-- What a unit is used for. Every event that changes space is a map of roles.
use Rattle.std.specs.Prelude.{Bool, true, false, if◌then◌else◌}

-- Each unit of each device has one role. `Fresh` is what the open group allocated, and `Deferred` what it freed of an earlier group's. `Late1` and `Late2`
-- are what the two groups before it freed. Units of metadata are in no space map, and are told apart from those of blocks.
pub data Role : Type 0 where
  Absent : Role
  Free : Role
  FreshLive : Role
  Live : Role
  FreshCopy : Role
  Copy : Role
  Kept : Role
  DeferredBlock : Role
  DeferredMeta : Role
  Late1Block : Role
  Late1Meta : Role
  Late2Block : Role
  Late2Meta : Role
  Meta : Role
  SavedMeta : Role

-- pointers of the directory or of an object lead to it
abbrev pub is_live_role : Role → Bool
is_live_role FreshLive = true
is_live_role Live = true
is_live_role _ = false

-- it has the copy of a unit of the device that is leaving
abbrev pub is_copy_role : Role → Bool
is_copy_role FreshCopy = true
is_copy_role Copy = true
is_copy_role _ = false

-- the space map has it as allocated
abbrev pub is_held_role : Role → Bool
is_held_role Kept = true
is_held_role r = if is_live_role r then true else is_copy_role r

abbrev pub is_meta_role : Role → Bool
is_meta_role Meta = true
is_meta_role SavedMeta = true
is_meta_role _ = false

-- the columns of a device: allocated, checkpointed, deferred and free
abbrev pub is_allocated_role : Role → Bool
is_allocated_role r = if is_live_role r then true else (if is_copy_role r then true else is_meta_role r)

abbrev pub is_kept_role : Role → Bool
is_kept_role Kept = true
is_kept_role _ = false

abbrev pub is_deferred_role : Role → Bool
is_deferred_role DeferredBlock = true
is_deferred_role DeferredMeta = true
is_deferred_role Late1Block = true
is_deferred_role Late1Meta = true
is_deferred_role Late2Block = true
is_deferred_role Late2Meta = true
is_deferred_role _ = false

abbrev pub is_free_role : Role → Bool
is_free_role Free = true
is_free_role _ = false

-- a block is freed: what the open group allocated is free at once, and the rest is deferred
abbrev pub freed : Role → Role
freed FreshLive = Free
freed Live = DeferredBlock
freed FreshCopy = Free
freed Copy = DeferredBlock
freed r = r

-- A block that the checkpoint may have is freed. What the open group allocated no saved root has, so it is free at once.
abbrev pub kept_of : Role → Role
kept_of FreshLive = Free
kept_of Live = Kept
kept_of r = r

-- a kept unit is discarded
abbrev pub discarded : Role → Role
discarded Kept = DeferredBlock
discarded r = r

-- metadata is given back
abbrev pub dropped : Role → Role
dropped Meta = DeferredMeta
dropped SavedMeta = DeferredMeta
dropped r = r

-- the metadata of the current root is that of the saved root from now on
abbrev pub saved : Role → Role
saved Meta = SavedMeta
saved r = r

-- a copy is given up with its removal
abbrev pub given_up : Role → Role
given_up FreshCopy = Free
given_up Copy = DeferredBlock
given_up r = r

-- a copy takes the place of its source, whose device is gone
abbrev pub taken_over : Role → Role
taken_over FreshCopy = FreshLive
taken_over Copy = Live
taken_over r = r

-- a commit: the open group ends, and what the group two before it freed is free
abbrev pub aged : Role → Role
aged FreshLive = Live
aged FreshCopy = Copy
aged DeferredBlock = Late1Block
aged DeferredMeta = Late1Meta
aged Late1Block = Late2Block
aged Late1Meta = Late2Meta
aged Late2Block = Free
aged Late2Meta = Free
aged r = r

-- a commit that is a reset: all that was freed is free
abbrev pub cleared : Role → Role
cleared FreshLive = Live
cleared FreshCopy = Copy
cleared DeferredBlock = Free
cleared DeferredMeta = Free
cleared Late1Block = Free
cleared Late1Meta = Free
cleared Late2Block = Free
cleared Late2Meta = Free
cleared r = r
