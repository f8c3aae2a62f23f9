-- What a free makes of roles.
use Rattle.std.proofs.Common.{◌≡◌, Bool, true, false, not, refl}
use Rattle.zr_rules.specs.Roles.{Role, freed, kept_of, is_live_role, is_copy_role, is_held_role, is_kept_role}
use Rattle.zr_rules.specs.Roles.Role.{Absent, Free, FreshLive, Live, FreshCopy, Copy, Kept, DeferredBlock, DeferredMeta, Late1Block, Late1Meta, Late2Block, Late2Meta, Meta, SavedMeta}
use Rattle.zr_reckon.specs.Uses.{is_room_role}
use Rattle.zr_reckon.proofs.Bits.{is_deferred_block}

abbrev pub is_old_live : Role → Bool
is_old_live Live = true
is_old_live _ = false

abbrev pub is_new_live : Role → Bool
is_new_live FreshLive = true
is_new_live _ = false

abbrev pub is_old_copy : Role → Bool
is_old_copy Copy = true
is_old_copy _ = false

pub live_held : (r : Role) → is_live_role r ≡ true → is_held_role r ≡ true
live_held Absent is = absurd (cc)
live_held Free is = absurd (cc)
live_held FreshLive is = refl
live_held Live is = refl
live_held FreshCopy is = absurd (cc)
live_held Copy is = absurd (cc)
live_held Kept is = absurd (cc)
live_held DeferredBlock is = absurd (cc)
live_held DeferredMeta is = absurd (cc)
live_held Late1Block is = absurd (cc)
live_held Late1Meta is = absurd (cc)
live_held Late2Block is = absurd (cc)
live_held Late2Meta is = absurd (cc)
live_held Meta is = absurd (cc)
live_held SavedMeta is = absurd (cc)

pub copy_held : (r : Role) → is_copy_role r ≡ true → is_held_role r ≡ true
copy_held Absent is = absurd (cc)
copy_held Free is = absurd (cc)
copy_held FreshLive is = absurd (cc)
copy_held Live is = absurd (cc)
copy_held FreshCopy is = refl
copy_held Copy is = refl
copy_held Kept is = absurd (cc)
copy_held DeferredBlock is = absurd (cc)
copy_held DeferredMeta is = absurd (cc)
copy_held Late1Block is = absurd (cc)
copy_held Late1Meta is = absurd (cc)
copy_held Late2Block is = absurd (cc)
copy_held Late2Meta is = absurd (cc)
copy_held Meta is = absurd (cc)
copy_held SavedMeta is = absurd (cc)

pub freed_live_held : (r : Role) → is_live_role r ≡ true → is_held_role (freed r) ≡ false
freed_live_held Absent is = absurd (cc)
freed_live_held Free is = absurd (cc)
freed_live_held FreshLive is = refl
freed_live_held Live is = refl
freed_live_held FreshCopy is = absurd (cc)
freed_live_held Copy is = absurd (cc)
freed_live_held Kept is = absurd (cc)
freed_live_held DeferredBlock is = absurd (cc)
freed_live_held DeferredMeta is = absurd (cc)
freed_live_held Late1Block is = absurd (cc)
freed_live_held Late1Meta is = absurd (cc)
freed_live_held Late2Block is = absurd (cc)
freed_live_held Late2Meta is = absurd (cc)
freed_live_held Meta is = absurd (cc)
freed_live_held SavedMeta is = absurd (cc)

pub freed_copy_held : (r : Role) → is_copy_role r ≡ true → is_held_role (freed r) ≡ false
freed_copy_held Absent is = absurd (cc)
freed_copy_held Free is = absurd (cc)
freed_copy_held FreshLive is = absurd (cc)
freed_copy_held Live is = absurd (cc)
freed_copy_held FreshCopy is = refl
freed_copy_held Copy is = refl
freed_copy_held Kept is = absurd (cc)
freed_copy_held DeferredBlock is = absurd (cc)
freed_copy_held DeferredMeta is = absurd (cc)
freed_copy_held Late1Block is = absurd (cc)
freed_copy_held Late1Meta is = absurd (cc)
freed_copy_held Late2Block is = absurd (cc)
freed_copy_held Late2Meta is = absurd (cc)
freed_copy_held Meta is = absurd (cc)
freed_copy_held SavedMeta is = absurd (cc)

pub kept_live_held : (r : Role) → is_live_role r ≡ true → is_held_role (kept_of r) ≡ is_old_live r
kept_live_held Absent is = absurd (cc)
kept_live_held Free is = absurd (cc)
kept_live_held FreshLive is = refl
kept_live_held Live is = refl
kept_live_held FreshCopy is = absurd (cc)
kept_live_held Copy is = absurd (cc)
kept_live_held Kept is = absurd (cc)
kept_live_held DeferredBlock is = absurd (cc)
kept_live_held DeferredMeta is = absurd (cc)
kept_live_held Late1Block is = absurd (cc)
kept_live_held Late1Meta is = absurd (cc)
kept_live_held Late2Block is = absurd (cc)
kept_live_held Late2Meta is = absurd (cc)
kept_live_held Meta is = absurd (cc)
kept_live_held SavedMeta is = absurd (cc)

pub freed_kept : (r : Role) → is_kept_role (freed r) ≡ is_kept_role r
freed_kept Absent = refl
freed_kept Free = refl
freed_kept FreshLive = refl
freed_kept Live = refl
freed_kept FreshCopy = refl
freed_kept Copy = refl
freed_kept Kept = refl
freed_kept DeferredBlock = refl
freed_kept DeferredMeta = refl
freed_kept Late1Block = refl
freed_kept Late1Meta = refl
freed_kept Late2Block = refl
freed_kept Late2Meta = refl
freed_kept Meta = refl
freed_kept SavedMeta = refl

pub kept_live_kept : (r : Role) → is_live_role r ≡ true → is_kept_role (kept_of r) ≡ is_old_live r
kept_live_kept Absent is = absurd (cc)
kept_live_kept Free is = absurd (cc)
kept_live_kept FreshLive is = refl
kept_live_kept Live is = refl
kept_live_kept FreshCopy is = absurd (cc)
kept_live_kept Copy is = absurd (cc)
kept_live_kept Kept is = absurd (cc)
kept_live_kept DeferredBlock is = absurd (cc)
kept_live_kept DeferredMeta is = absurd (cc)
kept_live_kept Late1Block is = absurd (cc)
kept_live_kept Late1Meta is = absurd (cc)
kept_live_kept Late2Block is = absurd (cc)
kept_live_kept Late2Meta is = absurd (cc)
kept_live_kept Meta is = absurd (cc)
kept_live_kept SavedMeta is = absurd (cc)

pub live_not_kept : (r : Role) → is_live_role r ≡ true → is_kept_role r ≡ false
live_not_kept Absent is = absurd (cc)
live_not_kept Free is = absurd (cc)
live_not_kept FreshLive is = refl
live_not_kept Live is = refl
live_not_kept FreshCopy is = absurd (cc)
live_not_kept Copy is = absurd (cc)
live_not_kept Kept is = absurd (cc)
live_not_kept DeferredBlock is = absurd (cc)
live_not_kept DeferredMeta is = absurd (cc)
live_not_kept Late1Block is = absurd (cc)
live_not_kept Late1Meta is = absurd (cc)
live_not_kept Late2Block is = absurd (cc)
live_not_kept Late2Meta is = absurd (cc)
live_not_kept Meta is = absurd (cc)
live_not_kept SavedMeta is = absurd (cc)

pub freed_live_deferred : (r : Role) → is_live_role r ≡ true → is_deferred_block (freed r) ≡ is_old_live r
freed_live_deferred Absent is = absurd (cc)
freed_live_deferred Free is = absurd (cc)
freed_live_deferred FreshLive is = refl
freed_live_deferred Live is = refl
freed_live_deferred FreshCopy is = absurd (cc)
freed_live_deferred Copy is = absurd (cc)
freed_live_deferred Kept is = absurd (cc)
freed_live_deferred DeferredBlock is = absurd (cc)
freed_live_deferred DeferredMeta is = absurd (cc)
freed_live_deferred Late1Block is = absurd (cc)
freed_live_deferred Late1Meta is = absurd (cc)
freed_live_deferred Late2Block is = absurd (cc)
freed_live_deferred Late2Meta is = absurd (cc)
freed_live_deferred Meta is = absurd (cc)
freed_live_deferred SavedMeta is = absurd (cc)

pub live_not_deferred : (r : Role) → is_live_role r ≡ true → is_deferred_block r ≡ false
live_not_deferred Absent is = absurd (cc)
live_not_deferred Free is = absurd (cc)
live_not_deferred FreshLive is = refl
live_not_deferred Live is = refl
live_not_deferred FreshCopy is = absurd (cc)
live_not_deferred Copy is = absurd (cc)
live_not_deferred Kept is = absurd (cc)
live_not_deferred DeferredBlock is = absurd (cc)
live_not_deferred DeferredMeta is = absurd (cc)
live_not_deferred Late1Block is = absurd (cc)
live_not_deferred Late1Meta is = absurd (cc)
live_not_deferred Late2Block is = absurd (cc)
live_not_deferred Late2Meta is = absurd (cc)
live_not_deferred Meta is = absurd (cc)
live_not_deferred SavedMeta is = absurd (cc)

pub kept_live_deferred : (r : Role) → is_live_role r ≡ true → is_deferred_block (kept_of r) ≡ false
kept_live_deferred Absent is = absurd (cc)
kept_live_deferred Free is = absurd (cc)
kept_live_deferred FreshLive is = refl
kept_live_deferred Live is = refl
kept_live_deferred FreshCopy is = absurd (cc)
kept_live_deferred Copy is = absurd (cc)
kept_live_deferred Kept is = absurd (cc)
kept_live_deferred DeferredBlock is = absurd (cc)
kept_live_deferred DeferredMeta is = absurd (cc)
kept_live_deferred Late1Block is = absurd (cc)
kept_live_deferred Late1Meta is = absurd (cc)
kept_live_deferred Late2Block is = absurd (cc)
kept_live_deferred Late2Meta is = absurd (cc)
kept_live_deferred Meta is = absurd (cc)
kept_live_deferred SavedMeta is = absurd (cc)

pub freed_copy_deferred : (r : Role) → is_copy_role r ≡ true → is_deferred_block (freed r) ≡ is_old_copy r
freed_copy_deferred Absent is = absurd (cc)
freed_copy_deferred Free is = absurd (cc)
freed_copy_deferred FreshLive is = absurd (cc)
freed_copy_deferred Live is = absurd (cc)
freed_copy_deferred FreshCopy is = refl
freed_copy_deferred Copy is = refl
freed_copy_deferred Kept is = absurd (cc)
freed_copy_deferred DeferredBlock is = absurd (cc)
freed_copy_deferred DeferredMeta is = absurd (cc)
freed_copy_deferred Late1Block is = absurd (cc)
freed_copy_deferred Late1Meta is = absurd (cc)
freed_copy_deferred Late2Block is = absurd (cc)
freed_copy_deferred Late2Meta is = absurd (cc)
freed_copy_deferred Meta is = absurd (cc)
freed_copy_deferred SavedMeta is = absurd (cc)

pub copy_not_deferred : (r : Role) → is_copy_role r ≡ true → is_deferred_block r ≡ false
copy_not_deferred Absent is = absurd (cc)
copy_not_deferred Free is = absurd (cc)
copy_not_deferred FreshLive is = absurd (cc)
copy_not_deferred Live is = absurd (cc)
copy_not_deferred FreshCopy is = refl
copy_not_deferred Copy is = refl
copy_not_deferred Kept is = absurd (cc)
copy_not_deferred DeferredBlock is = absurd (cc)
copy_not_deferred DeferredMeta is = absurd (cc)
copy_not_deferred Late1Block is = absurd (cc)
copy_not_deferred Late1Meta is = absurd (cc)
copy_not_deferred Late2Block is = absurd (cc)
copy_not_deferred Late2Meta is = absurd (cc)
copy_not_deferred Meta is = absurd (cc)
copy_not_deferred SavedMeta is = absurd (cc)

pub live_split : (r : Role) → is_live_role r ≡ true → is_new_live r ≡ not (is_old_live r)
live_split Absent is = absurd (cc)
live_split Free is = absurd (cc)
live_split FreshLive is = refl
live_split Live is = refl
live_split FreshCopy is = absurd (cc)
live_split Copy is = absurd (cc)
live_split Kept is = absurd (cc)
live_split DeferredBlock is = absurd (cc)
live_split DeferredMeta is = absurd (cc)
live_split Late1Block is = absurd (cc)
live_split Late1Meta is = absurd (cc)
live_split Late2Block is = absurd (cc)
live_split Late2Meta is = absurd (cc)
live_split Meta is = absurd (cc)
live_split SavedMeta is = absurd (cc)

pub live_no_copy : (r : Role) → is_live_role r ≡ true → is_copy_role r ≡ false
live_no_copy Absent is = absurd (cc)
live_no_copy Free is = absurd (cc)
live_no_copy FreshLive is = refl
live_no_copy Live is = refl
live_no_copy FreshCopy is = absurd (cc)
live_no_copy Copy is = absurd (cc)
live_no_copy Kept is = absurd (cc)
live_no_copy DeferredBlock is = absurd (cc)
live_no_copy DeferredMeta is = absurd (cc)
live_no_copy Late1Block is = absurd (cc)
live_no_copy Late1Meta is = absurd (cc)
live_no_copy Late2Block is = absurd (cc)
live_no_copy Late2Meta is = absurd (cc)
live_no_copy Meta is = absurd (cc)
live_no_copy SavedMeta is = absurd (cc)

pub freed_room : (r : Role) → is_room_role r ≡ true → is_room_role (freed r) ≡ true
freed_room Absent is = absurd (cc)
freed_room Free is = refl
freed_room FreshLive is = absurd (cc)
freed_room Live is = absurd (cc)
freed_room FreshCopy is = absurd (cc)
freed_room Copy is = absurd (cc)
freed_room Kept is = absurd (cc)
freed_room DeferredBlock is = absurd (cc)
freed_room DeferredMeta is = absurd (cc)
freed_room Late1Block is = absurd (cc)
freed_room Late1Meta is = refl
freed_room Late2Block is = absurd (cc)
freed_room Late2Meta is = refl
freed_room Meta is = refl
freed_room SavedMeta is = absurd (cc)

pub kept_room : (r : Role) → is_room_role r ≡ true → is_room_role (kept_of r) ≡ true
kept_room Absent is = absurd (cc)
kept_room Free is = refl
kept_room FreshLive is = absurd (cc)
kept_room Live is = absurd (cc)
kept_room FreshCopy is = absurd (cc)
kept_room Copy is = absurd (cc)
kept_room Kept is = absurd (cc)
kept_room DeferredBlock is = absurd (cc)
kept_room DeferredMeta is = absurd (cc)
kept_room Late1Block is = absurd (cc)
kept_room Late1Meta is = refl
kept_room Late2Block is = absurd (cc)
kept_room Late2Meta is = refl
kept_room Meta is = refl
kept_room SavedMeta is = absurd (cc)

pub freed_from_held : (r : Role) → is_held_role (freed r) ≡ true → is_held_role r ≡ true
freed_from_held Absent is = absurd (cc)
freed_from_held Free is = absurd (cc)
freed_from_held FreshLive is = absurd (cc)
freed_from_held Live is = absurd (cc)
freed_from_held FreshCopy is = absurd (cc)
freed_from_held Copy is = absurd (cc)
freed_from_held Kept is = refl
freed_from_held DeferredBlock is = absurd (cc)
freed_from_held DeferredMeta is = absurd (cc)
freed_from_held Late1Block is = absurd (cc)
freed_from_held Late1Meta is = absurd (cc)
freed_from_held Late2Block is = absurd (cc)
freed_from_held Late2Meta is = absurd (cc)
freed_from_held Meta is = absurd (cc)
freed_from_held SavedMeta is = absurd (cc)

pub kept_from_held : (r : Role) → is_held_role (kept_of r) ≡ true → is_held_role r ≡ true
kept_from_held Absent is = absurd (cc)
kept_from_held Free is = absurd (cc)
kept_from_held FreshLive is = absurd (cc)
kept_from_held Live is = refl
kept_from_held FreshCopy is = refl
kept_from_held Copy is = refl
kept_from_held Kept is = refl
kept_from_held DeferredBlock is = absurd (cc)
kept_from_held DeferredMeta is = absurd (cc)
kept_from_held Late1Block is = absurd (cc)
kept_from_held Late1Meta is = absurd (cc)
kept_from_held Late2Block is = absurd (cc)
kept_from_held Late2Meta is = absurd (cc)
kept_from_held Meta is = absurd (cc)
kept_from_held SavedMeta is = absurd (cc)
