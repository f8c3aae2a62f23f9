-- What the maps of roles keep of a role's kind.
use Rattle.std.proofs.Common.{◌≡◌, true, false, refl}
use Rattle.zr_rules.specs.Roles.{Role, aged, cleared, taken_over, is_held_role, is_kept_role, is_free_role}
use Rattle.zr_rules.specs.Roles.Role.{Absent, Free, FreshLive, Live, FreshCopy, Copy, Kept, DeferredBlock, DeferredMeta, Late1Block, Late1Meta, Late2Block, Late2Meta, Meta, SavedMeta}
use Rattle.zr_reckon.specs.Uses.{is_room_role, is_dropped_role}
use Rattle.zr_reckon.proofs.Bits.{is_deferred_block, is_late1_block, is_late2_block, is_late1_meta, is_late2_meta}

pub aged_held : (r : Role) → is_held_role (aged r) ≡ is_held_role r
aged_held Absent = refl
aged_held Free = refl
aged_held FreshLive = refl
aged_held Live = refl
aged_held FreshCopy = refl
aged_held Copy = refl
aged_held Kept = refl
aged_held DeferredBlock = refl
aged_held DeferredMeta = refl
aged_held Late1Block = refl
aged_held Late1Meta = refl
aged_held Late2Block = refl
aged_held Late2Meta = refl
aged_held Meta = refl
aged_held SavedMeta = refl

pub aged_kept : (r : Role) → is_kept_role (aged r) ≡ is_kept_role r
aged_kept Absent = refl
aged_kept Free = refl
aged_kept FreshLive = refl
aged_kept Live = refl
aged_kept FreshCopy = refl
aged_kept Copy = refl
aged_kept Kept = refl
aged_kept DeferredBlock = refl
aged_kept DeferredMeta = refl
aged_kept Late1Block = refl
aged_kept Late1Meta = refl
aged_kept Late2Block = refl
aged_kept Late2Meta = refl
aged_kept Meta = refl
aged_kept SavedMeta = refl

pub cleared_held : (r : Role) → is_held_role (cleared r) ≡ is_held_role r
cleared_held Absent = refl
cleared_held Free = refl
cleared_held FreshLive = refl
cleared_held Live = refl
cleared_held FreshCopy = refl
cleared_held Copy = refl
cleared_held Kept = refl
cleared_held DeferredBlock = refl
cleared_held DeferredMeta = refl
cleared_held Late1Block = refl
cleared_held Late1Meta = refl
cleared_held Late2Block = refl
cleared_held Late2Meta = refl
cleared_held Meta = refl
cleared_held SavedMeta = refl

pub cleared_kept : (r : Role) → is_kept_role (cleared r) ≡ is_kept_role r
cleared_kept Absent = refl
cleared_kept Free = refl
cleared_kept FreshLive = refl
cleared_kept Live = refl
cleared_kept FreshCopy = refl
cleared_kept Copy = refl
cleared_kept Kept = refl
cleared_kept DeferredBlock = refl
cleared_kept DeferredMeta = refl
cleared_kept Late1Block = refl
cleared_kept Late1Meta = refl
cleared_kept Late2Block = refl
cleared_kept Late2Meta = refl
cleared_kept Meta = refl
cleared_kept SavedMeta = refl

pub aged_late1 : (r : Role) → is_late1_block (aged r) ≡ is_deferred_block r
aged_late1 Absent = refl
aged_late1 Free = refl
aged_late1 FreshLive = refl
aged_late1 Live = refl
aged_late1 FreshCopy = refl
aged_late1 Copy = refl
aged_late1 Kept = refl
aged_late1 DeferredBlock = refl
aged_late1 DeferredMeta = refl
aged_late1 Late1Block = refl
aged_late1 Late1Meta = refl
aged_late1 Late2Block = refl
aged_late1 Late2Meta = refl
aged_late1 Meta = refl
aged_late1 SavedMeta = refl

pub aged_late2 : (r : Role) → is_late2_block (aged r) ≡ is_late1_block r
aged_late2 Absent = refl
aged_late2 Free = refl
aged_late2 FreshLive = refl
aged_late2 Live = refl
aged_late2 FreshCopy = refl
aged_late2 Copy = refl
aged_late2 Kept = refl
aged_late2 DeferredBlock = refl
aged_late2 DeferredMeta = refl
aged_late2 Late1Block = refl
aged_late2 Late1Meta = refl
aged_late2 Late2Block = refl
aged_late2 Late2Meta = refl
aged_late2 Meta = refl
aged_late2 SavedMeta = refl

pub aged_late1_meta : (r : Role) → is_late1_meta (aged r) ≡ is_dropped_role r
aged_late1_meta Absent = refl
aged_late1_meta Free = refl
aged_late1_meta FreshLive = refl
aged_late1_meta Live = refl
aged_late1_meta FreshCopy = refl
aged_late1_meta Copy = refl
aged_late1_meta Kept = refl
aged_late1_meta DeferredBlock = refl
aged_late1_meta DeferredMeta = refl
aged_late1_meta Late1Block = refl
aged_late1_meta Late1Meta = refl
aged_late1_meta Late2Block = refl
aged_late1_meta Late2Meta = refl
aged_late1_meta Meta = refl
aged_late1_meta SavedMeta = refl

pub aged_late2_meta : (r : Role) → is_late2_meta (aged r) ≡ is_late1_meta r
aged_late2_meta Absent = refl
aged_late2_meta Free = refl
aged_late2_meta FreshLive = refl
aged_late2_meta Live = refl
aged_late2_meta FreshCopy = refl
aged_late2_meta Copy = refl
aged_late2_meta Kept = refl
aged_late2_meta DeferredBlock = refl
aged_late2_meta DeferredMeta = refl
aged_late2_meta Late1Block = refl
aged_late2_meta Late1Meta = refl
aged_late2_meta Late2Block = refl
aged_late2_meta Late2Meta = refl
aged_late2_meta Meta = refl
aged_late2_meta SavedMeta = refl

pub cleared_late1_block : (r : Role) → is_late1_block (cleared r) ≡ false
cleared_late1_block Absent = refl
cleared_late1_block Free = refl
cleared_late1_block FreshLive = refl
cleared_late1_block Live = refl
cleared_late1_block FreshCopy = refl
cleared_late1_block Copy = refl
cleared_late1_block Kept = refl
cleared_late1_block DeferredBlock = refl
cleared_late1_block DeferredMeta = refl
cleared_late1_block Late1Block = refl
cleared_late1_block Late1Meta = refl
cleared_late1_block Late2Block = refl
cleared_late1_block Late2Meta = refl
cleared_late1_block Meta = refl
cleared_late1_block SavedMeta = refl

pub cleared_late2_block : (r : Role) → is_late2_block (cleared r) ≡ false
cleared_late2_block Absent = refl
cleared_late2_block Free = refl
cleared_late2_block FreshLive = refl
cleared_late2_block Live = refl
cleared_late2_block FreshCopy = refl
cleared_late2_block Copy = refl
cleared_late2_block Kept = refl
cleared_late2_block DeferredBlock = refl
cleared_late2_block DeferredMeta = refl
cleared_late2_block Late1Block = refl
cleared_late2_block Late1Meta = refl
cleared_late2_block Late2Block = refl
cleared_late2_block Late2Meta = refl
cleared_late2_block Meta = refl
cleared_late2_block SavedMeta = refl

pub cleared_late1_meta : (r : Role) → is_late1_meta (cleared r) ≡ false
cleared_late1_meta Absent = refl
cleared_late1_meta Free = refl
cleared_late1_meta FreshLive = refl
cleared_late1_meta Live = refl
cleared_late1_meta FreshCopy = refl
cleared_late1_meta Copy = refl
cleared_late1_meta Kept = refl
cleared_late1_meta DeferredBlock = refl
cleared_late1_meta DeferredMeta = refl
cleared_late1_meta Late1Block = refl
cleared_late1_meta Late1Meta = refl
cleared_late1_meta Late2Block = refl
cleared_late1_meta Late2Meta = refl
cleared_late1_meta Meta = refl
cleared_late1_meta SavedMeta = refl

pub cleared_late2_meta : (r : Role) → is_late2_meta (cleared r) ≡ false
cleared_late2_meta Absent = refl
cleared_late2_meta Free = refl
cleared_late2_meta FreshLive = refl
cleared_late2_meta Live = refl
cleared_late2_meta FreshCopy = refl
cleared_late2_meta Copy = refl
cleared_late2_meta Kept = refl
cleared_late2_meta DeferredBlock = refl
cleared_late2_meta DeferredMeta = refl
cleared_late2_meta Late1Block = refl
cleared_late2_meta Late1Meta = refl
cleared_late2_meta Late2Block = refl
cleared_late2_meta Late2Meta = refl
cleared_late2_meta Meta = refl
cleared_late2_meta SavedMeta = refl

pub aged_room : (r : Role) → is_room_role r ≡ true → is_room_role (aged r) ≡ true
aged_room Absent is = absurd (cc)
aged_room Free is = refl
aged_room FreshLive is = absurd (cc)
aged_room Live is = absurd (cc)
aged_room FreshCopy is = absurd (cc)
aged_room Copy is = absurd (cc)
aged_room Kept is = absurd (cc)
aged_room DeferredBlock is = absurd (cc)
aged_room DeferredMeta is = absurd (cc)
aged_room Late1Block is = absurd (cc)
aged_room Late1Meta is = refl
aged_room Late2Block is = absurd (cc)
aged_room Late2Meta is = refl
aged_room Meta is = refl
aged_room SavedMeta is = absurd (cc)

pub cleared_room : (r : Role) → is_room_role r ≡ true → is_room_role (cleared r) ≡ true
cleared_room Absent is = absurd (cc)
cleared_room Free is = refl
cleared_room FreshLive is = absurd (cc)
cleared_room Live is = absurd (cc)
cleared_room FreshCopy is = absurd (cc)
cleared_room Copy is = absurd (cc)
cleared_room Kept is = absurd (cc)
cleared_room DeferredBlock is = absurd (cc)
cleared_room DeferredMeta is = absurd (cc)
cleared_room Late1Block is = absurd (cc)
cleared_room Late1Meta is = refl
cleared_room Late2Block is = absurd (cc)
cleared_room Late2Meta is = refl
cleared_room Meta is = refl
cleared_room SavedMeta is = absurd (cc)

pub taken_held : (r : Role) → is_held_role (taken_over r) ≡ is_held_role r
taken_held Absent = refl
taken_held Free = refl
taken_held FreshLive = refl
taken_held Live = refl
taken_held FreshCopy = refl
taken_held Copy = refl
taken_held Kept = refl
taken_held DeferredBlock = refl
taken_held DeferredMeta = refl
taken_held Late1Block = refl
taken_held Late1Meta = refl
taken_held Late2Block = refl
taken_held Late2Meta = refl
taken_held Meta = refl
taken_held SavedMeta = refl

pub taken_kept : (r : Role) → is_kept_role (taken_over r) ≡ is_kept_role r
taken_kept Absent = refl
taken_kept Free = refl
taken_kept FreshLive = refl
taken_kept Live = refl
taken_kept FreshCopy = refl
taken_kept Copy = refl
taken_kept Kept = refl
taken_kept DeferredBlock = refl
taken_kept DeferredMeta = refl
taken_kept Late1Block = refl
taken_kept Late1Meta = refl
taken_kept Late2Block = refl
taken_kept Late2Meta = refl
taken_kept Meta = refl
taken_kept SavedMeta = refl

pub taken_deferred : (r : Role) → is_deferred_block (taken_over r) ≡ is_deferred_block r
taken_deferred Absent = refl
taken_deferred Free = refl
taken_deferred FreshLive = refl
taken_deferred Live = refl
taken_deferred FreshCopy = refl
taken_deferred Copy = refl
taken_deferred Kept = refl
taken_deferred DeferredBlock = refl
taken_deferred DeferredMeta = refl
taken_deferred Late1Block = refl
taken_deferred Late1Meta = refl
taken_deferred Late2Block = refl
taken_deferred Late2Meta = refl
taken_deferred Meta = refl
taken_deferred SavedMeta = refl

pub taken_late1 : (r : Role) → is_late1_block (taken_over r) ≡ is_late1_block r
taken_late1 Absent = refl
taken_late1 Free = refl
taken_late1 FreshLive = refl
taken_late1 Live = refl
taken_late1 FreshCopy = refl
taken_late1 Copy = refl
taken_late1 Kept = refl
taken_late1 DeferredBlock = refl
taken_late1 DeferredMeta = refl
taken_late1 Late1Block = refl
taken_late1 Late1Meta = refl
taken_late1 Late2Block = refl
taken_late1 Late2Meta = refl
taken_late1 Meta = refl
taken_late1 SavedMeta = refl

pub taken_late2 : (r : Role) → is_late2_block (taken_over r) ≡ is_late2_block r
taken_late2 Absent = refl
taken_late2 Free = refl
taken_late2 FreshLive = refl
taken_late2 Live = refl
taken_late2 FreshCopy = refl
taken_late2 Copy = refl
taken_late2 Kept = refl
taken_late2 DeferredBlock = refl
taken_late2 DeferredMeta = refl
taken_late2 Late1Block = refl
taken_late2 Late1Meta = refl
taken_late2 Late2Block = refl
taken_late2 Late2Meta = refl
taken_late2 Meta = refl
taken_late2 SavedMeta = refl

pub taken_late1_meta : (r : Role) → is_late1_meta (taken_over r) ≡ is_late1_meta r
taken_late1_meta Absent = refl
taken_late1_meta Free = refl
taken_late1_meta FreshLive = refl
taken_late1_meta Live = refl
taken_late1_meta FreshCopy = refl
taken_late1_meta Copy = refl
taken_late1_meta Kept = refl
taken_late1_meta DeferredBlock = refl
taken_late1_meta DeferredMeta = refl
taken_late1_meta Late1Block = refl
taken_late1_meta Late1Meta = refl
taken_late1_meta Late2Block = refl
taken_late1_meta Late2Meta = refl
taken_late1_meta Meta = refl
taken_late1_meta SavedMeta = refl

pub taken_late2_meta : (r : Role) → is_late2_meta (taken_over r) ≡ is_late2_meta r
taken_late2_meta Absent = refl
taken_late2_meta Free = refl
taken_late2_meta FreshLive = refl
taken_late2_meta Live = refl
taken_late2_meta FreshCopy = refl
taken_late2_meta Copy = refl
taken_late2_meta Kept = refl
taken_late2_meta DeferredBlock = refl
taken_late2_meta DeferredMeta = refl
taken_late2_meta Late1Block = refl
taken_late2_meta Late1Meta = refl
taken_late2_meta Late2Block = refl
taken_late2_meta Late2Meta = refl
taken_late2_meta Meta = refl
taken_late2_meta SavedMeta = refl

pub taken_room : (r : Role) → is_room_role (taken_over r) ≡ is_room_role r
taken_room Absent = refl
taken_room Free = refl
taken_room FreshLive = refl
taken_room Live = refl
taken_room FreshCopy = refl
taken_room Copy = refl
taken_room Kept = refl
taken_room DeferredBlock = refl
taken_room DeferredMeta = refl
taken_room Late1Block = refl
taken_room Late1Meta = refl
taken_room Late2Block = refl
taken_room Late2Meta = refl
taken_room Meta = refl
taken_room SavedMeta = refl

pub taken_free : (r : Role) → is_free_role (taken_over r) ≡ is_free_role r
taken_free Absent = refl
taken_free Free = refl
taken_free FreshLive = refl
taken_free Live = refl
taken_free FreshCopy = refl
taken_free Copy = refl
taken_free Kept = refl
taken_free DeferredBlock = refl
taken_free DeferredMeta = refl
taken_free Late1Block = refl
taken_free Late1Meta = refl
taken_free Late2Block = refl
taken_free Late2Meta = refl
taken_free Meta = refl
taken_free SavedMeta = refl
