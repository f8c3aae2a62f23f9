-- What is owed once a checkpoint is held.
use Rattle.std.proofs.Common.{ℕ, ◌+◌, ◌≤◌, Bool, arith, ap}
use Rattle.zr_base.specs.declared.space.Sizes.{Sizes}
use Rattle.zr_owed.proofs.RoomLaws.{metadata-mono}
use Rattle.zr_rules.specs.Columns.{free_units, sizes}
use Rattle.zr_rules.specs.Owed.{metadata_units, owed, words_to_come}
use Rattle.zr_rules.specs.Space.{Space}
use Rattle.zr_rules.specs.Steps.{HoldsCheckpoint}
use Rattle.zr_reckon.proofs.Checkpointed.{hold_words, hold_room, hold_past, hold_others}
use Rattle.zr_reckon.proofs.RoomUnits.{room_is}
use Rattle.zr_reserve.specs.Covered.{IsCovered}
use Rattle.zr_reserve.specs.Commits.{CommitsWithin}
use Rattle.zr_reserve.proofs.Kept.{is_covered, kept_with, metadata_few, nothing_added}

pub checkpoint_covered : (reset : Bool) (old mid new held : Space) (changed objects most blocks frees metadata given txg : ℕ)
    → owed (sizes old changed objects) + metadata_units (sizes old changed objects) ≤ free_units old
    → CommitsWithin reset (sizes old changed objects) old mid new most blocks frees metadata given → HoldsCheckpoint new held txg → IsCovered held 0 0
checkpoint_covered reset old mid new held changed objects most blocks frees metadata given txg enough e c =
    let l = e.begun.lawful in
    let n = e.ends.lawful e.wrote.lawful in
    let i = room_is old l changed objects in
    let none = nothing_added reset old in
    let root = metadata_few reset old old mid new changed objects most blocks frees metadata given l none e in
    let kept = (kept_with reset old old mid new changed objects most blocks frees metadata given (metadata_units (sizes old changed objects)) l none e (record { enough = omega (arith, enough, i) })).enough in
    let w = hold_words new held txg c n 0 0 in
    let r = hold_room new held txg c n in
    let p = hold_past new held txg c 0 0 in
    let o = hold_others new held txg c n 0 0 in
    let s = ap (λ (z : Sizes). z.streams) o in
    let u = ap (λ (z : Sizes). z.uncopied) o in
    let x : words_to_come (sizes held 0 0) ≤ words_to_come (sizes new 0 0) = omega (arith, w, u) in
    let big = metadata-mono (sizes new 0 0) (sizes held 0 0) (omega (arith, s)) x p in
    is_covered held 0 0 (c.lawful n) (record { enough = omega (arith, kept, root, r, u, big) })
