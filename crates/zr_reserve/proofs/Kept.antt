-- That a commit finds room, and leaves what is owed.
use Rattle.std.proofs.Common.{◌≡◌, ℕ, ◌+◌, ◌-◌, ◌*◌, ◌<◌, ◌≤◌, Bool, true, false, List, refl, ◌∙◌, sym, ap, subst, arith}
use Rattle.std.specs.Int.{div_ceil}
use Rattle.std.proofs.lemmas.Nat.{mul-le}
use Rattle.zr_base.specs.declared.space.LateRun.{LateRun}
use Rattle.zr_base.specs.declared.space.DevPart.{DevPart}
use Rattle.zr_base.specs.declared.space.Sizes.{Sizes}
use Rattle.zr_base.specs.Extents.{IsMaximal}
use Rattle.zr_owed.specs.Room.{HasRoom, IsCommit}
use Rattle.zr_owed.proofs.RoomLaws.{commit_fits, commit_keeps, parts, tree_units_mono}
use Rattle.zr_rules.specs.Columns.{free_units, late_blocks, late_meta_units, late1_meta, late2_meta, sizes}
use Rattle.zr_rules.specs.Owed.{head_units, metadata_units, tree_blocks}
use Rattle.zr_rules.specs.Places.{part_of}
use Rattle.zr_rules.specs.Space.{Space, IsLawful}
use Rattle.zr_reckon.specs.Uses.{room, second_late_words, HasLateSets}
use Rattle.zr_reckon.proofs.BaseWords.{reset_base, words_split}
use Rattle.zr_reckon.proofs.Ended.{end_words, end_first, end_second, end_none, end_others}
use Rattle.zr_reckon.proofs.Frames.{sum_same}
use Rattle.zr_reckon.proofs.GroupRoom.{begin_room, ended_room}
use Rattle.zr_reckon.proofs.MetaTurns.{none_dropped}
use Rattle.zr_reckon.proofs.RoomUnits.{room_is, turning_most}
use Rattle.zr_reserve.specs.Covered.{AddsNothing, IsCovered, words_ahead}
use Rattle.zr_reserve.specs.Commits.{CommitsWithin}
use Rattle.zr_reserve.specs.Wrote.{Wrote, units_of}
use Rattle.zr_reserve.proofs.Counted.{same_streams}

-- ---- the two forms of what is owed

pub has_room : (s : Space) (changed objects : ℕ) → IsLawful s → IsCovered s changed objects → HasRoom (sizes s changed objects) (room s)
has_room s changed objects l covered = let r = room_is s l changed objects in record { enough = omega (arith, covered, r) }

pub is_covered : (s : Space) (changed objects : ℕ) → IsLawful s → HasRoom (sizes s changed objects) (room s) → IsCovered s changed objects
is_covered s changed objects l h = let r = room_is s l changed objects in let e = h.enough in omega (arith, e, r)

-- ---- at each moment

pub three_fit : (s : Space) (changed objects : ℕ) → IsCovered s changed objects
    → tree_blocks (sizes s changed objects) + (sizes s changed objects).uncopied + 3 * metadata_units (sizes s changed objects) ≤ free_units s
three_fit s changed objects covered = let t = turning_most s changed objects in omega (arith, t, covered)

pub finds_room : (old mid : Space) (changed objects most blocks frees metadata given : ℕ) → IsCovered old changed objects → Wrote old mid most blocks frees metadata given
    → blocks ≤ tree_blocks (sizes old changed objects) → metadata ≤ metadata_units (sizes old changed objects) → 0 < free_units mid
finds_room old mid changed objects most blocks frees metadata given covered w b m =
    let t = three_fit old changed objects covered in
    let f = w.free in
    omega (arith, t, f, b, m)

pub room_left_later : (reset : Bool) (start old mid : Space) (changed objects most blocks frees metadata given : ℕ) → IsLawful start → IsCovered start changed objects
    → AddsNothing reset start old → IsLawful old → Wrote old mid most blocks frees metadata given
    → tree_blocks (sizes start changed objects) + (sizes start changed objects).uncopied + 3 * metadata_units (sizes start changed objects) ≤ free_units mid + blocks + metadata
room_left_later reset start old mid changed objects most blocks frees metadata given l covered n k w =
    let e = (has_room start changed objects l covered).enough in
    let r = n.room in
    let i = room_is old k 0 0 in
    let t = turning_most old 0 0 in
    let p = n.past in
    let f = w.free in
    omega (arith, e, r, i, t, p, f)

pub finds_room_later : (reset : Bool) (start old mid : Space) (changed objects most blocks frees metadata given : ℕ) → IsLawful start → IsCovered start changed objects
    → AddsNothing reset start old → IsLawful old → Wrote old mid most blocks frees metadata given
    → blocks ≤ tree_blocks (sizes start changed objects) → metadata ≤ metadata_units (sizes start changed objects) → 0 < free_units mid
finds_room_later reset start old mid changed objects most blocks frees metadata given l covered n k w b m =
    let left = room_left_later reset start old mid changed objects most blocks frees metadata given l covered n k w in
    omega (arith, left, b, m)

-- ---- behind it

-- fewer streams take no longer head
pub head_less : (more fewer : Sizes) → fewer.streams ≤ more.streams → head_units fewer ≤ head_units more
head_less more fewer le =
    let a = parts (535 + 17 * fewer.streams) 512 (omega arith) in
    let b = parts (535 + 17 * more.streams) 512 (omega arith) in
    tree_units_mono (div_ceil (535 + 17 * fewer.streams) 512) (div_ceil (535 + 17 * more.streams) 512) (omega (arith, a, b, le))

-- what tree blocks add to the words is what was owed for them
pub grown : (gone owed most blocks frees : ℕ) → most ≤ gone + 7 → blocks ≤ owed → frees ≤ owed → blocks + frees * most ≤ 2 * (gone + 4) * owed
grown gone owed most blocks frees le b f =
    let p = mul-le frees most owed (gone + 7) f le in
    omega (arith, p, b)

pub nothing_added : (reset : Bool) (s : Space) → AddsNothing reset s s
nothing_added reset s = record { words = by_kind reset; streams = omega arith; uncopied = omega arith; past = omega arith; room = omega arith }
  where
    by_kind : (b : Bool) → words_ahead b s ≤ (sizes s 0 0).words
    by_kind true = let w = words_split s 0 0 in omega (arith, w)
    by_kind false = omega arith

module _ (reset : Bool) (start old mid new : Space) (changed objects most blocks frees metadata given : ℕ) (l : IsLawful start) (n : AddsNothing reset start old) (e : CommitsWithin reset (sizes start changed objects) old mid new most blocks frees metadata given) where
  abbrev before : Sizes
  before = sizes start changed objects

  abbrev after : Sizes
  after = sizes new 0 0

  late_mid : HasLateSets mid
  late_mid = record {
    late1 = λ d. subst (λ (runs : List LateRun). IsMaximal (late_blocks runs)) (sym (e.wrote.each d).late1) (e.begun.late_sets.late1 d);
    late2 = λ d. subst (λ (runs : List LateRun). IsMaximal (late_blocks runs)) (sym (e.wrote.each d).late2) (e.begun.late_sets.late2 d);
  }

  lawful : IsLawful new
  lawful = e.ends.lawful e.wrote.lawful

  rows : (d : ℕ) → (part_of mid.parts.devs d).row ≡ (part_of old.parts.devs d).row
  rows d = (e.wrote.each d).row

  room_left : room start ≤ room new + blocks
  room_left =
      let a = n.room in
      let b = begin_room old e.begun.lawful e.begun.none in
      let w = e.wrote.room in
      let z = ended_room reset mid new e.ends in
      omega (arith, a, b, w, z)

  other_counts : after ≡ record (sizes mid 0 0) { words = after.words; turning = after.turning; past = after.past }
  other_counts = end_others reset mid new e.ends e.wrote.lawful 0 0

  streams_stay : after.streams ≡ (sizes old 0 0).streams
  streams_stay = ap (λ (z : Sizes). z.streams) other_counts ∙ same_streams old mid _ _ _ _ _ e.wrote

  uncopied_stays : after.uncopied ≡ (sizes mid 0 0).uncopied
  uncopied_stays = ap (λ (z : Sizes). z.uncopied) other_counts

  late_stays : late1_meta mid.parts.devs ≡ late1_meta old.parts.devs
  late_stays = sum_same old mid e.wrote.devices rows (λ (p : DevPart). late_meta_units p.late1) (λ d. ap late_meta_units (e.wrote.each d).late1)

  ahead_grows : (b : Bool) → words_ahead b mid ≤ words_ahead b old + blocks + frees * most
  ahead_grows true = e.wrote.base
  ahead_grows false = e.wrote.words

  fewer_heads : head_units after ≤ head_units before
  fewer_heads = let s = n.streams in head_less before after (omega (arith, s, streams_stay))

  -- with the words that the new root has no more, what its late sets name, and so much room set aside
  is_commit : (spare dropped : ℕ) → after.words + dropped ≡ words_ahead reset mid → late1_meta new.parts.devs ≤ before.past → late2_meta new.parts.devs ≤ before.past
      → IsCommit before after (room start - spare) (room new - spare) blocks (words_ahead reset mid) (sizes mid 0 0).uncopied (units_of new.meta) dropped (late1_meta new.parts.devs) (late2_meta new.parts.devs)
  is_commit spare dropped words late1 late2 =
      let w = ahead_grows reset in
      let v = n.words in
      let u = e.wrote.uncopied in
      let x = n.uncopied in
      let s = n.streams in
      let g = grown before.gone (tree_blocks before) most blocks frees e.words_of_a_free e.blocks_put e.blocks_freed in
      let m = e.few.few in
      record {
        wrote = e.blocks_put;
        grew = omega (arith, w, v, u, x, g);
        metadata_is = omega (arith, m, fewer_heads, s, streams_stay, words);
        late1_is = late1;
        late2_is = late2;
        room = omega (arith, room_left);
        new_words = omega (arith, words);
        new_uncopied = omega (arith, uncopied_stays);
        old_uncopied = omega (arith, uncopied_stays, u, x);
        none = refl;
        streams = omega (arith, s, streams_stay);
        new_past = refl;
        no_snaps = refl;
      }

-- a commit as the counts see it, with so much room set aside
abbrev IsMade : Bool → Space → Space → Space → ℕ → ℕ → ℕ → ℕ → Type 0
IsMade reset start mid new changed objects blocks spare =
    (dropped : ℕ) × IsCommit (sizes start changed objects) (sizes new 0 0) (room start - spare) (room new - spare) blocks (words_ahead reset mid) (sizes mid 0 0).uncopied (units_of new.meta) dropped (late1_meta new.parts.devs) (late2_meta new.parts.devs)

made : (reset : Bool) (start old mid new : Space) (changed objects most blocks frees metadata given spare : ℕ) → IsLawful start → AddsNothing reset start old
    → CommitsWithin reset (sizes start changed objects) old mid new most blocks frees metadata given → IsMade reset start mid new changed objects blocks spare
made true start old mid new changed objects most blocks frees metadata given spare l n e =
    let none = end_none mid new e.ends e.wrote.lawful in
    let base = reset_base mid new 0 0 e.ends e.wrote.lawful e.late_sets in
    (0, is_commit true start old mid new changed objects most blocks frees metadata given l n e spare 0 (omega (arith, base)) (omega (arith, none)) (omega (arith, none)))
made false start old mid new changed objects most blocks frees metadata given spare l n e =
    let first = end_first mid new e.ends e.wrote.lawful in
    let second = end_second mid new e.ends e.wrote.lawful in
    let late = e.late refl in
    let waits = e.wrote.waits in
    let none = none_dropped old e.begun.lawful e.begun.none in
    let stays = late_stays false start old mid new changed objects most blocks frees metadata given l n e in
    let past = n.past in (
      second_late_words mid,
      is_commit false start old mid new changed objects most blocks frees metadata given l n e spare (second_late_words mid)
          (end_words mid new e.ends e.wrote.lawful (late_mid false start old mid new changed objects most blocks frees metadata given l n e) e.late_sets 0 0)
          (omega (arith, first, late, waits, none)) (omega (arith, second, stays, past)),
    )

-- room that was set aside is there behind the commit too
pub kept_with : (reset : Bool) (start old mid new : Space) (changed objects most blocks frees metadata given spare : ℕ) → IsLawful start → AddsNothing reset start old
    → CommitsWithin reset (sizes start changed objects) old mid new most blocks frees metadata given → HasRoom (sizes start changed objects) (room start - spare) → HasRoom (sizes new 0 0) (room new - spare)
kept_with reset start old mid new changed objects most blocks frees metadata given spare l n e h =
    commit_keeps _ _ _ _ _ _ _ _ _ _ _ (made reset start old mid new changed objects most blocks frees metadata given spare l n e).1 h

-- the new root's metadata is what was owed for it
pub metadata_few : (reset : Bool) (start old mid new : Space) (changed objects most blocks frees metadata given : ℕ) → IsLawful start → AddsNothing reset start old
    → CommitsWithin reset (sizes start changed objects) old mid new most blocks frees metadata given → units_of new.meta ≤ metadata_units (sizes start changed objects)
metadata_few reset start old mid new changed objects most blocks frees metadata given l n e =
    commit_fits _ _ _ _ _ _ _ _ _ _ _ (made reset start old mid new changed objects most blocks frees metadata given 0 l n e).1

pub keeps_room_later : (reset : Bool) (start old mid new : Space) (changed objects most blocks frees metadata given : ℕ) → IsLawful start → IsCovered start changed objects
    → AddsNothing reset start old → CommitsWithin reset (sizes start changed objects) old mid new most blocks frees metadata given → IsCovered new 0 0
keeps_room_later reset start old mid new changed objects most blocks frees metadata given l covered n e =
    let h = (has_room start changed objects l covered).enough in
    let k = (kept_with reset start old mid new changed objects most blocks frees metadata given 0 l n e (record { enough = omega (arith, h) })).enough in
    is_covered new 0 0 (e.ends.lawful e.wrote.lawful) (record { enough = omega (arith, k) })

pub keeps_room : (reset : Bool) (old mid new : Space) (changed objects most blocks frees metadata given : ℕ) → IsCovered old changed objects
    → CommitsWithin reset (sizes old changed objects) old mid new most blocks frees metadata given → IsCovered new 0 0
keeps_room reset old mid new changed objects most blocks frees metadata given covered e =
    keeps_room_later reset old old mid new changed objects most blocks frees metadata given e.begun.lawful covered (nothing_added reset old) e
