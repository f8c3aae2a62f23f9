-- What is owed at each step between commits.
use Rattle.std.proofs.Common.{◌≡◌, ℕ, ◌+◌, ◌*◌, ◌≤◌, Bool, true, false, refl, ap, arith, if◌then◌else◌}
use Rattle.std.specs.Int.{div_ceil}
use Rattle.std.proofs.lemmas.Nat.{mul-le}
use Rattle.zr_base.specs.declared.space.Condensed.{Condensed}
use Rattle.zr_base.specs.declared.space.Policy.{Policy}
use Rattle.zr_base.specs.declared.space.Sizes.{Sizes}
use Rattle.zr_owed.proofs.RoomLaws.{device_takes, metadata-mono, parts, tree_units-lt}
use Rattle.zr_rules.specs.Columns.{free_units, sizes}
use Rattle.zr_rules.specs.Owed.{metadata_units, stream_units, tree_blocks, words_to_come}
use Rattle.zr_rules.specs.Places.{is_leaving, state_of_dev}
use Rattle.zr_rules.specs.Space.{Space, IsLawful}
use Rattle.zr_rules.specs.Steps.{AddsDevice, Cancels, CondensesSome, Copies, DiscardsSome, Finishes}
use Rattle.zr_reckon.specs.Base.{LeavesAlone}
use Rattle.zr_reckon.specs.Condensing.{IsUnderway}
use Rattle.zr_reckon.specs.Uses.{room, HasLateSets}
use Rattle.zr_reckon.proofs.Added.{added_sizes, added_room}
use Rattle.zr_reckon.proofs.BaseWords.{words_split}
use Rattle.zr_reckon.proofs.Cancelled.{cancel_base, cancel_streams, cancel_uncopied, cancel_room, cancel_past}
use Rattle.zr_reckon.proofs.Condensed.{condense_words, condense_room, condense_others}
use Rattle.zr_reckon.proofs.Copying.{copy_words, copy_room, copy_uncopied, copy_others}
use Rattle.zr_reckon.proofs.Discarded.{some_words, some_uncopied, some_room, some_others}
use Rattle.zr_reckon.proofs.Finished.{finish_words, finish_streams, finish_uncopied, finish_room, finish_past}
use Rattle.zr_reserve.specs.Covered.{AddsNothing, IsCovered, words_ahead}
use Rattle.zr_reserve.proofs.Kept.{has_room, is_covered}

-- ---- counts that do not grow

-- units that went were to be copied, and the words that came were counted for them
record Shrinks (old new : Sizes) (went : ℕ) : Type 0 where
  pub blocks : new.blocks ≡ old.blocks
  pub objects : new.objects ≡ old.objects
  pub words : new.words + 10 * new.uncopied ≤ old.words + 10 * old.uncopied
  pub streams : new.streams ≤ old.streams
  pub gone : new.gone ≤ old.gone
  pub uncopied : new.uncopied + went ≤ old.uncopied
  pub past : new.past ≤ old.past
  pub snaps : new.snaps ≡ old.snaps

abbrev words_each : Bool → ℕ
words_each snaps = if snaps then 12 else 4

coming_less : (old new : Sizes) (went : ℕ) → Shrinks old new went → words_to_come new ≤ words_to_come old
coming_less old new went s =
    let b = s.blocks in
    let o = s.objects in
    let w = s.words in
    let g = s.gone in
    let t : tree_blocks new ≤ tree_blocks old = omega (arith, b, o) in
    let h = ap words_each s.snaps in
    let m = mul-le (2 * (new.gone + words_each new.snaps)) (tree_blocks new) (2 * (old.gone + words_each old.snaps)) (tree_blocks old) (omega (arith, g, h)) t in
    omega (arith, w, m)

still_covered : (old new : Space) (changed objects went : ℕ) → IsLawful old → IsLawful new → Shrinks (sizes old changed objects) (sizes new changed objects) went → room old ≤ room new + went → IsCovered old changed objects → IsCovered new changed objects
still_covered old new changed objects went l m s r covered =
    let e = (has_room old changed objects l covered).enough in
    let big = metadata-mono (sizes old changed objects) (sizes new changed objects) s.streams (coming_less _ _ went s) s.past in
    let u = s.uncopied in
    is_covered new changed objects m (record { enough = omega (arith, e, big, u, r) })

-- ---- steps

pub copy_covered : (policy : Policy) (old new : Space) (d n changed objects : ℕ) → Copies policy old new d n → IsLawful old → HasLateSets old → HasLateSets new
    → is_leaving (state_of_dev old.parts.devs d) ≡ true → IsCovered old changed objects → IsCovered new changed objects
copy_covered policy old new d n changed objects c l h k leaving covered =
    let w = copy_words policy old new d n c l h k changed objects in
    let u = copy_uncopied policy old new d n c l leaving in
    let o = copy_others policy old new d n c l changed objects in
    let r = copy_room policy old new d n c l in
    let some = c.first.some in
    let s = ap (λ (z : Sizes). z.streams) o in
    let g = ap (λ (z : Sizes). z.gone) o in
    let p = ap (λ (z : Sizes). z.past) o in
    still_covered old new changed objects n l (c.elsewhere.lawful l)
    (record { blocks = refl; objects = refl; words = omega (arith, w, u, some); streams = omega (arith, s); gone = omega (arith, g); uncopied = omega (arith, u); past = omega (arith, p); snaps = refl })
    (omega (arith, r)) covered

pub discard_covered : (old new : Space) (units changed objects : ℕ) → DiscardsSome old units new → IsLawful old → IsLawful new → IsCovered old changed objects → IsCovered new changed objects
discard_covered old new units changed objects c l m covered =
    let w = some_words old new units changed objects c l in
    let u = some_uncopied old new units changed objects c l in
    let o = some_others old new units changed objects c l in
    let r = some_room old new units c l in
    let s = ap (λ (z : Sizes). z.streams) o in
    let g = ap (λ (z : Sizes). z.gone) o in
    let p = ap (λ (z : Sizes). z.past) o in
    still_covered old new changed objects 0 l m
    (record { blocks = refl; objects = refl; words = omega (arith, w, u); streams = omega (arith, s); gone = omega (arith, g); uncopied = omega (arith, u); past = omega (arith, p); snaps = refl })
    (omega (arith, r)) covered

pub condense_covered : (old new : Space) (outcome : Condensed) (changed objects : ℕ) → CondensesSome old outcome new → IsLawful old → IsLawful new → HasLateSets old → HasLateSets new
    → IsUnderway old → IsCovered old changed objects → IsCovered new changed objects
condense_covered old new outcome changed objects c l m h k underway covered =
    let w = condense_words old new outcome c l h k underway changed objects in
    let o = condense_others old new outcome c l underway changed objects in
    let r = condense_room old new outcome c underway in
    let u = ap (λ (z : Sizes). z.uncopied) o in
    let s = ap (λ (z : Sizes). z.streams) o in
    let g = ap (λ (z : Sizes). z.gone) o in
    let p = ap (λ (z : Sizes). z.past) o in
    still_covered old new changed objects 0 l m
    (record { blocks = refl; objects = refl; words = omega (arith, w, u); streams = omega (arith, s); gone = omega (arith, g); uncopied = omega (arith, u); past = omega (arith, p); snaps = refl })
    (omega (arith, r)) covered

pub device_covered : (old new : Space) (units txg changed objects : ℕ) → AddsDevice old new units txg → IsLawful old → (sizes old 0 0).streams ≤ 136 → 108 ≤ units
    → IsCovered old changed objects → IsCovered new changed objects
device_covered old new units txg changed objects c l few many covered =
    let e = (has_room old changed objects l covered).enough in
    let t = device_takes (sizes old changed objects) few in
    let same = added_sizes old new units txg c l changed objects in
    let r = added_room old new units txg c l in
    let blocks = ap tree_blocks same in
    let uncopied = ap (λ (z : Sizes). z.uncopied) same in
    let big = ap metadata_units same in
    is_covered new changed objects (c.lawful l) (record { enough = omega (arith, e, t, r, blocks, uncopied, big, many) })

-- ---- the end of a removal

pub finish_adds : (reset : Bool) (old new : Space) (d txg : ℕ) → Finishes old new d txg → IsLawful old → HasLateSets old → HasLateSets new → is_leaving (state_of_dev old.parts.devs d) ≡ true → AddsNothing reset old new
finish_adds reset old new d txg c l h k leaving =
    let w = finish_words old new d txg c l h k 0 0 in
    let s = finish_streams old new d txg c leaving 0 0 in
    let r = finish_room old new d txg c leaving in
    record { words = by_kind reset w; streams = omega (arith, s); uncopied = finish_uncopied old new d txg c l 0 0; past = finish_past old new d txg c l 0 0; room = omega (arith, r) }
  where
    by_kind : (b : Bool) → (sizes new 0 0).words ≤ (sizes old 0 0).words → words_ahead b new ≤ (sizes old 0 0).words
    by_kind true w = let split = words_split new 0 0 in omega (arith, w, split)
    by_kind false w = w

pub cancel_adds : (old new : Space) (d : ℕ) → Cancels old new d → IsLawful old → LeavesAlone old d → AddsNothing true old new
cancel_adds old new d c l a =
    let b = cancel_base old new d c l a in
    let split = words_split old 0 0 in
    let s = cancel_streams old new d c l a 0 0 in
    let u = cancel_uncopied old new d c l a 0 0 in
    let p = cancel_past old new d c l a 0 0 in
    record { words = omega (arith, b, split); streams = omega (arith, s); uncopied = omega (arith, u); past = omega (arith, p); room = cancel_room old new d c l a }

-- ---- the first root

first_metadata : (s : Sizes) (devices : ℕ) → 1 ≤ devices → s.streams ≤ 4 * devices + 2 → words_to_come s ≡ 64 → s.past ≡ 0 → 6 * metadata_units s ≤ 896 * devices
first_metadata s devices some streams words past =
    let leaves = parts (535 + 17 * s.streams) 512 (omega arith) in
    let head = tree_units-lt (div_ceil (535 + 17 * s.streams) 512) (omega (arith, leaves)) in
    let w = parts (words_to_come s) 128 (omega arith) in
    let x = parts (stream_units s) 63 (omega arith) in
    omega (arith, some, streams, words, past, leaves, head, w, x)

pub first_covered : (s : Space) (devices : ℕ) → 1 ≤ devices → (sizes s 0 0).streams ≤ 4 * devices + 2 → (sizes s 0 0).words ≡ 0 → (sizes s 0 0).uncopied ≡ 0 → (sizes s 0 0).past ≡ 0
    → 896 * devices ≤ free_units s → IsCovered s 0 0
first_covered s devices some streams words uncopied past free =
    let m = first_metadata (sizes s 0 0) devices some streams (omega (arith, words, uncopied)) past in
    omega (arith, m, uncopied, free)
