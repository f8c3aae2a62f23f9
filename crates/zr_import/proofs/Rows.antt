-- The rows of the devices of a root, and what its parts record of them.
use Rattle.std.specs.Prelude.{IsTrue, All, true, false, Bool, ◌&&◌, ◌==◌, nat_le, if◌then◌else◌, map}
use Rattle.std.specs.List.{AllByRecursion, list_all}
use Rattle.std.proofs.Common.{◌≡◌, ◌≤◌, ◌+◌, ◌^◌, ℕ, zero, suc, List, [], ◌∷◌, length, drop, refl, ap, arith}
use Rattle.std.proofs.lemmas.Bool.Decides.{nat_tests}
use Rattle.zr_base.specs.declared.space.DevRow.{DevRow}
use Rattle.zr_base.specs.declared.space.DevPart.{DevPart}
use Rattle.zr_base.specs.declared.space.CkptPart.{CkptPart}
use Rattle.zr_base.specs.declared.space.SpaceParts.{SpaceParts}
use Rattle.zr_label.specs.Blocks.{is_row, most_units, is_going}
use Rattle.zr_label.specs.declared.root.Uber.{Uber}
use Rattle.zr_meta.specs.declared.part.DevWords.{DevWords}
use Rattle.zr_meta.specs.Parts.{AreParts, SpellsParts, devices_words, pieces}
use Rattle.zr_meta.specs.Heads.{stream_count}
use Rattle.zr_meta.specs.declared.Head.{Head}
use Rattle.std.proofs.lemmas.List.{length-take}
use Rattle.zr_image.specs.Current.{reset_of}
use Rattle.zr_image.specs.Roots.{late_counted, rows_of}
use Rattle.zr_import.specs.Units.{HasMaximal}

pub all_of : {X : Type 0} (P : X → Type 0) (xs : List X) → AllByRecursion P xs → All P xs
all_of {X} P [] h k d lt = absurd (omega (arith, lt))
all_of {X} P (x ∷ xs) h zero d lt = h.0
all_of {X} P (x ∷ xs) h (suc k) d lt = all_of P xs h.1 k d (omega (arith, lt))

and_parts : (a b : Bool) → IsTrue (a && b) → IsTrue a × IsTrue b
and_parts true true h = (h, h)
and_parts true false h = absurd cc
and_parts false b h = absurd cc

most_small : (version : ℕ) → most_units version ≤ 2 ^ 36
most_small version = elim (version == 1) as (λ b. (if b then 4193152 else 33553280) ≤ 2 ^ 36) [ true ↦ omega arith | false ↦ omega arith ]

row_small : (version txg : ℕ) (r : DevRow) → IsTrue (is_row version txg r) → r.units ≤ 2 ^ 36
row_small version txg r h =
    let most = most_small version in
    let a = nat_le 1 r.added in
    let b = nat_le r.added txg in
    let c = nat_le 896 r.units in
    let d = nat_le r.units (most_units version) in
    let e = is_going r.state r.added r.gone txg in
    let within : IsTrue d = (and_parts (a && b && c) d (and_parts (a && b && c && d) e h).0).1 in
    grind (arith, nat_tests, within, most)

pub rows_small : (version txg : ℕ) (rs : List DevRow) → IsTrue (list_all (is_row version txg) rs) → AllByRecursion (λ r. r.units ≤ 2 ^ 36) rs
rows_small version txg [] h = tt
rows_small version txg (r ∷ rs) h =
    let two = and_parts (is_row version txg r) (list_all (is_row version txg) rs) h in
    (row_small version txg r two.0, rows_small version txg rs two.1)

pub parts_maximal : (version : ℕ) (ckpt : CkptPart) (dev : ℕ) (ws : List DevWords) (ps : List DevPart) → AreParts version ckpt dev ws ps → AllByRecursion HasMaximal ps
parts_maximal version ckpt dev [] [] h = tt
parts_maximal version ckpt dev [] (p ∷ ps) h = absurd h
parts_maximal version ckpt dev (w ∷ ws) [] h = absurd h
parts_maximal version ckpt dev (w ∷ ws) (p ∷ ps) h = (h.0.sets.held_is.log.replay.maximal, parts_maximal version ckpt (dev + 1) ws ps h.1)

without_maximal : (ps : List DevPart) → AllByRecursion HasMaximal ps → AllByRecursion HasMaximal (map (λ (p : DevPart). record p { late1 = []; late2 = [] }) ps)
without_maximal [] h = tt
without_maximal (p ∷ ps) h = (h.0, without_maximal ps h.1)

pub counted_maximal : (u : Uber) (parts : SpaceParts) → AllByRecursion HasMaximal parts.devs → AllByRecursion HasMaximal (late_counted u parts).devs
counted_maximal u parts h =
    elim (reset_of u == u.txg) as (λ b. AllByRecursion HasMaximal ((if b then record parts { devs = map (λ (p : DevPart). record p { late1 = []; late2 = [] }) parts.devs } else parts).devs)) [ true ↦ without_maximal parts.devs h | false ↦ h ]

parts_count : (version : ℕ) (ckpt : CkptPart) (dev : ℕ) (ws : List DevWords) (ps : List DevPart) → AreParts version ckpt dev ws ps → length ps ≡ length ws
parts_count version ckpt dev [] [] h = refl
parts_count version ckpt dev [] (p ∷ ps) h = absurd h
parts_count version ckpt dev (w ∷ ws) [] h = absurd h
parts_count version ckpt dev (w ∷ ws) (p ∷ ps) h = ap suc (parts_count version ckpt (dev + 1) ws ps h.1)

words_count : (form : ℕ) (table : List DevRow) (pieces : List (List ℕ)) → length (devices_words form table pieces) ≡ length table
words_count form [] pieces = refl
words_count form (r ∷ rows) pieces = ap suc (words_count form rows (drop (stream_count form r.state) pieces))

without_count : (ps : List DevPart) → length (map (λ (p : DevPart). record p { late1 = []; late2 = [] }) ps) ≡ length ps
without_count [] = refl
without_count (p ∷ ps) = ap suc (without_count ps)

counted_count : (u : Uber) (parts : SpaceParts) → length (late_counted u parts).devs ≡ length parts.devs
counted_count u parts =
    elim (reset_of u == u.txg) as (λ b. length (if b then record parts { devs = map (λ (p : DevPart). record p { late1 = []; late2 = [] }) parts.devs } else parts).devs ≡ length parts.devs) [ true ↦ without_count parts.devs | false ↦ refl ]

-- there are as many parts as devices
pub counted_few : (u : Uber) (h : Head) (words : List ℕ) (parts : SpaceParts) → u.count ≤ 32 → SpellsParts u.version (rows_of u) h words parts → length (late_counted u parts).devs ≤ 32
counted_few u h words parts few spelled =
    let a = counted_count u parts in
    let b = parts_count u.version h.ckpt 0 _ parts.devs spelled.devices in
    let c = words_count h.form (rows_of u) (pieces h.streams words) in
    let d = length-take u.count u.rows in
    omega (arith, a, b, c, d, few)
