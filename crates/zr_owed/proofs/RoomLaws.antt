-- The laws on numbers that say why what is owed is always there.
use Rattle.std.proofs.Common.{◌≡◌, ℕ, zero, suc, ◌+◌, ◌*◌, ◌<◌, ◌≤◌, max, refl, arith, ⊎_elim}
use Rattle.std.specs.Int.{div_ceil}
use Rattle.std.proofs.lemmas.Bool.{lt-leb, le-leb}
use Rattle.std.proofs.lemmas.Grind.{div_ceil_times}
use Rattle.zr_base.specs.Trees.{units_of_levels, tree_units}
use Rattle.zr_base.specs.declared.space.Sizes.{Sizes}
use Rattle.zr_rules.specs.Owed.{head_units, stream_units, metadata_units, words_to_come}
use Rattle.zr_owed.proofs.TreeUnits.{div_ceil-lt, cases_le, units_of_levels-enough, tree_units-one, tree_units-more}
use Rattle.zr_owed.specs.Room.{HasRoom, IsCommit}

-- a number of parts of this size has at least so many, and not one part more
pub parts : (a b : ℕ) → 0 < b → (a ≤ div_ceil a b * b) × (div_ceil a b * b < a + b)
parts a b h = div_ceil_times a b h

units-lt : (levels n : ℕ) → 0 < n → units_of_levels levels n < 2 * n
units-lt zero n some = omega arith
units-lt (suc levels) n some =
    ⊎_elim
    (λ small. rw (le-leb n 1 small, units_of_levels) (omega arith))
    (λ large. let few = div_ceil-lt n large in rw (lt-leb n 1 large, units_of_levels) (omega (arith, few, units-lt levels (div_ceil n 32) few.0)))
    (cases_le n 1)

-- a tree has fewer than twice as many units as leaves
pub tree_units-lt : (n : ℕ) → 0 < n → tree_units n < 2 * n
unfolding tree_units
tree_units-lt n some = units-lt n n some

ceil-mono : (m n : ℕ) → m ≤ n → div_ceil m 32 ≤ div_ceil n 32
ceil-mono m n le = let a = parts m 32 (omega arith) in let b = parts n 32 (omega arith) in omega (arith, a, b)

units-mono : (levels m n : ℕ) → m ≤ n → units_of_levels levels m ≤ units_of_levels levels n
units-mono zero m n le = le
units-mono (suc levels) m n le =
    ⊎_elim
    (λ small. ⊎_elim
    (λ small'. rw (le-leb m 1 small, le-leb n 1 small', units_of_levels) le)
    (λ large'. rw (le-leb m 1 small, lt-leb n 1 large', units_of_levels) (omega arith))
    (cases_le n 1))
    (λ large. let large' : 1 < n = omega arith in
    rw (lt-leb m 1 large, lt-leb n 1 large', units_of_levels) (omega (arith, units-mono levels (div_ceil m 32) (div_ceil n 32) (ceil-mono m n le))))
    (cases_le m 1)

-- more leaves have no fewer units
pub tree_units_mono : (m n : ℕ) → m ≤ n → tree_units m ≤ tree_units n
unfolding tree_units
tree_units_mono m n le = rw (units_of_levels-enough m n m (omega arith) le) (units-mono n m n le)

-- a log of at most twice as many words as anew and a leaf
pub log_units : (anew : ℕ) → 128 * tree_units (div_ceil (2 * anew + 512) 512) ≤ anew + 384
log_units anew =
    let leaves = parts (2 * anew + 512) 512 (omega arith) in
    let some : 0 < div_ceil (2 * anew + 512) 512 = omega (arith, leaves) in
    omega (arith, leaves, tree_units-lt (div_ceil (2 * anew + 512) 512) some)

-- another stream
pub other_units : (words : ℕ) → 0 < words → 128 * tree_units (div_ceil words 512) ≤ words + 128
other_units words h =
    let leaves = parts words 512 (omega arith) in
    let some : 0 < div_ceil words 512 = omega (arith, leaves) in
    omega (arith, leaves, tree_units-lt (div_ceil words 512) some)

-- a part of 64 of the past fits beside the streams
pub past_fits : (x past : ℕ) → 64 * x + past ≤ 64 * max past (x + div_ceil x 63)
past_fits x past = let c = parts x 63 (omega arith) in omega (arith, c)

-- what the streams and the metadata of a commit take, and what is owed after it
pub commit_fits : (old new : Sizes) (before after blocks words uncopied metadata dropped late1 late2 : ℕ) → IsCommit old new before after blocks words uncopied metadata dropped late1 late2 → metadata ≤ metadata_units old
commit_fits old new before after blocks words uncopied metadata dropped late1 late2 c =
    let w = parts (words_to_come old) 128 (omega arith) in
    let x = past_fits (stream_units old) old.past in
    omega (arith, w, x, c.grew, c.metadata_is, c.late1_is, c.late2_is)

div_ceil-mono : (m n k : ℕ) → m ≤ n → div_ceil m 128 ≤ div_ceil n 128
div_ceil-mono m n k le = let a = parts m 128 (omega arith) in let b = parts n 128 (omega arith) in omega (arith, a, b)

head-mono : (old new : Sizes) → new.streams ≤ old.streams → head_units new ≤ head_units old
head-mono old new le =
    let a = parts (535 + 17 * new.streams) 512 (omega arith) in
    let b = parts (535 + 17 * old.streams) 512 (omega arith) in
    tree_units_mono (div_ceil (535 + 17 * new.streams) 512) (div_ceil (535 + 17 * old.streams) 512) (omega (arith, a, b))

-- fewer words and streams take no more units
pub streams-mono : (old new : Sizes) → new.streams ≤ old.streams → words_to_come new ≤ words_to_come old → stream_units new ≤ stream_units old
streams-mono old new s w = omega (arith, head-mono old new s, div_ceil-mono (words_to_come new) (words_to_come old) 0 w)

-- and no more metadata
pub metadata-mono : (old new : Sizes) → new.streams ≤ old.streams → words_to_come new ≤ words_to_come old → new.past ≤ old.past → metadata_units new ≤ metadata_units old
metadata-mono old new s w past =
    let a = parts (stream_units new) 63 (omega arith) in
    let b = parts (stream_units old) 63 (omega arith) in
    omega (arith, streams-mono old new s w, a, b, past)

-- what is owed after a commit is there after it
pub commit_keeps : (old new : Sizes) (before after blocks words uncopied metadata dropped late1 late2 : ℕ) → IsCommit old new before after blocks words uncopied metadata dropped late1 late2 → HasRoom old before → HasRoom new after
commit_keeps old new before after blocks words uncopied metadata dropped late1 late2 c room =
    let fits = commit_fits old new before after blocks words uncopied metadata dropped late1 late2 c in
    let fewer : words_to_come new ≤ words_to_come old = rw c.none (omega (arith, c.grew, c.new_words, c.new_uncopied)) in
    let streams = streams-mono old new c.streams fewer in
    let a = parts (stream_units new) 63 (omega arith) in
    let b = parts (stream_units old) 63 (omega arith) in
    record { enough = omega (arith, fits, streams, a, b, c.none, c.wrote, c.room, c.old_uncopied, c.new_past, c.late1_is, c.late2_is, room.enough) }

-- one block above at most 32 leaves
small_tree : (n : ℕ) → 1 < n → n ≤ 32 → tree_units n ≡ n + 1
small_tree n some few =
    let c = parts n 32 (omega arith) in
    let one : div_ceil n 32 ≡ 1 = omega (arith, c) in
    rw (tree_units-more n some, one, tree_units-one) refl

-- a device more has four streams, and they take at most 18 units
pub device_takes : (s : Sizes) → s.streams ≤ 136 → metadata_units (record s { streams = s.streams + 4 }) ≤ metadata_units s + 18
device_takes s few =
    let more : Sizes = record s { streams = s.streams + 4 } in
    let a = parts (535 + 17 * s.streams) 512 (omega arith) in
    let b = parts (535 + 17 * (s.streams + 4)) 512 (omega arith) in
    let head = small_tree (div_ceil (535 + 17 * s.streams) 512) (omega (arith, a)) (omega (arith, a)) in
    let head' = small_tree (div_ceil (535 + 17 * (s.streams + 4)) 512) (omega (arith, b)) (omega (arith, b)) in
    let x = parts (stream_units s) 63 (omega arith) in
    let y = parts (stream_units more) 63 (omega arith) in
    omega (arith, a, b, head, head', x, y)
