-- The room that is owed: what the commits to come may still write. All numbers but words are units.
use Rattle.std.specs.Prelude.{ℕ, ◌+◌, ◌-◌, ◌*◌, ◌/◌, ◌^◌, ◌<◌, ◌≤◌, max, nat_le, ◌==◌, if◌then◌else◌, List, sum_by}
use Rattle.std.specs.Int.{div_ceil}
use Rattle.zr_base.specs.declared.space.Sizes.{Sizes}
use Rattle.zr_base.specs.declared.space.Extent.{Extent}
use Rattle.zr_base.specs.Trees.{tree_units}

-- the tree blocks that the open group's changes write
abbrev pub tree_blocks : Sizes → ℕ
tree_blocks s = 5 * s.blocks + 10 * s.objects

-- the words of the next streams at most
abbrev pub words_to_come : Sizes → ℕ
words_to_come s = s.words + 2 * (s.gone + (if s.snaps then 12 else 4)) * tree_blocks s + 10 * s.uncopied + 64

-- the units of the head
abbrev pub head_units : Sizes → ℕ
head_units s = tree_units (div_ceil (535 + 17 * s.streams) 512)

-- the units of the head and the streams at most, their late sets left out
abbrev pub stream_units : Sizes → ℕ
stream_units s = head_units s + 4 * s.streams + 2 + div_ceil (words_to_come s) 128

-- the units of the next metadata at most
abbrev pub metadata_units : Sizes → ℕ
metadata_units s = max s.past (stream_units s + div_ceil (stream_units s) 63)

abbrev pub owed : Sizes → ℕ
owed s = tree_blocks s + s.uncopied + 6 * metadata_units s - s.turning

-- the numbers from which it is computed fit
pub record AreSmall (s : Sizes) : Type 0 where
  pub blocks : s.blocks ≤ 2 ^ 20
  pub objects : s.objects ≤ 2 ^ 20
  pub words : s.words < 2 ^ 40
  pub streams : s.streams < 2 ^ 40
  pub gone : s.gone ≤ 32
  pub uncopied : s.uncopied < 2 ^ 40
  pub turning : s.turning ≤ 4 * s.past
  pub past : s.past < 2 ^ 40

-- room that is kept free of new blocks
abbrev pub slop : ℕ → ℕ
slop units = max 64 (units / 32)

-- the words of an extent that is written anew
abbrev pub extent_words : ℕ → Extent → ℕ
extent_words version e = if version == 1 then div_ceil e.len 32768 else (if nat_le e.len 32768 then 1 else 2)

-- the words of a set that is written anew
abbrev pub set_words : ℕ → List Extent → ℕ
set_words version es = sum_by (extent_words version) es
