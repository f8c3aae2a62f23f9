-- The streams of a root, and the units that their trees take.
use Rattle.std.specs.Prelude.{◌≡◌, ℕ, ◌+◌, ◌*◌, ◌≤◌, ◌==◌, true, if◌then◌else◌, length, sum_by}
use Rattle.std.specs.Int.{div_ceil}
use Rattle.std.specs.List.{range_with_len}
use Rattle.zr_base.specs.Trees.{tree_units}
use Rattle.zr_rules.specs.Columns.{late_blocks, late_meta_units, role_count, sizes}
use Rattle.zr_rules.specs.Owed.{head_units, set_words}
use Rattle.zr_rules.specs.Places.{is_gone, is_on, part_of, state_of_dev}
use Rattle.zr_rules.specs.Space.{Space, opened_of}
use Rattle.zr_reckon.specs.Uses.{is_dropped_role}

-- how many words stand in each stream of a device
pub record Words : Type 0 where
  pub held : ℕ
  pub kept : ℕ
  pub fresh : ℕ
  pub entries : ℕ
  pub counts : ℕ
  pub late1 : ℕ
  pub late2 : ℕ

-- the units of a stream: none where it has no words, and else those of a tree with a leaf for every 512
abbrev pub stream_tree : ℕ → ℕ
stream_tree words = if words == 0 then 0 else tree_units (div_ceil words 512)

abbrev pub device_trees : Words → ℕ
device_trees w = stream_tree w.held + stream_tree w.kept + stream_tree w.fresh + stream_tree w.entries + stream_tree w.counts + stream_tree w.late1 + stream_tree w.late2

-- A log has at most twice the words of its set anew and 512 more, a mapping three words for each entry and one for its count, and a late set so many. A device in
-- service has no mapping, and one that is gone nothing else.
pub record AreWordsOf (s : Space) (d late1 late2 : ℕ) (w : Words) : Type 0 where
  pub held : w.held ≤ 2 * set_words s.parts.version (part_of s.parts.devs d).held + 512
  pub kept : w.kept ≤ 2 * set_words s.parts.version (part_of s.parts.devs d).kept + 512
  pub fresh : w.fresh ≤ 2 * set_words s.parts.version (part_of s.parts.devs d).fresh + 512
  pub entries : w.entries ≤ 3 * length (part_of s.parts.devs d).entries
  pub counts : w.counts ≤ length (part_of s.parts.devs d).entries
  pub first_late : w.late1 ≤ late1
  pub second_late : w.late2 ≤ late2
  pub service : is_on (state_of_dev s.parts.devs d) ≡ true → w.fresh + w.entries + w.counts ≡ 0
  pub gone : is_gone (state_of_dev s.parts.devs d) ≡ true → w.held + w.kept + w.late1 + w.late2 ≡ 0

-- So many units are those of the head, of the streams of each device, and of the record of a condensing, which has no more entries than its device's mapping.
pub record AreTrees (s : Space) (late1 late2 : ℕ → ℕ) (units : ℕ) : Type 0 where
  pub words : ℕ → Words
  pub each : (d : ℕ) → AreWordsOf s d (late1 d) (late2 d) (words d)
  pub device : ℕ
  pub worked : ℕ
  pub fewer : worked ≤ length (part_of s.parts.devs device).entries
  pub sum : units ≤ head_units (sizes s 0 0) + sum_by (λ d. device_trees (words d)) (range_with_len 0 (length s.parts.devs)) + stream_tree (3 * worked) + stream_tree worked

-- the words of a late set are those of its blocks, and one at most for each of its metadata units
abbrev pub first_late_words : Space → ℕ → ℕ
first_late_words s d = set_words s.parts.version (late_blocks (part_of s.parts.devs d).late1) + late_meta_units (part_of s.parts.devs d).late1

abbrev pub second_late_words : Space → ℕ → ℕ
second_late_words s d = set_words s.parts.version (late_blocks (part_of s.parts.devs d).late2) + late_meta_units (part_of s.parts.devs d).late2

-- the same of what the open group has freed and given back so far, which will be the first late set
abbrev pub coming_late_words : Space → ℕ → ℕ
coming_late_words s d = set_words s.parts.version (opened_of s d).deferred + role_count s is_dropped_role d

abbrev pub no_late_words : ℕ → ℕ
no_late_words d = 0
