-- Why what is owed is always there, in numbers alone. Room is the free units and the metadata units that come back.
use Rattle.std.specs.Prelude.{◌≡◌, ℕ, ◌+◌, ◌*◌, ◌≤◌, max}
use Rattle.zr_base.specs.declared.space.Sizes.{Sizes}
use Rattle.zr_rules.specs.Owed.{tree_blocks, head_units, metadata_units, words_to_come}

-- the room covers what the commits to come may take
pub record HasRoom (s : Sizes) (room : ℕ) : Type 0 where
  pub enough : tree_blocks s + s.uncopied + 6 * metadata_units s ≤ room

-- What a commit does to the counts. It writes tree blocks, then metadata; words and uncopied units on the way count once more what the tree blocks added.
-- `dropped` are words of the late sets that the new root has no more, and `late` metadata units of its two late sets.
pub record IsCommit (old new : Sizes) (before after : ℕ) (blocks words uncopied metadata dropped late1 late2 : ℕ) : Type 0 where
  pub wrote : blocks ≤ tree_blocks old
  pub grew : words + 10 * uncopied + 64 ≤ words_to_come old
  pub metadata_is : 128 * metadata + dropped ≤ 128 * (head_units old + 4 * old.streams) + words + late1 + late2
  pub late1_is : late1 ≤ old.past
  pub late2_is : late2 ≤ old.past
  pub room : before ≤ after + blocks
  pub new_words : new.words + dropped ≤ words
  pub new_uncopied : new.uncopied ≤ uncopied
  pub old_uncopied : new.uncopied ≤ old.uncopied
  pub none : tree_blocks new ≡ 0
  pub streams : new.streams ≤ old.streams
  pub new_past : new.past ≡ max metadata (max late1 late2)
  pub no_snaps : new.snaps ≡ old.snaps
