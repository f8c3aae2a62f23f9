-- The words of the sets of a device, were each written anew.
use Rattle.std.specs.Prelude.{ℕ, ◌+◌, ◌*◌}
use Rattle.zr_rules.specs.Owed.{set_words}
use Rattle.zr_units.specs.Uses.{Uses}

-- the words of the held units, three times those of the kept ones, and those of blocks that are freed and not free yet
abbrev pub use_words : ℕ → Uses → ℕ
use_words version x = set_words version x.held + 3 * set_words version x.kept + set_words version x.freed.blocks + set_words version x.late1.blocks + set_words version x.late2.blocks
