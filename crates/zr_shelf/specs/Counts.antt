-- How often calls have failed.
use Rattle.std.specs.Prelude.{ℕ, ◌≤◌}

-- how often a read, write or flush, an attaching, a take and a give have failed
pub record Counts : Type 0 where
  pub disk : ℕ
  pub attach : ℕ
  pub input : ℕ
  pub output : ℕ

-- no count fell
pub record NoneFell (before now : Counts) : Type 0 where
  pub disk : before.disk ≤ now.disk
  pub attach : before.attach ≤ now.attach
  pub input : before.input ≤ now.input
  pub output : before.output ≤ now.output
