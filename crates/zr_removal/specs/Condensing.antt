-- A step of condensing on an open pool.
use Rattle.std.specs.Prelude.{◌≡◌, ◌<◌, ℕ, Bool, true, false, ◌||◌, Option, Some, None, slice_index_or, slice_set, length, nat_lt}
use Rattle.zr_base.specs.declared.space.CondPart.{CondPart}
use Rattle.zr_base.specs.declared.space.Condensed.{Condensed}
use Rattle.zr_base.specs.declared.space.Condensed.TheVariants.{Done}
use Rattle.zr_rules.specs.Places.{part_of}
use Rattle.zr_rules.specs.Space.{Space}
use Rattle.zr_rules.specs.Steps.{CondensesSome, due_device}
use Rattle.zr_sync.specs.declared.open.CondStreams.{CondStreams}
use Rattle.zr_sync.specs.declared.open.OpenPool.{OpenPool}
use Rattle.zr_sync.specs.declared.open.Turned.{Turned}

-- the device on whose mapping a step works: that of the condensing that goes on, or the lowest that is due
abbrev pub condensed_next : Option CondPart → Option ℕ → Option ℕ
condensed_next (Some c) due = Some c.dev
condensed_next None due = due

-- a step is the first of its condensing where none goes on
abbrev pub is_first : Option CondPart → Bool
is_first (Some c) = false
is_first None = true

abbrev pub is_done : Condensed → Bool
is_done Done = true
is_done _ = false

-- fewer entries are left of the device's mapping
abbrev pub leaves_out : Space → Space → ℕ → Bool
leaves_out old new d = nat_lt (length (part_of new.parts.devs d).entries) (length (part_of old.parts.devs d).entries)

-- the first step turns the counts, and the last one turns both where it leaves entries out
abbrev pub turned_by : Turned → Bool → Bool → Turned
turned_by t first fewer = record { entries = t.entries || fewer; counts = t.counts || first || fewer }

abbrev pub none_turned : Turned
none_turned = record { entries = false; counts = false }

-- at the end of a condensing the next commit is to give its streams back
abbrev pub cond_behind : CondStreams → Condensed → CondStreams
cond_behind t outcome = record t { done = t.done || is_done outcome }

-- A step was made, and what it turned and whether it was the last is noted. Nothing else changed but what is cached.
pub record CondensesMapping (old new : OpenPool) (d : ℕ) (outcome : Condensed) : Type 0 where
  pub step : CondensesSome old.space outcome new.space
  pub turned : d < length old.turned → new.turned ≡ slice_set old.turned d (turned_by (slice_index_or old.turned d none_turned) (is_first old.space.parts.cond) (leaves_out old.space new.space d))
  pub rest : new ≡ record old { space = new.space; turned = new.turned; cache = new.cache; cond = cond_behind old.cond outcome }

-- A step was made on the mapping that is condensed, or on that of the lowest device that is due.
pub record CondensesPool (old new : OpenPool) (outcome : Condensed) : Type 0 where
  pub dev : ℕ
  pub next : condensed_next old.space.parts.cond (due_device old.space) ≡ Some dev
  pub mapping : CondensesMapping old new dev outcome
