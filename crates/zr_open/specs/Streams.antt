-- The streams of a pool, as the head of a root tells them.
use Rattle.std.specs.Prelude.{◌≡◌, ℕ, ◌+◌, List, [], ◌∷◌, ◌++◌, All, Option, Some, None}
use Rattle.zr_base.specs.declared.space.DevRow.{DevRow}
use Rattle.zr_base.specs.declared.space.DevState.{DevState}
use Rattle.zr_base.specs.declared.space.DevState.TheVariants.{On, Leaving, Gone}
use Rattle.zr_meta.specs.declared.CondAt.{CondAt}
use Rattle.zr_meta.specs.declared.Head.{Head}
use Rattle.zr_sync.specs.Heads.{cond_streams, told_of}
use Rattle.zr_sync.specs.declared.open.CondStreams.{CondStreams}
use Rattle.zr_sync.specs.declared.open.DeviceStreams.{DeviceStreams}

-- the late sets of the device are empty
pub record HasNoLate (d : DeviceStreams) : Type 0 where
  pub late1 : d.late1.words ≡ 0
  pub late2 : d.late2.words ≡ 0

-- how many words the streams of a device have of which no head tells: those of a mapping where it is in service, and those of its sets where it is gone
abbrev pub untold_in : DevState → DeviceStreams → ℕ
untold_in On d = d.entries.words + d.counts.words + d.fresh.words
untold_in Leaving d = 0
untold_in Gone d = d.held.words + d.kept.words + d.late1.words + d.late2.words

-- those of all devices, which have these rows
abbrev pub untold_of : List DevRow → List DeviceStreams → ℕ
untold_of [] devices = 0
untold_of (r ∷ rows) [] = 0
untold_of (r ∷ rows) (d ∷ devices) = untold_in r.state d + untold_of rows devices

-- and those of a condensing where none goes on
abbrev pub untold_cond : Option CondAt → CondStreams → ℕ
untold_cond None s = s.entries.words + s.counts.words
untold_cond (Some c) s = 0

-- The head has the streams of these devices and of what is condensed, and those of which it does not tell are empty. Where it is of the first form, the late sets are empty too.
pub record HasStreams (rows : List DevRow) (h : Head) (devices : List DeviceStreams) (cond : CondStreams) : Type 0 where
  pub are : told_of h.form rows devices ++ cond_streams h.cond cond ≡ h.streams
  pub late : h.form ≡ 1 → All HasNoLate devices
  pub untold : untold_of rows devices ≡ 0
  pub idle : untold_cond h.cond cond ≡ 0
