-- The devices of a root before anything is known of their use.
use Rattle.std.specs.Prelude.{ℕ, List, map, None}
use Rattle.zr_base.specs.declared.space.CkptPart.TheVariants.{Clear}
use Rattle.zr_base.specs.declared.space.DevPart.{DevPart}
use Rattle.zr_base.specs.declared.space.DevRow.{DevRow}
use Rattle.zr_base.specs.declared.space.DevState.{DevState}
use Rattle.zr_base.specs.declared.space.DevState.TheVariants.{On, Leaving, Gone}
use Rattle.zr_base.specs.declared.space.SpaceParts.{SpaceParts}
use Rattle.zr_rules.specs.Places.{no_part}

-- a device that is leaving is there as any other
abbrev pub there_or_gone : DevState → DevState
there_or_gone On = On
there_or_gone Leaving = On
there_or_gone Gone = Gone

-- a device of which no unit is used, without a mapping
abbrev pub blank_part : DevRow → DevPart
blank_part r = record no_part { row = record r { state = there_or_gone r.state } }

abbrev pub blank_parts : ℕ → List DevRow → SpaceParts
blank_parts version rows = record { version = version; devs = map blank_part rows; cond = None; ckpt = Clear }
