-- What the tables of an open pool say.
use Rattle.std.specs.Prelude.{◌≡◌, ℕ, true, false, if◌then◌else◌, List, ◌++◌, map, length, Option, Some, None, option_map, slice_get, slice_index}
use Rattle.std.specs.List.{range_with_len}
use Rattle.zr_label.specs.Blocks.{name_of}
use Rattle.zr_rules.specs.Columns.{columns, free_units, on_units, sizes, uncopied_units}
use Rattle.zr_rules.specs.Mappings.{entry_at}
use Rattle.zr_rules.specs.Owed.{owed, slop}
use Rattle.zr_rules.specs.Places.{is_gone, is_leaving, part_of, state_of_dev, units_of_dev}
use Rattle.zr_script.specs.declared.reply.ListLine.{ListLine}
use Rattle.zr_script.specs.declared.reply.MapLine.{MapLine}
use Rattle.zr_script.specs.declared.reply.MapLine.TheVariants.{Entry, Fresh}
use Rattle.zr_script.specs.declared.reply.StatusLines.{StatusLines}
use Rattle.zr_base.specs.declared.space.CondPart.{CondPart}
use Rattle.zr_base.specs.declared.space.DevPart.{DevPart}
use Rattle.zr_base.specs.declared.space.DevState.TheVariants.{Gone}
use Rattle.zr_base.specs.declared.space.CkptPart.{CkptPart}
use Rattle.zr_base.specs.declared.space.CkptPart.TheVariants as ckpt
use Rattle.zr_rules.specs.Space.{Space}
use Rattle.zr_script.specs.declared.reply.CkptLine.{CkptLine}
use Rattle.zr_script.specs.declared.reply.CkptLine.TheVariants.{Clear, Held, Discarding}
use Rattle.zr_space.specs.Totals.{kept_units}
use Rattle.zr_sync.specs.declared.open.OpenPool.{OpenPool}
use Rattle.zr_txg.specs.Changes.{block_count}
use Rattle.zr_view.specs.Views.{slot_of}

-- the path of a slot
abbrev pub path_at : List (List ℕ) → Option ℕ → Option (List ℕ)
path_at paths None = None
path_at paths (Some slot) = slice_get paths slot

-- a device that is gone has no path and no units
abbrev pub gone_line : ℕ → ListLine
gone_line d = record { index = d; path = None; state = Gone; units = 0; allocated = 0; checkpointed = 0; deferred = 0; free = 0 }

-- a device that is there, with its columns
abbrev pub there_line : OpenPool → List (List ℕ) → ℕ → ListLine
there_line pool paths d =
    let c = columns pool.space d in
    record {
      index = d;
      path = path_at paths (slot_of pool.table.slots d);
      state = state_of_dev pool.space.parts.devs d;
      units = units_of_dev pool.space.parts.devs d;
      allocated = c.allocated;
      checkpointed = c.checkpointed;
      deferred = c.deferred;
      free = c.free;
    }

abbrev pub list_line : OpenPool → List (List ℕ) → ℕ → ListLine
list_line pool paths d = if is_gone (state_of_dev pool.space.parts.devs d) then gone_line d else there_line pool paths d

abbrev pub list_lines : OpenPool → List (List ℕ) → List ListLine
list_lines pool paths = map (list_line pool paths) (range_with_len 0 (length pool.space.parts.devs))

-- what is owed, with what the open group has changed
abbrev pub owed_now : OpenPool → ℕ
owed_now pool = owed (sizes pool.space (block_count pool.group.objects) (length pool.group.objects))

-- how the checkpoint stands: held since its group, or being discarded with so many kept units
abbrev pub checkpoint_of : Space → CkptLine
checkpoint_of s = line_of s.parts.ckpt
  where
    line_of : CkptPart → CkptLine
    line_of ckpt.Clear = Clear
    line_of (ckpt.Held txg) = Held txg
    line_of ckpt.Discarding = Discarding (kept_units s)

-- the device that is leaving, if there is one, and how many of its units are to be copied yet
abbrev pub IsRemoval : Space → Option (ℕ × ℕ) → Type 0
IsRemoval s None = (d : ℕ) → is_leaving (state_of_dev s.parts.devs d) ≡ false
IsRemoval s (Some (dev, left)) = (is_leaving (state_of_dev s.parts.devs dev) ≡ true) × (left ≡ uncopied_units s)

-- the device whose mapping is condensed, if there is one, how many of its entries are worked through, and how many it has
abbrev pub condense_of : Space → Option (ℕ × ℕ × ℕ)
condense_of s = option_map (λ (c : CondPart). (c.dev, c.at, length (part_of s.parts.devs c.dev).entries)) s.parts.cond

-- the lines say how the pool stands, in its open group
pub record IsStatus (pool : OpenPool) (lines : StatusLines) : Type 0 where
  pub name : lines.name ≡ name_of pool.name
  pub guid : lines.guid ≡ pool.guid
  pub txg : lines.txg ≡ pool.group.txg
  pub removal : IsRemoval pool.space lines.removal
  pub checkpoint : lines.checkpoint ≡ checkpoint_of pool.space
  pub condense : lines.condense ≡ condense_of pool.space
  pub free : lines.free ≡ free_units pool.space
  pub owed : lines.owed ≡ owed_now pool
  pub slop : lines.slop ≡ slop (on_units pool.space)

-- an entry with its count
abbrev pub entry_line : DevPart → ℕ → MapLine
entry_line p i = Entry (entry_at p.entries i) (slice_index p.counts i)

-- the mapping of a device: a line for each entry in order, and then one for each extent that is obsolete and not counted yet
abbrev pub map_lines : DevPart → List MapLine
map_lines p = map (entry_line p) (range_with_len 0 (length p.entries)) ++ map Fresh p.fresh
