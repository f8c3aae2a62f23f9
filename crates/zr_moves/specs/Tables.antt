-- What the tables of an open pool say.
use Rattle.std.specs.Prelude.{ℕ, ◌*◌, not, List, ◌++◌, length, map, filter, sum_by, slice_index_or, if◌then◌else◌, Option, Some, None, option_map}
use Rattle.std.specs.List.{find, range_with_len, zip}
use Rattle.std.specs.Int.{div_ceil}
use Rattle.zr_base.specs.declared.space.Dva.{Dva}
use Rattle.zr_base.specs.declared.space.Entry.{Entry}
use Rattle.zr_base.specs.declared.space.DevPart.{DevPart}
use Rattle.zr_base.specs.declared.space.CondPart.{CondPart}
use Rattle.zr_base.specs.declared.space.CkptPart.{CkptPart}
use Rattle.zr_base.specs.declared.space.CkptPart.TheVariants as ckpt
use Rattle.zr_base.specs.Extents.{unit_count}
use Rattle.zr_script.specs.declared.reply.ListLine.{ListLine}
use Rattle.zr_script.specs.declared.reply.StatusLines.{StatusLines}
use Rattle.zr_script.specs.declared.reply.CkptLine.{CkptLine}
use Rattle.zr_script.specs.declared.reply.CkptLine.TheVariants as ckpt_line
use Rattle.zr_script.specs.declared.reply.MapLine.{MapLine}
use Rattle.zr_script.specs.declared.reply.MapLine.TheVariants as map_line
use Rattle.zr_script.specs.declared.reply.AuditLine.{AuditLine}
use Rattle.zr_rules.specs.Places.{is_gone, is_leaving, part_of, state_of_dev}
use Rattle.zr_rules.specs.Equation.{walked}
use Rattle.zr_rules.specs.Space.{Space}
use Rattle.zr_rules.specs.Columns.{columns, uncopied_units, free_units, on_units, sizes}
use Rattle.zr_rules.specs.Owed.{owed, slop}
use Rattle.zr_model.specs.State.{Device, InService, Leaving, Removed, PoolState}
use Rattle.zr_moves.specs.Account.{Account, changed_blocks, changed_objects}

-- the path of a device that is there
abbrev pub path_of : Device → Option (List ℕ)
path_of (InService path) = Some path
path_of (Leaving path) = Some path
path_of Removed = None

-- the device that is leaving
abbrev pub leaving_of : Space → Option ℕ
leaving_of s = find (λ d. is_leaving (state_of_dev s.parts.devs d)) (range_with_len 0 (length s.parts.devs))

-- the line of a device
abbrev pub list_line : PoolState → Space → ℕ → ListLine
list_line p s d =
    let part = part_of s.parts.devs d in
    let c = columns s d in
    record { index = d; path = path_of (slice_index_or p.devs d Removed); state = part.row.state; units = (if is_gone part.row.state then 0 else part.row.units); allocated = c.allocated; checkpointed = c.checkpointed; deferred = c.deferred; free = c.free }

abbrev pub list_lines : PoolState → Space → List ListLine
list_lines p s = map (list_line p s) (range_with_len 0 (length s.parts.devs))

-- the kept units of all devices
abbrev pub kept_units : Space → ℕ
kept_units s = sum_by (λ (p : DevPart). unit_count p.kept) s.parts.devs

abbrev pub checkpoint_of : Space → CkptPart → CkptLine
checkpoint_of s ckpt.Clear = ckpt_line.Clear
checkpoint_of s (ckpt.Held txg) = ckpt_line.Held txg
checkpoint_of s ckpt.Discarding = ckpt_line.Discarding (kept_units s)

-- how the pool stands, in its open group
abbrev pub status_lines : PoolState → Account → StatusLines
status_lines p a =
    record {
      name = p.name;
      guid = p.guid;
      txg = a.changes.txg;
      removal = option_map (λ d. (d, uncopied_units a.space)) (leaving_of a.space);
      checkpoint = checkpoint_of a.space a.space.parts.ckpt;
      condense = option_map (λ (c : CondPart). (c.dev, c.at, length (part_of a.space.parts.devs c.dev).entries)) a.space.parts.cond;
      free = free_units a.space;
      owed = owed (sizes a.space (changed_blocks a) (changed_objects a));
      slop = slop (on_units a.space);
    }

-- the entries of a device with their counts, and its fresh obsolete set
abbrev pub map_lines : Space → ℕ → List MapLine
map_lines s d =
    let p = part_of s.parts.devs d in
    map (λ (e : Entry × ℕ). map_line.Entry e.0 e.1) (zip p.entries p.counts) ++ map map_line.Fresh p.fresh

abbrev pub audit_line : Space → List Dva → ℕ → AuditLine
audit_line s live d = record { index = d; walked = walked s live d; allocated = (columns s d).allocated }

-- the devices that are there, by a walk of the live pointers and as they are counted
abbrev pub audit_lines : Space → List Dva → List AuditLine
audit_lines s live = map (audit_line s live) (filter (λ d. not (is_gone (state_of_dev s.parts.devs d))) (range_with_len 0 (length s.parts.devs)))

-- the bytes of the entries that a removal would make: 24 for each piece of at most 256 units of what the device holds
abbrev pub estimate : Space → ℕ → ℕ
estimate s d = 24 * sum_by (λ e. div_ceil e.len 256) (part_of s.parts.devs d).held
