-- Small pools on which the rules are tried.
use Rattle.std.specs.Prelude.{true, false, ℕ, ◌+◌, ◌==◌, ◌&&◌, List, [], ◌∷◌, map, if◌then◌else◌, None}
use Rattle.std.specs.List.{range_with_len}
use Rattle.zr_base.specs.declared.space.Change.{Change}
use Rattle.zr_base.specs.declared.space.DevPart.{DevPart}
use Rattle.zr_base.specs.declared.space.Entry.{Entry}
use Rattle.zr_base.specs.declared.space.Extent.{Extent}
use Rattle.zr_base.specs.declared.space.LateRun.{LateRun}
use Rattle.zr_base.specs.declared.space.CkptPart.TheVariants as ckpt
use Rattle.zr_base.specs.declared.space.DevState.TheVariants as state
use Rattle.zr_base.specs.declared.space.Dva.{Dva}
use Rattle.zr_base.specs.Extents.{has_unit, unit_count}
use Rattle.zr_bptr.specs.declared.Bptr.{Bptr}
use Rattle.zr_rules.specs.Placement.{Free}
use Rattle.zr_rules.specs.Space.{Space, nothing_opened}

-- a device that was removed by this group
abbrev pub gone_at : ℕ → List Entry → DevPart
gone_at txg entries =
    record { row = record { state = state.Gone; added = 1; units = 896; gone = txg }; held = []; kept = []; entries = entries; counts = []; fresh = []; late1 = []; late2 = [] }

-- a device in service with these units allocated
abbrev pub on_with : List Extent → DevPart
on_with held =
    record { row = record { state = state.On; added = 1; units = 896; gone = 0 }; held = held; kept = []; entries = []; counts = []; fresh = []; late1 = []; late2 = [] }

-- Device 0 went at group 5 to device 1, and device 1 at this group to device 2.
abbrev pub chain : ℕ → List DevPart
chain second =
    gone_at 5 (record { src = 10; dev = 1; dst = 7; len = 3 } ∷ [])
    ∷ (gone_at second (record { src = 7; dev = 2; dst = 100; len = 1 } ∷ (record { src = 8; dev = 2; dst = 40; len = 2 } ∷ []))
    ∷ (on_with [] ∷ []))

-- three entries of four units
abbrev pub three_entries : List Entry
three_entries = record { src = 0; dev = 1; dst = 0; len = 4 } ∷ (record { src = 4; dev = 1; dst = 4; len = 4 } ∷ (record { src = 8; dev = 1; dst = 8; len = 4 } ∷ []))

-- a hundred entries of one unit
abbrev pub ones : List Entry
ones = map (λ i. record { src = i; dev = 1; dst = 1000 + i; len = 1 }) (range_with_len 0 100)

-- two devices, of which the second alone is in service, with these free runs
abbrev pub free_on_second : List Extent → Free
free_on_second runs = record { devs = 2; serves = λ d. d == 1; count = λ d. if d == 1 then unit_count runs else 0; is_free = λ d u. (d == 1) && has_unit runs u }

abbrev pub run : ℕ → ℕ → Extent
run start len = record { start = start; len = len }

abbrev pub on_second : ℕ → ℕ → Dva
on_second start len = record { dev = 1; start = start; len = len }

-- six free units far up, each by itself
abbrev pub lone_units : List Extent
lone_units = run 500 1 ∷ (run 502 1 ∷ (run 504 1 ∷ (run 506 1 ∷ (run 508 1 ∷ (run 510 1 ∷ [])))))

-- the free runs of the second device before 32 units are copied to it, and after each of six pieces
abbrev pub before_copies : List Extent
before_copies = run 0 1 ∷ (run 10 2 ∷ (run 20 5 ∷ (run 30 3 ∷ (run 40 5 ∷ lone_units))))

abbrev pub after_first : List Extent
after_first = run 0 1 ∷ (run 10 2 ∷ (run 24 1 ∷ (run 30 3 ∷ (run 40 5 ∷ lone_units))))

abbrev pub after_second : List Extent
after_second = run 0 1 ∷ (run 10 2 ∷ (run 24 1 ∷ (run 40 5 ∷ lone_units)))

abbrev pub after_third : List Extent
after_third = run 0 1 ∷ (run 10 2 ∷ (run 24 1 ∷ (run 43 2 ∷ lone_units)))

abbrev pub after_fourth : List Extent
after_fourth = run 0 1 ∷ (run 24 1 ∷ (run 43 2 ∷ lone_units))

abbrev pub after_fifth : List Extent
after_fifth = run 0 1 ∷ (run 24 1 ∷ lone_units)

abbrev pub after_sixth : List Extent
after_sixth = run 24 1 ∷ lone_units

-- a pointer to a leaf of one unit
abbrev pub leaf_of_one_unit : Bptr
leaf_of_one_unit = record { at = record { dev = 1; start = 7; len = 1 }; level = 0; birth = 1; fill = 1; sum = [] }

-- two entries of three and two units
abbrev pub two_entries : List Entry
two_entries = record { src = 10; dev = 1; dst = 7; len = 3 } ∷ (record { src = 13; dev = 2; dst = 0; len = 2 } ∷ [])

-- a run of units is taken, or given back
abbrev pub taken : ℕ → ℕ → Change
taken start len = record { free = false; at = run start len }

abbrev pub given : ℕ → ℕ → Change
given start len = record { free = true; at = run start len }

-- a run of blocks in a late set
abbrev pub late_run : ℕ → ℕ → LateRun
late_run start len = record { meta = false; at = run start len }

-- A pool of one device of 16 units, in the form of this version. The open group has freed these extents, and the group before it these runs.
abbrev pub freed_on : ℕ → List Extent → List LateRun → Space
freed_on version deferred late = record {
  parts = record {
    version = version;
    devs = record { row = record { state = state.On; added = 1; units = 16; gone = 0 }; held = []; kept = []; entries = []; counts = []; fresh = []; late1 = late; late2 = [] } ∷ [];
    cond = None;
    ckpt = ckpt.Clear;
  };
  opened = record nothing_opened { deferred = deferred } ∷ [];
  synced = 0;
  meta = [];
  saved_meta = [];
}
