-- The rows of a pool's devices: what a head and a root want of them, and how they go on into the next group.
use Rattle.std.proofs.Common.{◌≡◌, ◌∙◌, ℕ, zero, suc, ◌+◌, ◌<◌, ◌≤◌, ◌^◌, Bool, true, false, List, [], ◌∷◌, ◌++◌, length, take, get_or, Option, Some, None, refl, sym, ap, append_assoc, add-one, length-append, arith}
use Rattle.std.specs.Prelude.{IsTrue, ◌&&◌, nat_le, slice_index_or, sum_by}
use Rattle.std.specs.List.{list_all}
use Rattle.std.proofs.lemmas.Bool.Decides.{nat_tests}
use Rattle.std.proofs.lemmas.List.{append-nil}
use Rattle.std.proofs.lemmas.List.Sums.{sum_by-cons}
use Rattle.zr_base.specs.declared.space.DevRow.{DevRow}
use Rattle.zr_base.specs.declared.space.DevState.{DevState}
use Rattle.zr_base.specs.declared.space.DevState.TheVariants.{On, Leaving, Gone}
use Rattle.zr_label.specs.Blocks.{IsTable, is_row, is_going, most_units, no_row}
use Rattle.zr_meta.specs.declared.CondAt.{CondAt}
use Rattle.zr_meta.specs.declared.Stream.{Stream}
use Rattle.zr_meta.specs.Heads.{cond_count, stream_count, stream_total}
use Rattle.zr_sync.specs.Heads.{cond_streams, streams_in, streams_of}
use Rattle.zr_sync.specs.Pools.{AreRows}
use Rattle.zr_sync.specs.declared.open.CondStreams.{CondStreams}
use Rattle.zr_sync.specs.declared.open.DeviceStreams.{DeviceStreams}

and_parts : (a b : Bool) → IsTrue (a && b) → IsTrue a × IsTrue b
and_parts true true h = (h, h)
and_parts true false h = absurd cc
and_parts false b h = absurd cc

both_parts : (a b : Bool) → IsTrue a → IsTrue b → IsTrue (a && b)
both_parts true true p q = p
both_parts true false p q = q
both_parts false b p q = p

all_later : (P Q : DevRow → Bool) → ((r : DevRow) → IsTrue (P r) → IsTrue (Q r)) → (rs : List DevRow) → IsTrue (list_all P rs) → IsTrue (list_all Q rs)
all_later P Q wider [] h = h
all_later P Q wider (r ∷ rs) h =
    let two = and_parts (P r) (list_all P rs) h in
    both_parts (Q r) (list_all Q rs) (wider r two.0) (all_later P Q wider rs two.1)

going_later : (s : DevState) (added gone txg : ℕ) → IsTrue (is_going s added gone txg) → IsTrue (is_going s added gone (txg + 1))
going_later On added gone txg h = h
going_later Leaving added gone txg h = h
going_later Gone added gone txg h = grind (arith, nat_tests, h)

le_later : (a txg : ℕ) → IsTrue (nat_le a txg) → IsTrue (nat_le a (txg + 1))
le_later a txg h = grind (arith, nat_tests, h)

row_later : (version txg : ℕ) (r : DevRow) → IsTrue (is_row version txg r) → IsTrue (is_row version (txg + 1) r)
row_later version txg r h =
    let a = nat_le 1 r.added in
    let b = nat_le r.added txg in
    let c = nat_le 896 r.units in
    let d = nat_le r.units (most_units version) in
    let e = is_going r.state r.added r.gone txg in
    let b' = nat_le r.added (txg + 1) in
    let e' = is_going r.state r.added r.gone (txg + 1) in
    let four = and_parts (a && b && c && d) e h in
    let three = and_parts (a && b && c) d four.0 in
    let two = and_parts (a && b) c three.0 in
    let one = and_parts a b two.0 in
    both_parts (a && b' && c && d) e' (both_parts (a && b' && c) d (both_parts (a && b') c (both_parts a b' one.0 (le_later r.added txg one.1)) two.1) three.1) (going_later r.state r.added r.gone txg four.1)

pub rows_later : (version txg count : ℕ) (rows : List DevRow) → AreRows version txg count rows → AreRows version (txg + 1) count rows
rows_later version txg count rows h = record {
  size = h.size;
  devices = all_later (is_row version txg) (is_row version (txg + 1)) (row_later version txg) (take count rows) h.devices;
  on = h.on;
  rest = h.rest;
}

-- ---- a row

each_row : (P : DevRow → Bool) (rows : List DevRow) (n d : ℕ) → d < n → d < length rows → IsTrue (list_all P (take n rows)) → IsTrue (P (slice_index_or rows d no_row))
each_row P [] n d lt inside all = absurd (omega (arith, inside))
each_row P (r ∷ rows) zero d lt inside all = absurd (omega (arith, lt))
each_row P (r ∷ rows) (suc n) zero lt inside all = (and_parts (P r) (list_all P (take n rows)) all).0
each_row P (r ∷ rows) (suc n) (suc d) lt inside all = each_row P rows n d (omega (arith, lt)) (omega (arith, inside)) (and_parts (P r) (list_all P (take n rows)) all).1

most_few : (version n : ℕ) → IsTrue (nat_le n (most_units version)) → n ≤ 2 ^ 26
most_few version n h = grind (arith, nat_tests, h)

units_few : (version txg : ℕ) (r : DevRow) → IsTrue (is_row version txg r) → r.units ≤ 2 ^ 26
units_few version txg r h =
    let a = nat_le 1 r.added in
    let b = nat_le r.added txg in
    let c = nat_le 896 r.units in
    let d = nat_le r.units (most_units version) in
    let e = is_going r.state r.added r.gone txg in
    let four = and_parts (a && b && c && d) e h in
    let three = and_parts (a && b && c) d four.0 in
    most_few version r.units three.1

-- a device has few units
pub row_few : (version txg count : ℕ) (rows : List DevRow) (d : ℕ) → count ≤ 32 → d < count → AreRows version txg count rows → (slice_index_or rows d no_row).units ≤ 2 ^ 26
row_few version txg count rows d few lt h =
    let size = h.size in
    units_few version txg (slice_index_or rows d no_row) (each_row (is_row version txg) rows count d lt (omega (arith, size, few, lt)) h.devices)

-- ---- a table

-- devices of which there is one at least are a table
pub rows_table : (version txg count : ℕ) (rows : List DevRow) → 1 ≤ count → AreRows version txg count rows → IsTable version txg count rows
rows_table version txg count rows some h = record {
  size = h.size;
  devices = h.devices;
  on = h.on some;
  rest = h.rest;
}

-- ---- streams

state_streams : (s : DevState) (d : DeviceStreams) → length (streams_in s d) ≡ stream_count 2 s
state_streams On d = refl
state_streams Leaving d = refl
state_streams Gone d = refl

-- the devices have as many streams as their states say
streams_count : (rows : List DevRow) (devices : List DeviceStreams) → length rows ≡ length devices → length (streams_of rows devices) ≡ sum_by (λ (r : DevRow). stream_count 2 r.state) rows
streams_count [] [] e = refl
streams_count [] (d ∷ devices) e = absurd (omega (arith, e))
streams_count (r ∷ rows) [] e = absurd (omega (arith, e))
streams_count (r ∷ rows) (d ∷ devices) e =
    let one = state_streams r.state d in
    let more = streams_count rows devices (omega (arith, e)) in
    let both = length-append (streams_in r.state d) (streams_of rows devices) in
    let sum : sum_by (λ (x : DevRow). stream_count 2 x.state) (r ∷ rows) ≡ stream_count 2 r.state + sum_by (λ (x : DevRow). stream_count 2 x.state) rows = sum_by-cons (λ (x : DevRow). stream_count 2 x.state) r rows in
    omega (arith, one, more, both, sum)

cond_length : (at : Option CondAt) (s : CondStreams) → length (cond_streams at s) ≡ cond_count at
cond_length None s = refl
cond_length (Some c) s = refl

-- and those of the condensing come behind them
pub all_streams : (rows : List DevRow) (devices : List DeviceStreams) (at : Option CondAt) (s : CondStreams) → length rows ≡ length devices → length (streams_of rows devices ++ cond_streams at s) ≡ stream_total 2 rows at
all_streams rows devices at s e =
    let one = streams_count rows devices e in
    let two = cond_length at s in
    let both = length-append (streams_of rows devices) (cond_streams at s) in
    omega (arith, one, two, both)

-- those of one device more
pub streams_more : (rows : List DevRow) (devices : List DeviceStreams) (i : ℕ) (row : DevRow) (device : DeviceStreams) → i < length rows → i < length devices
    → streams_of (take (i + 1) rows) (take (i + 1) devices) ≡ streams_of (take i rows) (take i devices) ++ streams_in (get_or rows i row).state (get_or devices i device)
streams_more [] devices i row device lt inside = absurd (omega (arith, lt))
streams_more (r ∷ rows) [] i row device lt inside = absurd (omega (arith, inside))
streams_more (r ∷ rows) (d ∷ devices) zero row device lt inside = append-nil (streams_in r.state d)
streams_more (r ∷ rows) (d ∷ devices) (suc i) row device lt inside =
    let more = rw add-one at (streams_more rows devices i row device (omega (arith, lt)) (omega (arith, inside))) in
    rw add-one
    (ap (λ (xs : List Stream). streams_in r.state d ++ xs) more
    ∙ sym (append_assoc (streams_in r.state d) (streams_of (take i rows) (take i devices)) (streams_in (get_or rows i row).state (get_or devices i device))))
