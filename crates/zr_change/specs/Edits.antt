-- What an edit of a range makes of the bytes of an object.
use Rattle.std.specs.Prelude.{◌≡◌, ℕ, ◌+◌, ◌-◌, ◌*◌, ◌/◌, ◌^◌, ◌<◌, ◌≤◌, ◌&&◌, nat_le, nat_lt, IsTrue, List, length, slice_index, if◌then◌else◌}
use Rattle.std.specs.List.{range_with_len}
use Rattle.zr_lookup.specs.Objects.{IsTouched}
use Rattle.zr_change.specs.declared.ranges.Bytes.{Bytes}
use Rattle.zr_change.specs.declared.ranges.Bytes.TheVariants.{Given, Filled}
use Rattle.zr_change.specs.declared.ranges.Edit.{Edit}
use Rattle.zr_model.specs.Objects.{is_within}

-- the byte that is put, counted from the first
abbrev pub byte_put : Bytes → ℕ → ℕ
byte_put (Given bytes) k = slice_index bytes.now k
byte_put (Filled b) k = b

-- the byte at an offset after the edit, where it was `old`
abbrev pub byte_after : Edit → ℕ → ℕ → ℕ
byte_after e at old = if nat_le e.off at && nat_lt at (e.off + e.len) then byte_put e.bytes (at - e.off) else old

-- as many bytes are given as the range has
abbrev pub HasLength : ℕ → Bytes → Type 0
HasLength len (Given bytes) = length bytes.now ≡ len
HasLength len (Filled b) = Unit {0}

-- the range lies within an object of this block size, and has its bytes
pub record IsEdit (units : ℕ) (e : Edit) : Type 0 where
  pub within : IsTrue (is_within units e.off e.len)
  pub given : HasLength e.len e.bytes

-- a block of an object after the edit, where it had the bytes `old`
pub record IsEdited (e : Edit) (units index : ℕ) (old new : List ℕ) : Type 0 where
  pub size : length new ≡ 4096 * units
  pub bytes : (k : ℕ) → k < 4096 * units → slice_index new k ≡ byte_after e (4096 * units * index + k) (slice_index old k)

-- the blocks that the edit touches
abbrev pub touched : ℕ → Edit → List ℕ
touched units e = range_with_len (e.off / (4096 * units)) ((e.off + e.len - 1) / (4096 * units) + 1 - e.off / (4096 * units))

-- the edit puts each byte of the block
abbrev pub IsCovered : ℕ → Edit → ℕ → Type 0
IsCovered units e index = (e.off ≤ 4096 * units * index) × (4096 * units * (index + 1) ≤ e.off + e.len)

-- it puts some and not all of them
pub record IsPart (units : ℕ) (e : Edit) (index : ℕ) : Type 0 where
  pub touched_at : IsTouched units e.off e.len index
  pub part : ¬ IsCovered units e index

-- the blocks come one after another, below 2 ^ 25
pub record IsInRow (indices : List ℕ) : Type 0 where
  pub first : ℕ
  pub count : ℕ
  pub row : indices ≡ range_with_len first count
  pub low : first + count ≤ 2 ^ 25
