-- Reading a label and a root from their places in a block, whether or not they are lawful.
use Rattle.std.specs.Prelude.{ℕ, ◌+◌, ◌%◌, ◌^◌, ◌==◌, if◌then◌else◌, List, map, take, drop, slice_index}
use Rattle.std.specs.Simd.{first_chunks}
use Rattle.zr_base.specs.declared.space.DevRow.{DevRow}
use Rattle.zr_base.specs.declared.space.DevState.{DevState}
use Rattle.zr_base.specs.declared.space.DevState.TheVariants.{On, Leaving, Gone}
use Rattle.zr_bptr.specs.declared.Ptr.{Ptr}
use Rattle.zr_bptr.specs.Fields.{word_at}
use Rattle.zr_label.specs.declared.root.Name.{Name}
use Rattle.zr_label.specs.declared.root.Label.{Label}
use Rattle.zr_label.specs.declared.root.Uber.{Uber}

-- the name field at a place
abbrev pub name_at : List ℕ → ℕ → Name
name_at block at = record { len = slice_index block at; bytes = take 63 (drop (at + 1) block) }

-- what stands in the places of a label
unfoldable pub label_fields : List ℕ → Label
label_fields block = record {
  guid = word_at block 16;
  index = word_at block 24 % 2 ^ 32;
  added = word_at block 32;
  units = word_at block 40;
  name = name_at block 48;
}

-- the state with a number, `On` where there is none
abbrev pub state_of : ℕ → DevState
state_of n = if n == 2 then Leaving else (if n == 3 then Gone else On)

-- what stands in the places of a row
unfoldable pub row_fields : List ℕ → DevRow
row_fields piece = record { state = state_of (word_at piece 0); added = word_at piece 8; units = word_at piece 16; gone = word_at piece 24 }

-- what stands in the places of 32 rows
unfoldable pub table_fields : List ℕ → List DevRow
table_fields bytes = map row_fields (first_chunks 32 32 bytes)

-- what stands in the places of a root with this pointer
unfoldable pub uber_fields : List ℕ → Ptr → Uber
uber_fields block root = record {
  version = word_at block 8;
  txg = word_at block 16;
  guid = word_at block 24;
  len = word_at block 32;
  count = word_at block 40 % 2 ^ 32;
  reset = word_at block 48;
  root = root;
  rows = table_fields (take 1024 (drop 256 block));
  name = name_at block 1280;
}
