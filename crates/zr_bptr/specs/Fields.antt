-- Reading a pointer from its place in the bytes, whether or not it is lawful.
use Rattle.std.specs.Prelude.{ℕ, ◌/◌, ◌%◌, ◌^◌, List, drop}
use Rattle.byteorder.specs.Endian.{little_number}
use Rattle.zr_bptr.specs.declared.Bptr.{Bptr}

-- the word at a place
abbrev pub word_at : List ℕ → ℕ → ℕ
word_at bytes at = little_number 8 (drop at bytes)

-- what stands in the places of the fields
unfoldable pub fields_of : List ℕ → Bptr
fields_of bytes = record {
  at = record { dev = word_at bytes 0 / 2 ^ 32; start = word_at bytes 8 / 8; len = word_at bytes 0 % 2 ^ 32 / 8 };
  level = word_at bytes 48 / 2 ^ 56 % 2 ^ 7;
  birth = word_at bytes 80;
  fill = word_at bytes 88;
  sum = drop 96 bytes;
}
