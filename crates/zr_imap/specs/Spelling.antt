-- The bytes of an entry of a mapping.
use Rattle.std.specs.Prelude.{◌≡◌, ℕ, ◌*◌, ◌/◌, ◌%◌, ◌^◌, ◌<◌, List, ◌∷◌, drop}
use Rattle.byteorder.specs.Endian.{little_number}
use Rattle.zr_base.specs.declared.space.Dva.{Dva}
use Rattle.zr_base.specs.declared.space.Entry.{Entry}
use Rattle.zr_base.specs.Words.{words, address, IsAddress}

-- where the units of an entry stand
abbrev pub destination : Entry → Dva
destination e = record { dev = e.dev; start = e.dst; len = e.len }

-- the source in sectors is below 2 ^ 63, and the destination is an address
pub record IsWritable (e : Entry) : Type 0 where
  pub source : e.src < 2 ^ 60
  pub address : IsAddress (destination e)

-- the 24 bytes of an entry: its source in sectors, and the address of its destination
unfoldable pub entry_bytes : Entry → List ℕ
entry_bytes e = words ((8 * e.src) ∷ address (destination e))

-- the bytes are the one spelling of an entry
pub record SpellsEntry (bytes : List ℕ) (e : Entry) : Type 0 where
  pub lawful : IsWritable e
  pub spelling : bytes ≡ entry_bytes e

-- the word at a place
abbrev pub word_at : List ℕ → ℕ → ℕ
word_at bytes at = little_number 8 (drop at bytes)

-- what stands in the places of the fields, whether or not it is lawful
unfoldable pub fields_of : List ℕ → Entry
fields_of bytes = record { src = word_at bytes 0 / 8; dev = word_at bytes 8 / 2 ^ 32; dst = word_at bytes 16 / 8; len = word_at bytes 8 % 2 ^ 32 / 8 }
