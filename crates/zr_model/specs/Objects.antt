-- Objects without devices: the bytes of an object are a finite map.
use Rattle.std.specs.Prelude.{ℕ, ◌+◌, ◌*◌, ◌/◌, ◌^◌, Bool, not, ◌&&◌, ◌==◌, nat_le, nat_lt, List, [], ◌∷◌, ◌++◌, length, map, if◌then◌else◌, unwrap_or, refl}
use Rattle.std.specs.List.{list_any, range_with_len, flat_map}
use Rattle.std.specs.Ordering.{nat_cmp}
use Rattle.std.specs.FinMap as map
use Rattle.std.specs.FinMap.{FinMap}
use Rattle.std.specs.FinSet as set
use Rattle.std.specs.FinSet.{FinSet}
use Rattle.std.specs.Coded.{Coded, code_by, coded×, coded_ℕ}
use Rattle.sha2.specs.Sha256.{sha256}
use Rattle.zr_base.specs.Words.{word}

-- from offset to byte, where the byte is not 0
abbrev pub Bytes : Type 0
Bytes = FinMap nat_cmp ℕ

-- An object: how many units a block has, its bytes, and its blocks that are stored with another sum than their pointer's, whose bytes count as 0.
pub record Object : Type 0 where
  pub units : ℕ
  pub bytes : Bytes
  pub lost : FinSet nat_cmp

abbrev pub object_code : Coded Object
object_code =
    code_by (ℕ × (Bytes × FinSet nat_cmp)) (coded× coded_ℕ (coded× (map.code coded_ℕ coded_ℕ) (set.code coded_ℕ)))
    (λ o. (o.units, (o.bytes, o.lost))) (λ p. record { units = p.0; bytes = p.1.0; lost = p.1.1 }) (λ _. refl)

-- the objects of a pool, by ID
abbrev pub Objects : Type 0
Objects = FinMap nat_cmp Object

abbrev pub objects_code : Coded Objects
objects_code = map.code coded_ℕ object_code

-- an object with no bytes
abbrev pub blank : ℕ → Object
blank units = record { units = units; bytes = map.empty; lost = set.empty }

-- how many bytes a block has
abbrev pub block_len : Object → ℕ
block_len o = 4096 * o.units

-- a byte never written is 0
abbrev pub byte_at : Bytes → ℕ → ℕ
byte_at bytes at = unwrap_or (map.get bytes at) 0

abbrev pub bytes_at : Bytes → ℕ → ℕ → List ℕ
bytes_at bytes at len = map (byte_at bytes) (range_with_len at len)

-- a byte that is 0 is left out
abbrev pub put_byte : Bytes → ℕ → ℕ → Bytes
put_byte bytes at b = if b == 0 then map.remove bytes at else map.insert bytes at b

abbrev pub put_bytes : Bytes → ℕ → List ℕ → Bytes
put_bytes bytes at [] = bytes
put_bytes bytes at (b ∷ more) = put_bytes (put_byte bytes at b) (at + 1) more

-- the range has a byte of the block
abbrev pub meets_block : Object → ℕ → ℕ → ℕ → Bool
meets_block o off len i = nat_lt off (block_len o * (i + 1)) && nat_lt (block_len o * i) (off + len)

-- the range has all bytes of the block
abbrev pub covers_block : Object → ℕ → ℕ → ℕ → Bool
covers_block o off len i = nat_le off (block_len o * i) && nat_le (block_len o * (i + 1)) (off + len)

-- a reading of the range needs a lost block
abbrev pub reads_lost : Object → ℕ → ℕ → Bool
reads_lost o off len = list_any (meets_block o off len) (set.items o.lost)

-- a change of the range needs one: it changes a part of it and not all
abbrev pub changes_lost : Object → ℕ → ℕ → Bool
changes_lost o off len = list_any (λ i. meets_block o off len i && not (covers_block o off len i)) (set.items o.lost)

-- the sum of the object needs one
abbrev pub has_lost : Object → Bool
has_lost o = nat_lt 0 (set.len o.lost)

-- the object with these bytes put there; a block that they cover is lost no more
abbrev pub with_bytes : Object → ℕ → List ℕ → Object
with_bytes o off bytes = record { units = o.units; bytes = put_bytes o.bytes off bytes; lost = set.retain o.lost (λ i. not (covers_block o off (length bytes) i)) }

-- equal neighbours once
abbrev pub once_each : List ℕ → List ℕ
once_each [] = []
once_each (n ∷ []) = n ∷ []
once_each (n ∷ (m ∷ more)) = if n == m then once_each (m ∷ more) else n ∷ once_each (m ∷ more)

-- the blocks with a byte that is not 0, in rising order
abbrev pub blocks_of : Object → List ℕ
blocks_of o = once_each (map (λ at. at / block_len o) (map.keys o.bytes))

-- the SHA-256 of these blocks, each behind its index
abbrev pub object_sum : Object → List ℕ
object_sum o = sha256 (flat_map (λ i. word i ++ bytes_at o.bytes (block_len o * i) (block_len o)) (blocks_of o))

-- the range is not empty and is within 2 ^ 25 blocks
abbrev pub is_within : ℕ → ℕ → ℕ → Bool
is_within units off len = nat_lt 0 len && nat_le (off + len) (2 ^ 25 * (4096 * units))
