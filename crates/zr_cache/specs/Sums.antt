-- The sums of blocks that are cached.
use Rattle.std.specs.Prelude.{◌≡◌, List, Contains}
use Rattle.sha2.specs.Sha256.{sha256}
use Rattle.zr_cache.specs.declared.entry.Key.{Key}
use Rattle.zr_cache.specs.declared.entry.Block.{Block}

-- a pointer with its block
abbrev pub Entry : Type 0
Entry = Key × Block

-- the bytes of each block have the sum of its pointer
abbrev pub HaveSums : List Entry → Type 0
HaveSums es = (e : Entry) → Contains es e → sha256 e.1.bytes.items ≡ e.0.pointer.sum
