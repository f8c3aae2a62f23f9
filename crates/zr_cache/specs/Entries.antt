-- What a cache of blocks has.
use Rattle.std.specs.Prelude.{◌+◌, ◌&&◌, ◌==◌, ℕ, Bool, false, nat_le, nat_lt, if◌then◌else◌, List, [], ◌∷◌, Contains, Option, option_map}
use Rattle.std.specs.List.{list_any, IsDistinct}
use Rattle.std.specs.Map.{lookup, keys_of}
use Rattle.lru.specs.LruCache.{put_entries}
use Rattle.zr_bptr.specs.declared.Bptr.{Bptr}
use Rattle.zr_imap.specs.declared.image.Piece.{Piece}
use Rattle.zr_cache.specs.declared.entry.Key.{Key}
use Rattle.zr_cache.specs.declared.entry.Block.{Block}
use Rattle.zr_cache.specs.declared.table.Cache.{Cache}
use Rattle.zr_cache.specs.Sums.{Entry}
use Rattle.zr_cache.specs.contracts.entry.KeyPartialEq.TheImpl as keys

-- what is cached, the most recent first
abbrev pub entries : Cache → List Entry
entries c = c.blocks.entries

-- how many blocks there may be
abbrev pub capacity : Cache → ℕ
capacity c = c.blocks.cap

-- the key is this pointer, by `==`
abbrev pub is_key : Bptr → Key → Bool
is_key b k = keys.ghosts.eq (record { pointer = b }) k

-- the bytes that are cached of a pointer
abbrev pub bytes_in : Cache → Bptr → Option (List ℕ)
bytes_in c b = option_map (λ (x : Block). x.bytes.items) (lookup (is_key b) (entries c))

abbrev pub is_first : Bptr → List Entry → Bool
is_first b [] = false
is_first b (e ∷ es) = is_key b e.0

-- the pointer was put or asked for last
abbrev pub is_recent : Cache → Bptr → Bool
is_recent c b = is_first b (entries c)

-- no pointer is cached twice
abbrev pub AreDistinct : Cache → Type 0
AreDistinct c = IsDistinct keys.ghosts.eq (keys_of (entries c))

-- the pointer's entry first, in place of the one that it had, or of the last one of a full cache
abbrev pub with_entry : Cache → Bptr → Block → List Entry
with_entry c b x = put_entries keys.ghosts.eq c.blocks (record { pointer = b }) x

-- two runs of one device, of which the later begins within the earlier
abbrev pub meets : Piece → Piece → Bool
meets p q =
    p.dev == q.dev
    && (if nat_le p.at.start q.at.start then nat_lt q.at.start (p.at.start + p.at.len) else nat_lt p.at.start (q.at.start + q.at.len))

-- some run of the entry meets the run
abbrev pub is_in : Piece → Entry → Bool
is_in run e = list_any (meets run) e.1.runs.items

-- the fact is true of each of these entries: of its pointer, its bytes and its runs
abbrev pub HoldsIn : (Bptr → List ℕ → List Piece → Type 0) → List Entry → Type 0
HoldsIn Is es = (e : Entry) → Contains es e → Is e.0.pointer e.1.bytes.items e.1.runs.items

-- it is true of all that is cached
abbrev pub Holds : (Bptr → List ℕ → List Piece → Type 0) → Cache → Type 0
Holds Is c = HoldsIn Is (entries c)
