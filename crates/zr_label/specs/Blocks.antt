-- The bytes of a label block and of an uberblock.
use Rattle.std.specs.Prelude.{◌≡◌, ◌≢◌, ℕ, ◌-◌, ◌%◌, ◌^◌, ◌<◌, ◌≤◌, ◌==◌, Bool, true, false, ◌&&◌, nat_le, nat_lt, List, [], ◌∷◌, ◌++◌, length, take, drop, replicate, codes, IsTrue, if◌then◌else◌}
use Rattle.std.specs.List.{flat_map, list_all, list_any}
use Rattle.std.specs.Int.{div_ceil}
use Rattle.sha2.specs.Sha256.{sha256}
use Rattle.zr_base.specs.Trees.{IsHeight}
use Rattle.zr_base.specs.declared.space.DevRow.{DevRow}
use Rattle.zr_base.specs.declared.space.DevState.{DevState}
use Rattle.zr_base.specs.declared.space.DevState.TheVariants.{On, Leaving, Gone}
use Rattle.zr_rules.specs.Places.{is_on}
use Rattle.zr_bptr.specs.declared.Ptr.{Ptr}
use Rattle.zr_bptr.specs.declared.Ptr.TheVariants.{Hole, At}
use Rattle.zr_base.specs.Words.{words}
use Rattle.zr_bptr.specs.Spelling.{pointer_bytes, IsPointer}
use Rattle.zr_label.specs.declared.root.Name.{Name}
use Rattle.zr_label.specs.declared.root.Label.{Label}
use Rattle.zr_label.specs.declared.root.Uber.{Uber}

-- zeros without a meaning
unfoldable pub padding : ℕ → List ℕ
padding n = replicate n 0

-- the block begins so, and the rest is zeros
abbrev pub IsFilled : List ℕ → List ℕ → Type 0
IsFilled block done = (length done ≤ 4096) × (block ≡ done ++ padding (4096 - length done))

-- a block of 4,096 bytes: a content, zeros, and the sum of these 4,064 bytes
unfoldable pub summed : List ℕ → List ℕ
summed content = let body = content ++ padding (4064 - length content) in body ++ sha256 body

-- what follows the length is a name, and then zeros
-- choice: a name in a label or an uberblock may be empty and may have any bytes
pub record IsName (n : Name) : Type 0 where
  pub short : n.len ≤ 63
  pub size : length n.bytes ≡ 63
  pub rest : drop n.len n.bytes ≡ replicate (63 - n.len) 0

abbrev pub name_field : Name → List ℕ
name_field n = n.len ∷ n.bytes

-- the name without what fills its field
abbrev pub name_of : Name → List ℕ
name_of n = take n.len n.bytes

pub record IsLabel (l : Label) : Type 0 where
  pub guid : 0 < l.guid
  pub index : l.index < 32
  pub added : 0 < l.added
  pub name : IsName l.name
  pub guid_fits : l.guid < 2 ^ 64
  pub added_fits : l.added < 2 ^ 64
  pub units_fit : l.units < 2 ^ 64

-- the words of a label
abbrev pub label_words : Label → List ℕ
label_words l = codes "zr-label" ++ words (1 ∷ l.guid ∷ l.index ∷ l.added ∷ l.units ∷ [])

-- the label block of a label
unfoldable pub label_block : Label → List ℕ
label_block l = summed (label_words l ++ name_field l.name)

-- the block is the one spelling of a label
pub record SpellsLabel (block : List ℕ) (l : Label) : Type 0 where
  pub lawful : IsLabel l
  pub spelling : block ≡ label_block l

abbrev pub state_number : DevState → ℕ
state_number On = 1
state_number Leaving = 2
state_number Gone = 3

-- the four words of a row, and zeros where there is no device
abbrev pub row_words : DevRow → List ℕ
row_words r = if r.added == 0 then 0 ∷ 0 ∷ 0 ∷ 0 ∷ [] else state_number r.state ∷ r.added ∷ r.units ∷ r.gone ∷ []

-- the most units of a device of a version
abbrev pub most_units : ℕ → ℕ
most_units version = if version == 1 then 4193152 else 33553280

-- the group in which a device went is 0 until it is gone
abbrev pub is_going : DevState → ℕ → ℕ → ℕ → Bool
is_going Gone added gone txg = nat_lt added gone && nat_le gone txg
is_going _ added gone txg = gone == 0

-- a row of a root of this version and group
abbrev pub is_row : ℕ → ℕ → DevRow → Bool
is_row version txg r =
    nat_le 1 r.added && nat_le r.added txg && nat_le 896 r.units && nat_le r.units (most_units version) && is_going r.state r.added r.gone txg

-- a row behind the last device
abbrev pub no_row : DevRow
no_row = record { state = On; added = 0; units = 0; gone = 0 }

-- whether a row is one behind the last device
abbrev pub is_no_row : DevRow → Bool
is_no_row r = is_on r.state && r.added == 0 && r.units == 0 && r.gone == 0

-- the tree of the metadata has its leaves in blocks of one unit
-- choice: a root of level 0 whose length is not one unit is outside the form
abbrev pub IsMetaRoot : Ptr → ℕ → Type 0
IsMetaRoot Hole len = ⊥
IsMetaRoot (At b) len = IsPointer b × (b.at.len ≡ 1) × IsHeight (div_ceil len 4096) b.level

-- the numbers of a root
-- a group of the last reset that is above the root's own is outside the form
pub record IsHead (u : Uber) : Type 0 where
  pub oldest : 1 ≤ u.version
  pub newest : u.version ≤ 2
  pub txg : 0 < u.txg
  pub guid : 0 < u.guid
  pub whole : u.len % 8 ≡ 0
  pub least : 8 ≤ u.len
  pub most : u.len ≤ 2 ^ 37
  pub some : 1 ≤ u.count
  pub devices : u.count ≤ 32
  pub reset : u.reset ≤ u.txg
  pub txg_fits : u.txg < 2 ^ 64
  pub guid_fits : u.guid < 2 ^ 64

-- the rows of the devices, at least one of which is in service, and then rows of zeros
pub record IsTable (version txg count : ℕ) (rows : List DevRow) : Type 0 where
  pub size : length rows ≡ 32
  pub devices : IsTrue (list_all (is_row version txg) (take count rows))
  pub on : IsTrue (list_any (λ r. is_on r.state) (take count rows))
  pub rest : IsTrue (list_all is_no_row (drop count rows))

-- a root that can be spelled
pub record IsUber (u : Uber) : Type 0 where
  pub head : IsHead u
  pub root : IsMetaRoot u.root u.len
  pub table : IsTable u.version u.txg u.count u.rows
  pub name : IsName u.name

-- the words of a root before its pointer
abbrev pub uber_words : Uber → List ℕ
uber_words u = codes "zr-uber1" ++ words (u.version ∷ u.txg ∷ u.guid ∷ u.len ∷ u.count ∷ u.reset ∷ 0 ∷ 0 ∷ 0 ∷ 0 ∷ 0 ∷ 0 ∷ 0 ∷ 0 ∷ 0 ∷ [])

-- the bytes of a row
unfoldable pub row_bytes : DevRow → List ℕ
row_bytes r = words (row_words r)

-- the block of a root
unfoldable pub uber_block : Uber → List ℕ
uber_block u = summed (uber_words u ++ (pointer_bytes u.root ++ (flat_map row_bytes u.rows ++ name_field u.name)))

-- the block is the one spelling of a root
pub record SpellsUber (block : List ℕ) (u : Uber) : Type 0 where
  pub lawful : IsUber u
  pub spelling : block ≡ uber_block u

-- the block has the mark and the sum of a root of the pool, but a version that this program does not know
pub record SpellsNewer (block : List ℕ) (guid version txg : ℕ) : Type 0 where
  pub unknown : (version ≢ 1) × (version ≢ 2)
  pub version_fits : version < 2 ^ 64
  pub txg_fits : txg < 2 ^ 64
  pub rest : List ℕ
  pub spelling : block ≡ (codes "zr-uber1" ++ words (version ∷ txg ∷ guid ∷ [])) ++ rest
  pub sum : drop 4064 block ≡ sha256 (take 4064 block)
