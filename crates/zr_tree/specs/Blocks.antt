-- The pointers in the bytes of a tree block.
use Rattle.std.specs.Prelude.{ℕ, List, map, nat_eq, if◌then◌else◌}
use Rattle.std.specs.Simd.{first_chunks}
use Rattle.zr_bptr.specs.declared.Ptr.{Ptr}
use Rattle.zr_bptr.specs.declared.Ptr.TheVariants.{Hole, At}
use Rattle.zr_bptr.specs.Fields.{fields_of}
use Rattle.zr_bptr.specs.Spelling.{SpellsTreeBlock, IsLawful, IsOfLevel}

-- a hole, or a lawful pointer of this level
abbrev pub FitsAt : ℕ → Ptr → Type 0
FitsAt level p = IsOfLevel level p × IsLawful p

-- the pointer whose fields stand in the bytes, a hole where they tell no length
abbrev pub read_pointer : List ℕ → Ptr
read_pointer bytes = if nat_eq (fields_of bytes).at.len 0 then Hole else At (fields_of bytes)

-- the 32 pointers whose fields stand in the bytes, whether or not they are lawful
unfoldable pub pointers_in : List ℕ → List Ptr
pointers_in bytes = map read_pointer (first_chunks 128 32 bytes)

-- the bytes are no tree block of pointers of this level with so many leaves below
abbrev pub IsNoBlock : ℕ → ℕ → List ℕ → Type 0
IsNoBlock below fill bytes = (pointers : List Ptr) → ¬ SpellsTreeBlock bytes below fill pointers
