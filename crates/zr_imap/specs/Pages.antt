-- Entries in pages of 170, of which only the last may have fewer.
use Rattle.std.specs.Prelude.{◌≡◌, ℕ, ◌+◌, ◌-◌, ◌*◌, ◌≤◌, ◌<◌, List, [], ◌∷◌, ◌++◌, length, min, slice_index_or}
use Rattle.zr_base.specs.declared.space.Entry.{Entry}
use Rattle.zr_rules.specs.Mappings.{IsRising, mapped_units}

-- the entries, and how many more take no memory
pub record Mapping : Type 0 where
  pub entries : List Entry
  pub spare : ℕ

-- all entries in order
abbrev pub all_of : List (List Entry) → List Entry
all_of [] = []
all_of (page ∷ pages) = page ++ all_of pages

-- the page at an index, and an empty one past the end
abbrev pub page_at : List (List Entry) → ℕ → List Entry
page_at pages k = slice_index_or pages k []

-- each page but the last is full
abbrev pub ArePages : List (List Entry) → Type 0
ArePages [] = Unit {0}
ArePages (page ∷ []) = length page ≤ 170
ArePages (page ∷ pages) = (length page ≡ 170) × ArePages pages

-- how many more entries take no memory: what is left of the last page, and empty pages that stand ready
abbrev pub spare_of : ℕ → ℕ → ℕ → ℕ → ℕ
spare_of pages count ready room = 170 * pages - count + 170 * min ready room

-- a page has room for 170 entries from the start
pub record IsPage (len capacity : ℕ) : Type 0 where
  pub most : len ≤ 170
  pub room : 170 ≤ capacity

-- the pages of a mapping, and the numbers of its entries and of their units
pub record IsMapping (pages : List (List Entry)) (count mapped : ℕ) : Type 0 where
  pub are_pages : ArePages pages
  pub rising : IsRising (all_of pages)
  pub counted : count ≡ length (all_of pages)
  pub added : mapped ≡ mapped_units (all_of pages)

-- the last page has room for an entry more
pub record HasSpace (pages : List (List Entry)) (count : ℕ) : Type 0 where
  pub some : 0 < count
  pub room : length (page_at pages (count - 1)) < 170
