-- What a commit does to the streams of the metadata: which keep their record, which are appended to, and which are written anew.
use Rattle.std.specs.Prelude.{◌≡◌, ◌⊎◌, ℕ, ◌+◌, ◌*◌, ◌/◌, ◌<◌, ◌==◌, Bool, true, false, not, ◌&&◌, nat_lt, List, [], ◌∷◌, ◌++◌, length, map, filter, Contains, if◌then◌else◌, Option, Some, None, MatchBool}
use Rattle.std.specs.List.{All, AllByRecursion, enumerate_from, flat_map, zip}
use Rattle.zr_base.specs.declared.space.Extent.{Extent}
use Rattle.zr_base.specs.declared.space.Change.{Change}
use Rattle.zr_base.specs.declared.space.DevRow.{DevRow}
use Rattle.zr_base.specs.declared.space.DevPart.{DevPart}
use Rattle.zr_base.specs.declared.space.DevState.{DevState}
use Rattle.zr_base.specs.declared.space.DevState.TheVariants as row
use Rattle.zr_base.specs.Extents.{has_unit, IsMaximal}
use Rattle.zr_bptr.specs.declared.Bptr.{Bptr}
use Rattle.zr_meta.specs.declared.Stream.{Stream}
use Rattle.zr_meta.specs.declared.CondAt.{CondAt}
use Rattle.zr_rules.specs.Places.{part_of}
use Rattle.zr_rules.specs.Logs.{SpellsChanges, IsAnew, AreCut, longest_run}
use Rattle.zr_store.specs.Store.{Stored}
use Rattle.zr_tree.specs.Trees.{tree_at, tree_reach}
use Rattle.zr_root.specs.Streams.{HasWords}
use Rattle.zr_image.specs.Roots.{Root, rows_of}

-- what a stream has of its device: the log of a set, a mapping's entries or its counts, or a late set
pub data Kind : Type 0 where
  Held : Kind
  Kept : Kind
  Entries : Kind
  Counts : Kind
  Marks : Kind
  Late1 : Kind
  Late2 : Kind

-- a stream by what it is of: a device by its index, or what is condensed
pub data Name : Type 0 where
  of_device : ℕ → Kind → Name
  of_condensing : Kind → Name

-- the streams of a device in the order of the head; those of form 1 have no late sets
abbrev pub kinds_of : ℕ → DevState → List Kind
kinds_of form row.On = Held ∷ (Kept ∷ (if form == 1 then [] else Late1 ∷ (Late2 ∷ [])))
kinds_of form row.Leaving = Held ∷ (Kept ∷ (Entries ∷ (Counts ∷ (Marks ∷ (if form == 1 then [] else Late1 ∷ (Late2 ∷ []))))))
kinds_of form row.Gone = Entries ∷ (Counts ∷ (Marks ∷ []))

abbrev pub condensing_names : Option CondAt → List Name
condensing_names None = []
condensing_names (Some at) = of_condensing Entries ∷ (of_condensing Counts ∷ [])

-- the streams of a root in order
abbrev pub names_of : Root → List Name
names_of r = flat_map (λ (p : ℕ × DevRow). map (of_device p.0) (kinds_of r.head.form p.1.state)) (enumerate_from 0 (rows_of r.uber)) ++ condensing_names r.head.cond

-- the root has this stream under the name
abbrev pub HasStream : Root → Name → Stream → Type 0
HasStream r name t = Contains (zip (names_of r) r.head.streams) (name, t)

-- each block of the stream was written by this group
abbrev pub IsWritten : Stored → ℕ → Stream → Type 0
IsWritten s txg t = All (λ (b : Bptr). b.birth ≡ txg) (tree_reach s t.tree)

-- The stream goes on behind the old one, whose full leaves stay where they are.
abbrev pub GoesOnFrom : Stored → Stored → Stream → Stream → Type 0
GoesOnFrom old new a b = (index : ℕ) → index < a.words / 512 → tree_at new b.tree index ≡ tree_at old a.tree index

-- the runs of the changes that take units, or of those that give them back
abbrev pub runs_of : Bool → List Change → List Extent
runs_of freed changes = map (λ (c : Change). c.at) (filter (λ (c : Change). if c.free then freed else not freed) changes)

-- each change lies behind those before it
abbrev pub AreInOrder : List Change → Type 0
AreInOrder [] = Unit {0}
AreInOrder (c ∷ changes) = AllByRecursion (λ (later : Change). c.at.start + c.at.len < later.at.start + 1) changes × AreInOrder changes

-- What a log gains: the units that came and those that went, in the longest runs, by rising place.
pub record IsDifference (version dev : ℕ) (before after : List Extent) (words : List ℕ) : Type 0 where
  pub changes : List Change
  pub spelling : SpellsChanges version dev words changes
  pub order : AreInOrder changes
  pub came : List Extent
  pub went : List Extent
  pub came_is : (u : ℕ) → has_unit came u ≡ (has_unit after u && not (has_unit before u))
  pub went_is : (u : ℕ) → has_unit went u ≡ (has_unit before u && not (has_unit after u))
  pub came_maximal : IsMaximal came
  pub went_maximal : IsMaximal went
  pub came_cut : AreCut (longest_run version) came (runs_of false changes)
  pub went_cut : AreCut (longest_run version) went (runs_of true changes)

-- a log that has grown too long is written anew
abbrev pub needs_anew : ℕ → ℕ → ℕ → Bool
needs_anew old added anew = nat_lt (2 * anew + 512) (old + added)

-- The log of a set: as it was where the set is, anew where it would be too long, and else the difference behind it.
pub record LogsSet (version dev txg : ℕ) (before after : List Extent) (old new : Stored) (a b : Stream) (had has : List ℕ) : Type 0 where
  pub added : List ℕ
  pub difference : IsDifference version dev before after added
  pub anew : List ℕ
  pub is_anew : IsAnew version dev after anew
  pub turn :
      MatchBool (length added == 0) (b ≡ a)
      (MatchBool (needs_anew (length had) (length added) (length anew)) ((has ≡ anew) × IsWritten new txg b) ((has ≡ had ++ added) × GoesOnFrom old new a b))

-- A stream of a mapping: as it was where its words are, longer where they grew at the end alone, and else anew.
abbrev pub KeepsFront : ℕ → Stored → Stored → Stream → Stream → List ℕ → List ℕ → Type 0
KeepsFront txg old new a b had has =
    ((has ≡ had) × (b ≡ a))
    ⊎ (((added : List ℕ) × (0 < length added) × (has ≡ had ++ added) × GoesOnFrom old new a b)
    ⊎ (((added : List ℕ) → has ≡ had ++ added → ⊥) × IsWritten new txg b))

-- the set of a device whose log is of this kind
abbrev pub set_of : DevPart → Kind → List Extent
set_of p Kept = p.kept
set_of p Marks = p.fresh
set_of p kind = p.held

-- What becomes of a stream that was there: late sets are always written anew.
abbrev pub GoesOn : Root → Root → Stored → Stored → Name → Stream → Stream → List ℕ → List ℕ → Type 0
GoesOn r now old new (of_device d Late1) a b had has = IsWritten new now.uber.txg b
GoesOn r now old new (of_device d Late2) a b had has = IsWritten new now.uber.txg b
GoesOn r now old new (of_device d Entries) a b had has = KeepsFront now.uber.txg old new a b had has
GoesOn r now old new (of_device d Counts) a b had has = KeepsFront now.uber.txg old new a b had has
GoesOn r now old new (of_device d kind) a b had has = LogsSet now.uber.version d now.uber.txg (set_of (part_of r.parts.devs d) kind) (set_of (part_of now.parts.devs d) kind) old new a b had has
GoesOn r now old new (of_condensing kind) a b had has = KeepsFront now.uber.txg old new a b had has

-- The streams of a root behind another: each that was there goes on, and each other is written anew.
pub record KeepsStreams (r now : Root) (old new : Stored) : Type 0 where
  pub goes_on : (name : Name) (a b : Stream) (had has : List ℕ) → HasStream r name a → HasStream now name b → HasWords old a had → HasWords new b has → GoesOn r now old new name a b had has
  pub new_ones : (name : Name) (b : Stream) → HasStream now name b → ((a : Stream) → HasStream r name a → ⊥) → IsWritten new now.uber.txg b
