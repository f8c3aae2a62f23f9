-- The head of the metadata: which heads there are under a table of devices, and their bytes.
use Rattle.std.specs.Prelude.{◌≡◌, ℕ, ◌+◌, ◌*◌, ◌^◌, ◌<◌, ◌≤◌, ◌==◌, List, [], ◌∷◌, ◌++◌, length, codes, sum_by, Option, Some, None, if◌then◌else◌}
use Rattle.std.specs.List.{AllByRecursion, flat_map}
use Rattle.std.specs.Int.{div_ceil}
use Rattle.zr_base.specs.Trees.{IsHeight}
use Rattle.zr_base.specs.Words.{word, words}
use Rattle.zr_base.specs.declared.space.DevRow.{DevRow}
use Rattle.zr_base.specs.declared.space.DevState.{DevState}
use Rattle.zr_base.specs.declared.space.DevState.TheVariants.{On, Leaving, Gone}
use Rattle.zr_base.specs.declared.space.CkptPart.{CkptPart}
use Rattle.zr_base.specs.declared.space.CkptPart.TheVariants.{Clear, Held, Discarding}
use Rattle.zr_bptr.specs.declared.Ptr.{Ptr}
use Rattle.zr_bptr.specs.declared.Ptr.TheVariants.{Hole, At}
use Rattle.zr_bptr.specs.declared.Tree.{Tree}
use Rattle.zr_bptr.specs.Spelling.{IsPointer, pointer_bytes}
use Rattle.zr_rules.specs.Places.{one_if, is_leaving}
use Rattle.zr_meta.specs.declared.Stream.{Stream}
use Rattle.zr_meta.specs.declared.CondAt.{CondAt}
use Rattle.zr_meta.specs.declared.Head.{Head}

-- how many streams a device has: logs of its sets, its mapping, and from form 2 on its two late sets
abbrev pub stream_count : ℕ → DevState → ℕ
stream_count form On = if form == 1 then 2 else 4
stream_count form Leaving = if form == 1 then 5 else 7
stream_count form Gone = 3

-- the entries and the counts of what is condensed
abbrev pub cond_count : Option CondAt → ℕ
cond_count None = 0
cond_count (Some c) = 2

-- how many streams a head has
abbrev pub stream_total : ℕ → List DevRow → Option CondAt → ℕ
stream_total form table cond = sum_by (λ r. stream_count form r.state) table + cond_count cond

-- a stream of no words has a hole, and another one the tree of its leaves of 512 words
abbrev pub IsTreeOf : ℕ → ℕ → Ptr → Type 0
IsTreeOf words height Hole = (words ≡ 0) × (height ≡ 0)
IsTreeOf words height (At b) = (0 < words) × IsHeight (div_ceil words 512) height × (b.level ≡ height) × (b.at.len ≡ 1) × IsPointer b

abbrev pub IsStream : Stream → Type 0
IsStream s = IsTreeOf s.words s.tree.height s.tree.root

-- the root of the directory, whose leaves have one unit
abbrev pub IsRootOf : ℕ → Ptr → Type 0
IsRootOf height Hole = Unit {0}
IsRootOf height (At b) = (b.level ≡ height) × (b.at.len ≡ 1) × IsPointer b

-- a saved root, of whatever bytes, is there exactly while a checkpoint is held
abbrev pub IsSaved : CkptPart → Option (List ℕ) → Type 0
IsSaved (Held txg) (Some block) = (length block ≡ 4096) × (txg < 2 ^ 64)
IsSaved (Held txg) None = ⊥
IsSaved _ (Some block) = ⊥
IsSaved _ None = Unit {0}

abbrev pub IsCond : Option CondAt → Type 0
IsCond None = Unit {0}
IsCond (Some c) = (c.dev < 2 ^ 32) × (c.at < 2 ^ 64)

-- a head of a root with these devices
pub record IsHead (table : List DevRow) (h : Head) : Type 0 where
  pub oldest : 1 ≤ h.form
  pub newest : h.form ≤ 2
  pub low : h.dir.height ≤ 3
  pub dir : IsRootOf h.dir.height h.dir.root
  pub saved : IsSaved h.ckpt h.saved
  pub cond : IsCond h.cond
  pub streams : AllByRecursion IsStream h.streams
  pub count : length h.streams ≡ stream_total h.form table h.cond

-- the first word
abbrev pub form_bytes : ℕ → List ℕ
form_bytes form = if form == 1 then codes "zr-head1" else codes "zr-head2"

-- the state of the checkpoint, and its group while it is held
abbrev pub ckpt_words : CkptPart → List ℕ
ckpt_words Clear = 0 ∷ 0 ∷ []
ckpt_words (Held txg) = 1 ∷ txg ∷ []
ckpt_words Discarding = 2 ∷ 0 ∷ []

-- the 160 bytes before the saved root
unfoldable pub front_bytes : ℕ → CkptPart → Tree → List ℕ
front_bytes form ckpt dir = form_bytes form ++ (words (ckpt_words ckpt ++ dir.height ∷ []) ++ pointer_bytes dir.root)

abbrev pub saved_bytes : Option (List ℕ) → List ℕ
saved_bytes None = []
saved_bytes (Some block) = block

abbrev pub saved_words : Option (List ℕ) → ℕ
saved_words None = 0
saved_words (Some block) = 512

abbrev pub cond_words : Option CondAt → List ℕ
cond_words None = 0 ∷ []
cond_words (Some c) = 1 ∷ c.dev ∷ c.at ∷ []

-- the 136 bytes of a stream: how many words it has, and the root of their tree
unfoldable pub stream_bytes : Stream → List ℕ
stream_bytes s = word s.words ++ pointer_bytes s.tree.root

-- the bytes of a head
unfoldable pub head_bytes : Head → List ℕ
head_bytes h = front_bytes h.form h.ckpt h.dir ++ (saved_bytes h.saved ++ (words (cond_words h.cond) ++ flat_map stream_bytes h.streams))

-- how many words a head has
abbrev pub head_words : Head → ℕ
head_words h = 20 + saved_words h.saved + length (cond_words h.cond) + 17 * length h.streams

-- how many of the devices are leaving
abbrev pub leaving_count : List DevRow → ℕ
leaving_count table = sum_by (λ r. one_if (is_leaving r.state)) table

-- the bytes are the one spelling of a head
pub record SpellsHead (table : List DevRow) (bytes : List ℕ) (h : Head) : Type 0 where
  pub lawful : IsHead table h
  pub spelling : bytes ≡ head_bytes h
