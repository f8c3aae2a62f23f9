-- A stream with more leaves is a stream.
use Rattle.std.proofs.Common.{◌≡◌, ◌+◌, ◌*◌, ◌/◌, ◌%◌, ◌^◌, ◌<◌, ◌≤◌, ◌⊎◌, inl, inr, ℕ, List, [], ◌∷◌, ◌++◌, length, ◌∙◌, ap, arith}
use Rattle.std.specs.Prelude.{All}
use Rattle.std.specs.Int.{div_ceil}
use Rattle.std.proofs.lemmas.List.{length-append}
use Rattle.std.proofs.lemmas.List.Elements.{All-head, All-tail, All-cons}
use Rattle.std.proofs.Math.Nat.{div-eq_of_lt, div-lt_iff_lt-mul}
use Rattle.zr_base.specs.Trees.{IsHeight}
use Rattle.zr_bptr.specs.declared.Bptr.{Bptr}
use Rattle.zr_bptr.specs.declared.Ptr.{Ptr}
use Rattle.zr_bptr.specs.declared.Ptr.TheVariants.{Hole, At}
use Rattle.zr_bptr.specs.declared.Tree.{Tree}
use Rattle.zr_bptr.specs.Spelling.{IsTree}
use Rattle.zr_meta.specs.declared.Stream.{Stream}
use Rattle.zr_meta.specs.Heads.{IsStream, IsTreeOf}
use Rattle.zr_tree.specs.Trees.{IsOneUnit, AreUnits, HasRoom, IsHeightFor}
use Rattle.zr_root.specs.Streams.{IsUnitAt}
use Rattle.zr_root.specs.Appends.{changes_from, leaves_anew}
use Rattle.zr_root.proofs.Joining.{ceil_of}
use Rattle.zr_root.proofs.Shapes.{pow-pos}

-- ---- numbers

-- full leaves, and those of the words behind them
pub leaves_grown : (words added new : ℕ) → new ≡ div_ceil (words % 512 + added) 512 → words / 512 + new ≡ div_ceil (words + added) 512
leaves_grown words added new new_is =
    let a = ceil_of (words % 512 + added) 512 (omega arith) in
    let b = ceil_of (words + added) 512 (omega arith) in
    omega (arith, a.0, a.1, b.0, b.1, new_is)

pub leaves_few : (words added new : ℕ) → words + added ≤ 2 ^ 34 → new ≡ div_ceil (words % 512 + added) 512 → words / 512 + new ≤ 2 ^ 25
leaves_few words added new most new_is =
    let a = ceil_of (words % 512 + added) 512 (omega arith) in
    omega (arith, a.0, a.1, new_is, most)

pub some_new : (words added new : ℕ) → 0 < added → new ≡ div_ceil (words % 512 + added) 512 → 0 < new
some_new words added new some new_is =
    let a = ceil_of (words % 512 + added) 512 (omega arith) in
    omega (arith, a.0, new_is, some)

-- bytes and words
pub new_leaves_are : (words added tail : ℕ) → tail ≡ 8 * (words % 512) → div_ceil (tail + 8 * added) 4096 ≡ div_ceil (words % 512 + added) 512
new_leaves_are words added tail tail_is =
    let a = ceil_of (tail + 8 * added) 4096 (omega arith) in
    let b = ceil_of (words % 512 + added) 512 (omega arith) in
    omega (arith, a.0, a.1, b.0, b.1, tail_is)

below_first : (first n : ℕ) → 0 < n → first / n ≡ 0 → first < n
below_first first n some none = let h = (div-lt_iff_lt-mul {k = n} {x = first} {y = 1} some).0 (omega (arith, none)) in omega (arith, h)

-- ---- room

pub room_for : (level first : ℕ) (bs : List Bptr) → first + length bs ≤ 32 ^ level → HasRoom level (changes_from first bs)
room_for level first [] le = λ i d lt. absurd (omega (arith, lt))
room_for level first (b ∷ bs) le =
    All-cons (λ (change : ℕ × Ptr). (change.1 ≡ Hole) ⊎ (change.0 / 32 ^ level ≡ 0)) (first, At b) (changes_from (first + 1) bs)
    (inr (div-eq_of_lt (omega (arith, le))))
    (room_for level (first + 1) bs (omega (arith, le)))

pub room_has : (level first : ℕ) (bs : List Bptr) → 0 < length bs → HasRoom level (changes_from first bs) → first + length bs ≤ 32 ^ level
room_has level first [] some room = absurd (omega (arith, some))
room_has level first (b ∷ []) some room = elim (All-head (λ (change : ℕ × Ptr). (change.1 ≡ Hole) ⊎ (change.0 / 32 ^ level ≡ 0)) (first, At b) [] room) [
  | inl hole ↦ absurd (let e : At b ≡ Hole = hole in cc)
  | inr low ↦ let h = below_first first (32 ^ level) (pow-pos level) low in omega (arith, h)
]
room_has level first (b ∷ x ∷ bs) some room =
    let rest = room_has level (first + 1) (x ∷ bs) (omega arith) (All-tail (λ (change : ℕ × Ptr). (change.1 ≡ Hole) ⊎ (change.0 / 32 ^ level ≡ 0)) (first, At b) (changes_from (first + 1) (x ∷ bs)) room) in
    omega (arith, rest)

-- ---- heights

-- a stream's tree is no taller than it must be
pub least_tall : (words height : ℕ) (root : Ptr) (k : ℕ) → IsTreeOf words height root → div_ceil words 512 ≤ 32 ^ k → height ≤ k
least_tall words height Hole k is most = let low = is.1 in omega (arith, low)
least_tall words height (At b) k is most = is.1.least k most

pub grown_height : (words added height h : ℕ) (root : Ptr) (new : List Bptr) → IsTreeOf words height root → 0 < added → length new ≡ div_ceil (words % 512 + added) 512 → IsHeightFor height (changes_from (words / 512) new) h → IsHeight (div_ceil (words + added) 512) h
grown_height words added height h root new is some count for =
    let grown = leaves_grown words added (length new) count in
    let more = some_new words added (length new) some count in
    record {
      reaches = let r = room_has h (words / 512) new more for.room in omega (arith, r, grown);
      least = λ k enough.
          let before = ceil_of words 512 (omega arith) in
          let now = ceil_of (words + added) 512 (omega arith) in
          let old = least_tall words height root k is (omega (arith, enough, before.1, now.0)) in
          for.least k old (room_for k (words / 512) new (omega (arith, grown, enough)));
    }

-- ---- the root

pub leaves_are_units : (first : ℕ) (bs : List Bptr) → All (IsUnitAt 0) bs → AreUnits (changes_from first bs)
leaves_are_units first [] units = λ i d lt. absurd (omega (arith, lt))
leaves_are_units first (b ∷ bs) units =
    All-cons (λ (change : ℕ × Ptr). IsOneUnit change.1) (first, At b) (changes_from (first + 1) bs) (All-head (IsUnitAt 0) b bs units).1 (leaves_are_units (first + 1) bs (All-tail (IsUnitAt 0) b bs units))

grown_root : (words height : ℕ) (root : Ptr) → 0 < words → IsTree (record { root = root; height = height }) → IsHeight (div_ceil words 512) height → IsOneUnit root → IsTreeOf words height root
grown_root words height Hole some is tall unit = absurd unit
grown_root words height (At b) some is tall unit = (some, tall, is.level, unit, is.lawful)

pub grown_stream : (stream : Stream) (u : Tree) (added : ℕ) (new : List Bptr) → IsStream stream → 0 < added → length new ≡ div_ceil (stream.words % 512 + added) 512 → IsTree u → IsOneUnit u.root → IsHeightFor stream.tree.height (changes_from (stream.words / 512) new) u.height → IsStream (record { words = stream.words + added; tree = u })
grown_stream stream u added new is some count tree unit for =
    grown_root (stream.words + added) u.height u.root (omega (arith, some)) tree (grown_height stream.words added stream.tree.height u.height stream.tree.root new is some count for) unit

-- ---- the leaves that are put, under the names of the calls

pub leaves_put : (words : ℕ) (ns tail more grown bytes : List ℕ) → length tail ≡ 8 * (words % 512) → length more ≡ 8 * length ns → grown ≡ tail ++ more → bytes ≡ grown → div_ceil (length bytes) 4096 ≡ leaves_anew words (length ns)
leaves_put words ns tail more grown bytes tail_is more_is grown_is same =
    let long : length bytes ≡ length tail + 8 * length ns = ap (λ (xs : List ℕ). length xs) (same ∙ grown_is) ∙ length-append tail more ∙ ap (λ (k : ℕ). length tail + k) more_is in
    ap (λ (k : ℕ). div_ceil k 4096) long ∙ new_leaves_are words (length ns) (length tail) tail_is

pub changes_put : (first : ℕ) (leaves bs : List Bptr) (changes cs : List (ℕ × Ptr)) → bs ≡ leaves → changes ≡ changes_from first bs → cs ≡ changes → cs ≡ changes_from first leaves
changes_put first leaves bs changes cs bs_are are same = same ∙ are ∙ ap (changes_from first) bs_are
