-- What is read of the leaves of a tree, and what that says of the tree.
use Rattle.std.specs.Prelude.{All}
use Rattle.std.specs.List.{flat_map}
use Rattle.std.specs.Int.{div_ceil}
use Rattle.std.proofs.Common.{◌≡◌, ◌<◌, ◌≤◌, ◌-◌, ◌*◌, ◌/◌, ◌^◌, ℕ, zero, suc, List, [], ◌∷◌, ◌++◌, length, get_or, take, drop, map, refl, sym, ◌∙◌, ap, subst, arith, ⊎_elim, append_assoc, append-nil}
use Rattle.std.proofs.Math.Nat.{mod-eq_of_lt, div-eq_of_lt, div-add-mod, mod-lt, pow-succ'}
use Rattle.std.proofs.lemmas.Bool.{cases_lt}
use Rattle.std.proofs.lemmas.Grind.{flat_map-append}
use Rattle.std.proofs.lemmas.List.{length-take-le, length-drop, take-append-drop}
use Rattle.std.proofs.lemmas.List.Elements.{All-append}
use Rattle.sha2.specs.Sha256.{sha256}
use Rattle.zr_base.specs.Words.{zeros}
use Rattle.zr_bptr.specs.declared.Bptr.{Bptr}
use Rattle.zr_bptr.specs.declared.Ptr.{Ptr}
use Rattle.zr_bptr.specs.declared.Ptr.TheVariants.{Hole, At}
use Rattle.zr_bptr.specs.declared.Tree.{Tree}
use Rattle.zr_store.specs.Store.{Stored}
use Rattle.zr_tree.specs.Blocks.{FitsAt}
use Rattle.zr_tree.specs.Trees.{kids, slot, tree_at, leaves_below, blocks, IsWhole, IsSoundAt}
use Rattle.zr_tree.proofs.Holes.{inside}
use Rattle.zr_tree.proofs.Raise.{outside}
use Rattle.zr_root.specs.Streams.{IsUnitAt, HasSum, HasBytes}
use Rattle.zr_root.specs.Levels.{ReadsLeaves}
use Rattle.zr_root.proofs.Joining.{all_among}
use Rattle.zr_root.proofs.Shapes.{slot_past}
use Rattle.zr_root.proofs.Tails.{flat_long}
use Rattle.zr_import.specs.Shapes.{HasFirst, AddsLeaves, ReadsTree}

-- ---- bytes that came

pub adds_none : (s : Stored) (old : List ℕ) → AddsLeaves s [] old old
adds_none s old = record { read = []; added = sym (append-nil old); reads = record { bytes_are = refl; long = λ k d lt. absurd (omega (arith, lt)); sums = λ k d lt. absurd (omega (arith, lt)) } }

pub adds_one : (s : Stored) (b : Bptr) (bytes old new : List ℕ) → bytes ≡ s.bytes b → length bytes ≡ 4096 → sha256 bytes ≡ b.sum → new ≡ old ++ bytes → AddsLeaves s (b ∷ []) old new
adds_one s b bytes old new is long sum added = record {
  read = bytes;
  added = added;
  reads = record {
    bytes_are = is ∙ sym (append-nil (s.bytes b));
    long = one (λ (x : Bptr). length (s.bytes x) ≡ 4096) (sym (ap (λ (xs : List ℕ). length xs) is) ∙ long);
    sums = one (HasSum s) (sym sum ∙ ap (λ (xs : List ℕ). sha256 xs) is);
  };
}
  where
    one : (P : Bptr → Type 0) → P b → All P (b ∷ [])
    one P h zero d l = h
    one P h (suc k) d l = absurd (omega (arith, l))

pub adds_then : (s : Stored) (xs ys : List Bptr) (a b c : List ℕ) → AddsLeaves s xs a b → AddsLeaves s ys b c → AddsLeaves s (xs ++ ys) a c
adds_then s xs ys a b c one two = record {
  read = one.read ++ two.read;
  added = two.added ∙ ap (λ (zs : List ℕ). zs ++ two.read) one.added ∙ append_assoc a one.read two.read;
  reads = record {
    bytes_are = ap (λ (zs : List ℕ). zs ++ two.read) one.reads.bytes_are ∙ ap (λ (zs : List ℕ). flat_map s.bytes xs ++ zs) two.reads.bytes_are ∙ sym (flat_map-append s.bytes xs ys);
    long = All-append (λ (x : Bptr). length (s.bytes x) ≡ 4096) xs ys one.reads.long two.reads.long;
    sums = All-append (HasSum s) xs ys one.reads.sums two.reads.sums;
  };
}

-- ---- sound trees

all_flat : (P : Bptr → Type 0) (f : Ptr → List Bptr) (ps : List Ptr) → ((k : ℕ) (d : Ptr) → k < length ps → All P (f (get_or ps k d))) → All P (flat_map f ps)
all_flat P f [] h = λ k d lt. absurd (omega (arith, lt))
all_flat P f (p ∷ ps) h = All-append P (f p) (flat_map f ps) (h 0 Hole (omega arith)) (all_flat P f ps (λ k d lt. h (suc k) d (omega (arith, lt))))

all_one : (P : Bptr → Type 0) (b : Bptr) → P b → All P (b ∷ [])
all_one P b h zero d l = h
all_one P b h (suc k) d l = absurd (omega (arith, l))

sound_leaves : (s : Stored) (level : ℕ) (p : Ptr) → IsSoundAt s level p → All (λ (b : Bptr). FitsAt 0 (At b)) (leaves_below s level p)
sound_leaves s zero Hole h = λ k d lt. absurd (omega (arith, lt))
sound_leaves s zero (At b) h = all_one (λ (c : Bptr). FitsAt 0 (At c)) b h
sound_leaves s (suc below) Hole h = λ k d lt. absurd (omega (arith, lt))
sound_leaves s (suc below) (At b) h = all_flat (λ (c : Bptr). FitsAt 0 (At c)) (leaves_below s below) (kids s below b) (λ k d lt. sound_leaves s below (get_or (kids s below b) k d) (h.2 k d lt))

sound_blocks : (s : Stored) (level : ℕ) (p : Ptr) → IsSoundAt s level p → All (IsWhole s) (blocks s level p)
sound_blocks s zero p h = λ k d lt. absurd (omega (arith, lt))
sound_blocks s (suc below) Hole h = λ k d lt. absurd (omega (arith, lt))
sound_blocks s (suc below) (At b) h =
    All-append (IsWhole s) (b ∷ []) (flat_map (blocks s below) (kids s below b)) (all_one (IsWhole s) b h.1)
    (all_flat (IsWhole s) (blocks s below) (kids s below b) (λ k d lt. sound_blocks s below (get_or (kids s below b) k d) (h.2 k d lt)))

-- ---- a whole tree

places_of : (s : Stored) (t : Tree) (n units : ℕ) → HasFirst s n units t.height 0 t.root → (index : ℕ) → tree_at s t index ≡ slot (map At (leaves_below s t.height t.root)) index
places_of s t n units first index =
    let w = 32 ^ t.height in
    let leaves = leaves_below s t.height t.root in
    ⊎_elim
    (λ lt. inside s t index (div-eq_of_lt lt) ∙ first.places index ∙ ap (λ (i : ℕ). slot (map At leaves) i) (mod-eq_of_lt lt))
    (λ ge.
    outside s t index t.height (omega arith) (λ none. absurd (past index w ge (positive t.height) none))
    ∙ sym (slot_past leaves index (let c = first.count in omega (arith, c, ge))))
    (cases_lt index w)
  where
    positive : (h : ℕ) → 0 < 32 ^ h
    positive zero = omega arith
    positive (suc h) = let e = pow-succ' 32 h in let p = positive h in omega (arith, e, p)

    past : (i w : ℕ) → w ≤ i → 0 < w → i / w ≡ 0 → ⊥
    past i w le p none = let e = div-add-mod i w in let small = mod-lt i p in let gone : w * (i / w) ≡ 0 = ap (λ (k : ℕ). w * k) none ∙ omega arith in omega (arith, e, small, gone, le)

both : (xs : List Bptr) → All (λ (b : Bptr). FitsAt 0 (At b)) xs → All (λ (b : Bptr). b.at.len ≡ 1) xs → All (IsUnitAt 0) xs
both xs f u k d lt = (f k d lt, u k d lt)

pub tree_read : (s : Stored) (t : Tree) (n : ℕ) (bytes : List ℕ) → HasFirst s n 1 t.height 0 t.root → IsSoundAt s t.height t.root → AddsLeaves s (leaves_below s t.height t.root) [] bytes → length bytes ≡ 4096 * n → ReadsTree s t n bytes
tree_read s t n bytes first sound adds size =
    let leaves = leaves_below s t.height t.root in
    let reads : ReadsLeaves s leaves bytes = subst (ReadsLeaves s leaves) (sym adds.added) adds.reads in
    record {
      leaves = leaves;
      are_leaves = record {
        places = places_of s t n 1 first;
        units = both leaves (sound_leaves s t.height t.root sound) first.units_are;
        whole = λ b among. all_among s b (blocks s t.height t.root) (sound_blocks s t.height t.root sound) among;
      };
      count = (let e = flat_long s.bytes leaves reads.long in let l = ap (λ (xs : List ℕ). length xs) reads.bytes_are in omega (arith, e, l, size));
      reads = reads;
    }

-- the front of what was read, where zeros are behind it
pub front_read : (s : Stored) (t : Tree) (n len : ℕ) (all xs bytes : List ℕ) → ReadsTree s t n all → n ≡ div_ceil len 4096 → len ≤ 4096 * n → length all ≡ 4096 * n → xs ≡ all → drop len xs ≡ zeros (length (drop len xs)) → bytes ≡ take len all → HasBytes s t bytes
front_read s t n len all xs bytes tree n_is most size same padding bytes_are =
    let long : length bytes ≡ len = ap (λ (ys : List ℕ). length ys) bytes_are ∙ length-take-le len all (omega (arith, most, size)) in
    let rest : drop len all ≡ zeros (length (drop len all)) = subst (λ (ys : List ℕ). drop len ys ≡ zeros (length (drop len ys))) same padding in
    let behind : drop len all ≡ zeros (4096 * length tree.leaves - length bytes) = rest ∙ ap zeros (let d = length-drop len all in let c = tree.count in omega (arith, d, c, size, long)) in
    record {
      leaves = tree.leaves;
      are_leaves = tree.are_leaves;
      count = tree.count ∙ n_is ∙ ap (λ (k : ℕ). div_ceil k 4096) (sym long);
      long = tree.reads.long;
      sums = tree.reads.sums;
      spelling = sym tree.reads.bytes_are ∙ sym (take-append-drop len all) ∙ ap (λ (ys : List ℕ). ys ++ drop len all) (sym bytes_are) ∙ ap (λ (ys : List ℕ). bytes ++ ys) behind;
    }
