-- What stands beside a tree does not matter, and what stands in it is one thing.
use Rattle.std.proofs.Common.{◌≡◌, ◌*◌, ◌-◌, ◌^◌, ◌<◌, ◌≤◌, ℕ, zero, suc, List, [], ◌∷◌, ◌++◌, length, map, get_or, take, drop, refl, sym, ◌∙◌, ap, subst, arith, Bool, true, false, nat_lt}
use Rattle.std.specs.Prelude.{All, if◌then◌else◌}
use Rattle.std.specs.List.{flat_map}
use Rattle.std.specs.Int.{div_ceil, w64, from_le_bytes}
use Rattle.std.proofs.lemmas.Nat.{from_le_bytes-to_le_bytes_8}
use Rattle.std.proofs.lemmas.List.{take_at, drop_at}
use Rattle.std.proofs.lemmas.List.Sums.{sum_by-cons}
use Rattle.std.proofs.lemmas.List.Elements.{All-head, All-tail}
use Rattle.sha2.specs.Sha256.{sha256}
use Rattle.zr_base.specs.Trees.{IsHeight, tree_units}
use Rattle.zr_base.specs.Words.{word, words, zeros}
use Rattle.zr_bptr.specs.declared.Bptr.{Bptr}
use Rattle.zr_bptr.specs.declared.Ptr.{Ptr}
use Rattle.zr_bptr.specs.declared.Ptr.TheVariants.{Hole, At}
use Rattle.zr_bptr.specs.declared.Tree.{Tree}
use Rattle.zr_store.specs.Store.{Stored, hits, one_at}
use Rattle.zr_meta.specs.declared.Stream.{Stream}
use Rattle.zr_meta.specs.Heads.{IsStream, IsTreeOf}
use Rattle.zr_tree.specs.Trees.{kids, slot, digit, leaf_at, reach, tree_at, tree_blocks, tree_reach, IsAmong}
use Rattle.zr_tree.proofs.Others.{keeps}
use Rattle.zr_tree.proofs.Wholes.{Within, among_hits, within_flat, whole_again}
use Rattle.zr_root.specs.Streams.{IsTreeFor, HasLeaves, HasBytes, HasWords}
use Rattle.zr_root.proofs.Lists.{map_same, flat_map-map}
use Rattle.zr_root.proofs.Steps.{length-kids}
use Rattle.zr_root.proofs.Shapes.{number_of_blocks}
use Rattle.zr_root.proofs.Standing.{leaves_one, length-words, blocks_within}
use Rattle.zr_root.proofs.Words.{leaves_same, one_height}

-- ---- the leaves are blocks of the tree

leaf_among : (s : Stored) (level : ℕ) (p : Ptr) (index : ℕ) (b : Bptr) → leaf_at s level p index ≡ At b → IsAmong b (reach s level p)
leaf_among s zero Hole index b is weight = absurd cc
leaf_among s zero (At x) index b is weight = let same : x ≡ b = cc in let w : weight x ≡ weight b = ap weight same in omega (arith, w, sum_by-cons weight x [])
leaf_among s (suc below) Hole index b is weight = absurd cc
leaf_among s (suc below) (At x) index b is weight =
    let rest = leaf_among s below (slot (kids s below x) (digit below index)) index b is weight in
    let lt : digit below index < length (kids s below x) = omega (arith, length-kids s below x) in
    let all = within_flat (reach s below) (kids s below x) (digit below index) lt weight in
    omega (arith, rest, all, sum_by-cons weight x (flat_map (reach s below) (kids s below x)))

pub within_top : (yes : Bool) (p : Ptr) (b : Bptr) → (if yes then p else Hole) ≡ At b → p ≡ At b
within_top true p b is = is
within_top false p b is = absurd cc

pub tree_among : (s : Stored) (t : Tree) (index : ℕ) (b : Bptr) → tree_at s t index ≡ At b → IsAmong b (tree_reach s t)
tree_among s t index b is = leaf_among s t.height t.root index b (within_top (nat_lt index (32 ^ t.height)) (leaf_at s t.height t.root index) b is)

pub slot_get : (bs : List Bptr) (i : ℕ) (d : Bptr) → i < length bs → slot (map At bs) i ≡ At (get_or bs i d)
slot_get [] i d lt = absurd (omega (arith, lt))
slot_get (b ∷ bs) zero d lt = refl
slot_get (b ∷ bs) (suc i) d lt = slot_get bs i d (omega (arith, lt))

-- ---- what stands beside

abbrev pub Agrees : Stored → Stored → List Bptr → Type 0
Agrees old new bs = (b : Bptr) → 0 < hits bs b.at → new.bytes b ≡ old.bytes b

agrees_within : (old new : Stored) (xs ys : List Bptr) → Within xs ys → Agrees old new ys → Agrees old new xs
agrees_within old new xs ys within same b h = same b (let w = within (one_at b.at) in omega (arith, w, h))

pub leaves_beside : (old new : Stored) (t : Tree) (leaves : List Bptr) → Agrees old new (tree_blocks old t) → HasLeaves old t leaves → HasLeaves new t leaves
leaves_beside old new t leaves same has =
    let kept = keeps old new t same in
    record {
      places = λ index. kept.leaves index ∙ has.places index;
      units = has.units;
      whole = λ b among.
          let there : IsAmong b (tree_blocks old t) = subst (IsAmong b) kept.same_blocks among in
          whole_again old new b (same b (among_hits b (tree_blocks old t) there)) (has.whole b there);
    }

pub leaf_bytes : (old new : Stored) (t : Tree) (leaves : List Bptr) → Agrees old new (tree_reach old t) → HasLeaves old t leaves → (i : ℕ) (d : Bptr) → i < length leaves → new.bytes (get_or leaves i d) ≡ old.bytes (get_or leaves i d)
leaf_bytes old new t leaves same has i d lt = same (get_or leaves i d) (among_hits (get_or leaves i d) (tree_reach old t) (tree_among old t i (get_or leaves i d) (has.places i ∙ slot_get leaves i d lt)))

pub bytes_beside : (old new : Stored) (t : Tree) (bytes : List ℕ) → Agrees old new (tree_reach old t) → HasBytes old t bytes → HasBytes new t bytes
bytes_beside old new t bytes same has =
    let each = leaf_bytes old new t has.leaves same has.are_leaves in
    let maps : map new.bytes has.leaves ≡ map old.bytes has.leaves = map_same old.bytes new.bytes has.leaves each in
    record {
      leaves = has.leaves;
      are_leaves = leaves_beside old new t has.leaves (agrees_within old new (tree_blocks old t) (tree_reach old t) (blocks_within old t) same) has.are_leaves;
      count = has.count;
      long = λ i d lt. ap (λ (xs : List ℕ). length xs) (each i d lt) ∙ has.long i d lt;
      sums = λ i d lt. has.sums i d lt ∙ sym (ap (λ (xs : List ℕ). sha256 xs) (each i d lt));
      spelling = sym (flat_map-map new.bytes has.leaves) ∙ ap (flat_map (λ (c : List ℕ). c)) maps ∙ flat_map-map old.bytes has.leaves ∙ has.spelling;
    }

pub words_beside : (old new : Stored) (stream : Stream) (ns : List ℕ) → Agrees old new (tree_reach old stream.tree) → HasWords old stream ns → HasWords new stream ns
words_beside old new stream ns same has = record { count = has.count; bytes = bytes_beside old new stream.tree (words ns) same has.bytes }

-- ---- one value

one_bytes : (s : Stored) (t : Tree) (xs ys : List ℕ) → length xs ≡ length ys → HasBytes s t xs → HasBytes s t ys → xs ≡ ys
one_bytes s t xs ys long has is =
    let same = leaves_one s t has.leaves is.leaves has.are_leaves is.are_leaves in
    let all : xs ++ zeros (4096 * length has.leaves - length xs) ≡ ys ++ zeros (4096 * length is.leaves - length ys) = sym has.spelling ∙ ap (flat_map s.bytes) same ∙ is.spelling in
    sym (take_at xs (zeros (4096 * length has.leaves - length xs)) (length xs) refl) ∙ ap (take (length xs)) all ∙ take_at ys (zeros (4096 * length is.leaves - length ys)) (length xs) (sym long)

one_words : (ns ms : List ℕ) → length ns ≡ length ms → All (λ n. n < 2 ^ 64) ns → All (λ n. n < 2 ^ 64) ms → words ns ≡ words ms → ns ≡ ms
one_words [] [] long small fits same = refl
one_words [] (m ∷ ms) long small fits same = absurd (omega (arith, long))
one_words (n ∷ ns) [] long small fits same = absurd (omega (arith, long))
one_words (n ∷ ns) (m ∷ ms) long small fits same =
    let first : word n ≡ word m = sym (take_at (word n) (words ns) 8 refl) ∙ ap (take 8) same ∙ take_at (word m) (words ms) 8 refl in
    let rest : words ns ≡ words ms = sym (drop_at (word n) (words ns) 8 refl) ∙ ap (drop 8) same ∙ drop_at (word m) (words ms) 8 refl in
    let number : n ≡ m = sym (from_le_bytes-to_le_bytes_8 n (All-head (λ k. k < 2 ^ 64) n ns small)) ∙ ap (from_le_bytes w64) first ∙ from_le_bytes-to_le_bytes_8 m (All-head (λ k. k < 2 ^ 64) m ms fits) in
    ap (λ (k : ℕ). k ∷ ns) number ∙ ap (λ (ks : List ℕ). m ∷ ks) (one_words ns ms (omega (arith, long)) (All-tail (λ k. k < 2 ^ 64) n ns small) (All-tail (λ k. k < 2 ^ 64) m ms fits) rest)

pub one_value : (s : Stored) (stream : Stream) (ns ms : List ℕ) → All (λ n. n < 2 ^ 64) ns → All (λ n. n < 2 ^ 64) ms → HasWords s stream ns → HasWords s stream ms → ns ≡ ms
one_value s stream ns ms small fits has is =
    let a = has.count in
    let b = is.count in
    one_words ns ms (omega (arith, a, b)) small fits (one_bytes s stream.tree (words ns) (words ms) (omega (arith, length-words ns, length-words ms, a, b)) has.bytes is.bytes)

-- ---- as many blocks as there must be

some_leaves : (n : ℕ) → 0 < n → 0 < div_ceil n 512
some_leaves n some = grind arith

no_units : 0 ≡ tree_units (div_ceil 0 512)
unfolding tree_units
no_units = refl

units_of_root : (s : Stored) (n height : ℕ) (root : Ptr) (ns : List ℕ) → IsTreeOf n height root → HasWords s (record { words = n; tree = record { root = root; height = height } }) ns → length (tree_reach s (record { root = root; height = height })) ≡ tree_units (div_ceil (length ns) 512)
units_of_root s n height Hole ns (none, low) has =
    let count = has.count in
    ap (λ (h : ℕ). length (reach s h Hole)) low ∙ no_units ∙ ap (λ (k : ℕ). tree_units (div_ceil k 512)) (sym none ∙ sym count)
units_of_root s n height (At b) ns is has =
    let t : Tree = record { root = At b; height = height } in
    let count = has.count in
    let leaves = has.bytes.leaves in
    let long : length leaves ≡ div_ceil (length ns) 512 = has.bytes.count ∙ leaves_same (length ns) (length (words ns)) (length-words ns) in
    let tall : IsHeight (length leaves) height = subst (λ (k : ℕ). IsHeight k height) (ap (λ (k : ℕ). div_ceil k 512) (sym count) ∙ sym long) is.1 in
    let some : 0 < length leaves = let p = some_leaves (length ns) (omega (arith, count, is.0)) in omega (arith, p, long) in
    number_of_blocks s b height leaves ((is.2, is.4), is.3) some tall has.bytes.are_leaves ∙ ap tree_units long

pub units_of_stream : (s : Stored) (stream : Stream) (ns : List ℕ) → IsStream stream → HasWords s stream ns → length (tree_reach s stream.tree) ≡ tree_units (div_ceil (length ns) 512)
units_of_stream s stream ns is has = units_of_root s stream.words stream.tree.height stream.tree.root ns is has

-- ---- heads

pub low_height : (len height : ℕ) → len ≤ 2 ^ 37 → IsHeight (div_ceil len 4096) height → height ≤ 5
low_height len height most is = is.least 5 (few len most)
  where
    few : (n : ℕ) → n ≤ 2 ^ 37 → div_ceil n 4096 ≤ 32 ^ 5
    few n le = grind arith

pub one_tree : (len : ℕ) (root : Ptr) (t u : Tree) → IsTreeFor len root t → IsTreeFor len root u → t ≡ u
one_tree len root t u is has =
    let same = one_height (div_ceil len 4096) t.height u.height is.1 has.1 in
    ap (λ (p : Ptr). with_height p t.height) (is.0 ∙ sym has.0) ∙ ap (with_height u.root) same
  where
    with_height : Ptr → ℕ → Tree
    with_height p h = record { root = p; height = h }
