-- The bytes that were read stand in the tree, and no others do.
use Rattle.std.proofs.Common.{◌≡◌, ◌+◌, ◌*◌, ◌-◌, ◌/◌, ◌^◌, ◌<◌, ◌≤◌, inl, inr, ℕ, zero, suc, List, [], ◌∷◌, ◌++◌, length, map, get_or, take, drop, get_or-drop, refl, sym, ◌∙◌, ap, subst, arith, append-nil}
use Rattle.std.specs.Prelude.{All}
use Rattle.std.specs.List.{flat_map, sum_by}
use Rattle.std.specs.Int.{div_ceil, w64, from_le_bytes}
use Rattle.std.specs.Simd.{first_chunks}
use Rattle.std.proofs.lemmas.Bool.{cases_lt}
use Rattle.std.proofs.lemmas.Nat.{le_bytes_8}
use Rattle.std.proofs.lemmas.List.{length-append, length-drop, length-take, length-take-le, take-append-drop, take_all, get_or_past, get_or-take, drop_at, length-replicate}
use Rattle.std.proofs.lemmas.List.Elements.{All-push}
use Rattle.std.proofs.lemmas.Grind.{flat_map-append}
use Rattle.std.proofs.Math.Nat.{mul-suc}
use Rattle.sha2.specs.Sha256.{sha256}
use Rattle.zr_base.specs.Words.{word, words, zeros}
use Rattle.zr_bptr.specs.declared.Bptr.{Bptr}
use Rattle.zr_bptr.specs.declared.Ptr.{Ptr}
use Rattle.zr_bptr.specs.declared.Ptr.TheVariants.{Hole, At}
use Rattle.zr_bptr.specs.declared.Tree.{Tree}
use Rattle.zr_store.specs.Store.{Stored}
use Rattle.zr_base.specs.Trees.{IsHeight}
use Rattle.zr_meta.specs.declared.Stream.{Stream}
use Rattle.zr_meta.specs.Heads.{IsStream, IsTreeOf}
use Rattle.zr_tree.specs.Trees.{slot, tree_blocks, tree_reach, IsAmong}
use Rattle.zr_tree.proofs.Wholes.{Within, among_hits}
use Rattle.zr_root.specs.Streams.{HasSum, IsRootOf, HasLeaves, HasBytes, HasWords}
use Rattle.zr_root.specs.Levels.{IsLevel, ReadsLeaves}
use Rattle.zr_root.proofs.Lists.{joined, length-chunks}
use Rattle.zr_root.proofs.Steps.{no_blocks, own_leaves, parts}
use Rattle.zr_root.proofs.Puts.{taken}
use Rattle.zr_root.proofs.Shapes.{ceil_one}
use Rattle.zr_root.proofs.Words.{leaves_same, hole_words}

-- ---- the leaves of a tree

same_slots : (xs ys : List Bptr) → ((j : ℕ) → slot (map At xs) j ≡ slot (map At ys) j) → xs ≡ ys
same_slots [] [] h = refl
same_slots [] (y ∷ ys) h = absurd (let e : Hole ≡ At y = h 0 in cc)
same_slots (x ∷ xs) [] h = absurd (let e : At x ≡ Hole = h 0 in cc)
same_slots (x ∷ xs) (y ∷ ys) h =
    let e : At x ≡ At y = h 0 in
    let first : x ≡ y = cc in
    ap (λ (b : Bptr). b ∷ xs) first ∙ ap (λ (bs : List Bptr). y ∷ bs) (same_slots xs ys (λ j. h (suc j)))

pub leaves_one : (s : Stored) (t : Tree) (xs ys : List Bptr) → HasLeaves s t xs → HasLeaves s t ys → xs ≡ ys
leaves_one s t xs ys has is = same_slots xs ys (λ j. sym (has.places j) ∙ is.places j)

pub leaves_of_level : (s : Stored) (t : Tree) (leaves : List Bptr) → IsLevel s t 0 leaves → HasLeaves s t leaves
leaves_of_level s t leaves is = record {
  places = λ index. is.places index ∙ ap (λ (j : ℕ). slot (map At leaves) j) (omega arith);
  units = is.units;
  whole = is.whole (λ b among. absurd (let n = among_hits b [] (subst (IsAmong b) (no_blocks s leaves) among) in omega (arith, n)));
}

pub blocks_within : (s : Stored) (t : Tree) → Within (tree_blocks s t) (tree_reach s t)
blocks_within s t weight = let e = parts s t.height weight t.root in omega (arith, e)

pub leaves_within : (s : Stored) (t : Tree) (leaves xs : List Bptr) → xs ≡ leaves → IsLevel s t 0 leaves → Within xs (tree_reach s t)
leaves_within s t leaves xs same is weight =
    let e = parts s t.height weight t.root in
    let l = ap (sum_by weight) (is.leaves ∙ own_leaves s leaves ∙ sym same) in
    omega (arith, e, l)

-- ---- their bytes

pub leaves_more : (s : Stored) (i : ℕ) (leaves : List Bptr) (d : Bptr) (all bytes now : List ℕ) → i < length leaves → now ≡ all ++ bytes → bytes ≡ s.bytes (get_or leaves i d) → length bytes ≡ 4096 → sha256 bytes ≡ (get_or leaves i d).sum → ReadsLeaves s (take i leaves) all → ReadsLeaves s (take (i + 1) leaves) now
leaves_more s i leaves d all bytes now lt now_is is long sum so_far =
    subst (λ (bs : List Bptr). ReadsLeaves s bs now) (sym (taken d leaves i lt)) (record {
      bytes_are =
          now_is ∙ ap (λ (xs : List ℕ). xs ++ bytes) so_far.bytes_are ∙ ap (λ (xs : List ℕ). flat_map s.bytes (take i leaves) ++ xs) (is ∙ sym (append-nil (s.bytes (get_or leaves i d))))
          ∙ sym (flat_map-append s.bytes (take i leaves) (get_or leaves i d ∷ []));
      long = All-push (λ (b : Bptr). length (s.bytes b) ≡ 4096) (take i leaves) (get_or leaves i d) so_far.long (sym (ap (λ (xs : List ℕ). length xs) is) ∙ long);
      sums = All-push (HasSum s) (take i leaves) (get_or leaves i d) so_far.sums (sym sum ∙ ap (λ (xs : List ℕ). sha256 xs) is);
    })

abbrev pub root_tree : Bptr → ℕ → Tree
root_tree b height = record { root = At b; height = height }

-- a tree by its root
pub by_root : (t : Tree) (b : Bptr) → t.root ≡ At b → root_tree b t.height ≡ t
by_root t b is = let P : Ptr → Tree = λ p. record { root = p; height = t.height } in sym (ap P is)

module _ (s : Stored) (t : Tree) (len n : ℕ) (leaves : List Bptr) (all : List ℕ) (n_is : n ≡ div_ceil len 4096) (count : length leaves ≡ n) (is : IsLevel s t 0 leaves) where
  -- what stands in the tree is all that was read, but for the padding
  has_all : (bytes : List ℕ) → ReadsLeaves s leaves all → length bytes ≡ len → HasBytes s t bytes → all ≡ bytes ++ zeros (4096 * n - len)
  has_all bytes reads long has =
      let same = leaves_one s t leaves has.leaves (leaves_of_level s t leaves is) has.are_leaves in
      reads.bytes_are ∙ ap (flat_map s.bytes) same ∙ has.spelling
      ∙ ap (λ (k : ℕ). bytes ++ zeros (4096 * k - length bytes)) (sym (ap (λ (bs : List Bptr). length bs) same) ∙ count) ∙ ap (λ (k : ℕ). bytes ++ zeros (4096 * n - k)) long

  pub no_padding : (xs : List ℕ) → xs ≡ drop len all → ¬ (xs ≡ zeros (length xs)) → ReadsLeaves s leaves all → (bytes : List ℕ) → length bytes ≡ len → ¬ HasBytes s t bytes
  no_padding xs xs_are bad reads bytes long has =
      let e = has_all bytes reads long has in
      let rest : drop len all ≡ zeros (4096 * n - len) = ap (drop len) e ∙ drop_at bytes (zeros (4096 * n - len)) len long in
      let here : xs ≡ zeros (4096 * n - len) = xs_are ∙ rest in
      let size : length xs ≡ 4096 * n - len = ap (λ (ys : List ℕ). length ys) here ∙ length-replicate (4096 * n - len) 0 in
      bad (here ∙ ap zeros (sym size))

  pub not_long : (bs : List Bptr) → bs ≡ leaves → ¬ All (λ b. length (s.bytes b) ≡ 4096) bs → (bytes : List ℕ) → length bytes ≡ len → ¬ HasBytes s t bytes
  not_long bs same bad bytes long has =
      let one = leaves_one s t has.leaves leaves has.are_leaves (leaves_of_level s t leaves is) in
      bad (subst (All (λ b. length (s.bytes b) ≡ 4096)) (one ∙ sym same) has.long)

  pub has_bytes : (xs bytes : List ℕ) → len ≤ 4096 * n → length all ≡ 4096 * n → xs ≡ drop len all → xs ≡ zeros (length xs) → bytes ≡ take len all → ReadsLeaves s leaves all → (length bytes ≡ len) × HasBytes s t bytes
  has_bytes xs bytes most size xs_are padding bytes_are reads =
      let long : length bytes ≡ len = ap (λ (ys : List ℕ). length ys) bytes_are ∙ length-take-le len all (omega (arith, most, size)) in
      let rest : length xs ≡ 4096 * n - len = ap (λ (ys : List ℕ). length ys) xs_are ∙ omega (arith, length-drop len all, size) in
      let behind : drop len all ≡ zeros (4096 * length leaves - length bytes) = sym xs_are ∙ padding ∙ ap zeros (omega (arith, rest, count, long)) in (
        long,
        record {
          leaves = leaves;
          are_leaves = leaves_of_level s t leaves is;
          count = count ∙ n_is ∙ ap (λ (k : ℕ). div_ceil k 4096) (sym long);
          long = reads.long;
          sums = reads.sums;
          spelling = sym reads.bytes_are ∙ sym (take-append-drop len all) ∙ ap (λ (ys : List ℕ). ys ++ drop len all) (sym bytes_are) ∙ ap (λ (ys : List ℕ). bytes ++ ys) behind;
        },
      )

pub reads_sum : (s : Stored) (leaves bs : List Bptr) (all : List ℕ) → bs ≡ leaves → ReadsLeaves s leaves all → (i : ℕ) (d : Bptr) → i < length bs → HasSum s (get_or bs i d)
reads_sum s leaves bs all same reads = subst (All (HasSum s)) (sym same) reads.sums

-- where there are no such leaves there are no such bytes
pub no_leaves : (s : Stored) (t : Tree) (len n : ℕ) → n ≡ div_ceil len 4096 → ((leaves : List Bptr) → n ≡ div_ceil (length leaves) (32 ^ 0) → ¬ HasLeaves s t leaves) → (bytes : List ℕ) → length bytes ≡ len → ¬ HasBytes s t bytes
no_leaves s t len n n_is none bytes long has =
    none has.leaves (n_is ∙ ap (λ (k : ℕ). div_ceil k 4096) (sym long) ∙ sym has.count ∙ sym (ceil_one (length has.leaves))) has.are_leaves

-- ---- words

abbrev pub AreSmall : List ℕ → Type 0
AreSmall xs = (j : ℕ) → get_or xs j 0 < 256

take_small : (n : ℕ) (xs : List ℕ) → AreSmall xs → AreSmall (take n xs)
take_small n xs small j = elim (cases_lt j n) [
  | inl lt ↦ let e = get_or-take n xs j 0 lt in let h = small j in omega (arith, e, h)
  | inr ge ↦ let e = get_or_past (take n xs) j 0 (omega (arith, length-take n xs, ge)) in omega (arith, e)
]

drop_small : (n : ℕ) (xs : List ℕ) → AreSmall xs → AreSmall (drop n xs)
drop_small n xs small j = let e = get_or-drop n xs j 0 in let h = small (n + j) in omega (arith, e, h)

-- each piece of bytes has bytes
pub piece_small : (n k i : ℕ) (xs : List ℕ) → AreSmall xs → AreSmall (get_or (first_chunks n k xs) i [])
piece_small n zero i xs small j = omega arith
piece_small n (suc k) zero xs small j = take_small n xs small j
piece_small n (suc k) (suc i) xs small j = piece_small n k i (drop n xs) (drop_small n xs small) j

pub piece_long : (n k i : ℕ) (xs : List ℕ) → i < k → n * k ≤ length xs → length (get_or (first_chunks n k xs) i []) ≡ n
piece_long n zero i xs lt most = absurd (omega (arith, lt))
piece_long n (suc k) zero xs lt most = length-take-le n xs (omega (arith, most, mul-suc n k))
piece_long n (suc k) (suc i) xs lt most = piece_long n k i (drop n xs) (omega (arith, lt)) (omega (arith, most, length-drop n xs, mul-suc n k))

-- one word more
pub words_more : (ns now : List ℕ) (n i : ℕ) (pieces : List (List ℕ)) → i < length pieces → now ≡ ns ++ n ∷ [] → n ≡ from_le_bytes w64 (get_or pieces i []) → length (get_or pieces i []) ≡ 8 → AreSmall (get_or pieces i []) → words ns ≡ flat_map (λ (c : List ℕ). c) (take i pieces) → words now ≡ flat_map (λ (c : List ℕ). c) (take (i + 1) pieces)
words_more ns now n i pieces lt now_is n_is long small so_far =
    let id : List ℕ → List ℕ = λ c. c in
    let piece = get_or pieces i [] in
    let last : words (n ∷ []) ≡ piece = append-nil (word n) ∙ le_bytes_8 piece n long small n_is in
    ap words now_is ∙ flat_map-append word ns (n ∷ []) ∙ ap (λ (xs : List ℕ). words ns ++ xs) last ∙ ap (λ (xs : List ℕ). xs ++ piece) so_far
    ∙ ap (λ (xs : List ℕ). flat_map id (take i pieces) ++ xs) (sym (append-nil piece)) ∙ sym (flat_map-append id (take i pieces) (piece ∷ [])) ∙ sym (ap (flat_map id) (taken [] pieces i lt))

pub words_all : (ns bytes : List ℕ) (i n : ℕ) (pieces : List (List ℕ)) → length bytes ≡ 8 * n → pieces ≡ first_chunks 8 (length bytes / 8) bytes → length ns ≡ i → length pieces ≤ i → i ≤ length pieces → words ns ≡ flat_map (λ (c : List ℕ). c) (take i pieces) → (words ns ≡ bytes) × (length ns ≡ n)
words_all ns bytes i n pieces long cut count past most so_far =
    let k : length bytes / 8 ≡ n = omega (arith, long) in
    let here : pieces ≡ first_chunks 8 n bytes = cut ∙ ap (λ (j : ℕ). first_chunks 8 j bytes) k in
    let size : length pieces ≡ n = ap (λ (cs : List (List ℕ)). length cs) here ∙ length-chunks 8 n bytes in (
      so_far ∙ ap (flat_map (λ (c : List ℕ). c)) (take_all i pieces past ∙ here) ∙ joined 8 n bytes long,
      omega (arith, count, past, most, size),
    )

length-word : (n : ℕ) → length (word n) ≡ 8
length-word n = refl

pub length-words : (ns : List ℕ) → length (words ns) ≡ 8 * length ns
length-words [] = refl
length-words (n ∷ ns) = let rest = length-words ns in omega (arith, rest, length-word n, length-append (word n) (words ns))

-- ---- streams

pub no_stream : (s : Stored) (stream : Stream) (len : ℕ) → len ≡ 8 * stream.words → ((bytes : List ℕ) → length bytes ≡ len → ¬ HasBytes s stream.tree bytes) → (ns : List ℕ) → ¬ HasWords s stream ns
no_stream s stream len len_is none ns has = none (words ns) (let e = length-words ns in let c = has.count in omega (arith, e, c, len_is)) has.bytes

pub has_words : (s : Stored) (stream : Stream) (ns bytes xs : List ℕ) → xs ≡ bytes → (words ns ≡ xs) × (length ns ≡ stream.words) → HasBytes s stream.tree bytes → HasWords s stream ns
has_words s stream ns bytes xs same is has = record { count = is.1; bytes = subst (HasBytes s stream.tree) (sym (is.0 ∙ same)) has }

-- no words stand in a hole
pub has_none : (s : Stored) (stream : Stream) (ns : List ℕ) → stream.words ≡ 0 → IsStream stream → length ns ≡ 0 → HasWords s stream ns
has_none s stream ns none is long = go stream.words stream.tree.height stream.tree.root none is
  where
    go : (n height : ℕ) (root : Ptr) → n ≡ 0 → IsTreeOf n height root → HasWords s (record { words = n; tree = record { root = root; height = height } }) ns
    go n height (At b) zero_is h = absurd (let some = h.0 in omega (arith, zero_is, some))
    go n height Hole zero_is (no_words, low) =
        subst (λ (w : ℕ). HasWords s (record { words = w; tree = record { root = Hole; height = height } }) ns) (sym zero_is)
        (subst (λ (h : ℕ). HasWords s (record { words = 0; tree = record { root = Hole; height = h } }) ns) (sym low) (hole_words s ns long))

-- the tree of some words
pub root_of : (n height : ℕ) (root : Ptr) → 0 < n → IsTreeOf n height root → (height ≤ 5) × IsHeight (div_ceil (8 * n) 4096) height × IsRootOf height root
root_of n height Hole some (none, low) = absurd (omega (arith, some, none))
root_of n height (At b) some is =
    let level_is = is.2 in
    let low = is.4.level in
    (omega (arith, level_is, low), subst (λ (k : ℕ). IsHeight k height) (sym (leaves_same n (8 * n) refl)) is.1, ((is.2, is.4), is.3))
