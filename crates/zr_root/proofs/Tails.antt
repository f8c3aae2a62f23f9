-- The last leaf of a stream, and the errors that tell of a stream's blocks.
use Rattle.std.proofs.Common.{◌≡◌, ◌≢◌, ◌+◌, ◌*◌, ◌-◌, ◌/◌, ◌%◌, ◌<◌, ◌≤◌, inl, inr, ℕ, zero, suc, List, [], ◌∷◌, ◌++◌, length, map, get_or, take, drop, Result, Err, refl, sym, ◌∙◌, ap, subst, arith, append_assoc, append-nil}
use Rattle.std.specs.Prelude.{All}
use Rattle.std.specs.List.{flat_map, sum_by}
use Rattle.std.specs.Int.{div_ceil}
use Rattle.std.proofs.lemmas.Bool.{cases_lt}
use Rattle.std.proofs.lemmas.Grind.{flat_map-append}
use Rattle.std.proofs.lemmas.List.{length-append, length-drop, length-take-le, length-replicate, take-append-drop, take_at, drop_at, take_all, drop_all}
use Rattle.std.proofs.lemmas.List.Elements.{All-head, All-tail, All-take}
use Rattle.std.proofs.lemmas.List.Sums.{sum_by-cons}
use Rattle.sha2.specs.Sha256.{sha256}
use Rattle.zr_base.specs.Words.{word, words, zeros}
use Rattle.zr_bptr.specs.declared.Bptr.{Bptr}
use Rattle.zr_bptr.specs.declared.Ptr.{Ptr}
use Rattle.zr_bptr.specs.declared.Ptr.TheVariants.{Hole, At}
use Rattle.zr_bptr.specs.declared.Tree.{Tree}
use Rattle.std.specs.Simd.{first_chunks}
use Rattle.zr_store.specs.Store.{Stored, Swaps, AreStored, Now, one_at}
use Rattle.zr_store.specs.declared.StoreErr.{StoreErr}
use Rattle.zr_store.specs.declared.StoreErr.TheVariants.{Malformed, Damaged, Unresolved}
use Rattle.zr_store.proofs.Causes.{again}
use Rattle.zr_meta.specs.declared.Stream.{Stream}
use Rattle.zr_tree.specs.Trees.{kids, slot, tree_at, tree_blocks, tree_reach, reach, IsAmong, TellsOf}
use Rattle.zr_tree.proofs.Others.{keeps}
use Rattle.zr_tree.proofs.Wholes.{among_hits, among_within, tells_empty, tells_before}
use Rattle.zr_root.specs.Streams.{HasSum, HasLeaves, HasWords, PutsLeaves}
use Rattle.zr_root.specs.Levels.{TellsOfForm}
use Rattle.zr_root.specs.Appends.{IsLastLeaf, IsTail, HasNoWords, TellsOfStream, PutsBytes, changes_from}
use Rattle.zr_root.proofs.Beside.{slot_get, tree_among}
use Rattle.zr_root.proofs.Joining.{ceil_of}
use Rattle.zr_root.proofs.Lists.{flat_pieces, long_chunks, all_from_map}
use Rattle.zr_root.proofs.Puts.{taken}
use Rattle.zr_root.proofs.Reading.{damaged_within}
use Rattle.zr_root.proofs.Shapes.{slot_past}
use Rattle.zr_root.proofs.Standing.{blocks_within, length-words}
use Rattle.zr_root.proofs.Words.{leaves_same}

-- ---- leaves of one length

pub flat_long : (f : Bptr → List ℕ) (bs : List Bptr) → All (λ b. length (f b) ≡ 4096) bs → length (flat_map f bs) ≡ 4096 * length bs
flat_long f [] long = refl
flat_long f (b ∷ bs) long =
    let rest = flat_long f bs (All-tail (λ (x : Bptr). length (f x) ≡ 4096) b bs long) in
    let first : length (f b) ≡ 4096 = All-head (λ (x : Bptr). length (f x) ≡ 4096) b bs long in
    omega (arith, rest, first, length-append (f b) (flat_map f bs))

-- the words in full leaves, and what stands behind them
pub words_cut : (ns rest : List ℕ) (full : ℕ) → 512 * full ≤ length ns → (words ns ++ rest ≡ words (take (512 * full) ns) ++ (words (drop (512 * full) ns) ++ rest)) × (length (words (take (512 * full) ns)) ≡ 4096 * full)
words_cut ns rest full enough = (
  ap (λ (xs : List ℕ). xs ++ rest) (sym (ap words (take-append-drop (512 * full) ns)) ∙ flat_map-append word (take (512 * full) ns) (drop (512 * full) ns)) ∙ append_assoc (words (take (512 * full) ns)) (words (drop (512 * full) ns)) rest,
  length-words (take (512 * full) ns) ∙ ap (λ (k : ℕ). 8 * k) (length-take-le (512 * full) ns enough) ∙ omega arith,
)

-- ---- the last leaf

pub leaf_is : (s : Stored) (t : Tree) (leaves : List Bptr) (i : ℕ) (b : Bptr) → HasLeaves s t leaves → tree_at s t i ≡ At b → (i < length leaves) × (get_or leaves i b ≡ b)
leaf_is s t leaves i b has is = elim (cases_lt i (length leaves)) [
  | inl lt ↦ let e : At (get_or leaves i b) ≡ At b = sym (slot_get leaves i b lt) ∙ sym (has.places i) ∙ is in (lt, cc)
  | inr past ↦ let e : Hole ≡ At b = sym (slot_past leaves i past) ∙ sym (has.places i) ∙ is in absurd cc
]

pub no_leaf : (s : Stored) (t : Tree) (leaves : List Bptr) (i : ℕ) → HasLeaves s t leaves → tree_at s t i ≡ Hole → length leaves ≤ i
no_leaf s t leaves i has is = elim (cases_lt i (length leaves)) [
  | inl lt ↦ some leaves lt (sym (has.places i) ∙ is)
  | inr past ↦ past
]
  where
    some : (bs : List Bptr) → i < length bs → slot (map At bs) i ≡ Hole → length bs ≤ i
    some [] lt none = absurd (omega (arith, lt))
    some (x ∷ xs) lt none = let e : At (get_or (x ∷ xs) i x) ≡ Hole = sym (slot_get (x ∷ xs) i x lt) ∙ none in absurd cc

module _ (s : Stored) (stream : Stream) (ns : List ℕ) (has : HasWords s stream ns) where
  pub leaves_count : length has.bytes.leaves ≡ div_ceil stream.words 512
  leaves_count = has.bytes.count ∙ leaves_same stream.words (length (words ns)) (length-words ns ∙ ap (λ (n : ℕ). 8 * n) has.count)

  pub leaf_long : (i : ℕ) (b : Bptr) → tree_at s stream.tree i ≡ At b → length (s.bytes b) ≡ 4096
  leaf_long i b is =
      let here = leaf_is s stream.tree has.bytes.leaves i b has.bytes.are_leaves is in
      subst (λ (x : Bptr). length (s.bytes x) ≡ 4096) here.1 (has.bytes.long i b here.0)

  pub leaf_sum : (i : ℕ) (b : Bptr) → tree_at s stream.tree i ≡ At b → HasSum s b
  leaf_sum i b is =
      let here = leaf_is s stream.tree has.bytes.leaves i b has.bytes.are_leaves is in
      subst (HasSum s) here.1 (has.bytes.sums i b here.0)

  abbrev pub padding : ℕ
  padding = 4096 * length has.bytes.leaves - length (words ns)

  -- the bytes of the leaf at the place of the next word are the words from its first one on, and zeros
  pub leaf_tail : (b : Bptr) → tree_at s stream.tree (stream.words / 512) ≡ At b → s.bytes b ≡ words (drop (512 * (stream.words / 512)) ns) ++ zeros padding
  leaf_tail b is =
      let full : ℕ = stream.words / 512 in
      let leaves = has.bytes.leaves in
      let here = leaf_is s stream.tree leaves full b has.bytes.are_leaves is in
      let ceil = ceil_of stream.words 512 (omega arith) in
      let last : length leaves ≡ full + 1 = omega (arith, leaves_count, ceil.0, ceil.1, here.0) in
      let parts : leaves ≡ take full leaves ++ b ∷ [] = sym (take_all (full + 1) leaves (omega (arith, last))) ∙ taken b leaves full here.0 ∙ ap (λ (x : Bptr). take full leaves ++ x ∷ []) here.1 in
      let bytes : words ns ++ zeros padding ≡ flat_map s.bytes (take full leaves) ++ s.bytes b = sym has.bytes.spelling ∙ ap (flat_map s.bytes) parts ∙ flat_map-append s.bytes (take full leaves) (b ∷ []) ∙ ap (λ (xs : List ℕ). flat_map s.bytes (take full leaves) ++ xs) (append-nil (s.bytes b)) in
      let size : length (flat_map s.bytes (take full leaves)) ≡ 4096 * full = flat_long s.bytes (take full leaves) (All-take (λ (x : Bptr). length (s.bytes x) ≡ 4096) full leaves has.bytes.long) ∙ ap (λ (n : ℕ). 4096 * n) (length-take-le full leaves (omega (arith, last))) in
      let cut = words_cut ns (zeros padding) full (let c = has.count in omega (arith, c)) in
      sym (drop_at (flat_map s.bytes (take full leaves)) (s.bytes b) (4096 * full) size)
      ∙ ap (drop (4096 * full)) (sym bytes ∙ cut.0)
      ∙ drop_at (words (take (512 * full) ns)) (words (drop (512 * full) ns) ++ zeros padding) (4096 * full) cut.1

  tail_len : length (words (drop (512 * (stream.words / 512)) ns)) ≡ 8 * (stream.words % 512)
  tail_len = let c = has.count in let d = length-drop (512 * (stream.words / 512)) ns in let w = length-words (drop (512 * (stream.words / 512)) ns) in omega (arith, c, d, w)

  pub tail_words : (b : Bptr) (items bytes : List ℕ) → tree_at s stream.tree (stream.words / 512) ≡ At b → items ≡ s.bytes b → bytes ≡ take (8 * (stream.words % 512)) items → IsTail s stream ns (At b) bytes
  tail_words b items bytes is items_are bytes_are = record {
    leaf_is = sym is;
    bytes_are =
        bytes_are ∙ ap (take (8 * (stream.words % 512))) (items_are ∙ leaf_tail b is)
        ∙ take_at (words (drop (512 * (stream.words / 512)) ns)) (zeros padding) (8 * (stream.words % 512)) tail_len;
  }

  pub tail_padding : (b : Bptr) (items xs : List ℕ) → tree_at s stream.tree (stream.words / 512) ≡ At b → items ≡ s.bytes b → xs ≡ drop (8 * (stream.words % 512)) items → xs ≡ zeros (length xs)
  tail_padding b items xs is items_are xs_are =
      let rest : xs ≡ zeros padding = xs_are ∙ ap (drop (8 * (stream.words % 512))) (items_are ∙ leaf_tail b is) ∙ drop_at (words (drop (512 * (stream.words / 512)) ns)) (zeros padding) (8 * (stream.words % 512)) tail_len in
      let size : length xs ≡ padding = ap (λ (ys : List ℕ). length ys) rest ∙ length-replicate padding 0 in
      rest ∙ ap zeros (sym size)

  -- where no leaf is there the last one is full
  pub hole_full : tree_at s stream.tree (stream.words / 512) ≡ Hole → stream.words % 512 ≡ 0
  hole_full is =
      let most = no_leaf s stream.tree has.bytes.leaves (stream.words / 512) has.bytes.are_leaves is in
      let ceil = ceil_of stream.words 512 (omega arith) in
      omega (arith, leaves_count, most, ceil.0)

  pub hole_tail : (bytes : List ℕ) → tree_at s stream.tree (stream.words / 512) ≡ Hole → bytes ≡ [] → IsTail s stream ns Hole bytes
  hole_tail bytes is none = record {
    leaf_is = sym is;
    bytes_are =
        let full = hole_full is in
        let c = has.count in
        none ∙ ap words (sym (drop_all (512 * (stream.words / 512)) ns (omega (arith, c, full))));
  }

-- ---- whose errors they are

-- 0 where the lists are one
differ : List ℕ → List ℕ → ℕ
differ [] [] = 0
differ [] (y ∷ ys) = 1
differ (x ∷ xs) [] = 1
differ (x ∷ xs) (y ∷ ys) = (x - y) + (y - x) + differ xs ys

differ_none : (xs : List ℕ) → differ xs xs ≡ 0
unfolding differ
differ_none [] = refl
differ_none (x ∷ xs) = let rest = differ_none xs in omega (arith, rest)

none_differ : (xs ys : List ℕ) → differ xs ys ≡ 0 → xs ≡ ys
unfolding differ
none_differ [] [] h = refl
none_differ [] (y ∷ ys) h = absurd (omega (arith, h))
none_differ (x ∷ xs) [] h = absurd (omega (arith, h))
none_differ (x ∷ xs) (y ∷ ys) h =
    let first : x ≡ y = omega (arith, h) in
    let rest = none_differ xs ys (omega (arith, h)) in
    ap (λ (n : ℕ). n ∷ xs) first ∙ ap (λ (ns : List ℕ). y ∷ ns) rest

-- the only block of a list
only_sum : (s : Stored) (b x : Bptr) → HasSum s x → IsAmong b (x ∷ []) → HasSum s b
only_sum s b x sum among =
    let weight : Bptr → ℕ = λ y. differ y.sum (sha256 (s.bytes y)) in
    let none : weight x ≡ 0 = ap (λ (ys : List ℕ). differ ys (sha256 (s.bytes x))) sum ∙ differ_none (sha256 (s.bytes x)) in
    let h = among weight in
    none_differ b.sum (sha256 (s.bytes b)) (omega (arith, h, none, sum_by-cons weight x []))

one_within : (b : Bptr) (bs : List Bptr) → IsAmong b bs → (weight : Bptr → ℕ) → sum_by weight (b ∷ []) ≤ sum_by weight bs
one_within b bs among weight = let h = among weight in omega (arith, h, sum_by-cons weight b [])

-- a tree block
pub told_tree : {T : Type 0} (s : Stored) (stream : Stream) (r : Result T StoreErr) → TellsOf s (tree_blocks s stream.tree) r → TellsOfStream s stream r
told_tree s stream r h = record {
  malformed = λ at expected is.
      let b = h.malformed at expected is in (
        record { block = b.block; among = among_within b.block (tree_blocks s stream.tree) (tree_reach s stream.tree) (blocks_within s stream.tree) b.among; address = b.address; checksum = b.checksum },
        λ ns has. let whole = has.bytes.are_leaves.whole b.block b.among in b.bad whole.block.0 whole.block.1,
      );
  damaged = λ at expected found is.
      let b = h.damaged at expected found is in (
        damaged_within s (tree_blocks s stream.tree) (tree_reach s stream.tree) at expected found (blocks_within s stream.tree) b,
        λ ns has. let whole = has.bytes.are_leaves.whole b.block b.among in b.differs (sym b.checksum ∙ whole.checksum ∙ sym b.found_is),
      );
  resolved = λ at expected is stored. h.resolved at expected is (λ weight. let w = blocks_within s stream.tree weight in let l = stored weight in omega (arith, w, l));
}

-- no block at all
pub told_none : {T : Type 0} (s : Stored) (stream : Stream) (r : Result T StoreErr) → TellsOf s [] r → TellsOfStream s stream r
told_none s stream r h = told_tree s stream r (tells_empty s s (tree_blocks s stream.tree) r h)

-- a leaf
pub told_leaf : {T : Type 0} (s : Stored) (stream : Stream) (i : ℕ) (b : Bptr) (r : Result T StoreErr) → tree_at s stream.tree i ≡ At b → TellsOfForm s (b ∷ []) (λ x. length (s.bytes b) ≢ 4096) r → TellsOfStream s stream r
told_leaf s stream i b r is h =
    let within = one_within b (tree_reach s stream.tree) (tree_among s stream.tree i b is) in
    record {
      malformed = λ at expected err.
          let x = h.malformed at expected err in (
            record { block = x.block; among = among_within x.block (b ∷ []) (tree_reach s stream.tree) within x.among; address = x.address; checksum = x.checksum },
            λ ns has. x.outside (leaf_long s stream ns has i b is),
          );
      damaged = λ at expected found err.
          let x = h.damaged at expected found err in (
            damaged_within s (b ∷ []) (tree_reach s stream.tree) at expected found within x,
            λ ns has. let sum = only_sum s x.block b (leaf_sum s stream ns has i b is) x.among in x.differs (sym x.checksum ∙ sum ∙ sym x.found_is),
          );
      resolved = λ at expected err stored. h.resolved at expected err (λ weight. let w = within weight in let l = stored weight in omega (arith, w, l));
    }

pub told_block : {T : Type 0} (s : Stored) (stream : Stream) (b : Bptr) → IsAmong b (tree_reach s stream.tree) → HasNoWords s stream → TellsOfStream {T = T} s stream (Err (Malformed b.at b.sum))
told_block s stream b among none = record {
  malformed = λ at expected is. (record { block = b; among = among; address = cc; checksum = cc }, none);
  damaged = λ at expected found is. absurd cc;
  resolved = λ at expected is. absurd cc;
}

-- a leaf whose padding is not zeros
pub told_padding : {T : Type 0} (s : Stored) (stream : Stream) (b : Bptr) (items xs : List ℕ) → tree_at s stream.tree (stream.words / 512) ≡ At b → items ≡ s.bytes b → xs ≡ drop (8 * (stream.words % 512)) items → ¬ (xs ≡ zeros (length xs)) → TellsOfStream {T = T} s stream (Err (Malformed b.at b.sum))
told_padding {T} s stream b items xs is items_are xs_are bad = told_block {T = T} s stream b (tree_among s stream.tree (stream.words / 512) b is) (λ ns has. bad (tail_padding s stream ns has b items xs is items_are xs_are))

-- the root, where a leaf is missing
root_among : (s : Stored) (level : ℕ) (b : Bptr) → IsAmong b (reach s level (At b))
root_among s zero b weight = omega (arith, sum_by-cons weight b [])
root_among s (suc below) b weight = omega (arith, sum_by-cons weight b (flat_map (reach s below) (kids s below b)))

pub told_hole : {T : Type 0} (s : Stored) (stream : Stream) (root : Bptr) → stream.tree.root ≡ At root → tree_at s stream.tree (stream.words / 512) ≡ Hole → stream.words % 512 ≢ 0 → TellsOfStream {T = T} s stream (Err (Malformed root.at root.sum))
told_hole {T} s stream root root_is hole some =
    told_block {T = T} s stream root (subst (λ (p : Ptr). IsAmong root (reach s stream.tree.height p)) (sym root_is) (root_among s stream.tree.height root)) (λ ns has. some (hole_full s stream ns has hole))

-- other blocks came
pub blocks_stay : (s0 s1 : Stored) (t : Tree) (new : List Bptr) → AreStored (tree_reach s0 t) s0 → Swaps s0 s1 [] new → AreStored (tree_blocks s1 t) s1
blocks_stay s0 s1 t new held came weight =
    let within = blocks_within s0 t in
    let kept = keeps s0 s1 t (λ b hit. came.kept b refl (let d = held (one_at b.at) in let w = within (one_at b.at) in omega (arith, d, w, hit))) in
    let e = ap (sum_by weight) kept.same_blocks in
    let w = within weight in
    let d = held weight in
    let a = came.stored weight in
    omega (arith, e, w, d, a)

-- an error of a call after that
pub told_later : {T : Type 0} (s0 s1 : Stored) (stream : Stream) (new : List Bptr) (r : Result T StoreErr) → AreStored (tree_reach s0 stream.tree) s0 → Swaps s0 s1 [] new → TellsOf s1 (tree_blocks s1 stream.tree) r → TellsOfStream s0 stream r
told_later s0 s1 stream new r held came h =
    let t = stream.tree in
    let within = blocks_within s0 t in
    let same = λ (b : Bptr) (hit : 0 < sum_by (one_at b.at) (tree_blocks s0 t)). came.kept b refl (let d = held (one_at b.at) in let w = within (one_at b.at) in omega (arith, d, w, hit)) in
    let kept = keeps s0 s1 t same in
    told_tree s0 stream r (tells_before s0 s1 (tree_blocks s0 t) (tree_blocks s1 t) r
    (record { each = λ b among. let there = subst (IsAmong b) kept.same_blocks among in inl (there, same b (among_hits b (tree_blocks s0 t) there)) })
    (blocks_stay s0 s1 t new held came) h)

-- the error that a `?` hands on
pub told_from : {T U : Type 0} (s : Stored) (stream : Stream) (r : Result U StoreErr) (e : StoreErr) → (y : StoreErr) × (r ≡ Err y) × (y ≡ e) → TellsOfStream {T = T} s stream (Err e) → TellsOfStream s stream r
told_from {T} {U} s stream r e given h = subst (λ (x : Result U StoreErr). TellsOfStream s stream x) (sym (given.1 ∙ ap (λ (y : StoreErr). Err y) given.2)) (record {
  malformed = λ at expected is. h.malformed at expected (again e (Malformed at expected) is);
  damaged = λ at expected found is. h.damaged at expected found (again e (Damaged at expected found) is);
  resolved = λ at expected is. h.resolved at expected (again e (Unresolved at expected) is);
})

-- ---- bytes that are put as leaves

pub put_bytes_now : (has : Stored → Type 0) (s : Stored) (leaves : List Bptr) (pieces : List (List ℕ)) (k : ℕ) (bytes all : List ℕ) → Now has (λ n. PutsLeaves pieces s n leaves) → pieces ≡ first_chunks 4096 k all → length leaves ≡ k → length all ≡ 4096 * k → all ≡ bytes ++ zeros (4096 * k - length bytes) → Now has (λ n. PutsBytes bytes s n leaves)
put_bytes_now has s leaves pieces k bytes all puts cut count long is =
    let n = puts.stored in
    record {
      stored = n;
      held = puts.held;
      is = record {
        came = puts.is.came;
        long = all_from_map n.bytes (λ (c : List ℕ). length c ≡ 4096) leaves (subst (All (λ (c : List ℕ). length c ≡ 4096)) (sym (puts.is.bytes ∙ cut)) (long_chunks 4096 k all long));
        sums = puts.is.sums;
        spelling = flat_pieces n.bytes leaves 4096 k all long (puts.is.bytes ∙ cut) ∙ is ∙ ap (λ (m : ℕ). bytes ++ zeros (4096 * m - length bytes)) (sym count);
      };
    }

-- ---- changes

changes_last : (first : ℕ) (bs : List Bptr) (b : Bptr) → changes_from first (bs ++ b ∷ []) ≡ changes_from first bs ++ (first + length bs, At b) ∷ []
changes_last first [] b = ap (λ (k : ℕ). (k, At b) ∷ []) (omega arith)
changes_last first (x ∷ xs) b =
    ap (λ (cs : List (ℕ × Ptr)). (first, At x) ∷ cs) (changes_last (first + 1) xs b)
    ∙ ap (λ (k : ℕ). (first, At x) ∷ (changes_from (first + 1) xs ++ (k, At b) ∷ [])) (omega arith)

pub changes_more : (first i index : ℕ) (bs : List Bptr) (d : Bptr) (changes now : List (ℕ × Ptr)) → i < length bs → index ≡ first + i → changes ≡ changes_from first (take i bs) → now ≡ changes ++ (index, At (get_or bs i d)) ∷ [] → now ≡ changes_from first (take (i + 1) bs)
changes_more first i index bs d changes now lt index_is so_far now_is =
    let size : length (take i bs) ≡ i = length-take-le i bs (omega (arith, lt)) in
    now_is ∙ ap (λ (cs : List (ℕ × Ptr)). cs ++ (index, At (get_or bs i d)) ∷ []) so_far
    ∙ ap (λ (k : ℕ). changes_from first (take i bs) ++ (k, At (get_or bs i d)) ∷ []) (omega (arith, index_is, size))
    ∙ sym (changes_last first (take i bs) (get_or bs i d))
    ∙ ap (changes_from first) (sym (taken d bs i lt))

-- ---- the last leaf is as it must be

pub last_leaf : (s : Stored) (p : Ptr) (len : ℕ) (b : Bptr) (items bytes : List ℕ) → p ≡ At b → items ≡ s.bytes b → length items ≡ 4096 → sha256 items ≡ b.sum → bytes ≡ items → drop len bytes ≡ zeros (length (drop len bytes)) → IsLastLeaf s len p
last_leaf s p len b items bytes is items_are long sum same padded =
    let all : bytes ≡ s.bytes b = same ∙ items_are in
    let size : length (s.bytes b) ≡ 4096 = ap (λ (xs : List ℕ). length xs) (sym items_are) ∙ long in
    let rest : length (drop len bytes) ≡ 4096 - len = ap (λ (xs : List ℕ). length (drop len xs)) all ∙ omega (arith, length-drop len (s.bytes b), size) in
    subst (IsLastLeaf s len) (sym is) (
      sym sum ∙ ap (λ (xs : List ℕ). sha256 xs) items_are,
      size,
      sym (ap (drop len) all) ∙ padded ∙ ap zeros rest,
    )

pub last_hole : (s : Stored) (p : Ptr) (len : ℕ) → p ≡ Hole → len ≡ 0 → IsLastLeaf s len p
last_hole s p len is none = subst (IsLastLeaf s len) (sym is) none

pub not_at : (p : Ptr) → ((b : Bptr) → p ≡ At b → ⊥) → p ≡ Hole
not_at Hole none = refl
not_at (At b) none = absurd (none b refl)
