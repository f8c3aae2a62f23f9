-- What was read of a level, and whose errors are told.
use Rattle.std.proofs.Common.{◌≡◌, ◌+◌, ◌*◌, ◌-◌, ◌^◌, ◌<◌, ◌≤◌, inl, inr, ℕ, zero, suc, List, [], ◌∷◌, ◌++◌, length, map, get_or, take, replicate, Result, Err, refl, sym, ◌∙◌, ap, subst, arith, append-nil}
use Rattle.std.specs.Prelude.{All}
use Rattle.std.specs.List.{flat_map}
use Rattle.std.specs.Int.{div_ceil}
use Rattle.std.proofs.lemmas.Bool.{cases_lt}
use Rattle.std.proofs.lemmas.List.Sums.{sum_by-cons}
use Rattle.std.proofs.lemmas.List.Elements.{All-head, All-tail, All-cons, All-push}
use Rattle.std.proofs.lemmas.Grind.{flat_map-append}
use Rattle.std.proofs.Math.Nat.{pow-suc}
use Rattle.sha2.specs.Sha256.{sha256}
use Rattle.zr_base.specs.declared.space.Dva.{Dva}
use Rattle.zr_base.specs.Trees.{IsHeight}
use Rattle.zr_bptr.specs.declared.Bptr.{Bptr}
use Rattle.zr_bptr.specs.declared.Ptr.{Ptr}
use Rattle.zr_bptr.specs.declared.Ptr.TheVariants.{Hole, At}
use Rattle.zr_bptr.specs.declared.Tree.{Tree}
use Rattle.zr_bptr.specs.Spelling.{SpellsTreeBlock}
use Rattle.zr_store.specs.Store.{Stored}
use Rattle.zr_store.specs.declared.StoreErr.{StoreErr}
use Rattle.zr_store.specs.declared.StoreErr.TheVariants.{Malformed, Damaged, Unresolved}
use Rattle.zr_store.proofs.Causes.{again}
use Rattle.zr_tree.specs.Blocks.{FitsAt, pointers_in}
use Rattle.zr_tree.specs.Trees.{kids, slot, own, IsAmong, IsWhole, tree_blocks, HasDamagedBlock}
use Rattle.zr_tree.proofs.Spelled.{spelled}
use Rattle.zr_tree.proofs.Wholes.{Within, among_within}
use Rattle.zr_root.specs.Streams.{IsUnitAt, HasLeaves, HasSum}
use Rattle.zr_root.specs.Levels.{IsLevel, HavePointers, TellsOfForm, IsUnit, IsCut, ReadsPointers}
use Rattle.zr_root.proofs.Joining.{ceil_of}
use Rattle.zr_root.proofs.Puts.{taken}
use Rattle.zr_root.proofs.Shapes.{level_top, level_down, level_shaped, tops_within, ceil_up}

-- ---- whose errors they are

pub damaged_within : (s : Stored) (xs ys : List Bptr) (at : Dva) (expected found : List ℕ) → Within xs ys → HasDamagedBlock s xs at expected found → HasDamagedBlock s ys at expected found
damaged_within s xs ys at expected found within b = record { block = b.block; among = among_within b.block xs ys within b.among; address = b.address; checksum = b.checksum; found_is = b.found_is; differs = b.differs }

-- the error that a `?` hands on, told of more blocks
pub form_from : {T U : Type 0} (s : Stored) (xs ys : List Bptr) (Out Is : Bptr → Type 0) (r : Result U StoreErr) (e : StoreErr) → (y : StoreErr) × (r ≡ Err y) × (y ≡ e) → Within xs ys → ((b : Bptr) → Out b → Is b) → TellsOfForm {T = T} s xs Out (Err e) → TellsOfForm s ys Is r
form_from {T} {U} s xs ys Out Is r e given within weaker h = subst (λ (x : Result U StoreErr). TellsOfForm s ys Is x) (sym (given.1 ∙ ap (λ (y : StoreErr). Err y) given.2)) (record {
  malformed = λ at expected is.
      let b = h.malformed at expected (again e (Malformed at expected) is) in
      record { block = b.block; among = among_within b.block xs ys within b.among; address = b.address; checksum = b.checksum; sum = b.sum; outside = weaker b.block b.outside };
  damaged = λ at expected found is. damaged_within s xs ys at expected found within (h.damaged at expected found (again e (Damaged at expected found) is));
  resolved = λ at expected is stored. h.resolved at expected (again e (Unresolved at expected) is) (λ weight. let w = within weight in let l = stored weight in omega (arith, w, l));
})

-- an answer that a block is outside its form
pub form_bad : {U : Type 0} (s : Stored) (xs : List Bptr) (Is : Bptr → Type 0) (b : Bptr) → IsAmong b xs → HasSum s b → Is b → TellsOfForm {T = U} s xs Is (Err (Malformed b.at b.sum))
form_bad s xs Is b among sum outside = record {
  malformed = λ at expected is. record { block = b; among = among; address = cc; checksum = cc; sum = sum; outside = outside };
  damaged = λ at expected found is. absurd cc;
  resolved = λ at expected is. absurd cc;
}

-- ---- the pointers of a block

pub group_kids : (s : Stored) (below fill : ℕ) (b : Bptr) (items bytes : List ℕ) (ps : List Ptr) → bytes ≡ items → items ≡ s.bytes b → SpellsTreeBlock bytes below fill ps → ps ≡ kids s below b
group_kids s below fill b items bytes ps same is spells = sym (spelled bytes below fill ps spells) ∙ ap (λ (xs : List ℕ). pointers_in xs) (same ∙ is)

pub group_whole : (s : Stored) (below : ℕ) (b : Bptr) (items bytes : List ℕ) (ps : List Ptr) → b.level ≡ below + 1 → bytes ≡ items → items ≡ s.bytes b → sha256 items ≡ b.sum → SpellsTreeBlock bytes below b.fill ps → IsWhole s b
group_whole s below b items bytes ps level_is same is sum spells = record {
  checksum = sym sum ∙ ap (λ (xs : List ℕ). sha256 xs) is;
  block =
      let down : below ≡ b.level - 1 = omega (arith, level_is) in (
        ps,
        subst (λ (n : ℕ). SpellsTreeBlock (s.bytes b) n b.fill ps) down (subst (λ (xs : List ℕ). SpellsTreeBlock xs below b.fill ps) (same ∙ is) spells),
      );
}

pub groups_more : (s : Stored) (below i : ℕ) (tops : List Bptr) (d : Bptr) (all ps now : List Ptr) → i < length tops → now ≡ all ++ ps → ps ≡ kids s below (get_or tops i d) → IsWhole s (get_or tops i d) → ReadsPointers s below (take i tops) all → ReadsPointers s below (take (i + 1) tops) now
groups_more s below i tops d all ps now lt now_is kids_are whole so_far =
    subst (λ (bs : List Bptr). ReadsPointers s below bs now) (sym (taken d tops i lt)) (record {
      pointers_are =
          now_is ∙ ap (λ (qs : List Ptr). qs ++ ps) so_far.pointers_are ∙ ap (λ (qs : List Ptr). flat_map (kids s below) (take i tops) ++ qs) (kids_are ∙ sym (append-nil (kids s below (get_or tops i d))))
          ∙ sym (flat_map-append (kids s below) (take i tops) (get_or tops i d ∷ []));
      whole = All-push (IsWhole s) (take i tops) (get_or tops i d) so_far.whole whole;
    })

-- one block among those of a list
pub among_at : (bs : List Bptr) (i : ℕ) (d : Bptr) → i < length bs → IsAmong (get_or bs i d) bs
among_at [] i d lt weight = absurd (omega (arith, lt))
among_at (b ∷ bs) zero d lt weight = omega (arith, sum_by-cons weight b bs)
among_at (b ∷ bs) (suc i) d lt weight = let rest = among_at bs i d (omega (arith, lt)) weight in omega (arith, rest, sum_by-cons weight b bs)

pub one_within : (bs : List Bptr) (i : ℕ) (d : Bptr) → i < length bs → Within (get_or bs i d ∷ []) bs
one_within bs i d lt weight = let h = among_at bs i d lt weight in omega (arith, h, sum_by-cons weight (get_or bs i d) [])

-- ---- so many blocks, and then holes

cut_tail : (p : Ptr) (ps : List Ptr) (n : ℕ) → IsCut (suc n) (p ∷ ps) → IsCut n ps
cut_tail p ps n h = record { front = λ j lt. h.front (suc j) (omega (arith, lt)); rest = λ j le. h.rest (suc j) (omega (arith, le)) }

no_own : (ps : List Ptr) → ((j : ℕ) → slot ps j ≡ Hole) → flat_map own ps ≡ []
no_own [] h = refl
no_own (p ∷ ps) h = ap (λ (q : Ptr). own q ++ flat_map own ps) (h 0) ∙ no_own ps (λ j. h (suc j))

holes_only : (ps : List Ptr) → ((j : ℕ) → slot ps j ≡ Hole) → ps ≡ replicate (length ps) Hole
holes_only [] h = refl
holes_only (q ∷ qs) h = ap (λ (x : Ptr). x ∷ qs) (h 0) ∙ ap (λ (xs : List Ptr). Hole ∷ xs) (holes_only qs (λ j. h (suc j)))

pub cut_blocks : (below n : ℕ) (ps : List Ptr) → n ≤ length ps → All (FitsAt below) ps → IsCut n ps → (length (flat_map own ps) ≡ n) × All (IsUnitAt below) (flat_map own ps) × (ps ≡ map At (flat_map own ps) ++ replicate (length ps - n) Hole)
cut_blocks below zero ps le fit h =
    let none = no_own ps (λ j. h.rest j (omega arith)) in (
      ap (λ (bs : List Bptr). length bs) none,
      subst (All (IsUnitAt below)) (sym none) (λ i d lt. absurd (omega (arith, lt))),
      holes_only ps (λ j. h.rest j (omega arith)) ∙ ap (λ (bs : List Bptr). map At bs ++ replicate (length ps) Hole) (sym none) ∙ same_holes (map At (flat_map own ps)) (length ps) (length ps - 0) (omega arith),
    )
  where
    same_holes : (xs : List Ptr) (m k : ℕ) → m ≡ k → xs ++ replicate m Hole ≡ xs ++ replicate k Hole
    same_holes xs m k e = ap (λ (i : ℕ). xs ++ replicate i Hole) e
cut_blocks below (suc n) [] le fit h = absurd (omega (arith, le))
cut_blocks below (suc n) (Hole ∷ ps) le fit h = absurd (h.front 0 (omega arith))
cut_blocks below (suc n) (At b ∷ ps) le fit h =
    let rest = cut_blocks below n ps (omega (arith, le)) (All-tail (FitsAt below) (At b) ps fit) (cut_tail (At b) ps n h) in (
      ap suc rest.0,
      All-cons (IsUnitAt below) b (flat_map own ps) (All-head (FitsAt below) (At b) ps fit, h.front 0 (omega arith)) rest.1,
      ap (λ (xs : List Ptr). At b ∷ xs) (rest.2 ∙ same_holes (map At (flat_map own ps)) (length ps - n) (length (At b ∷ ps) - suc n) (omega arith)),
    )
  where
    same_holes : (xs : List Ptr) (m k : ℕ) → m ≡ k → xs ++ replicate m Hole ≡ xs ++ replicate k Hole
    same_holes xs m k e = ap (λ (i : ℕ). xs ++ replicate i Hole) e

cut_more : (below n : ℕ) (b : Bptr) (ps : List Ptr) → b.at.len ≡ 1 → IsCut n ps → IsCut (suc n) (At b ∷ ps)
cut_more below n b ps one h = record { front = λ j lt. front j lt; rest = λ j le. rest j le }
  where
    front : (j : ℕ) → j < suc n → IsUnit (slot (At b ∷ ps) j)
    front zero lt = one
    front (suc j) lt = h.front j (omega (arith, lt))

    rest : (j : ℕ) → suc n ≤ j → slot (At b ∷ ps) j ≡ Hole
    rest zero le = absurd (omega (arith, le))
    rest (suc j) le = h.rest j (omega (arith, le))

-- such pointers are cut there
pub cut_is : (below n : ℕ) (bs : List Bptr) → All (IsUnitAt below) bs → IsCut (length bs) (map At bs ++ replicate n Hole)
cut_is below n [] units = record { front = λ j lt. absurd (omega (arith, lt)); rest = λ j le. past n j }
  where
    past : (m j : ℕ) → slot (replicate m Hole) j ≡ Hole
    past zero j = refl
    past (suc m) zero = refl
    past (suc m) (suc j) = past m j
cut_is below n (b ∷ bs) units = cut_more below (length bs) b (map At bs ++ replicate n Hole) (All-head (IsUnitAt below) b bs units).1 (cut_is below n bs (All-tail (IsUnitAt below) b bs units))

-- ---- one level

-- the pointers that were read are those of the blocks
pub level_has : (s : Stored) (below n : ℕ) (tops bs : List Bptr) (ps qs : List Ptr) → qs ≡ ps → n ≤ 32 * length tops → length ps ≡ 32 * length tops → All (FitsAt below) ps → IsCut n qs → bs ≡ flat_map own qs → ReadsPointers s below tops ps → HavePointers s below tops bs
level_has s below n tops bs ps qs same most long fit h bs_are reads =
    let cut = cut_blocks below n ps (omega (arith, most, long)) fit (subst (IsCut n) same h) in
    let is : bs ≡ flat_map own ps = bs_are ∙ ap (flat_map own) same in
    subst (HavePointers s below tops) (sym is) (record {
      pointers = sym reads.pointers_are ∙ cut.2 ∙ holes_of (map At (flat_map own ps)) (length ps - n) (32 * length tops - length (flat_map own ps)) (let c = cut.0 in omega (arith, long, c));
      units = cut.1;
      whole = reads.whole;
    })
  where
    holes_of : (xs : List Ptr) (m k : ℕ) → m ≡ k → xs ++ replicate m Hole ≡ xs ++ replicate k Hole
    holes_of xs m k e = ap (λ (i : ℕ). xs ++ replicate i Hole) e

pub level_count : (below n : ℕ) (bs : List Bptr) (tops : ℕ) (ps qs : List Ptr) → qs ≡ ps → n ≤ 32 * tops → length ps ≡ 32 * tops → All (FitsAt below) ps → IsCut n qs → bs ≡ flat_map own qs → (length bs ≡ n) × All (IsUnitAt below) bs
level_count below n bs tops ps qs same most long fit h bs_are =
    let cut = cut_blocks below n ps (omega (arith, most, long)) fit (subst (IsCut n) same h) in
    let is : bs ≡ flat_map own ps = bs_are ∙ ap (flat_map own) same in
    (ap (λ (xs : List Bptr). length xs) is ∙ cut.0, subst (All (IsUnitAt below)) (sym is) cut.1)

-- pointers that are not cut there are not those of so many blocks
pub level_bad : (s : Stored) (below n : ℕ) (tops : List Bptr) (ps qs : List Ptr) → qs ≡ ps → ¬ IsCut n qs → ReadsPointers s below tops ps → (bs : List Bptr) → length bs ≡ n → ¬ HavePointers s below tops bs
level_bad s below n tops ps qs same bad reads bs count has =
    bad (subst (IsCut n) (sym (same ∙ reads.pointers_are ∙ has.pointers)) (subst (λ (m : ℕ). IsCut m (map At bs ++ replicate (32 * length tops - length bs) Hole)) count (cut_is below (32 * length tops - length bs) bs has.units)))

-- ---- the level below

pub height_down : (n m h : ℕ) → 1 < n → n ≤ m * 32 → m * 32 < n + 32 → IsHeight n (suc h) → IsHeight m h
height_down n m h some up low is = record {
  reaches = let r = is.reaches in omega (arith, r, low, pow-suc 32 h);
  least = λ k enough. let l = is.least (suc k) (omega (arith, up, enough, pow-suc 32 k)) in omega (arith, l);
}

down_one : (height level : ℕ) → level ≤ height → IsHeight 1 (height - level) → height ≡ level
down_one height level le is = let l = is.least 0 (omega arith) in omega (arith, l, le)

-- the root is the only block of its level
pub level_one : (s : Stored) (b : Bptr) (height level n : ℕ) (bs : List Bptr) → n ≡ 1 → level ≤ height → IsHeight n (height - level) → IsUnitAt height b → bs ≡ b ∷ [] → IsLevel s (record { root = At b; height = height }) level bs
level_one s b height level n bs one le is unit bs_are =
    let same = down_one height level le (subst (λ (k : ℕ). IsHeight k (height - level)) one is) in
    subst (IsLevel s (record { root = At b; height = height }) level) (sym bs_are) (subst (λ (l : ℕ). IsLevel s (record { root = At b; height = height }) l (b ∷ [])) same (level_top s b height unit))

pub next_height : (n m height level : ℕ) → 1 < n → m ≡ div_ceil n 32 → level ≤ height → IsHeight n (height - level) → (0 < m) × (m < n) × (level + 1 ≤ height) × IsHeight m (height - (level + 1))
next_height n m height level some m_is le is =
    let ceil = ceil_of n 32 (omega arith) in
    let above : level < height = elim (cases_lt level height) [ inl lt ↦ lt | inr ge ↦ absurd (not_one (height - level) (omega (arith, ge)) is) ] in
    let up : suc (height - (level + 1)) ≡ height - level = omega (arith, above) in
    let down = height_down n (div_ceil n 32) (height - (level + 1)) some ceil.0 ceil.1 (subst (IsHeight n) (sym up) is) in
    (omega (arith, ceil.0, m_is, some), omega (arith, ceil.1, m_is, some), omega (arith, above), subst (λ (k : ℕ). IsHeight k (height - (level + 1))) (sym m_is) down)
  where
    not_one : (k : ℕ) → k ≡ 0 → IsHeight n k → ⊥
    not_one k none h = let r = subst (λ (j : ℕ). n ≤ 32 ^ j) none h.reaches in omega (arith, r, some)

-- what is no level of the blocks above is none of the tree's leaves
pub level_outside : (s : Stored) (t : Tree) (above level n : ℕ) (tops xs : List Bptr) → above ≡ suc level → xs ≡ tops → IsLevel s t above tops → ((bs : List Bptr) → length bs ≡ n → ¬ HavePointers s level xs bs) → (leaves : List Bptr) → n ≡ div_ceil (length leaves) (32 ^ level) → ¬ HasLeaves s t leaves
level_outside s t above level n tops xs above_is same up none leaves n_is has =
    let (bs, long, is) = level_shaped s t level tops leaves (subst (λ (l : ℕ). IsLevel s t l tops) above_is up) has in
    none bs (long ∙ sym n_is) (subst (λ (ys : List Bptr). HavePointers s level ys bs) (sym same) is)

pub above_within : (s : Stored) (t : Tree) (above level : ℕ) (tops xs : List Bptr) → above ≡ suc level → xs ≡ tops → IsLevel s t above tops → Within xs (tree_blocks s t)
above_within s t above level tops xs above_is same up = subst (λ (ys : List Bptr). Within ys (tree_blocks s t)) (sym same) (tops_within s t level tops (subst (λ (l : ℕ). IsLevel s t l tops) above_is up))

pub outside_above : (s : Stored) (t : Tree) (level n m above : ℕ) → above ≡ suc level → m ≡ div_ceil n 32 → ((leaves : List Bptr) → m ≡ div_ceil (length leaves) (32 ^ above) → ¬ HasLeaves s t leaves) → (leaves : List Bptr) → n ≡ div_ceil (length leaves) (32 ^ level) → ¬ HasLeaves s t leaves
outside_above s t level n m above above_is m_is none leaves n_is =
    none leaves (m_is ∙ ap (λ (k : ℕ). div_ceil k 32) n_is ∙ ceil_up (length leaves) level ∙ ap (λ (l : ℕ). div_ceil (length leaves) (32 ^ l)) (sym above_is))

pub down : (s : Stored) (t : Tree) (above level : ℕ) (tops xs bs : List Bptr) → above ≡ suc level → xs ≡ tops → IsLevel s t above tops → HavePointers s level xs bs → length xs ≡ div_ceil (length bs) 32 → 1 < length bs → IsLevel s t level bs
down s t above level tops xs bs above_is same up is count more =
    level_down s t level xs bs (subst (λ (l : ℕ). IsLevel s t l xs) above_is (subst (IsLevel s t above) (sym same) up)) is count more

pub within_same : (xs : List Bptr) → Within xs xs
within_same xs weight = omega arith
