-- Blocks that are among others, and the errors that tell of them.
use Rattle.std.proofs.Common.{◌≡◌, ◌≢◌, ◌+◌, ◌-◌, ◌<◌, ◌≤◌, ◌⊎◌, inl, inr, ℕ, suc, List, [], ◌∷◌, ◌++◌, length, get_or, Result, Err, refl, sym, ◌∙◌, ap, subst, arith}
use Rattle.std.specs.List.{sum_by, flat_map}
use Rattle.std.proofs.lemmas.Bool.{cases_eq}
use Rattle.std.proofs.lemmas.List.{get_or_default}
use Rattle.std.proofs.lemmas.List.Sums.{sum_by-append, sum_by-cons}
use Rattle.sha2.specs.Sha256.{sha256}
use Rattle.zr_bptr.specs.declared.Bptr.{Bptr}
use Rattle.zr_bptr.specs.declared.Ptr.{Ptr}
use Rattle.zr_bptr.specs.declared.Ptr.TheVariants.{Hole, At}
use Rattle.zr_bptr.specs.Spelling.{SpellsTreeBlock}
use Rattle.zr_store.specs.Store.{Stored, AreStored, IsBlockOf, IsPointerTo, hits, one_at}
use Rattle.zr_store.specs.declared.StoreErr.{StoreErr}
use Rattle.zr_store.specs.declared.StoreErr.TheVariants.{Malformed, Damaged, Unresolved}
use Rattle.zr_store.proofs.Causes.{again}
use Rattle.zr_tree.specs.Blocks.{IsNoBlock}
use Rattle.zr_tree.specs.Trees.{IsAmong, IsWhole, IsWholeAt, Brings, TellsOf, own, blocks, kids, slot}
pub use Rattle.zr_tree.proofs.Frames.{whole_again}
use Rattle.zr_tree.proofs.Frames.{one_itself}
use Rattle.zr_tree.proofs.Sums.{sum_flat, one_of}

-- ---- the same block

either : {P Q : Type 0} → P ⊎ ¬ P → Q ⊎ ¬ Q → (P × Q) ⊎ ¬ (P × Q)
either (inl p) (inl q) = inl (p, q)
either (inl p) (inr n) = inr (λ b. n b.1)
either (inr n) d = inr (λ b. n b.0)

same_bytes : (xs ys : List ℕ) → (xs ≡ ys) ⊎ (xs ≢ ys)
same_bytes [] [] = inl refl
same_bytes [] (y ∷ ys) = inr (λ e. cc)
same_bytes (x ∷ xs) [] = inr (λ e. cc)
same_bytes (x ∷ xs) (y ∷ ys) = elim (cases_eq x y) [
  | inr ne ↦ inr (λ e. ne (let h : x ≡ y = cc in h))
  | inl e ↦ elim (same_bytes xs ys) [
    | inl es ↦ inl (let h : x ∷ xs ≡ y ∷ ys = cc in h)
    | inr nes ↦ inr (λ f. nes (let h : xs ≡ ys = cc in h))
  ]
]

abbrev bptr : ℕ → ℕ → ℕ → ℕ → ℕ → ℕ → List ℕ → Bptr
bptr dev start len level birth fill sum = record { at = record { dev = dev; start = start; len = len }; level = level; birth = birth; fill = fill; sum = sum }

abbrev AllSame : Bptr → Bptr → Type 0
AllSame b x = (b.at.dev ≡ x.at.dev) × ((b.at.start ≡ x.at.start) × ((b.at.len ≡ x.at.len) × ((b.level ≡ x.level) × ((b.birth ≡ x.birth) × ((b.fill ≡ x.fill) × (b.sum ≡ x.sum))))))

all_same : (b x : Bptr) → AllSame b x → b ≡ x
all_same b x h =
    ap (λ (n : ℕ). bptr n b.at.start b.at.len b.level b.birth b.fill b.sum) h.0
    ∙ ap (λ (n : ℕ). bptr x.at.dev n b.at.len b.level b.birth b.fill b.sum) h.1.0
    ∙ ap (λ (n : ℕ). bptr x.at.dev x.at.start n b.level b.birth b.fill b.sum) h.1.1.0
    ∙ ap (λ (n : ℕ). bptr x.at.dev x.at.start x.at.len n b.birth b.fill b.sum) h.1.1.1.0
    ∙ ap (λ (n : ℕ). bptr x.at.dev x.at.start x.at.len x.level n b.fill b.sum) h.1.1.1.1.0
    ∙ ap (λ (n : ℕ). bptr x.at.dev x.at.start x.at.len x.level x.birth n b.sum) h.1.1.1.1.1.0
    ∙ ap (λ (l : List ℕ). bptr x.at.dev x.at.start x.at.len x.level x.birth x.fill l) h.1.1.1.1.1.1

same_parts : (b x : Bptr) → b ≡ x → AllSame b x
same_parts b x e = (ap (λ (y : Bptr). y.at.dev) e, (ap (λ (y : Bptr). y.at.start) e, (ap (λ (y : Bptr). y.at.len) e, (ap (λ (y : Bptr). y.level) e, (ap (λ (y : Bptr). y.birth) e, (ap (λ (y : Bptr). y.fill) e, ap (λ (y : Bptr). y.sum) e))))))

are_same : (b x : Bptr) → AllSame b x ⊎ ¬ AllSame b x
are_same b x = either (cases_eq b.at.dev x.at.dev) (either (cases_eq b.at.start x.at.start) (either (cases_eq b.at.len x.at.len) (either (cases_eq b.level x.level) (either (cases_eq b.birth x.birth) (either (cases_eq b.fill x.fill) (same_bytes b.sum x.sum))))))

abbrev one_if : {P : Type 0} → P ⊎ ¬ P → ℕ
one_if (inl p) = 1
one_if (inr n) = 0

one_yes : {P : Type 0} (d : P ⊎ ¬ P) → P → one_if d ≡ 1
one_yes (inl p) q = refl
one_yes (inr n) q = absurd (n q)

one_cases : {P : Type 0} (d : P ⊎ ¬ P) → P ⊎ (one_if d ≡ 0)
one_cases (inl p) = inl p
one_cases (inr n) = inr refl

-- 1 for the same pointer
pub like : Bptr → Bptr → ℕ
like b x = one_if (are_same b x)

like_itself : (b : Bptr) → like b b ≡ 1
unfolding like
like_itself b = one_yes (are_same b b) (same_parts b b refl)

like_cases : (b x : Bptr) → (b ≡ x) ⊎ (like b x ≡ 0)
unfolding like
like_cases b x = elim (one_cases (are_same b x)) [ inl h ↦ inl (all_same b x h) | inr z ↦ inr z ]

pub like_less : (b x : Bptr) → like b x ≤ one_at b.at x
like_less b x = elim (like_cases b x) [
  | inl e ↦
      let l : like b x ≡ 1 = subst (λ (y : Bptr). like b y ≡ 1) e (like_itself b) in
      let o : one_at b.at x ≡ 1 = subst (λ (y : Bptr). one_at b.at y ≡ 1) e (one_itself b) in
      omega (arith, l, o)
  | inr z ↦ omega (arith, z)
]

-- a sum of what is less, and of the rest
pub sum_less : (f g : Bptr → ℕ) (bs : List Bptr) → ((x : Bptr) → f x ≤ g x) → sum_by g bs ≡ sum_by f bs + sum_by (λ x. g x - f x) bs
sum_less f g [] le = refl
sum_less f g (x ∷ xs) le =
    let rest = sum_less f g xs le in
    let here = le x in
    omega (arith, rest, here, sum_by-cons f x xs, sum_by-cons g x xs, sum_by-cons (λ (y : Bptr). g y - f y) x xs)

-- ---- among others

pub among_count : (b : Bptr) (bs : List Bptr) → IsAmong b bs → 0 < sum_by (like b) bs
among_count b bs h = let l = h (like b) in omega (arith, l, like_itself b)

pub count_among : (b : Bptr) (bs : List Bptr) → 0 < sum_by (like b) bs → IsAmong b bs
count_among b [] h weight = absurd (omega (arith, h))
count_among b (x ∷ xs) h weight = elim (like_cases b x) [
  | inl e ↦ let w : weight b ≡ weight x = ap weight e in omega (arith, w, sum_by-cons weight x xs)
  | inr z ↦ let rest = count_among b xs (omega (arith, z, h, sum_by-cons (like b) x xs)) weight in omega (arith, rest, sum_by-cons weight x xs)
]

pub among_hits : (b : Bptr) (bs : List Bptr) → IsAmong b bs → 0 < hits bs b.at
among_hits b bs h = let l = h (one_at b.at) in omega (arith, l, one_itself b)

-- each of these is among those
abbrev pub Within : List Bptr → List Bptr → Type 0
Within xs ys = (weight : Bptr → ℕ) → sum_by weight xs ≤ sum_by weight ys

pub among_within : (b : Bptr) (xs ys : List Bptr) → Within xs ys → IsAmong b xs → IsAmong b ys
among_within b xs ys within h weight = let w = within weight in let l = h weight in omega (arith, w, l)

pub within_first : (b : Bptr) (bs : List Bptr) → Within (b ∷ []) (b ∷ bs)
within_first b bs weight = omega (arith, sum_by-cons weight b [], sum_by-cons weight b bs)

pub within_rest : (b : Bptr) (bs : List Bptr) → Within bs (b ∷ bs)
within_rest b bs weight = omega (arith, sum_by-cons weight b bs)

pub within_front : (xs ys : List Bptr) → Within xs (xs ++ ys)
within_front xs ys weight = omega (arith, sum_by-append weight xs ys)

pub within_back : (xs ys : List Bptr) → Within ys (xs ++ ys)
within_back xs ys weight = omega (arith, sum_by-append weight xs ys)

pub within_flat : (f : Ptr → List Bptr) (ps : List Ptr) (k : ℕ) → k < length ps → Within (f (slot ps k)) (flat_map f ps)
within_flat f ps k lt weight =
    let o = one_of (λ (p : Ptr). sum_by weight (f p)) ps k lt in
    let e = sum_flat weight f ps in
    omega (arith, o, e)

blocks_of : (s : Stored) (level below : ℕ) (p : Ptr) (b : Bptr) → level ≡ suc below → p ≡ At b → blocks s level p ≡ b ∷ flat_map (blocks s below) (kids s below b)
blocks_of s level below p b level_is is = ap (λ (l : ℕ). blocks s l p) level_is ∙ ap (λ (q : Ptr). blocks s (suc below) q) is

-- the block itself
pub top_within : (s : Stored) (level below : ℕ) (p : Ptr) (b : Bptr) → level ≡ suc below → p ≡ At b → Within (b ∷ []) (blocks s level p)
top_within s level below p b level_is is =
    subst (λ (bs : List Bptr). Within (b ∷ []) bs) (sym (blocks_of s level below p b level_is is)) (within_first b (flat_map (blocks s below) (kids s below b)))

-- the blocks below one of its pointers
pub kid_within : (s : Stored) (level below k : ℕ) (p : Ptr) (b : Bptr) (ps : List Ptr) (next : Ptr) → level ≡ suc below → p ≡ At b → ps ≡ kids s below b → k < length ps → next ≡ get_or ps k next → Within (blocks s below next) (blocks s level p)
kid_within s level below k p b ps next level_is is kids_are lt next_is weight =
    let all = ap (sum_by weight) (blocks_of s level below p b level_is is) in
    let one = within_flat (blocks s below) ps k lt weight in
    let this = ap (λ (q : Ptr). sum_by weight (blocks s below q)) (get_or_default ps k Hole next lt ∙ sym next_is) in
    let same = ap (λ (qs : List Ptr). sum_by weight (flat_map (blocks s below) qs)) kids_are in
    omega (arith, all, one, this, same, sum_by-cons weight b (flat_map (blocks s below) (kids s below b)))

-- ---- errors

-- an error that tells of no block at all
pub tells_empty : {T : Type 0} (s t : Stored) (xs : List Bptr) (r : Result T StoreErr) → TellsOf s [] r → TellsOf t xs r
tells_empty s t xs r h = record {
  malformed = λ at expected is. absurd (let b = h.malformed at expected is in let n = among_hits b.block [] b.among in omega (arith, n));
  damaged = λ at expected found is. absurd (let b = h.damaged at expected found is in let n = among_hits b.block [] b.among in omega (arith, n));
  resolved = λ at expected is stored. h.resolved at expected is (λ weight. omega arith);
}

pub tells_within : {T : Type 0} (s : Stored) (xs ys : List Bptr) (r : Result T StoreErr) → Within xs ys → TellsOf s xs r → TellsOf s ys r
tells_within s xs ys r within h = record {
  malformed = λ at expected is. let b = h.malformed at expected is in record { block = b.block; among = among_within b.block xs ys within b.among; address = b.address; checksum = b.checksum; tall = b.tall; right = b.right; bad = b.bad };
  damaged = λ at expected found is.
      let b = h.damaged at expected found is in
      record { block = b.block; among = among_within b.block xs ys within b.among; address = b.address; checksum = b.checksum; found_is = b.found_is; differs = b.differs };
  resolved = λ at expected is stored. h.resolved at expected is (λ weight. let w = within weight in let l = stored weight in omega (arith, w, l));
}

pub tells_again : {T U : Type 0} (s : Stored) (xs : List Bptr) (e : StoreErr) → TellsOf {T = T} s xs (Err e) → TellsOf {T = U} s xs (Err e)
tells_again s xs e h = record {
  malformed = λ at expected is. h.malformed at expected (again e (Malformed at expected) is);
  damaged = λ at expected found is. h.damaged at expected found (again e (Damaged at expected found) is);
  resolved = λ at expected is. h.resolved at expected (again e (Unresolved at expected) is);
}

-- the error that a `?` hands on
pub tells_from : {T U : Type 0} (s : Stored) (xs : List Bptr) (r : Result U StoreErr) (e : StoreErr) → (y : StoreErr) × (r ≡ Err y) × (y ≡ e) → TellsOf {T = T} s xs (Err e) → TellsOf s xs r
tells_from {T} {U} s xs r e given h = subst (λ (x : Result U StoreErr). TellsOf s xs x) (sym (given.1 ∙ ap (λ (y : StoreErr). Err y) given.2)) (tells_again {T = T} {U = U} s xs e h)

-- what a later store tells of a block is told of one of the blocks before
pub tells_before : {T : Type 0} (s t : Stored) (out into : List Bptr) (r : Result T StoreErr) → Brings s t out into → AreStored into t → TellsOf t into r → TellsOf s out r
tells_before s t out into r brings stored h = record {
  malformed = λ at expected is.
      let b = h.malformed at expected is in
      elim (brings.each b.block b.among) [
        | inl old ↦ record { block = b.block; among = old.0; address = b.address; checksum = b.checksum; tall = b.tall; right = b.right ∙ ap (λ (bytes : List ℕ). sha256 bytes) old.1; bad = subst (λ (bytes : List ℕ). IsNoBlock (b.block.level - 1) b.block.fill bytes) old.1 b.bad }
        | inr whole ↦ absurd (b.bad whole.block.0 whole.block.1)
      ];
  damaged = λ at expected found is.
      let b = h.damaged at expected found is in
      elim (brings.each b.block b.among) [
        | inl old ↦ record { block = b.block; among = old.0; address = b.address; checksum = b.checksum; found_is = b.found_is ∙ ap (λ (bytes : List ℕ). sha256 bytes) old.1; differs = b.differs }
        | inr whole ↦ absurd (b.differs (sym b.checksum ∙ whole.checksum ∙ sym b.found_is))
      ];
  resolved = λ at expected is held. h.resolved at expected is stored;
}

-- ---- what came

pub brings_none : (s : Stored) (xs : List Bptr) → Brings s s xs xs
brings_none s xs = record { each = λ b h. inl (h, refl) }

-- of two parts one has it
pub among_parts : (b : Bptr) (xs ys : List Bptr) → IsAmong b (xs ++ ys) → IsAmong b xs ⊎ IsAmong b ys
among_parts b xs ys h = elim (cases_eq (sum_by (like b) xs) 0) [
  | inl z ↦ let n = among_count b (xs ++ ys) h in inr (count_among b ys (omega (arith, z, n, sum_by-append (like b) xs ys)))
  | inr some ↦ inl (count_among b xs (omega (arith, some)))
]

-- a block that is among the new pointer's own is whole
pub among_own : (s : Stored) (p : Ptr) (b : Bptr) → IsWholeAt s p → IsAmong b (own p) → IsWhole s b
among_own s Hole b whole h = absurd (let n = among_hits b [] h in omega (arith, n))
among_own s (At x) b whole h = elim (like_cases b x) [
  | inl e ↦ subst (IsWhole s) (sym e) whole
  | inr z ↦ absurd (let n = among_count b (x ∷ []) h in omega (arith, n, z, sum_by-cons (like b) x []))
]

-- the blocks stay, and their bytes too
pub brings_same : (s t u : Stored) (out into : List Bptr) → Brings s t out into → ((x : Bptr) → IsAmong x into → u.bytes x ≡ t.bytes x) → Brings s u out into
brings_same s t u out into h same = record {
  each = λ x k. elim (h.each x k) [
    | inl old ↦ inl (old.0, same x k ∙ old.1)
    | inr whole ↦ inr (whole_again t u x (same x k) whole)
  ];
}

-- a block that was put is whole
pub put_whole : (s : Stored) (below : ℕ) (items bytes : List ℕ) (b : Bptr) → bytes ≡ items → IsBlockOf below items → IsPointerTo (below + 1) bytes b → s.bytes b ≡ bytes → IsWhole s b
put_whole s below items bytes b same (fill, pointers, spells) pointer given = record {
  checksum = pointer.checksum ∙ sym (ap (λ (xs : List ℕ). sha256 xs) given);
  block =
      let level_is : below + 1 - 1 ≡ below = omega arith in
      let is = pointer.level_is in
      let down : b.level - 1 ≡ below = omega (arith, is) in
      let here = subst (λ (xs : List ℕ). SpellsTreeBlock xs below fill pointers) (sym same) spells in
      let fill_is : b.fill ≡ fill = pointer.leaves fill pointers (omega arith) (subst (λ (n : ℕ). SpellsTreeBlock bytes n fill pointers) (sym level_is) here) in (
        pointers,
        subst (λ (xs : List ℕ). SpellsTreeBlock xs (b.level - 1) b.fill pointers) (sym given)
            (subst (λ (n : ℕ). SpellsTreeBlock bytes n b.fill pointers) (sym down) (subst (λ (n : ℕ). SpellsTreeBlock bytes below n pointers) (sym fill_is) here)),
      );
}
