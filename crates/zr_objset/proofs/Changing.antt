-- Records that change, leaf by leaf.
use Rattle.std.proofs.Common.{◌≡◌, ◌≢◌, ◌∙◌, ◌+◌, ◌/◌, ◌%◌, ◌<◌, ◌≤◌, inl, inr, ℕ, List, [], ◌∷◌, ◌++◌, length, set, get_or, get_or-set_same, get_or-set_other, Bool, nat_eq, Option, None, refl, sym, ap, subst, arith, eq-eqb}
use Rattle.std.specs.Prelude.{if◌then◌else◌, All}
use Rattle.std.specs.List.{sum_by, flat_map, AllByRecursion}
use Rattle.std.proofs.lemmas.Bool.{cases_eq, ne_eqb}
use Rattle.std.proofs.lemmas.List.Sums.{sum_by-append}
use Rattle.std.proofs.lemmas.List.Elements.{All-head, All-tail, All-append}
use Rattle.zr_bptr.specs.declared.Bptr.{Bptr}
use Rattle.zr_bptr.specs.declared.Ptr.{Ptr}
use Rattle.zr_bptr.specs.declared.Ptr.TheVariants.{Hole, At}
use Rattle.zr_bptr.specs.declared.Tree.{Tree}
use Rattle.zr_bptr.specs.declared.ObjRec.{ObjRec}
use Rattle.zr_store.specs.Store.{Stored, AreStored, hits, one_at}
use Rattle.zr_bptr.specs.Spelling.{SpellsRecords}
use Rattle.zr_tree.specs.Trees.{own, tree_at, tree_reach, updated, Rises, IsTreeWay}
use Rattle.zr_tree.proofs.Frames.{first_of}
use Rattle.zr_tree.proofs.Each.{updated_append}
use Rattle.zr_objset.specs.Records.{records_in, record_in, record_of}
use Rattle.zr_objset.specs.Errors.{IsRecordLeaf}
use Rattle.zr_objset.specs.Changes.{changed, AllIn, IsNeeded, ChangesLeaf, PutsLeaves}
use Rattle.zr_objset.proofs.Within.{leaf_within}

pub changed_append : (xs ys : List (ℕ × Option ObjRec)) (id : ℕ) (r : Option ObjRec) → changed (xs ++ ys) id r ≡ changed ys id (changed xs id r)
changed_append [] ys id r = refl
changed_append (x ∷ xs) ys id r = changed_append xs ys id (if nat_eq x.0 id then x.1 else r)

-- objects of another leaf
pub changed_other : (place : ℕ) (xs : List (ℕ × Option ObjRec)) (id : ℕ) (r : Option ObjRec) → AllIn place xs → id / 16 ≢ place → changed xs id r ≡ r
changed_other place [] id r at ne = refl
changed_other place (x ∷ xs) id r at ne =
    let here = All-head (λ (c : ℕ × Option ObjRec). c.0 / 16 ≡ place) x xs at in
    ap (λ (b : Bool). changed xs id (if b then x.1 else r)) (ne_eqb x.0 id (λ e. ne (ap (λ (n : ℕ). n / 16) (sym e) ∙ here)))
    ∙ changed_other place xs id r (All-tail (λ (c : ℕ × Option ObjRec). c.0 / 16 ≡ place) x xs at) ne

-- one record of a leaf is changed
pub record_set : (place id k : ℕ) (records : List (Option ObjRec)) (r : Option ObjRec) → length records ≡ 16 → k / 16 ≡ place → id / 16 ≡ place → get_or (set records (k % 16) r) (id % 16) None ≡ changed ((k, r) ∷ []) id (get_or records (id % 16) None)
record_set place id k records r count k_is id_is = elim (cases_eq k id) [
  | inl e ↦
      ap (λ (n : ℕ). get_or (set records (k % 16) r) (n % 16) None) (sym e) ∙ get_or-set_same records (k % 16) r None (omega arith)
      ∙ ap (λ (b : Bool). if b then r else get_or records (id % 16) None) (sym (eq-eqb k id e))
  | inr ne ↦
      get_or-set_other records (k % 16) (id % 16) r None (λ same. ne (omega (arith, same, k_is, id_is)))
      ∙ ap (λ (b : Bool). if b then r else get_or records (id % 16) None) (sym (ne_eqb k id ne))
]

-- a lookup past all of these
pub updated_none : (xs : List (ℕ × Ptr)) (index : ℕ) (p : Ptr) → All (λ x. x.0 < index) xs → updated xs index p ≡ p
updated_none [] index p below = refl
updated_none (x ∷ xs) index p below =
    let lt = All-head (λ (y : ℕ × Ptr). y.0 < index) x xs below in
    ap (λ (b : Bool). updated xs index (if b then x.1 else p)) (ne_eqb x.0 index (λ e. omega (arith, lt, e)))
    ∙ updated_none xs index p (All-tail (λ (y : ℕ × Ptr). y.0 < index) x xs below)

abbrev pub news_of : List (ℕ × Ptr) → List Bptr
news_of news = flat_map (λ (leaf : ℕ × Ptr). own leaf.1) news

-- what is looked up is one of these or what was there
pub updated_weighs : (weight : Bptr → ℕ) (xs : List (ℕ × Ptr)) (index : ℕ) (p : Ptr) → sum_by weight (own (updated xs index p)) ≤ sum_by weight (news_of xs) + sum_by weight (own p)
updated_weighs weight [] index p = omega arith
updated_weighs weight (x ∷ xs) index p =
    let a = sum_by-append weight (own x.1) (news_of xs) in
    elim (cases_eq x.0 index) [
      | inl e ↦
          let rest = updated_weighs weight xs index x.1 in
          let same = ap (λ (b : Bool). sum_by weight (own (updated xs index (if b then x.1 else p)))) (eq-eqb x.0 index e) in
          omega (arith, rest, same, a)
      | inr ne ↦
          let rest = updated_weighs weight xs index p in
          let same = ap (λ (b : Bool). sum_by weight (own (updated xs index (if b then x.1 else p)))) (ne_eqb x.0 index ne) in
          omega (arith, rest, same, a)
    ]

pub news_append : (weight : Bptr → ℕ) (xs : List (ℕ × Ptr)) (place : ℕ) (q : Ptr) → sum_by weight (news_of (xs ++ (place, q) ∷ [])) ≡ sum_by weight (news_of xs) + sum_by weight (own q)
news_append weight [] place q = omega (arith, sum_by-append weight (own q) [])
news_append weight (x ∷ xs) place q =
    let rest = news_append weight xs place q in
    omega (arith, rest, sum_by-append weight (own x.1) (news_of xs), sum_by-append weight (own x.1) (news_of (xs ++ (place, q) ∷ [])))

pub record_kept : (s t : Stored) (p : Ptr) (k : ℕ) → ((b : Bptr) → p ≡ At b → t.bytes b ≡ s.bytes b) → record_in t p k ≡ record_in s p k
record_kept s t Hole k same = refl
record_kept s t (At b) k same = ap (λ (bytes : List ℕ). get_or (records_in bytes) k None) (same b refl)

pub needed_kept : (s t : Stored) (p : Ptr) → ((b : Bptr) → p ≡ At b → t.bytes b ≡ s.bytes b) → IsNeeded s p → IsNeeded t p
needed_kept s t Hole same h = tt
needed_kept s t (At b) same h = subst (λ (bytes : List ℕ). ¬ All (λ (r : Option ObjRec). r ≡ None) (records_in bytes)) (sym (same b refl)) h

formed_before : (s t : Stored) (p : Ptr) → ((b : Bptr) → p ≡ At b → t.bytes b ≡ s.bytes b) → IsRecordLeaf t p → IsRecordLeaf s p
formed_before s t Hole same h = tt
formed_before s t (At b) same h = (h.0, subst (λ (bytes : List ℕ). SpellsRecords bytes h.0) (same b refl) h.1)

pub own_at : (b : Bptr) (p : Ptr) → p ≡ At b → 0 < hits (own p) b.at
own_at b p is = let e = ap (λ (q : Ptr). hits (own q) b.at) is in omega (arith, e, first_of b [])

module _ (dir : Tree) (place : ℕ) (done here : List (ℕ × Option ObjRec)) (s0 s1 s2 : Stored) (news : List (ℕ × Ptr)) (q : Ptr) (so_far : PutsLeaves dir done s0 s1 news) (one : ChangesLeaf place here s1 s2 (tree_at s0 dir place) q)
    (at : AllIn place here) (before : All (λ leaf. leaf.0 < place) news) (held : AreStored (tree_reach s0 dir) s0) (way : IsTreeWay s0 dir place) where
  found : ℕ → Ptr
  found index = updated news index (tree_at s0 dir index)

  -- what a lookup finds is stored
  kept : (index : ℕ) (b : Bptr) → updated news index (tree_at s0 dir index) ≡ At b → s2.bytes b ≡ s1.bytes b
  kept index b is =
      let h = own_at b (updated news index (tree_at s0 dir index)) is in
      let w = updated_weighs (one_at b.at) news index (tree_at s0 dir index) in
      let l = leaf_within s0 dir index (one_at b.at) in
      let d = held (one_at b.at) in
      let e = so_far.swaps.stored (one_at b.at) in
      one.swaps.kept b refl (omega (arith, h, w, l, d, e))

  here_found : (index : ℕ) → index ≡ place → updated (news ++ (place, q) ∷ []) index (tree_at s0 dir index) ≡ q
  here_found index e = updated_append news ((place, q) ∷ []) index (tree_at s0 dir index) ∙ ap (λ (b : Bool). if b then q else updated news index (tree_at s0 dir index)) (eq-eqb place index (sym e))

  other_found : (index : ℕ) → index ≢ place → updated (news ++ (place, q) ∷ []) index (tree_at s0 dir index) ≡ updated news index (tree_at s0 dir index)
  other_found index ne = updated_append news ((place, q) ∷ []) index (tree_at s0 dir index) ∙ ap (λ (b : Bool). if b then q else updated news index (tree_at s0 dir index)) (ne_eqb place index (λ e. ne (sym e)))

  new_record : (id : ℕ) → record_in s2 (updated (news ++ (place, q) ∷ []) (id / 16) (tree_at s0 dir (id / 16))) (id % 16) ≡ changed (done ++ here) id (record_of s0 dir id)
  new_record id = elim (cases_eq (id / 16) place) [
    | inl e ↦
        let old : record_in s1 (tree_at s0 dir place) (id % 16) ≡ changed done id (record_of s0 dir id) =
        ap (λ (p : Ptr). record_in s1 p (id % 16)) (sym (updated_none news place (tree_at s0 dir place) before) ∙ ap (λ (n : ℕ). updated news n (tree_at s0 dir n)) (sym e)) ∙ so_far.records id in
        ap (λ (p : Ptr). record_in s2 p (id % 16)) (here_found (id / 16) e) ∙ one.records id e ∙ ap (changed here id) old ∙ sym (changed_append done here id (record_of s0 dir id))
    | inr ne ↦
        ap (λ (p : Ptr). record_in s2 p (id % 16)) (other_found (id / 16) ne) ∙ record_kept s1 s2 (updated news (id / 16) (tree_at s0 dir (id / 16))) (id % 16) (kept (id / 16)) ∙ so_far.records id
        ∙ sym (changed_other place here id (changed done id (record_of s0 dir id)) at ne) ∙ sym (changed_append done here id (record_of s0 dir id))
  ]

  new_needed : (index : ℕ) → (index ≢ place → IsNeeded s1 (updated news index (tree_at s0 dir index))) → IsNeeded s2 (updated (news ++ (place, q) ∷ []) index (tree_at s0 dir index))
  new_needed index old = elim (cases_eq index place) [
    | inl e ↦ subst (IsNeeded s2) (sym (here_found index e)) one.needed
    | inr ne ↦ subst (IsNeeded s2) (sym (other_found index ne)) (needed_kept s1 s2 (updated news index (tree_at s0 dir index)) (kept index) (old ne))
  ]

  -- the old leaf had its bytes when it was read
  old_bytes : (b : Bptr) → tree_at s0 dir place ≡ At b → s1.bytes b ≡ s0.bytes b
  old_bytes b is =
      let h = own_at b (tree_at s0 dir place) is in
      let l = leaf_within s0 dir place (one_at b.at) in
      let d = held (one_at b.at) in
      so_far.swaps.kept b refl (omega (arith, h, l, d))

  old_formed : IsRecordLeaf s0 (tree_at s0 dir place)
  old_formed = formed_before s0 s1 (tree_at s0 dir place) old_bytes one.formed

  pub puts_more : PutsLeaves dir (done ++ here) s0 s2 (news ++ (place, q) ∷ [])
  puts_more = record {
    records = new_record;
    needed = All-append (λ (c : ℕ × Option ObjRec). IsNeeded s2 (updated (news ++ (place, q) ∷ []) (c.0 / 16) (tree_at s0 dir (c.0 / 16)))) done here (λ k d lt. new_needed ((get_or done k d).0 / 16) (λ ne. so_far.needed k d lt))
        (λ k d lt. new_needed ((get_or here k d).0 / 16) (λ ne. absurd (ne (at k d lt))));
    swaps = record {
      stored = λ weight.
          let a = so_far.swaps.stored weight in
          let b = one.swaps.stored weight in
          omega (arith, a, b, news_append weight news place q);
      kept = λ b out stored.
          let e = so_far.swaps.stored (one_at b.at) in
          one.swaps.kept b refl (omega (arith, e, stored)) ∙ so_far.swaps.kept b refl stored;
    };
    ways = All-append (λ (c : ℕ × Option ObjRec). IsTreeWay s0 dir (c.0 / 16)) done here so_far.ways (λ k d lt. subst (IsTreeWay s0 dir) (sym (at k d lt)) way);
    formed = All-append (λ (c : ℕ × Option ObjRec). IsRecordLeaf s0 (tree_at s0 dir (c.0 / 16))) done here so_far.formed (λ k d lt. subst (λ (n : ℕ). IsRecordLeaf s0 (tree_at s0 dir n)) (sym (at k d lt)) old_formed);
  }

-- ---- the places rise

pub rises_last : (xs : List (ℕ × Ptr)) (place : ℕ) (q : Ptr) → Rises xs → All (λ x. x.0 < place) xs → Rises (xs ++ (place, q) ∷ [])
rises_last [] place q rises below = (tt, tt)
rises_last (x ∷ xs) place q rises below = (
  later xs rises.0,
  rises_last xs place q rises.1 (All-tail (λ (y : ℕ × Ptr). y.0 < place) x xs below),
)
  where
    later : (ys : List (ℕ × Ptr)) → AllByRecursion (λ (y : ℕ × Ptr). x.0 < y.0) ys → AllByRecursion (λ (y : ℕ × Ptr). x.0 < y.0) (ys ++ (place, q) ∷ [])
    later [] h = (All-head (λ (y : ℕ × Ptr). y.0 < place) x xs below, tt)
    later (y ∷ ys) h = (h.0, later ys h.1)
