-- Checks that have one outcome: the walk of a directory and of its objects, and the streams of a root.
use Rattle.std.proofs.Common.{◌≡◌, ℕ, zero, suc, ◌+◌, ◌*◌, ◌^◌, Bool, true, false, inl, inr, List, [], ◌∷◌, ◌++◌, refl, sym, ◌∙◌, subst, Option, Some, None, Result, Ok, Err}
use Rattle.std.specs.List.{enumerate_from}
use Rattle.std.specs.Int.{div_ceil}
use Rattle.zr_base.specs.declared.refusal.Refusal.{Refusal}
use Rattle.zr_bptr.specs.declared.Bptr.{Bptr}
use Rattle.zr_bptr.specs.declared.Ptr.{Ptr}
use Rattle.zr_bptr.specs.declared.Ptr.TheVariants.{Hole, At}
use Rattle.zr_bptr.specs.declared.Tree.{Tree}
use Rattle.zr_bptr.specs.declared.ObjRec.{ObjRec}
use Rattle.zr_label.specs.declared.root.Uber.{Uber}
use Rattle.zr_meta.specs.declared.Stream.{Stream}
use Rattle.zr_tree.specs.Trees.{tree_leaves}
use Rattle.zr_tree.proofs.Spelled as blocks
use Rattle.zr_objset.proofs.Spelled as leaves
use Rattle.zr_root.proofs.Beside.{one_value}
use Rattle.zr_view.specs.Views.{View}
use Rattle.zr_image.specs.Checks.{Check, ◌>>=◌, Gives, Demands, Finds, Each}
use Rattle.zr_image.specs.Numbers.{Form, Units, broken}
use Rattle.zr_image.specs.Reading.{content, store_of, HasSum, damage, ReadsBlock}
use Rattle.zr_image.specs.Walks.{Setting, MayMark, Marks, IsBlockOf, ReadsLeaf, WalksBelow, Walks}
use Rattle.zr_image.specs.Roots.{IsLeafOf, ReadsRecords, WalksObject, WalksAll, block_setting, meta_setting, StandIn, ReadsStream}

-- two outcomes are one
abbrev pub HasOneOutcome : {A : Type 0} → Check A → Type 0
HasOneOutcome {A} check = (x y : Result A Refusal) → check x → check y → x ≡ y

same_value : {A : Type 0} (a b : A) (x y : Result A Refusal) → x ≡ Ok a → y ≡ Ok b → x ≡ y → a ≡ b
same_value a b x y x_is y_is is = cc

same_refusal : {A : Type 0} (r q : Refusal) (x y : Result A Refusal) → x ≡ Err r → y ≡ Err q → x ≡ y → r ≡ q
same_refusal r q x y x_is y_is is = cc

same_error : {A : Type 0} (r q : Refusal) (x y : Result A Refusal) → x ≡ Err r → y ≡ Err q → r ≡ q → x ≡ y
same_error r q x y x_is y_is is = cc

module _ {A B : Type 0} (first : Check A) (next : A → Check B) (one : HasOneOutcome first) (each : (a : A) → HasOneOutcome (next a)) where
  pub both : HasOneOutcome (first >>= next)
  both x y (inl (a, in_a, behind_a)) (inl (b, in_b, behind_b)) =
      each b x y (subst (λ (c : A). next c x) (same_value a b (Ok a) (Ok b) refl refl (one (Ok a) (Ok b) in_a in_b)) behind_a) behind_b
  both x y (inl (a, in_a, behind_a)) (inr (q, told, y_is)) = let no = one (Ok a) (Err q) in_a told in absurd (cc)
  both x y (inr (r, told, x_is)) (inl (b, in_b, behind_b)) = let no = one (Err r) (Ok b) told in_b in absurd (cc)
  both x y (inr (r, told, x_is)) (inr (q, other, y_is)) = same_error r q x y x_is y_is (same_refusal r q (Err r) (Err q) refl refl (one (Err r) (Err q) told other))

pub gives_one : {A : Type 0} (a : A) → HasOneOutcome (Gives a)
gives_one a x y x_is y_is = cc

pub demands_one : (Fact : Type 0) (r : Refusal) → HasOneOutcome (Demands Fact r)
demands_one Fact r (Ok a) (Ok b) fact other = refl
demands_one Fact r (Ok a) (Err q) fact (never, is) = absurd (never fact)
demands_one Fact r (Err q) (Ok b) (never, is) fact = absurd (never fact)
demands_one Fact r (Err p) (Err q) (never, p_is) (nor, q_is) = cc

pub finds_one : {A : Type 0} (Fact : A → Type 0) (r : Refusal) → ((a b : A) → Fact a → Fact b → a ≡ b) → HasOneOutcome (Finds Fact r)
finds_one Fact r unique (Ok a) (Ok b) in_a in_b = let is = unique a b in_a in_b in cc
finds_one Fact r unique (Ok a) (Err q) in_a (none, is) = absurd (none a in_a)
finds_one Fact r unique (Err q) (Ok b) (none, is) in_b = absurd (none b in_b)
finds_one Fact r unique (Err p) (Err q) (none, p_is) (nor, q_is) = cc

pub each_one : {A S : Type 0} (step : A → S → Check S) → ((x : A) (s : S) → HasOneOutcome (step x s)) → (xs : List A) (s : S) → HasOneOutcome (Each step xs s)
each_one step one [] s = gives_one s
each_one step one (x ∷ xs) s = both (step x s) (Each step xs) (one x s) (λ t. each_one step one xs t)

-- ---- a tree

module _ (s : Setting) where
  marks_one : (b : Bptr) (before : List Bptr) → HasOneOutcome (Marks s b before)
  marks_one b before = both (Demands (MayMark s before b) (broken Units)) (λ marked. Gives (before ++ b ∷ [])) (demands_one (MayMark s before b) (broken Units)) (λ marked. gives_one (before ++ b ∷ []))

  leaf_one : (reads : Bool) (b : Bptr) → HasOneOutcome (ReadsLeaf reads s.view b)
  leaf_one true b = demands_one (HasSum s.view b) (damage s.view b)
  leaf_one false b = gives_one tt

  one_block : (level index : ℕ) (b : Bptr) (ps qs : List Ptr) → IsBlockOf s level index b ps → IsBlockOf s level index b qs → ps ≡ qs
  one_block level index b ps qs one other =
      sym (blocks.spelled (content s.view b) level b.fill ps one.block) ∙ blocks.spelled (content s.view b) level b.fill qs other.block

  abbrev below : ℕ → ℕ → ℕ × Ptr → List Bptr → Check (List Bptr)
  below h index p marked = WalksBelow s h (index + p.0 * 32 ^ h) p.1 marked

  abbrev behind_read : ℕ → ℕ → Bptr → List Bptr → Check (List Bptr)
  behind_read h index b marks = Finds (IsBlockOf s h index b) (broken Form) >>= λ ps. Each (below h index) (enumerate_from 0 ps) marks

  pub walk_one : (h index : ℕ) (p : Ptr) (before : List Bptr) → HasOneOutcome (WalksBelow s h index p before)
  walk_one zero index Hole before = gives_one before
  walk_one zero index (At b) before =
      both (Marks s b before) (λ marks. ReadsLeaf s.reads s.view b >>= λ read. Gives marks) (marks_one b before)
      (λ marks. both (ReadsLeaf s.reads s.view b) (λ read. Gives marks) (leaf_one s.reads b) (λ read. gives_one marks))
  walk_one (suc h) index Hole before = gives_one before
  walk_one (suc h) index (At b) before =
      both (Marks s b before) (λ marks. ReadsBlock s.view b >>= λ read. behind_read h index b marks) (marks_one b before)
      (λ marks. both (ReadsBlock s.view b) (λ read. behind_read h index b marks) (demands_one (HasSum s.view b) (damage s.view b))
      (λ read. both (Finds (IsBlockOf s h index b) (broken Form)) (λ ps. Each (below h index) (enumerate_from 0 ps) marks)
      (finds_one (IsBlockOf s h index b) (broken Form) (one_block h index b))
      (λ ps. each_one (below h index) (λ p marked. walk_one h (index + p.0 * 32 ^ h) p.1 marked) (enumerate_from 0 ps) marks)))

-- ---- a directory and its objects

module _ (v : View) where
  one_leaf : (b : Bptr) (xs ys : List (Option ObjRec)) → IsLeafOf v b xs → IsLeafOf v b ys → xs ≡ ys
  one_leaf b xs ys one other = sym (leaves.spelled (content v b) xs one.spelled) ∙ leaves.spelled (content v b) ys other.spelled

  records_one : (b : Bptr) (before : List (Option ObjRec)) → HasOneOutcome (ReadsRecords v b before)
  records_one b before =
      both (ReadsBlock v b) (λ read. Finds (IsLeafOf v b) (broken Form) >>= λ records. Gives (before ++ records)) (demands_one (HasSum v b) (damage v b))
      (λ read. both (Finds (IsLeafOf v b) (broken Form)) (λ records. Gives (before ++ records)) (finds_one (IsLeafOf v b) (broken Form) (one_leaf b)) (λ records. gives_one (before ++ records)))

  module _ (may_be : ℕ → ℕ → Bool) (txg : ℕ) where
    object_one : (r : Option ObjRec) (marks : List Bptr) → HasOneOutcome (WalksObject v may_be txg r marks)
    object_one None marks = gives_one marks
    object_one (Some r) marks = walk_one (block_setting v may_be txg r.units (2 ^ 25)) r.tree.height 0 r.tree.root marks

    pub tree_one : (dir : Tree) → HasOneOutcome (Walks (block_setting v may_be txg 1 4096) dir [])
    tree_one dir = walk_one (block_setting v may_be txg 1 4096) dir.height 0 dir.root []

    pub directory_one : (dir : Tree) → HasOneOutcome (WalksAll v may_be txg dir)
    directory_one dir =
        both (Walks (block_setting v may_be txg 1 4096) dir []) (λ marks. Each (ReadsRecords v) (tree_leaves (store_of v) dir) [] >>= λ records. Each (WalksObject v may_be txg) records marks) (tree_one dir)
        (λ marks. both (Each (ReadsRecords v) (tree_leaves (store_of v) dir) []) (λ records. Each (WalksObject v may_be txg) records marks)
        (each_one (ReadsRecords v) records_one (tree_leaves (store_of v) dir) [])
        (λ records. each_one (WalksObject v may_be txg) object_one records marks))

-- ---- the streams of a root

module _ (v : View) (u : Uber) where
  one_words : (t : Stream) (a b : List ℕ) → StandIn v t a → StandIn v t b → a ≡ b
  one_words t a b one other = one_value (store_of v) t a b one.small other.small one.stand other.stand

  stream_one : (t : Stream) (before : List ℕ × List Bptr) → HasOneOutcome (ReadsStream v u t before)
  stream_one t before =
      both (Walks (meta_setting v u (div_ceil t.words 512)) t.tree before.1) (λ marks. Finds (StandIn v t) (broken Form) >>= λ words. Gives (before.0 ++ words, marks))
      (walk_one (meta_setting v u (div_ceil t.words 512)) t.tree.height 0 t.tree.root before.1)
      (λ marks. both (Finds (StandIn v t) (broken Form)) (λ words. Gives (before.0 ++ words, marks)) (finds_one (StandIn v t) (broken Form) (one_words t)) (λ words. gives_one (before.0 ++ words, marks)))

  pub streams_one : (ts : List Stream) (before : List ℕ × List Bptr) → HasOneOutcome (Each (ReadsStream v u) ts before)
  streams_one ts before = each_one (ReadsStream v u) stream_one ts before
