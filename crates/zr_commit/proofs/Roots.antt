-- The root of a head that is stored.
use Rattle.std.proofs.Common.{◌≡◌, ◌∙◌, ◌≤◌, ℕ, zero, suc, ◌^◌, List, length, refl, sym, ap, subst, arith}
use Rattle.std.specs.Int.{div_ceil}
use Rattle.zr_base.specs.Trees.{IsHeight}
use Rattle.zr_base.specs.declared.space.DevRow.{DevRow}
use Rattle.zr_bptr.specs.declared.Bptr.{Bptr}
use Rattle.zr_bptr.specs.declared.Ptr.{Ptr}
use Rattle.zr_bptr.specs.declared.Ptr.TheVariants.{Hole, At}
use Rattle.zr_bptr.specs.Spelling.{IsTree}
use Rattle.zr_bptr.specs.declared.Tree.{Tree}
use Rattle.zr_label.specs.Blocks.{IsMetaRoot}
use Rattle.zr_store.specs.Store.{Stored, Now}
use Rattle.zr_meta.specs.declared.Head.{Head}
use Rattle.zr_meta.specs.Heads.{SpellsHead}
use Rattle.zr_root.specs.Streams.{IsUnitAt, IsRootOf, IsTreeFor, StoresBytes}
use Rattle.zr_root.proofs.Beside.{one_tree}
use Rattle.zr_root.proofs.Joining.{ceil_of}
use Rattle.zr_root.proofs.Words.{one_height}
use Rattle.zr_commit.specs.Heads.{StoresHead}

-- a tree of few leaves has a height
pub few_height : (n : ℕ) → n ≤ 32 → (h : ℕ) × IsHeight n h
few_height zero few = (0, record { reaches = omega arith; least = λ k reaches. omega arith })
few_height (suc zero) few = (0, record { reaches = omega arith; least = λ k reaches. omega arith })
few_height (suc (suc m)) few = (1, record { reaches = omega (arith, few); least = λ k reaches. tall k reaches })
  where
    tall : (k : ℕ) → suc (suc m) ≤ 32 ^ k → 1 ≤ k
    tall zero reaches = absurd (omega (arith, reaches))
    tall (suc k) reaches = omega arith

-- a head has few leaves
pub few_leaves : (len : ℕ) → len ≤ 35016 → div_ceil len 4096 ≤ 32
few_leaves len short = let c = ceil_of len 4096 (omega arith) in omega (arith, short, c.0, c.1)

pub meta_root : (len height : ℕ) (root : Ptr) → IsHeight (div_ceil len 4096) height → (b : Bptr) × (root ≡ At b) × IsUnitAt height b → IsMetaRoot root len
meta_root len height root tall (b, root_is, unit) =
    subst (λ (p : Ptr). IsMetaRoot p len) (sym root_is) (unit.0.1, unit.1, subst (IsHeight (div_ceil len 4096)) (sym unit.0.0) tall)

pub head_stored : (has : Stored → Type 0) (table : List DevRow) (s : Stored) (h : Head) (root : Ptr) (len height : ℕ) (bytes xs : List ℕ) → SpellsHead table bytes h → xs ≡ bytes → length xs ≡ len → IsHeight (div_ceil len 4096) height
    → ((k : ℕ) → IsHeight (div_ceil (length xs) 4096) k → Now has (λ n. StoresBytes s n (record { root = root; height = k }) xs)) → Now has (λ n. StoresHead table s n h root len)
head_stored has table s h root len height bytes xs spells same long tall stores =
    let now = stores height (subst (λ (k : ℕ). IsHeight (div_ceil k 4096) height) (sym long) tall) in
    record {
      stored = now.stored;
      held = now.held;
      is = record {
        bytes = bytes;
        spells = spells;
        long = ap (λ (ys : List ℕ). length ys) (sym same) ∙ long;
        stored = λ t is. subst (λ (u : Tree). StoresBytes s now.stored u bytes) (one_tree len root (record { root = root; height = height }) t (refl, tall) is) (subst (λ (ys : List ℕ). StoresBytes s now.stored (record { root = root; height = height }) ys) same now.is);
      };
    }

-- the tree of a head
pub meta_tree : (len height : ℕ) (root : Ptr) → IsMetaRoot root len → IsHeight (div_ceil len 4096) height → IsTree (record { root = root; height = height })
meta_tree len height Hole meta tall = absurd meta
meta_tree len height (At b) meta tall =
    let same = one_height (div_ceil len 4096) b.level height meta.2 tall in
    record { lawful = meta.0; level = same; low = omega (arith, same, meta.0.level) }

-- .. has a root with leaves
pub meta_top : (len : ℕ) (root : Ptr) (t : Tree) → IsMetaRoot root len → IsTreeFor len root t → IsRootOf t.height t.root
meta_top len root t meta is = subst (λ (p : Ptr). IsRootOf t.height p) (sym is.0) (top root meta)
  where
    top : (p : Ptr) → IsMetaRoot p len → IsRootOf t.height p
    top Hole m = absurd m
    top (At b) m = ((one_height (div_ceil len 4096) b.level t.height m.2 is.1, m.0), m.1)
