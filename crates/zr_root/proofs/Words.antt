-- Words and their bytes.
use Rattle.std.proofs.Common.{◌≡◌, ◌+◌, ◌*◌, ◌<◌, ◌≤◌, ℕ, List, [], ◌∷◌, length, refl, sym, ◌∙◌, subst, arith, Bool, true, false, nat_lt}
use Rattle.std.specs.Prelude.{if◌then◌else◌}
use Rattle.std.proofs.Math.Nat.{le_antisymm}
use Rattle.std.specs.Int.{div_ceil}
use Rattle.zr_base.specs.Trees.{IsHeight}
use Rattle.zr_bptr.specs.declared.Bptr.{Bptr}
use Rattle.zr_bptr.specs.declared.Ptr.{Ptr}
use Rattle.zr_bptr.specs.declared.Ptr.TheVariants.{Hole, At}
use Rattle.zr_bptr.specs.declared.Tree.{Tree}
use Rattle.zr_base.specs.Words.{words}
use Rattle.zr_store.specs.Store.{Stored, Now}
use Rattle.zr_meta.specs.Heads.{IsTreeOf}
use Rattle.zr_tree.specs.Trees.{tree_at}
use Rattle.zr_tree.proofs.Wholes.{among_hits}
use Rattle.zr_root.specs.Streams.{IsUnitAt, HasBytes, HasWords, StoresBytes, StoresWords}
use Rattle.zr_root.proofs.Puts.{came_none}
use Rattle.zr_root.proofs.Joining.{ceil_of}

-- 512 words are 4,096 bytes
pub leaves_same : (n long : ℕ) → long ≡ 8 * n → div_ceil long 4096 ≡ div_ceil n 512
leaves_same n long is = go (div_ceil long 4096) (div_ceil n 512) (ceil_of long 4096 (omega arith)) (ceil_of n 512 (omega arith))
  where
    go : (a b : ℕ) → (long ≤ a * 4096) × (a * 4096 < long + 4096) → (n ≤ b * 512) × (b * 512 < n + 512) → a ≡ b
    go a b h k = omega (arith, is, h.0, h.1, k.0, k.1)

hole_at : (s : Stored) (index : ℕ) → tree_at s (record { root = Hole; height = 0 }) index ≡ Hole
hole_at s index = same_either (nat_lt index 1)
  where
    same_either : (yes : Bool) → (if yes then Hole else Hole) ≡ Hole
    same_either true = refl
    same_either false = refl

-- a hole has no leaves
pub hole_bytes : (s : Stored) → HasBytes s (record { root = Hole; height = 0 }) []
hole_bytes s = record {
  leaves = [];
  are_leaves = record {
    places = λ index. hole_at s index;
    units = λ i d lt. absurd (omega arith);
    whole = λ b among. absurd (let n = among_hits b [] among in omega (arith, n));
  };
  count = refl;
  long = λ i d lt. absurd (omega arith);
  sums = λ i d lt. absurd (omega arith);
  spelling = refl;
}

pub hole_words : (s : Stored) (ns : List ℕ) → length ns ≡ 0 → HasWords s (record { words = 0; tree = record { root = Hole; height = 0 } }) ns
hole_words s [] none = record { count = refl; bytes = hole_bytes s }
hole_words s (n ∷ ns) none = absurd (omega (arith, none))

-- no words are stored without a block
pub hole_stores : (has : Stored → Type 0) (s : Stored) (ns : List ℕ) → has s → length ns ≡ 0 → Now has (λ n. StoresWords s n (record { words = 0; tree = record { root = Hole; height = 0 } }) ns)
hole_stores has s ns held none = record { stored = s; held = held; is = record { came = came_none s; stands = hole_words s ns none } }

-- the words of the bytes
pub stores_words : (has : Stored → Type 0) (s : Stored) (t : Tree) (bytes ns : List ℕ) (xs : List ℕ) → xs ≡ bytes → bytes ≡ words ns → Now has (λ n. StoresBytes s n t xs) → Now has (λ n. StoresWords s n (record { words = length ns; tree = t }) ns)
stores_words has s t bytes ns xs same are h = record {
  stored = h.stored;
  held = h.held;
  is = record { came = h.is.came; stands = record { count = refl; bytes = subst (HasBytes h.stored t) (same ∙ are) h.is.stands } };
}

pub one_height : (n a b : ℕ) → IsHeight n a → IsHeight n b → a ≡ b
one_height n a b h k = le_antisymm (h.least b k.reaches) (k.least a h.reaches)

pub stores_bytes : (has : Stored → Type 0) (old : Stored) (t : Tree) (n height : ℕ) (bytes : List ℕ) → IsHeight n t.height → IsHeight n height → Now has (λ new. StoresBytes old new t bytes) → Now has (λ new. StoresBytes old new (record { root = t.root; height = height }) bytes)
stores_bytes has old t n height bytes tall is h =
    subst (λ (k : ℕ). Now has (λ new. StoresBytes old new (record { root = t.root; height = k }) bytes)) (one_height n t.height height tall is) (record { stored = h.stored; held = h.held; is = record { came = h.is.came; stands = h.is.stands } })

pub root_unit : (t : Tree) (n height : ℕ) → IsHeight n t.height → IsHeight n height → (b : Bptr) × (t.root ≡ At b) × IsUnitAt t.height b → (b : Bptr) × (t.root ≡ At b) × IsUnitAt height b
root_unit t n height tall is (b, root_is, unit) = (b, root_is, subst (λ (h : ℕ). IsUnitAt h b) (one_height n t.height height tall is) unit)

pub is_tree_of : (n height long : ℕ) (root : Ptr) → 0 < n → long ≡ 8 * n → IsHeight (div_ceil long 4096) height → (b : Bptr) × (root ≡ At b) × IsUnitAt height b → IsTreeOf n height root
is_tree_of n height long root some is tall (b, root_is, unit) =
    subst (λ (p : Ptr). IsTreeOf n height p) (sym root_is) (some, subst (λ (k : ℕ). IsHeight k height) (leaves_same n long is) tall, unit.0.0, unit.1, unit.0.1)
