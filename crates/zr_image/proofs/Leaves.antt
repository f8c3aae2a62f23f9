-- The leaves of a tree are among its blocks, and each leaf at an index is among them.
use Rattle.std.proofs.Common.{◌≡◌, ◌<◌, ◌^◌, ℕ, zero, suc, Bool, true, false, inl, inr, List, [], ◌∷◌, refl, subst, arith, nat_lt}
use Rattle.std.specs.Prelude.{if◌then◌else◌}
use Rattle.std.specs.List.{Contains, flat_map}
use Rattle.std.proofs.lemmas.List.Elements.{Contains-append_left, Contains-append_right, Contains-append_cases}
use Rattle.zr_bptr.specs.declared.Bptr.{Bptr}
use Rattle.zr_bptr.specs.declared.Ptr.{Ptr}
use Rattle.zr_bptr.specs.declared.Ptr.TheVariants.{Hole, At}
use Rattle.zr_bptr.specs.declared.Tree.{Tree}
use Rattle.zr_store.specs.Store.{Stored, hits, one_at}
use Rattle.zr_tree.specs.Trees.{kids, slot, digit, leaf_at, tree_at, leaves_below, tree_leaves, reach, tree_reach}
use Rattle.zr_tree.proofs.Frames.{frame}
use Rattle.zr_objset.proofs.Within.{blocks_within}
use Rattle.zr_image.proofs.Walking.{Within}
use Rattle.zr_image.proofs.Reaching.{contained_hits}

none_in : {A : Type 0} (x : A) → Contains [] x → ⊥
none_in x (k, lt, is) = omega (arith, lt)

each_below : (f g : Ptr → List Bptr) → ((p : Ptr) → Within (f p) (g p)) → (ps : List Ptr) → Within (flat_map f ps) (flat_map g ps)
each_below f g less [] = λ x has. has
each_below f g less (p ∷ ps) = λ x has. elim (Contains-append_cases (f p) (flat_map f ps) x has) [
  | inl here ↦ Contains-append_left (g p) (flat_map g ps) x (less p x here)
  | inr later ↦ Contains-append_right (g p) (flat_map g ps) x (each_below f g less ps x later)
]

leaves_within : (s : Stored) (h : ℕ) (p : Ptr) → Within (leaves_below s h p) (reach s h p)
leaves_within s zero Hole = λ x has. has
leaves_within s zero (At b) = λ x has. has
leaves_within s (suc h) Hole = λ x has. has
leaves_within s (suc h) (At b) = λ x has. Contains-append_right (b ∷ []) (flat_map (reach s h) (kids s h b)) x (each_below (leaves_below s h) (reach s h) (λ p. leaves_within s h p) (kids s h b) x has)

pub leaf_hits : (s : Stored) (t : Tree) (b : Bptr) → Contains (tree_leaves s t) b → 0 < hits (tree_reach s t) b.at
leaf_hits s t b has = contained_hits (tree_reach s t) b (leaves_within s t.height t.root b has)

pub leaf_list_same : (s t : Stored) (tree : Tree) → ((b : Bptr) → 0 < hits (tree_reach s tree) b.at → t.bytes b ≡ s.bytes b) → tree_leaves t tree ≡ tree_leaves s tree
leaf_list_same s t tree agree = (frame s t tree.height tree.root (record { same = λ b met. let w = blocks_within s tree (one_at b.at) in agree b (omega (arith, w, met)) })).all_leaves

hole_leaves : (s : Stored) (h : ℕ) → leaves_below s h Hole ≡ []
hole_leaves s zero = refl
hole_leaves s (suc h) = refl

in_slot : (f : Ptr → List Bptr) → f Hole ≡ [] → (ps : List Ptr) (k : ℕ) (x : Bptr) → Contains (f (slot ps k)) x → Contains (flat_map f ps) x
in_slot f none [] k x has = absurd (none_in x (subst (λ (bs : List Bptr). Contains bs x) none has))
in_slot f none (p ∷ ps) zero x has = Contains-append_left (f p) (flat_map f ps) x has
in_slot f none (p ∷ ps) (suc k) x has = Contains-append_right (f p) (flat_map f ps) x (in_slot f none ps k x has)

leaf_listed : (s : Stored) (h : ℕ) (p : Ptr) (index : ℕ) (q : Bptr) → leaf_at s h p index ≡ At q → Contains (leaves_below s h p) q
leaf_listed s zero Hole index q is = absurd (cc)
leaf_listed s zero (At b) index q is = (0, omega arith, same b q is)
  where
    same : (b q : Bptr) → At b ≡ At q → b ≡ q
    same b q is = cc
leaf_listed s (suc h) Hole index q is = absurd (cc)
leaf_listed s (suc h) (At b) index q is = in_slot (leaves_below s h) (hole_leaves s h) (kids s h b) (digit h index) q (leaf_listed s h (slot (kids s h b) (digit h index)) index q is)

within_tree : (yes : Bool) (p : Ptr) (q : Bptr) → (if yes then p else Hole) ≡ At q → p ≡ At q
within_tree true p q is = is
within_tree false p q is = absurd (cc)

pub leaf_among : (s : Stored) (t : Tree) (index : ℕ) (q : Bptr) → tree_at s t index ≡ At q → Contains (tree_leaves s t) q
leaf_among s t index q is = leaf_listed s t.height t.root index q (within_tree (nat_lt index (32 ^ t.height)) (leaf_at s t.height t.root index) q is)
