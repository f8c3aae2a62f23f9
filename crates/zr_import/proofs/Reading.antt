-- The tree of a stream and of a head, by its root.
use Rattle.std.proofs.Common.{◌≡◌, ◌<◌, ℕ, refl, sym, ◌∙◌, ap, subst}
use Rattle.zr_bptr.specs.declared.Bptr.{Bptr}
use Rattle.zr_bptr.specs.declared.Ptr.{Ptr}
use Rattle.zr_bptr.specs.declared.Ptr.TheVariants.{Hole, At}
use Rattle.zr_bptr.specs.declared.Tree.{Tree}
use Rattle.zr_meta.specs.Heads.{IsTreeOf, IsStream}
use Rattle.zr_meta.specs.declared.Stream.{Stream}
use Rattle.zr_label.specs.declared.root.Uber.{Uber}
use Rattle.zr_image.specs.Roots.{head_tree}

of_level : (words height : ℕ) (p : Ptr) (b : Bptr) → p ≡ At b → IsTreeOf words height p → (b.level ≡ height) × (0 < words)
of_level words height p b is h = let k = subst (IsTreeOf words height) is h in (k.2, k.0)

-- the tree with this root
pub stream_tree : (t : Stream) (b : Bptr) → t.tree.root ≡ At b → IsStream t → (let u : Tree = record { root = At b; height = b.level } in u) ≡ t.tree
stream_tree t b is h =
    let P : Ptr → ℕ → Tree = λ p l. record { root = p; height = l } in
    ap (λ (l : ℕ). P (At b) l) (of_level t.words t.tree.height t.tree.root b is h).0 ∙ ap (λ (p : Ptr). P p t.tree.height) (sym is)

pub stream_some : (t : Stream) (b : Bptr) → t.tree.root ≡ At b → IsStream t → 0 < t.words
stream_some t b is h = (of_level t.words t.tree.height t.tree.root b is h).1

pub head_is : (u : Uber) (b : Bptr) → u.root ≡ At b → (let t : Tree = record { root = At b; height = b.level } in t) ≡ head_tree u
head_is u b is = let P : Ptr → Tree = λ p. head_tree (record u { root = p }) in ap P (sym is)

-- a stream without a tree has no words
pub no_words : (t : Stream) → ((b : Bptr) → t.tree.root ≡ At b → ⊥) → IsStream t → t.words ≡ 0
no_words t none h = go t.tree.root none h
  where
    go : (p : Ptr) → ((b : Bptr) → p ≡ At b → ⊥) → IsTreeOf t.words t.tree.height p → t.words ≡ 0
    go Hole none_at is = is.0
    go (At b) none_at is = absurd (none_at b refl)
