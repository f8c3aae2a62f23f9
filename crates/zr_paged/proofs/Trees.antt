-- What stands in a tree.
use Rattle.std.proofs.Common.{◌≡◌, ◌<◌, length, ◌∷◌, refl, arith, length-append}
use Rattle.std.specs.declared.boxed.Box.{Box}
use Rattle.std.specs.declared.alloc.Global.{Global}
use Rattle.zr_paged.specs.declared.tree.Tree.{Tree, Empty, Fork'}
use Rattle.zr_paged.specs.declared.tree.Tree.TheVariants.{Fork}
use Rattle.zr_paged.specs.declared.tree.Node.{Node}
use Rattle.zr_paged.specs.Pages.{pages_in}

pub some_pages : (t : Tree) → (t ≡ Empty → ⊥) → 0 < length (pages_in t)
some_pages Empty other = absurd (other refl)
some_pages (Fork' p low page height high) other = omega (arith, length-append (pages_in low) (page ∷ pages_in high))

pub low_fewer : (t : Tree) (node : Box Node Global) → t ≡ Fork node → length (pages_in node.value.low) < length (pages_in t)
low_fewer t node is = rw is (omega (arith, length-append (pages_in node.value.low) (node.value.page ∷ pages_in node.value.high)))

pub high_fewer : (t : Tree) (node : Box Node Global) → t ≡ Fork node → length (pages_in node.value.high) < length (pages_in t)
high_fewer t node is = rw is (omega (arith, length-append (pages_in node.value.low) (node.value.page ∷ pages_in node.value.high)))
