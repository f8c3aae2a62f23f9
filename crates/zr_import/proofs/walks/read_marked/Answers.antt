use Rattle.std.proofs.Common.{◌≡◌, ℕ, List, sym, subst, arith}
use Rattle.std.proofs.lemmas.Grind.{common_steps}
use Rattle.std.proofs.Common.{refl, []}
use Rattle.zr_bptr.specs.declared.Ptr.TheVariants.{At}
use Rattle.zr_bptr.specs.declared.Tree.{Tree}
use Rattle.zr_tree.specs.Trees.{leaves_below, IsSoundAt}
use Rattle.zr_import.specs.Shapes.{HasFirst, AddsLeaves}
use Rattle.zr_import.proofs.Leaves.{tree_read}
use Rattle.zr_import.proofs.walks.read_marked.Goals as goal

pub returns-clause-met : goal.returns-clause-met
returns-clause-met g c = λ s holds.
    let met = c.in_ok-walk_below.ensures.met s holds (λ is. cc) in
    grind (arith, common_steps, met, c.in_ok-extend_from_slice.ensures.items, c.as_slice.ensures.value, c.new-found.ensures.met, c.from-level.ensures)

pub returns-clause-bytes : goal.returns-clause-bytes
returns-clause-bytes g c = λ s holds.
    let root = c.args.root.now in
    let t : Tree = record { root = At root; height = root.level } in
    let e = c.in_ok-walk_below.ensures in
    let level : c.from-level.result ≡ root.level = c.from-level.ensures in
    let bytes = c.walk_below.new.found.bytes.items in
    let one : root.at.len ≡ 1 = omega (arith, c.if-root-ne1.false) in
    let first = subst (λ (l : ℕ). HasFirst s c.args.leaves 1 l 0 (At root)) level (e.first s holds refl (omega (arith, c.requires.some), λ zero. one)) in
    let sound = subst (λ (l : ℕ). IsSoundAt s l (At root)) level (e.sound s holds (sym level, c.requires.root)) in
    let came = subst (λ (old : List ℕ). AddsLeaves s (leaves_below s c.from-level.result (At root)) old bytes) c.new-found.ensures.bytes (e.bytes s holds refl) in
    let adds = subst (λ (l : ℕ). AddsLeaves s (leaves_below s l (At root)) [] bytes) level came in
    tree_read s t c.args.leaves bytes first sound adds (omega (arith, c.if-len-leaves.false, c.len.ensures))
