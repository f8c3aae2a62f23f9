use Rattle.std.proofs.Common.{◌≡◌, ◌+◌, ◌<◌, length, ap, arith, ◌∙◌, sym, List, [], ◌∷◌, Vec, Global, rules, ℕ}
use Rattle.std.specs.Int.{div_ceil}
use Rattle.std.proofs.lemmas.Result.{err_from_is_err_and}
use Rattle.zr_bptr.specs.declared.Bptr.{Bptr}
use Rattle.zr_bptr.specs.declared.Ptr.TheVariants.{At}
use Rattle.zr_bptr.specs.declared.Tree.{Tree}
use Rattle.zr_tree.specs.Trees.{tree_blocks}
use Rattle.zr_root.proofs.Reading.{form_from, within_same, level_one, next_height, level_outside, above_within, outside_above, down}
use Rattle.zr_root.proofs.down.+level_of.Goals as goal

pub returns-then-n-eq1-clause-level : goal.returns-then-n-eq1-clause-level
returns-then-n-eq1-clause-level g t c = λ s held.
    let items : c.push.new.self.items ≡ c.args.root.now ∷ [] = search rules in
    level_one s c.args.root.now c.args.height c.args.level c.args.n c.push.new.self.items c.if-n-eq1.true c.requires.within c.requires.count c.requires.root items

pub level_of-requires : goal.level_of-requires
level_of-requires g t c κs within =
    let n = c.args.n in
    let next = next_height n c.div_ceil.result c.args.height c.args.level (omega (arith, c.requires.some, c.if-n-eq1.false)) c.div_ceil.ensures c.requires.within c.requires.count in
    search rules

pub returns-in_err-tops-clause-errors : goal.returns-in_err-tops-clause-errors
returns-in_err-tops-clause-errors g t c = λ s held.
    let e = c.in_err-tops in
    let x = c.from_residual-in_err-tops in
    let tree : Tree = record { root = At c.args.root.now; height = c.args.height } in
    form_from {T = Vec Bptr Global} s (tree_blocks s tree) (tree_blocks s tree) _ _ x.result e.field-0.0 (err_from_is_err_and x.result x.ensures.1) (within_same (tree_blocks s tree))
    (λ b no. outside_above s tree c.args.level c.args.n c.div_ceil.result (c.args.level + 1) (omega arith) c.div_ceil.ensures no) (e.ensures.errors s held)

pub returns-in_err-bs-clause-errors : goal.returns-in_err-bs-clause-errors
returns-in_err-bs-clause-errors g t c = λ s held.
    let e = c.in_err-bs in
    let x = c.from_residual-in_err-bs in
    let tree : Tree = record { root = At c.args.root.now; height = c.args.height } in
    let up = c.in_ok-tops.ensures.level s held in
    form_from {T = Vec Bptr Global} s c.as_slice.result.now (tree_blocks s tree) _ _ x.result e.field-0.0 (err_from_is_err_and x.result x.ensures.1)
    (above_within s tree (c.args.level + 1) c.args.level c.in_ok-tops.tops.items c.as_slice.result.now (omega arith) c.as_slice.ensures.value up)
    (λ b no. level_outside s tree (c.args.level + 1) c.args.level c.args.n c.in_ok-tops.tops.items c.as_slice.result.now (omega arith) c.as_slice.ensures.value up no) (e.ensures.errors s (c.level_of.ensures.same s held))

pub returns-clause-level : goal.returns-clause-level
returns-clause-level g t c = λ s held.
    let tree : Tree = record { root = At c.args.root.now; height = c.args.height } in
    let len = ap (λ (bs : List Bptr). length bs) c.as_slice.ensures.value in
    let count = c.in_ok-bs.ensures.count in
    let tall = c.in_ok-tops.ensures.count in
    let more : 1 < length c.in_ok-bs.bs.items = omega (arith, count, c.requires.some, c.if-n-eq1.false) in
    let counted : length c.as_slice.result.now ≡ div_ceil (length c.in_ok-bs.bs.items) 32 = len ∙ tall ∙ c.div_ceil.ensures ∙ ap (λ (n : ℕ). div_ceil n 32) (sym count) in
    down s tree (c.args.level + 1) c.args.level c.in_ok-tops.tops.items c.as_slice.result.now c.in_ok-bs.bs.items (omega arith) c.as_slice.ensures.value (c.in_ok-tops.ensures.level s held)
    (c.in_ok-bs.ensures.level s (c.level_of.ensures.same s held)) counted more
