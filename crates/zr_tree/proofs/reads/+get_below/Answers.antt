use Rattle.std.proofs.Common.{◌≡◌, ◌∙◌, ◌+◌, ◌-◌, ◌%◌, ◌∷◌, [], ℕ, sym, ap, subst, arith}
use Rattle.std.proofs.lemmas.Result.{IfOk-weaker, err_from_is_err_and}
use Rattle.zr_bptr.specs.Spelling.{IsOfLevel}
use Rattle.zr_tree.specs.Trees.{blocks, digit, IsWay}
use Rattle.zr_bptr.specs.declared.Ptr.{Ptr}
use Rattle.zr_tree.proofs.Frames.{way_hole}
use Rattle.zr_tree.proofs.Holes.{leaf_step, way_step}
use Rattle.zr_tree.proofs.Wholes.{tells_from, tells_within, top_within, kid_within}
use Rattle.zr_tree.proofs.reads.+get_below.Goals as goal

pub returns-in_ok-pointers-in-At-clause-leaf : goal.returns-in_ok-pointers-in-At-clause-leaf
returns-in_ok-pointers-in-At-clause-leaf g t c = λ s holds.
    let k : c.place_of.result % 32 ≡ digit (c.args.levels - 1) c.args.index = ap (λ (n : ℕ). n % 32) c.place_of.ensures in
    let count = c.in_ok-pointers-in-At.ensures.count in
    let step = leaf_step s c.args.levels (c.args.levels - 1) c.args.p.now c.in-At.b c.args.index (c.place_of.result % 32) c.in_ok-pointers-in-At.pointers.items c.index.result.now (omega arith) c.in-At.is (c.in_ok-pointers-in-At.ensures.means s holds) k (omega (arith, count)) c.index.ensures in
    IfOk-weaker c.get_below.result _ _ (λ leaf e. e ∙ sym step) (c.get_below.ensures.leaf s (c.in_ok-pointers-in-At.ensures.same s holds))

pub returns-then-levels-eq0-clause-way : goal.returns-then-levels-eq0-clause-way
returns-then-levels-eq0-clause-way g t c = λ s holds. subst (λ (l : ℕ). IsWay s l c.args.p.now c.args.index) (sym c.if-levels-eq0.true) tt

pub returns-in-Hole-clause-way : goal.returns-in-Hole-clause-way
returns-in-Hole-clause-way g t c = λ s holds. subst (λ (q : Ptr). IsWay s c.args.levels q c.args.index) (sym c.in-Hole.is) (way_hole s c.args.levels c.args.index)

pub returns-in_ok-pointers-in-At-clause-way : goal.returns-in_ok-pointers-in-At-clause-way
returns-in_ok-pointers-in-At-clause-way g t c = λ s holds.
    let k : c.place_of.result % 32 ≡ digit (c.args.levels - 1) c.args.index = ap (λ (n : ℕ). n % 32) c.place_of.ensures in
    let count = c.in_ok-pointers-in-At.ensures.count in
    let of_level = subst (IsOfLevel (c.args.base + c.args.levels)) c.in-At.is c.requires.fits.0 in
    let whole = c.in_ok-pointers-in-At.ensures.whole s holds (omega (arith, of_level, c.if-levels-eq0.false)) in
    IfOk-weaker c.get_below.result _ _ (λ leaf way. way_step s c.args.levels (c.args.levels - 1) c.args.p.now c.in-At.b c.args.index (c.place_of.result % 32) c.in_ok-pointers-in-At.pointers.items c.index.result.now (omega arith) c.in-At.is (c.in_ok-pointers-in-At.ensures.means s holds) k (omega (arith, count)) c.index.ensures whole way)
    (c.get_below.ensures.way s (c.in_ok-pointers-in-At.ensures.same s holds))

pub returns-in_err-pointers-in-At-clause-errors : goal.returns-in_err-pointers-in-At-clause-errors
returns-in_err-pointers-in-At-clause-errors g t c = λ s holds.
    let e = c.in_err-pointers-in-At in
    let x = c.from_residual in
    let of_level = subst (IsOfLevel (c.args.base + c.args.levels)) c.in-At.is c.requires.fits.0 in
    tells_from s (blocks s c.args.levels c.args.p.now) x.result e.field-0.0 (err_from_is_err_and x.result x.ensures.1)
    (tells_within s (c.in-At.b ∷ []) (blocks s c.args.levels c.args.p.now) _ (top_within s c.args.levels (c.args.levels - 1) c.args.p.now c.in-At.b (omega (arith, c.if-levels-eq0.false)) c.in-At.is) (e.ensures.errors s holds (omega (arith, of_level, c.if-levels-eq0.false))))

pub returns-in_ok-pointers-in-At-clause-errors : goal.returns-in_ok-pointers-in-At-clause-errors
returns-in_ok-pointers-in-At-clause-errors g t c = λ s holds.
    let count = c.in_ok-pointers-in-At.ensures.count in
    let kid = kid_within s c.args.levels (c.args.levels - 1) (c.place_of.result % 32) c.args.p.now c.in-At.b c.in_ok-pointers-in-At.pointers.items c.index.result.now (omega arith) c.in-At.is (c.in_ok-pointers-in-At.ensures.means s holds) (omega (arith, count)) c.index.ensures in
    tells_within s (blocks s (c.args.levels - 1) c.index.result.now) (blocks s c.args.levels c.args.p.now) c.get_below.result kid (c.get_below.ensures.errors s (c.in_ok-pointers-in-At.ensures.same s holds))
