use Rattle.std.proofs.Common.{◌≡◌, ◌∙◌, ◌+◌, ◌-◌, ◌*◌, ◌^◌, ◌<◌, ◌∷◌, [], ℕ, suc, length, get_or, sym, ap, subst, arith, rules, append-nil}
use Rattle.std.specs.Prelude.{All}
use Rattle.std.proofs.lemmas.Result.{err_from_is_err_and}
use Rattle.std.proofs.lemmas.List.{get_or_default, length_push}
use Rattle.std.proofs.lemmas.List.Elements.{All-push}
use Rattle.zr_bptr.specs.declared.Bptr.{Bptr}
use Rattle.zr_bptr.specs.declared.Ptr.TheVariants.{Hole, At}
use Rattle.zr_bptr.specs.Spelling.{IsOfLevel, IsPointer}
use Rattle.zr_store.proofs.Causes.{cause_from, cause_then, costs_then}
use Rattle.zr_tree.specs.Blocks.{FitsAt}
use Rattle.zr_tree.specs.Trees.{blocks}
use Rattle.zr_tree.proofs.Wholes.{tells_from, tells_within, top_within, kid_within}
use Rattle.zr_lookup.specs.Lists.{IsBetween}
use Rattle.zr_lookup.proofs.Walking.{power, under, hole_fills, hole_between, leaf_between, leaf_fills, begins, one_more, all_fill, all_between, first_between, walked_blocks, blocks_more, lawful_top, lawful_leaf, none_more, kids_begin, kids_few, all_few}
use Rattle.zr_lookup.proofs.walks.+walk_below.Goals as goal

pub returns-in-Hole-clause-between : goal.returns-in-Hole-clause-between
returns-in-Hole-clause-between g t c = hole_between c.args.place (32 ^ c.args.level) c.args.leaves.now.items c.requires.before

pub returns-in-Hole-clause-leaves : goal.returns-in-Hole-clause-leaves
returns-in-Hole-clause-leaves g t c = λ s holds. hole_fills s c.args.level (c.args.place * 32 ^ c.args.level) ((c.args.place + 1) * 32 ^ c.args.level) c.args.p.now c.args.leaves.now.items c.in-Hole.is c.requires.before

pub returns-in-Hole-clause-few : goal.returns-in-Hole-clause-few
returns-in-Hole-clause-few g t c = none_more c.args.level (length c.args.tree.now.items)

pub returns-then-level-eq0-clause-few : goal.returns-then-level-eq0-clause-few
returns-then-level-eq0-clause-few g t c = none_more c.args.level (length c.args.tree.now.items)

pub returns-then-level-eq0-clause-between : goal.returns-then-level-eq0-clause-between
returns-then-level-eq0-clause-between g t c = leaf_between c.args.level c.args.place c.args.leaves.now.items c.push.new.self.items c.in-At.b c.if-level-eq0.true c.requires.before c.in_ok-push.ensures.items

pub returns-then-level-eq0-clause-leaves_fit : goal.returns-then-level-eq0-clause-leaves_fit
returns-then-level-eq0-clause-leaves_fit g t c =
    let P : ℕ × Bptr → Type 0 = λ leaf. FitsAt 0 (At leaf.1) in
    subst (All P) (sym c.in_ok-push.ensures.items) (All-push P c.args.leaves.now.items (c.args.place, c.in-At.b) c.requires.leaves_fit (lawful_leaf c.args.level c.args.p.now c.in-At.b c.requires.fits c.in-At.is c.if-level-eq0.true))

pub returns-then-level-eq0-clause-leaves : goal.returns-then-level-eq0-clause-leaves
returns-then-level-eq0-clause-leaves g t c = λ s holds. leaf_fills s c.args.level c.args.place c.args.p.now c.args.leaves.now.items c.push.new.self.items c.in-At.b c.if-level-eq0.true c.requires.before c.in-At.is c.in_ok-push.ensures.items

pub returns-in_err-pointers-clause-cause : goal.returns-in_err-pointers-clause-cause
returns-in_err-pointers-clause-cause g t c =
    let x = c.from_residual-in_err-pointers in
    cause_from x.result c.in_err-pointers.field-0.0 (err_from_is_err_and x.result x.ensures.1) c.in_err-pointers.ensures.cause

pub returns-in_err-pointers-clause-errors : goal.returns-in_err-pointers-clause-errors
returns-in_err-pointers-clause-errors g t c = λ s holds.
    let level_is : c.args.level ≡ suc (c.args.level - 1) = omega arith in
    let e = c.in_err-pointers in
    let x = c.from_residual-in_err-pointers in
    let of_level = subst (IsOfLevel c.args.level) c.in-At.is c.requires.fits.0 in
    tells_from s (blocks s c.args.level c.args.p.now) x.result e.field-0.0 (err_from_is_err_and x.result x.ensures.1)
    (tells_within s (c.in-At.b ∷ []) (blocks s c.args.level c.args.p.now) _ (top_within s c.args.level (c.args.level - 1) c.args.p.now c.in-At.b level_is c.in-At.is) (e.ensures.errors s holds (omega (arith, of_level, level_is))))

pub loop-i-init : goal.loop-i-init
loop-i-init g t c =
    let level_is : c.args.level ≡ suc (c.args.level - 1) = omega arith in
    record {
      follows = c.in_ok-pointers.ensures.follows;
      costs = c.in_ok-pointers.ensures.costs;
      same = c.in_ok-pointers.ensures.same;
      between = first_between c.args.level (c.args.level - 1) c.args.place c.args.leaves.now.items level_is c.requires.before;
      leaves_fit = c.requires.leaves_fit;
      blocks_fit = subst (All IsPointer) (sym c.in_ok-push-2.ensures.items) (All-push IsPointer c.args.tree.now.items c.in-At.b c.requires.blocks_fit (lawful_top c.args.level c.args.p.now c.in-At.b c.requires.fits c.in-At.is));
      few = kids_begin (length c.push-2.new.self.items) (32 ^ (c.args.level - 1));
      so_far = λ s holds. sym (append-nil c.push-2.new.self.items);
      filled = λ s holds. begins s c.args.level (32 * c.args.place * 32 ^ (c.args.level - 1)) ((32 * c.args.place + 0) * 32 ^ (c.args.level - 1)) c.args.p.now c.args.leaves.now.items (omega arith);
    }

pub walk_below-requires : goal.walk_below-requires
walk_below-requires g t c = λ κs sub.
    let below = c.args.level - 1 in
    let level_is : c.args.level ≡ suc (c.args.level - 1) = omega arith in
    let items = c.deref-next-items.result.now in
    let i = c.loop-i.i in
    let lt : i < length items = c.loop-i-test.true in
    let count = c.in_ok-pointers.ensures.count in
    let small : i < 32 = omega (arith, lt, count, ap length c.deref-next-items.ensures.value) in
    let fit = subst (All (FitsAt below)) (sym c.deref-next-items.ensures.value) c.in_ok-pointers.ensures.fit in
    (omega (arith, c.decreases), (search rules, (omega arith, (fit i Hole lt, (under c.args.place i (32 ^ below) (32 ^ c.args.level) (2 ^ 25) (power c.args.level below level_is) small c.requires.low, (c.loop-i.invariant.between, (c.loop-i.invariant.leaves_fit, c.loop-i.invariant.blocks_fit)))))))

pub returns-in_err-walk_below-clause-cause : goal.returns-in_err-walk_below-clause-cause
returns-in_err-walk_below-clause-cause g t c =
    let x = c.from_residual-in_err-walk_below in
    cause_from x.result c.in_err-walk_below.field-0.0 (err_from_is_err_and x.result x.ensures.1) (cause_then c.loop-i.invariant.costs c.in_err-walk_below.ensures.cause)

pub returns-in_err-walk_below-clause-errors : goal.returns-in_err-walk_below-clause-errors
returns-in_err-walk_below-clause-errors g t c = λ s holds.
    let level_is : c.args.level ≡ suc (c.args.level - 1) = omega arith in
    let items = c.deref-next-items.result.now in
    let i = c.loop-i.i in
    let next = get_or items i Hole in
    let lt : i < length items = c.loop-i-test.true in
    let e = c.in_err-walk_below in
    let x = c.from_residual-in_err-walk_below in
    let kid = kid_within s c.args.level (c.args.level - 1) i c.args.p.now c.in-At.b items next level_is c.in-At.is (c.deref-next-items.ensures.value ∙ c.in_ok-pointers.ensures.means s holds) lt (get_or_default items i Hole next lt) in
    let below = e.ensures.errors s (c.loop-i.invariant.same s holds) in
    tells_from s (blocks s c.args.level c.args.p.now) x.result e.field-0.0 (err_from_is_err_and x.result x.ensures.1) (tells_within s (blocks s (c.args.level - 1) next) (blocks s c.args.level c.args.p.now) _ kid below)

pub loop-i-preserved : goal.loop-i-preserved
loop-i-preserved g t c =
    let level_is : c.args.level ≡ suc (c.args.level - 1) = omega arith in
    let below = c.args.level - 1 in
    let place = c.args.place in
    let items = c.deref-next-items.result.now in
    let i = c.loop-i.i in
    let next = get_or items i Hole in
    let lt : i < length items = c.loop-i-test.true in
    let count : length items ≡ 32 = ap length c.deref-next-items.ensures.value ∙ c.in_ok-pointers.ensures.count in
    let inv = c.loop-i.invariant in
    let h = c.in_ok-walk_below.ensures in
    let next_is = get_or_default items i Hole next lt in
    let end : (32 * place + i + 1) * 32 ^ below ≡ (32 * place + (i + 1)) * 32 ^ below = omega arith in
    record {
      follows = λ start so_far. h.follows start (inv.follows start so_far);
      costs = costs_then inv.costs h.costs;
      same = λ s holds. h.same s (inv.same s holds);
      between = subst (λ (n : ℕ). IsBetween 0 n c.walk_below.new.leaves.items) end h.between;
      leaves_fit = h.leaves_fit;
      blocks_fit = h.blocks_fit;
      few = kids_few (length c.loop-i.tree.items) (length c.walk_below.new.tree.items) _ i (32 ^ below) inv.few h.few;
      so_far = λ s holds. blocks_more s below i items next _ c.loop-i.tree.items c.walk_below.new.tree.items lt next_is (inv.so_far s holds) (h.tree_blocks s (inv.same s holds));
      filled = λ s holds. one_more s c.args.level below place i c.args.p.now c.in-At.b items next c.args.leaves.now.items c.loop-i.leaves.items c.walk_below.new.leaves.items level_is c.in-At.is (c.deref-next-items.ensures.value ∙ c.in_ok-pointers.ensures.means s holds) count lt next_is (inv.filled s holds) (h.leaves s (inv.same s holds));
    }

pub returns-clause-between : goal.returns-clause-between
returns-clause-between g t c =
    let level_is : c.args.level ≡ suc (c.args.level - 1) = omega arith in
    let count : length c.deref-next-items.result.now ≡ 32 = ap length c.deref-next-items.ensures.value ∙ c.in_ok-pointers.ensures.count in
    let all : c.loop-i.i ≡ 32 = omega (arith, count, c.loop-i-test.false) in
    all_between c.args.level (c.args.level - 1) c.args.place c.loop-i.i c.loop-i.leaves.items level_is all c.loop-i.invariant.between

pub returns-clause-few : goal.returns-clause-few
returns-clause-few g t c =
    let level_is : c.args.level ≡ suc (c.args.level - 1) = omega arith in
    let count : length c.deref-next-items.result.now ≡ 32 = ap length c.deref-next-items.ensures.value ∙ c.in_ok-pointers.ensures.count in
    let all : c.loop-i.i ≡ 32 = omega (arith, count, c.loop-i-test.false) in
    let one : length c.push-2.new.self.items ≡ length c.args.tree.now.items + 1 = ap length c.in_ok-push-2.ensures.items ∙ length_push c.args.tree.now.items c.in-At.b in
    all_few c.args.level (c.args.level - 1) c.loop-i.i (length c.args.tree.now.items) (length c.push-2.new.self.items) (length c.loop-i.tree.items) level_is all one c.loop-i.invariant.few

pub returns-clause-leaves : goal.returns-clause-leaves
returns-clause-leaves g t c = λ s holds.
    let level_is : c.args.level ≡ suc (c.args.level - 1) = omega arith in
    let count : length c.deref-next-items.result.now ≡ 32 = ap length c.deref-next-items.ensures.value ∙ c.in_ok-pointers.ensures.count in
    let all : c.loop-i.i ≡ 32 = omega (arith, count, c.loop-i-test.false) in
    all_fill c.args.level (c.args.level - 1) c.args.place c.loop-i.i _ c.args.leaves.now.items c.loop-i.leaves.items level_is all (c.loop-i.invariant.filled s holds)

pub returns-clause-tree_blocks : goal.returns-clause-tree_blocks
returns-clause-tree_blocks g t c = λ s holds.
    let level_is : c.args.level ≡ suc (c.args.level - 1) = omega arith in
    walked_blocks s c.args.level (c.args.level - 1) c.loop-i.i c.args.p.now c.in-At.b c.in_ok-pointers.pointers.items c.deref-next-items.result.now c.args.tree.now.items c.push-2.new.self.items c.loop-i.tree.items
    level_is c.in-At.is (c.in_ok-pointers.ensures.means s holds) c.deref-next-items.ensures.value c.loop-i-test.false c.in_ok-push-2.ensures.items (c.loop-i.invariant.so_far s holds)
