use Rattle.std.proofs.Common.{◌≡◌, ◌∙◌, ◌+◌, ◌-◌, ◌<◌, ◌∷◌, [], suc, length, get_or, sym, subst, arith}
use Rattle.std.specs.Prelude.{All}
use Rattle.std.proofs.lemmas.Result.{err_from_is_err_and}
use Rattle.std.proofs.lemmas.List.{get_or_default}
use Rattle.zr_bptr.specs.declared.Ptr.TheVariants.{Hole}
use Rattle.zr_bptr.specs.Spelling.{IsOfLevel}
use Rattle.zr_tree.specs.Blocks.{FitsAt}
use Rattle.zr_tree.specs.Trees.{blocks}
use Rattle.zr_tree.proofs.Wholes.{tells_from, tells_within, top_within, kid_within}
use Rattle.zr_tree.proofs.Walking.{walked, sound_block}
use Rattle.zr_tree.proofs.walks.+walk_below.Goals as goal

pub returns-after-loop-next-clause-reach : goal.returns-after-loop-next-clause-reach
returns-after-loop-next-clause-reach g t c = λ s holds.
    let level_is : c.args.level ≡ suc (c.args.level - 1) = omega arith in
    walked s c.args.level (c.args.level - 1) c.loop-next.next-index c.args.p.now c.in-At.b c.in_ok-pointers-in-At.pointers.items c.deref-next-items.result.now c.args.out.now.items c.push.new.self.items c.loop-next.out.items
    level_is c.in-At.is (c.in_ok-pointers-in-At.ensures.means s holds) c.deref-next-items.ensures.value c.loop-next-test.false c.in_ok-push-in-At.ensures.items (c.loop-next.invariant.so_far s holds)

pub returns-in_err-pointers-in-At-clause-errors : goal.returns-in_err-pointers-in-At-clause-errors
returns-in_err-pointers-in-At-clause-errors g t c = λ s holds fits.
    let level_is : c.args.level ≡ suc (c.args.level - 1) = omega arith in
    let e = c.in_err-pointers-in-At in
    let x = c.from_residual-in_err-pointers-in-At in
    let of_level = subst (IsOfLevel c.args.level) c.in-At.is fits.0 in
    tells_from s (blocks s c.args.level c.args.p.now) x.result e.field-0.0 (err_from_is_err_and x.result x.ensures.1)
    (tells_within s (c.in-At.b ∷ []) (blocks s c.args.level c.args.p.now) _ (top_within s c.args.level (c.args.level - 1) c.args.p.now c.in-At.b level_is c.in-At.is) (e.ensures.errors s holds (omega (arith, of_level, level_is))))

pub returns-in_err-walk_below-in-At-clause-errors : goal.returns-in_err-walk_below-in-At-clause-errors
returns-in_err-walk_below-in-At-clause-errors g t c = λ s holds fits.
    let level_is : c.args.level ≡ suc (c.args.level - 1) = omega arith in
    let items = c.deref-next-items.result.now in
    let i = c.loop-next.next-index in
    let next = get_or items i Hole in
    let lt : i < length items = omega arith in
    let e = c.in_err-walk_below-in-At in
    let x = c.from_residual-in_err-walk_below-in-At in
    let fit = subst (All (FitsAt (c.args.level - 1))) (sym c.deref-next-items.ensures.value) c.in_ok-pointers-in-At.ensures.fit in
    let kid = kid_within s c.args.level (c.args.level - 1) i c.args.p.now c.in-At.b items next level_is c.in-At.is (c.deref-next-items.ensures.value ∙ c.in_ok-pointers-in-At.ensures.means s holds) lt (get_or_default items i Hole next lt) in
    let below = e.ensures.errors s (c.loop-next.invariant.same s holds) (fit i Hole lt) in
    tells_from s (blocks s c.args.level c.args.p.now) x.result e.field-0.0 (err_from_is_err_and x.result x.ensures.1) (tells_within s (blocks s (c.args.level - 1) next) (blocks s c.args.level c.args.p.now) _ kid below)

pub returns-after-loop-next-clause-sound : goal.returns-after-loop-next-clause-sound
returns-after-loop-next-clause-sound g t c = λ s holds fits.
    let level_is : c.args.level ≡ suc (c.args.level - 1) = omega arith in
    let of_level = subst (IsOfLevel c.args.level) c.in-At.is fits.0 in
    let up : c.args.level ≡ c.args.level - 1 + 1 = omega arith in
    let whole = c.in_ok-pointers-in-At.ensures.whole s holds (of_level ∙ up) in
    sound_block s c.args.level (c.args.level - 1) c.loop-next.next-index c.args.p.now c.in-At.b c.in_ok-pointers-in-At.pointers.items c.deref-next-items.result.now
    level_is c.in-At.is (c.in_ok-pointers-in-At.ensures.means s holds) c.deref-next-items.ensures.value c.loop-next-test.false fits whole (c.loop-next.invariant.sound s holds)
