use Rattle.std.proofs.Common.{rules, ◌≡◌, ◌∙◌, ◌+◌, ◌-◌, ◌<◌, ◌++◌, ◌∷◌, [], length, suc, sym, ap, subst, arith, get_or}
use Rattle.std.proofs.lemmas.Grind.{common_steps}
use Rattle.std.proofs.lemmas.List.Elements.{All-more}
use Rattle.std.specs.Prelude.{if◌then◌else◌, Bool, All}
use Rattle.std.proofs.lemmas.Result.{err_from_is_err_and}
use Rattle.zr_bptr.specs.Spelling.{IsOfLevel}
use Rattle.zr_tree.specs.Blocks.{FitsAt}
use Rattle.zr_tree.proofs.Wholes.{tells_from, tells_within, top_within, kid_within}
use Rattle.std.proofs.lemmas.List.{get_or_default}
use Rattle.zr_bptr.specs.declared.Ptr.TheVariants.{Hole}
use Rattle.zr_tree.specs.Trees.{reach, blocks, IsSoundAt}
use Rattle.zr_tree.proofs.Walking.{walked, sound_block, none_marked, all_marked, ended_below}
use Rattle.zr_tree.proofs.walks.+walk_marked_below.Goals as goal

pub returns-in_err-mark-clause-front : goal.returns-in_err-mark-clause-front
returns-in_err-mark-clause-front g t c = λ s holds. none_marked (g.M.Mark.marked c.args.m.now) (g.M.Mark.marked c.mark.new.self) (reach s c.args.level c.args.p.now) c.in_err-mark.ensures.err

pub returns-in_err-walk_marked_below-clause-front : goal.returns-in_err-walk_marked_below-clause-front
returns-in_err-walk_marked_below-clause-front g t c = λ s holds.
    let items = c.deref-next-items.result.now in
    let i = c.loop-next.next-index in
    let x = get_or items i Hole in
    let level_is : c.args.level ≡ suc (c.args.level - 1) = omega arith in
    let lt : i < length items = omega arith in
    let below = c.walk_marked_below.ensures.front s (c.loop-next.invariant.same s holds) in
    let first_is = c.in_ok-mark.ensures.ok ∙ ap (λ (b : Bool). if b then g.M.Mark.marked c.args.m.now ++ c.in-At.b ∷ [] else g.M.Mark.marked c.args.m.now) c.if-not-branch.false in
    ended_below s c.args.level (c.args.level - 1) i c.args.p.now x c.in-At.b c.in_ok-pointers.pointers.items items (g.M.Mark.marked c.args.m.now) (g.M.Mark.marked c.mark.new.self) (g.M.Mark.marked c.loop-next.m) (g.M.Mark.marked c.walk_marked_below.new.m)
    level_is c.in-At.is (c.in_ok-pointers.ensures.means s holds) c.deref-next-items.ensures.value lt (get_or_default items i Hole x lt) first_is (c.loop-next.invariant.so_far s holds) below

pub returns-then-not-branch-2-clause-front : goal.returns-then-not-branch-2-clause-front
returns-then-not-branch-2-clause-front g t c = λ s holds.
    let items = c.deref-next-items.result.now in
    let i = c.loop-next.next-index in
    let x = get_or items i Hole in
    let level_is : c.args.level ≡ suc (c.args.level - 1) = omega arith in
    let lt : i < length items = omega arith in
    let below = c.walk_marked_below.ensures.front s (c.loop-next.invariant.same s holds) in
    let first_is = c.in_ok-mark.ensures.ok ∙ ap (λ (b : Bool). if b then g.M.Mark.marked c.args.m.now ++ c.in-At.b ∷ [] else g.M.Mark.marked c.args.m.now) c.if-not-branch.false in
    ended_below s c.args.level (c.args.level - 1) i c.args.p.now x c.in-At.b c.in_ok-pointers.pointers.items items (g.M.Mark.marked c.args.m.now) (g.M.Mark.marked c.mark.new.self) (g.M.Mark.marked c.loop-next.m) (g.M.Mark.marked c.walk_marked_below.new.m)
    level_is c.in-At.is (c.in_ok-pointers.ensures.means s holds) c.deref-next-items.ensures.value lt (get_or_default items i Hole x lt) first_is (c.loop-next.invariant.so_far s holds) below

pub returns-clause-all : goal.returns-clause-all
returns-clause-all g t c = λ s holds yes.
    let level_is : c.args.level ≡ suc (c.args.level - 1) = omega arith in
    let first_is = c.in_ok-mark.ensures.ok ∙ ap (λ (b : Bool). if b then g.M.Mark.marked c.args.m.now ++ c.in-At.b ∷ [] else g.M.Mark.marked c.args.m.now) c.if-not-branch.false in
    walked s c.args.level (c.args.level - 1) c.loop-next.next-index c.args.p.now c.in-At.b c.in_ok-pointers.pointers.items c.deref-next-items.result.now (g.M.Mark.marked c.args.m.now) (g.M.Mark.marked c.mark.new.self) (g.M.Mark.marked c.loop-next.m)
    level_is c.in-At.is (c.in_ok-pointers.ensures.means s holds) c.deref-next-items.ensures.value c.loop-next-test.false first_is (c.loop-next.invariant.so_far s holds)

pub returns-clause-front : goal.returns-clause-front
returns-clause-front g t c = λ s holds.
    let level_is : c.args.level ≡ suc (c.args.level - 1) = omega arith in
    let first_is = c.in_ok-mark.ensures.ok ∙ ap (λ (b : Bool). if b then g.M.Mark.marked c.args.m.now ++ c.in-At.b ∷ [] else g.M.Mark.marked c.args.m.now) c.if-not-branch.false in
    all_marked (g.M.Mark.marked c.args.m.now) (g.M.Mark.marked c.loop-next.m) (reach s c.args.level c.args.p.now)
    (walked s c.args.level (c.args.level - 1) c.loop-next.next-index c.args.p.now c.in-At.b c.in_ok-pointers.pointers.items c.deref-next-items.result.now (g.M.Mark.marked c.args.m.now) (g.M.Mark.marked c.mark.new.self) (g.M.Mark.marked c.loop-next.m)
    level_is c.in-At.is (c.in_ok-pointers.ensures.means s holds) c.deref-next-items.ensures.value c.loop-next-test.false first_is (c.loop-next.invariant.so_far s holds))

pub returns-in_err-pointers-clause-errors : goal.returns-in_err-pointers-clause-errors
returns-in_err-pointers-clause-errors g t c = λ s holds fits.
    let level_is : c.args.level ≡ suc (c.args.level - 1) = omega arith in
    let e = c.in_err-pointers in
    let x = c.from_residual-in_err-pointers in
    let of_level = subst (IsOfLevel c.args.level) c.in-At.is fits.0 in
    tells_from s (blocks s c.args.level c.args.p.now) x.result e.field-0.0 (err_from_is_err_and x.result x.ensures.1)
    (tells_within s (c.in-At.b ∷ []) (blocks s c.args.level c.args.p.now) _ (top_within s c.args.level (c.args.level - 1) c.args.p.now c.in-At.b level_is c.in-At.is) (e.ensures.errors s holds (omega (arith, of_level, level_is))))

pub returns-in_err-walk_marked_below-clause-errors : goal.returns-in_err-walk_marked_below-clause-errors
returns-in_err-walk_marked_below-clause-errors g t c = λ s holds fits.
    let level_is : c.args.level ≡ suc (c.args.level - 1) = omega arith in
    let items = c.deref-next-items.result.now in
    let i = c.loop-next.next-index in
    let next = get_or items i Hole in
    let lt : i < length items = omega arith in
    let e = c.in_err-walk_marked_below in
    let x = c.from_residual-in_err-walk_marked_below in
    let fit = subst (All (FitsAt (c.args.level - 1))) (sym c.deref-next-items.ensures.value) c.in_ok-pointers.ensures.fit in
    let kid = kid_within s c.args.level (c.args.level - 1) i c.args.p.now c.in-At.b items next level_is c.in-At.is (c.deref-next-items.ensures.value ∙ c.in_ok-pointers.ensures.means s holds) lt (get_or_default items i Hole next lt) in
    let below = e.ensures.errors s (c.loop-next.invariant.same s holds) (fit i Hole lt) in
    tells_from s (blocks s c.args.level c.args.p.now) x.result e.field-0.0 (err_from_is_err_and x.result x.ensures.1) (tells_within s (blocks s (c.args.level - 1) next) (blocks s c.args.level c.args.p.now) _ kid below)

pub returns-clause-sound : goal.returns-clause-sound
returns-clause-sound g t c = λ s holds fits yes.
    let level_is : c.args.level ≡ suc (c.args.level - 1) = omega arith in
    let of_level = subst (IsOfLevel c.args.level) c.in-At.is fits.0 in
    let up : c.args.level ≡ c.args.level - 1 + 1 = omega arith in
    let whole = c.in_ok-pointers.ensures.whole s holds (of_level ∙ up) in
    sound_block s c.args.level (c.args.level - 1) c.loop-next.next-index c.args.p.now c.in-At.b c.in_ok-pointers.pointers.items c.deref-next-items.result.now
    level_is c.in-At.is (c.in_ok-pointers.ensures.means s holds) c.deref-next-items.ensures.value c.loop-next-test.false fits whole (c.loop-next.invariant.sound s holds)

pub loop-next-preserved : goal.loop-next-preserved
loop-next-preserved g t c = record {
  follows = search rules;
  costs = search rules;
  same = search rules;
  so_far = λ s holds. grind (arith, common_steps, c.in_ok-walk_marked_below.ensures.all s (c.loop-next.invariant.same s holds) c.if-not-branch-2.false, c.loop-next.invariant.so_far s holds);
  none_refused = c.in_ok-walk_marked_below.ensures.passed c.if-not-branch-2.false ∙ c.loop-next.invariant.none_refused;
  sound = λ s holds.
      let below = c.in_ok-walk_marked_below.ensures.sound s (c.loop-next.invariant.same s holds) in
      let fit = subst (All (FitsAt (c.args.level - 1))) (sym c.deref-next-items.ensures.value) c.in_ok-pointers.ensures.fit in
      let items = c.deref-next-items.result.now in
      let i = c.loop-next.next-index in
      let lt : i < length items = omega arith in
      All-more (IsSoundAt s (c.args.level - 1)) items i Hole lt (c.loop-next.invariant.sound s holds) (below (fit i Hole lt) c.if-not-branch-2.false);
}
