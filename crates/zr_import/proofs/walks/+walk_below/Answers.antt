use Rattle.std.proofs.Common.{rules, ◌≡◌, ◌∙◌, ◌+◌, ◌*◌, ◌-◌, ◌<◌, ◌^◌, ℕ, List, length, suc, sym, ap, subst, arith}
use Rattle.std.specs.Prelude.{All}
use Rattle.std.proofs.Math.Nat.{add-mul}
use Rattle.std.proofs.lemmas.Grind.{common_steps}
use Rattle.std.proofs.lemmas.List.Elements.{All-more}
use Rattle.zr_bptr.specs.Spelling.{IsOfLevel}
use Rattle.zr_bptr.specs.declared.Ptr.{Ptr}
use Rattle.zr_bptr.specs.declared.Ptr.TheVariants.{Hole}
use Rattle.zr_tree.specs.Blocks.{FitsAt}
use Rattle.zr_tree.specs.Trees.{reach, leaves_below, slot, IsSoundAt}
use Rattle.zr_tree.proofs.Walking.{walked, sound_block}
use Rattle.zr_import.specs.Shapes.{MayStand, StandBelow, HasFirst}
use Rattle.zr_import.proofs.Dense.{block_first}
use Rattle.zr_import.proofs.Marking.{marks_more, adds_more}
use Rattle.zr_import.proofs.Below.{marks_block, adds_block, first_more}
use Rattle.zr_import.proofs.Places.{block_stands, stands_more}
use Rattle.zr_import.proofs.walks.+walk_below.Goals as goal

pub loop-next-preserved : goal.loop-next-preserved
loop-next-preserved g t c =
    let inv = c.loop-next.invariant in
    let items = c.deref-next-items.result.now in
    let i = c.loop-next.next-index in
    let lt : i < length items = omega arith in
    let below = c.args.level - 1 in
    let width = c.width_of-width.ensures.width in
    let at_next : c.loop-next.at + c.width_of-width.result ≡ c.args.index + (i + 1) * 32 ^ below = (let d = add-mul i 1 (32 ^ below) in let e = inv.at_is in omega (arith, d, e, width)) in
    let stands = subst (λ (ps : List Ptr). MayStand c.args.shape.now below (c.args.index + i * 32 ^ below) (slot ps i)) (sym c.deref-next-items.ensures.value) (c.in_ok-pointers.ensures.stand i (let n = ap (λ (ps : List Ptr). length ps) c.deref-next-items.ensures.value in let m = c.in_ok-pointers.ensures.count in omega (arith, lt, n, m))) in
    let here = subst (λ (at : ℕ). MayStand c.args.shape.now below at (slot items i)) (sym inv.at_is) stands in
    record {
      follows = search rules;
      costs = search rules;
      same = search rules;
      bound = omega (arith, inv.bound, c.width_of-width.ensures.small, c.requires.tall, c.if-level-eq0.false);
      at_is = at_next;
      so_far = λ s holds listed. grind (arith, common_steps, c.in_ok-walk_below.ensures.met s (inv.same s holds) listed, inv.so_far s holds listed);
      sound = λ s holds.
          let fit = subst (All (FitsAt below)) (sym c.deref-next-items.ensures.value) c.in_ok-pointers.ensures.fit in
          All-more (IsSoundAt s below) items i Hole lt (inv.sound s holds) (c.in_ok-walk_below.ensures.sound s (inv.same s holds) (fit i Hole lt));
      marks = λ s holds. marks_more g.M.Mark.marks c.args.shape.now.txg (reach s below) items i _ _ _ _ lt (inv.marks s holds) (c.in_ok-walk_below.ensures.marks s (inv.same s holds));
      bytes = λ s holds kept. adds_more s (leaves_below s below) items i _ _ _ _ lt (inv.bytes s holds kept) (c.in_ok-walk_below.ensures.bytes s (inv.same s holds) kept);
      stand = λ s holds.
          stands_more s c.args.shape.now below c.args.index i items (subst (λ (at : ℕ). StandBelow s c.args.shape.now below at (slot items i)) inv.at_is (c.in_ok-walk_below.ensures.stand s (inv.same s holds) here)) (inv.stand s holds);
      first = λ s holds full.
          let one = c.in_ok-walk_below.ensures.first s (inv.same s holds) full here in
          first_more s c.args.shape.now.leaves c.args.shape.now.leaf_units below c.args.index i items (subst (λ (at : ℕ). HasFirst s c.args.shape.now.leaves c.args.shape.now.leaf_units below at (slot items i)) inv.at_is one) (inv.first s holds full);
    }

pub returns-clause-met : goal.returns-clause-met
returns-clause-met g t c = λ s holds listed.
    let level_is : c.args.level ≡ suc (c.args.level - 1) = omega arith in
    walked s c.args.level (c.args.level - 1) c.loop-next.next-index c.args.p.now c.in-At.b c.in_ok-pointers.pointers.items c.deref-next-items.result.now c.args.found.now.met.items c.keep.new.found.met.items c.loop-next.found.met.items
    level_is c.in-At.is (c.in_ok-pointers.ensures.means s (c.in_ok-keep.ensures.same s holds)) c.deref-next-items.ensures.value c.loop-next-test.false (c.in_ok-keep.ensures.met listed) (c.loop-next.invariant.so_far s holds listed)

pub returns-clause-sound : goal.returns-clause-sound
returns-clause-sound g t c = λ s holds fits.
    let level_is : c.args.level ≡ suc (c.args.level - 1) = omega arith in
    let of_level = subst (IsOfLevel c.args.level) c.in-At.is fits.0 in
    let up : c.args.level ≡ c.args.level - 1 + 1 = omega arith in
    let there = c.in_ok-keep.ensures.same s holds in
    let whole = c.in_ok-pointers.ensures.whole s there (of_level ∙ up) in
    sound_block s c.args.level (c.args.level - 1) c.loop-next.next-index c.args.p.now c.in-At.b c.in_ok-pointers.pointers.items c.deref-next-items.result.now
    level_is c.in-At.is (c.in_ok-pointers.ensures.means s there) c.deref-next-items.ensures.value c.loop-next-test.false fits whole (c.loop-next.invariant.sound s holds)

pub returns-clause-marks : goal.returns-clause-marks
returns-clause-marks g t c = λ s holds.
    let level_is : c.args.level ≡ suc (c.args.level - 1) = omega arith in
    marks_block g.M.Mark.marks s c.args.shape.now.txg c.args.level (c.args.level - 1) c.loop-next.next-index c.args.p.now c.in-At.b c.in_ok-pointers.pointers.items c.deref-next-items.result.now _ _ _
    level_is c.in-At.is (c.in_ok-pointers.ensures.means s (c.in_ok-keep.ensures.same s holds)) c.deref-next-items.ensures.value c.loop-next-test.false c.in_ok-meet.ensures.marks (c.loop-next.invariant.marks s holds)

pub returns-clause-bytes : goal.returns-clause-bytes
returns-clause-bytes g t c = λ s holds kept.
    let level_is : c.args.level ≡ suc (c.args.level - 1) = omega arith in
    adds_block s c.args.level (c.args.level - 1) c.loop-next.next-index c.args.p.now c.in-At.b c.in_ok-pointers.pointers.items c.deref-next-items.result.now _ _ _
    level_is c.in-At.is (c.in_ok-pointers.ensures.means s (c.in_ok-keep.ensures.same s holds)) c.deref-next-items.ensures.value c.loop-next-test.false (c.in_ok-keep.ensures.block (omega arith)) (c.loop-next.invariant.bytes s holds kept)

pub returns-clause-stand : goal.returns-clause-stand
returns-clause-stand g t c = λ s holds may.
    let level_is : c.args.level ≡ suc (c.args.level - 1) = omega arith in
    let kids_are = c.deref-next-items.ensures.value ∙ c.in_ok-pointers.ensures.means s (c.in_ok-keep.ensures.same s holds) in
    let count = ap (λ (ps : List Ptr). length ps) c.deref-next-items.ensures.value in
    let long = c.in_ok-pointers.ensures.count in
    let below = c.args.level - 1 in
    let end = c.loop-next-test.false in
    block_stands s c.args.shape.now c.args.level below c.args.index c.args.p.now c.in-At.b level_is c.in-At.is
    (λ k small. subst (λ (ps : List Ptr). StandBelow s c.args.shape.now below (c.args.index + k * 32 ^ below) (slot ps k)) kids_are (c.loop-next.invariant.stand s holds k (omega (arith, small, end, count, long))))

pub returns-clause-first : goal.returns-clause-first
returns-clause-first g t c = λ s holds full stands.
    let level_is : c.args.level ≡ suc (c.args.level - 1) = omega arith in
    let kids_are = c.deref-next-items.ensures.value ∙ c.in_ok-pointers.ensures.means s (c.in_ok-keep.ensures.same s holds) in
    let count = ap (λ (ps : List Ptr). length ps) c.deref-next-items.ensures.value in
    let long = c.in_ok-pointers.ensures.count in
    let below = c.args.level - 1 in
    let n = c.args.shape.now.leaves in
    let u = c.args.shape.now.leaf_units in
    let end = c.loop-next-test.false in
    block_first s n u c.args.level below c.args.index c.args.p.now c.in-At.b level_is c.in-At.is (ap (λ (ps : List Ptr). length ps) (sym kids_are) ∙ count ∙ long)
    (λ k small. subst (λ (ps : List Ptr). HasFirst s n u below (c.args.index + k * 32 ^ below) (slot ps k)) kids_are (c.loop-next.invariant.first s holds full k (omega (arith, small, end, count, long))))
