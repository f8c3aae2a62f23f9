use Rattle.std.proofs.Common.{◌≡◌, ◌∙◌, ◌%◌, ◌-◌, ◌<◌, ℕ, List, suc, length, get_or, take, set, sym, ap, subst, arith, get_or-set_same, add-one}
use Rattle.std.proofs.Math.ListN.{length-set}
use Rattle.std.proofs.Math.Seq.{take-suc}
use Rattle.std.proofs.lemmas.List.{take_all}
use Rattle.std.proofs.lemmas.List.Elements.{All-set}
use Rattle.zr_bptr.specs.declared.Ptr.{Ptr}
use Rattle.zr_bptr.specs.declared.Ptr.TheVariants.{Hole}
use Rattle.zr_tree.specs.Blocks.{FitsAt}
use Rattle.zr_tree.specs.Trees.{SetsPointers, slot}
use Rattle.zr_tree.proofs.Pointers.{one_pointer}
use Rattle.zr_tree.proofs.Units.{unit_there}
use Rattle.zr_tree.proofs.sets.change_pointers.Goals as goal

pub loop-change-preserved : goal.loop-change-preserved
loop-change-preserved c =
    let changes = c.args.changes.now in
    let k = c.loop-change.change-index in
    let ps = c.loop-change.pointers.items in
    let inv = c.loop-change.invariant in
    let x = get_or changes k (0, Hole) in
    let lt : k < length changes = omega arith in
    let within : x.0 % 32 < length ps = let count = inv.count in omega (arith, count) in
    record {
      count = let count = inv.count in omega (arith, count, length-set ps (x.0 % 32) x.1);
      fit = λ level old new. All-set (FitsAt level) ps (x.0 % 32) x.1 (new k (0, Hole) lt) (inv.fit level old new);
      last = λ n is.
          let same : k ≡ n = omega (arith, is) in
          subst (λ (j : ℕ). slot (set ps (x.0 % 32) x.1) ((get_or changes j (0, Hole)).0 % 32) ≡ (get_or changes j (0, Hole)).1) same (get_or-set_same ps (x.0 % 32) x.1 Hole within);
      sets = λ place at.
          subst (λ (done : List (ℕ × Ptr)). SetsPointers place done c.args.pointers.now.items (set ps (x.0 % 32) x.1)) (sym (ap (λ (j : ℕ). take j changes) (add-one k) ∙ take-suc changes k (0, Hole) lt))
          (one_pointer place (take k changes) x c.args.pointers.now.items ps inv.count (inv.sets place at) (at k (0, Hole) lt));
    }

pub returns-clause-some : goal.returns-clause-some
returns-clause-some c = λ ends some holes.
    let changes = c.args.changes.now in
    let k = c.loop-change.change-index in
    let ps = c.loop-change.pointers.items in
    let n = length changes - 1 in
    let inv = c.loop-change.invariant in
    let end = c.loop-change.auto.change-index-end in
    let size : length changes ≡ suc n = omega (arith, some) in
    let done : k ≡ suc n = omega (arith, size) in
    let x = get_or changes n (0, Hole) in
    let count = inv.count in
    unit_there x.1 (ends n (0, Hole) size) (sym (inv.last n done) ∙ holes (x.0 % 32) Hole (omega (arith, count)))

pub returns-clause-sets : goal.returns-clause-sets
returns-clause-sets c = λ place at. subst (λ (done : List (ℕ × Ptr)). SetsPointers place done c.args.pointers.now.items c.loop-change.pointers.items) (take_all c.loop-change.change-index c.args.changes.now (omega arith)) (c.loop-change.invariant.sets place at)
