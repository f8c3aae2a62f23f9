use Rattle.std.proofs.Common.{◌∙◌, ◌^◌, ℕ, List, sym, ap, subst, arith}
use Rattle.std.specs.Prelude.{All}
use Rattle.zr_bptr.specs.declared.Bptr.{Bptr}
use Rattle.zr_bptr.specs.declared.Ptr.TheVariants.{At}
use Rattle.zr_tree.specs.Blocks.{FitsAt}
use Rattle.zr_txg.specs.Tables.{value_at}
use Rattle.zr_lookup.proofs.Keys.{few_keys, rising}
use Rattle.zr_lookup.proofs.Groups.{changes_between, changes_fit, overlaid_pointer}
use Rattle.zr_lookup.proofs.leaves.walk_object.Goals as goal

pub overlay-requires-clause-changes : goal.overlay-requires-clause-changes
overlay-requires-clause-changes g c = changes_between c.args.group.now c.args.id c.changes.result.now c.requires.group c.changes.ensures.changes c.changes.ensures.rising

pub overlay-requires-clause-changes_fit : goal.overlay-requires-clause-changes_fit
overlay-requires-clause-changes_fit g c = changes_fit c.args.group.now c.args.id c.changes.result.now c.requires.group c.changes.ensures.changes

pub overlay-requires-clause-leaves_fit : goal.overlay-requires-clause-leaves_fit
overlay-requires-clause-leaves_fit g c =
    let P : ℕ × Bptr → Type 0 = λ leaf. FitsAt 0 (At leaf.1) in
    subst (All P) (sym c.as_slice.ensures.value) c.in_ok-walked.ensures.leaves_fit

pub returns-clause-leaves : goal.returns-clause-leaves
returns-clause-leaves g c = λ s holds.
    let h = c.in_ok-leaves.ensures in
    record {
      rising = rising 0 (2 ^ 25) c.in_ok-leaves.leaves.items h.between;
      each = λ index.
          h.each index
          ∙ overlaid_pointer s c.args.group.now c.args.id c.args.rec.now index c.changes.result.now c.as_slice.result.now c.changes.ensures.changes
          (ap (λ (es : List (ℕ × Bptr)). value_at es index) c.as_slice.ensures.value ∙ c.in_ok-walked.ensures.leaves s holds index);
    }

pub returns-clause-few_leaves : goal.returns-clause-few_leaves
returns-clause-few_leaves g c = let few = few_keys 0 (2 ^ 25) c.in_ok-leaves.leaves.items c.in_ok-leaves.ensures.between in omega (arith, few)
