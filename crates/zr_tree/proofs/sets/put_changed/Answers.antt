use Rattle.std.proofs.Common.{◌≡◌, ◌∙◌, ◌+◌, [], ◌∷◌, ◌++◌, ℕ, List, suc, sym, ap, subst, arith}
use Rattle.std.specs.Prelude.{All}
use Rattle.std.specs.List.{sum_by}
use Rattle.std.proofs.lemmas.List.Sums.{sum_by-append, sum_by-cons}
use Rattle.std.proofs.lemmas.Result.{err_from_is_err_and}
use Rattle.zr_bptr.specs.declared.Bptr.{Bptr}
use Rattle.zr_bptr.specs.declared.Ptr.{Ptr}
use Rattle.zr_bptr.specs.declared.Ptr.TheVariants.{Hole, At}
use Rattle.zr_tree.specs.Blocks.{FitsAt}
use Rattle.zr_tree.specs.Trees.{blocks, own, tree_at, tree_blocks, weigh, IsOpen, IsWholeAt, PutsBlock}
use Rattle.zr_tree.proofs.Row.{changed}
use Rattle.zr_tree.proofs.Steps.{above_within, row_within}
use Rattle.zr_tree.proofs.Wholes.{tells_from, tells_within, tells_empty}
use Rattle.zr_tree.proofs.sets.put_changed.Goals.{in-At+in_ok-push, in_default}
use Rattle.zr_tree.proofs.sets.put_changed.Goals as goal

pub returns-in_err-was-clause-errors : goal.returns-in_err-was-clause-errors
returns-in_err-was-clause-errors g c = λ s holds.
    let t = c.args.t.now in
    let e = c.in_err-was in
    let x = c.from_residual in
    tells_from s (blocks s (suc t.height) t.root) x.result e.field-0.0 (err_from_is_err_and x.result x.ensures.1) (tells_within s (tree_blocks s t) (blocks s (suc t.height) t.root) _ (above_within s t.height t.root) (e.ensures.errors s holds))

pub returns-in_err-pointers-clause-errors : goal.returns-in_err-pointers-clause-errors
returns-in_err-pointers-clause-errors g c = λ s holds.
    let t = c.args.t.now in
    let e = c.in_err-pointers in
    let x = c.from_residual-in_err-pointers in
    let was_is : c.in_ok-was.was' ≡ tree_at s t c.args.place = c.in_ok-was.ensures.leaf s holds in
    let one = e.ensures.errors s (c.in_ok-was.ensures.same s holds) c.in_ok-was.ensures.fits.0 in
    tells_from s (blocks s (suc t.height) t.root) x.result e.field-0.0 (err_from_is_err_and x.result x.ensures.1)
    (tells_within s (own c.in_ok-was.was') (blocks s (suc t.height) t.root) _ (λ weight. let w = row_within s t c.args.place weight in let same = ap (λ (p : Ptr). sum_by weight (own p)) was_is in omega (arith, w, same)) one)

pub put_block-requires-clause-fit : goal.put_block-requires-clause-fit
put_block-requires-clause-fit g c = subst (All (FitsAt c.args.below)) (sym c.as_slice.ensures.value) (c.change_pointers.ensures.fit c.args.below c.in_ok-pointers.ensures.fit c.requires.leaves)

pub returns-in_err-new-clause-errors : goal.returns-in_err-new-clause-errors
returns-in_err-new-clause-errors g c = λ s holds.
    let t = c.args.t.now in
    let e = c.in_err-new in
    let x = c.from_residual-in_err-new in
    tells_from s (blocks s (suc t.height) t.root) x.result e.field-0.0 (err_from_is_err_and x.result x.ensures.1) (tells_empty s s (blocks s (suc t.height) t.root) _ (e.ensures.errors s))

-- what is noted
noted : (before after : List Bptr) (was : Ptr) (b : Bptr) → was ≡ At b → after ≡ before ++ b ∷ [] → (weight : Bptr → ℕ) → sum_by weight after ≡ sum_by weight before + weigh weight was
noted before after was b is more weight =
    let a = ap (sum_by weight) more in
    let w = ap (weigh weight) is in
    omega (arith, a, w, sum_by-append weight before (b ∷ []), sum_by-cons weight b [])

none_noted : (before after : List Bptr) (was : Ptr) → was ≡ Hole → after ≡ before → (weight : Bptr → ℕ) → sum_by weight after ≡ sum_by weight before + weigh weight was
none_noted before after was is same weight =
    let a = ap (sum_by weight) same in
    let w = ap (weigh weight) is in
    omega (arith, a, w)

pub returns-clause-puts : goal.returns-clause-puts
returns-clause-puts g c = λ s holds.
    let t = c.args.t.now in
    let place = c.args.place in
    let was = c.in_ok-was.was' in
    let was_is : was ≡ tree_at s t place = c.in_ok-was.ensures.leaf s holds in
    let same = c.in_ok-was.ensures.same s holds in
    let qs = c.in_ok-pointers.pointers.items in
    let ps = c.change_pointers.new.pointers.items in
    let open_was = subst (λ (p : Ptr). IsOpen s 0 p qs) was_is (c.in_ok-pointers.ensures.open s same) in
    let whole = subst (IsWholeAt s) was_is (c.in_ok-pointers.ensures.whole s same c.in_ok-was.ensures.fits.0) in
    let after = c.in_ok-new.ensures.puts s (c.in_ok-pointers.ensures.same s same) in
    let put = subst (λ (xs : List Ptr). PutsBlock xs s after.stored c.in_ok-new.new) c.as_slice.ensures.value after.is in
    let gone : (weight : Bptr → ℕ) → sum_by weight c.match-was.old.items ≡ sum_by weight c.args.old.now.items + weigh weight was = elim c.match-was.branch [
      | in-At+in_ok-push w ↦ noted c.args.old.now.items c.match-was.old.items was w.in-At.b w.in-At.is (ap (λ v. v.items) w.old-is ∙ w.in_ok-push.ensures.items)
      | in_default w ↦ none_noted c.args.old.now.items c.match-was.old.items was w.in_default.is (ap (λ v. v.items) w.old-is)
    ] in
    record {
      stored = after.stored;
      held = after.held;
      is = changed place c.args.changes.now s after.stored t c.in_ok-new.new qs ps c.args.old.now.items c.match-was.old.items open_was (c.change_pointers.ensures.sets place c.requires.here) put (c.in_ok-was.ensures.way s holds) whole
          (λ weight. gone weight ∙ ap (λ (p : Ptr). sum_by weight c.args.old.now.items + weigh weight p) was_is);
    }
