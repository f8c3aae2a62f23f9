use Rattle.std.proofs.Common.{◌≡◌, ◌≢◌, ◌∙◌, ◌+◌, ◌-◌, ◌≤◌, ◌/◌, ◌<◌, inl, inr, [], ◌∷◌, ◌++◌, ℕ, List, suc, refl, length, get_or, take, drop, sym, ap, subst, arith, length-append}
use Rattle.std.specs.Int.{div_ceil}
use Rattle.std.specs.Prelude.{All}
use Rattle.std.proofs.Math.Seq.{take-add}
use Rattle.std.proofs.lemmas.Bool.{cases_lt}
use Rattle.std.proofs.lemmas.List.{length-take, take-append-drop}
use Rattle.std.proofs.lemmas.List.Elements.{All-append, All-cons, All-nil}
use Rattle.std.proofs.lemmas.Result.{err_from_is_err_and}
use Rattle.zr_bptr.specs.declared.Ptr.{Ptr}
use Rattle.zr_bptr.specs.declared.Ptr.TheVariants.{Hole}
use Rattle.zr_store.proofs.Causes.{cause_from, cause_most, cause_then, costs_most, costs_then}
use Rattle.zr_tree.specs.Blocks.{FitsAt}
use Rattle.zr_tree.specs.Trees.{AllAt, AreBelow, AreOfLevel, EndsInUnit, Rises, PutsChanged, PutsRow, blocks}
use Rattle.zr_tree.proofs.Each.{rises_front}
use Rattle.zr_tree.proofs.Row.{one_block}
use Rattle.zr_tree.proofs.Runs.{rest_is, rest_at, first_at, rest_long, rises_more, next_place, row_more, done_more, ends_here, ends_more, room_more, IsOneRun, one_more_fits, all_fit, run_ends}
use Rattle.zr_tree.proofs.Steps.{tells_kept}
use Rattle.zr_tree.proofs.Whole.{place_below, rising_few, row_below_more, next_few}
use Rattle.zr_tree.proofs.Wholes.{tells_from}
use Rattle.zr_tree.proofs.sets.put_row.Goals as goal

pub loop-from-preserved : goal.loop-from-preserved
loop-from-preserved g c =
    let changes = c.args.changes.now in
    let t = c.args.t.now in
    let from = c.loop-from.from in
    let n = c.run_len-n.result in
    let inv = c.loop-from.invariant in
    let row = c.loop-from.row.items in
    let rest = take (length changes - from) (drop from changes) in
    let lt : from < length changes = c.loop-from-test.true in
    let long = rest_long changes from in
    let place = (get_or rest 0 (0, Hole)).0 / 32 in
    let place_is : place ≡ (get_or changes from (0, Hole)).0 / 32 = ap (λ (x : ℕ × Ptr). x.0 / 32) (first_at changes from (0, Hole)) in
    let p = c.in_ok-p.p in
    let here = take n (drop from changes) in
    let some : 0 < n = c.run_len-n.ensures.some (0, Hole) (omega (arith, long, lt)) refl in
    let n_fits = c.run_len-n.ensures.within in
    let within : from + n ≤ length changes = omega (arith, long, lt, n_fits) in
    let at = subst (λ (xs : List (ℕ × Ptr)). AllAt 1 place (take n xs)) (rest_is changes from) c.run_len-n.ensures.here in
    let next_ne : from + n < length changes → (get_or changes (from + n) (0, Hole)).0 / 32 ≢ place = λ more e. c.run_len-n.ensures.past (0, Hole) (omega (arith, long, more)) (ap (λ (x : ℕ × Ptr). x.0 / 32) (rest_at changes from n (0, Hole)) ∙ e) in
    let further : from + n < length changes → place < (get_or changes (from + n) (0, Hole)).0 / 32 = λ more. next_place changes from n place c.requires.rises some more place_is (next_ne more) in
    let row_is = c.in_ok-push.ensures.items in
    let row_below = subst (λ (k : ℕ). All (λ (change : ℕ × Ptr). change.0 < k) row) (sym place_is) (inv.row_below lt) in
    let done_below = subst (λ (k : ℕ). All (λ (change : ℕ × Ptr). change.0 / 32 < k) (take from changes)) (sym place_is) (inv.done_below lt) in
    let row_long : length (row ++ (place, p) ∷ []) ≡ length row + 1 = length-append row ((place, p) ∷ []) in
    let now_long : length c.push.new.self.items ≡ length row + 1 = ap (λ (xs : List (ℕ × Ptr)). length xs) row_is ∙ row_long in
    record {
      within = within;
      few = let e = inv.few in omega (arith, now_long, e, some);
      one = subst (λ (k : ℕ). IsOneRun changes (from + n) k) (sym now_long)
          (run_ends changes from n (length row) within lt inv.one
          (elim (cases_lt (from + n) (length changes)) [
            | inl more ↦ inl (λ e. next_ne more (sym e ∙ sym place_is))
            | inr end ↦ inr end
          ]));
      some = λ more. omega (arith, now_long);
      count = let a = inv.count in let b = c.in_ok-p.ensures.count in omega (arith, a, b, now_long);
      none = λ hole. let a = inv.none hole in let b = c.in_ok-p.ensures.none hole in omega (arith, a, b);
      follows = λ start so_far. c.put_changed.ensures.follows start (inv.follows start so_far);
      costs = costs_most (length c.push.new.self.items) 0 (omega (arith, now_long)) (omega arith) (costs_then inv.costs c.put_changed.ensures.costs);
      leaves = subst (AreOfLevel (c.args.below + 1)) (sym row_is)
          (All-append (λ (change : ℕ × Ptr). FitsAt (c.args.below + 1) change.1) row ((place, p) ∷ []) inv.leaves
          (All-cons (λ (change : ℕ × Ptr). FitsAt (c.args.below + 1) change.1) (place, p) [] c.in_ok-p.ensures.fits (All-nil (λ (change : ℕ × Ptr). FitsAt (c.args.below + 1) change.1))));
      unit = λ ends end.
          let last = subst (λ (xs : List (ℕ × Ptr)). EndsInUnit (take n xs)) (sym (rest_is changes from)) (ends_here changes from n end ends) in
          subst EndsInUnit (sym row_is) (ends_more row (place, p) (c.in_ok-p.ensures.unit last (omega (arith, length-take n rest, some, n_fits))));
      room = λ level all. subst (AllAt level 0) (sym row_is) (room_more row level place (get_or changes from (0, Hole)).0 p place_is (all from (0, Hole) lt) (inv.room level all));
      rises = subst Rises (sym row_is) (rises_more row (place, p) inv.rises row_below);
      below = λ n' all. subst (AreBelow (div_ceil n' 32)) (sym row_is) (row_below_more row place (div_ceil n' 32) p (let h = place_below (get_or changes from (0, Hole)).0 n' (all from (0, Hole) lt) in omega (arith, h, place_is)) (inv.below n' all));
      row_below = λ more. subst (λ (xs : List (ℕ × Ptr)). All (λ (change : ℕ × Ptr). change.0 < (get_or changes (from + n) (0, Hole)).0 / 32) xs) (sym row_is) (row_more row place ((get_or changes (from + n) (0, Hole)).0 / 32) p (further more) row_below);
      done_below = λ more. done_more changes from n place ((get_or changes (from + n) (0, Hole)).0 / 32) (further more) at done_below;
      puts = λ s holds held.
          let before = inv.puts s holds held in
          let n1 = before.stored in
          let after = c.in_ok-p.ensures.puts n1 before.held in
          let n2 = after.stored in
          let one = subst (λ (xs : List (ℕ × Ptr)). PutsChanged place (take n xs) n1 n2 t p c.loop-from.old.items c.put_changed.new.old.items) (rest_is changes from) after.is in
          let rises = rises_front (take (from + n) changes) (drop (from + n) changes) (subst Rises (sym (take-append-drop (from + n) changes)) c.requires.rises) in
          let parts = subst Rises (take-add from n changes) rises in
          let more = one_block place (take from changes) here row s n1 n2 t p c.args.old.now.items c.loop-from.old.items c.put_changed.new.old.items held before.is one at done_below parts in
          record {
            stored = n2;
            held = after.held;
            is = subst (λ (xs : List (ℕ × Ptr)). PutsRow (take (from + n) changes) xs s n2 t c.args.old.now.items c.put_changed.new.old.items) (sym row_is)
                (subst (λ (ds : List (ℕ × Ptr)). PutsRow ds (row ++ (place, p) ∷ []) s n2 t c.args.old.now.items c.put_changed.new.old.items) (sym (take-add from n changes)) more);
          };
    }

pub returns-clause-few : goal.returns-clause-few
returns-clause-few g c = λ most rows. all_fit c.args.changes.now c.loop-from.from (length c.loop-from.row.items) most c.loop-from.invariant.within c.loop-from.invariant.few c.loop-from.invariant.one rows

pub returns-clause-costs : goal.returns-clause-costs
returns-clause-costs g c = λ most rows.
    let inv = c.loop-from.invariant in
    costs_most most 0 (all_fit c.args.changes.now c.loop-from.from (length c.loop-from.row.items) most inv.within inv.few inv.one rows) (omega arith) inv.costs

pub returns-in_err-p-clause-costs : goal.returns-in_err-p-clause-costs
returns-in_err-p-clause-costs g c = λ most rows.
    let inv = c.loop-from.invariant in
    costs_most most 0 (one_more_fits c.args.changes.now c.loop-from.from (length c.loop-from.row.items) most c.loop-from-test.true inv.few inv.one rows) (omega arith) (costs_then inv.costs c.put_changed.ensures.costs)

pub returns-in_err-push-clause-costs : goal.returns-in_err-push-clause-costs
returns-in_err-push-clause-costs g c = λ most rows.
    let inv = c.loop-from.invariant in
    costs_most most 0 (one_more_fits c.args.changes.now c.loop-from.from (length c.loop-from.row.items) most c.loop-from-test.true inv.few inv.one rows) (omega arith) (costs_then inv.costs c.put_changed.ensures.costs)

pub returns-in_err-p-clause-cause : goal.returns-in_err-p-clause-cause
returns-in_err-p-clause-cause g c = λ most rows.
    let inv = c.loop-from.invariant in
    let e = c.in_err-p in
    let x = c.from_residual in
    cause_from {T = Ptr} x.result e.field-0.0 (err_from_is_err_and x.result x.ensures.1)
    (cause_most most (one_more_fits c.args.changes.now c.loop-from.from (length c.loop-from.row.items) most c.loop-from-test.true inv.few inv.one rows) (cause_then inv.costs e.ensures.cause))

pub returns-in_err-p-clause-errors : goal.returns-in_err-p-clause-errors
returns-in_err-p-clause-errors g c = λ s holds held.
    let t = c.args.t.now in
    let e = c.in_err-p in
    let x = c.from_residual in
    let before = c.loop-from.invariant.puts s holds held in
    tells_from s (blocks s (suc t.height) t.root) x.result e.field-0.0 (err_from_is_err_and x.result x.ensures.1)
    (tells_kept s before.stored (suc t.height) t.root _ before.is.kept (λ weight. let w = before.is.stored weight in omega (arith, w)) held (e.ensures.errors before.stored before.held))

pub returns-clause-whole : goal.returns-clause-whole
returns-clause-whole g c = λ n all.
    let inv = c.loop-from.invariant in
    costs_most (div_ceil n 32) 0 (rising_few c.loop-from.row.items (div_ceil n 32) inv.rises (inv.below n all)) (omega arith) inv.costs

pub returns-in_err-p-clause-whole : goal.returns-in_err-p-clause-whole
returns-in_err-p-clause-whole g c = λ n all.
    let inv = c.loop-from.invariant in
    let few = next_few c.loop-from.row.items c.args.changes.now c.loop-from.from ((get_or c.args.changes.now c.loop-from.from (0, Hole)).0 / 32) n inv.rises (inv.row_below c.loop-from-test.true) c.loop-from-test.true refl all in
    costs_most (div_ceil n 32) 0 few (omega arith) (costs_then inv.costs c.put_changed.ensures.costs)

pub returns-in_err-push-clause-whole : goal.returns-in_err-push-clause-whole
returns-in_err-push-clause-whole g c = λ n all.
    let inv = c.loop-from.invariant in
    let few = next_few c.loop-from.row.items c.args.changes.now c.loop-from.from ((get_or c.args.changes.now c.loop-from.from (0, Hole)).0 / 32) n inv.rises (inv.row_below c.loop-from-test.true) c.loop-from-test.true refl all in
    costs_most (div_ceil n 32) 0 few (omega arith) (costs_then inv.costs c.put_changed.ensures.costs)

pub returns-in_err-p-clause-whole_cause : goal.returns-in_err-p-clause-whole_cause
returns-in_err-p-clause-whole_cause g c = λ n all.
    let inv = c.loop-from.invariant in
    let e = c.in_err-p in
    let x = c.from_residual in
    let few = next_few c.loop-from.row.items c.args.changes.now c.loop-from.from ((get_or c.args.changes.now c.loop-from.from (0, Hole)).0 / 32) n inv.rises (inv.row_below c.loop-from-test.true) c.loop-from-test.true refl all in
    cause_from {T = Ptr} x.result e.field-0.0 (err_from_is_err_and x.result x.ensures.1) (cause_most (div_ceil n 32) few (cause_then inv.costs e.ensures.cause))
