use Rattle.std.proofs.Common.{◌≡◌, ◌≢◌, ◌+◌, ◌-◌, ◌*◌, ◌≤◌, ◌/◌, ◌^◌, ◌<◌, inl, ℕ, List, suc, length, Err, Vec, Global, sym, ap, subst, arith, rules}
use Rattle.std.specs.Int.{div_ceil}
use Rattle.std.specs.List.{sum_by}
use Rattle.std.proofs.Math.Nat.{div-eq_of_lt, mul-le-mul_left, suc-mul}
use Rattle.std.proofs.lemmas.Result.{IfOk-weaker, on_ok_weaker, err_from_is_err_and}
use Rattle.zr_bptr.specs.declared.Bptr.{Bptr}
use Rattle.zr_bptr.specs.declared.Ptr.{Ptr}
use Rattle.zr_bptr.specs.declared.Ptr.TheVariants.{Hole}
use Rattle.zr_store.specs.Store.{AreStored}
use Rattle.zr_store.proofs.Causes.{cause_from, cause_most, cause_then, costs_most, costs_then}
use Rattle.zr_tree.specs.Blocks.{FitsAt}
use Rattle.zr_tree.specs.Trees.{AllAt, AreBelow, AreOfLevel, AreRows, IsOneUnit, Rises, HasRoot, PutsTree, TellsOf, blocks, tree_blocks, row_puts}
use Rattle.zr_tree.proofs.Costing.{row_most, rows_most, puts_stepped, puts_rooted}
use Rattle.zr_tree.proofs.Holes.{hole_blocks, pow-pos}
use Rattle.zr_tree.proofs.Levels.{tree_of, blocks_up}
use Rattle.zr_tree.proofs.Steps.{stepped, grown, all_hold, all_rise, all_long, all_some, all_end, last_holds, last_put, tells_kept, stored_kept, above_within}
use Rattle.zr_tree.proofs.Whole.{row_cause, row_costs, rows_cause, rows_costs, some_over}
use Rattle.zr_tree.proofs.Wholes.{tells_from, tells_within}
use Rattle.zr_tree.proofs.rows.+put_rows.Goals as goal

-- ---- at the leaves

pub returns-then-height-eq0-clause-fits : goal.returns-then-height-eq0-clause-fits
returns-then-height-eq0-clause-fits g t c =
    let low : c.args.base + c.args.t.now.height ≡ c.args.base = omega arith in
    let same : c.args.base ≡ c.args.base + c.args.height = omega arith in
    subst (λ (k : ℕ). FitsAt k c.last_or.result) same (last_holds (FitsAt c.args.base) c.args.t.now.root c.last_or.result c.args.changes.now c.last_or.ensures.none c.last_or.ensures.last (subst (λ (k : ℕ). FitsAt k c.args.t.now.root) low c.requires.fits) c.requires.leaves)

pub returns-then-height-eq0-clause-unit : goal.returns-then-height-eq0-clause-unit
returns-then-height-eq0-clause-unit g t c = λ ends some.
    let n = length c.args.changes.now - 1 in
    let size : length c.args.changes.now ≡ suc n = omega (arith, some) in
    subst IsOneUnit (sym (c.last_or.ensures.last (0, Hole) n size)) (ends n (0, Hole) size)

pub returns-then-height-eq0-clause-puts : goal.returns-then-height-eq0-clause-puts
returns-then-height-eq0-clause-puts g t c = λ s holds held.
    let tree = c.args.t.now in
    let changes = c.args.changes.now in
    let p = c.last_or.result in
    let old = c.args.old.now.items in
    let height_is : c.args.height ≡ 0 = c.if-height-eq0.true in
    let low : tree.height ≡ 0 = omega arith in
    record {
      stored = s;
      held = holds;
      is = subst (λ (h : ℕ). PutsTree h changes s s tree p old old) (sym height_is)
          (subst (λ (k : ℕ). PutsTree 0 changes s s (tree_of tree.root k) p old old) (sym low)
          (last_put tree.root p changes s old c.last_or.ensures.none c.last_or.ensures.last (subst (λ (h : ℕ). AllAt h 0 changes) height_is c.requires.here) c.requires.rises));
    }

-- ---- a taller tree

pub put_rows-requires : goal.put_rows-requires
put_rows-requires g t c κs within =
    let base = c.args.base in
    let height = c.args.height in
    let root = c.args.t.now.root in
    let changes = c.args.changes.now in
    let all = c.as_slice.result.now in
    let has : HasRoot root changes all = subst (HasRoot root changes) (sym c.as_slice.ensures.value) c.in_ok-all.ensures in
    let low : base + c.args.t.now.height ≡ base = omega arith in
    let leaves : AreOfLevel base all = all_hold (λ (change : ℕ × Ptr). FitsAt base change.1) root changes all has (subst (λ (k : ℕ). FitsAt k root) low c.requires.fits) c.requires.leaves in
    let here : AllAt height 0 all = all_hold (λ (change : ℕ × Ptr). change.0 / 32 ^ height ≡ 0) root changes all has (div-eq_of_lt (pow-pos height)) c.requires.here in
    let rises : Rises all = all_rise root changes all has c.requires.rises in
    let smaller : 2 * height + (1 - height) < 2 * height + (1 - c.args.t.now.height) = omega arith in
    search rules

module _ (height level : ℕ) (root : Ptr) (changes all : List (ℕ × Ptr)) (tall : height ≢ 0) (low : level ≡ 0) (has : HasRoot root changes all) where
  rooted : row_puts height height (length all) ≤ row_puts level height (length changes)
  rooted =
      let height_is : height ≡ suc (height - 1) = omega (arith, tall) in
      subst (λ (k : ℕ). row_puts height height (length all) ≤ row_puts k height (length changes)) (sym low)
      (subst (λ (h : ℕ). row_puts h h (length all) ≤ row_puts 0 h (length changes)) (sym height_is) (puts_rooted (height - 1) (length all) (length changes) (all_long root changes all has) (all_some root changes all has)))

pub returns-then-t-eq0-clause-costs : goal.returns-then-t-eq0-clause-costs
returns-then-t-eq0-clause-costs g t c =
    let root = c.args.t.now.root in
    let changes = c.args.changes.now in
    let all = c.as_slice.result.now in
    let has = subst (HasRoot root changes) (sym c.as_slice.ensures.value) c.in_ok-all.ensures in
    costs_most (row_puts c.args.t.now.height c.args.height (length changes)) 0 (rooted c.args.height c.args.t.now.height root changes all c.if-height-eq0.false c.if-t-eq0.true has) (omega arith) c.put_rows.ensures.costs

pub returns-then-t-eq0-clause-unit : goal.returns-then-t-eq0-clause-unit
returns-then-t-eq0-clause-unit g t c = λ ends some.
    let root = c.args.t.now.root in
    let changes = c.args.changes.now in
    let all = c.as_slice.result.now in
    let has = subst (HasRoot root changes) (sym c.as_slice.ensures.value) c.in_ok-all.ensures in
    c.put_rows.ensures.unit (all_end root changes all has some ends) (all_some root changes all has)

pub returns-then-t-eq0-clause-puts : goal.returns-then-t-eq0-clause-puts
returns-then-t-eq0-clause-puts g t c = λ s holds held.
    let root = c.args.t.now.root in
    let height = c.args.height in
    let changes = c.args.changes.now in
    let all = c.as_slice.result.now in
    let old = c.args.old.now.items in
    let new = c.put_rows.new.old.items in
    let has = subst (HasRoot root changes) (sym c.as_slice.ensures.value) c.in_ok-all.ensures in
    let low : c.args.t.now.height ≡ 0 = c.if-t-eq0.true in
    IfOk-weaker c.put_rows.result _ _ (λ p now. record {
      stored = now.stored;
      held = now.held;
      is = subst (λ (k : ℕ). PutsTree height changes s now.stored (tree_of root k) p old new) (sym low) (grown height height root p changes all s now.stored old new has c.requires.rises now.is);
    }) (c.put_rows.ensures.puts s holds (λ weight. let e = ap (sum_by weight) (hole_blocks s height) in omega (arith, e)))

-- ---- a row, and those above it

pub put_rows-requires-2 : goal.put_rows-requires-2
put_rows-requires-2 g t c κs within =
    let base = c.args.base in
    let height = c.args.height in
    let level = c.args.t.now.height in
    let root = c.args.t.now.root in
    let row = c.as_slice-2.result.now in
    let same : base + level ≡ base + 1 + (level - 1) = omega arith in
    let height_is : height ≡ suc (height - 1) = omega arith in
    let tall : base + 1 + (height - 1) ≤ 5 = omega arith in
    let high : level - 1 ≤ height - 1 = omega arith in
    let fits : FitsAt (base + 1 + (level - 1)) root = subst (λ (k : ℕ). FitsAt k root) same c.requires.fits in
    let leaves : AreOfLevel (base + 1) row = subst (AreOfLevel (base + 1)) (sym c.as_slice-2.ensures.value) c.in_ok-row.ensures.leaves in
    let here : AllAt (height - 1) 0 row = subst (AllAt (height - 1) 0) (sym c.as_slice-2.ensures.value) (c.in_ok-row.ensures.room (height - 1) (subst (λ (h : ℕ). AllAt h 0 c.args.changes.now) height_is c.requires.here)) in
    let rises : Rises row = subst Rises (sym c.as_slice-2.ensures.value) c.in_ok-row.ensures.rises in
    let smaller : 2 * (height - 1) + (1 - (level - 1)) < 2 * height + (1 - level) = omega arith in
    search rules

module _ (height level : ℕ) (changes : List (ℕ × Ptr)) (tall : height ≢ 0) (some : level ≢ 0) (le : level ≤ height) (here : AllAt height 0 changes) where
  above_is : height ≡ suc (height - 1)
  above_is = omega (arith, tall)

  rows : AreRows (row_most (height - 1) (length changes)) changes
  rows = rows_most (height - 1) changes (subst (λ (h : ℕ). AllAt h 0 changes) above_is here)

  step_puts : (few : ℕ) → few ≤ row_most (height - 1) (length changes) → row_most (height - 1) (length changes) + row_puts (level - 1) (height - 1) few ≤ row_puts level height (length changes)
  step_puts few fewer =
      let level_is : level ≡ suc (level - 1) = omega (arith, some) in
      subst (λ (k : ℕ). row_most (height - 1) (length changes) + row_puts (level - 1) (height - 1) few ≤ row_puts k height (length changes)) (sym level_is)
      (subst (λ (h : ℕ). row_most (height - 1) (length changes) + row_puts (level - 1) (height - 1) few ≤ row_puts (suc (level - 1)) h (length changes)) (sym above_is)
      (puts_stepped (level - 1) (height - 1) few (length changes) (omega (arith, tall, some, le)) fewer))

pub returns-in_err-row-clause-costs : goal.returns-in_err-row-clause-costs
returns-in_err-row-clause-costs g t c =
    let height = c.args.height in
    let level = c.args.t.now.height in
    let changes = c.args.changes.now in
    let all = rows height level changes c.if-height-eq0.false c.if-t-eq0.false c.requires.high c.requires.here in
    let le = step_puts height level changes c.if-height-eq0.false c.if-t-eq0.false c.requires.high c.requires.here 0 (omega arith) in
    costs_most (row_puts level height (length changes)) 0 (omega (arith, le)) (omega arith) (c.put_row.ensures.costs (row_most (height - 1) (length changes)) all)

pub returns-in_err-row-clause-cause : goal.returns-in_err-row-clause-cause
returns-in_err-row-clause-cause g t c =
    let height = c.args.height in
    let level = c.args.t.now.height in
    let changes = c.args.changes.now in
    let e = c.in_err-row in
    let x = c.from_residual-in_err-row in
    let all = rows height level changes c.if-height-eq0.false c.if-t-eq0.false c.requires.high c.requires.here in
    let le = step_puts height level changes c.if-height-eq0.false c.if-t-eq0.false c.requires.high c.requires.here 0 (omega arith) in
    cause_from {T = Vec (ℕ × Ptr) Global} x.result e.field-0.0 (err_from_is_err_and x.result x.ensures.1) (cause_most (row_puts level height (length changes)) (omega (arith, le)) (e.ensures.cause (row_most (height - 1) (length changes)) all))

pub returns-in_err-row-clause-errors : goal.returns-in_err-row-clause-errors
returns-in_err-row-clause-errors g t c = λ s holds held.
    let tree = c.args.t.now in
    let e = c.in_err-row in
    let x = c.from_residual-in_err-row in
    let level_is : tree.height ≡ suc (tree.height - 1) = omega arith in
    let held_suc = subst (λ (k : ℕ). AreStored (blocks s k tree.root) s) level_is held in
    let told = e.ensures.errors s holds held_suc in
    tells_from s (tree_blocks s tree) x.result e.field-0.0 (err_from_is_err_and x.result x.ensures.1) (subst (λ (k : ℕ). TellsOf {T = Vec (ℕ × Ptr) Global} s (blocks s k tree.root) (Err e.field-0.0)) (sym level_is) told)

pub returns-clause-costs : goal.returns-clause-costs
returns-clause-costs g t c =
    let height = c.args.height in
    let level = c.args.t.now.height in
    let changes = c.args.changes.now in
    let row = c.as_slice-2.result.now in
    let all = rows height level changes c.if-height-eq0.false c.if-t-eq0.false c.requires.high c.requires.here in
    let few = c.in_ok-row.ensures.few (row_most (height - 1) (length changes)) all in
    let long = ap (λ (xs : List (ℕ × Ptr)). length xs) c.as_slice-2.ensures.value in
    let le = step_puts height level changes c.if-height-eq0.false c.if-t-eq0.false c.requires.high c.requires.here (length row) (omega (arith, few, long)) in
    costs_most (row_puts level height (length changes)) 0 le (omega arith) (costs_then (c.put_row.ensures.costs (row_most (height - 1) (length changes)) all) c.put_rows-2.ensures.costs)

pub returns-clause-cause : goal.returns-clause-cause
returns-clause-cause g t c =
    let height = c.args.height in
    let level = c.args.t.now.height in
    let changes = c.args.changes.now in
    let row = c.as_slice-2.result.now in
    let all = rows height level changes c.if-height-eq0.false c.if-t-eq0.false c.requires.high c.requires.here in
    let few = c.in_ok-row.ensures.few (row_most (height - 1) (length changes)) all in
    let long = ap (λ (xs : List (ℕ × Ptr)). length xs) c.as_slice-2.ensures.value in
    let le = step_puts height level changes c.if-height-eq0.false c.if-t-eq0.false c.requires.high c.requires.here (length row) (omega (arith, few, long)) in
    cause_most (row_puts level height (length changes)) le (cause_then (c.put_row.ensures.costs (row_most (height - 1) (length changes)) all) c.put_rows-2.ensures.cause)

pub returns-clause-count : goal.returns-clause-count
returns-clause-count g t c =
    let level = c.args.t.now.height in
    let changes = c.args.changes.now in
    let row = c.as_slice-2.result.now in
    let few = c.in_ok-row.ensures.few (length changes) (inl (omega arith)) in
    let count = c.in_ok-row.ensures.count in
    let long = ap (λ (xs : List (ℕ × Ptr)). length xs) c.as_slice-2.ensures.value in
    let more : (level - 1) * length row ≤ (level - 1) * length changes = mul-le-mul_left (level - 1) (omega (arith, few, long)) in
    let level_is : level ≡ suc (level - 1) = omega arith in
    let all : level * length changes ≡ suc (level - 1) * length changes = ap (λ (k : ℕ). k * length changes) level_is in
    on_ok_weaker c.put_rows-2.result (λ le. omega (arith, le, few, count, long, more, all, suc-mul (level - 1) (length changes))) c.put_rows-2.ensures.count

pub returns-clause-errors : goal.returns-clause-errors
returns-clause-errors g t c = λ s holds held.
    let tree = c.args.t.now in
    let level = tree.height - 1 in
    let level_is : tree.height ≡ suc (tree.height - 1) = omega arith in
    let held_suc = subst (λ (k : ℕ). AreStored (blocks s k tree.root) s) level_is held in
    let held_above : AreStored (blocks s level tree.root) s = λ weight. let w = held_suc weight in let u = blocks_up s level tree.root weight in omega (arith, w, u) in
    let lower = c.in_ok-row.ensures.puts s holds held_suc in
    let s1 = lower.stored in
    let grows : (weight : Bptr → ℕ) → sum_by weight s.pointers ≤ sum_by weight s1.pointers = λ weight. let w = lower.is.stored weight in omega (arith, w) in
    let told = c.put_rows-2.ensures.errors s1 lower.held (stored_kept s s1 level tree.root lower.is.kept grows held_above) in
    subst (λ (k : ℕ). TellsOf s (blocks s k tree.root) c.put_rows-2.result) (sym level_is)
    (tells_within s (blocks s level tree.root) (blocks s (suc level) tree.root) c.put_rows-2.result (above_within s level tree.root) (tells_kept s s1 level tree.root c.put_rows-2.result lower.is.kept grows held_above told))

pub returns-clause-puts : goal.returns-clause-puts
returns-clause-puts g t c = λ s holds held.
    let tree = c.args.t.now in
    let root = tree.root in
    let height = c.args.height - 1 in
    let level = tree.height - 1 in
    let changes = c.args.changes.now in
    let row = c.in_ok-row.row.items in
    let old = c.args.old.now.items in
    let mid = c.put_row.new.old.items in
    let new = c.put_rows-2.new.old.items in
    let level_is : tree.height ≡ suc (tree.height - 1) = omega arith in
    let height_is : c.args.height ≡ suc (c.args.height - 1) = omega arith in
    let held_suc = subst (λ (k : ℕ). AreStored (blocks s k root) s) level_is held in
    let held_above : AreStored (blocks s level root) s = λ weight. let w = held_suc weight in let u = blocks_up s level root weight in omega (arith, w, u) in
    let lower = c.in_ok-row.ensures.puts s holds held_suc in
    let s1 = lower.stored in
    let grows : (weight : Bptr → ℕ) → sum_by weight s.pointers ≤ sum_by weight s1.pointers = λ weight. let w = lower.is.stored weight in omega (arith, w) in
    IfOk-weaker c.put_rows-2.result _ _ (λ p now. record {
      stored = now.stored;
      held = now.held;
      is = subst (λ (h : ℕ). PutsTree h changes s now.stored tree p old new) (sym height_is)
          (subst (λ (k : ℕ). PutsTree (suc height) changes s now.stored (tree_of root k) p old new) (sym level_is)
          (stepped height level root p changes row s s1 now.stored old mid new held_suc lower.is
          (subst (λ (xs : List (ℕ × Ptr)). PutsTree height xs s1 now.stored (tree_of root level) p mid new) c.as_slice-2.ensures.value now.is)));
    }) (c.put_rows-2.ensures.puts s1 lower.held (stored_kept s s1 level root lower.is.kept grows held_above))

-- ---- no more than the tree has

-- the root lies at the first place
pub returns-then-t-eq0-clause-whole : goal.returns-then-t-eq0-clause-whole
returns-then-t-eq0-clause-whole g t c = λ n some below.
    let root = c.args.t.now.root in
    let changes = c.args.changes.now in
    let has = c.in_ok-all.ensures in
    c.put_rows.ensures.whole n some (subst (AreBelow n) (sym c.as_slice.ensures.value) (all_hold (λ (change : ℕ × Ptr). change.0 < n) root changes c.in_ok-all.all.items has some below))

pub returns-then-t-eq0-clause-whole_cause : goal.returns-then-t-eq0-clause-whole_cause
returns-then-t-eq0-clause-whole_cause g t c = λ n some below.
    let root = c.args.t.now.root in
    let changes = c.args.changes.now in
    let has = c.in_ok-all.ensures in
    c.put_rows.ensures.whole_cause n some (subst (AreBelow n) (sym c.as_slice.ensures.value) (all_hold (λ (change : ℕ × Ptr). change.0 < n) root changes c.in_ok-all.all.items has some below))

pub returns-in_err-row-clause-whole : goal.returns-in_err-row-clause-whole
returns-in_err-row-clause-whole g t c = λ n some below. row_costs c.args.height n c.if-height-eq0.false (c.put_row.ensures.whole n below)

pub returns-in_err-row-clause-whole_cause : goal.returns-in_err-row-clause-whole_cause
returns-in_err-row-clause-whole_cause g t c = λ n some below.
    let e = c.in_err-row in
    let x = c.from_residual-in_err-row in
    cause_from {T = Vec (ℕ × Ptr) Global} x.result e.field-0.0 (err_from_is_err_and x.result x.ensures.1) (row_cause c.args.height n c.if-height-eq0.false (e.ensures.whole_cause n below))

pub returns-clause-whole : goal.returns-clause-whole
returns-clause-whole g t c = λ n some below.
    let row = subst (AreBelow (div_ceil n 32)) (sym c.as_slice-2.ensures.value) (c.in_ok-row.ensures.below n below) in
    rows_costs c.args.height n c.if-height-eq0.false (c.put_row.ensures.whole n below) (c.put_rows-2.ensures.whole (div_ceil n 32) (some_over n some) row)

pub returns-clause-whole_cause : goal.returns-clause-whole_cause
returns-clause-whole_cause g t c = λ n some below.
    let row = subst (AreBelow (div_ceil n 32)) (sym c.as_slice-2.ensures.value) (c.in_ok-row.ensures.below n below) in
    rows_cause c.args.height n c.if-height-eq0.false (c.put_row.ensures.whole n below) (c.put_rows-2.ensures.whole_cause (div_ceil n 32) (some_over n some) row)
