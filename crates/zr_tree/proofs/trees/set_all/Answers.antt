use Rattle.zr_bptr.specs.declared.Ptr.TheVariants.{Hole}
use Rattle.std.proofs.Common.{inl, inr, get_or, ◌/◌, ◌^◌, ◌≡◌, ◌+◌, ◌*◌, ◌-◌, ◌<◌, ◌≤◌, ◌++◌, ℕ, List, length, take, drop, subst, sym, arith}
use Rattle.std.proofs.lemmas.Result.{err_from_is_err_and}
use Rattle.std.proofs.lemmas.List.{length-take, take-append-drop}
use Rattle.std.proofs.lemmas.List.Elements.{All-drop, All-append, All-take}
use Rattle.zr_bptr.specs.declared.Ptr.{Ptr}
use Rattle.zr_bptr.specs.declared.Tree.{Tree}
use Rattle.zr_store.specs.Causes.{Costs, HasCause}
use Rattle.zr_store.proofs.Causes.{costs_most, cause_most, cause_from}
use Rattle.std.specs.Prelude.{All}
use Rattle.zr_tree.specs.Trees.{AreBelow, blocks_over, most_puts, most_frees, Rises, IsTreeWay}
use Rattle.zr_tree.proofs.Costing.{one_height, puts_within, frees_within, puts_fewer, frees_fewer}
use Rattle.zr_tree.proofs.Raise.{whole}
use Rattle.zr_tree.proofs.Each.{rises_front, rises_back}
use Rattle.zr_tree.proofs.Units.{unit_there, units_front, some_front}
use Rattle.zr_tree.proofs.Past.{InRoom, later_past, first_past, with_past, past_ways}
use Rattle.zr_tree.proofs.trees.set_all.Goals as goal

pub returns-clause-sets : goal.returns-clause-sets
returns-clause-sets g c = λ s holds held.
    let changes = c.args.changes.now in
    let height = c.height_for-height.result in
    let n = c.run_len-n.result in
    let low = take n changes in
    let high = drop n changes in
    let parts : low ++ high ≡ changes = take-append-drop n changes in
    let rises = subst Rises (sym parts) c.requires.rises in
    let room = All-drop (InRoom height) n changes c.height_for-height.ensures.height.room in
    let t = c.args.t.now in
    let u : Tree = record { root = c.in_ok-root.root; height = height } in
    let root = c.in_ok-root.ensures.raises s holds held in
    record {
      stored = root.stored;
      held = root.held;
      is = with_past changes low high s root.stored t u parts c.height_for-height.ensures.height.grows (later_past height high (rises_back low high rises) room (first_past height n changes c.run_len-n.ensures.past))
          (whole low s root.stored t u c.height_for-height.ensures.height.grows c.run_len-n.ensures.here (g.met.B.Blocks.once c.args.store.now s holds) root.is);
    }

pub raise-requires-clause-rises : goal.raise-requires-clause-rises
raise-requires-clause-rises g c = let changes = c.args.changes.now in let n = c.run_len-n.result in rises_front (take n changes) (drop n changes) (subst Rises (sym (take-append-drop n changes)) c.requires.rises)

pub returns-clause-way : goal.returns-clause-way
returns-clause-way g c = λ s holds held.
    let changes = c.args.changes.now in
    let height = c.height_for-height.result in
    let n = c.run_len-n.result in
    let low = take n changes in
    let high = drop n changes in
    let parts : low ++ high ≡ changes = take-append-drop n changes in
    let rises = subst Rises (sym parts) c.requires.rises in
    let room = All-drop (InRoom height) n changes c.height_for-height.ensures.height.room in
    let past = later_past height high (rises_back low high rises) room (first_past height n changes c.run_len-n.ensures.past) in
    let t = c.args.t.now in
    let root = c.in_ok-root.ensures.raises s holds held in
    subst (All (λ (change : ℕ × Ptr). IsTreeWay s t change.0)) parts (All-append (λ (change : ℕ × Ptr). IsTreeWay s t change.0) low high root.is.ways (past_ways s t height high c.height_for-height.ensures.height.grows past))

-- the changes that are made are not more than all
fewer : (changes : List (ℕ × Ptr)) (n : ℕ) → length (take n changes) ≤ length changes
fewer changes n = omega (arith, length-take n changes)

pub returns-clause-costs : goal.returns-clause-costs
returns-clause-costs g c = λ height is.
    let changes = c.args.changes.now in
    let h = c.args.t.now.height in
    let top = c.height_for-height.result in
    let few = fewer changes c.run_len-n.result in
    subst (λ (l : ℕ). Costs (most_puts h l (length changes)) (most_frees h l (length changes)) (g.B.Blocks.account c.args.store.now) (g.B.Blocks.account c.raise.new.store)) (one_height h top height changes c.height_for-height.ensures.height is)
    (costs_most (most_puts h top (length changes)) (most_frees h top (length changes)) (puts_fewer h top _ (length changes) few) (frees_fewer h top _ (length changes) few) c.raise.ensures.costs)

pub returns-clause-most : goal.returns-clause-most
returns-clause-most g c =
    let changes = c.args.changes.now in
    let h = c.args.t.now.height in
    let l = c.height_for-height.result in
    let e = c.height_for-height.ensures in
    let few = fewer changes c.run_len-n.result in
    let puts = puts_fewer h l (length (take c.run_len-n.result changes)) (length changes) few in
    let frees = frees_fewer h l (length (take c.run_len-n.result changes)) (length changes) few in
    costs_most (5 * length changes + 4) (5 * length changes) (omega (arith, puts, puts_within h l 5 changes e.tall e.height)) (omega (arith, frees, frees_within h l 5 changes e.tall e.height)) c.raise.ensures.costs

pub returns-clause-within : goal.returns-clause-within
returns-clause-within g c = λ top grows room.
    let changes = c.args.changes.now in
    let h = c.args.t.now.height in
    let l = c.height_for-height.result in
    let e = c.height_for-height.ensures in
    let few = fewer changes c.run_len-n.result in
    let puts = puts_fewer h l (length (take c.run_len-n.result changes)) (length changes) few in
    let frees = frees_fewer h l (length (take c.run_len-n.result changes)) (length changes) few in
    let tall = e.height.least top grows room in
    costs_most (top * length changes + (top - 1)) (top * length changes) (omega (arith, puts, puts_within h l top changes tall e.height)) (omega (arith, frees, frees_within h l top changes tall e.height)) c.raise.ensures.costs

pub returns-in_err-root-clause-costs : goal.returns-in_err-root-clause-costs
returns-in_err-root-clause-costs g c = λ height is.
    let changes = c.args.changes.now in
    let h = c.args.t.now.height in
    let top = c.height_for-height.result in
    let few = fewer changes c.run_len-n.result in
    subst (λ (l : ℕ). Costs (most_puts h l (length changes)) (most_frees h l (length changes)) (g.B.Blocks.account c.args.store.now) (g.B.Blocks.account c.raise.new.store)) (one_height h top height changes c.height_for-height.ensures.height is)
    (costs_most (most_puts h top (length changes)) (most_frees h top (length changes)) (puts_fewer h top _ (length changes) few) (frees_fewer h top _ (length changes) few) c.raise.ensures.costs)

pub returns-in_err-root-clause-cause : goal.returns-in_err-root-clause-cause
returns-in_err-root-clause-cause g c = λ height is.
    let changes = c.args.changes.now in
    let h = c.args.t.now.height in
    let top = c.height_for-height.result in
    let few = fewer changes c.run_len-n.result in
    let x = c.from_residual in
    subst (λ (l : ℕ). HasCause (most_puts h l (length changes)) (g.B.Blocks.account c.args.store.now) (g.B.Blocks.account c.raise.new.store) x.result) (one_height h top height changes c.height_for-height.ensures.height is)
    (cause_from {T = Ptr} x.result c.in_err-root.field-0.0 (err_from_is_err_and x.result x.ensures.1) (cause_most (most_puts h top (length changes)) (puts_fewer h top _ (length changes) few) c.in_err-root.ensures.cause))

pub returns-in_err-root-clause-most : goal.returns-in_err-root-clause-most
returns-in_err-root-clause-most g c =
    let changes = c.args.changes.now in
    let h = c.args.t.now.height in
    let l = c.height_for-height.result in
    let e = c.height_for-height.ensures in
    let few = fewer changes c.run_len-n.result in
    let puts = puts_fewer h l (length (take c.run_len-n.result changes)) (length changes) few in
    let frees = frees_fewer h l (length (take c.run_len-n.result changes)) (length changes) few in
    costs_most (5 * length changes + 4) (5 * length changes) (omega (arith, puts, puts_within h l 5 changes e.tall e.height)) (omega (arith, frees, frees_within h l 5 changes e.tall e.height)) c.raise.ensures.costs

pub returns-in_err-root-clause-within : goal.returns-in_err-root-clause-within
returns-in_err-root-clause-within g c = λ top grows room.
    let changes = c.args.changes.now in
    let h = c.args.t.now.height in
    let l = c.height_for-height.result in
    let e = c.height_for-height.ensures in
    let few = fewer changes c.run_len-n.result in
    let puts = puts_fewer h l (length (take c.run_len-n.result changes)) (length changes) few in
    let frees = frees_fewer h l (length (take c.run_len-n.result changes)) (length changes) few in
    let tall = e.height.least top grows room in
    costs_most (top * length changes + (top - 1)) (top * length changes) (omega (arith, puts, puts_within h l top changes tall e.height)) (omega (arith, frees, frees_within h l top changes tall e.height)) c.raise.ensures.costs

pub returns-in_err-root-clause-most_cause : goal.returns-in_err-root-clause-most_cause
returns-in_err-root-clause-most_cause g c =
    let changes = c.args.changes.now in
    let h = c.args.t.now.height in
    let l = c.height_for-height.result in
    let e = c.height_for-height.ensures in
    let few = fewer changes c.run_len-n.result in
    let puts = puts_fewer h l (length (take c.run_len-n.result changes)) (length changes) few in
    let x = c.from_residual in
    cause_from {T = Ptr} x.result c.in_err-root.field-0.0 (err_from_is_err_and x.result x.ensures.1) (cause_most (5 * length changes + 4) (omega (arith, puts, puts_within h l 5 changes e.tall e.height)) c.in_err-root.ensures.cause)

pub returns-in_err-root-clause-within_cause : goal.returns-in_err-root-clause-within_cause
returns-in_err-root-clause-within_cause g c = λ top grows room.
    let changes = c.args.changes.now in
    let h = c.args.t.now.height in
    let l = c.height_for-height.result in
    let e = c.height_for-height.ensures in
    let few = fewer changes c.run_len-n.result in
    let puts = puts_fewer h l (length (take c.run_len-n.result changes)) (length changes) few in
    let tall = e.height.least top grows room in
    let x = c.from_residual in
    cause_from {T = Ptr} x.result c.in_err-root.field-0.0 (err_from_is_err_and x.result x.ensures.1) (cause_most (top * length changes + (top - 1)) (omega (arith, puts, puts_within h l top changes tall e.height)) c.in_err-root.ensures.cause)

pub returns-clause-unit : goal.returns-clause-unit
returns-clause-unit g c = λ units some.
    let changes = c.args.changes.now in
    let n = c.run_len-n.result in
    let place : (get_or changes 0 (0, Hole)).0 / 32 ^ c.height_for-height.result ≡ 0 = elim (c.height_for-height.ensures.height.room 0 (0, Hole) some) [
      | inl hole ↦ absurd (unit_there (get_or changes 0 (0, Hole)).1 (units 0 (0, Hole) some) hole)
      | inr low ↦ low
    ] in
    c.in_ok-root.ensures.unit (units_front n changes units) (some_front n changes (c.run_len-n.ensures.some (0, Hole) some place) c.run_len-n.ensures.within)

-- ---- no more than the tree has

front_below : (n k : ℕ) (changes : List (ℕ × Ptr)) → AreBelow n changes → AreBelow n (take k changes)
front_below n k changes below = All-take (λ (change : ℕ × Ptr). change.0 < n) k changes below

pub returns-clause-whole : goal.returns-clause-whole
returns-clause-whole g c = λ n height is some below.
    let changes = c.args.changes.now in
    let h = c.args.t.now.height in
    let top = c.height_for-height.result in
    let few = fewer changes c.run_len-n.result in
    subst (λ (l : ℕ). Costs (blocks_over l n) (most_frees h l (length changes)) (g.B.Blocks.account c.args.store.now) (g.B.Blocks.account c.raise.new.store)) (one_height h top height changes c.height_for-height.ensures.height is)
    (costs_most (blocks_over top n) (most_frees h top (length changes)) (omega arith) (frees_fewer h top _ (length changes) few) (c.raise.ensures.whole n some (front_below n c.run_len-n.result changes below)))

pub returns-in_err-root-clause-whole : goal.returns-in_err-root-clause-whole
returns-in_err-root-clause-whole g c = λ n height is some below.
    let changes = c.args.changes.now in
    let h = c.args.t.now.height in
    let top = c.height_for-height.result in
    let few = fewer changes c.run_len-n.result in
    subst (λ (l : ℕ). Costs (blocks_over l n) (most_frees h l (length changes)) (g.B.Blocks.account c.args.store.now) (g.B.Blocks.account c.raise.new.store)) (one_height h top height changes c.height_for-height.ensures.height is)
    (costs_most (blocks_over top n) (most_frees h top (length changes)) (omega arith) (frees_fewer h top _ (length changes) few) (c.raise.ensures.whole n some (front_below n c.run_len-n.result changes below)))

pub returns-in_err-root-clause-whole_cause : goal.returns-in_err-root-clause-whole_cause
returns-in_err-root-clause-whole_cause g c = λ n height is some below.
    let changes = c.args.changes.now in
    let h = c.args.t.now.height in
    let top = c.height_for-height.result in
    let x = c.from_residual in
    subst (λ (l : ℕ). HasCause (blocks_over l n) (g.B.Blocks.account c.args.store.now) (g.B.Blocks.account c.raise.new.store) x.result) (one_height h top height changes c.height_for-height.ensures.height is)
    (cause_from {T = Ptr} x.result c.in_err-root.field-0.0 (err_from_is_err_and x.result x.ensures.1) (c.in_err-root.ensures.whole_cause n some (front_below n c.run_len-n.result changes below)))
