use Rattle.std.proofs.Common.{◌≡◌, ◌+◌, ◌*◌, ◌≤◌, List, [], ℕ, length, sym, ap, subst, arith}
use Rattle.std.proofs.lemmas.Result.{err_from_is_err_and}
use Rattle.zr_bptr.specs.declared.Bptr.{Bptr}
use Rattle.zr_bptr.specs.declared.Ptr.{Ptr}
use Rattle.zr_store.specs.Store.{AreStored, Swaps}
use Rattle.zr_store.proofs.Causes.{costs_then, costs_most, cause_then, cause_most, cause_from}
use Rattle.zr_tree.specs.Trees.{PutsTree, blocks_over, most_puts, most_frees, tree_blocks}
use Rattle.zr_tree.proofs.Costing.{puts_rows, frees_rows}
use Rattle.zr_tree.proofs.Raise.{gone_stored, given_back}
use Rattle.zr_tree.proofs.Wholes.{tells_from, tells_empty}
use Rattle.zr_tree.proofs.trees.raise.Goals as goal

pub returns-clause-raises : goal.returns-clause-raises
returns-clause-raises g c = λ s0 holds held.
    let t = c.args.t.now in
    let changes = c.args.changes.now in
    let level = c.args.level in
    let gone = c.put_rows.new.old.items in
    let first = c.in_ok-root.ensures.puts s0 holds held in
    let s1 = first.stored in
    let put = subst (λ (none : List Bptr). PutsTree level changes s0 s1 t c.in_ok-root.root none gone) c.new-old.ensures.items first.is in
    let stored = gone_stored level changes s0 s1 t c.in_ok-root.root gone put held in
    let second = c.in_ok-free_all.ensures.swaps s1 first.held (subst (λ (bs : List Bptr). AreStored bs s1) (sym c.as_slice.ensures.value) stored) in
    let s2 = second.stored in
    let free = subst (λ (bs : List Bptr). Swaps s1 s2 bs []) c.as_slice.ensures.value second.is in
    record {
      stored = s2;
      held = second.held;
      is = given_back level changes s0 s1 s2 t c.in_ok-root.root gone put free held (g.met.B.Blocks.once c.put_rows.new.store s1 first.held);
    }

pub returns-in_err-root-clause-costs : goal.returns-in_err-root-clause-costs
returns-in_err-root-clause-costs g c =
    let h = c.args.t.now.height in
    let l = c.args.level in
    let n = length c.args.changes.now in
    costs_most (most_puts h l n) (most_frees h l n) (puts_rows h l n c.requires.high) (omega arith) c.put_rows.ensures.costs

pub returns-in_err-root-clause-cause : goal.returns-in_err-root-clause-cause
returns-in_err-root-clause-cause g c =
    let h = c.args.t.now.height in
    let l = c.args.level in
    let n = length c.args.changes.now in
    let x = c.from_residual in
    cause_from {T = Ptr} x.result c.in_err-root.field-0.0 (err_from_is_err_and x.result x.ensures.1) (cause_most (most_puts h l n) (puts_rows h l n c.requires.high) c.in_err-root.ensures.cause)

-- what is given back is not more than the tree's height for each change
few_frees : (h l n long : ℕ) (none noted : List Bptr) → h ≤ l → none ≡ [] → length noted ≤ length none + h * n → long ≡ length noted → long ≤ most_frees h l n
few_frees h l n long none noted le empty few same = let e = ap (λ (bs : List Bptr). length bs) empty in omega (arith, same, few, e, frees_rows h l n le)

pub returns-in_err-free_all-clause-costs : goal.returns-in_err-free_all-clause-costs
returns-in_err-free_all-clause-costs g c =
    let h = c.args.t.now.height in
    let l = c.args.level in
    let n = length c.args.changes.now in
    let gone = c.as_slice.result.now in
    let few = few_frees h l n (length gone) c.new-old.result.items c.put_rows.new.old.items c.requires.high c.new-old.ensures.items c.in_ok-root.ensures.count (ap (λ (bs : List Bptr). length bs) c.as_slice.ensures.value) in
    costs_most (most_puts h l n) (most_frees h l n) (let le = puts_rows h l n c.requires.high in omega (arith, le)) (omega (arith, few)) (costs_then c.put_rows.ensures.costs c.free_all.ensures.costs)

pub returns-clause-costs : goal.returns-clause-costs
returns-clause-costs g c =
    let h = c.args.t.now.height in
    let l = c.args.level in
    let n = length c.args.changes.now in
    let gone = c.as_slice.result.now in
    let few = few_frees h l n (length gone) c.new-old.result.items c.put_rows.new.old.items c.requires.high c.new-old.ensures.items c.in_ok-root.ensures.count (ap (λ (bs : List Bptr). length bs) c.as_slice.ensures.value) in
    costs_most (most_puts h l n) (most_frees h l n) (let le = puts_rows h l n c.requires.high in omega (arith, le)) (omega (arith, few)) (costs_then c.put_rows.ensures.costs c.free_all.ensures.costs)

pub returns-in_err-free_all-clause-cause : goal.returns-in_err-free_all-clause-cause
returns-in_err-free_all-clause-cause g c =
    let h = c.args.t.now.height in
    let l = c.args.level in
    let n = length c.args.changes.now in
    let e = c.in_err-free_all in
    let x = c.from_residual-in_err-free_all in
    cause_from {T = Unit {0}} x.result e.field-0.0 (err_from_is_err_and x.result x.ensures.1) (cause_most (most_puts h l n) (let le = puts_rows h l n c.requires.high in omega (arith, le)) (cause_then c.put_rows.ensures.costs e.ensures.cause))

pub returns-in_err-free_all-clause-errors : goal.returns-in_err-free_all-clause-errors
returns-in_err-free_all-clause-errors g c = λ s0 holds held.
    let e = c.in_err-free_all in
    let x = c.from_residual-in_err-free_all in
    tells_from s0 (tree_blocks s0 c.args.t.now) x.result e.field-0.0 (err_from_is_err_and x.result x.ensures.1) (tells_empty s0 s0 (tree_blocks s0 c.args.t.now) _ (e.ensures.errors s0))

pub returns-in_err-root-clause-whole : goal.returns-in_err-root-clause-whole
returns-in_err-root-clause-whole g c = λ n some below.
    let l = c.args.level in
    costs_most (blocks_over l n) (most_frees c.args.t.now.height l (length c.args.changes.now)) (omega arith) (omega arith) (c.put_rows.ensures.whole n some below)

pub returns-in_err-root-clause-whole_cause : goal.returns-in_err-root-clause-whole_cause
returns-in_err-root-clause-whole_cause g c = λ n some below.
    let x = c.from_residual in
    cause_from {T = Ptr} x.result c.in_err-root.field-0.0 (err_from_is_err_and x.result x.ensures.1) (c.in_err-root.ensures.whole_cause n some below)

pub returns-in_err-free_all-clause-whole : goal.returns-in_err-free_all-clause-whole
returns-in_err-free_all-clause-whole g c = λ n some below.
    let h = c.args.t.now.height in
    let l = c.args.level in
    let few = few_frees h l (length c.args.changes.now) (length c.as_slice.result.now) c.new-old.result.items c.put_rows.new.old.items c.requires.high c.new-old.ensures.items c.in_ok-root.ensures.count (ap (λ (bs : List Bptr). length bs) c.as_slice.ensures.value) in
    costs_most (blocks_over l n) (most_frees h l (length c.args.changes.now)) (omega arith) (omega (arith, few)) (costs_then (c.put_rows.ensures.whole n some below) c.free_all.ensures.costs)

pub returns-in_err-free_all-clause-whole_cause : goal.returns-in_err-free_all-clause-whole_cause
returns-in_err-free_all-clause-whole_cause g c = λ n some below.
    let l = c.args.level in
    let e = c.in_err-free_all in
    let x = c.from_residual-in_err-free_all in
    cause_from {T = Unit {0}} x.result e.field-0.0 (err_from_is_err_and x.result x.ensures.1) (cause_most (blocks_over l n) (omega arith) (cause_then (c.put_rows.ensures.whole n some below) e.ensures.cause))

pub returns-clause-whole : goal.returns-clause-whole
returns-clause-whole g c = λ n some below.
    let h = c.args.t.now.height in
    let l = c.args.level in
    let few = few_frees h l (length c.args.changes.now) (length c.as_slice.result.now) c.new-old.result.items c.put_rows.new.old.items c.requires.high c.new-old.ensures.items c.in_ok-root.ensures.count (ap (λ (bs : List Bptr). length bs) c.as_slice.ensures.value) in
    costs_most (blocks_over l n) (most_frees h l (length c.args.changes.now)) (omega arith) (omega (arith, few)) (costs_then (c.put_rows.ensures.whole n some below) c.free_all.ensures.costs)
