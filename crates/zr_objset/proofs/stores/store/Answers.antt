use Rattle.std.proofs.Common.{◌<◌, ◌+◌, ◌*◌, [], List, ℕ, length, sym, ap, subst, arith}
use Rattle.std.specs.Prelude.{All}
use Rattle.std.specs.List.{flat_map}
use Rattle.std.proofs.lemmas.Result.{err_from_is_err_and}
use Rattle.zr_bptr.specs.declared.Ptr.{Ptr}
use Rattle.zr_bptr.specs.declared.Tree.{Tree}
use Rattle.zr_store.specs.Store.{AreStored, Swaps}
use Rattle.zr_store.proofs.Causes.{costs_then, cause_then, cause_most, cause_from}
use Rattle.zr_tree.specs.Trees.{own, tree_reach, SetsTree}
use Rattle.zr_objset.specs.Errors.{IsNoLeaf}
use Rattle.zr_objset.specs.Changes.{leaves_of}
use Rattle.zr_objset.proofs.Tells.{leaves_from, tells_tree}
use Rattle.zr_objset.proofs.Changing.{news_of}
use Rattle.zr_objset.proofs.Early.{early_tree}
use Rattle.zr_objset.proofs.Storing.{dir_stored, olds_stored, stores_records, all_costs, set_costs, has_room}
use Rattle.zr_objset.proofs.stores.store.Goals as goal

pub returns-clause-stores : goal.returns-clause-stores
returns-clause-stores g c = λ s0 holds held.
    let changes = c.args.changes.now in
    let dir = c.args.dir.now in
    let u = c.in_ok-new.new in
    let news = c.in_ok-news.news.items in
    let olds = c.put_leaves.new.olds.items in
    let first = c.in_ok-news.ensures.puts s0 holds held in
    let s1 = first.stored in
    let olds_are = c.in_ok-news.ensures.olds s0 holds held in
    let second = c.in_ok-new.ensures.sets s1 first.held (dir_stored changes s0 s1 dir news first.is held) in
    let s2 = second.stored in
    let sets = subst (λ (xs : List (ℕ × Ptr)). SetsTree xs s1 s2 dir u) c.as_slice.ensures.value second.is in
    let there = olds_stored changes s0 s1 s2 dir u news olds first.is sets olds_are held in
    let third = c.in_ok-free_leaves.ensures.swaps s2 second.held (subst (λ (xs : List Ptr). AreStored (flat_map own xs) s2) (sym c.as_slice-2.ensures.value) there) in
    let s3 = third.stored in
    let free = subst (λ (xs : List Ptr). Swaps s2 s3 (flat_map own xs) []) c.as_slice-2.ensures.value third.is in
    record {
      stored = s3;
      held = third.held;
      is = stores_records changes s0 s1 s2 dir u news olds first.is sets olds_are held s3 free (g.met.B.Blocks.once c.args.store.now s0 holds) (g.met.B.Blocks.once c.put_leaves.new.store s1 first.held) (g.met.B.Blocks.once c.set_all.new.store s2 second.held);
    }

pub returns-clause-way : goal.returns-clause-way
returns-clause-way g c = λ s holds held. (c.in_ok-news.ensures.puts s holds held).is.ways

pub returns-clause-formed : goal.returns-clause-formed
returns-clause-formed g c = λ s holds held. (c.in_ok-news.ensures.puts s holds held).is.formed

pub returns-clause-low : goal.returns-clause-low
returns-clause-low g c =
    let slice = c.as_slice.result.now in
    let room = has_room slice (subst (All (λ (leaf : ℕ × Ptr). leaf.0 < 4096)) (sym c.as_slice.ensures.value) c.in_ok-news.ensures.places) in
    c.in_ok-new.ensures.height.least 3 c.requires.low room

pub returns-clause-costs : goal.returns-clause-costs
returns-clause-costs g c =
    let k = length c.args.changes.now in
    let slice = c.as_slice.result.now in
    let room = has_room slice (subst (All (λ (leaf : ℕ × Ptr). leaf.0 < 4096)) (sym c.as_slice.ensures.value) c.in_ok-news.ensures.places) in
    let news_len = ap (λ (xs : List (ℕ × Ptr)). length xs) c.as_slice.ensures.value in
    let olds_len = ap (λ (xs : List Ptr). length xs) c.as_slice-2.ensures.value in
    let count = c.in_ok-news.ensures.count in
    let same = c.in_ok-news.ensures.same_count in
    all_costs k (length slice) (length c.as_slice-2.result.now) (omega (arith, news_len, count)) (omega (arith, news_len, olds_len, same)) c.put_leaves.ensures.costs (c.set_all.ensures.within 3 c.requires.low room) c.free_leaves.ensures.costs

pub returns-in_err-free_leaves-clause-costs : goal.returns-in_err-free_leaves-clause-costs
returns-in_err-free_leaves-clause-costs g c =
    let k = length c.args.changes.now in
    let slice = c.as_slice.result.now in
    let room = has_room slice (subst (All (λ (leaf : ℕ × Ptr). leaf.0 < 4096)) (sym c.as_slice.ensures.value) c.in_ok-news.ensures.places) in
    let news_len = ap (λ (xs : List (ℕ × Ptr)). length xs) c.as_slice.ensures.value in
    let olds_len = ap (λ (xs : List Ptr). length xs) c.as_slice-2.ensures.value in
    let count = c.in_ok-news.ensures.count in
    let same = c.in_ok-news.ensures.same_count in
    all_costs k (length slice) (length c.as_slice-2.result.now) (omega (arith, news_len, count)) (omega (arith, news_len, olds_len, same)) c.put_leaves.ensures.costs (c.set_all.ensures.within 3 c.requires.low room) c.free_leaves.ensures.costs

pub returns-in_err-free_leaves-clause-cause : goal.returns-in_err-free_leaves-clause-cause
returns-in_err-free_leaves-clause-cause g c =
    let k = length c.args.changes.now in
    let slice = c.as_slice.result.now in
    let room = has_room slice (subst (All (λ (leaf : ℕ × Ptr). leaf.0 < 4096)) (sym c.as_slice.ensures.value) c.in_ok-news.ensures.places) in
    let news_len = ap (λ (xs : List (ℕ × Ptr)). length xs) c.as_slice.ensures.value in
    let count = c.in_ok-news.ensures.count in
    let e = c.in_err-free_leaves in
    let x = c.from_residual-in_err-free_leaves in
    cause_from {T = Unit {0}} x.result e.field-0.0 (err_from_is_err_and x.result x.ensures.1)
    (cause_most (4 * k + 2) (omega (arith, news_len, count)) (cause_then (costs_then c.put_leaves.ensures.costs (c.set_all.ensures.within 3 c.requires.low room)) e.ensures.cause))

pub returns-in_err-free_leaves-clause-errors : goal.returns-in_err-free_leaves-clause-errors
returns-in_err-free_leaves-clause-errors g c = λ s holds held.
    let dir = c.args.dir.now in
    let leaves = leaves_of s dir c.args.changes.now in
    let e = c.in_err-free_leaves in
    let x = c.from_residual-in_err-free_leaves in
    leaves_from s (tree_reach s dir) leaves (IsNoLeaf s) x.result e.field-0.0 (err_from_is_err_and x.result x.ensures.1) (tells_tree s [] (tree_reach s dir) leaves (IsNoLeaf s) _ (λ weight. omega arith) (e.ensures.errors s))

pub returns-in_err-new-clause-costs : goal.returns-in_err-new-clause-costs
returns-in_err-new-clause-costs g c =
    let k = length c.args.changes.now in
    let slice = c.as_slice.result.now in
    let room = has_room slice (subst (All (λ (leaf : ℕ × Ptr). leaf.0 < 4096)) (sym c.as_slice.ensures.value) c.in_ok-news.ensures.places) in
    let news_len = ap (λ (xs : List (ℕ × Ptr)). length xs) c.as_slice.ensures.value in
    let count = c.in_ok-news.ensures.count in
    set_costs k (length slice) (omega (arith, news_len, count)) c.put_leaves.ensures.costs (c.set_all.ensures.within 3 c.requires.low room)

pub returns-in_err-new-clause-cause : goal.returns-in_err-new-clause-cause
returns-in_err-new-clause-cause g c =
    let k = length c.args.changes.now in
    let slice = c.as_slice.result.now in
    let room = has_room slice (subst (All (λ (leaf : ℕ × Ptr). leaf.0 < 4096)) (sym c.as_slice.ensures.value) c.in_ok-news.ensures.places) in
    let news_len = ap (λ (xs : List (ℕ × Ptr)). length xs) c.as_slice.ensures.value in
    let count = c.in_ok-news.ensures.count in
    let e = c.in_err-new in
    let x = c.from_residual-in_err-new in
    cause_from {T = Tree} x.result e.field-0.0 (err_from_is_err_and x.result x.ensures.1) (cause_most (4 * k + 2) (omega (arith, news_len, count)) (cause_then c.put_leaves.ensures.costs (e.ensures.within_cause 3 c.requires.low room)))

pub returns-in_err-new-clause-errors : goal.returns-in_err-new-clause-errors
returns-in_err-new-clause-errors g c = λ s holds held.
    let changes = c.args.changes.now in
    let dir = c.args.dir.now in
    let news = c.in_ok-news.news.items in
    let leaves = leaves_of s dir changes in
    let first = c.in_ok-news.ensures.puts s holds held in
    let s1 = first.stored in
    let e = c.in_err-new in
    let x = c.from_residual-in_err-new in
    leaves_from s (tree_reach s dir) leaves (IsNoLeaf s) x.result e.field-0.0 (err_from_is_err_and x.result x.ensures.1)
    (early_tree s s1 (news_of news) leaves dir _ first.is.swaps held (e.ensures.errors s1 first.held (dir_stored changes s s1 dir news first.is held)))
