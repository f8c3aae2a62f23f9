use Rattle.std.proofs.Common.{◌≡◌, ◌/◌, ◌<◌, ◌^◌, ◌++◌, ◌∙◌, List, ℕ, Vec, Global, length, sym, ap, subst, arith, Err, rules}
use Rattle.std.specs.Prelude.{All}
use Rattle.std.specs.Int.{div_ceil}
use Rattle.std.proofs.lemmas.Result.{err_from_is_err_and}
use Rattle.zr_base.specs.Words.{words}
use Rattle.zr_bptr.specs.declared.Bptr.{Bptr}
use Rattle.zr_bptr.specs.declared.Ptr.{Ptr}
use Rattle.zr_bptr.specs.declared.Tree.{Tree}
use Rattle.zr_store.specs.Store.{Now}
use Rattle.zr_store.proofs.Causes.{cause_from}
use Rattle.zr_tree.specs.Trees.{SetsTree, AreUnits, IsHeightFor, Rises, AreLeaves}
use Rattle.zr_root.specs.declared.appends.Tail.{Tail}
use Rattle.zr_root.specs.Appends.{PutsBytes, leaves_anew}
use Rattle.zr_root.proofs.Appending.{appended_now, changes_below, changes_leaves, changes_rise, length-changes}
use Rattle.zr_root.proofs.Costing.{puts_cause, tree_costs, tree_cause, end_costs, end_cause}
use Rattle.zr_root.proofs.Grown.{leaves_are_units, grown_stream, leaves_put, leaves_few, changes_put, some_new}
use Rattle.zr_root.proofs.Tails.{told_from, told_none, told_later, blocks_stay}
use Rattle.zr_root.proofs.Whole.{grown_costs, grown_cause, puts_whole, puts_whole_cause, tree_whole, tree_whole_cause, end_whole, end_whole_cause}
use Rattle.zr_root.proofs.appends.append.Goals as goal

pub returns-in_err-leaf-clause-errors : goal.returns-in_err-leaf-clause-errors
returns-in_err-leaf-clause-errors g c = λ s held stored.
    let e = c.in_err-leaf in
    let x = c.from_residual in
    told_from {T = Tail} s c.args.stream.now x.result e.field-0.0 (err_from_is_err_and x.result x.ensures.1) (e.ensures.errors s held)

pub returns-in_err-leaves-clause-cause : goal.returns-in_err-leaves-clause-cause
returns-in_err-leaves-clause-cause g c =
    let x = c.from_residual-in_err-leaves in
    let words_now = c.args.stream.now.words in
    let n = leaves_anew words_now (length c.args.ns.now) in
    let len = ap (λ (xs : List ℕ). length xs) c.as_slice.ensures.value ∙ c.in_ok-more.ensures.len in
    let put = leaves_put words_now c.args.ns.now c.in_ok-leaf.field-0.bytes.items c.as_slice.result.now c.extend_from_slice.new.self.items c.as_slice-2.result.now c.in_ok-leaf.ensures.len len c.in_ok-extend_from_slice.ensures.items c.as_slice-2.ensures.value in
    cause_from {T = Vec Bptr Global} x.result c.in_err-leaves.field-0.0 (err_from_is_err_and x.result x.ensures.1) (puts_cause n c.tail_of.ensures.costs (div_ceil (length c.as_slice-2.result.now) 4096) put c.in_err-leaves.ensures.cause)

pub returns-in_err-leaves-clause-errors : goal.returns-in_err-leaves-clause-errors
returns-in_err-leaves-clause-errors g c = λ s held stored.
    let e = c.in_err-leaves in
    let x = c.from_residual-in_err-leaves in
    told_from {T = Vec Bptr Global} s c.args.stream.now x.result e.field-0.0 (err_from_is_err_and x.result x.ensures.1) (told_none s c.args.stream.now (Err e.field-0.0) (e.ensures.errors s))

pub returns-in_err-tree-clause-errors : goal.returns-in_err-tree-clause-errors
returns-in_err-tree-clause-errors g c = λ s held stored.
    let e = c.in_err-tree in
    let x = c.from_residual-in_err-tree in
    let stream = c.args.stream.now in
    let leaves = c.in_ok-leaves.leaves.items in
    let put = c.in_ok-leaves.ensures.puts s (c.tail_of.ensures.same s held) in
    told_from {T = Tree} s stream x.result e.field-0.0 (err_from_is_err_and x.result x.ensures.1)
    (told_later s put.stored stream leaves (Err e.field-0.0) stored put.is.came (e.ensures.errors put.stored put.held (blocks_stay s put.stored stream.tree leaves stored put.is.came)))

pub returns-in_err-free_leaf-clause-errors : goal.returns-in_err-free_leaf-clause-errors
returns-in_err-free_leaf-clause-errors g c = λ s held stored.
    let e = c.in_err-free_leaf in
    let x = c.from_residual-in_err-free_leaf in
    told_from {T = Unit {0}} s c.args.stream.now x.result e.field-0.0 (err_from_is_err_and x.result x.ensures.1) (told_none s c.args.stream.now (Err e.field-0.0) (e.ensures.errors s))

pub set_all-requires-clause-below : goal.set_all-requires-clause-below
set_all-requires-clause-below g c =
    let words_now = c.args.stream.now.words in
    let n = leaves_anew words_now (length c.args.ns.now) in
    let len = ap (λ (xs : List ℕ). length xs) c.as_slice.ensures.value ∙ c.in_ok-more.ensures.len in
    let put = leaves_put words_now c.args.ns.now c.in_ok-leaf.field-0.bytes.items c.as_slice.result.now c.extend_from_slice.new.self.items c.as_slice-2.result.now c.in_ok-leaf.ensures.len len c.in_ok-extend_from_slice.ensures.items c.as_slice-2.ensures.value in
    let leaves = c.in_ok-leaves.leaves.items in
    let changed = changes_put (words_now / 512) leaves c.as_slice-3.result.now c.in_ok-changes.changes.items c.as_slice-4.result.now c.as_slice-3.ensures.value c.in_ok-changes.ensures c.as_slice-4.ensures.value in
    let many = ap (λ (cs : List (ℕ × Ptr)). length cs) changed ∙ length-changes (words_now / 512) leaves ∙ c.in_ok-leaves.ensures.count ∙ put in
    let few = leaves_few words_now (length c.args.ns.now) (length leaves) c.requires.most (c.in_ok-leaves.ensures.count ∙ put) in
    subst (All (λ change. change.0 < 2 ^ 25)) (sym changed) (changes_below (words_now / 512) (2 ^ 25) leaves few)

pub set_all-requires-clause-leaves : goal.set_all-requires-clause-leaves
set_all-requires-clause-leaves g c =
    let words_now = c.args.stream.now.words in
    let leaves = c.in_ok-leaves.leaves.items in
    let changed = changes_put (words_now / 512) leaves c.as_slice-3.result.now c.in_ok-changes.changes.items c.as_slice-4.result.now c.as_slice-3.ensures.value c.in_ok-changes.ensures c.as_slice-4.ensures.value in
    subst AreLeaves (sym changed) (changes_leaves (words_now / 512) leaves c.in_ok-leaves.ensures.units)

pub set_all-requires-clause-rises : goal.set_all-requires-clause-rises
set_all-requires-clause-rises g c =
    let words_now = c.args.stream.now.words in
    let leaves = c.in_ok-leaves.leaves.items in
    let changed = changes_put (words_now / 512) leaves c.as_slice-3.result.now c.in_ok-changes.changes.items c.as_slice-4.result.now c.as_slice-3.ensures.value c.in_ok-changes.ensures c.as_slice-4.ensures.value in
    subst Rises (sym changed) (changes_rise (words_now / 512) leaves)

pub returns-in_err-tree-clause-costs : goal.returns-in_err-tree-clause-costs
returns-in_err-tree-clause-costs g c =
    let words_now = c.args.stream.now.words in
    let n = leaves_anew words_now (length c.args.ns.now) in
    let len = ap (λ (xs : List ℕ). length xs) c.as_slice.ensures.value ∙ c.in_ok-more.ensures.len in
    let put = leaves_put words_now c.args.ns.now c.in_ok-leaf.field-0.bytes.items c.as_slice.result.now c.extend_from_slice.new.self.items c.as_slice-2.result.now c.in_ok-leaf.ensures.len len c.in_ok-extend_from_slice.ensures.items c.as_slice-2.ensures.value in
    let leaves = c.in_ok-leaves.leaves.items in
    let changed = changes_put (words_now / 512) leaves c.as_slice-3.result.now c.in_ok-changes.changes.items c.as_slice-4.result.now c.as_slice-3.ensures.value c.in_ok-changes.ensures c.as_slice-4.ensures.value in
    let many = ap (λ (cs : List (ℕ × Ptr)). length cs) changed ∙ length-changes (words_now / 512) leaves ∙ c.in_ok-leaves.ensures.count ∙ put in
    tree_costs n c.tail_of.ensures.costs (div_ceil (length c.as_slice-2.result.now) 4096) put c.put_bytes.ensures.costs (length c.as_slice-4.result.now) many c.set_all.ensures.most

pub returns-in_err-tree-clause-cause : goal.returns-in_err-tree-clause-cause
returns-in_err-tree-clause-cause g c =
    let x = c.from_residual-in_err-tree in
    let words_now = c.args.stream.now.words in
    let n = leaves_anew words_now (length c.args.ns.now) in
    let len = ap (λ (xs : List ℕ). length xs) c.as_slice.ensures.value ∙ c.in_ok-more.ensures.len in
    let put = leaves_put words_now c.args.ns.now c.in_ok-leaf.field-0.bytes.items c.as_slice.result.now c.extend_from_slice.new.self.items c.as_slice-2.result.now c.in_ok-leaf.ensures.len len c.in_ok-extend_from_slice.ensures.items c.as_slice-2.ensures.value in
    let leaves = c.in_ok-leaves.leaves.items in
    let changed = changes_put (words_now / 512) leaves c.as_slice-3.result.now c.in_ok-changes.changes.items c.as_slice-4.result.now c.as_slice-3.ensures.value c.in_ok-changes.ensures c.as_slice-4.ensures.value in
    let many = ap (λ (cs : List (ℕ × Ptr)). length cs) changed ∙ length-changes (words_now / 512) leaves ∙ c.in_ok-leaves.ensures.count ∙ put in
    cause_from {T = Tree} x.result c.in_err-tree.field-0.0 (err_from_is_err_and x.result x.ensures.1) (tree_cause n c.tail_of.ensures.costs (div_ceil (length c.as_slice-2.result.now) 4096) put c.put_bytes.ensures.costs (length c.as_slice-4.result.now) many c.in_err-tree.ensures.most_cause)

pub returns-in_err-free_leaf-clause-costs : goal.returns-in_err-free_leaf-clause-costs
returns-in_err-free_leaf-clause-costs g c =
    let words_now = c.args.stream.now.words in
    let n = leaves_anew words_now (length c.args.ns.now) in
    let len = ap (λ (xs : List ℕ). length xs) c.as_slice.ensures.value ∙ c.in_ok-more.ensures.len in
    let put = leaves_put words_now c.args.ns.now c.in_ok-leaf.field-0.bytes.items c.as_slice.result.now c.extend_from_slice.new.self.items c.as_slice-2.result.now c.in_ok-leaf.ensures.len len c.in_ok-extend_from_slice.ensures.items c.as_slice-2.ensures.value in
    let leaves = c.in_ok-leaves.leaves.items in
    let changed = changes_put (words_now / 512) leaves c.as_slice-3.result.now c.in_ok-changes.changes.items c.as_slice-4.result.now c.as_slice-3.ensures.value c.in_ok-changes.ensures c.as_slice-4.ensures.value in
    let many = ap (λ (cs : List (ℕ × Ptr)). length cs) changed ∙ length-changes (words_now / 512) leaves ∙ c.in_ok-leaves.ensures.count ∙ put in
    end_costs n c.tail_of.ensures.costs (div_ceil (length c.as_slice-2.result.now) 4096) put c.put_bytes.ensures.costs (length c.as_slice-4.result.now) many c.set_all.ensures.most c.free_leaf.ensures.costs

pub returns-in_err-free_leaf-clause-cause : goal.returns-in_err-free_leaf-clause-cause
returns-in_err-free_leaf-clause-cause g c =
    let x = c.from_residual-in_err-free_leaf in
    let words_now = c.args.stream.now.words in
    let n = leaves_anew words_now (length c.args.ns.now) in
    let len = ap (λ (xs : List ℕ). length xs) c.as_slice.ensures.value ∙ c.in_ok-more.ensures.len in
    let put = leaves_put words_now c.args.ns.now c.in_ok-leaf.field-0.bytes.items c.as_slice.result.now c.extend_from_slice.new.self.items c.as_slice-2.result.now c.in_ok-leaf.ensures.len len c.in_ok-extend_from_slice.ensures.items c.as_slice-2.ensures.value in
    let leaves = c.in_ok-leaves.leaves.items in
    let changed = changes_put (words_now / 512) leaves c.as_slice-3.result.now c.in_ok-changes.changes.items c.as_slice-4.result.now c.as_slice-3.ensures.value c.in_ok-changes.ensures c.as_slice-4.ensures.value in
    let many = ap (λ (cs : List (ℕ × Ptr)). length cs) changed ∙ length-changes (words_now / 512) leaves ∙ c.in_ok-leaves.ensures.count ∙ put in
    cause_from {T = Unit {0}} x.result c.in_err-free_leaf.field-0.0 (err_from_is_err_and x.result x.ensures.1) (end_cause n c.tail_of.ensures.costs (div_ceil (length c.as_slice-2.result.now) 4096) put c.put_bytes.ensures.costs (length c.as_slice-4.result.now) many c.set_all.ensures.most c.in_err-free_leaf.ensures.cause)

pub returns-clause-costs : goal.returns-clause-costs
returns-clause-costs g c =
    let words_now = c.args.stream.now.words in
    let n = leaves_anew words_now (length c.args.ns.now) in
    let len = ap (λ (xs : List ℕ). length xs) c.as_slice.ensures.value ∙ c.in_ok-more.ensures.len in
    let put = leaves_put words_now c.args.ns.now c.in_ok-leaf.field-0.bytes.items c.as_slice.result.now c.extend_from_slice.new.self.items c.as_slice-2.result.now c.in_ok-leaf.ensures.len len c.in_ok-extend_from_slice.ensures.items c.as_slice-2.ensures.value in
    let leaves = c.in_ok-leaves.leaves.items in
    let changed = changes_put (words_now / 512) leaves c.as_slice-3.result.now c.in_ok-changes.changes.items c.as_slice-4.result.now c.as_slice-3.ensures.value c.in_ok-changes.ensures c.as_slice-4.ensures.value in
    let many = ap (λ (cs : List (ℕ × Ptr)). length cs) changed ∙ length-changes (words_now / 512) leaves ∙ c.in_ok-leaves.ensures.count ∙ put in
    end_costs n c.tail_of.ensures.costs (div_ceil (length c.as_slice-2.result.now) 4096) put c.put_bytes.ensures.costs (length c.as_slice-4.result.now) many c.set_all.ensures.most c.free_leaf.ensures.costs

pub returns-clause-stream : goal.returns-clause-stream
returns-clause-stream g c =
    let stream = c.args.stream.now in
    let words_now = c.args.stream.now.words in
    let n = leaves_anew words_now (length c.args.ns.now) in
    let len = ap (λ (xs : List ℕ). length xs) c.as_slice.ensures.value ∙ c.in_ok-more.ensures.len in
    let put = leaves_put words_now c.args.ns.now c.in_ok-leaf.field-0.bytes.items c.as_slice.result.now c.extend_from_slice.new.self.items c.as_slice-2.result.now c.in_ok-leaf.ensures.len len c.in_ok-extend_from_slice.ensures.items c.as_slice-2.ensures.value in
    let leaves = c.in_ok-leaves.leaves.items in
    let changed = changes_put (words_now / 512) leaves c.as_slice-3.result.now c.in_ok-changes.changes.items c.as_slice-4.result.now c.as_slice-3.ensures.value c.in_ok-changes.ensures c.as_slice-4.ensures.value in
    let some : 0 < length c.args.ns.now = search rules in
    let more = some_new words_now (length c.args.ns.now) (length leaves) some (c.in_ok-leaves.ensures.count ∙ put) in
    let long = ap (λ (cs : List (ℕ × Ptr)). length cs) changed ∙ length-changes (words_now / 512) leaves in
    let unit = c.in_ok-tree.ensures.unit (subst AreUnits (sym changed) (leaves_are_units (words_now / 512) leaves c.in_ok-leaves.ensures.units)) (omega (arith, long, more)) in
    let tall = subst (λ (cs : List (ℕ × Ptr)). IsHeightFor stream.tree.height cs c.in_ok-tree.tree.height) changed c.in_ok-tree.ensures.height in
    grown_stream stream c.in_ok-tree.tree (length c.args.ns.now) leaves c.requires.stream some (c.in_ok-leaves.ensures.count ∙ put) c.in_ok-tree.ensures.tree unit tall

pub returns-clause-appends : goal.returns-clause-appends
returns-clause-appends g c = λ s held old stored has.
    let stream = c.args.stream.now in
    let u = c.in_ok-tree.tree in
    let tail = c.in_ok-leaf.field-0.bytes.items in
    let bytes = c.as_slice-2.result.now in
    let words_now = c.args.stream.now.words in
    let n = leaves_anew words_now (length c.args.ns.now) in
    let len = ap (λ (xs : List ℕ). length xs) c.as_slice.ensures.value ∙ c.in_ok-more.ensures.len in
    let put = leaves_put words_now c.args.ns.now c.in_ok-leaf.field-0.bytes.items c.as_slice.result.now c.extend_from_slice.new.self.items c.as_slice-2.result.now c.in_ok-leaf.ensures.len len c.in_ok-extend_from_slice.ensures.items c.as_slice-2.ensures.value in
    let leaves = c.in_ok-leaves.leaves.items in
    let changed = changes_put (words_now / 512) leaves c.as_slice-3.result.now c.in_ok-changes.changes.items c.as_slice-4.result.now c.as_slice-3.ensures.value c.in_ok-changes.ensures c.as_slice-4.ensures.value in
    let some : 0 < length c.args.ns.now = search rules in
    let count = c.in_ok-leaves.ensures.count in
    let spelled : bytes ≡ tail ++ words c.args.ns.now = c.as_slice-2.ensures.value ∙ c.in_ok-extend_from_slice.ensures.items ∙ ap (λ (xs : List ℕ). tail ++ xs) (c.as_slice.ensures.value ∙ c.in_ok-more.ensures.bytes) in
    let first = c.in_ok-leaves.ensures.puts s (c.tail_of.ensures.same s held) in
    let tailed = c.in_ok-leaf.ensures.tail s held old has in
    appended_now (g.B.Blocks.holds c.put_bytes.new.store) (g.B.Blocks.holds c.set_all.new.store) (g.B.Blocks.holds c.free_leaf.new.store) s stream u leaves c.in_ok-leaf.field-0.leaf old c.args.ns.now tail
    (g.met.B.Blocks.once c.args.store.now s held) (g.met.B.Blocks.once c.put_bytes.new.store) (g.met.B.Blocks.once c.set_all.new.store) stored has tailed c.in_ok-leaves.ensures.units
    (some_new words_now (length c.args.ns.now) (length leaves) some (count ∙ put)) (count ∙ ap (λ (xs : List ℕ). div_ceil (length xs) 4096) spelled)
    (subst (λ (xs : List ℕ). Now (g.B.Blocks.holds c.put_bytes.new.store) (λ n. PutsBytes xs s n leaves)) spelled first)
    (λ m h there. subst (λ (cs : List (ℕ × Ptr)). Now (g.B.Blocks.holds c.set_all.new.store) (λ n. SetsTree cs m n stream.tree u)) changed (c.in_ok-tree.ensures.sets m h there))
    (λ m h there. c.in_ok-free_leaf.ensures.swaps m h there)

-- ---- no more than the longer stream has

pub returns-in_err-leaves-clause-whole : goal.returns-in_err-leaves-clause-whole
returns-in_err-leaves-clause-whole g c =
    let words_now = c.args.stream.now.words in
    let added = length c.args.ns.now in
    let len = ap (λ (xs : List ℕ). length xs) c.as_slice.ensures.value ∙ c.in_ok-more.ensures.len in
    let put = leaves_put words_now c.args.ns.now c.in_ok-leaf.field-0.bytes.items c.as_slice.result.now c.extend_from_slice.new.self.items c.as_slice-2.result.now c.in_ok-leaf.ensures.len len c.in_ok-extend_from_slice.ensures.items c.as_slice-2.ensures.value in
    puts_whole words_now added c.tail_of.ensures.costs (div_ceil (length c.as_slice-2.result.now) 4096) put c.put_bytes.ensures.costs

pub returns-in_err-changes-clause-whole : goal.returns-in_err-changes-clause-whole
returns-in_err-changes-clause-whole g c =
    let words_now = c.args.stream.now.words in
    let added = length c.args.ns.now in
    let len = ap (λ (xs : List ℕ). length xs) c.as_slice.ensures.value ∙ c.in_ok-more.ensures.len in
    let put = leaves_put words_now c.args.ns.now c.in_ok-leaf.field-0.bytes.items c.as_slice.result.now c.extend_from_slice.new.self.items c.as_slice-2.result.now c.in_ok-leaf.ensures.len len c.in_ok-extend_from_slice.ensures.items c.as_slice-2.ensures.value in
    puts_whole words_now added c.tail_of.ensures.costs (div_ceil (length c.as_slice-2.result.now) 4096) put c.put_bytes.ensures.costs

pub returns-in_err-leaves-clause-whole_cause : goal.returns-in_err-leaves-clause-whole_cause
returns-in_err-leaves-clause-whole_cause g c =
    let x = c.from_residual-in_err-leaves in
    let words_now = c.args.stream.now.words in
    let added = length c.args.ns.now in
    let len = ap (λ (xs : List ℕ). length xs) c.as_slice.ensures.value ∙ c.in_ok-more.ensures.len in
    let put = leaves_put words_now c.args.ns.now c.in_ok-leaf.field-0.bytes.items c.as_slice.result.now c.extend_from_slice.new.self.items c.as_slice-2.result.now c.in_ok-leaf.ensures.len len c.in_ok-extend_from_slice.ensures.items c.as_slice-2.ensures.value in
    cause_from {T = Vec Bptr Global} x.result c.in_err-leaves.field-0.0 (err_from_is_err_and x.result x.ensures.1) (puts_whole_cause words_now added c.tail_of.ensures.costs (div_ceil (length c.as_slice-2.result.now) 4096) put c.in_err-leaves.ensures.cause)

pub returns-in_err-tree-clause-whole : goal.returns-in_err-tree-clause-whole
returns-in_err-tree-clause-whole g c =
    let words_now = c.args.stream.now.words in
    let added = length c.args.ns.now in
    let len = ap (λ (xs : List ℕ). length xs) c.as_slice.ensures.value ∙ c.in_ok-more.ensures.len in
    let put = leaves_put words_now c.args.ns.now c.in_ok-leaf.field-0.bytes.items c.as_slice.result.now c.extend_from_slice.new.self.items c.as_slice-2.result.now c.in_ok-leaf.ensures.len len c.in_ok-extend_from_slice.ensures.items c.as_slice-2.ensures.value in
    let leaves = c.in_ok-leaves.leaves.items in
    let changed = changes_put (words_now / 512) leaves c.as_slice-3.result.now c.in_ok-changes.changes.items c.as_slice-4.result.now c.as_slice-3.ensures.value c.in_ok-changes.ensures c.as_slice-4.ensures.value in
    let some : 0 < length c.args.ns.now = search rules in
    tree_whole words_now added c.tail_of.ensures.costs (div_ceil (length c.as_slice-2.result.now) 4096) put c.put_bytes.ensures.costs (grown_costs words_now added c.args.stream.now.tree.height c.args.stream.now.tree.root leaves c.as_slice-4.result.now c.requires.stream some c.requires.most (c.in_ok-leaves.ensures.count ∙ put) changed (λ n h. c.set_all.ensures.whole n h))

pub returns-in_err-tree-clause-whole_cause : goal.returns-in_err-tree-clause-whole_cause
returns-in_err-tree-clause-whole_cause g c =
    let words_now = c.args.stream.now.words in
    let added = length c.args.ns.now in
    let len = ap (λ (xs : List ℕ). length xs) c.as_slice.ensures.value ∙ c.in_ok-more.ensures.len in
    let put = leaves_put words_now c.args.ns.now c.in_ok-leaf.field-0.bytes.items c.as_slice.result.now c.extend_from_slice.new.self.items c.as_slice-2.result.now c.in_ok-leaf.ensures.len len c.in_ok-extend_from_slice.ensures.items c.as_slice-2.ensures.value in
    let leaves = c.in_ok-leaves.leaves.items in
    let changed = changes_put (words_now / 512) leaves c.as_slice-3.result.now c.in_ok-changes.changes.items c.as_slice-4.result.now c.as_slice-3.ensures.value c.in_ok-changes.ensures c.as_slice-4.ensures.value in
    let some : 0 < length c.args.ns.now = search rules in
    let x = c.from_residual-in_err-tree in
    cause_from {T = Tree} x.result c.in_err-tree.field-0.0 (err_from_is_err_and x.result x.ensures.1) (tree_whole_cause words_now added c.tail_of.ensures.costs (div_ceil (length c.as_slice-2.result.now) 4096) put c.put_bytes.ensures.costs (grown_cause words_now added c.args.stream.now.tree.height c.args.stream.now.tree.root leaves c.as_slice-4.result.now c.requires.stream some c.requires.most (c.in_ok-leaves.ensures.count ∙ put) changed (λ n h. c.in_err-tree.ensures.whole_cause n h)))

pub returns-in_err-free_leaf-clause-whole : goal.returns-in_err-free_leaf-clause-whole
returns-in_err-free_leaf-clause-whole g c =
    let words_now = c.args.stream.now.words in
    let added = length c.args.ns.now in
    let len = ap (λ (xs : List ℕ). length xs) c.as_slice.ensures.value ∙ c.in_ok-more.ensures.len in
    let put = leaves_put words_now c.args.ns.now c.in_ok-leaf.field-0.bytes.items c.as_slice.result.now c.extend_from_slice.new.self.items c.as_slice-2.result.now c.in_ok-leaf.ensures.len len c.in_ok-extend_from_slice.ensures.items c.as_slice-2.ensures.value in
    let leaves = c.in_ok-leaves.leaves.items in
    let changed = changes_put (words_now / 512) leaves c.as_slice-3.result.now c.in_ok-changes.changes.items c.as_slice-4.result.now c.as_slice-3.ensures.value c.in_ok-changes.ensures c.as_slice-4.ensures.value in
    let some : 0 < length c.args.ns.now = search rules in
    end_whole words_now added c.tail_of.ensures.costs (div_ceil (length c.as_slice-2.result.now) 4096) put c.put_bytes.ensures.costs (grown_costs words_now added c.args.stream.now.tree.height c.args.stream.now.tree.root leaves c.as_slice-4.result.now c.requires.stream some c.requires.most (c.in_ok-leaves.ensures.count ∙ put) changed (λ n h. c.set_all.ensures.whole n h)) c.free_leaf.ensures.costs

pub returns-in_err-free_leaf-clause-whole_cause : goal.returns-in_err-free_leaf-clause-whole_cause
returns-in_err-free_leaf-clause-whole_cause g c =
    let words_now = c.args.stream.now.words in
    let added = length c.args.ns.now in
    let len = ap (λ (xs : List ℕ). length xs) c.as_slice.ensures.value ∙ c.in_ok-more.ensures.len in
    let put = leaves_put words_now c.args.ns.now c.in_ok-leaf.field-0.bytes.items c.as_slice.result.now c.extend_from_slice.new.self.items c.as_slice-2.result.now c.in_ok-leaf.ensures.len len c.in_ok-extend_from_slice.ensures.items c.as_slice-2.ensures.value in
    let leaves = c.in_ok-leaves.leaves.items in
    let changed = changes_put (words_now / 512) leaves c.as_slice-3.result.now c.in_ok-changes.changes.items c.as_slice-4.result.now c.as_slice-3.ensures.value c.in_ok-changes.ensures c.as_slice-4.ensures.value in
    let some : 0 < length c.args.ns.now = search rules in
    let x = c.from_residual-in_err-free_leaf in
    cause_from {T = Unit {0}} x.result c.in_err-free_leaf.field-0.0 (err_from_is_err_and x.result x.ensures.1) (end_whole_cause words_now added c.tail_of.ensures.costs (div_ceil (length c.as_slice-2.result.now) 4096) put c.put_bytes.ensures.costs (grown_costs words_now added c.args.stream.now.tree.height c.args.stream.now.tree.root leaves c.as_slice-4.result.now c.requires.stream some c.requires.most (c.in_ok-leaves.ensures.count ∙ put) changed (λ n h. c.set_all.ensures.whole n h)) c.in_err-free_leaf.ensures.cause)

pub returns-clause-whole : goal.returns-clause-whole
returns-clause-whole g c =
    let words_now = c.args.stream.now.words in
    let added = length c.args.ns.now in
    let len = ap (λ (xs : List ℕ). length xs) c.as_slice.ensures.value ∙ c.in_ok-more.ensures.len in
    let put = leaves_put words_now c.args.ns.now c.in_ok-leaf.field-0.bytes.items c.as_slice.result.now c.extend_from_slice.new.self.items c.as_slice-2.result.now c.in_ok-leaf.ensures.len len c.in_ok-extend_from_slice.ensures.items c.as_slice-2.ensures.value in
    let leaves = c.in_ok-leaves.leaves.items in
    let changed = changes_put (words_now / 512) leaves c.as_slice-3.result.now c.in_ok-changes.changes.items c.as_slice-4.result.now c.as_slice-3.ensures.value c.in_ok-changes.ensures c.as_slice-4.ensures.value in
    let some : 0 < length c.args.ns.now = search rules in
    end_whole words_now added c.tail_of.ensures.costs (div_ceil (length c.as_slice-2.result.now) 4096) put c.put_bytes.ensures.costs (grown_costs words_now added c.args.stream.now.tree.height c.args.stream.now.tree.root leaves c.as_slice-4.result.now c.requires.stream some c.requires.most (c.in_ok-leaves.ensures.count ∙ put) changed (λ n h. c.set_all.ensures.whole n h)) c.free_leaf.ensures.costs
