use Rattle.std.proofs.Common.{◌≡◌, ℕ, List, sym, ap, subst}
use Rattle.std.proofs.lemmas.Result.{on_ok_weaker}
use Rattle.zr_sync.specs.declared.open.OpenPool.{OpenPool}
use Rattle.std.specs.Prelude.{IfOk}
use Rattle.zr_bptr.specs.declared.Tree.{Tree}
use Rattle.zr_root.specs.Streams.{IsTreeFor}
use Rattle.zr_sync.specs.Trees.{HoldsStreams, first_stage, head_tree, one_stage, settling, writing}
use Rattle.zr_sync.specs.Trees.Stage.{Written}
use Rattle.zr_sync.proofs.Recording.{begins_first}
use Rattle.zr_sync.proofs.Anew.{renewed_behind}
use Rattle.zr_sync.proofs.Holding.{metadata_written, on_ok_of}
use Rattle.zr_sync.proofs.Pools.{all_written, trees_written}
use Rattle.zr_sync.proofs.Standing.{seen_metadata, seen_trees}
use Rattle.zr_sync.proofs.commits.write_all.Goals as goal

pub returns-in_err-write_trees-clause-wrote : goal.returns-in_err-write_trees-clause-wrote
returns-in_err-write_trees-clause-wrote g c = trees_written c.write_trees.ensures.wrote

pub returns-clause-wrote : goal.returns-clause-wrote
returns-clause-wrote g c = all_written c.write_trees.ensures.wrote c.write_metadata.ensures.wrote

pub returns-clause-objects : goal.returns-clause-objects
returns-clause-objects g c = λ s held stored.
    let first = c.args.shelf.now in
    let mid = c.write_trees.new.shelf in
    let last = c.write_metadata.new.shelf in
    on_ok_of c.write_metadata.result
    (metadata_written (g.S.Shelf.sizes mid) (g.S.Shelf.sizes last) (g.S.Shelf.counts mid) (g.S.Shelf.counts last) (g.S.Shelf.tells mid) (g.S.Shelf.tells last) (g.S.Shelf.world mid) (g.S.Shelf.world last)
    c.args.pool.now c.write_trees.new.pool c.write_metadata.new.pool s c.in_ok-write_trees.ensures.pool c.write_metadata.ensures.wrote (g.S.Shelf.tells first) (g.S.Shelf.world first).now.seen held stored (c.in_ok-write_trees.ensures.objects s held stored))

pub returns-clause-stands : goal.returns-clause-stands
returns-clause-stands g c = λ seen.
    let first = c.args.shelf.now in
    let mid = c.write_trees.new.shelf in
    c.write_metadata.ensures.stands
    (seen_trees (g.S.Shelf.sizes first) (g.S.Shelf.sizes mid) (g.S.Shelf.counts first) (g.S.Shelf.counts mid) (g.S.Shelf.tells first) (g.S.Shelf.tells mid) (g.S.Shelf.world first) (g.S.Shelf.world mid) c.args.pool.now c.write_trees.new.pool c.write_trees.ensures.wrote seen)

pub returns-clause-safe : goal.returns-clause-safe
returns-clause-safe g c = λ seen.
    let first = c.args.shelf.now in
    let mid = c.write_trees.new.shelf in
    c.write_metadata.ensures.safe
    (seen_trees (g.S.Shelf.sizes first) (g.S.Shelf.sizes mid) (g.S.Shelf.counts first) (g.S.Shelf.counts mid) (g.S.Shelf.tells first) (g.S.Shelf.tells mid) (g.S.Shelf.world first) (g.S.Shelf.world mid) c.args.pool.now c.write_trees.new.pool c.write_trees.ensures.wrote seen)

pub returns-clause-seen : goal.returns-clause-seen
returns-clause-seen g c = λ seen.
    let first = c.args.shelf.now in
    let mid = c.write_trees.new.shelf in
    let last = c.write_metadata.new.shelf in
    on_ok_of c.write_metadata.result
    (seen_metadata (g.S.Shelf.sizes mid) (g.S.Shelf.sizes last) (g.S.Shelf.counts mid) (g.S.Shelf.counts last) (g.S.Shelf.tells mid) (g.S.Shelf.tells last) (g.S.Shelf.world mid) (g.S.Shelf.world last) c.write_trees.new.pool c.write_metadata.new.pool c.write_metadata.ensures.wrote
    (seen_trees (g.S.Shelf.sizes first) (g.S.Shelf.sizes mid) (g.S.Shelf.counts first) (g.S.Shelf.counts mid) (g.S.Shelf.tells first) (g.S.Shelf.tells mid) (g.S.Shelf.world first) (g.S.Shelf.world mid) c.args.pool.now c.write_trees.new.pool c.write_trees.ensures.wrote seen))

pub returns-clause-anew : goal.returns-clause-anew
returns-clause-anew g c = λ reset is.
    let was = c.args.pool.now in
    let mid = c.write_trees.new.pool in
    let wrote = c.write_trees.ensures.wrote in
    on_ok_weaker c.write_metadata.result
    (λ logs. renewed_behind was mid c.write_metadata.new.pool (ap (λ (o : OpenPool). o.version) wrote.rest) (ap (λ (o : OpenPool). o.table) wrote.rest) wrote.goes.space logs)
    (c.write_metadata.ensures.anew reset is)

pub returns-clause-trees : goal.returns-clause-trees
returns-clause-trees g c = λ still bytes h.
    let x = c.args.pool.now in
    let s = first_stage c.args.logs in
    let mid = c.write_trees.new in
    let last = c.write_metadata.new in
    let rest = c.write_trees.ensures.wrote.rest in
    let stay = c.in_ok-write_trees.ensures.stay c.args.logs (writing s 0) (one_stage s) (head_tree x.head bytes) (begins_first s) h in
    let head : mid.pool.head ≡ x.head = ap (λ (o : OpenPool). o.head) rest in
    let count : mid.pool.table.count ≡ x.table.count = ap (λ (o : OpenPool). o.table.count) rest in
    subst (λ (k : ℕ). IfOk c.write_metadata.result (λ root. (next : List ℕ) × ((t : Tree) → IsTreeFor root.1 root.0 t → HoldsStreams (settling s c.args.reset k) (one_stage Written) (head_tree t next) (g.S.Shelf.tells last.shelf) (g.S.Shelf.world last.shelf).now.seen last.pool))) count
    (c.write_metadata.ensures.trees still bytes (subst (λ (t : Tree). HoldsStreams (writing s 0) (one_stage s) (head_tree t bytes) (g.S.Shelf.tells mid.shelf) (g.S.Shelf.world mid.shelf).now.seen mid.pool) (sym head) stay))
