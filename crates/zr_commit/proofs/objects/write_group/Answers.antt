use Rattle.std.proofs.Common.{◌∙◌, ◌<◌, ◌++◌, List, ℕ, Vec, Global, length, Option, Err, sym, ap, subst, arith}
use Rattle.std.proofs.lemmas.Result.{err_from_is_err_and}
use Rattle.zr_bptr.specs.declared.ObjRec.{ObjRec}
use Rattle.zr_store.specs.Store.{Now}
use Rattle.zr_tree.specs.Trees.{tree_reach}
use Rattle.zr_tree.proofs.Wholes.{within_front}
use Rattle.zr_objset.specs.Errors.{IsNoLeaf}
use Rattle.zr_objset.proofs.Tells.{leaves_from, tells_tree}
use Rattle.zr_txg.specs.Changes.{block_count}
use Rattle.zr_commit.specs.Objects.{blocks_of, WritesObjects}
use Rattle.zr_commit.proofs.Costing.{group_costs, group_cause}
use Rattle.zr_commit.proofs.Entries.{ids_of, ids_low, ids_rise, ids_long}
use Rattle.zr_commit.proofs.Storing.{dir_stored, dir_tells, group_now}
use Rattle.zr_commit.proofs.Swapping.{front_stored}
use Rattle.zr_commit.proofs.objects.write_group.Goals as goal

pub returns-in_err-records-clause-errors : goal.returns-in_err-records-clause-errors
returns-in_err-records-clause-errors g c = λ s holds stored.
    let blocks = blocks_of s c.args.group.now.objects in
    let reach = tree_reach s c.args.dir.now in
    let e = c.in_err-records in
    let x = c.from_residual in
    leaves_from {T = Vec (ℕ × Option ObjRec) Global} s (blocks ++ reach) reach (IsNoLeaf s) x.result e.field-0.0 (err_from_is_err_and x.result x.ensures.1)
    (tells_tree s blocks (blocks ++ reach) reach (IsNoLeaf s) (Err e.field-0.0) (within_front blocks reach) (e.ensures.errors s holds (front_stored s blocks reach stored)))

pub store-requires-clause-ids : goal.store-requires-clause-ids
store-requires-clause-ids g c =
    let same = ap (λ (xs : List (ℕ × Option ObjRec)). ids_of xs) c.as_slice.ensures.value ∙ c.in_ok-records.ensures.ids in
    ids_low c.as_slice.result.now c.args.group.now.objects same c.requires.group

pub store-requires-clause-rises : goal.store-requires-clause-rises
store-requires-clause-rises g c =
    let same = ap (λ (xs : List (ℕ × Option ObjRec)). ids_of xs) c.as_slice.ensures.value ∙ c.in_ok-records.ensures.ids in
    ids_rise 0 c.as_slice.result.now c.args.group.now.objects same c.objects.ensures.rising

pub returns-clause-costs : goal.returns-clause-costs
returns-clause-costs g c =
    let es = c.args.group.now.objects in
    let qs = c.as_slice.result.now in
    let same = ap (λ (xs : List (ℕ × Option ObjRec)). ids_of xs) c.as_slice.ensures.value ∙ c.in_ok-records.ensures.ids in
    let some : 0 < length es = omega (arith, c.if-objects-eq0.false, c.objects.ensures.count) in
    group_costs (block_count es) (length es) (length qs) (ids_long qs es same) some c.write_objects.ensures.costs c.store.ensures.costs

pub returns-clause-cause : goal.returns-clause-cause
returns-clause-cause g c =
    let es = c.args.group.now.objects in
    let qs = c.as_slice.result.now in
    let same = ap (λ (xs : List (ℕ × Option ObjRec)). ids_of xs) c.as_slice.ensures.value ∙ c.in_ok-records.ensures.ids in
    let some : 0 < length es = omega (arith, c.if-objects-eq0.false, c.objects.ensures.count) in
    group_cause (block_count es) (length es) (length qs) (ids_long qs es same) some c.write_objects.ensures.costs c.store.ensures.cause

pub returns-clause-errors : goal.returns-clause-errors
returns-clause-errors g c = λ s holds stored.
    let group = c.args.group.now in
    let dir = c.args.dir.now in
    let qs = c.as_slice.result.now in
    let has = g.B.Blocks.holds c.write_objects.new.store in
    let once = g.met.B.Blocks.once c.args.store.now s holds in
    let first = subst (λ (xs : List (ℕ × Option ObjRec)). Now has (λ n. WritesObjects s n group.objects xs)) (sym c.as_slice.ensures.value) (c.in_ok-records.ensures.writes s holds (front_stored s (blocks_of s group.objects) (tree_reach s dir) stored)) in
    let n = first.stored in
    dir_tells s n group dir qs once stored first.is c.store.result (c.store.ensures.errors n first.held (dir_stored s n group dir qs once stored first.is))

pub returns-clause-writes : goal.returns-clause-writes
returns-clause-writes g c = λ s holds stored.
    let group = c.args.group.now in
    let dir = c.args.dir.now in
    let qs = c.as_slice.result.now in
    let has = g.B.Blocks.holds c.write_objects.new.store in
    let once = g.met.B.Blocks.once c.args.store.now s holds in
    let first = subst (λ (xs : List (ℕ × Option ObjRec)). Now has (λ n. WritesObjects s n group.objects xs)) (sym c.as_slice.ensures.value) (c.in_ok-records.ensures.writes s holds (front_stored s (blocks_of s group.objects) (tree_reach s dir) stored)) in
    let n = first.stored in
    group_now s n group dir qs once stored first.is (g.B.Blocks.holds c.store.new.store) c.store.result (g.met.B.Blocks.once c.write_objects.new.store n first.held) c.objects.ensures.rising (c.store.ensures.stores n first.held (dir_stored s n group dir qs once stored first.is))
