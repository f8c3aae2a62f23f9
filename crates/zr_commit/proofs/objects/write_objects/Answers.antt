use Rattle.std.proofs.Common.{◌∙◌, ◌<◌, ◌≤◌, List, [], ◌∷◌, ℕ, length, Option, Err, sym, ap, subst, arith}
use Rattle.std.specs.Prelude.{All, IfSome}
use Rattle.std.proofs.lemmas.List.{take_all}
use Rattle.std.proofs.lemmas.List.Elements.{All-append, All-cons, All-nil}
use Rattle.std.proofs.lemmas.Result.{err_from_is_err_and}
use Rattle.zr_bptr.specs.declared.ObjRec.{ObjRec}
use Rattle.zr_bptr.specs.Spelling.{IsObject}
use Rattle.zr_store.proofs.Causes.{cause_from}
use Rattle.zr_tree.proofs.Wholes.{tells_from}
use Rattle.zr_txg.specs.Changes.{ObjectChange}
use Rattle.zr_commit.specs.Objects.{blocks_of}
use Rattle.zr_commit.proofs.Entries.{ids_of, ids_more}
use Rattle.zr_commit.proofs.Costing.{more_costs, most_costs, most_cause}
use Rattle.zr_commit.proofs.Writing.{entry_stored, entry_tells, objects_now}
use Rattle.zr_commit.proofs.objects.write_objects.Goals as goal

pub returns-in_err-record-clause-costs : goal.returns-in_err-record-clause-costs
returns-in_err-record-clause-costs g c =
    let es = c.args.group.now.objects in
    let lt : c.loop-i.i < length es = omega (arith, c.loop-i-test.true, c.loop-i.invariant.count) in
    most_costs es c.loop-i.i lt c.loop-i.invariant.costs c.write_at.ensures.costs

pub returns-in_err-record-clause-cause : goal.returns-in_err-record-clause-cause
returns-in_err-record-clause-cause g c =
    let es = c.args.group.now.objects in
    let lt : c.loop-i.i < length es = omega (arith, c.loop-i-test.true, c.loop-i.invariant.count) in
    let e = c.in_err-record in
    let x = c.from_residual in
    cause_from {T = ℕ × Option ObjRec} x.result e.field-0.0 (err_from_is_err_and x.result x.ensures.1) (most_cause es c.loop-i.i lt c.loop-i.invariant.costs e.ensures.cause)

pub returns-in_err-record-clause-errors : goal.returns-in_err-record-clause-errors
returns-in_err-record-clause-errors g c = λ s holds stored.
    let es = c.args.group.now.objects in
    let i = c.loop-i.i in
    let lt : i < length es = omega (arith, c.loop-i-test.true, c.loop-i.invariant.count) in
    let e = c.in_err-record in
    let x = c.from_residual in
    let once = g.met.B.Blocks.once c.args.store.now s holds in
    let before = c.loop-i.invariant.so_far s holds stored in
    let had = g.B.Blocks.holds c.loop-i.store in
    let there = entry_stored had s es i c.loop-i.records.items lt once stored before in
    tells_from {T = ℕ × Option ObjRec} s (blocks_of s es) x.result e.field-0.0 (err_from_is_err_and x.result x.ensures.1)
    (entry_tells had s es i c.loop-i.records.items lt once stored before (Err e.field-0.0) (e.ensures.errors before.stored before.held there))

pub returns-in_err-push-clause-costs : goal.returns-in_err-push-clause-costs
returns-in_err-push-clause-costs g c =
    let es = c.args.group.now.objects in
    let lt : c.loop-i.i < length es = omega (arith, c.loop-i-test.true, c.loop-i.invariant.count) in
    most_costs es c.loop-i.i lt c.loop-i.invariant.costs c.write_at.ensures.costs

pub loop-i-preserved : goal.loop-i-preserved
loop-i-preserved g c =
    let es = c.args.group.now.objects in
    let i = c.loop-i.i in
    let q = c.in_ok-record.record in
    let qs = c.loop-i.records.items in
    let lt : i < length es = omega (arith, c.loop-i-test.true, c.loop-i.invariant.count) in
    let P : ℕ × Option ObjRec → Type 0 = λ r. IfSome r.1 IsObject in
    record {
      count = c.loop-i.invariant.count;
      rising = c.loop-i.invariant.rising;
      follows = λ start so_far. c.write_at.ensures.follows start (c.loop-i.invariant.follows start so_far);
      costs = more_costs es i lt c.loop-i.invariant.costs c.write_at.ensures.costs;
      ids = ids_more es i qs c.push.new.self.items q lt c.in_ok-push.ensures.items c.in_ok-record.ensures.id c.loop-i.invariant.ids;
      objects = subst (λ (xs : List (ℕ × Option ObjRec)). All P xs) (sym c.in_ok-push.ensures.items) (All-append P qs (q ∷ []) c.loop-i.invariant.objects (All-cons P q [] c.in_ok-record.ensures.object (All-nil P)));
      so_far = λ s holds stored.
          let once = g.met.B.Blocks.once c.args.store.now s holds in
          let before = c.loop-i.invariant.so_far s holds stored in
          let had = g.B.Blocks.holds c.loop-i.store in
          let there = entry_stored had s es i qs lt once stored before in
          objects_now had s es i qs lt once stored before (g.B.Blocks.holds c.write_at.new.store) q c.push.new.self.items (g.met.B.Blocks.once c.loop-i.store before.stored before.held) c.in_ok-push.ensures.items c.in_ok-record.ensures.id (c.in_ok-record.ensures.writes before.stored before.held there);
    }

pub returns-clause-ids : goal.returns-clause-ids
returns-clause-ids g c =
    let es = c.args.group.now.objects in
    let end : length es ≤ c.loop-i.i = omega (arith, c.loop-i-test.false, c.loop-i.invariant.count) in
    c.loop-i.invariant.ids ∙ ap (λ (xs : List (ℕ × ObjectChange)). ids_of xs) (take_all c.loop-i.i es end)
