use Rattle.std.proofs.Common.{◌+◌, ◌*◌, ◌∙◌, List, [], ℕ, length, Option, None, Err, sym, subst}
use Rattle.std.specs.Prelude.{IfSome}
use Rattle.std.specs.List.{AllByRecursion}
use Rattle.std.proofs.lemmas.Result.{err_from_is_err_and}
use Rattle.zr_bptr.specs.declared.Ptr.{Ptr}
use Rattle.zr_bptr.specs.declared.ObjRec.{ObjRec}
use Rattle.zr_bptr.specs.Spelling.{IsObject}
use Rattle.zr_store.specs.Causes.{Costs, HasCause}
use Rattle.zr_store.specs.Store.{Now, AreStored}
use Rattle.zr_store.proofs.Causes.{cause_from}
use Rattle.zr_tree.specs.Trees.{TellsOf}
use Rattle.zr_tree.proofs.Wholes.{tells_from}
use Rattle.zr_lookup.specs.Groups.{IsBlockChange}
use Rattle.zr_commit.specs.Objects.{entry, object_blocks, WritesObject}
use Rattle.zr_commit.proofs.Entries.{each_entry, object_is, changes_are, changes_low, changes_leaves, changes_rise}
use Rattle.zr_commit.proofs.objects.write_at.Goals as goal

pub write_object-requires-clause-object : goal.write_object-requires-clause-object
write_object-requires-clause-object g c =
    let group = c.args.group.now in
    let id_is = c.id_at-id.ensures.entry (0, record { object = None; blocks = [] }) in
    let same = object_is group c.args.i c.id_at-id.result c.in-Some.object c.requires.rising c.requires.within id_is (sym c.in-Some.ensures) in
    subst (λ (o : Option ObjRec). IfSome o IsObject) (sym same) (each_entry group.objects c.args.i c.requires.group c.requires.within).change.object

pub write_object-requires-clause-below : goal.write_object-requires-clause-below
write_object-requires-clause-below g c =
    let group = c.args.group.now in
    let id_is = c.id_at-id.ensures.entry (0, record { object = None; blocks = [] }) in
    let same = c.changes.ensures.changes ∙ changes_are group c.args.i c.id_at-id.result c.requires.rising c.requires.within id_is in
    changes_low c.changes.result.now (subst (λ (cs : List (ℕ × Ptr)). AllByRecursion IsBlockChange cs) (sym same) (each_entry group.objects c.args.i c.requires.group c.requires.within).change.blocks)

pub write_object-requires-clause-leaves : goal.write_object-requires-clause-leaves
write_object-requires-clause-leaves g c =
    let group = c.args.group.now in
    let id_is = c.id_at-id.ensures.entry (0, record { object = None; blocks = [] }) in
    let same = c.changes.ensures.changes ∙ changes_are group c.args.i c.id_at-id.result c.requires.rising c.requires.within id_is in
    changes_leaves c.changes.result.now (subst (λ (cs : List (ℕ × Ptr)). AllByRecursion IsBlockChange cs) (sym same) (each_entry group.objects c.args.i c.requires.group c.requires.within).change.blocks)

pub write_object-requires-clause-rises : goal.write_object-requires-clause-rises
write_object-requires-clause-rises g c = changes_rise 0 c.changes.result.now c.changes.ensures.rising

pub returns-in_err-record-clause-costs : goal.returns-in_err-record-clause-costs
returns-in_err-record-clause-costs g c =
    let group = c.args.group.now in
    let id_is = c.id_at-id.ensures.entry (0, record { object = None; blocks = [] }) in
    let same = c.changes.ensures.changes ∙ changes_are group c.args.i c.id_at-id.result c.requires.rising c.requires.within id_is in
    subst (λ (cs : List (ℕ × Ptr)). Costs (5 * length cs + 4) (5 * length cs) (g.B.Blocks.account c.args.store.now) (g.B.Blocks.account c.write_object.new.store)) same c.write_object.ensures.costs

pub returns-in_err-record-clause-cause : goal.returns-in_err-record-clause-cause
returns-in_err-record-clause-cause g c =
    let group = c.args.group.now in
    let e = c.in_err-record in
    let x = c.from_residual in
    let id_is = c.id_at-id.ensures.entry (0, record { object = None; blocks = [] }) in
    let same = c.changes.ensures.changes ∙ changes_are group c.args.i c.id_at-id.result c.requires.rising c.requires.within id_is in
    cause_from {T = Option ObjRec} x.result e.field-0.0 (err_from_is_err_and x.result x.ensures.1)
    (subst (λ (cs : List (ℕ × Ptr)). HasCause {T = Option ObjRec} (5 * length cs + 4) (g.B.Blocks.account c.args.store.now) (g.B.Blocks.account c.write_object.new.store) (Err e.field-0.0)) same e.ensures.cause)

pub returns-in_err-record-clause-errors : goal.returns-in_err-record-clause-errors
returns-in_err-record-clause-errors g c = λ s held stored.
    let group = c.args.group.now in
    let e = c.in_err-record in
    let x = c.from_residual in
    let id_is = c.id_at-id.ensures.entry (0, record { object = None; blocks = [] }) in
    let same = object_is group c.args.i c.id_at-id.result c.in-Some.object c.requires.rising c.requires.within id_is (sym c.in-Some.ensures) in
    let before = subst (λ (o : Option ObjRec). AreStored (object_blocks s o) s) (sym same) stored in
    tells_from {T = Option ObjRec} s (object_blocks s (entry group.objects c.args.i).1.object) x.result e.field-0.0 (err_from_is_err_and x.result x.ensures.1)
    (subst (λ (o : Option ObjRec). TellsOf {T = Option ObjRec} s (object_blocks s o) (Err e.field-0.0)) same (e.ensures.errors s held before))

pub returns-clause-costs : goal.returns-clause-costs
returns-clause-costs g c =
    let group = c.args.group.now in
    let id_is = c.id_at-id.ensures.entry (0, record { object = None; blocks = [] }) in
    let same = c.changes.ensures.changes ∙ changes_are group c.args.i c.id_at-id.result c.requires.rising c.requires.within id_is in
    subst (λ (cs : List (ℕ × Ptr)). Costs (5 * length cs + 4) (5 * length cs) (g.B.Blocks.account c.args.store.now) (g.B.Blocks.account c.write_object.new.store)) same c.write_object.ensures.costs

pub returns-clause-writes : goal.returns-clause-writes
returns-clause-writes g c = λ s held stored.
    let group = c.args.group.now in
    let record_now = c.in_ok-record.record in
    let has = g.B.Blocks.holds c.write_object.new.store in
    let id_is = c.id_at-id.ensures.entry (0, record { object = None; blocks = [] }) in
    let same = object_is group c.args.i c.id_at-id.result c.in-Some.object c.requires.rising c.requires.within id_is (sym c.in-Some.ensures) in
    let same_changes = c.changes.ensures.changes ∙ changes_are group c.args.i c.id_at-id.result c.requires.rising c.requires.within id_is in
    let before = subst (λ (o : Option ObjRec). AreStored (object_blocks s o) s) (sym same) stored in
    let writes = c.in_ok-record.ensures.writes s held before in
    let changes_now = subst (λ (cs : List (ℕ × Ptr)). Now has (λ n. WritesObject cs s n c.in-Some.object record_now)) same_changes writes in
    subst (λ (o : Option ObjRec). Now has (λ n. WritesObject (entry group.objects c.args.i).1.blocks s n o record_now)) same changes_now
