use Rattle.std.proofs.Common.{refl}
use Rattle.zr_rules.specs.Steps.{DiscardsSome}
use Rattle.zr_sync.specs.Objects.{HoldsObjects}
use Rattle.zr_sync.specs.declared.open.OpenPool.{OpenPool}
use Rattle.zr_sync.specs.Trees.{HasTrees}
use Rattle.zr_sync.specs.Trees.Stage.{Had}
use Rattle.zr_sync.proofs.Retelling.{discards_trees}
use Rattle.zr_sync.proofs.SavedRoots.{some_live, discards_objects, ok_with}
use Rattle.zr_sync.proofs.checkpoints.discard_some.Goals as goal

pub returns-clause-stays : goal.returns-clause-stays
returns-clause-stays c = λ disks objects h.
    let x = c.args.pool.now in
    let y : OpenPool = record x { space = c.discard_step.new.self } in
    ok_with c.discard_step.result (λ units. DiscardsSome x.space units y.space) (HoldsObjects (Unit {0}) disks y objects) c.discard_step.ensures.ok
    (λ units d. discards_objects (Unit {0}) disks x y objects (some_live x.space y.space units d) refl h)

pub returns-clause-trees : goal.returns-clause-trees
returns-clause-trees c = λ disks h.
    let x = c.args.pool.now in
    let y : OpenPool = record x { space = c.discard_step.new.self } in
    ok_with c.discard_step.result (λ units. DiscardsSome x.space units y.space) (HasTrees Had (Unit {0}) disks y) c.discard_step.ensures.ok (λ units d. discards_trees (Unit {0}) disks x y units d refl h)
