use Rattle.std.proofs.Common.{◌^◌, false, refl, arith}
use Rattle.std.proofs.lemmas.Result.{on_ok_weaker}
use Rattle.zr_import.specs.declared.walks.Kept.TheVariants.{Nothing}
use Rattle.zr_import.specs.declared.walks.Shape.{Shape}
use Rattle.zr_import.proofs.Places.{has_length, object_root}
use Rattle.zr_import.proofs.objects.walk_object.Goals as goal

pub returns-clause-length : goal.returns-clause-length
returns-clause-length g c = λ s holds.
    let r = c.args.r.now in
    let shape : Shape = record { txg = c.args.txg; leaf_units = r.units; leaves = 2 ^ 25; full = false; kept = Nothing } in
    on_ok_weaker c.walk_tree.result (has_length s shape r refl) (c.walk_tree.ensures.stand s holds (object_root shape r (omega arith) refl refl c.requires.sized))
