use Rattle.std.proofs.Common.{rules, ◌∙◌, refl}
use Rattle.zr_vdev.proofs.Follows.{continues_itself}
use Rattle.zr_store_rows.proofs.devices.put_tree.Goals as goal

pub returns : goal.returns
returns g c =
    let v = c.new-store.ensures in
    let f = c.put_leaf.ensures c.new-store.result (refl, refl, refl, refl, continues_itself _ _ _ _ _ _ _ _) in
    let mount = f.3 ∙ v.mount in
    let goes = f.4 in
    search (rules, goes, v, mount)
