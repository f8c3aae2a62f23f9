use Rattle.std.proofs.Common.{ap, sym, ◌∙◌, is_some}
use Rattle.std.specs.FinMap as map
use Rattle.zr_session.proofs.Maps.{changed_by, changed_none, get_is}
use Rattle.zr_session.proofs.table.ObjectTable.change.Goals.{in-Some+in_ok-write, in_default}
use Rattle.zr_session.proofs.table.ObjectTable.change.Goals as goal

pub returns : goal.returns
returns c =
    let es = c.self.inside.objects.entries in
    elim c.match-get_mut.branch [
      | in-Some+in_ok-write w ↦
          rw w.self-inside-is (changed_by c.args.self.now es _ c.args.id c.args.off c.args.bytes.now w.in-Some.object.now w.write.new.self c.self.view_is w.in-Some.ensures.value w.in_ok-write.ensures
          ((c.get_mut.follows.holds w.write.new.self).3 (ap is_some (sym w.in-Some.ensures.value))).0)
      | in_default w ↦
          rw w.self-inside-is (changed_none c.args.self.now _ c.args.id c.args.off c.args.bytes.now (ap (λ m. map.get m c.args.id) (sym c.self.view_is) ∙ (get_is es c.args.id ∙ sym w.in_default.ensures.value)))
    ]
