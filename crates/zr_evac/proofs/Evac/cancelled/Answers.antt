use Rattle.std.proofs.Common.{◌≡◌, ◌<◌, ap, length, arith}
use Rattle.zr_base.specs.declared.space.Entry.{Entry}
use Rattle.zr_rules.specs.Mappings.{entry_at}
use Rattle.zr_rules.specs.Places.{one_if}
use Rattle.zr_evac.specs.Evacuations.{is_copy_in}
use Rattle.zr_evac.proofs.Copies.{copies_more}
use Rattle.zr_evac.proofs.Evac.cancelled.Goals as goal

pub loop-i-preserved : goal.loop-i-preserved
loop-i-preserved c =
    let there : c.loop-i.i < length c.self.inside.map.entries = omega (arith, c.loop-i-test.true, c.len-i-end.ensures.count) in
    let before = rw (← c.self.view_is) at c.loop-i.invariant.hits in
    let entry : c.entry.result ≡ entry_at c.self.inside.map.entries c.loop-i.i = c.entry.ensures.value in
    rw (← c.self.view_is) (record {
      hits = λ d u.
          let new = c.in_ok-push_unmarked.ensures.hits d u in
          let e_is = ap (λ (e : Entry). one_if (is_copy_in c.self.inside.marks.extents e e.len d u)) entry in
          omega (arith, new, before d u, e_is, copies_more c.self.inside.marks.extents c.self.inside.map.entries c.loop-i.i d u there);
      lawful = c.in_ok-push_unmarked.ensures.lawful c.loop-i.invariant.lawful;
    })
