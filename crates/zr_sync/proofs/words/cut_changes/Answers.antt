use Rattle.std.proofs.Common.{rules}
use Rattle.zr_sync.proofs.Growing.{has_more}
use Rattle.zr_sync.proofs.words.cut_changes.Goals as goal

pub loop-change-preserved : goal.loop-change-preserved
loop-change-preserved c =
    let h = c.loop-change.invariant in
    record {
      lawful = c.put_cut.ensures.lawful;
      runs = search (rules, h.runs, c.split_first.ensures);
      cut = has_more c.args.changes.now c.loop-change.cut.items c.put_cut.new.cut.items c.loop-change.rest.now c.in-Some.tail.now c.in-Some.change.now (search rules) h.cut c.in_ok-put_cut.ensures.cut;
    }
