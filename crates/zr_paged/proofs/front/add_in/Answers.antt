use Rattle.std.proofs.Common.{◌+◌, arith}
use Rattle.zr_paged.specs.Pages.{all_of, pages_in, TakesNext}
use Rattle.zr_paged.proofs.Nexts.{clear_next}
use Rattle.zr_paged.proofs.front.add_in.Goals as goal

pub add_clear-requires-clause-clear : goal.add_clear-requires-clause-clear
add_clear-requires-clause-clear c =
    let f : TakesNext (all_of (pages_in c.args.front.now)) (all_of (pages_in c.take_next_in.new.front)) (c.args.e.start + c.args.e.len) c.in-Some.next = c.in-Some.ensures.some in
    clear_next (pages_in c.args.front.now) (pages_in c.take_next_in.new.front) (c.args.e.start + c.args.e.len) (c.args.e.start + (c.args.e.len + c.in-Some.next.len)) c.in-Some.next (record { fit = c.in-Some.ensures.fit; maximal = f.removed.maximal }) f (omega (arith, f.start))
