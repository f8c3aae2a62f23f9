use Rattle.std.proofs.Common.{◌≡◌, ◌≤◌, ◌-◌, ◌^◌, [], length}
use Rattle.zr_shelf.specs.Counts.{NoneFell}
use Rattle.zr_shelf.specs.Moments.{Throughout}
use Rattle.zr_session.specs.Moments.{IsMoment}
use Rattle.zr_session.specs.Progress.{StandsAt}
use Rattle.zr_session.proofs.session.serve.Given as goal

abbrev pub invariant-loop-taken : goal.invariant-loop-taken
invariant-loop-taken g l =
    let desk = g.D.Shelf in
    let pool = g.P.Pool in
    record {
      at : desk.tells l.fn.desk → (desk.world l.fn.desk).now.paths ≡ pool.paths l.fn.pool
          → StandsAt pool.meaning l.course.rounds (pool.stands l.pool) (desk.world l.fn.desk).now (desk.world l.desk).now [] l.script.line.items l.script.lines l.taken;
      moments : desk.tells l.fn.desk → (desk.world l.fn.desk).now.paths ≡ pool.paths l.fn.pool → Throughout (IsMoment pool.meaning l.course.rounds (desk.world l.fn.desk).now) (desk.world l.fn.desk) (desk.world l.desk);
      named : desk.tells l.fn.desk → (desk.world l.desk).now.paths ≡ (desk.world l.fn.desk).now.paths;
      told : desk.tells l.fn.desk → desk.tells l.desk;
      lines : l.script.lines ≤ l.taken;
      most : l.taken ≤ 2 ^ 32;
      short : length l.script.line.items ≤ 16384;
      fits : pool.fits l.pool (desk.sizes l.desk);
      paths : pool.paths l.pool ≡ pool.paths l.fn.pool;
      sizes : desk.sizes l.desk ≡ desk.sizes l.fn.desk;
      none_fell : NoneFell (desk.counts l.fn.desk) (desk.counts l.desk);
    }

abbrev pub decreases-loop-taken : goal.decreases-loop-taken
decreases-loop-taken g l = 2 ^ 32 - l.taken
