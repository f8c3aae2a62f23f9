use Rattle.std.proofs.Common.{◌≡◌, ◌≤◌, ◌+◌, ℕ, length}
use Rattle.zr_shelf.specs.Counts.{NoneFell}
use Rattle.zr_shelf.specs.Disks.{Stand}
use Rattle.zr_shelf.specs.Moments.{Throughout}
use Rattle.zr_session.specs.Moments.{IsMoment}
use Rattle.zr_session.specs.Progress.{StandsAt}
use Rattle.zr_session.proofs.script.Script.take_up.Given as goal

abbrev pub invariant-loop-part : goal.invariant-loop-part
invariant-loop-part g l =
    let desk = g.D.Shelf in
    let pool = g.P.Pool in
    record {
      at : desk.tells l.fn.desk → (desk.world l.fn.desk).now.paths ≡ pool.paths l.fn.pool → (opening : Stand) (taken : ℕ)
          → StandsAt pool.meaning l.course.rounds (pool.stands l.fn.pool) opening (desk.world l.fn.desk).now l.piece l.fn.self.line.items l.fn.self.lines taken
          → StandsAt pool.meaning l.course.rounds (pool.stands l.pool) opening (desk.world l.desk).now l.rest l.self.line.items l.self.lines taken;
      moments : desk.tells l.fn.desk → (desk.world l.fn.desk).now.paths ≡ pool.paths l.fn.pool → (opening : Stand) (taken : ℕ)
          → StandsAt pool.meaning l.course.rounds (pool.stands l.fn.pool) opening (desk.world l.fn.desk).now l.piece l.fn.self.line.items l.fn.self.lines taken
          → Throughout (IsMoment pool.meaning l.course.rounds opening) (desk.world l.fn.desk) (desk.world l.desk);
      named : desk.tells l.fn.desk → (desk.world l.desk).now.paths ≡ (desk.world l.fn.desk).now.paths;
      told : desk.tells l.fn.desk → desk.tells l.desk;
      lines : l.self.lines + length l.rest ≤ l.fn.self.lines + length l.piece;
      short : length l.self.line.items ≤ 16384;
      fits : pool.fits l.pool (desk.sizes l.desk);
      paths : pool.paths l.pool ≡ pool.paths l.fn.pool;
      sizes : desk.sizes l.desk ≡ desk.sizes l.fn.desk;
      none_fell : NoneFell (desk.counts l.fn.desk) (desk.counts l.desk);
    }

abbrev pub decreases-loop-part : goal.decreases-loop-part
decreases-loop-part g l = length l.rest
