use Rattle.std.proofs.Common.{◌≡◌, map, take}
use Rattle.zr_shelf.specs.Counts.{NoneFell}
use Rattle.zr_shelf.specs.Moments.{Throughout}
use Rattle.zr_command.specs.Meanings.{disks_of}
use Rattle.zr_session.specs.Moments.{IsStepsMoment}
use Rattle.zr_session.specs.Agenda.{Inserted}
use Rattle.zr_session.specs.Lines.{StandsForOne, DoesSteps}
use Rattle.zr_session.proofs.rounds.do_steps.Given as goal

abbrev pub invariant-loop-actor : goal.invariant-loop-actor
invariant-loop-actor g l =
    let desk = g.D.Shelf in
    let pool = g.P.Pool in
    record {
      done : desk.tells l.fn.desk → (desk.world l.fn.desk).now.paths ≡ pool.paths l.fn.pool → (before : pool.meaning.State) → pool.stands l.fn.pool (disks_of (desk.world l.fn.desk).now) before
          → StandsForOne (pool.stands l.pool) (desk.world l.desk).now (λ after. DoesSteps pool.meaning l.replies (map Inserted (take l.actor-index l.actors)) before after (desk.world l.fn.desk).now (desk.world l.desk).now);
      moments : desk.tells l.fn.desk → (desk.world l.fn.desk).now.paths ≡ pool.paths l.fn.pool → (before : pool.meaning.State) → pool.stands l.fn.pool (disks_of (desk.world l.fn.desk).now) before
          → Throughout (IsStepsMoment pool.meaning l.replies (map Inserted l.actors) before (desk.world l.fn.desk).now) (desk.world l.fn.desk) (desk.world l.desk);
      named : desk.tells l.fn.desk → (desk.world l.desk).now.paths ≡ (desk.world l.fn.desk).now.paths;
      told : desk.tells l.fn.desk → desk.tells l.desk;
      fits : pool.fits l.pool (desk.sizes l.desk);
      paths : pool.paths l.pool ≡ pool.paths l.fn.pool;
      sizes : desk.sizes l.desk ≡ desk.sizes l.fn.desk;
      none_fell : NoneFell (desk.counts l.fn.desk) (desk.counts l.desk);
    }
