use Rattle.std.proofs.Common.{◌≡◌, ◌+◌, length, take}
use Rattle.zr_shelf.specs.Counts.{NoneFell}
use Rattle.zr_command.specs.Meanings.{disks_of}
use Rattle.zr_shelf.specs.Moments.{Throughout}
use Rattle.zr_script.specs.declared.command.Command.{Command}
use Rattle.zr_session.specs.Agenda.{agenda, IsGiven}
use Rattle.zr_session.specs.Moments.{IsMomentOf}
use Rattle.zr_session.specs.declared.replies.Replies.TheVariants.{Kept}
use Rattle.zr_session.specs.Lines.{StandsForOne}
use Rattle.zr_session.specs.Tallied.{DoesCommands}
use Rattle.zr_session.proofs.generated.do_commands.Given as goal

abbrev pub invariant-loop-index : goal.invariant-loop-index
invariant-loop-index g l =
    let desk = g.D.Shelf in
    let pool = g.P.Pool in
    record {
      done : desk.tells l.fn.desk → (desk.world l.fn.desk).now.paths ≡ pool.paths l.fn.pool → (before : pool.meaning.State) → pool.stands l.fn.pool (disks_of (desk.world l.fn.desk).now) before
          → StandsForOne (pool.stands l.pool) (desk.world l.desk).now (λ after. DoesCommands pool.meaning (agenda l.course.rounds (take l.index l.commands)) l.tally before after (desk.world l.fn.desk).now (desk.world l.desk).now);
      moments : desk.tells l.fn.desk → (desk.world l.fn.desk).now.paths ≡ pool.paths l.fn.pool → (before : pool.meaning.State) → pool.stands l.fn.pool (disks_of (desk.world l.fn.desk).now) before
          → Throughout (IsMomentOf Command pool.meaning IsGiven Kept (agenda l.course.rounds l.commands) before (desk.world l.fn.desk).now) (desk.world l.fn.desk) (desk.world l.desk);
      named : desk.tells l.fn.desk → (desk.world l.desk).now.paths ≡ (desk.world l.fn.desk).now.paths;
      told : desk.tells l.fn.desk → desk.tells l.desk;
      count : l.tally.accepted + l.tally.refused ≡ l.index;
      last : l.index-end ≡ length l.commands;
      fits : pool.fits l.pool (desk.sizes l.desk);
      paths : pool.paths l.pool ≡ pool.paths l.fn.pool;
      sizes : desk.sizes l.desk ≡ desk.sizes l.fn.desk;
      none_fell : NoneFell (desk.counts l.fn.desk) (desk.counts l.desk);
    }
