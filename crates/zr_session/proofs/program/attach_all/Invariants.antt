use Rattle.std.proofs.Common.{◌≡◌, ◌+◌, map, take, length}
use Rattle.zr_shelf.specs.Counts.{NoneFell}
use Rattle.zr_shelf.specs.Moments.{Throughout}
use Rattle.zr_session.specs.Answers.{IsAttached}
use Rattle.zr_session.specs.Moments.{IsAttaching}
use Rattle.zr_words.specs.Views.{device_of}
use Rattle.zr_session.proofs.program.attach_all.Given as goal

abbrev pub invariant-loop-device : goal.invariant-loop-device
invariant-loop-device g l =
    let desk = g.D.Shelf in
    record {
      at : desk.tells l.fn.desk → IsAttached (map device_of (take l.device-index l.devices)) (desk.world l.fn.desk).now (desk.world l.desk).now;
      moments : desk.tells l.fn.desk → Throughout (IsAttaching (map device_of l.devices) (desk.world l.fn.desk).now) (desk.world l.fn.desk) (desk.world l.desk);
      told : desk.tells l.fn.desk → desk.tells l.desk;
      sizes : length (desk.sizes l.desk) ≡ length (desk.sizes l.fn.desk) + l.device-index;
      none_fell : NoneFell (desk.counts l.fn.desk) (desk.counts l.desk);
    }
