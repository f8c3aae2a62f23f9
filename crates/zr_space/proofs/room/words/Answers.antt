use Rattle.std.proofs.Common.{subst, sym}
use Rattle.zr_space.specs.Totals.{HasWords}
use Rattle.zr_space.proofs.Views.{kept_read}
use Rattle.zr_space.proofs.room.words.Goals as goal

pub words_of-words-requires : goal.words_of-words-requires
words_of-words-requires c =
    let is = kept_read c.args.devs.now c.loop-device.device-index c.device-item.result c.loop-device-test.true c.device-item.is in
    subst HasWords (sym is) (c.requires.words c.loop-device.device-index)
