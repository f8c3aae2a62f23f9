use Rattle.zr_held.proofs.Whole.{all_of}
use Rattle.zr_tables.proofs.Read.{read_adds_up}
use Rattle.zr_tables.proofs.Units.{live_once, live_adds}
use Rattle.zr_tables.proofs.live_units.live_units_are_led_to.Goals as goal

pub returns-clause-once : goal.returns-clause-once
returns-clause-once g c = λ shelf disks pool objects s held has live are. live_once pool s live held.stored held.once held.all (all_of s _ objects has) are

pub returns-clause-adds : goal.returns-clause-adds
returns-clause-adds g c = λ shelf disks pool objects s held has live are none. live_adds pool s live held.stored held.once held.all (all_of s _ objects has) are none

pub returns-clause-adds_up : goal.returns-clause-adds_up
returns-clause-adds_up g c = λ shelf disks pool objects h none s read metadata. read_adds_up (g.S.Shelf.tells shelf) (g.S.Shelf.tells shelf) disks pool objects h s read none metadata
