use Rattle.zr_metaslab.proofs.Places.{longest_is}
use Rattle.zr_metaslab.proofs.device.Device.longest.Goals as goal

pub returns : goal.returns
returns c = rw (← c.self.view_is) (longest_is c.self.inside.slabs.items c.self.inside.longest c.greatest.result c.self.invariant.kept c.greatest.ensures.most c.greatest.ensures.some)
