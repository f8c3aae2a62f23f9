use Rattle.zr_last.proofs.Lasting.{publishes}
use Rattle.zr_last.proofs.laws.publishes_newest.Goals as goal

pub returns : goal.returns
returns c = λ sizes pool last u before now seen ready sized lawful count rows shown above labels devices. publishes sizes pool last u before now seen ready sized lawful count rows shown above labels devices
