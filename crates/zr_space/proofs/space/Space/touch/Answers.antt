use Rattle.std.proofs.Common.{sym, arith}
use Rattle.zr_rules.specs.Equation.{devices_in}
use Rattle.zr_space.proofs.Freeables.{unknown_piece}
use Rattle.zr_space.proofs.space.Space.touch.Goals as goal

pub returns-then-a-devices-clause-pieces : goal.returns-then-a-devices-clause-pieces
returns-then-a-devices-clause-pieces c = sym (unknown_piece (devices_in c.args.self.now).count c.args.self.now.parts.devs c.args.a.dev c.args.a.start c.args.a.len (omega (arith, c.devices.ensures)))
