use Rattle.std.proofs.Common.{take}
use Rattle.zr_meta.specs.Parts.{AreParts}
use Rattle.zr_meta.proofs.parts.device_parts.Given as goal

abbrev pub invariant-loop-dev : goal.invariant-loop-dev
invariant-loop-dev l = AreParts l.version l.ckpt 0 (take l.dev l.words) l.parts
