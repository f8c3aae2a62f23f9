use Rattle.std.proofs.Common.{Option, subst}
use Rattle.std.specs.Prelude.{IfSome}
use Rattle.zr_open.specs.Roots.{IsLawfulSaved}
use Rattle.zr_open.specs.declared.saved.SavedRoot.{SavedRoot}
use Rattle.zr_open.proofs.saved.checkpoint_of.Goals as goal

pub streams_of-requires : goal.streams_of-requires
streams_of-requires c = record { head = (subst (λ (o : Option SavedRoot). IfSome o IsLawfulSaved) c.in-Some-Some.is-0 c.requires.lawful).head }
