use Rattle.std.proofs.Common.{sym, subst}
use Rattle.std.specs.Prelude.{All}
use Rattle.std.proofs.lemmas.List.Elements.{All-push}
use Rattle.zr_image.specs.Roots.{HasRootSize}
use Rattle.zr_import.proofs.objects.add_object.Goals as goal

pub returns-in_ok-push-in-Some-clause-sized : goal.returns-in_ok-push-in-Some-clause-sized
returns-in_ok-push-in-Some-clause-sized c =
    subst (All HasRootSize) (sym c.in_ok-push-in-Some.ensures.items) (All-push HasRootSize c.args.objects.now.items c.in-Some.r c.requires.sizes (c.has_root_size.ensures.0 c.if-not-has_root_size.false))
