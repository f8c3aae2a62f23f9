use Rattle.std.proofs.Common.{arith}
use Rattle.zr_vdev.specs.declared.kind.Kind.TheVariants.{Meta}
use Rattle.zr_vdev.proofs.Follows.{others_itself}
use Rattle.zr_sync.proofs.Moving.{leave_step, none_step}
use Rattle.zr_sync.proofs.commits.leave_device.Goals as goal

pub loop-more-init : goal.loop-more-init
loop-more-init c = record { others = others_itself Meta c.args.space.now; none = λ e. cc }

pub drop_meta_on-requires : goal.drop_meta_on-requires
drop_meta_on-requires c = let same = c.loop-more.invariant.others.rows.devices in omega (arith, same, c.requires)

pub loop-more-preserved : goal.loop-more-preserved
loop-more-preserved c =
    let first = c.args.space.now in
    let mid = c.loop-more.space in
    let new = c.drop_meta_on.new.self in
    let b = c.in_ok-more.more in
    record {
      others = leave_step first mid new c.args.dev b c.loop-more.invariant.others c.in_ok-more.ensures.yes c.in_ok-more.ensures.no;
      none = none_step mid new c.args.dev b c.in_ok-more.ensures.no;
    }
