use Rattle.std.proofs.Common.{refl}
use Rattle.zr_removal.proofs.Idle.{idle_saved}
use Rattle.zr_removal.proofs.Giving.{gives_itself, none_saved, saved_step}
use Rattle.zr_removal.proofs.metadata.give_saved.Goals as goal

pub loop-more-init : goal.loop-more-init
loop-more-init c = record { gives = gives_itself c.args.space.now; none = λ e. cc; idle = λ none. refl }

pub loop-more-preserved : goal.loop-more-preserved
loop-more-preserved c =
    let first = c.args.space.now in
    let mid = c.loop-more.space in
    let new = c.drop_saved.new.self in
    let b = c.in_ok-more.more in
    record {
      gives = saved_step first mid new b c.loop-more.invariant.gives c.in_ok-more.ensures.yes c.in_ok-more.ensures.no;
      none = none_saved mid new b c.in_ok-more.ensures.no;
      idle = λ none. idle_saved first mid new b (c.loop-more.invariant.idle none) none c.in_ok-more.ensures.yes c.in_ok-more.ensures.no;
    }
