use Rattle.std.proofs.Common.{◌≡◌, ℕ, false, refl, sym, subst}
use Rattle.zr_rules.specs.Roles.{is_meta_role}
use Rattle.zr_rules.specs.Space.{Space, role_at}
use Rattle.zr_removal.proofs.Giving.{current_step, gives_itself, unsaved_step}
use Rattle.zr_removal.proofs.Idle.{idle_current}
use Rattle.zr_removal.proofs.metadata.give_current.Goals as goal

pub loop-more-init : goal.loop-more-init
loop-more-init c = record { gives = gives_itself c.args.space.now; unsaved = c.requires.unsaved; none = λ e. cc; idle = λ none. refl }

pub loop-more-preserved : goal.loop-more-preserved
loop-more-preserved c =
    let first = c.args.space.now in
    let mid = c.loop-more.space in
    let new = c.drop_meta_on.new.self in
    let b = c.in_ok-more.more in
    let i = c.loop-more.invariant in
    record {
      gives = current_step c.args.dev first mid new b i.gives c.in_ok-more.ensures.yes c.in_ok-more.ensures.no;
      unsaved = unsaved_step c.args.dev first mid new b i.unsaved c.in_ok-more.ensures.yes c.in_ok-more.ensures.no;
      none = λ is. subst (λ (s : Space). (u : ℕ) → is_meta_role (role_at s c.args.dev u) ≡ false) (sym (c.in_ok-more.ensures.no is).0) (c.in_ok-more.ensures.last is i.unsaved);
      idle = λ none. idle_current c.args.dev first mid new b (i.idle none) none c.in_ok-more.ensures.yes c.in_ok-more.ensures.no;
    }
