use Rattle.std.proofs.Common.{◌≡◌, false, sym, subst}
use Rattle.std.specs.Prelude.{OnOk}
use Rattle.zr_rules.specs.Roles.{is_meta_role}
use Rattle.zr_rules.specs.Space.{Space, role_at}
use Rattle.zr_removal.specs.Metadata.{GivesMetadata}
use Rattle.zr_removal.proofs.Copied.{on_ok_then}
use Rattle.zr_removal.proofs.Giving.{gives_then}
use Rattle.zr_removal.proofs.metadata.give_metadata.Goals as goal

pub returns-clause-gives : goal.returns-clause-gives
returns-clause-gives c =
    on_ok_then c.give_current.result c.give_current.ensures.gives
    (λ (q : GivesMetadata c.give_saved.new.space c.give_current.new.space). gives_then c.args.space.now c.give_saved.new.space c.give_current.new.space c.in_ok-give_saved.ensures.gives q)

pub returns-clause-idle : goal.returns-clause-idle
returns-clause-idle c = λ unsaved clear.
    let same : c.give_saved.new.space ≡ c.args.space.now = c.in_ok-give_saved.ensures.idle unsaved in
    subst (λ (s : Space). OnOk c.give_current.result (c.give_current.new.space ≡ s)) same (c.give_current.ensures.idle (λ u. subst (λ (s : Space). is_meta_role (role_at s c.args.dev u) ≡ false) (sym same) (clear u)))
