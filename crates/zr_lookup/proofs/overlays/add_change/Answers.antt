use Rattle.zr_lookup.proofs.Keys.{added, added_fills, none_added, none_added_fills}
use Rattle.zr_lookup.proofs.overlays.add_change.Goals as goal

pub returns-in_ok-push-clause-between : goal.returns-in_ok-push-clause-between
returns-in_ok-push-clause-between c = added c.args.index c.args.out.now.items c.push.new.self.items c.in-At.b c.requires.out c.in_ok-push.ensures.items

pub returns-in_ok-push-clause-fills : goal.returns-in_ok-push-clause-fills
returns-in_ok-push-clause-fills c = added_fills c.args.index c.args.p.now c.args.out.now.items c.push.new.self.items c.in-At.b c.requires.out c.in-At.is c.in_ok-push.ensures.items

pub returns-in_default-clause-between : goal.returns-in_default-clause-between
returns-in_default-clause-between c = none_added c.args.index c.args.out.now.items c.requires.out

pub returns-in_default-clause-fills : goal.returns-in_default-clause-fills
returns-in_default-clause-fills c = none_added_fills c.args.index c.args.p.now c.args.out.now.items c.requires.out c.in_default.not-At
