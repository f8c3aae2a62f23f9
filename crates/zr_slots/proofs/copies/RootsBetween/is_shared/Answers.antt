use Rattle.zr_slots.proofs.Twice.{two_roots, not_two_roots}
use Rattle.zr_slots.proofs.copies.RootsBetween.is_shared.Goals as goal

pub returns-clause-yes : goal.returns-clause-yes
returns-clause-yes c = λ t.
    let h = c.differ.ensures.yes t in
    two_roots c.args.self.now.seen.now c.args.a c.args.b c.args.self.now.txg c.roots_at.result.now c.roots_at-2.result.now c.roots_at.ensures c.roots_at-2.ensures c.requires.one.top
    h.0 h.1 h.2 h.3 h.4 h.5

pub returns-clause-no : goal.returns-clause-no
returns-clause-no c = λ t h.
    not_two_roots c.args.self.now.seen.now c.args.a c.args.b c.args.self.now.txg c.roots_at.result.now c.roots_at-2.result.now c.roots_at.ensures c.roots_at-2.ensures c.requires.one.top
    (c.differ.ensures.no t) h
