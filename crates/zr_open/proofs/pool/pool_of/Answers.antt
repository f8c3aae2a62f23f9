use Rattle.std.proofs.Common.{refl, sym, subst, ◌∙◌}
use Rattle.zr_rules.specs.Space.{Space}
use Rattle.zr_meta.specs.Heads.{IsSaved}
use Rattle.zr_sync.specs.Pools.{saved_block}
use Rattle.zr_open.specs.Opened.{IsSpaceOf}
use Rattle.zr_open.proofs.Opening.{is_open}
use Rattle.zr_roots.proofs.Rows.{taken_is}
use Rattle.zr_open.proofs.pool.pool_of.Goals as goal

pub returns-clause-open : goal.returns-clause-open
returns-clause-open c = λ sizes disks.
    let u = c.args.found.now.root in
    is_open sizes u c.args.head.now _ c.requires.root c.requires.head disks c.requires.long (subst (λ (s : Space). IsSpaceOf u s) (sym c.space.view_is) c.requires.space)
    (record { last = refl; name = refl; guid = refl; version = refl; count = refl; rows = refl; txg = c.new-2.ensures.txg; empty = c.new-2.ensures.empty; cache = c.in_ok-new.ensures.empty; head = c.head_tree.ensures.tree })
    refl
    c.head_tree.ensures.lawful
    c.in_ok-streams.ensures.lawful (c.in_ok-streams.ensures.count ∙ taken_is u c.requires.root) c.in_ok-streams.ensures.cond refl
    (subst (λ (s : Space). IsSaved s.parts.ckpt (saved_block c.args.checkpoint)) (sym c.space.view_is) c.requires.saved) c.requires.checkpoint
