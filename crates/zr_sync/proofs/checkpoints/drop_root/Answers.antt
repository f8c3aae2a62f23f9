use Rattle.std.proofs.Common.{refl, subst}
use Rattle.zr_rules.specs.Space.{Space}
use Rattle.zr_sync.specs.Checkpoints.{GivesSavedMeta}
use Rattle.zr_sync.proofs.SavedRoots.{drops_open}
use Rattle.zr_sync.proofs.checkpoints.drop_root.Goals as goal

pub returns-clause-drops : goal.returns-clause-drops
returns-clause-drops c = record {
  none = refl;
  gives = subst (λ (s : Space). GivesSavedMeta s c.give_saved.new.space) c.discard.ensures c.in_ok-give_saved.ensures.gives;
  nothing = c.in_ok-give_saved.ensures.none;
  rest = refl;
}

pub returns-clause-pool : goal.returns-clause-pool
returns-clause-pool c = λ sizes o.
    drops_open sizes c.args.pool.now _ o (subst (λ (s : Space). GivesSavedMeta s c.give_saved.new.space) c.discard.ensures c.in_ok-give_saved.ensures.gives) refl
