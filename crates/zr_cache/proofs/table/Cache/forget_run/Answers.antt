use Rattle.std.proofs.Common.{sym, ◌∙◌}
use Rattle.zr_cache.specs.Entries.{entries, is_in}
use Rattle.zr_cache.specs.contracts.entry.KeyPartialEq.TheImpl as keys
use Rattle.zr_cache.proofs.Keys.{own_key, same_key}
use Rattle.zr_cache.proofs.Removing.{filter-none, fewer, keeps_the_others, nothing-found}
use Rattle.zr_cache.proofs.table.Cache.forget_run.Goals as goal

pub loop-key-smaller : goal.loop-key-smaller
loop-key-smaller c =
    rw c.forget.ensures.entries (fewer keys.ghosts.eq own_key same_key (is_in c.args.run.now) (entries c.loop-key.self) c.in-Some.key (sym c.in-Some.ensures.first))

pub loop-key-preserved : goal.loop-key-preserved
loop-key-preserved c = record {
  left = rw c.forget.ensures.entries (keeps_the_others keys.ghosts.eq own_key same_key (is_in c.args.run.now) (entries c.loop-key.self) c.in-Some.key (sym c.in-Some.ensures.first) c.in-Some.ensures.distinct ∙ c.loop-key.invariant.left);
  room = c.forget.ensures.room ∙ c.loop-key.invariant.room;
}

pub returns-clause-entries : goal.returns-clause-entries
returns-clause-entries c =
    sym (filter-none (is_in c.args.run.now) (entries c.loop-key.self) (nothing-found (is_in c.args.run.now) (entries c.loop-key.self) (sym c.in_default.ensures.first))) ∙ c.loop-key.invariant.left
