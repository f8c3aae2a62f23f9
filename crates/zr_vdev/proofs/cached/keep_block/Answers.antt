use Rattle.std.proofs.Common.{sym, subst}
use Rattle.zr_cache.specs.declared.table.Cache.{Cache}
use Rattle.zr_vdev.specs.Caches.{KeepsBlock}
use Rattle.zr_vdev.proofs.Caching.{keeps_forgotten, keeps_put}
use Rattle.zr_vdev.proofs.cached.keep_block.Goals as goal

pub returns-in_err-copy-clause-kept : goal.returns-in_err-copy-clause-kept
returns-in_err-copy-clause-kept c = keeps_forgotten c.args.cache.now c.forget_run.new.self c.args.b.now c.run_at-run.result c.forget_run.ensures.entries c.run_at-run.ensures c.args.bytes.now

pub returns-in_err-runs-clause-kept : goal.returns-in_err-runs-clause-kept
returns-in_err-runs-clause-kept c = keeps_forgotten c.args.cache.now c.forget_run.new.self c.args.b.now c.run_at-run.result c.forget_run.ensures.entries c.run_at-run.ensures c.args.bytes.now

pub returns-in_err-put-clause-kept : goal.returns-in_err-put-clause-kept
returns-in_err-put-clause-kept c =
    subst (λ (x : Cache). KeepsBlock c.args.cache.now x c.args.b.now c.args.bytes.now) (sym c.in_err-put.ensures.err)
    (keeps_forgotten c.args.cache.now c.forget_run.new.self c.args.b.now c.run_at-run.result c.forget_run.ensures.entries c.run_at-run.ensures c.args.bytes.now)

pub returns-clause-kept : goal.returns-clause-kept
returns-clause-kept c =
    keeps_put c.args.cache.now c.forget_run.new.self c.args.b.now c.run_at-run.result c.forget_run.ensures.entries c.run_at-run.ensures c.put.new.self
    (record { bytes = c.in_ok-copy.copy; runs = c.in_ok-runs.runs }) c.args.bytes.now c.in_ok-put.ensures.entries c.in_ok-copy.ensures.items c.in_ok-runs.ensures.items
