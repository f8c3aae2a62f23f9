-- The disks show the last root of a pool behind the lines on a checkpoint.
use Rattle.std.proofs.Common.{◌≡◌, ℕ, Bool, true, false, List, [], ap}
use Rattle.std.specs.Prelude.{IfSome}
use Rattle.zr_last.proofs.Ending.{leaves_by}
use Rattle.zr_last.proofs.Lasting.{commit_last, same_last}
use Rattle.zr_sync.specs.Ends.{LeavesCommitted}
use Rattle.zr_last.specs.Last.{KeepsLast, KeepsRoot}
use Rattle.zr_shelf.specs.Moments.{World}
use Rattle.zr_sync.specs.Checkpoints.{CommitsOn, CommitsTwice, CommitsWithout, DropsRoot, GivesUpCheckpoint, SavesRoot, TakesCheckpoint}
use Rattle.zr_sync.specs.Heads.{HasHead, HasSafeHead}
use Rattle.zr_sync.specs.declared.open.OpenPool.{OpenPool}

committed_last : (sizes : List ℕ) (reset : Bool) (before now : World) (old new : OpenPool) → CommitsOn sizes reset before now old new → KeepsLast before now old new
committed_last sizes reset before now old new h = commit_last sizes sizes old new reset before now h.ready h.later h.sized h.txg h.root h.wrote h.guid h.table

saved_root : (old new : OpenPool) → SavesRoot old new → KeepsRoot old new
saved_root old new h = record { last = ap (λ (p : OpenPool). p.last) h.rest; guid = ap (λ (p : OpenPool). p.guid) h.rest; table = ap (λ (p : OpenPool). p.table) h.rest }

dropped_root : (old new : OpenPool) → DropsRoot old new → KeepsRoot old new
dropped_root old new h = record { last = ap (λ (p : OpenPool). p.last) h.rest; guid = ap (λ (p : OpenPool). p.guid) h.rest; table = ap (λ (p : OpenPool). p.table) h.rest }

pub twice_last : (sizes : List ℕ) (before now : World) (old new : OpenPool) → CommitsTwice sizes before now old new → KeepsLast before now old new
twice_last sizes before now old new h shown =
    committed_last sizes true h.mid now h.held new h.second (same_last h.mid.now.seen h.ended h.held (saved_root h.ended h.held h.saves) (committed_last sizes false before h.mid old h.ended h.first shown))

pub without_last : (sizes : List ℕ) (before now : World) (old new : OpenPool) → CommitsWithout sizes before now old new → KeepsLast before now old new
without_last sizes before now old new h shown = committed_last sizes true before now h.dropped new h.commits (same_last before.now.seen old h.dropped (dropped_root old h.dropped h.drops) shown)

-- ---- what they leave

pub twice_leaves : (sizes : List ℕ) (tells : Type 0) (before now : World) (old new : OpenPool) → CommitsTwice sizes before now old new → TakesCheckpoint sizes tells now old new → new.group.objects ≡ [] → IfSome new.last (λ u. HasHead now.now.seen new u.root u.len) → IfSome new.last (λ u. HasSafeHead now.now.seen new u.root u.len)
    → LeavesCommitted new now.now
twice_leaves sizes tells before now old new h takes empty head safe = leaves_by sizes sizes h.held new h.mid now h.second.ready h.second.later h.second.txg h.second.wrote takes.resets.ended.opened empty head safe

pub without_leaves : (sizes : List ℕ) (tells : Type 0) (before now : World) (old new : OpenPool) → CommitsWithout sizes before now old new → GivesUpCheckpoint sizes tells now old new → new.group.objects ≡ [] → IfSome new.last (λ u. HasHead now.now.seen new u.root u.len) → IfSome new.last (λ u. HasSafeHead now.now.seen new u.root u.len)
    → LeavesCommitted new now.now
without_leaves sizes tells before now old new h gives empty head safe = leaves_by sizes sizes h.dropped new before now h.commits.ready h.commits.later h.commits.txg h.commits.wrote gives.resets.ended.opened empty head safe
