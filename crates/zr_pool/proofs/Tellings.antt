-- What calls left of a shelf that is told, with nothing asked of the telling any more; and lines as turns of the account.
use Rattle.std.proofs.Common.{◌≡◌, ◌⊎◌, inl, inr, ℕ, ◌==◌, Bool, true, false, if◌then◌else◌, List, None, Result, Err, refl, sym, ap}
use Rattle.zr_base.specs.declared.refusal.Refusal.{Refusal}
use Rattle.zr_base.specs.declared.refusal.Refusal.TheVariants as refusal
use Rattle.zr_base.specs.declared.space.Dva.{Dva}
use Rattle.zr_bptr.specs.declared.Bptr.{Bptr}
use Rattle.zr_bptr.specs.declared.ObjRec.{ObjRec}
use Rattle.zr_change.specs.Edits.{IsPart}
use Rattle.zr_change.specs.declared.ranges.Edit.{Edit}
use Rattle.zr_create.specs.Refusals.{ChecksNext}
use Rattle.zr_lines.specs.Causes.{IsLookRefusal, IsUndone}
use Rattle.zr_lines.specs.Changes.{IsDone}
use Rattle.zr_lines.specs.Damage.{FindsDamage}
use Rattle.zr_lines.specs.Drops.{AreFoundIn}
use Rattle.zr_lines.specs.Intents.{Found, IsBehindCommit, IsFound}
use Rattle.zr_lines.specs.Upgrades.{Upgrades}
use Rattle.zr_lines.specs.declared.range.Reach.{Reach}
use Rattle.zr_script.specs.declared.command.Command.TheVariants as cmd
use Rattle.zr_script.specs.declared.reply.Reply.TheVariants as reply
use Rattle.zr_shelf.specs.Moments.{World}
use Rattle.zr_store.specs.Store.{Stored}
use Rattle.zr_sync.specs.Checkpoints.{GivesUpCheckpoint, TakesCheckpoint}
use Rattle.zr_sync.specs.Holds.{HasBlocks}
use Rattle.zr_sync.specs.Pools.{IsSamePool}
use Rattle.zr_sync.specs.declared.fault.Fault.{Fault}
use Rattle.zr_sync.specs.declared.fault.Fault.TheVariants.{No}
use Rattle.zr_sync.specs.declared.open.OpenPool.{OpenPool}
use Rattle.zr_vdev.proofs.Moves.{retold}
use Rattle.zr_vdev.specs.declared.kind.Kind.TheVariants.{Block}
use Rattle.zr_pool.specs.Accounts.{GivesKept, IsOver, PutsBytes, PutsNone, Turns}
use Rattle.zr_pool.specs.Replies.{step_reply}

-- ---- the telling

-- what disks hold of blocks is so whatever is told of them
blocks_anew : (t1 t2 : Type 0) (disks : List (List ℕ)) (x : OpenPool) (s : Stored) → t2 → HasBlocks t1 disks x s → HasBlocks t2 disks x s
blocks_anew t1 t2 disks x s told h = retold Block x.table.slots t1 t2 disks x.space None x.cache s told h

module _ (t : Type 0) (told : t) where
  pub blocks_told : (disks : List (List ℕ)) (x : OpenPool) (s : Stored) → HasBlocks (Unit {0}) disks x s → HasBlocks t disks x s
  blocks_told disks x s h = blocks_anew (Unit {0}) t disks x s told h

  undone_told : (reach : Reach) (id : ℕ) (e : Edit) (old : OpenPool) (disks : List (List ℕ)) (new : OpenPool) (r : Refusal) → IsUndone t reach id e old disks new r → IsUndone (Unit {0}) reach id e old disks new r
  undone_told reach id e old disks new r h = record {
    intent = h.intent;
    means = record {
      found = h.means.found;
      is_found = h.means.is_found;
      intent = h.means.intent;
      fits = h.means.fits;
      planned = λ s held. h.means.planned s (blocks_told h.means.found.disks h.means.found.pool s held);
    };
    stays = h.stays;
    cause = h.cause;
  }

  done_told : (reach : Reach) (id : ℕ) (e : Edit) (old : OpenPool) (disks : List (List ℕ)) (now : Type 0) (after : List (List ℕ)) (new : OpenPool)
      → IsDone t reach id e old disks now after new → IsDone (Unit {0}) reach id e old disks (Unit {0}) after new
  done_told reach id e old disks now after new h = record {
    intent = h.intent;
    means = record {
      found = h.means.found;
      is_found = h.means.is_found;
      intent = h.means.intent;
      fits = h.means.fits;
      planned = λ s held. h.means.planned s (blocks_told h.means.found.disks h.means.found.pool s held);
    };
    before = h.before;
    same = h.same;
    done = h.done;
    changed = λ s held stored.
        let n = h.changed s (blocks_told h.before.disks h.before.pool s held) stored in
        record { stored = n.stored; held = blocks_anew now (Unit {0}) after new n.stored tt n.held; is = n.is };
  }

  pub found_told : (disks : List (List ℕ)) (x : OpenPool) (id : ℕ) (blocks : List Bptr) → AreFoundIn t disks x id blocks → AreFoundIn (Unit {0}) disks x id blocks
  found_told disks x id blocks h = λ takes s held. h takes s (blocks_told disks x s held)

  pub checks_told : (sizes : List ℕ) (disks : List (List ℕ)) (x : OpenPool) (slot : ℕ) (outcome : Result (Unit {0}) Refusal) → ChecksNext sizes t disks x slot outcome → ChecksNext sizes (Unit {0}) disks x slot outcome
  checks_told sizes disks x slot outcome h = record {
    seen = h.seen;
    shown = record { count = h.shown.count; lawful = h.shown.lawful; shows = λ _. h.shown.shows told };
    checks = h.checks;
  }

  pub takes_told : (sizes : List ℕ) (now : World) (old new : OpenPool) → TakesCheckpoint sizes t now old new → TakesCheckpoint sizes (Unit {0}) now old new
  takes_told sizes now old new h = record {
    ended = h.ended;
    mid = h.mid;
    root = h.root;
    ends = h.ends;
    shown = λ _. h.shown told;
    held = h.held;
    saves = h.saves;
    next = h.next;
    resets = h.resets;
    next_shown = λ _. h.next_shown told;
    saved = h.saved;
  }

  pub gives_told : (sizes : List ℕ) (now : World) (old new : OpenPool) → GivesUpCheckpoint sizes t now old new → GivesUpCheckpoint sizes (Unit {0}) now old new
  gives_told sizes now old new h = record { dropped = h.dropped; drops = h.drops; root = h.root; resets = h.resets; shown = λ _. h.shown told; saved = h.saved }

  pub upgrades_told : (sizes : List ℕ) (now : World) (old new : OpenPool) → Upgrades sizes t now old new → Upgrades sizes (Unit {0}) now old new
  upgrades_told sizes now old new h = record { root = h.root; resets = h.resets; shown = λ _. h.shown told; logs = h.logs; saved = h.saved }

  -- ---- bytes that a line puts

  pub puts_bytes : (reach : Reach) (id off len : ℕ) (e : Edit) (disks : List (List ℕ)) (now : Type 0) (after : List (List ℕ)) (old new : OpenPool)
      → IsOver off len e → IsDone t reach id e old disks now after new → IsSamePool old new → PutsBytes reach id off len disks after old new
  puts_bytes reach id off len e disks now after old new over done same = (e, over, done_told reach id e old disks now after new done, same)

  still_undone : (reach : Reach) (id : ℕ) (e : Edit) (old : OpenPool) (disks : List (List ℕ)) (new : OpenPool) (r : Refusal)
      → IsLookRefusal r ⊎ IsUndone t reach id e old disks new r → IsLookRefusal r ⊎ IsUndone (Unit {0}) reach id e old disks new r
  still_undone reach id e old disks new r (inl looked) = inl looked
  still_undone reach id e old disks new r (inr h) = inr (undone_told reach id e old disks new r h)

  -- the pool in which damage was found, and its objects
  pub damage_told : (IsSought : Found → Type 0) (id : ℕ) (Needs : ObjRec → ℕ → Type 0) (old : OpenPool) (disks : List (List ℕ)) (at : Dva) (expected found : List ℕ)
      → FindsDamage t IsSought id Needs old disks at expected found → FindsDamage (Unit {0}) IsSought id Needs old disks at expected found
  damage_told IsSought id Needs old disks at expected found h = record {
    sought = h.sought;
    is_sought = h.is_sought;
    keeps = λ objects before.
        let after = h.keeps objects (record { stored = before.stored; held = blocks_told disks old before.stored before.held; has = before.has }) in
        record { stored = after.stored; held = blocks_anew t (Unit {0}) h.sought.disks h.sought.pool after.stored tt after.held; has = after.has };
    damage = λ s held. h.damage s (blocks_told h.sought.disks h.sought.pool s held);
  }

  pub puts_none : (reach : Reach) (id off len : ℕ) (e : Edit) (disks : List (List ℕ)) (old : OpenPool) (r : Refusal) (new : OpenPool)
      → IsOver off len e → IsLookRefusal r ⊎ IsUndone t reach id e old disks new r
      → ((at : Dva) (expected found : List ℕ) → r ≡ refusal.Damaged at expected found → FindsDamage t (IsFound reach id e old disks) id (λ o. IsPart o.units e) old disks at expected found)
      → (new.group ≡ old.group) ⊎ IsBehindCommit reach id e old new → IsSamePool old new → PutsNone reach id off len disks old r new
  puts_none reach id off len e disks old r new over why damage kept same = record {
    edit = e;
    over = over;
    why = still_undone reach id e old disks new r why;
    damage = λ at expected found is. damage_told (IsFound reach id e old disks) id (λ o. IsPart o.units e) old disks at expected found (damage at expected found is);
    kept = kept;
    same = same;
  }

-- ---- a step of discarding

-- the units were some, or none
stepped_by : (paths : List (List ℕ)) (sizes : List ℕ) (disks after : List (List ℕ)) (x y : OpenPool) (units : ℕ) (none : Bool) → (units == 0) ≡ none → GivesKept units x y
    → Turns paths sizes disks x cmd.StepDiscard (if none then reply.Ended else reply.Freed units) after y
stepped_by paths sizes disks after x y units true is h = (units, ap (λ (b : Bool). if b then reply.Ended else reply.Freed units) (sym is), h)
stepped_by paths sizes disks after x y units false is h = (units, ap (λ (b : Bool). if b then reply.Ended else reply.Freed units) (sym is), h)

pub stepped_turn : (paths : List (List ℕ)) (sizes : List ℕ) (disks after : List (List ℕ)) (x y : OpenPool) (units : ℕ) → GivesKept units x y → Turns paths sizes disks x cmd.StepDiscard (step_reply units) after y
stepped_turn paths sizes disks after x y units h = stepped_by paths sizes disks after x y units (units == 0) refl h

-- ---- refusals

pub refused_same : {T : Type 0} (why r : Refusal) (result : Result T Fault) → result ≡ Err (No why) → result ≡ Err (No r) → r ≡ why
refused_same why r result was is = cc
