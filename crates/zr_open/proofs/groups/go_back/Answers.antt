use Rattle.std.proofs.Common.{rules, ◌≡◌, refl, inl, inr, ℕ, ◌+◌, List, [], Option, Ok, Err, Some, sym, ◌∙◌, ap, subst, arith}
use Rattle.std.specs.Prelude.{IfOk}
use Rattle.zr_base.specs.declared.refusal.Refusal.{Refusal}
use Rattle.zr_image.specs.Current.{FindsCurrent}
use Rattle.zr_label.specs.declared.root.Seen.{Seen}
use Rattle.zr_shelf.specs.Disks.{Stand}
use Rattle.zr_shelf.proofs.Runs.{still_trans}
use Rattle.zr_slots.specs.Kept.{KeepsGroup}
use Rattle.zr_sync.specs.declared.fault.Fault.TheVariants.{No}
use Rattle.zr_sync.proofs.Disks.{works_more}
use Rattle.zr_sync.proofs.Pools.{risen_later}
use Rattle.zr_roots.specs.Devices.{HasItsDisks}
use Rattle.zr_open.specs.Going.{ResetsInPart}
use Rattle.zr_open.specs.Groups.{HoldsGroup, HoldsRoot, IsBack}
use Rattle.zr_open.specs.Looked.{IsLookedAt, WasLookedAt}
use Rattle.zr_open.specs.Opened.{IsFresh}
use Rattle.zr_open.specs.Rewound.{rewound}
use Rattle.zr_open.specs.Roots.{meta_of}
use Rattle.zr_open.specs.Found.{FindsOn}
use Rattle.zr_open.specs.Scanned.{IsScanned}
use Rattle.zr_roots.specs.Standing.{Stands}
use Rattle.zr_slots.specs.declared.pool.Found.{Found}
use Rattle.zr_open.proofs.Looking.{finds_moved, looked_moved, scanned_moved}
use Rattle.zr_open.proofs.Backing.{back_now, back_then, group_refused, held_now, held_then, if_ok, now_refused, place_disks, place_slots, reset_refused, then_refused}
use Rattle.zr_image.specs.Current.{ShowsAll}
use Rattle.zr_last.specs.Last.{ShowsLast}
use Rattle.zr_sync.specs.Commits.{IsShownFrom}
use Rattle.zr_sync.specs.Pools.{IsOpen}
use Rattle.zr_open.proofs.Flushing.{flushes_read, flushes_still, flushes_work, rests_still}
use Rattle.zr_open.proofs.Going.{goes_back, scanned_flushed}
use Rattle.zr_open.proofs.Lasting.{published_if, scanned_last}
use Rattle.zr_open.proofs.OwnTrees.{own_trees}
use Rattle.zr_open.proofs.Resting.{leaves_there}
use Rattle.zr_open.proofs.Slots.{same_refusal}
use Rattle.zr_vdev.specs.Runs.{view_of}
use Rattle.zr_view.specs.Views.{address_bytes}
use Rattle.zr_open.proofs.groups.go_back.Goals as goal

-- ---- what is done to the disks, where nothing is written

pub returns-in_err-settle-clause-disks : goal.returns-in_err-settle-clause-disks
returns-in_err-settle-clause-disks g c = λ t. flushes_work (g.S.Shelf.world c.args.shelf.now) (g.S.Shelf.world c.settle.new.shelf) (c.settle.ensures.flushes t)

pub returns-in_err-settle-clause-flushes : goal.returns-in_err-settle-clause-flushes
returns-in_err-settle-clause-flushes g c = λ t r is. c.settle.ensures.flushes t

pub returns-in_err-settle-clause-reads : goal.returns-in_err-settle-clause-reads
returns-in_err-settle-clause-reads g c = λ t r is. (flushes_read (g.S.Shelf.world c.args.shelf.now) (g.S.Shelf.world c.settle.new.shelf) (c.settle.ensures.flushes t)).seen

pub returns-in_err-settle-clause-stops : goal.returns-in_err-settle-clause-stops
returns-in_err-settle-clause-stops g c = λ t. inl (c.settle.ensures.flushes t)

pub returns-in_err-seen-clause-disks : goal.returns-in_err-seen-clause-disks
returns-in_err-seen-clause-disks g c = λ t. flushes_work (g.S.Shelf.world c.args.shelf.now) (g.S.Shelf.world c.scan.new.shelf) (flushes_still (g.S.Shelf.world c.args.shelf.now) (g.S.Shelf.world c.settle.new.shelf) (g.S.Shelf.world c.scan.new.shelf) (c.settle.ensures.flushes t) (c.scan.ensures.still (c.settle.ensures.told t)))

pub returns-in_err-seen-clause-flushes : goal.returns-in_err-seen-clause-flushes
returns-in_err-seen-clause-flushes g c = λ t r is. flushes_still (g.S.Shelf.world c.args.shelf.now) (g.S.Shelf.world c.settle.new.shelf) (g.S.Shelf.world c.scan.new.shelf) (c.settle.ensures.flushes t) (c.scan.ensures.still (c.settle.ensures.told t))

pub returns-in_err-seen-clause-reads : goal.returns-in_err-seen-clause-reads
returns-in_err-seen-clause-reads g c = λ t r is. ap (λ (stand : Stand). stand.seen) (c.scan.ensures.still (c.settle.ensures.told t)).now ∙ (flushes_read (g.S.Shelf.world c.args.shelf.now) (g.S.Shelf.world c.settle.new.shelf) (c.settle.ensures.flushes t)).seen

pub returns-in_err-seen-clause-stops : goal.returns-in_err-seen-clause-stops
returns-in_err-seen-clause-stops g c = λ t. inl (flushes_still (g.S.Shelf.world c.args.shelf.now) (g.S.Shelf.world c.settle.new.shelf) (g.S.Shelf.world c.scan.new.shelf) (c.settle.ensures.flushes t) (c.scan.ensures.still (c.settle.ensures.told t)))

pub returns-in_err-now-clause-disks : goal.returns-in_err-now-clause-disks
returns-in_err-now-clause-disks g c = λ t. flushes_work (g.S.Shelf.world c.args.shelf.now) (g.S.Shelf.world c.look_at.new.shelf) (flushes_still (g.S.Shelf.world c.args.shelf.now) (g.S.Shelf.world c.settle.new.shelf) (g.S.Shelf.world c.look_at.new.shelf) (c.settle.ensures.flushes t) (still_trans (g.S.Shelf.world c.settle.new.shelf) (g.S.Shelf.world c.scan.new.shelf) (g.S.Shelf.world c.look_at.new.shelf) (c.scan.ensures.still (c.settle.ensures.told t)) (c.look_at.ensures.still (c.scan.ensures.told (c.settle.ensures.told t)))))

pub returns-in_err-now-clause-flushes : goal.returns-in_err-now-clause-flushes
returns-in_err-now-clause-flushes g c = λ t r is. flushes_still (g.S.Shelf.world c.args.shelf.now) (g.S.Shelf.world c.settle.new.shelf) (g.S.Shelf.world c.look_at.new.shelf) (c.settle.ensures.flushes t) (still_trans (g.S.Shelf.world c.settle.new.shelf) (g.S.Shelf.world c.scan.new.shelf) (g.S.Shelf.world c.look_at.new.shelf) (c.scan.ensures.still (c.settle.ensures.told t)) (c.look_at.ensures.still (c.scan.ensures.told (c.settle.ensures.told t))))

pub returns-in_err-now-clause-reads : goal.returns-in_err-now-clause-reads
returns-in_err-now-clause-reads g c = λ t r is. ap (λ (stand : Stand). stand.seen) (still_trans (g.S.Shelf.world c.settle.new.shelf) (g.S.Shelf.world c.scan.new.shelf) (g.S.Shelf.world c.look_at.new.shelf) (c.scan.ensures.still (c.settle.ensures.told t)) (c.look_at.ensures.still (c.scan.ensures.told (c.settle.ensures.told t)))).now ∙ (flushes_read (g.S.Shelf.world c.args.shelf.now) (g.S.Shelf.world c.settle.new.shelf) (c.settle.ensures.flushes t)).seen

pub returns-in_err-now-clause-stops : goal.returns-in_err-now-clause-stops
returns-in_err-now-clause-stops g c = λ t. inl (flushes_still (g.S.Shelf.world c.args.shelf.now) (g.S.Shelf.world c.settle.new.shelf) (g.S.Shelf.world c.look_at.new.shelf) (c.settle.ensures.flushes t) (still_trans (g.S.Shelf.world c.settle.new.shelf) (g.S.Shelf.world c.scan.new.shelf) (g.S.Shelf.world c.look_at.new.shelf) (c.scan.ensures.still (c.settle.ensures.told t)) (c.look_at.ensures.still (c.scan.ensures.told (c.settle.ensures.told t)))))

pub returns-in_err-root-clause-disks : goal.returns-in_err-root-clause-disks
returns-in_err-root-clause-disks g c = λ t. flushes_work (g.S.Shelf.world c.args.shelf.now) (g.S.Shelf.world c.look_at.new.shelf) (flushes_still (g.S.Shelf.world c.args.shelf.now) (g.S.Shelf.world c.settle.new.shelf) (g.S.Shelf.world c.look_at.new.shelf) (c.settle.ensures.flushes t) (still_trans (g.S.Shelf.world c.settle.new.shelf) (g.S.Shelf.world c.scan.new.shelf) (g.S.Shelf.world c.look_at.new.shelf) (c.scan.ensures.still (c.settle.ensures.told t)) (c.look_at.ensures.still (c.scan.ensures.told (c.settle.ensures.told t)))))

pub returns-in_err-root-clause-flushes : goal.returns-in_err-root-clause-flushes
returns-in_err-root-clause-flushes g c = λ t r is. flushes_still (g.S.Shelf.world c.args.shelf.now) (g.S.Shelf.world c.settle.new.shelf) (g.S.Shelf.world c.look_at.new.shelf) (c.settle.ensures.flushes t) (still_trans (g.S.Shelf.world c.settle.new.shelf) (g.S.Shelf.world c.scan.new.shelf) (g.S.Shelf.world c.look_at.new.shelf) (c.scan.ensures.still (c.settle.ensures.told t)) (c.look_at.ensures.still (c.scan.ensures.told (c.settle.ensures.told t))))

pub returns-in_err-root-clause-reads : goal.returns-in_err-root-clause-reads
returns-in_err-root-clause-reads g c = λ t r is. ap (λ (stand : Stand). stand.seen) (still_trans (g.S.Shelf.world c.settle.new.shelf) (g.S.Shelf.world c.scan.new.shelf) (g.S.Shelf.world c.look_at.new.shelf) (c.scan.ensures.still (c.settle.ensures.told t)) (c.look_at.ensures.still (c.scan.ensures.told (c.settle.ensures.told t)))).now ∙ (flushes_read (g.S.Shelf.world c.args.shelf.now) (g.S.Shelf.world c.settle.new.shelf) (c.settle.ensures.flushes t)).seen

pub returns-in_err-root-clause-stops : goal.returns-in_err-root-clause-stops
returns-in_err-root-clause-stops g c = λ t. inl (flushes_still (g.S.Shelf.world c.args.shelf.now) (g.S.Shelf.world c.settle.new.shelf) (g.S.Shelf.world c.look_at.new.shelf) (c.settle.ensures.flushes t) (still_trans (g.S.Shelf.world c.settle.new.shelf) (g.S.Shelf.world c.scan.new.shelf) (g.S.Shelf.world c.look_at.new.shelf) (c.scan.ensures.still (c.settle.ensures.told t)) (c.look_at.ensures.still (c.scan.ensures.told (c.settle.ensures.told t)))))

pub returns-then-txg-found-clause-disks : goal.returns-then-txg-found-clause-disks
returns-then-txg-found-clause-disks g c = λ t. flushes_work (g.S.Shelf.world c.args.shelf.now) (g.S.Shelf.world c.look_at.new.shelf) (flushes_still (g.S.Shelf.world c.args.shelf.now) (g.S.Shelf.world c.settle.new.shelf) (g.S.Shelf.world c.look_at.new.shelf) (c.settle.ensures.flushes t) (still_trans (g.S.Shelf.world c.settle.new.shelf) (g.S.Shelf.world c.scan.new.shelf) (g.S.Shelf.world c.look_at.new.shelf) (c.scan.ensures.still (c.settle.ensures.told t)) (c.look_at.ensures.still (c.scan.ensures.told (c.settle.ensures.told t)))))

pub returns-then-txg-found-clause-stops : goal.returns-then-txg-found-clause-stops
returns-then-txg-found-clause-stops g c = λ t. inl (flushes_still (g.S.Shelf.world c.args.shelf.now) (g.S.Shelf.world c.settle.new.shelf) (g.S.Shelf.world c.look_at.new.shelf) (c.settle.ensures.flushes t) (still_trans (g.S.Shelf.world c.settle.new.shelf) (g.S.Shelf.world c.scan.new.shelf) (g.S.Shelf.world c.look_at.new.shelf) (c.scan.ensures.still (c.settle.ensures.told t)) (c.look_at.ensures.still (c.scan.ensures.told (c.settle.ensures.told t)))))

pub returns-in_err-then-clause-disks : goal.returns-in_err-then-clause-disks
returns-in_err-then-clause-disks g c = λ t. flushes_work (g.S.Shelf.world c.args.shelf.now) (g.S.Shelf.world c.look_at-2.new.shelf) (flushes_still (g.S.Shelf.world c.args.shelf.now) (g.S.Shelf.world c.settle.new.shelf) (g.S.Shelf.world c.look_at-2.new.shelf) (c.settle.ensures.flushes t) (still_trans (g.S.Shelf.world c.settle.new.shelf) (g.S.Shelf.world c.look_at.new.shelf) (g.S.Shelf.world c.look_at-2.new.shelf) (still_trans (g.S.Shelf.world c.settle.new.shelf) (g.S.Shelf.world c.scan.new.shelf) (g.S.Shelf.world c.look_at.new.shelf) (c.scan.ensures.still (c.settle.ensures.told t)) (c.look_at.ensures.still (c.scan.ensures.told (c.settle.ensures.told t)))) (c.look_at-2.ensures.still (c.look_at.ensures.told (c.scan.ensures.told (c.settle.ensures.told t))))))

pub returns-in_err-then-clause-flushes : goal.returns-in_err-then-clause-flushes
returns-in_err-then-clause-flushes g c = λ t r is. flushes_still (g.S.Shelf.world c.args.shelf.now) (g.S.Shelf.world c.settle.new.shelf) (g.S.Shelf.world c.look_at-2.new.shelf) (c.settle.ensures.flushes t) (still_trans (g.S.Shelf.world c.settle.new.shelf) (g.S.Shelf.world c.look_at.new.shelf) (g.S.Shelf.world c.look_at-2.new.shelf) (still_trans (g.S.Shelf.world c.settle.new.shelf) (g.S.Shelf.world c.scan.new.shelf) (g.S.Shelf.world c.look_at.new.shelf) (c.scan.ensures.still (c.settle.ensures.told t)) (c.look_at.ensures.still (c.scan.ensures.told (c.settle.ensures.told t)))) (c.look_at-2.ensures.still (c.look_at.ensures.told (c.scan.ensures.told (c.settle.ensures.told t)))))

pub returns-in_err-then-clause-reads : goal.returns-in_err-then-clause-reads
returns-in_err-then-clause-reads g c = λ t r is. ap (λ (stand : Stand). stand.seen) (still_trans (g.S.Shelf.world c.settle.new.shelf) (g.S.Shelf.world c.look_at.new.shelf) (g.S.Shelf.world c.look_at-2.new.shelf) (still_trans (g.S.Shelf.world c.settle.new.shelf) (g.S.Shelf.world c.scan.new.shelf) (g.S.Shelf.world c.look_at.new.shelf) (c.scan.ensures.still (c.settle.ensures.told t)) (c.look_at.ensures.still (c.scan.ensures.told (c.settle.ensures.told t)))) (c.look_at-2.ensures.still (c.look_at.ensures.told (c.scan.ensures.told (c.settle.ensures.told t))))).now ∙ (flushes_read (g.S.Shelf.world c.args.shelf.now) (g.S.Shelf.world c.settle.new.shelf) (c.settle.ensures.flushes t)).seen

pub returns-in_err-then-clause-stops : goal.returns-in_err-then-clause-stops
returns-in_err-then-clause-stops g c = λ t. inl (flushes_still (g.S.Shelf.world c.args.shelf.now) (g.S.Shelf.world c.settle.new.shelf) (g.S.Shelf.world c.look_at-2.new.shelf) (c.settle.ensures.flushes t) (still_trans (g.S.Shelf.world c.settle.new.shelf) (g.S.Shelf.world c.look_at.new.shelf) (g.S.Shelf.world c.look_at-2.new.shelf) (still_trans (g.S.Shelf.world c.settle.new.shelf) (g.S.Shelf.world c.scan.new.shelf) (g.S.Shelf.world c.look_at.new.shelf) (c.scan.ensures.still (c.settle.ensures.told t)) (c.look_at.ensures.still (c.scan.ensures.told (c.settle.ensures.told t)))) (c.look_at-2.ensures.still (c.look_at.ensures.told (c.scan.ensures.told (c.settle.ensures.told t))))))

-- ---- of the current root

pub returns-in_err-seen-clause-refused : goal.returns-in_err-seen-clause-refused
returns-in_err-seen-clause-refused g c = λ r is.
    let told = c.in_err-seen.field-0.0 in
    let e : c.from_residual-in_err-seen.result ≡ Err told = search rules in
    let both = sym e ∙ is in
    let same : told ≡ No r = cc in
    let old = c.args.shelf.now in
    let mid = c.settle.new.shelf in
    inl (finds_moved (g.S.Shelf.tells mid) (g.S.Shelf.tells old) (g.S.Shelf.world mid).now.seen (g.S.Shelf.world old).now.seen c.settle.ensures.told (λ t. (flushes_read (g.S.Shelf.world old) (g.S.Shelf.world mid) (c.settle.ensures.flushes t)).seen) (g.S.Shelf.sizes old) (Err r)
    (subst (λ (ns : List ℕ). FindsOn ns (g.S.Shelf.tells mid) (g.S.Shelf.world mid).now.seen (Err r)) c.settle.ensures.sizes (c.in_err-seen.ensures.refused r (ap Err same))))

pub returns-in_err-now-clause-refused : goal.returns-in_err-now-clause-refused
returns-in_err-now-clause-refused g c = λ r is.
    let told = c.in_err-now.field-0.0 in
    let e : c.from_residual-in_err-now.result ≡ Err told = search rules in
    let both = sym e ∙ is in
    let same : told ≡ No r = cc in
    inr (now_refused (g.S.Shelf.tells c.args.shelf.now) (g.S.Shelf.world c.args.shelf.now).now.seen (g.S.Shelf.sizes c.args.shelf.now) c.in_ok-seen.field-0 (scanned_flushed (g.S.Shelf.tells c.settle.new.shelf) (g.S.Shelf.tells c.args.shelf.now) (g.S.Shelf.world c.settle.new.shelf) (g.S.Shelf.world c.args.shelf.now) c.settle.ensures.told c.settle.ensures.flushes (g.S.Shelf.sizes c.settle.new.shelf) (g.S.Shelf.sizes c.args.shelf.now) c.settle.ensures.sizes c.in_ok-seen.field-0 c.in_ok-seen.ensures.scanned)
    (g.S.Shelf.tells c.scan.new.shelf) (g.S.Shelf.world c.scan.new.shelf).now.seen (λ t. c.scan.ensures.told (c.settle.ensures.told t)) (λ t. ap (λ (stand : Stand). stand.seen) (c.scan.ensures.still (c.settle.ensures.told t)).now ∙ (flushes_read (g.S.Shelf.world c.args.shelf.now) (g.S.Shelf.world c.settle.new.shelf) (c.settle.ensures.flushes t)).seen) c.args.txg r (c.in_err-now.ensures.refused r (ap Err same)))

pub kept_root-requires-clause-current : goal.kept_root-requires-clause-current
kept_root-requires-clause-current g c = subst (λ (s : List Seen). FindsCurrent s (Ok c.in_ok-seen.field-0.found.root)) (sym c.as_slice.ensures) c.in_ok-seen.ensures.scanned.finds

pub returns-in_err-root-clause-refused : goal.returns-in_err-root-clause-refused
returns-in_err-root-clause-refused g c = λ r is.
    let told = c.in_err-root.field-0.0 in
    let e : c.from_residual-in_err-root.result ≡ Err (No told) = search rules in
    let same = same_refusal c.from_residual-in_err-root.result told r e is in
    inr (group_refused (g.S.Shelf.tells c.args.shelf.now) (g.S.Shelf.world c.args.shelf.now).now.seen (g.S.Shelf.sizes c.args.shelf.now) c.in_ok-seen.field-0 (scanned_flushed (g.S.Shelf.tells c.settle.new.shelf) (g.S.Shelf.tells c.args.shelf.now) (g.S.Shelf.world c.settle.new.shelf) (g.S.Shelf.world c.args.shelf.now) c.settle.ensures.told c.settle.ensures.flushes (g.S.Shelf.sizes c.settle.new.shelf) (g.S.Shelf.sizes c.args.shelf.now) c.settle.ensures.sizes c.in_ok-seen.field-0 c.in_ok-seen.ensures.scanned) c.args.txg c.as_slice.result.now r c.as_slice.ensures
    (subst (λ (x : Refusal). KeepsGroup c.as_slice.result.now c.in_ok-seen.field-0.found.root c.args.txg (Err x)) same c.in_err-root.ensures.keeps))

-- ---- the group of the current root

pub returns-then-txg-found-clause-back : goal.returns-then-txg-found-clause-back
returns-then-txg-found-clause-back g c =
    let s = c.in_ok-seen.field-0 in
    let kept = subst (λ (seen : List Seen). KeepsGroup seen s.found.root c.args.txg (Ok c.in_ok-root.root)) c.as_slice.ensures c.in_ok-root.ensures.keeps in
    let own = c.in_ok-now.ensures.looked in
    let found = c.in_ok-now.ensures.found in
    back_now (g.S.Shelf.tells c.args.shelf.now) (g.S.Shelf.world c.args.shelf.now).now.seen (g.S.Shelf.sizes c.args.shelf.now) s (scanned_flushed (g.S.Shelf.tells c.settle.new.shelf) (g.S.Shelf.tells c.args.shelf.now) (g.S.Shelf.world c.settle.new.shelf) (g.S.Shelf.world c.args.shelf.now) c.settle.ensures.told c.settle.ensures.flushes (g.S.Shelf.sizes c.settle.new.shelf) (g.S.Shelf.sizes c.args.shelf.now) c.settle.ensures.sizes c.in_ok-seen.field-0 c.in_ok-seen.ensures.scanned) c.args.txg c.in_ok-root.root kept.0 kept.1 c.if-txg-found.true c.in_ok-now.now.pool (subst (λ (f : Found). IsFresh f.root c.in_ok-now.now.pool) found own.fresh)

pub returns-then-txg-found-clause-objects : goal.returns-then-txg-found-clause-objects
returns-then-txg-found-clause-objects g c = λ t.
    let sizes = g.S.Shelf.sizes c.args.shelf.now in
    let w = g.S.Shelf.world c.args.shelf.now in
    let disks = w.now.seen in
    let later = g.S.Shelf.tells c.look_at.new.shelf in
    let s = c.in_ok-seen.field-0 in
    let l = c.in_ok-now.now in
    let kept = subst (λ (seen : List Seen). KeepsGroup seen s.found.root c.args.txg (Ok c.in_ok-root.root)) c.as_slice.ensures c.in_ok-root.ensures.keeps in
    let own = subst (λ (ns : List ℕ). IsLookedAt ns (g.S.Shelf.tells c.scan.new.shelf) (g.S.Shelf.world c.scan.new.shelf).now.seen l) (c.scan.ensures.sizes ∙ c.settle.ensures.sizes) c.in_ok-now.ensures.looked in
    let there = looked_moved (g.S.Shelf.tells c.scan.new.shelf) later (g.S.Shelf.world c.scan.new.shelf).now.seen disks (λ x. c.scan.ensures.told (c.settle.ensures.told t)) (λ x. ap (λ (stand : Stand). stand.seen) (c.scan.ensures.still (c.settle.ensures.told t)).now ∙ (flushes_read (g.S.Shelf.world c.args.shelf.now) (g.S.Shelf.world c.settle.new.shelf) (c.settle.ensures.flushes t)).seen) sizes l own in
    let same : (g.S.Shelf.world c.look_at.new.shelf).now.seen ≡ disks = ap (λ (stand : Stand). stand.seen) (still_trans (g.S.Shelf.world c.settle.new.shelf) (g.S.Shelf.world c.scan.new.shelf) (g.S.Shelf.world c.look_at.new.shelf) (c.scan.ensures.still (c.settle.ensures.told t)) (c.look_at.ensures.still (c.scan.ensures.told (c.settle.ensures.told t)))).now ∙ (flushes_read (g.S.Shelf.world c.args.shelf.now) (g.S.Shelf.world c.settle.new.shelf) (c.settle.ensures.flushes t)).seen in
    subst (λ (ds : List (List ℕ)). HoldsGroup w.now.paths disks c.args.txg later ds l.pool) (sym same)
    (held_now (g.S.Shelf.tells c.args.shelf.now) t w.now.paths disks sizes (g.S.Shelf.sound c.args.shelf.now t).sized s (scanned_flushed (g.S.Shelf.tells c.settle.new.shelf) (g.S.Shelf.tells c.args.shelf.now) (g.S.Shelf.world c.settle.new.shelf) (g.S.Shelf.world c.args.shelf.now) c.settle.ensures.told c.settle.ensures.flushes (g.S.Shelf.sizes c.settle.new.shelf) (g.S.Shelf.sizes c.args.shelf.now) c.settle.ensures.sizes c.in_ok-seen.field-0 c.in_ok-seen.ensures.scanned) c.args.txg c.in_ok-root.root kept.0 kept.1 c.if-txg-found.true later (c.look_at.ensures.told (c.scan.ensures.told (c.settle.ensures.told t))) l c.in_ok-now.ensures.found there)

-- ---- a lower group

pub look_at-requires-2-clause-disks : goal.look_at-requires-2-clause-disks
look_at-requires-2-clause-disks g c =
    let s = c.in_ok-seen.field-0 in
    let kept = subst (λ (seen : List Seen). KeepsGroup seen s.found.root c.args.txg (Ok c.in_ok-root.root)) c.as_slice.ensures c.in_ok-root.ensures.keeps in
    subst (λ (ns : List ℕ). HasItsDisks ns s.found.slots c.in_ok-root.root) (sym (c.look_at.ensures.sizes ∙ (c.scan.ensures.sizes ∙ c.settle.ensures.sizes)))
    (place_disks (g.S.Shelf.tells c.args.shelf.now) (g.S.Shelf.world c.args.shelf.now).now.seen (g.S.Shelf.sizes c.args.shelf.now) s (scanned_flushed (g.S.Shelf.tells c.settle.new.shelf) (g.S.Shelf.tells c.args.shelf.now) (g.S.Shelf.world c.settle.new.shelf) (g.S.Shelf.world c.args.shelf.now) c.settle.ensures.told c.settle.ensures.flushes (g.S.Shelf.sizes c.settle.new.shelf) (g.S.Shelf.sizes c.args.shelf.now) c.settle.ensures.sizes c.in_ok-seen.field-0 c.in_ok-seen.ensures.scanned) c.args.txg c.in_ok-root.root c.in_ok-root.ensures.root c.in_ok-root.ensures.pool kept.1)

pub returns-in_err-then-clause-refused : goal.returns-in_err-then-clause-refused
returns-in_err-then-clause-refused g c = λ r is.
    let told = c.in_err-then.field-0.0 in
    let e : c.from_residual-in_err-then.result ≡ Err told = search rules in
    let both = sym e ∙ is in
    let same : told ≡ No r = cc in
    let s = c.in_ok-seen.field-0 in
    let kept = subst (λ (seen : List Seen). KeepsGroup seen s.found.root c.args.txg (Ok c.in_ok-root.root)) c.as_slice.ensures c.in_ok-root.ensures.keeps in
    inr (then_refused (g.S.Shelf.tells c.args.shelf.now) (g.S.Shelf.world c.args.shelf.now).now.seen (g.S.Shelf.sizes c.args.shelf.now) s (scanned_flushed (g.S.Shelf.tells c.settle.new.shelf) (g.S.Shelf.tells c.args.shelf.now) (g.S.Shelf.world c.settle.new.shelf) (g.S.Shelf.world c.args.shelf.now) c.settle.ensures.told c.settle.ensures.flushes (g.S.Shelf.sizes c.settle.new.shelf) (g.S.Shelf.sizes c.args.shelf.now) c.settle.ensures.sizes c.in_ok-seen.field-0 c.in_ok-seen.ensures.scanned) c.args.txg c.in_ok-root.root c.in_ok-root.ensures.root c.in_ok-root.ensures.pool kept.1
    (g.S.Shelf.tells c.look_at.new.shelf) (g.S.Shelf.world c.look_at.new.shelf).now.seen (λ t. c.look_at.ensures.told (c.scan.ensures.told (c.settle.ensures.told t))) (λ t. ap (λ (stand : Stand). stand.seen) (still_trans (g.S.Shelf.world c.settle.new.shelf) (g.S.Shelf.world c.scan.new.shelf) (g.S.Shelf.world c.look_at.new.shelf) (c.scan.ensures.still (c.settle.ensures.told t)) (c.look_at.ensures.still (c.scan.ensures.told (c.settle.ensures.told t)))).now ∙ (flushes_read (g.S.Shelf.world c.args.shelf.now) (g.S.Shelf.world c.settle.new.shelf) (c.settle.ensures.flushes t)).seen) r (c.in_err-then.ensures.refused r (ap Err same)))

pub reset-requires-clause-looked : goal.reset-requires-clause-looked
reset-requires-clause-looked g c =
    let tells = g.S.Shelf.tells c.look_at.new.shelf in
    let disks = (g.S.Shelf.world c.look_at.new.shelf).now.seen in
    let own = c.in_ok-then.ensures.looked in
    subst (λ (ns : List ℕ). WasLookedAt ns c.in_ok-then.then) (sym c.in_ok-then.ensures.sizes) (looked_moved tells ⊥ disks [] (λ x. absurd x) (λ x. absurd x) (g.S.Shelf.sizes c.look_at.new.shelf) c.in_ok-then.then own)

pub returns-clause-refused : goal.returns-clause-refused
returns-clause-refused g c = λ r is.
    let s = c.in_ok-seen.field-0 in
    let kept = subst (λ (seen : List Seen). KeepsGroup seen s.found.root c.args.txg (Ok c.in_ok-root.root)) c.as_slice.ensures c.in_ok-root.ensures.keeps in
    inr (reset_refused (g.S.Shelf.tells c.args.shelf.now) (g.S.Shelf.world c.args.shelf.now).now.seen (g.S.Shelf.sizes c.args.shelf.now) s (scanned_flushed (g.S.Shelf.tells c.settle.new.shelf) (g.S.Shelf.tells c.args.shelf.now) (g.S.Shelf.world c.settle.new.shelf) (g.S.Shelf.world c.args.shelf.now) c.settle.ensures.told c.settle.ensures.flushes (g.S.Shelf.sizes c.settle.new.shelf) (g.S.Shelf.sizes c.args.shelf.now) c.settle.ensures.sizes c.in_ok-seen.field-0 c.in_ok-seen.ensures.scanned) c.args.txg c.in_ok-root.root c.in_ok-root.ensures.root c.in_ok-root.ensures.pool kept.1
    (g.S.Shelf.tells c.look_at.new.shelf) (g.S.Shelf.world c.look_at.new.shelf).now.seen (λ t. c.look_at.ensures.told (c.scan.ensures.told (c.settle.ensures.told t))) (λ t. ap (λ (stand : Stand). stand.seen) (still_trans (g.S.Shelf.world c.settle.new.shelf) (g.S.Shelf.world c.scan.new.shelf) (g.S.Shelf.world c.look_at.new.shelf) (c.scan.ensures.still (c.settle.ensures.told t)) (c.look_at.ensures.still (c.scan.ensures.told (c.settle.ensures.told t)))).now ∙ (flushes_read (g.S.Shelf.world c.args.shelf.now) (g.S.Shelf.world c.settle.new.shelf) (c.settle.ensures.flushes t)).seen) c.in_ok-then.then c.in_ok-then.ensures.found (subst (λ (ns : List ℕ). IsLookedAt ns (g.S.Shelf.tells c.look_at.new.shelf) (g.S.Shelf.world c.look_at.new.shelf).now.seen c.in_ok-then.then) (c.look_at.ensures.sizes ∙ (c.scan.ensures.sizes ∙ c.settle.ensures.sizes)) c.in_ok-then.ensures.looked) r
    (c.reset.ensures.refused r is))

pub returns-clause-told : goal.returns-clause-told
returns-clause-told g c = λ t. c.reset.ensures.told (c.look_at-2.ensures.told (c.look_at.ensures.told (c.scan.ensures.told (c.settle.ensures.told t))))

pub returns-clause-disks : goal.returns-clause-disks
returns-clause-disks g c = λ t.
    works_more (g.S.Shelf.world c.args.shelf.now) (g.S.Shelf.world c.look_at-2.new.shelf) (g.S.Shelf.world c.reset.new.shelf)
    (flushes_work (g.S.Shelf.world c.args.shelf.now) (g.S.Shelf.world c.look_at-2.new.shelf) (flushes_still (g.S.Shelf.world c.args.shelf.now) (g.S.Shelf.world c.settle.new.shelf) (g.S.Shelf.world c.look_at-2.new.shelf) (c.settle.ensures.flushes t) (still_trans (g.S.Shelf.world c.settle.new.shelf) (g.S.Shelf.world c.look_at.new.shelf) (g.S.Shelf.world c.look_at-2.new.shelf) (still_trans (g.S.Shelf.world c.settle.new.shelf) (g.S.Shelf.world c.scan.new.shelf) (g.S.Shelf.world c.look_at.new.shelf) (c.scan.ensures.still (c.settle.ensures.told t)) (c.look_at.ensures.still (c.scan.ensures.told (c.settle.ensures.told t)))) (c.look_at-2.ensures.still (c.look_at.ensures.told (c.scan.ensures.told (c.settle.ensures.told t)))))))
    (c.reset.ensures.disks (c.look_at-2.ensures.told (c.look_at.ensures.told (c.scan.ensures.told (c.settle.ensures.told t)))))

pub returns-clause-back : goal.returns-clause-back
returns-clause-back g c =
    let sizes = g.S.Shelf.sizes c.args.shelf.now in
    let tells = g.S.Shelf.tells c.args.shelf.now in
    let disks = (g.S.Shelf.world c.args.shelf.now).now.seen in
    let s = c.in_ok-seen.field-0 in
    let kept = subst (λ (seen : List Seen). KeepsGroup seen s.found.root c.args.txg (Ok c.in_ok-root.root)) c.as_slice.ensures c.in_ok-root.ensures.keeps in
    if_ok (IsFresh (rewound c.in_ok-then.then.found.root (s.found.root.txg + 1))) (IsBack sizes tells disks c.args.txg) c.reset.result
    (λ pool fresh. back_then tells disks sizes s (scanned_flushed (g.S.Shelf.tells c.settle.new.shelf) (g.S.Shelf.tells c.args.shelf.now) (g.S.Shelf.world c.settle.new.shelf) (g.S.Shelf.world c.args.shelf.now) c.settle.ensures.told c.settle.ensures.flushes (g.S.Shelf.sizes c.settle.new.shelf) (g.S.Shelf.sizes c.args.shelf.now) c.settle.ensures.sizes c.in_ok-seen.field-0 c.in_ok-seen.ensures.scanned) c.args.txg c.in_ok-root.root kept.0 kept.1 c.if-txg-found.false pool (subst (λ (f : Found). IsFresh (rewound f.root (s.found.root.txg + 1)) pool) c.in_ok-then.ensures.found fresh))
    c.reset.ensures.fresh

pub returns-clause-objects : goal.returns-clause-objects
returns-clause-objects g c = λ t.
    let sizes = g.S.Shelf.sizes c.args.shelf.now in
    let tells = g.S.Shelf.tells c.args.shelf.now in
    let w = g.S.Shelf.world c.args.shelf.now in
    let disks = w.now.seen in
    let tells3 = g.S.Shelf.tells c.look_at.new.shelf in
    let disks3 = (g.S.Shelf.world c.look_at.new.shelf).now.seen in
    let disks4 = (g.S.Shelf.world c.look_at-2.new.shelf).now.seen in
    let s = c.in_ok-seen.field-0 in
    let l = c.in_ok-then.then in
    let told3 = (c.look_at.ensures.told (c.scan.ensures.told (c.settle.ensures.told t))) in
    let same3 : disks3 ≡ disks = ap (λ (stand : Stand). stand.seen) (still_trans (g.S.Shelf.world c.settle.new.shelf) (g.S.Shelf.world c.scan.new.shelf) (g.S.Shelf.world c.look_at.new.shelf) (c.scan.ensures.still (c.settle.ensures.told t)) (c.look_at.ensures.still (c.scan.ensures.told (c.settle.ensures.told t)))).now ∙ (flushes_read (g.S.Shelf.world c.args.shelf.now) (g.S.Shelf.world c.settle.new.shelf) (c.settle.ensures.flushes t)).seen in
    let same4 : disks4 ≡ disks = ap (λ (stand : Stand). stand.seen) (still_trans (g.S.Shelf.world c.settle.new.shelf) (g.S.Shelf.world c.look_at.new.shelf) (g.S.Shelf.world c.look_at-2.new.shelf) (still_trans (g.S.Shelf.world c.settle.new.shelf) (g.S.Shelf.world c.scan.new.shelf) (g.S.Shelf.world c.look_at.new.shelf) (c.scan.ensures.still (c.settle.ensures.told t)) (c.look_at.ensures.still (c.scan.ensures.told (c.settle.ensures.told t)))) (c.look_at-2.ensures.still (c.look_at.ensures.told (c.scan.ensures.told (c.settle.ensures.told t))))).now ∙ (flushes_read (g.S.Shelf.world c.args.shelf.now) (g.S.Shelf.world c.settle.new.shelf) (c.settle.ensures.flushes t)).seen in
    let kept = subst (λ (seen : List Seen). KeepsGroup seen s.found.root c.args.txg (Ok c.in_ok-root.root)) c.as_slice.ensures c.in_ok-root.ensures.keeps in
    let own = subst (λ (ns : List ℕ). IsLookedAt ns (g.S.Shelf.tells c.look_at.new.shelf) (g.S.Shelf.world c.look_at.new.shelf).now.seen c.in_ok-then.then) (c.look_at.ensures.sizes ∙ (c.scan.ensures.sizes ∙ c.settle.ensures.sizes)) c.in_ok-then.ensures.looked in
    let there = looked_moved tells3 tells disks3 disks (λ x. told3) (λ x. same3) sizes l own in
    let before = subst (λ (ns : List ℕ). IsLookedAt ns (Unit {0}) disks4 l) (sym (c.look_at-2.ensures.sizes ∙ (c.look_at.ensures.sizes ∙ (c.scan.ensures.sizes ∙ c.settle.ensures.sizes)))) (looked_moved tells3 (Unit {0}) disks3 disks4 (λ x. told3) (λ x. same3 ∙ sym same4) sizes l own) in
    let place = c.in_ok-then.ensures.found in
    let later = g.S.Shelf.tells c.reset.new.shelf in
    let after = (g.S.Shelf.world c.reset.new.shelf).now.seen in
    if_ok (HoldsRoot disks4 later after l) (HoldsGroup w.now.paths disks c.args.txg later after) c.reset.result
    (λ pool held. held_then tells t w.now.paths disks sizes s (scanned_flushed (g.S.Shelf.tells c.settle.new.shelf) (g.S.Shelf.tells c.args.shelf.now) (g.S.Shelf.world c.settle.new.shelf) (g.S.Shelf.world c.args.shelf.now) c.settle.ensures.told c.settle.ensures.flushes (g.S.Shelf.sizes c.settle.new.shelf) (g.S.Shelf.sizes c.args.shelf.now) c.settle.ensures.sizes c.in_ok-seen.field-0 c.in_ok-seen.ensures.scanned) c.args.txg c.in_ok-root.root c.in_ok-root.ensures.root c.in_ok-root.ensures.pool kept.0 kept.1 later after l place there pool
    (subst (λ (ds : List (List ℕ)). HoldsRoot ds later after l pool) same4 held))
    (c.reset.ensures.objects (c.look_at-2.ensures.told (c.look_at.ensures.told (c.scan.ensures.told (c.settle.ensures.told t)))) before)

pub returns-clause-fault : goal.returns-clause-fault
returns-clause-fault g c = λ is.
    let counts = g.S.Shelf.counts in
    let last = (counts c.reset.new.shelf).disk in
    risen_later (counts c.args.shelf.now).disk (counts c.settle.new.shelf).disk last c.settle.ensures.none_fell.disk
    (risen_later (counts c.settle.new.shelf).disk (counts c.scan.new.shelf).disk last c.scan.ensures.none_fell.disk
    (risen_later (counts c.scan.new.shelf).disk (counts c.look_at.new.shelf).disk last c.look_at.ensures.none_fell.disk
    (risen_later (counts c.look_at.new.shelf).disk (counts c.look_at-2.new.shelf).disk last c.look_at-2.ensures.none_fell.disk (c.reset.ensures.fault is))))

-- ---- the last root

pub returns-then-txg-found-clause-last : goal.returns-then-txg-found-clause-last
returns-then-txg-found-clause-last g c = λ t.
    let shelf = c.args.shelf.now in
    let second = c.in_ok-now.ensures in
    let l = c.in_ok-now.now in
    let same : (g.S.Shelf.world c.look_at.new.shelf).now.seen ≡ (g.S.Shelf.world shelf).now.seen = ap (λ (stand : Stand). stand.seen) (still_trans (g.S.Shelf.world c.settle.new.shelf) (g.S.Shelf.world c.scan.new.shelf) (g.S.Shelf.world c.look_at.new.shelf) (c.scan.ensures.still (c.settle.ensures.told t)) (c.look_at.ensures.still (c.scan.ensures.told (c.settle.ensures.told t)))).now ∙ (flushes_read (g.S.Shelf.world c.args.shelf.now) (g.S.Shelf.world c.settle.new.shelf) (c.settle.ensures.flushes t)).seen in
    subst (λ (seen : List (List ℕ)). ShowsLast seen l.pool) (sym same)
    (scanned_last (g.S.Shelf.sizes shelf) (g.S.Shelf.tells shelf) t (g.S.Shelf.world shelf).now.seen c.in_ok-seen.field-0 l (scanned_flushed (g.S.Shelf.tells c.settle.new.shelf) (g.S.Shelf.tells c.args.shelf.now) (g.S.Shelf.world c.settle.new.shelf) (g.S.Shelf.world c.args.shelf.now) c.settle.ensures.told c.settle.ensures.flushes (g.S.Shelf.sizes c.settle.new.shelf) (g.S.Shelf.sizes c.args.shelf.now) c.settle.ensures.sizes c.in_ok-seen.field-0 c.in_ok-seen.ensures.scanned) second.found second.looked.fresh second.looked.same)

pub returns-clause-last : goal.returns-clause-last
returns-clause-last g c = λ t.
    let sizes = g.S.Shelf.sizes c.args.shelf.now in
    let tells = g.S.Shelf.tells c.args.shelf.now in
    let disks = (g.S.Shelf.world c.args.shelf.now).now.seen in
    let s = c.in_ok-seen.field-0 in
    let scanned = scanned_flushed (g.S.Shelf.tells c.settle.new.shelf) (g.S.Shelf.tells c.args.shelf.now) (g.S.Shelf.world c.settle.new.shelf) (g.S.Shelf.world c.args.shelf.now) c.settle.ensures.told c.settle.ensures.flushes (g.S.Shelf.sizes c.settle.new.shelf) (g.S.Shelf.sizes c.args.shelf.now) c.settle.ensures.sizes c.in_ok-seen.field-0 c.in_ok-seen.ensures.scanned in
    let current = s.found.root in
    let root = c.in_ok-root.root in
    let told = (c.look_at-2.ensures.told (c.look_at.ensures.told (c.scan.ensures.told (c.settle.ensures.told t)))) in
    let shelf = c.look_at-2.new.shelf in
    let here = g.S.Shelf.sizes shelf in
    let before = g.S.Shelf.world shelf in
    let now = g.S.Shelf.world c.reset.new.shelf in
    let same : before.now.seen ≡ disks = ap (λ (stand : Stand). stand.seen) (still_trans (g.S.Shelf.world c.settle.new.shelf) (g.S.Shelf.world c.look_at.new.shelf) (g.S.Shelf.world c.look_at-2.new.shelf) (still_trans (g.S.Shelf.world c.settle.new.shelf) (g.S.Shelf.world c.scan.new.shelf) (g.S.Shelf.world c.look_at.new.shelf) (c.scan.ensures.still (c.settle.ensures.told t)) (c.look_at.ensures.still (c.scan.ensures.told (c.settle.ensures.told t)))) (c.look_at-2.ensures.still (c.look_at.ensures.told (c.scan.ensures.told (c.settle.ensures.told t))))).now ∙ (flushes_read (g.S.Shelf.world c.args.shelf.now) (g.S.Shelf.world c.settle.new.shelf) (c.settle.ensures.flushes t)).seen in
    let next = rewound root (current.txg + 1) in
    let r = c.reset.result in
    let kept = subst (λ (seen : List Seen). KeepsGroup seen s.found.root c.args.txg (Ok c.in_ok-root.root)) c.as_slice.ensures c.in_ok-root.ensures.keeps in
    let devices = place_slots tells disks sizes s scanned c.args.txg root c.in_ok-root.ensures.root c.in_ok-root.ensures.pool kept.1 in
    let shown = subst (λ (ds : List (List ℕ)). ShowsAll ds s.seen) (sym same) (scanned.shown.shows t) in
    let place = c.in_ok-then.ensures.found in
    published_if here s.seen current next s.found.slots before now (g.S.Shelf.sound shelf told).sized shown scanned.finds (omega arith) devices r
    (subst (λ (ns : List ℕ). IfOk r (IsOpen ns)) c.reset.ensures.sizes c.reset.ensures.pool)
    (subst (λ (f : Found). IfOk r (IsFresh (rewound f.root (current.txg + 1)))) place c.reset.ensures.fresh)
    (subst (λ (f : Found). IfOk r (λ pool. pool.table.slots ≡ f.slots)) place c.reset.ensures.placed)
    (subst (λ (f : Found). IfOk r (λ pool. IsShownFrom here (record pool { last = Some current }) (rewound f.root (current.txg + 1)) before now)) place (c.reset.ensures.shown told))

-- ---- where it is refused

pub returns-clause-flushes : goal.returns-clause-flushes
returns-clause-flushes g c = λ t r is.
    flushes_still (g.S.Shelf.world c.args.shelf.now) (g.S.Shelf.world c.look_at-2.new.shelf) (g.S.Shelf.world c.reset.new.shelf) (flushes_still (g.S.Shelf.world c.args.shelf.now) (g.S.Shelf.world c.settle.new.shelf) (g.S.Shelf.world c.look_at-2.new.shelf) (c.settle.ensures.flushes t) (still_trans (g.S.Shelf.world c.settle.new.shelf) (g.S.Shelf.world c.look_at.new.shelf) (g.S.Shelf.world c.look_at-2.new.shelf) (still_trans (g.S.Shelf.world c.settle.new.shelf) (g.S.Shelf.world c.scan.new.shelf) (g.S.Shelf.world c.look_at.new.shelf) (c.scan.ensures.still (c.settle.ensures.told t)) (c.look_at.ensures.still (c.scan.ensures.told (c.settle.ensures.told t)))) (c.look_at-2.ensures.still (c.look_at.ensures.told (c.scan.ensures.told (c.settle.ensures.told t)))))) (c.reset.ensures.untouched (c.look_at-2.ensures.told (c.look_at.ensures.told (c.scan.ensures.told (c.settle.ensures.told t)))) r is)

pub returns-clause-reads : goal.returns-clause-reads
returns-clause-reads g c = λ t r is.
    ap (λ (stand : Stand). stand.seen) (c.reset.ensures.untouched (c.look_at-2.ensures.told (c.look_at.ensures.told (c.scan.ensures.told (c.settle.ensures.told t)))) r is).now ∙ (ap (λ (stand : Stand). stand.seen) (still_trans (g.S.Shelf.world c.settle.new.shelf) (g.S.Shelf.world c.look_at.new.shelf) (g.S.Shelf.world c.look_at-2.new.shelf) (still_trans (g.S.Shelf.world c.settle.new.shelf) (g.S.Shelf.world c.scan.new.shelf) (g.S.Shelf.world c.look_at.new.shelf) (c.scan.ensures.still (c.settle.ensures.told t)) (c.look_at.ensures.still (c.scan.ensures.told (c.settle.ensures.told t)))) (c.look_at-2.ensures.still (c.look_at.ensures.told (c.scan.ensures.told (c.settle.ensures.told t))))).now ∙ (flushes_read (g.S.Shelf.world c.args.shelf.now) (g.S.Shelf.world c.settle.new.shelf) (c.settle.ensures.flushes t)).seen)

-- ---- what it leaves

pub returns-then-txg-found-clause-leaves : goal.returns-then-txg-found-clause-leaves
returns-then-txg-found-clause-leaves g c = λ t.
    let l = c.in_ok-now.now in
    let u = l.found.root in
    let disks = (g.S.Shelf.world c.scan.new.shelf).now.seen in
    let h = c.in_ok-now.ensures.looked in
    let told = (c.scan.ensures.told (c.settle.ensures.told t)) in
    let still = c.look_at.ensures.still told in
    let stands = subst (λ (slots : List (Option ℕ)). Stands disks slots u l.root) (sym h.same) (h.stands told) in
    leaves_there disks (g.S.Shelf.sizes c.scan.new.shelf) u l.pool l.root (meta_of l.saved) h.uber h.ready h.fresh h.head h.parts stands (g.S.Shelf.world c.look_at.new.shelf).now
    (ap (λ (stand : Stand). stand.seen) still.now) (rests_still (g.S.Shelf.world c.settle.new.shelf) (g.S.Shelf.world c.look_at.new.shelf) (c.in_ok-settle.ensures.rests t) (still_trans (g.S.Shelf.world c.settle.new.shelf) (g.S.Shelf.world c.scan.new.shelf) (g.S.Shelf.world c.look_at.new.shelf) (c.scan.ensures.still (c.settle.ensures.told t)) (c.look_at.ensures.still (c.scan.ensures.told (c.settle.ensures.told t)))))

pub returns-then-txg-found-clause-trees : goal.returns-then-txg-found-clause-trees
returns-then-txg-found-clause-trees g c = λ t.
    let l = c.in_ok-now.now in
    let u = l.found.root in
    let disks = (g.S.Shelf.world c.scan.new.shelf).now.seen in
    let h = c.in_ok-now.ensures.looked in
    let told = (c.scan.ensures.told (c.settle.ensures.told t)) in
    let still = c.look_at.ensures.still told in
    let stands = subst (λ (slots : List (Option ℕ)). Stands disks slots u l.root) (sym h.same) (h.stands told) in
    own_trees (g.S.Shelf.tells c.look_at.new.shelf) (c.look_at.ensures.told told) disks (g.S.Shelf.world c.look_at.new.shelf).now.seen (g.S.Shelf.sizes c.scan.new.shelf) u l.pool l.root (meta_of l.saved) h.uber h.ready h.fresh h.head h.parts stands
    (λ a. ap (λ (ds : List (List ℕ)). address_bytes (view_of ds l.pool.table.slots l.pool.space) a) (ap (λ (stand : Stand). stand.seen) still.now))

pub returns-clause-leaves : goal.returns-clause-leaves
returns-clause-leaves g c = λ t.
    let tells3 = g.S.Shelf.tells c.look_at.new.shelf in
    let disks3 = (g.S.Shelf.world c.look_at.new.shelf).now.seen in
    let disks4 = (g.S.Shelf.world c.look_at-2.new.shelf).now.seen in
    let l = c.in_ok-then.then in
    let told3 = (c.look_at.ensures.told (c.scan.ensures.told (c.settle.ensures.told t))) in
    let same : disks4 ≡ disks3 = ap (λ (stand : Stand). stand.seen) (c.look_at-2.ensures.still told3).now in
    let there = looked_moved tells3 (Unit {0}) disks3 disks4 (λ x. told3) (λ x. sym same) (g.S.Shelf.sizes c.look_at.new.shelf) l c.in_ok-then.ensures.looked in
    c.reset.ensures.leaves (c.look_at-2.ensures.told (c.look_at.ensures.told (c.scan.ensures.told (c.settle.ensures.told t)))) (subst (λ (ns : List ℕ). IsLookedAt ns (Unit {0}) disks4 l) (sym c.look_at-2.ensures.sizes) there)

pub returns-clause-trees : goal.returns-clause-trees
returns-clause-trees g c = λ t.
    let tells3 = g.S.Shelf.tells c.look_at.new.shelf in
    let disks3 = (g.S.Shelf.world c.look_at.new.shelf).now.seen in
    let disks4 = (g.S.Shelf.world c.look_at-2.new.shelf).now.seen in
    let l = c.in_ok-then.then in
    let told3 = (c.look_at.ensures.told (c.scan.ensures.told (c.settle.ensures.told t))) in
    let same : disks4 ≡ disks3 = ap (λ (stand : Stand). stand.seen) (c.look_at-2.ensures.still told3).now in
    let there = looked_moved tells3 (Unit {0}) disks3 disks4 (λ x. told3) (λ x. sym same) (g.S.Shelf.sizes c.look_at.new.shelf) l c.in_ok-then.ensures.looked in
    c.reset.ensures.trees (c.look_at-2.ensures.told (c.look_at.ensures.told (c.scan.ensures.told (c.settle.ensures.told t)))) (subst (λ (ns : List ℕ). IsLookedAt ns (Unit {0}) disks4 l) (sym c.look_at-2.ensures.sizes) there)

-- ---- wherever it stops

pub returns-clause-stops : goal.returns-clause-stops
returns-clause-stops g c = λ t.
    let sizes = g.S.Shelf.sizes c.args.shelf.now in
    let old = g.S.Shelf.world c.args.shelf.now in
    let mid = g.S.Shelf.world c.settle.new.shelf in
    let read = g.S.Shelf.world c.look_at-2.new.shelf in
    let now = g.S.Shelf.world c.reset.new.shelf in
    let tells1 = g.S.Shelf.tells c.settle.new.shelf in
    let tells2 = g.S.Shelf.tells c.scan.new.shelf in
    let tells3 = g.S.Shelf.tells c.look_at.new.shelf in
    let disks2 = (g.S.Shelf.world c.scan.new.shelf).now.seen in
    let disks3 = (g.S.Shelf.world c.look_at.new.shelf).now.seen in
    let s = c.in_ok-seen.field-0 in
    let l = c.in_ok-now.now in
    let back = c.in_ok-then.then in
    let told1 = c.settle.ensures.told t in
    let told2 = c.scan.ensures.told told1 in
    let told3 = c.look_at.ensures.told told2 in
    let told4 = c.look_at-2.ensures.told told3 in
    let still = (still_trans (g.S.Shelf.world c.settle.new.shelf) (g.S.Shelf.world c.look_at.new.shelf) (g.S.Shelf.world c.look_at-2.new.shelf) (still_trans (g.S.Shelf.world c.settle.new.shelf) (g.S.Shelf.world c.scan.new.shelf) (g.S.Shelf.world c.look_at.new.shelf) (c.scan.ensures.still (c.settle.ensures.told t)) (c.look_at.ensures.still (c.scan.ensures.told (c.settle.ensures.told t)))) (c.look_at-2.ensures.still (c.look_at.ensures.told (c.scan.ensures.told (c.settle.ensures.told t))))) in
    let same1 : mid.now.seen ≡ read.now.seen = sym (ap (λ (stand : Stand). stand.seen) still.now) in
    let same3 : disks3 ≡ read.now.seen = sym (ap (λ (stand : Stand). stand.seen) (c.look_at-2.ensures.still told3).now) in
    let same2 : disks2 ≡ read.now.seen = sym (ap (λ (stand : Stand). stand.seen) (c.look_at.ensures.still told2).now) ∙ same3 in
    let same_sizes : g.S.Shelf.sizes c.look_at-2.new.shelf ≡ sizes = (c.look_at-2.ensures.sizes ∙ (c.look_at.ensures.sizes ∙ (c.scan.ensures.sizes ∙ c.settle.ensures.sizes))) in
    let scanned = scanned_moved tells1 (Unit {0}) mid.now.seen read.now.seen (λ x. told1) (λ x. same1) sizes s (subst (λ (ns : List ℕ). IsScanned ns tells1 mid.now.seen s) c.settle.ensures.sizes c.in_ok-seen.ensures.scanned) in
    let looked = looked_moved tells2 (Unit {0}) disks2 read.now.seen (λ x. told2) (λ x. same2) sizes l (subst (λ (ns : List ℕ). IsLookedAt ns tells2 disks2 l) (c.scan.ensures.sizes ∙ c.settle.ensures.sizes) c.in_ok-now.ensures.looked) in
    let there = looked_moved tells3 (Unit {0}) disks3 read.now.seen (λ x. told3) (λ x. same3) sizes back (subst (λ (ns : List ℕ). IsLookedAt ns (g.S.Shelf.tells c.look_at.new.shelf) (g.S.Shelf.world c.look_at.new.shelf).now.seen c.in_ok-then.then) (c.look_at.ensures.sizes ∙ (c.scan.ensures.sizes ∙ c.settle.ensures.sizes)) c.in_ok-then.ensures.looked) in
    let kept = subst (λ (seen : List Seen). KeepsGroup seen s.found.root c.args.txg (Ok c.in_ok-root.root)) c.as_slice.ensures c.in_ok-root.ensures.keeps in
    let rest = rests_still mid read (c.in_ok-settle.ensures.rests t) still in
    let resets = subst (λ (ns : List ℕ). ResetsInPart ns s.found.root back read now) same_sizes (c.reset.ensures.stops told4 rest (subst (λ (ns : List ℕ). IsLookedAt ns (Unit {0}) read.now.seen back) (sym same_sizes) there)) in
    goes_back sizes old.now.paths read ((g.S.Shelf.sound c.look_at-2.new.shelf told4).sized ∙ same_sizes) rest s scanned l c.in_ok-now.ensures.found looked c.args.txg c.in_ok-root.root c.in_ok-root.ensures.root c.in_ok-root.ensures.pool kept.0 kept.1 back c.in_ok-then.ensures.found there now
    resets old refl (flushes_still old mid read (c.settle.ensures.flushes t) still)
