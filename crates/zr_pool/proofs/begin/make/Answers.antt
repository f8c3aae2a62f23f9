use Rattle.std.proofs.Common.{◌≡◌, ℕ, List, length, Ok, Err, inl, sym, ◌∙◌, ap, subst}
use Rattle.std.specs.Prelude.{IfOk, OnOk}
use Rattle.zr_create.specs.Devices.{HasDevicesIn}
use Rattle.zr_open.proofs.Flushing.{flushes_read, flushes_still, flushes_work}
use Rattle.zr_shelf.specs.Disks.{Stand}
use Rattle.zr_slots.specs.Checks.{AreNamed}
use Rattle.zr_sync.proofs.Disks.{works_more}
use Rattle.zr_pool.proofs.Beginning.{allowed_before, checks_before, made_stops}
use Rattle.zr_pool.proofs.begin.make.Goals as goal

pub returns-in_err-settle-clause-disks : goal.returns-in_err-settle-clause-disks
returns-in_err-settle-clause-disks g c = λ told. flushes_work _ _ (c.settle.ensures.flushes told)

pub returns-in_err-settle-clause-stops : goal.returns-in_err-settle-clause-stops
returns-in_err-settle-clause-stops g c = λ told. inl (c.settle.ensures.flushes told)

pub returns-in_err-settle-clause-unwritten : goal.returns-in_err-settle-clause-unwritten
returns-in_err-settle-clause-unwritten g c = λ told r is. c.settle.ensures.flushes told

pub returns-in_err-settle-clause-untouched : goal.returns-in_err-settle-clause-untouched
returns-in_err-settle-clause-untouched g c = λ told r is. (flushes_read (g.S.Shelf.world c.args.shelf.now) (g.S.Shelf.world c.settle.new.shelf) (c.settle.ensures.flushes told)).seen

pub returns-clause-disks : goal.returns-clause-disks
returns-clause-disks g c = λ told. works_more (g.S.Shelf.world c.args.shelf.now) (g.S.Shelf.world c.settle.new.shelf) (g.S.Shelf.world c.create.new.shelf) (flushes_work _ _ (c.settle.ensures.flushes told)) (c.create.ensures.disks (c.settle.ensures.told told))

pub returns-clause-devices : goal.returns-clause-devices
returns-clause-devices g c = subst (λ (n : List ℕ). IfOk c.create.result (HasDevicesIn n 1 c.args.named.now)) c.settle.ensures.sizes c.create.ensures.devices

pub returns-clause-last : goal.returns-clause-last
returns-clause-last g c = λ told. c.create.ensures.last (c.settle.ensures.told told)

pub returns-clause-ends : goal.returns-clause-ends
returns-clause-ends g c = λ told. c.create.ensures.ends (c.settle.ensures.told told)

pub returns-clause-objects : goal.returns-clause-objects
returns-clause-objects g c = λ told. c.create.ensures.objects (c.settle.ensures.told told)

pub returns-clause-trees : goal.returns-clause-trees
returns-clause-trees g c = λ told. c.create.ensures.trees (c.settle.ensures.told told)

pub returns-clause-stops : goal.returns-clause-stops
returns-clause-stops g c = λ told.
    let shelf = c.args.shelf.now in
    let first = c.settle.new.shelf in
    made_stops _ c.settle.result (g.S.Shelf.sizes shelf) (g.S.Shelf.sizes first) c.args.named.now (g.S.Shelf.world shelf) (g.S.Shelf.world first) (g.S.Shelf.world c.create.new.shelf) c.in_ok-settle.was c.settle.ensures.sizes (c.settle.ensures.flushes told) (c.settle.ensures.rests told) (c.create.ensures.stops (c.settle.ensures.told told))

pub returns-clause-refused : goal.returns-clause-refused
returns-clause-refused g c = λ told r is.
    let shelf = c.args.shelf.now in
    let first = c.settle.new.shelf in
    checks_before (g.S.Shelf.sizes shelf) (g.S.Shelf.sizes first) (g.S.Shelf.tells shelf) (g.S.Shelf.tells first) (g.S.Shelf.world shelf).now.seen (g.S.Shelf.world first).now.seen c.args.version c.args.guid c.args.named.now (Err r) c.settle.ensures.sizes c.settle.ensures.told
    (flushes_read (g.S.Shelf.world shelf) (g.S.Shelf.world first) (c.settle.ensures.flushes told)).seen (c.create.ensures.refused r is)

pub returns-clause-allowed : goal.returns-clause-allowed
returns-clause-allowed g c = λ told.
    let shelf = c.args.shelf.now in
    let first = c.settle.new.shelf in
    allowed_before (g.S.Shelf.sizes shelf) (g.S.Shelf.sizes first) (g.S.Shelf.tells shelf) (g.S.Shelf.tells first) (g.S.Shelf.world shelf).now.seen (g.S.Shelf.world first).now.seen c.args.version c.args.guid c.args.named.now c.settle.ensures.sizes c.settle.ensures.told
    (flushes_read (g.S.Shelf.world shelf) (g.S.Shelf.world first) (c.settle.ensures.flushes told)).seen c.create.result c.create.ensures.allowed

pub returns-clause-unwritten : goal.returns-clause-unwritten
returns-clause-unwritten g c = λ told r is. flushes_still (g.S.Shelf.world c.args.shelf.now) (g.S.Shelf.world c.settle.new.shelf) (g.S.Shelf.world c.create.new.shelf) (c.settle.ensures.flushes told) (c.create.ensures.untouched (c.settle.ensures.told told) r is)

pub returns-clause-untouched : goal.returns-clause-untouched
returns-clause-untouched g c = λ told r is.
    ap (λ (s : Stand). s.seen) (c.create.ensures.untouched (c.settle.ensures.told told) r is).now ∙ (flushes_read (g.S.Shelf.world c.args.shelf.now) (g.S.Shelf.world c.settle.new.shelf) (c.settle.ensures.flushes told)).seen

pub create-requires-clause-named : goal.create-requires-clause-named
create-requires-clause-named g c = subst (λ (n : List ℕ). AreNamed (length n) c.args.named.now) (sym c.settle.ensures.sizes) c.requires.named
