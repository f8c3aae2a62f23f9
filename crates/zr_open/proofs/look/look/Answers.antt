use Rattle.std.proofs.Common.{inr, ℕ, List, ap, sym, subst}
use Rattle.std.specs.Prelude.{IfOk}
use Rattle.zr_shelf.specs.Disks.{Stand}
use Rattle.zr_shelf.proofs.Runs.{still_trans}
use Rattle.zr_roots.specs.Devices.{HasItsDisks}
use Rattle.zr_open.specs.Looked.{IsLookedAt}
use Rattle.zr_open.proofs.Looking.{looked_by, refused_by}
use Rattle.zr_open.proofs.look.look.Goals as goal

pub returns-clause-still : goal.returns-clause-still
returns-clause-still g c = λ t.
    still_trans (g.S.Shelf.world c.args.shelf.now) (g.S.Shelf.world c.find.new.shelf) (g.S.Shelf.world c.look_at.new.shelf) (c.in_ok-found.ensures.still t) (c.look_at.ensures.still (c.in_ok-found.ensures.told t))

pub look_at-requires-clause-disks : goal.look_at-requires-clause-disks
look_at-requires-clause-disks g c = subst (λ (ns : List ℕ). HasItsDisks ns c.in_ok-found.found.slots c.in_ok-found.found.root) (sym c.in_ok-found.ensures.sizes) c.in_ok-found.ensures.disks

pub returns-clause-looked : goal.returns-clause-looked
returns-clause-looked g c =
    let own = c.in_ok-found.ensures in
    let t1 = g.S.Shelf.tells c.find.new.shelf in
    let t2 = g.S.Shelf.tells c.args.shelf.now in
    let disks1 = (g.S.Shelf.world c.find.new.shelf).now.seen in
    let disks2 = (g.S.Shelf.world c.args.shelf.now).now.seen in
    let looked = subst (λ (ns : List ℕ). IfOk c.look_at.result (IsLookedAt ns t1 disks1)) own.sizes c.look_at.ensures.looked in
    looked_by t1 t2 disks1 disks2 own.told (λ t. ap (λ (s : Stand). s.seen) (own.still t).now) (g.S.Shelf.sizes c.args.shelf.now) c.in_ok-found.found own.found.0 own.found.1 c.look_at.result c.look_at.ensures.found looked

pub returns-clause-refused : goal.returns-clause-refused
returns-clause-refused g c = λ r is.
    let own = c.in_ok-found.ensures in
    inr (refused_by (g.S.Shelf.tells c.find.new.shelf) (g.S.Shelf.tells c.args.shelf.now) (g.S.Shelf.world c.find.new.shelf).now.seen (g.S.Shelf.world c.args.shelf.now).now.seen own.told (λ t. ap (λ (s : Stand). s.seen) (own.still t).now)
    (g.S.Shelf.sizes c.args.shelf.now) c.in_ok-found.found own.found.0 own.found.1 r (c.look_at.ensures.refused r is))
