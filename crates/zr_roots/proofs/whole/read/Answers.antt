use Rattle.std.proofs.Common.{◌≡◌, List, ℕ, sym, ap, subst}
use Rattle.std.specs.Prelude.{All}
use Rattle.zr_import.specs.declared.roots.Root.{Root}
use Rattle.zr_judge.specs.Parts.{HasMapping}
use Rattle.zr_shelf.proofs.Runs.{still_trans}
use Rattle.zr_shelf.specs.Disks.{Stand}
use Rattle.zr_roots.specs.Devices.{HasItsDisks}
use Rattle.zr_roots.specs.Standing.{IsRootOf, StandBlocks, Stands}
use Rattle.zr_roots.proofs.Reading.{base_mounted, both_ok, ok_by, stands_both}
use Rattle.zr_roots.proofs.whole.read.Goals as goal

pub read_blocks-requires-clause-mounted : goal.read_blocks-requires-clause-mounted
read_blocks-requires-clause-mounted g c =
    let own = c.in_ok-base.ensures in
    let b = c.in_ok-base.base in
    base_mounted c.args.found.now.root b.meta b.space own.base (g.S.Shelf.sizes c.read_base.new.shelf) c.args.found.now.slots c.requires.root
    (subst (λ (ns : List ℕ). HasItsDisks ns c.args.found.now.slots c.args.found.now.root) (sym own.sizes) c.requires.disks)

pub returns-clause-still : goal.returns-clause-still
returns-clause-still g c = λ t.
    still_trans (g.S.Shelf.world c.args.shelf.now) (g.S.Shelf.world c.read_base.new.shelf) (g.S.Shelf.world c.read_blocks.new.shelf) (c.in_ok-base.ensures.still t) (c.read_blocks.ensures.still (c.in_ok-base.ensures.told t))

pub returns-clause-mapped : goal.returns-clause-mapped
returns-clause-mapped g c =
    let b = c.in_ok-base.base in
    ok_by c.read_blocks.result (IsRootOf b.meta) (λ (r : Root). All HasMapping r.parts.devs) (λ r is. subst (λ (x : Root). All HasMapping x.parts.devs) (sym is) c.in_ok-base.ensures.mapped) c.read_blocks.ensures.root

pub returns-clause-stands : goal.returns-clause-stands
returns-clause-stands g c = λ t.
    let own = c.in_ok-base.ensures in
    let b = c.in_ok-base.base in
    let u = c.args.found.now.root in
    let slots = c.args.found.now.slots in
    let disks = (g.S.Shelf.world c.args.shelf.now).now.seen in
    let same = ap (λ (s : Stand). s.seen) (own.still t).now in
    both_ok c.read_blocks.result (IsRootOf b.meta) (StandBlocks (g.S.Shelf.world c.read_base.new.shelf).now.seen slots u.txg) (Stands disks slots u)
    (λ r root blocks. stands_both disks slots u b.meta r root (own.stands t) (subst (λ (ds : List (List ℕ)). StandBlocks ds slots u.txg r) same blocks))
    c.read_blocks.ensures.root (c.read_blocks.ensures.stand (own.told t))
