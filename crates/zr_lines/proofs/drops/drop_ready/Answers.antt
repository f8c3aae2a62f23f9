use Rattle.zr_sync.specs.declared.open.OpenPool.{OpenPool}
use Rattle.zr_sync.proofs.Stays.{objects_stay}
use Rattle.zr_lines.proofs.Gone.{gone_of}
use Rattle.std.proofs.Common.{ap, ◌≤◌, ◌∙◌, List, true, refl, subst}
use Rattle.std.proofs.lemmas.Result.{err_from_is_err_and}
use Rattle.zr_bptr.specs.declared.Bptr.{Bptr}
use Rattle.zr_rules.specs.Columns.{free_units}
use Rattle.zr_sync.proofs.Disks.{works_more, works_writes}
use Rattle.zr_lines.specs.Drops.{GivesUp}
use Rattle.zr_lines.specs.Room.{LacksRoom, room_to_drop}
use Rattle.zr_lines.proofs.Giving.{err_same, lacks_of, on_ok_map}
use Rattle.zr_last.proofs.Lasting.{blocks_last}
use Rattle.zr_lines.proofs.Stopping.{in_group_by, in_group_more}
use Rattle.zr_lines.proofs.drops.drop_ready.Goals as goal

pub returns-in_err-blocks-clause-disks : goal.returns-in_err-blocks-clause-disks
returns-in_err-blocks-clause-disks g c = λ told. works_writes _ _ _ (c.object_blocks.ensures.wrote.goes.written told)

pub returns-in_err-blocks-clause-damaged : goal.returns-in_err-blocks-clause-damaged
returns-in_err-blocks-clause-damaged g c = λ s h at expected found is.
    let e = c.in_err-blocks in
    let was = err_from_is_err_and c.from_residual.result c.from_residual.ensures.1 in
    e.ensures.damaged s h at expected found cc

pub returns-in_err-demand_to_drop-clause-disks : goal.returns-in_err-demand_to_drop-clause-disks
returns-in_err-demand_to_drop-clause-disks g c = λ told. works_writes _ _ _ (c.object_blocks.ensures.wrote.goes.written told)

pub returns-in_err-demand_to_drop-clause-lacks : goal.returns-in_err-demand_to_drop-clause-lacks
returns-in_err-demand_to_drop-clause-lacks g c = λ needed free is.
    let pool = c.object_blocks.new.pool in
    let x = c.from_residual-in_err-demand_to_drop in
    let gives = err_from_is_err_and x.result x.ensures.1 in
    let asked = c.in_err-demand_to_drop in
    let lacks = lacks_of pool.space (room_to_drop pool.space pool.group c.args.id c.as_slice.result.now) needed free asked.field-0.0 x.result asked.ensures.short asked.ensures.enough.1 (gives.1 ∙ err_same gives.0 _ gives.2) is in
    (c.in_ok-blocks.blocks.items, (λ can s has. c.in_ok-blocks.ensures.blocks s has), subst (λ (blocks : List Bptr). LacksRoom pool.space (room_to_drop pool.space pool.group c.args.id blocks) needed free) c.as_slice.ensures.value lacks)

pub returns-clause-disks : goal.returns-clause-disks
returns-clause-disks g c = λ told.
    works_more (g.S.Shelf.world c.args.shelf.now) (g.S.Shelf.world c.object_blocks.new.shelf) (g.S.Shelf.world c.free_object.new.shelf)
    (works_writes _ _ _ (c.object_blocks.ensures.wrote.goes.written told))
    (works_writes _ _ _ (c.free_object.ensures.wrote.goes.written (c.object_blocks.ensures.wrote.goes.told told)))

pub returns-clause-given : goal.returns-clause-given
returns-clause-given g c =
    let pool = c.object_blocks.new.pool in
    on_ok_map c.free_object.result c.free_object.ensures.gives (λ gives. (
      c.in_ok-blocks.blocks.items,
      c.object_blocks.new.shelf,
      pool,
      (λ can s has. c.in_ok-blocks.ensures.blocks s has),
      (λ can. c.object_blocks.ensures.wrote),
      subst (λ (blocks : List Bptr). room_to_drop pool.space pool.group c.args.id blocks ≤ free_units pool.space) c.as_slice.ensures.value (c.in_ok-demand_to_drop.ensures.enough.0 (refl {a = true})),
      subst (λ (blocks : List Bptr). GivesUp blocks (g.S.Shelf.tells c.object_blocks.new.shelf) (g.S.Shelf.world c.object_blocks.new.shelf).now.seen pool (g.S.Shelf.tells c.free_object.new.shelf) (g.S.Shelf.world c.free_object.new.shelf).now.seen c.free_object.new.pool) c.as_slice-2.ensures.value gives,
    ))

pub returns-in_err-blocks-clause-objects : goal.returns-in_err-blocks-clause-objects
returns-in_err-blocks-clause-objects g c = λ objects h r is. objects_stay c.args.pool.now c.object_blocks.new.pool objects (ap (λ (p : OpenPool). p.dir) c.object_blocks.ensures.wrote.rest) c.object_blocks.ensures.group h (c.object_blocks.ensures.held h.stored h.held)

pub returns-in_err-demand_to_drop-clause-objects : goal.returns-in_err-demand_to_drop-clause-objects
returns-in_err-demand_to_drop-clause-objects g c = λ objects h r is. objects_stay c.args.pool.now c.object_blocks.new.pool objects (ap (λ (p : OpenPool). p.dir) c.object_blocks.ensures.wrote.rest) c.object_blocks.ensures.group h (c.object_blocks.ensures.held h.stored h.held)

pub returns-clause-gone : goal.returns-clause-gone
returns-clause-gone g c = λ objects h.
    let found = c.object_blocks.new.pool in
    let blocks = c.in_ok-blocks.blocks.items in
    gone_of (g.S.Shelf.tells c.free_object.new.shelf) (g.S.Shelf.world c.free_object.new.shelf).now.seen c.args.pool.now found c.free_object.new.pool objects c.args.id blocks c.free_object.result c.requires.id
    (ap (λ (p : OpenPool). p.dir) c.object_blocks.ensures.wrote.rest) c.object_blocks.ensures.group (ap (λ (p : OpenPool). p.dir) c.free_object.ensures.wrote.rest) h
    (c.in_ok-blocks.ensures.blocks h.stored h.held) (c.object_blocks.ensures.held h.stored h.held) c.free_object.ensures.sets
    (on_ok_map c.free_object.result c.free_object.ensures.gives (λ gives.
    subst (λ (bs : List Bptr). GivesUp bs (g.S.Shelf.tells c.object_blocks.new.shelf) (g.S.Shelf.world c.object_blocks.new.shelf).now.seen found (g.S.Shelf.tells c.free_object.new.shelf) (g.S.Shelf.world c.free_object.new.shelf).now.seen c.free_object.new.pool) c.as_slice-2.ensures.value gives))

-- ---- the last root

pub returns-in_err-blocks-clause-shown : goal.returns-in_err-blocks-clause-shown
returns-in_err-blocks-clause-shown g c = λ told. blocks_last c.requires.pool (g.S.Shelf.sound c.args.shelf.now told).sized told c.object_blocks.ensures.wrote

pub returns-in_err-demand_to_drop-clause-shown : goal.returns-in_err-demand_to_drop-clause-shown
returns-in_err-demand_to_drop-clause-shown g c = λ told. blocks_last c.requires.pool (g.S.Shelf.sound c.args.shelf.now told).sized told c.object_blocks.ensures.wrote

pub returns-clause-shown : goal.returns-clause-shown
returns-clause-shown g c = λ told h.
    let found = c.object_blocks.new.shelf in
    let there = c.object_blocks.ensures.wrote.goes.told told in
    blocks_last c.object_blocks.ensures.pool (g.S.Shelf.sound found there).sized there c.free_object.ensures.wrote (blocks_last c.requires.pool (g.S.Shelf.sound c.args.shelf.now told).sized told c.object_blocks.ensures.wrote h)

-- ---- one group

pub returns-in_err-blocks-clause-in_group : goal.returns-in_err-blocks-clause-in_group
returns-in_err-blocks-clause-in_group g c = λ told. in_group_by c.requires.pool c.object_blocks.ensures.wrote told

pub returns-in_err-demand_to_drop-clause-in_group : goal.returns-in_err-demand_to_drop-clause-in_group
returns-in_err-demand_to_drop-clause-in_group g c = λ told. in_group_by c.requires.pool c.object_blocks.ensures.wrote told

pub returns-clause-in_group : goal.returns-clause-in_group
returns-clause-in_group g c = λ told. in_group_more (in_group_by c.requires.pool c.object_blocks.ensures.wrote told) (in_group_by c.object_blocks.ensures.pool c.free_object.ensures.wrote (c.object_blocks.ensures.wrote.goes.told told))
