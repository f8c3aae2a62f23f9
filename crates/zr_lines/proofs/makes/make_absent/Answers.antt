use Rattle.zr_lines.proofs.Coming.{comes_of}
use Rattle.std.proofs.Common.{Some, ap, arith}
use Rattle.zr_lines.specs.Groups.{blank}
use Rattle.zr_lines.proofs.Ways.{group_open, ready_group, ready_takes, set_limits}
use Rattle.zr_last.proofs.Lasting.{same_last}
use Rattle.zr_sync.specs.declared.open.OpenPool.{OpenPool}
use Rattle.zr_lines.proofs.Stopping.{in_group_alone, one_group_more}
use Rattle.zr_lines.proofs.makes.make_absent.Goals as goal

pub returns-in_err-demand_to_make-clause-group : goal.returns-in_err-demand_to_make-clause-group
returns-in_err-demand_to_make-clause-group g c = λ r is.
    let way = c.in_ok-make_way.ensures in
    ready_group c.args.id c.new_objects-objects.result c.in_ok-make_way.field-0 c.args.pool.now c.make_way.new.pool c.new_objects-objects.ensures.new (λ no. (way.stays no).0) way.due way.empty way.txg

pub returns-clause-pool : goal.returns-clause-pool
returns-clause-pool g c = λ done.
    let way = c.in_ok-make_way.ensures in
    let new = c.in_ok-record_new.ensures in
    let id = c.args.id in
    let mid = c.make_way.new.pool in
    let count = new.block_count in
    let ready = ready_group id c.new_objects-objects.result c.in_ok-make_way.field-0 c.args.pool.now mid c.new_objects-objects.ensures.new (λ no. (way.stays no).0) way.due way.empty way.txg in
    let takes = ready_takes id c.new_objects-objects.result c.args.pool.now.group mid.group ready c.new_objects-objects.ensures.new way.takes in
    group_open (g.S.Shelf.sizes c.make_way.new.shelf) (g.S.Shelf.counts c.make_way.new.shelf) (g.S.Shelf.tells c.make_way.new.shelf) (g.S.Shelf.world c.make_way.new.shelf) mid c.record_new.new.pool way.pool new.rest new.sets.txg new.lawful
    (set_limits id (Some (blank c.args.units)) mid.group c.record_new.new.pool.group takes new.sets (omega (arith, count)))

pub returns-clause-made : goal.returns-clause-made
returns-clause-made g c =
    let way = c.in_ok-make_way.ensures in
    record {
      group = c.make_way.new.pool.group;
      ready = ready_group c.args.id c.new_objects-objects.result c.in_ok-make_way.field-0 c.args.pool.now c.make_way.new.pool c.new_objects-objects.ensures.new (λ no. (way.stays no).0) way.due way.empty way.txg;
      sets = c.in_ok-record_new.ensures.sets;
    }

pub returns-clause-comes : goal.returns-clause-comes
returns-clause-comes g c = λ objects h none.
    comes_of (g.S.Shelf.tells c.make_way.new.shelf) (g.S.Shelf.world c.make_way.new.shelf).now.seen c.make_way.new.pool c.record_new.new.pool objects c.args.id c.args.units c.requires.id c.record_new.ensures.rest c.in_ok-record_new.ensures.sets none
    (c.in_ok-make_way.ensures.objects objects h)

-- ---- the last root

pub returns-in_err-demand_to_make-clause-shown : goal.returns-in_err-demand_to_make-clause-shown
returns-in_err-demand_to_make-clause-shown g c = λ told answered. c.in_ok-make_way.ensures.shown told

pub returns-clause-shown : goal.returns-clause-shown
returns-clause-shown g c = λ told answered h.
    let rest = c.record_new.ensures.rest in
    same_last (g.S.Shelf.world c.make_way.new.shelf).now.seen c.make_way.new.pool c.record_new.new.pool
    (record { last = ap (λ (p : OpenPool). p.last) rest; guid = ap (λ (p : OpenPool). p.guid) rest; table = ap (λ (p : OpenPool). p.table) rest }) (c.in_ok-make_way.ensures.shown told h)

-- ---- one group

pub returns-in_err-demand_to_make-clause-one_group : goal.returns-in_err-demand_to_make-clause-one_group
returns-in_err-demand_to_make-clause-one_group g c = λ objects h answered. c.in_ok-make_way.ensures.one_group objects h

pub returns-clause-one_group : goal.returns-clause-one_group
returns-clause-one_group g c = λ objects h answered. one_group_more (c.in_ok-make_way.ensures.one_group objects h) (in_group_alone (g.S.Shelf.world c.make_way.new.shelf) c.record_new.ensures.rest)
