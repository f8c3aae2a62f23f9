use Rattle.std.proofs.Common.{ap, arith}
use Rattle.zr_txg.specs.Changes.{Changes}
use Rattle.zr_txg.proofs.Counts.{is_group-record, block_count-record, record_blocks, record_objects, record_block_count, record_object_count}
use Rattle.zr_txg.proofs.group.Group.record_object.Goals as goal

pub overflow_sub-self : goal.overflow_sub-self
overflow_sub-self c =
    omega (arith, c.in_ok-taken.ensures.taken, c.self.invariant.counted, block_count-record c.self.inside.objects.items c.args.id c.args.r c.self.invariant.rising)

pub invariant_of-self-2 : goal.invariant_of-self-2
invariant_of-self-2 c =
    rw c.in_ok-taken.ensures.put (is_group-record c.self.inside.objects.items c.self.inside.blocks c.in_ok-taken.taken c.args.id c.args.r c.self.invariant c.in_ok-taken.ensures.taken)

pub returns-clause-blocks : goal.returns-clause-blocks
returns-clause-blocks c =
    record_blocks c.args.self.now c.self.inside.objects.items _ c.args.id c.args.r (ap (λ (g : Changes). g.objects) c.self.view_is) c.in_ok-taken.ensures.put

pub returns-clause-objects : goal.returns-clause-objects
returns-clause-objects c =
    record_objects c.args.self.now c.self.inside.objects.items _ c.args.id c.args.r (ap (λ (g : Changes). g.objects) c.self.view_is) c.in_ok-taken.ensures.put

pub returns-clause-block_count : goal.returns-clause-block_count
returns-clause-block_count c =
    record_block_count c.args.self.now c.self.inside.objects.items _ c.args.id c.args.r (ap (λ (g : Changes). g.objects) c.self.view_is) c.self.invariant.rising c.in_ok-taken.ensures.put

pub returns-clause-object_count : goal.returns-clause-object_count
returns-clause-object_count c =
    record_object_count c.args.self.now c.self.inside.objects.items _ c.args.id c.args.r (ap (λ (g : Changes). g.objects) c.self.view_is) c.self.invariant.rising c.in_ok-taken.ensures.put
