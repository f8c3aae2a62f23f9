use Rattle.std.proofs.Common.{refl, rules}
use Rattle.zr_sync.proofs.Objects.{now_held}
use Rattle.zr_sync.proofs.Stays.{objects_stay}
use Rattle.zr_lines.proofs.Finding.{if_ok}
use Rattle.zr_lines.proofs.Reading.{sum_of_object}
use Rattle.zr_lines.proofs.Stopping.{in_group_by}
use Rattle.zr_sync.proofs.Disks.{works_writes}
use Rattle.zr_lines.proofs.reads.sum.Goals as goal

pub returns-clause-disks : goal.returns-clause-disks
returns-clause-disks g c = λ told. works_writes _ _ _ (c.read_sum.ensures.continues.written told)

pub returns-clause-stays : goal.returns-clause-stays
returns-clause-stays g c = λ objects h. objects_stay c.args.pool.now _ objects refl refl h (now_held (λ n held. search (rules, held)) (c.read_sum.ensures.held h.stored h.held))

pub returns-clause-object : goal.returns-clause-object
returns-clause-object g c = λ objects h.
    if_ok c.read_sum.result (λ sum is. sum_of_object c.args.pool.now objects c.args.id h sum is) (c.read_sum.ensures.sum h.stored h.held)

-- ---- one group

pub returns-clause-in_group : goal.returns-clause-in_group
returns-clause-in_group g c = λ told. in_group_by c.requires.pool (record { goes = c.read_sum.ensures.continues; rest = refl; txg = refl }) told
