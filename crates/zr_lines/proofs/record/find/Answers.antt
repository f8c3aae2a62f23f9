use Rattle.std.proofs.Common.{rules, refl}
use Rattle.zr_sync.proofs.Objects.{now_held}
use Rattle.zr_sync.proofs.Stays.{objects_stay}
use Rattle.zr_lines.proofs.Finding.{if_ok, record_in}
use Rattle.zr_lines.proofs.record.find.Goals as goal

pub returns-clause-held : goal.returns-clause-held
returns-clause-held g c = λ s h. now_held (λ n held. search (rules, held)) (c.read_record.ensures.held s h)

pub returns-clause-stays : goal.returns-clause-stays
returns-clause-stays g c = λ objects h. objects_stay c.args.pool.now _ objects refl refl h (now_held (λ n held. search (rules, held)) (c.read_record.ensures.held h.stored h.held))

pub returns-clause-object : goal.returns-clause-object
returns-clause-object g c = λ objects h. if_ok c.read_record.result (λ r is. record_in c.args.pool.now objects c.args.id h r is) (c.read_record.ensures.record h.stored h.held)
