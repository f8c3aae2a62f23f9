use Rattle.std.proofs.Common.{refl, rules}
use Rattle.zr_sync.proofs.AllMeta.{all_held}
use Rattle.zr_sync.proofs.HeadTrees.{both_weaker, head_stored}
use Rattle.zr_sync.proofs.heads.write_head.Goals as goal

pub returns-clause-stands : goal.returns-clause-stands
returns-clause-stands g c = λ seen.
    let pool = c.args.pool.now in
    let old = c.args.shelf.now in
    let head = c.in_ok-head.ensures.head in
    let stands = c.put_head.ensures.stands _ (all_held pool.table.slots (g.S.Shelf.tells old) (g.S.Shelf.world old).now.seen pool.space pool.cache c.requires.pool.lawful seen.told seen.read) in
    search (rules, stands, head)

pub returns-clause-safe : goal.returns-clause-safe
returns-clause-safe g c = λ seen.
    let pool = c.args.pool.now in
    let old = c.args.shelf.now in
    let safe = c.put_head.ensures.safe refl _ (all_held pool.table.slots (g.S.Shelf.tells old) (g.S.Shelf.world old).now.seen pool.space pool.cache c.requires.pool.lawful seen.told seen.read) in
    search (rules, safe)

pub returns-clause-trees : goal.returns-clause-trees
returns-clause-trees g c = λ stage cond others h.
    let x = c.args.pool.now in
    both_weaker c.put_head.result
    (λ root still put. (
      put.is.bytes,
      λ t is.
          head_stored stage cond (g.S.Shelf.tells c.args.shelf.now) _ (g.S.Shelf.world c.args.shelf.now).now.seen _ x _ (record { version = refl; turned = refl; lawful_old = c.requires.pool.lawful; lawful = c.put_head.ensures.continues.space.rows.lawful c.requires.pool.lawful }) c.put_head.ensures.continues.space refl refl refl others h put.stored put.held still t put.is.bytes (put.is.stored t is),
    ))
    c.put_head.ensures.waits (c.put_head.ensures.stores h.stored h.held)
