use Rattle.zr_open.proofs.find.find.Goals as goal

pub returns-clause-found : goal.returns-clause-found
returns-clause-found g c =
    let own = c.in_ok-scanned.ensures.scanned in
    (record { seen = c.in_ok-scanned.scanned.seen; shown = own.shown; finds = own.finds }, own.slots)
