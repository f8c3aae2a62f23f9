use Rattle.std.proofs.Common.{◌≡◌, inl, inr, Err, refl, ap, rules}
use Rattle.zr_slots.specs.Found.{root_in}
use Rattle.zr_slots.proofs.Lawful.{current_lawful}
use Rattle.zr_slots.proofs.pool.find_pool.Goals as goal

pub one_pool-requires-clause-devices : goal.one_pool-requires-clause-devices
one_pool-requires-clause-devices c = (current_lawful c.args.seen.now c.requires.lawful c.in_ok-root.root c.in_ok-root.ensures).head.devices

pub returns-in_err-one_pool-clause-finds : goal.returns-in_err-one_pool-clause-finds
returns-in_err-one_pool-clause-finds c =
    let e : c.from_residual-in_err-one_pool.result ≡ Err c.in_err-one_pool.field-0.0 = search rules in
    inl (tt, c.in_ok-known.ensures, inl (c.in_ok-root.root, c.in_ok-root.ensures, inr (c.in_err-one_pool.field-0.0, c.in_err-one_pool.ensures, ap root_in e)))

pub have_devices-requires-clause-devices : goal.have_devices-requires-clause-devices
have_devices-requires-clause-devices c = (current_lawful c.args.seen.now c.requires.lawful c.in_ok-root.root c.in_ok-root.ensures).head.devices

pub returns-in_err-have_devices-clause-finds : goal.returns-in_err-have_devices-clause-finds
returns-in_err-have_devices-clause-finds c =
    let e : c.from_residual-in_err-have_devices.result ≡ Err c.in_err-have_devices.field-0.0 = search rules in
    inl (tt, c.in_ok-known.ensures, inl (c.in_ok-root.root, c.in_ok-root.ensures, inl (tt, c.in_ok-one_pool.ensures, inr (c.in_err-have_devices.field-0.0, c.in_err-have_devices.ensures, ap root_in e))))

pub slots_of-slots-requires-clause-devices : goal.slots_of-slots-requires-clause-devices
slots_of-slots-requires-clause-devices c = (current_lawful c.args.seen.now c.requires.lawful c.in_ok-root.root c.in_ok-root.ensures).head.devices

pub returns-clause-finds : goal.returns-clause-finds
returns-clause-finds c = inl (tt, c.in_ok-known.ensures, inl (c.in_ok-root.root, c.in_ok-root.ensures, inl (tt, c.in_ok-one_pool.ensures, inl (tt, c.in_ok-have_devices.ensures, refl))))

pub returns-clause-root : goal.returns-clause-root
returns-clause-root c = current_lawful c.args.seen.now c.requires.lawful c.in_ok-root.root c.in_ok-root.ensures
