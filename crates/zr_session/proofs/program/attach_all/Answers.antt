use Rattle.std.proofs.Common.{[], None}
use Rattle.zr_words.specs.Views.{device_of}
use Rattle.zr_session.proofs.Sending.{fell_more}
use Rattle.zr_session.proofs.Opening.{attached_next, attached_partly, more_sizes, of_any_error}
use Rattle.zr_session.proofs.Telling.{attach_moments}
use Rattle.zr_session.proofs.program.attach_all.Goals as goal

pub returns-in_err-attach-clause-partly : goal.returns-in_err-attach-clause-partly
returns-in_err-attach-clause-partly g c = λ t.
    let i = c.loop-device.invariant in
    let w = c.in_err-attach.ensures.world (i.told t) in
    of_any_error c.from_residual.result _ (attached_partly device_of c.args.devices.now c.loop-device.device-index (record { path = record { ref_ptr = (0, 0); now = [] }; make = None }) _ _ _ c.loop-device-test.true (i.at t) w.now)

pub loop-device-preserved : goal.loop-device-preserved
loop-device-preserved g c =
    let i = c.loop-device.invariant in
    record {
      at = λ t. attached_next device_of c.args.devices.now c.loop-device.device-index (record { path = record { ref_ptr = (0, 0); now = [] }; make = None }) _ _ _ c.loop-device-test.true (i.at t) (c.in_ok-attach.ensures.world (i.told t)).step;
      moments = λ t. attach_moments device_of c.args.devices.now c.loop-device.device-index (record { path = record { ref_ptr = (0, 0); now = [] }; make = None }) _ _ _ c.attach.result c.loop-device-test.true (i.at t) (i.moments t) (c.attach.ensures.world (i.told t));
      told = λ t. c.attach.ensures.told (i.told t);
      sizes = more_sizes _ _ _ _ c.in_ok-attach.ensures.sizes i.sizes;
      none_fell = fell_more _ _ _ i.none_fell c.attach.ensures.none_fell;
    }

pub returns-in_err-attach-clause-moments : goal.returns-in_err-attach-clause-moments
returns-in_err-attach-clause-moments g c = λ t.
    let i = c.loop-device.invariant in
    attach_moments device_of c.args.devices.now c.loop-device.device-index (record { path = record { ref_ptr = (0, 0); now = [] }; make = None }) _ _ _ c.attach.result c.loop-device-test.true (i.at t) (i.moments t) (c.attach.ensures.world (i.told t))
