use Rattle.std.proofs.Common.{◌≡◌, refl, sym, ◌∙◌, ap}
use Rattle.zr_shelf.specs.Disks.{flushed}
use Rattle.zr_shelf.specs.Moments.{World}
use Rattle.zr_shelf.specs.Memory.{start}
use Rattle.zr_shelf.specs.declared.memory.Deed.TheVariants.{Flushed}
use Rattle.zr_shelf.proofs.Sound.{sound_of}
use Rattle.zr_shelf.proofs.Kept.{now_next, stepped, lawful_more}
use Rattle.zr_shelf.proofs.memory.Memory.flush.Goals as goal

pub invariant_of-self-2-clause-left : goal.invariant_of-self-2-clause-left
invariant_of-self-2-clause-left c =
    let h = c.args.self.now.history in
    c.args.self.now.left ∙ sym (ap (λ (w : World). w.now.left) (now_next h.input.items h.calls.items c.push.new.self.items c.args.self.now.made h.since Flushed c.in_ok-push.ensures.items))

pub invariant_of-self-2-clause-gave : goal.invariant_of-self-2-clause-gave
invariant_of-self-2-clause-gave c =
    let h = c.args.self.now.history in
    c.args.self.now.gave ∙ sym (ap (λ (w : World). w.now.sent) (now_next h.input.items h.calls.items c.push.new.self.items c.args.self.now.made h.since Flushed c.in_ok-push.ensures.items))

pub invariant_of-self-2-clause-seen : goal.invariant_of-self-2-clause-seen
invariant_of-self-2-clause-seen c =
    let h = c.args.self.now.history in
    c.args.self.now.seen ∙ sym (ap (λ (w : World). w.now.seen) (now_next h.input.items h.calls.items c.push.new.self.items c.args.self.now.made h.since Flushed c.in_ok-push.ensures.items))

pub invariant_of-self-2-clause-paths : goal.invariant_of-self-2-clause-paths
invariant_of-self-2-clause-paths c =
    let h = c.args.self.now.history in
    c.args.self.now.paths ∙ sym (ap (λ (w : World). w.now.paths) (now_next h.input.items h.calls.items c.push.new.self.items c.args.self.now.made h.since Flushed c.in_ok-push.ensures.items))

pub invariant_of-self-2-clause-lawful : goal.invariant_of-self-2-clause-lawful
invariant_of-self-2-clause-lawful c =
    let h = c.args.self.now.history in
    lawful_more (start h.input.items) h.calls.items c.push.new.self.items (record { moment = c.args.self.now.made; since = h.since; deed = Flushed }) c.in_ok-push.ensures.items c.args.self.now.lawful tt

pub returns-clause-ok : goal.returns-clause-ok
returns-clause-ok c =
    let h = c.args.self.now.history in
    stepped h.input.items h.calls.items c.push.new.self.items c.args.self.now.made h.since Flushed c.in_ok-push.ensures.items (λ old new. new ≡ flushed old) refl

pub invariant_of-self-2-clause-sound : goal.invariant_of-self-2-clause-sound
invariant_of-self-2-clause-sound c = sound_of (record { input = c.args.self.now.history.input; calls = c.push.new.self; since = 0 }) c.args.self.now.disks.items (invariant_of-self-2-clause-seen c) (invariant_of-self-2-clause-paths c) (invariant_of-self-2-clause-lawful c)
