use Rattle.std.proofs.Common.{◌≡◌, ◌++◌, List, [], ◌∷◌, ℕ, Bool, false, not, if◌then◌else◌, sym, ◌∙◌, ap}
use Rattle.zr_shelf.specs.Disks.{sent_more}
use Rattle.zr_shelf.specs.Moments.{World}
use Rattle.zr_shelf.specs.Memory.{start, world_of}
use Rattle.zr_shelf.specs.declared.memory.Call.{Call}
use Rattle.zr_shelf.specs.declared.memory.Deed.TheVariants.{Sent}
use Rattle.zr_shelf.proofs.Sound.{sound_of}
use Rattle.zr_shelf.proofs.Kept.{now_next, stepped, lawful_more}
use Rattle.zr_shelf.proofs.memory.Memory.give.Goals as goal

items_of : (done failed : Bool) (more calls : List Call) (call : Call) → done ≡ not failed → failed ≡ false → more ≡ (if done then calls ++ call ∷ [] else calls) → more ≡ calls ++ call ∷ []
items_of done failed more calls call negation is pushed = pushed ∙ ap (λ (b : Bool). if b then calls ++ call ∷ [] else calls) (negation ∙ ap (λ (b : Bool). not b) is)

pub invariant_of-self-2-clause-left : goal.invariant_of-self-2-clause-left
invariant_of-self-2-clause-left c =
    let h = c.args.self.now.history in
    let call : Call = record { moment = c.args.self.now.made; since = h.since; deed = Sent c.in_ok-kept.kept } in
    let items = items_of _ _ c.push.new.self.items h.calls.items call c.is_err.ensures.negation c.if-is_err.false c.push.ensures.items in
    c.args.self.now.left ∙ sym (ap (λ (w : World). w.now.left) (now_next h.input.items h.calls.items c.push.new.self.items c.args.self.now.made h.since (Sent c.in_ok-kept.kept) items))

pub invariant_of-self-2-clause-gave : goal.invariant_of-self-2-clause-gave
invariant_of-self-2-clause-gave c =
    let h = c.args.self.now.history in
    let call : Call = record { moment = c.args.self.now.made; since = h.since; deed = Sent c.in_ok-kept.kept } in
    let items = items_of _ _ c.push.new.self.items h.calls.items call c.is_err.ensures.negation c.if-is_err.false c.push.ensures.items in
    let sent : c.extend_from_slice.new.self.items ≡ (world_of h).now.sent ++ c.in_ok-kept.kept.items =
    c.in_ok-extend_from_slice.ensures.items
    ∙ ap (λ (l : List ℕ). l ++ c.args.bytes.now) c.args.self.now.gave
    ∙ ap (λ (l : List ℕ). (world_of h).now.sent ++ l) (sym (c.in_ok-kept.ensures.items_if_clones_equal (λ x y e. e))) in
    sent ∙ sym (ap (λ (w : World). w.now.sent) (now_next h.input.items h.calls.items c.push.new.self.items c.args.self.now.made h.since (Sent c.in_ok-kept.kept) items))

pub invariant_of-self-2-clause-seen : goal.invariant_of-self-2-clause-seen
invariant_of-self-2-clause-seen c =
    let h = c.args.self.now.history in
    let call : Call = record { moment = c.args.self.now.made; since = h.since; deed = Sent c.in_ok-kept.kept } in
    let items = items_of _ _ c.push.new.self.items h.calls.items call c.is_err.ensures.negation c.if-is_err.false c.push.ensures.items in
    c.args.self.now.seen ∙ sym (ap (λ (w : World). w.now.seen) (now_next h.input.items h.calls.items c.push.new.self.items c.args.self.now.made h.since (Sent c.in_ok-kept.kept) items))

pub invariant_of-self-2-clause-paths : goal.invariant_of-self-2-clause-paths
invariant_of-self-2-clause-paths c =
    let h = c.args.self.now.history in
    let call : Call = record { moment = c.args.self.now.made; since = h.since; deed = Sent c.in_ok-kept.kept } in
    let items = items_of _ _ c.push.new.self.items h.calls.items call c.is_err.ensures.negation c.if-is_err.false c.push.ensures.items in
    c.args.self.now.paths ∙ sym (ap (λ (w : World). w.now.paths) (now_next h.input.items h.calls.items c.push.new.self.items c.args.self.now.made h.since (Sent c.in_ok-kept.kept) items))

pub invariant_of-self-2-clause-lawful : goal.invariant_of-self-2-clause-lawful
invariant_of-self-2-clause-lawful c =
    let h = c.args.self.now.history in
    let call : Call = record { moment = c.args.self.now.made; since = h.since; deed = Sent c.in_ok-kept.kept } in
    let items = items_of _ _ c.push.new.self.items h.calls.items call c.is_err.ensures.negation c.if-is_err.false c.push.ensures.items in
    lawful_more (start h.input.items) h.calls.items c.push.new.self.items call items c.args.self.now.lawful tt

pub returns-clause-ok : goal.returns-clause-ok
returns-clause-ok c =
    let h = c.args.self.now.history in
    let call : Call = record { moment = c.args.self.now.made; since = h.since; deed = Sent c.in_ok-kept.kept } in
    let items = items_of _ _ c.push.new.self.items h.calls.items call c.is_err.ensures.negation c.if-is_err.false c.push.ensures.items in
    stepped h.input.items h.calls.items c.push.new.self.items c.args.self.now.made h.since (Sent c.in_ok-kept.kept) items (λ old new. new ≡ sent_more old c.args.bytes.now)
    (ap (λ (bytes : List ℕ). sent_more (world_of h).now bytes) (c.in_ok-kept.ensures.items_if_clones_equal (λ x y e. e)))

pub invariant_of-self-2-clause-sound : goal.invariant_of-self-2-clause-sound
invariant_of-self-2-clause-sound c = sound_of (record { input = c.args.self.now.history.input; calls = c.push.new.self; since = 0 }) c.args.self.now.disks.items (invariant_of-self-2-clause-seen c) (invariant_of-self-2-clause-paths c) (invariant_of-self-2-clause-lawful c)
