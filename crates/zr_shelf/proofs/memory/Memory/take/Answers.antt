use Rattle.std.proofs.Common.{◌≡◌, ◌++◌, ◌+◌, ◌-◌, ◌≤◌, min, List, ℕ, take, drop, length, arith, sym, ◌∙◌, ap}
use Rattle.std.proofs.lemmas.List.{drop-drop, take_at, take_rest, length-take-le}
use Rattle.zr_shelf.specs.Disks.{Stand}
use Rattle.zr_shelf.specs.Moments.{World}
use Rattle.zr_shelf.specs.Memory.{start, run, take_on}
use Rattle.zr_shelf.proofs.Sound.{sound_of}
use Rattle.zr_shelf.proofs.Kept.{stand_on, seen_on, took}
use Rattle.zr_shelf.proofs.memory.Memory.take.Goals as goal

left_on : (w : World) (input : List ℕ) (taken since n : ℕ) → drop taken input ≡ (take_on w since).now.left → drop (taken + n) input ≡ (take_on w (since + n)).now.left
left_on w input taken since n left =
    sym (drop-drop n taken input)
    ∙ ap (drop n) (left ∙ ap (λ (s : Stand). s.left) (stand_on w since))
    ∙ drop-drop n since w.now.left
    ∙ sym (ap (λ (s : Stand). s.left) (stand_on w (since + n)))

pub invariant_of-self-clause-left : goal.invariant_of-self-clause-left
invariant_of-self-clause-left c =
    let h = c.args.self.now.history in
    left_on (run (start h.input.items) h.calls.items) h.input.items c.args.self.now.taken h.since c.min-count.result c.args.self.now.left

pub invariant_of-self-clause-seen : goal.invariant_of-self-clause-seen
invariant_of-self-clause-seen c =
    let h = c.args.self.now.history in
    c.args.self.now.seen ∙ seen_on (run (start h.input.items) h.calls.items) h.since ∙ sym (seen_on (run (start h.input.items) h.calls.items) (h.since + c.min-count.result))

pub invariant_of-self-clause-paths : goal.invariant_of-self-clause-paths
invariant_of-self-clause-paths c =
    let h = c.args.self.now.history in
    let w = run (start h.input.items) h.calls.items in
    c.args.self.now.paths ∙ ap (λ (s : Stand). s.paths) (stand_on w h.since) ∙ sym (ap (λ (s : Stand). s.paths) (stand_on w (h.since + c.min-count.result)))

-- what comes next of the input is what is left of it
rest_is : (input read left : List ℕ) (taken : ℕ) → read ≡ input → drop taken input ≡ left → take (length read - taken) (drop taken read) ≡ left
rest_is input read left taken is here =
    ap (λ (l : List ℕ). take (length l - taken) (drop taken l)) is
    ∙ take_rest input taken
    ∙ here

pub returns-clause-world : goal.returns-clause-world
returns-clause-world c =
    let h = c.args.self.now.history in
    let w = run (start h.input.items) h.calls.items in
    let left = (take_on w h.since).now.left in
    let rest = rest_is h.input.items c.deref.result.now left c.args.self.now.taken c.deref.ensures.value c.args.self.now.left in
    let n = c.min-count.result in
    let front : c.copy_from_slice.new.self ≡ take n left = c.copy_from_slice.ensures.after ∙ ap (take n) rest in
    let size : n ≤ length left = omega (arith, c.min-count.ensures, ap length rest) in
    took w h.since n (take n (c.copy_from_slice.new.self ++ drop n c.args.out.now))
    (take_at c.copy_from_slice.new.self (drop n c.args.out.now) n (ap length front ∙ length-take-le n left size) ∙ front)

pub returns-clause-count : goal.returns-clause-count
returns-clause-count c =
    let h = c.args.self.now.history in
    let left = (take_on (run (start h.input.items) h.calls.items) h.since).now.left in
    let rest = rest_is h.input.items c.deref.result.now left c.args.self.now.taken c.deref.ensures.value c.args.self.now.left in
    c.min-count.ensures ∙ ap (λ (l : List ℕ). min (length c.args.out.now) (length l)) rest

pub invariant_of-self-clause-sound : goal.invariant_of-self-clause-sound
invariant_of-self-clause-sound c =
    let h = c.args.self.now.history in
    sound_of (record { input = h.input; calls = h.calls; since = h.since + c.min-count.result }) c.args.self.now.disks.items (invariant_of-self-clause-seen c) (invariant_of-self-clause-paths c) c.args.self.now.lawful
