use Rattle.std.proofs.Common.{◌≡◌, ◌∙◌, ◌<◌, ◌++◌, ◌-◌, ℕ, List, length, arith, take, sym, ap, subst}
use Rattle.std.proofs.lemmas.Grind.{common_steps}
use Rattle.zr_base.specs.declared.space.Extent.{Extent}
use Rattle.zr_rules.specs.Space.{Space}
use Rattle.zr_space.specs.Views.{Kept, kept_of}
use Rattle.zr_space.specs.Discards.{on_device, CanDiscard}
use Rattle.zr_space.proofs.Views.{kept_read}
use Rattle.zr_space.proofs.Lowest.{kept_are, take_step, taken_len, drop_none, can_discard, take_none}
use Rattle.zr_space.proofs.space.Space.lowest_kept.Goals as goal

pub loop-dev-preserved : goal.loop-dev-preserved
loop-dev-preserved c =
    let devs = c.self.inside.devs.items in
    let dev = c.loop-dev.dev in
    let list = c.loop-dev.list.items in
    let k : Kept = record { row = c.device.inside.row; uses = c.device.inside.units; moves = c.device.inside.moves } in
    let there : dev < length devs = let e = c.loop-dev.invariant.end in let t = c.loop-dev-test.true in omega (arith, e, t) in
    let is : k ≡ kept_of devs dev = c.device.view_is ∙ kept_read devs dev c.index-device.result.now there c.index-device.ensures in
    let kept : c.kept.result.now.extents ≡ (kept_of devs dev).uses.kept = c.kept.ensures ∙ ap (λ (z : Kept). z.uses.kept) is in
    let len : c.len.result ≡ length list = grind (arith, common_steps, c.len.ensures) in
    let items : c.push_lowest.new.list.items ≡ list ++ take (c.args.n - length list) (on_device dev (kept_of devs dev).uses.kept) =
    subst (λ (m : ℕ). c.push_lowest.new.list.items ≡ list ++ take (c.args.n - m) (on_device dev (kept_of devs dev).uses.kept)) len
    (subst (λ (es : List Extent). c.push_lowest.new.list.items ≡ list ++ take (c.args.n - c.len.result) (on_device dev es)) kept c.in_ok-push_lowest.ensures) in
    rw items (record {
      end = c.loop-dev.invariant.end;
      few = taken_len c.args.n list _ c.loop-dev.invariant.few;
      all = take_step dev c.args.n devs list _ there c.loop-dev.invariant.few c.loop-dev.invariant.all;
    })

pub returns-clause-lowest : goal.returns-clause-lowest
returns-clause-lowest c =
    let devs = c.self.inside.devs.items in
    let i = c.loop-dev.invariant in
    let none = drop_none devs c.loop-dev.dev (let t = c.loop-dev-test.false in let e = i.end in omega (arith, t, e)) in
    let all = take_none c.args.n devs c.loop-dev.list.items c.loop-dev.dev none i.all in
    rw (← c.self.view_is) (all ∙ ap (take c.args.n) (sym (kept_are 0 devs)))

pub returns-clause-kept : goal.returns-clause-kept
returns-clause-kept c =
    let devs = c.self.inside.devs.items in
    let i = c.loop-dev.invariant in
    let none = drop_none devs c.loop-dev.dev (let t = c.loop-dev-test.false in let e = i.end in omega (arith, t, e)) in
    let all = take_none c.args.n devs c.loop-dev.list.items c.loop-dev.dev none i.all in
    subst (λ (s : Space). CanDiscard s c.loop-dev.list.items) c.self.view_is (rw all (can_discard c.self.inside.whole c.self.inside.slabs devs c.args.n c.self.invariant))
