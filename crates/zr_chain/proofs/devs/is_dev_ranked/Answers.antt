use Rattle.std.proofs.Common.{◌≡◌, ◌≤◌, List, length, All, refl, ap, subst, arith, ◌∙◌}
use Rattle.std.proofs.lemmas.List.{get_or_default, take_all}
use Rattle.std.proofs.lemmas.List.Elements.{All-more}
use Rattle.zr_base.specs.declared.space.Entry.{Entry}
use Rattle.zr_rules.specs.Places.{no_part}
use Rattle.zr_rules.specs.Mappings.{entry_at}
use Rattle.zr_rules.specs.Resolve.{IsDestination}
use Rattle.zr_chain.specs.Chains.{DevMap, recorded, dev_at, devices_in}
use Rattle.zr_chain.proofs.devs.is_dev_ranked.Goals as goal

pub loop-i-preserved : goal.loop-i-preserved
loop-i-preserved c =
    let es = c.map-map.result.now.entries in
    let none : Entry = record { src = 0; dev = 0; dst = 0; len = 0 } in
    let yes : IsDestination (devices_in c.args.devs.now) c.args.d (entry_at es c.loop-i.i) =
    subst (λ (e : Entry). IsDestination (devices_in c.args.devs.now) c.args.d e) c.entry.ensures.value (c.is_destination.ensures.0 c.if-not-is_destination.false) in
    All-more (IsDestination (devices_in c.args.devs.now) c.args.d) es c.loop-i.i none (omega (arith, c.len-i-end.ensures.count)) c.loop-i.invariant yes

pub returns : goal.returns
returns c =
    let ds = devices_in c.args.devs.now in
    let es = c.map-map.result.now.entries in
    let read : c.index-devs-d.result ≡ dev_at c.args.devs.now c.args.d = c.index-devs-d.is ∙ get_or_default c.args.devs.now c.args.d c.index-devs-d.result (recorded no_part) c.requires in
    let same : es ≡ (dev_at c.args.devs.now c.args.d).entries = c.map-map.ensures ∙ ap (λ (x : DevMap). x.entries) read in
    let end : length es ≤ c.loop-i.i = omega (arith, c.len-i-end.ensures.count) in
    let all : All (IsDestination ds c.args.d) es = subst (λ (xs : List Entry). All (IsDestination ds c.args.d) xs) (take_all c.loop-i.i es end) c.loop-i.invariant in
    (λ _. subst (λ (xs : List Entry). All (IsDestination ds c.args.d) xs) same all, λ _. refl)
