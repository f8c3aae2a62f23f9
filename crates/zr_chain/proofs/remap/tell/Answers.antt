use Rattle.std.proofs.Common.{rules, ◌≡◌, List, true, subst}
use Rattle.std.proofs.lemmas.Result.{IfErr-weaker}
use Rattle.zr_base.specs.declared.space.Entry.{Entry}
use Rattle.zr_rules.specs.Places.{is_gone}
use Rattle.zr_rules.specs.Devices.{state_at}
use Rattle.zr_chain.specs.Visits.{PassesGap, LacksEntry}
use Rattle.zr_chain.proofs.Parts.{gone_is, moved_is, gap_here}
use Rattle.zr_chain.proofs.Begun.{begins_hop, on_any_err}
use Rattle.zr_chain.proofs.remap.tell.Goals as goal

pub map-requires-clause-moved : goal.map-requires-clause-moved
map-requires-clause-moved g c = moved_is (g.M.Maps.devices c.args.devs.now) c.args.p.dev c.row.result c.is_gone.result c.row.ensures c.is_gone.ensures c.if-not-is_gone.false

pub returns-clause-gap : goal.returns-clause-gap
returns-clause-gap g c =
    let ds = g.M.Maps.devices c.args.devs.now in
    let gone : is_gone (state_at ds c.args.p.dev) ≡ true = gone_is ds c.args.p.dev c.row.result c.is_gone.result c.row.ensures c.is_gone.ensures c.if-not-is_gone.false in
    IfErr-weaker c.parts_of.result (LacksEntry c.map.result.now.entries c.args.p.dev c.args.p.at) (PassesGap ds c.args.p)
    (λ e lacks. gap_here ds c.args.p e c.requires gone (subst (λ (es : List Entry). LacksEntry es c.args.p.dev c.args.p.at e) c.map.ensures lacks))
    c.parts_of.ensures.err

pub returns-clause-front : goal.returns-clause-front
returns-clause-front g c =
    let ds = g.M.Maps.devices c.args.devs.now in
    let gone : is_gone (state_at ds c.args.p.dev) ≡ true = gone_is ds c.args.p.dev c.row.result c.is_gone.result c.row.ensures c.is_gone.ensures c.if-not-is_gone.false in
    search (rules, begins_hop, on_any_err)
