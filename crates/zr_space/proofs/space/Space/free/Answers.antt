use Rattle.std.proofs.Common.{◌≡◌, ◌∙◌, [], List, sym, ap, subst, true}
use Rattle.zr_rules.specs.Space.{Space}
use Rattle.zr_rules.specs.Frees.{Frees, keeps}
use Rattle.zr_rules.specs.Equation.{devices_in}
use Rattle.zr_chain.specs.declared.visit.Visited.{Visited}
use Rattle.zr_chain.specs.Visits.{Visits}
use Rattle.zr_space.specs.FreeVisits.{CanFree}
use Rattle.zr_space.specs.Live.{IsFreeable}
use Rattle.zr_space.specs.Views.{Kept, space_of, IsSpace}
use Rattle.zr_space.proofs.Discards.{on_err}
use Rattle.zr_space.proofs.FreeWhole.{frees_told, quiet_kept}
use Rattle.zr_space.proofs.Sames.{same_all, same_space_of}
use Rattle.zr_space.proofs.space.Space.free.Goals as goal

pub invariant_of-self-in_err-make_room : goal.invariant_of-self-in_err-make_room
invariant_of-self-in_err-make_room c = same_all c.self.inside.whole c.self.inside.slabs c.self.inside.devs.items c.make_room.new.devs.items c.make_room.ensures.same c.self.invariant

pub returns-in_err-make_room-clause-err : goal.returns-in_err-make_room-clause-err
returns-in_err-make_room-clause-err c =
    on_err c.from_residual-in_err-make_room.result _ (same_space_of c.self.inside.whole c.self.inside.devs.items c.make_room.new.devs.items c.make_room.ensures.same ∙ c.self.view_is)

pub free_visits-requires-clause-space : goal.free_visits-requires-clause-space
free_visits-requires-clause-space c = same_all c.self.inside.whole c.self.inside.slabs c.self.inside.devs.items c.make_room.new.devs.items c.make_room.ensures.same c.self.invariant

pub free_visits-requires-clause-can : goal.free_visits-requires-clause-can
free_visits-requires-clause-can c =
    let view : space_of c.self.inside.whole c.make_room.new.devs.items ≡ c.args.self.now = same_space_of c.self.inside.whole c.self.inside.devs.items c.make_room.new.devs.items c.make_room.ensures.same ∙ c.self.view_is in
    subst (λ (s : Space). CanFree s c.as_slice-visits.result.now) (sym view) (subst (λ (vs : List Visited). CanFree c.args.self.now vs) (sym c.as_slice-visits.ensures.value) c.in_ok-told.ensures.can)

pub free_visits-requires-clause-stays : goal.free_visits-requires-clause-stays
free_visits-requires-clause-stays c = λ kept d.
    let space : IsSpace c.self.inside.whole c.self.inside.slabs c.make_room.new.devs.items = same_all c.self.inside.whole c.self.inside.slabs c.self.inside.devs.items c.make_room.new.devs.items c.make_room.ensures.same c.self.invariant in
    let keeps_it : keeps c.self.inside.whole.ckpt c.args.birth ≡ true = ap (λ (s : Space). keeps s.parts.ckpt c.args.birth) c.self.view_is ∙ (sym c.keeps-kept.ensures ∙ kept) in
    quiet_kept c.self.inside.whole c.self.inside.slabs c.make_room.new.devs.items c.args.birth space keeps_it d

pub returns-clause-ok : goal.returns-clause-ok
returns-clause-ok c =
    let whole = c.self.inside.whole in
    let devs : List Kept = c.make_room.new.devs.items in
    let space : IsSpace whole c.self.inside.slabs devs = same_all whole c.self.inside.slabs c.self.inside.devs.items devs c.make_room.ensures.same c.self.invariant in
    let view : space_of whole devs ≡ c.args.self.now = same_space_of whole c.self.inside.devs.items devs c.make_room.ensures.same ∙ c.self.view_is in
    let free : IsFreeable (space_of whole devs) c.args.a = subst (λ (s : Space). IsFreeable s c.args.a) (sym view) c.requires.freeable in
    let told : Visits (devices_in (space_of whole devs)) c.args.a [] c.in_ok-told.told.list.items = subst (λ (s : Space). Visits (devices_in s) c.args.a [] c.in_ok-told.told.list.items) (sym view) c.in_ok-told.ensures.visits in
    let kept : c.keeps-kept.result ≡ keeps whole.ckpt c.args.birth = c.keeps-kept.ensures ∙ ap (λ (s : Space). keeps s.parts.ckpt c.args.birth) (sym view) in
    subst (λ (s : Space). Frees s (space_of whole c.free_visits.new.devs.items) c.args.a c.args.birth) view
    (frees_told whole c.self.inside.slabs devs c.args.a c.in_ok-told.told.list.items c.as_slice-visits.result.now c.keeps-kept.result c.args.birth (space_of whole c.free_visits.new.devs.items) space free told c.as_slice-visits.ensures.value kept c.free_visits.ensures.frees)
