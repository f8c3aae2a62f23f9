-- What the logs of the sets gain.
use Rattle.std.proofs.Common.{◌≡◌, ℕ, Bool, List, sym, ap, arith, subst, Result, Ok, Err}
use Rattle.std.specs.Prelude.{IfOk}
use Rattle.std.proofs.lemmas.Bool.Decides.{nat_tests}
use Rattle.zr_base.specs.declared.space.Change.{Change}
use Rattle.zr_base.specs.declared.space.DevPart.{DevPart}
use Rattle.zr_base.specs.Extents.{has_unit}
use Rattle.zr_rules.specs.Places.{is_held, is_kept, is_fresh}
use Rattle.zr_rules.specs.Space.{OpenSets, opened_of, is_born, was_held, was_kept, was_fresh}
use Rattle.zr_metaslab.specs.Devices.{Devices}
use Rattle.zr_units.specs.Apart.{AreSetsApart}
use Rattle.zr_units.specs.Uses.{Uses, IsAccount}
use Rattle.zr_units.specs.Differences.{IsMerged, IsDifference, Replays}
use Rattle.zr_units.proofs.Differences.{replays, merged_difference}
use Rattle.std.proofs.Math.Path.{fun_ext}
use Rattle.zr_indirect.specs.Changes as marks
use Rattle.zr_space.proofs.Rooted.{was_fresh_is}
use Rattle.zr_space.specs.Records.{GainsHeld, GainsKept, GainsFresh}
use Rattle.zr_space.specs.Views.{Kept, kept_of, space_of, IsSpace}
use Rattle.zr_space.proofs.Views.{part_is, opened_is}
use Rattle.zr_space.specs.declared.whole.Whole.{Whole}

pub born_apart : (f : ℕ → Bool) (n : ℕ) (x : Uses) → IsAccount f n x → AreSetsApart x.born x.freed.blocks
born_apart f n x a u is = let o = a.once u in let b = a.born u is in grind (arith, nat_tests, o, b)

pub gains_held : (whole : Whole) (slabs : Devices) (devs : List Kept) (d : ℕ) (k : Kept) (cs : List Change) → IsSpace whole slabs devs → k ≡ kept_of devs d → IsMerged k.uses.born k.uses.freed.blocks cs → GainsHeld (space_of whole devs) d cs
gains_held whole slabs devs d k cs s is m =
    let sp = space_of whole devs in
    let x = (kept_of devs d).uses in
    let acc = s.account d in
    let opened = opened_is whole devs d in
    let m1 : IsMerged x.born x.freed.blocks cs = subst (λ (z : Kept). IsMerged z.uses.born z.uses.freed.blocks cs) is m in
    let held : (u : ℕ) → is_held sp.parts.devs d u ≡ has_unit x.held u = λ u. ap (λ (p : DevPart). has_unit p.held u) (part_is devs d) in
    let born : (u : ℕ) → is_born sp d u ≡ has_unit x.born u = λ u. ap (λ (o : OpenSets). has_unit o.born u) opened in
    let deferred : (u : ℕ) → has_unit (opened_of sp d).deferred u ≡ has_unit x.freed.blocks u = λ u. ap (λ (o : OpenSets). has_unit o.deferred u) opened in
    let diff : IsDifference (was_held sp d) (is_held sp.parts.devs d) cs = merged_difference (was_held sp d) (is_held sp.parts.devs d) x.born x.freed.blocks cs acc.lists.born acc.lists.freed.blocks m1
    (λ u. let h = held u in let b = born u in let e = deferred u in let o = acc.once u in let i = acc.born u in grind (arith, nat_tests, h, b, e, o, i))
    (λ u. let h = held u in let b = born u in let e = deferred u in let o = acc.once u in let i = acc.born u in grind (arith, nat_tests, h, b, e, o, i)) in
    record {
      merged = subst (λ (o : OpenSets). IsMerged o.born o.deferred cs) (sym opened) m1;
      difference = diff;
      replays = replays (was_held sp d) (is_held sp.parts.devs d) cs diff;
    }

-- the same of a result
pub ok_as : {T E : Type 0} (r : Result T E) (P Q : T → Type 0) → ((x : T) → P x → Q x) → IfOk r P → IfOk r Q
ok_as (Ok x) P Q f h = f x h
ok_as (Err e) P Q f h = tt

pub came_apart : (f : ℕ → Bool) (n : ℕ) (x : Uses) → IsAccount f n x → AreSetsApart x.came x.went
came_apart f n x a u is = let o = a.once u in let c = a.keeping.came u in let h = a.keeping.held u in let w = a.keeping.went u in grind (arith, nat_tests, o, c, h, w, is)

pub gains_kept : (whole : Whole) (slabs : Devices) (devs : List Kept) (d : ℕ) (k : Kept) (cs : List Change) → IsSpace whole slabs devs → k ≡ kept_of devs d → IsMerged k.uses.came k.uses.went cs → GainsKept (space_of whole devs) d cs
gains_kept whole slabs devs d k cs s is m =
    let sp = space_of whole devs in
    let x = (kept_of devs d).uses in
    let acc = s.account d in
    let opened = opened_is whole devs d in
    let m1 : IsMerged x.came x.went cs = subst (λ (z : Kept). IsMerged z.uses.came z.uses.went cs) is m in
    let kept : (u : ℕ) → is_kept sp.parts.devs d u ≡ has_unit x.kept u = λ u. ap (λ (p : DevPart). has_unit p.kept u) (part_is devs d) in
    let came : (u : ℕ) → has_unit (opened_of sp d).kept.came u ≡ has_unit x.came u = λ u. ap (λ (o : OpenSets). has_unit o.kept.came u) opened in
    let went : (u : ℕ) → has_unit (opened_of sp d).kept.went u ≡ has_unit x.went u = λ u. ap (λ (o : OpenSets). has_unit o.kept.went u) opened in
    let diff : IsDifference (was_kept sp d) (is_kept sp.parts.devs d) cs = merged_difference (was_kept sp d) (is_kept sp.parts.devs d) x.came x.went cs acc.lists.came acc.lists.went m1
    (λ u. let h = kept u in let b = came u in let e = went u in let o = acc.once u in let i = acc.keeping.came u in let j = acc.keeping.held u in let l = acc.keeping.went u in grind (arith, nat_tests, h, b, e, o, i, j, l))
    (λ u. let h = kept u in let b = came u in let e = went u in let o = acc.once u in let i = acc.keeping.came u in let j = acc.keeping.held u in let l = acc.keeping.went u in grind (arith, nat_tests, h, b, e, o, i, j, l)) in
    record {
      merged = subst (λ (o : OpenSets). IsMerged o.kept.came o.kept.went cs) (sym opened) m1;
      difference = diff;
      replays = replays (was_kept sp d) (is_kept sp.parts.devs d) cs diff;
    }

pub gains_fresh : (whole : Whole) (devs : List Kept) (d : ℕ) (k : Kept) (cs : List Change) → k ≡ kept_of devs d → marks.GainsFresh k.moves cs → GainsFresh (space_of whole devs) d cs
gains_fresh whole devs d k cs is g =
    let sp = space_of whole devs in
    let m = (kept_of devs d).moves in
    let here : marks.GainsFresh m cs = subst (λ (z : Kept). marks.GainsFresh z.moves cs) is g in
    let before : was_fresh sp d ≡ marks.was_fresh_in m = fun_ext (was_fresh_is whole devs d) in
    let after : is_fresh sp.parts.devs d ≡ has_unit m.fresh = fun_ext (λ u. ap (λ (p : DevPart). has_unit p.fresh u) (part_is devs d)) in
    record {
      merged = subst (λ (o : OpenSets). IsMerged o.fresh.came o.fresh.went cs) (sym (opened_is whole devs d)) here.merged;
      difference = subst (λ (f : ℕ → Bool). IsDifference f (is_fresh sp.parts.devs d) cs) (sym before) (subst (λ (f : ℕ → Bool). IsDifference (marks.was_fresh_in m) f cs) (sym after) here.difference);
      replays = subst (λ (f : ℕ → Bool). Replays f (is_fresh sp.parts.devs d) cs) (sym before) (subst (λ (f : ℕ → Bool). Replays (marks.was_fresh_in m) f cs) (sym after) here.replays);
    }
