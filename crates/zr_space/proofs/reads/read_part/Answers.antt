use Rattle.std.proofs.Common.{◌≡◌, ◌∙◌, List, [], refl, sym, ap, subst}
use Rattle.zr_base.specs.declared.space.Extent.{Extent}
use Rattle.zr_base.specs.Extents.{has_unit}
use Rattle.zr_rules.specs.Places.{one_if}
use Rattle.zr_units.specs.Changes.{saved_uses}
use Rattle.zr_units.specs.Uses.{Uses}
use Rattle.zr_space.specs.Reads.{AreSetsOf, CanReadMeta, IsRead, ReadsMeta}
use Rattle.zr_space.proofs.Opening.{with_meta, as_saved, same_sets}
use Rattle.zr_space.proofs.Refusing.{saved_refused, meta_refused}
use Rattle.zr_space.proofs.reads.read_part.Goals as goal

pub returns-clause-sets : goal.returns-clause-sets
returns-clause-sets c =
    let p = c.args.part.now in
    let x0 : Uses = c.in-Some.units in
    let x1 : Uses = c.read_meta.new.units in
    let sets : AreSetsOf p x0 = rw c.in-Some.is at c.in_ok-units.ensures.sets in
    let none : x0.meta ≡ [] = rw c.in-Some.is at c.in_ok-units.ensures.meta in
    let bare : x0.saved ≡ [] = rw c.in-Some.is at c.in_ok-units.ensures.saved in
    let read : IsRead p.row x0 c.read_device.new.used.extents = rw c.in-Some.is at c.in_ok-units.ensures.some in
    let saved : ReadsMeta c.args.saved.now c.args.dev x0 x1 c.read_device.new.used.extents c.read_meta.new.used.extents = c.in_ok-read_meta.ensures.yes c.if-not-branch.false in
    let one : IsRead p.row x1 c.read_meta.new.used.extents = with_meta p.row x0 x1 c.args.saved.now c.args.dev c.read_device.new.used.extents c.read_meta.new.used.extents read none saved in
    let still : x1.saved ≡ [] = ap (λ (x : Uses). x.saved) saved.others ∙ bare in
    let x2 : Uses = record (saved_uses x1) { spare = c.save.new.self.spare } in
    let two : IsRead p.row x2 c.read_meta.new.used.extents = as_saved p.row x1 c.read_meta.new.used.extents c.save.new.self.spare one still in
    let uses : c.save.new.self ≡ x2 = c.save.ensures in
    let sets2 : AreSetsOf p x2 = let s = same_sets p x0 x1 c.args.saved.now c.args.dev c.read_device.new.used.extents c.read_meta.new.used.extents saved sets in record { held = s.held; kept = s.kept; late1 = s.late1; late2 = s.late2 } in
    let x3 : Uses = c.read_meta-2.new.units in
    let meta : ReadsMeta c.args.meta.now c.args.dev x2 x3 c.read_meta.new.used.extents c.read_meta-2.new.used.extents =
    subst (λ (x : Uses). ReadsMeta c.args.meta.now c.args.dev x x3 c.read_meta.new.used.extents c.read_meta-2.new.used.extents) uses (c.in_ok-read_meta-2.ensures.yes c.if-not-branch-2.false) in
    same_sets p x2 x3 c.args.meta.now c.args.dev c.read_meta.new.used.extents c.read_meta-2.new.used.extents meta sets2

pub returns-clause-read : goal.returns-clause-read
returns-clause-read c =
    let p = c.args.part.now in
    let x0 : Uses = c.in-Some.units in
    let x1 : Uses = c.read_meta.new.units in
    let sets : AreSetsOf p x0 = rw c.in-Some.is at c.in_ok-units.ensures.sets in
    let none : x0.meta ≡ [] = rw c.in-Some.is at c.in_ok-units.ensures.meta in
    let bare : x0.saved ≡ [] = rw c.in-Some.is at c.in_ok-units.ensures.saved in
    let read : IsRead p.row x0 c.read_device.new.used.extents = rw c.in-Some.is at c.in_ok-units.ensures.some in
    let saved : ReadsMeta c.args.saved.now c.args.dev x0 x1 c.read_device.new.used.extents c.read_meta.new.used.extents = c.in_ok-read_meta.ensures.yes c.if-not-branch.false in
    let one : IsRead p.row x1 c.read_meta.new.used.extents = with_meta p.row x0 x1 c.args.saved.now c.args.dev c.read_device.new.used.extents c.read_meta.new.used.extents read none saved in
    let still : x1.saved ≡ [] = ap (λ (x : Uses). x.saved) saved.others ∙ bare in
    let x2 : Uses = record (saved_uses x1) { spare = c.save.new.self.spare } in
    let two : IsRead p.row x2 c.read_meta.new.used.extents = as_saved p.row x1 c.read_meta.new.used.extents c.save.new.self.spare one still in
    let uses : c.save.new.self ≡ x2 = c.save.ensures in
    let sets2 : AreSetsOf p x2 = let s = same_sets p x0 x1 c.args.saved.now c.args.dev c.read_device.new.used.extents c.read_meta.new.used.extents saved sets in record { held = s.held; kept = s.kept; late1 = s.late1; late2 = s.late2 } in
    let x3 : Uses = c.read_meta-2.new.units in
    let meta : ReadsMeta c.args.meta.now c.args.dev x2 x3 c.read_meta.new.used.extents c.read_meta-2.new.used.extents =
    subst (λ (x : Uses). ReadsMeta c.args.meta.now c.args.dev x x3 c.read_meta.new.used.extents c.read_meta-2.new.used.extents) uses (c.in_ok-read_meta-2.ensures.yes c.if-not-branch-2.false) in
    with_meta p.row x2 x3 c.args.meta.now c.args.dev c.read_meta.new.used.extents c.read_meta-2.new.used.extents two refl meta

pub returns-clause-meta : goal.returns-clause-meta
returns-clause-meta c =
    let p = c.args.part.now in
    let x0 : Uses = c.in-Some.units in
    let x1 : Uses = c.read_meta.new.units in
    let sets : AreSetsOf p x0 = rw c.in-Some.is at c.in_ok-units.ensures.sets in
    let none : x0.meta ≡ [] = rw c.in-Some.is at c.in_ok-units.ensures.meta in
    let bare : x0.saved ≡ [] = rw c.in-Some.is at c.in_ok-units.ensures.saved in
    let read : IsRead p.row x0 c.read_device.new.used.extents = rw c.in-Some.is at c.in_ok-units.ensures.some in
    let saved : ReadsMeta c.args.saved.now c.args.dev x0 x1 c.read_device.new.used.extents c.read_meta.new.used.extents = c.in_ok-read_meta.ensures.yes c.if-not-branch.false in
    let one : IsRead p.row x1 c.read_meta.new.used.extents = with_meta p.row x0 x1 c.args.saved.now c.args.dev c.read_device.new.used.extents c.read_meta.new.used.extents read none saved in
    let still : x1.saved ≡ [] = ap (λ (x : Uses). x.saved) saved.others ∙ bare in
    let x2 : Uses = record (saved_uses x1) { spare = c.save.new.self.spare } in
    let two : IsRead p.row x2 c.read_meta.new.used.extents = as_saved p.row x1 c.read_meta.new.used.extents c.save.new.self.spare one still in
    let uses : c.save.new.self ≡ x2 = c.save.ensures in
    let sets2 : AreSetsOf p x2 = let s = same_sets p x0 x1 c.args.saved.now c.args.dev c.read_device.new.used.extents c.read_meta.new.used.extents saved sets in record { held = s.held; kept = s.kept; late1 = s.late1; late2 = s.late2 } in
    let x3 : Uses = c.read_meta-2.new.units in
    let meta : ReadsMeta c.args.meta.now c.args.dev x2 x3 c.read_meta.new.used.extents c.read_meta-2.new.used.extents =
    subst (λ (x : Uses). ReadsMeta c.args.meta.now c.args.dev x x3 c.read_meta.new.used.extents c.read_meta-2.new.used.extents) uses (c.in_ok-read_meta-2.ensures.yes c.if-not-branch-2.false) in
    meta.hits

pub returns-clause-saved : goal.returns-clause-saved
returns-clause-saved c =
    let p = c.args.part.now in
    let x0 : Uses = c.in-Some.units in
    let x1 : Uses = c.read_meta.new.units in
    let sets : AreSetsOf p x0 = rw c.in-Some.is at c.in_ok-units.ensures.sets in
    let none : x0.meta ≡ [] = rw c.in-Some.is at c.in_ok-units.ensures.meta in
    let bare : x0.saved ≡ [] = rw c.in-Some.is at c.in_ok-units.ensures.saved in
    let read : IsRead p.row x0 c.read_device.new.used.extents = rw c.in-Some.is at c.in_ok-units.ensures.some in
    let saved : ReadsMeta c.args.saved.now c.args.dev x0 x1 c.read_device.new.used.extents c.read_meta.new.used.extents = c.in_ok-read_meta.ensures.yes c.if-not-branch.false in
    let one : IsRead p.row x1 c.read_meta.new.used.extents = with_meta p.row x0 x1 c.args.saved.now c.args.dev c.read_device.new.used.extents c.read_meta.new.used.extents read none saved in
    let still : x1.saved ≡ [] = ap (λ (x : Uses). x.saved) saved.others ∙ bare in
    let x2 : Uses = record (saved_uses x1) { spare = c.save.new.self.spare } in
    let two : IsRead p.row x2 c.read_meta.new.used.extents = as_saved p.row x1 c.read_meta.new.used.extents c.save.new.self.spare one still in
    let uses : c.save.new.self ≡ x2 = c.save.ensures in
    let sets2 : AreSetsOf p x2 = let s = same_sets p x0 x1 c.args.saved.now c.args.dev c.read_device.new.used.extents c.read_meta.new.used.extents saved sets in record { held = s.held; kept = s.kept; late1 = s.late1; late2 = s.late2 } in
    let x3 : Uses = c.read_meta-2.new.units in
    let meta : ReadsMeta c.args.meta.now c.args.dev x2 x3 c.read_meta.new.used.extents c.read_meta-2.new.used.extents =
    subst (λ (x : Uses). ReadsMeta c.args.meta.now c.args.dev x x3 c.read_meta.new.used.extents c.read_meta-2.new.used.extents) uses (c.in_ok-read_meta-2.ensures.yes c.if-not-branch-2.false) in
    let kept : x3.saved ≡ x1.meta = ap (λ (x : Uses). x.saved) meta.others in
    λ u. saved.hits u ∙ ap (λ (es : List Extent). one_if (has_unit es u)) (sym kept)

pub returns-in_default-clause-none : goal.returns-in_default-clause-none
returns-in_default-clause-none c = λ can. (rw c.in_default.is at c.in_ok-units.ensures.none) c.args.meta.now c.args.saved.now c.args.dev can

pub returns-then-not-branch-clause-none : goal.returns-then-not-branch-clause-none
returns-then-not-branch-clause-none c = λ can.
    let p = c.args.part.now in
    let x0 : Uses = c.in-Some.units in
    let sets : AreSetsOf p x0 = rw c.in-Some.is at c.in_ok-units.ensures.sets in
    let none : x0.meta ≡ [] = rw c.in-Some.is at c.in_ok-units.ensures.meta in
    let bare : x0.saved ≡ [] = rw c.in-Some.is at c.in_ok-units.ensures.saved in
    let read : IsRead p.row x0 c.read_device.new.used.extents = rw c.in-Some.is at c.in_ok-units.ensures.some in
    saved_refused p x0 c.args.meta.now c.args.saved.now c.args.dev c.read_device.new.used.extents sets none bare read (c.in_ok-read_meta.ensures.no c.if-not-branch.true) can

pub returns-then-not-branch-2-clause-none : goal.returns-then-not-branch-2-clause-none
returns-then-not-branch-2-clause-none c = λ can.
    let p = c.args.part.now in
    let x0 : Uses = c.in-Some.units in
    let x1 : Uses = c.read_meta.new.units in
    let sets : AreSetsOf p x0 = rw c.in-Some.is at c.in_ok-units.ensures.sets in
    let none : x0.meta ≡ [] = rw c.in-Some.is at c.in_ok-units.ensures.meta in
    let bare : x0.saved ≡ [] = rw c.in-Some.is at c.in_ok-units.ensures.saved in
    let read : IsRead p.row x0 c.read_device.new.used.extents = rw c.in-Some.is at c.in_ok-units.ensures.some in
    let saved : ReadsMeta c.args.saved.now c.args.dev x0 x1 c.read_device.new.used.extents c.read_meta.new.used.extents = c.in_ok-read_meta.ensures.yes c.if-not-branch.false in
    let one : IsRead p.row x1 c.read_meta.new.used.extents = with_meta p.row x0 x1 c.args.saved.now c.args.dev c.read_device.new.used.extents c.read_meta.new.used.extents read none saved in
    let still : x1.saved ≡ [] = ap (λ (x : Uses). x.saved) saved.others ∙ bare in
    let x2 : Uses = record (saved_uses x1) { spare = c.save.new.self.spare } in
    let two : IsRead p.row x2 c.read_meta.new.used.extents = as_saved p.row x1 c.read_meta.new.used.extents c.save.new.self.spare one still in
    let uses : c.save.new.self ≡ x2 = c.save.ensures in
    let sets2 : AreSetsOf p x2 = let s = same_sets p x0 x1 c.args.saved.now c.args.dev c.read_device.new.used.extents c.read_meta.new.used.extents saved sets in record { held = s.held; kept = s.kept; late1 = s.late1; late2 = s.late2 } in
    meta_refused p x2 c.args.meta.now c.args.saved.now c.args.dev c.read_meta.new.used.extents sets2 refl saved.hits two
    (subst (λ (x : Uses). CanReadMeta c.args.meta.now c.args.dev c.read_meta.new.used.extents x.units → ⊥) uses (c.in_ok-read_meta-2.ensures.no c.if-not-branch-2.true)) can
