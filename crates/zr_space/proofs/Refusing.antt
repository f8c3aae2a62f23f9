-- What no space can have.
use Rattle.std.proofs.Common.{◌≡◌, ℕ, ◌+◌, ◌-◌, ◌≤◌, nat_lt, List, [], ◌∷◌, sym, ap, subst, arith}
use Rattle.std.proofs.lemmas.Bool.Decides.{nat_tests}
use Rattle.zr_base.specs.declared.space.Extent.{Extent}
use Rattle.zr_base.specs.declared.space.Dva.{Dva}
use Rattle.zr_base.specs.declared.space.LateRun.{LateRun}
use Rattle.zr_base.specs.declared.space.DevPart.{DevPart}
use Rattle.zr_base.specs.Extents.{has_unit, IsMaximalFrom, EndsBy}
use Rattle.zr_rules.specs.Places.{one_if, hits_late, address_hits}
use Rattle.zr_units.specs.Apart.{IsWithin}
use Rattle.zr_units.specs.Uses.{Uses, Freed, AreMaximal}
use Rattle.zr_space.specs.Views.{units_there}
use Rattle.zr_space.specs.Reads.{AreSetsOf, CanKeep, Marks, CanReadLate, MarksLate, IsListed, CanReadPart, CanReadMeta, IsRead}
use Rattle.zr_space.proofs.Sums.{once_in, late_hits_are}

pub ends_by : (low units : ℕ) (es : List Extent) → IsMaximalFrom low es → IsWithin es units → EndsBy units es
ends_by low units [] m within = tt
ends_by low units (e ∷ es) m within =
    let some = m.1 in
    let last = within (e.start + e.len - 1) (grind (arith, nat_tests, some)) in
    (omega (arith, some, last), ends_by (e.start + e.len + 1) units es m.3 (λ u is. within u (grind (arith, nat_tests, is))))

-- a late set whose units are each used once can be read
late_can : (f : Freed) (used : List Extent) (units : ℕ) → AreMaximal f → ((u : ℕ) → one_if (has_unit f.blocks u) + one_if (has_unit f.meta u) + one_if (has_unit used u) ≤ one_if (nat_lt u units)) → CanReadLate f used units
late_can f used units m once = record {
  blocks = record { maximal = m.blocks; within = ends_by 0 units f.blocks m.blocks (λ u is. let o = once u in grind (arith, nat_tests, o, is)); apart = λ u is. let o = once u in grind (arith, nat_tests, o, is) };
  meta = record { maximal = m.meta; within = ends_by 0 units f.meta m.meta (λ u is. let o = once u in grind (arith, nat_tests, o, is)); apart = λ u is. let o = once u in grind (arith, nat_tests, o, is) };
  apart = λ u is. let o = once u in grind (arith, nat_tests, o, is);
}

-- how often a late set has a unit
late_once : (runs : List LateRun) (f : Freed) (u : ℕ) → IsListed runs f → AreMaximal f → hits_late runs u ≡ one_if (has_unit f.blocks u) + one_if (has_unit f.meta u)
late_once runs f u listed m =
    let a = ap (λ (rs : List LateRun). hits_late rs u) listed in
    let b = late_hits_are f u in
    let x = once_in 0 u f.blocks m.blocks in
    let y = once_in 0 u f.meta m.meta in
    omega (arith, a, b, x, y)

pub late1_fails : (p : DevPart) (meta saved : List Dva) (dev : ℕ) (u0 u1 : List Extent) → u0 ≡ [] → Marks p.held u0 u1 → ((f : Freed) → IsListed p.late1 f → CanReadLate f u1 (units_there p.row) → ⊥) → CanReadPart p meta saved dev → ⊥
late1_fails p meta saved dev u0 u1 none marks fails can =
    let l = can.late1 in
    fails l.freed l.listed (late_can l.freed u1 (units_there p.row) l.maximal (λ u.
    let o = can.once u in
    let h = late_once p.late1 l.freed u l.listed l.maximal in
    let m = marks.members u in
    let n = ap (λ (es : List Extent). has_unit es u) none in
    grind (arith, nat_tests, o, h, m, n)))

pub late2_fails : (p : DevPart) (meta saved : List Dva) (dev : ℕ) (l1 : Freed) (u0 u1 u2 : List Extent) → u0 ≡ [] → Marks p.held u0 u1 → IsListed p.late1 l1 → CanReadLate l1 u1 (units_there p.row) → MarksLate l1 u1 u2
    → ((f : Freed) → IsListed p.late2 f → CanReadLate f u2 (units_there p.row) → ⊥) → CanReadPart p meta saved dev → ⊥
late2_fails p meta saved dev l1 u0 u1 u2 none marks listed1 can1 marks1 fails can =
    let l = can.late2 in
    let m1 : AreMaximal l1 = record { blocks = can1.blocks.maximal; meta = can1.meta.maximal } in
    fails l.freed l.listed (late_can l.freed u2 (units_there p.row) l.maximal (λ u.
    let o = can.once u in
    let h = late_once p.late2 l.freed u l.listed l.maximal in
    let g = late_once p.late1 l1 u listed1 m1 in
    let m = marks.members u in
    let k = marks1.members u in
    let n = ap (λ (es : List Extent). has_unit es u) none in
    grind (arith, nat_tests, o, h, g, m, k, n)))

-- the metadata of the saved root is read first, and that of the current one after it
module _ (p : DevPart) (x : Uses) (meta saved : List Dva) (dev : ℕ) (used : List Extent) (is : AreSetsOf p x) (none : x.meta ≡ []) (r : IsRead p.row x used) (can : CanReadPart p meta saved dev) (u : ℕ) where
  held : one_if (has_unit p.held u) ≡ one_if (has_unit x.held u)
  held = ap (λ (es : List Extent). one_if (has_unit es u)) (sym is.held)

  no_freed : one_if (has_unit x.freed.blocks u) + one_if (has_unit x.freed.meta u) ≡ 0
  no_freed = ap (λ (f : Freed). one_if (has_unit f.blocks u) + one_if (has_unit f.meta u)) r.freed

  no_meta : one_if (has_unit x.meta u) ≡ 0
  no_meta = ap (λ (es : List Extent). one_if (has_unit es u)) none

  size : one_if (nat_lt u (units_there p.row)) ≡ one_if (nat_lt u x.units)
  size = ap (λ n. one_if (nat_lt u n)) (sym r.row_units)

  -- what is used with the metadata of both roots is within the device
  pub beside : address_hits meta dev u + address_hits saved dev u + one_if (has_unit used u) ≤ one_if (nat_lt u x.units) + one_if (has_unit x.saved u)
  beside =
      let o = can.once u in
      let h0 = held in
      let h1 = late_once p.late1 x.late1 u is.late1 r.lists.late1 in
      let h2 = late_once p.late2 x.late2 u is.late2 r.lists.late2 in
      let once = r.once u in
      let f = no_freed in
      let m = no_meta in
      let s = size in
      omega (arith, o, h0, h1, h2, once, f, m, s)

pub saved_refused : (p : DevPart) (x : Uses) (meta saved : List Dva) (dev : ℕ) (used : List Extent) → AreSetsOf p x → x.meta ≡ [] → x.saved ≡ [] → IsRead p.row x used → (CanReadMeta saved dev used x.units → ⊥) → CanReadPart p meta saved dev → ⊥
saved_refused p x meta saved dev used is none bare r fails can = fails (λ u.
    let b = beside p x meta saved dev used is none r can u in
    let no_saved : one_if (has_unit x.saved u) ≡ 0 = ap (λ (es : List Extent). one_if (has_unit es u)) bare in
    omega (arith, b, no_saved))

pub meta_refused : (p : DevPart) (x : Uses) (meta saved : List Dva) (dev : ℕ) (used : List Extent) → AreSetsOf p x → x.meta ≡ [] → ((u : ℕ) → address_hits saved dev u ≡ one_if (has_unit x.saved u)) → IsRead p.row x used → (CanReadMeta meta dev used x.units → ⊥) → CanReadPart p meta saved dev → ⊥
meta_refused p x meta saved dev used is none hits r fails can = fails (λ u.
    let b = beside p x meta saved dev used is none r can u in
    let h = hits u in
    omega (arith, b, h))

pub kept_fails : (p : DevPart) (meta saved : List Dva) (dev : ℕ) (es held : List Extent) → es ≡ p.kept → held ≡ p.held → (CanKeep es held (units_there p.row) → ⊥) → CanReadPart p meta saved dev → ⊥
kept_fails p meta saved dev es held is same fails can = fails (subst (λ (xs : List Extent). CanKeep xs held (units_there p.row)) (sym is) (subst (λ (xs : List Extent). CanKeep p.kept xs (units_there p.row)) (sym same) can.kept))
