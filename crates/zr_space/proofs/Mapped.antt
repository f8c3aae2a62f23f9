-- The mapping of a device is read entry by entry.
use Rattle.std.proofs.Common.{◌≡◌, ℕ, ◌+◌, ◌≤◌, Bool, true, false, ◌&&◌, nat_lt, List, [], ◌∷◌, length, replicate, refl, sym, ap, subst, arith, ◌∙◌}
use Rattle.std.specs.List.{AllByRecursion, All}
use Rattle.std.proofs.lemmas.Bool.Decides.{nat_tests}
use Rattle.std.proofs.lemmas.List.{nil_from_length}
use Rattle.zr_base.specs.declared.space.DevPart.{DevPart}
use Rattle.zr_base.specs.declared.space.DevState.{DevState}
use Rattle.zr_base.specs.declared.space.DevState.TheVariants.{On, Leaving, Gone}
use Rattle.zr_base.specs.declared.space.Entry.{Entry}
use Rattle.zr_base.specs.declared.space.Extent.{Extent}
use Rattle.zr_base.specs.Extents.{has_unit, in_extent, HasNone}
use Rattle.zr_rules.specs.Mappings.{IsEntry, IsRisingFrom, has_source}
use Rattle.zr_rules.specs.Places.{is_leaving, is_gone}
use Rattle.zr_rules.specs.Space.{IsSet}
use Rattle.zr_indirect.specs.Mapped.{Mapped, HasCounts, HasEntries, IsLeaving, IsGone, in_service}
use Rattle.zr_indirect.specs.Changes.{GoesOn}
use Rattle.zr_space.specs.Reads.{AreCopied, AreEntries, IsReadMapping}
use Rattle.zr_space.specs.Views.{EndsWithin}
use Rattle.zr_space.proofs.Finishing.{none_list}
use Rattle.zr_space.proofs.More.{service_moved}

false_true : false ≡ true → ⊥
false_true e = cc

-- the entries rise from `low` on, and their sources lie within so many units
abbrev pub RiseWithin : ℕ → ℕ → List Entry → Type 0
RiseWithin units low [] = Unit {0}
RiseWithin units low (e ∷ es) = (low ≤ e.src) × IsEntry e × (e.src + e.len ≤ units) × RiseWithin units (e.src + e.len) es

pub rise_from : (units low : ℕ) (es : List Entry) → RiseWithin units low es → IsRisingFrom low es
rise_from units low [] r = tt
rise_from units low (e ∷ es) r = (r.0, r.1, rise_from units (e.src + e.len) es r.3)

pub rise_ends : (units low : ℕ) (es : List Entry) → RiseWithin units low es → AllByRecursion (EndsWithin units) es
rise_ends units low [] r = tt
rise_ends units low (e ∷ es) r = (r.2, rise_ends units (e.src + e.len) es r.3)

pub rises : (units low : ℕ) (es : List Entry) → IsRisingFrom low es → AllByRecursion (EndsWithin units) es → RiseWithin units low es
rises units low [] r all = tt
rises units low (e ∷ es) r all = (r.0, r.1, all.0, rises units (e.src + e.len) es r.2 all.1)

-- ---- what is held is copied

-- an extent more is copied, whose part below the frontier has entries and no mark
pub copied_more : (entries : List Entry) (marks : List Extent) (first : Extent) (tail : List Extent) (below : Extent) (frontier : ℕ) → ((u : ℕ) → in_extent below u ≡ (in_extent first u && nat_lt u frontier)) → HasEntries entries below → HasNone marks below
    → AreCopied entries marks tail frontier → AreCopied entries marks (first ∷ tail) frontier
copied_more entries marks first tail below frontier units has none rest u is lt =
    by (in_extent first u) refl
  where
    by : (b : Bool) → in_extent first u ≡ b → (has_source entries u ≡ true) × (has_unit marks u ≡ false)
    by true it = let at : in_extent below u ≡ true = let s = units u in grind (arith, nat_tests, s, it, lt) in (has u at, none u at)
    by false it = rest u (grind (arith, it, is)) lt

pub copied_less : (entries : List Entry) (marks : List Extent) (first : Extent) (tail : List Extent) (frontier : ℕ) → AreCopied entries marks (first ∷ tail) frontier → AreCopied entries marks tail frontier
copied_less entries marks first tail frontier all u is lt = all u (grind (arith, is)) lt

-- ---- what was read of each state

empty : (n : ℕ) (es : List Extent) → es ≡ [] → IsSet n es
empty n es is = rw is (record { maximal = tt; within = tt })

on_leaving : (r : DevState) → r ≡ On → r ≡ Leaving → ⊥
on_leaving r is other = false_true (ap is_leaving (sym is ∙ other))

gone_leaving : (r : DevState) → r ≡ Gone → r ≡ Leaving → ⊥
gone_leaving r is other = false_true (ap is_leaving (sym is ∙ other))

pub service_read : (p : DevPart) (m : Mapped) → p.row.state ≡ On → p.entries ≡ [] → HasCounts p.entries p.counts p.fresh → IsSet p.row.units p.fresh → m ≡ in_service → IsReadMapping p m
service_read p m on none h set is = subst (IsReadMapping p) (sym is) (record {
  moved = service_moved p.row on;
  entries = sym none;
  counts = sym (nil_from_length p.counts (h.each ∙ ap (λ (es : List Entry). length es) none));
  fresh = sym (none_list p.fresh set.maximal unmarked);
  came = refl;
  went = refl;
  opened = λ out. absurd (on_leaving p.row.state on out);
  synced = λ out. absurd (on_leaving p.row.state on out);
  left = λ out. absurd (on_leaving p.row.state on out);
})
  where
    unmarked : (u : ℕ) → has_unit p.fresh u ≡ false
    unmarked u = by (has_unit p.fresh u) refl
      where
        by : (b : Bool) → has_unit p.fresh u ≡ b → has_unit p.fresh u ≡ false
        by true it = absurd (false_true (sym (ap (λ (es : List Entry). has_source es u) none) ∙ h.sources u it))
        by false it = it

pub leaving_read : (p : DevPart) (m : Mapped) → p.row.state ≡ Leaving → AreEntries p.row.units p.entries → IsSet p.row.units p.fresh → p.counts ≡ replicate (length p.entries) 0 → GoesOn p.entries p.fresh p.held m → IsLeaving m → IsReadMapping p m
leaving_read p m out entries set counts on leaves = record {
  moved = record {
    state = ap (λ (x : Mapped). x.state) on.all ∙ sym out;
    service = λ is. absurd (on_leaving p.row.state is out);
    leaving = λ is. leaves;
    gone = λ is. absurd (gone_leaving p.row.state is out);
    fresh = subst (IsSet p.row.units) (sym (ap (λ (x : Mapped). x.fresh) on.all)) set;
    came = empty p.row.units m.came (ap (λ (x : Mapped). x.came) on.all);
    went = empty p.row.units m.went (ap (λ (x : Mapped). x.went) on.all);
    sources = subst (All (EndsWithin p.row.units)) (sym (ap (λ (x : Mapped). x.entries) on.all)) entries.within;
  };
  entries = ap (λ (x : Mapped). x.entries) on.all;
  counts = ap (λ (x : Mapped). x.counts) on.all ∙ sym counts;
  fresh = ap (λ (x : Mapped). x.fresh) on.all;
  came = ap (λ (x : Mapped). x.came) on.all;
  went = ap (λ (x : Mapped). x.went) on.all;
  opened = λ is. ap (λ (x : Mapped). x.opened) on.all;
  synced = λ is. ap (λ (x : Mapped). x.synced) on.all;
  left = λ is u. on.left_is u;
}

pub gone_read : (p : DevPart) (m : Mapped) (spare : ℕ) → p.row.state ≡ Gone → AreEntries p.row.units p.entries → IsSet p.row.units p.fresh
    → m ≡ record in_service { state = Gone; entries = p.entries; counts = p.counts; fresh = p.fresh; spare = spare } → IsGone m → IsReadMapping p m
gone_read p m spare away entries set is gone = record {
  moved = record {
    state = ap (λ (x : Mapped). x.state) is ∙ sym away;
    service = λ on. absurd (false_true (ap is_gone (sym on ∙ away)));
    leaving = λ out. absurd (gone_leaving p.row.state away out);
    gone = λ it. gone;
    fresh = subst (IsSet p.row.units) (sym (ap (λ (x : Mapped). x.fresh) is)) set;
    came = empty p.row.units m.came (ap (λ (x : Mapped). x.came) is);
    went = empty p.row.units m.went (ap (λ (x : Mapped). x.went) is);
    sources = subst (All (EndsWithin p.row.units)) (sym (ap (λ (x : Mapped). x.entries) is)) entries.within;
  };
  entries = ap (λ (x : Mapped). x.entries) is;
  counts = ap (λ (x : Mapped). x.counts) is;
  fresh = ap (λ (x : Mapped). x.fresh) is;
  came = ap (λ (x : Mapped). x.came) is;
  went = ap (λ (x : Mapped). x.went) is;
  opened = λ out. absurd (gone_leaving p.row.state away out);
  synced = λ out. absurd (gone_leaving p.row.state away out);
  left = λ out. absurd (gone_leaving p.row.state away out);
}
