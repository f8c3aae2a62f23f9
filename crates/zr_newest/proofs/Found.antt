-- What it says that a root is found, and that it is so whatever is seen of the slots.
use Rattle.std.proofs.Common.{◌≡◌, ◌≢◌, ◌⊎◌, inl, inr, ℕ, zero, suc, ◌+◌, ◌<◌, ◌≤◌, Bool, true, false, cond, not, List, length, Option, Some, None, Ok, refl, sym, ◌∙◌, ap, subst, arith, ⊎_elim}
use Rattle.std.specs.Prelude.{◌&&◌, is_some}
use Rattle.std.specs.List.{find, range_with_len}
use Rattle.std.proofs.lemmas.Bool.{cases_lt, cases_eq}
use Rattle.std.proofs.Math.Path.{fun_ext}
use Rattle.zr_image.specs.Current.{AreTwoCopies, AreTwoPools, AreTwoRoots, FindsCurrent, IsCurrent, IsPair, IsShown, IsShownAt, IsUnknown, ShowsAll, is_missing, missing_device, row_at, seen_at, slot_of_device}
use Rattle.zr_label.specs.declared.root.Label.{Label}
use Rattle.zr_label.specs.declared.root.Newer.{Newer}
use Rattle.zr_label.specs.declared.root.Seen.{Seen}
use Rattle.zr_label.specs.declared.root.Uber.{Uber}
use Rattle.zr_rules.specs.Places.{is_gone}
use Rattle.zr_scan.proofs.Fresh.{newer_same, same_label}
use Rattle.zr_shelf.specs.Disks.{disk}
use Rattle.zr_newest.proofs.Seen.{device_same, long_seen, one_label_at, past_seen, root_of_shown, seen_labels, shown_of_root, shows_at}

-- what it says that a root is found
pub record Found (seen : List Seen) (u : Uber) : Type 0 where
  pub known : (p : ℕ × Newer) → IsUnknown seen p.0 p.1 → ⊥
  pub current : IsCurrent seen u
  pub pools : (p : ℕ × ℕ) → IsPair (AreTwoPools seen) p → ⊥
  pub roots : (p : ℕ × ℕ) → IsPair (AreTwoRoots seen) p → ⊥
  pub twice : (slot : ℕ) → AreTwoRoots seen slot slot → ⊥
  pub copies : (p : ℕ × ℕ) → IsPair (AreTwoCopies u seen) p → ⊥
  pub there : (index : ℕ) → missing_device u seen ≡ Some index → ⊥

pub found : (seen : List Seen) (u : Uber) → FindsCurrent seen (Ok u) → Found seen u
found seen u (inl (k, known, inl (v, current, inl (one, inl (a, pools, inl (b, roots, inl (c, twice, copies))), inl (e, there, gives))))) =
    let same : v ≡ u = cc in
    subst (λ (w : Uber). Found seen w) same (record { known = known; current = current; pools = pools; roots = roots; twice = twice; copies = copies; there = there })
found seen u (inl (k, known, inl (v, current, inl (one, inl (a, pools, inl (b, roots, inr (r, told, is))), rest)))) = absurd cc
found seen u (inl (k, known, inl (v, current, inl (one, inl (a, pools, inr (r, told, is)), rest)))) = absurd cc
found seen u (inl (k, known, inl (v, current, inl (one, inr (r, told, is), rest)))) = absurd cc
found seen u (inl (k, known, inl (v, current, inl (one, inl (a, pools, inl (b, roots, inl (c, twice, copies))), inr (r, told, is))))) = absurd cc
found seen u (inl (k, known, inl (v, current, inr (r, told, is)))) = absurd cc
found seen u (inl (k, known, inr (r, told, is))) = absurd cc
found seen u (inr (r, told, is)) = absurd cc

pub finds : (seen : List Seen) (u : Uber) → Found seen u → FindsCurrent seen (Ok u)
finds seen u f = inl (tt, f.known, inl (u, f.current, inl (tt, inl (tt, f.pools, inl (tt, f.roots, inl (tt, f.twice, f.copies))), inl (tt, f.there, refl))))

-- ---- one pool

differ_not : (m n : ℕ) → (m ≢ n → ⊥) → m ≡ n
differ_not m n not_other = elim (cases_eq m n) [
  | inl same ↦ same
  | inr other ↦ absurd (not_other other)
]

module _ (disks : List (List ℕ)) (seen : List Seen) (shown : ShowsAll disks seen) (u : Uber) (f : Found seen u) where
  -- the pool of what a slot shows is that of its label
  own_guid : (slot : ℕ) (v w : Uber) → IsShownAt seen slot v → IsShownAt seen slot w → v.guid ≡ w.guid
  own_guid slot v w at also =
      let one = root_of_shown disks seen shown slot v at in
      let other = root_of_shown disks seen shown slot w also in
      let same = same_label (length (disk disks slot)) (disk disks slot) (Some one.label) (Some other.label) one.first other.first in
      let label : one.label ≡ other.label = cc in
      one.suits.pool ∙ (ap (λ (l : Label). l.guid) label ∙ sym other.suits.pool)

  pub one_pool : (v : Uber) → IsShown seen v → v.guid ≡ u.guid
  one_pool v (a, at) =
      let there = f.current.shown in
      let c = there.0 in
      differ_not v.guid u.guid (λ differ.
      ⊎_elim
      (λ (lt : a < c). f.pools (a, c) (record { order = lt; here = record { one = v; other = u; in_one = at; in_other = there.1; differ = differ } }))
      (λ (ge : c ≤ a).
      ⊎_elim
      (λ (lt : c < a). f.pools (c, a) (record { order = lt; here = record { one = u; other = v; in_one = there.1; in_other = at; differ = λ e. differ (sym e) } }))
      (λ (le : a ≤ c).
      let same : c ≡ a = omega (arith, ge, le) in
      differ (own_guid a v u at (subst (λ (k : ℕ). IsShownAt seen k u) same there.1)))
      (cases_lt c a))
      (cases_lt a c))

-- ---- what is seen twice

module _ (disks : List (List ℕ)) (a b : List Seen) (shown : ShowsAll disks a) (also : ShowsAll disks b) where
  count : length a ≡ length b
  count = long_seen disks a shown ∙ sym (long_seen disks b also)

  labels : (slot : ℕ) → (seen_at a slot).label ≡ (seen_at b slot).label
  labels = one_label_at disks a b (seen_labels disks a shown) (seen_labels disks b also)

  newer : (slot : ℕ) → (seen_at a slot).newer ≡ (seen_at b slot).newer
  newer slot =
      ⊎_elim
      (λ (lt : slot < length a).
      let n = count in
      newer_same (length (disk disks slot)) (disk disks slot) (seen_at a slot) (seen_at b slot) (shows_at disks a shown slot lt) (shows_at disks b also slot (omega (arith, n, lt))))
      (λ (le : length a ≤ slot).
      let n = count in
      ap (λ (x : Seen). x.newer) (past_seen a slot le) ∙ sym (ap (λ (x : Seen). x.newer) (past_seen b slot (omega (arith, n, le)))))
      (cases_lt slot (length a))

  shown_at : (slot : ℕ) (v : Uber) → IsShownAt a slot v → IsShownAt b slot v
  shown_at slot v at = shown_of_root disks b also slot v (root_of_shown disks a shown slot v at)

  shown_too : (v : Uber) → IsShown a v → IsShown b v
  shown_too v (slot, at) = (slot, shown_at slot v at)

  missing_same : (u : Uber) → missing_device u b ≡ missing_device u a
  missing_same u =
      ap (λ (f : ℕ → Option ℕ). find (λ index. not (is_gone (row_at u index).state) && not (is_some (f index))) (range_with_len 0 u.count)) (fun_ext (λ index. sym (device_same a b count labels u index)))

-- what is found by one is found by the other
module _ (disks : List (List ℕ)) (a b : List Seen) (shown : ShowsAll disks a) (also : ShowsAll disks b) (u : Uber) (f : Found a u) where
  current_back : (v : Uber) → IsCurrent b v → IsCurrent a v
  current_back v h = record { shown = shown_too disks b a also shown v h.shown; highest = λ w is. h.highest w (shown_too disks a b shown also w is) }

  roots_back : (m n : ℕ) → AreTwoRoots b m n → AreTwoRoots a m n
  roots_back m n h = record {
    one = h.one;
    other = h.other;
    in_one = shown_at disks b a also shown m h.one h.in_one;
    in_other = shown_at disks b a also shown n h.other h.in_other;
    one_highest = current_back h.one h.one_highest;
    other_highest = current_back h.other h.other_highest;
    differ = h.differ;
  }

  pub found_too : Found b u
  found_too = record {
    known = λ p h.
        f.known p (record {
          label = h.label;
          label_is = labels disks a b shown also p.0 ∙ h.label_is;
          newer_is = newer disks a b shown also p.0 ∙ h.newer_is;
          above = λ v is same. h.above v (shown_too disks a b shown also v is) same;
        });
    current = record { shown = shown_too disks a b shown also u f.current.shown; highest = λ v is. f.current.highest v (shown_too disks b a also shown v is) };
    pools = λ p h.
        f.pools p (record {
          order = h.order;
          here = record { one = h.here.one; other = h.here.other; in_one = shown_at disks b a also shown p.0 h.here.one h.here.in_one; in_other = shown_at disks b a also shown p.1 h.here.other h.here.in_other; differ = h.here.differ };
        });
    roots = λ p h. f.roots p (record { order = h.order; here = roots_back p.0 p.1 h.here });
    twice = λ slot h. f.twice slot (roots_back slot slot h);
    copies = λ p h.
        f.copies p (record {
          order = h.order;
          here = record {
            one = h.here.one;
            other = h.here.other;
            of_one = labels disks a b shown also p.0 ∙ h.here.of_one;
            of_other = labels disks a b shown also p.1 ∙ h.here.of_other;
            one_for = h.here.one_for;
            other_for = h.here.other_for;
            same = h.here.same;
          };
        });
    there = λ index missing. f.there index (sym (missing_same disks a b shown also u) ∙ missing);
  }

-- ---- devices that are there

none_passes : (p : ℕ → Bool) (a n : ℕ) → ((i : ℕ) → find p (range_with_len a n) ≡ Some i → ⊥) → (k : ℕ) → a ≤ k → k < a + n → p k ≡ false
none_passes p a zero none k ge lt = absurd (omega (arith, ge, lt))
none_passes p a (suc n) none k ge lt = by_first (p a) refl (λ rest le. none_passes p (a + 1) n rest k le (omega (arith, lt)))
  where
    by_first : (b : Bool) → p a ≡ b → (((i : ℕ) → find p (range_with_len (a + 1) n) ≡ Some i → ⊥) → a + 1 ≤ k → p k ≡ false) → p k ≡ false
    by_first true first later = absurd (none a (ap (λ (b : Bool). cond b (Some a) (find p (range_with_len (a + 1) n))) first))
    by_first false first later = elim (cases_eq a k) [
      | inl same ↦ subst (λ (i : ℕ). p i ≡ false) same first
      | inr other ↦ later (λ i at. none i (ap (λ (b : Bool). cond b (Some a) (find p (range_with_len (a + 1) n))) first ∙ at)) (omega (arith, ge, other))
    ]

some_place : (gone : Bool) (o : Option ℕ) → gone ≡ false → (not gone && not (is_some o)) ≡ false → (slot : ℕ) × (o ≡ Some slot)
some_place true o there missing = absurd cc
some_place false None there missing = absurd cc
some_place false (Some slot) there missing = (slot, refl)

-- each device of a root that is found has a slot
pub has_slot : (seen : List Seen) (u : Uber) → Found seen u → (d : ℕ) → d < u.count → is_gone (row_at u d).state ≡ false → (slot : ℕ) × (slot_of_device u seen d ≡ Some slot)
has_slot seen u f d some there = some_place (is_gone (row_at u d).state) (slot_of_device u seen d) there (none_passes (is_missing u seen) 0 u.count f.there d (omega arith) (omega (arith, some)))
