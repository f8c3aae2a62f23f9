-- The next root is the current one once some slot shows it.
use Rattle.std.proofs.Common.{◌≡◌, ◌≢◌, ◌⊎◌, inl, inr, ℕ, zero, suc, ◌+◌, ◌<◌, ◌≤◌, Bool, nat_lt, not, List, [], ◌∷◌, map, length, cond, Option, Some, None, Ok, refl, sym, ◌∙◌, ap, subst, arith, ⊎_elim}
use Rattle.std.specs.Prelude.{slice_index_or, if◌then◌else◌, is_some, ◌&&◌, Contains, MatchOption}
use Rattle.std.specs.List.{find, position, position_or_len, range_with_len}
use Rattle.std.proofs.lemmas.Bool.{cases_lt, cases_eq}
use Rattle.std.proofs.Math.Path.{fun_ext}
use Rattle.zr_base.specs.declared.space.DevRow.{DevRow}
use Rattle.zr_label.specs.Blocks.{no_row}
use Rattle.zr_label.specs.declared.root.Label.{Label}
use Rattle.zr_label.specs.declared.root.Newer.{Newer}
use Rattle.zr_label.specs.declared.root.Seen.{Seen}
use Rattle.zr_label.specs.declared.root.Uber.{Uber}
use Rattle.zr_image.specs.Current.{AreTwoCopies, AreTwoPools, AreTwoRoots, FindsCurrent, IsCurrent, IsPair, IsShown, IsShownAt, IsUnknown, ShowsAll, is_device, missing_device, row_at, seen_at, slot_of_device, slots_of}
use Rattle.zr_rules.specs.Places.{is_gone}
use Rattle.zr_scan.specs.Scan.{AreRoots, IsRootFor}
use Rattle.zr_current.specs.Next.{IsNextOf, ShowsNext}

-- ---- what is found

-- what it says that a root is found
pub record Found (seen : List Seen) (u : Uber) : Type 0 where
  pub known : (p : ℕ × Newer) → IsUnknown seen p.0 p.1 → ⊥
  pub current : IsCurrent seen u
  pub pools : (p : ℕ × ℕ) → IsPair (AreTwoPools seen) p → ⊥
  pub roots : (p : ℕ × ℕ) → IsPair (AreTwoRoots seen) p → ⊥
  pub twice : (slot : ℕ) → AreTwoRoots seen slot slot → ⊥
  pub copies : (p : ℕ × ℕ) → IsPair (AreTwoCopies u seen) p → ⊥
  pub there : (index : ℕ) → missing_device u seen ≡ Some index → ⊥

pub found : (seen : List Seen) (u : Uber) → FindsCurrent seen (Ok u) → Found seen u
found seen u (inl (k, known, inl (v, current, inl (one, inl (a, pools, inl (b, roots, inl (c, twice, copies))), inl (e, there, gives))))) =
    let same : v ≡ u = cc in
    subst (λ (w : Uber). Found seen w) same (record { known = known; current = current; pools = pools; roots = roots; twice = twice; copies = copies; there = there })
found seen u (inl (k, known, inl (v, current, inl (one, inl (a, pools, inl (b, roots, inr (r, told, is))), rest)))) = absurd cc
found seen u (inl (k, known, inl (v, current, inl (one, inl (a, pools, inr (r, told, is)), rest)))) = absurd cc
found seen u (inl (k, known, inl (v, current, inl (one, inr (r, told, is), rest)))) = absurd cc
found seen u (inl (k, known, inl (v, current, inl (one, inl (a, pools, inl (b, roots, inl (c, twice, copies))), inr (r, told, is))))) = absurd cc
found seen u (inl (k, known, inl (v, current, inr (r, told, is)))) = absurd cc
found seen u (inl (k, known, inr (r, told, is))) = absurd cc
found seen u (inr (r, told, is)) = absurd cc

finds : (seen : List Seen) (u : Uber) → Found seen u → FindsCurrent seen (Ok u)
finds seen u f = inl (tt, f.known, inl (u, f.current, inl (tt, inl (tt, f.pools, inl (tt, f.roots, inl (tt, f.twice, f.copies))), inl (tt, f.there, refl))))

-- ---- the roots of a slot

-- each slot shows roots of its label's pool alone
abbrev AreOwn : List Seen → Type 0
AreOwn seen = (slot : ℕ) (v : Uber) → IsShownAt seen slot v → (l : Label) × ((seen_at seen slot).label ≡ Some l) × (v.guid ≡ l.guid)

own_root : (size : ℕ) (bytes : List ℕ) (x : Seen) (o : Option Label) → x.label ≡ o → MatchOption o (x.ubers ≡ []) (λ l. AreRoots size bytes 4 l x.ubers) → (v : Uber) → Contains x.ubers v → (l : Label) × (x.label ≡ Some l) × (v.guid ≡ l.guid)
own_root size bytes x None is none v has = absurd (let at = (subst (λ (us : List Uber). Contains us v) none has).1 in omega (arith, at))
own_root size bytes x (Some l) is roots v has = (l, is, (roots.each v has).0.pool)

own_roots : (disks : List (List ℕ)) (seen : List Seen) → ShowsAll disks seen → AreOwn seen
own_roots [] [] shows slot v has = absurd (let at = has.1 in omega (arith, at))
own_roots [] (x ∷ seen) shows slot v has = absurd shows
own_roots (bytes ∷ disks) [] shows slot v has = absurd shows
own_roots (bytes ∷ disks) (x ∷ seen) shows zero v has = own_root (length bytes) bytes x x.label refl shows.0.roots v has
own_roots (bytes ∷ disks) (x ∷ seen) shows (suc slot) v has = own_roots disks seen shows.1 slot v has

-- ---- devices

-- a place that is told by labels
pub first_same : (p : Option Label → Bool) (xs ys : List Seen) → length xs ≡ length ys → ((slot : ℕ) → (seen_at xs slot).label ≡ (seen_at ys slot).label) → position_or_len (λ (s : Seen). p s.label) xs ≡ position_or_len (λ (s : Seen). p s.label) ys
first_same p [] [] count labels = refl
first_same p [] (y ∷ ys) count labels = absurd (omega (arith, count))
first_same p (x ∷ xs) [] count labels = absurd (omega (arith, count))
first_same p (x ∷ xs) (y ∷ ys) count labels =
    let rest = first_same p xs ys (omega (arith, count)) (λ slot. labels (suc slot)) in
    ap (λ (o : Option Label). position_or_len (λ (s : Seen). p s.label) (record x { label = o } ∷ xs)) (labels 0)
    ∙ ap (λ (n : ℕ). cond (not (p y.label)) (1 + n) 0) rest

module _ (seen next : List Seen) (u : Uber) (s : ShowsNext seen next u) where
  place_same : (p : Option Label → Bool) → position (λ (x : Seen). p x.label) next ≡ position (λ (x : Seen). p x.label) seen
  place_same p =
      let first = first_same p next seen s.count s.labels in
      ap (λ (n : ℕ). cond (nat_lt n (length next)) (Some n) None) first
      ∙ ap (λ (n : ℕ). cond (nat_lt (position_or_len (λ (x : Seen). p x.label) seen) n) (Some (position_or_len (λ (x : Seen). p x.label) seen)) None) s.count

  -- the root names the same devices as the last one
  named : (last : Uber) → IsNextOf last u → u ≡ record u { guid = last.guid; count = last.count; rows = last.rows }
  named last is =
      ap (λ (n : ℕ). record u { guid = n }) is.guid
      ∙ (ap (λ (n : ℕ). record u { guid = last.guid; count = n }) is.count
      ∙ ap (λ (rs : List DevRow). record u { guid = last.guid; count = last.count; rows = rs }) is.rows)

  device_same : (last : Uber) (index : ℕ) → slot_of_device last next index ≡ slot_of_device last seen index
  device_same last index = ap (λ (o : Option ℕ). if is_gone (row_at last index).state then None else o) (place_same (is_device last index))

  pub slots_same : (last : Uber) → IsNextOf last u → slots_of u next ≡ slots_of last seen
  slots_same last is =
      ap (λ (w : Uber). slots_of w next) (named last is)
      ∙ ap (λ (f : ℕ → Option ℕ). map f (range_with_len 0 last.count)) (fun_ext (λ index. device_same last index))

  missing_same : (last : Uber) → IsNextOf last u → missing_device u next ≡ missing_device last seen
  missing_same last is =
      ap (λ (w : Uber). missing_device w next) (named last is)
      ∙ ap (λ (f : ℕ → Option ℕ). find (λ index. not (is_gone (row_at last index).state) && not (is_some (f index))) (range_with_len 0 last.count)) (fun_ext (λ index. device_same last index))

-- ---- the next root

differ_not : (m n : ℕ) → (m ≢ n → ⊥) → m ≡ n
differ_not m n not_other = elim (cases_eq m n) [
  | inl same ↦ same
  | inr other ↦ absurd (not_other other)
]

module _ (seen next : List Seen) (last u : Uber) (f : Found seen last) (own : AreOwn seen) (is : IsNextOf last u) (s : ShowsNext seen next u) where
  -- all roots are of the last one's pool
  one_pool : (v : Uber) → IsShown seen v → v.guid ≡ last.guid
  one_pool v (a, at) =
      let there = f.current.shown in
      let c = there.0 in
      differ_not v.guid last.guid (λ differ.
      ⊎_elim
      (λ (lt : a < c). f.pools (a, c) (record { order = lt; here = record { one = v; other = last; in_one = at; in_other = there.1; differ = differ } }))
      (λ (ge : c ≤ a).
      ⊎_elim
      (λ (lt : c < a). f.pools (c, a) (record { order = lt; here = record { one = last; other = v; in_one = there.1; in_other = at; differ = λ e. differ (sym e) } }))
      (λ (le : a ≤ c).
      let same : c ≡ a = omega (arith, ge, le) in
      let mine = own a v at in
      let its = own a last (subst (λ (k : ℕ). IsShownAt seen k last) same there.1) in
      let label : mine.0 ≡ its.0 = cc in
      differ (mine.2 ∙ (ap (λ (l : Label). l.guid) label ∙ sym its.2)))
      (cases_lt c a))
      (cases_lt a c))

  -- a root that is shown is this one, or is older
  this_or_older : (v : Uber) → IsShown next v → (v ≡ u) ⊎ ((v.guid ≡ u.guid) × (v.txg < u.txg))
  this_or_older v (slot, at) = elim (s.roots slot v at) [
    | inl before ↦
        let low = f.current.highest v (slot, before) in
        let txg = is.txg in
        inr (one_pool v (slot, before) ∙ sym is.guid, omega (arith, low, txg))
    | inr same ↦ inl same
  ]

  same_guid : (v : Uber) → IsShown next v → v.guid ≡ u.guid
  same_guid v shown = elim (this_or_older v shown) [
    | inl same ↦ ap (λ (w : Uber). w.guid) same
    | inr older ↦ older.0
  ]

  highest : (v : Uber) → IsShown next v → v.txg ≤ u.txg
  highest v shown = elim (this_or_older v shown) [
    | inl same ↦ let e = ap (λ (w : Uber). w.txg) same in omega (arith, e)
    | inr older ↦ let lt = older.1 in omega (arith, lt)
  ]

  current : IsCurrent next u
  current = record { shown = s.shown; highest = highest }

  only : (v : Uber) → IsCurrent next v → v ≡ u
  only v h = elim (this_or_older v h.shown) [
    | inl same ↦ same
    | inr older ↦ absurd (let lt = older.1 in let high = h.highest u s.shown in omega (arith, lt, high))
  ]

  known : (p : ℕ × Newer) → IsUnknown next p.0 p.1 → ⊥
  known p h =
      let was = s.newer p.0 p.1 h.newer_is in
      f.known (p.0, was.0) (record {
        label = h.label;
        label_is = sym (s.labels p.0) ∙ h.label_is;
        newer_is = was.1;
        above = λ v shown same.
            let lt = h.above u s.shown (is.guid ∙ (sym (one_pool v shown) ∙ same)) in
            let low = f.current.highest v shown in
            let txg = is.txg in
            let le = was.2 in
            omega (arith, lt, low, txg, le);
      })

  two_roots : (a b : ℕ) → AreTwoRoots next a b → ⊥
  two_roots a b h = h.differ (only h.one h.one_highest ∙ sym (only h.other h.other_highest))

  root_for : (l : Label) → IsRootFor l u → IsRootFor l last
  root_for l h = record {
    pool = sym is.guid ∙ h.pool;
    index = let e = is.count in let lt = h.index in omega (arith, e, lt);
    added = sym (ap (λ (rs : List DevRow). (slice_index_or rs l.index no_row).added) is.rows) ∙ h.added;
    concrete = sym (ap (λ (rs : List DevRow). is_gone (slice_index_or rs l.index no_row).state) is.rows) ∙ h.concrete;
  }

  two_copies : (p : ℕ × ℕ) → IsPair (AreTwoCopies u next) p → ⊥
  two_copies p h = f.copies p (record {
    order = h.order;
    here = record {
      one = h.here.one;
      other = h.here.other;
      of_one = sym (s.labels p.0) ∙ h.here.of_one;
      of_other = sym (s.labels p.1) ∙ h.here.of_other;
      one_for = root_for h.here.one h.here.one_for;
      other_for = root_for h.here.other h.here.other_for;
      same = h.here.same;
    };
  })

  found_next : Found next u
  found_next = record {
    known = known;
    current = current;
    pools = λ p h. h.here.differ (same_guid h.here.one (p.0, h.here.in_one) ∙ sym (same_guid h.here.other (p.1, h.here.in_other)));
    roots = λ p h. two_roots p.0 p.1 h.here;
    twice = λ slot h. two_roots slot slot h;
    copies = two_copies;
    there = λ index missing. f.there index (sym (missing_same seen next u s last is) ∙ missing);
  }

pub next_found : (disks : List (List ℕ)) (seen next : List Seen) (last u : Uber) → ShowsAll disks seen → FindsCurrent seen (Ok last) → IsNextOf last u → ShowsNext seen next u → FindsCurrent next (Ok u)
next_found disks seen next last u shown finds_it is s = finds next u (found_next seen next last u (found seen last finds_it) (own_roots disks seen shown) is s)

-- and it alone
pub next_alone : (disks : List (List ℕ)) (seen next : List Seen) (last u : Uber) → ShowsAll disks seen → FindsCurrent seen (Ok last) → IsNextOf last u → ShowsNext seen next u → (v : Uber) → FindsCurrent next (Ok v) → v ≡ u
next_alone disks seen next last u shown finds_it is s v other = only seen next last u (found seen last finds_it) (own_roots disks seen shown) is s v (found next v other).current
