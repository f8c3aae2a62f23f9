-- That a slot shows one thing, and what a slot shows after the first writes.
use Rattle.std.proofs.Common.{◌≡◌, ◌≢◌, ◌⊎◌, inl, inr, ℕ, ◌+◌, ◌<◌, List, [], Option, Some, None, length, refl, sym, ap, subst, ◌∙◌, arith, IsTrue}
use Rattle.std.specs.Prelude.{Contains, MatchOption}
use Rattle.std.proofs.lemmas.Bool.{cases_lt, cases_eq}
use Rattle.std.proofs.lemmas.List.{length-replicate}
use Rattle.zr_shelf.specs.Disks.{disk, IsSameOutside}
use Rattle.zr_label.specs.Blocks.{SpellsLabel, SpellsUber, SpellsNewer, uber_block, padding}
use Rattle.zr_label.specs.Geometry.{units_of_size, is_disk_size, slot_of, label_block_at, ring_slot_at}
use Rattle.zr_label.specs.declared.root.Label.{Label}
use Rattle.zr_label.specs.declared.root.Uber.{Uber}
use Rattle.zr_label.specs.declared.root.Newer.{Newer}
use Rattle.zr_label.specs.declared.root.Seen.{Seen}
use Rattle.zr_label.proofs.Labels.{one_label}
use Rattle.zr_label.proofs.Ubers.{one_uber}
use Rattle.zr_scan.specs.Puts.{puts, ring_places, root_places}
use Rattle.zr_scan.specs.Scan.{block_of, ring_block, IsFirstLabel, ShowsLabel, IsRootFor, Stands, AreRoots, StandsNewer, IsNewest, ShowsNewer, Shows, ShowsJust}
use Rattle.zr_scan.proofs.Blocks.{one_version, known_or_not, zeros_no_root, zeros_no_newer}
use Rattle.zr_scan.proofs.Spacing.{used_of}
use Rattle.zr_scan.proofs.Gathering.{slot_small}
use Rattle.zr_scan.proofs.Apart.{clearing_keeps_label, root_keeps_label, root_keeps_others}

-- ---- one answer

one_first : (size : ℕ) (bytes : List ℕ) (l m : Label) → IsFirstLabel size bytes l → IsFirstLabel size bytes m → l ≡ m
one_first size bytes l m h k = elim (cases_lt h.label k.label) [
  | inl less ↦ absurd (k.before h.label less l h.here)
  | inr more ↦ elim (cases_lt k.label h.label) [
    | inl less ↦ absurd (h.before k.label less m k.here)
    | inr most ↦
        let same : k.label ≡ h.label = omega arith in
        one_label (block_of size bytes h.label) l m h.here.spelled (subst (λ (n : ℕ). SpellsLabel (block_of size bytes n) m) same k.here.spelled)
  ]
]

pub same_label : (size : ℕ) (bytes : List ℕ) (a b : Option Label) → ShowsLabel size bytes a → ShowsLabel size bytes b → a ≡ b
same_label size bytes None None h k = refl
same_label size bytes None (Some m) h k = absurd (h k.label k.four m k.here)
same_label size bytes (Some l) None h k = absurd (k h.label h.four l h.here)
same_label size bytes (Some l) (Some m) h k = ap (λ (x : Label). Some x) (one_first size bytes l m h k)

module _ (size : ℕ) (bytes : List ℕ) where
  same_roots : (a b : Option Label) (us vs : List Uber) (u : Uber) → a ≡ b → MatchOption a (us ≡ []) (λ l. AreRoots size bytes 4 l us) → MatchOption b (vs ≡ []) (λ l. AreRoots size bytes 4 l vs) → Contains us u → Contains vs u
  same_roots None b us vs u same h k has = let none = ap (λ (ws : List Uber). length ws) h in absurd (omega (arith, has.1, none))
  same_roots (Some l) b us vs u same h k has =
      let here = subst (λ (o : Option Label). MatchOption o (vs ≡ []) (λ m. AreRoots size bytes 4 m vs)) (sym same) k in
      let found = h.each u has in
      here.all u found.1 found.2 found.3 found.0

  pub roots_same : (a b : Seen) (u : Uber) → Shows size bytes a → Shows size bytes b → Contains a.ubers u → Contains b.ubers u
  roots_same a b u h k has = same_roots a.label b.label a.ubers b.ubers u (same_label size bytes a.label b.label h.label k.label) h.roots k.roots has

  one_newer : (x y : Newer) → x.version ≡ y.version → x.txg ≡ y.txg → x ≡ y
  one_newer x y e f = rw (e, f) refl

  one_newest : (guid : ℕ) (x y : Newer) → IsNewest size bytes 4 guid x → IsNewest size bytes 4 guid y → x ≡ y
  one_newest guid x y h k =
      let below = h.highest k.label y.version y.txg k.among k.stands in
      let above = k.highest h.label x.version x.txg h.among h.stands in
      let txg : y.txg ≡ x.txg = omega arith in
      let there : StandsNewer size bytes guid k.label y.version x.txg = subst (λ (t : ℕ). StandsNewer size bytes guid k.label y.version t) txg k.stands in
      let here : StandsNewer size bytes guid h.label x.version y.txg = subst (λ (t : ℕ). StandsNewer size bytes guid h.label x.version t) (sym txg) h.stands in
      elim (cases_lt h.label k.label) [
        | inl less ↦ absurd (k.first h.label x.version less here)
        | inr more ↦ elim (cases_lt k.label h.label) [
          | inl less ↦ absurd (h.first k.label y.version less there)
          | inr most ↦
              let same : k.label ≡ h.label = omega arith in
              one_newer x y (one_version (ring_block size bytes h.label (slot_of x.txg)) guid x.version y.version x.txg x.txg h.stands (subst (λ (n : ℕ). StandsNewer size bytes guid n y.version x.txg) same there)) (sym txg)
        ]
      ]

  same_newest : (guid : ℕ) (x y : Option Newer) → ShowsNewer size bytes 4 guid x → ShowsNewer size bytes 4 guid y → x ≡ y
  same_newest guid None None h k = refl
  same_newest guid None (Some y) h k = absurd (h k.label y.version y.txg k.among k.stands)
  same_newest guid (Some x) None h k = absurd (k h.label x.version x.txg h.among h.stands)
  same_newest guid (Some x) (Some y) h k = ap (λ (n : Newer). Some n) (one_newest guid x y h k)

  same_newer : (a b : Option Label) (x y : Option Newer) → a ≡ b → MatchOption a (x ≡ None) (λ l. ShowsNewer size bytes 4 l.guid x) → MatchOption b (y ≡ None) (λ l. ShowsNewer size bytes 4 l.guid y) → x ≡ y
  same_newer None b x y same h k = h ∙ sym (subst (λ (o : Option Label). MatchOption o (y ≡ None) (λ m. ShowsNewer size bytes 4 m.guid y)) (sym same) k)
  same_newer (Some l) b x y same h k = same_newest l.guid x y h (subst (λ (o : Option Label). MatchOption o (y ≡ None) (λ m. ShowsNewer size bytes 4 m.guid y)) (sym same) k)

  pub newer_same : (a b : Seen) → Shows size bytes a → Shows size bytes b → a.newer ≡ b.newer
  newer_same a b h k = same_newer a.label b.label a.newer b.newer (same_label size bytes a.label b.label h.label k.label) h.newer k.newer

-- ---- a slot with labels, and rings of zeros but for one root

module _ (size : ℕ) (bytes : List ℕ) (l : Label) (u : Uber) (first : ℕ) (units : units_of_size size 2 ≡ Some l.units) (low : first < 2) (suits : IsRootFor l u)
    (labels : (n : ℕ) → n < 4 → SpellsLabel (block_of size bytes n) l)
    (one : Stands size bytes first u) (two : Stands size bytes (first + 2) u)
    (zeros : (n k : ℕ) → n < 4 → k < 32 → (k ≢ slot_of u.txg) ⊎ ((n ≢ first) × (n ≢ first + 2)) → ring_block size bytes n k ≡ padding 4096) where
  just_label : (o : Option Label) → ShowsLabel size bytes o → o ≡ Some l
  just_label None none = absurd (none 0 (omega arith) l (record { spelled = labels 0 (omega arith); units = units }))
  just_label (Some m) h = ap (λ (x : Label). Some x) (one_label (block_of size bytes h.label) m l h.here.spelled (labels h.label h.four))

  -- a block of a ring is zeros, or the root
  which : (n k : ℕ) → n < 4 → k < 32 → (ring_block size bytes n k ≡ padding 4096) ⊎ SpellsUber (ring_block size bytes n k) u
  which n k lt small = elim (cases_eq k (slot_of u.txg)) [
    | inl is ↦ elim (cases_eq n first) [
      | inl here ↦ inr (subst (λ (j : ℕ). SpellsUber (ring_block size bytes n j) u) (sym is) (subst (λ (m : ℕ). Stands size bytes m u) (sym here) one))
      | inr other ↦ elim (cases_eq n (first + 2)) [
        | inl here ↦ inr (subst (λ (j : ℕ). SpellsUber (ring_block size bytes n j) u) (sym is) (subst (λ (m : ℕ). Stands size bytes m u) (sym here) two))
        | inr neither ↦ inl (zeros n k lt small (inr (other, neither)))
      ]
    ]
    | inr other ↦ inl (zeros n k lt small (inl other))
  ]

  just_root : (n : ℕ) (v : Uber) → n < 4 → Stands size bytes n v → v ≡ u
  just_root n v lt h = elim (which n (slot_of v.txg) lt (slot_small v.txg)) [
    | inl empty ↦ absurd (zeros_no_root v (subst (λ (b : List ℕ). SpellsUber b v) empty h))
    | inr here ↦ one_uber (ring_block size bytes n (slot_of v.txg)) v u h here
  ]

  no_newer : (n version txg : ℕ) → n < 4 → StandsNewer size bytes l.guid n version txg → ⊥
  no_newer n version txg lt h = elim (which n (slot_of txg) lt (slot_small txg)) [
    | inl empty ↦ zeros_no_newer l.guid version txg (subst (λ (b : List ℕ). SpellsNewer b l.guid version txg) empty h)
    | inr here ↦ known_or_not (ring_block size bytes n (slot_of txg)) u l.guid version txg here h
  ]

  just_none : (x : Option Newer) → ShowsNewer size bytes 4 l.guid x → x ≡ None
  just_none None h = refl
  just_none (Some x) h = absurd (no_newer h.label x.version x.txg h.among h.stands)

  pub shows_just : (seen : Seen) → Shows size bytes seen → ShowsJust l u seen
  shows_just seen h =
      let is = just_label seen.label h.label in
      let roots = subst (λ (o : Option Label). MatchOption o (seen.ubers ≡ []) (λ m. AreRoots size bytes 4 m seen.ubers)) is h.roots in
      let newer = subst (λ (o : Option Label). MatchOption o (seen.newer ≡ None) (λ m. ShowsNewer size bytes 4 m.guid seen.newer)) is h.newer in
      record {
        label = is;
        root = λ v. (
          λ has. let found = roots.each v has in just_root found.1 v found.2 found.3,
          λ same. subst (Contains seen.ubers) (sym same) (roots.all u first (omega arith) one suits),
        );
        newer = just_none seen.newer newer;
      }

-- ---- the first writes

length-padding : (n : ℕ) → length (padding n) ≡ n
unfolding padding
length-padding n = length-replicate n 0

pub fresh_slot : (size slot first : ℕ) (l : Label) (u : Uber) (a b c : List (List ℕ)) (seen : Seen) →
    units_of_size size 2 ≡ Some l.units → first < 2 → IsRootFor l u → length (uber_block u) ≡ 4096 →
    ((n : ℕ) → n < 4 → SpellsLabel (block_of size (disk a slot) n) l) →
    IsSameOutside (puts slot (ring_places size) (padding 131072)) a b →
    ((n k : ℕ) → n < 4 → k < 32 → ring_block size (disk b slot) n k ≡ padding 4096) →
    IsSameOutside (puts slot (root_places size first u.txg) (uber_block u)) b c →
    Stands size (disk c slot) first u → Stands size (disk c slot) (first + 2) u →
    Shows size (disk c slot) seen → ShowsJust l u seen
fresh_slot size slot first l u a b c seen units low suits long labels cleared zeros put one two shows =
    shows_just size (disk c slot) l u first units low suits here one two empty seen shows
  where
    used : IsTrue (is_disk_size 2 size)
    used = used_of size l.units units

    here : (n : ℕ) → n < 4 → SpellsLabel (block_of size (disk c slot) n) l
    here n lt =
        subst (λ (x : List ℕ). SpellsLabel x l)
        (sym (put.bytes slot (label_block_at size n) 4096 (root_keeps_label size used slot first u.txg (uber_block u) long low n lt)
        ∙ cleared.bytes slot (label_block_at size n) 4096 (clearing_keeps_label size used slot n (padding 131072) (length-padding 131072) lt)))
        (labels n lt)

    empty : (n k : ℕ) → n < 4 → k < 32 → (k ≢ slot_of u.txg) ⊎ ((n ≢ first) × (n ≢ first + 2)) → ring_block size (disk c slot) n k ≡ padding 4096
    empty n k lt small other =
        put.bytes slot (ring_slot_at size n k) 4096 (root_keeps_others size used slot first u.txg (uber_block u) long low n k lt small other) ∙ zeros n k lt small
