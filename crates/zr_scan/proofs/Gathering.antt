-- What was seen in the blocks so far, with one block or one ring more.
use Rattle.std.proofs.Common.{length, ◌≡◌, ◌⊎◌, inl, inr, ℕ, zero, suc, ◌+◌, ◌<◌, ◌≤◌, List, [], ◌∷◌, ◌++◌, Option, Some, None, Result, Ok, Err, refl, sym, ap, subst, ◌∙◌, arith}
use Rattle.std.specs.Prelude.{Contains, IfSome, IfNone, IfOk, IsSomeAnd, MatchOption}
use Rattle.std.proofs.lemmas.Bool.{cases_lt}
use Rattle.std.proofs.lemmas.List.{length-append}
use Rattle.std.proofs.lemmas.List.Elements.{Contains-push, Contains-append_left, Contains-append_cases}
use Rattle.zr_base.specs.Readers.{Reads}
use Rattle.zr_shelf.specs.Disks.{disk, part, Stand}
use Rattle.zr_label.specs.Blocks.{SpellsUber, SpellsNewer}
use Rattle.zr_label.specs.Geometry.{slot_of}
use Rattle.zr_label.specs.declared.root.Label.{Label}
use Rattle.zr_label.specs.declared.root.Uber.{Uber}
use Rattle.zr_label.specs.declared.root.Newer.{Newer}
use Rattle.zr_label.specs.declared.root.Seen.{Seen}
use Rattle.zr_label.proofs.Ubers.{one_uber}
use Rattle.zr_scan.specs.Puts.{ring_at}
use Rattle.zr_scan.specs.Scan.{IsRootFor, IsOwnRoot, IsOwnLabel, IsSmallAndLawful, AreRoots, Stands, StandsNewer, IsNewest, HasNoNewer, ShowsNewer, ShowsLabel, Shows, ring_block}
use Rattle.zr_scan.specs.Rings.{in_ring, with_root, IsRootAt, AddsRoots, IsNewerAt, IsNewerOf, IsLater}
use Rattle.zr_scan.specs.declared.error.ScanErr.{ScanErr}
use Rattle.zr_scan.proofs.Blocks.{one_txg}
use Rattle.zr_scan.proofs.Spacing.{in_ring_is}

pub slot_small : (txg : ℕ) → slot_of txg < 32
slot_small txg = omega arith

only_one : (u v : Uber) → Contains (v ∷ []) u → u ≡ v
only_one u v (zero, lt, is) = sym is
only_one u v (suc k, lt, is) = absurd (omega arith)

-- ---- roots, block by block

pub no_roots_yet : (ring : List ℕ) (l : Label) (us : List Uber) → AddsRoots ring 0 l us us
no_roots_yet ring l us = record { few = omega arith; kept = λ u h. h; each = λ u h. inl h; all = λ u lt h. absurd (omega arith) }

module _ (ring : List ℕ) (k : ℕ) (l : Label) (old mid : List Uber) (so_far : AddsRoots ring k l old mid) where
  pub no_root_more : Reads (IsRootAt (in_ring ring k) k l) None → AddsRoots ring (k + 1) l old mid
  no_root_more none = record { few = let few = so_far.few in omega arith; kept = so_far.kept; each = so_far.each; all = all }
    where
      all : (u : Uber) → slot_of u.txg < k + 1 → IsRootAt (in_ring ring (slot_of u.txg)) (slot_of u.txg) l u → Contains mid u
      all u lt h = elim (cases_lt (slot_of u.txg) k) [
        | inl small ↦ so_far.all u small h
        | inr large ↦ let is : slot_of u.txg ≡ k = omega arith in absurd (none u (subst (λ (j : ℕ). IsRootAt (in_ring ring j) j l u) is h))
      ]

  pub one_root_more : (v : Uber) (new : List Uber) → new ≡ mid ++ v ∷ [] → IsRootAt (in_ring ring k) k l v → AddsRoots ring (k + 1) l old new
  one_root_more v new is here = subst (AddsRoots ring (k + 1) l old) (sym is) (record { few = let few = so_far.few in omega (arith, length-append mid (v ∷ [])); kept = λ u h. Contains-append_left mid (v ∷ []) u (so_far.kept u h); each = each; all = all })
    where
      each : (u : Uber) → Contains (mid ++ v ∷ []) u → Contains old u ⊎ IsRootAt (in_ring ring (slot_of u.txg)) (slot_of u.txg) l u
      each u h = elim (Contains-append_cases mid (v ∷ []) u h) [
        | inl before ↦ so_far.each u before
        | inr last ↦ inr (subst (λ (w : Uber). IsRootAt (in_ring ring (slot_of w.txg)) (slot_of w.txg) l w) (sym (only_one u v last)) (subst (λ (j : ℕ). IsRootAt (in_ring ring j) j l v) (sym here.place) here))
      ]

      all : (u : Uber) → slot_of u.txg < k + 1 → IsRootAt (in_ring ring (slot_of u.txg)) (slot_of u.txg) l u → Contains (mid ++ v ∷ []) u
      all u lt h = elim (cases_lt (slot_of u.txg) k) [
        | inl small ↦ Contains-append_left mid (v ∷ []) u (so_far.all u small h)
        | inr large ↦
            let is : slot_of u.txg ≡ k = omega arith in
            let at_k = subst (λ (j : ℕ). IsRootAt (in_ring ring j) j l u) is h in
            subst (Contains (mid ++ v ∷ [])) (one_uber (in_ring ring k) v u here.spelled at_k.spelled) (Contains-push mid v)
      ]

  pub root_more : (found : Option Uber) (new : List Uber) → Reads (IsRootAt (in_ring ring k) k l) found → new ≡ with_root mid found → AddsRoots ring (k + 1) l old new
  root_more None new none is = subst (AddsRoots ring (k + 1) l old) (sym is) (no_root_more none)
  root_more (Some v) new here is = one_root_more v new is here

-- ---- roots, ring by ring

pub no_rings_yet : (size : ℕ) (bytes : List ℕ) (l : Label) → AreRoots size bytes 0 l []
no_rings_yet size bytes l = record { each = λ u h. absurd (omega (arith, h.1)); all = λ u k lt stands suits. absurd (omega arith) }

pub ring_more : (size : ℕ) (bytes : List ℕ) (n : ℕ) (l : Label) (ring : List ℕ) (old new : List Uber) → ring ≡ part bytes (ring_at size n) 131072 → AreRoots size bytes n l old → AddsRoots ring 32 l old new → AreRoots size bytes (n + 1) l new
ring_more size bytes n l ring old new ring_is so_far adds = record { each = each; all = all }
  where
    block_is : (u : Uber) → in_ring ring (slot_of u.txg) ≡ ring_block size bytes n (slot_of u.txg)
    block_is u = ap (λ (r : List ℕ). in_ring r (slot_of u.txg)) ring_is ∙ in_ring_is size bytes n (slot_of u.txg) (slot_small u.txg)

    each : (u : Uber) → Contains new u → IsRootFor l u × (k : ℕ) × (k < n + 1) × Stands size bytes k u
    each u h = elim (adds.each u h) [
      | inl before ↦ let b = so_far.each u before in (b.0, b.1, omega (arith, b.2), b.3)
      | inr here ↦ (here.suits, n, omega arith, subst (λ (b : List ℕ). SpellsUber b u) (block_is u) here.spelled)
    ]

    all : (u : Uber) (k : ℕ) → k < n + 1 → Stands size bytes k u → IsRootFor l u → Contains new u
    all u k lt stands suits = elim (cases_lt k n) [
      | inl small ↦ adds.kept u (so_far.all u k small stands suits)
      | inr large ↦
          let is : k ≡ n = omega arith in
          let here = subst (λ (j : ℕ). Stands size bytes j u) is stands in
          adds.all u (slot_small u.txg) (record { spelled = subst (λ (b : List ℕ). SpellsUber b u) (sym (block_is u)) here; place = refl; suits = suits })
    ]

pub none_own : (l : Label) (us : List Uber) → us ≡ [] → (u : Uber) → Contains us u → IsOwnRoot l u
none_own l us none u h = let size = ap (λ (vs : List Uber). length vs) none in absurd (omega (arith, h.1, size))

-- those that were added are lawful
pub own_more : (ring : List ℕ) (n : ℕ) (l : Label) (old new : List Uber) → AddsRoots ring n l old new → ((u : Uber) → Contains old u → IsOwnRoot l u) → (u : Uber) → Contains new u → IsOwnRoot l u
own_more ring n l old new adds own u h = elim (adds.each u h) [
  | inl before ↦ own u before
  | inr here ↦ record { lawful = here.spelled.lawful; suits = here.suits }
]

-- ---- roots of unknown versions, block by block

pub none_newer_yet : (ring : List ℕ) (guid : ℕ) (old : Option Newer) → IsNewerOf ring 0 guid old old
none_newer_yet ring guid old = record { old_or_new = inl refl; highest = λ x lt h. absurd (omega arith) }

abbrev IsAbove : ℕ → Option Newer → Type 0
IsAbove txg found = IsSomeAnd found (λ y. txg ≤ y.txg)

above_later : (txg : ℕ) (old found new : Option Newer) → IsLater old found new → IsAbove txg old → IsAbove txg new
above_later txg None found new later h = absurd h
above_later txg (Some o) None new later h = subst (IsAbove txg) (sym later) h
above_later txg (Some o) (Some x) new (inl later) h = subst (IsAbove txg) (sym later.1) (let lt = later.0 in omega arith)
above_later txg (Some o) (Some x) new (inr later) h = subst (IsAbove txg) (sym later.1) h

later_above : (old : Option Newer) (x : Newer) (new : Option Newer) → IsLater old (Some x) new → IsAbove x.txg new
later_above None x new later = subst (IsAbove x.txg) (sym later) (omega arith)
later_above (Some o) x new (inl later) = subst (IsAbove x.txg) (sym later.1) (omega arith)
later_above (Some o) x new (inr later) = subst (IsAbove x.txg) (sym later.1) later.0

abbrev IsBelow : Option Newer → ℕ → Type 0
IsBelow old txg = IfSome old (λ o. o.txg < txg)

below_less : (old : Option Newer) (n m : ℕ) → n < m → IsBelow old n → IsBelow old m
below_less None n m lt h = h
below_less (Some o) n m lt h = omega arith

module _ (ring : List ℕ) (guid : ℕ) (old : Option Newer) where
  abbrev Since : Option Newer → Type 0
  Since new = (new ≡ old) ⊎ ((x : Newer) × (new ≡ Some x) × IsNewerAt (in_ring ring (slot_of x.txg)) (slot_of x.txg) guid x × IsBelow old x.txg)

  since_below : (mid : Option Newer) → Since mid → (txg : ℕ) → IsBelow mid txg → IsBelow old txg
  since_below mid (inl is) txg h = subst (λ (o : Option Newer). IsBelow o txg) is h
  since_below mid (inr s) txg h = let lt : s.0.txg < txg = subst (λ (o : Option Newer). IsBelow o txg) s.1 h in below_less old s.0.txg txg lt s.3

  at_place : (k : ℕ) (x : Newer) → IsNewerAt (in_ring ring k) k guid x → IsNewerAt (in_ring ring (slot_of x.txg)) (slot_of x.txg) guid x
  at_place k x h = subst (λ (j : ℕ). IsNewerAt (in_ring ring j) j guid x) (sym h.place) h

  since_more : (k : ℕ) (mid found new : Option Newer) → Since mid → Reads (IsNewerAt (in_ring ring k) k guid) found → IsLater mid found new → Since new
  since_more k None None new s reads later = subst Since (sym later) s
  since_more k None (Some x) new s reads later = inr (x, later, at_place k x reads, since_below None s x.txg tt)
  since_more k (Some o) None new s reads later = subst Since (sym later) s
  since_more k (Some o) (Some x) new s reads (inl later) = inr (x, later.1, at_place k x reads, since_below (Some o) s x.txg later.0)
  since_more k (Some o) (Some x) new s reads (inr later) = subst Since (sym later.1) s

  pub newer_more : (k : ℕ) (mid found new : Option Newer) → IsNewerOf ring k guid old mid → Reads (IsNewerAt (in_ring ring k) k guid) found → IsLater mid found new → IsNewerOf ring (k + 1) guid old new
  newer_more k mid found new so_far reads later = record { old_or_new = since_more k mid found new so_far.old_or_new reads later; highest = highest }
    where
      here : (x : Newer) → IsNewerAt (in_ring ring k) k guid x → (f : Option Newer) → Reads (IsNewerAt (in_ring ring k) k guid) f → IsLater mid f new → IsAbove x.txg new
      here x h None none later = absurd (none x h)
      here x h (Some y) is later =
          subst (λ (t : ℕ). IsAbove t new) (one_txg (in_ring ring k) guid y.version x.version y.txg x.txg is.spelled h.spelled) (later_above mid y new later)

      highest : (x : Newer) → slot_of x.txg < k + 1 → IsNewerAt (in_ring ring (slot_of x.txg)) (slot_of x.txg) guid x → IsAbove x.txg new
      highest x lt h = elim (cases_lt (slot_of x.txg) k) [
        | inl small ↦ above_later x.txg mid found new later (so_far.highest x small h)
        | inr large ↦ let is : slot_of x.txg ≡ k = omega arith in here x (subst (λ (j : ℕ). IsNewerAt (in_ring ring j) j guid x) is h) found reads later
      ]

-- ---- ring by ring

pub no_newer_yet : (size : ℕ) (bytes : List ℕ) (guid : ℕ) → ShowsNewer size bytes 0 guid None
no_newer_yet size bytes guid = λ k version txg lt h. absurd (omega arith)

module _ (size : ℕ) (bytes : List ℕ) (n guid : ℕ) (ring : List ℕ) (ring_is : ring ≡ part bytes (ring_at size n) 131072) where
  block_here : (txg : ℕ) → in_ring ring (slot_of txg) ≡ ring_block size bytes n (slot_of txg)
  block_here txg = ap (λ (r : List ℕ). in_ring r (slot_of txg)) ring_is ∙ in_ring_is size bytes n (slot_of txg) (slot_small txg)

  stands_here : (x : Newer) → IsNewerAt (in_ring ring (slot_of x.txg)) (slot_of x.txg) guid x → StandsNewer size bytes guid n x.version x.txg
  stands_here x h = subst (λ (b : List ℕ). SpellsNewer b guid x.version x.txg) (block_here x.txg) h.spelled

  module _ (old new : Option Newer) (so_far : ShowsNewer size bytes n guid old) (adds : IsNewerOf ring 32 guid old new) where
    above_here : (version txg : ℕ) → StandsNewer size bytes guid n version txg → IsAbove txg new
    above_here version txg h =
        adds.highest (record { version = version; txg = txg }) (slot_small txg) (record { spelled = subst (λ (b : List ℕ). SpellsNewer b guid version txg) (sym (block_here txg)) h; place = refl })

  none_more : (old : Option Newer) → old ≡ None → ShowsNewer size bytes n guid old → ((version txg : ℕ) → StandsNewer size bytes guid n version txg → ⊥) → HasNoNewer size bytes (n + 1) guid
  none_more old is shows none k version txg lt h = elim (cases_lt k n) [
    | inl small ↦ subst (λ (o : Option Newer). ShowsNewer size bytes n guid o) is shows k version txg small h
    | inr large ↦ let same : k ≡ n = omega arith in none version txg (subst (λ (j : ℕ). StandsNewer size bytes guid j version txg) same h)
  ]

  old_more : (x : Newer) → IsNewest size bytes n guid x → ((version txg : ℕ) → StandsNewer size bytes guid n version txg → txg ≤ x.txg) → IsNewest size bytes (n + 1) guid x
  old_more x was here = record { label = was.label; among = let a = was.among in omega arith; stands = was.stands; highest = highest; first = was.first }
    where
      highest : (k version txg : ℕ) → k < n + 1 → StandsNewer size bytes guid k version txg → txg ≤ x.txg
      highest k version txg lt h = elim (cases_lt k n) [
        | inl small ↦ was.highest k version txg small h
        | inr large ↦ let same : k ≡ n = omega arith in here version txg (subst (λ (j : ℕ). StandsNewer size bytes guid j version txg) same h)
      ]

  -- those before are of lower groups
  lower : (old : Option Newer) (txg : ℕ) → ShowsNewer size bytes n guid old → IsBelow old txg → (k version t : ℕ) → k < n → StandsNewer size bytes guid k version t → t < txg
  lower None txg none below k version t lt h = absurd (none k version t lt h)
  lower (Some o) txg was below k version t lt h = let le = was.highest k version t lt h in omega arith

  new_more : (old : Option Newer) (x : Newer) → ShowsNewer size bytes n guid old → IsBelow old x.txg → StandsNewer size bytes guid n x.version x.txg → ((version txg : ℕ) → StandsNewer size bytes guid n version txg → txg ≤ x.txg) → IsNewest size bytes (n + 1) guid x
  new_more old x shows below stands here = record { label = n; among = omega arith; stands = stands; highest = highest; first = λ k version lt h. let less = lower old x.txg shows below k version x.txg lt h in absurd (omega arith) }
    where
      highest : (k version txg : ℕ) → k < n + 1 → StandsNewer size bytes guid k version txg → txg ≤ x.txg
      highest k version txg lt h = elim (cases_lt k n) [
        | inl small ↦ let less = lower old x.txg shows below k version txg small h in omega arith
        | inr large ↦ let same : k ≡ n = omega arith in here version txg (subst (λ (j : ℕ). StandsNewer size bytes guid j version txg) same h)
      ]

  pub newest_more : (old new : Option Newer) → ShowsNewer size bytes n guid old → IsNewerOf ring 32 guid old new → ShowsNewer size bytes (n + 1) guid new
  newest_more old None shows adds = more adds.old_or_new
    where
      more : (None ≡ old) ⊎ ((x : Newer) × (None ≡ Some x) × IsNewerAt (in_ring ring (slot_of x.txg)) (slot_of x.txg) guid x × IsBelow old x.txg) → HasNoNewer size bytes (n + 1) guid
      more (inl is) = none_more old (sym is) shows (λ version txg h. above_here old None shows adds version txg h)
      more (inr s) = absurd (let no = s.1 in cc)
  newest_more old (Some y) shows adds = more adds.old_or_new
    where
      here : (version txg : ℕ) → StandsNewer size bytes guid n version txg → txg ≤ y.txg
      here version txg h = above_here old (Some y) shows adds version txg h

      more : (Some y ≡ old) ⊎ ((x : Newer) × (Some y ≡ Some x) × IsNewerAt (in_ring ring (slot_of x.txg)) (slot_of x.txg) guid x × IsBelow old x.txg) → IsNewest size bytes (n + 1) guid y
      more (inl is) = old_more y (subst (ShowsNewer size bytes n guid) (sym is) shows) here
      more (inr s) =
          let same : s.0 ≡ y = let e = s.1 in cc in
          let stands : StandsNewer size bytes guid n y.version y.txg = subst (λ (x : Newer). StandsNewer size bytes guid n x.version x.txg) same (stands_here s.0 s.2) in
          new_more old y shows (subst (λ (x : Newer). IsBelow old x.txg) same s.3) stands here

-- ---- what the slot shows in all

pub shows_all : (now first : Stand) (slot size sz : ℕ) (l : Label) (found : Option Label) (r : Result Seen ScanErr) → now ≡ first → sz ≡ size → found ≡ Some l → ShowsLabel sz (disk first.seen slot) found →
    IfOk r (λ seen. seen.label ≡ Some l) → IfOk r (λ seen. AreRoots sz (disk now.seen slot) 4 l seen.ubers) → IfOk r (λ seen. ShowsNewer sz (disk now.seen slot) 4 l.guid seen.newer) →
    IfOk r (Shows size (disk first.seen slot))
shows_all now first slot size sz l found (Err e) same size_is is label named roots newer = tt
shows_all now first slot size sz l found (Ok seen) same size_is is label named roots newer =
    subst (λ (n : ℕ). Shows n (disk first.seen slot) seen) size_is (record {
      label = subst (ShowsLabel sz (disk first.seen slot)) (is ∙ sym named) label;
      roots = subst (λ (o : Option Label). MatchOption o (seen.ubers ≡ []) (λ m. AreRoots sz (disk first.seen slot) 4 m seen.ubers)) (sym named)
          (subst (λ (s : Stand). AreRoots sz (disk s.seen slot) 4 l seen.ubers) same roots);
      newer = subst (λ (o : Option Label). MatchOption o (seen.newer ≡ None) (λ m. ShowsNewer sz (disk first.seen slot) 4 m.guid seen.newer)) (sym named)
          (subst (λ (s : Stand). ShowsNewer sz (disk s.seen slot) 4 l.guid seen.newer) same newer);
    })

-- what was seen with a label
pub small_with : (size sz : ℕ) (l : Label) (found : Option Label) (r : Result Seen ScanErr) → sz ≡ size → found ≡ Some l → IfSome found (IsOwnLabel sz) → IfOk r (λ seen. seen.label ≡ Some l) →
    IfOk r (λ seen. (u : Uber) → Contains seen.ubers u → IsOwnRoot l u) → IfOk r (λ seen. length seen.ubers ≤ 128) → IfOk r (IsSmallAndLawful size)
small_with size sz l found (Err e) size_is is label named own few = tt
small_with size sz l found (Ok seen) size_is is label named own few = record {
  label = subst (λ (n : ℕ). IfSome seen.label (IsOwnLabel n)) size_is (subst (λ (o : Option Label). IfSome o (IsOwnLabel sz)) (is ∙ sym named) label);
  roots = subst (λ (o : Option Label). MatchOption o (seen.ubers ≡ []) (λ m. (u : Uber) → Contains seen.ubers u → IsOwnRoot m u)) (sym named) own;
  newer = subst (λ (o : Option Label). IfNone o (seen.newer ≡ None)) (sym named) tt;
  few = few;
}
