-- Behind a root that was put into their rings something is seen of the slots.
use Rattle.std.proofs.Common.{◌≡◌, ◌≢◌, ◌⊎◌, inl, inr, ℕ, zero, suc, ◌+◌, ◌^◌, ◌<◌, Bool, true, false, List, [], ◌∷◌, ◌++◌, codes, drop, take, length, map, Option, Some, None, refl, sym, ◌∙◌, ap, subst, arith}
use Rattle.std.specs.Prelude.{Contains, MatchOption}
use Rattle.std.specs.Str.{bytes_eq}
use Rattle.std.proofs.lemmas.Bool.{cases_eq, cases_lt}
use Rattle.std.proofs.lemmas.Bool.Decides.{not_from_Decides}
use Rattle.std.proofs.lemmas.Slice.Eq.{bytes_eq-Decides}
use Rattle.sha2.specs.Sha256.{sha256}
use Rattle.zr_base.specs.Readers.{Reads}
use Rattle.zr_base.specs.Words.{words}
use Rattle.zr_bptr.proofs.Spelled.{word_back}
use Rattle.zr_bptr.specs.Fields.{word_at}
use Rattle.zr_image.specs.Current.{ShowsAll, seen_at}
use Rattle.zr_label.proofs.Ubers.{one_uber}
use Rattle.zr_label.specs.Blocks.{IsUber, SpellsUber, uber_block}
use Rattle.zr_label.specs.Geometry.{slot_of}
use Rattle.zr_label.specs.declared.root.Label.{Label}
use Rattle.zr_label.specs.declared.root.Newer.{Newer}
use Rattle.zr_label.specs.declared.root.Seen.{Seen}
use Rattle.zr_label.specs.declared.root.Uber.{Uber}
use Rattle.zr_rules.specs.Places.{is_gone}
use Rattle.zr_scan.proofs.Gathering.{newer_more, newest_more, no_newer_yet, none_newer_yet}
use Rattle.zr_scan.specs.Puts.{ring_at}
use Rattle.zr_scan.specs.Rings.{IsLater, IsNewerAt, IsNewerOf, in_ring}
use Rattle.zr_scan.specs.Scan.{AreRoots, IsRootFor, Shows, ShowsLabel, ShowsNewer, Stands, block_of, ring_block, row_of}
use Rattle.zr_shelf.specs.Disks.{disk, part}
use Rattle.zr_shelf.specs.Moments.{World}
use Rattle.zr_sync.specs.Commits.{IsNextRoot, IsShownFrom}
use Rattle.zr_sync.specs.Pools.{IsOpen}
use Rattle.zr_sync.specs.Writes.{WritesIntoFree}
use Rattle.zr_sync.specs.declared.open.OpenPool.{OpenPool}
use Rattle.zr_current.proofs.Committed.{commit_current, puts}
use Rattle.zr_current.proofs.Kept.{all_shown, label_is}
use Rattle.zr_current.proofs.Put.{long_seen, shows_at}
use Rattle.zr_current.specs.Current.{GoesOnFrom, IsCurrentOn, IsShownFor}
use Rattle.zr_current.specs.Next.{PutsRoot}

-- ---- what can be told

-- it is so, or it is not
abbrev Or : Type 0 → Type 0
Or P = P ⊎ ¬ P

and_or : {P Q : Type 0} → Or P → Or Q → Or (P × Q)
and_or (inl p) (inl q) = inl (p, q)
and_or (inl p) (inr not) = inr (λ h. not h.1)
and_or (inr not) o = inr (λ h. not h.0)

less_or : (n m : ℕ) → Or (n < m)
less_or n m = elim (cases_lt n m) [
  | inl lt ↦ inl lt
  | inr le ↦ inr (λ lt. omega (arith, le, lt))
]

not_or : {P : Type 0} → Or P → Or (¬ P)
not_or (inl p) = inr (λ not. not p)
not_or (inr not) = inl not

same_or : (xs ys : List ℕ) → Or (xs ≡ ys)
same_or xs ys = by_test (bytes_eq xs ys) refl
  where
    by_test : (b : Bool) → bytes_eq xs ys ≡ b → Or (xs ≡ ys)
    by_test true is = inl ((bytes_eq-Decides xs ys).0 is)
    by_test false is = inr (not_from_Decides (bytes_eq xs ys) (bytes_eq-Decides xs ys) is)

false_or : (b : Bool) → Or (b ≡ false)
false_or true = inr (λ e. cc)
false_or false = inl refl

-- ---- roots of an unknown version

abbrev begin : ℕ → ℕ → ℕ → List ℕ
begin version txg guid = codes "zr-uber1" ++ words (version ∷ txg ∷ guid ∷ [])

-- what stands in the places of its fields is such a root
abbrev IsNewerBlock : List ℕ → ℕ → ℕ → ℕ → ℕ → Type 0
IsNewerBlock block k guid v t = ((v ≢ 1) × (v ≢ 2)) × ((v < 2 ^ 64) × (t < 2 ^ 64)) × ((block ≡ begin v t guid ++ drop 32 block) × (drop 4064 block ≡ sha256 (take 4064 block))) × (slot_of t ≡ k)

newer_block_or : (block : List ℕ) (k guid v t : ℕ) → Or (IsNewerBlock block k guid v t)
newer_block_or block k guid v t = four
    (and_or (not_or (cases_eq v 1)) (not_or (cases_eq v 2)))
    (and_or (less_or v (2 ^ 64)) (less_or t (2 ^ 64)))
    (and_or (same_or block (begin v t guid ++ drop 32 block)) (same_or (drop 4064 block) (sha256 (take 4064 block))))
    (cases_eq (slot_of t) k)
  where
    four : {A B C D : Type 0} → Or A → Or B → Or C → Or D → Or (A × B × C × D)
    four (inl a) (inl b) (inl c) (inl d) = inl (a, b, c, d)
    four (inr not) b c d = inr (λ h. not h.0)
    four (inl a) (inr not) c d = inr (λ h. not h.1)
    four (inl a) (inl b) (inr not) d = inr (λ h. not h.2)
    four (inl a) (inl b) (inl c) (inr not) = inr (λ h. not h.3)

newer_fields : (block : List ℕ) (k guid : ℕ) (x : Newer) → IsNewerAt block k guid x → IsNewerBlock block k guid (word_at block 8) (word_at block 16)
newer_fields block k guid x h =
    let s = h.spelled in
    let version : word_at block 8 ≡ x.version = ap (λ (t : List ℕ). word_at t 8) s.spelling ∙ word_back x.version (drop 16 (begin x.version x.txg guid ++ s.rest)) s.version_fits in
    let txg : word_at block 16 ≡ x.txg = ap (λ (t : List ℕ). word_at t 16) s.spelling ∙ word_back x.txg (drop 24 (begin x.version x.txg guid ++ s.rest)) s.txg_fits in
    let behind : drop 32 block ≡ s.rest = ap (drop 32) s.spelling in
    let whole : IsNewerBlock block k guid x.version x.txg = (s.unknown, (s.version_fits, s.txg_fits), (s.spelling ∙ ap (λ (r : List ℕ). begin x.version x.txg guid ++ r) (sym behind), s.sum), h.place) in
    subst (λ (v : ℕ). IsNewerBlock block k guid v (word_at block 16)) (sym version) (subst (λ (t : ℕ). IsNewerBlock block k guid x.version t) (sym txg) whole)

-- a block is such a root, or none
newer_in : (block : List ℕ) (k guid : ℕ) → (o : Option Newer) × Reads (IsNewerAt block k guid) o
newer_in block k guid = elim (newer_block_or block k guid (word_at block 8) (word_at block 16)) [
  | inl is ↦ (
    Some (record { version = word_at block 8; txg = word_at block 16 }),
    record { spelled = record { unknown = is.0; version_fits = is.1.0; txg_fits = is.1.1; rest = drop 32 block; spelling = is.2.0; sum = is.2.1 }; place = is.3 },
  )
  | inr none ↦ (None, λ x h. none (newer_fields block k guid x h))
]

later_of : (old found : Option Newer) → (new : Option Newer) × IsLater old found new
later_of None found = (found, refl)
later_of (Some o) None = (Some o, refl)
later_of (Some o) (Some x) = elim (cases_lt o.txg x.txg) [
  | inl lt ↦ (Some x, inl (lt, refl))
  | inr le ↦ (Some o, inr (le, refl))
]

newest_in_ring : (ring : List ℕ) (guid : ℕ) (old : Option Newer) (k : ℕ) → (new : Option Newer) × IsNewerOf ring k guid old new
newest_in_ring ring guid old zero = (old, none_newer_yet ring guid old)
newest_in_ring ring guid old (suc k) =
    let before = newest_in_ring ring guid old k in
    let here = newer_in (in_ring ring k) k guid in
    let now = later_of before.0 here.0 in
    let next : k + 1 ≡ suc k = omega arith in
    (now.0, subst (λ (n : ℕ). IsNewerOf ring n guid old now.0) next (newer_more ring guid old k before.0 here.0 now.0 before.1 here.1 now.1))

-- the first rings have a newest one, or none
newest_in : (size : ℕ) (bytes : List ℕ) (guid n : ℕ) → (o : Option Newer) × ShowsNewer size bytes n guid o
newest_in size bytes guid zero = (None, no_newer_yet size bytes guid)
newest_in size bytes guid (suc n) =
    let before = newest_in size bytes guid n in
    let ring = part bytes (ring_at size n) 131072 in
    let now = newest_in_ring ring guid before.0 32 in
    let next : n + 1 ≡ suc n = omega arith in
    (now.0, subst (λ (m : ℕ). ShowsNewer size bytes m guid now.0) next (newest_more size bytes n guid ring refl before.0 now.0 before.1 now.1))

-- ---- roots

root_for_or : (l : Label) (v : Uber) → Or (IsRootFor l v)
root_for_or l v = elim (and_or (and_or (cases_eq v.guid l.guid) (less_or l.index v.count)) (and_or (cases_eq (row_of l v).added l.added) (false_or (is_gone (row_of l v).state)))) [
  | inl is ↦ inl (record { pool = is.0.0; index = is.0.1; added = is.1.0; concrete = is.1.1 })
  | inr not ↦ inr (λ h. not ((h.pool, h.index), (h.added, h.concrete)))
]

stands_or : (size : ℕ) (bytes : List ℕ) (v : Uber) → IsUber v → (n : ℕ) → Or ((k : ℕ) × (k < n) × Stands size bytes k v)
stands_or size bytes v lawful zero = inr (λ h. let lt = h.1 in omega (arith, lt))
stands_or size bytes v lawful (suc n) = elim (stands_or size bytes v lawful n) [
  | inl is ↦ inl (is.0, (let lt = is.1 in omega (arith, lt)), is.2)
  | inr none ↦ elim (same_or (ring_block size bytes n (slot_of v.txg)) (uber_block v)) [
    | inl same ↦ inl (n, omega arith, record { lawful = lawful; spelling = same })
    | inr other ↦ inr (λ h. elim (cases_lt h.0 n) [
      | inl lt ↦ none (h.0, lt, h.2)
      | inr le ↦ other (let lt = h.1 in let same : h.0 ≡ n = omega (arith, lt, le) in ap (λ (k : ℕ). ring_block size bytes k (slot_of v.txg)) (sym same) ∙ h.2.spelling)
    ])
  ]
]

-- those of which it is so, and no others
record Picks (P : Uber → Type 0) (vs ys : List Uber) : Type 0 where
  pub each : (v : Uber) → Contains ys v → P v
  pub all : (v : Uber) → Contains vs v → P v → Contains ys v

pick : (P : Uber → Type 0) (vs : List Uber) → ((v : Uber) → Contains vs v → Or (P v)) → (ys : List Uber) × Picks P vs ys
pick P [] told = ([], record { each = λ v has. absurd (let lt = has.1 in omega (arith, lt)); all = λ v has p. has })
pick P (x ∷ vs) told = by_first (told x (zero, omega arith, refl)) (pick P vs (λ v has. told v (behind v has)))
  where
    behind : (v : Uber) → Contains vs v → Contains (x ∷ vs) v
    behind v has = (suc has.0, (let lt = has.1 in omega (arith, lt)), has.2)

    more : (ys : List Uber) (v : Uber) → Contains ys v → Contains (x ∷ ys) v
    more ys v has = (suc has.0, (let lt = has.1 in omega (arith, lt)), has.2)

    with_first : P x → (ys : List Uber) → Picks P vs ys → Picks P (x ∷ vs) (x ∷ ys)
    with_first p ys rest = record { each = each; all = all }
      where
        each : (v : Uber) → Contains (x ∷ ys) v → P v
        each v (zero, lt, is) = subst P is p
        each v (suc i, lt, is) = rest.each v (i, omega (arith, lt), is)

        all : (v : Uber) → Contains (x ∷ vs) v → P v → Contains (x ∷ ys) v
        all v (zero, lt, is) q = (zero, omega arith, is)
        all v (suc i, lt, is) q = more ys v (rest.all v (i, omega (arith, lt), is) q)

    without : ¬ P x → (ys : List Uber) → Picks P vs ys → Picks P (x ∷ vs) ys
    without not ys rest = record { each = rest.each; all = all }
      where
        all : (v : Uber) → Contains (x ∷ vs) v → P v → Contains ys v
        all v (zero, lt, is) q = absurd (not (subst P (sym is) q))
        all v (suc i, lt, is) q = rest.all v (i, omega (arith, lt), is) q

    by_first : Or (P x) → (r : (ys : List Uber) × Picks P vs ys) → (ys : List Uber) × Picks P (x ∷ vs) ys
    by_first (inl p) r = (x ∷ r.0, with_first p r.0 r.1)
    by_first (inr not) r = (r.0, without not r.0 r.1)

-- ---- one slot

module _ (size : ℕ) (b a : List ℕ) (u : Uber) (lawful : IsUber u) (labels : (n : ℕ) → n < 4 → block_of size a n ≡ block_of size b n)
    (rings : (n k : ℕ) → n < 4 → k < 32 → (ring_block size a n k ≡ ring_block size b n k) ⊎ ((k ≡ slot_of u.txg) × (ring_block size a n k ≡ uber_block u))) where
  -- the roots that stand there now are among those that were seen, and this one
  module _ (l : Label) (vs : List Uber) (had : AreRoots size b 4 l vs) where
    abbrev IsThere : Uber → Type 0
    IsThere v = IsRootFor l v × ((k : ℕ) × (k < 4) × Stands size a k v)

    lawful_one : (v : Uber) → Contains (u ∷ vs) v → IsUber v
    lawful_one v (zero, lt, is) = subst IsUber is lawful
    lawful_one v (suc i, lt, is) = (had.each v (i, omega (arith, lt), is)).3.lawful

    abbrev picked : (ys : List Uber) × Picks IsThere (u ∷ vs) ys
    picked = pick IsThere (u ∷ vs) (λ v has. and_or (root_for_or l v) (stands_or size a v (lawful_one v has) 4))

    behind : (v : Uber) → Contains vs v → Contains (u ∷ vs) v
    behind v has = (suc has.0, (let lt = has.1 in omega (arith, lt)), has.2)

    seen_before : (v : Uber) (k : ℕ) → k < 4 → Stands size a k v → IsRootFor l v → Contains (u ∷ vs) v
    seen_before v k lt stands suits = elim (rings k (slot_of v.txg) lt (omega arith)) [
      | inl same ↦ behind v (had.all v k lt (subst (λ (block : List ℕ). SpellsUber block v) same stands) suits)
      | inr put ↦
          let one : v ≡ u = one_uber (uber_block u) v u (subst (λ (block : List ℕ). SpellsUber block v) put.1 stands) (record { lawful = lawful; spelling = refl }) in
          (zero, omega arith, sym one)
    ]

    now_roots : AreRoots size a 4 l picked.0
    now_roots = record {
      each = λ v has. let there = picked.1.each v has in (there.0, there.1.0, there.1.1, there.1.2);
      all = λ v k lt stands suits. picked.1.all v (seen_before v k lt stands suits) (suits, (k, lt, stands));
    }

  by_label : (o : Option Label) (vs : List Uber) → ShowsLabel size b o → MatchOption o (vs ≡ []) (λ l. AreRoots size b 4 l vs) → (y : Seen) × Shows size a y
  by_label None vs label roots = (record { label = None; ubers = []; newer = None }, record { label = label_is size b a labels None label; roots = refl; newer = refl })
  by_label (Some l) vs label roots =
      let newest = newest_in size a l.guid 4 in
      (record { label = Some l; ubers = (picked l vs roots).0; newer = newest.0 }, record { label = label_is size b a labels (Some l) label; roots = now_roots l vs roots; newer = newest.1 })

  -- what is seen of the slot
  shows_then : (x : Seen) → Shows size b x → (y : Seen) × Shows size a y
  shows_then x shows = by_label x.label x.ubers shows.label shows.roots

-- ---- all slots

-- a list of what is seen of each
build : (n : ℕ) (P : ℕ → Seen → Type 0) → ((slot : ℕ) → slot < n → (y : Seen) × P slot y) → (ys : List Seen) × (length ys ≡ n) × ((slot : ℕ) → slot < n → P slot (seen_at ys slot))
build zero P each = ([], refl, λ slot lt. absurd (omega (arith, lt)))
build (suc n) P each = joined (each zero (omega arith)) (build n (λ slot y. P (suc slot) y) (λ slot lt. each (suc slot) (omega (arith, lt))))
  where
    joined : (first : (y : Seen) × P zero y) → (rest : (ys : List Seen) × (length ys ≡ n) × ((slot : ℕ) → slot < n → P (suc slot) (seen_at ys slot))) → (ys : List Seen) × (length ys ≡ suc n) × ((slot : ℕ) → slot < suc n → P slot (seen_at ys slot))
    joined first rest = (first.0 ∷ rest.0, (let n = rest.1 in omega (arith, n)), at)
      where
        at : (slot : ℕ) → slot < suc n → P slot (seen_at (first.0 ∷ rest.0) slot)
        at zero lt = first.1
        at (suc slot) lt = rest.2 slot (omega (arith, lt))

all_then : (before after : List (List ℕ)) (u : Uber) → IsUber u → PutsRoot before after u → (seen : List Seen) → ShowsAll before seen → (next : List Seen) × ShowsAll after next
all_then before after u lawful puts_it seen shown =
    let all = build (length after) (λ slot y. Shows (length (disk after slot)) (disk after slot) y) each in
    (all.0, all_shown after all.0 all.1 (λ slot lt. all.2 slot (let n = all.1 in omega (arith, n, lt))))
  where
    each : (slot : ℕ) → slot < length after → (y : Seen) × Shows (length (disk after slot)) (disk after slot) y
    each slot lt =
        let had = shows_at before seen shown slot (let n = long_seen before seen shown in let m = puts_it.count in omega (arith, n, m, lt)) in
        let has = shows_then (length (disk before slot)) (disk before slot) (disk after slot) u lawful (λ n few. puts_it.labels slot n few) (λ n k few low. puts_it.rings slot n k few low) (seen_at seen slot) had in
        (has.0, subst (λ (size : ℕ). Shows size (disk after slot) has.0) (sym (puts_it.sizes slot)) has.1)

-- ---- a commit

-- the slots show its root
pub commit_shown : (sizes : List ℕ) (pool : OpenPool) (reset : Bool) (last u : Uber) (before mid now : World) → IsOpen sizes pool → GoesOnFrom last pool → map length before.now.seen ≡ sizes → IsShownFor before.now.seen last pool
    → IsUber u → IsNextRoot pool reset u → WritesIntoFree pool before mid → IsShownFrom sizes pool u mid now → IsShownFor now.now.seen u pool
commit_shown sizes pool reset last u before mid now ready from sized was lawful next wrote shown =
    let seen = all_then before.now.seen now.now.seen u lawful (puts sizes pool reset last u before mid now ready from sized lawful next wrote shown) was.seen was.shown in
    let is : IsCurrentOn now.now.seen u pool = commit_current sizes pool reset last u before mid now ready from sized lawful next wrote shown was.seen was.shown was.current was.slots in
    record { seen = seen.0; shown = seen.1; current = is.current seen.0 seen.1; slots = is.slots seen.0 seen.1 }
