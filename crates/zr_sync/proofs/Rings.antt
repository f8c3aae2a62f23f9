-- A root is written beside the units of all devices.
use Rattle.std.proofs.Common.{◌≡◌, ◌∙◌, ℕ, zero, suc, ◌+◌, ◌-◌, ◌<◌, ◌≤◌, Bool, true, false, nat_lt, List, [], ◌∷◌, ◌++◌, length, Option, Some, None, Result, Ok, Err, inl, inr, refl, sym, ap, subst, arith}
use Rattle.std.specs.Prelude.{◌&&◌, if◌then◌else◌, map, option_and_then, slice_index}
use Rattle.std.specs.List.{flat_map}
use Rattle.std.proofs.lemmas.Bool.Decides.{nat_tests}
use Rattle.std.proofs.lemmas.List.{length-append, length-replicate}
use Rattle.sha2.specs.Sha256.{sha256}
use Rattle.sha2.proofs.Facts256.{length-sha256}
use Rattle.zr_base.specs.declared.space.Dva.{Dva}
use Rattle.zr_bptr.specs.Spelling.{pointer_bytes}
use Rattle.zr_bptr.proofs.Pieces.{pointer_long}
use Rattle.zr_label.specs.Blocks.{IsLabel, IsUber, label_block, label_words, uber_block, uber_words, row_bytes, summed, padding}
use Rattle.zr_label.specs.Geometry.{label_at, ring_slot_at, slot_of, unit_at}
use Rattle.zr_label.specs.declared.root.Label.{Label}
use Rattle.zr_label.specs.declared.root.Uber.{Uber}
use Rattle.zr_label.proofs.RowLemmas.{table_long}
use Rattle.zr_label.proofs.Ubers.{root_lawful}
use Rattle.zr_rules.specs.Devices.{Devices, state_at}
use Rattle.zr_rules.specs.Mappings.{target}
use Rattle.zr_rules.specs.Places.{Place, is_gone, places_of}
use Rattle.zr_rules.specs.Resolve.{is_there, resolve, resolved}
use Rattle.zr_scan.specs.declared.error.ScanErr.{ScanErr}
use Rattle.zr_scan.specs.Puts.{puts, root_places}
use Rattle.zr_scan.proofs.Putting.{untouched_apart}
use Rattle.zr_shelf.specs.Disks.{Stand, PendingWrite, Meets, disk, part}
use Rattle.zr_shelf.specs.Doings.{Adds, WritesOnly}
use Rattle.zr_shelf.specs.Doings.Adds.{added_none, added}
use Rattle.zr_shelf.specs.Moments.{World}
use Rattle.zr_shelf.proofs.Doings.{added_throughout}
use Rattle.zr_slots.specs.Phases.{IsFlushed, IsRootPut, Publishes}
use Rattle.zr_view.specs.Views as views

-- ---- the block of a root

long_content : (w p r : List ℕ) (n : ℕ) (name : List ℕ) → length w ≡ 128 → length p ≡ 128 → length r ≡ 1024 → length name ≡ 63 → length (w ++ (p ++ (r ++ n ∷ name))) ≡ 1344
long_content w p r n name lw lp lr ln =
    let a = length-append w (p ++ (r ++ n ∷ name)) in
    let b = length-append p (r ++ n ∷ name) in
    let c = length-append r (n ∷ name) in
    omega (arith, a, b, c, lw, lp, lr, ln)

summed_long : (content : List ℕ) → length content ≤ 4064 → length (summed content) ≡ 4096
unfolding summed padding
summed_long content long =
    let zeros = padding (4064 - length content) in
    let body = content ++ zeros in
    let a = length-append content zeros in
    let b = length-replicate {A = ℕ} (4064 - length content) 0 in
    let c = length-append body (sha256 body) in
    let d = length-sha256 body in
    omega (arith, a, b, c, d, long)

summed_block : (content : List ℕ) → length content ≡ 1344 → length (summed content) ≡ 4096
summed_block content long = summed_long content (omega (arith, long))

pub uber_long : (u : Uber) → IsUber u → length (uber_block u) ≡ 4096
unfolding uber_block
uber_long u h =
    summed_block _ (long_content (uber_words u) (pointer_bytes u.root) (flat_map row_bytes u.rows) u.name.len u.name.bytes refl (pointer_long u.root (root_lawful u.root u.len h.root)) (table_long u.rows 32 h.table.size) h.name.size)

front_long : (front : List ℕ) (n : ℕ) (name : List ℕ) → length front ≡ 48 → length name ≡ 63 → length (front ++ n ∷ name) ≤ 4064
front_long front n name a b = let both = length-append front (n ∷ name) in omega (arith, both, a, b)

pub label_long : (l : Label) → IsLabel l → length (label_block l) ≡ 4096
unfolding label_block
label_long l lawful = summed_long (label_words l ++ l.name.len ∷ l.name.bytes) (front_long (label_words l) l.name.len l.name.bytes refl lawful.name.size)

-- ---- where an address leads

there_within : (ds : Devices) (d unit : ℕ) → is_there ds d unit ≡ true → (d < ds.count) × (unit < (ds.row d).units)
there_within ds d unit is = (first (nat_lt unit (ds.row d).units) d ds.count is, second (nat_lt d ds.count) unit (ds.row d).units is)
  where
    first : (b : Bool) (n m : ℕ) → (nat_lt n m && b) ≡ true → n < m
    first b n m is = grind (arith, nat_tests, is)

    second : (a : Bool) (n m : ℕ) → (a && nat_lt n m) ≡ true → n < m
    second a n m is = grind (arith, nat_tests, is)

none_some : (q : Place) → None ≡ Some q → ⊥
none_some q e = cc

some_same : (q r : Place) → Some q ≡ Some r → q ≡ r
some_same q r e = cc

-- a unit leads to one of a device that is there
led : (ds : Devices) (hops d unit : ℕ) (p : Place) → resolve hops ds d unit ≡ Some p → (p.0 < ds.count) × (p.1 < (ds.row p.0).units)
led ds zero d unit p is = absurd (none_some p is)
led ds (suc hops) d unit p is =
    by_state (λ q e. led ds hops q.0 q.1 p e) (is_gone (state_at ds d)) is
  where
    by_target : ((q : Place) → resolve hops ds q.0 q.1 ≡ Some p → (p.0 < ds.count) × (p.1 < (ds.row p.0).units)) → (o : Option Place) → option_and_then (λ (q : Place). resolve hops ds q.0 q.1) o ≡ Some p → (p.0 < ds.count) × (p.1 < (ds.row p.0).units)
    by_target rest None e = absurd (none_some p e)
    by_target rest (Some q) e = rest q e

    by_test : (b : Bool) → is_there ds d unit ≡ b → (if b then Some (d, unit) else None) ≡ Some p → (p.0 < ds.count) × (p.1 < (ds.row p.0).units)
    by_test false t e = absurd (none_some p e)
    by_test true t e = subst (λ (q : Place). (q.0 < ds.count) × (q.1 < (ds.row q.0).units)) (some_same (d, unit) p e) (there_within ds d unit t)

    by_state : ((q : Place) → resolve hops ds q.0 q.1 ≡ Some p → (p.0 < ds.count) × (p.1 < (ds.row p.0).units)) → (b : Bool) → (if b then option_and_then (λ (q : Place). resolve hops ds q.0 q.1) (target (ds.entries d) unit) else (if is_there ds d unit then Some (d, unit) else None)) ≡ Some p → (p.0 < ds.count) × (p.1 < (ds.row p.0).units)
    by_state rest true e = by_target rest (target (ds.entries d) unit) e
    by_state rest false e = by_test (is_there ds d unit) refl e

-- ---- the places of a root

-- the units of each device end before the last two labels of its disk
abbrev pub EndBelowLabels : List ℕ → List (Option ℕ) → Devices → Type 0
EndBelowLabels sizes slots ds = (d slot : ℕ) → d < ds.count → views.slot_of slots d ≡ Some slot → unit_at (ds.row d).units ≤ label_at (slice_index sizes slot) 2

front_clear : (size first txg u slot sl : ℕ) (block : List ℕ) → length block ≡ 4096 → label_at size first + 262144 ≤ 4194304 → ¬ Meets (record { slot = slot; at = ring_slot_at size first (slot_of txg); bytes = block }) sl (unit_at u) 4096
front_clear size first txg u slot sl block long low met = let ends = met.ends in omega (arith, long, low, ends)

end_clear : (size n txg u units slot sl : ℕ) (block : List ℕ) → u < units → unit_at units ≤ label_at size 2 → label_at size 2 ≤ label_at size n → ¬ Meets (record { slot = slot; at = ring_slot_at size n (slot_of txg); bytes = block }) sl (unit_at u) 4096
end_clear size n txg u units slot sl block lt below low met = let begins = met.begins in omega (arith, lt, below, low, begins)

module _ (sizes : List ℕ) (slots : List (Option ℕ)) (ds : Devices) (below : EndBelowLabels sizes slots ds) (u : Uber) (lawful : IsUber u) where
  pub put_clear : (places : List ℕ) (first : ℕ) → ((size : ℕ) → label_at size first + 262144 ≤ 4194304) → ((size : ℕ) → label_at size 2 ≤ label_at size (first + 2))
      → (d unit sl : ℕ) → d < ds.count → unit < (ds.row d).units → views.slot_of slots d ≡ Some sl → (w : PendingWrite) → IsRootPut sizes places first u w → ¬ Meets w sl (unit_at unit) 4096
  put_clear places first front end d unit sl known inside there w put =
      let block = uber_block u in
      let size = slice_index sizes put.slot in
      untouched_apart (puts put.slot (root_places size first u.txg) block) w sl (unit_at unit) 4096 (
        front_clear size first u.txg unit put.slot sl block (uber_long u lawful) (front size),
        ((λ met. end_clear size (first + 2) u.txg unit (ds.row d).units put.slot sl block inside (subst (λ (s : ℕ). unit_at (ds.row d).units ≤ label_at (slice_index sizes s) 2) (sym met.same) (below d sl known there)) (end size) met), tt),
      ) put.put

  -- ---- units that stay

  -- each unit of each device has its bytes
  abbrev pub KeepsUnits : List (List ℕ) → List (List ℕ) → Type 0
  KeepsUnits before now = (d unit sl : ℕ) → d < ds.count → unit < (ds.row d).units → views.slot_of slots d ≡ Some sl → part (disk now sl) (unit_at unit) 4096 ≡ part (disk before sl) (unit_at unit) 4096

  puts_keep : (places : List ℕ) (first : ℕ) → ((size : ℕ) → label_at size first + 262144 ≤ 4194304) → ((size : ℕ) → label_at size 2 ≤ label_at size (first + 2)) → (old new : World) → WritesOnly (IsRootPut sizes places first u) old new → KeepsUnits old.now.seen new.now.seen
  puts_keep places first front end old new writes d unit sl known inside there =
      (added_throughout (λ (stand : Stand). part (disk stand.seen sl) (unit_at unit) 4096 ≡ part (disk old.now.seen sl) (unit_at unit) 4096) (IsRootPut sizes places first u) step old new writes refl).1
    where
      step : (a b : Stand) → Adds (IsRootPut sizes places first u) a b → part (disk a.seen sl) (unit_at unit) 4096 ≡ part (disk old.now.seen sl) (unit_at unit) 4096 → part (disk b.seen sl) (unit_at unit) 4096 ≡ part (disk old.now.seen sl) (unit_at unit) 4096
      step a b (added_none is) same = ap (λ (s : Stand). part (disk s.seen sl) (unit_at unit) 4096) is ∙ same
      step a b (added w may written) same = written.seen.bytes sl (unit_at unit) 4096 (put_clear places first front end d unit sl known inside there w may, tt) ∙ same

  first_keep : (places : List ℕ) (old new : World) → WritesOnly (IsRootPut sizes places 0 u) old new → KeepsUnits old.now.seen new.now.seen
  first_keep places old new writes = puts_keep places 0 (λ size. omega arith) (λ size. omega arith) old new writes

  rest_keep : (places : List ℕ) (old new : World) → WritesOnly (IsRootPut sizes places 1 u) old new → KeepsUnits old.now.seen new.now.seen
  rest_keep places old new writes = puts_keep places 1 (λ size. omega arith) (λ size. omega arith) old new writes

  same_keep : (old new : Stand) → new.seen ≡ old.seen → KeepsUnits old.seen new.seen
  same_keep old new same d unit sl known inside there = ap (λ (disks : List (List ℕ)). part (disk disks sl) (unit_at unit) 4096) same

  flush_keep : (old new : World) → IsFlushed old new → KeepsUnits old.now.seen new.now.seen
  flush_keep old new flush = same_keep old.now new.now (ap (λ (s : Stand). s.seen) flush.step)

  more_keep : (a b c : List (List ℕ)) → KeepsUnits a b → KeepsUnits b c → KeepsUnits a c
  more_keep a b c p q d unit sl known inside there = q d unit sl known inside there ∙ p d unit sl known inside there

  half_keep : (both : List ℕ) (a first b : World) → IsFlushed a first → WritesOnly (IsRootPut sizes both 0 u) first b → KeepsUnits a.now.seen b.now.seen
  half_keep both a first b flush wrote = more_keep a.now.seen first.now.seen b.now.seen (flush_keep a first flush) (first_keep both first b wrote)

  most_keep : (both all : List ℕ) (a first half second b : World) → IsFlushed a first → WritesOnly (IsRootPut sizes both 0 u) first half → IsFlushed half second → WritesOnly (IsRootPut sizes all 1 u) second b → KeepsUnits a.now.seen b.now.seen
  most_keep both all a first half second b before wrote between rest =
      more_keep a.now.seen half.now.seen b.now.seen (half_keep both a first half before wrote)
      (more_keep half.now.seen second.now.seen b.now.seen (flush_keep half second between) (rest_keep all second b rest))

  publish_keeps : (both all : List ℕ) (r : Result (Unit {0}) ScanErr) (a b : World) → Publishes sizes both all u r a b → KeepsUnits a.now.seen b.now.seen
  publish_keeps both all (Ok done) a b p =
      more_keep a.now.seen p.whole.now.seen b.now.seen (most_keep both all a p.first p.half p.second p.whole p.before p.wrote p.between p.rest) (flush_keep p.whole b p.behind)
  publish_keeps both all (Err e) a b (inl still) = same_keep a.now b.now (ap (λ (s : Stand). s.seen) still.now)
  publish_keeps both all (Err e) a b (inr (inl p)) = half_keep both a p.first b p.before p.wrote
  publish_keeps both all (Err e) a b (inr (inr p)) = most_keep both all a p.first p.half p.second b p.before p.wrote p.between p.rest

  unit_keeps : (before now : List (List ℕ)) → KeepsUnits before now → (d unit : ℕ) → d < ds.count → unit < (ds.row d).units → views.unit_bytes now (views.slot_of slots d) unit ≡ views.unit_bytes before (views.slot_of slots d) unit
  unit_keeps before now kept d unit known inside = (elim (views.slot_of slots d) as (λ o. views.slot_of slots d ≡ o → views.unit_bytes now o unit ≡ views.unit_bytes before o unit) [
    | None ↦ λ is. refl
    | Some sl ↦ λ is. kept d unit sl known inside is
  ]) refl

  -- a root that is published leaves the bytes of each unit
  pub published_units : (both all : List ℕ) (r : Result (Unit {0}) ScanErr) (old new : World) → Publishes sizes both all u r old new
      → (d unit : ℕ) → d < ds.count → unit < (ds.row d).units → views.unit_bytes new.now.seen (views.slot_of slots d) unit ≡ views.unit_bytes old.now.seen (views.slot_of slots d) unit
  published_units both all r old new p d unit known inside = unit_keeps old.now.seen new.now.seen (publish_keeps both all r old new p) d unit known inside

  -- ---- addresses

  pub address_keeps : (before now : List (List ℕ)) → KeepsUnits before now → (a : Dva) → views.address_bytes (record { disks = now; slots = slots; devices = ds }) a ≡ views.address_bytes (record { disks = before; slots = slots; devices = ds }) a
  address_keeps before now kept a = each (places_of a)
    where
      place_same : (o : Option Place) → ((p : Place) → o ≡ Some p → (p.0 < ds.count) × (p.1 < (ds.row p.0).units)) → views.place_bytes (record { disks = now; slots = slots; devices = ds }) o ≡ views.place_bytes (record { disks = before; slots = slots; devices = ds }) o
      place_same None within = refl
      place_same (Some p) within = let inside = within p refl in unit_keeps before now kept p.0 p.1 inside.0 inside.1

      each : (ps : List Place)
          → flat_map (views.place_bytes (record { disks = now; slots = slots; devices = ds })) (map (λ (p : Place). resolved ds p.0 p.1) ps)
          ≡ flat_map (views.place_bytes (record { disks = before; slots = slots; devices = ds })) (map (λ (p : Place). resolved ds p.0 p.1) ps)
      each [] = refl
      each (p ∷ ps) =
          ap (λ (l : List ℕ). l ++ flat_map (views.place_bytes (record { disks = now; slots = slots; devices = ds })) (map (λ (q : Place). resolved ds q.0 q.1) ps)) (place_same (resolved ds p.0 p.1) (λ q is. led ds ds.count p.0 p.1 q is))
          ∙ ap (λ (l : List ℕ). views.place_bytes (record { disks = before; slots = slots; devices = ds }) (resolved ds p.0 p.1) ++ l) (each ps)

  -- a root that is published leaves the bytes of each address
  pub published_keeps : (both all : List ℕ) (r : Result (Unit {0}) ScanErr) (old new : World) → Publishes sizes both all u r old new
      → (a : Dva) → views.address_bytes (record { disks = new.now.seen; slots = slots; devices = ds }) a ≡ views.address_bytes (record { disks = old.now.seen; slots = slots; devices = ds }) a
  published_keeps both all r old new p a = address_keeps old.now.seen new.now.seen (publish_keeps both all r old new p) a
