-- What is written to a slot that has no device leaves the bytes of each address.
use Rattle.std.proofs.Common.{◌≡◌, ◌≢◌, ◌∙◌, inl, inr, ℕ, zero, suc, ◌-◌, List, [], ◌∷◌, Option, None, Some, Result, Ok, Err, refl, sym, ap}
use Rattle.std.specs.Prelude.{Contains}
use Rattle.std.specs.List.{flat_map}
use Rattle.std.proofs.Math.Path.{fun_ext}
use Rattle.zr_base.specs.declared.space.Dva.{Dva}
use Rattle.zr_label.specs.Blocks.{label_block, padding}
use Rattle.zr_label.specs.Geometry.{unit_at}
use Rattle.zr_label.specs.declared.root.Label.{Label}
use Rattle.zr_rules.specs.Devices.{Devices}
use Rattle.zr_rules.specs.Places.{Place}
use Rattle.zr_rules.specs.Resolve.{resolved_units}
use Rattle.zr_scan.specs.Puts.{puts, label_place, ring_places}
use Rattle.zr_scan.specs.declared.error.ScanErr.{ScanErr}
use Rattle.zr_scan.proofs.Putting.{rest_same}
use Rattle.zr_shelf.specs.Disks.{Stand, IsUntouched, disk, part}
use Rattle.zr_shelf.specs.Doings.{WritesOnly}
use Rattle.zr_shelf.specs.Moments.{World}
use Rattle.zr_slots.specs.Phases.{IsFlushed, IsRingPut, IsLabelPut, Prepares, PutsLast, SettlesLabel}
use Rattle.zr_view.specs.Views.{slot_of, unit_bytes, place_bytes, address_bytes}
use Rattle.zr_create.proofs.Taken.{IsFree}

-- each disk but the one in this slot has its bytes
abbrev pub KeepsOtherDisks : ℕ → List (List ℕ) → List (List ℕ) → Type 0
KeepsOtherDisks slot before now = (other at n : ℕ) → other ≢ slot → part (disk now other) at n ≡ part (disk before other) at n

-- ---- what is written to one slot

untouched_others : (slot : ℕ) (bytes : List ℕ) (places : List ℕ) (other at n : ℕ) → other ≢ slot → IsUntouched (puts slot places bytes) other at n
untouched_others slot bytes [] other at n ne = tt
untouched_others slot bytes (p ∷ places) other at n ne = (λ met. ne (sym met.same), untouched_others slot bytes places other at n ne)

puts_beside : (slot : ℕ) (places bytes : List ℕ) (a b : World) → WritesOnly (Contains (puts slot places bytes)) a b → KeepsOtherDisks slot a.now.seen b.now.seen
puts_beside slot places bytes a b writes other at n ne = (rest_same (puts slot places bytes) a b writes).bytes other at n (untouched_others slot bytes places other at n ne)

rings_beside : (size slot : ℕ) (a b : World) → WritesOnly (IsRingPut size slot) a b → KeepsOtherDisks slot a.now.seen b.now.seen
rings_beside size slot a b writes = puts_beside slot (ring_places size) (padding 131072) a b writes

label_beside : (size slot n : ℕ) (l : Label) (a b : World) → WritesOnly (IsLabelPut size slot n l) a b → KeepsOtherDisks slot a.now.seen b.now.seen
label_beside size slot n l a b writes = puts_beside slot (label_place size n) (label_block l) a b writes

flush_beside : (slot : ℕ) (a b : World) → IsFlushed a b → KeepsOtherDisks slot a.now.seen b.now.seen
flush_beside slot a b flush other at n ne = ap (λ (s : Stand). part (disk s.seen other) at n) flush.step

more_beside : (slot : ℕ) (a b c : List (List ℕ)) → KeepsOtherDisks slot a b → KeepsOtherDisks slot b c → KeepsOtherDisks slot a c
more_beside slot a b c p q other at n ne = q other at n ne ∙ p other at n ne

-- as many label blocks as were put
settled_beside : (size slot n : ℕ) (l : Label) (a b : World) → SettlesLabel size slot n l (Ok tt) a b → KeepsOtherDisks slot a.now.seen b.now.seen
settled_beside size slot n l a b (put, wrote, flush, stands) = more_beside slot a.now.seen put.now.seen b.now.seen (label_beside size slot n l a put wrote) (flush_beside slot put b flush)

last_beside : (size slot k : ℕ) (l : Label) (a b : World) → PutsLast size slot k l a b → KeepsOtherDisks slot a.now.seen b.now.seen
last_beside size slot zero l a b is = λ other at n ne. ap (λ (w : World). part (disk w.now.seen other) at n) is
last_beside size slot (suc k) l a b (mid, last, step) = more_beside slot a.now.seen mid.now.seen b.now.seen (last_beside size slot k l a mid last) (settled_beside size slot (3 - k) l mid b step)

-- a slot that is prepared leaves all other disks
pub prepared_beside : (size slot : ℕ) (l : Label) (r : Result (Unit {0}) ScanErr) (a b : World) → Prepares size slot l r a b → KeepsOtherDisks slot a.now.seen b.now.seen
prepared_beside size slot l (Ok done) a b p =
    more_beside slot a.now.seen p.cleared.now.seen b.now.seen (rings_beside size slot a p.cleared p.rings)
    (more_beside slot p.cleared.now.seen p.first.now.seen b.now.seen (flush_beside slot p.cleared p.first p.between) (last_beside size slot 4 l p.first b p.labels))
prepared_beside size slot l (Err e) a b (inl p) = rings_beside size slot a b p
prepared_beside size slot l (Err e) a b (inr p) =
    more_beside slot a.now.seen p.cleared.now.seen b.now.seen (rings_beside size slot a p.cleared p.rings)
    (more_beside slot p.cleared.now.seen p.first.now.seen b.now.seen (flush_beside slot p.cleared p.first p.between)
    (more_beside slot p.first.now.seen p.mid.now.seen b.now.seen (last_beside size slot p.k l p.first p.mid p.last) (label_beside size slot (3 - p.k) l p.mid b p.labels)))

-- ---- addresses

abbrev some_slot : ℕ → Option ℕ
some_slot n = Some n

-- where no device is in the slot, each address has its bytes
pub address_beside : (slots : List (Option ℕ)) (slot : ℕ) → IsFree slots slot → (ds : Devices) (before now : List (List ℕ)) → KeepsOtherDisks slot before now
    → (a : Dva) → address_bytes (record { disks = now; slots = slots; devices = ds }) a ≡ address_bytes (record { disks = before; slots = slots; devices = ds }) a
address_beside slots slot free ds before now kept a = ap (λ (f : Option Place → List ℕ). flat_map f (resolved_units ds a)) (fun_ext place_same)
  where
    unit_same : (d u : ℕ) → unit_bytes now (slot_of slots d) u ≡ unit_bytes before (slot_of slots d) u
    unit_same d u = (elim (slot_of slots d) as (λ (o : Option ℕ). slot_of slots d ≡ o → unit_bytes now o u ≡ unit_bytes before o u) [
      | None ↦ λ is. refl
      | Some other ↦ λ is. kept other (unit_at u) 4096 (λ same. free d (is ∙ ap (λ (n : ℕ). some_slot n) same))
    ]) refl

    place_same : (o : Option Place) → place_bytes (record { disks = now; slots = slots; devices = ds }) o ≡ place_bytes (record { disks = before; slots = slots; devices = ds }) o
    place_same None = refl
    place_same (Some p) = unit_same p.0 p.1
