-- What the giving back of a block that may be stored leaves alone.
use Rattle.std.proofs.Common.{◌≡◌, ℕ, ◌≤◌, Bool, true, false, List, Option, inl, inr, sym, ap, subst, arith}
use Rattle.std.specs.Map.{remove_entry}
use Rattle.zr_bptr.specs.declared.Bptr.{Bptr}
use Rattle.zr_shelf.specs.Counts.{Counts}
use Rattle.zr_shelf.specs.Moments.{World}
use Rattle.zr_chain.proofs.Ways.{cases_bool}
use Rattle.zr_rules.specs.Space.{Space}
use Rattle.zr_rules.specs.Columns.{free_units}
use Rattle.zr_rules.specs.Equation.{devices_in}
use Rattle.zr_cache.specs.declared.table.Cache.{Cache}
use Rattle.zr_cache.specs.Entries.{entries, is_key, capacity}
use Rattle.zr_vdev.specs.declared.kind.Kind.{Kind}
use Rattle.zr_vdev.specs.Alike.{CopiesStand}
use Rattle.zr_vdev.specs.Caches.{AreRead}
use Rattle.zr_vdev.specs.Puts.{GivesBack}
use Rattle.zr_vdev.specs.Stores.{IsInUse, KeepsOthers, Continues}
use Rattle.zr_vdev.proofs.Alike.{copies_stay, given_no_copy}
use Rattle.zr_vdev.proofs.Held.{read_same}
use Rattle.zr_vdev.proofs.Follows.{others_itself, gives_others, gives_room, give_devices, read_forgotten, space_step}

-- what follows from either answer
on_bool : {X : Type 0} (b : Bool) → (b ≡ true → X) → (b ≡ false → X) → X
on_bool b at_true at_false = elim (cases_bool b) [ inl is ↦ at_true is | inr is ↦ at_false is ]

-- the address goes and its place in the cache, if the answer is yes; else nothing changes
module _ (kind : Kind) (s t : Space) (c d : Cache) (b : Bptr) (given : Bool) (none : given ≡ false → (t ≡ s) × (d ≡ c)) (gives : given ≡ true → GivesBack kind s t b.at b.birth) (used : given ≡ true → IsInUse kind s b.at) where
  pub given_others : KeepsOthers kind s t
  given_others = on_bool given (λ is. gives_others kind s t b.at b.birth (used is) (gives is)) (λ is. subst (KeepsOthers kind s) (sym (none is).0) (others_itself kind s))

  pub given_devices : devices_in t ≡ devices_in s
  given_devices = on_bool given (λ is. give_devices kind s t b.at b.birth (gives is)) (λ is. ap (λ (x : Space). devices_in x) (none is).0)

  pub given_room : free_units s ≤ free_units t
  given_room = on_bool given (λ is. gives_room kind s t b.at b.birth (gives is)) (λ is. let e = ap (λ (x : Space). free_units x) (none is).0 in omega (arith, e))

  pub given_read : (disks : List (List ℕ)) (slots : List (Option ℕ)) → (given ≡ true → entries d ≡ remove_entry (is_key b) (entries c)) → AreRead disks slots s c → AreRead disks slots t d
  given_read disks slots left read = on_bool given
      (λ is. read_forgotten disks slots t c d b (left is) (read_same disks slots s t c given_devices read))
      (λ is. subst (λ (x : Cache). AreRead disks slots t x) (sym (none is).1) (subst (λ (x : Space). AreRead disks slots x c) (sym (none is).0) read))

  pub given_copies : (disks : List (List ℕ)) (slots : List (Option ℕ)) → CopiesStand disks slots s → CopiesStand disks slots t
  given_copies disks slots stand = on_bool given
      (λ is. copies_stay disks slots s t (given_no_copy kind s t b.at b.birth (gives_others kind s t b.at b.birth (used is) (gives is)) (gives is)) stand)
      (λ is. subst (λ (x : Space). CopiesStand disks slots x) (sym (none is).0) stand)

  pub given_step : (slots : List (Option ℕ)) (sizes : List ℕ) (counts : Counts) (told : Type 0) (world : World) → (given ≡ true → entries d ≡ remove_entry (is_key b) (entries c)) → capacity d ≡ capacity c
      → Continues kind slots sizes sizes counts counts told told world world s t c d
  given_step slots sizes counts told world left room = space_step kind slots sizes counts told world s t c d given_others (λ disks read. given_read disks slots left read) (λ disks stand. given_copies disks slots stand) room
