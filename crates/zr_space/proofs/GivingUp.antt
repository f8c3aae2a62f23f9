-- The copies on each device are given up, one device after another.
use Rattle.std.proofs.Common.{◌≡◌, ℕ, ◌+◌, ◌≤◌, ◌<◌, ◌&&◌, ◌||◌, false, ◌==◌, List, length, refl, ◌∙◌, subst, arith, ⊎_elim}
use Rattle.std.proofs.Math.ListN.{set}
use Rattle.std.proofs.lemmas.Bool.{cases_lt}
use Rattle.std.proofs.lemmas.Bool.Decides.{nat_tests}
use Rattle.std.proofs.lemmas.List.{length-set}
use Rattle.zr_base.specs.Extents.{has_unit, unit_count}
use Rattle.zr_metaslab.specs.Devices.{Devices, free_at, count_at, KeepsDevices}
use Rattle.zr_units.specs.Uses.{Uses}
use Rattle.zr_units.specs.Changes.{GivesUpCopies, GivesUpSet}
use Rattle.zr_space.specs.Views.{Kept, kept_of, nothing_kept}
use Rattle.zr_space.specs.Leavings.{GivesUpAll, GivesUpKept}
use Rattle.zr_space.proofs.Keeps.{on_each}
use Rattle.zr_space.proofs.Turning.{none_beyond}

-- what has become of a device and of what the allocator has of it
pub record IsGivenUp (s t : Devices) (d : ℕ) (old new : Kept) : Type 0 where
  pub kept : GivesUpKept old new
  pub free : (u : ℕ) → free_at t d u ≡ (free_at s d u || (has_unit old.uses.copies u && has_unit old.uses.born u))
  pub freed : count_at t d + unit_count new.uses.freed.blocks ≡ count_at s d + unit_count old.uses.freed.blocks + unit_count old.uses.copies

-- or has not become yet
pub record IsAsBefore (s t : Devices) (d : ℕ) (old new : Kept) : Type 0 where
  pub kept : new ≡ old
  pub free : (u : ℕ) → free_at t d u ≡ free_at s d u
  pub count : count_at t d ≡ count_at s d

-- the copies on the devices below this one are given up
pub record IsGivingUp (s t : Devices) (first devs : List Kept) (n : ℕ) : Type 0 where
  pub count : length devs ≡ length first
  pub done : (d : ℕ) → d < n → IsGivenUp s t d (kept_of first d) (kept_of devs d)
  pub next : (d : ℕ) → n ≤ d → IsAsBefore s t d (kept_of first d) (kept_of devs d)
  pub devices : KeepsDevices s t

pub gives_more : (s t v : Devices) (first devs : List Kept) (n : ℕ) (k : Kept) (y : Uses) → n < length devs → k ≡ kept_of devs n → GivesUpCopies k.uses y → GivesUpSet k.uses.copies k.uses.born k.uses.freed.blocks y.freed.blocks t v n
    → IsGivingUp s t first devs n → IsGivingUp s v first (set devs n (record k { uses = y })) (n + 1)
gives_more s t v first devs n k y there is gives given g = record {
  count = length-set devs n x ∙ g.count;
  done = on_each devs n x (λ d z. d < n + 1 → IsGivenUp s v d (kept_of first d) z) there (λ lt. here) (λ d ne lt. before d ne (grind (arith, nat_tests, ne, lt)));
  next = on_each devs n x (λ d z. n + 1 ≤ d → IsAsBefore s v d (kept_of first d) z) there (λ le. absurd (omega (arith, le))) (λ d ne le. after d ne (omega (arith, le)));
  devices = record {
    devs = given.devices.devs ∙ g.devices.devs;
    units = λ d. given.devices.units d ∙ g.devices.units d;
    serves = λ d. given.devices.serves d ∙ g.devices.serves d;
  };
}
  where
    x : Kept
    x = record k { uses = y }

    was : IsAsBefore s t n (kept_of first n) (kept_of devs n)
    was = g.next n (omega arith)

    first_is : k ≡ kept_of first n
    first_is = is ∙ (g.next n (omega arith)).kept

    here : IsGivenUp s v n (kept_of first n) (record k { uses = y })
    here = subst (λ (z : Kept). IsGivenUp s v n z (record k { uses = y })) first_is (record {
      kept = record { row = refl; moves = refl; gives = gives };
      free = λ u. let f = given.free n u in let w = (g.next n (omega arith)).free u in grind (arith, nat_tests, f, w);
      freed = let c = given.count in let w = (g.next n (omega arith)).count in omega (arith, c, w);
    })

    before : (d : ℕ) → (d == n) ≡ false → d < n → IsGivenUp s v d (kept_of first d) (kept_of devs d)
    before d ne lt =
        let w = g.done d lt in
        record {
          kept = w.kept;
          free = λ u. let f = given.free d u in let a = w.free u in grind (arith, nat_tests, f, a, ne);
          freed = let c = given.others d ne in let a = w.freed in omega (arith, c, a);
        }

    after : (d : ℕ) → (d == n) ≡ false → n ≤ d → IsAsBefore s v d (kept_of first d) (kept_of devs d)
    after d ne le =
        let w = g.next d le in
        record {
          kept = w.kept;
          free = λ u. let f = given.free d u in let a = w.free u in grind (arith, nat_tests, f, a, ne);
          count = given.others d ne ∙ w.count;
        }

pub gives_all : (s t : Devices) (first devs : List Kept) → IsGivingUp s t first devs (length devs) → GivesUpAll s t first devs
gives_all s t first devs g = record {
  count = g.count;
  each = λ d. (given d).kept;
  free = λ d. (given d).free;
  freed = λ d. (given d).freed;
  devices = g.devices;
}
  where
    nothing : (d : ℕ) → length devs ≤ d → IsGivenUp s t d (kept_of first d) (kept_of devs d)
    nothing d le =
        let w = g.next d le in
        let none = none_beyond devs d le in
        let none2 : kept_of first d ≡ nothing_kept = none_beyond first d (let c = g.count in omega (arith, le, c)) in
        rw none2 rw none (record {
          kept = record {
            row = refl;
            moves = refl;
            gives = record { held = λ u. refl; born = λ u. refl; deferred = λ u. refl; count = refl; held_maximal = tt; born_maximal = tt; deferred_maximal = tt; others = refl };
          };
          free = λ u. let f = w.free u in grind (arith, nat_tests, f);
          freed = let c = w.count in omega (arith, c);
        })

    given : (d : ℕ) → IsGivenUp s t d (kept_of first d) (kept_of devs d)
    given d = ⊎_elim (λ lt. g.done d lt) (λ le. nothing d le) (cases_lt d (length devs))
