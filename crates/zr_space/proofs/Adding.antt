-- One device more.
use Rattle.std.proofs.Common.{◌≡◌, ℕ, zero, suc, get_or, ◌+◌, ◌<◌, ◌^◌, ◌==◌, ◌&&◌, nat_lt, true, false, List, [], ◌∷◌, ◌++◌, map, length, refl, ◌∙◌, sym, ap, arith, if◌then◌else◌, length-append}
use Rattle.std.proofs.lemmas.Bool.Decides.{nat_tests}
use Rattle.std.proofs.lemmas.List.{length-map}
use Rattle.zr_base.specs.Extents.{has_unit}
use Rattle.zr_rules.specs.Places.{one_if, is_on, is_leaving}
use Rattle.zr_rules.specs.Space.{copy_hits, nothing_opened, opened_of}
use Rattle.zr_rules.specs.Roles.Role.{Free}
use Rattle.zr_rules.specs.Steps as steps
use Rattle.zr_metaslab.specs.Devices as slab
use Rattle.zr_metaslab.specs.Devices.{Devices, free_at, count_at, units_at, serves_at}
use Rattle.zr_units.specs.Uses.{IsAccount, unused}
use Rattle.zr_space.specs.Views.{Kept, kept_of, opened_in, part_in, space_of, role_in, units_there, IsMoved, IsTied, IsSpace, meta_from, saved_from, addresses, fresh_device}
use Rattle.zr_space.proofs.Roles.{roles_are}
use Rattle.zr_space.proofs.Views.{on_all}
use Rattle.zr_space.proofs.Devs.{ranked_last}
use Rattle.zr_space.proofs.More.{service_moved, single_last, synced_last, condensing_last}
use Rattle.zr_space.proofs.Accounts.{account_as}
use Rattle.zr_space.proofs.Keeps.{lawful, hits_last}
use Rattle.zr_space.specs.declared.whole.Whole.{Whole}

false_true : false ≡ true → ⊥
false_true e = cc

map_last : (devs : List Kept) (k : Kept) → map part_in (devs ++ k ∷ []) ≡ map part_in devs ++ part_in k ∷ []
map_last [] k = refl
map_last (x ∷ xs) k = ap (λ ps. part_in x ∷ ps) (map_last xs k)

meta_last : (i : ℕ) (devs : List Kept) (units txg spare : ℕ) → meta_from i (devs ++ fresh_device units txg spare ∷ []) ≡ meta_from i devs
meta_last i [] units txg spare = refl
meta_last i (x ∷ xs) units txg spare = ap (λ list. addresses i x.uses.meta ++ list) (meta_last (i + 1) xs units txg spare)

saved_last : (i : ℕ) (devs : List Kept) (units txg spare : ℕ) → saved_from i (devs ++ fresh_device units txg spare ∷ []) ≡ saved_from i devs
saved_last i [] units txg spare = refl
saved_last i (x ∷ xs) units txg spare = ap (λ list. addresses i x.uses.saved ++ list) (saved_last (i + 1) xs units txg spare)

opened_last : (devs : List Kept) (units txg spare d : ℕ) → get_or (map opened_in (devs ++ fresh_device units txg spare ∷ [])) d nothing_opened ≡ get_or (map opened_in devs) d nothing_opened
opened_last [] units txg spare zero = refl
opened_last [] units txg spare (suc d) = refl
opened_last (x ∷ xs) units txg spare zero = refl
opened_last (x ∷ xs) units txg spare (suc d) = opened_last xs units txg spare d

-- what the open group did on each device is the same
pub opened_still : (whole : Whole) (devs : List Kept) (units txg spare d : ℕ) → opened_of (space_of whole (devs ++ fresh_device units txg spare ∷ [])) d ≡ opened_of (space_of whole devs) d
opened_still whole devs units txg spare d = opened_last devs units txg spare d

pub record IsAdded (whole : Whole) (s t : Devices) (devs : List Kept) (units : ℕ) : Type 0 where
  pub space : IsSpace whole s devs
  pub few : length devs < 32
  pub small : units < 2 ^ 40
  pub slabs : slab.AddsDevice s t (length devs) units []

module _ (whole : Whole) (s t : Devices) (devs : List Kept) (units txg spare : ℕ) (h : IsAdded whole s t devs units) where
  new_account : IsAccount (free_at t (length devs)) (count_at t (length devs)) (record (unused units) { spare = spare })
  new_account = record {
    once = λ u. let f = h.slabs.free (length devs) u in grind (arith, nat_tests, f);
    born = λ u is. absurd (grind (arith, nat_tests, is));
    keeping = record {
      held = λ u is. absurd (grind (arith, nat_tests, is));
      settled = λ u is. refl;
      came = λ u is. absurd (grind (arith, nat_tests, is));
      went = λ u is. absurd (grind (arith, nat_tests, is));
    };
    copying = record { held = λ u is. absurd (grind (arith, nat_tests, is)); unkept = λ u is. refl };
    sum = let c = h.slabs.counted in omega (arith, c);
    small = h.small;
    lists = record { held = tt; born = tt; kept = tt; came = tt; went = tt; copies = tt; freed = record { blocks = tt; meta = tt }; late1 = record { blocks = tt; meta = tt }; late2 = record { blocks = tt; meta = tt }; meta = tt; saved = tt };
  }

  pub added_space : IsSpace whole t (devs ++ fresh_device units txg spare ∷ [])
  added_space = record {
    devices = let l = length-append devs (fresh_device units txg spare ∷ []) in let e = h.space.devices in let k = h.slabs.devs in omega (arith, l, e, k);
    few = let l = length-append devs (fresh_device units txg spare ∷ []) in let f = h.few in omega (arith, l, f);
    units = on_all devs (fresh_device units txg spare) (λ d k. units_at t d ≡ k.uses.units) (let u = h.slabs.units (length devs) in grind (arith, nat_tests, u)) (λ d ne. let u = h.slabs.units d in let w = h.space.units d in grind (arith, nat_tests, u, w, ne));
    rows = on_all devs (fresh_device units txg spare) (λ d k. k.uses.units ≡ units_there k.row) refl (λ d ne. h.space.rows d);
    small = on_all devs (fresh_device units txg spare) (λ d k. k.row.units < 2 ^ 40) h.small (λ d ne. h.space.small d);
    moved = on_all devs (fresh_device units txg spare) (λ d k. IsMoved k.row k.moves) (service_moved (fresh_device units txg spare).row refl) (λ d ne. h.space.moved d);
    serves = on_all devs (fresh_device units txg spare) (λ d k. serves_at t d ≡ (nat_lt d (length (devs ++ fresh_device units txg spare ∷ [])) && is_on k.row.state))
        (let l = length-append devs (fresh_device units txg spare ∷ []) in let v = h.slabs.serves (length devs) in grind (arith, nat_tests, l, v))
        (λ d ne. let l = length-append devs (fresh_device units txg spare ∷ []) in let v = h.slabs.serves d in let w = h.space.serves d in grind (arith, nat_tests, l, v, w, ne));
    account = on_all devs (fresh_device units txg spare) (λ d k. IsAccount (free_at t d) (count_at t d) k.uses) new_account
        (λ d ne. account_as (free_at s d) (free_at t d) (count_at s d) (count_at t d) (kept_of devs d).uses (λ u. let f = h.slabs.free d u in grind (arith, nat_tests, f, ne)) (h.slabs.counts d ne) (h.space.account d));
    copies = λ d u.
        on_all devs (fresh_device units txg spare) (λ i k. copy_hits (map part_in (devs ++ fresh_device units txg spare ∷ [])) i u ≡ one_if (has_unit k.uses.copies u))
        (hits_last devs (fresh_device units txg spare) (length devs) u refl ∙ (h.space.copies (length devs) u ∙ none_there devs u))
        (λ i ne. hits_last devs (fresh_device units txg spare) i u refl ∙ h.space.copies i u)
        d;
    single = single_last devs (fresh_device units txg spare) refl h.space.single;
    ranked = ranked_last devs (fresh_device units txg spare) refl h.space.ranked;
    tied = on_all devs (fresh_device units txg spare) (λ d k. is_leaving k.row.state ≡ true → IsTied whole k) (λ is. absurd (false_true is)) (λ d ne. h.space.tied d);
    condensing = λ c is. condensing_last c devs (fresh_device units txg spare) (h.space.condensing c is);
  }
    where
      none_there : (devs : List Kept) (u : ℕ) → one_if (has_unit (kept_of devs (length devs)).uses.copies u) ≡ 0
      none_there [] u = refl
      none_there (x ∷ xs) u = none_there xs u

  pub adds : steps.AddsDevice (space_of whole devs) (space_of whole (devs ++ fresh_device units txg spare ∷ [])) units txg
  adds = record {
    devs = map_last devs (fresh_device units txg spare);
    roles = λ d u.
        let l = length-map devs part_in in
        roles_are whole (devs ++ fresh_device units txg spare ∷ []) d u added_space
        ∙ (on_all devs (fresh_device units txg spare) (λ i k. role_in k.uses u ≡ (if (i == length (map part_in devs)) && nat_lt u units then Free else role_in (kept_of devs i).uses u))
        (let o = h.space.account (length devs) in let none = beyond devs in grind (arith, nat_tests, l, none))
        (λ i ne. grind (arith, nat_tests, l, ne))
        d
        ∙ ap (λ r. if (d == length (map part_in devs)) && nat_lt u units then Free else r) (sym (roles_are whole devs d u h.space)));
    version = refl;
    cond = refl;
    ckpt = refl;
    synced = synced_last devs (fresh_device units txg spare) refl;
    meta = meta_last 0 devs units txg spare;
    saved_meta = saved_last 0 devs units txg spare;
    lawful = λ was. lawful whole t (devs ++ fresh_device units txg spare ∷ []) added_space;
  }
    where
      beyond : (devs : List Kept) → (kept_of devs (length devs)).uses.units ≡ 0
      beyond [] = refl
      beyond (x ∷ xs) = beyond xs
