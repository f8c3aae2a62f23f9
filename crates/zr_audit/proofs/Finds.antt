-- What is counted is what a walk finds.
use Rattle.std.proofs.Common.{◌≡◌, ℕ, ◌+◌, ◌<◌, ◌≤◌, Bool, true, ◌||◌, nat_lt, List, [], ◌∷◌, ◌++◌, map, length, Option, ◌∙◌, sym, ap, arith, if◌then◌else◌}
use Rattle.std.specs.List.{range_with_len}
use Rattle.std.proofs.lemmas.Bool.Decides.{nat_tests}
use Rattle.std.proofs.lemmas.List.FromFn.{map-range_with_len_more}
use Rattle.zr_base.specs.declared.space.Dva.{Dva}
use Rattle.zr_base.specs.declared.space.Extent.{Extent}
use Rattle.zr_base.specs.Extents.{has_unit}
use Rattle.zr_chain.specs.declared.visit.Visited.{Visited}
use Rattle.zr_rules.specs.Places.{Place, one_if, count_below, units_of_dev}
use Rattle.zr_rules.specs.Devices.{Devices}
use Rattle.zr_rules.specs.Resolve.{is_at, leads_to, resolve_hits, resolved_units}
use Rattle.zr_rules.specs.Roles.{is_copy_role, is_meta_role, is_live_role}
use Rattle.zr_rules.specs.Space.{Space, role_at}
use Rattle.zr_rules.specs.Equation.{SavedRoot, Adds, devices_in, is_live, live_hits, walked}
use Rattle.zr_audit.specs.Found.{found, allocated_units, AreEnds, AreMeta, ends_at, for_each_device}
use Rattle.zr_audit.proofs.Counts.{count_same, map_same, any_some, one_some}

pub one_more : (f : ℕ → ℕ) (d n : ℕ) (old new : List ℕ) → n ≡ f d → old ≡ map f (range_with_len 0 d) → new ≡ old ++ n ∷ [] → new ≡ map f (range_with_len 0 (d + 1))
one_more f d n old new is before after = after ∙ (rw before rw is (sym (map-range_with_len_more f 0 d d (omega arith))))

one_of_three : (live copy meta : Bool) → ((live || copy) || meta) ≡ (if live then true else (if copy then true else meta))
one_of_three live copy meta = grind (arith, nat_tests)

-- the parts that live pointers lead to and the copies, with the parts of metadata, are what is found
pub found_is : (s : Space) (live meta : List Dva) (ends others : List Visited) (copies : List Extent) (d : ℕ) → AreEnds (devices_in s) live ends → AreEnds (devices_in s) meta others
    → ((u : ℕ) → has_unit copies u ≡ is_copy_role (role_at s d u)) → count_below (units_of_dev s.parts.devs d) (λ u. (ends_at ends d u || has_unit copies u) || ends_at others d u) ≡ found s live meta d
found_is s live meta ends others copies d of_live of_meta are = count_same (units_of_dev s.parts.devs d) _ _ (λ u lt.
    let a = of_live d u in
    let b = are u in
    let c = of_meta d u in
    rw a rw b rw c (one_of_three (is_live (devices_in s) live d u) (is_copy_role (role_at s d u)) (is_live (devices_in s) meta d u)))

walked_is : (s : Space) (live meta : List Dva) (d : ℕ) → AreMeta s meta → d < length s.parts.devs → found s live meta d ≡ walked s live d
walked_is s live meta d is known = count_same (units_of_dev s.parts.devs d) _ _ (λ u lt.
    ap (λ b. if is_live (devices_in s) live d u then true else (if is_copy_role (role_at s d u) then true else b)) (is d u known lt))

pub all_walked : (s : Space) (live meta : List Dva) (numbers : List ℕ) → numbers ≡ for_each_device s (found s live meta) → AreMeta s meta → numbers ≡ for_each_device s (walked s live)
all_walked s live meta numbers is metadata = is ∙ map_same (found s live meta) (walked s live) 0 (length s.parts.devs) (λ d lt. walked_is s live meta d metadata (omega (arith, lt)))

leads_if_hit : (ds : Devices) (d u : ℕ) (a : Dva) → leads_to ds a d u ≡ nat_lt 0 (resolve_hits ds a d u)
leads_if_hit ds d u a = any_some (λ (p : Option Place). is_at p d u) (λ (p : Option Place). one_if (is_at p d u)) (λ p. one_some (is_at p d u)) (resolved_units ds a)

pub live_if_hit : (ds : Devices) (live : List Dva) (d u : ℕ) → is_live ds live d u ≡ nat_lt 0 (live_hits ds live d u)
live_if_hit ds live d u = any_some (λ (a : Dva). leads_to ds a d u) (λ (a : Dva). resolve_hits ds a d u) (leads_if_hit ds d u) live

adds_up : (s : Space) (live : List Dva) (saved : Option SavedRoot) (d : ℕ) → Adds s live saved → walked s live d ≡ allocated_units s d
adds_up s live saved d adds = count_same (units_of_dev s.parts.devs d) _ _ (λ u lt.
    ap (λ b. if b then true else (if is_copy_role (role_at s d u) then true else is_meta_role (role_at s d u)))
    (live_if_hit (devices_in s) live d u ∙ (ap (λ n. nat_lt 0 n) (adds.once d u) ∙ sym (one_some (is_live_role (role_at s d u))))))

pub all_equal : (s : Space) (live meta : List Dva) (numbers counts : List ℕ) (saved : Option SavedRoot) → numbers ≡ for_each_device s (found s live meta) → counts ≡ for_each_device s (allocated_units s)
    → Adds s live saved → AreMeta s meta → numbers ≡ counts
all_equal s live meta numbers counts saved is allocated adds metadata =
    all_walked s live meta numbers is metadata ∙ (map_same (walked s live) (allocated_units s) 0 (length s.parts.devs) (λ d lt. adds_up s live saved d adds) ∙ sym allocated)

-- one number more, of the next device
pub next_found : (s : Space) (live meta : List Dva) (ends others : List Visited) (copies : List Extent) (d units n : ℕ) (old new : List ℕ) → AreEnds (devices_in s) live ends → AreEnds (devices_in s) meta others
    → ((u : ℕ) → has_unit copies u ≡ is_copy_role (role_at s d u)) → units ≡ units_of_dev s.parts.devs d
    → n ≡ count_below units (λ u. (ends_at ends d u || has_unit copies u) || ends_at others d u) → old ≡ map (found s live meta) (range_with_len 0 d) → new ≡ old ++ n ∷ [] → new ≡ map (found s live meta) (range_with_len 0 (d + 1))
next_found s live meta ends others copies d units n old new of_live of_meta are has is before after =
    one_more (found s live meta) d n old new (is ∙ (ap (λ (k : ℕ). count_below k (λ u. (ends_at ends d u || has_unit copies u) || ends_at others d u)) has ∙ found_is s live meta ends others copies d of_live of_meta are)) before after

pub each_done : (s : Space) (f : ℕ → ℕ) (numbers : List ℕ) (d end : ℕ) → end ≡ length s.parts.devs → end ≤ d → d ≤ end → numbers ≡ map f (range_with_len 0 d) → numbers ≡ for_each_device s f
each_done s f numbers d end is low high so_far = let all : d ≡ length s.parts.devs = omega (arith, is, low, high) in so_far ∙ ap (λ (n : ℕ). map f (range_with_len 0 n)) all
