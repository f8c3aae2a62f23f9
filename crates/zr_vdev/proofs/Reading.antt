-- The runs of an address lie on disks, and have its bytes.
use Rattle.std.proofs.Common.{◌≡◌, ℕ, zero, suc, ◌+◌, ◌-◌, ◌*◌, ◌<◌, ◌≤◌, ◌^◌, Bool, true, false, ◌&&◌, nat_lt, List, [], ◌∷◌, ◌++◌, map, Option, Some, None, refl, sym, ◌∙◌, ap, subst, inl, inr, arith, take, drop, zero-add, add-zero}
use Rattle.std.specs.Prelude.{option_and_then, if◌then◌else◌, is_some}
use Rattle.std.specs.List.{flat_map, list_all, range_with_len, sum_by, AllByRecursion}
use Rattle.std.proofs.lemmas.List.Sums.{sum_by-cons}
use Rattle.std.proofs.Math.Seq.{take-add}
use Rattle.std.proofs.Math.Nat.{mul-suc}
use Rattle.std.proofs.lemmas.List.{map-append, drop-drop}
use Rattle.std.proofs.lemmas.Grind.{flat_map-append}
use Rattle.std.proofs.lemmas.Bool.Decides.{nat_tests}
use Rattle.zr_base.specs.declared.space.Dva.{Dva}
use Rattle.zr_shelf.specs.Disks.{disk, part}
use Rattle.zr_label.specs.Geometry.{unit_at}
use Rattle.zr_imap.specs.declared.image.Piece.{Piece}
use Rattle.zr_imap.specs.Searches.{FollowFrom, piece_target}
use Rattle.zr_rules.specs.Places.{Place, is_gone}
use Rattle.zr_rules.specs.Devices.{Devices, state_at}
use Rattle.zr_rules.specs.Mappings.{target}
use Rattle.zr_rules.specs.Resolve.{resolve, resolved, is_resolved, is_there}
use Rattle.zr_view.specs.Views.{View, slot_of, unit_bytes, place_bytes, address_bytes}
use Rattle.zr_view.specs.Runs.{bytes_from, run_bytes, IsOnDisk}
use Rattle.zr_chain.specs.declared.visit.Visited.{Visited}
use Rattle.zr_chain.specs.declared.visit.ChainErr.TheVariants.{NoEntry}
use Rattle.zr_chain.specs.Visits.{Visits, IsWithin, pieces_of}
use Rattle.zr_space.specs.Paths.{LeadsNowhere}
use Rattle.zr_vdev.specs.Mounts.{AreMounted}
use Rattle.zr_vdev.specs.Runs.{AreRunsOf}

-- ---- bytes

range-append : (a n m : ℕ) → range_with_len a (n + m) ≡ range_with_len a n ++ range_with_len (a + n) m
range-append a zero m = simp (zero-add, add-zero)
range-append a (suc n) m =
    let more : suc n + m ≡ suc (n + m) = omega arith in
    let on : a + 1 + n ≡ a + suc n = omega arith in
    ap (λ (k : ℕ). range_with_len a k) more ∙ ap (λ (l : List ℕ). a ∷ l) (range-append (a + 1) n m ∙ ap (λ (k : ℕ). range_with_len (a + 1) n ++ range_with_len k m) on)

-- the bytes of units one after another
units-of-slot : (disks : List (List ℕ)) (s : Option ℕ) (u n : ℕ) → flat_map (λ w. unit_bytes disks s w) (range_with_len u n) ≡ bytes_from disks s u (4096 * n)
units-of-slot disks None u zero = refl
units-of-slot disks (Some slot) u zero = refl
units-of-slot disks None u (suc n) = units-of-slot disks None (u + 1) n
units-of-slot disks (Some slot) u (suc n) =
    let bytes = disk disks slot in
    let more : 4096 * suc n ≡ 4096 + 4096 * n = omega (arith, mul-suc 4096 n) in
    let on : 4096 + unit_at u ≡ unit_at (u + 1) = omega arith in
    ap (λ (l : List ℕ). part bytes (unit_at u) 4096 ++ l) (units-of-slot disks (Some slot) (u + 1) n)
    ∙ sym (ap (λ (k : ℕ). part bytes (unit_at u) k) more ∙ take-add 4096 (4096 * n) (drop (unit_at u) bytes)
    ∙ ap (λ (l : List ℕ). part bytes (unit_at u) 4096 ++ take (4096 * n) l) (drop-drop 4096 (unit_at u) bytes ∙ ap (λ (k : ℕ). drop k bytes) (omega arith)))

abbrev place : ℕ → ℕ → Place
place d u = (d, u)

abbrev some_place : ℕ → ℕ → Option Place
some_place d u = Some (d, u)

-- runs that follow each other do not end before they begin
follow_end : (from end : ℕ) (ps : List Piece) → FollowFrom from end ps → from ≤ end
follow_end from end [] follow = omega (arith, follow)
follow_end from end (p ∷ ps) follow = let rest = follow_end (p.split + p.at.len) end ps follow.2 in omega (arith, rest, follow.0)

pub first-target : (p : Piece) (ps : List Piece) (k at : ℕ) → at ≡ p.split + k → k < p.at.len → piece_target (p ∷ ps) at ≡ Some (p.dev, p.at.start + k)
first-target p ps k at is lt =
    let here : nat_lt at (p.split + p.at.len) ≡ true = grind (arith, nat_tests, is, lt) in
    let less : at - p.split ≡ k = omega (arith, is) in
    rw here (ap (λ (j : ℕ). some_place p.dev (p.at.start + j)) less)

pub later-target : (p : Piece) (ps : List Piece) (k : ℕ) → p.split + p.at.len ≤ k → piece_target (p ∷ ps) k ≡ piece_target ps k
later-target p ps k le =
    let past : nat_lt k (p.split + p.at.len) ≡ false = grind (arith, nat_tests, le) in
    rw past refl

module _ (v : View) (dev : ℕ) where
  -- the bytes of the places to which so many units lead
  led : ℕ → ℕ → List ℕ
  led w n = flat_map (place_bytes v) (map (λ (p : Place). resolved v.devices p.0 p.1) (map (λ (u : ℕ). (dev, u)) (range_with_len w n)))

  led-run : (w n e u : ℕ) → ((k : ℕ) → k < n → resolved v.devices dev (w + k) ≡ Some (e, u + k)) → led w n ≡ flat_map (λ x. unit_bytes v.disks (slot_of v.slots e) x) (range_with_len u n)
  unfolding led
  led-run w zero e u leads = refl
  led-run w (suc n) e u leads =
      let first : resolved v.devices dev w ≡ Some (e, u) = subst (λ (k : ℕ). resolved v.devices dev k ≡ Some (e, u)) (omega arith) (subst (λ (k : ℕ). resolved v.devices dev (w + 0) ≡ some_place e k) (omega arith) (leads 0 (omega arith))) in
      let rest = led-run (w + 1) n e (u + 1) (λ k lt. subst (λ (j : ℕ). resolved v.devices dev j ≡ some_place e (u + 1 + k)) (omega arith) (subst (λ (j : ℕ). resolved v.devices dev (w + suc k) ≡ some_place e j) (omega arith) (leads (suc k) (omega (arith, lt))))) in
      ap (λ (l : List ℕ). place_bytes v (resolved v.devices dev w) ++ l) rest
      ∙ ap (λ (o : Option Place). place_bytes v o ++ flat_map (λ x. unit_bytes v.disks (slot_of v.slots e) x) (range_with_len (u + 1) n)) first

  led-none : (w : ℕ) → led w 0 ≡ []
  unfolding led
  led-none w = refl

  led-address : (start len : ℕ) → led (start + 0) len ≡ address_bytes v (record { dev = dev; start = start; len = len })
  unfolding led
  led-address start len = ap (λ (w : ℕ). led w len) (omega arith)

  led-append : (w n m : ℕ) → led w (n + m) ≡ led w n ++ led (w + n) m
  unfolding led
  led-append w n m = simp (range-append w n m, map-append, flat_map-append)

  runs-led : (start from n : ℕ) (runs : List Piece) → FollowFrom from (from + n) runs → ((k : ℕ) → from ≤ k → k < from + n → piece_target runs k ≡ resolved v.devices dev (start + k))
      → flat_map (run_bytes v.disks v.slots) runs ≡ led (start + from) n
  runs-led start from n [] follow targets = let none : n ≡ 0 = omega (arith, follow) in sym (ap (λ (k : ℕ). led (start + from) k) none ∙ led-none (start + from))
  runs-led start from n (p ∷ ps) follow targets =
      let split = follow.0 in
      let some = follow.1 in
      let end = follow_end (p.split + p.at.len) (from + n) ps follow.2 in
      let m = from + n - (p.split + p.at.len) in
      let all : n ≡ p.at.len + m = omega (arith, split, end) in
      let first : led (start + from) p.at.len ≡ run_bytes v.disks v.slots p =
      led-run (start + from) p.at.len p.dev p.at.start (λ k lt. subst (λ (j : ℕ). resolved v.devices dev j ≡ some_place p.dev (p.at.start + k)) (omega arith)
      (sym (targets (from + k) (omega arith) (omega (arith, lt, end, split))) ∙ first-target p ps k (from + k) (omega (arith, split)) lt)) ∙ units-of-slot v.disks (slot_of v.slots p.dev) p.at.start p.at.len in
      let rest : flat_map (run_bytes v.disks v.slots) ps ≡ led (start + from + p.at.len) m =
      runs-led start (p.split + p.at.len) m ps (subst (λ (e : ℕ). FollowFrom (p.split + p.at.len) e ps) (omega (arith, end)) follow.2)
      (λ k le lt. sym (later-target p ps k le) ∙ targets k (omega (arith, le, split)) (omega (arith, lt, end)))
      ∙ ap (λ (j : ℕ). led j m) (omega (arith, split)) in
      ap (λ (l : List ℕ). run_bytes v.disks v.slots p ++ l) rest ∙ ap (λ (l : List ℕ). l ++ led (start + from + p.at.len) m) (sym first) ∙ sym (led-append (start + from) p.at.len m) ∙ ap (λ (k : ℕ). led (start + from) k) (sym all)

-- ---- places

there_is : (ds : Devices) (d u : ℕ) → is_there ds d u ≡ true → (d < ds.count) × (u < (ds.row d).units)
there_is ds d u there = (grind (arith, nat_tests, there), grind (arith, nat_tests, there))

module _ (ds : Devices) (e w : ℕ) where
  further : (n : ℕ) (t : Option Place) → ((place : Place) → resolve n ds place.0 place.1 ≡ Some (e, w) → (is_gone (state_at ds e) ≡ false) × (is_there ds e w ≡ true))
      → option_and_then (λ (p : Place). resolve n ds p.0 p.1) t ≡ Some (e, w) → (is_gone (state_at ds e) ≡ false) × (is_there ds e w ≡ true)
  further n None on leads = cc
  further n (Some place) on leads = on place leads

  stays : (d u : ℕ) → is_gone (state_at ds d) ≡ false → (if is_there ds d u then some_place d u else None) ≡ Some (e, w) → (is_gone (state_at ds e) ≡ false) × (is_there ds e w ≡ true)
  stays d u on here = (elim (is_there ds d u) as (λ b. is_there ds d u ≡ b → (is_gone (state_at ds e) ≡ false) × (is_there ds e w ≡ true)) [
    | true ↦ λ t. let h = rw t at here in
        let pair : some_place d u ≡ some_place e w = cc in
        let both : place d u ≡ place e w = cc in
        let dev = ap (λ (p : Place). p.0) both in let unit = ap (λ (p : Place). p.1) both in
        (subst (λ (x : ℕ). is_gone (state_at ds x) ≡ false) dev on, subst (λ (x : ℕ). is_there ds x w ≡ true) dev (subst (λ (x : ℕ). is_there ds d x ≡ true) unit t))
    | false ↦ λ t. let h = rw t at here in cc
  ]) refl

-- a unit leads to one of a device that is there
pub leads_there : (n : ℕ) (ds : Devices) (d u e w : ℕ) → resolve n ds d u ≡ Some (e, w) → (is_gone (state_at ds e) ≡ false) × (is_there ds e w ≡ true)
leads_there zero ds d u e w leads = cc
leads_there (suc n) ds d u e w leads = (elim (is_gone (state_at ds d)) as (λ b. is_gone (state_at ds d) ≡ b → (is_gone (state_at ds e) ≡ false) × (is_there ds e w ≡ true)) [
  | true ↦ λ gone. further ds e w n (target (ds.entries d) u) (λ place h. leads_there n ds place.0 place.1 e w h) (rw gone at leads)
  | false ↦ λ gone. stays ds e w d u gone (rw gone at leads)
]) refl

module _ (sizes : List ℕ) (slots : List (Option ℕ)) (ds : Devices) (mounted : AreMounted sizes slots ds) where
  -- a run of units, the last of which is there, lies on its disk
  run-on-disk : (p : Piece) → 0 < p.at.len → is_gone (state_at ds p.dev) ≡ false → is_there ds p.dev (p.at.start + (p.at.len - 1)) ≡ true → IsOnDisk sizes slots p × (p.at.start < 2 ^ 40)
  run-on-disk p some on there =
      let has = there_is ds p.dev (p.at.start + (p.at.len - 1)) there in
      let known = has.0 in
      let within = has.1 in
      let small = mounted.small p.dev in
      let whole = mounted.disks p.dev known on in
      let fits = whole.fits in
      (record { slot = whole.slot; is = whole.is; exists = whole.exists; fits = omega (arith, fits, within, some) }, omega (arith, within, small))

  -- runs that lead to units of devices that are there lie on their disks
  runs-on-disk : (dev start from end : ℕ) (runs : List Piece) → FollowFrom from end runs → ((k : ℕ) → from ≤ k → k < end → piece_target runs k ≡ resolved ds dev (start + k))
      → ((k : ℕ) → from ≤ k → k < end → is_some (resolved ds dev (start + k)) ≡ true) → AllByRecursion (IsOnDisk sizes slots) runs × AllByRecursion (λ (p : Piece). p.at.start < 2 ^ 40) runs
  runs-on-disk dev start from end [] follow targets leads = (tt, tt)
  runs-on-disk dev start from end (p ∷ ps) follow targets leads =
      let split = follow.0 in
      let some = follow.1 in
      let ends = follow_end (p.split + p.at.len) end ps follow.2 in
      let last = p.at.len - 1 in
      let there = targets (p.split + last) (omega (arith, split)) (omega (arith, ends, some)) in
      let place : resolved ds dev (start + (p.split + last)) ≡ Some (p.dev, p.at.start + last) = sym there ∙ first-target p ps last (p.split + last) refl (omega (arith, some)) in
      let is = leads_there ds.count ds dev (start + (p.split + last)) p.dev (p.at.start + last) place in
      let first = run-on-disk p some is.0 is.1 in
      let rest = runs-on-disk dev start (p.split + p.at.len) end ps follow.2 (λ k le lt. sym (later-target p ps k le) ∙ targets k (omega (arith, le, split)) lt) (λ k le lt. leads k (omega (arith, le, split)) lt) in
      ((first.0, rest.0), (first.1, rest.1))

-- the units of the runs are those of the address
units-of-runs : (from end : ℕ) (runs : List Piece) → FollowFrom from end runs → sum_by (λ (p : Piece). 4096 * p.at.len) runs + 4096 * from ≡ 4096 * end
units-of-runs from end [] follow = omega (arith, follow)
units-of-runs from end (p ∷ ps) follow =
    let rest = units-of-runs (p.split + p.at.len) end ps follow.2 in
    let split = follow.0 in
    omega (arith, rest, split, sum_by-cons (λ (q : Piece). 4096 * q.at.len) p ps)

both : (a b : Bool) → (a && b) ≡ true → (a ≡ true) × (b ≡ true)
both true b h = (refl, h)
both false b h = cc

all-lead : (ds : Devices) (dev w n : ℕ) → list_all (λ (o : Option Place). is_some o) (map (λ (p : Place). resolved ds p.0 p.1) (map (λ (u : ℕ). (dev, u)) (range_with_len w n))) ≡ true
    → (k : ℕ) → k < n → is_some (resolved ds dev (w + k)) ≡ true
all-lead ds dev w zero all k lt = absurd (omega (arith, lt))
all-lead ds dev w (suc n) all zero lt = subst (λ (j : ℕ). is_some (resolved ds dev j) ≡ true) (omega arith) (both (is_some (resolved ds dev w)) _ all).0
all-lead ds dev w (suc n) all (suc k) lt =
    subst (λ (j : ℕ). is_some (resolved ds dev j) ≡ true) (omega arith) (all-lead ds dev (w + 1) n (both (is_some (resolved ds dev w)) _ all).1 k (omega (arith, lt)))

-- ---- the runs of an address

module _ (sizes : List ℕ) (slots : List (Option ℕ)) (ds : Devices) (mounted : AreMounted sizes slots ds) (a : Dva) (runs : List Piece) (are : AreRunsOf ds a runs) where
  each : AllByRecursion (IsOnDisk sizes slots) runs × AllByRecursion (λ (p : Piece). p.at.start < 2 ^ 40) runs
  each = runs-on-disk sizes slots ds mounted a.dev a.start 0 a.len runs are.follow (λ k le lt. are.targets k lt) (λ k le lt. all-lead ds a.dev a.start a.len are.resolves k lt)

  pub lie_on_disks : AllByRecursion (IsOnDisk sizes slots) runs
  lie_on_disks = each.0

  pub begin_low : AllByRecursion (λ (p : Piece). p.at.start < 2 ^ 40) runs
  begin_low = each.1

  pub have_the_units : sum_by (λ (p : Piece). 4096 * p.at.len) runs ≡ 4096 * a.len
  have_the_units = let u = units-of-runs 0 a.len runs are.follow in omega (arith, u)

module _ (slots : List (Option ℕ)) (ds : Devices) (a : Dva) (runs : List Piece) (are : AreRunsOf ds a runs) where
  pub have_the_bytes : (disks : List (List ℕ)) → flat_map (run_bytes disks slots) runs ≡ address_bytes (record { disks = disks; slots = slots; devices = ds }) a
  have_the_bytes disks =
      let v : View = record { disks = disks; slots = slots; devices = ds } in
      runs-led v a.dev a.start 0 a.len runs (subst (λ (e : ℕ). FollowFrom 0 e runs) (omega arith) are.follow) (λ k le lt. are.targets k (omega (arith, lt))) ∙ led-address v a.dev a.start a.len

-- ---- what was visited

-- a unit that leads somewhere is one of its device
leads_within : (n : ℕ) (ds : Devices) (d u : ℕ) → is_some (resolve n ds d u) ≡ true → IsWithin ds d u
leads_within zero ds d u leads = cc
leads_within (suc n) ds d u leads = (elim (is_gone (state_at ds d)) as (λ b. is_gone (state_at ds d) ≡ b → IsWithin ds d u) [
  | true ↦ λ gone. inl gone
  | false ↦ λ gone. inr (there_is ds d u (is_here (is_there ds d u) (some_place d u) (rw gone at leads))).1
]) refl
  where
    is_here : (b : Bool) (o : Option Place) → is_some (if b then o else None) ≡ true → b ≡ true
    is_here true o h = refl
    is_here false o h = cc

pub visited_runs : (ds : Devices) (a : Dva) (new : List Visited) → Visits ds a [] new → is_resolved ds a ≡ true → AreRunsOf ds a (pieces_of new)
visited_runs ds a new visits resolves =
    let same : visits.visits ≡ new = sym visits.appended in
    record {
      resolves = resolves;
      follow = subst (λ (vs : List Visited). FollowFrom 0 a.len (pieces_of vs)) same visits.follow;
      targets = λ k lt. subst (λ (vs : List Visited). piece_target (pieces_of vs) k ≡ resolved ds a.dev (a.start + k)) same
          (visits.targets k lt (leads_within ds.count ds a.dev (a.start + k) (all-lead ds a.dev a.start a.len resolves k lt)));
    }

-- an address of which each unit leads somewhere resolves
pub all-led : (ds : Devices) (dev w n : ℕ) → ((k : ℕ) → k < n → is_some (resolved ds dev (w + k)) ≡ true)
    → list_all (λ (o : Option Place). is_some o) (map (λ (p : Place). resolved ds p.0 p.1) (map (λ (u : ℕ). (dev, u)) (range_with_len w n))) ≡ true
all-led ds dev w zero leads = refl
all-led ds dev w (suc n) leads =
    let first : is_some (resolved ds dev w) ≡ true = subst (λ (j : ℕ). is_some (resolved ds dev j) ≡ true) (omega arith) (leads 0 (omega arith)) in
    rw first (all-led ds dev (w + 1) n (λ k lt. subst (λ (j : ℕ). is_some (resolved ds dev j) ≡ true) (omega arith) (leads (suc k) (omega (arith, lt)))))

-- an address of which a unit leads nowhere does not resolve
none-leads : (ds : Devices) (dev w n k : ℕ) → k < n → resolved ds dev (w + k) ≡ None
    → list_all (λ (o : Option Place). is_some o) (map (λ (p : Place). resolved ds p.0 p.1) (map (λ (u : ℕ). (dev, u)) (range_with_len w n))) ≡ false
none-leads ds dev w n k lt none = (elim (list_all (λ (o : Option Place). is_some o) (map (λ (p : Place). resolved ds p.0 p.1) (map (λ (u : ℕ). (dev, u)) (range_with_len w n)))) as
    (λ b. list_all (λ (o : Option Place). is_some o) (map (λ (p : Place). resolved ds p.0 p.1) (map (λ (u : ℕ). (dev, u)) (range_with_len w n))) ≡ b → b ≡ false) [
      | true ↦ λ all. let some = all-lead ds dev w n all k lt in let h = rw none at some in cc
      | false ↦ λ all. refl
    ]) refl

pub leads_nowhere : (ds : Devices) (a : Dva) (dev unit : ℕ) → LeadsNowhere ds a (NoEntry dev unit) → is_resolved ds a ≡ false
leads_nowhere ds a dev unit nowhere = none-leads ds a.dev a.start a.len nowhere.0 nowhere.1 nowhere.2
