-- What a store of blocks on a shelf holds once a block is put or given back.
use Rattle.std.proofs.Common.{◌≡◌, inl, inr, ℕ, ◌+◌, ◌-◌, ◌<◌, ◌≤◌, Bool, true, false, nat_eq, List, [], ◌∷◌, Option, Some, None, refl, sym, ◌∙◌, ap, subst, arith}
use Rattle.std.specs.Prelude.{All, if◌then◌else◌}
use Rattle.std.specs.List.{sum_by}
use Rattle.std.proofs.lemmas.List.Sums.{sum_by-cons}
use Rattle.std.proofs.lemmas.List.Elements.{All-head, All-tail, All-cons, All-nil}
use Rattle.std.proofs.lemmas.Bool.Decides.{nat_tests}
use Rattle.zr_base.specs.declared.space.Dva.{Dva}
use Rattle.zr_base.specs.declared.space.Policy.{Policy}
use Rattle.zr_bptr.specs.declared.Bptr.{Bptr}
use Rattle.zr_shelf.specs.Moments.{World}
use Rattle.zr_shelf.specs.Doings.{WritesOnly}
use Rattle.zr_chain.proofs.Ways.{cases_bool}
use Rattle.zr_rules.specs.Places.{one_if, is_on, in_address, address_hits, units_of_dev}
use Rattle.zr_rules.specs.Devices.{Devices, state_at}
use Rattle.zr_rules.specs.Resolve.{is_resolved, leads_to, resolve_hits}
use Rattle.zr_rules.specs.Space.{Space, role_at}
use Rattle.zr_rules.specs.Equation.{devices_in, live_hits}
use Rattle.zr_space.specs.Paths.{AreInService}
use Rattle.zr_store.specs.Store.{Stored, Swaps, Puts, Now, AreStored, IsOnce, hits, one_at}
use Rattle.zr_store.proofs.Keeping.{one_itself, one_cases}
use Rattle.zr_store.proofs.Meeting.{at_each}
use Rattle.zr_view.specs.Views.{slot_of, address_bytes}
use Rattle.zr_cache.specs.declared.table.Cache.{Cache}
use Rattle.zr_vdev.specs.declared.kind.Kind.{Kind}
use Rattle.zr_vdev.specs.Runs.{view_of}
use Rattle.zr_vdev.specs.Caches.{AreRead}
use Rattle.zr_vdev.specs.Puts.{Takes, GivesBack, MayPut, IsWriteOf}
use Rattle.zr_vdev.specs.Stores.{IsAll, IsInUse, IsStoredAt, GivesBackLost, HoldsBlocks, HoldsRead, MayGoBack, addresses_of}
use Rattle.zr_vdev.proofs.Leading.{Resolves, zero_or, apart_units, leads_some, some_leads, own_leads, own_hits}
use Rattle.zr_vdev.proofs.Back.{Parts}
use Rattle.zr_vdev.proofs.Uses.{is_of, use_some, use_roles, use_along, use_resolves, taken_was_free, serves_stays, give_keeps}
use Rattle.zr_vdev.proofs.GoingBack.{service_back, with_back, head_back, tail_back, take_back, rest_back}
use Rattle.zr_vdev.proofs.Deciding.{stored_or}
use Rattle.zr_vdev.proofs.Held.{pick, pick_yes, pick_no, apart_same, bytes_apart, clear_of_taken, takes_devices, takes_some, used_still, is_taken, true_is_false, own_not_free, failed_held, lost_held}
use Rattle.zr_vdev.proofs.Partly.{but_of, whole_of}
use Rattle.zr_vdev.proofs.Whole.{all_taken, all_back, all_freed}

abbrev hits_in : List Bptr → ℕ → ℕ → ℕ
hits_in ps d u = sum_by (λ (b : Bptr). one_if (in_address b.at d u)) ps

-- a weight of addresses is one of pointers
pub weight_of : (f : Dva → ℕ) (ps : List Bptr) → sum_by f (addresses_of ps) ≡ sum_by (λ (b : Bptr). f b.at) ps
weight_of f [] = refl
weight_of f (p ∷ ps) =
    let r = weight_of f ps in
    omega (arith, r, sum_by-cons f p.at (addresses_of ps), sum_by-cons (λ (b : Bptr). f b.at) p ps)

-- ---- laws

one_inside : (at : Dva) (b : Bptr) → 0 < b.at.len → one_at at b ≤ one_if (in_address b.at at.dev at.start)
one_inside at b some = grind (arith, nat_tests, some)

module _ (kind : Kind) (s : Space) (lost : Option Dva) where
  abbrev Each : Bptr → Type 0
  Each b = IsStoredAt kind s lost b.at

  fewer_hits : (ps : List Bptr) (at : Dva) → All Each ps → hits ps at ≤ hits_in ps at.dev at.start
  fewer_hits [] at all = omega arith
  fewer_hits (p ∷ ps) at all =
      let first = one_inside at p (use_some kind s p.at (All-head Each p ps all).used) in
      let rest = fewer_hits ps at (All-tail Each p ps all) in
      omega (arith, first, rest, sum_by-cons (one_at at) p ps, sum_by-cons (λ (b : Bptr). one_if (in_address b.at at.dev at.start)) p ps)

  -- each address of blocks that are stored leads to units
  pub each_resolves : (ps : List Bptr) → All Each ps → All (Resolves (devices_in s)) (addresses_of ps)
  each_resolves [] all = All-nil (Resolves (devices_in s))
  each_resolves (p ∷ ps) all =
      All-cons (Resolves (devices_in s)) p.at (addresses_of ps) (use_resolves kind s p.at (All-head Each p ps all).used) (each_resolves ps (All-tail Each p ps all))

  -- no unit is in two of them
  pub units_once : (ps : List Bptr) → All Each ps → ((d u : ℕ) → live_hits (devices_in s) (addresses_of ps) d u ≤ 1) → (d u : ℕ) → address_hits (addresses_of ps) d u ≤ 1
  units_once ps all once d u = apart_units (devices_in s) (addresses_of ps) (each_resolves ps all) once d u

  pub alone_of : (st : Stored) → All Each st.pointers → ((d u : ℕ) → live_hits (devices_in s) (addresses_of st.pointers) d u ≤ 1) → IsOnce st
  alone_of st all once at =
      let few = fewer_hits st.pointers at all in let o = units_once st.pointers all once at.dev at.start in
      omega (arith, few, o, weight_of (λ (a : Dva). one_if (in_address a at.dev at.start)) st.pointers)

  pub resolves_of : (ps : List Bptr) → All Each ps → (at : Dva) → 0 < hits ps at → is_resolved (devices_in s) at ≡ true
  resolves_of ps all at met = use_resolves kind s at (at_each (IsStoredAt kind s lost) ps at all met).used

  -- a unit to which a pointer leads has a role of the kind
  hit_role : (ps : List Bptr) → All Each ps → (d u : ℕ) → 0 < live_hits (devices_in s) (addresses_of ps) d u → is_of kind (role_at s d u) ≡ true
  hit_role [] all d u h = absurd (omega (arith, h))
  hit_role (p ∷ ps) all d u h = elim (zero_or (resolve_hits (devices_in s) p.at d u)) [
    | inr more ↦ use_roles kind s p.at (All-head Each p ps all).used d u (some_leads (devices_in s) p.at d u more)
    | inl none ↦ hit_role ps (All-tail Each p ps all) d u (omega (arith, h, none, sum_by-cons (λ (a : Dva). resolve_hits (devices_in s) a d u) p.at (addresses_of ps)))
  ]

-- the bytes of a pointer, none where no block is stored
pub bytes_now : (kind : Kind) (slots : List (Option ℕ)) (disks : List (List ℕ)) (s : Space) (lost : Option Dva) → Bptr → List ℕ
bytes_now kind slots disks s lost b = pick (stored_or kind s lost b.at) (address_bytes (view_of disks slots s) b.at)

bytes_there : (kind : Kind) (slots : List (Option ℕ)) (disks : List (List ℕ)) (s : Space) (lost : Option Dva) (b : Bptr) → IsStoredAt kind s lost b.at → bytes_now kind slots disks s lost b ≡ address_bytes (view_of disks slots s) b.at
unfolding bytes_now
bytes_there kind slots disks s lost b h = pick_yes (stored_or kind s lost b.at) (address_bytes (view_of disks slots s) b.at) h

bytes_none : (kind : Kind) (slots : List (Option ℕ)) (disks : List (List ℕ)) (s : Space) (lost : Option Dva) (b : Bptr) → ¬ IsStoredAt kind s lost b.at → bytes_now kind slots disks s lost b ≡ []
unfolding bytes_now
bytes_none kind slots disks s lost b h = pick_no (stored_or kind s lost b.at) (address_bytes (view_of disks slots s) b.at) h

-- what is stored at these addresses, told by its pointers
pub holds_all : (kind : Kind) (slots : List (Option ℕ)) (told : Type 0) (disks : List (List ℕ)) (s : Space) (lost : Option Dva) (c : Cache) (ps : List Bptr)
    → told → AreRead disks slots s c → lost ≡ None → All (λ (b : Bptr). IsStoredAt kind s lost b.at) ps → ((d u : ℕ) → live_hits (devices_in s) (addresses_of ps) d u ≤ 1) → IsAll kind s (addresses_of ps) → MayGoBack kind s (addresses_of ps)
    → HoldsBlocks kind slots told disks s lost c (record { pointers = ps; bytes = bytes_now kind slots disks s lost })
holds_all kind slots told disks s lost c ps is_told read settled all once each back = record {
  told = is_told;
  settled = settled;
  read = read;
  stored = all;
  once = once;
  all = each;
  back = back;
  alone = alone_of kind s lost (record { pointers = ps; bytes = bytes_now kind slots disks s lost }) all once;
  resolves = resolves_of kind s lost ps all;
  there = bytes_there kind slots disks s lost;
  nothing = bytes_none kind slots disks s lost;
}

-- where all devices are in service no unit is led to twice where none is in two addresses
pub led_once : (ds : Devices) (list : List Dva) → AreInService ds → (d u : ℕ) → live_hits ds list d u ≤ address_hits list d u
led_once ds [] on d u = omega arith
led_once ds (a ∷ more) on d u =
    let first = own_hits ds a (on.there a.dev) d u in
    let rest = led_once ds more on d u in
    omega (arith, first, rest, sum_by-cons (λ (x : Dva). resolve_hits ds x d u) a more, sum_by-cons (λ (x : Dva). one_if (in_address x d u)) a more)

-- the same where all devices are in service
pub holds_these : (kind : Kind) (slots : List (Option ℕ)) (told : Type 0) (disks : List (List ℕ)) (s : Space) (lost : Option Dva) (c : Cache) (on : AreInService (devices_in s)) (ps : List Bptr)
    → told → AreRead disks slots s c → lost ≡ None → All (λ (b : Bptr). IsStoredAt kind s lost b.at) ps → ((d u : ℕ) → address_hits (addresses_of ps) d u ≤ 1) → IsAll kind s (addresses_of ps)
    → HoldsBlocks kind slots told disks s lost c (record { pointers = ps; bytes = bytes_now kind slots disks s lost })
holds_these kind slots told disks s lost c on ps is_told read settled all once each =
    holds_all kind slots told disks s lost c ps is_told read settled all (λ d u. let few = led_once (devices_in s) (addresses_of ps) on d u in let one = once d u in omega (arith, few, one)) each (service_back kind s (addresses_of ps) on)

-- ---- a block is put

pub put_held : (kind : Kind) (policy : Policy) (want : ℕ) (slots : List (Option ℕ)) → ((d e slot : ℕ) → slot_of slots d ≡ Some slot → slot_of slots e ≡ Some slot → d ≡ e)
    → (told_old told_new : Type 0) (old new : Space) (before now : World) (c d : Cache) (b : Bptr) (bytes : List ℕ) (st : Stored)
    → 0 < want → b.at.start + b.at.len ≤ units_of_dev new.parts.devs b.at.dev
    → Takes kind policy want old new b.at → WritesOnly (IsWriteOf slots b.at) before now → address_bytes (view_of now.now.seen slots new) b.at ≡ bytes → told_new → AreRead now.now.seen slots new d
    → HoldsBlocks kind slots told_old before.now.seen old None c st → Now (HoldsBlocks kind slots told_new now.now.seen new None d) (Puts st b bytes)
put_held kind policy want slots apart told_old told_new old new before now c d b bytes st some within takes writes given told read held =
    let devices = takes_devices kind policy want old new b.at takes some in
    let has : 0 < b.at.len = takes_some kind policy want old new b.at takes some in
    let list = addresses_of st.pointers in
    let taken = is_taken kind policy want old new b.at takes some list held.back within in
    let stays = (serves_stays new b.at.dev taken.serves).0 in
    let own : IsStoredAt kind new None b.at = record { used = taken.used; whole = tt } in
    let there : (x : Dva) → IsStoredAt kind old None x → IsStoredAt kind new None x = λ x h. record { used = used_still kind policy want old new b.at takes some x h.used; whole = tt } in
    let all : All (λ (p : Bptr). IsStoredAt kind new None p.at) (b ∷ st.pointers) = All-cons (λ (p : Bptr). IsStoredAt kind new None p.at) b st.pointers own (λ i e lt. there _ (held.stored i e lt)) in
    let none_taken : (e u : ℕ) → in_address b.at e u ≡ true → live_hits (devices_in old) list e u ≡ 0 = λ e u is. elim (zero_or (live_hits (devices_in old) list e u)) [
      | inl z ↦ z
      | inr more ↦ absurd (true_is_false (is_of kind (role_at old e u)) (hit_role kind old None st.pointers held.stored e u more) (ap (is_of kind) (taken_was_free kind policy want old new b.at takes e u is) ∙ own_not_free kind))
    ] in
    let once : (e u : ℕ) → live_hits (devices_in new) (addresses_of (b ∷ st.pointers)) e u ≤ 1 = λ e u.
    let few = own_hits (devices_in new) b.at stays e u in
    let sum = sum_by-cons (λ (a : Dva). resolve_hits (devices_in new) a e u) b.at list in
    let same = ap (λ (ds : Devices). live_hits ds list e u) devices in
    elim (cases_bool (in_address b.at e u)) [
      | inl is ↦ let z = none_taken e u is in let o = ap one_if is in omega (arith, z, o, few, sum, same)
      | inr is ↦ let h = held.once e u in let o = ap one_if is in omega (arith, h, o, few, sum, same)
    ] in
    record {
      stored = record { pointers = b ∷ st.pointers; bytes = bytes_now kind slots now.now.seen new None };
      held = holds_all kind slots told_new now.now.seen new None d (b ∷ st.pointers) told read refl all once (all_taken kind policy want old new b.at list takes devices taken held.all) (with_back kind new b.at list taken.serves (take_back kind policy want old new b.at takes devices list held.back));
      is = record {
        fresh = elim (zero_or (hits st.pointers b.at)) [
          | inl z ↦ z
          | inr more ↦
              let was = at_each (IsStoredAt kind old None) st.pointers b.at held.stored more in
              let first : in_address b.at b.at.dev b.at.start ≡ true = grind (arith, nat_tests, has) in
              let stayed = (serves_stays old b.at.dev (sym (ap (λ (ds : Devices). is_on (state_at ds b.at.dev)) devices) ∙ taken.serves)).0 in
              let led = own_leads (devices_in old) b.at stayed (use_resolves kind old b.at was.used) b.at.dev b.at.start first in
              absurd (true_is_false (in_address b.at b.at.dev b.at.start) first (clear_of_taken kind policy want old new b.at takes b.at was.used b.at.dev b.at.start led))
        ];
        given = bytes_there kind slots now.now.seen new None b own ∙ given;
        swaps = record {
          stored = λ weight. omega (arith, sum_by-cons weight b st.pointers, sum_by-cons weight b []);
          kept = λ q none met.
              let was = at_each (IsStoredAt kind old None) st.pointers q.at held.stored met in
              bytes_there kind slots now.now.seen new None q (there q.at was)
              ∙ bytes_apart slots b.at apart before now writes old new devices q.at has (clear_of_taken kind policy want old new b.at takes q.at was.used)
              ∙ sym (held.there q was);
        };
      };
    }

-- ---- a put failed, and gave back what it took

back_all : (kind : Kind) (policy : Policy) (want : ℕ) (slots : List (Option ℕ)) (old mid new : Space) (before now : World) (taken : Option Dva) (txg : ℕ) (list : List Dva)
    → 0 < want → ((at : Dva) → taken ≡ Some at → at.start + at.len ≤ units_of_dev mid.parts.devs at.dev)
    → MayPut kind policy want slots old mid before now taken → devices_in new ≡ devices_in mid → GivesBackLost kind mid new taken txg → MayGoBack kind old list → IsAll kind old list → IsAll kind new list
back_all kind policy want slots old mid new before now None txg list some within (same, still) devices gives back all = subst (λ (s : Space). IsAll kind s list) (sym (gives ∙ same)) all
back_all kind policy want slots old mid new before now (Some at) txg list some within (takes, writes) devices (inl (in_use, gives)) back all =
    all_back kind policy want old mid new at txg list takes (takes_devices kind policy want old mid at takes some) (is_taken kind policy want old mid at takes some list back (within at refl)) gives devices all
back_all kind policy want slots old mid new before now (Some at) txg list some within (takes, writes) devices (inr (not_used, same)) back all =
    absurd (not_used (is_taken kind policy want old mid at takes some list back (within at refl)).used)

pub given_up_held : (kind : Kind) (policy : Policy) (want : ℕ) (slots : List (Option ℕ)) → ((d e slot : ℕ) → slot_of slots d ≡ Some slot → slot_of slots e ≡ Some slot → d ≡ e)
    → (told_old told_new : Type 0) (old mid new : Space) (before now : World) (c d : Cache) (taken : Option Dva) (txg : ℕ) (st : Stored)
    → 0 < want → ((at : Dva) → taken ≡ Some at → at.start + at.len ≤ units_of_dev mid.parts.devs at.dev)
    → MayPut kind policy want slots old mid before now taken → devices_in new ≡ devices_in mid → GivesBackLost kind mid new taken txg → told_new → AreRead now.now.seen slots mid d
    → HoldsBlocks kind slots told_old before.now.seen old None c st → HoldsBlocks kind slots told_new now.now.seen new None d st
given_up_held kind policy want slots apart told_old told_new old mid new before now c d taken txg st some within puts devices gives told read held =
    let but = failed_held kind policy want slots apart told_old told_new old mid before now c d taken st some within puts told read (but_of kind slots told_old before.now.seen old None c st held) in
    whole_of kind slots told_new now.now.seen new None d st (lost_held kind slots told_new now.now.seen mid new taken txg d st devices gives but) refl
    (back_all kind policy want slots old mid new before now taken txg (addresses_of st.pointers) some within puts devices gives held.back held.all)

-- ---- a block is given back

-- a weight of the pointers at an address alone
abbrev at_one : Dva → (Bptr → ℕ) → Bptr → ℕ
at_one at weight b = if nat_eq (one_at at b) 0 then 0 else weight b

abbrev without : Dva → List Bptr → List Bptr
without at [] = []
without at (p ∷ ps) = if nat_eq (one_at at p) 0 then p ∷ without at ps else without at ps

sum_without : (at : Dva) (weight : Bptr → ℕ) (ps : List Bptr) → sum_by weight (without at ps) + sum_by (at_one at weight) ps ≡ sum_by weight ps
sum_without at weight [] = refl
sum_without at weight (p ∷ ps) =
    let rest = sum_without at weight ps in
    elim (one_cases at p) [
      | inl e ↦
          let list : without at (p ∷ ps) ≡ p ∷ without at ps = ap (λ (n : ℕ). if nat_eq n 0 then p ∷ without at ps else without at ps) e in
          let w : at_one at weight p ≡ 0 = ap (λ (n : ℕ). if nat_eq n 0 then 0 else weight p) e in
          let sums = ap (λ (l : List Bptr). sum_by weight l) list in
          omega (arith, rest, w, sums, sum_by-cons weight p (without at ps), sum_by-cons weight p ps, sum_by-cons (at_one at weight) p ps)
      | inr e ↦
          let list : without at (p ∷ ps) ≡ without at ps = ap (λ (n : ℕ). if nat_eq n 0 then p ∷ without at ps else without at ps) e in
          let w : at_one at weight p ≡ weight p = ap (λ (n : ℕ). if nat_eq n 0 then 0 else weight p) e in
          let sums = ap (λ (l : List Bptr). sum_by weight l) list in
          omega (arith, rest, w, sums, sum_by-cons weight p ps, sum_by-cons (at_one at weight) p ps)
    ]

none_at_one : (at : Dva) (weight : Bptr → ℕ) (ps : List Bptr) → hits ps at ≡ 0 → sum_by (at_one at weight) ps ≡ 0
none_at_one at weight [] h = refl
none_at_one at weight (p ∷ ps) h =
    let s = sum_by-cons (one_at at) p ps in
    let e : one_at at p ≡ 0 = omega (arith, h, s) in
    let first : at_one at weight p ≡ 0 = ap (λ (n : ℕ). if nat_eq n 0 then 0 else weight p) e in
    let rest = none_at_one at weight ps (omega (arith, h, s)) in
    omega (arith, first, rest, sum_by-cons (at_one at weight) p ps)

-- the one pointer at an address weighs all that is there
pub record TheOne (at : Dva) (ps : List Bptr) : Type 0 where
  pub pointer : Bptr
  pub weighs : (weight : Bptr → ℕ) → sum_by (at_one at weight) ps ≡ weight pointer

the_one : (at : Dva) (ps : List Bptr) → 0 < hits ps at → hits ps at ≤ 1 → TheOne at ps
the_one at [] some once = absurd (omega (arith, some))
the_one at (p ∷ ps) some once = elim (one_cases at p) [
  | inl e ↦
      let rest = the_one at ps (omega (arith, some, e, sum_by-cons (one_at at) p ps)) (omega (arith, once, sum_by-cons (one_at at) p ps)) in
      record {
        pointer = rest.pointer;
        weighs = λ weight.
            let w : at_one at weight p ≡ 0 = ap (λ (n : ℕ). if nat_eq n 0 then 0 else weight p) e in
            let r = rest.weighs weight in
            omega (arith, w, r, sum_by-cons (at_one at weight) p ps);
      }
  | inr e ↦ record {
    pointer = p;
    weighs = λ weight.
        let w : at_one at weight p ≡ weight p = ap (λ (n : ℕ). if nat_eq n 0 then 0 else weight p) e in
        let z = none_at_one at weight ps (omega (arith, once, e, sum_by-cons (one_at at) p ps)) in
        omega (arith, w, z, sum_by-cons (at_one at weight) p ps);
  }
]

stored_weight : (b : Bptr) (st : Stored) → AreStored (b ∷ []) st → IsOnce st → (weight : Bptr → ℕ) → sum_by (at_one b.at weight) st.pointers ≡ weight b
stored_weight b st are once weight =
    let met : 0 < hits st.pointers b.at = let h = are (one_at b.at) in omega (arith, h, one_itself b, sum_by-cons (one_at b.at) b []) in
    let one = the_one b.at st.pointers met (once b.at) in
    let own : (f : Bptr → ℕ) → at_one b.at f b ≡ f b = λ f. ap (λ (n : ℕ). if nat_eq n 0 then 0 else f b) (one_itself b) in
    let least : (f : Bptr → ℕ) → f b ≤ f one.pointer = λ f. let h = are (at_one b.at f) in let o = own f in let w = one.weighs f in omega (arith, h, o, w, sum_by-cons (at_one b.at f) b []) in
    let up = least weight in
    let down = least (λ x. (weight b + weight one.pointer) - weight x) in
    let w = one.weighs weight in
    omega (arith, up, down, w)

-- a pointer to a block that is stored
stored_there : (kind : Kind) (s : Space) (lost : Option Dva) (b : Bptr) (st : Stored) → All (λ (p : Bptr). IsStoredAt kind s lost p.at) st.pointers → AreStored (b ∷ []) st → IsStoredAt kind s lost b.at
stored_there kind s lost b st all are =
    let met : 0 < hits st.pointers b.at = let h = are (one_at b.at) in omega (arith, h, one_itself b, sum_by-cons (one_at b.at) b []) in
    at_each (IsStoredAt kind s lost) st.pointers b.at all met

pub is_there : (kind : Kind) (slots : List (Option ℕ)) (told : Type 0) (disks : List (List ℕ)) (s : Space) (lost : Option Dva) (c : Cache) (b : Bptr) (st : Stored) → HoldsBlocks kind slots told disks s lost c st → AreStored (b ∷ []) st → IsStoredAt kind s lost b.at
is_there kind slots told disks s lost c b st held are = stored_there kind s lost b st held.stored are

module _ (kind : Kind) (old new : Space) (a : Dva) (birth : ℕ) (devices : devices_in new ≡ devices_in old) (used : IsInUse kind old a) (gives : GivesBack kind old new a birth) where
  -- what leads elsewhere and may go back is still in use
  pub other_used : (x : Dva) → IsInUse kind old x → MayGoBack kind new (x ∷ []) → ((d u : ℕ) → leads_to (devices_in old) x d u ≡ true → leads_to (devices_in old) a d u ≡ false) → IsInUse kind new x
  other_used x h back clear = use_along kind old new x devices (λ was. back) (λ d u led. give_keeps kind old new a birth used gives d u (clear d u led) (use_roles kind old x h d u led)) h

  rest_there : (lost : Option Dva) (qs : List Bptr) → All (λ (p : Bptr). IsStoredAt kind old lost p.at) qs → MayGoBack kind new (addresses_of qs) → ((d u : ℕ) → leads_to (devices_in old) a d u ≡ true → live_hits (devices_in old) (addresses_of qs) d u ≡ 0)
      → All (λ (p : Bptr). IsStoredAt kind new lost p.at) qs
  rest_there lost [] all back clear = All-nil (λ (p : Bptr). IsStoredAt kind new lost p.at)
  rest_there lost (q ∷ qs) all back clear =
      let was = All-head (λ (p : Bptr). IsStoredAt kind old lost p.at) q qs all in
      let first : IsStoredAt kind new lost q.at =
      record {
        used = other_used q.at was.used (head_back kind new q.at (addresses_of qs) back) (λ d u led. elim (cases_bool (leads_to (devices_in old) a d u)) [
          | inr out ↦ out
          | inl both ↦
              let z = clear d u both in
              let some = leads_some (devices_in old) q.at d u led in
              absurd (omega (arith, z, some, sum_by-cons (λ (x : Dva). resolve_hits (devices_in old) x d u) q.at (addresses_of qs)))
        ]);
        whole = apart_same lost q.at (devices_in old) (devices_in new) devices was.whole;
      } in
      All-cons (λ (p : Bptr). IsStoredAt kind new lost p.at) q qs first
      (rest_there lost qs (All-tail (λ (p : Bptr). IsStoredAt kind old lost p.at) q qs all) (tail_back kind new q.at (addresses_of qs) back)
      (λ d u both. let z = clear d u both in omega (arith, z, sum_by-cons (λ (x : Dva). resolve_hits (devices_in old) x d u) q.at (addresses_of qs))))

All_without : (P : Bptr → Type 0) (at : Dva) (ps : List Bptr) → All P ps → All P (without at ps)
All_without P at [] all = all
All_without P at (p ∷ ps) all = (elim (nat_eq (one_at at p) 0) as (λ (v : Bool). All P (if v then p ∷ without at ps else without at ps)) [
  | true ↦ All-cons P p (without at ps) (All-head P p ps all) (All_without P at ps (All-tail P p ps all))
  | false ↦ All_without P at ps (All-tail P p ps all)
])

pub free_held : (kind : Kind) (slots : List (Option ℕ)) (told : Type 0) (disks : List (List ℕ)) (old new : Space) (lost : Option Dva) (c d : Cache) (b : Bptr) (birth : ℕ) (st : Stored)
    → devices_in new ≡ devices_in old → GivesBack kind old new b.at birth → AreRead disks slots new d
    → HoldsBlocks kind slots told disks old lost c st → AreStored (b ∷ []) st → Now (HoldsBlocks kind slots told disks new lost d) (λ n. Swaps st n (b ∷ []) [])
free_held kind slots told disks old new lost c d b birth st devices gives read held are =
    let own = stored_there kind old lost b st held.stored are in
    let left = without b.at st.pointers in
    let weighs = stored_weight b st are held.alone in
    let fewer : (weight : Bptr → ℕ) → sum_by weight left + weight b ≡ sum_by weight st.pointers = λ weight. let w = weighs weight in let s = sum_without b.at weight st.pointers in omega (arith, w, s) in
    let parts : Parts (addresses_of st.pointers) (addresses_of left) b.at = λ f. let w = fewer (λ (p : Bptr). f p.at) in omega (arith, w, weight_of f left, weight_of f st.pointers) in
    let left_all = All_without (λ (p : Bptr). IsStoredAt kind old lost p.at) b.at st.pointers held.stored in
    let back : MayGoBack kind new (addresses_of left) =
    rest_back kind old new b.at birth gives devices (addresses_of st.pointers) (addresses_of left) parts (each_resolves kind old lost left left_all) (use_resolves kind old b.at own.used) held.once held.back in
    let clear : (e u : ℕ) → leads_to (devices_in old) b.at e u ≡ true → live_hits (devices_in old) (addresses_of left) e u ≡ 0 = λ e u is.
    let some = leads_some (devices_in old) b.at e u is in
    let sum = parts (λ (a : Dva). resolve_hits (devices_in old) a e u) in
    let few = held.once e u in
    omega (arith, some, sum, few) in
    let all = rest_there kind old new b.at birth devices own.used gives lost left left_all back clear in
    record {
      stored = record { pointers = left; bytes = bytes_now kind slots disks new lost };
      held = holds_all kind slots told disks new lost d left held.told read held.settled
          all
          (λ e u.
          let sum = parts (λ (a : Dva). resolve_hits (devices_in old) a e u) in
          let few = held.once e u in
          let same = ap (λ (ds : Devices). live_hits ds (addresses_of left) e u) devices in
          omega (arith, sum, few, same))
          (all_freed kind old new b.at birth (addresses_of st.pointers) (addresses_of left) devices own.used gives parts held.once held.all)
          back;
      is = record {
        stored = λ weight. let f = fewer weight in omega (arith, f, sum_by-cons weight b []);
        kept = λ q free met.
            let f = fewer (one_at q.at) in
            let still : 0 < hits left q.at = omega (arith, f, free, met, sum_by-cons (one_at q.at) b []) in
            let was = at_each (IsStoredAt kind old lost) st.pointers q.at held.stored met in
            bytes_there kind slots disks new lost q (at_each (IsStoredAt kind new lost) left q.at all still)
            ∙ ap (λ (ds : Devices). address_bytes (record { disks = disks; slots = slots; devices = ds }) q.at) devices
            ∙ sym (held.there q was);
      };
    }

-- ---- the same blocks for a store that begins

-- where each block that is stored stays, and keeps its bytes, they are still all, and all may still go back, a store that begins there holds the same blocks
pub held_again : (kind : Kind) (slots : List (Option ℕ)) (told_old told_new : Type 0) (disks_old disks_new : List (List ℕ)) (s t : Space) (lost : Option Dva) (c d : Cache) (st : Stored)
    → told_new → AreRead disks_new slots t d
    → ((x : Dva) → IsStoredAt kind s lost x → IsStoredAt kind t None x)
    → ((x : Dva) → IsStoredAt kind s lost x → address_bytes (view_of disks_new slots t) x ≡ address_bytes (view_of disks_old slots s) x)
    → ((d u : ℕ) → live_hits (devices_in t) (addresses_of st.pointers) d u ≤ 1) → IsAll kind t (addresses_of st.pointers) → MayGoBack kind t (addresses_of st.pointers)
    → HoldsBlocks kind slots told_old disks_old s lost c st → Now (HoldsBlocks kind slots told_new disks_new t None d) (λ n. Swaps st n [] [])
held_again kind slots told_old told_new disks_old disks_new s t lost c d st told read there bytes once each back held =
    let all : All (λ (p : Bptr). IsStoredAt kind t None p.at) st.pointers = λ i e lt. there _ (held.stored i e lt) in
    record {
      stored = record { pointers = st.pointers; bytes = bytes_now kind slots disks_new t None };
      held = holds_all kind slots told_new disks_new t None d st.pointers told read refl all once each back;
      is = record {
        stored = λ weight. refl;
        kept = λ q free met.
            let was = at_each (IsStoredAt kind s lost) st.pointers q.at held.stored met in
            bytes_there kind slots disks_new t None q (there q.at was) ∙ bytes q.at was ∙ sym (held.there q was);
      };
    }

-- the same where all devices are in service
pub held_anew : (kind : Kind) (slots : List (Option ℕ)) (told_old told_new : Type 0) (disks_old disks_new : List (List ℕ)) (s t : Space) (lost : Option Dva) (c d : Cache) (st : Stored)
    → AreInService (devices_in t) → told_new → AreRead disks_new slots t d
    → ((x : Dva) → IsStoredAt kind s lost x → IsStoredAt kind t None x)
    → ((x : Dva) → IsStoredAt kind s lost x → address_bytes (view_of disks_new slots t) x ≡ address_bytes (view_of disks_old slots s) x)
    → IsAll kind t (addresses_of st.pointers)
    → HoldsBlocks kind slots told_old disks_old s lost c st → Now (HoldsBlocks kind slots told_new disks_new t None d) (λ n. Swaps st n [] [])
held_anew kind slots told_old told_new disks_old disks_new s t lost c d st on told read there bytes each held =
    held_again kind slots told_old told_new disks_old disks_new s t lost c d st told read there bytes
    (λ e u. let few = led_once (devices_in t) (addresses_of st.pointers) on e u in let one = units_once kind s lost st.pointers held.stored held.once e u in omega (arith, few, one))
    each (service_back kind t (addresses_of st.pointers) on) held

-- a store that begins holds what the one before it held
pub begins_held : (kind : Kind) (slots : List (Option ℕ)) (told : Type 0) (disks : List (List ℕ)) (s : Space) (lost : Option Dva) (c : Cache) (st : Stored)
    → HoldsBlocks kind slots told disks s lost c st → Now (HoldsBlocks kind slots told disks s None c) (λ n. Swaps st n [] [])
begins_held kind slots told disks s lost c st held =
    held_again kind slots told told disks disks s s lost c c st held.told held.read (λ x h. record { used = h.used; whole = tt }) (λ x h. refl) held.once held.all held.back held

-- what is held is so still where the bytes of each block stay
pub read_held : (kind : Kind) (slots : List (Option ℕ)) (told_old told_new : Type 0) (disks_old disks_new : List (List ℕ)) (s : Space) (lost : Option Dva) (c d : Cache) (st : Stored)
    → told_new → AreRead disks_new slots s d
    → ((x : Dva) → IsStoredAt kind s lost x → address_bytes (view_of disks_new slots s) x ≡ address_bytes (view_of disks_old slots s) x)
    → HoldsBlocks kind slots told_old disks_old s lost c st → HoldsBlocks kind slots told_new disks_new s lost d st
read_held kind slots told_old told_new disks_old disks_new s lost c d st told read bytes held = record {
  told = told;
  settled = held.settled;
  read = read;
  stored = held.stored;
  once = held.once;
  all = held.all;
  back = held.back;
  alone = held.alone;
  resolves = held.resolves;
  there = λ b h. held.there b h ∙ sym (bytes b.at h);
  nothing = held.nothing;
}

-- what the devices hold is so whatever is told of them
pub retold : (kind : Kind) (slots : List (Option ℕ)) (told other : Type 0) (disks : List (List ℕ)) (s : Space) (lost : Option Dva) (c : Cache) (st : Stored)
    → other → HoldsBlocks kind slots told disks s lost c st → HoldsBlocks kind slots other disks s lost c st
retold kind slots told other disks s lost c st is_told held = read_held kind slots told other disks disks s lost c c st is_told held.read (λ x h. refl) held

-- ---- a store that is only read

pub reader_freed : (slots : List (Option ℕ)) (told : Type 0) (disks : List (List ℕ)) (s : Space) (c : Cache) (b : Bptr) (st : Stored) → HoldsRead slots told disks s c st → AreStored (b ∷ []) st
    → Now (HoldsRead slots told disks s c) (λ n. Swaps st n (b ∷ []) [])
reader_freed slots told disks s c b st held are =
    let left = without b.at st.pointers in
    let weighs = stored_weight b st are held.alone in
    let fewer : (weight : Bptr → ℕ) → sum_by weight left + weight b ≡ sum_by weight st.pointers = λ weight. let w = weighs weight in let s = sum_without b.at weight st.pointers in omega (arith, w, s) in
    record {
      stored = record { pointers = left; bytes = st.bytes };
      held = record {
        told = held.told;
        read = held.read;
        alone = λ at. let f = fewer (one_at at) in let o = held.alone at in omega (arith, f, o);
        resolves = λ at met. let f = fewer (one_at at) in held.resolves at (omega (arith, f, met));
        bytes = held.bytes;
      };
      is = record {
        stored = λ weight. let f = fewer weight in omega (arith, f, sum_by-cons weight b []);
        kept = λ q free met. refl;
      };
    }
