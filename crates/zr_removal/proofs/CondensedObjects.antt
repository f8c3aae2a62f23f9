-- A step of condensing leaves the units what they are, and the disks hold the same objects.
use Rattle.std.proofs.Common.{◌≡◌, ◌⊎◌, inl, inr, ℕ, ◌+◌, Bool, true, false, List, [], Option, Some, None, refl, sym, ◌∙◌, ap, subst, arith}
use Rattle.std.specs.Prelude.{All, Contains, if◌then◌else◌}
use Rattle.zr_base.specs.declared.space.CondPart.{CondPart}
use Rattle.zr_base.specs.declared.space.Condensed.{Condensed}
use Rattle.zr_base.specs.declared.space.DevRow.{DevRow}
use Rattle.zr_cache.specs.Entries.{entries}
use Rattle.zr_cache.specs.Sums.{Entry as Cached}
use Rattle.zr_cache.specs.declared.table.Cache.{Cache}
use Rattle.zr_model.specs.Objects.{Objects}
use Rattle.zr_rules.specs.Condense.{folded}
use Rattle.zr_rules.specs.Devices.{state_at}
use Rattle.zr_rules.specs.Equation.{devices_in}
use Rattle.zr_rules.specs.Places.{is_gone, part_of}
use Rattle.zr_rules.specs.Roles.{is_live_role}
use Rattle.zr_rules.specs.Space.{Space, role_at}
use Rattle.zr_rules.specs.Steps.{CondensesFrom, CondensesSome, due_device}
use Rattle.zr_space.specs.Condensing.{IsUnderWay, LeadsAsBefore}
use Rattle.zr_store.specs.Store.{Now, Stored, Swaps}
use Rattle.zr_sync.proofs.Stays.{objects_stay}
use Rattle.zr_sync.specs.Objects.{HoldsObjects}
use Rattle.zr_sync.specs.declared.open.OpenPool.{OpenPool}
use Rattle.zr_sync.specs.declared.open.Table.{Table}
use Rattle.zr_vdev.proofs.Leading.{Resolves}
use Rattle.zr_vdev.proofs.Moves.{each_resolves, held_again}
use Rattle.zr_vdev.specs.Caches.{AreRead}
use Rattle.zr_vdev.specs.Stores.{HoldsBlocks, LeadsToAll, addresses_of}
use Rattle.zr_vdev.specs.declared.kind.Kind.TheVariants.{Block}
use Rattle.zr_removal.specs.Condensing.{is_done}
use Rattle.zr_removal.proofs.Alike.{bytes_same, is_resolved_same, unit_same}
use Rattle.zr_removal.proofs.Condensed.{step_keeps}
use Rattle.zr_removal.proofs.Fitting.{fits_folded, maps_stay, recasts, roles_stay}
use Rattle.zr_removal.proofs.Standing.{WereCopies, were_condensed}
use Rattle.zr_removal.proofs.Recasts.{Recasts, bytes_still, freeable_still, live_still, spends_still}

-- ---- what a step makes of the space

-- another mapping of a device, or nothing
recasts_from : (cond : Option CondPart) (due : Option ℕ) (s t : Space) (outcome : Condensed) → CondensesFrom cond due s outcome t → LeadsAsBefore s t → ((c : CondPart) → cond ≡ Some c → IsUnderWay s c) → Recasts s t ⊎ (t ≡ s)
recasts_from (Some c) due s t outcome m leads under_way =
    let so_far = (under_way c refl).worked in
    inl (recasts s t (part_of s.parts.devs c.dev).counts (part_of s.parts.devs c.dev).fresh c outcome m leads (λ u none. none) (λ ways fits. fits) so_far.kept so_far.each)
recasts_from None (Some d) s t outcome m leads under_way =
    inl (recasts s t (folded (part_of s.parts.devs d).entries (part_of s.parts.devs d).counts (part_of s.parts.devs d).fresh) [] (record { dev = d; at = 0; entries = []; counts = [] }) outcome m leads (λ u none. refl)
    (λ ways fits. fits_folded ways (part_of s.parts.devs d).entries (part_of s.parts.devs d).counts (part_of s.parts.devs d).fresh fits) refl refl)
recasts_from None None s t outcome m leads under_way = inr m.1

maps_from : (cond : Option CondPart) (due : Option ℕ) (s t : Space) (outcome : Condensed) → CondensesFrom cond due s outcome t → is_done outcome ≡ false → (e : ℕ) → (part_of t.parts.devs e).entries ≡ (part_of s.parts.devs e).entries
maps_from (Some c) due s t outcome m not e = maps_stay s t (part_of s.parts.devs c.dev).counts (part_of s.parts.devs c.dev).fresh c outcome m not e
maps_from None (Some d) s t outcome m not e =
    maps_stay s t (folded (part_of s.parts.devs d).entries (part_of s.parts.devs d).counts (part_of s.parts.devs d).fresh) [] (record { dev = d; at = 0; entries = []; counts = [] }) outcome m not e
maps_from None None s t outcome m not e = ap (λ (space : Space). (part_of space.parts.devs e).entries) m.1

roles_from : (cond : Option CondPart) (due : Option ℕ) (s t : Space) (outcome : Condensed) → CondensesFrom cond due s outcome t → (d u : ℕ) → role_at t d u ≡ role_at s d u
roles_from (Some c) due s t outcome m d u = roles_stay s t (part_of s.parts.devs c.dev).counts (part_of s.parts.devs c.dev).fresh c outcome m d u
roles_from None (Some e) s t outcome m d u =
    roles_stay s t (folded (part_of s.parts.devs e).entries (part_of s.parts.devs e).counts (part_of s.parts.devs e).fresh) [] (record { dev = e; at = 0; entries = []; counts = [] }) outcome m d u
roles_from None None s t outcome m d u = ap (λ (space : Space). role_at space d u) m.1

-- each unit is what it was
pub roles_condensed : (s t : Space) (outcome : Condensed) → CondensesSome s outcome t → (d u : ℕ) → role_at t d u ≡ role_at s d u
roles_condensed s t outcome m d u = roles_from s.parts.cond (due_device s) s t outcome m d u

-- ---- what is cached

none_cached : (e : Cached) → Contains [] e → ⊥
none_cached e among = let lt = among.1 in omega (arith, lt)

module _ (s t : Space) (outcome : Condensed) (m : CondensesSome s outcome t) (disks : List (List ℕ)) (slots : List (Option ℕ)) where
  -- up to the last step it leads where it led
  reads_stay : is_done outcome ≡ false → (c : Cache) → AreRead disks slots s c → AreRead disks slots t c
  reads_stay not c read e among =
      let was = read e among in
      let at = e.0.pointer.at in
      let keeps = step_keeps s t outcome m in
      let gone : (d : ℕ) → is_gone (state_at (devices_in t) d) ≡ is_gone (state_at (devices_in s) d) = λ d. ap (λ (r : DevRow). is_gone r.state) (keeps.row d) in
      let units : (d : ℕ) → ((devices_in t).row d).units ≡ ((devices_in s).row d).units = λ d. ap (λ (r : DevRow). r.units) (keeps.row d) in
      let maps : (d : ℕ) → is_gone (state_at (devices_in s) d) ≡ true → (devices_in t).entries d ≡ (devices_in s).entries d = λ d is. maps_from s.parts.cond (due_device s) s t outcome m not d in
      record {
        runs_of = record {
          resolves = is_resolved_same (devices_in t) (devices_in s) keeps.devices gone units maps at ∙ was.runs_of.resolves;
          follow = was.runs_of.follow;
          targets = λ k lt. was.runs_of.targets k lt ∙ sym (unit_same (devices_in t) (devices_in s) keeps.devices gone units maps at.dev (at.start + k));
        };
        same = was.same ∙ sym (bytes_same (devices_in t) (devices_in s) keeps.devices gone units maps disks slots at);
      }

  -- and behind it nothing is cached
  reads_condensed : (c k : Cache) → entries k ≡ (if is_done outcome then [] else entries c) → AreRead disks slots s c → AreRead disks slots t k
  reads_condensed c k same read = by (is_done outcome) refl
    where
      by : (b : Bool) → is_done outcome ≡ b → AreRead disks slots t k
      by true done e among = absurd (none_cached e (subst (λ (them : List Cached). Contains them e) (same ∙ ap (λ (b : Bool). if b then [] else entries c) done) among))
      by false not e among = reads_stay not c read e (subst (λ (them : List Cached). Contains them e) (same ∙ ap (λ (b : Bool). if b then [] else entries c) not) among)

-- ---- what the disks hold

module _ (slots : List (Option ℕ)) (tells : Type 0) (disks : List (List ℕ)) (s t : Space) (c k : Cache) (st : Stored) (read : AreRead disks slots t k) (held : HoldsBlocks Block slots tells disks s None c st) where
  -- some pointer leads to each unit in use still
  recast_leads : (h : Recasts s t) → WereCopies s t → All (Resolves (devices_in s)) (addresses_of st.pointers) → LeadsToAll t (addresses_of st.pointers)
  recast_leads h were all = record {
    used = λ e u live. (let some = held.all.used e u (sym (ap is_live_role (h.is.roles e u)) ∙ live) in let same = live_still s t h (addresses_of st.pointers) held.back all e u in omega (arith, some, same));
    copied = λ e u p copy. ap is_live_role (h.is.roles e u) ∙ held.all.copied e u p (were e u p copy);
  }

  recast_blocks : Recasts s t → WereCopies s t → Now (HoldsBlocks Block slots tells disks t None k) (λ n. Swaps st n [] [])
  recast_blocks h were =
      let all : All (Resolves (devices_in s)) (addresses_of st.pointers) = each_resolves Block s None st.pointers held.stored in
      held_again Block slots tells tells disks disks s t None c k st held.told read
      (λ a is. record { used = freeable_still s t h a is.used; whole = tt })
      (λ a is. bytes_still s t h a is.used disks slots)
      (λ e u. (let most = held.once e u in let same = live_still s t h (addresses_of st.pointers) held.back all e u in omega (arith, most, same)))
      (recast_leads h were all)
      (spends_still s t h (addresses_of st.pointers) held.back all)
      held

  same_blocks : t ≡ s → Now (HoldsBlocks Block slots tells disks t None k) (λ n. Swaps st n [] [])
  same_blocks same =
      subst (λ (space : Space). Now (HoldsBlocks Block slots tells disks space None k) (λ n. Swaps st n [] [])) (sym same)
      (held_again Block slots tells tells disks disks s s None c k st held.told (subst (λ (space : Space). AreRead disks slots space k) same read) (λ a is. record { used = is.used; whole = tt }) (λ a is. refl) held.once held.all held.back held)

-- the disks hold the same objects behind a step, where the last one empties the cache
pub objects_condensed : (x y : OpenPool) (outcome : Condensed) → CondensesSome x.space outcome y.space → LeadsAsBefore x.space y.space → ((c : CondPart) → x.space.parts.cond ≡ Some c → IsUnderWay x.space c) → entries y.cache ≡ (if is_done outcome then [] else entries x.cache)
    → y.table ≡ x.table → y.dir ≡ x.dir → y.group ≡ x.group → (tells : Type 0) (disks : List (List ℕ)) (objects : Objects) → HoldsObjects tells disks x objects → HoldsObjects tells disks y objects
objects_condensed x y outcome step leads under_way cached table dir group tells disks objects holds =
    let slots = x.table.slots in
    let read = reads_condensed x.space y.space outcome step disks slots x.cache y.cache cached holds.held.read in
    let again : Now (HoldsBlocks Block slots tells disks y.space None y.cache) (λ n. Swaps holds.stored n [] []) = elim (recasts_from x.space.parts.cond (due_device x.space) x.space y.space outcome step leads under_way) [
      | inl h ↦ recast_blocks slots tells disks x.space y.space x.cache y.cache holds.stored read holds.held h (were_condensed x.space y.space outcome step under_way)
      | inr same ↦ same_blocks slots tells disks x.space y.space x.cache y.cache holds.stored read holds.held same
    ] in
    objects_stay x y objects dir group holds
    (subst (λ (w : Table). Now (HoldsBlocks Block w.slots tells disks y.space None y.cache) (λ n. Swaps holds.stored n [] [])) (sym table) again)
