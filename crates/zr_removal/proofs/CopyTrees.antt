-- Where units of a device that is leaving are copied, the trees of the pool's streams stand as the last root has them: the logs lead to what the sets were, and the device's mapping has another entry at its end.
use Rattle.std.proofs.Common.{◌≡◌, ◌⊎◌, inl, inr, ℕ, ◌<◌, ◌≤◌, ◌^◌, Bool, true, false, List, [], ◌∷◌, ◌++◌, length, take, Option, Some, None, refl, sym, ◌∙◌, ap, subst, arith}
use Rattle.std.specs.Prelude.{◌&&◌, not, nat_lt, if◌then◌else◌, slice_index_or}
use Rattle.std.proofs.lemmas.Bool.{cases_eq}
use Rattle.std.proofs.lemmas.Bool.Decides.{nat_tests}
use Rattle.std.proofs.lemmas.List.{length-append, take-append-le}
use Rattle.zr_base.specs.declared.space.Dva.{Dva}
use Rattle.zr_base.specs.declared.space.Entry.{Entry}
use Rattle.zr_base.specs.declared.space.Policy.{Policy}
use Rattle.zr_bptr.proofs.Pieces.{each_more}
use Rattle.zr_bptr.specs.declared.Tree.{Tree}
use Rattle.zr_cache.specs.declared.table.Cache.{Cache}
use Rattle.zr_rules.specs.Equation.{devices_in}
use Rattle.zr_rules.specs.Frees.{IsSameRoot}
use Rattle.zr_rules.specs.Logs.{IsStorable}
use Rattle.zr_rules.specs.Places.{in_address, is_gone, part_of, state_of_dev, units_of_dev}
use Rattle.zr_rules.specs.Resolve.{leads_to}
use Rattle.zr_rules.specs.Roles.{Role, is_free_role, is_held_role, is_meta_role}
use Rattle.zr_rules.specs.Roles.Role.{Absent, Free, FreshCopy, Meta as MetaRole, SavedMeta}
use Rattle.zr_rules.specs.Space.{Space, has_place, role_at}
use Rattle.zr_shelf.specs.Doings.{WritesOnly}
use Rattle.zr_shelf.specs.Moments.{World}
use Rattle.zr_space.specs.Drops.{HasRole, IsMeta}
use Rattle.zr_space.specs.Plans.{IsPlan, MakesCopy}
use Rattle.zr_space.specs.declared.copy.Plan.{Plan}
use Rattle.zr_store.specs.Store.{Now, Stored, Swaps}
use Rattle.zr_sync.proofs.Recording.{stand_still}
use Rattle.zr_sync.specs.Mappings.{HasFirst, IsSpelled, is_turned, mapping_words, turned_at}
use Rattle.zr_sync.specs.Pools.{IsOpen}
use Rattle.zr_sync.specs.Trees.{Place, HasTrees, HoldsStreams, IsAt, IsCondAt, every, head_tree, one_stage}
use Rattle.zr_sync.specs.Trees.Place.{OfLog, OfMapping, FirstLate, SecondLate}
use Rattle.zr_sync.specs.Trees.Stage.{Had}
use Rattle.zr_sync.specs.Words.{IsLastLog, log_was}
use Rattle.zr_sync.specs.declared.mappings.MappingStream.{MappingStream}
use Rattle.zr_sync.specs.declared.mappings.MappingStream.TheVariants.{Counts, Entries}
use Rattle.zr_sync.specs.declared.open.CondStreams.{CondStreams}
use Rattle.zr_sync.specs.declared.open.OpenPool.{OpenPool}
use Rattle.zr_sync.specs.declared.open.Table.{Table}
use Rattle.zr_sync.specs.declared.open.Turned.{Turned}
use Rattle.zr_sync.specs.declared.words.Log.{Log}
use Rattle.zr_sync.specs.declared.words.Log.TheVariants.{Fresh, Held, Kept}
use Rattle.zr_vdev.proofs.Frames.{run_stays}
use Rattle.zr_vdev.proofs.Held.{address_same, one_unit}
use Rattle.zr_vdev.proofs.Moves.{held_again}
use Rattle.zr_vdev.proofs.Uses.{use_roles}
use Rattle.zr_vdev.specs.Caches.{AreRead}
use Rattle.zr_vdev.specs.Copies.{CopiesUnits, IsWriteIntoFree}
use Rattle.zr_vdev.specs.Runs.{view_of}
use Rattle.zr_vdev.specs.Stores.{HoldsBlocks, addresses_of, is_current, may_write}
use Rattle.zr_vdev.specs.declared.kind.Kind.TheVariants.{Meta}
use Rattle.zr_view.specs.Views.{address_bytes, slot_of}
use Rattle.zr_removal.proofs.Alike.{bytes_same, live_same}
use Rattle.zr_removal.proofs.Outgoing.{TurnsOne, copies_one, count, gone_same, maps_same, plan_free, size_same}

-- ---- the metadata

-- metadata is not free, so a write into free units leaves its bytes
pub meta_writes : (slots : List (Option ℕ)) (s : Space) (before now : World) (a : Dva) → ((d e slot : ℕ) → slot_of slots d ≡ Some slot → slot_of slots e ≡ Some slot → d ≡ e) → WritesOnly (IsWriteIntoFree slots s) before now → IsMeta s a
    → address_bytes (view_of now.now.seen slots s) a ≡ address_bytes (view_of before.now.seen slots s) a
meta_writes slots s before now a apart wrote is =
    address_same slots (devices_in s) before.now.seen now.now.seen a (λ d u led. run_stays Meta slots s (one_unit d u) (omega arith) (barred d u led) apart before now wrote)
  where
    meta_barred : (r : Role) → is_meta_role r ≡ true → may_write Meta r ≡ false
    meta_barred r meta = grind (arith, nat_tests, meta)

    barred : (d u : ℕ) → leads_to (devices_in s) a d u ≡ true → (e v : ℕ) → in_address (one_unit d u) e v ≡ true → may_write Meta (role_at s e v) ≡ false
    barred d u led e v inside =
        let dev : e ≡ d = grind (arith, nat_tests, inside) in
        let unit : v ≡ u = grind (arith, nat_tests, inside) in
        ap (λ (y : ℕ). may_write Meta (role_at s y v)) dev ∙ (ap (λ (w : ℕ). may_write Meta (role_at s d w)) unit ∙ meta_barred (role_at s d u) (use_roles Meta s a is d u led))

meta_else : (b : Bool) (r : Role) → is_meta_role r ≡ true → (b ≡ true → r ≡ Free) → (if b then FreshCopy else r) ≡ r
meta_else true r is free = absurd (let no_way : false ≡ true = sym (ap is_meta_role (free refl)) ∙ is in cc)
meta_else false r is free = refl

copy_current : (b : Bool) (r : Role) → (b ≡ true → r ≡ Free) → is_current (if b then FreshCopy else r) ≡ is_current r
copy_current true r free = sym (ap is_current (free refl))
copy_current false r free = refl

module _ (s t : Space) (d : ℕ) (p : Plan) (plan : IsPlan s d p) (m : MakesCopy s t d p) where
  abbrev one : TurnsOne s t d
  one = copies_one s t d p plan m

  -- the same units are metadata of the current root
  current_same : (e u : ℕ) → is_current (role_at t e u) ≡ is_current (role_at s e u)
  current_same e u = ap is_current (m.roles e u) ∙ copy_current (in_address p.to e u) (role_at s e u) (plan_free s d p plan e u)

  -- what is metadata stays so
  stays_as : (a : Dva) (r : Role) → is_meta_role r ≡ true → HasRole s a r → HasRole t a r
  stays_as a r meta has u inside =
      let was = has u inside in
      m.roles a.dev u ∙ meta_else (in_address p.to a.dev u) (role_at s a.dev u) (ap is_meta_role was ∙ meta) (plan_free s d p plan a.dev u) ∙ was

  still_used : (a : Dva) → HasRole s a MetaRole ⊎ HasRole s a SavedMeta → HasRole t a MetaRole ⊎ HasRole t a SavedMeta
  still_used a (inl has) = inl (stays_as a MetaRole refl has)
  still_used a (inr has) = inr (stays_as a SavedMeta refl has)

  still_meta : (a : Dva) → IsMeta s a → IsMeta t a
  still_meta a is =
      let known = is.known in
      let within = is.within in
      let many : length t.parts.devs ≡ length s.parts.devs = count s t d one in
      let size : units_of_dev t.parts.devs a.dev ≡ units_of_dev s.parts.devs a.dev = size_same s t d one a.dev in
      record { known = omega (arith, known, many); some = is.some; within = omega (arith, within, size); used = still_used a is.used }

  meta_copied : (slots : List (Option ℕ)) (t1 t2 : Type 0) (before now : World) (c k : Cache) (st : Stored) → t2 → ((d e slot : ℕ) → slot_of slots d ≡ Some slot → slot_of slots e ≡ Some slot → d ≡ e) → WritesOnly (IsWriteIntoFree slots s) before now → AreRead now.now.seen slots t k
      → HoldsBlocks Meta slots t1 before.now.seen s None c st → Now (HoldsBlocks Meta slots t2 now.now.seen t None k) (λ n. Swaps st n [] [])
  meta_copied slots t1 t2 before now c k st told apart wrote read held =
      let es = devices_in t in
      let ds = devices_in s in
      let many = count s t d one in
      let gone = gone_same s t d one in
      let size = size_same s t d one in
      let maps = maps_same s t d one in
      held_again Meta slots t1 t2 before.now.seen now.now.seen s t None c k st told read
      (λ a is. record { used = still_meta a is.used; whole = tt })
      (λ a is. bytes_same es ds many gone size maps now.now.seen slots a ∙ meta_writes slots s before now a apart wrote is.used)
      (λ e u. (let most = held.once e u in let same = live_same es ds many gone size maps (addresses_of st.pointers) e u in omega (arith, most, same)))
      (record {
        used = λ e u is.
            let was = held.all.used e u (sym (current_same e u) ∙ is) in
            let same = live_same es ds many gone size maps (addresses_of st.pointers) e u in
            omega (arith, was, same);
        current = λ e u some.
            let same = live_same es ds many gone size maps (addresses_of st.pointers) e u in
            current_same e u ∙ held.all.current e u (omega (arith, some, same));
      })
      tt
      held

-- ---- the logs

was_same : (s t : Space) → IsSameRoot s t → (log : Log) (d u : ℕ) → log_was log t d u ≡ log_was log s d u
was_same s t root Held d u = root.held d u
was_same s t root Kept d u = root.kept d u
was_same s t root Fresh d u = root.fresh d u

last_log_same : (s t : Space) → IsSameRoot s t → (version d : ℕ) (log : Log) (ws : List ℕ) → IsLastLog version s d log ws → IsLastLog version t d log ws
last_log_same s t root version d log ws is = record { set = is.set; log_is = is.log_is; units = λ u. is.units u ∙ sym (was_same s t root log d u) }

-- ---- the mappings

absent : (s : Space) (d u : ℕ) → has_place s d u ≡ false → role_at s d u ≡ Absent
unfolding role_at
absent s d u none = rw none refl

-- a unit with a role is one of its device
there : (test : Role → Bool) → test Absent ≡ false → (s : Space) (d u : ℕ) → test (role_at s d u) ≡ true → u < units_of_dev s.parts.devs d
there test none s d u is = by (has_place s d u) refl
  where
    within : (gone : Bool) (n m : ℕ) → (nat_lt d n && (not gone && nat_lt u m)) ≡ true → u < m
    within gone n m has = grind (arith, nat_tests, has)

    by : (b : Bool) → has_place s d u ≡ b → u < units_of_dev s.parts.devs d
    by true has = within (is_gone (state_of_dev s.parts.devs d)) (length s.parts.devs) (units_of_dev s.parts.devs d) has
    by false out = absurd (let no_way : false ≡ true = sym (ap test (absent s d u out) ∙ none) ∙ is in cc)

abbrev entry_of : Plan → Entry
entry_of p = record { src = p.from.start; dev = p.to.dev; dst = p.to.start; len = p.from.len }

-- the entry of a copy can be spelled
copy_storable : (s : Space) (d : ℕ) (p : Plan) → IsPlan s d p → length s.parts.devs ≤ 32 → ((e : ℕ) → units_of_dev s.parts.devs e ≤ 2 ^ 40) → IsStorable (entry_of p)
copy_storable s d p plan few small =
    let some = plan.some in
    let short = plan.few in
    let len = plan.len in
    let known = plan.known in
    let from = there is_held_role refl s d p.from.start (plan.held p.from.start (grind (arith, nat_tests, some))) in
    let to = there is_free_role refl s p.to.dev p.to.start (ap is_free_role (plan.free p.to.start (grind (arith, nat_tests, some, len)))) in
    let from_small = small d in
    let to_small = small p.to.dev in
    record {
      source = omega (arith, from, from_small);
      to = record { some = some; short = omega (arith, short); dev = omega (arith, known, few); start = omega (arith, to, to_small) };
    }

-- what a stream of a mapping has, which can be spelled, unless it was turned
abbrev HasTurned : Bool → MappingStream → List Entry → List ℕ → List ℕ → Type 0
HasTurned turned which es cs ws = (turned ≡ false → HasFirst which es cs ws) × IsSpelled es cs

-- the first entries are the first of more
first_more : (which : MappingStream) (es : List Entry) (cs ws : List ℕ) (e : Entry) → length cs ≡ length es → HasFirst which es cs ws → HasFirst which (es ++ e ∷ []) (cs ++ 0 ∷ []) ws
first_more Entries es cs ws e each (n, le, is) =
    let long = length-append es (e ∷ []) in
    (n, omega (arith, le, long), is ∙ ap (λ (them : List Entry). mapping_words Entries them (take n cs)) (sym (take-append-le n es (e ∷ []) le)))
first_more Counts es cs ws e each (n, le, is) =
    let long = length-append es (e ∷ []) in
    (n, omega (arith, le, long), is ∙ sym (take-append-le n cs (0 ∷ []) (omega (arith, le, each))))

spelled_more : (es : List Entry) (cs : List ℕ) (e : Entry) → IsStorable e → IsSpelled es cs → IsSpelled (es ++ e ∷ []) (cs ++ 0 ∷ [])
spelled_more es cs e storable is =
    let each = is.each in
    let entries = length-append es (e ∷ []) in
    let counts = length-append cs (0 ∷ []) in
    record { storable = each_more IsStorable es e is.storable storable; each = omega (arith, each, entries, counts) }

has_more : (turned : Bool) (which : MappingStream) (es : List Entry) (cs ws : List ℕ) (e : Entry) → IsStorable e → HasTurned turned which es cs ws → HasTurned turned which (es ++ e ∷ []) (cs ++ 0 ∷ []) ws
has_more turned which es cs ws e storable has = (λ same. first_more which es cs ws e has.1.each (has.0 same), spelled_more es cs e storable has.1)

has_as : (turned : Bool) (which : MappingStream) (es fs : List Entry) (cs ds ws : List ℕ) → fs ≡ es → ds ≡ cs → HasTurned turned which es cs ws → HasTurned turned which fs ds ws
has_as turned which es fs cs ds ws entries counts has =
    subst (λ (them : List Entry). HasTurned turned which them ds ws) (sym entries) (subst (λ (them : List ℕ). HasTurned turned which es them ws) (sym counts) has)

mapping_copied : (s t : Space) (d : ℕ) (p : Plan) → IsStorable (entry_of p) → MakesCopy s t d p → (turned : Bool) (e : ℕ) (which : MappingStream) (ws : List ℕ)
    → HasTurned turned which (part_of s.parts.devs e).entries (part_of s.parts.devs e).counts ws → HasTurned turned which (part_of t.parts.devs e).entries (part_of t.parts.devs e).counts ws
mapping_copied s t d p storable m turned e which ws has = elim (cases_eq e d) [
  | inl here ↦
      let was = part_of s.parts.devs d in
      let own : HasTurned turned which was.entries was.counts ws = subst (λ (k : ℕ). HasTurned turned which (part_of s.parts.devs k).entries (part_of s.parts.devs k).counts ws) here has in
      subst (λ (k : ℕ). HasTurned turned which (part_of t.parts.devs k).entries (part_of t.parts.devs k).counts ws) (sym here)
      (has_as turned which (was.entries ++ entry_of p ∷ []) (part_of t.parts.devs d).entries (was.counts ++ 0 ∷ []) (part_of t.parts.devs d).counts ws m.entries m.counts (has_more turned which was.entries was.counts ws (entry_of p) storable own))
  | inr other ↦
      let same = m.elsewhere.others e other in
      has_as turned which (part_of s.parts.devs e).entries (part_of t.parts.devs e).entries (part_of s.parts.devs e).counts (part_of t.parts.devs e).counts ws same.entries same.counts has
]

-- ---- the streams of a pool

module _ (x y : OpenPool) (d : ℕ) (p : Plan) (storable : IsStorable (entry_of p)) (m : MakesCopy x.space y.space d p) (root : IsSameRoot x.space y.space) (version : y.version ≡ x.version) (turned : y.turned ≡ x.turned) (cond : y.cond ≡ x.cond) where
  had_copied : (e : ℕ) (place : Place) (ws : List ℕ) → IsAt Had x e place ws → IsAt Had y e place ws
  had_copied e (OfLog log) ws is = subst (λ (v : ℕ). IsLastLog v y.space e log ws) (sym version) (last_log_same x.space y.space root x.version e log ws is)
  had_copied e (OfMapping which) ws is =
      let same : is_turned which (turned_at y e) ≡ is_turned which (turned_at x e) = ap (λ (ts : List Turned). is_turned which (slice_index_or ts e (record { entries = false; counts = false }))) turned in
      let now = mapping_copied x.space y.space d p storable m (is_turned which (turned_at x e)) e which ws is in
      (λ still. now.0 (sym same ∙ still), now.1)
  had_copied e FirstLate ws is = tt
  had_copied e SecondLate ws is = tt

  cond_copied : (which : MappingStream) (ws : List ℕ) → IsCondAt Had x which ws → IsCondAt Had y which ws
  cond_copied which ws is c at =
      let had = is c (sym m.elsewhere.cond ∙ at) in
      (λ done. had.0 (sym (ap (λ (t : CondStreams). t.done) cond) ∙ done), had.1)

pub trees_copied : (policy : Policy) (sizes : List ℕ) (x y : OpenPool) (t0 : Type 0) (before now : World) (n : ℕ) → IsOpen sizes x → CopiesUnits policy x.table.slots t0 before now x.space y.space n → WritesOnly (IsWriteIntoFree x.table.slots x.space) before now → IsSameRoot x.space y.space
    → (AreRead before.now.seen x.table.slots x.space x.cache → AreRead now.now.seen x.table.slots y.space y.cache) → y ≡ record x { space = y.space; cache = y.cache } → HasTrees Had (Unit {0}) before.now.seen x → HasTrees Had (Unit {0}) now.now.seen y
trees_copied policy sizes x y t0 before now n o copies wrote root read rest trees =
    let h = trees.1 in
    let d = copies.dev in
    let p = copies.plan in
    let plan = copies.plans.plan in
    let slots = x.table.slots in
    let table : y.table ≡ x.table = ap (λ (q : OpenPool). q.table) rest in
    let cond : y.cond ≡ x.cond = ap (λ (q : OpenPool). q.cond) rest in
    let version : y.version ≡ x.version = ap (λ (q : OpenPool). q.version) rest in
    let turned : y.turned ≡ x.turned = ap (λ (q : OpenPool). q.turned) rest in
    let few : length x.space.parts.devs ≤ 32 = (let most = o.few in let many = o.devices in omega (arith, most, many)) in
    let storable = copy_storable x.space d p plan few o.mounted.small in
    let later = subst (λ (w : Table). Now (HoldsBlocks Meta w.slots (Unit {0}) now.now.seen y.space None y.cache) (λ k. Swaps h.stored k [] [])) (sym table)
    (meta_copied x.space y.space d p plan copies.makes slots (Unit {0}) (Unit {0}) before now x.cache y.cache h.stored tt o.mounted.apart wrote (read h.held.read) h.held) in
    let stand =
    stand_still (every Had) (every Had) (one_stage Had) (one_stage Had) (head_tree x.head trees.0) (Unit {0}) (Unit {0}) before.now.seen now.now.seen x y h (ap (λ (q : OpenPool). q.streams) rest) cond table later.stored later.held later.is
    (λ e place ws lt is. had_copied x y d p storable copies.makes root version turned cond e place ws is)
    (λ which ws is. cond_copied x y d p storable copies.makes root version turned cond which ws is) in
    (trees.0, subst (λ (t : Tree). HoldsStreams (every Had) (one_stage Had) (head_tree t trees.0) (Unit {0}) now.now.seen y) (sym (ap (λ (q : OpenPool). q.head) rest)) stand)
