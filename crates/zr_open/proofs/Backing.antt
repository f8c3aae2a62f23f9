-- Going back to a group, from what the slots show on.
use Rattle.std.proofs.Common.{◌≡◌, ◌⊎◌, inl, inr, ℕ, ◌+◌, Bool, true, false, List, map, length, Option, Result, Ok, Err, refl, sym, ◌∙◌, ap, subst, arith}
use Rattle.std.specs.Prelude.{IfOk, MatchBool, ◌==◌}
use Rattle.std.proofs.lemmas.Bool.Decides.{nat_tests}
use Rattle.zr_sync.specs.declared.open.OpenPool.{OpenPool}
use Rattle.zr_slots.proofs.Window.{found_shown}
use Rattle.zr_base.specs.declared.refusal.Refusal.{Refusal}
use Rattle.zr_image.specs.Current.{IsGroup, IsInWindow, slots_of}
use Rattle.zr_label.specs.Blocks.{IsUber}
use Rattle.zr_label.specs.declared.root.Seen.{Seen}
use Rattle.zr_label.specs.declared.root.Uber.{Uber}
use Rattle.zr_slots.specs.Kept.{KeepsGroup}
use Rattle.zr_slots.specs.declared.pool.Found.{Found}
use Rattle.zr_view.specs.Views.{slot_of}
use Rattle.zr_current.specs.Current.{HasSlots}
use Rattle.zr_roots.specs.Devices.{HasItsDisks}
use Rattle.zr_open.specs.Found.{FindsOn}
use Rattle.zr_open.specs.Groups.{HoldsGroup, HoldsRoot, IsBack, IsBackRefusal}
use Rattle.zr_open.specs.Looked.{IsLookedAt}
use Rattle.zr_open.specs.Opened.{IsFresh, IsRefusedRoot, IsRefusedSaved, MayRefuse}
use Rattle.zr_open.specs.Rewound.{rewound}
use Rattle.zr_open.specs.Roots.{meta_of}
use Rattle.zr_open.specs.Scanned.{IsScanned}
use Rattle.zr_open.specs.declared.find.Scanned.{Scanned}
use Rattle.zr_open.specs.declared.look.Looked.{Looked}
use Rattle.zr_open.proofs.Beside.{has_block, head_on}
use Rattle.zr_open.proofs.Grouping.{as_looked, group_held, same_count, same_disks_of, same_slots_of}
use Rattle.zr_open.proofs.Looking.{saved_refused_moved}

pub if_ok : {X E : Type 0} (P Q : X → Type 0) (r : Result X E) → ((x : X) → P x → Q x) → IfOk r P → IfOk r Q
if_ok P Q (Ok x) more h = more x h
if_ok P Q (Err e) more h = tt

module _ (t0 : Type 0) (disks0 : List (List ℕ)) (sizes : List ℕ) (s : Scanned) (h : IsScanned sizes t0 disks0 s) where
  abbrev pub at : FindsOn sizes t0 disks0 (Ok s.found.root)
  at = record { seen = s.seen; shown = h.shown; finds = h.finds }

  abbrev Refuses : ℕ → Refusal → Type 0
  Refuses txg r = (u : Uber) × (x : FindsOn sizes t0 disks0 (Ok u)) × IsBackRefusal t0 disks0 x.seen u txg r

  -- ---- of the current root

  module _ (t1 : Type 0) (disks1 : List (List ℕ)) (later : t0 → t1) (same_disks : t0 → disks1 ≡ disks0) (txg : ℕ) where
    pub now_refused : (r : Refusal) → IsRefusedRoot r ⊎ IsRefusedSaved t1 disks1 s.found.slots s.found.root r → Refuses txg r
    now_refused r (inl own) = (s.found.root, at, inl own)
    now_refused r (inr saved) = (s.found.root, at, inr (inl (saved_refused_moved t1 t0 disks1 disks0 later same_disks (slots_of s.found.root s.seen) s.found.slots h.slots s.found.root r saved)))

  pub group_refused : (txg : ℕ) (seen : List Seen) (r : Refusal) → seen ≡ s.seen → KeepsGroup seen s.found.root txg (Err r) → Refuses txg r
  group_refused txg seen r is (oldest, gone, oldest_is, told) =
      let kept = subst (λ (x : List Seen). KeepsGroup x s.found.root txg (Err r)) is (oldest, gone, oldest_is, told) in
      (s.found.root, at, inr (inr (inl (record { gone = kept.1; oldest = kept.0; oldest_is = kept.2; is = kept.3 }))))

  -- ---- of the root of the group

  module _ (txg : ℕ) (root : Uber) (is : IsUber root) (pool : root.guid ≡ s.found.root.guid) (group : IsGroup s.seen s.found.root txg root) where
    abbrev pub place : Found
    place = record { root = root; slots = s.found.slots }

    count : root.count ≡ s.found.root.count
    count = same_count root s.found.root is h.uber group.devices

    pub place_slots : HasSlots (slots_of root s.seen) s.found.slots
    place_slots d = h.slots d ∙ ap (λ (ss : List (Option ℕ)). slot_of ss d) (sym (same_slots_of s.seen root s.found.root pool group.devices count))

    pub place_disks : HasItsDisks sizes s.found.slots root
    place_disks = same_disks_of sizes s.found.slots root s.found.root group.devices count h.mounted

    module _ (t1 : Type 0) (disks1 : List (List ℕ)) (later : t0 → t1) (same_disks : t0 → disks1 ≡ disks0) where
      pub then_refused : (r : Refusal) → IsRefusedRoot r ⊎ IsRefusedSaved t1 disks1 s.found.slots root r → Refuses txg r
      then_refused r (inl own) = (s.found.root, at, inl own)
      then_refused r (inr saved) = (s.found.root, at, inr (inr (inr (root, group, saved_refused_moved t1 t0 disks1 disks0 later same_disks (slots_of root s.seen) s.found.slots place_slots root r saved))))

    -- the root that was looked at is refused when it is opened again
    again_refused : (t1 : Type 0) (disks1 : List (List ℕ)) (l : Looked) → IsLookedAt sizes t1 disks1 l → (r : Refusal) → MayRefuse (meta_of l.saved) r → IsRefusedRoot r ⊎ IsRefusedSaved t1 disks1 l.found.slots l.found.root r
    again_refused t1 disks1 l looked r (inl own) = inl own
    again_refused t1 disks1 l looked r (inr (eight, some)) =
        let block = has_block t1 disks1 l.found.slots l.found.root l.root l.saved (meta_of l.saved) refl some looked.beside in
        inr (eight, (block.0, (l.root.head, head_on t1 disks1 l.found.slots l.found.root l.root looked.head looked.stands, block.1)))

    pub reset_refused : (t1 : Type 0) (disks1 : List (List ℕ)) → (t0 → t1) → (t0 → disks1 ≡ disks0) → (l : Looked) → l.found ≡ place → IsLookedAt sizes t1 disks1 l → (r : Refusal) → MayRefuse (meta_of l.saved) r → Refuses txg r
    reset_refused t1 disks1 later same_disks l is_place looked r why =
        then_refused t1 disks1 later same_disks r (subst (λ (f : Found). IsRefusedRoot r ⊎ IsRefusedSaved t1 disks1 f.slots f.root r) is_place (again_refused t1 disks1 l looked r why))

-- ---- what is gone back to

module _ (t0 : Type 0) (disks0 : List (List ℕ)) (sizes : List ℕ) (s : Scanned) (h : IsScanned sizes t0 disks0 s) (txg : ℕ) (root : Uber) (kept : IsInWindow s.seen s.found.root txg) (group : IsGroup s.seen s.found.root txg root) where
  pub back_now : txg ≡ s.found.root.txg → (pool : OpenPool) → IsFresh s.found.root pool → IsBack sizes t0 disks0 txg pool
  back_now is pool fresh = record {
    current = s.found.root;
    at = at t0 disks0 sizes s h;
    kept = kept;
    root = root;
    group = group;
    fresh = subst (λ (b : Bool). MatchBool b (IsFresh s.found.root pool) (IsFresh (rewound root (s.found.root.txg + 1)) pool)) (sym (the_same txg s.found.root.txg is)) fresh;
  }
    where
      the_same : (a b : ℕ) → a ≡ b → (a == b) ≡ true
      the_same a b e = grind (arith, nat_tests, e)

  pub back_then : (txg ≡ s.found.root.txg → ⊥) → (pool : OpenPool) → IsFresh (rewound root (s.found.root.txg + 1)) pool → IsBack sizes t0 disks0 txg pool
  back_then not pool fresh = record {
    current = s.found.root;
    at = at t0 disks0 sizes s h;
    kept = kept;
    root = root;
    group = group;
    fresh = subst (λ (b : Bool). MatchBool b (IsFresh s.found.root pool) (IsFresh (rewound root (s.found.root.txg + 1)) pool)) (sym (others txg s.found.root.txg not)) fresh;
  }
    where
      others : (a b : ℕ) → (a ≡ b → ⊥) → (a == b) ≡ false
      others a b differ = grind (arith, nat_tests, differ)

module _ (t0 : Type 0) (told : t0) (paths disks0 : List (List ℕ)) (sizes : List ℕ) where
  -- the current root is that of its group
  pub held_now : map length disks0 ≡ sizes → (s : Scanned) → IsScanned sizes t0 disks0 s → (txg : ℕ) (root : Uber) → IsInWindow s.seen s.found.root txg → IsGroup s.seen s.found.root txg root → txg ≡ s.found.root.txg
      → (later : Type 0) → later → (l : Looked) → l.found ≡ s.found → IsLookedAt sizes later disks0 l → HoldsGroup paths disks0 txg later disks0 l.pool
  held_now sized s h txg root kept group is later now l found looked =
      let current = s.found.root in
      let shown = h.shown.shows told in
      let mine : IsGroup s.seen current txg current = subst (IsGroup s.seen current txg) (sym (group.one current (found_shown s.seen current h.finds) (sym is))) group in
      let its = subst (λ (f : Found). IsGroup s.seen current txg f.root) (sym found) mine in
      let slots = subst (λ (f : Found). HasSlots (slots_of f.root s.seen) f.slots) (sym found) h.slots in
      group_held later later now paths disks0 disks0 sizes s.seen shown current h.finds txg kept l looked its slots l.pool (as_looked later now disks0 sizes sized l looked)

  abbrev pub held_then : (s : Scanned) → IsScanned sizes t0 disks0 s → (txg : ℕ) (root : Uber) → IsUber root → root.guid ≡ s.found.root.guid → IsInWindow s.seen s.found.root txg → IsGroup s.seen s.found.root txg root
      → (later : Type 0) (after : List (List ℕ)) (l : Looked) → l.found ≡ record { root = root; slots = s.found.slots } → IsLookedAt sizes t0 disks0 l → (pool : OpenPool) → HoldsRoot disks0 later after l pool → HoldsGroup paths disks0 txg later after pool
  held_then s h txg root is_root pool_is kept group later after l found looked pool held =
      let current = s.found.root in
      let its = subst (λ (f : Found). IsGroup s.seen current txg f.root) (sym found) group in
      let slots = subst (λ (f : Found). HasSlots (slots_of f.root s.seen) f.slots) (sym found) (place_slots t0 disks0 sizes s h txg root is_root pool_is group) in
      group_held t0 later told paths disks0 after sizes s.seen (h.shown.shows told) current h.finds txg kept l looked its slots pool held
