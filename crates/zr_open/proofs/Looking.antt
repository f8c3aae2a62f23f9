-- What was looked at, by other slots and where nothing has changed since.
use Rattle.std.proofs.Common.{◌≡◌, ◌⊎◌, inl, inr, ℕ, List, Option, Result, Ok, Err, refl, sym, subst}
use Rattle.std.specs.Prelude.{IfOk}
use Rattle.zr_base.specs.declared.refusal.Refusal.{Refusal}
use Rattle.zr_image.specs.Current.{ShowsAll, slots_of}
use Rattle.zr_label.specs.declared.root.Uber.{Uber}
use Rattle.zr_slots.specs.declared.pool.Found.{Found}
use Rattle.zr_sync.specs.declared.fault.Fault.{Fault}
use Rattle.zr_current.specs.Current.{HasSlots}
use Rattle.zr_open.specs.Found.{FindsOn}
use Rattle.zr_open.specs.Looked.{IsLooked, IsLookedAt}
use Rattle.zr_open.specs.Opened.{HasBlock, IsRefusedRoot, IsRefusedSaved}
use Rattle.zr_roots.specs.Standing.{Stands}
use Rattle.zr_open.specs.Scanned.{IsScanned}
use Rattle.zr_open.specs.declared.find.Scanned.{Scanned}
use Rattle.zr_open.specs.declared.look.Looked.{Looked}
use Rattle.zr_open.proofs.Beside.{beside_moved, head_moved}

module _ (t1 t2 : Type 0) (disks1 disks2 : List (List ℕ)) (later : t2 → t1) (same_disks : t2 → disks1 ≡ disks2) where
  pub looked_moved : (sizes : List ℕ) (l : Looked) → IsLookedAt sizes t1 disks1 l → IsLookedAt sizes t2 disks2 l
  looked_moved sizes l h = record {
    uber = h.uber;
    long = h.long;
    mounted = h.mounted;
    head = h.head;
    mapped = h.mapped;
    stands = λ t. subst (λ (ds : List (List ℕ)). Stands ds l.found.slots l.found.root l.root) (same_disks t) (h.stands (later t));
    beside = beside_moved t1 t2 disks1 disks2 l.found.slots l.found.slots later same_disks (λ d. refl) l.found.root l.root l.saved h.beside;
    ready = h.ready;
    fresh = h.fresh;
    parts = h.parts;
    kept = h.kept;
    same = h.same;
    room = h.room;
    groups = h.groups;
  }

  module _ (these slots : List (Option ℕ)) (same : HasSlots these slots) (u : Uber) where
    block_moved : (block : List ℕ) → HasBlock t1 disks1 slots u block → HasBlock t2 disks2 these u block
    block_moved block (h, at, is) = (h, head_moved t1 t2 disks1 disks2 these slots later same_disks same u h at, is)

    pub saved_refused_moved : (r : Refusal) → IsRefusedSaved t1 disks1 slots u r → IsRefusedSaved t2 disks2 these u r
    saved_refused_moved r (is, (block, has)) = (is, (block, block_moved block has))

-- why nothing is opened
abbrev pub IsRefusedOn : List ℕ → Type 0 → List (List ℕ) → Refusal → Type 0
IsRefusedOn sizes tells disks r = FindsOn sizes tells disks (Err r) ⊎ (IsRefusedRoot r ⊎ ((u : Uber) × (x : FindsOn sizes tells disks (Ok u)) × IsRefusedSaved tells disks (slots_of u x.seen) u r))

-- what the slots show, and what was looked at by it
module _ (t1 t2 : Type 0) (disks1 disks2 : List (List ℕ)) (later : t2 → t1) (same_disks : t2 → disks1 ≡ disks2) (sizes : List ℕ) where
  pub finds_moved : (r : Result Uber Refusal) → FindsOn sizes t1 disks1 r → FindsOn sizes t2 disks2 r
  finds_moved r h = record {
    seen = h.seen;
    shown = record { count = h.shown.count; lawful = h.shown.lawful; shows = λ t. subst (λ (ds : List (List ℕ)). ShowsAll ds h.seen) (same_disks t) (h.shown.shows (later t)) };
    finds = h.finds;
  }

  pub scanned_moved : (s : Scanned) → IsScanned sizes t1 disks1 s → IsScanned sizes t2 disks2 s
  scanned_moved s h = record {
    shown = record { count = h.shown.count; lawful = h.shown.lawful; shows = λ t. subst (λ (ds : List (List ℕ)). ShowsAll ds s.seen) (same_disks t) (h.shown.shows (later t)) };
    lawful = h.lawful;
    finds = h.finds;
    slots = h.slots;
    uber = h.uber;
    long = h.long;
    mounted = h.mounted;
  }

  pub whole_moved : (l : Looked) → IsLooked sizes t1 disks1 l → IsLooked sizes t2 disks2 l
  unfolding finds_moved
  whole_moved l h = record { finds = finds_moved (Ok l.found.root) h.finds; slots = h.slots; at = looked_moved t1 t2 disks1 disks2 later same_disks sizes l h.at }

  pub refusal_moved : (r : Refusal) → IsRefusedOn sizes t1 disks1 r → IsRefusedOn sizes t2 disks2 r
  unfolding finds_moved
  refusal_moved r (inl slots) = inl (finds_moved (Err r) slots)
  refusal_moved r (inr (inl own)) = inr (inl own)
  refusal_moved r (inr (inr (u, x, saved))) = inr (inr (u, finds_moved (Ok u) x, saved_refused_moved t1 t2 disks1 disks2 later same_disks (slots_of u x.seen) (slots_of u x.seen) (λ d. refl) u r saved))

-- what was found on the slots, and what it was looked at by
module _ (t1 t2 : Type 0) (disks1 disks2 : List (List ℕ)) (later : t2 → t1) (same_disks : t2 → disks1 ≡ disks2) (sizes : List ℕ) (found : Found) (at : FindsOn sizes t2 disks2 (Ok found.root)) (slots : HasSlots (slots_of found.root at.seen) found.slots) where
  abbrev IsFoundAs : Found → Type 0
  IsFoundAs f = (x : FindsOn sizes t2 disks2 (Ok f.root)) × HasSlots (slots_of f.root x.seen) f.slots

  pub looked_by : (r : Result Looked Fault) → IfOk r (λ l. l.found ≡ found) → IfOk r (IsLookedAt sizes t1 disks1) → IfOk r (IsLooked sizes t2 disks2)
  looked_by (Ok l) is h =
      let own : IsFoundAs l.found = subst IsFoundAs (sym is) (at, slots) in
      record { finds = own.0; slots = own.1; at = looked_moved t1 t2 disks1 disks2 later same_disks sizes l h }
  looked_by (Err e) is h = tt

  pub refused_by : (r : Refusal) → IsRefusedRoot r ⊎ IsRefusedSaved t1 disks1 found.slots found.root r → IsRefusedRoot r ⊎ ((u : Uber) × (x : FindsOn sizes t2 disks2 (Ok u)) × IsRefusedSaved t2 disks2 (slots_of u x.seen) u r)
  refused_by r (inl own) = inl own
  refused_by r (inr saved) = inr (found.root, at, saved_refused_moved t1 t2 disks1 disks2 later same_disks (slots_of found.root at.seen) found.slots slots found.root r saved)
