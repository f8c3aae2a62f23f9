-- Going back, from disks at rest on, wherever it stops.
use Rattle.std.proofs.Common.{◌≡◌, inl, inr, ℕ, ◌+◌, ◌≤◌, List, [], map, length, Option, Some, Ok, refl, sym, subst, arith}
use Rattle.zr_current.specs.Current.{HasSlots}
use Rattle.zr_image.specs.Current.{IsGroup, IsInWindow, slots_of}
use Rattle.zr_image.specs.Roots.{without_late}
use Rattle.zr_image.specs.StateOf.{AreObjects, devices_at}
use Rattle.zr_label.specs.Blocks.{IsUber}
use Rattle.zr_label.specs.declared.root.Uber.{Uber}
use Rattle.zr_model.specs.Objects.{Objects}
use Rattle.zr_model.specs.State.{PoolState}
use Rattle.zr_newest.proofs.Newest.{current_newest}
use Rattle.zr_newest.proofs.Seen.{seen_labels}
use Rattle.zr_newest.specs.Newest.{AreAt, IsNewestOn}
use Rattle.zr_roots.specs.Devices.{IsCut}
use Rattle.zr_roots.specs.Standing.{Stands}
use Rattle.zr_rules.specs.Devices.{devices_of}
use Rattle.zr_shelf.specs.Disks.{IsAtRest}
use Rattle.zr_shelf.specs.Moments.{World}
use Rattle.zr_slots.specs.declared.pool.Found.{Found}
use Rattle.zr_store.specs.Store.{Stored}
use Rattle.zr_sync.specs.Commits.{PublishesRoot}
use Rattle.zr_sync.specs.Pools.{IsOpen}
use Rattle.zr_sync.specs.declared.open.OpenPool.{OpenPool}
use Rattle.zr_open.specs.Flushed.{FlushesOnly}
use Rattle.zr_open.specs.Going.{GoesBackBehind, GoesBackInPart, HasPool, PutsAgain, PutsBack, ResetsInPart, RewindsInPart}
use Rattle.zr_open.specs.Groups.{HoldsGroup}
use Rattle.zr_open.specs.Looked.{IsLooked, IsLookedAt}
use Rattle.zr_open.specs.Opened.{IsFresh}
use Rattle.zr_open.specs.Rewound.{rewound}
use Rattle.zr_open.specs.Roots.{HasParts, IsSavedRoot, meta_of, told_root}
use Rattle.zr_open.specs.Scanned.{IsScanned}
use Rattle.zr_open.specs.Shown.{Shows, ShowsGroup}
use Rattle.zr_open.specs.declared.find.Scanned.{Scanned}
use Rattle.zr_open.specs.declared.look.Looked.{Looked}
use Rattle.zr_open.specs.declared.saved.SavedRoot.{SavedRoot}
use Rattle.zr_open.proofs.Backing.{at, held_then, place_slots}
use Rattle.zr_open.proofs.Beside.{beside_moved, saved_moved}
use Rattle.zr_open.proofs.Flushing.{flushes_read, flushes_still}
use Rattle.zr_open.proofs.Grouping as grouping
use Rattle.zr_open.proofs.Grouping.{as_reset, stands_back}
use Rattle.zr_open.proofs.Lasting.{fresh_from, saved_at, saved_own}
use Rattle.zr_open.proofs.Looking.{looked_by, scanned_moved, whole_moved}
use Rattle.zr_open.proofs.Resting.{leaves_there}
use Rattle.zr_open.proofs.Rewinding as rewinding
use Rattle.zr_open.proofs.Rewinding.{saved_are, saved_held, saved_objects}
use Rattle.zr_open.proofs.Showing.{ShowsSaved, holds, saved_with, shows_it, shows_saved, state}
use Rattle.zr_open.proofs.Views.{store_same}

-- ---- behind flushes

-- what is found then was there before
module _ (t1 t2 : Type 0) (mid old : World) (later : t2 → t1) (flushes : t2 → FlushesOnly old mid) (n1 n2 : List ℕ) (sizes : n1 ≡ n2) where
  pub looked_flushed : (l : Looked) → IsLooked n1 t1 mid.now.seen l → IsLooked n2 t2 old.now.seen l
  looked_flushed l h = whole_moved t1 t2 mid.now.seen old.now.seen later (λ t. (flushes_read old mid (flushes t)).seen) n2 l (subst (λ (ns : List ℕ). IsLooked ns t1 mid.now.seen l) sizes h)

  pub scanned_flushed : (s : Scanned) → IsScanned n1 t1 mid.now.seen s → IsScanned n2 t2 old.now.seen s
  scanned_flushed s h = scanned_moved t1 t2 mid.now.seen old.now.seen later (λ t. (flushes_read old mid (flushes t)).seen) n2 s (subst (λ (ns : List ℕ). IsScanned ns t1 mid.now.seen s) sizes h)

-- ---- the pool of the current root

module _ (sizes : List ℕ) (paths : List (List ℕ)) (read : World) (sized : map length read.now.seen ≡ sizes) (rest : IsAtRest read.now) (l : Looked) (h : IsLooked sizes (Unit {0}) read.now.seen l) where
  abbrev these : List (Option ℕ)
  these = slots_of l.found.root h.finds.seen

  own_stands : Stands read.now.seen l.pool.table.slots l.found.root l.root
  own_stands = subst (λ (slots : List (Option ℕ)). Stands read.now.seen slots l.found.root l.root) (sym h.at.same) (h.at.stands tt)

  own_slots : HasSlots these l.pool.table.slots
  own_slots = subst (HasSlots these) (sym h.at.same) h.slots

  own_newest : IsNewestOn read.now.seen l.found.root l.pool.table.slots
  own_newest = current_newest read.now.seen h.finds.seen l.found.root l.pool.table.slots (h.finds.shown.shows tt) h.finds.finds own_slots

  module _ (saved : ShowsSaved paths read.now.seen these (told_root l.found.root l.root)) where
    abbrev own_state : PoolState
    own_state =
        state (Unit {0}) tt paths read.now.seen sizes sized l.found.root l.pool l.root h.finds.seen (h.finds.shown.shows tt) h.finds.finds own_slots h.at.uber h.at.head (meta_of l.saved) saved h.at.ready h.at.fresh h.at.parts h.at.mapped own_stands

    own_shown : Shows paths read.now.seen own_state
    own_shown =
        shows_it (Unit {0}) tt paths read.now.seen sizes sized l.found.root l.pool l.root h.finds.seen (h.finds.shown.shows tt) h.finds.finds own_slots h.at.uber h.at.head (meta_of l.saved) saved h.at.ready h.at.fresh h.at.parts h.at.mapped own_stands

    own_pool : HasPool sizes read.now l.found.root l.pool own_state.objects
    own_pool = record {
      ready = h.at.ready;
      from = fresh_from l.found.root l.pool h.at.fresh;
      holds = holds (Unit {0}) tt read.now.seen sizes sized l.found.root l.pool l.root (meta_of l.saved) h.at.uber h.at.ready h.at.fresh h.at.parts h.at.mapped own_stands;
      leaves = leaves_there read.now.seen sizes l.found.root l.pool l.root (meta_of l.saved) h.at.uber h.at.ready h.at.fresh h.at.head h.at.parts own_stands read.now refl rest;
    }

  -- ---- its saved root, put behind it

  module _ (block : List ℕ) (s : SavedRoot) (has : l.root.head.saved ≡ Some block) (saved : IsSavedRoot (Unit {0}) read.now.seen l.found.slots l.found.root l.root block s) (next : Uber) (next_is : next ≡ rewound s.uber (l.found.root.txg + 1)) (lawful : IsUber next)
      (pool : OpenPool) (ready : IsOpen sizes pool) (cut : IsCut s.uber l.found.slots pool.table.slots) (fresh : IsFresh next pool) (parts : HasParts (record s.root { parts = without_late s.root.parts }) [] pool) where
    abbrev txg : ℕ
    txg = l.found.root.txg + 1

    past : s.uber.txg ≤ txg
    past = let before = saved.is_saved.past in omega (arith, before)

    lawful_back : IsUber (rewound s.uber txg)
    lawful_back = subst IsUber next_is lawful

    fresh_back : IsFresh (rewound s.uber txg) pool
    fresh_back = subst (λ (x : Uber). IsFresh x pool) next_is fresh

    abbrev back_objects : Objects
    back_objects = saved_objects (Unit {0}) tt read.now.seen sizes sized l.found.slots l.found.root l.root block s txg pool saved past cut lawful_back ready fresh_back parts

    back_pool : HasPool sizes read.now (rewound s.uber txg) pool back_objects
    back_pool = record {
      ready = ready;
      from = fresh_from (rewound s.uber txg) pool fresh_back;
      holds = saved_held (Unit {0}) tt read.now.seen sizes sized l.found.slots l.found.root l.root block s txg pool saved past cut lawful_back ready fresh_back parts;
      leaves =
          leaves_there read.now.seen sizes (rewound s.uber txg) pool (rewinding.back (Unit {0}) tt read.now.seen sizes sized l.found.slots l.found.root l.root block s txg pool saved past cut lawful_back ready fresh_back parts) [] lawful_back ready fresh_back saved.head
          parts (rewinding.stands (Unit {0}) tt read.now.seen sizes sized l.found.slots l.found.root l.root block s txg pool saved past cut lawful_back ready fresh_back parts) read.now refl rest;
    }

    -- the disks show it as what was saved
    abbrev saved_shown : ShowsSaved paths read.now.seen these (told_root l.found.root l.root)
    saved_shown =
        let here = saved_moved (Unit {0}) (Unit {0}) read.now.seen read.now.seen these l.found.slots (λ t. t) (λ t. refl) h.slots l.found.root l.root block s saved in
        let are =
        subst (λ (x : Stored). AreObjects x s.root.head.dir back_objects) (store_same read.now.seen these l.found.slots (devices_of s.root.parts.devs) h.slots)
        (saved_are (Unit {0}) tt read.now.seen sizes sized l.found.slots l.found.root l.root block s txg pool saved past cut lawful_back ready fresh_back parts) in
        let part = saved_with (Unit {0}) tt paths read.now.seen these l.found.root l.root block s has here back_objects are in
        record { root = Some (told_root s.uber s.root); shown = part.0; state = Some (record { objects = back_objects; devs = devices_at paths these s.uber }); is = part.1 }

    saved_places : AreAt pool.table.slots (rewound s.uber txg) h.finds.seen
    saved_places =
        let is = saved.is_saved in
        saved_at l.found.root s.uber l.found.slots pool.table.slots txg h.finds.seen h.slots (saved_own l.found.root s.uber l.found.slots pool.table.slots txg h.at.uber is.spelled.lawful is.guid is.rows cut)

    module _ (now : World) (puts : PublishesRoot sizes (record pool { last = Some l.found.root }) next read now) where
      abbrev puts_saved : PutsBack sizes (own_state saved_shown).objects back_objects read now
      puts_saved = record {
        sized = sized;
        current = l.found.root;
        pool = l.pool;
        has = own_pool saved_shown;
        newest = own_newest;
        root = rewound s.uber txg;
        back = pool;
        has_back = back_pool;
        txg = refl;
        seen = h.finds.seen;
        labels = seen_labels read.now.seen h.finds.seen (h.finds.shown.shows tt);
        devices = saved_places;
        puts = subst (λ (x : Uber). PublishesRoot sizes (record pool { last = Some l.found.root }) x read now) next_is puts;
      }

      pub rewinds : (before : World) → before.now.paths ≡ paths → FlushesOnly before read → RewindsInPart sizes before now
      rewinds before named flushes = inr (record {
        read = read;
        flushes = flushes;
        rest = rest;
        state = own_state saved_shown;
        shown = subst (λ (ps : List (List ℕ)). Shows ps before.now.seen (own_state saved_shown)) (sym named) (subst (λ (ds : List (List ℕ)). Shows paths ds (own_state saved_shown)) (flushes_read before read flushes).seen (own_shown saved_shown));
        saved = record { objects = back_objects; devs = devices_at paths these s.uber };
        saved_is = refl;
        puts = puts_saved;
      })

-- ---- a root that was looked at, put behind another

pub resets : (sizes : List ℕ) (read now : World) → map length read.now.seen ≡ sizes → IsAtRest read.now → (l : Looked) → IsLookedAt sizes (Unit {0}) read.now.seen l → (current next : Uber) → l.found.root.txg ≤ current.txg → next ≡ rewound l.found.root (current.txg + 1) → IsUber next
    → (pool : OpenPool) → IsOpen sizes pool → IsFresh next pool → HasParts (record l.root { parts = without_late l.root.parts }) (meta_of l.saved) pool → pool.table.slots ≡ l.found.slots → PublishesRoot sizes (record pool { last = Some current }) next read now → ResetsInPart sizes current l read now
resets sizes read now sized rest l h current next below next_is lawful pool ready fresh parts slots puts =
    let txg = current.txg + 1 in
    let le : l.found.root.txg ≤ txg = omega (arith, below) in
    let is = subst IsUber next_is lawful in
    let own = subst (λ (x : Uber). IsFresh x pool) next_is fresh in
    inr (record {
      back = pool;
      ready = ready;
      fresh = own;
      placed = slots;
      holds = as_reset (Unit {0}) tt read.now.seen sizes sized l h txg le pool is ready own parts slots;
      leaves =
          leaves_there read.now.seen sizes (rewound l.found.root txg) pool (grouping.back (Unit {0}) tt read.now.seen sizes sized l h txg le pool is ready own parts slots) (meta_of l.saved) is ready own h.head parts
          (stands_back (Unit {0}) tt read.now.seen sizes sized l h txg le pool is ready own parts slots) read.now refl rest;
      puts = subst (λ (x : Uber). PublishesRoot sizes (record pool { last = Some current }) x read now) next_is puts;
    })

-- ---- the root of a group, put behind the current one

module _ (sizes : List ℕ) (paths : List (List ℕ)) (read : World) (sized : map length read.now.seen ≡ sizes) (rest : IsAtRest read.now) (s : Scanned) (h : IsScanned sizes (Unit {0}) read.now.seen s) (l : Looked) (found : l.found ≡ s.found) (looked : IsLookedAt sizes (Unit {0}) read.now.seen l)
    (txg : ℕ) (root : Uber) (is_root : IsUber root) (guid : root.guid ≡ s.found.root.guid) (kept : IsInWindow s.seen s.found.root txg) (group : IsGroup s.seen s.found.root txg root) (old : Looked) (place : old.found ≡ record { root = root; slots = s.found.slots })
    (there : IsLookedAt sizes (Unit {0}) read.now.seen old) (now : World) where
  is_looked : IsLooked sizes (Unit {0}) read.now.seen l
  is_looked = looked_by (Unit {0}) (Unit {0}) read.now.seen read.now.seen (λ t. t) (λ t. refl) sizes s.found (at (Unit {0}) read.now.seen sizes s h) h.slots (Ok l) found looked

  abbrev own_these : List (Option ℕ)
  own_these = slots_of l.found.root is_looked.finds.seen

  group_saved : ShowsSaved paths read.now.seen own_these (told_root l.found.root l.root)
  group_saved =
      shows_saved (Unit {0}) tt paths read.now.seen own_these l.found.root l.root l.saved
      (beside_moved (Unit {0}) (Unit {0}) read.now.seen read.now.seen own_these l.found.slots (λ t. t) (λ t. refl) is_looked.slots l.found.root l.root l.saved is_looked.at.beside)

  module _ (again : PutsAgain sizes l.found.root old read now) where
    abbrev held : HoldsGroup paths read.now.seen txg (Unit {0}) read.now.seen again.back
    held = held_then (Unit {0}) tt paths read.now.seen sizes s h txg root is_root guid kept group (Unit {0}) read.now.seen old place there again.back again.holds

    group_places : AreAt again.back.table.slots (rewound old.found.root (l.found.root.txg + 1)) s.seen
    group_places =
        subst (λ (slots : List (Option ℕ)). AreAt slots (rewound old.found.root (l.found.root.txg + 1)) s.seen) (sym again.placed)
        (subst (λ (f : Found). HasSlots (slots_of f.root s.seen) f.slots) (sym place) (place_slots (Unit {0}) read.now.seen sizes s h txg root is_root guid group))

    abbrev group_state : PoolState
    group_state = own_state sizes paths read sized rest l is_looked group_saved

    abbrev puts_group : PutsBack sizes group_state.objects held.state.objects read now
    puts_group = record {
      sized = sized;
      current = l.found.root;
      pool = l.pool;
      has = own_pool sizes paths read sized rest l is_looked group_saved;
      newest = own_newest sizes paths read sized rest l is_looked;
      root = rewound old.found.root (l.found.root.txg + 1);
      back = again.back;
      has_back = record {
        ready = again.ready;
        from = fresh_from (rewound old.found.root (l.found.root.txg + 1)) again.back again.fresh;
        holds = held.holds.objects;
        leaves = again.leaves;
      };
      txg = refl;
      seen = s.seen;
      labels = seen_labels read.now.seen s.seen (h.shown.shows tt);
      devices = group_places;
      puts = again.puts;
    }

    goes_behind : (before : World) → before.now.paths ≡ paths → FlushesOnly before read → GoesBackBehind sizes txg before now
    goes_behind before named flushes =
        let same = (flushes_read before read flushes).seen in
        record {
          read = read;
          flushes = flushes;
          rest = rest;
          state = group_state;
          shown = subst (λ (ps : List (List ℕ)). Shows ps before.now.seen group_state) (sym named) (subst (λ (ds : List (List ℕ)). Shows paths ds group_state) same (own_shown sizes paths read sized rest l is_looked group_saved));
          group = held.state;
          group_shown = subst (λ (ps : List (List ℕ)). ShowsGroup ps before.now.seen txg held.state) (sym named) (subst (λ (ds : List (List ℕ)). ShowsGroup paths ds txg held.state) same held.shown);
          puts = puts_group;
        }

  pub goes_back : ResetsInPart sizes s.found.root old read now → (before : World) → before.now.paths ≡ paths → FlushesOnly before read → GoesBackInPart sizes txg before now
  goes_back (inl still) before named flushes = inl (flushes_still before read now flushes still)
  goes_back (inr again) before named flushes = inr (goes_behind (subst (λ (f : Found). PutsAgain sizes f.root old read now) (sym found) again) before named flushes)
