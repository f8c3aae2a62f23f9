use Rattle.std.proofs.Common.{rules, ◌≡◌, ◌∙◌, ◌+◌, ◌≤◌, ◌<◌, ℕ, List, [], Option, Some, None, inl, inr, Err, false, refl, sym, ap, subst, arith}
use Rattle.std.specs.Prelude.{if◌then◌else◌}
use Rattle.zr_shelf.specs.Disks.{Stand}
use Rattle.zr_image.specs.Current.{slots_of}
use Rattle.zr_image.specs.StateOf.{AreObjects, devices_at}
use Rattle.zr_import.specs.declared.roots.Root.{Root}
use Rattle.zr_label.specs.Blocks.{IsUber}
use Rattle.zr_label.specs.declared.root.Uber.{Uber}
use Rattle.zr_rules.specs.Devices.{devices_of}
use Rattle.zr_store.specs.Store.{Stored}
use Rattle.zr_sync.specs.Commits.{IsShownFrom, PublishesRoot}
use Rattle.zr_sync.specs.Holds.{HasBlocks}
use Rattle.zr_sync.specs.Pools.{IsOpen}
use Rattle.zr_sync.specs.declared.fault.Fault.TheVariants.{No, Stops}
use Rattle.zr_sync.specs.declared.stop.Stop.TheVariants.{DiskFault}
use Rattle.zr_sync.proofs.Disks.{works_more}
use Rattle.zr_sync.proofs.Pools.{risen_later}
use Rattle.zr_base.specs.declared.refusal.Refusal.TheVariants.{NoCheckpoint}
use Rattle.zr_base.specs.declared.space.CkptPart.{CkptPart}
use Rattle.zr_base.specs.declared.space.SpaceParts.{SpaceParts}
use Rattle.zr_sync.specs.States.{HasCheckpoint}
use Rattle.zr_current.specs.Current.{HasSlots}
use Rattle.zr_roots.specs.Devices.{HasItsDisks, IsCut, is_there}
use Rattle.zr_open.specs.Looked.{IsLooked}
use Rattle.zr_open.specs.Opened.{IsFresh}
use Rattle.zr_open.specs.Shown.{IsShownBeside}
use Rattle.zr_open.proofs.Refusing.{looked_refusal, root_refusal}
use Rattle.zr_open.specs.Rewound.{rewound}
use Rattle.zr_roots.specs.Standing.{Stands}
use Rattle.zr_open.specs.Roots.{HasParts, IsBeside, IsSavedRoot, meta_of, told_root}
use Rattle.zr_open.specs.declared.look.Looked.{Looked}
use Rattle.zr_open.specs.declared.saved.SavedRoot.{SavedRoot}
use Rattle.zr_image.specs.Current.{ShowsAll}
use Rattle.zr_open.proofs.Beside.{head_at, no_block, saved_disks, saved_moved}
use Rattle.zr_open.proofs.Flushing.{flushes_read, flushes_still, flushes_work, rests_still}
use Rattle.zr_open.proofs.Going.{looked_flushed, rewinds}
use Rattle.zr_open.proofs.Lasting.{published_last, saved_at, saved_own}
use Rattle.zr_open.proofs.Looking.{IsRefusedOn, refusal_moved, whole_moved}
use Rattle.zr_open.proofs.OwnTrees.{own_trees, shown_bytes}
use Rattle.zr_open.proofs.Resting.{leaves_shown}
use Rattle.zr_open.proofs.Rewinding.{back, rewound_disks, saved_are, saved_held, saved_objects, stands}
use Rattle.zr_open.proofs.Showing.{ShowsSaved, saved_with, shows_it, state}
use Rattle.zr_open.proofs.Views.{store_same}
use Rattle.zr_open.proofs.rewinds.rewind.Goals as goal

-- ---- what is done to the disks, where nothing is written

pub returns-in_err-settle-clause-disks : goal.returns-in_err-settle-clause-disks
returns-in_err-settle-clause-disks g c = λ t. flushes_work (g.S.Shelf.world c.args.shelf.now) (g.S.Shelf.world c.settle.new.shelf) (c.settle.ensures.flushes t)

pub returns-in_err-settle-clause-flushes : goal.returns-in_err-settle-clause-flushes
returns-in_err-settle-clause-flushes g c = λ t r is. c.settle.ensures.flushes t

pub returns-in_err-settle-clause-reads : goal.returns-in_err-settle-clause-reads
returns-in_err-settle-clause-reads g c = λ t r is. (flushes_read (g.S.Shelf.world c.args.shelf.now) (g.S.Shelf.world c.settle.new.shelf) (c.settle.ensures.flushes t)).seen

pub returns-in_err-settle-clause-stops : goal.returns-in_err-settle-clause-stops
returns-in_err-settle-clause-stops g c = λ t. inl (c.settle.ensures.flushes t)

pub returns-in_err-looked-clause-disks : goal.returns-in_err-looked-clause-disks
returns-in_err-looked-clause-disks g c = λ t. flushes_work (g.S.Shelf.world c.args.shelf.now) (g.S.Shelf.world c.look.new.shelf) (flushes_still (g.S.Shelf.world c.args.shelf.now) (g.S.Shelf.world c.settle.new.shelf) (g.S.Shelf.world c.look.new.shelf) (c.settle.ensures.flushes t) (c.look.ensures.still (c.settle.ensures.told t)))

pub returns-in_err-looked-clause-flushes : goal.returns-in_err-looked-clause-flushes
returns-in_err-looked-clause-flushes g c = λ t r is. flushes_still (g.S.Shelf.world c.args.shelf.now) (g.S.Shelf.world c.settle.new.shelf) (g.S.Shelf.world c.look.new.shelf) (c.settle.ensures.flushes t) (c.look.ensures.still (c.settle.ensures.told t))

pub returns-in_err-looked-clause-reads : goal.returns-in_err-looked-clause-reads
returns-in_err-looked-clause-reads g c = λ t r is. ap (λ (stand : Stand). stand.seen) (c.look.ensures.still (c.settle.ensures.told t)).now ∙ (flushes_read (g.S.Shelf.world c.args.shelf.now) (g.S.Shelf.world c.settle.new.shelf) (c.settle.ensures.flushes t)).seen

pub returns-in_err-looked-clause-stops : goal.returns-in_err-looked-clause-stops
returns-in_err-looked-clause-stops g c = λ t. inl (flushes_still (g.S.Shelf.world c.args.shelf.now) (g.S.Shelf.world c.settle.new.shelf) (g.S.Shelf.world c.look.new.shelf) (c.settle.ensures.flushes t) (c.look.ensures.still (c.settle.ensures.told t)))

pub returns-in_default-clause-disks : goal.returns-in_default-clause-disks
returns-in_default-clause-disks g c = λ t. flushes_work (g.S.Shelf.world c.args.shelf.now) (g.S.Shelf.world c.look.new.shelf) (flushes_still (g.S.Shelf.world c.args.shelf.now) (g.S.Shelf.world c.settle.new.shelf) (g.S.Shelf.world c.look.new.shelf) (c.settle.ensures.flushes t) (c.look.ensures.still (c.settle.ensures.told t)))

pub returns-in_default-clause-flushes : goal.returns-in_default-clause-flushes
returns-in_default-clause-flushes g c = λ t r is. flushes_still (g.S.Shelf.world c.args.shelf.now) (g.S.Shelf.world c.settle.new.shelf) (g.S.Shelf.world c.look.new.shelf) (c.settle.ensures.flushes t) (c.look.ensures.still (c.settle.ensures.told t))

pub returns-in_default-clause-reads : goal.returns-in_default-clause-reads
returns-in_default-clause-reads g c = λ t r is. ap (λ (stand : Stand). stand.seen) (c.look.ensures.still (c.settle.ensures.told t)).now ∙ (flushes_read (g.S.Shelf.world c.args.shelf.now) (g.S.Shelf.world c.settle.new.shelf) (c.settle.ensures.flushes t)).seen

pub returns-in_default-clause-stops : goal.returns-in_default-clause-stops
returns-in_default-clause-stops g c = λ t. inl (flushes_still (g.S.Shelf.world c.args.shelf.now) (g.S.Shelf.world c.settle.new.shelf) (g.S.Shelf.world c.look.new.shelf) (c.settle.ensures.flushes t) (c.look.ensures.still (c.settle.ensures.told t)))

pub returns-in_err-reset-clause-disks : goal.returns-in_err-reset-clause-disks
returns-in_err-reset-clause-disks g c = λ t. flushes_work (g.S.Shelf.world c.args.shelf.now) (g.S.Shelf.world c.look.new.shelf) (flushes_still (g.S.Shelf.world c.args.shelf.now) (g.S.Shelf.world c.settle.new.shelf) (g.S.Shelf.world c.look.new.shelf) (c.settle.ensures.flushes t) (c.look.ensures.still (c.settle.ensures.told t)))

pub returns-in_err-reset-clause-flushes : goal.returns-in_err-reset-clause-flushes
returns-in_err-reset-clause-flushes g c = λ t r is. flushes_still (g.S.Shelf.world c.args.shelf.now) (g.S.Shelf.world c.settle.new.shelf) (g.S.Shelf.world c.look.new.shelf) (c.settle.ensures.flushes t) (c.look.ensures.still (c.settle.ensures.told t))

pub returns-in_err-reset-clause-reads : goal.returns-in_err-reset-clause-reads
returns-in_err-reset-clause-reads g c = λ t r is. ap (λ (stand : Stand). stand.seen) (c.look.ensures.still (c.settle.ensures.told t)).now ∙ (flushes_read (g.S.Shelf.world c.args.shelf.now) (g.S.Shelf.world c.settle.new.shelf) (c.settle.ensures.flushes t)).seen

pub returns-in_err-reset-clause-stops : goal.returns-in_err-reset-clause-stops
returns-in_err-reset-clause-stops g c = λ t. inl (flushes_still (g.S.Shelf.world c.args.shelf.now) (g.S.Shelf.world c.settle.new.shelf) (g.S.Shelf.world c.look.new.shelf) (c.settle.ensures.flushes t) (c.look.ensures.still (c.settle.ensures.told t)))

pub returns-in_err-pool-clause-disks : goal.returns-in_err-pool-clause-disks
returns-in_err-pool-clause-disks g c = λ t. flushes_work (g.S.Shelf.world c.args.shelf.now) (g.S.Shelf.world c.look.new.shelf) (flushes_still (g.S.Shelf.world c.args.shelf.now) (g.S.Shelf.world c.settle.new.shelf) (g.S.Shelf.world c.look.new.shelf) (c.settle.ensures.flushes t) (c.look.ensures.still (c.settle.ensures.told t)))

pub returns-in_err-pool-clause-flushes : goal.returns-in_err-pool-clause-flushes
returns-in_err-pool-clause-flushes g c = λ t r is. flushes_still (g.S.Shelf.world c.args.shelf.now) (g.S.Shelf.world c.settle.new.shelf) (g.S.Shelf.world c.look.new.shelf) (c.settle.ensures.flushes t) (c.look.ensures.still (c.settle.ensures.told t))

pub returns-in_err-pool-clause-reads : goal.returns-in_err-pool-clause-reads
returns-in_err-pool-clause-reads g c = λ t r is. ap (λ (stand : Stand). stand.seen) (c.look.ensures.still (c.settle.ensures.told t)).now ∙ (flushes_read (g.S.Shelf.world c.args.shelf.now) (g.S.Shelf.world c.settle.new.shelf) (c.settle.ensures.flushes t)).seen

pub returns-in_err-pool-clause-stops : goal.returns-in_err-pool-clause-stops
returns-in_err-pool-clause-stops g c = λ t. inl (flushes_still (g.S.Shelf.world c.args.shelf.now) (g.S.Shelf.world c.settle.new.shelf) (g.S.Shelf.world c.look.new.shelf) (c.settle.ensures.flushes t) (c.look.ensures.still (c.settle.ensures.told t)))

-- ---- why it is refused

pub returns-in_err-looked-clause-refused : goal.returns-in_err-looked-clause-refused
returns-in_err-looked-clause-refused g c = λ r is.
    let told = c.in_err-looked.field-0.0 in
    let e : c.from_residual-in_err-looked.result ≡ Err told = search rules in
    let both = sym e ∙ is in
    let same : told ≡ No r = cc in
    let old = c.args.shelf.now in
    let mid = c.settle.new.shelf in
    let seen = λ (t : g.S.Shelf.tells old). (flushes_read (g.S.Shelf.world old) (g.S.Shelf.world mid) (c.settle.ensures.flushes t)).seen in
    elim (refusal_moved (g.S.Shelf.tells mid) (g.S.Shelf.tells old) (g.S.Shelf.world mid).now.seen (g.S.Shelf.world old).now.seen c.settle.ensures.told seen (g.S.Shelf.sizes old) r
    (subst (λ (ns : List ℕ). IsRefusedOn ns (g.S.Shelf.tells mid) (g.S.Shelf.world mid).now.seen r) c.settle.ensures.sizes (c.in_err-looked.ensures.refused r (ap Err same)))) [
      | inl first ↦ inl first
      | inr rest ↦ elim rest [ inl own ↦ inr (inl own) | inr saved ↦ inr (inr (saved.0, saved.1, inl saved.2)) ]
    ]

pub returns-in_default-clause-refused : goal.returns-in_default-clause-refused
returns-in_default-clause-refused g c = λ r is.
    let sizes = g.S.Shelf.sizes c.args.shelf.now in
    let tells = g.S.Shelf.tells c.args.shelf.now in
    let disks = (g.S.Shelf.world c.args.shelf.now).now.seen in
    let l = c.in_ok-looked.looked in
    let h = looked_flushed (g.S.Shelf.tells c.settle.new.shelf) tells (g.S.Shelf.world c.settle.new.shelf) (g.S.Shelf.world c.args.shelf.now) c.settle.ensures.told c.settle.ensures.flushes (g.S.Shelf.sizes c.settle.new.shelf) sizes c.settle.ensures.sizes l c.in_ok-looked.ensures.looked in
    let u = l.found.root in
    inr (inr (
      u,
      h.finds,
      inr (
        cc,
        (l.root.head, head_at tells disks (slots_of u h.finds.seen) l.found.slots u l.root h.slots h.at.head h.at.stands, no_block tells disks l.found.slots u l.root l.saved (λ s same. (let other = c.in_default.not-Some in let own = c.into_saved.ensures ∙ same in search (rules, other, own))) h.at.beside),
      ),
    ))

pub returns-in_default-clause-unsaved : goal.returns-in_default-clause-unsaved
returns-in_default-clause-unsaved g c = λ t is.
    let sizes = g.S.Shelf.sizes c.args.shelf.now in
    let tells = g.S.Shelf.tells c.args.shelf.now in
    let w = g.S.Shelf.world c.args.shelf.now in
    let disks = w.now.seen in
    let l = c.in_ok-looked.looked in
    let h = looked_flushed (g.S.Shelf.tells c.settle.new.shelf) tells (g.S.Shelf.world c.settle.new.shelf) (g.S.Shelf.world c.args.shelf.now) c.settle.ensures.told c.settle.ensures.flushes (g.S.Shelf.sizes c.settle.new.shelf) sizes c.settle.ensures.sizes l c.in_ok-looked.ensures.looked in
    let u = l.found.root in
    let these = slots_of u h.finds.seen in
    let sound = g.S.Shelf.sound c.args.shelf.now t in
    let none = no_block tells disks l.found.slots u l.root l.saved (λ s same. (let other = c.in_default.not-Some in let own = c.into_saved.ensures ∙ same in search (rules, other, own))) h.at.beside in
    let shown : ShowsSaved w.now.paths disks these (told_root u l.root) = record { root = None; shown = subst (λ (x : Option (List ℕ)). IsShownBeside disks these (told_root u l.root) x None) (sym none) tt; state = None; is = refl } in
    let stands = subst (λ (ss : List (Option ℕ)). Stands disks ss u l.root) (sym h.at.same) (h.at.stands t) in
    let same = subst (HasSlots these) (sym h.at.same) h.slots in (
      state tells t w.now.paths disks sizes sound.sized u l.pool l.root h.finds.seen (h.finds.shown.shows t) h.finds.finds same h.at.uber h.at.head (meta_of l.saved) shown h.at.ready h.at.fresh h.at.parts h.at.mapped stands,
      shows_it tells t w.now.paths disks sizes sound.sized u l.pool l.root h.finds.seen (h.finds.shown.shows t) h.finds.finds same h.at.uber h.at.head (meta_of l.saved) shown h.at.ready h.at.fresh h.at.parts h.at.mapped stands,
      refl,
    )

pub returns-in_err-looked-clause-unsaved : goal.returns-in_err-looked-clause-unsaved
returns-in_err-looked-clause-unsaved g c = λ t is.
    let told = c.in_err-looked.field-0.0 in
    let e : c.from_residual-in_err-looked.result ≡ Err told = search rules in
    let both = sym e ∙ is in
    let same : told ≡ No NoCheckpoint = cc in
    absurd (looked_refusal (g.S.Shelf.sizes c.settle.new.shelf) (g.S.Shelf.tells c.settle.new.shelf) (g.S.Shelf.world c.settle.new.shelf).now.seen NoCheckpoint (c.in_err-looked.ensures.refused NoCheckpoint (ap Err same)))

pub returns-in_err-pool-clause-unsaved : goal.returns-in_err-pool-clause-unsaved
returns-in_err-pool-clause-unsaved g c = λ t is.
    let told = c.in_err-pool.field-0.0 in
    let e : c.from_residual-in_err-pool.result ≡ Err told = search rules in
    let both = sym e ∙ is in
    let same : told ≡ No NoCheckpoint = cc in
    absurd (elim (c.in_err-pool.ensures.refused NoCheckpoint (ap Err same)) [ inl own ↦ root_refusal NoCheckpoint own | inr other ↦ other.1 refl ])

pub returns-in_err-pool-clause-refused : goal.returns-in_err-pool-clause-refused
returns-in_err-pool-clause-refused g c = λ r is.
    let told = c.in_err-pool.field-0.0 in
    let e : c.from_residual-in_err-pool.result ≡ Err told = search rules in
    let both = sym e ∙ is in
    let same : told ≡ No r = cc in
    elim (c.in_err-pool.ensures.refused r (ap Err same)) [ inl own ↦ inr (inl own) | inr other ↦ absurd (other.1 refl) ]

-- what was found of the saved root
record Back (sizes : List ℕ) (tells : Type 0) (disks : List (List ℕ)) (l : Looked) (s : SavedRoot) : Type 0 where
  block : List ℕ
  has : l.root.head.saved ≡ Some block
  saved : IsSavedRoot tells disks l.found.slots l.found.root l.root block s
  disks_are : (cut : List (Option ℕ)) → IsCut s.uber l.found.slots cut → HasItsDisks sizes cut s.uber
  past : s.uber.txg ≤ l.found.root.txg + 1

back_of : (sizes : List ℕ) (tells : Type 0) (disks : List (List ℕ)) (l : Looked) (s : SavedRoot) → IsLooked sizes tells disks l → IsBeside tells disks l.found.slots l.found.root l.root (Some s) → Back sizes tells disks l s
back_of sizes tells disks l s h (block, has, saved) = record {
  block = block;
  has = has;
  saved = saved;
  disks_are = λ cut own. saved_disks l.found.root s.uber h.at.uber saved.is_saved.spelled.lawful saved.is_saved.rows sizes l.found.slots cut own h.at.mounted;
  past = let p = saved.is_saved.past in omega (arith, p);
}

back_is : (sizes : List ℕ) (tells : Type 0) (disks : List (List ℕ)) (l : Looked) (s : SavedRoot) → IsLooked sizes tells disks l → l.saved ≡ Some s → Back sizes tells disks l s
back_is sizes tells disks l s h is = back_of sizes tells disks l s h (subst (IsBeside tells disks l.found.slots l.found.root l.root) is h.at.beside)

-- the cut slots are those of the devices of the saved root
own_cut : (slots cut : List (Option ℕ)) (saved next : Uber) (txg : ℕ) → next ≡ rewound saved txg → IsCut next slots cut → IsCut saved slots cut
own_cut slots cut saved next txg is own = subst (λ (x : Uber). IsCut x slots cut) is own

-- they have their disks
place_disks : (sizes : List ℕ) (slots cut : List (Option ℕ)) (saved next : Uber) (txg : ℕ) → next ≡ rewound saved txg → IsCut next slots cut → ((ss : List (Option ℕ)) → IsCut saved slots ss → HasItsDisks sizes ss saved) → HasItsDisks sizes cut next
place_disks sizes slots cut saved next txg is own h = subst (HasItsDisks sizes cut) (sym is) (rewound_disks sizes cut saved txg (h cut (own_cut slots cut saved next txg is own)))

-- so are they by the slots that were found
first_same : (slots these cut : List (Option ℕ)) (u : Uber) → IsCut u slots cut → HasSlots these slots → IsCut u these cut
first_same slots these cut u own same d = own d ∙ ap (λ (o : Option ℕ). if is_there u d then o else None) (same d)

pub show-requires-clause-pool : goal.show-requires-clause-pool
show-requires-clause-pool g c =
    let sizes = g.S.Shelf.sizes c.args.shelf.now in
    let tells = g.S.Shelf.tells c.args.shelf.now in
    let disks = (g.S.Shelf.world c.args.shelf.now).now.seen in
    let l = c.in_ok-looked.looked in
    let s = c.in-Some.saved in
    let h = looked_flushed (g.S.Shelf.tells c.settle.new.shelf) tells (g.S.Shelf.world c.settle.new.shelf) (g.S.Shelf.world c.args.shelf.now) c.settle.ensures.told c.settle.ensures.flushes (g.S.Shelf.sizes c.settle.new.shelf) sizes c.settle.ensures.sizes l c.in_ok-looked.ensures.looked in
    let b = back_is sizes tells disks l s h (sym c.into_saved.ensures ∙ c.in-Some.is) in
    let place = place_disks sizes l.found.slots c.own_slots.result s.uber c.rewound-root.result (l.found.root.txg + 1) c.rewound-root.ensures.is c.own_slots.ensures.own b.disks_are in
    subst (λ (ns : List ℕ). IsOpen ns c.in_ok-pool.pool) (sym (c.look.ensures.sizes ∙ c.settle.ensures.sizes)) (c.in_ok-pool.ensures.open sizes place)

pub returns-in_err-show-clause-disks : goal.returns-in_err-show-clause-disks
returns-in_err-show-clause-disks g c = λ t.
    works_more (g.S.Shelf.world c.args.shelf.now) (g.S.Shelf.world c.look.new.shelf) (g.S.Shelf.world c.show.new.shelf)
    (flushes_work (g.S.Shelf.world c.args.shelf.now) (g.S.Shelf.world c.look.new.shelf) (flushes_still (g.S.Shelf.world c.args.shelf.now) (g.S.Shelf.world c.settle.new.shelf) (g.S.Shelf.world c.look.new.shelf) (c.settle.ensures.flushes t) (c.look.ensures.still (c.settle.ensures.told t))))
    (c.show.ensures.disks (c.look.ensures.told (c.settle.ensures.told t)))

pub returns-clause-disks : goal.returns-clause-disks
returns-clause-disks g c = λ t.
    works_more (g.S.Shelf.world c.args.shelf.now) (g.S.Shelf.world c.look.new.shelf) (g.S.Shelf.world c.show.new.shelf)
    (flushes_work (g.S.Shelf.world c.args.shelf.now) (g.S.Shelf.world c.look.new.shelf) (flushes_still (g.S.Shelf.world c.args.shelf.now) (g.S.Shelf.world c.settle.new.shelf) (g.S.Shelf.world c.look.new.shelf) (c.settle.ensures.flushes t) (c.look.ensures.still (c.settle.ensures.told t))))
    (c.show.ensures.disks (c.look.ensures.told (c.settle.ensures.told t)))

pub returns-clause-pool : goal.returns-clause-pool
returns-clause-pool g c =
    let sizes = g.S.Shelf.sizes c.args.shelf.now in
    let tells = g.S.Shelf.tells c.args.shelf.now in
    let disks = (g.S.Shelf.world c.args.shelf.now).now.seen in
    let l = c.in_ok-looked.looked in
    let s = c.in-Some.saved in
    let h = looked_flushed (g.S.Shelf.tells c.settle.new.shelf) tells (g.S.Shelf.world c.settle.new.shelf) (g.S.Shelf.world c.args.shelf.now) c.settle.ensures.told c.settle.ensures.flushes (g.S.Shelf.sizes c.settle.new.shelf) sizes c.settle.ensures.sizes l c.in_ok-looked.ensures.looked in
    let b = back_is sizes tells disks l s h (sym c.into_saved.ensures ∙ c.in-Some.is) in
    let place = place_disks sizes l.found.slots c.own_slots.result s.uber c.rewound-root.result (l.found.root.txg + 1) c.rewound-root.ensures.is c.own_slots.ensures.own b.disks_are in
    subst (λ (ns : List ℕ). IsOpen ns c.in_ok-pool.pool) (sym (c.in_ok-show.ensures.sizes ∙ (c.look.ensures.sizes ∙ c.settle.ensures.sizes))) (c.in_ok-pool.ensures.open sizes place)

pub returns-clause-rewound : goal.returns-clause-rewound
returns-clause-rewound g c =
    let sizes = g.S.Shelf.sizes c.args.shelf.now in
    let tells = g.S.Shelf.tells c.args.shelf.now in
    let disks = (g.S.Shelf.world c.args.shelf.now).now.seen in
    let l = c.in_ok-looked.looked in
    let s = c.in-Some.saved in
    let h = looked_flushed (g.S.Shelf.tells c.settle.new.shelf) tells (g.S.Shelf.world c.settle.new.shelf) (g.S.Shelf.world c.args.shelf.now) c.settle.ensures.told c.settle.ensures.flushes (g.S.Shelf.sizes c.settle.new.shelf) sizes c.settle.ensures.sizes l c.in_ok-looked.ensures.looked in
    let b = back_is sizes tells disks l s h (sym c.into_saved.ensures ∙ c.in-Some.is) in
    let u = l.found.root in (
      u,
      h.finds,
      record {
        block = b.block;
        has = (l.root.head, head_at tells disks (slots_of u h.finds.seen) l.found.slots u l.root h.slots h.at.head h.at.stands, b.has);
        saved = s.uber;
        spelled = b.saved.is_saved.spelled;
        fresh = subst (λ (x : Uber). IsFresh x c.in_ok-pool.pool) c.rewound-root.ensures.is c.in_ok-pool.ensures.fresh;
        own = first_same l.found.slots (slots_of u h.finds.seen) c.in_ok-pool.pool.table.slots s.uber (subst (IsCut s.uber l.found.slots) (sym c.in_ok-pool.ensures.slots) (own_cut l.found.slots c.own_slots.result s.uber c.rewound-root.result (l.found.root.txg + 1) c.rewound-root.ensures.is c.own_slots.ensures.own)) h.slots;
      },
    )

pub returns-clause-shown : goal.returns-clause-shown
returns-clause-shown g c = λ t.
    let sizes = g.S.Shelf.sizes c.args.shelf.now in
    let tells = g.S.Shelf.tells c.args.shelf.now in
    let disks = (g.S.Shelf.world c.args.shelf.now).now.seen in
    let l = c.in_ok-looked.looked in
    let h = looked_flushed (g.S.Shelf.tells c.settle.new.shelf) tells (g.S.Shelf.world c.settle.new.shelf) (g.S.Shelf.world c.args.shelf.now) c.settle.ensures.told c.settle.ensures.flushes (g.S.Shelf.sizes c.settle.new.shelf) sizes c.settle.ensures.sizes l c.in_ok-looked.ensures.looked in
    let u = l.found.root in (
      u,
      h.finds,
      record {
        root = c.rewound-root.result;
        root_is = c.in_ok-pool.ensures.fresh.last;
        read = g.S.Shelf.world c.look.new.shelf;
        flushes = flushes_still (g.S.Shelf.world c.args.shelf.now) (g.S.Shelf.world c.settle.new.shelf) (g.S.Shelf.world c.look.new.shelf) (c.settle.ensures.flushes t) (c.look.ensures.still (c.settle.ensures.told t));
        shown = subst (λ (ns : List ℕ). IsShownFrom ns (record c.in_ok-pool.pool { last = Some u }) c.rewound-root.result (g.S.Shelf.world c.look.new.shelf) (g.S.Shelf.world c.show.new.shelf)) (c.look.ensures.sizes ∙ c.settle.ensures.sizes)
            (c.in_ok-show.ensures.shown (c.look.ensures.told (c.settle.ensures.told t)));
      },
    )

pub returns-clause-objects : goal.returns-clause-objects
returns-clause-objects g c = λ t.
    let sizes = g.S.Shelf.sizes c.args.shelf.now in
    let tells = g.S.Shelf.tells c.args.shelf.now in
    let w = g.S.Shelf.world c.args.shelf.now in
    let disks = w.now.seen in
    let l = c.in_ok-looked.looked in
    let s = c.in-Some.saved in
    let h = looked_flushed (g.S.Shelf.tells c.settle.new.shelf) tells (g.S.Shelf.world c.settle.new.shelf) (g.S.Shelf.world c.args.shelf.now) c.settle.ensures.told c.settle.ensures.flushes (g.S.Shelf.sizes c.settle.new.shelf) sizes c.settle.ensures.sizes l c.in_ok-looked.ensures.looked in
    let b = back_is sizes tells disks l s h (sym c.into_saved.ensures ∙ c.in-Some.is) in
    let u = l.found.root in
    let txg = u.txg + 1 in
    let pool = c.in_ok-pool.pool in
    let own = c.in_ok-pool.ensures in
    let next = c.rewound-root.result in
    let these = slots_of u h.finds.seen in
    let slots = l.found.slots in
    let later = g.S.Shelf.tells c.look.new.shelf in
    let told = c.look.ensures.told (c.settle.ensures.told t) in
    let same_disks : (g.S.Shelf.world c.look.new.shelf).now.seen ≡ disks = ap (λ (stand : Stand). stand.seen) (c.look.ensures.still (c.settle.ensures.told t)).now ∙ (flushes_read (g.S.Shelf.world c.args.shelf.now) (g.S.Shelf.world c.settle.new.shelf) (c.settle.ensures.flushes t)).seen in
    let sound = g.S.Shelf.sound c.args.shelf.now t in
    let place = place_disks sizes slots c.own_slots.result s.uber next txg c.rewound-root.ensures.is c.own_slots.ensures.own b.disks_are in
    let ready = own.open sizes place in
    let saved = saved_moved tells later disks disks slots slots (λ x. t) (λ x. refl) (λ d. refl) u l.root b.block s b.saved in
    let cut_first = own_cut slots c.own_slots.result s.uber next txg c.rewound-root.ensures.is c.own_slots.ensures.own in
    let cut = subst (IsCut s.uber slots) (sym own.slots) cut_first in
    let is = subst IsUber c.rewound-root.ensures.is c.rewound-root.ensures.lawful in
    let fresh = subst (λ (x : Uber). IsFresh x pool) c.rewound-root.ensures.is own.fresh in
    let parts = subst (λ (r : Root). HasParts r [] pool) c.in_ok-reset.ensures own.parts in
    let objects = saved_objects later told disks sizes sound.sized slots u l.root b.block s txg pool saved b.past cut is ready fresh parts in
    let held = saved_held later told disks sizes sound.sized slots u l.root b.block s txg pool saved b.past cut is ready fresh parts in
    let are_there = saved_are later told disks sizes sound.sized slots u l.root b.block s txg pool saved b.past cut is ready fresh parts in
    let are_here = subst (λ (x : Stored). AreObjects x s.root.head.dir objects) (store_same disks these slots (devices_of s.root.parts.devs) h.slots) are_there in
    let saved_here = saved_moved tells tells disks disks these slots (λ x. x) (λ x. refl) h.slots u l.root b.block s b.saved in
    let part = saved_with tells t w.now.paths disks these u l.root b.block s b.has saved_here objects are_here in
    let shown : ShowsSaved w.now.paths disks these (told_root u l.root) = record { root = Some (told_root s.uber s.root); shown = part.0; state = Some (record { objects = objects; devs = devices_at w.now.paths these s.uber }); is = part.1 } in
    let stands = subst (λ (ss : List (Option ℕ)). Stands disks ss u l.root) (sym h.at.same) (h.at.stands t) in
    let same = subst (HasSlots these) (sym h.at.same) h.slots in
    record {
      state = state tells t w.now.paths disks sizes sound.sized u l.pool l.root h.finds.seen (h.finds.shown.shows t) h.finds.finds same h.at.uber h.at.head (meta_of l.saved) shown h.at.ready h.at.fresh h.at.parts h.at.mapped stands;
      shown = shows_it tells t w.now.paths disks sizes sound.sized u l.pool l.root h.finds.seen (h.finds.shown.shows t) h.finds.finds same h.at.uber h.at.head (meta_of l.saved) shown h.at.ready h.at.fresh h.at.parts h.at.mapped stands;
      saved = record { objects = objects; devs = devices_at w.now.paths these s.uber };
      saved_is = refl;
      holds = record {
        objects = record {
          stored = held.stored;
          held = c.in_ok-show.ensures.keeps held.stored (subst (λ (ds : List (List ℕ)). HasBlocks later ds pool held.stored) (sym same_disks) held.held);
          has = held.has;
        };
        checkpoint = subst (λ (k : CkptPart). HasCheckpoint k None false) (sym (ap (λ (ps : SpaceParts). ps.ckpt) parts.space.parts_are ∙ saved.clear)) (refl, refl);
      };
    }

pub returns-clause-told : goal.returns-clause-told
returns-clause-told g c = λ t. c.in_ok-show.ensures.told (c.look.ensures.told (c.settle.ensures.told t))

pub returns-in_err-show-clause-told : goal.returns-in_err-show-clause-told
returns-in_err-show-clause-told g c = λ t. c.in_err-show.ensures.told (c.look.ensures.told (c.settle.ensures.told t))

pub returns-in_err-show-clause-fault : goal.returns-in_err-show-clause-fault
returns-in_err-show-clause-fault g c = λ is.
    let told = c.in_err-show.field-0.0 in
    let e : c.from_residual-in_err-show.result ≡ Err (Stops told) = search rules in
    let both = sym e ∙ is in
    let same : told ≡ DiskFault = cc in
    let counts = g.S.Shelf.counts in
    let last = (counts c.show.new.shelf).disk in
    risen_later (counts c.args.shelf.now).disk (counts c.settle.new.shelf).disk last c.settle.ensures.none_fell.disk
    (risen_later (counts c.settle.new.shelf).disk (counts c.look.new.shelf).disk last c.look.ensures.none_fell.disk (c.in_err-show.ensures.fault (ap Err same)))

-- ---- the last root

pub returns-clause-last : goal.returns-clause-last
returns-clause-last g c = λ t.
    let sizes = g.S.Shelf.sizes c.args.shelf.now in
    let tells = g.S.Shelf.tells c.args.shelf.now in
    let disks = (g.S.Shelf.world c.args.shelf.now).now.seen in
    let l = c.in_ok-looked.looked in
    let s = c.in-Some.saved in
    let h = looked_flushed (g.S.Shelf.tells c.settle.new.shelf) tells (g.S.Shelf.world c.settle.new.shelf) (g.S.Shelf.world c.args.shelf.now) c.settle.ensures.told c.settle.ensures.flushes (g.S.Shelf.sizes c.settle.new.shelf) sizes c.settle.ensures.sizes l c.in_ok-looked.ensures.looked in
    let b = back_is sizes tells disks l s h (sym c.into_saved.ensures ∙ c.in-Some.is) in
    let u = l.found.root in
    let next = c.rewound-root.result in
    let pool = c.in_ok-pool.pool in
    let read = g.S.Shelf.world c.look.new.shelf in
    let now = g.S.Shelf.world c.show.new.shelf in
    let told = c.look.ensures.told (c.settle.ensures.told t) in
    let seen = h.finds.seen in
    let place = place_disks sizes l.found.slots c.own_slots.result s.uber next (u.txg + 1) c.rewound-root.ensures.is c.own_slots.ensures.own b.disks_are in
    let ready = subst (λ (ns : List ℕ). IsOpen ns pool) (sym (c.look.ensures.sizes ∙ c.settle.ensures.sizes)) (c.in_ok-pool.ensures.open sizes place) in
    let same_disks : (g.S.Shelf.world c.look.new.shelf).now.seen ≡ disks = ap (λ (stand : Stand). stand.seen) (c.look.ensures.still (c.settle.ensures.told t)).now ∙ (flushes_read (g.S.Shelf.world c.args.shelf.now) (g.S.Shelf.world c.settle.new.shelf) (c.settle.ensures.flushes t)).seen in
    let shown = subst (λ (ds : List (List ℕ)). ShowsAll ds seen) (sym same_disks) (h.finds.shown.shows t) in
    let cut = own_cut l.found.slots c.own_slots.result s.uber next (u.txg + 1) c.rewound-root.ensures.is c.own_slots.ensures.own in
    let own = saved_own u s.uber l.found.slots c.own_slots.result (u.txg + 1) h.at.uber b.saved.is_saved.spelled.lawful b.saved.is_saved.guid b.saved.is_saved.rows cut in
    let devices = subst (λ (x : Uber). HasSlots (slots_of x seen) c.own_slots.result) (sym c.rewound-root.ensures.is) (saved_at u s.uber l.found.slots c.own_slots.result (u.txg + 1) seen h.slots own) in
    let later : u.txg < next.txg = let group = ap (λ (x : Uber). x.txg) c.rewound-root.ensures.is in omega (arith, group) in
    published_last (g.S.Shelf.sizes c.look.new.shelf) seen u next c.own_slots.result read now (g.S.Shelf.sound c.look.new.shelf told).sized shown h.finds.finds later devices pool ready c.in_ok-pool.ensures.fresh c.in_ok-pool.ensures.slots (c.in_ok-show.ensures.shown told)

-- ---- what it leaves

pub returns-clause-leaves : goal.returns-clause-leaves
returns-clause-leaves g c = λ t.
    let sizes = g.S.Shelf.sizes c.args.shelf.now in
    let tells = g.S.Shelf.tells c.args.shelf.now in
    let disks = (g.S.Shelf.world c.args.shelf.now).now.seen in
    let l = c.in_ok-looked.looked in
    let s = c.in-Some.saved in
    let h = looked_flushed (g.S.Shelf.tells c.settle.new.shelf) tells (g.S.Shelf.world c.settle.new.shelf) (g.S.Shelf.world c.args.shelf.now) c.settle.ensures.told c.settle.ensures.flushes (g.S.Shelf.sizes c.settle.new.shelf) sizes c.settle.ensures.sizes l c.in_ok-looked.ensures.looked in
    let b = back_is sizes tells disks l s h (sym c.into_saved.ensures ∙ c.in-Some.is) in
    let u = l.found.root in
    let txg = u.txg + 1 in
    let pool = c.in_ok-pool.pool in
    let own = c.in_ok-pool.ensures in
    let next = c.rewound-root.result in
    let slots = l.found.slots in
    let read = g.S.Shelf.world c.look.new.shelf in
    let now = g.S.Shelf.world c.show.new.shelf in
    let told = c.look.ensures.told (c.settle.ensures.told t) in
    let same_disks : (g.S.Shelf.world c.look.new.shelf).now.seen ≡ disks = ap (λ (stand : Stand). stand.seen) (c.look.ensures.still (c.settle.ensures.told t)).now ∙ (flushes_read (g.S.Shelf.world c.args.shelf.now) (g.S.Shelf.world c.settle.new.shelf) (c.settle.ensures.flushes t)).seen in
    let sound = g.S.Shelf.sound c.args.shelf.now t in
    let ready = own.open sizes (place_disks sizes slots c.own_slots.result s.uber next txg c.rewound-root.ensures.is c.own_slots.ensures.own b.disks_are) in
    let cut = subst (IsCut s.uber slots) (sym own.slots) (own_cut slots c.own_slots.result s.uber next txg c.rewound-root.ensures.is c.own_slots.ensures.own) in
    let is = subst IsUber c.rewound-root.ensures.is c.rewound-root.ensures.lawful in
    let fresh = subst (λ (x : Uber). IsFresh x pool) c.rewound-root.ensures.is own.fresh in
    let parts = subst (λ (r : Root). HasParts r [] pool) c.in_ok-reset.ensures own.parts in
    let there = stands tells t disks sizes sound.sized slots u l.root b.block s txg pool b.saved b.past cut is ready fresh parts in
    leaves_shown disks sizes (rewound s.uber txg) pool (back tells t disks sizes sound.sized slots u l.root b.block s txg pool b.saved b.past cut is ready fresh parts) [] is ready fresh b.saved.head parts there u next read now same_disks c.rewound-root.ensures.lawful
    (subst (λ (ns : List ℕ). IsShownFrom ns (record pool { last = Some u }) next read now) (c.look.ensures.sizes ∙ c.settle.ensures.sizes) (c.in_ok-show.ensures.shown told))

pub returns-clause-trees : goal.returns-clause-trees
returns-clause-trees g c = λ t.
    let sizes = g.S.Shelf.sizes c.args.shelf.now in
    let tells = g.S.Shelf.tells c.args.shelf.now in
    let disks = (g.S.Shelf.world c.args.shelf.now).now.seen in
    let l = c.in_ok-looked.looked in
    let s = c.in-Some.saved in
    let h = looked_flushed (g.S.Shelf.tells c.settle.new.shelf) tells (g.S.Shelf.world c.settle.new.shelf) (g.S.Shelf.world c.args.shelf.now) c.settle.ensures.told c.settle.ensures.flushes (g.S.Shelf.sizes c.settle.new.shelf) sizes c.settle.ensures.sizes l c.in_ok-looked.ensures.looked in
    let b = back_is sizes tells disks l s h (sym c.into_saved.ensures ∙ c.in-Some.is) in
    let u = l.found.root in
    let txg = u.txg + 1 in
    let pool = c.in_ok-pool.pool in
    let own = c.in_ok-pool.ensures in
    let next = c.rewound-root.result in
    let slots = l.found.slots in
    let read = g.S.Shelf.world c.look.new.shelf in
    let now = g.S.Shelf.world c.show.new.shelf in
    let told = c.look.ensures.told (c.settle.ensures.told t) in
    let same_disks : (g.S.Shelf.world c.look.new.shelf).now.seen ≡ disks = ap (λ (stand : Stand). stand.seen) (c.look.ensures.still (c.settle.ensures.told t)).now ∙ (flushes_read (g.S.Shelf.world c.args.shelf.now) (g.S.Shelf.world c.settle.new.shelf) (c.settle.ensures.flushes t)).seen in
    let sound = g.S.Shelf.sound c.args.shelf.now t in
    let ready = own.open sizes (place_disks sizes slots c.own_slots.result s.uber next txg c.rewound-root.ensures.is c.own_slots.ensures.own b.disks_are) in
    let cut = subst (IsCut s.uber slots) (sym own.slots) (own_cut slots c.own_slots.result s.uber next txg c.rewound-root.ensures.is c.own_slots.ensures.own) in
    let is = subst IsUber c.rewound-root.ensures.is c.rewound-root.ensures.lawful in
    let fresh = subst (λ (x : Uber). IsFresh x pool) c.rewound-root.ensures.is own.fresh in
    let parts = subst (λ (r : Root). HasParts r [] pool) c.in_ok-reset.ensures own.parts in
    let there = stands tells t disks sizes sound.sized slots u l.root b.block s txg pool b.saved b.past cut is ready fresh parts in
    own_trees (g.S.Shelf.tells c.show.new.shelf) (c.in_ok-show.ensures.told told) disks now.now.seen sizes (rewound s.uber txg) pool (back tells t disks sizes sound.sized slots u l.root b.block s txg pool b.saved b.past cut is ready fresh parts) [] is ready fresh b.saved.head parts there
    (shown_bytes sizes pool u next read now ready c.rewound-root.ensures.lawful (subst (λ (ns : List ℕ). IsShownFrom ns (record pool { last = Some u }) next read now) (c.look.ensures.sizes ∙ c.settle.ensures.sizes) (c.in_ok-show.ensures.shown told)) disks same_disks)

-- ---- wherever it stops

pub returns-in_err-show-clause-stops : goal.returns-in_err-show-clause-stops
returns-in_err-show-clause-stops g c = λ t.
    let sizes = g.S.Shelf.sizes c.args.shelf.now in
    let old = g.S.Shelf.world c.args.shelf.now in
    let mid = g.S.Shelf.world c.settle.new.shelf in
    let read = g.S.Shelf.world c.look.new.shelf in
    let now = g.S.Shelf.world c.show.new.shelf in
    let l = c.in_ok-looked.looked in
    let s = c.in-Some.saved in
    let u = l.found.root in
    let next = c.rewound-root.result in
    let next_is = c.rewound-root.ensures.is in
    let pool = c.in_ok-pool.pool in
    let own = c.in_ok-pool.ensures in
    let told = c.settle.ensures.told t in
    let still = c.look.ensures.still told in
    let same_sizes : g.S.Shelf.sizes c.look.new.shelf ≡ sizes = c.look.ensures.sizes ∙ c.settle.ensures.sizes in
    let h = whole_moved (g.S.Shelf.tells c.settle.new.shelf) (Unit {0}) mid.now.seen read.now.seen (λ x. told) (λ x. sym (ap (λ (stand : Stand). stand.seen) still.now)) sizes l
    (subst (λ (ns : List ℕ). IsLooked ns (g.S.Shelf.tells c.settle.new.shelf) mid.now.seen l) c.settle.ensures.sizes c.in_ok-looked.ensures.looked) in
    let b = back_is sizes (Unit {0}) read.now.seen l s h (sym c.into_saved.ensures ∙ c.in-Some.is) in
    let place = place_disks sizes l.found.slots c.own_slots.result s.uber next (u.txg + 1) next_is c.own_slots.ensures.own b.disks_are in
    let cut = subst (IsCut s.uber l.found.slots) (sym own.slots) (own_cut l.found.slots c.own_slots.result s.uber next (u.txg + 1) next_is c.own_slots.ensures.own) in
    let parts = subst (λ (r : Root). HasParts r [] pool) c.in_ok-reset.ensures own.parts in
    let puts = subst (λ (ns : List ℕ). PublishesRoot ns (record pool { last = Some u }) next read now) same_sizes (c.show.ensures.stops (c.look.ensures.told told)) in
    rewinds sizes old.now.paths read ((g.S.Shelf.sound c.look.new.shelf (c.look.ensures.told told)).sized ∙ same_sizes) (rests_still mid read (c.in_ok-settle.ensures.rests t) still) l h b.block s b.has b.saved next next_is c.rewound-root.ensures.lawful pool (own.open sizes place) cut own.fresh parts now puts
    old refl (flushes_still old mid read (c.settle.ensures.flushes t) still)

pub returns-clause-stops : goal.returns-clause-stops
returns-clause-stops g c = λ t.
    let sizes = g.S.Shelf.sizes c.args.shelf.now in
    let old = g.S.Shelf.world c.args.shelf.now in
    let mid = g.S.Shelf.world c.settle.new.shelf in
    let read = g.S.Shelf.world c.look.new.shelf in
    let now = g.S.Shelf.world c.show.new.shelf in
    let l = c.in_ok-looked.looked in
    let s = c.in-Some.saved in
    let u = l.found.root in
    let next = c.rewound-root.result in
    let next_is = c.rewound-root.ensures.is in
    let pool = c.in_ok-pool.pool in
    let own = c.in_ok-pool.ensures in
    let told = c.settle.ensures.told t in
    let still = c.look.ensures.still told in
    let same_sizes : g.S.Shelf.sizes c.look.new.shelf ≡ sizes = c.look.ensures.sizes ∙ c.settle.ensures.sizes in
    let h = whole_moved (g.S.Shelf.tells c.settle.new.shelf) (Unit {0}) mid.now.seen read.now.seen (λ x. told) (λ x. sym (ap (λ (stand : Stand). stand.seen) still.now)) sizes l
    (subst (λ (ns : List ℕ). IsLooked ns (g.S.Shelf.tells c.settle.new.shelf) mid.now.seen l) c.settle.ensures.sizes c.in_ok-looked.ensures.looked) in
    let b = back_is sizes (Unit {0}) read.now.seen l s h (sym c.into_saved.ensures ∙ c.in-Some.is) in
    let place = place_disks sizes l.found.slots c.own_slots.result s.uber next (u.txg + 1) next_is c.own_slots.ensures.own b.disks_are in
    let cut = subst (IsCut s.uber l.found.slots) (sym own.slots) (own_cut l.found.slots c.own_slots.result s.uber next (u.txg + 1) next_is c.own_slots.ensures.own) in
    let parts = subst (λ (r : Root). HasParts r [] pool) c.in_ok-reset.ensures own.parts in
    let puts = subst (λ (ns : List ℕ). PublishesRoot ns (record pool { last = Some u }) next read now) same_sizes (c.show.ensures.stops (c.look.ensures.told told)) in
    rewinds sizes old.now.paths read ((g.S.Shelf.sound c.look.new.shelf (c.look.ensures.told told)).sized ∙ same_sizes) (rests_still mid read (c.in_ok-settle.ensures.rests t) still) l h b.block s b.has b.saved next next_is c.rewound-root.ensures.lawful pool (own.open sizes place) cut own.fresh parts now puts
    old refl (flushes_still old mid read (c.settle.ensures.flushes t) still)
