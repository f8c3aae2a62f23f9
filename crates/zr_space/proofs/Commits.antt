-- What a commit does to the space.
use Rattle.std.specs.Prelude.{All}
use Rattle.std.proofs.Common.{◌≡◌, ℕ, suc, ◌+◌, ◌<◌, Bool, true, false, ◌||◌, List, [], ◌∷◌, ◌++◌, length, refl, ◌∙◌, sym, ap, ap₂, subst, arith, if◌then◌else◌}
use Rattle.std.proofs.Math.ListN.{set}
use Rattle.std.proofs.lemmas.Bool.Decides.{nat_tests}
use Rattle.std.proofs.lemmas.List.{length-map}
use Rattle.zr_base.specs.declared.space.DevPart.{DevPart}
use Rattle.zr_base.specs.declared.space.Extent.{Extent}
use Rattle.zr_base.specs.Extents.{has_unit}
use Rattle.zr_rules.specs.Places.{is_leaving}
use Rattle.zr_rules.specs.Roles.{aged, cleared}
use Rattle.zr_base.specs.declared.space.DevRow.{DevRow}
use Rattle.zr_rules.specs.Mappings.{end_of_last}
use Rattle.zr_rules.specs.Space.{OpenSets, nothing_opened, IsSet}
use Rattle.zr_base.specs.declared.space.LateRun.{LateRun}
use Rattle.zr_indirect.specs.Mapped.{Mapped, IsLeaving, IsGone}
use Rattle.zr_space.proofs.Synced.{synced_is, leaving_state}
use Rattle.zr_rules.specs.Steps as steps
use Rattle.zr_metaslab.specs.Devices.{Devices, free_at, count_at}
use Rattle.zr_units.specs.Uses.{Uses, IsAccount, IsSameUses, freed_count}
use Rattle.zr_units.specs.Changes.{TakesBack, aged_uses, cleared_uses, has_freed}
use Rattle.zr_space.specs.Views.{Kept, EndsWithin, kept_of, nothing_kept, part_in, opened_in, space_of, role_in, IsMoved, IsTied, IsSpace, IsSameKept, AreTurned, settled, meta_from, saved_from, addresses, late_runs}
use Rattle.zr_space.specs.Turning.{TurnsParts, waiting_runs}
use Rattle.zr_space.proofs.Views.{part_is, opened_is}
use Rattle.zr_space.proofs.Turning.{TurnedBelow, turned_all, turned_next}
use Rattle.zr_space.proofs.Roles.{roles_are}
use Rattle.zr_space.proofs.Accounts.{same_account, aged_account, aged_roles, cleared_account, cleared_roles}
use Rattle.zr_space.proofs.Keeps.{IsChange, IsSameBlocks, uses_tied, stays_space, lawful}
use Rattle.zr_space.specs.declared.whole.Whole.{Whole}

-- a root has the mapping and the marks as they are
abbrev pub IsAged : Mapped → Mapped → Type 0
IsAged old new = new ≡ record old { came = []; went = []; synced = old.opened; spare = new.spare }

-- what a device has beside its units stays of its state
pub aged_moved : (r : DevRow) (m n : Mapped) → IsAged m n → IsMoved r m → IsMoved r n
aged_moved r m n ages h = record {
  state = ap (λ (x : Mapped). x.state) ages ∙ h.state;
  service = λ on. ages ∙ ap (λ (x : Mapped). record x { came = []; went = []; synced = x.opened; spare = n.spare }) (h.service on);
  leaving = λ is. aged_leaving (h.leaving is);
  gone = λ is. aged_gone (h.gone is);
  fresh = subst (IsSet r.units) (sym (ap (λ (x : Mapped). x.fresh) ages)) h.fresh;
  came = subst (IsSet r.units) (sym (ap (λ (x : Mapped). x.came) ages)) (record { maximal = tt; within = tt });
  went = subst (IsSet r.units) (sym (ap (λ (x : Mapped). x.went) ages)) (record { maximal = tt; within = tt });
  sources = subst (All (EndsWithin r.units)) (sym (ap (λ (x : Mapped). x.entries) ages)) h.sources;
}
  where
    none_in : (u : ℕ) → false ≡ true → ⊥
    none_in u e = cc

    aged_leaving : IsLeaving m → IsLeaving n
    aged_leaving l = rw ages (record {
      marks = record { frontier = l.marks.frontier; sources = l.marks.sources; came_is = λ u is. absurd (none_in u is) };
      counts = l.counts;
      rising = l.rising;
      uncopied = l.uncopied;
      order = omega arith;
      bound = l.bound;
      fresh_maximal = l.fresh_maximal;
      came_maximal = tt;
      left_maximal = l.left_maximal;
      went_none = refl;
    })

    aged_gone : IsGone m → IsGone n
    aged_gone g = rw ages (record {
      counts = record { each = g.counts.each; sources = g.counts.sources; fits = g.counts.fits };
      turned = record { came_is = λ u is. absurd (none_in u is); went_is = λ u is. refl };
      rising = g.rising;
      fresh_maximal = g.fresh_maximal;
      came_maximal = tt;
      went_maximal = tt;
      left_none = g.left_none;
      synced_none = g.opened_none;
      opened_none = g.opened_none;
    })

-- a device stays tied where a root has its mapping
aged_tied : (whole : Whole) (k : Kept) (y : Uses) (m : Mapped) → IsSameBlocks k.uses y → IsAged k.moves m → IsTied whole k → IsTied whole (record k { uses = y; moves = m })
aged_tied whole k y m blocks ages t = rw ages (uses_tied whole (record k { moves = record k.moves { came = []; went = []; synced = k.moves.opened; spare = m.spare } }) y blocks (record { left = t.left; copied = t.copied; quiet = t.quiet; unkept = t.unkept; uncopied = t.uncopied }))

-- one device is settled, whose index is the next
pub record IsNext (whole : Whole) (s t : Devices) (devs : List Kept) (d : ℕ) (k : Kept) : Type 0 where
  pub space : IsSpace whole s devs
  pub there : d < length devs
  pub kept : k ≡ kept_of devs d

module _ (whole : Whole) (s t : Devices) (devs : List Kept) (d : ℕ) (k : Kept) (h : IsNext whole s t devs d k) where
  account : IsAccount (free_at s d) (count_at s d) k.uses
  account = subst (λ (x : Kept). IsAccount (free_at s d) (count_at s d) x.uses) (sym h.kept) (h.space.account d)

  change : (y : Uses) (m : Mapped) (given : ℕ → Bool) (n : ℕ) → TakesBack s t d given n → y.units ≡ k.uses.units → IsSameBlocks k.uses y → IsAged k.moves m → IsAccount (free_at t d) (count_at t d) y
      → IsChange whole s t devs d (record k { uses = y; moves = m })
  change y m given n back units blocks ages a = record {
    there = h.there;
    row = ap (λ (x : Kept). x.row) h.kept;
    entries = ap (λ (x : Mapped). x.entries) ages ∙ ap (λ (x : Kept). x.moves.entries) h.kept;
    counts = ap (λ (x : Mapped). x.counts) ages ∙ ap (λ (x : Kept). x.moves.counts) h.kept;
    fresh = ap (λ (x : Mapped). x.fresh) ages ∙ ap (λ (x : Kept). x.moves.fresh) h.kept;
    moved = aged_moved k.row k.moves m ages (subst (λ (x : Kept). IsMoved x.row x.moves) (sym h.kept) (h.space.moved d));
    units = units ∙ ap (λ (x : Kept). x.uses.units) h.kept;
    account = a;
    copies = λ u. ap (λ (es : List Extent). has_unit es u) blocks.copies ∙ ap (λ (x : Kept). has_unit x.uses.copies u) h.kept;
    devices = back.devices;
    free = λ j u ne. let f = back.free j u in grind (arith, nat_tests, f, ne);
    count = λ j ne. let c = back.count j in grind (arith, nat_tests, c, ne);
    tied = λ is. aged_tied whole k y m blocks ages (subst (IsTied whole) (sym h.kept) (h.space.tied d (subst (λ (x : Kept). is_leaving x.row.state ≡ true) h.kept is)));
  }

  pub age_space : (y : Uses) (m : Mapped) → IsAged k.moves m → IsSameUses (aged_uses k.uses) y → TakesBack s t d (has_freed k.uses.late2) (freed_count k.uses.late2) → IsSpace whole t (set devs d (record k { uses = y; moves = m }))
  age_space y m ages same back = stays_space s t devs d (record k { uses = y; moves = m }) h.space
      (change y m (has_freed k.uses.late2) (freed_count k.uses.late2) back (ap (λ (x : Uses). x.units) same) (record { held = ap (λ (x : Uses). x.held) same; kept = ap (λ (x : Uses). x.kept) same; copies = ap (λ (x : Uses). x.copies) same }) ages
      (same_account (free_at t d) (count_at t d) (aged_uses k.uses) y same (aged_account (free_at s d) (free_at t d) (count_at s d) (count_at t d) k.uses account (λ u. let f = back.free d u in grind (arith, nat_tests, f)) (let c = back.count d in grind (arith, nat_tests, c)))))

  pub clear_space : (y : Uses) (m : Mapped) → IsAged k.moves m → IsSameUses (cleared_uses k.uses) y → TakesBack s t d (λ u. has_freed k.uses.freed u || (has_freed k.uses.late1 u || has_freed k.uses.late2 u)) (freed_count k.uses.freed + freed_count k.uses.late1 + freed_count k.uses.late2) → IsSpace whole t (set devs d (record k { uses = y; moves = m }))
  clear_space y m ages same back = stays_space s t devs d (record k { uses = y; moves = m }) h.space
      (change y m (λ u. has_freed k.uses.freed u || (has_freed k.uses.late1 u || has_freed k.uses.late2 u)) (freed_count k.uses.freed + freed_count k.uses.late1 + freed_count k.uses.late2) back (ap (λ (x : Uses). x.units) same) (record { held = ap (λ (x : Uses). x.held) same; kept = ap (λ (x : Uses). x.kept) same; copies = ap (λ (x : Uses). x.copies) same }) ages
      (same_account (free_at t d) (count_at t d) (cleared_uses k.uses) y same (cleared_account (free_at s d) (free_at t d) (count_at s d) (count_at t d) k.uses account (λ u. let f = back.free d u in grind (arith, nat_tests, f)) (let c = back.count d in grind (arith, nat_tests, c)))))

settled_nothing : (reset : Bool) → settled reset nothing_kept ≡ nothing_kept
settled_nothing true = refl
settled_nothing false = refl

settled_same : (reset : Bool) (x y : Kept) → IsSameKept x y → IsSameKept (settled reset x) (settled reset y)
settled_same true x y same = ap (settled true) same
settled_same false x y same = ap (settled false) same

-- each device is settled
pub settled_all : (reset : Bool) (first devs : List Kept) → length devs ≡ length first → TurnedBelow (settled reset) first devs (length devs) → AreTurned (settled reset) first devs
settled_all reset = turned_all (settled reset) (settled_nothing reset) (settled_same reset)

-- the next device is settled
pub settled_next : (reset : Bool) (first devs : List Kept) (n : ℕ) (k : Kept) (y : Uses) (m : Mapped) → n < length devs → k ≡ kept_of devs n → IsAged k.moves m → IsSameUses (if reset then cleared_uses k.uses else aged_uses k.uses) y
    → TurnedBelow (settled reset) first devs n → TurnedBelow (settled reset) first (set devs n (record k { uses = y; moves = m })) (n + 1)
settled_next reset first devs n k y m there is ages uses so =
    turned_next (settled reset) (settled_nothing reset) (settled_same reset) first devs n (record k { uses = y; moves = m }) there
    (subst (λ (z : Kept). IsSameKept (settled reset z) (record k { uses = y; moves = m })) is (ap₂ (λ (z : Uses) (w : Mapped). record k { uses = z; moves = w }) uses ages)) so

pub meta_turned : (reset : Bool) (i : ℕ) (old new : List Kept) → AreTurned (settled reset) old new → meta_from i new ≡ meta_from i old
meta_turned reset i [] [] t = refl
meta_turned reset i [] (y ∷ ys) t = let c = t.count in absurd (omega (arith, c))
meta_turned reset i (x ∷ xs) [] t = let c = t.count in absurd (omega (arith, c))
meta_turned reset i (x ∷ xs) (y ∷ ys) t =
    let head : y.uses.meta ≡ x.uses.meta = ap (λ (k : Kept). k.uses.meta) (t.each 0) ∙ settled_meta reset x in
    rw head (ap (λ list. addresses i x.uses.meta ++ list) (meta_turned reset (i + 1) xs ys (record { count = let c = t.count in omega (arith, c); each = λ d. t.each (suc d) })))
  where
    settled_meta : (reset : Bool) (k : Kept) → (settled reset k).uses.meta ≡ k.uses.meta
    settled_meta true k = refl
    settled_meta false k = refl

pub saved_turned : (reset : Bool) (i : ℕ) (old new : List Kept) → AreTurned (settled reset) old new → saved_from i new ≡ saved_from i old
saved_turned reset i [] [] t = refl
saved_turned reset i [] (y ∷ ys) t = let c = t.count in absurd (omega (arith, c))
saved_turned reset i (x ∷ xs) [] t = let c = t.count in absurd (omega (arith, c))
saved_turned reset i (x ∷ xs) (y ∷ ys) t =
    let head : y.uses.saved ≡ x.uses.saved = ap (λ (k : Kept). k.uses.saved) (t.each 0) ∙ settled_saved reset x in
    rw head (ap (λ list. addresses i x.uses.saved ++ list) (saved_turned reset (i + 1) xs ys (record { count = let c = t.count in omega (arith, c); each = λ d. t.each (suc d) })))
  where
    settled_saved : (reset : Bool) (k : Kept) → (settled reset k).uses.saved ≡ k.uses.saved
    settled_saved true k = refl
    settled_saved false k = refl

settled_role : (reset : Bool) (f : ℕ → Bool) (n : ℕ) (k : Kept) → IsAccount f n k.uses → (u : ℕ) → role_in (settled reset k).uses u ≡ (if reset then cleared (role_in k.uses u) else aged (role_in k.uses u))
settled_role true f n k a u = cleared_roles f n k.uses a u
settled_role false f n k a u = aged_roles f n k.uses a u

settled_row : (reset : Bool) (k : Kept) → (settled reset k).row ≡ k.row
settled_row reset k = refl

settled_opened : (reset : Bool) (k : Kept) → opened_in (settled reset k) ≡ nothing_opened
settled_opened true k = refl
settled_opened false k = refl

pub commits : (reset : Bool) (whole : Whole) (s t : Devices) (devs next : List Kept) → AreTurned (settled reset) devs next → IsSpace whole s devs → IsSpace whole t next → steps.Commits reset (space_of whole devs) (space_of whole next)
commits reset whole s t devs next turned old new = record {
  roles = λ d u.
      roles_are whole next d u new
      ∙ (ap (λ (k : Kept). role_in k.uses u) (turned.each d)
      ∙ (settled_role reset (free_at s d) (count_at s d) (kept_of devs d) (old.account d) u
      ∙ ap (λ r. if reset then cleared r else aged r) (sym (roles_are whole devs d u old))));
  opened = λ d. opened_is whole next d ∙ (ap opened_in (turned.each d) ∙ settled_opened reset (kept_of devs d));
  fresh = λ d u. ap (λ (p : DevPart). has_unit p.fresh u) (part_is next d) ∙ (ap (λ (k : Kept). has_unit k.moves.fresh u) (turned.each d) ∙ sym (ap (λ (p : DevPart). has_unit p.fresh u) (part_is devs d)));
  rows = λ d. ap (λ (p : DevPart). p.row) (part_is next d) ∙ (ap (λ (k : Kept). k.row) (turned.each d) ∙ sym (ap (λ (p : DevPart). p.row) (part_is devs d)));
  entries = λ d. ap (λ (p : DevPart). p.entries) (part_is next d) ∙ (ap (λ (k : Kept). k.moves.entries) (turned.each d) ∙ sym (ap (λ (p : DevPart). p.entries) (part_is devs d)));
  counts = λ d. ap (λ (p : DevPart). p.counts) (part_is next d) ∙ (ap (λ (k : Kept). k.moves.counts) (turned.each d) ∙ sym (ap (λ (p : DevPart). p.counts) (part_is devs d)));
  devices = length-map next part_in ∙ (turned.count ∙ sym (length-map devs part_in));
  version = refl;
  cond = refl;
  ckpt = refl;
  synced = λ d leaving.
      let is : is_leaving (kept_of devs d).row.state ≡ true = sym (ap (λ (p : DevPart). is_leaving p.row.state) (part_is devs d)) ∙ leaving in
      let now : is_leaving (kept_of next d).row.state ≡ true = ap (λ (k : Kept). is_leaving k.row.state) (turned.each d) ∙ is in
      synced_is t next new d now
      ∙ (ap (λ (k : Kept). k.moves.synced) (turned.each d)
      ∙ (((old.moved d).leaving (leaving_state (kept_of devs d).row.state is)).marks.frontier
      ∙ ap end_of_last (sym (ap (λ (p : DevPart). p.entries) (part_is devs d)))));
  lawful = λ was. lawful whole t next new;
}

-- ---- what a root records behind it

settled_held : (reset : Bool) (k : Kept) → (settled reset k).uses.held ≡ k.uses.held
settled_held true k = refl
settled_held false k = refl

settled_kept : (reset : Bool) (k : Kept) → (settled reset k).uses.kept ≡ k.uses.kept
settled_kept true k = refl
settled_kept false k = refl

settled_first : (reset : Bool) (k : Kept) → late_runs (settled reset k).uses.late1 ≡ (if reset then [] else waiting_runs (opened_in k))
settled_first true k = refl
settled_first false k = refl

settled_second : (reset : Bool) (k : Kept) → late_runs (settled reset k).uses.late2 ≡ (if reset then [] else late_runs k.uses.late1)
settled_second true k = refl
settled_second false k = refl

pub turns_parts : (reset : Bool) (whole : Whole) (devs next : List Kept) → AreTurned (settled reset) devs next → TurnsParts reset (space_of whole devs) (space_of whole next)
turns_parts reset whole devs next turned = record {
  held = λ d. ap (λ (p : DevPart). p.held) (part_is next d) ∙ (ap (λ (k : Kept). k.uses.held) (turned.each d) ∙ (settled_held reset (kept_of devs d) ∙ sym (ap (λ (p : DevPart). p.held) (part_is devs d))));
  kept = λ d. ap (λ (p : DevPart). p.kept) (part_is next d) ∙ (ap (λ (k : Kept). k.uses.kept) (turned.each d) ∙ (settled_kept reset (kept_of devs d) ∙ sym (ap (λ (p : DevPart). p.kept) (part_is devs d))));
  fresh = λ d. ap (λ (p : DevPart). p.fresh) (part_is next d) ∙ (ap (λ (k : Kept). k.moves.fresh) (turned.each d) ∙ sym (ap (λ (p : DevPart). p.fresh) (part_is devs d)));
  first = λ d. ap (λ (p : DevPart). p.late1) (part_is next d) ∙ (ap (λ (k : Kept). late_runs k.uses.late1) (turned.each d) ∙ (settled_first reset (kept_of devs d) ∙ ap (λ (o : OpenSets). if reset then [] else waiting_runs o) (sym (opened_is whole devs d))));
  second = λ d. ap (λ (p : DevPart). p.late2) (part_is next d) ∙ (ap (λ (k : Kept). late_runs k.uses.late2) (turned.each d) ∙ (settled_second reset (kept_of devs d) ∙ ap (λ (p : DevPart). if reset then [] else p.late1) (sym (part_is devs d))));
}
