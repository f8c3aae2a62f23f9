-- A free lets go of the units of a device that is there.
use Rattle.std.proofs.Common.{◌≡◌, ℕ, ◌+◌, ◌-◌, ◌≤◌, ◌<◌, ◌^◌, Bool, true, false, ◌==◌, ◌&&◌, ◌||◌, List, refl, ◌∙◌, sym, ap, ap₂, subst, arith, if◌then◌else◌}
use Rattle.std.specs.List.{list_any}
use Rattle.std.proofs.lemmas.Bool.Decides.{nat_tests}
use Rattle.zr_base.specs.declared.space.DevRow.{DevRow}
use Rattle.zr_base.specs.declared.space.Extent.{Extent}
use Rattle.zr_base.specs.Extents.{in_extent, has_unit, HasAll, HasNone}
use Rattle.zr_rules.specs.Places.{one_if, is_leaving, is_fresh}
use Rattle.zr_rules.specs.Devices.{state_at}
use Rattle.zr_rules.specs.Roles.{Role}
use Rattle.zr_rules.specs.Space.{role_at}
use Rattle.zr_rules.specs.Equation.{devices_in}
use Rattle.zr_metaslab.specs.Devices.{Devices as Slabs, free_at, count_at, KeepsDevices}
use Rattle.zr_units.specs.Uses.{Uses, IsAccount}
use Rattle.zr_indirect.specs.Mapped.{Mapped}
use Rattle.zr_indirect.specs.Changes.{was_fresh_in}
use Rattle.zr_chain.specs.declared.visit.Visited.TheVariants.{Piece}
use Rattle.zr_space.specs.declared.whole.Whole.{Whole}
use Rattle.zr_space.specs.Views.{Kept, kept_of, part_in, space_of, role_in, IsMoved, IsTied, IsSpace}
use Rattle.zr_space.specs.Freeing.{IsInUse}
use Rattle.zr_space.specs.FreeVisits.{FreesVisit, IsSameBut, FreesOn, KeepsOn, is_image_by, let_go}
use Rattle.zr_space.proofs.Accounts.{account_as, frees_account, frees_roles, keeps_account, keeps_roles}
use Rattle.zr_space.proofs.Changing.{but_each, copies_in, hits_same, AreChanged, IsSameBeside, changed_space, changed_frame, same_meta, fresh_is}
use Rattle.zr_space.proofs.Counts.{held_in}
use Rattle.zr_space.proofs.Devs.{rows_are}
use Rattle.zr_space.proofs.Freeing.{use_held, use_unkept, use_uncopied}
use Rattle.zr_space.proofs.Roles.{roles_are}
use Rattle.zr_space.proofs.Rooted.{SameUses, frees_root, keeps_root}

false_true : false ≡ true → ⊥
false_true e = cc

-- the units of an extent of one device are let go of
pub record TurnsOn (s t : Slabs) (devs next : List Kept) (d : ℕ) (e : Extent) (kept : Bool) : Type 0 where
  others : IsSameBut devs next d
  here : kept_of next d ≡ record (kept_of devs d) { uses = (kept_of next d).uses }
  units : (kept_of next d).uses.units ≡ (kept_of devs d).uses.units
  account : IsAccount (free_at t d) (count_at t d) (kept_of next d).uses
  copies : (u : ℕ) → has_unit (kept_of next d).uses.copies u ≡ has_unit (kept_of devs d).uses.copies u
  devices : KeepsDevices s t
  free : (j u : ℕ) → (j == d) ≡ false → free_at t j u ≡ free_at s j u
  count : (j : ℕ) → (j == d) ≡ false → count_at t j ≡ count_at s j
  roles : (u : ℕ) → role_in (kept_of next d).uses u ≡ (if in_extent e u then let_go kept (role_in (kept_of devs d).uses u) else role_in (kept_of devs d).uses u)
  meta : (kept_of next d).uses.meta ≡ (kept_of devs d).uses.meta
  saved : (kept_of next d).uses.saved ≡ (kept_of devs d).uses.saved
  late1 : (kept_of next d).uses.late1 ≡ (kept_of devs d).uses.late1
  late2 : (kept_of next d).uses.late2 ≡ (kept_of devs d).uses.late2
  root : SameUses (kept_of devs d).uses (kept_of next d).uses

-- on a device that is not leaving a part has its own units alone, and marks none
goes_here : (leaving here image : Bool) → leaving ≡ false → (here || (leaving && image)) ≡ here
goes_here leaving true image stays = refl
goes_here leaving false image stays = rw stays refl

none_goes : (leaving was marks : Bool) → leaving ≡ false → was ≡ (was || (leaving && marks))
none_goes leaving true marks stays = refl
none_goes leaving false marks stays = rw stays refl

module _ (whole : Whole) (s t : Slabs) (devs next : List Kept) (split d : ℕ) (e : Extent) (kept : Bool) (space : IsSpace whole s devs) (stays : is_leaving (kept_of devs d).row.state ≡ false) (c : TurnsOn s t devs next d e kept) where
  abbrev k : Kept
  k = kept_of devs d

  abbrev x : Kept
  x = kept_of next d

  same_row : x.row ≡ k.row
  same_row = ap (λ (z : Kept). z.row) c.here

  same_moves : x.moves ≡ k.moves
  same_moves = ap (λ (z : Kept). z.moves) c.here

  changed : AreChanged whole s t devs next
  changed = record {
    count = c.others.count;
    row = but_each devs next d (λ j y. y.row ≡ (kept_of devs j).row) c.others same_row (λ j ne. refl);
    entries = but_each devs next d (λ j y. y.moves.entries ≡ (kept_of devs j).moves.entries) c.others (ap (λ (z : Mapped). z.entries) same_moves) (λ j ne. refl);
    counts = but_each devs next d (λ j y. y.moves.counts ≡ (kept_of devs j).moves.counts) c.others (ap (λ (z : Mapped). z.counts) same_moves) (λ j ne. refl);
    moved = but_each devs next d (λ j y. IsMoved y.row y.moves) c.others (subst (λ (r : DevRow). IsMoved r x.moves) (sym same_row) (subst (IsMoved k.row) (sym same_moves) (space.moved d))) (λ j ne. space.moved j);
    units = but_each devs next d (λ j y. y.uses.units ≡ (kept_of devs j).uses.units) c.others c.units (λ j ne. refl);
    account = but_each devs next d (λ j y. IsAccount (free_at t j) (count_at t j) y.uses) c.others c.account
        (λ j ne. account_as (free_at s j) (free_at t j) (count_at s j) (count_at t j) (kept_of devs j).uses (λ u. c.free j u ne) (c.count j ne) (space.account j));
    copies = λ j u.
        hits_same devs next j u c.others.count
        (but_each devs next d (λ i y. copies_in (part_in y) j u ≡ copies_in (part_in (kept_of devs i)) j u) c.others (same_copies j u) (λ i ne. refl))
        ∙ (space.copies j u ∙ ap one_if (sym (but_each devs next d (λ i y. has_unit y.uses.copies u ≡ has_unit (kept_of devs i).uses.copies u) c.others (c.copies u) (λ i ne. refl) j)));
    devices = c.devices;
    tied = but_each devs next d (λ j y. is_leaving y.row.state ≡ true → IsTied whole y) c.others (λ is. absurd (false_true (sym (ap (λ (r : DevRow). is_leaving r.state) same_row ∙ stays) ∙ is))) (λ j ne. space.tied j);
  }
    where
      same_copies : (j u : ℕ) → copies_in (part_in x) j u ≡ copies_in (part_in k) j u
      same_copies j u = ap₂ (λ (r : DevRow) (m : Mapped). copies_in (part_in (record { row = r; uses = x.uses; moves = m })) j u) same_row same_moves

  beside : IsSameBeside devs next
  beside = record {
    meta = but_each devs next d (λ j y. y.uses.meta ≡ (kept_of devs j).uses.meta) c.others c.meta (λ j ne. refl);
    saved = but_each devs next d (λ j y. y.uses.saved ≡ (kept_of devs j).uses.saved) c.others c.saved (λ j ne. refl);
    late1 = but_each devs next d (λ j y. y.uses.late1 ≡ (kept_of devs j).uses.late1) c.others c.late1 (λ j ne. refl);
    late2 = but_each devs next d (λ j y. y.uses.late2 ≡ (kept_of devs j).uses.late2) c.others c.late2 (λ j ne. refl);
    synced = but_each devs next d (λ j y. y.moves.synced ≡ (kept_of devs j).moves.synced) c.others (ap (λ (z : Mapped). z.synced) same_moves) (λ j ne. refl);
    root = but_each devs next d (λ j y. SameUses (kept_of devs j).uses y.uses) c.others c.root (λ j ne. record { held = λ u. refl; kept = λ u. refl });
    marks = but_each devs next d (λ j y. (u : ℕ) → was_fresh_in y.moves u ≡ was_fresh_in (kept_of devs j).moves u) c.others (λ u. ap (λ (z : Mapped). was_fresh_in z u) same_moves) (λ j ne u. refl);
  }

  pub turned_space : IsSpace whole t next
  turned_space = changed_space whole s t devs next space changed

  not_leaving : is_leaving (state_at (devices_in (space_of whole devs)) d) ≡ false
  not_leaving = ap (λ (r : DevRow). is_leaving r.state) (rows_are devs d) ∙ stays

  role_is : (j u : ℕ) → role_at (space_of whole next) j u ≡ (if (d == j) && in_extent e u then let_go kept (role_at (space_of whole devs) j u) else role_at (space_of whole devs) j u)
  role_is j u =
      roles_are whole next j u turned_space
      ∙ (but_each devs next d (λ i y. role_in y.uses u ≡ (if (d == i) && in_extent e u then let_go kept (role_in (kept_of devs i).uses u) else role_in (kept_of devs i).uses u)) c.others
      (let is : (d == d) ≡ true = grind (arith, nat_tests) in rw is (c.roles u))
      (λ i ne. let is : (d == i) ≡ false = grind (arith, nat_tests, ne) in rw is refl)
      j
      ∙ ap (λ (r : Role). if (d == j) && in_extent e u then let_go kept r else r) (sym (roles_are whole devs j u space)))

  pub turned_frees : FreesVisit kept (space_of whole devs) (space_of whole next) (Piece split d e)
  turned_frees = record {
    roles = λ j u.
        role_is j u
        ∙ ap (λ (b : Bool). if b then let_go kept (role_at (space_of whole devs) j u) else role_at (space_of whole devs) j u)
        (sym (goes_here (is_leaving (state_at (devices_in (space_of whole devs)) d)) ((d == j) && in_extent e u) (list_any (is_image_by e j u) ((devices_in (space_of whole devs)).entries d)) not_leaving));
    fresh = λ j u.
        fresh_is whole next j u
        ∙ (but_each devs next d (λ i y. has_unit y.moves.fresh u ≡ has_unit (kept_of devs i).moves.fresh u) c.others (ap (λ (z : Mapped). has_unit z.fresh u) same_moves) (λ i ne. refl) j
        ∙ (sym (fresh_is whole devs j u) ∙ none_goes (is_leaving (state_at (devices_in (space_of whole devs)) d)) (is_fresh (space_of whole devs).parts.devs j u) _ not_leaving));
    meta = same_meta whole s t devs next space changed beside;
    frame = changed_frame whole s t devs next space changed beside;
  }

module _ (whole : Whole) (s : Slabs) (devs : List Kept) (split d : ℕ) (e : Extent) (space : IsSpace whole s devs) (used : IsInUse (space_of whole devs) d e) where
  pub held : HasAll (kept_of devs d).uses.held e
  held = use_held whole s devs space d e used

  pub unkept : HasNone (kept_of devs d).uses.kept e
  unkept = use_unkept whole s devs space d e used

  pub uncopied : HasNone (kept_of devs d).uses.copies e
  uncopied = use_uncopied whole s devs space d e used

  pub freed_turns : (t : Slabs) (next : List Kept) → FreesOn s t devs next d e → TurnsOn s t devs next d e false
  freed_turns t next f = record {
    others = f.others;
    here = f.here;
    units = ap (λ (z : Uses). z.units) f.frees.others;
    account = frees_account (free_at s d) (free_at t d) (count_at s d) (count_at t d) (kept_of devs d).uses (kept_of next d).uses e (space.account d) f.frees held unkept uncopied
        (λ u. let b = f.given.free d u in grind (arith, nat_tests, b)) f.given.count f.given.born_maximal f.given.deferred_maximal;
    copies = λ u. ap (λ (z : Uses). has_unit z.copies u) f.frees.others;
    devices = f.given.devices;
    free = λ j u ne. let b = f.given.free j u in grind (arith, nat_tests, b, ne);
    count = λ j ne. f.given.others j ne;
    roles = frees_roles (free_at s d) (count_at s d) (kept_of devs d).uses (kept_of next d).uses e (space.account d) f.frees held unkept uncopied;
    meta = ap (λ (z : Uses). z.meta) f.frees.others;
    saved = ap (λ (z : Uses). z.saved) f.frees.others;
    late1 = ap (λ (z : Uses). z.late1) f.frees.others;
    late2 = ap (λ (z : Uses). z.late2) f.frees.others;
    root = frees_root (free_at s d) (count_at s d) (kept_of devs d).uses (kept_of next d).uses e (space.account d) f.frees held;
  }

  pub kept_turns : (t : Slabs) (next : List Kept) → KeepsOn s t devs next d e → TurnsOn s t devs next d e true
  kept_turns t next f = record {
    others = f.others;
    here = f.here;
    units = ap (λ (z : Uses). z.units) f.keeps.others;
    account = keeps_account (free_at s d) (free_at t d) (count_at s d) (count_at t d) (kept_of devs d).uses (kept_of next d).uses e (space.account d) f.keeps held uncopied
        (λ u. let b = f.given.free d u in grind (arith, nat_tests, b)) f.given.count f.given.held_maximal f.given.born_maximal f.given.kept_maximal f.given.came_maximal;
    copies = λ u. ap (λ (z : Uses). has_unit z.copies u) f.keeps.others;
    devices = f.given.devices;
    free = λ j u ne. let b = f.given.free j u in grind (arith, nat_tests, b, ne);
    count = λ j ne. f.given.others j ne;
    roles = keeps_roles (free_at s d) (count_at s d) (kept_of devs d).uses (kept_of next d).uses e (space.account d) f.keeps held unkept uncopied;
    meta = ap (λ (z : Uses). z.meta) f.keeps.others;
    saved = ap (λ (z : Uses). z.saved) f.keeps.others;
    late1 = ap (λ (z : Uses). z.late1) f.keeps.others;
    late2 = ap (λ (z : Uses). z.late2) f.keeps.others;
    root = keeps_root (free_at s d) (count_at s d) (kept_of devs d).uses (kept_of next d).uses e (space.account d) f.keeps unkept;
  }

  pub freed_space : (t : Slabs) (next : List Kept) → is_leaving (kept_of devs d).row.state ≡ false → FreesOn s t devs next d e → IsSpace whole t next
  freed_space t next stays f = turned_space whole s t devs next split d e false space stays (freed_turns t next f)

  pub freed_frees : (t : Slabs) (next : List Kept) → is_leaving (kept_of devs d).row.state ≡ false → FreesOn s t devs next d e → FreesVisit false (space_of whole devs) (space_of whole next) (Piece split d e)
  freed_frees t next stays f = turned_frees whole s t devs next split d e false space stays (freed_turns t next f)

  pub kept_space : (t : Slabs) (next : List Kept) → is_leaving (kept_of devs d).row.state ≡ false → KeepsOn s t devs next d e → IsSpace whole t next
  kept_space t next stays f = turned_space whole s t devs next split d e true space stays (kept_turns t next f)

  pub kept_frees : (t : Slabs) (next : List Kept) → is_leaving (kept_of devs d).row.state ≡ false → KeepsOn s t devs next d e → FreesVisit true (space_of whole devs) (space_of whole next) (Piece split d e)
  kept_frees t next stays f = turned_frees whole s t devs next split d e true space stays (kept_turns t next f)

  -- the units of it end within a device
  pub piece_range : 0 < e.len → e.start + e.len ≤ 2 ^ 62
  piece_range some =
      let last : in_extent e (e.start + (e.len - 1)) ≡ true = grind (arith, nat_tests, some) in
      let lt = held_in (free_at s d) (count_at s d) (kept_of devs d).uses (space.account d) (e.start + (e.len - 1)) (held (e.start + (e.len - 1)) last) in
      let small = (space.account d).small in
      omega (arith, lt, small, some)
