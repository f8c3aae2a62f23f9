-- The root that a checkpoint saved, beside the current one.
use Rattle.std.proofs.Common.{◌≡◌, inl, inr, ℕ, ◌<◌, Bool, true, false, List, [], Option, Some, None, refl, sym, ◌∙◌, ap, subst, arith}
use Rattle.std.specs.Prelude.{IfSome, if◌then◌else◌, is_some, slice_index}
use Rattle.std.proofs.lemmas.Bool.Decides.{nat_tests}
use Rattle.std.proofs.lemmas.Bool.{cases_lt}
use Rattle.zr_base.specs.declared.space.DevRow.{DevRow}
use Rattle.zr_image.specs.Current.{row_at}
use Rattle.zr_image.specs.Roots.{IsRowStill}
use Rattle.zr_label.specs.Blocks.{IsUber}
use Rattle.zr_label.specs.Geometry.{units_of_size}
use Rattle.zr_label.specs.declared.root.Uber.{Uber}
use Rattle.zr_rules.specs.Places.{is_gone}
use Rattle.zr_view.specs.Views.{slot_of}
use Rattle.zr_view.specs.Runs.{HasDisk}
use Rattle.zr_image.specs.Reading.{bare_devices, store_of}
use Rattle.zr_image.specs.Roots.{head_tree, rows_of}
use Rattle.zr_base.specs.declared.space.Dva.{Dva}
use Rattle.zr_image.specs.StateOf.{AreObjects}
use Rattle.zr_import.specs.declared.roots.Root.{Root}
use Rattle.zr_meta.specs.Heads.{IsHead, head_bytes}
use Rattle.zr_meta.specs.declared.Head.{Head}
use Rattle.zr_root.specs.Streams.{HasBytes}
use Rattle.zr_rules.specs.Devices.{devices_of}
use Rattle.zr_store.specs.Store.{Stored}
use Rattle.zr_current.specs.Current.{HasSlots}
use Rattle.zr_roots.specs.Devices.{HasItsDisks, HasRows, IsCut, is_there}
use Rattle.zr_open.specs.Opened.{IsHeadOn}
use Rattle.zr_roots.specs.Standing.{Stands, blocks_of}
use Rattle.zr_open.specs.Roots.{HasSaved, IsBeside, IsLawfulSaved, IsSavedRoot, meta_of}
use Rattle.zr_open.specs.declared.saved.SavedRoot.{SavedRoot}
use Rattle.zr_roots.proofs.Alike.{store_cut}
use Rattle.zr_roots.proofs.Rows.{past_rows, some_row}
use Rattle.zr_open.proofs.Views.{stands_by, stands_same, store_same}

-- ---- the devices of a saved root that are there are devices of the current one

cut_slot : (u : Uber) (slots cut : List (Option ℕ)) → IsCut u slots cut → (d slot : ℕ) → slot_of cut d ≡ Some slot → (is_there u d ≡ true) × (slot_of slots d ≡ Some slot)
cut_slot u slots cut own d slot at = by_test (is_there u d) refl (sym (own d) ∙ at)
  where
    by_test : (b : Bool) → is_there u d ≡ b → (if b then slot_of slots d else None) ≡ Some slot → (is_there u d ≡ true) × (slot_of slots d ≡ Some slot)
    by_test true is e = (is, e)
    by_test false is e = absurd cc

pub cut_there : (u : Uber) (slots cut : List (Option ℕ)) → IsCut u slots cut → (d : ℕ) → d < u.count → is_gone (row_at u d).state ≡ false → slot_of cut d ≡ slot_of slots d
cut_there u slots cut own d lt there = let yes : is_there u d ≡ true = grind (arith, nat_tests, lt, there) in own d ∙ ap (λ (b : Bool). if b then slot_of slots d else None) yes

module _ (u saved : Uber) (is : IsUber u) (saved_is : IsUber saved) (still : (d : ℕ) → d < saved.count → IsRowStill (row_at saved d) (row_at u d)) where
  pub same_row : (d : ℕ) → d < saved.count → is_gone (row_at saved d).state ≡ false → row_at u d ≡ row_at saved d
  same_row d lt there = (still d lt there).1

  pub within : (d : ℕ) → d < saved.count → is_gone (row_at saved d).state ≡ false → d < u.count
  within d lt there = elim (cases_lt d u.count) [
    | inl less ↦ less
    | inr more ↦
        let none = ap (λ (r : DevRow). r.added) (sym (same_row d lt there) ∙ past_rows u is d more) in
        let some = some_row saved saved_is d lt in
        absurd (omega (arith, none, some))
  ]

  pub saved_disks : (sizes : List ℕ) (slots cut : List (Option ℕ)) → IsCut saved slots cut → HasItsDisks sizes slots u → HasItsDisks sizes cut saved
  saved_disks sizes slots cut own h = record {
    disks = λ d lt there.
        let has : HasDisk sizes slots d (row_at u d).units = h.disks d (within d lt there) (subst (λ (r : DevRow). is_gone r.state ≡ false) (sym (same_row d lt there)) there) in
        let mine : HasDisk sizes slots d (row_at saved d).units = subst (λ (r : DevRow). HasDisk sizes slots d r.units) (same_row d lt there) has in
        record { slot = mine.slot; is = cut_there saved slots cut own d lt there ∙ mine.is; exists = mine.exists; fits = mine.fits };
    apart = λ d e slot one other. h.apart d e slot (cut_slot saved slots cut own d slot one).1 (cut_slot saved slots cut own e slot other).1;
    sized = λ d slot lt at.
        let both = cut_slot saved slots cut own d slot at in
        let yes = both.0 in
        let there : is_gone (row_at saved d).state ≡ false = grind (arith, nat_tests, yes) in
        subst (λ (r : DevRow). units_of_size (slice_index sizes slot) 2 ≡ Some r.units) (same_row d lt there) (h.sized d slot (within d lt there) both.1);
  }

-- the blocks of a root read by the slots of its own devices as by all
pub cut_blocks : (disks : List (List ℕ)) (slots cut : List (Option ℕ)) (u : Uber) (r : Root) → HasRows u r.parts.devs → IsCut u slots cut → blocks_of disks cut r ≡ blocks_of disks slots r
cut_blocks disks slots cut u r rows own =
    store_cut disks cut slots (devices_of r.parts.devs) (λ d lt there.
    let inside : d < u.count = (let n = rows.count in omega (arith, n, lt)) in
    cut_there u slots cut own d inside (subst (λ (x : DevRow). is_gone x.state ≡ false) (rows.each d inside) there))

-- what stands by the slots of its own devices alone stands by all
pub cut_stands : (disks : List (List ℕ)) (slots cut : List (Option ℕ)) (u : Uber) (r : Root) → HasRows u r.parts.devs → IsCut u slots cut → Stands disks cut u r → Stands disks slots u r
cut_stands disks slots cut u r rows own has =
    stands_by disks cut slots u r (store_cut disks cut slots (bare_devices u) (cut_there u slots cut own)) (cut_blocks disks slots cut u r rows own) has

-- ---- what is beside a root, by the same slots and disks

module _ (t1 t2 : Type 0) (disks1 disks2 : List (List ℕ)) (these slots : List (Option ℕ)) (later : t2 → t1) (same_disks : t2 → disks1 ≡ disks2) (same : HasSlots these slots) where
  pub head_moved : (u : Uber) (h : Head) → (t1 → IsHeadOn disks1 slots u h) → t2 → IsHeadOn disks2 these u h
  head_moved u h at t =
      let one = subst (λ (ds : List (List ℕ)). IsHeadOn ds slots u h) (same_disks t) (at (later t)) in
      record { lawful = one.lawful; stands = subst (λ (s : Stored). HasBytes s (head_tree u) (head_bytes h)) (store_same disks2 these slots (bare_devices u) same) one.stands }

  pub saved_moved : (u : Uber) (r : Root) (block : List ℕ) (s : SavedRoot) → IsSavedRoot t1 disks1 slots u r block s → IsSavedRoot t2 disks2 these u r block s
  saved_moved u r block s h = record {
    is_saved = h.is_saved;
    head = h.head;
    mapped = h.mapped;
    stands = λ t. stands_same disks2 these slots s.uber s.root same (subst (λ (ds : List (List ℕ)). Stands ds slots s.uber s.root) (same_disks t) (h.stands (later t)));
    objects = λ t.
        let own = h.objects (later t) in (
          own.0,
          subst (λ (x : Stored). AreObjects x s.root.head.dir own.0) (store_same disks2 these slots (devices_of s.root.parts.devs) same)
              (subst (λ (ds : List (List ℕ)). AreObjects (store_of (record { disks = ds; slots = slots; devices = devices_of s.root.parts.devs })) s.root.head.dir own.0) (same_disks t) own.1),
        );
    space = h.space;
    clear = h.clear;
    fits = h.fits;
  }

  pub beside_moved : (u : Uber) (r : Root) (saved : Option SavedRoot) → IsBeside t1 disks1 slots u r saved → IsBeside t2 disks2 these u r saved
  beside_moved u r None none = none
  beside_moved u r (Some s) (block, is, h) = (block, is, saved_moved u r block s h)

-- there is a block where there is saved metadata
pub has_block : (tells : Type 0) (disks : List (List ℕ)) (slots : List (Option ℕ)) (u : Uber) (r : Root) (saved : Option SavedRoot) (meta : List Dva) → meta ≡ meta_of saved → (meta ≡ [] → ⊥) → IsBeside tells disks slots u r saved → (block : List ℕ) × (r.head.saved ≡ Some block)
has_block tells disks slots u r None meta is some none = absurd (some is)
has_block tells disks slots u r (Some s) meta is some (block, has, h) = (block, has)

-- and none where nothing is saved
pub no_block : (tells : Type 0) (disks : List (List ℕ)) (slots : List (Option ℕ)) (u : Uber) (r : Root) (saved : Option SavedRoot) → ((s : SavedRoot) → saved ≡ Some s → ⊥) → IsBeside tells disks slots u r saved → r.head.saved ≡ None
no_block tells disks slots u r None other none = none
no_block tells disks slots u r (Some s) other found = absurd (other s refl)

-- the head of a root stands there by the same slots
pub head_at : (tells : Type 0) (disks : List (List ℕ)) (these slots : List (Option ℕ)) (u : Uber) (r : Root) → HasSlots these slots → IsHead (rows_of u) r.head → (tells → Stands disks slots u r) → tells → IsHeadOn disks these u r.head
head_at tells disks these slots u r same lawful at t = record { lawful = lawful; stands = (stands_same disks these slots u r same (at t)).reads.head }

-- ---- what is kept of it

-- it is there exactly where there is a block of it
pub has_saved : (tells : Type 0) (disks : List (List ℕ)) (slots : List (Option ℕ)) (u : Uber) (r : Root) (saved : Option SavedRoot) → IsBeside tells disks slots u r saved → HasSaved r.head.saved saved
has_saved tells disks slots u r None none = ap (λ (o : Option (List ℕ)). is_some o) none
has_saved tells disks slots u r (Some s) (block, is, h) = ap (λ (o : Option (List ℕ)). is_some o) is

pub lawful_saved : (tells : Type 0) (disks : List (List ℕ)) (slots : List (Option ℕ)) (u : Uber) (r : Root) (saved : Option SavedRoot) → IsBeside tells disks slots u r saved → IfSome saved IsLawfulSaved
lawful_saved tells disks slots u r None none = tt
lawful_saved tells disks slots u r (Some s) (block, is, h) = record { uber = h.is_saved.spelled.lawful; head = h.head }

pub head_on : (tells : Type 0) (disks : List (List ℕ)) (slots : List (Option ℕ)) (u : Uber) (r : Root) → IsHead (rows_of u) r.head → (tells → Stands disks slots u r) → tells → IsHeadOn disks slots u r.head
head_on tells disks slots u r lawful at t = record { lawful = lawful; stands = (at t).reads.head }
