-- The slots of a root's devices.
use Rattle.std.proofs.Common.{◌≡◌, inl, inr, ◌⊎◌, ℕ, zero, suc, ◌+◌, ◌-◌, ◌/◌, ◌<◌, ◌≤◌, List, [], length, get_or, take, Bool, true, false, not, cond, Option, Some, None, Result, Ok, Err, refl, sym, ◌∙◌, ap, subst, arith}
use Rattle.std.specs.Prelude.{IsErrOf, ◌==◌, ◌&&◌, is_some, IfSome, slice_index, slice_index_or, if◌then◌else◌}
use Rattle.std.specs.List.{find, position, range_with_len}
use Rattle.std.proofs.lemmas.Bool.{cases_eq, cases_lt, eqb-true}
use Rattle.std.proofs.lemmas.Bool.Decides.{nat_tests}
use Rattle.std.proofs.lemmas.List.{get_or-take}
use Rattle.std.proofs.lemmas.List.FromFn.{length-map-range_with_len, get_or-map-range_with_len}
use Rattle.std.proofs.lemmas.List.Quantifiers.{position-Some}
use Rattle.std.proofs.Math.ListN.{get_or-eq_default}
use Rattle.zr_base.specs.declared.refusal.Refusal.{Refusal}
use Rattle.zr_label.specs.Geometry.{is_disk_size, units_of_size, unit_at, whole}
use Rattle.zr_label.specs.declared.root.Label.{Label}
use Rattle.zr_label.specs.declared.root.Seen.{Seen}
use Rattle.zr_label.specs.declared.root.Uber.{Uber}
use Rattle.zr_rules.specs.Places.{is_gone}
use Rattle.zr_scan.specs.Scan.{IsOwnLabel, IsSmallAndLawful}
use Rattle.zr_image.specs.Current.{FindsCurrent, row_at, is_device, slot_of_device, slots_of, is_missing, missing_device, seen_at}
use Rattle.zr_view.specs.Views.{slot_of}
use Rattle.zr_sync.specs.declared.fault.Fault.{Fault}
use Rattle.zr_sync.specs.declared.fault.Fault.TheVariants.{No}
use Rattle.zr_current.specs.Current.{HasSlots}
use Rattle.zr_roots.specs.Devices.{HasItsDisks}

true_or_false : (b : Bool) → (b ≡ true) ⊎ (b ≡ false)
true_or_false true = inl refl
true_or_false false = inr refl

-- the refusal that is answered is the one that is told
pub same_refusal : {T : Type 0} (result : Result T Fault) (told r : Refusal) → result ≡ Err (No told) → IsErrOf result (No r) → told ≡ r
same_refusal {T} result told r e is =
    let both : Err (No told) ≡ Err (No r) = sym e ∙ is in
    cc

-- ---- no device is missing

pub none_missing : (seen : List Seen) (u : Uber) → FindsCurrent seen (Ok u) → (d : ℕ) → missing_device u seen ≡ Some d → ⊥
none_missing seen u (inl (k, known, inl (v, current, inl (one, o, inl (there, h, gives))))) d is =
    let same : u ≡ v = cc in
    h d (subst (λ (w : Uber). missing_device w seen ≡ Some d) same is)
none_missing seen u (inl (k, known, inl (v, current, inl (one, o, inr (r, h, is))))) d missing = absurd cc
none_missing seen u (inl (k, known, inl (v, current, inr (r, h, is)))) d missing = absurd cc
none_missing seen u (inl (k, known, inr (r, h, is))) d missing = absurd cc
none_missing seen u (inr (r, h, is)) d missing = absurd cc

none_below : (p : ℕ → Bool) (a n d : ℕ) → ((i : ℕ) → find p (range_with_len a n) ≡ Some i → ⊥) → a ≤ d → d < a + n → p d ≡ false
none_below p a zero d h lo hi = absurd (omega arith)
none_below p a (suc n) d h lo hi = elim (true_or_false (p a)) [
  | inl hit ↦ absurd (h a (ap (λ (b : Bool). cond b (Some a) (find p (range_with_len (a + 1) n))) hit))
  | inr miss ↦ elim (cases_eq d a) [
    | inl same ↦ subst (λ (k : ℕ). p k ≡ false) (sym same) miss
    | inr other ↦ none_below p (a + 1) n d (λ i found. h i (ap (λ (b : Bool). cond b (Some a) (find p (range_with_len (a + 1) n))) miss ∙ found)) (omega arith) (omega arith)
  ]
]

some_slot : (gone : Bool) (o : Option ℕ) → gone ≡ false → (not gone && not (is_some o)) ≡ false → (slot : ℕ) × (o ≡ Some slot)
some_slot true o there h = absurd cc
some_slot false None there h = absurd cc
some_slot false (Some slot) there h = (slot, refl)

-- ---- the slot of a device

abbrev nothing : Seen
nothing = record { label = None; ubers = []; newer = None }

-- the slot shows the label of the device
pub record IsThere (u : Uber) (seen : List Seen) (d slot : ℕ) : Type 0 where
  pub in_list : slot < length seen
  pub label : Label
  pub label_is : (seen_at seen slot).label ≡ Some label
  pub index : label.index ≡ d
  pub units : label.units ≡ (row_at u d).units

and_parts : (a b : Bool) → (a && b) ≡ true → (a ≡ true) × (b ≡ true)
and_parts true b h = (refl, h)
and_parts false b h = absurd cc

label_of : (u : Uber) (d : ℕ) (o : Option Label) → is_device u d o ≡ true → (l : Label) × (o ≡ Some l) × (l.index ≡ d) × (l.units ≡ (row_at u d).units)
label_of u d None h = absurd cc
label_of u d (Some l) h =
    let guid = and_parts (l.guid == u.guid) _ h in
    let index = and_parts (l.index == d) _ guid.1 in
    let added = and_parts (l.added == (row_at u d).added) _ index.1 in
    (l, refl, eqb-true l.index d index.0, eqb-true l.units (row_at u d).units added.1)

there_is : (u : Uber) (seen : List Seen) (d slot : ℕ) → slot_of_device u seen d ≡ Some slot → IsThere u seen d slot
there_is u seen d slot is = go (is_gone (row_at u d).state) is
  where
    go : (gone : Bool) → (if gone then None else position (λ (s : Seen). is_device u d s.label) seen) ≡ Some slot → IsThere u seen d slot
    go true h = absurd cc
    go false h =
        let at = position-Some (λ (s : Seen). is_device u d s.label) seen slot nothing h in
        let l = label_of u d (seen_at seen slot).label at.1 in
        record { in_list = at.0; label = l.0; label_is = l.1; index = l.2; units = l.3 }

-- ---- the disk of a slot

size_fits : (size units : ℕ) → units_of_size size 2 ≡ Some units → unit_at units ≤ size
size_fits size units is = go (is_disk_size 2 size) refl is
  where
    go : (b : Bool) → is_disk_size 2 size ≡ b → (if b then Some ((whole size - 4718592) / 4096) else None) ≡ Some units → unit_at units ≤ size
    go true used e =
        let n : (whole size - 4718592) / 4096 ≡ units = cc in
        grind (arith, nat_tests, used, n)
    go false used e = absurd cc

abbrev some_units : ℕ → Option ℕ
some_units n = Some n

abbrev AreOwn : List ℕ → List Seen → Type 0
AreOwn sizes seen = (slot : ℕ) → slot < length seen → IsSmallAndLawful (slice_index sizes slot) (seen_at seen slot)

module _ (sizes : List ℕ) (seen : List Seen) (u : Uber) (count : length seen ≡ length sizes) (own : AreOwn sizes seen) where
  own_label : (d slot : ℕ) → (at : IsThere u seen d slot) → IsOwnLabel (slice_index sizes slot) at.label
  own_label d slot at = subst (λ (o : Option Label). IfSome o (IsOwnLabel (slice_index sizes slot))) at.label_is (own slot at.in_list).label

  module _ (slots : List (Option ℕ)) (front : take u.count slots ≡ slots_of u seen) (rest : (d : ℕ) → u.count ≤ d → slice_index_or slots d None ≡ None) where
    slot_in : (d : ℕ) → d < u.count → slot_of slots d ≡ slot_of_device u seen d
    slot_in d lt = sym (get_or-take u.count slots d None lt) ∙ (ap (λ (l : List (Option ℕ)). get_or l d None) front ∙ get_or-map-range_with_len (slot_of_device u seen) 0 u.count d d None lt (omega arith))

    in_pool : (d slot : ℕ) → slot_of slots d ≡ Some slot → IsThere u seen d slot
    in_pool d slot is = elim (cases_lt d u.count) [
      | inl lt ↦ there_is u seen d slot (sym (slot_in d lt) ∙ is)
      | inr ge ↦ let none = rest d ge in absurd (let both : None ≡ Some slot = sym none ∙ is in cc)
    ]

    pub same_slots : HasSlots (slots_of u seen) slots
    same_slots d = elim (cases_lt d u.count) [
      | inl lt ↦ sym (get_or-take u.count slots d None lt) ∙ ap (λ (l : List (Option ℕ)). get_or l d None) front
      | inr ge ↦
          let long = length-map-range_with_len (slot_of_device u seen) 0 u.count in
          rest d ge ∙ sym (get_or-eq_default (slots_of u seen) None {n = d} (omega (arith, long, ge)))
    ]

    pub has_disks : FindsCurrent seen (Ok u) → HasItsDisks sizes slots u
    has_disks found = record {
      disks = λ d lt there.
          let here = none_below (is_missing u seen) 0 u.count d (none_missing seen u found) (omega arith) (omega arith) in
          let some = some_slot (is_gone (row_at u d).state) (slot_of_device u seen d) there here in
          let at = there_is u seen d some.0 some.1 in
          let fits = size_fits (slice_index sizes some.0) at.label.units (own_label d some.0 at).units in
          record {
            slot = some.0;
            is = slot_in d lt ∙ some.1;
            exists = let i = at.in_list in omega (arith, i, count);
            fits = let same = at.units in omega (arith, fits, same);
          };
      apart = λ d e slot at_d at_e.
          let one = in_pool d slot at_d in
          let other = in_pool e slot at_e in
          let both : Some one.label ≡ Some other.label = sym one.label_is ∙ other.label_is in
          let same : one.label ≡ other.label = cc in
          sym one.index ∙ (ap (λ (l : Label). l.index) same ∙ other.index);
      sized = λ d slot lt is.
          let at = in_pool d slot is in
          (own_label d slot at).units ∙ ap (λ (n : ℕ). some_units n) at.units;
    }
