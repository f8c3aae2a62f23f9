-- Slots that are prepared one after another, and what the labels say then.
use Rattle.std.proofs.Common.{◌≡◌, ◌≢◌, inl, inr, ◌⊎◌, ℕ, ◌+◌, ◌<◌, ◌≤◌, Bool, true, false, cond, nat_lt, List, [], length, Option, None, Some, refl, sym, ◌∙◌, ap, arith}
use Rattle.std.specs.Prelude.{slice_index, slice_index_or, slice_set, if◌then◌else◌}
use Rattle.std.specs.List.{position, position_or_len}
use Rattle.std.proofs.lemmas.Bool.{cases_eq, cases_lt}
use Rattle.std.proofs.lemmas.Bool.Decides.{nat_tests}
use Rattle.std.proofs.lemmas.List.{get_or-set_same, get_or-set_other, get_or_default, set-get_or}
use Rattle.zr_base.specs.declared.space.DevRow.{DevRow}
use Rattle.zr_image.specs.Current.{is_device, row_at, seen_at}
use Rattle.zr_label.specs.Blocks.{no_row}
use Rattle.zr_label.specs.declared.root.Label.{Label}
use Rattle.zr_label.specs.declared.root.Name.{Name}
use Rattle.zr_label.specs.declared.root.Seen.{Seen}
use Rattle.zr_label.specs.declared.root.Uber.{Uber}
use Rattle.zr_newest.proofs.Prepared.{first_own, labels_with, other_label, own_label, root_before, with_label}
use Rattle.zr_newest.proofs.Seen.{listed, past_device}
use Rattle.zr_newest.specs.Newest.{AreAt, HaveLabels, PreparesSlot}
use Rattle.zr_current.proofs.Published.{has_or}
use Rattle.zr_rules.specs.Places.{is_gone}
use Rattle.zr_sync.specs.declared.open.OpenPool.{OpenPool}
use Rattle.zr_sync.specs.declared.open.Table.{Table}
use Rattle.zr_view.specs.Views.{slot_of}
use Rattle.zr_create.specs.Devices.{HasDevicesIn, TakesOn, new_row, next_label}
use Rattle.zr_create.specs.Labelled.{AreLabelled, LabelsSlots, device_label}
use Rattle.zr_create.specs.Names.{AreApart}

-- ---- one slot more

pub none_labelled : (disks : List (List ℕ)) (named : List ℕ) (pool : OpenPool) → LabelsSlots disks disks named 0 pool
none_labelled disks named pool = record { roots = λ slot v is. is; labels = λ seen h. (seen, h, record { own = λ k lt. absurd (omega (arith, lt)); others = λ slot none. refl }) }

abbrev label_of : ℕ → ℕ → Name → DevRow → Label
label_of guid index name row = record { guid = guid; index = index; added = row.added; units = row.units; name = name }

abbrev bare : Seen
bare = record { label = None; ubers = []; newer = None }

module _ (before mid after : List (List ℕ)) (named : List ℕ) (i slot units : ℕ) (y z : OpenPool) (apart : AreApart named) (inside : i < length named) (named_is : slice_index named i ≡ slot) (count : y.table.count ≡ i) (room : y.table.count < length y.table.rows) (took : TakesOn slot units y z)
    (prepares : PreparesSlot mid after slot (next_label y units)) (h : LabelsSlots before mid named i y) where
  row_new : slice_index_or z.table.rows i no_row ≡ new_row units y.group.txg
  row_new =
      ap (λ (t : Table). slice_index_or t.rows i no_row) took.table
      ∙ (ap (λ (n : ℕ). slice_index_or (slice_set y.table.rows n (new_row units y.group.txg)) i no_row) count ∙ get_or-set_same y.table.rows i (new_row units y.group.txg) no_row (omega (arith, room, count)))

  row_old : (k : ℕ) → k < i → slice_index_or z.table.rows k no_row ≡ slice_index_or y.table.rows k no_row
  row_old k lt = ap (λ (t : Table). slice_index_or t.rows k no_row) took.table ∙ get_or-set_other y.table.rows y.table.count k (new_row units y.group.txg) no_row (λ e. omega (arith, e, lt, count))

  identity : (k : ℕ) (row : DevRow) → label_of z.guid k z.name row ≡ label_of y.guid k y.name row
  identity k row = ap (λ (g : ℕ). label_of g k z.name row) took.guid ∙ ap (λ (n : Name). label_of y.guid k n row) took.name

  label_new : device_label z i ≡ next_label y units
  label_new = ap (λ (r : DevRow). label_of z.guid i z.name r) row_new ∙ (identity i (new_row units y.group.txg) ∙ ap (λ (n : ℕ). label_of y.guid n y.name (new_row units y.group.txg)) (sym count))

  label_old : (k : ℕ) → k < i → device_label z k ≡ device_label y k
  label_old k lt = ap (λ (r : DevRow). label_of z.guid k z.name r) (row_old k lt) ∙ identity k (slice_index_or y.table.rows k no_row)

  module _ (seen behind : List Seen) (labels : HaveLabels mid behind) (are : AreLabelled seen behind named i y) where
    own_more : (k : ℕ) → k < i + 1 → (seen_at (with_label behind slot (next_label y units)) (slice_index named k)).label ≡ Some (device_label z k)
    own_more k lt = elim (cases_eq k i) [
      | inl same ↦
          let at : slice_index named k ≡ slot = ap (λ (n : ℕ). slice_index named n) same ∙ named_is in
          let known : slot < length behind = let some = prepares.known in let n = labels.count in omega (arith, some, n) in
          ap (λ (s : ℕ). (seen_at (with_label behind slot (next_label y units)) s).label) at
          ∙ (ap (λ (s : Seen). s.label) (get_or-set_same behind slot (record { label = Some (next_label y units); ubers = []; newer = None }) bare known)
          ∙ (ap (λ (l : Label). Some l) (sym label_new) ∙ ap (λ (n : ℕ). Some (device_label z n)) (sym same)))
      | inr other ↦
          let low : k < i = omega (arith, lt, other) in
          ap (λ (s : Seen). s.label) (get_or-set_other behind slot (slice_index named k) (record { label = Some (next_label y units); ubers = []; newer = None }) bare (λ e. other (apart k i (omega (arith, low, inside)) inside (e ∙ sym named_is))))
          ∙ (are.own k low ∙ ap (λ (l : Label). Some l) (sym (label_old k low)))
    ]

    others_more : (other : ℕ) → ((k : ℕ) → k < i + 1 → slice_index named k ≢ other) → (seen_at (with_label behind slot (next_label y units)) other).label ≡ (seen_at seen other).label
    others_more other none =
        ap (λ (s : Seen). s.label) (get_or-set_other behind slot other (record { label = Some (next_label y units); ubers = []; newer = None }) bare (λ e. none i (omega arith) (named_is ∙ sym e)))
        ∙ are.others other (λ k lt. none k (omega (arith, lt)))

  pub more_labelled : LabelsSlots before after named (i + 1) z
  more_labelled = record {
    roots = λ other v is. h.roots other v (root_before mid after slot (next_label y units) prepares other v is);
    labels = λ seen have.
        let was = h.labels seen have in (
          with_label was.0 slot (next_label y units),
          labels_with mid after slot (next_label y units) prepares was.0 was.1,
          record { own = own_more seen was.0 was.1 was.2; others = others_more seen was.0 was.1 was.2 },
        );
  }

-- ---- where the devices are then

-- the first that passes is the only one
only_place : (q : Seen → Bool) (xs : List Seen) (k : ℕ) → k < length xs → q (seen_at xs k) ≡ true → ((j : ℕ) → j ≢ k → j < length xs → q (seen_at xs j) ≡ false) → position q xs ≡ Some k
only_place q xs k lt passes others =
    let same = set-get_or xs k bare in
    let first : position_or_len q xs ≡ k = sym (ap (λ (ys : List Seen). position_or_len q ys) same) ∙ first_own q xs k (seen_at xs k) passes lt others in
    ap (λ (n : ℕ). cond (nat_lt n (length xs)) (Some n) None) first ∙ place_is k (length xs) lt
  where
    place_is : (n m : ℕ) → n < m → cond (nat_lt n m) (Some n) None ≡ Some n
    place_is n m less = grind (arith, nat_tests, less)

-- a slot is named, or it is not
named_or_not : (named : List ℕ) (slot : ℕ) → ((k : ℕ) × (k < length named) × (slice_index named k ≡ slot)) ⊎ ((k : ℕ) → k < length named → slice_index named k ≢ slot)
named_or_not named slot = elim (has_or named slot) [
  | inl has ↦ inl (has.0, has.1, sym (get_or_default named has.0 slot 0 has.1) ∙ has.2)
  | inr none ↦ inr (λ k lt same. none (k, lt, get_or_default named k slot 0 lt ∙ same))
]

module _ (sizes : List ℕ) (txg : ℕ) (named : List ℕ) (x : OpenPool) (disks : List (List ℕ)) (seen behind : List Seen) (labels : HaveLabels disks behind) (inside : (k : ℕ) → k < length named → slice_index named k < length disks) (devices : HasDevicesIn sizes txg named x)
    (only : (d : ℕ) → length named ≤ d → slot_of x.table.slots d ≡ None) (are : AreLabelled seen behind named (length named) x)
    (foreign : (slot : ℕ) (l : Label) → ((k : ℕ) → k < length named → slice_index named k ≢ slot) → (seen_at seen slot).label ≡ Some l → l.guid ≢ x.guid) (u : Uber) (guid : u.guid ≡ x.guid) (count : u.count ≡ x.table.count) (rows : u.rows ≡ x.table.rows) where
  row_is : (d : ℕ) → row_at u d ≡ slice_index_or x.table.rows d no_row
  row_is d = ap (λ (rs : List DevRow). slice_index_or rs d no_row) rows

  named_so : (d : ℕ) → is_device u d (Some (device_label x d)) ≡ true
  named_so d = own_label d (device_label x d) u (slice_index_or x.table.rows d no_row) (row_is d) (sym guid) refl refl refl

  not_foreign : (d slot : ℕ) → ((k : ℕ) → k < length named → slice_index named k ≢ slot) → (o : Option Label) → (seen_at seen slot).label ≡ o → is_device u d o ≡ false
  not_foreign d slot none None is = refl
  not_foreign d slot none (Some l) is = other_label d l u (λ same at since. foreign slot l none is (same ∙ guid))

  no_other : (d : ℕ) → d < length named → (slot : ℕ) → slot ≢ slice_index named d → slot < length behind → is_device u d (seen_at behind slot).label ≡ false
  no_other d lt slot differ known = elim (named_or_not named slot) [
    | inl at ↦
        let own : (seen_at behind slot).label ≡ Some (device_label x at.0) = ap (λ (s : ℕ). (seen_at behind s).label) (sym at.2) ∙ are.own at.0 at.1 in
        ap (is_device u d) own ∙ other_label d (device_label x at.0) u (λ same index since. differ (sym at.2 ∙ ap (λ (n : ℕ). slice_index named n) index))
    | inr none ↦ ap (is_device u d) (are.others slot none) ∙ not_foreign d slot none (seen_at seen slot).label refl
  ]

  place : (d : ℕ) → d < length named → position (λ (s : Seen). is_device u d s.label) behind ≡ Some (slice_index named d)
  place d lt =
      only_place (λ (s : Seen). is_device u d s.label) behind (slice_index named d) (let n = labels.count in let some = inside d lt in omega (arith, n, some)) (ap (is_device u d) (are.own d lt) ∙ named_so d) (λ slot differ known. no_other d lt slot differ known)

  pub devices_labelled : AreAt x.table.slots u behind
  devices_labelled d = elim (cases_lt d u.count) [
    | inl lt ↦
        let n = devices.count in
        let low : d < length named = omega (arith, lt, count, n) in
        let own = devices.each d low in
        let there = ap (λ (r : DevRow). is_gone r.state) (row_is d ∙ own.row_is) in
        own.slot_is ∙ (sym (ap (λ (b : Bool). if b then None else position (λ (s : Seen). is_device u d s.label) behind) there ∙ place d low) ∙ sym (listed u behind d lt))
    | inr ge ↦ let n = devices.count in only d (omega (arith, ge, count, n)) ∙ sym (past_device u behind d ge)
  ]
