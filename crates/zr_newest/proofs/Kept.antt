-- Roots on disks whose labels stay.
use Rattle.std.proofs.Common.{◌≡◌, ◌⊎◌, inl, inr, ℕ, ◌<◌, ◌≤◌, List, length, Option, Some, None, refl, sym, ◌∙◌, ap, subst, arith, ⊎_elim}
use Rattle.zr_image.specs.Current.{seen_at}
use Rattle.zr_label.proofs.Ubers.{one_uber}
use Rattle.zr_label.specs.Blocks.{IsUber, SpellsUber, uber_block}
use Rattle.zr_label.specs.Geometry.{slot_of as ring_of}
use Rattle.zr_label.specs.declared.root.Label.{Label}
use Rattle.zr_label.specs.declared.root.Seen.{Seen}
use Rattle.zr_label.specs.declared.root.Uber.{Uber}
use Rattle.zr_scan.proofs.Gathering.{slot_small}
use Rattle.zr_scan.specs.Scan.{HasNoLabel, IsFirstLabel, IsLabelOf, ShowsLabel, Stands, block_of, ring_block}
use Rattle.zr_shelf.specs.Disks.{disk}
use Rattle.zr_newest.specs.Newest.{HaveLabels, KeepsLabels, KeepsRings, PutsRoot, ShowsRoot, StandsAtDevice}

-- ---- one disk

module _ (size : ℕ) (b a : List ℕ) (labels : (n : ℕ) → n < 4 → block_of size a n ≡ block_of size b n) where
  no_label : (n : ℕ) → n ≤ 4 → HasNoLabel size b n → HasNoLabel size a n
  no_label n few none k lt l is = none k lt l (subst (λ (block : List ℕ). IsLabelOf size block l) (labels k (omega (arith, lt, few))) is)

  first_still : (l : Label) → IsFirstLabel size b l → IsFirstLabel size a l
  first_still l first = record {
    label = first.label;
    four = first.four;
    here = subst (λ (block : List ℕ). IsLabelOf size block l) (sym (labels first.label first.four)) first.here;
    before = no_label first.label (let lt = first.four in omega (arith, lt)) first.before;
  }

  label_still : (o : Option Label) → ShowsLabel size b o → ShowsLabel size a o
  label_still None none = no_label 4 (omega arith) none
  label_still (Some l) first = first_still l first

-- ---- one slot

module _ (before after : List (List ℕ)) (slot : ℕ) (sizes : length (disk after slot) ≡ length (disk before slot)) (labels : (n : ℕ) → n < 4 → block_of (length (disk before slot)) (disk after slot) n ≡ block_of (length (disk before slot)) (disk before slot) n) where
  pub first_on : (l : Label) → IsFirstLabel (length (disk before slot)) (disk before slot) l → IsFirstLabel (length (disk after slot)) (disk after slot) l
  first_on l is = subst (λ (size : ℕ). IsFirstLabel size (disk after slot) l) (sym sizes) (first_still (length (disk before slot)) (disk before slot) (disk after slot) labels l is)

  pub first_back : (l : Label) → IsFirstLabel (length (disk after slot)) (disk after slot) l → IsFirstLabel (length (disk before slot)) (disk before slot) l
  first_back l is = first_still (length (disk before slot)) (disk after slot) (disk before slot) (λ n few. sym (labels n few)) l (subst (λ (size : ℕ). IsFirstLabel size (disk after slot) l) sizes is)

  pub label_on : (o : Option Label) → ShowsLabel (length (disk before slot)) (disk before slot) o → ShowsLabel (length (disk after slot)) (disk after slot) o
  label_on o is = subst (λ (size : ℕ). ShowsLabel size (disk after slot) o) (sym sizes) (label_still (length (disk before slot)) (disk before slot) (disk after slot) labels o is)

  -- a root that stands behind where its ring slot has the block of before stood there before
  pub root_was : length after ≡ length before → (u : Uber) (h : ShowsRoot after slot u)
      → ring_block (length (disk before slot)) (disk after slot) h.ring (ring_of u.txg) ≡ ring_block (length (disk before slot)) (disk before slot) h.ring (ring_of u.txg) → ShowsRoot before slot u
  root_was count u h same = record {
    known = (let lt = h.known in omega (arith, lt, count));
    label = h.label;
    first = first_back h.label h.first;
    suits = h.suits;
    ring = h.ring;
    four = h.four;
    stands = subst (λ (block : List ℕ). SpellsUber block u) same (subst (λ (size : ℕ). Stands size (disk after slot) h.ring u) sizes h.stands);
  }

-- a root stands still where its ring slot has the block of before
stands_on : (before after : List (List ℕ)) (slot n : ℕ) (u : Uber) → length (disk after slot) ≡ length (disk before slot)
    → ring_block (length (disk before slot)) (disk after slot) n (ring_of u.txg) ≡ ring_block (length (disk before slot)) (disk before slot) n (ring_of u.txg) → Stands (length (disk before slot)) (disk before slot) n u → Stands (length (disk after slot)) (disk after slot) n u
stands_on before after slot n u sizes same stands = subst (λ (size : ℕ). Stands size (disk after slot) n u) (sym sizes) (subst (λ (block : List ℕ). SpellsUber block u) (sym same) stands)

-- so does one that stands on its device
pub device_on : (before after : List (List ℕ)) (u : Uber) (slots : List (Option ℕ)) (h : StandsAtDevice before u slots) → length (disk after h.slot) ≡ length (disk before h.slot)
    → ring_block (length (disk before h.slot)) (disk after h.slot) h.ring (ring_of u.txg) ≡ ring_block (length (disk before h.slot)) (disk before h.slot) h.ring (ring_of u.txg) → StandsAtDevice after u slots
device_on before after u slots h sizes same = record { device = h.device; known = h.known; there = h.there; slot = h.slot; here = h.here; ring = h.ring; four = h.four; stands = stands_on before after h.slot h.ring u sizes same h.stands }

-- ---- all disks

pub labels_on : (before after : List (List ℕ)) → KeepsLabels before after → (seen : List Seen) → HaveLabels before seen → HaveLabels after seen
labels_on before after keeps seen h = record {
  count = h.count ∙ sym keeps.count;
  each = λ slot lt. label_on before after slot (keeps.sizes slot) (λ n few. keeps.labels slot n few) (seen_at seen slot).label (h.each slot (let c = keeps.count in omega (arith, lt, c)));
}

pub labels_more : (a b c : List (List ℕ)) → KeepsLabels a b → KeepsLabels b c → KeepsLabels a c
labels_more a b c h k = record {
  count = k.count ∙ h.count;
  sizes = λ slot. k.sizes slot ∙ h.sizes slot;
  labels = λ slot n few. subst (λ (size : ℕ). block_of size (disk c slot) n ≡ block_of size (disk b slot) n) (h.sizes slot) (k.labels slot n few) ∙ h.labels slot n few;
}

-- where rings stay too, a root that stands stood there
pub root_kept : (before after : List (List ℕ)) → KeepsRings before after → (slot : ℕ) (u : Uber) → ShowsRoot after slot u → ShowsRoot before slot u
root_kept before after keeps slot u h =
    root_was before after slot (keeps.labels.sizes slot) (λ n few. keeps.labels.labels slot n few) keeps.labels.count u h (keeps.rings slot h.ring (ring_of u.txg) h.four (slot_small u.txg))

pub device_kept : (before after : List (List ℕ)) → KeepsRings before after → (u : Uber) (slots : List (Option ℕ)) → StandsAtDevice before u slots → StandsAtDevice after u slots
device_kept before after keeps u slots h = device_on before after u slots h (keeps.labels.sizes h.slot) (keeps.rings h.slot h.ring (ring_of u.txg) h.four (slot_small u.txg))

-- a root that stands behind one that was put stood there before, or is that one
pub stood_or_put : (before after : List (List ℕ)) (next : Uber) → IsUber next → PutsRoot before after next → (slot : ℕ) (v : Uber) → ShowsRoot after slot v → ShowsRoot before slot v ⊎ (v ≡ next)
stood_or_put before after next lawful puts slot v h =
    ⊎_elim
    (λ same. inl (root_was before after slot (puts.labels.sizes slot) (λ n few. puts.labels.labels slot n few) puts.labels.count v h same))
    (λ put. inr (one_uber (uber_block next) v next
    (subst (λ (block : List ℕ). SpellsUber block v) put.1 (subst (λ (size : ℕ). Stands size (disk after slot) h.ring v) (puts.labels.sizes slot) h.stands))
    (record { lawful = lawful; spelling = refl })))
    (puts.rings slot h.ring (ring_of v.txg) h.four (slot_small v.txg))
