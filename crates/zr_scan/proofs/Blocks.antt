-- What a block is, told by its mark, its slot and its spelling.
use Rattle.std.proofs.Common.{◌≡◌, ◌≢◌, ◌↔◌, inl, inr, Some, ℕ, ◌+◌, ◌<◌, List, [], ◌∷◌, ◌++◌, take, drop, codes, Bool, false, refl, sym, ap, subst, ◌∙◌, arith, IsTrue}
use Rattle.std.proofs.lemmas.Bool.{cases_lt}
use Rattle.std.proofs.lemmas.List.{take-replicate}
use Rattle.zr_base.specs.Words.{words}
use Rattle.zr_bptr.specs.Fields.{word_at}
use Rattle.zr_bptr.proofs.Spelled.{word_back}
use Rattle.zr_label.specs.Blocks.{IsUber, SpellsLabel, SpellsUber, SpellsNewer, uber_block, summed, padding}
use Rattle.zr_label.specs.Geometry.{slot_of, units_of_size}
use Rattle.zr_label.specs.declared.root.Label.{Label}
use Rattle.zr_label.specs.declared.root.Uber.{Uber}
use Rattle.zr_label.specs.declared.root.Newer.{Newer}
use Rattle.zr_label.proofs.Ubers.{one_uber}
use Rattle.zr_label.proofs.Labels.{one_label}
use Rattle.zr_scan.specs.Scan.{IsRootFor, IsOwnLabel, IsLabelOf, HasNoLabel, IsFirstLabel, block_of}
use Rattle.zr_scan.specs.Rings.{IsRootAt, IsNewerAt, IsLabelWith}

block_marked : (u : Uber) → take 8 (uber_block u) ≡ codes "zr-uber1"
unfolding uber_block summed
block_marked u = refl

uber_marked : (block : List ℕ) (u : Uber) → SpellsUber block u → take 8 block ≡ codes "zr-uber1"
uber_marked block u h = ap (take 8) h.spelling ∙ block_marked u

newer_marked : (block : List ℕ) (guid version txg : ℕ) → SpellsNewer block guid version txg → take 8 block ≡ codes "zr-uber1"
newer_marked block guid version txg h = ap (take 8) h.spelling

abbrev begin : ℕ → ℕ → ℕ → List ℕ
begin version txg guid = codes "zr-uber1" ++ words (version ∷ txg ∷ guid ∷ [])

newer_txg : (block : List ℕ) (guid version txg : ℕ) → SpellsNewer block guid version txg → word_at block 16 ≡ txg
newer_txg block guid version txg h = ap (λ (t : List ℕ). word_at t 16) h.spelling ∙ word_back txg (drop 24 (begin version txg guid ++ h.rest)) h.txg_fits

newer_version : (block : List ℕ) (guid version txg : ℕ) → SpellsNewer block guid version txg → word_at block 8 ≡ version
newer_version block guid version txg h = ap (λ (t : List ℕ). word_at t 8) h.spelling ∙ word_back version (drop 16 (begin version txg guid ++ h.rest)) h.version_fits

pub one_version : (block : List ℕ) (guid v w t s : ℕ) → SpellsNewer block guid v t → SpellsNewer block guid w s → v ≡ w
one_version block guid v w t s h k = sym (newer_version block guid v t h) ∙ newer_version block guid w s k

block_version : (u : Uber) → IsUber u → word_at (uber_block u) 8 ≡ u.version
unfolding uber_block summed
block_version u h = let most = h.head.newest in word_back u.version (drop 16 (uber_block u)) (omega arith)

-- no block is a root of a known and of an unknown version
pub known_or_not : (block : List ℕ) (u : Uber) (guid version txg : ℕ) → SpellsUber block u → SpellsNewer block guid version txg → ⊥
known_or_not block u guid version txg h k =
    let same : u.version ≡ version = sym (ap (λ (b : List ℕ). word_at b 8) h.spelling ∙ block_version u h.lawful) ∙ newer_version block guid version txg k in
    let least = h.lawful.head.oldest in
    let most = h.lawful.head.newest in
    let one = k.unknown.0 in
    let two = k.unknown.1 in
    omega arith

zeros_unmarked : take 8 (padding 4096) ≡ codes "zr-uber1" → ⊥
unfolding padding
zeros_unmarked h = let zeros = take-replicate {X = ℕ} 8 4096 0 (omega arith) in cc

-- zeros are no root of any version
pub zeros_no_root : (u : Uber) → SpellsUber (padding 4096) u → ⊥
zeros_no_root u h = zeros_unmarked (uber_marked (padding 4096) u h)

pub zeros_no_newer : (guid version txg : ℕ) → SpellsNewer (padding 4096) guid version txg → ⊥
zeros_no_newer guid version txg h = zeros_unmarked (newer_marked (padding 4096) guid version txg h)

-- a block has one group
pub one_txg : (block : List ℕ) (guid v w t s : ℕ) → SpellsNewer block guid v t → SpellsNewer block guid w s → t ≡ s
one_txg block guid v w t s h k = sym (newer_txg block guid v t h) ∙ newer_txg block guid w s k

-- a block without the mark is no root
pub unmarked_root : (block : List ℕ) (k : ℕ) (l : Label) (b : Bool) → (IsTrue b ↔ (take 8 block ≡ codes "zr-uber1")) → b ≡ false → (u : Uber) → IsRootAt block k l u → ⊥
unmarked_root block k l b test failed u h = let yes = test.1 (uber_marked block u h.spelled) in cc

pub unmarked_newer : (block : List ℕ) (k guid : ℕ) (b : Bool) → (IsTrue b ↔ (take 8 block ≡ codes "zr-uber1")) → b ≡ false → (x : Newer) → IsNewerAt block k guid x → ⊥
unmarked_newer block k guid b test failed x h = let yes = test.1 (newer_marked block guid x.version x.txg h.spelled) in cc

-- a root whose slot is another
pub other_place : (block : List ℕ) (k : ℕ) (l : Label) (u : Uber) → SpellsUber block u → slot_of u.txg ≢ k → (v : Uber) → IsRootAt block k l v → ⊥
other_place block k l u spells other v h = other (ap (λ (r : Uber). slot_of r.txg) (one_uber block u v spells h.spelled) ∙ h.place)

-- a root that is not for the label
pub other_root : (block : List ℕ) (k : ℕ) (l : Label) (u : Uber) (b : Bool) → SpellsUber block u → (IsTrue b ↔ IsRootFor l u) → b ≡ false → (v : Uber) → IsRootAt block k l v → ⊥
other_root block k l u b spells test failed v h =
    let yes = test.1 (subst (IsRootFor l) (sym (one_uber block u v spells h.spelled)) h.suits) in cc

pub other_newer : (block : List ℕ) (k guid : ℕ) (x : Newer) → SpellsNewer block guid x.version x.txg → slot_of x.txg ≢ k → (y : Newer) → IsNewerAt block k guid y → ⊥
other_newer block k guid x spells other y h = other (ap slot_of (one_txg block guid x.version y.version x.txg y.txg spells h.spelled) ∙ h.place)

-- a label of another number of units
pub other_units : (block : List ℕ) (units : ℕ) (l : Label) → SpellsLabel block l → l.units ≢ units → (m : Label) → IsLabelWith block units m → ⊥
other_units block units l spells other m h = other (ap (λ (k : Label). k.units) (one_label block l m spells h.spelled) ∙ h.named)

-- ---- label blocks, one after another

pub no_label_yet : (size : ℕ) (bytes : List ℕ) → HasNoLabel size bytes 0
no_label_yet size bytes k lt = absurd (omega arith)

pub no_label_more : (size : ℕ) (bytes : List ℕ) (n units : ℕ) (block : List ℕ) → units_of_size size 2 ≡ Some units → block ≡ block_of size bytes n → HasNoLabel size bytes n → ((l : Label) → IsLabelWith block units l → ⊥) → HasNoLabel size bytes (n + 1)
no_label_more size bytes n units block units_are block_is before none k lt l h = elim (cases_lt k n) [
  | inl small ↦ before k small l h
  | inr large ↦
      let same : k ≡ n = omega arith in
      let here : IsLabelOf size (block_of size bytes n) l = subst (λ (j : ℕ). IsLabelOf size (block_of size bytes j) l) same h in
      let named : l.units ≡ units = let a = here.units in cc in
      none l (record { spelled = subst (λ (b : List ℕ). SpellsLabel b l) (sym block_is) here.spelled; named = named })
]

pub label_found : (size : ℕ) (bytes : List ℕ) (n units : ℕ) (block : List ℕ) (l : Label) → n < 4 → units_of_size size 2 ≡ Some units → block ≡ block_of size bytes n → HasNoLabel size bytes n → IsLabelWith block units l → IsFirstLabel size bytes l
label_found size bytes n units block l lt units_are block_is before h = record {
  label = n;
  four = lt;
  here = record { spelled = subst (λ (b : List ℕ). SpellsLabel b l) block_is h.spelled; units = let named = h.named in cc };
  before = before;
}

pub own_label : (size units : ℕ) (block : List ℕ) (l : Label) → units_of_size size 2 ≡ Some units → IsLabelWith block units l → IsOwnLabel size l
own_label size units block l units_are h = record { lawful = h.spelled.lawful; units = let named = h.named in cc }
