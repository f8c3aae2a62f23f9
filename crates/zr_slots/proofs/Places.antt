-- The slot of a device.
use Rattle.std.proofs.Common.{◌≡◌, ℕ, ◌<◌, ◌≤◌, List, [], length, get_or, replicate, take, zero, suc, Bool, true, false, Option, None, Some, cond, refl, sym, ◌∙◌, ap, arith}
use Rattle.std.proofs.lemmas.List.{get_or_read, ext_get_or, length-take, get_or-take}
use Rattle.std.specs.List.{position}
use Rattle.std.proofs.lemmas.List.FromFn.{length-map-range_with_len, get_or-map-range_with_len}
use Rattle.zr_rules.specs.Places.{is_gone}
use Rattle.zr_label.specs.declared.root.Uber.{Uber}
use Rattle.zr_label.specs.declared.root.Seen.{Seen}
use Rattle.zr_image.specs.Current.{seen_at, row_at, is_device, slot_of_device, is_missing, missing_device, slots_of}
use Rattle.zr_slots.proofs.Finding.{position_some, position_none, find_range_some, find_range_none}

abbrev nothing : Seen
nothing = record { label = None; ubers = []; newer = None }

-- what was asked of the item is so of the slot
pub device_read : (u : Uber) (seen : List Seen) (index slot : ℕ) (s : Seen) (b : Bool) → slot < length seen → s ≡ get_or seen slot s → b ≡ is_device u index (get_or seen slot s).label → is_device u index (seen_at seen slot).label ≡ b
device_read u seen index slot s b lt is asked = sym (asked ∙ ap (λ (t : Seen). is_device u index t.label) (sym is ∙ get_or_read seen slot s lt is nothing))

pub at_place : (u : Uber) (seen : List Seen) (index slot : ℕ) → is_gone (row_at u index).state ≡ false → slot < length seen →
    ((k : ℕ) → k < slot → is_device u index (seen_at seen k).label ≡ false) → is_device u index (seen_at seen slot).label ≡ true → Some slot ≡ slot_of_device u seen index
at_place u seen index slot there lt before here =
    sym (ap (λ b. cond b None (position (λ (s : Seen). is_device u index s.label) seen)) there ∙ position_some (λ (s : Seen). is_device u index s.label) seen slot nothing lt before here)

pub no_place : (u : Uber) (seen : List Seen) (index n : ℕ) → is_gone (row_at u index).state ≡ false → length seen ≤ n →
    ((k : ℕ) → k < n → is_device u index (seen_at seen k).label ≡ false) → None ≡ slot_of_device u seen index
no_place u seen index n there long before =
    sym (ap (λ b. cond b None (position (λ (s : Seen). is_device u index s.label) seen)) there ∙ position_none (λ (s : Seen). is_device u index s.label) seen nothing (λ k lt. before k (omega arith)))

pub missing_found : (u : Uber) (seen : List Seen) (i : ℕ) → i < u.count → ((k : ℕ) → k < i → is_missing u seen k ≡ false) → is_missing u seen i ≡ true → missing_device u seen ≡ Some i
missing_found u seen i lt before here = find_range_some (is_missing u seen) 0 u.count i (omega arith) (omega arith) (λ k lo hi. before k hi) here

pub missing_none : (u : Uber) (seen : List Seen) (n a : ℕ) → u.count ≤ n → ((k : ℕ) → k < n → is_missing u seen k ≡ false) → ¬ (missing_device u seen ≡ Some a)
missing_none u seen n a long none h =
    let is = find_range_none (is_missing u seen) 0 u.count (λ k lo hi. none k (omega arith)) in
    let both : None ≡ Some a = sym is ∙ h in
    cc

pub all_places : (u : Uber) (seen : List Seen) (n : ℕ) (slots : List (Option ℕ)) → length slots ≡ 32 → u.count ≤ 32 → u.count ≤ n → n ≤ u.count → ((k : ℕ) → k < n → get_or slots k None ≡ slot_of_device u seen k) → take u.count slots ≡ slots_of u seen
all_places u seen n slots long few lo hi done =
    let have : length (take u.count slots) ≡ u.count = omega (arith, length-take u.count slots, long, few) in
    ext_get_or None (take u.count slots) (slots_of u seen) (have ∙ sym (length-map-range_with_len (slot_of_device u seen) 0 u.count))
    (λ i lt. get_or-take u.count slots i None (omega (arith, have, lt)) ∙ (done i (omega (arith, have, lt, lo)) ∙ sym (get_or-map-range_with_len (slot_of_device u seen) 0 u.count i i None (omega (arith, have, lt)) (omega arith))))

abbrev no_slot : Option ℕ
no_slot = None

none_each : (n k : ℕ) → get_or (replicate n no_slot) k no_slot ≡ no_slot
none_each zero k = refl
none_each (suc n) zero = refl
none_each (suc n) (suc k) = none_each n k

-- 32 places with no slot
pub all_none : (k : ℕ) → get_or (replicate 32 no_slot) k no_slot ≡ no_slot
all_none k = none_each 32 k
