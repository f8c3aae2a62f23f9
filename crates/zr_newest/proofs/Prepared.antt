-- A slot that is prepared, beside a pool and for it.
use Rattle.std.proofs.Common.{◌≡◌, ◌≢◌, ◌⊎◌, inl, inr, ℕ, zero, suc, ◌+◌, ◌<◌, ◌≤◌, Bool, true, false, nat_lt, cond, get_or, map, not, List, [], ◌∷◌, length, Option, Some, None, refl, sym, ◌∙◌, ap, subst, arith, ⊎_elim}
use Rattle.std.specs.Prelude.{◌==◌, ◌&&◌, slice_index_or, slice_set, if◌then◌else◌}
use Rattle.std.specs.List.{position, position_or_len}
use Rattle.std.proofs.lemmas.Bool.{cases_lt, cases_eq, eqb-true}
use Rattle.std.proofs.lemmas.Bool.Decides.{nat_tests}
use Rattle.std.proofs.lemmas.List.{get_or-set_other, get_or-set_same, length-map, length-set}
use Rattle.std.proofs.Math.ListN.{get_or-map}
use Rattle.zr_base.specs.declared.space.DevRow.{DevRow}
use Rattle.zr_image.specs.Current.{is_device, row_at, seen_at, slot_of_device}
use Rattle.zr_label.specs.Blocks.{SpellsLabel, SpellsUber, no_row, padding}
use Rattle.zr_label.specs.Geometry.{label_block_at, ring_slot_at, slot_of as ring_of, units_of_size}
use Rattle.zr_label.specs.declared.root.Label.{Label}
use Rattle.zr_label.specs.declared.root.Seen.{Seen}
use Rattle.zr_label.specs.declared.root.Uber.{Uber}
use Rattle.zr_rules.specs.Places.{is_gone}
use Rattle.zr_scan.proofs.Blocks.{zeros_no_root}
use Rattle.zr_scan.proofs.Gathering.{slot_small}
use Rattle.zr_scan.specs.Scan.{IsFirstLabel, ShowsLabel, Stands, block_of, ring_block}
use Rattle.zr_shelf.specs.Disks.{disk, part}
use Rattle.zr_view.specs.Views.{slot_of}
use Rattle.zr_newest.proofs.Kept.{device_on, label_on, root_was}
use Rattle.zr_newest.proofs.Seen.{listed, past_device, place_by_row}
use Rattle.zr_newest.specs.Newest.{AreAt, HaveLabels, IsNewestOn, JoinsDevice, PreparesSlot, ShowsRoot}

-- ---- what is seen

-- what was seen, but for the label of one slot
abbrev pub with_label : List Seen → ℕ → Label → List Seen
with_label seen slot l = slice_set seen slot (record { label = Some l; ubers = []; newer = None })

module _ (before after : List (List ℕ)) (slot : ℕ) (l : Label) (prepares : PreparesSlot before after slot l) where
  pub labels_with : (seen : List Seen) → HaveLabels before seen → HaveLabels after (with_label seen slot l)
  labels_with seen h = record {
    count = length-set seen slot (record { label = Some l; ubers = []; newer = None }) ∙ (h.count ∙ sym prepares.count);
    each = λ other lt. elim (cases_eq other slot) [
      | inl same ↦
          let n = h.count in
          let here : seen_at (with_label seen slot l) other ≡ record { label = Some l; ubers = []; newer = None } =
          ap (λ (k : ℕ). seen_at (with_label seen slot l) k) same ∙ get_or-set_same seen slot (record { label = Some l; ubers = []; newer = None }) (record { label = None; ubers = []; newer = None }) (let known = prepares.known in omega (arith, known, n)) in
          subst (λ (x : Seen). ShowsLabel (length (disk after other)) (disk after other) x.label) (sym here)
          (subst (λ (k : ℕ). ShowsLabel (length (disk after k)) (disk after k) (Some l)) (sym same) prepares.label)
      | inr differ ↦
          let there = get_or-set_other seen slot other (record { label = Some l; ubers = []; newer = None }) (record { label = None; ubers = []; newer = None }) differ in
          subst (λ (x : Seen). ShowsLabel (length (disk after other)) (disk after other) x.label) (sym there)
          (label_on before after other (prepares.sizes other) (λ n few. prepares.labels other n differ few) (seen_at seen other).label (h.each other (let c = prepares.count in omega (arith, lt, c))))
    ];
  }

  -- no root stands in the slot, and none comes to another
  pub root_before : (other : ℕ) (v : Uber) → ShowsRoot after other v → ShowsRoot before other v
  root_before other v h = elim (cases_eq other slot) [
    | inl same ↦
        let stands = subst (λ (k : ℕ). Stands (length (disk after k)) (disk after k) h.ring v) same h.stands in
        absurd (zeros_no_root v (subst (λ (block : List ℕ). SpellsUber block v) (prepares.blank h.ring (ring_of v.txg) h.four (slot_small v.txg)) stands))
    | inr differ ↦ root_was before after other (prepares.sizes other) (λ n few. prepares.labels other n differ few) prepares.count v h (prepares.rings other h.ring (ring_of v.txg) differ h.four (slot_small v.txg))
  ]

-- ---- places by labels

-- the first place stays where an element that does not pass comes to another place
pub first_stays : (q : Seen → Bool) (xs : List Seen) (k : ℕ) (y : Seen) → q y ≡ false → position_or_len q xs ≢ k → position_or_len q (slice_set xs k y) ≡ position_or_len q xs
first_stays q [] k y fails other = refl
first_stays q (x ∷ xs) zero y fails other = by_head (q x) refl
  where
    by_head : (b : Bool) → q x ≡ b → position_or_len q (y ∷ xs) ≡ position_or_len q (x ∷ xs)
    by_head true passes = absurd (other (ap (λ (b : Bool). cond (not b) (1 + position_or_len q xs) 0) passes))
    by_head false is = ap (λ (b : Bool). cond (not b) (1 + position_or_len q xs) 0) (fails ∙ sym is)
first_stays q (x ∷ xs) (suc k) y fails other = by_head (q x) refl (λ differ. first_stays q xs k y fails differ)
  where
    by_head : (b : Bool) → q x ≡ b → (position_or_len q xs ≢ k → position_or_len q (slice_set xs k y) ≡ position_or_len q xs) → position_or_len q (x ∷ slice_set xs k y) ≡ position_or_len q (x ∷ xs)
    by_head true passes later = ap (λ (b : Bool). cond (not b) (1 + position_or_len q (slice_set xs k y)) 0) passes ∙ sym (ap (λ (b : Bool). cond (not b) (1 + position_or_len q xs) 0) passes)
    by_head false is later =
        let rest = later (λ e. other (ap (λ (b : Bool). cond (not b) (1 + position_or_len q xs) 0) is ∙ (let up : 1 + position_or_len q xs ≡ suc k = omega (arith, e) in up))) in
        ap (λ (n : ℕ). cond (not (q x)) (1 + n) 0) rest

-- and the only element that passes is the first
pub first_own : (q : Seen → Bool) (xs : List Seen) (k : ℕ) (y : Seen) → q y ≡ true → k < length xs → ((j : ℕ) → j ≢ k → j < length xs → q (seen_at xs j) ≡ false) → position_or_len q (slice_set xs k y) ≡ k
first_own q [] k y passes lt others = absurd (omega (arith, lt))
first_own q (x ∷ xs) zero y passes lt others = ap (λ (b : Bool). cond (not b) (1 + position_or_len q xs) 0) passes
first_own q (x ∷ xs) (suc k) y passes lt others =
    let rest = first_own q xs k y passes (omega (arith, lt)) (λ j differ less. others (suc j) (λ e. differ (omega (arith, e))) (omega (arith, less))) in
    let head = others 0 (λ e. (omega (arith, e))) (omega arith) in
    ap (λ (b : Bool). cond (not b) (1 + position_or_len q (slice_set xs k y)) 0) head ∙ (let up : 1 + position_or_len q (slice_set xs k y) ≡ suc k = omega (arith, rest) in up)

place_is : (n m : ℕ) → n < m → cond (nat_lt n m) (Some n) None ≡ Some n
place_is n m lt = grind (arith, nat_tests, lt)

position_stays : (q : Seen → Bool) (xs : List Seen) (k : ℕ) (y : Seen) → k < length xs → q y ≡ false → (position q xs ≡ Some k → ⊥) → position q (slice_set xs k y) ≡ position q xs
position_stays q xs k y lt fails other =
    let first = first_stays q xs k y fails (λ (e : position_or_len q xs ≡ k). other (ap (λ (n : ℕ). cond (nat_lt n (length xs)) (Some n) None) e ∙ place_is k (length xs) lt)) in
    ap (λ (n : ℕ). cond (nat_lt n (length (slice_set xs k y))) (Some n) None) first
    ∙ ap (λ (n : ℕ). cond (nat_lt (position_or_len q xs) n) (Some (position_or_len q xs)) None) (length-set xs k y)

position_own : (q : Seen → Bool) (xs : List Seen) (k : ℕ) (y : Seen) → k < length xs → q y ≡ true → ((j : ℕ) → j ≢ k → j < length xs → q (seen_at xs j) ≡ false) → position q (slice_set xs k y) ≡ Some k
position_own q xs k y lt passes others =
    let first = first_own q xs k y passes lt others in
    let long = length-set xs k y in
    ap (λ (n : ℕ). cond (nat_lt n (length (slice_set xs k y))) (Some n) None) first ∙ place_is k (length (slice_set xs k y)) (omega (arith, lt, long))

-- ---- devices

-- what was seen, but for the label of one slot, if it shows one now
abbrev pub with_shown : List Seen → ℕ → Option Label → List Seen
with_shown seen slot o = slice_set seen slot (record { label = o; ubers = []; newer = None })

-- a device that the label does not name stays in its slot
module _ (seen : List Seen) (slot : ℕ) (o : Option Label) (known : slot < length seen) (u : Uber) (slots : List (Option ℕ)) (devices : AreAt slots u seen) (free : (d : ℕ) → slot_of slots d ≢ Some slot) (apart : (d : ℕ) → d < u.count → is_device u d o ≡ false) where
  device_stays : (d : ℕ) → d < u.count → slot_of_device u (with_shown seen slot o) d ≡ slot_of_device u seen d
  device_stays d lt = by_state (is_gone (row_at u d).state) refl
    where
      by_state : (gone : Bool) → is_gone (row_at u d).state ≡ gone → slot_of_device u (with_shown seen slot o) d ≡ slot_of_device u seen d
      by_state true gone =
          ap (λ (b : Bool). if b then None else position (λ (s : Seen). is_device u d s.label) (with_shown seen slot o)) gone ∙ sym (ap (λ (b : Bool). if b then None else position (λ (s : Seen). is_device u d s.label) seen) gone)
      by_state false there =
          let same = position_stays (λ (s : Seen). is_device u d s.label) seen slot (record { label = o; ubers = []; newer = None }) known (apart d lt)
          (λ at. free d (devices d ∙ (listed u seen d lt ∙ (ap (λ (b : Bool). if b then None else position (λ (s : Seen). is_device u d s.label) seen) there ∙ at)))) in
          ap (λ (p : Option ℕ). if is_gone (row_at u d).state then None else p) same

  pub devices_beside : AreAt slots u (with_shown seen slot o)
  devices_beside d =
      ⊎_elim
      (λ (lt : d < u.count). devices d ∙ (listed u seen d lt ∙ (sym (device_stays d lt) ∙ sym (listed u (with_shown seen slot o) d lt))))
      (λ (ge : u.count ≤ d). devices d ∙ (past_device u seen d ge ∙ sym (past_device u (with_shown seen slot o) d ge)))
      (cases_lt d u.count)

module _ (before after : List (List ℕ)) (slot : ℕ) (l : Label) (prepares : PreparesSlot before after slot l) (seen : List Seen) (labels : HaveLabels before seen) where
  abbrev behind : List Seen
  behind = with_label seen slot l

  known : slot < length seen
  known = let lt = prepares.known in let n = labels.count in omega (arith, lt, n)

  pub devices_with : (u : Uber) (slots : List (Option ℕ)) → AreAt slots u seen → ((d : ℕ) → slot_of slots d ≢ Some slot) → ((d : ℕ) → d < u.count → is_device u d (Some l) ≡ false) → AreAt slots u behind
  devices_with u slots devices free apart = devices_beside seen slot (Some l) known u slots devices free apart

  -- the next device has the slot
  module _ (u next : Uber) (slots mine : List (Option ℕ)) (devices : AreAt slots u seen) (joins : JoinsDevice before u next slots mine slot l) where
    same_place : (d : ℕ) → d < u.count → slot_of_device next behind d ≡ slot_of_device u behind d
    same_place d lt = place_by_row u next d joins.guid (joins.rows d lt) behind

    no_other : (k : ℕ) → k ≢ slot → k < length seen → is_device next u.count (seen_at seen k).label ≡ false
    no_other k differ lt = by_label (seen_at seen k).label (labels.each k (let n = labels.count in omega (arith, lt, n)))
      where
        by_label : (o : Option Label) → ShowsLabel (length (disk before k)) (disk before k) o → is_device next u.count o ≡ false
        by_label None none = refl
        by_label (Some m) first = joins.alone k m differ (let n = labels.count in omega (arith, lt, n)) first

    new_place : slot_of_device next behind u.count ≡ Some slot
    new_place =
        ap (λ (b : Bool). if b then None else position (λ (s : Seen). is_device next u.count s.label) behind) joins.there
        ∙ position_own (λ (s : Seen). is_device next u.count s.label) seen slot (record { label = Some l; ubers = []; newer = None }) known joins.named no_other

    pub devices_joined : AreAt mine next behind
    devices_joined d =
        let count = joins.count in
        elim (cases_eq d u.count) [
          | inl same ↦
              let at : slot_of_device next behind d ≡ Some slot = ap (λ (k : ℕ). slot_of_device next behind k) same ∙ new_place in
              ap (λ (k : ℕ). slot_of mine k) same ∙ (joins.own ∙ (sym at ∙ sym (listed next behind d (omega (arith, same, count)))))
          | inr other ↦
              joins.others d other
              ∙ ⊎_elim
              (λ (lt : d < u.count). devices d ∙ (listed u seen d lt ∙ (sym (device_stays seen slot (Some l) known u slots devices joins.free joins.apart d lt) ∙ (sym (same_place d lt) ∙ sym (listed next behind d (omega (arith, lt, count)))))))
              (λ (ge : u.count ≤ d). devices d ∙ (past_device u seen d ge ∙ sym (past_device next behind d (omega (arith, ge, other, count)))))
              (cases_lt d u.count)
        ]

pub newest_beside : (before after : List (List ℕ)) (slot : ℕ) (l : Label) (u : Uber) (slots : List (Option ℕ)) → PreparesSlot before after slot l → ((d : ℕ) → slot_of slots d ≢ Some slot) → ((d : ℕ) → d < u.count → is_device u d (Some l) ≡ false) → IsNewestOn before u slots → IsNewestOn after u slots
newest_beside before after slot l u slots prepares free apart h =
    let differ : h.stands.slot ≢ slot = λ e. free h.stands.device (h.stands.here ∙ ap Some e) in
    record {
      stands = device_on before after u slots h.stands (prepares.sizes h.stands.slot) (prepares.rings h.stands.slot h.stands.ring (ring_of u.txg) differ h.stands.four (slot_small u.txg));
      newest = λ other v is same. h.newest other v (root_before before after slot l prepares other v is) same;
      seen = with_label h.seen slot l;
      labels = labels_with before after slot l prepares h.seen h.labels;
      devices = devices_with before after slot l prepares h.seen h.labels u slots h.devices free apart;
    }

-- ---- what is written makes it so

-- a slot with labels and blank rings, beside disks that have their bytes
pub prepared_from : (before after : List (List ℕ)) (slot size : ℕ) (l : Label) → slot < length before → map length after ≡ map length before → length (disk after slot) ≡ size → units_of_size size 2 ≡ Some l.units → ((other at n : ℕ) → other ≢ slot → part (disk after other) at n ≡ part (disk before other) at n)
    → ((n : ℕ) → n < 4 → SpellsLabel (block_of size (disk after slot) n) l) → ((n k : ℕ) → n < 4 → k < 32 → ring_block size (disk after slot) n k ≡ padding 4096) → PreparesSlot before after slot l
prepared_from before after slot size l known lengths long units others labels rings = record {
  known = known;
  count = sym (length-map after length) ∙ (ap (λ (ns : List ℕ). length ns) lengths ∙ length-map before length);
  sizes = λ other. sym (get_or-map (λ (bytes : List ℕ). length bytes) after other []) ∙ (ap (λ (ns : List ℕ). get_or ns other 0) lengths ∙ get_or-map (λ (bytes : List ℕ). length bytes) before other []);
  label = subst (λ (n : ℕ). IsFirstLabel n (disk after slot) l) (sym long) (record { label = 0; four = omega arith; here = record { spelled = labels 0 (omega arith); units = units }; before = λ k lt m is. absurd (omega (arith, lt)) });
  blank = λ n k few low. subst (λ (m : ℕ). ring_block m (disk after slot) n k ≡ padding 4096) (sym long) (rings n k few low);
  labels = λ other n differ few. others other (label_block_at (length (disk before other)) n) 4096 differ;
  rings = λ other n k differ few low. others other (ring_slot_at (length (disk before other)) n k) 4096 differ;
}

-- the label of a device is that of the next root's row
pub own_label : (index : ℕ) (l : Label) (next : Uber) (row : DevRow) → row_at next index ≡ row → l.guid ≡ next.guid → l.index ≡ index → l.added ≡ row.added → l.units ≡ row.units → is_device next index (Some l) ≡ true
own_label index l next row is same at since long =
    let first = ap (λ (r : DevRow). r.added) is in
    let second = ap (λ (r : DevRow). r.units) is in
    grind (arith, nat_tests, same, at, since, long, first, second)

-- a label of another identity is not
pub other_label : (index : ℕ) (m : Label) (next : Uber) → (m.guid ≡ next.guid → m.index ≡ index → m.added ≡ (row_at next index).added → ⊥) → is_device next index (Some m) ≡ false
other_label index m next differs = by_test (m.guid == next.guid) (m.index == index) (m.added == (row_at next index).added) (m.units == (row_at next index).units) refl refl refl
  where
    by_test : (a b c d : Bool) → (m.guid == next.guid) ≡ a → (m.index == index) ≡ b → (m.added == (row_at next index).added) ≡ c → (a && (b && (c && d))) ≡ false
    by_test true true true d p q r = absurd (differs (eqb-true m.guid next.guid p) (eqb-true m.index index q) (eqb-true m.added (row_at next index).added r))
    by_test false b c d p q r = refl
    by_test true false c d p q r = refl
    by_test true true false d p q r = refl

-- a root with a row more, whose device has the slot of the label
pub joins_next : (before : List (List ℕ)) (u next : Uber) (slots : List (Option ℕ)) (slot : ℕ) (l : Label) (row : DevRow) → next.guid ≡ u.guid → next.count ≡ u.count + 1 → next.rows ≡ slice_set u.rows u.count row → u.count < length u.rows → u.count < length slots → is_gone row.state ≡ false
    → l.guid ≡ u.guid → l.index ≡ u.count → l.added ≡ row.added → l.units ≡ row.units → ((d : ℕ) → slot_of slots d ≢ Some slot)
    → ((other : ℕ) (m : Label) → other ≢ slot → other < length before → IsFirstLabel (length (disk before other)) (disk before other) m → m.guid ≡ l.guid → m.index ≡ l.index → m.added ≡ l.added → ⊥)
    → JoinsDevice before u next slots (slice_set slots u.count (Some slot)) slot l
joins_next before u next slots slot l row guid count rows room places there same at since long free alone =
    let own_row : row_at next u.count ≡ row = ap (λ (rs : List DevRow). slice_index_or rs u.count no_row) rows ∙ get_or-set_same u.rows u.count row no_row room in
    record {
      guid = guid;
      count = count;
      rows = λ d lt. ap (λ (rs : List DevRow). slice_index_or rs d no_row) rows ∙ get_or-set_other u.rows u.count d row no_row (λ e. omega (arith, lt, e));
      others = λ d differ. get_or-set_other slots u.count d (Some slot) None differ;
      own = get_or-set_same slots u.count (Some slot) None places;
      there = ap (λ (r : DevRow). is_gone r.state) own_row ∙ there;
      named = own_label u.count l next row own_row (same ∙ sym guid) at since long;
      alone = λ other m differ lt first. other_label u.count m next (λ g i a. alone other m differ lt first (g ∙ (guid ∙ sym same)) (i ∙ sym at) (a ∙ (ap (λ (r : DevRow). r.added) own_row ∙ sym since)));
      free = free;
      apart = λ d lt. other_label d l u (λ g i a. (omega (arith, i, at, lt)));
    }
