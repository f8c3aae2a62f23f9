-- A removal is given up: the copies are freed, and the device that was leaving is in service again.
use Rattle.std.proofs.Common.{◌≡◌, ◌≢◌, ◌⊎◌, ℕ, suc, ◌+◌, ◌<◌, ◌^◌, ◌&&◌, ◌||◌, Bool, true, false, ◌==◌, nat_lt, List, [], ◌∷◌, ◌++◌, map, length, refl, ◌∙◌, sym, ap, subst, arith, inl, inr}
use Rattle.std.proofs.Math.ListN.{set}
use Rattle.std.specs.List.{All}
use Rattle.std.proofs.lemmas.Bool.Decides.{nat_tests}
use Rattle.std.proofs.lemmas.List.{length-map, length-set}
use Rattle.std.proofs.lemmas.List.Elements.{All-nil, All-weaker}
use Rattle.zr_base.specs.declared.space.DevPart.{DevPart}
use Rattle.zr_base.specs.declared.space.DevRow.{DevRow}
use Rattle.zr_base.specs.declared.space.DevState.TheVariants.{On}
use Rattle.zr_base.specs.declared.space.Entry.{Entry}
use Rattle.zr_base.specs.Extents.{has_unit, unit_count}
use Rattle.zr_rules.specs.Devices.{Devices as Ways, devices_of}
use Rattle.zr_rules.specs.Frees.{IsSamePart}
use Rattle.zr_rules.specs.Places.{one_if, part_of, is_on, is_gone, is_leaving}
use Rattle.zr_rules.specs.Resolve.{IsRanked, IsDestination}
use Rattle.zr_rules.specs.Roles.{given_up}
use Rattle.zr_rules.specs.Space.{role_at}
use Rattle.zr_rules.specs.Steps.{Cancels}
use Rattle.zr_metaslab.specs.Devices.{Devices, units_at, free_at, count_at, serves_at, Turns}
use Rattle.zr_units.specs.Uses.{Uses, IsAccount}
use Rattle.zr_units.specs.Changes.{GivesUpCopies}
use Rattle.zr_indirect.specs.Mapped.{Mapped}
use Rattle.zr_space.specs.Views.{Kept, kept_of, part_in, space_of, role_in, units_there, late_runs, IsMoved, IsSpace, meta_from, saved_from, addresses, IsCondensing}
use Rattle.zr_space.specs.Leavings.{GivesUpAll, GivesUpKept, back_in_service}
use Rattle.zr_space.specs.declared.whole.Whole.{Whole}
use Rattle.zr_space.proofs.Devs.{IsSameWay, rows_are, entries_are}
use Rattle.zr_space.proofs.Frames.{meta_set, saved_set}
use Rattle.zr_space.proofs.Keeps.{on_each, lawful, still_condensing}
use Rattle.zr_space.proofs.Leaving.{no_hits}
use Rattle.zr_space.proofs.More.{service_moved}
use Rattle.zr_space.proofs.Roles.{roles_are}
use Rattle.zr_space.proofs.Synced.{leaving_state}
use Rattle.zr_space.proofs.Views.{part_is, kept_same}

false_true : false ≡ true → ⊥
false_true e = cc

-- ---- a device's copies are given up

pub gives_account : (f g : ℕ → Bool) (m n : ℕ) (x y : Uses) → IsAccount f m x → GivesUpCopies x y → ((u : ℕ) → g u ≡ (f u || (has_unit x.copies u && has_unit x.born u))) → n + unit_count y.freed.blocks ≡ m + unit_count x.freed.blocks + unit_count x.copies → IsAccount g n y
gives_account f g m n x y a h given count = record {
  once = λ u. let o = a.once u in let c = a.copying.held u in let b = a.born u in let held = h.held u in let d = h.deferred u in let s = h.others in let free = given u in grind (arith, nat_tests, o, c, b, held, d, s, free);
  born = λ u is. let b = a.born u in let held = h.held u in let born = h.born u in grind (arith, nat_tests, b, held, born, is);
  keeping = record {
    held = λ u is. let k = a.keeping.held u in let c = a.copying.unkept u in let held = h.held u in let s = h.others in grind (arith, nat_tests, k, c, held, s, is);
    settled = λ u is. let k = a.keeping.settled u in let born = h.born u in let s = h.others in grind (arith, nat_tests, k, born, s, is);
    came = λ u is. let k = a.keeping.came u in let s = h.others in grind (arith, nat_tests, k, s, is);
    went = λ u is. let k = a.keeping.went u in let d = h.deferred u in let s = h.others in grind (arith, nat_tests, k, d, s, is);
  };
  copying = record { held = λ u is. let s = h.others in absurd (grind (arith, nat_tests, s, is)); unkept = λ u is. let s = h.others in absurd (grind (arith, nat_tests, s, is)) };
  sum = let z = a.sum in let c = h.count in let s = h.others in grind (arith, z, c, s, count);
  small = let z = a.small in let s = h.others in grind (arith, z, s);
  lists = rw h.others (record { held = h.held_maximal; born = h.born_maximal; kept = a.lists.kept; came = a.lists.came; went = a.lists.went; copies = tt; freed = record { blocks = h.deferred_maximal; meta = a.lists.freed.meta }; late1 = a.lists.late1; late2 = a.lists.late2; meta = a.lists.meta; saved = a.lists.saved });
}

pub gives_role : (f : ℕ → Bool) (m : ℕ) (x y : Uses) → IsAccount f m x → GivesUpCopies x y → (u : ℕ) → role_in y u ≡ given_up (role_in x u)
gives_role f m x y a h u = rw h.others (let o = a.once u in let c = a.copying.held u in let k = a.copying.unkept u in let b = a.born u in let held = h.held u in let born = h.born u in let d = h.deferred u in grind (arith, nat_tests, o, c, k, b, held, born, d))

-- ---- all devices

-- of the devices of a space one is leaving, and all copies are given up
pub record IsCancelled (whole : Whole) (s t v : Devices) (devs mid : List Kept) (d : ℕ) : Type 0 where
  pub space : IsSpace whole s devs
  pub there : d < length devs
  pub leaving : is_leaving (kept_of devs d).row.state ≡ true
  pub gives : GivesUpAll s t devs mid
  pub turns : Turns t v d true

module _ (whole : Whole) (s t v : Devices) (devs mid : List Kept) (d : ℕ) (h : IsCancelled whole s t v devs mid d) where
  abbrev pub x : Kept
  x = back_in_service (kept_of mid d)

  abbrev pub next : List Kept
  next = set mid d x

  mid_there : d < length mid
  mid_there = let l = h.there in let c = h.gives.count in omega (arith, l, c)

  next_len : length next ≡ length devs
  next_len = length-set mid d x ∙ h.gives.count

  -- what holds of the device that is back and of each other holds of all
  on_next : (P : ℕ → Kept → Type 0) → P d x → ((j : ℕ) → (j == d) ≡ false → P j (kept_of mid j)) → (j : ℕ) → P j (kept_of next j)
  on_next P here others = on_each mid d x P mid_there here others

  was : (j : ℕ) → GivesUpKept (kept_of devs j) (kept_of mid j)
  was j = h.gives.each j

  -- no device is leaving any more
  none_leaves : (j : ℕ) → is_leaving (kept_of next j).row.state ≡ true → ⊥
  none_leaves = on_next (λ j k. is_leaving k.row.state ≡ true → ⊥) (λ is. false_true is)
      (λ j ne is. let l : is_leaving (kept_of devs j).row.state ≡ true = sym (ap (λ (r : DevRow). is_leaving r.state) (was j).row) ∙ is in let e = h.space.single j d l h.leaving in absurd (grind (arith, nat_tests, e, ne)))

  there_before : is_gone (kept_of devs d).row.state ≡ false
  there_before = ap is_gone (leaving_state (kept_of devs d).row.state h.leaving)

  now_account : (j : ℕ) → IsAccount (free_at v j) (count_at v j) (kept_of mid j).uses
  now_account j =
      gives_account (free_at s j) (free_at v j) (count_at s j) (count_at v j) (kept_of devs j).uses (kept_of mid j).uses (h.space.account j) (was j).gives
      (λ u. h.turns.free j u ∙ h.gives.free j u)
      (let c = h.gives.freed j in let e = h.turns.count j in omega (arith, c, e))

  same_way : (j : ℕ) → IsSameWay (kept_of devs j).row (kept_of next j).row
  same_way = on_next (λ j k. IsSameWay (kept_of devs j).row k.row)
      (record { gone = sym there_before; went = ap (λ (r : DevRow). r.gone) (was d).row; units = ap (λ (r : DevRow). r.units) (was d).row })
      (λ j ne. record { gone = ap (λ (r : DevRow). is_gone r.state) (was j).row; went = ap (λ (r : DevRow). r.gone) (was j).row; units = ap (λ (r : DevRow). r.units) (was j).row })

  abbrev new : Ways
  new = devices_of (map part_in next)

  abbrev old : Ways
  old = devices_of (map part_in devs)

  ways : (j : ℕ) → IsSameWay (old.row j) (new.row j)
  ways j = subst (λ (r : DevRow). IsSameWay r (new.row j)) (sym (rows_are devs j)) (subst (IsSameWay (kept_of devs j).row) (sym (rows_are next j)) (same_way j))

  now_ranked : IsRanked new
  now_ranked = λ j. subst (All (IsDestination new j)) (sym (entries_are next j)) (on_next (λ i k. All (IsDestination new i) k.moves.entries) (All-nil (IsDestination new d)) stays j)
    where
      may : (from to from2 to2 : DevRow) → IsSameWay from from2 → IsSameWay to to2 → (is_gone to.state ≡ false) ⊎ ((is_gone from.state ≡ true) × (from.gone < to.gone)) → (is_gone to2.state ≡ false) ⊎ ((is_gone from2.state ≡ true) × (from2.gone < to2.gone))
      may from to from2 to2 f g (inl there) = inl (g.gone ∙ there)
      may from to from2 to2 f g (inr later) = inr (f.gone ∙ later.0, (let l = later.1 in let a = f.went in let b = g.went in omega (arith, l, a, b)))

      carry : (j : ℕ) (e : Entry) → IsDestination old j e → IsDestination new j e
      carry j e w = record {
        known = let k = w.known in let a = length-map devs part_in in let b = length-map next part_in in let l = next_len in omega (arith, k, a, b, l);
        other = w.other;
        within = let k = w.within in let u = (ways e.dev).units in omega (arith, k, u);
        later = may (old.row j) (old.row e.dev) (new.row j) (new.row e.dev) (ways j) (ways e.dev) w.later;
      }

      stays : (j : ℕ) → (j == d) ≡ false → All (IsDestination new j) (kept_of mid j).moves.entries
      stays j ne = All-weaker (IsDestination old j) (IsDestination new j) (carry j) (kept_of mid j).moves.entries (subst (All (IsDestination old j)) (entries_are devs j ∙ sym (ap (λ (m : Mapped). m.entries) (was j).moves)) (h.space.ranked j))

  pub back_space : IsSpace whole v next
  back_space = record {
    devices = let e = h.space.devices in let n = h.gives.devices.devs in let m = h.turns.devs in let l = next_len in omega (arith, e, n, m, l);
    few = let f = h.space.few in let l = next_len in omega (arith, f, l);
    units = on_next (λ j k. units_at v j ≡ k.uses.units) (units d) (λ j ne. units j);
    rows = on_next (λ j k. k.uses.units ≡ units_there k.row)
        (let r = rows d in let g = there_before in let w = ap (λ (q : DevRow). is_gone q.state) (was d).row in grind (arith, nat_tests, r, g, w))
        (λ j ne. rows j);
    small = on_next (λ j k. k.row.units < 2 ^ 40) (small d) (λ j ne. small j);
    moved = on_next (λ j k. IsMoved k.row k.moves) (service_moved x.row refl)
        (λ j ne. subst (λ (r : DevRow). IsMoved r (kept_of mid j).moves) (sym (was j).row) (subst (λ (m : Mapped). IsMoved (kept_of devs j).row m) (sym (was j).moves) (h.space.moved j)));
    serves = on_next (λ j k. serves_at v j ≡ (nat_lt j (length next) && is_on k.row.state))
        (let z = h.turns.serves d in let l = next_len in let i = h.there in grind (arith, nat_tests, z, l, i))
        (λ j ne. let z = h.turns.serves j in let y = h.gives.devices.serves j in let w = h.space.serves j in let l = next_len in let e = ap (λ (r : DevRow). is_on r.state) (was j).row in grind (arith, nat_tests, z, y, w, l, e, ne));
    account = on_next (λ j k. IsAccount (free_at v j) (count_at v j) k.uses) (now_account d) (λ j ne. now_account j);
    copies = λ j u. no_hits next j u (λ i is. absurd (none_leaves i is)) ∙ ap one_if (sym (no_copies j u));
    single = λ i j one two. absurd (none_leaves i one);
    ranked = now_ranked;
    tied = λ j is. absurd (none_leaves j is);
    condensing = λ c is.
        on_next (λ j k. IsCondensing c (kept_of devs j) → IsCondensing c k) (λ g. absurd (false_true (sym (ap is_leaving g.gone) ∙ h.leaving)))
        (λ j ne. still_condensing c (kept_of devs j) (kept_of mid j) (was j).row (ap (λ (m : Mapped). m.entries) (was j).moves) (ap (λ (m : Mapped). m.counts) (was j).moves)) c.dev (h.space.condensing c is);
  }
    where
      units : (j : ℕ) → units_at v j ≡ (kept_of mid j).uses.units
      units j = h.turns.units j ∙ (h.gives.devices.units j ∙ (h.space.units j ∙ sym (ap (λ (y : Uses). y.units) (was j).gives.others)))

      rows : (j : ℕ) → (kept_of mid j).uses.units ≡ units_there (kept_of mid j).row
      rows j = ap (λ (y : Uses). y.units) (was j).gives.others ∙ (h.space.rows j ∙ ap units_there (sym (was j).row))

      small : (j : ℕ) → (kept_of mid j).row.units < 2 ^ 40
      small j = subst (λ (r : DevRow). r.units < 2 ^ 40) (sym (was j).row) (h.space.small j)

      no_copies : (j u : ℕ) → has_unit (kept_of next j).uses.copies u ≡ false
      no_copies j u = on_next (λ i k. has_unit k.uses.copies u ≡ false) (none d) (λ i ne. none i) j
        where
          none : (i : ℕ) → has_unit (kept_of mid i).uses.copies u ≡ false
          none i = ap (λ (y : Uses). has_unit y.copies u) (was i).gives.others

  -- ---- what it does to the space

  roles : (e u : ℕ) → role_at (space_of whole next) e u ≡ given_up (role_at (space_of whole devs) e u)
  roles e u =
      roles_are whole next e u back_space
      ∙ (on_next (λ i k. role_in k.uses u ≡ given_up (role_in (kept_of devs i).uses u)) (turned d) (λ i ne. turned i) e
      ∙ ap given_up (sym (roles_are whole devs e u h.space)))
    where
      turned : (i : ℕ) → role_in (kept_of mid i).uses u ≡ given_up (role_in (kept_of devs i).uses u)
      turned i = gives_role (free_at s i) (count_at s i) (kept_of devs i).uses (kept_of mid i).uses (h.space.account i) (was i).gives u

  back_part : part_of (map part_in next) d ≡ part_in x
  back_part = part_is next d ∙ ap part_in (kept_same mid d x mid_there)

  same_other : (j : ℕ) → j ≢ d → IsSamePart (part_of (map part_in devs) j) (part_of (map part_in next) j)
  same_other j ne =
      subst (λ q. IsSamePart q (part_of (map part_in next) j)) (sym (part_is devs j))
      (subst (λ q. IsSamePart (part_in (kept_of devs j)) q) (sym (part_is next j))
      (on_next (λ i k. (i == d) ≡ false → IsSamePart (part_in (kept_of devs i)) (part_in k))
      (λ no. absurd (grind (arith, nat_tests, no)))
      (λ i no yes. record {
        row = (was i).row;
        entries = ap (λ (m : Mapped). m.entries) (was i).moves;
        counts = ap (λ (m : Mapped). m.counts) (was i).moves;
        late1 = ap (λ (y : Uses). late_runs y.late1) (was i).gives.others;
        late2 = ap (λ (y : Uses). late_runs y.late2) (was i).gives.others;
      })
      j (grind (arith, nat_tests, ne))))

  same_marks : (j u : ℕ) → j ≢ d → has_unit (part_of (map part_in next) j).fresh u ≡ has_unit (part_of (map part_in devs) j).fresh u
  same_marks j u ne =
      ap (λ (q : DevPart). has_unit q.fresh u) (part_is next j)
      ∙ (on_next (λ i k. (i == d) ≡ false → has_unit k.moves.fresh u ≡ has_unit (kept_of devs i).moves.fresh u)
      (λ no. absurd (grind (arith, nat_tests, no)))
      (λ i no yes. ap (λ (m : Mapped). has_unit m.fresh u) (was i).moves)
      j (grind (arith, nat_tests, ne))
      ∙ sym (ap (λ (q : DevPart). has_unit q.fresh u) (part_is devs j)))

  pub cancels : Cancels (space_of whole devs) (space_of whole next) d
  cancels = record {
    row_is = ap (λ (q : DevPart). q.row) back_part ∙ (ap (λ (r : DevRow). record r { state = On }) (was d).row ∙ ap (λ (q : DevPart). record q.row { state = On }) (sym (part_is devs d)));
    entries = ap (λ (q : DevPart). q.entries) back_part;
    counts = ap (λ (q : DevPart). q.counts) back_part;
    fresh = ap (λ (q : DevPart). q.fresh) back_part;
    roles = roles;
    elsewhere = record {
      version = refl;
      cond = refl;
      ckpt = refl;
      meta = meta_set 0 d mid x refl ∙ gives_meta 0 devs mid h.gives.count h.gives.each;
      saved_meta = saved_set 0 d mid x refl ∙ gives_saved 0 devs mid h.gives.count h.gives.each;
      devices = length-map next part_in ∙ (next_len ∙ sym (length-map devs part_in));
      others = same_other;
      fresh = λ j u ne. same_marks j u ne;
      lawful = λ l. lawful whole v next back_space;
    };
  }
    where
      gives_meta : (i : ℕ) (xs ys : List Kept) → length ys ≡ length xs → ((j : ℕ) → GivesUpKept (kept_of xs j) (kept_of ys j)) → meta_from i ys ≡ meta_from i xs
      gives_meta i [] [] count each = refl
      gives_meta i [] (y ∷ ys) count each = absurd (omega (arith, count))
      gives_meta i (x ∷ xs) [] count each = absurd (omega (arith, count))
      gives_meta i (x ∷ xs) (y ∷ ys) count each =
          let head : y.uses.meta ≡ x.uses.meta = ap (λ (z : Uses). z.meta) (each 0).gives.others in
          rw head (ap (λ list. addresses i x.uses.meta ++ list) (gives_meta (i + 1) xs ys (omega (arith, count)) (λ j. each (suc j))))

      gives_saved : (i : ℕ) (xs ys : List Kept) → length ys ≡ length xs → ((j : ℕ) → GivesUpKept (kept_of xs j) (kept_of ys j)) → saved_from i ys ≡ saved_from i xs
      gives_saved i [] [] count each = refl
      gives_saved i [] (y ∷ ys) count each = absurd (omega (arith, count))
      gives_saved i (x ∷ xs) [] count each = absurd (omega (arith, count))
      gives_saved i (x ∷ xs) (y ∷ ys) count each =
          let head : y.uses.saved ≡ x.uses.saved = ap (λ (z : Uses). z.saved) (each 0).gives.others in
          rw head (ap (λ list. addresses i x.uses.saved ++ list) (gives_saved (i + 1) xs ys (omega (arith, count)) (λ j. each (suc j))))
