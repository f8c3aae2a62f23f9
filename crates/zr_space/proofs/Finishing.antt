-- A removal ends: the copies are blocks like others, and the device that was leaving is gone.
use Rattle.std.proofs.Common.{◌≡◌, ◌≢◌, ◌⊎◌, ℕ, ◌+◌, ◌<◌, ◌^◌, ◌&&◌, Bool, true, false, ◌==◌, nat_lt, List, [], ◌∷◌, map, length, replicate, refl, ◌∙◌, sym, ap, subst, arith, inl, inr, if◌then◌else◌}
use Rattle.std.proofs.Math.ListN.{set}
use Rattle.std.specs.List.{All}
use Rattle.std.proofs.lemmas.Bool.Decides.{nat_tests}
use Rattle.std.proofs.lemmas.List.{length-map, length-set}
use Rattle.std.proofs.lemmas.List.Elements.{All-nil, All-same, All-weaker}
use Rattle.zr_base.specs.declared.space.DevPart.{DevPart}
use Rattle.zr_base.specs.declared.space.DevRow.{DevRow}
use Rattle.zr_base.specs.declared.space.DevState.{DevState}
use Rattle.zr_base.specs.declared.space.DevState.TheVariants.{On, Leaving, Gone}
use Rattle.zr_base.specs.declared.space.Entry.{Entry}
use Rattle.zr_base.specs.declared.space.Extent.{Extent}
use Rattle.zr_base.specs.Extents.{has_unit, IsMaximal}
use Rattle.zr_rules.specs.Devices.{Devices as Ways, devices_of}
use Rattle.zr_rules.specs.Frees.{IsSamePart}
use Rattle.zr_rules.specs.Places.{one_if, part_of, is_on, is_gone, is_leaving}
use Rattle.zr_rules.specs.Resolve.{IsRanked, IsDestination}
use Rattle.zr_rules.specs.Roles.{taken_over}
use Rattle.zr_rules.specs.Roles.Role.{Absent}
use Rattle.zr_rules.specs.Space.{role_at, IsSet}
use Rattle.zr_rules.specs.Steps.{Finishes}
use Rattle.zr_metaslab.specs.Devices.{Devices, units_at, free_at, count_at, serves_at, Forgets}
use Rattle.zr_units.specs.Uses.{Uses, IsAccount, IsSameUses}
use Rattle.zr_units.specs.Changes.{taken_uses}
use Rattle.zr_indirect.specs.Mapped.{Mapped, IsLeaving, IsGone}
use Rattle.zr_space.specs.Views.{Kept, kept_of, part_in, space_of, role_in, units_there, IsMoved, IsSpace, IsSameKept, AreTurned, EndsWithin, IsCondensing}
use Rattle.zr_space.specs.Leavings.{without_copies, gone_device}
use Rattle.zr_space.specs.declared.whole.Whole.{Whole}
use Rattle.zr_space.proofs.Accounts.{account_as, same_account}
use Rattle.zr_space.proofs.Devs.{rows_are, entries_are}
use Rattle.zr_space.proofs.Frames.{meta_set, saved_set}
use Rattle.zr_space.proofs.Keeps.{on_each, lawful, still_condensing}
use Rattle.zr_space.proofs.Leaving.{no_hits}
use Rattle.zr_space.proofs.Roles.{roles_are}
use Rattle.zr_space.proofs.Sames.{moved_same, turned_meta, turned_saved}
use Rattle.zr_space.proofs.Synced.{leaving_state}
use Rattle.zr_space.proofs.Turning.{TurnedBelow, turned_all, turned_next}
use Rattle.zr_space.proofs.Views.{part_is, kept_same, kept_other}

false_true : false ≡ true → ⊥
false_true e = cc

-- ---- each device's copies are blocks like others

over_same : (x y : Kept) → IsSameKept x y → IsSameKept (without_copies x) (without_copies y)
over_same x y same = ap without_copies same

pub over_all : (first devs : List Kept) → length devs ≡ length first → TurnedBelow without_copies first devs (length devs) → AreTurned without_copies first devs
over_all = turned_all without_copies refl over_same

pub over_next : (first devs : List Kept) (n : ℕ) (k : Kept) (y : Uses) → n < length devs → k ≡ kept_of devs n → IsSameUses (taken_uses k.uses) y
    → TurnedBelow without_copies first devs n → TurnedBelow without_copies first (set devs n (record k { uses = y })) (n + 1)
over_next first devs n k y there is uses so =
    turned_next without_copies refl over_same first devs n (record k { uses = y }) there
    (subst (λ (z : Kept). IsSameKept (without_copies z) (record k { uses = y })) is (ap (λ (z : Uses). record k { uses = z }) uses)) so

over_account : (f : ℕ → Bool) (n : ℕ) (x : Uses) → IsAccount f n x → IsAccount f n (taken_uses x)
over_account f n x a = record {
  once = a.once;
  born = a.born;
  keeping = record { held = a.keeping.held; settled = a.keeping.settled; came = a.keeping.came; went = a.keeping.went };
  copying = record { held = λ u is. absurd (false_true is); unkept = λ u is. absurd (false_true is) };
  sum = a.sum;
  small = a.small;
  lists = record { held = a.lists.held; born = a.lists.born; kept = a.lists.kept; came = a.lists.came; went = a.lists.went; copies = tt; freed = a.lists.freed; late1 = a.lists.late1; late2 = a.lists.late2; meta = a.lists.meta; saved = a.lists.saved };
}

over_role : (f : ℕ → Bool) (n : ℕ) (x : Uses) → IsAccount f n x → (u : ℕ) → role_in (taken_uses x) u ≡ taken_over (role_in x u)
over_role f n x a u = let c = a.copying.held u in let k = a.copying.unkept u in grind (arith, nat_tests, c, k)

-- ---- a set of no units

pub none_list : (es : List Extent) → IsMaximal es → ((u : ℕ) → has_unit es u ≡ false) → es ≡ []
none_list [] m none = refl
none_list (e ∷ es) m none = let some = m.1 in let first = none e.start in absurd (grind (arith, nat_tests, some, first))

-- ---- the device is gone

-- of the devices of a space one is leaving, with nothing left to copy and no metadata, and it goes after all that are gone
pub record IsEnded (whole : Whole) (s t : Devices) (devs turned : List Kept) (d txg : ℕ) (n m : Mapped) : Type 0 where
  pub space : IsSpace whole s devs
  pub there : d < length devs
  pub leaving : is_leaving (kept_of devs d).row.state ≡ true
  pub meta : (u : ℕ) → has_unit (kept_of devs d).uses.meta u ≡ false
  pub saved : (u : ℕ) → has_unit (kept_of devs d).uses.saved u ≡ false
  pub later : (j : ℕ) → is_gone (kept_of devs j).row.state ≡ true → (kept_of devs j).row.gone < txg
  pub over : AreTurned without_copies (set devs d (record (kept_of devs d) { moves = n })) turned
  pub moves : m ≡ record (kept_of devs d).moves { state = Gone; synced = 0; opened = 0; spare = m.spare }
  pub gone : IsGone m
  pub forgets : Forgets s t d

module _ (whole : Whole) (s t : Devices) (devs turned : List Kept) (d txg spare : ℕ) (n m : Mapped) (h : IsEnded whole s t devs turned d txg n m) where
  abbrev pub x : Kept
  x = gone_device (kept_of devs d).row txg spare m

  abbrev pub next : List Kept
  next = set turned d x

  abbrev mid : Kept
  mid = record (kept_of devs d) { moves = n }

  turned_len : length turned ≡ length devs
  turned_len = h.over.count ∙ length-set devs d mid

  turned_there : d < length turned
  turned_there = let l = h.there in let c = turned_len in omega (arith, l, c)

  next_len : length next ≡ length devs
  next_len = length-set turned d x ∙ turned_len

  -- what holds of the device that is gone and of each other holds of all
  on_next : (P : ℕ → Kept → Type 0) → P d x → ((j : ℕ) → (j == d) ≡ false → (k : Kept) → IsSameKept (without_copies (kept_of devs j)) k → P j k) → (j : ℕ) → P j (kept_of next j)
  on_next P here others = on_each turned d x P turned_there here (λ j ne. others j ne (kept_of turned j) (subst (λ (k : Kept). IsSameKept (without_copies k) (kept_of turned j)) (kept_other devs d j mid ne) (h.over.each j)))

  turned_uses : (kept_of turned d).uses ≡ record (taken_uses (kept_of devs d).uses) { spare = (kept_of turned d).uses.spare }
  turned_uses = ap (λ (k : Kept). k.uses) (subst (λ (k : Kept). IsSameKept (without_copies k) (kept_of turned d)) (kept_same devs d mid h.there) (h.over.each d))

  was_leaving : IsLeaving (kept_of devs d).moves
  was_leaving = (h.space.moved d).leaving (leaving_state (kept_of devs d).row.state h.leaving)

  -- no device is leaving any more
  none_leaves : (j : ℕ) → is_leaving (kept_of next j).row.state ≡ true → ⊥
  none_leaves = on_next (λ j k. is_leaving k.row.state ≡ true → ⊥) (λ is. false_true is)
      (λ j ne k same is. let l : is_leaving (kept_of devs j).row.state ≡ true = sym (ap (λ (z : Kept). is_leaving z.row.state) same) ∙ is in let e = h.space.single j d l h.leaving in absurd (grind (arith, nat_tests, e, ne)))

  entries_same : m.entries ≡ (kept_of devs d).moves.entries
  entries_same = ap (λ (y : Mapped). y.entries) h.moves

  now_moved : IsMoved x.row m
  now_moved = record {
    state = ap (λ (y : Mapped). y.state) h.moves;
    service = λ is. absurd (false_true (ap is_on is));
    leaving = λ is. absurd (false_true (ap is_leaving is));
    gone = λ is. h.gone;
    fresh = subst (IsSet (kept_of devs d).row.units) (sym (ap (λ (y : Mapped). y.fresh) h.moves)) (h.space.moved d).fresh;
    came = subst (IsSet (kept_of devs d).row.units) (sym (ap (λ (y : Mapped). y.came) h.moves)) (h.space.moved d).came;
    went = subst (IsSet (kept_of devs d).row.units) (sym (ap (λ (y : Mapped). y.went) h.moves)) (h.space.moved d).went;
    sources = subst (All (EndsWithin (kept_of devs d).row.units)) (sym entries_same) (h.space.moved d).sources;
  }

  empty_account : IsAccount (free_at t d) (count_at t d) x.uses
  empty_account = record {
    once = λ u. let f = h.forgets.free d u in grind (arith, nat_tests, f);
    born = λ u is. absurd (false_true is);
    keeping = record { held = λ u is. absurd (false_true is); settled = λ u is. refl; came = λ u is. absurd (false_true is); went = λ u is. absurd (false_true is) };
    copying = record { held = λ u is. absurd (false_true is); unkept = λ u is. refl };
    sum = let c = h.forgets.count d in grind (arith, nat_tests, c);
    small = omega arith;
    lists = record { held = tt; born = tt; kept = tt; came = tt; went = tt; copies = tt; freed = record { blocks = tt; meta = tt }; late1 = record { blocks = tt; meta = tt }; late2 = record { blocks = tt; meta = tt }; meta = tt; saved = tt };
  }

  no_copies : (j u : ℕ) → has_unit (kept_of next j).uses.copies u ≡ false
  no_copies j u = on_next (λ i k. has_unit k.uses.copies u ≡ false) refl (λ i ne k same. ap (λ (z : Kept). has_unit z.uses.copies u) same) j

  abbrev new : Ways
  new = devices_of (map part_in next)

  abbrev old : Ways
  old = devices_of (map part_in devs)

  other_row : (j : ℕ) → (j == d) ≡ false → new.row j ≡ old.row j
  other_row j ne = rows_are next j ∙ (on_next (λ i k. (i == d) ≡ false → k.row ≡ (kept_of devs i).row) (λ no. absurd (grind (arith, nat_tests, no))) (λ i no k same yes. ap (λ (z : Kept). z.row) same) j ne ∙ sym (rows_are devs j))

  gone_row : new.row d ≡ x.row
  gone_row = rows_are next d ∙ ap (λ (k : Kept). k.row) (kept_same turned d x turned_there)

  old_row : (j : ℕ) → old.row j ≡ (kept_of devs j).row
  old_row j = rows_are devs j

  -- who leads to the device that is gone was gone before it, and what it leads to is there
  now_ranked : IsRanked new
  now_ranked j = subst (All (IsDestination new j)) (sym (entries j)) (step (j == d) refl)
    where
      entries : (j : ℕ) → new.entries j ≡ old.entries j
      entries j = entries_are next j ∙ (on_next (λ i k. k.moves.entries ≡ (kept_of devs i).moves.entries) entries_same (λ i ne k same. ap (λ (z : Kept). z.moves.entries) same) j ∙ sym (entries_are devs j))

      count : new.count ≡ old.count
      count = length-map next part_in ∙ (next_len ∙ sym (length-map devs part_in))

      units : (j : ℕ) → (new.row j).units ≡ (old.row j).units
      units j = either (j == d) refl
        where
          either : (b : Bool) → (j == d) ≡ b → (new.row j).units ≡ (old.row j).units
          either true is =
              let same : j ≡ d = grind (arith, nat_tests, is) in
              subst (λ i. (new.row i).units ≡ (old.row i).units) (sym same) (ap (λ (r : DevRow). r.units) gone_row ∙ sym (ap (λ (r : DevRow). r.units) (old_row d)))
          either false ne = ap (λ (r : DevRow). r.units) (other_row j ne)

      ranked_old : (j : ℕ) → All (IsDestination old j) (old.entries j)
      ranked_old = h.space.ranked

      was_there : is_gone (old.row d).state ≡ false
      was_there = ap (λ (r : DevRow). is_gone r.state) (old_row d) ∙ ap is_gone (leaving_state (kept_of devs d).row.state h.leaving)

      is_away : is_gone (new.row d).state ≡ true
      is_away = ap (λ (r : DevRow). is_gone r.state) gone_row

      -- from the device that is gone
      from_here : (e : Entry) → IsDestination old d e → IsDestination new d e
      from_here e w = record {
        known = let k = w.known in let c = count in omega (arith, k, c);
        other = w.other;
        within = let k = w.within in let u = units e.dev in omega (arith, k, u);
        later = inl (stays w.later);
      }
        where
          ne : (e.dev == d) ≡ false
          ne = let o = w.other in grind (arith, nat_tests, o)

          stays : (is_gone (old.row e.dev).state ≡ false) ⊎ ((is_gone (old.row d).state ≡ true) × ((old.row d).gone < (old.row e.dev).gone)) → is_gone (new.row e.dev).state ≡ false
          stays (inl there) = ap (λ (r : DevRow). is_gone r.state) (other_row e.dev ne) ∙ there
          stays (inr went) = absurd (false_true (sym was_there ∙ went.0))

      -- from another
      from_other : (j : ℕ) → (j == d) ≡ false → is_gone (old.row j).state ≡ true → (e : Entry) → IsDestination old j e → IsDestination new j e
      from_other j ne gone e w = record {
        known = let k = w.known in let c = count in omega (arith, k, c);
        other = w.other;
        within = let k = w.within in let u = units e.dev in omega (arith, k, u);
        later = to (e.dev == d) refl w.later;
      }
        where
          same_state : is_gone (new.row j).state ≡ true
          same_state = ap (λ (r : DevRow). is_gone r.state) (other_row j ne) ∙ gone

          went_before : (new.row j).gone < (new.row d).gone
          went_before =
              let a = ap (λ (r : DevRow). r.gone) (other_row j ne) in
              let b = ap (λ (r : DevRow). r.gone) (old_row j) in
              let c = ap (λ (r : DevRow). r.gone) gone_row in
              let l = h.later j (sym (ap (λ (r : DevRow). is_gone r.state) (old_row j)) ∙ gone) in
              omega (arith, a, b, c, l)

          to : (b : Bool) → (e.dev == d) ≡ b → (is_gone (old.row e.dev).state ≡ false) ⊎ ((is_gone (old.row j).state ≡ true) × ((old.row j).gone < (old.row e.dev).gone)) → (is_gone (new.row e.dev).state ≡ false) ⊎ ((is_gone (new.row j).state ≡ true) × ((new.row j).gone < (new.row e.dev).gone))
          to true is way =
              let same : e.dev ≡ d = grind (arith, nat_tests, is) in
              inr (same_state, subst (λ i. (new.row j).gone < (new.row i).gone) (sym same) went_before)
          to false other (inl there) = inl (ap (λ (r : DevRow). is_gone r.state) (other_row e.dev other) ∙ there)
          to false other (inr went) =
              let a = ap (λ (r : DevRow). r.gone) (other_row j ne) in
              let b = ap (λ (r : DevRow). r.gone) (other_row e.dev other) in
              let l = went.1 in
              inr (same_state, omega (arith, a, b, l))

      none_on : (j : ℕ) → (kept_of devs j).row.state ≡ On → old.entries j ≡ []
      none_on j on = entries_are devs j ∙ ap (λ (y : Mapped). y.entries) ((h.space.moved j).service on)

      by_state : (j : ℕ) → (j == d) ≡ false → (st : DevState) → (kept_of devs j).row.state ≡ st → All (IsDestination new j) (old.entries j)
      by_state j ne On is = All-same (IsDestination new j) (old.entries j) [] (none_on j is) (All-nil (IsDestination new j))
      by_state j ne Leaving is = let e = h.space.single j d (ap is_leaving is) h.leaving in absurd (grind (arith, nat_tests, e, ne))
      by_state j ne Gone is = All-weaker (IsDestination old j) (IsDestination new j) (from_other j ne (ap (λ (r : DevRow). is_gone r.state) (old_row j) ∙ ap is_gone is)) (old.entries j) (ranked_old j)

      step : (b : Bool) → (j == d) ≡ b → All (IsDestination new j) (old.entries j)
      step true is =
          let same : j ≡ d = grind (arith, nat_tests, is) in
          subst (λ i. All (IsDestination new i) (old.entries i)) (sym same) (All-weaker (IsDestination old d) (IsDestination new d) from_here (old.entries d) (ranked_old d))
      step false ne = by_state j ne (kept_of devs j).row.state refl

  pub gone_space : IsSpace whole t next
  gone_space = record {
    devices = let e = h.space.devices in let n = h.forgets.devs in let l = next_len in omega (arith, e, n, l);
    few = let f = h.space.few in let l = next_len in omega (arith, f, l);
    units = on_next (λ j k. units_at t j ≡ k.uses.units) (let u = h.forgets.units d in grind (arith, nat_tests, u)) (λ j ne k same. let u = h.forgets.units j in let w = h.space.units j in let e = ap (λ (z : Kept). z.uses.units) same in grind (arith, nat_tests, u, w, e, ne));
    rows = on_next (λ j k. k.uses.units ≡ units_there k.row) refl (λ j ne k same. ap (λ (z : Kept). z.uses.units) same ∙ (h.space.rows j ∙ ap (λ (z : Kept). units_there z.row) (sym same)));
    small = on_next (λ j k. k.row.units < 2 ^ 40) (h.space.small d) (λ j ne k same. subst (λ (r : DevRow). r.units < 2 ^ 40) (sym (ap (λ (z : Kept). z.row) same)) (h.space.small j));
    moved = on_next (λ j k. IsMoved k.row k.moves) now_moved (λ j ne k same. subst (λ (r : DevRow). IsMoved r k.moves) (sym (ap (λ (z : Kept). z.row) same)) (moved_same (kept_of devs j).row (kept_of devs j).moves k.moves (ap (λ (z : Kept). z.moves) same) (h.space.moved j)));
    serves = on_next (λ j k. serves_at t j ≡ (nat_lt j (length next) && is_on k.row.state)) (let v = h.forgets.serves d in grind (arith, nat_tests, v))
        (λ j ne k same. let v = h.forgets.serves j in let w = h.space.serves j in let l = next_len in let e = ap (λ (z : Kept). is_on z.row.state) same in grind (arith, nat_tests, v, w, l, e, ne));
    account = on_next (λ j k. IsAccount (free_at t j) (count_at t j) k.uses) empty_account
        (λ j ne k same. same_account (free_at t j) (count_at t j) (taken_uses (kept_of devs j).uses) k.uses (ap (λ (z : Kept). z.uses) same)
        (over_account (free_at t j) (count_at t j) (kept_of devs j).uses
        (account_as (free_at s j) (free_at t j) (count_at s j) (count_at t j) (kept_of devs j).uses (λ u. let f = h.forgets.free j u in grind (arith, nat_tests, f, ne)) (let c = h.forgets.count j in grind (arith, nat_tests, c, ne)) (h.space.account j))));
    copies = λ j u. no_hits next j u (λ i is. absurd (none_leaves i is)) ∙ ap one_if (sym (no_copies j u));
    single = λ i j one two. absurd (none_leaves i one);
    ranked = now_ranked;
    tied = λ j is. absurd (none_leaves j is);
    condensing = λ c is.
        on_next (λ j k. IsCondensing c (kept_of devs j) → IsCondensing c k) (λ g. absurd (false_true (sym (ap is_leaving g.gone) ∙ h.leaving)))
        (λ j ne k same. still_condensing c (kept_of devs j) k (ap (λ (z : Kept). z.row) same) (ap (λ (z : Kept). z.moves.entries) same) (ap (λ (z : Kept). z.moves.counts) same)) c.dev (h.space.condensing c is);
  }

  -- ---- what it does to the space

  roles : (e u : ℕ) → role_at (space_of whole next) e u ≡ (if e == d then Absent else taken_over (role_at (space_of whole devs) e u))
  roles e u =
      roles_are whole next e u gone_space
      ∙ (on_next (λ i k. role_in k.uses u ≡ (if i == d then Absent else taken_over (role_in (kept_of devs i).uses u)))
      (grind (arith, nat_tests))
      (λ i ne k same. ap (λ (z : Kept). role_in z.uses u) same ∙ (over_role (free_at s i) (count_at s i) (kept_of devs i).uses (h.space.account i) u ∙ rw ne refl))
      e
      ∙ ap (λ r. if e == d then Absent else taken_over r) (sym (roles_are whole devs e u h.space)))

  gone_part : part_of (map part_in next) d ≡ part_in x
  gone_part = part_is next d ∙ ap part_in (kept_same turned d x turned_there)

  same_other : (j : ℕ) → j ≢ d → IsSamePart (part_of (map part_in devs) j) (part_of (map part_in next) j)
  same_other j ne =
      subst (λ q. IsSamePart q (part_of (map part_in next) j)) (sym (part_is devs j))
      (subst (λ q. IsSamePart (part_in (kept_of devs j)) q) (sym (part_is next j))
      (on_next (λ i k. (i == d) ≡ false → IsSamePart (part_in (kept_of devs i)) (part_in k))
      (λ no. absurd (grind (arith, nat_tests, no)))
      (λ i no k same yes. rw same (record { row = refl; entries = refl; counts = refl; late1 = refl; late2 = refl }))
      j (grind (arith, nat_tests, ne))))

  same_marks : (j u : ℕ) → j ≢ d → has_unit (part_of (map part_in next) j).fresh u ≡ has_unit (part_of (map part_in devs) j).fresh u
  same_marks j u ne =
      ap (λ (q : DevPart). has_unit q.fresh u) (part_is next j)
      ∙ (on_next (λ i k. (i == d) ≡ false → has_unit k.moves.fresh u ≡ has_unit (kept_of devs i).moves.fresh u)
      (λ no. absurd (grind (arith, nat_tests, no)))
      (λ i no k same yes. ap (λ (z : Kept). has_unit z.moves.fresh u) same)
      j (grind (arith, nat_tests, ne))
      ∙ sym (ap (λ (q : DevPart). has_unit q.fresh u) (part_is devs j)))

  no_meta : (kept_of turned d).uses.meta ≡ []
  no_meta = ap (λ (y : Uses). y.meta) turned_uses ∙ none_list (kept_of devs d).uses.meta (h.space.account d).lists.meta h.meta

  no_saved : (kept_of turned d).uses.saved ≡ []
  no_saved = ap (λ (y : Uses). y.saved) turned_uses ∙ none_list (kept_of devs d).uses.saved (h.space.account d).lists.saved h.saved

  pub finishes : Finishes (space_of whole devs) (space_of whole next) d txg
  finishes = record {
    row_is = ap (λ (q : DevPart). q.row) gone_part ∙ ap (λ (q : DevPart). record q.row { state = Gone; gone = txg }) (sym (part_is devs d));
    entries = ap (λ (q : DevPart). q.entries) gone_part ∙ (entries_same ∙ ap (λ (q : DevPart). q.entries) (sym (part_is devs d)));
    counts = ap (λ (q : DevPart). q.counts) gone_part ∙ (ap (λ (y : Mapped). y.counts) h.moves ∙ (was_leaving.counts ∙ ap (λ (q : DevPart). replicate (length q.entries) 0) (sym (part_is devs d))));
    fresh = ap (λ (q : DevPart). q.fresh) gone_part ∙ (ap (λ (y : Mapped). y.fresh) h.moves ∙ ap (λ (q : DevPart). q.fresh) (sym (part_is devs d)));
    roles = roles;
    elsewhere = record {
      version = refl;
      cond = refl;
      ckpt = refl;
      meta = meta_set 0 d turned x (sym no_meta) ∙ (turned_meta without_copies (λ k. refl) (set devs d mid) turned h.over ∙ meta_set 0 d devs mid refl);
      saved_meta = saved_set 0 d turned x (sym no_saved) ∙ (turned_saved without_copies (λ k. refl) (set devs d mid) turned h.over ∙ saved_set 0 d devs mid refl);
      devices = length-map next part_in ∙ (next_len ∙ sym (length-map devs part_in));
      others = same_other;
      fresh = λ j u ne. same_marks j u ne;
      lawful = λ was. lawful whole t next gone_space;
    };
  }
