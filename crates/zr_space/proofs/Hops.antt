-- A free marks the units of a device that is gone.
use Rattle.std.proofs.Common.{◌≡◌, ℕ, zero, suc, ◌+◌, ◌-◌, ◌≤◌, ◌<◌, ◌^◌, Bool, true, false, ◌==◌, ◌&&◌, ◌||◌, nat_lt, List, [], ◌∷◌, length, refl, ◌∙◌, sym, ap, subst, ⊎_elim, arith}
use Rattle.std.specs.Prelude.{slice_index, All}
use Rattle.std.specs.List.{AllByRecursion}
use Rattle.std.proofs.lemmas.Bool.Decides.{nat_tests}
use Rattle.std.proofs.lemmas.List.{length-map}
use Rattle.std.proofs.lemmas.List.Elements.{recursion_from_All}
use Rattle.zr_base.specs.declared.space.DevPart.{DevPart}
use Rattle.zr_base.specs.declared.space.DevState.{DevState}
use Rattle.zr_base.specs.declared.space.DevState.TheVariants.{On, Leaving, Gone}
use Rattle.zr_base.specs.declared.space.Entry.{Entry}
use Rattle.zr_base.specs.declared.space.Extent.{Extent}
use Rattle.zr_base.specs.Extents.{in_extent, has_unit, HasNone}
use Rattle.zr_rules.specs.Condense.{fresh_units}
use Rattle.zr_rules.specs.Places.{one_if, count_below, is_on, is_gone, is_leaving}
use Rattle.zr_rules.specs.Mappings.{entry_at, has_source, in_source}
use Rattle.zr_rules.specs.Space.{role_at}
use Rattle.zr_rules.specs.Equation.{fresh_in}
use Rattle.zr_metaslab.specs.Devices.{Devices as Slabs, free_at, count_at}
use Rattle.zr_obsolete.specs.Obsolete.{Fits}
use Rattle.zr_units.specs.Uses.{Uses, IsAccount}
use Rattle.zr_indirect.specs.Mapped.{Mapped, HasEntries}
use Rattle.zr_indirect.specs.Changes.{was_fresh_in}
use Rattle.zr_chain.specs.declared.visit.Visited.TheVariants.{Hop}
use Rattle.zr_chain.specs.Visits.{hop_hits}
use Rattle.zr_chain.proofs.Ways.{cases_bool}
use Rattle.zr_space.specs.declared.whole.Whole.{Whole}
use Rattle.zr_space.specs.Freeing.{hops_in, HasRoom}
use Rattle.zr_space.specs.Views.{Kept, kept_of, part_in, space_of, role_in, EndsWithin, IsMoved, IsTied, IsSpace}
use Rattle.zr_space.specs.FreeVisits.{CanFree, FreesVisit, MarksOn, HaveSpare}
use Rattle.zr_space.proofs.Changing.{but_each, copies_in, hits_same, AreChanged, IsSameBeside, changed_space, changed_frame, same_meta, fresh_is}
use Rattle.zr_space.proofs.Devs.{entries_are}
use Rattle.zr_space.proofs.Freeing.{marked_none}
use Rattle.zr_space.proofs.Keeps.{set_of}
use Rattle.zr_space.proofs.Roles.{roles_are}
use Rattle.zr_space.proofs.Rooted.{SameUses}
use Rattle.zr_space.proofs.Sizing.{within_of}
use Rattle.zr_space.proofs.Views.{part_is}

false_true : false ≡ true → ⊥
false_true e = cc

state_gone : (st : DevState) → is_gone st ≡ true → st ≡ Gone
state_gone On is = absurd (cc)
state_gone Leaving is = absurd (cc)
state_gone Gone is = refl

source_within : (n : ℕ) (es : List Entry) (u : ℕ) → AllByRecursion (EndsWithin n) es → has_source es u ≡ true → u < n
source_within n [] u all is = absurd (false_true is)
source_within n (e ∷ es) u all is = ⊎_elim
    (λ here. let a = all.0 in grind (arith, nat_tests, here, a))
    (λ other. source_within n es u all.1 (sym (rw other refl) ∙ is))
    (cases_bool (in_source e u))

-- a device that is not leaving has no copies
none_of : (y : Kept) → is_leaving y.row.state ≡ false → (d u : ℕ) → copies_in (part_in y) d u ≡ 0
none_of y stays d u = rw stays refl

-- a set with an extent more has no more units of an entry than both
with_more : (n src : ℕ) (e : Extent) (es : List Extent) (h : ℕ → ℕ) → ((k : ℕ) → one_if (in_extent e (src + k)) ≤ h k)
    → count_below n (λ k. has_unit (e ∷ es) (src + k)) ≤ count_below n (λ k. has_unit es (src + k)) + count_below n (λ k. nat_lt 0 (h k))
with_more zero src e es h le = omega arith
with_more (suc n) src e es h le =
    let rest = with_more n src e es h le in
    let own : one_if (has_unit (e ∷ es) (src + n)) ≤ one_if (has_unit es (src + n)) + one_if (nat_lt 0 (h n)) = let l = le n in grind (arith, nat_tests, l) in
    omega (arith, rest, own)

module _ (whole : Whole) (s : Slabs) (devs : List Kept) (d : ℕ) (e : Extent) (space : IsSpace whole s devs) (can : CanFree (space_of whole devs) (Hop d e ∷ [])) where
  abbrev k : Kept
  k = kept_of devs d

  pub there : d < length devs
  there = let c = can.known.0.0 in let l = length-map devs part_in in omega (arith, c, l)

  row_gone : is_gone k.row.state ≡ true
  row_gone = sym (ap (λ (p : DevPart). is_gone p.row.state) (part_is devs d)) ∙ can.known.0.1

  row_state : k.row.state ≡ Gone
  row_state = state_gone k.row.state row_gone

  pub state : k.moves.state ≡ Gone
  state = (space.moved d).state ∙ row_state

  pub some : 0 < e.len
  some = can.mapped.0.0

  pub entries : HasEntries k.moves.entries e
  entries = subst (λ (es : List Entry). HasEntries es e) (entries_are devs d) can.mapped.0.1

  inside : (u : ℕ) → in_extent e u ≡ true → u < k.row.units
  inside u is = source_within k.row.units k.moves.entries u (recursion_from_All (EndsWithin k.row.units) k.moves.entries (space.moved d).sources) (entries u is)

  pub in_range : e.start + e.len ≤ 2 ^ 62
  in_range =
      let l = some in
      let last : in_extent e (e.start + (e.len - 1)) ≡ true = grind (arith, nat_tests, l) in
      let lt = inside (e.start + (e.len - 1)) last in
      let small = space.small d in
      omega (arith, lt, small, l)

  pub unmarked : HasNone k.moves.fresh e
  unmarked = marked_none whole s devs space d e can.fit.0

  pub fits : Fits k.moves.entries k.moves.counts (e ∷ k.moves.fresh)
  fits i lt =
      let entry : Entry = entry_at k.moves.entries i in
      let room : HasRoom (space_of whole devs) (Hop d e ∷ []) d i = can.room d i can.known.0.1 (subst (λ (p : DevPart). i < length p.entries) (sym (part_is devs d)) lt) in
      let had : slice_index k.moves.counts i + fresh_units k.moves.fresh entry + hops_in (Hop d e ∷ []) d entry ≤ entry.len =
      subst (λ (p : DevPart). slice_index p.counts i + fresh_in p (entry_at p.entries i) + hops_in (Hop d e ∷ []) d (entry_at p.entries i) ≤ (entry_at p.entries i).len) (part_is devs d) room in
      let more = with_more entry.len entry.src e k.moves.fresh (λ j. hop_hits (Hop d e ∷ []) d (entry.src + j)) (λ j. hit d (entry.src + j)) in
      omega (arith, had, more)
    where
      hit : (d u : ℕ) → one_if (in_extent e u) ≤ hop_hits (Hop d e ∷ []) d u
      hit d u = grind (arith, nat_tests)

  pub spare : HaveSpare devs e.len → e.len ≤ k.moves.spare
  spare room = (room d there).1 (ap is_on state)

  module _ (next : List Kept) (m : MarksOn devs next d e) where
    abbrev x : Kept
    x = kept_of next d

    same_row : x.row ≡ k.row
    same_row = ap (λ (z : Kept). z.row) m.here

    same_uses : x.uses ≡ k.uses
    same_uses = ap (λ (z : Kept). z.uses) m.here

    moves_are : x.moves.entries ≡ k.moves.entries
    moves_are = ap (λ (z : Mapped). z.entries) m.marks.others

    moved : IsMoved x.row x.moves
    moved = subst (λ r. IsMoved r x.moves) (sym same_row) (record {
      state = ap (λ (z : Mapped). z.state) m.marks.others ∙ (space.moved d).state;
      service = λ is. absurd (false_true (sym (ap is_on row_state) ∙ ap is_on is));
      leaving = λ is. absurd (false_true (sym (ap is_leaving row_state) ∙ ap is_leaving is));
      gone = λ is. m.gone;
      fresh = set_of k.row.units k.row.units x.moves.fresh (omega arith) m.gone.fresh_maximal
          (λ u has. let f = m.marks.fresh.members u in let a = within_of k.row.units k.moves.fresh (space.moved d).fresh.within u in let b = inside u in grind (arith, nat_tests, f, a, b, has));
      came = set_of k.row.units k.row.units x.moves.came (omega arith) m.gone.came_maximal
          (λ u has. let f = m.marks.came u in let a = within_of k.row.units k.moves.came (space.moved d).came.within u in let b = inside u in grind (arith, nat_tests, f, a, b, has));
      went = set_of k.row.units k.row.units x.moves.went (omega arith) m.gone.went_maximal
          (λ u has. let f = m.marks.went u in let a = within_of k.row.units k.moves.went (space.moved d).went.within u in grind (arith, nat_tests, f, a, has));
      sources = subst (All (EndsWithin k.row.units)) (sym moves_are) (space.moved d).sources;
    })

    stays : is_leaving x.row.state ≡ false
    stays = ap (λ r. is_leaving r.state) same_row ∙ ap is_leaving row_state

    changed : AreChanged whole s s devs next
    changed = record {
      count = m.others.count;
      row = but_each devs next d (λ j y. y.row ≡ (kept_of devs j).row) m.others same_row (λ j ne. refl);
      entries = but_each devs next d (λ j y. y.moves.entries ≡ (kept_of devs j).moves.entries) m.others moves_are (λ j ne. refl);
      counts = but_each devs next d (λ j y. y.moves.counts ≡ (kept_of devs j).moves.counts) m.others (ap (λ (z : Mapped). z.counts) m.marks.others) (λ j ne. refl);
      moved = but_each devs next d (λ j y. IsMoved y.row y.moves) m.others moved (λ j ne. space.moved j);
      units = but_each devs next d (λ j y. y.uses.units ≡ (kept_of devs j).uses.units) m.others (ap (λ (z : Uses). z.units) same_uses) (λ j ne. refl);
      account = but_each devs next d (λ j y. IsAccount (free_at s j) (count_at s j) y.uses) m.others (subst (IsAccount (free_at s d) (count_at s d)) (sym same_uses) (space.account d)) (λ j ne. space.account j);
      copies = λ j u.
          hits_same devs next j u m.others.count
          (but_each devs next d (λ i y. copies_in (part_in y) j u ≡ copies_in (part_in (kept_of devs i)) j u) m.others (none_of x stays j u ∙ sym (none_of k (ap is_leaving row_state) j u)) (λ i ne. refl))
          ∙ (space.copies j u ∙ ap one_if (sym (but_each devs next d (λ i y. has_unit y.uses.copies u ≡ has_unit (kept_of devs i).uses.copies u) m.others (ap (λ (z : Uses). has_unit z.copies u) same_uses) (λ i ne. refl) j)));
      devices = record { devs = refl; units = λ j. refl; serves = λ j. refl };
      tied = but_each devs next d (λ j y. is_leaving y.row.state ≡ true → IsTied whole y) m.others (λ is. absurd (false_true (sym stays ∙ is))) (λ j ne. space.tied j);
    }

    beside : IsSameBeside devs next
    beside = record {
      meta = but_each devs next d (λ j y. y.uses.meta ≡ (kept_of devs j).uses.meta) m.others (ap (λ (z : Uses). z.meta) same_uses) (λ j ne. refl);
      saved = but_each devs next d (λ j y. y.uses.saved ≡ (kept_of devs j).uses.saved) m.others (ap (λ (z : Uses). z.saved) same_uses) (λ j ne. refl);
      late1 = but_each devs next d (λ j y. y.uses.late1 ≡ (kept_of devs j).uses.late1) m.others (ap (λ (z : Uses). z.late1) same_uses) (λ j ne. refl);
      late2 = but_each devs next d (λ j y. y.uses.late2 ≡ (kept_of devs j).uses.late2) m.others (ap (λ (z : Uses). z.late2) same_uses) (λ j ne. refl);
      synced = but_each devs next d (λ j y. y.moves.synced ≡ (kept_of devs j).moves.synced) m.others (ap (λ (z : Mapped). z.synced) m.marks.others) (λ j ne. refl);
      root = but_each devs next d (λ j y. SameUses (kept_of devs j).uses y.uses) m.others (subst (SameUses k.uses) (sym same_uses) (record { held = λ u. refl; kept = λ u. refl })) (λ j ne. record { held = λ u. refl; kept = λ u. refl });
      marks = but_each devs next d (λ j y. (u : ℕ) → was_fresh_in y.moves u ≡ was_fresh_in (kept_of devs j).moves u) m.others m.root (λ j ne u. refl);
    }

    pub hop_space : IsSpace whole s next
    hop_space = changed_space whole s s devs next space changed

    role_is : (j u : ℕ) → role_at (space_of whole next) j u ≡ role_at (space_of whole devs) j u
    role_is j u =
        roles_are whole next j u hop_space
        ∙ (but_each devs next d (λ i y. role_in y.uses u ≡ role_in (kept_of devs i).uses u) m.others (ap (λ (z : Uses). role_in z u) same_uses) (λ i ne. refl) j
        ∙ sym (roles_are whole devs j u space))

    fresh_are : (j u : ℕ) → has_unit (kept_of next j).moves.fresh u ≡ (has_unit (kept_of devs j).moves.fresh u || ((d == j) && in_extent e u))
    fresh_are j u = but_each devs next d (λ i y. has_unit y.moves.fresh u ≡ (has_unit (kept_of devs i).moves.fresh u || ((d == i) && in_extent e u))) m.others
        (let f = m.marks.fresh.members u in grind (arith, nat_tests, f))
        (λ i ne. grind (arith, nat_tests, ne))
        j

    pub hop_frees : (kept : Bool) → FreesVisit kept (space_of whole devs) (space_of whole next) (Hop d e)
    hop_frees kept = record {
      roles = role_is;
      fresh = λ j u. fresh_is whole next j u ∙ (fresh_are j u ∙ sym (ap (λ (b : Bool). b || ((d == j) && in_extent e u)) (fresh_is whole devs j u)));
      meta = same_meta whole s s devs next space changed beside;
      frame = changed_frame whole s s devs next space changed beside;
    }

    pub hop_spare : (n : ℕ) → HaveSpare devs (e.len + n) → HaveSpare next n
    hop_spare n room j lt =
        let count = m.others.count in
        let had = room j (omega (arith, lt, count)) in
        but_each devs next d (λ i y. (e.len + n ≤ (kept_of devs i).uses.spare) × (is_on (kept_of devs i).moves.state ≡ false → e.len + n ≤ (kept_of devs i).moves.spare) → (n ≤ y.uses.spare) × (is_on y.moves.state ≡ false → n ≤ y.moves.spare)) m.others
        (λ h. (
          (let one = h.0 in let u = ap (λ (z : Uses). z.spare) same_uses in omega (arith, one, u)),
          λ off. let two = h.1 (ap is_on state) in let left = m.spare in omega (arith, two, left),
        ))
        (λ i ne h. ((let one = h.0 in omega (arith, one)), λ off. let two = h.1 off in omega (arith, two)))
        j had
