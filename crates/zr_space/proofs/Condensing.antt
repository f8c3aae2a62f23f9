-- The mapping of a removed device is another one, and no unit changes its role.
use Rattle.std.proofs.Common.{◌≡◌, ◌≢◌, ◌⊎◌, ℕ, zero, suc, ◌+◌, ◌≤◌, ◌<◌, ◌^◌, ◌&&◌, Bool, true, false, ◌==◌, nat_le, nat_lt, List, [], ◌∷◌, map, length, get_or, refl, ◌∙◌, sym, ap, ap₂, subst, arith, ⊎_elim, not, if◌then◌else◌, Option, Some, None}
use Rattle.std.proofs.Math.ListN.{set}
use Rattle.std.specs.Prelude.{All, MatchBool, Result, Ok, Err, OnOk, OnErr, IfOk}
use Rattle.std.proofs.lemmas.Bool.{cases_lt, cases_eq}
use Rattle.std.specs.List.{sum_by, zip}
use Rattle.std.proofs.lemmas.Bool.Decides.{nat_tests}
use Rattle.std.proofs.lemmas.List.{length-map, length-set, take_all}
use Rattle.std.proofs.lemmas.List.Elements.{All-nil, All-cons, All-head, All-tail, All-filter, All-weaker}
use Rattle.std.proofs.lemmas.List.Sums.{sum_by-cons}
use Rattle.zr_base.specs.declared.space.DevPart.{DevPart}
use Rattle.zr_base.specs.declared.space.DevRow.{DevRow}
use Rattle.zr_base.specs.declared.space.CondPart.{CondPart}
use Rattle.zr_base.specs.declared.space.Condensed.{Condensed}
use Rattle.zr_base.specs.declared.space.Condensed.TheVariants as condensed_as
use Rattle.zr_base.specs.declared.space.DevState.TheVariants.{Gone}
use Rattle.zr_base.specs.declared.space.Entry.{Entry}
use Rattle.zr_base.specs.declared.space.Extent.{Extent}
use Rattle.zr_base.specs.Extents.{has_unit}
use Rattle.zr_rules.specs.Places.{one_if, part_of, state_of_dev, is_on, is_leaving, is_gone}
use Rattle.zr_rules.specs.Condense.{IsWorked, condensed, folded, is_used, fresh_units}
use Rattle.zr_rules.specs.Mappings.{IsRising, HasSourceAt, entry_at, target}
use Rattle.zr_condense.proofs.Leading.{entries_in, zip_entries, target_kept}
use Rattle.zr_indirect.proofs.Folding.{folded_at, count_none}
use Rattle.zr_space.proofs.Counts.{count_as}
use Rattle.zr_rules.specs.Devices.{Devices as Ways, devices_of}
use Rattle.zr_rules.specs.Resolve.{IsDestination}
use Rattle.zr_rules.specs.Space.{Space, IsLawful, IsSet, role_at, copy_hits, is_copy_by}
use Rattle.zr_rules.specs.Frees.{IsSamePart}
use Rattle.zr_rules.specs.Steps.{Condenses, Remaps, next_kept, with_cond, worked}
use Rattle.zr_metaslab.specs.Devices.{Devices, free_at, count_at, units_at}
use Rattle.zr_indirect.specs.Mapped.{Mapped, IsGone}
use Rattle.zr_indirect.specs.Changes.{FoldsFresh}
use Rattle.zr_units.specs.Uses.{IsAccount}
use Rattle.zr_space.specs.Condensing.{IsCondensed, IsUnderWay, IsInUse, LeadsAsBefore}
use Rattle.zr_space.specs.Views.{Kept, kept_of, part_in, role_in, space_of, units_there, EndsWithin, IsMoved, IsTied, IsCondensing, IsSpace}
use Rattle.zr_space.specs.declared.whole.Whole.{Whole}
use Rattle.zr_space.proofs.Devs.{rows_are, entries_are}
use Rattle.zr_space.proofs.Frames.{meta_set, saved_set}
use Rattle.zr_space.proofs.Keeps.{on_each, lawful, set_of}
use Rattle.zr_space.proofs.Roles.{roles_are}
use Rattle.zr_space.proofs.Sizing.{within_of}
use Rattle.zr_space.proofs.Turning.{none_beyond}
use Rattle.zr_space.proofs.Views.{part_is, kept_same, kept_other}

false_true : false ≡ true → ⊥
false_true e = cc

some_none : (c : CondPart) → Some c ≡ None → ⊥
some_none c e = cc

-- ---- the condensing that goes on

-- a space with another condensing, of which the record is that of what was worked through
pub cond_space : (whole : Whole) (s : Devices) (devs : List Kept) (cond : Option CondPart) → IsSpace whole s devs → ((c : CondPart) → cond ≡ Some c → IsCondensing c (kept_of devs c.dev)) → IsSpace (record whole { cond = cond }) s devs
cond_space whole s devs cond a under_way = record {
  devices = a.devices;
  few = a.few;
  units = a.units;
  rows = a.rows;
  small = a.small;
  moved = a.moved;
  serves = a.serves;
  account = a.account;
  copies = a.copies;
  single = a.single;
  ranked = a.ranked;
  tied = λ d is. let t = a.tied d is in record { left = t.left; copied = t.copied; quiet = t.quiet; unkept = t.unkept; uncopied = t.uncopied };
  condensing = under_way;
}

pub under_way_in : (whole : Whole) (devs : List Kept) (c : CondPart) → IsCondensing c (kept_of devs c.dev) → IsUnderWay (space_of whole devs) c
under_way_in whole devs c h = record {
  gone = ap (λ (p : DevPart). p.row.state) (part_is devs c.dev) ∙ h.gone;
  worked = subst (λ (p : DevPart). IsWorked p c) (sym (part_is devs c.dev)) h.worked;
}

pub condensing_in : (whole : Whole) (devs : List Kept) (c : CondPart) → IsUnderWay (space_of whole devs) c → IsCondensing c (kept_of devs c.dev)
condensing_in whole devs c h = record {
  gone = sym (ap (λ (p : DevPart). p.row.state) (part_is devs c.dev)) ∙ h.gone;
  worked = subst (λ (p : DevPart). IsWorked p c) (part_is devs c.dev) h.worked;
}

-- ---- one device with another mapping

-- a device that is gone has another mapping, each entry of which it had
pub record IsRemapped (whole : Whole) (s : Devices) (devs : List Kept) (d : ℕ) (k : Kept) (m : Mapped) : Type 0 where
  pub space : IsSpace whole s devs
  pub there : d < length devs
  pub kept : k ≡ kept_of devs d
  pub gone : k.row.state ≡ Gone
  pub none : whole.cond ≡ None
  pub state : m.state ≡ Gone
  pub is : IsGone m
  pub fresh : IsSet k.row.units m.fresh
  pub came : IsSet k.row.units m.came
  pub went : IsSet k.row.units m.went
  pub sources : All (EndsWithin k.row.units) m.entries
  pub destinations : All (IsDestination (devices_of (map part_in devs)) d) m.entries

abbrev copies_in : DevPart → ℕ → ℕ → ℕ
copies_in p d u = if is_leaving p.row.state then sum_by (λ (e : Entry). one_if (is_copy_by p d u e)) p.entries else 0

-- a device that is not leaving has no copies
hits_gone : (devs : List Kept) (i d u : ℕ) (x : Kept) → x.row ≡ (kept_of devs i).row → is_leaving x.row.state ≡ false → copy_hits (map part_in (set devs i x)) d u ≡ copy_hits (map part_in devs) d u
hits_gone [] zero d u x row stays = refl
hits_gone [] (suc i) d u x row stays = refl
hits_gone (y ∷ ys) zero d u x row stays =
    let new : copies_in (part_in x) d u ≡ 0 = rw stays refl in
    let was : is_leaving y.row.state ≡ false = ap (λ (r : DevRow). is_leaving r.state) (sym row) ∙ stays in
    let old : copies_in (part_in y) d u ≡ 0 = rw was refl in
    sum_by-cons (λ p. copies_in p d u) (part_in x) (map part_in ys) ∙ (ap (λ n. n + sum_by (λ p. copies_in p d u) (map part_in ys)) (new ∙ sym old) ∙ sym (sum_by-cons (λ p. copies_in p d u) (part_in y) (map part_in ys)))
hits_gone (y ∷ ys) (suc i) d u x row stays =
    sum_by-cons (λ p. copies_in p d u) (part_in y) (map part_in (set ys i x)) ∙ (ap (λ n. copies_in (part_in y) d u + n) (hits_gone ys i d u x row stays) ∙ sym (sum_by-cons (λ p. copies_in p d u) (part_in y) (map part_in ys)))

abbrev MayLead : DevRow → DevRow → Type 0
MayLead from to = (is_gone to.state ≡ false) ⊎ ((is_gone from.state ≡ true) × (from.gone < to.gone))

-- destinations are those of the rows
destinations : (a b : Ways) (d : ℕ) (e : Entry) → b.count ≡ a.count → ((j : ℕ) → b.row j ≡ a.row j) → IsDestination a d e → IsDestination b d e
destinations a b d e count rows h = record {
  known = let k = h.known in omega (arith, k, count);
  other = h.other;
  within = subst (λ (r : DevRow). e.dst + e.len ≤ r.units) (sym (rows e.dev)) h.within;
  later = subst (λ (r : DevRow). MayLead (b.row d) r) (sym (rows e.dev)) (subst (λ (r : DevRow). MayLead r (a.row e.dev)) (sym (rows d)) h.later);
}

module _ (whole : Whole) (s : Devices) (devs : List Kept) (d : ℕ) (k : Kept) (m : Mapped) (h : IsRemapped whole s devs d k m) where
  abbrev x : Kept
  x = record k { moves = m }

  abbrev next : List Kept
  next = set devs d x

  stays : is_leaving k.row.state ≡ false
  stays = ap is_leaving h.gone

  same_row : x.row ≡ (kept_of devs d).row
  same_row = ap (λ (z : Kept). z.row) h.kept

  same_rows : (j : ℕ) → (kept_of next j).row ≡ (kept_of devs j).row
  same_rows = on_each devs d x (λ j y. y.row ≡ (kept_of devs j).row) h.there same_row (λ j ne. refl)

  count_is : (devices_of (map part_in next)).count ≡ (devices_of (map part_in devs)).count
  count_is = length-map next part_in ∙ (length-set devs d x ∙ sym (length-map devs part_in))

  ways : (j : ℕ) → (devices_of (map part_in next)).row j ≡ (devices_of (map part_in devs)).row j
  ways j = rows_are next j ∙ (same_rows j ∙ sym (rows_are devs j))

  moved : IsMoved x.row m
  moved = record {
    state = h.state ∙ sym h.gone;
    service = λ is. absurd (false_true (sym (ap is_on h.gone) ∙ ap is_on is));
    leaving = λ is. absurd (false_true (sym (ap is_leaving h.gone) ∙ ap is_leaving is));
    gone = λ is. h.is;
    fresh = h.fresh;
    came = h.came;
    went = h.went;
    sources = h.sources;
  }

  pub remapped_space : IsSpace whole s next
  remapped_space = record {
    devices = let e = h.space.devices in let l = length-set devs d x in omega (arith, e, l);
    few = let f = h.space.few in let l = length-set devs d x in omega (arith, f, l);
    units = on_each devs d x (λ j y. units_at s j ≡ y.uses.units) h.there (h.space.units d ∙ ap (λ (z : Kept). z.uses.units) (sym h.kept)) (λ j ne. h.space.units j);
    rows = on_each devs d x (λ j y. y.uses.units ≡ units_there y.row) h.there (subst (λ (z : Kept). z.uses.units ≡ units_there z.row) (sym h.kept) (h.space.rows d)) (λ j ne. h.space.rows j);
    small = on_each devs d x (λ j y. y.row.units < 2 ^ 40) h.there (subst (λ (z : Kept). z.row.units < 2 ^ 40) (sym h.kept) (h.space.small d)) (λ j ne. h.space.small j);
    moved = on_each devs d x (λ j y. IsMoved y.row y.moves) h.there moved (λ j ne. h.space.moved j);
    serves = λ j. h.space.serves j ∙ ap₂ (λ (n : ℕ) (r : DevRow). nat_lt j n && is_on r.state) (sym (length-set devs d x)) (sym (same_rows j));
    account = on_each devs d x (λ j y. IsAccount (free_at s j) (count_at s j) y.uses) h.there (subst (λ (z : Kept). IsAccount (free_at s d) (count_at s d) z.uses) (sym h.kept) (h.space.account d)) (λ j ne. h.space.account j);
    copies = λ j u.
        on_each devs d x (λ i y. copy_hits (map part_in next) i u ≡ one_if (has_unit y.uses.copies u)) h.there
        (hits_gone devs d d u x same_row stays ∙ (h.space.copies d u ∙ ap (λ (z : Kept). one_if (has_unit z.uses.copies u)) (sym h.kept)))
        (λ i ne. hits_gone devs d i u x same_row stays ∙ h.space.copies i u)
        j;
    single = λ i j one two. h.space.single i j (subst (λ (r : DevRow). is_leaving r.state ≡ true) (same_rows i) one) (subst (λ (r : DevRow). is_leaving r.state ≡ true) (same_rows j) two);
    ranked = λ j. subst (All (IsDestination (devices_of (map part_in next)) j)) (sym (entries_are next j))
        (on_each devs d x (λ i y. All (IsDestination (devices_of (map part_in next)) i) y.moves.entries) h.there
        (All-weaker (IsDestination (devices_of (map part_in devs)) d) (IsDestination (devices_of (map part_in next)) d) (λ e. destinations (devices_of (map part_in devs)) (devices_of (map part_in next)) d e count_is ways) m.entries h.destinations)
        (λ i ne.
        All-weaker (IsDestination (devices_of (map part_in devs)) i) (IsDestination (devices_of (map part_in next)) i) (λ e. destinations (devices_of (map part_in devs)) (devices_of (map part_in next)) i e count_is ways) (kept_of devs i).moves.entries
        (subst (All (IsDestination (devices_of (map part_in devs)) i)) (entries_are devs i) (h.space.ranked i)))
        j);
    tied = on_each devs d x (λ j y. is_leaving y.row.state ≡ true → IsTied whole y) h.there (λ is. absurd (false_true (sym stays ∙ is))) (λ j ne. h.space.tied j);
    condensing = λ c is. absurd (some_none c (sym is ∙ h.none));
  }

  part_next : part_of (map part_in next) d ≡ part_in x
  part_next = part_is next d ∙ ap part_in (kept_same devs d x h.there)

  part_other : (j : ℕ) → j ≢ d → part_of (map part_in next) j ≡ part_of (map part_in devs) j
  part_other j ne = part_is next j ∙ (ap part_in (kept_other devs d j x (grind (arith, nat_tests, ne))) ∙ sym (part_is devs j))

  -- the space is the same but for the mapping
  pub remaps : Remaps (space_of whole devs) (space_of whole next) d m.entries m.counts m.fresh None
  remaps = record {
    row_is = ap (λ (p : DevPart). p.row) part_next ∙ (same_row ∙ sym (ap (λ (p : DevPart). p.row) (part_is devs d)));
    entries_are = ap (λ (p : DevPart). p.entries) part_next;
    counts_are = ap (λ (p : DevPart). p.counts) part_next;
    fresh_is = ap (λ (p : DevPart). p.fresh) part_next;
    cond_is = h.none;
    roles = λ j u.
        roles_are whole next j u remapped_space
        ∙ (on_each devs d x (λ i y. role_in y.uses u ≡ role_in (kept_of devs i).uses u) h.there (ap (λ (z : Kept). role_in z.uses u) h.kept) (λ i ne. refl) j
        ∙ sym (roles_are whole devs j u h.space));
    elsewhere = record {
      version = refl;
      cond = h.none;
      ckpt = refl;
      meta = meta_set 0 d devs x (ap (λ (z : Kept). z.uses.meta) h.kept);
      saved_meta = saved_set 0 d devs x (ap (λ (z : Kept). z.uses.saved) h.kept);
      devices = count_is;
      others = λ j ne. subst (IsSamePart (part_of (map part_in devs) j)) (sym (part_other j ne)) (record { row = refl; entries = refl; counts = refl; late1 = refl; late2 = refl });
      fresh = λ j u ne. ap (λ (p : DevPart). has_unit p.fresh u) (part_other j ne);
      lawful = λ was. lawful whole s next remapped_space;
    };
  }

-- ---- the fresh units are folded, and the condensed mapping is put in

old_destinations : (whole : Whole) (s : Devices) (devs : List Kept) (d : ℕ) (k : Kept) → IsSpace whole s devs → k ≡ kept_of devs d → All (IsDestination (devices_of (map part_in devs)) d) k.moves.entries
old_destinations whole s devs d k space kept = subst (All (IsDestination (devices_of (map part_in devs)) d)) (entries_are devs d ∙ ap (λ (z : Kept). z.moves.entries) (sym kept)) (space.ranked d)

none_set : (n : ℕ) (es : List Extent) → es ≡ [] → IsSet n es
none_set n es is = rw is (record { maximal = tt; within = tt })

remaps_as : (old new : Space) (d : ℕ) (e1 e2 : List Entry) (c1 c2 : List ℕ) (f1 f2 : List Extent) (k : Option CondPart) → e1 ≡ e2 → c1 ≡ c2 → f1 ≡ f2 → Remaps old new d e1 c1 f1 k → Remaps old new d e2 c2 f2 k
remaps_as old new d e1 e2 c1 c2 f1 f2 k e c f r = record {
  row_is = r.row_is;
  entries_are = r.entries_are ∙ e;
  counts_are = r.counts_are ∙ c;
  fresh_is = r.fresh_is ∙ f;
  cond_is = r.cond_is;
  roles = r.roles;
  elsewhere = r.elsewhere;
}

module _ (whole : Whole) (s : Devices) (devs : List Kept) (d : ℕ) (k : Kept) (m : Mapped) (space : IsSpace whole s devs) (there : d < length devs) (kept : k ≡ kept_of devs d) (gone : k.row.state ≡ Gone) (none : whole.cond ≡ None) (is : m.state ≡ Gone → IsGone m) where
  was_moved : IsMoved k.row k.moves
  was_moved = subst (λ (z : Kept). IsMoved z.row z.moves) (sym kept) (space.moved d)

  pub spared : m ≡ record k.moves { spare = m.spare } → IsRemapped whole s devs d k m
  spared same =
      let state : m.state ≡ Gone = ap (λ (y : Mapped). y.state) same ∙ (was_moved.state ∙ gone) in
      record {
        space = space;
        there = there;
        kept = kept;
        gone = gone;
        none = none;
        state = state;
        is = is state;
        fresh = subst (IsSet k.row.units) (sym (ap (λ (y : Mapped). y.fresh) same)) was_moved.fresh;
        came = subst (IsSet k.row.units) (sym (ap (λ (y : Mapped). y.came) same)) was_moved.came;
        went = subst (IsSet k.row.units) (sym (ap (λ (y : Mapped). y.went) same)) was_moved.went;
        sources = subst (All (EndsWithin k.row.units)) (sym (ap (λ (y : Mapped). y.entries) same)) was_moved.sources;
        destinations = subst (All (IsDestination (devices_of (map part_in devs)) d)) (sym (ap (λ (y : Mapped). y.entries) same)) (old_destinations whole s devs d k space kept);
      }

  pub fold_remapped : FoldsFresh k.moves m → IsRemapped whole s devs d k m
  fold_remapped f =
      let state : m.state ≡ Gone = ap (λ (y : Mapped). y.state) f.others ∙ (was_moved.state ∙ gone) in
      let n = k.row.units in
      let w = within_of n k.moves.went was_moved.went.within in
      let v = within_of n k.moves.fresh was_moved.fresh.within in
      record {
        space = space;
        there = there;
        kept = kept;
        gone = gone;
        none = none;
        state = state;
        is = is state;
        fresh = none_set n m.fresh f.fresh;
        came = none_set n m.came f.came;
        went = set_of n n m.went (omega arith) (is state).went_maximal (λ u has. let e = f.went u in let a = w u in let b = v u in grind (arith, nat_tests, e, a, b, has));
        sources = subst (All (EndsWithin k.row.units)) (sym (ap (λ (y : Mapped). y.entries) f.others)) was_moved.sources;
        destinations = subst (All (IsDestination (devices_of (map part_in devs)) d)) (sym (ap (λ (y : Mapped). y.entries) f.others)) (old_destinations whole s devs d k space kept);
      }

-- each entry that is kept was there
all_zip : (P : Entry → Type 0) (es : List Entry) (cs : List ℕ) → All P es → All (λ (p : Entry × ℕ). P p.0) (zip es cs)
all_zip P [] cs all = All-nil (λ (p : Entry × ℕ). P p.0)
all_zip P (e ∷ es) [] all = All-nil (λ (p : Entry × ℕ). P p.0)
all_zip P (e ∷ es) (c ∷ cs) all = All-cons (λ (p : Entry × ℕ). P p.0) (e, c) (zip es cs) (All-head P e es all) (all_zip P es cs (All-tail P e es all))

zip_all : (P : Entry → Type 0) (xs : List Entry) (ns : List ℕ) → length ns ≡ length xs → All (λ (p : Entry × ℕ). P p.0) (zip xs ns) → All P xs
zip_all P [] ns len all = All-nil P
zip_all P (x ∷ xs) [] len all = absurd (omega (arith, len))
zip_all P (x ∷ xs) (n ∷ ns) len all =
    All-cons P x xs (All-head (λ (p : Entry × ℕ). P p.0) (x, n) (zip xs ns) all) (zip_all P xs ns (omega (arith, len)) (All-tail (λ (p : Entry × ℕ). P p.0) (x, n) (zip xs ns) all))

pub all_condensed : (P : Entry → Type 0) (es xs : List Entry) (cs ns : List ℕ) → length ns ≡ length xs → zip xs ns ≡ condensed es cs → All P es → All P xs
all_condensed P es xs cs ns len is all = zip_all P xs ns len (subst (All (λ (p : Entry × ℕ). P p.0)) (sym is) (All-filter is_used (λ (p : Entry × ℕ). P p.0) (zip es cs) (all_zip P es cs all)))

pub put_remapped : (whole : Whole) (s : Devices) (devs : List Kept) (d : ℕ) (k : Kept) (m : Mapped) (xs : List Entry) (ns : List ℕ) → IsSpace whole s devs → d < length devs → k ≡ kept_of devs d → k.row.state ≡ Gone → whole.cond ≡ None → (m.state ≡ Gone → IsGone m)
    → m ≡ record k.moves { entries = xs; counts = ns; spare = m.spare } → length ns ≡ length xs → zip xs ns ≡ condensed k.moves.entries k.moves.counts → IsRemapped whole s devs d k m
put_remapped whole s devs d k m xs ns space there kept gone none is same each zipped =
    let was : IsMoved k.row k.moves = subst (λ (z : Kept). IsMoved z.row z.moves) (sym kept) (space.moved d) in
    let state : m.state ≡ Gone = ap (λ (y : Mapped). y.state) same ∙ (was.state ∙ gone) in
    record {
      space = space;
      there = there;
      kept = kept;
      gone = gone;
      none = none;
      state = state;
      is = is state;
      fresh = subst (IsSet k.row.units) (sym (ap (λ (y : Mapped). y.fresh) same)) was.fresh;
      came = subst (IsSet k.row.units) (sym (ap (λ (y : Mapped). y.came) same)) was.came;
      went = subst (IsSet k.row.units) (sym (ap (λ (y : Mapped). y.went) same)) was.went;
      sources = subst (All (EndsWithin k.row.units)) (sym (ap (λ (y : Mapped). y.entries) same)) (all_condensed (EndsWithin k.row.units) k.moves.entries xs k.moves.counts ns each zipped was.sources);
      destinations = subst (All (IsDestination (devices_of (map part_in devs)) d)) (sym (ap (λ (y : Mapped). y.entries) same)) (all_condensed (IsDestination (devices_of (map part_in devs)) d) k.moves.entries xs k.moves.counts ns each zipped (old_destinations whole s devs d k space kept));
    }

-- what is folded, and what is put in, as the space shows it
pub fold_remaps : (whole : Whole) (s : Devices) (devs : List Kept) (d : ℕ) (k : Kept) (m : Mapped) → IsRemapped whole s devs d k m → FoldsFresh k.moves m
    → Remaps (space_of whole devs) (space_of whole (set devs d (record k { moves = m }))) d (part_of (map part_in devs) d).entries (folded (part_of (map part_in devs) d).entries (part_of (map part_in devs) d).counts (part_of (map part_in devs) d).fresh) [] None
fold_remaps whole s devs d k m h f =
    let here : part_of (map part_in devs) d ≡ part_in k = part_is devs d ∙ ap part_in (sym h.kept) in
    let entries : m.entries ≡ (part_of (map part_in devs) d).entries = ap (λ (y : Mapped). y.entries) f.others ∙ sym (ap (λ (p : DevPart). p.entries) here) in
    let counts : m.counts ≡ folded (part_of (map part_in devs) d).entries (part_of (map part_in devs) d).counts (part_of (map part_in devs) d).fresh = f.counts ∙ sym (ap (λ (p : DevPart). folded p.entries p.counts p.fresh) here) in
    remaps_as (space_of whole devs) (space_of whole (set devs d (record k { moves = m }))) d m.entries _ m.counts _ m.fresh [] None entries counts f.fresh (remaps whole s devs d k m h)

pub put_remaps : (whole : Whole) (s : Devices) (devs : List Kept) (d : ℕ) (k : Kept) (m : Mapped) (xs : List Entry) (ns : List ℕ) → IsRemapped whole s devs d k m → m ≡ record k.moves { entries = xs; counts = ns; spare = m.spare }
    → Remaps (space_of whole devs) (space_of whole (set devs d (record k { moves = m }))) d xs ns (part_of (map part_in devs) d).fresh None
put_remaps whole s devs d k m xs ns h same =
    let here : part_of (map part_in devs) d ≡ part_in k = part_is devs d ∙ ap part_in (sym h.kept) in
    remaps_as (space_of whole devs) (space_of whole (set devs d (record k { moves = m }))) d m.entries xs m.counts ns m.fresh _ None (ap (λ (y : Mapped). y.entries) same) (ap (λ (y : Mapped). y.counts) same)
    (ap (λ (y : Mapped). y.fresh) same ∙ sym (ap (λ (p : DevPart). p.fresh) here)) (remaps whole s devs d k m h)

-- a device that is gone is one of the devices
pub known_gone : (whole : Whole) (devs : List Kept) (d : ℕ) → state_of_dev (space_of whole devs).parts.devs d ≡ Gone → d < length devs
known_gone whole devs d gone =
    ⊎_elim
    (λ lt. lt)
    (λ past. absurd (false_true (ap is_gone (sym (ap (λ (k : Kept). k.row.state) (none_beyond devs d past)) ∙ (sym (ap (λ (p : DevPart). p.row.state) (part_is devs d)) ∙ gone)))))
    (cases_lt d (length devs))

pub condensing_of : (whole : Whole) (devs : List Kept) (c : CondPart) → IsUnderWay (space_of whole devs) c → (e : CondPart) → Some c ≡ Some e → IsCondensing e (kept_of devs e.dev)
condensing_of whole devs c h e is = subst (λ (v : CondPart). IsCondensing v (kept_of devs v.dev)) (some_same is) (condensing_in whole devs c h)
  where
    some_same : {p q : CondPart} → Some p ≡ Some q → p ≡ q
    some_same same = cc

pub not_yet : (b : Bool) → not b ≡ true → b ≡ false
not_yet true is = absurd (false_true is)
not_yet false is = refl

pub at_last : (b : Bool) → not b ≡ false → b ≡ true
at_last true is = refl
at_last false is = absurd (false_true (sym is))

-- what holds either way of a call that may want memory
pub either_way : {X E : Type 0} (r : Result X E) (A B C : Type 0) → OnOk r A → OnErr r B → (A → C) → (B → C) → C
either_way (Ok x) A B C ok err f g = f ok
either_way (Err e) A B C ok err f g = g err

pub on_ok : {X E : Type 0} (r : Result X E) (A B : Type 0) → (A → B) → OnOk r A → OnOk r B
on_ok (Ok x) A B f ok = f ok
on_ok (Err e) A B f ok = ok

pub if_ok : {X E : Type 0} (r : Result X E) (P Q : X → Type 0) → ((x : X) → P x → Q x) → IfOk r P → IfOk r Q
if_ok (Ok x) P Q f ok = f x ok
if_ok (Err e) P Q f ok = ok

-- ---- steps, one after another

pub role_cond : (s : Space) (c : Option CondPart) (d u : ℕ) → role_at (with_cond s c) d u ≡ role_at s d u
unfolding role_at
role_cond s c d u = refl

lawful_cond : (s : Space) (a b : Option CondPart) → IsLawful (with_cond s a) → IsLawful (with_cond s b)
lawful_cond s a b l = record { devices = l.devices; sets = l.sets; once = l.once; copies = l.copies; born = l.born }

-- a condensing is under way from here on, and nothing else is another
remaps_itself : (s : Space) (d : ℕ) (c : Option CondPart) → Remaps s (with_cond s c) d (part_of s.parts.devs d).entries (part_of s.parts.devs d).counts (part_of s.parts.devs d).fresh c
remaps_itself s d c = record {
  row_is = refl;
  entries_are = refl;
  counts_are = refl;
  fresh_is = refl;
  cond_is = refl;
  roles = λ e u. role_cond s c e u;
  elsewhere = record {
    version = refl;
    cond = refl;
    ckpt = refl;
    meta = refl;
    saved_meta = refl;
    devices = refl;
    others = λ j ne. record { row = refl; entries = refl; counts = refl; late1 = refl; late2 = refl };
    fresh = λ j u ne. refl;
    lawful = λ l. l;
  };
}

remaps_then : (old mid new : Space) (d : ℕ) (e1 e2 : List Entry) (c1 c2 : List ℕ) (f1 f2 : List Extent) (k : Option CondPart) → Remaps old mid d e1 c1 f1 None → Remaps mid new d e2 c2 f2 k → Remaps old new d e2 c2 f2 k
remaps_then old mid new d e1 e2 c1 c2 f1 f2 k a b = record {
  row_is = b.row_is ∙ a.row_is;
  entries_are = b.entries_are;
  counts_are = b.counts_are;
  fresh_is = b.fresh_is;
  cond_is = b.cond_is;
  roles = λ e u. b.roles e u ∙ a.roles e u;
  elsewhere = record {
    version = b.elsewhere.version ∙ a.elsewhere.version;
    cond = b.elsewhere.cond;
    ckpt = b.elsewhere.ckpt ∙ a.elsewhere.ckpt;
    meta = b.elsewhere.meta ∙ a.elsewhere.meta;
    saved_meta = b.elsewhere.saved_meta ∙ a.elsewhere.saved_meta;
    devices = b.elsewhere.devices ∙ a.elsewhere.devices;
    others = λ j ne. same_then (a.elsewhere.others j ne) (b.elsewhere.others j ne);
    fresh = λ j u ne. b.elsewhere.fresh j u ne ∙ a.elsewhere.fresh j u ne;
    lawful = λ l. b.elsewhere.lawful (lawful_mid (a.elsewhere.lawful (lawful_cond old k None l)));
  };
}
  where
    lawful_mid : IsLawful mid → IsLawful (with_cond mid k)
    lawful_mid l = record { devices = l.devices; sets = l.sets; once = l.once; copies = l.copies; born = l.born }

    same_then : {p q r : DevPart} → IsSamePart p q → IsSamePart q r → IsSamePart p r
    same_then x y = record { row = y.row ∙ x.row; entries = y.entries ∙ x.entries; counts = y.counts ∙ x.counts; late1 = y.late1 ∙ x.late1; late2 = y.late2 ∙ x.late2 }

-- what a step of condensing comes to, by what it does to the mapping
abbrev ComesTo : (List Entry → List ℕ → List Extent → Option CondPart → Type 0) → List Entry → List ℕ → List Extent → CondPart → Condensed → Type 0
ComesTo R entries counts fresh c outcome =
    MatchBool ((worked entries counts c).at == length entries)
    ((outcome ≡ condensed_as.Done) × R (worked entries counts c).entries (worked entries counts c).counts fresh None)
    ((outcome ≡ condensed_as.Kept (length (next_kept entries counts c))) × R entries counts fresh (Some (worked entries counts c)))

match_as : (b : Bool) (A B C D : Type 0) → (A → C) → (B → D) → MatchBool b A B → MatchBool b C D
match_as true A B C D f g h = f h
match_as false A B C D f g h = g h

comes_as : (R S : List Entry → List ℕ → List Extent → Option CondPart → Type 0) (entries : List Entry) (counts : List ℕ) (fresh : List Extent) (c : CondPart) (outcome : Condensed)
    → ((es : List Entry) (cs : List ℕ) (fs : List Extent) (k : Option CondPart) → R es cs fs k → S es cs fs k) → ComesTo R entries counts fresh c outcome → ComesTo S entries counts fresh c outcome
comes_as R S entries counts fresh c outcome f =
    match_as ((worked entries counts c).at == length entries) _ _ _ _
    (λ h. (h.0, f (worked entries counts c).entries (worked entries counts c).counts fresh None h.1))
    (λ h. (h.0, f entries counts fresh (Some (worked entries counts c)) h.1))

module _ (s : Space) (c w : CondPart) (is : w ≡ worked (part_of s.parts.devs c.dev).entries (part_of s.parts.devs c.dev).counts c) where
  -- entries are left to work through
  pub kept_step : (n : ℕ) → n ≡ length (next_kept (part_of s.parts.devs c.dev).entries (part_of s.parts.devs c.dev).counts c) → nat_le (length (part_of s.parts.devs c.dev).entries) w.at ≡ false
      → Condenses s (part_of s.parts.devs c.dev).counts (part_of s.parts.devs c.dev).fresh c (condensed_as.Kept n) (with_cond s (Some w))
  kept_step n count more =
      let at = ap (λ (v : CondPart). v.at) is in
      let b : ((worked (part_of s.parts.devs c.dev).entries (part_of s.parts.devs c.dev).counts c).at == length (part_of s.parts.devs c.dev).entries) ≡ false = grind (arith, nat_tests, at, more) in
      rw b (ap condensed_as.Kept count, subst (λ (v : CondPart). Remaps s (with_cond s (Some w)) c.dev (part_of s.parts.devs c.dev).entries (part_of s.parts.devs c.dev).counts (part_of s.parts.devs c.dev).fresh (Some v)) is (remaps_itself s c.dev (Some w)))

  -- all are worked through
  pub last_step : (new : Space) → nat_le (length (part_of s.parts.devs c.dev).entries) w.at ≡ true → Remaps s new c.dev w.entries w.counts (part_of s.parts.devs c.dev).fresh None
      → Condenses s (part_of s.parts.devs c.dev).counts (part_of s.parts.devs c.dev).fresh c condensed_as.Done new
  last_step new all r =
      let at = ap (λ (v : CondPart). v.at) is in
      let b : ((worked (part_of s.parts.devs c.dev).entries (part_of s.parts.devs c.dev).counts c).at == length (part_of s.parts.devs c.dev).entries) ≡ true = grind (arith, nat_tests, at, all) in
      rw b (refl, subst (λ (v : CondPart). Remaps s new c.dev v.entries v.counts (part_of s.parts.devs c.dev).fresh None) is r)

  -- what is worked through is the mapping condensed
  pub all_worked : IsUnderWay s w → nat_le (length (part_of s.parts.devs c.dev).entries) w.at ≡ true → length (part_of s.parts.devs c.dev).counts ≡ length (part_of s.parts.devs c.dev).entries → IsCondensed (part_of s.parts.devs c.dev) w.entries w.counts
  all_worked u all len =
      let same : w.dev ≡ c.dev = ap (λ (v : CondPart). v.dev) is in
      let worked_there : IsWorked (part_of s.parts.devs c.dev) w = subst (λ (d : ℕ). IsWorked (part_of s.parts.devs d) w) same u.worked in
      let le : length (part_of s.parts.devs c.dev).entries ≤ w.at = grind (arith, nat_tests, all) in
      record {
        each = worked_there.each;
        kept = worked_there.kept ∙ ap₂ condensed (take_all w.at (part_of s.parts.devs c.dev).entries le) (take_all w.at (part_of s.parts.devs c.dev).counts (omega (arith, le, len)));
      }

-- a condensing that was taken out goes on
pub goes_on : (old mid new : Space) (c : CondPart) (outcome : Condensed) → mid ≡ with_cond old None → Condenses mid (part_of mid.parts.devs c.dev).counts (part_of mid.parts.devs c.dev).fresh c outcome new
    → Condenses old (part_of old.parts.devs c.dev).counts (part_of old.parts.devs c.dev).fresh c outcome new
goes_on old mid new c outcome is h =
    comes_as (λ es cs fs k. Remaps (with_cond old None) new c.dev es cs fs k) (λ es cs fs k. Remaps old new c.dev es cs fs k) (part_of old.parts.devs c.dev).entries (part_of old.parts.devs c.dev).counts (part_of old.parts.devs c.dev).fresh c outcome
    (λ es cs fs k r. remaps_then old (with_cond old None) new c.dev _ es _ cs _ fs k (remaps_itself old c.dev None) r)
    (subst (λ (m : Space). Condenses m (part_of m.parts.devs c.dev).counts (part_of m.parts.devs c.dev).fresh c outcome new) is h)

-- a condensing begins once the fresh units are folded
pub begins_on : (old mid new : Space) (c : CondPart) (counts : List ℕ) (outcome : Condensed) → Remaps old mid c.dev (part_of old.parts.devs c.dev).entries counts [] None
    → Condenses mid (part_of mid.parts.devs c.dev).counts (part_of mid.parts.devs c.dev).fresh c outcome new → Condenses old counts [] c outcome new
begins_on old mid new c counts outcome f h =
    comes_as (λ es cs fs k. Remaps mid new c.dev es cs fs k) (λ es cs fs k. Remaps old new c.dev es cs fs k) (part_of old.parts.devs c.dev).entries counts [] c outcome
    (λ es cs fs k r. remaps_then old mid new c.dev _ es _ cs _ fs k f r)
    (subst (λ (es : List Entry). ComesTo (λ es2 cs fs k. Remaps mid new c.dev es2 cs fs k) es counts [] c outcome) f.entries_are
    (subst (λ (cs : List ℕ). ComesTo (λ es2 cs2 fs k. Remaps mid new c.dev es2 cs2 fs k) (part_of mid.parts.devs c.dev).entries cs [] c outcome) f.counts_are
    (subst (λ (fs : List Extent). ComesTo (λ es2 cs2 fs2 k. Remaps mid new c.dev es2 cs2 fs2 k) (part_of mid.parts.devs c.dev).entries (part_of mid.parts.devs c.dev).counts fs c outcome) f.fresh_is h)))

pub with_none : (s : Space) → s.parts.cond ≡ None → with_cond s None ≡ s
with_none s none = ap (with_cond s) (sym none)

-- ---- where units lead

pub leads_itself : (s : Space) (c : Option CondPart) → LeadsAsBefore s (with_cond s c)
leads_itself s c d i u lt at used = refl

pub leads_taken : (old mid new : Space) → mid ≡ with_cond old None → LeadsAsBefore mid new → LeadsAsBefore old new
leads_taken old mid new is leads = subst (λ (s : Space). LeadsAsBefore s new) is leads

-- the units of the entries that are kept lead where they led
pub leads_put : (s new : Space) (d : ℕ) (xs : List Entry) (ns : List ℕ) (fresh : List Extent) (k : Option CondPart) → Remaps s new d xs ns fresh k → IsCondensed (part_of s.parts.devs d) xs ns → IsRising (part_of s.parts.devs d).entries
    → length (part_of s.parts.devs d).counts ≡ length (part_of s.parts.devs d).entries → LeadsAsBefore s new
leads_put s new d xs ns fresh k r condensed_is rising each j i u lt at used =
    ⊎_elim
    (λ same. subst (λ (n : ℕ). IsInUse (part_of s.parts.devs n) i → HasSourceAt (part_of s.parts.devs n).entries i u → i < length (part_of s.parts.devs n).entries → target (part_of new.parts.devs n).entries u ≡ target (part_of s.parts.devs n).entries u) (sym same) here used at lt)
    (λ other. ap (λ (es : List Entry). target es u) (r.elsewhere.others j other).entries)
    (cases_eq j d)
  where
    here : IsInUse (part_of s.parts.devs d) i → HasSourceAt (part_of s.parts.devs d).entries i u → i < length (part_of s.parts.devs d).entries → target (part_of new.parts.devs d).entries u ≡ target (part_of s.parts.devs d).entries u
    here in_use there less =
        let p = part_of s.parts.devs d in
        let kept : xs ≡ entries_in (condensed p.entries p.counts) = sym (zip_entries xs ns condensed_is.each) ∙ ap entries_in condensed_is.kept in
        let test : is_used (entry_at p.entries i, get_or p.counts i 0) ≡ true = used_entry (get_or p.counts i 0) (entry_at p.entries i) (omega (arith, in_use)) in
        ap (λ (es : List Entry). target es u) (r.entries_are ∙ kept) ∙ target_kept 0 u i p.entries p.counts rising each less there test
      where
        used_entry : (n : ℕ) (e : Entry) → n < e.len → is_used (e, n) ≡ true
        used_entry n e below = grind (arith, nat_tests, below)

-- what is in use is so once the fresh units are counted
pub leads_folded : (old mid new : Space) (d : ℕ) → Remaps old mid d (part_of old.parts.devs d).entries (folded (part_of old.parts.devs d).entries (part_of old.parts.devs d).counts (part_of old.parts.devs d).fresh) [] None
    → length (part_of old.parts.devs d).counts ≡ length (part_of old.parts.devs d).entries → LeadsAsBefore mid new → LeadsAsBefore old new
leads_folded old mid new d f each leads j i u lt at used =
    ⊎_elim
    (λ same.
    subst (λ (n : ℕ). IsInUse (part_of old.parts.devs n) i → HasSourceAt (part_of old.parts.devs n).entries i u → i < length (part_of old.parts.devs n).entries → target (part_of new.parts.devs n).entries u ≡ target (part_of old.parts.devs n).entries u) (sym same) here used at lt)
    (λ other.
    let p = f.elsewhere.others j other in
    let entries = p.entries in
    let fresh : fresh_units (part_of mid.parts.devs j).fresh (entry_at (part_of old.parts.devs j).entries i) ≡ fresh_units (part_of old.parts.devs j).fresh (entry_at (part_of old.parts.devs j).entries i) =
    count_as (entry_at (part_of old.parts.devs j).entries i).len (λ k. has_unit (part_of mid.parts.devs j).fresh ((entry_at (part_of old.parts.devs j).entries i).src + k)) (λ k. has_unit (part_of old.parts.devs j).fresh ((entry_at (part_of old.parts.devs j).entries i).src + k))
    (λ k. f.elsewhere.fresh j ((entry_at (part_of old.parts.devs j).entries i).src + k) other) in
    let in_use : get_or (part_of mid.parts.devs j).counts i 0 + fresh_units (part_of mid.parts.devs j).fresh (entry_at (part_of old.parts.devs j).entries i) < (entry_at (part_of old.parts.devs j).entries i).len =
    (let c = ap (λ (ns : List ℕ). get_or ns i 0) p.counts in omega (arith, c, fresh, used)) in
    leads j i u (subst (λ (es : List Entry). i < length es) (sym entries) lt) (subst (λ (es : List Entry). HasSourceAt es i u) (sym entries) at)
    (subst (λ (es : List Entry). get_or (part_of mid.parts.devs j).counts i 0 + fresh_units (part_of mid.parts.devs j).fresh (entry_at es i) < (entry_at es i).len) (sym entries) in_use)
    ∙ ap (λ (es : List Entry). target es u) entries)
    (cases_eq j d)
  where
    here : IsInUse (part_of old.parts.devs d) i → HasSourceAt (part_of old.parts.devs d).entries i u → i < length (part_of old.parts.devs d).entries → target (part_of new.parts.devs d).entries u ≡ target (part_of old.parts.devs d).entries u
    here in_use there less =
        let p = part_of old.parts.devs d in
        let now : get_or (part_of mid.parts.devs d).counts i 0 ≡ get_or p.counts i 0 + fresh_units p.fresh (entry_at p.entries i) = ap (λ (ns : List ℕ). get_or ns i 0) f.counts_are ∙ folded_at p.entries p.counts p.fresh i less each in
        let none : fresh_units (part_of mid.parts.devs d).fresh (entry_at p.entries i) ≡ 0 = ap (λ (fs : List Extent). fresh_units fs (entry_at p.entries i)) f.fresh_is ∙ count_none (entry_at p.entries i).len in
        let still : get_or (part_of mid.parts.devs d).counts i 0 + fresh_units (part_of mid.parts.devs d).fresh (entry_at p.entries i) < (entry_at p.entries i).len = omega (arith, now, none, in_use) in
        leads d i u (subst (λ (es : List Entry). i < length es) (sym f.entries_are) less) (subst (λ (es : List Entry). HasSourceAt es i u) (sym f.entries_are) there)
        (subst (λ (es : List Entry). get_or (part_of mid.parts.devs d).counts i 0 + fresh_units (part_of mid.parts.devs d).fresh (entry_at es i) < (entry_at es i).len) (sym f.entries_are) still)
        ∙ ap (λ (es : List Entry). target es u) f.entries_are
