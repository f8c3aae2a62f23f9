-- A removal begins.
use Rattle.std.proofs.Common.{◌≡◌, ◌≢◌, ℕ, suc, ◌<◌, ◌^◌, ◌&&◌, Bool, true, false, nat_le, nat_lt, List, [], ◌∷◌, map, length, refl, ◌∙◌, sym, ap, subst, arith, if◌then◌else◌}
use Rattle.std.proofs.Math.ListN.{set}
use Rattle.std.specs.List.{sum_by}
use Rattle.std.proofs.lemmas.Bool.Decides.{nat_tests}
use Rattle.std.proofs.lemmas.List.{length-map, length-set}
use Rattle.std.proofs.lemmas.List.Sums.{sum_by-cons}
use Rattle.std.proofs.lemmas.List.Elements.{All-nil, All-same}
use Rattle.zr_base.specs.declared.space.CkptPart.TheVariants.{Clear}
use Rattle.zr_base.specs.declared.space.DevPart.{DevPart}
use Rattle.zr_base.specs.declared.space.DevRow.{DevRow}
use Rattle.zr_base.specs.declared.space.DevState.TheVariants.{On, Leaving}
use Rattle.zr_base.specs.declared.space.Entry.{Entry}
use Rattle.zr_base.specs.declared.space.Extent.{Extent}
use Rattle.zr_base.specs.Extents.{has_unit}
use Rattle.zr_rules.specs.Places.{one_if, part_of, is_on, is_leaving, is_gone}
use Rattle.zr_rules.specs.Space.{copy_hits, is_copy_by, IsSet}
use Rattle.zr_rules.specs.Frees.{IsSamePart}
use Rattle.zr_rules.specs.Steps.{Leaves}
use Rattle.zr_metaslab.specs.Devices.{Devices, free_at, count_at, units_at, serves_at, Turns}
use Rattle.zr_units.specs.Uses.{IsAccount}
use Rattle.zr_indirect.specs.Mapped.{Mapped, IsLeaving}
use Rattle.zr_indirect.specs.Changes.{GoesOn}
use Rattle.zr_space.specs.Views.{Kept, kept_of, part_in, space_of, role_in, units_there, IsMoved, IsTied, IsSpace, EndsWithin, IsCondensing}
use Rattle.zr_rules.specs.Devices.{devices_of}
use Rattle.zr_space.proofs.Views.{part_is, kept_same, kept_other}
use Rattle.zr_space.proofs.Devs.{IsSameWay, ranked_as, rows_are, entries_are}
use Rattle.zr_space.proofs.Roles.{roles_are}
use Rattle.zr_space.proofs.Accounts.{account_as}
use Rattle.zr_space.proofs.Keeps.{on_each, lawful}
use Rattle.zr_space.proofs.Frames.{meta_set, saved_set}
use Rattle.zr_space.proofs.Synced.{synced_is}
use Rattle.zr_space.specs.declared.whole.Whole.{Whole}

false_true : false ≡ true → ⊥
false_true e = cc

abbrev copies_in : DevPart → ℕ → ℕ → ℕ
copies_in p d u = if is_leaving p.row.state then sum_by (λ (e : Entry). one_if (is_copy_by p d u e)) p.entries else 0

-- where no device that is leaving has entries there are no copies
pub no_hits : (devs : List Kept) (d u : ℕ) → ((j : ℕ) → is_leaving (kept_of devs j).row.state ≡ true → (kept_of devs j).moves.entries ≡ []) → copy_hits (map part_in devs) d u ≡ 0
no_hits [] d u none = refl
no_hits (k ∷ ks) d u none =
    let first : copies_in (part_in k) d u ≡ 0 = one (is_leaving k.row.state) refl in
    let rest = no_hits ks d u (λ j. none (suc j)) in
    sum_by-cons (λ p. copies_in p d u) (part_in k) (map part_in ks) ∙ omega (arith, first, rest)
  where
    one : (b : Bool) → is_leaving k.row.state ≡ b → copies_in (part_in k) d u ≡ 0
    one true is = rw (none 0 is) rw is refl
    one false is = rw is refl

-- a device of the space begins to leave, with nothing copied
pub record IsBegun (whole : Whole) (s t : Devices) (devs : List Kept) (d : ℕ) (k : Kept) (m : Mapped) : Type 0 where
  pub space : IsSpace whole s devs
  pub there : d < length devs
  pub kept : k ≡ kept_of devs d
  pub on : k.row.state ≡ On
  pub alone : (j : ℕ) → is_leaving (kept_of devs j).row.state ≡ false
  pub begins : GoesOn [] [] k.uses.held m
  pub leaves : IsLeaving m
  pub turns : Turns s t d false
  pub quiet : whole.ckpt ≡ Clear
  pub unkept : k.uses.kept ≡ []

module _ (whole : Whole) (s t : Devices) (devs : List Kept) (d : ℕ) (k : Kept) (m : Mapped) (h : IsBegun whole s t devs d k m) where
  abbrev x : Kept
  x = record { row = record k.row { state = Leaving }; uses = k.uses; moves = m }

  abbrev next : List Kept
  next = set devs d x

  nothing : m.entries ≡ []
  nothing = ap (λ (y : Mapped). y.entries) h.begins.all

  unmarked : m.fresh ≡ []
  unmarked = ap (λ (y : Mapped). y.fresh) h.begins.all

  empty : (n : ℕ) (es : List Extent) → es ≡ [] → IsSet n es
  empty n es is = rw is (record { maximal = tt; within = tt })

  moved : IsMoved x.row m
  moved = record {
    state = ap (λ (y : Mapped). y.state) h.begins.all;
    service = λ is. absurd (false_true (ap is_on is));
    leaving = λ is. h.leaves;
    gone = λ is. absurd (false_true (ap is_gone is));
    fresh = empty k.row.units m.fresh unmarked;
    came = empty k.row.units m.came (ap (λ (y : Mapped). y.came) h.begins.all);
    went = empty k.row.units m.went (ap (λ (y : Mapped). y.went) h.begins.all);
    sources = All-same (EndsWithin k.row.units) m.entries [] nothing (All-nil (EndsWithin k.row.units));
  }

  old_entries : (kept_of devs d).moves.entries ≡ []
  old_entries = ap (λ (y : Mapped). y.entries) ((h.space.moved d).service (ap (λ (z : Kept). z.row.state) (sym h.kept) ∙ h.on))

  same_uses : (u : ℕ) (j : ℕ) → has_unit (kept_of devs j).uses.copies u ≡ has_unit (kept_of next j).uses.copies u
  same_uses u = on_each devs d x (λ j y. has_unit (kept_of devs j).uses.copies u ≡ has_unit y.uses.copies u) h.there (ap (λ (z : Kept). has_unit z.uses.copies u) (sym h.kept)) (λ j ne. refl)

  new_none : (j : ℕ) → is_leaving (kept_of next j).row.state ≡ true → (kept_of next j).moves.entries ≡ []
  new_none = on_each devs d x (λ j y. is_leaving y.row.state ≡ true → y.moves.entries ≡ []) h.there (λ is. nothing) (λ j ne is. absurd (false_true (sym (h.alone j) ∙ is)))

  only : (j : ℕ) → is_leaving (kept_of next j).row.state ≡ true → j ≡ d
  only = on_each devs d x (λ j y. is_leaving y.row.state ≡ true → j ≡ d) h.there (λ is. refl) (λ j ne is. absurd (false_true (sym (h.alone j) ∙ is)))

  same_way : (j : ℕ) → IsSameWay (kept_of devs j).row (kept_of next j).row
  same_way = on_each devs d x (λ j y. IsSameWay (kept_of devs j).row y.row) h.there
      (record { gone = sym (ap is_gone (ap (λ (z : Kept). z.row.state) (sym h.kept) ∙ h.on)); went = ap (λ (z : Kept). z.row.gone) h.kept; units = ap (λ (z : Kept). z.row.units) h.kept })
      (λ j ne. record { gone = refl; went = refl; units = refl })

  same_entries : (j : ℕ) → (kept_of next j).moves.entries ≡ (kept_of devs j).moves.entries
  same_entries = on_each devs d x (λ j y. y.moves.entries ≡ (kept_of devs j).moves.entries) h.there (nothing ∙ sym old_entries) (λ j ne. refl)

  uncopied : (u : ℕ) → has_unit k.uses.copies u ≡ false
  uncopied u =
      let none = no_hits devs d u (λ j is. absurd (false_true (sym (h.alone j) ∙ is))) in
      let was = h.space.copies d u in
      let same = ap (λ (z : Kept). has_unit z.uses.copies u) h.kept in
      grind (arith, nat_tests, none, was, same)

  start : m.opened ≡ 0
  start = ap (λ (y : Mapped). y.opened) h.begins.all

  now_tied : IsTied whole x
  now_tied = record {
    left = λ u. h.begins.left_is u ∙ ap (λ n. has_unit k.uses.held u && nat_le n u) (sym start);
    copied = λ u is below. absurd (omega (arith, below, start));
    quiet = h.quiet;
    unkept = λ u. ap (λ (es : List Extent). has_unit es u) h.unkept;
    uncopied = uncopied;
  }

  pub leaves_space : IsSpace whole t next
  leaves_space = record {
    devices = let e = h.space.devices in let n = h.turns.devs in let l = length-set devs d x in omega (arith, e, n, l);
    few = let f = h.space.few in let l = length-set devs d x in omega (arith, f, l);
    units = on_each devs d x (λ j y. units_at t j ≡ y.uses.units) h.there (h.turns.units d ∙ (h.space.units d ∙ ap (λ (z : Kept). z.uses.units) (sym h.kept))) (λ j ne. h.turns.units j ∙ h.space.units j);
    rows = on_each devs d x (λ j y. y.uses.units ≡ units_there y.row) h.there
        (let r : k.uses.units ≡ units_there k.row = subst (λ (z : Kept). z.uses.units ≡ units_there z.row) (sym h.kept) (h.space.rows d) in let g : is_gone k.row.state ≡ false = ap is_gone h.on in grind (arith, nat_tests, r, g))
        (λ j ne. h.space.rows j);
    small = on_each devs d x (λ j y. y.row.units < 2 ^ 40) h.there (subst (λ (z : Kept). z.row.units < 2 ^ 40) (sym h.kept) (h.space.small d)) (λ j ne. h.space.small j);
    moved = on_each devs d x (λ j y. IsMoved y.row y.moves) h.there moved (λ j ne. h.space.moved j);
    serves = on_each devs d x (λ j y. serves_at t j ≡ (nat_lt j (length next) && is_on y.row.state)) h.there
        (let v = h.turns.serves d in grind (arith, nat_tests, v))
        (λ j ne. let v = h.turns.serves j in let w = h.space.serves j in let l = length-set devs d x in grind (arith, nat_tests, v, w, l, ne));
    account = on_each devs d x (λ j y. IsAccount (free_at t j) (count_at t j) y.uses) h.there
        (account_as (free_at s d) (free_at t d) (count_at s d) (count_at t d) k.uses (λ u. h.turns.free d u) (h.turns.count d) (subst (λ (z : Kept). IsAccount (free_at s d) (count_at s d) z.uses) (sym h.kept) (h.space.account d)))
        (λ j ne. account_as (free_at s j) (free_at t j) (count_at s j) (count_at t j) (kept_of devs j).uses (λ u. h.turns.free j u) (h.turns.count j) (h.space.account j));
    copies = λ j u. no_hits next j u new_none ∙ (sym (no_hits devs j u (λ i is. absurd (false_true (sym (h.alone i) ∙ is)))) ∙ (h.space.copies j u ∙ ap one_if (same_uses u j)));
    single = λ i j one two. only i one ∙ sym (only j two);
    ranked = ranked_as (devices_of (map part_in devs)) (devices_of (map part_in next)) (length-map next part_in ∙ (length-set devs d x ∙ sym (length-map devs part_in)))
        (λ j. entries_are next j ∙ (same_entries j ∙ sym (entries_are devs j)))
        (λ j. subst (λ (r : DevRow). IsSameWay r ((devices_of (map part_in next)).row j)) (sym (rows_are devs j)) (subst (IsSameWay (kept_of devs j).row) (sym (rows_are next j)) (same_way j)))
        h.space.ranked;
    tied = on_each devs d x (λ j y. is_leaving y.row.state ≡ true → IsTied whole y) h.there (λ is. now_tied) (λ j ne. h.space.tied j);
    condensing = λ c is. on_each devs d x (λ j y. IsCondensing c (kept_of devs j) → IsCondensing c y) h.there (λ g. absurd (false_true (sym (ap is_gone (ap (λ (z : Kept). z.row.state) (sym h.kept) ∙ h.on)) ∙ ap is_gone g.gone))) (λ j ne g. g) c.dev (h.space.condensing c is);
  }

  pub begins : Leaves (space_of whole devs) (space_of whole next) d
  begins = record {
    row_is = here (λ (p : DevPart). p.row) ∙ ap (λ (z : Kept). record z.row { state = Leaving }) h.kept ∙ ap (λ (p : DevPart). record p.row { state = Leaving }) (sym (part_is devs d));
    entries = here (λ (p : DevPart). p.entries) ∙ nothing;
    counts = here (λ (p : DevPart). p.counts) ∙ ap (λ (y : Mapped). y.counts) h.begins.all;
    fresh = here (λ (p : DevPart). p.fresh) ∙ unmarked;
    synced = synced_is t next leaves_space d (ap (λ (z : Kept). is_leaving z.row.state) (kept_same devs d x h.there)) ∙ (ap (λ (z : Kept). z.moves.synced) (kept_same devs d x h.there) ∙ ap (λ (y : Mapped). y.synced) h.begins.all);
    roles = λ e u.
        roles_are whole next e u leaves_space
        ∙ (on_each devs d x (λ j y. role_in y.uses u ≡ role_in (kept_of devs j).uses u) h.there (ap (λ (z : Kept). role_in z.uses u) h.kept) (λ j ne. refl) e
        ∙ sym (roles_are whole devs e u h.space));
    elsewhere = record {
      version = refl;
      cond = refl;
      ckpt = refl;
      meta = meta_set 0 d devs x (ap (λ (z : Kept). z.uses.meta) h.kept);
      saved_meta = saved_set 0 d devs x (ap (λ (z : Kept). z.uses.saved) h.kept);
      devices = length-map next part_in ∙ (length-set devs d x ∙ sym (length-map devs part_in));
      others = λ other ne. subst (IsSamePart (part_of (map part_in devs) other)) (sym (same_other other ne)) (record { row = refl; entries = refl; counts = refl; late1 = refl; late2 = refl });
      fresh = λ other u ne. ap (λ (p : DevPart). has_unit p.fresh u) (same_other other ne);
      lawful = λ was. lawful whole t next leaves_space;
    };
  }
    where
      here : {A : Type 0} (f : DevPart → A) → f (part_of (map part_in next) d) ≡ f (part_in x)
      here f = ap f (part_is next d ∙ ap part_in (kept_same devs d x h.there))

      same_other : (other : ℕ) → other ≢ d → part_of (map part_in next) other ≡ part_of (map part_in devs) other
      same_other other ne = part_is next other ∙ (ap part_in (kept_other devs d other x (grind (arith, nat_tests, ne))) ∙ sym (part_is devs other))
