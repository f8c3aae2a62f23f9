-- Devices of which nothing is used can always be opened.
use Rattle.std.proofs.Common.{◌≡◌, inl, inr, ℕ, ◌<◌, ◌≤◌, ◌^◌, Bool, true, false, List, [], ◌∷◌, length, map, get_or, Some, None, refl, sym, ◌∙◌, ap, subst, arith}
use Rattle.std.specs.Prelude.{All, if◌then◌else◌}
use Rattle.std.specs.List.{sum_by}
use Rattle.std.proofs.lemmas.Bool.{cases_lt}
use Rattle.std.proofs.lemmas.List.{length-map}
use Rattle.std.proofs.lemmas.List.Elements.{All-nil}
use Rattle.std.proofs.lemmas.List.Sums.{sum_by-cons}
use Rattle.std.proofs.Math.ListN.{get_or-map, get_or-eq_default}
use Rattle.zr_base.specs.declared.space.CondPart.{CondPart}
use Rattle.zr_base.specs.declared.space.DevPart.{DevPart}
use Rattle.zr_base.specs.declared.space.DevRow.{DevRow}
use Rattle.zr_base.specs.declared.space.DevState.{DevState}
use Rattle.zr_base.specs.declared.space.DevState.TheVariants.{On, Leaving, Gone}
use Rattle.zr_base.specs.declared.space.Entry.{Entry}
use Rattle.zr_base.specs.Extents.{has_unit}
use Rattle.zr_judge.specs.Blank.{blank_part, blank_parts, there_or_gone}
use Rattle.zr_rules.specs.Devices.{devices_of}
use Rattle.zr_rules.specs.Equation.{root_space}
use Rattle.zr_rules.specs.Places.{one_if, part_of, is_kept, is_leaving, state_of_dev}
use Rattle.zr_rules.specs.Resolve.{IsDestination}
use Rattle.zr_rules.specs.Space.{Space, HasSets, IsLawful, OpenSets, copy_hits, is_born, is_copy_by, nothing_opened, opened_of, set_hits}
use Rattle.zr_space.proofs.Opening.{none_opened}
use Rattle.zr_space.specs.Opens.{CanOpen, IsPart}
use Rattle.zr_space.specs.Views.{EndsWithin}

abbrev pub none_row : DevRow
none_row = record { state = On; added = 0; units = 0; gone = 0 }

stays : (s : DevState) → is_leaving (there_or_gone s) ≡ false
stays On = refl
stays Leaving = refl
stays Gone = refl

not_leaving : (b : Bool) → b ≡ false → b ≡ true → ⊥
not_leaving b none other = let e = sym none ∙ other in cc

state_leaving : (s : DevState) → s ≡ Leaving → is_leaving s ≡ true
state_leaving s is = ap is_leaving is

one_part : (r : DevRow) → r.units < 2 ^ 40 → IsPart (blank_part r)
one_part r small = record {
  small = small;
  mapped = record {
    entries = record { rising = tt; within = All-nil (EndsWithin r.units) };
    counts = record { each = refl; sources = λ u is. absurd (let e = is in cc); fits = λ i lt. absurd (omega (arith, lt)) };
    service = λ is. refl;
    leaving = λ is. refl;
  };
  late1 = record { freed = record { blocks = []; meta = [] }; listed = refl; maximal = record { blocks = tt; meta = tt } };
  late2 = record { freed = record { blocks = []; meta = [] }; listed = refl; maximal = record { blocks = tt; meta = tt } };
}

module _ (version : ℕ) (rows : List DevRow) (few : length rows ≤ 32) (small : All (λ (r : DevRow). r.units < 2 ^ 40) rows) where
  abbrev devs : List DevPart
  devs = map blank_part rows

  abbrev space : Space
  space = root_space (blank_parts version rows) [] []

  pub part_at : (d : ℕ) → part_of devs d ≡ blank_part (get_or rows d none_row)
  part_at d = get_or-map blank_part rows d none_row

  small_at : (d : ℕ) → (get_or rows d none_row).units < 2 ^ 40
  small_at d = elim (cases_lt d (length rows)) [
    | inl lt ↦ small d none_row lt
    | inr ge ↦ let none = ap (λ (r : DevRow). r.units) (get_or-eq_default rows none_row {n = d} ge) in omega (arith, none)
  ]

  leaving_at : (d : ℕ) → is_leaving (state_of_dev devs d) ≡ false
  leaving_at d = ap (λ (p : DevPart). is_leaving p.row.state) (part_at d) ∙ stays (get_or rows d none_row).state

  opened_at : (d : ℕ) → opened_of space d ≡ nothing_opened
  opened_at d = none_opened devs d

  sets_at : (d : ℕ) → HasSets (part_of devs d) (opened_of space d)
  sets_at d = subst (λ (p : DevPart). HasSets p (opened_of space d)) (sym (part_at d)) (subst (λ (o : OpenSets). HasSets (blank_part (get_or rows d none_row)) o) (sym (opened_at d)) (record {
    held = record { maximal = tt; within = tt };
    kept = record { maximal = tt; within = tt };
    fresh = record { maximal = tt; within = tt };
    born = record { maximal = tt; within = tt };
    deferred = record { maximal = tt; within = tt };
    dropped = record { maximal = tt; within = tt };
    kept_came = record { maximal = tt; within = tt };
    kept_went = record { maximal = tt; within = tt };
    fresh_came = record { maximal = tt; within = tt };
    fresh_went = record { maximal = tt; within = tt };
  }))

  abbrev hits_of : DevPart → OpenSets → ℕ → ℕ
  hits_of p o u = set_hits (record { parts = record { version = version; devs = p ∷ []; cond = None; ckpt = (blank_parts version rows).ckpt }; opened = o ∷ []; synced = 0; meta = []; saved_meta = [] }) 0 u

  unused : (d u : ℕ) → set_hits space d u ≡ 0
  unused d u = ap (λ (p : DevPart). hits_of p (opened_of space d) u) (part_at d) ∙ ap (λ (o : OpenSets). hits_of (blank_part (get_or rows d none_row)) o u) (opened_at d)

  none_copied : (ps : List DevRow) (d u : ℕ) → copy_hits (map blank_part ps) d u ≡ 0
  none_copied [] d u = refl
  none_copied (r ∷ rs) d u =
      let rest = none_copied rs d u in
      let first : (if is_leaving (there_or_gone r.state) then sum_by (λ (e : Entry). one_if (is_copy_by (blank_part r) d u e)) [] else 0) ≡ 0 = rw (stays r.state) refl in
      sum_by-cons (λ (p : DevPart). if is_leaving p.row.state then sum_by (λ (e : Entry). one_if (is_copy_by p d u e)) p.entries else 0) (blank_part r) (map blank_part rs) ∙ omega (arith, first, rest)

  not_kept : (d u : ℕ) → is_kept devs d u ≡ false
  not_kept d u = ap (λ (p : DevPart). has_unit p.kept u) (part_at d)

  not_born : (d u : ℕ) → is_born space d u ≡ false
  not_born d u = ap (λ (o : OpenSets). has_unit o.born u) (opened_at d)

  lawful : IsLawful space
  lawful = record {
    devices = length-map devs (λ (p : DevPart). nothing_opened);
    sets = sets_at;
    once = λ d u. let none = unused d u in omega (arith, none);
    copies = λ d u. let none = none_copied rows d u in let kept = ap one_if (not_kept d u) in omega (arith, none, kept);
    born = λ d u is. absurd (not_leaving (is_born space d u) (not_born d u) is);
  }

  pub can_open : CanOpen (blank_parts version rows) [] []
  can_open = record {
    few = let n = length-map rows blank_part in omega (arith, n, few);
    each = λ d lt. subst IsPart (sym (part_at d)) (one_part (get_or rows d none_row) (small_at d));
    single = λ d e is other. absurd (not_leaving (is_leaving (state_of_dev devs d)) (leaving_at d) is);
    evacuated = λ d is. absurd (not_leaving (is_leaving (state_of_dev devs d)) (leaving_at d) is);
    ranked = λ d. subst (All (IsDestination (devices_of devs) d)) (sym (ap (λ (p : DevPart). p.entries) (part_at d))) (All-nil (IsDestination (devices_of devs) d));
    condensing = λ c is. absurd (none_is c is);
    lawful = lawful;
  }
    where
      none_is : (c : CondPart) → None ≡ Some c → ⊥
      none_is c is = cc
