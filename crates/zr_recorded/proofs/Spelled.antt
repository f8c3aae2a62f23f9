-- The words of a device in service record its part.
use Rattle.std.proofs.Common.{◌≡◌, ◌<◌, ◌+◌, ◌-◌, ℕ, Bool, true, false, List, [], ◌∷◌, ◌++◌, length, map, refl, sym, ap, subst, arith}
use Rattle.std.specs.Prelude.{nat_lt, not, ◌&&◌, ◌||◌}
use Rattle.std.specs.List.{AllByRecursion}
use Rattle.std.proofs.lemmas.Bool.Decides.{nat_tests}
use Rattle.std.proofs.lemmas.List.Sums.{sum_by-cons}
use Rattle.zr_base.specs.Extents.{EndsBy, HasAll, IsMaximal, IsMaximalFrom, has_unit, in_extent}
use Rattle.zr_base.specs.declared.space.CkptPart.{CkptPart}
use Rattle.zr_base.specs.declared.space.CkptPart.TheVariants.{Clear}
use Rattle.zr_base.specs.declared.space.DevPart.{DevPart}
use Rattle.zr_base.specs.declared.space.DevRow.{DevRow}
use Rattle.zr_base.specs.declared.space.Extent.{Extent}
use Rattle.zr_base.specs.declared.space.LateRun.{LateRun}
use Rattle.zr_meta.specs.Streams.{IsLateOf, IsLogOf, SpellsMapping, SpellsPart}
use Rattle.zr_rules.specs.Logs.{IsLate, IsLog}
use Rattle.zr_rules.specs.Places.{hits_late, is_gone, is_held, is_kept, one_if, part_of, state_of_dev, units_of_dev}
use Rattle.zr_rules.specs.Space.{IsLawful, Space, set_hits}
use Rattle.zr_recorded.specs.Service.{ServesWhole}

-- ---- sets and numbers

is_one : (b : Bool) → 0 < one_if b → b ≡ true
is_one true some = refl
is_one false some = absurd (omega (arith, some))

or_later : (b c : Bool) → c ≡ true → (b || c) ≡ true
or_later true c is = refl
or_later false c is = is

or_now : (b c : Bool) → b ≡ true → (b || c) ≡ true
or_now true c is = refl
or_now false c is = absurd cc

below_place : (a g : Bool) (u n : ℕ) → 0 < one_if (a && (not g && nat_lt u n)) → u < n
below_place true false u n some = let is = is_one (nat_lt u n) some in grind (arith, nat_tests, is)
below_place true true u n some = absurd (omega (arith, some))
below_place false g u n some = absurd (omega (arith, some))

-- each unit of some is one of all
all_in : (all some : List Extent) → ((u : ℕ) → has_unit some u ≡ true → has_unit all u ≡ true) → AllByRecursion (HasAll all) some
all_in all [] within = tt
all_in all (e ∷ es) within = (λ u is. within u (or_now (in_extent e u) (has_unit es u) is), all_in all es (λ u is. within u (or_later (in_extent e u) (has_unit es u) is)))

-- ---- late sets

last_in : (e : Extent) → 0 < e.len → in_extent e (e.start + (e.len - 1)) ≡ true
last_in e some = grind (arith, nat_tests, some)

abbrev of_blocks : Extent → LateRun
of_blocks e = record { at = e; meta = false }

abbrev of_meta : Extent → LateRun
of_meta e = record { at = e; meta = true }

some_meta : (low : ℕ) (es : List Extent) → IsMaximalFrom low es → AllByRecursion (λ (r : LateRun). 0 < r.at.len) (map of_meta es)
some_meta low [] is = tt
some_meta low (e ∷ es) is = (is.1, some_meta (e.start + e.len + 1) es is.3)

some_runs : (low : ℕ) (blocks meta : List Extent) → IsMaximalFrom low blocks → IsMaximal meta → AllByRecursion (λ (r : LateRun). 0 < r.at.len) (map of_blocks blocks ++ map of_meta meta)
some_runs low [] meta is others = some_meta 0 meta others
some_runs low (e ∷ es) meta is others = (is.1, some_runs (e.start + e.len + 1) es meta is.3 others)

ends : (units : ℕ) (runs : List LateRun) → AllByRecursion (λ (r : LateRun). 0 < r.at.len) runs → ((u : ℕ) → 0 < hits_late runs u → u < units) → EndsBy units (map (λ (r : LateRun). r.at) runs)
ends units [] some below = tt
ends units (r ∷ runs) some below =
    let last : ℕ = r.at.start + (r.at.len - 1) in
    let adds = sum_by-cons (λ (x : LateRun). one_if (in_extent x.at last)) r runs in
    let one : one_if (in_extent r.at last) ≡ 1 = ap one_if (last_in r.at some.0) in
    let here = below last (omega (arith, adds, one)) in
    let many = some.0 in (
      omega (arith, here, many),
      ends units runs some.1 (λ u hit. below u (let more = sum_by-cons (λ (x : LateRun). one_if (in_extent x.at u)) r runs in omega (arith, more, hit))),
    )

late_of : (version dev units : ℕ) (words : List ℕ) (runs : List LateRun) → IsLate version dev words runs → ((u : ℕ) → 0 < hits_late runs u → u < units) → IsLateOf version dev units words runs
late_of version dev units words runs is below = record {
  late = is;
  within = ends units runs (subst (λ (rs : List LateRun). AllByRecursion (λ (r : LateRun). 0 < r.at.len) rs) (sym is.all) (some_runs 0 is.blocks is.meta is.blocks_maximal is.meta_maximal)) below;
}

-- ---- what there is not

no_mapping : (p : DevPart) → ServesWhole p → SpellsMapping [] [] (record { entries = p.entries; counts = p.counts })
no_mapping p serves =
    subst (λ es. SpellsMapping [] [] (record { entries = es; counts = p.counts })) (sym serves.entries)
    (subst (λ (cs : List ℕ). SpellsMapping [] [] (record { entries = []; counts = cs })) (sym serves.counts)
    (record { entries_are = record { lawful = tt; spelling = refl }; counts_are = record { lawful = tt; spelling = refl }; each = refl }))

no_log : (version dev units : ℕ) → IsLogOf version dev units [] []
no_log version dev units = record {
  log = record {
    changes = [];
    spelling = record { lawful = tt; spelling = refl };
    replay = record { turns = λ u. tt; members = λ u. refl; maximal = tt };
    anew = [];
    is_anew = record { runs = []; cut = refl; spelling = record { lawful = tt; spelling = refl } };
    short = omega (arith);
  };
  within = tt;
}

-- ---- a device

module _ (s : Space) (lawful : IsLawful s) (d : ℕ) where
  abbrev p : DevPart
  p = part_of s.parts.devs d

  kept_held : (u : ℕ) → has_unit p.kept u ≡ true → has_unit p.held u ≡ true
  kept_held u is =
      let most = lawful.copies d u in
      let one : one_if (is_kept s.parts.devs d u) ≡ 1 = ap one_if is in
      is_one (is_held s.parts.devs d u) (omega (arith, most, one))

  placed : (u : ℕ) → 0 < set_hits s d u → u < p.row.units
  placed u hit =
      let most = lawful.once d u in
      below_place (nat_lt d (length s.parts.devs)) (is_gone (state_of_dev s.parts.devs d)) u (units_of_dev s.parts.devs d) (omega (arith, most, hit))

  pub spelled : (version : ℕ) (ckpt : CkptPart) (row : DevRow) (held kept late1 late2 : List ℕ) → p.row ≡ row → ServesWhole p → (ckpt ≡ Clear → p.kept ≡ [])
      → IsLog version d held p.held → IsLog version d kept p.kept → IsLate version d late1 p.late1 → IsLate version d late2 p.late2
      → SpellsPart version d ckpt (record { row = row; held = held; kept = kept; entries = []; counts = []; fresh = []; late1 = late1; late2 = late2 }) p
  spelled version ckpt row held kept late1 late2 same serves unkept held_is kept_is first second =
      subst (λ (r : DevRow). SpellsPart version d ckpt (record { row = r; held = held; kept = kept; entries = []; counts = []; fresh = []; late1 = late1; late2 = late2 }) p) same
      (record {
        row_is = refl;
        mapping = no_mapping p serves;
        sets = record {
          held_is = record { log = held_is; within = (lawful.sets d).held.within };
          kept_is = record { log = kept_is; within = (lawful.sets d).kept.within };
          covered = all_in p.held p.kept kept_held;
          none = unkept;
        };
        fresh = subst (λ (es : List Extent). IsLogOf version d p.row.units [] es) (sym serves.fresh) (no_log version d p.row.units);
        late1 = late_of version d p.row.units late1 p.late1 first (λ u hit. placed u (omega (arith, hit)));
        late2 = late_of version d p.row.units late2 p.late2 second (λ u hit. placed u (omega (arith, hit)));
      })
