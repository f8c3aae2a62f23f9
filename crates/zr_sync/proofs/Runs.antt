-- Runs that lie on a device, and the words of sets of them.
use Rattle.std.proofs.Common.{◌≡◌, ℕ, ◌+◌, ◌≤◌, ◌<◌, ◌^◌, ◌⊎◌, Bool, true, false, List, [], ◌∷◌, ◌++◌, length, refl, sym, ap, subst, inl, inr, arith}
use Rattle.std.specs.List.{AllByRecursion}
use Rattle.std.proofs.lemmas.Bool.Decides.{nat_tests}
use Rattle.zr_base.specs.declared.space.Extent.{Extent}
use Rattle.zr_base.specs.declared.space.Change.{Change}
use Rattle.zr_base.specs.declared.space.LateRun.{LateRun}
use Rattle.zr_base.specs.Extents.{has_unit, in_extent, unit_count, IsMaximal, IsMaximalFrom, EndsBy}
use Rattle.zr_rules.specs.Logs.{IsChange, IsLate, longest_run}
use Rattle.zr_rules.specs.Owed.{set_words}
use Rattle.zr_rules.specs.Places.{hits_late, part_of, units_of_dev}
use Rattle.zr_rules.specs.Space.{Space, opened_of, has_place, IsSet, IsLawful}
use Rattle.zr_smap.specs.Cuts.{IsInReach, reach}
use Rattle.zr_meta.specs.Streams.{late_list}
use Rattle.zr_obsolete.proofs.Counting.{count-le}
use Rattle.zr_commit.proofs.LateWords.{late_long}
use Rattle.zr_commit.specs.Logs.{is_long}
use Rattle.zr_units.specs.Apart.{IsWithin}
use Rattle.zr_units.specs.Uses.{Freed}
use Rattle.zr_units.specs.Differences.{runs_of}
use Rattle.zr_units.proofs.SetWords.{words_at_most}
use Rattle.zr_space.specs.Views as views
use Rattle.zr_space.specs.Records.{GainsFresh, GainsHeld, GainsKept}
use Rattle.zr_space.proofs.Sums.{late_hits_are, some_in, extent_hits}
use Rattle.zr_space.proofs.Counts.{count_within}
use Rattle.zr_sync.specs.Words.{IsRun, AreFreed, log_set}
use Rattle.zr_sync.specs.declared.words.Log.{Log}
use Rattle.zr_sync.specs.declared.words.Log.TheVariants.{Held, Kept, Fresh}

-- ---- changes

pub all_push : {X : Type 0} (P : X → Type 0) (xs : List X) (x : X) → AllByRecursion P xs → P x → AllByRecursion P (xs ++ x ∷ [])
all_push P [] x h p = (p, tt)
all_push P (y ∷ ys) x h p = (h.0, all_push P ys x h.1 p)

pub cut_lawful : (version start len : ℕ) (free : Bool) → 1 ≤ len → len ≤ longest_run version → start < 2 ^ 47 → IsChange version (record { free = free; at = record { start = start; len = len } })
cut_lawful version start len free some most place = record { some = some; most = most; place = place }

run_at : (units low : ℕ) (e : Extent) → low ≤ e.start → 0 < e.len → e.start + e.len ≤ units → units ≤ 2 ^ 26 → IsRun e
run_at units low e from some ends small = record { some = omega arith; within = omega (arith, ends, small) }

runs_from : (units low : ℕ) (es : List Extent) → IsMaximalFrom low es → EndsBy units es → units ≤ 2 ^ 26 → AllByRecursion IsRun es
runs_from units low [] m ends small = tt
runs_from units low (e ∷ es) m ends small = (run_at units low e m.0 m.1 ends.0 small, runs_from units (e.start + e.len + 1) es m.3 ends.1 small)

pub set_runs : (units : ℕ) (es : List Extent) → IsSet units es → units ≤ 2 ^ 26 → AllByRecursion IsRun es
set_runs units es s small = runs_from units 0 es s.maximal s.within small

both_kinds : (changes : List Change) → AllByRecursion IsRun (runs_of false changes) → AllByRecursion IsRun (runs_of true changes) → AllByRecursion (λ (c : Change). IsRun c.at) changes
both_kinds [] p q = tt
both_kinds (c ∷ changes) p q =
    (elim c.free as (λ (b : Bool). c.free ≡ b → AllByRecursion (λ (x : Change). IsRun x.at) (c ∷ changes)) [
      | true ↦ λ is.
          let came : runs_of false (c ∷ changes) ≡ runs_of false changes = grind (arith, nat_tests, is) in
          let went : runs_of true (c ∷ changes) ≡ c.at ∷ runs_of true changes = grind (arith, nat_tests, is) in
          let here = subst (AllByRecursion IsRun) went q in
          (here.0, both_kinds changes (subst (AllByRecursion IsRun) came p) here.1)
      | false ↦ λ is.
          let came : runs_of false (c ∷ changes) ≡ c.at ∷ runs_of false changes = grind (arith, nat_tests, is) in
          let went : runs_of true (c ∷ changes) ≡ runs_of true changes = grind (arith, nat_tests, is) in
          let here = subst (AllByRecursion IsRun) came p in
          (here.0, both_kinds changes here.1 (subst (AllByRecursion IsRun) went q))
    ]) refl

pub gains_runs : (s : Space) (d : ℕ) (changes : List Change) → IsLawful s → units_of_dev s.parts.devs d ≤ 2 ^ 26 → GainsHeld s d changes → AllByRecursion (λ (c : Change). IsRun c.at) changes
gains_runs s d changes l small g =
    let sets = l.sets d in
    let born = set_runs (units_of_dev s.parts.devs d) (opened_of s d).born sets.born small in
    let deferred = set_runs (units_of_dev s.parts.devs d) (opened_of s d).deferred sets.deferred small in
    both_kinds changes (subst (AllByRecursion IsRun) (sym g.merged.came_is) born) (subst (AllByRecursion IsRun) (sym g.merged.went_is) deferred)

pub kept_runs : (s : Space) (d : ℕ) (changes : List Change) → IsLawful s → units_of_dev s.parts.devs d ≤ 2 ^ 26 → GainsKept s d changes → AllByRecursion (λ (c : Change). IsRun c.at) changes
kept_runs s d changes l small g =
    let sets = l.sets d in
    let came = set_runs (units_of_dev s.parts.devs d) (opened_of s d).kept.came sets.kept_came small in
    let went = set_runs (units_of_dev s.parts.devs d) (opened_of s d).kept.went sets.kept_went small in
    both_kinds changes (subst (AllByRecursion IsRun) (sym g.merged.came_is) came) (subst (AllByRecursion IsRun) (sym g.merged.went_is) went)

pub fresh_runs : (s : Space) (d : ℕ) (changes : List Change) → IsLawful s → units_of_dev s.parts.devs d ≤ 2 ^ 26 → GainsFresh s d changes → AllByRecursion (λ (c : Change). IsRun c.at) changes
fresh_runs s d changes l small g =
    let sets = l.sets d in
    let came = set_runs (units_of_dev s.parts.devs d) (opened_of s d).fresh.came sets.fresh_came small in
    let went = set_runs (units_of_dev s.parts.devs d) (opened_of s d).fresh.went sets.fresh_went small in
    both_kinds changes (subst (AllByRecursion IsRun) (sym g.merged.came_is) came) (subst (AllByRecursion IsRun) (sym g.merged.went_is) went)

-- ---- sets

ends_within : (units : ℕ) (es : List Extent) → EndsBy units es → IsWithin es units
ends_within units [] ends = λ u is. grind (arith, nat_tests, is)
ends_within units (e ∷ es) ends = λ u is.
    (elim (in_extent e u) as (λ (b : Bool). in_extent e u ≡ b → u < units) [
      | true ↦ λ here. let end = ends.0 in grind (arith, nat_tests, here, end)
      | false ↦ λ not_here. let rest : has_unit es u ≡ true = grind (arith, nat_tests, is, not_here) in ends_within units es ends.1 u rest
    ]) refl

pub wider : (es : List Extent) (m n : ℕ) → m ≤ n → IsWithin es m → IsWithin es n
wider es m n le within = λ u is. let lt = within u is in omega (arith, lt, le)

pub set_within : (units : ℕ) (es : List Extent) → IsSet units es → units ≤ 2 ^ 26 → IsWithin es (2 ^ 26)
set_within units es s small = wider es units (2 ^ 26) small (ends_within units es s.within)

pub in_reach : (version : ℕ) (es : List Extent) → (version ≡ 1) ⊎ (version ≡ 2) → IsWithin es (2 ^ 26) → IsInReach version es
in_reach version es v within = λ u is. let lt = within u is in elim v [
  | inl one ↦ subst (λ (k : ℕ). u < reach k) (sym one) (omega (arith, lt))
  | inr two ↦ subst (λ (k : ℕ). u < reach k) (sym two) (omega (arith, lt))
]

few_units : (n : ℕ) (es : List Extent) → IsMaximal es → IsWithin es n → n ≤ 2 ^ 62 → unit_count es ≤ n
few_units n es m within le =
    let count = count_within n es m within le in
    let most = count-le n (has_unit es) in
    omega (arith, count, most)

few_of : (n version : ℕ) (es : List Extent) → IsMaximal es → IsWithin es n → n ≤ 2 ^ 62 → set_words version es ≤ n
few_of n version es m within le =
    let words = words_at_most version 0 es m in
    let units = few_units n es m within le in
    omega (arith, words, units)

pub few_words : (version : ℕ) (es : List Extent) → IsMaximal es → IsWithin es (2 ^ 26) → set_words version es ≤ 2 ^ 26
few_words version es m within = few_of (2 ^ 26) version es m within (omega arith)

pub few_late : (version dev : ℕ) (f : Freed) (words : List ℕ) → (version ≡ 1) ⊎ (version ≡ 2) → IsMaximal f.blocks → IsMaximal f.meta → AreFreed f → IsLate version dev words (late_list f.blocks f.meta) → length words ≤ 2 ^ 34
few_late version dev f words v bm mm a late =
    let long = late_long version dev f.blocks f.meta words v (in_reach version f.blocks v a.blocks) (in_reach version f.meta v a.meta) late in
    let one = few_words version f.blocks bm a.blocks in
    let two = few_words version f.meta mm a.meta in
    omega (arith, long, one, two)

-- ---- what is freed

pub opened_freed : (s : Space) (d : ℕ) (f : Freed) → IsLawful s → units_of_dev s.parts.devs d ≤ 2 ^ 26 → f.blocks ≡ (opened_of s d).deferred → f.meta ≡ (opened_of s d).dropped → AreFreed f
opened_freed s d f l small blocks meta =
    let sets = l.sets d in
    record {
      blocks = subst (λ (es : List Extent). IsWithin es (2 ^ 26)) (sym blocks) (set_within (units_of_dev s.parts.devs d) (opened_of s d).deferred sets.deferred small);
      meta = subst (λ (es : List Extent). IsWithin es (2 ^ 26)) (sym meta) (set_within (units_of_dev s.parts.devs d) (opened_of s d).dropped sets.dropped small);
    }

on_device : (s : Space) (d u : ℕ) → IsLawful s → 0 < hits_late (part_of s.parts.devs d).late1 u → u < units_of_dev s.parts.devs d
on_device s d u l some =
    let once = l.once d u in
    let place : has_place s d u ≡ true = grind (arith, nat_tests, once, some) in
    grind (arith, nat_tests, place)

pub late_freed : (s : Space) (d : ℕ) (f : Freed) → IsLawful s → units_of_dev s.parts.devs d ≤ 2 ^ 26 → views.late_runs f ≡ (part_of s.parts.devs d).late1 → AreFreed f
late_freed s d f l small are = record {
  blocks = λ u is.
      let hits = late_hits_are f u in
      let here = some_in f.blocks u in
      let same = ap (λ (rs : List LateRun). hits_late rs u) are in
      let has : 0 < extent_hits f.blocks u = grind (arith, nat_tests, here, is) in
      let some : 0 < hits_late (part_of s.parts.devs d).late1 u = omega (arith, hits, same, has) in
      let lt = on_device s d u l some in omega (arith, lt, small);
  meta = λ u is.
      let hits = late_hits_are f u in
      let here = some_in f.meta u in
      let same = ap (λ (rs : List LateRun). hits_late rs u) are in
      let has : 0 < extent_hits f.meta u = grind (arith, nat_tests, here, is) in
      let some : 0 < hits_late (part_of s.parts.devs d).late1 u = omega (arith, hits, same, has) in
      let lt = on_device s d u l some in omega (arith, lt, small);
}

-- ---- logs

pub log_is_set : (s : Space) (d : ℕ) (log : Log) → IsLawful s → IsSet (units_of_dev s.parts.devs d) (log_set log (part_of s.parts.devs d))
log_is_set s d Held l = let sets = l.sets d in sets.held
log_is_set s d Kept l = let sets = l.sets d in sets.kept
log_is_set s d Fresh l = let sets = l.sets d in sets.fresh

log_within : (s : Space) (d : ℕ) (log : Log) (es : List Extent) → IsLawful s → units_of_dev s.parts.devs d ≤ 2 ^ 26 → es ≡ log_set log (part_of s.parts.devs d) → IsWithin es (2 ^ 26)
log_within s d log es l small is =
    subst (λ (xs : List Extent). IsWithin xs (2 ^ 26)) (sym is) (set_within (units_of_dev s.parts.devs d) (log_set log (part_of s.parts.devs d)) (log_is_set s d log l) small)

pub log_reach : (s : Space) (d : ℕ) (log : Log) (es : List Extent) → IsLawful s → units_of_dev s.parts.devs d ≤ 2 ^ 26 → es ≡ log_set log (part_of s.parts.devs d) → (version : ℕ) → (version ≡ 1) ⊎ (version ≡ 2) → IsInReach version es
log_reach s d log es l small is version v = in_reach version es v (log_within s d log es l small is)

pub few_log : (s : Space) (d : ℕ) (log : Log) (es : List Extent) → IsLawful s → units_of_dev s.parts.devs d ≤ 2 ^ 26 → es ≡ log_set log (part_of s.parts.devs d) → (version : ℕ) → set_words version es ≤ 2 ^ 26
few_log s d log es l small is version =
    let set = log_is_set s d log l in
    few_words version es (subst IsMaximal (sym is) set.maximal) (log_within s d log es l small is)

pub not_long : (b : Bool) (words added anew : ℕ) → b ≡ is_long words added anew → b ≡ false → anew ≤ 2 ^ 26 → words + added ≤ 2 ^ 34
not_long b words added anew is short few = grind (arith, nat_tests, is, short, few)
