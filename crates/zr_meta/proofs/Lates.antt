-- The words of a late set.
use Rattle.std.proofs.Common.{◌≡◌, ◌⊎◌, ℕ, ◌^◌, ◌<◌, ◌≤◌, List, [], ◌∷◌, ◌++◌, map, true, false, Option, Some, None, refl, sym, ap, subst, ◌∙◌, ⊎_elim, arith}
use Rattle.std.specs.Prelude.{IfSome, IfNone, option_map}
use Rattle.std.specs.List.{AllByRecursion, flat_map}
use Rattle.std.proofs.lemmas.Grind.{flat_map-append}
use Rattle.std.proofs.lemmas.Bool.Decides.{nat_tests}
use Rattle.zr_base.specs.declared.space.Extent.{Extent}
use Rattle.zr_base.specs.declared.space.Change.{Change}
use Rattle.zr_base.specs.declared.space.LateRun.{LateRun}
use Rattle.zr_base.specs.Extents.{EndsBy, IsMaximal}
use Rattle.zr_base.proofs.ExtentSets.{same_extents}
use Rattle.zr_ranges.specs.Ranges.{Ranges}
use Rattle.zr_rules.specs.Logs.{change_words, IsChange, SpellsChanges, IsReplay, IsInTurn, IsAnew, IsLate, AreCut, longest_run, late_runs, taken_after}
use Rattle.zr_smap.specs.Cuts.{taken}
use Rattle.zr_smap.specs.Spellings.{IsRun}
use Rattle.zr_meta.specs.Streams.{IsLateOf, IsFreedAnew, IsOnlySet, late_list, runs_of_kind}
use Rattle.zr_meta.proofs.Logs.{one_list}
use Rattle.zr_meta.proofs.Cuts.{in_order, ascending, taken_is, all_units, same_cuts}

-- a run that is given back, and a change as one that gives back
abbrev pub freed_run : Extent → Change
freed_run e = record { free = true; at = e }

abbrev pub turned_round : Change → Change
turned_round c = record { free = true; at = c.at }

-- the changes of a late stream
abbrev pub kinds : List Extent → List Extent → List Change
kinds blocks meta = map taken blocks ++ map freed_run meta

no_blocks : (meta : List Extent) → runs_of_kind false (map freed_run meta) ≡ []
no_blocks [] = refl
no_blocks (e ∷ meta) = no_blocks meta

all_meta : (meta : List Extent) → runs_of_kind true (map freed_run meta) ≡ meta
all_meta [] = refl
all_meta (e ∷ meta) = ap (λ (xs : List Extent). e ∷ xs) (all_meta meta)

pub blocks_told : (blocks meta : List Extent) → runs_of_kind false (kinds blocks meta) ≡ blocks
blocks_told [] meta = no_blocks meta
blocks_told (e ∷ blocks) meta = ap (λ (xs : List Extent). e ∷ xs) (blocks_told blocks meta)

pub meta_told : (blocks meta : List Extent) → runs_of_kind true (kinds blocks meta) ≡ meta
meta_told [] meta = all_meta meta
meta_told (e ∷ blocks) meta = meta_told blocks meta

-- whatever maximal extents the runs are cut from, their replay leaves those
pub only_set : (runs : List Extent) (changes : List Change) (found : Option Ranges) → changes ≡ map taken runs → IfSome found (λ s. IsReplay changes s.extents) → IfNone found (((u : ℕ) → IsInTurn false changes u) → ⊥) → IsOnlySet runs found
only_set runs changes None is some none = λ es most pos m cut.
    absurd (none (λ u. subst (λ (cs : List Change). IsInTurn false cs u) (sym is) (in_order 0 runs false u (ascending most 0 es runs pos m cut) (λ e. absurd cc))))
only_set runs changes (Some s) is some none = λ es most pos m cut.
    ap (λ (xs : List Extent). Some xs)
    (same_extents 0 0 s.extents es some.maximal m
    (λ u. some.members u ∙ (ap (λ (cs : List Change). taken_after false cs u) is ∙ (taken_is runs u ∙ all_units most es runs u cut))))

longest_small : (version : ℕ) → (version ≡ 1) ⊎ (version ≡ 2) → (0 < longest_run version) × (longest_run version ≤ 2 ^ 36)
longest_small version which =
    ⊎_elim (λ one. (grind (arith, nat_tests, one), grind (arith, nat_tests, one))) (λ two. (grind (arith, nat_tests, two), grind (arith, nat_tests, two))) which

pub runs_lawful : (version : ℕ) (cs : List Change) → (version ≡ 1) ⊎ (version ≡ 2) → AllByRecursion (IsChange version) cs → AllByRecursion IsRun cs
runs_lawful version [] which h = tt
runs_lawful version (c ∷ cs) which h =
    let most = h.0.most in let small = (longest_small version which).1 in
    (record { some = omega (arith, h.0.some); place = omega (arith, h.0.place) }, runs_lawful version cs which h.1)

-- ---- the words of a set that give back

lawful_freed : (version : ℕ) (runs : List Extent) → AllByRecursion (IsChange version) (map taken runs) → AllByRecursion (IsChange version) (map freed_run runs)
lawful_freed version [] h = tt
lawful_freed version (r ∷ runs) h = (record { some = h.0.some; most = h.0.most; place = h.0.place }, lawful_freed version runs h.1)

turned : (runs : List Extent) → map turned_round (map taken runs) ≡ map freed_run runs
turned [] = refl
turned (r ∷ runs) = ap (λ (xs : List Change). freed_run r ∷ xs) (turned runs)

-- the changes of a set anew, turned round
pub freed_changes : (version dev : ℕ) (es : List Extent) (words : List ℕ) (changes freed : List Change) → (a : IsAnew version dev es words) → SpellsChanges version dev words changes → freed ≡ map turned_round changes → freed ≡ map freed_run a.runs
freed_changes version dev es words changes freed a s is =
    is ∙ (ap (map turned_round) (one_list version dev words changes (map taken a.runs) s a.spelling) ∙ turned a.runs)

pub freed_lawful : (version dev : ℕ) (es : List Extent) (words : List ℕ) (changes freed : List Change) → IsAnew version dev es words → SpellsChanges version dev words changes → freed ≡ map turned_round changes → AllByRecursion (IsChange version) freed
freed_lawful version dev es words changes freed a s is =
    subst (AllByRecursion (IsChange version)) (sym (freed_changes version dev es words changes freed a s is)) (lawful_freed version a.runs a.spelling.lawful)

pub freed_anew : (version dev : ℕ) (es : List Extent) (words : List ℕ) (changes freed : List Change) (out : List ℕ) → IsAnew version dev es words → SpellsChanges version dev words changes → freed ≡ map turned_round changes → SpellsChanges version dev out freed → IsFreedAnew version dev es out
freed_anew version dev es words changes freed out a s is h = record {
  runs = a.runs;
  cut = a.cut;
  spelling = subst (SpellsChanges version dev out) (freed_changes version dev es words changes freed a s is) h;
}

-- ---- late sets

both_lawful : (version : ℕ) (cs ds : List Change) → AllByRecursion (IsChange version) cs → AllByRecursion (IsChange version) ds → AllByRecursion (IsChange version) (cs ++ ds)
both_lawful version [] ds h k = k
both_lawful version (c ∷ cs) ds h k = (h.0, both_lawful version cs ds h.1 k)

pub both_spelled : (version dev : ℕ) (a b : List ℕ) (cs ds : List Change) → SpellsChanges version dev a cs → SpellsChanges version dev b ds → SpellsChanges version dev (a ++ b) (cs ++ ds)
both_spelled version dev a b cs ds h k = record {
  lawful = both_lawful version cs ds h.lawful k.lawful;
  spelling =
      ap (λ (x : List ℕ). x ++ b) h.spelling
      ∙ (ap (λ (x : List ℕ). flat_map (change_words dev) cs ++ x) k.spelling ∙ sym (flat_map-append (change_words dev) cs ds));
}

pub late_is : (version dev : ℕ) (blocks meta : List Extent) (a b : List ℕ) → IsMaximal blocks → IsMaximal meta → IsAnew version dev blocks a → IsFreedAnew version dev meta b → IsLate version dev (a ++ b) (late_list blocks meta)
late_is version dev blocks meta a b bm mm h k = record {
  blocks = blocks;
  meta = meta;
  blocks_maximal = bm;
  meta_maximal = mm;
  all = refl;
  block_runs = h.runs;
  meta_runs = k.runs;
  blocks_cut = h.cut;
  meta_cut = k.cut;
  spelling = both_spelled version dev a b (map taken h.runs) (map freed_run k.runs) h.spelling k.spelling;
}

-- the runs of each kind of the changes of a late stream
pub changes_told : (version dev : ℕ) (words : List ℕ) (runs : List LateRun) (changes : List Change) → SpellsChanges version dev words changes → (h : IsLate version dev words runs) → changes ≡ kinds h.block_runs h.meta_runs
changes_told version dev words runs changes s h = one_list version dev words changes (kinds h.block_runs h.meta_runs) s h.spelling

-- the sets of a late stream are the only ones
pub found_blocks : (version dev : ℕ) (words : List ℕ) (runs : List LateRun) (changes : List Change) (found : Option Ranges) → (version ≡ 1) ⊎ (version ≡ 2) → SpellsChanges version dev words changes → (h : IsLate version dev words runs) → IsOnlySet (runs_of_kind false changes) found → option_map (λ s. s.extents) found ≡ Some h.blocks
found_blocks version dev words runs changes found which s h only =
    let same : runs_of_kind false changes ≡ h.block_runs = ap (runs_of_kind false) (changes_told version dev words runs changes s h) ∙ blocks_told h.block_runs h.meta_runs in
    only h.blocks (longest_run version) (longest_small version which).0 h.blocks_maximal (subst (AreCut (longest_run version) h.blocks) (sym same) h.blocks_cut)

pub found_meta : (version dev : ℕ) (words : List ℕ) (runs : List LateRun) (changes : List Change) (found : Option Ranges) → (version ≡ 1) ⊎ (version ≡ 2) → SpellsChanges version dev words changes → (h : IsLate version dev words runs) → IsOnlySet (runs_of_kind true changes) found → option_map (λ s. s.extents) found ≡ Some h.meta
found_meta version dev words runs changes found which s h only =
    let same : runs_of_kind true changes ≡ h.meta_runs = ap (runs_of_kind true) (changes_told version dev words runs changes s h) ∙ meta_told h.block_runs h.meta_runs in
    only h.meta (longest_run version) (longest_small version which).0 h.meta_maximal (subst (AreCut (longest_run version) h.meta) (sym same) h.meta_cut)

-- two late streams of the same sets have the same words
pub same_words : (version dev : ℕ) (words other : List ℕ) (runs more : List LateRun) → (version ≡ 1) ⊎ (version ≡ 2) → (h : IsLate version dev words runs) → (k : IsLate version dev other more) → h.blocks ≡ k.blocks → h.meta ≡ k.meta → words ≡ other
same_words version dev words other runs more which h k be me =
    let pos = (longest_small version which).0 in
    let blocks = same_cuts (longest_run version) k.blocks h.block_runs k.block_runs pos (subst (λ (es : List Extent). AreCut (longest_run version) es h.block_runs) be h.blocks_cut) k.blocks_cut in
    let meta = same_cuts (longest_run version) k.meta h.meta_runs k.meta_runs pos (subst (λ (es : List Extent). AreCut (longest_run version) es h.meta_runs) me h.meta_cut) k.meta_cut in
    h.spelling.spelling
    ∙ (ap (λ (rs : List Extent). flat_map (change_words dev) (kinds rs h.meta_runs)) blocks
    ∙ (ap (λ (rs : List Extent). flat_map (change_words dev) (kinds k.block_runs rs)) meta ∙ sym k.spelling.spelling))

meta_alone : (meta : List Extent) → late_runs false (late_list [] meta) ≡ []
meta_alone [] = refl
meta_alone (e ∷ meta) = meta_alone meta

meta_whole : (meta : List Extent) → late_runs true (late_list [] meta) ≡ meta
meta_whole [] = refl
meta_whole (e ∷ meta) = ap (λ (xs : List Extent). e ∷ xs) (meta_whole meta)

blocks_of : (blocks meta : List Extent) → late_runs false (late_list blocks meta) ≡ blocks
blocks_of [] meta = meta_alone meta
blocks_of (e ∷ blocks) meta = ap (λ (xs : List Extent). e ∷ xs) (blocks_of blocks meta)

meta_of : (blocks meta : List Extent) → late_runs true (late_list blocks meta) ≡ meta
meta_of [] meta = meta_whole meta
meta_of (e ∷ blocks) meta = meta_of blocks meta

-- the words of a late set are those that its sets are spelled in
pub told_words : (version dev : ℕ) (words other : List ℕ) (runs : List LateRun) (blocks meta : List Extent) → (version ≡ 1) ⊎ (version ≡ 2) → (h : IsLate version dev words runs) → IsLate version dev other (late_list blocks meta) → blocks ≡ h.blocks → meta ≡ h.meta → words ≡ other
told_words version dev words other runs blocks meta which h k be me =
    same_words version dev words other runs (late_list blocks meta) which h k
    (sym be ∙ (sym (blocks_of blocks meta) ∙ (ap (late_runs false) k.all ∙ blocks_of k.blocks k.meta)))
    (sym me ∙ (sym (meta_of blocks meta) ∙ (ap (late_runs true) k.all ∙ meta_of k.blocks k.meta)))

ends_both : (units : ℕ) (xs ys : List Extent) → EndsBy units xs → EndsBy units ys → EndsBy units (xs ++ ys)
ends_both units [] ys h k = k
ends_both units (x ∷ xs) ys h k = (h.0, ends_both units xs ys h.1 k)

ends_apart : (units : ℕ) (xs ys : List Extent) → EndsBy units (xs ++ ys) → EndsBy units xs × EndsBy units ys
ends_apart units [] ys h = (tt, h)
ends_apart units (x ∷ xs) ys h = let r = ends_apart units xs ys h.1 in ((h.0, r.0), r.1)

late_extents : (blocks meta : List Extent) → map (λ r. r.at) (late_list blocks meta) ≡ blocks ++ meta
late_extents [] [] = refl
late_extents [] (e ∷ meta) = ap (λ (xs : List Extent). e ∷ xs) (late_extents [] meta)
late_extents (e ∷ blocks) meta = ap (λ (xs : List Extent). e ∷ xs) (late_extents blocks meta)

pub late_ends : (units : ℕ) (blocks meta : List Extent) → EndsBy units blocks → EndsBy units meta → EndsBy units (map (λ r. r.at) (late_list blocks meta))
late_ends units blocks meta h k = subst (EndsBy units) (sym (late_extents blocks meta)) (ends_both units blocks meta h k)

pub ends_late : (version dev units : ℕ) (words : List ℕ) (runs : List LateRun) → (h : IsLateOf version dev units words runs) → EndsBy units h.late.blocks × EndsBy units h.late.meta
ends_late version dev units words runs h =
    ends_apart units h.late.blocks h.late.meta
    (subst (EndsBy units) (ap (map (λ (r : LateRun). r.at)) h.late.all ∙ late_extents h.late.blocks h.late.meta) h.within)
