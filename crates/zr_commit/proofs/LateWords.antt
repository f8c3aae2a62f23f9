-- How many words a late set has.
use Rattle.std.proofs.Common.{◌≡◌, ◌⊎◌, ℕ, ◌+◌, ◌<◌, List, [], ◌∷◌, length, map, Bool, true, false, nat_le, refl, sym, ap, subst, ◌∙◌, ⊎_elim, arith}
use Rattle.std.specs.Prelude.{if◌then◌else◌}
use Rattle.std.specs.List.{flat_map}
use Rattle.std.proofs.lemmas.List.{length-append}
use Rattle.std.proofs.lemmas.Grind.{flat_map-append}
use Rattle.std.proofs.lemmas.Bool.Decides.{nat_tests}
use Rattle.zr_base.specs.declared.space.Extent.{Extent}
use Rattle.zr_base.specs.declared.space.Change.{Change}
use Rattle.zr_base.specs.Extents.{IsMaximal}
use Rattle.zr_rules.specs.Logs.{change_words, IsLate, AreCut, longest_run, late_runs}
use Rattle.zr_rules.specs.Owed.{set_words}
use Rattle.zr_smap.specs.Cuts.{taken, taken_words, IsInReach}
use Rattle.zr_smap.proofs.Cutting.{is_anew, anew_length}
use Rattle.zr_meta.specs.Streams.{late_list}

-- a run that is given back
abbrev given_back : Extent → Change
given_back e = record { free = true; at = e }

one_long : (yes : Bool) (x y z u v w : ℕ) → length (if yes then x ∷ [] else y ∷ z ∷ []) ≡ length (if yes then u ∷ [] else v ∷ w ∷ [])
one_long true x y z u v w = refl
one_long false x y z u v w = refl

change_long : (dev : ℕ) (e : Extent) → length (change_words dev (given_back e)) ≡ length (change_words dev (taken e))
change_long dev e = one_long (nat_le e.len 32768) _ _ _ _ _ _

-- a run has as many words whether it is taken or given back
runs_long : (dev : ℕ) (runs : List Extent) → length (flat_map (change_words dev) (map given_back runs)) ≡ length (taken_words dev runs)
runs_long dev [] = refl
runs_long dev (e ∷ runs) =
    let a = length-append (change_words dev (given_back e)) (flat_map (change_words dev) (map given_back runs)) in
    let b = length-append (change_words dev (taken e)) (taken_words dev runs) in
    let c = change_long dev e in
    let d = runs_long dev runs in
    omega (arith, a, b, c, d)

some_run : (version : ℕ) → (version ≡ 1) ⊎ (version ≡ 2) → 0 < longest_run version
some_run version which = ⊎_elim (λ one. grind (arith, nat_tests, one)) (λ two. grind (arith, nat_tests, two)) which

-- the runs of a set have the words of the set
set_long : (version dev : ℕ) (es runs : List Extent) → (version ≡ 1) ⊎ (version ≡ 2) → IsMaximal es → IsInReach version es → AreCut (longest_run version) es runs → length (taken_words dev runs) ≡ set_words version es
set_long version dev es runs which maximal reach cut =
    anew_length version dev es (taken_words dev runs) which maximal reach
    (is_anew version dev (longest_run version) es (taken_words dev runs) which refl (some_run version which) maximal reach (record { runs = runs; cut = cut; words_are = refl }))

meta_alone : (meta : List Extent) → late_runs false (late_list [] meta) ≡ []
meta_alone [] = refl
meta_alone (e ∷ meta) = meta_alone meta

meta_whole : (meta : List Extent) → late_runs true (late_list [] meta) ≡ meta
meta_whole [] = refl
meta_whole (e ∷ meta) = ap (λ (xs : List Extent). e ∷ xs) (meta_whole meta)

blocks_of : (blocks meta : List Extent) → late_runs false (late_list blocks meta) ≡ blocks
blocks_of [] meta = meta_alone meta
blocks_of (e ∷ blocks) meta = ap (λ (xs : List Extent). e ∷ xs) (blocks_of blocks meta)

meta_of : (blocks meta : List Extent) → late_runs true (late_list blocks meta) ≡ meta
meta_of [] meta = meta_whole meta
meta_of (e ∷ blocks) meta = meta_of blocks meta

pub late_long : (version dev : ℕ) (blocks meta : List Extent) (words : List ℕ) → (version ≡ 1) ⊎ (version ≡ 2) → IsInReach version blocks → IsInReach version meta → IsLate version dev words (late_list blocks meta) → length words ≡ set_words version blocks + set_words version meta
late_long version dev blocks meta words which blocks_in meta_in h =
    let eb : blocks ≡ h.blocks = sym (blocks_of blocks meta) ∙ (ap (late_runs false) h.all ∙ blocks_of h.blocks h.meta) in
    let em : meta ≡ h.meta = sym (meta_of blocks meta) ∙ (ap (late_runs true) h.all ∙ meta_of h.blocks h.meta) in
    let a = set_long version dev h.blocks h.block_runs which h.blocks_maximal (subst (IsInReach version) eb blocks_in) h.blocks_cut ∙ ap (set_words version) (sym eb) in
    let b = set_long version dev h.meta h.meta_runs which h.meta_maximal (subst (IsInReach version) em meta_in) h.meta_cut ∙ ap (set_words version) (sym em) in
    let c = runs_long dev h.meta_runs in
    let words_are = ap (λ (xs : List ℕ). length xs) (h.spelling.spelling ∙ flat_map-append (change_words dev) (map taken h.block_runs) (map given_back h.meta_runs)) in
    let d = length-append (taken_words dev h.block_runs) (flat_map (change_words dev) (map given_back h.meta_runs)) in
    omega (arith, a, b, c, words_are, d)
