-- The difference of a set to itself has no words.
use Rattle.std.proofs.Common.{◌≡◌, ◌&&◌, ◌∙◌, ℕ, Bool, true, false, not, List, [], ◌∷◌, refl, sym, arith}
use Rattle.std.proofs.lemmas.Bool.Decides.{nat_tests}
use Rattle.zr_base.specs.declared.space.Extent.{Extent}
use Rattle.zr_base.specs.declared.space.Change.{Change}
use Rattle.zr_base.specs.Extents.{has_unit, IsMaximal}
use Rattle.zr_rules.specs.Logs.{AreCut, longest_run}
use Rattle.zr_store.specs.Store.{Stored}
use Rattle.zr_meta.specs.declared.Stream.{Stream}
use Rattle.zr_moves.specs.Streams.{IsDifference, LogsSet, runs_of}

not_both : (b : Bool) → (b && not b) ≡ false
not_both true = refl
not_both false = refl

no_units : (es : List Extent) → IsMaximal es → ((u : ℕ) → has_unit es u ≡ false) → es ≡ []
no_units [] maximal none = refl
no_units (e ∷ es) maximal none = absurd (grind (arith, nat_tests, none e.start, maximal.1))

no_runs : (most : ℕ) (es runs : List Extent) → es ≡ [] → AreCut most es runs → runs ≡ []
no_runs most [] runs is cut = cut
no_runs most (e ∷ es) runs is cut = absurd (cc)

is_listed : (freed : Bool) (c : Change) (changes : List Change) → c.free ≡ freed → runs_of freed (c ∷ changes) ≡ c.at ∷ runs_of freed changes
is_listed true c changes is = rw is refl
is_listed false c changes is = rw is refl

no_change : (freed : Bool) (c : Change) (changes : List Change) → c.free ≡ freed → runs_of freed (c ∷ changes) ≡ [] → ⊥
no_change freed c changes is none = let e : c.at ∷ runs_of freed changes ≡ [] = sym (is_listed freed c changes is) ∙ none in absurd (cc)

no_changes : (changes : List Change) → runs_of false changes ≡ [] → runs_of true changes ≡ [] → changes ≡ []
no_changes [] came went = refl
no_changes (c ∷ changes) came went = absurd (elim c.free as (λ freed. c.free ≡ freed → ⊥) [ true ↦ λ is. no_change true c changes is went | false ↦ λ is. no_change false c changes is came ] refl)

no_words : (version dev : ℕ) (es : List Extent) (words : List ℕ) → IsDifference version dev es es words → words ≡ []
no_words version dev es words d =
    let came = no_runs (longest_run version) d.came (runs_of false d.changes) (no_units d.came d.came_maximal (λ u. d.came_is u ∙ not_both (has_unit es u))) d.came_cut in
    let went = no_runs (longest_run version) d.went (runs_of true d.changes) (no_units d.went d.went_maximal (λ u. d.went_is u ∙ not_both (has_unit es u))) d.went_cut in
    let none = no_changes d.changes came went in
    d.spelling.spelling ∙ rw none refl

pub same_record : (version dev txg : ℕ) (es : List Extent) (old new : Stored) (a b : Stream) (had has : List ℕ) → LogsSet version dev txg es es old new a b had has → b ≡ a
same_record version dev txg es old new a b had has l =
    let none : l.added ≡ [] = no_words version dev es l.added l.difference in
    let turn = rw none at l.turn in turn
