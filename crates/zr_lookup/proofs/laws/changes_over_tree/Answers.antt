use Rattle.std.proofs.Common.{◌≡◌, ◌∙◌, ◌<◌, ℕ, suc, List, [], ◌∷◌, Option, refl, ap, arith}
use Rattle.std.specs.Prelude.{unwrap_or}
use Rattle.std.proofs.lemmas.Bool.{eq-eqb, ne_eqb}
use Rattle.zr_bptr.specs.declared.Ptr.{Ptr}
use Rattle.zr_tree.specs.Trees.{tree_at, updated}
use Rattle.zr_txg.specs.Tables.{IsRisingFrom, value_at}
use Rattle.zr_txg.specs.Changes.{changes_in}
use Rattle.zr_txg.proofs.Keyed.{value_at-low, by_key}
use Rattle.zr_lookup.proofs.laws.changes_over_tree.Goals as goal

one_change : (low index : ℕ) (es : List (ℕ × Ptr)) (p : Ptr) → IsRisingFrom low es → updated es index p ≡ unwrap_or (value_at es index) p
one_change low index [] p up = refl
one_change low index (e ∷ es) p up =
    by_key e.0 index
    (λ same.
    let before : index < suc e.0 = omega (arith, same) in
    let none = value_at-low (suc e.0) index es up.1 before in
    rw (eq-eqb e.0 index same) (one_change (suc e.0) index es e.1 up.1 ∙ ap (λ (o : Option Ptr). unwrap_or o e.1) none))
    (λ other. rw (ne_eqb e.0 index other) (one_change (suc e.0) index es p up.1))

pub returns : goal.returns
returns c = λ s g id r index rising. one_change 0 index (changes_in g id) (tree_at s r.tree index) rising
