use Rattle.std.proofs.Common.{◌∙◌, ◌++◌, ◌∷◌, List, ℕ, inl, inr, ap}
use Rattle.zr_moves.proofs.Behind.{no_acts}
use Rattle.zr_moves.proofs.program.no_line_is_dropped.Goals as goal

pub returns : goal.returns
returns c = λ policy rounds start input taken sent stopped a.
    let none = no_acts rounds a.lines a.front a.rest start a.due a.ended.0 a.plays in
    elim a.ended.1 [
      | inl all ↦ inl (all ∙ none)
      | inr (quit, more, is, line) ↦ inr (quit, more, is ∙ ap (λ (xs : List (List ℕ)). xs ++ quit ∷ more) none, line)
    ]
