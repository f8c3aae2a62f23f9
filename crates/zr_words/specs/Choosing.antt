-- The chooser that a command line names.
use Rattle.std.specs.Prelude.{ℕ, List, [], ◌∷◌, Option, Some, None}
use Rattle.std.specs.List.{find}
use Rattle.std.specs.Str.{bytes_eq}

-- the first of this name; without a name the first of all
abbrev pub chosen : {X : Type 0} → (X → List ℕ) → Option (List ℕ) → List X → Option X
chosen name_of (Some name) choosers = find (λ chooser. bytes_eq (name_of chooser) name) choosers
chosen name_of None [] = None
chosen name_of None (chooser ∷ choosers) = Some chooser
