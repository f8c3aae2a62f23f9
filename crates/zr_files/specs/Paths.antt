-- The folder that has the entry of a path.
use Rattle.std.specs.Prelude.{ℕ, List, [], ◌∷◌, Option, None, Some}
use Rattle.std.specs.Path.{path_parent}

-- the folder, and the working folder, which is a dot, where none is named
abbrev pub folder_or_here : Option (List ℕ) → List ℕ
folder_or_here None = 46 ∷ []
folder_or_here (Some []) = 46 ∷ []
folder_or_here (Some (b ∷ bs)) = b ∷ bs

abbrev pub folder_of : List ℕ → List ℕ
folder_of path = folder_or_here (path_parent path)
