-- Devices as the command line has them, and the chooser that it names.
use Rattle.std.proofs.Common.{◌≡◌, ◌≢◌, ℕ, Bool, true, false, List, [], ◌∷◌, map, Option, Some, None, option_map, refl, sym, ap, subst, ◌∙◌, cond, MatchOption}
use Rattle.std.specs.List.{find}
use Rattle.std.specs.Str.{bytes_eq}
use Rattle.zr_words.specs.declared.device.Device.{Device}
use Rattle.zr_words.specs.Views.{device_of, path_of}
use Rattle.zr_words.specs.Choosing.{chosen}

pub paths_same : (devices : List Device) → map (λ (d : List ℕ × Option ℕ). d.0) (map device_of devices) ≡ map path_of devices
paths_same [] = refl
paths_same (d ∷ devices) = ap (λ ps. path_of d ∷ ps) (paths_same devices)

-- the first that passes, and the name of it
named_first : {X : Type 0} (name_of : X → List ℕ) (x : X) (b : Bool) (found : Option X) (names : Option (List ℕ)) → option_map name_of found ≡ names → option_map name_of (cond b (Some x) found) ≡ cond b (Some (name_of x)) names
named_first name_of x true found names e = refl
named_first name_of x false found names e = e

found_name : {X : Type 0} (name_of : X → List ℕ) (name : List ℕ) (xs : List X) → option_map name_of (find (λ x. bytes_eq (name_of x) name) xs) ≡ find (λ n. bytes_eq n name) (map name_of xs)
found_name name_of name [] = refl
found_name name_of name (x ∷ xs) = named_first name_of x (bytes_eq (name_of x) name) (find (λ y. bytes_eq (name_of y) name) xs) (find (λ n. bytes_eq n name) (map name_of xs)) (found_name name_of name xs)

-- the chooser that is asked for has the name that is found among the names
pub chosen_name : {X : Type 0} (name_of : X → List ℕ) (name : Option (List ℕ)) (xs : List X) → option_map name_of (chosen name_of name xs) ≡ chosen (λ n. n) name (map name_of xs)
chosen_name name_of None [] = refl
chosen_name name_of None (x ∷ xs) = refl
chosen_name name_of (Some name) xs = found_name name_of name xs

some_is : {X : Type 0} (name_of : X → List ℕ) (found : Option X) (x : X) → found ≡ Some x → option_map name_of found ≢ None
some_is name_of found x e n = subst (λ o. MatchOption o (Unit {0}) (λ y. ⊥)) (sym n ∙ ap (option_map name_of) e) tt

-- where a chooser is found
pub is_chosen : {X : Type 0} (name_of : X → List ℕ) (name : Option (List ℕ)) (xs : List X) (x : X) → chosen name_of name xs ≡ Some x → chosen (λ n. n) name (map name_of xs) ≢ None
is_chosen name_of name xs x e n = some_is name_of (chosen name_of name xs) x e (chosen_name name_of name xs ∙ n)

-- where none is
pub none_chosen : {X : Type 0} (name_of : X → List ℕ) (name : Option (List ℕ)) (xs : List X) → chosen name_of name xs ≡ None → chosen (λ n. n) name (map name_of xs) ≡ None
none_chosen name_of name xs e = sym (chosen_name name_of name xs) ∙ ap (option_map name_of) e
