-- When a line is whole.
use Rattle.std.proofs.Common.{◌≡◌, ℕ, ◌≤◌, [], map, Bool, true, false, ◌&&◌, ltb, leb, IsTrue, List, ◌∷◌, length, Option, Some, is_some, Result, Ok, Err, IfOk, refl, sym, ap, ◌∙◌, arith}
use Rattle.std.proofs.lemmas.List.{length-map}
use Rattle.std.specs.List.{list_all}
use Rattle.std.proofs.lemmas.Bool.{false≢true, ltb-true, lt-ltb, leb-true, le-leb}
use Rattle.zr_script.specs.Words.{is_path, are_paths, are_different}
use Rattle.zr_script.specs.CommandLine.{CommandLine as Line}
use Rattle.zr_words.specs.declared.device.Device.{Device}
use Rattle.zr_words.specs.Views.{device_of, path_of}
use Rattle.zr_words.specs.Reading.{HasPaths, IsWhole}

all_four : (a b c d : Bool) → (((a && b) && c) && d) ≡ true → (a ≡ true) × (b ≡ true) × (c ≡ true) × (d ≡ true)
all_four true true true true e = (refl, refl, refl, refl)
all_four true true true false e = absurd (false≢true e)
all_four true true false d e = absurd (false≢true e)
all_four true false c d e = absurd (false≢true e)
all_four false b c d e = absurd (false≢true e)

four : (a b c d : Bool) → a ≡ true → b ≡ true → c ≡ true → d ≡ true → (((a && b) && c) && d) ≡ true
four a b c d e f g h = ap (λ x. ((x && b) && c) && d) e ∙ (ap (λ x. (x && c) && d) f ∙ (ap (λ x. x && d) g ∙ h))

abbrev paths_of : Line → List (List ℕ)
paths_of line = map (λ dev. dev.0) line.devs

whole : (line : Line) → are_paths (paths_of line) ≡ true → ((n : ℕ × ℕ) → line.generate ≡ Some n → 3 ≤ length line.devs) → IsWhole line
whole line e enough =
    let s = all_four (ltb 0 (length (paths_of line))) (leb (length (paths_of line)) 32) (list_all is_path (paths_of line)) (are_different (paths_of line)) e in
    let n : length (paths_of line) ≡ length line.devs = length-map line.devs (λ (dev : List ℕ × Option ℕ). dev.0) in
    record { some = let l = ltb-true 0 (length (paths_of line)) s.0 in omega arith; most = let l = leb-true (length (paths_of line)) 32 s.1 in omega arith; different = s.3; enough = enough }

not_whole : (line : Line) → HasPaths line → are_paths (paths_of line) ≡ false → IsWhole line → ⊥
not_whole line p e w =
    let n : length (paths_of line) ≡ length line.devs = length-map line.devs (λ (dev : List ℕ × Option ℕ). dev.0) in
    let some = w.some in
    let most = w.most in
    false≢true (sym e ∙ four (ltb 0 (length (paths_of line))) (leb (length (paths_of line)) 32) (list_all is_path (paths_of line)) (are_different (paths_of line))
    (lt-ltb 0 (length (paths_of line)) (omega arith)) (le-leb (length (paths_of line)) 32 (omega arith)) p w.different)

pub whole_if : {E : Type 0} (line : Line) (paths : List (List ℕ)) (r : Result Bool E) → IfOk r (λ are. are ≡ are_paths paths) → paths ≡ paths_of line
    → ((n : ℕ × ℕ) → line.generate ≡ Some n → 3 ≤ length line.devs) → IfOk r (λ is. IsTrue is → IsWhole line)
whole_if line paths (Ok b) e p enough = λ t. whole line (ap are_paths (sym p) ∙ (sym e ∙ t)) enough
whole_if line paths (Err x) e p enough = tt

pub other_if : {E : Type 0} (line : Line) (paths : List (List ℕ)) (r : Result Bool E) → IfOk r (λ are. are ≡ are_paths paths) → paths ≡ paths_of line
    → HasPaths line → IfOk r (λ is. is ≡ false → IsWhole line → ⊥)
other_if line paths (Ok b) e p h = λ f w. not_whole line h (ap are_paths (sym p) ∙ (sym e ∙ f)) w
other_if line paths (Err x) e p h = tt

pub paths_same : (devices : List Device) → map path_of devices ≡ map (λ (dev : List ℕ × Option ℕ). dev.0) (map device_of devices)
paths_same [] = refl
paths_same (d ∷ devices) = ap (λ ps. path_of d ∷ ps) (paths_same devices)

pub none_generates : {A : Type 0} (g : Option A) (n : A) → is_some g ≡ false → g ≡ Some n → ⊥
none_generates g n e s = false≢true (sym e ∙ ap is_some s)
