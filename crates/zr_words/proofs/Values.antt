-- A value that says nothing.
use Rattle.std.proofs.Common.{◌≡◌, List, ℕ, Option, Some, None, Bor, map, refl}
use Rattle.std.specs.Prelude.{option_map, unwrap_or}
use Rattle.zr_words.specs.Reading.{Gives}

pub gives_nothing : {A : Type 0} (P : List ℕ → A → Type 0) (text : List ℕ) → ((x : A) → P text x → ⊥) → (given : Option A) → Gives P (Some text) given → ⊥
gives_nothing P text none None h = h
gives_nothing P text none (Some x) h = none x h

-- the words of the devices, or none
pub words_found : (found : Option (Bor (List (Bor (List ℕ))))) (other : Bor (List (Bor (List ℕ)))) → map (λ word. word.now) (unwrap_or found other).now ≡ unwrap_or (option_map (λ words. map (λ word. word.now) words.now) found) (map (λ word. word.now) other.now)
words_found None other = refl
words_found (Some words) other = refl
