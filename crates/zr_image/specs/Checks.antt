-- Checks in an order, of which the first that fails is answered.
use Rattle.std.specs.Prelude.{◌≡◌, ◌⊎◌, List, [], ◌∷◌, Result, Ok, Err}
use Rattle.zr_base.specs.declared.refusal.Refusal.{Refusal}

-- what may come of some checks: a value, or the refusal of the first that fails
abbrev pub Check : Type 0 → Type 1
Check A = Result A Refusal → Type 0

-- one check, and then those that its value leads to
infixl 10 ◌>>=◌
abbrev pub ◌>>=◌ : {A B : Type 0} → Check A → (A → Check B) → Check B
◌>>=◌ {A} first next result = ((a : A) × first (Ok a) × next a result) ⊎ ((r : Refusal) × first (Err r) × (result ≡ Err r))

-- the value, whatever the disks have
abbrev pub Gives : {A : Type 0} → A → Check A
Gives a result = result ≡ Ok a

-- the fact holds, or does not, and that is why it is refused
abbrev pub Demands : Type 0 → Refusal → Check (Unit {0})
Demands Fact r (Ok done) = Fact
Demands Fact r (Err e) = (Fact → ⊥) × (e ≡ r)

-- a value has the fact, or none has it, and that is why it is refused
abbrev pub Finds : {A : Type 0} → (A → Type 0) → Refusal → Check A
Finds Fact r (Ok a) = Fact a
Finds {A} Fact r (Err e) = ((a : A) → Fact a → ⊥) × (e ≡ r)

-- nothing has the fact, or it is refused for the first that has it
abbrev pub Excludes : {A : Type 0} → (A → Type 0) → (A → Type 0) → (A → Refusal) → Check (Unit {0})
Excludes {A} Fact IsFirst r (Ok done) = (a : A) → Fact a → ⊥
Excludes {A} Fact IsFirst r (Err e) = (a : A) × IsFirst a × (e ≡ r a)

-- the checks of each item in order, each from what the one before left
abbrev pub Each : {A S : Type 0} → (A → S → Check S) → List A → S → Check S
Each step [] s = Gives s
Each step (x ∷ xs) s = step x s >>= Each step xs

-- the same checks, with another refusal for each that they answer
abbrev pub Under : {A : Type 0} → (Refusal → Refusal) → Check A → Check A
Under other check (Ok a) = check (Ok a)
Under other check (Err e) = (r : Refusal) × check (Err r) × (e ≡ other r)
