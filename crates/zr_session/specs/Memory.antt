-- A pool whose objects are in memory.
use Rattle.std.specs.Prelude.{◌≡◌, ℕ, List, Option, Some, None, IfSome}
use Rattle.std.specs.FinMap as map
use Rattle.zr_model.specs.Objects.{Objects, with_bytes}
use Rattle.zr_model.specs.State.{State, no_pool, opened, created, with_objects}
use Rattle.zr_session.specs.declared.memory.OpenPool.{OpenPool}

-- the objects after a write into one of them
abbrev pub IsChanged : Objects → ℕ → ℕ → List ℕ → Objects → Type 0
IsChanged old id off bytes new = IfSome (map.get old id) (λ o. new ≡ map.insert old id (with_bytes o off bytes))

-- the pool on the devices of the words
abbrev pub state_in : List (List ℕ) → Option OpenPool → State
state_in paths None = no_pool
state_in paths (Some p) = opened (with_objects (created p.name p.guid paths) p.objects)
