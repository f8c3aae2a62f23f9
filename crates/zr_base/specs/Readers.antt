-- What a reader of a text or of bytes answers.
use Rattle.std.specs.Prelude.{Option, Some, None}

-- a value that the text stands for, or nothing where the text stands for no value
abbrev pub Reads : {X : Type 0} → (X → Type 0) → Option X → Type 0
Reads {X} Is None = (x : X) → Is x → ⊥
Reads Is (Some x) = Is x
