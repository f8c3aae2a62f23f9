-- The commands of a generated run.
use Rattle.std.specs.Prelude.{ℕ, zero, suc, ◌+◌, ◌*◌, ◌/◌, ◌%◌, ◌^◌, ◌==◌, nat_lt, List, [], ◌∷◌, ◌++◌, map, codes, if◌then◌else◌}
use Rattle.std.specs.List.{range_with_len}
use Rattle.zr_script.specs.declared.command.Command.{Command}
use Rattle.zr_script.specs.declared.command.Command.TheVariants as cmd

-- the next state of the generator, and what it gives
abbrev pub next : ℕ → ℕ
next x = (x * 6364136223846793005 + 1442695040888963407) % 2 ^ 64

abbrev pub given : ℕ → ℕ
given x = x / 2 ^ 33

-- what the n-th draw from a state gives, the first being 0
abbrev pub state_after : ℕ → ℕ → ℕ
state_after zero x = next x
state_after (suc n) x = state_after n (next x)

abbrev pub draw : ℕ → ℕ → ℕ
draw n x = given (state_after n x)

-- a drawn line, and the state behind its draws
abbrev pub line_by : ℕ → ℕ → Command × ℕ
line_by k x =
    let id = draw 1 x % 16 in
    let off = 512 * (draw 2 x % 1024) in
    if nat_lt k 8 then (cmd.Fill id off (1 + draw 3 x % 4096) (1 + draw 4 x % 255), state_after 4 x)
    else (if nat_lt k 11 then (cmd.Punch id off (1 + draw 3 x % 8192), state_after 3 x)
    else (if k == 11 then (cmd.Read id off 64, state_after 2 x)
    else (if k == 12 then (cmd.Sync, state_after 0 x)
    else (if k == 13 then (cmd.StepEvac, state_after 0 x)
    else (if k == 14 then (cmd.StepDiscard, state_after 0 x)
    else (cmd.StepCondense, state_after 0 x))))))

abbrev pub drawn : ℕ → Command × ℕ
drawn x = line_by (draw 0 x % 16) x

-- the commands that stand before a drawn line, by its number
abbrev pub before_line : List (List ℕ) → ℕ → ℕ → List Command
before_line devs count n =
    (if n == count / 4 + 1 then cmd.Add (third devs) ∷ (cmd.Remove (first devs) ∷ []) else [])
    ++ (if n == count / 2 + 1 then cmd.Checkpoint ∷ [] else [])
    ++ (if n == 3 * count / 4 + 1 then cmd.Discard ∷ [] else [])
  where
    first : List (List ℕ) → List ℕ
    first [] = []
    first (d ∷ devs) = d

    third : List (List ℕ) → List ℕ
    third (a ∷ (b ∷ (c ∷ devs))) = c
    third _ = []

-- the drawn lines from a number on, with what stands before each
abbrev pub drawn_lines : List (List ℕ) → ℕ → ℕ → ℕ → ℕ → List Command
drawn_lines devs count zero n x = []
drawn_lines devs count (suc left) n x = before_line devs count n ++ (drawn x).0 ∷ drawn_lines devs count left (n + 1) (drawn x).1

abbrev pub makes : List Command
makes = map (λ i. cmd.Make i (if i % 3 == 0 then 1 else (if i % 3 == 1 then 2 else 4))) (range_with_len 0 16)

abbrev pub first_two : List (List ℕ) → List (List ℕ)
first_two (a ∷ (b ∷ devs)) = a ∷ (b ∷ [])
first_two devs = devs

-- All commands of the run that a number and a count give on at least three devices.
abbrev pub script_of : ℕ → ℕ → List (List ℕ) → List Command
script_of number count devs =
    cmd.Create (codes "gen") 1 (first_two devs) ∷ makes ++ drawn_lines devs count count 1 number
    ++ map cmd.Sum (range_with_len 0 16) ++ cmd.Audit ∷ (cmd.Export ∷ [])
