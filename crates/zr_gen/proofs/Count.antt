-- How many commands a generated run has.
use Rattle.std.proofs.Common.{◌≡◌, ℕ, zero, suc, ◌+◌, ◌*◌, ◌/◌, ◌<◌, ◌≤◌, Bool, true, false, List, [], ◌∷◌, ◌++◌, length, map, refl, arith, length-append}
use Rattle.std.specs.Prelude.{◌==◌, if◌then◌else◌}
use Rattle.std.specs.List.{range_with_len}
use Rattle.std.proofs.lemmas.Bool.Decides.{nat_tests}
use Rattle.zr_script.specs.declared.command.Command.{Command}
use Rattle.zr_script.specs.declared.command.Command.TheVariants as cmd
use Rattle.zr_script.specs.Generated.{drawn, before_line, drawn_lines, script_of}

abbrev bit : Bool → ℕ
bit true = 1
bit false = 0

-- how many of the numbers from n on, of which there are `left`, are m
abbrev hits : ℕ → ℕ → ℕ → ℕ
hits m zero n = 0
hits m (suc left) n = bit (n == m) + hits m left (n + 1)

miss : (m n r : ℕ) → m < n → r ≡ 0 → bit (n == m) + r ≡ 0
miss m n r h e = grind (arith, nat_tests)

hits_past : (m left n : ℕ) → m < n → hits m left n ≡ 0
hits_past m zero n h = refl
hits_past m (suc left) n h = miss m n (hits m left (n + 1)) h (hits_past m left (n + 1) (omega arith))

hit : (m n r : ℕ) → n ≤ m → (m < n + 1 → r ≡ 0) → (n + 1 ≤ m → r ≡ 1) → bit (n == m) + r ≡ 1
hit m n r h past later = grind (arith, nat_tests)

hits_one : (m left n : ℕ) → n ≤ m → m < n + left → hits m left n ≡ 1
hits_one m zero n a b = absurd (omega arith)
hits_one m (suc left) n a b = hit m n (hits m left (n + 1)) a (λ h. hits_past m left (n + 1) h) (λ h. hits_one m left (n + 1) h (omega arith))

three_tests : (p q r : Bool) (a b c d : Command) → length ((if p then a ∷ (b ∷ []) else []) ++ (if q then c ∷ [] else []) ++ (if r then d ∷ [] else [])) ≡ 2 * bit p + bit q + bit r
three_tests true true true a b c d = refl
three_tests true true false a b c d = refl
three_tests true false true a b c d = refl
three_tests true false false a b c d = refl
three_tests false true true a b c d = refl
three_tests false true false a b c d = refl
three_tests false false true a b c d = refl
three_tests false false false a b c d = refl

length-before_line : (devs : List (List ℕ)) (count n : ℕ) → length (before_line devs count n) ≡ 2 * bit (n == count / 4 + 1) + bit (n == count / 2 + 1) + bit (n == 3 * count / 4 + 1)
length-before_line devs count n = three_tests (n == count / 4 + 1) (n == count / 2 + 1) (n == 3 * count / 4 + 1) _ _ _ _

length-drawn_lines : (devs : List (List ℕ)) (count left n x : ℕ) → length (drawn_lines devs count left n x) ≡ left + (2 * hits (count / 4 + 1) left n + hits (count / 2 + 1) left n + hits (3 * count / 4 + 1) left n)
length-drawn_lines devs count zero n x = refl
length-drawn_lines devs count (suc left) n x =
    omega (arith, length-append (before_line devs count n) ((drawn x).0 ∷ drawn_lines devs count left (n + 1) (drawn x).1), length-before_line devs count n, length-drawn_lines devs count left (n + 1) (drawn x).1)

pub length-script_of : (number count : ℕ) (devs : List (List ℕ)) → 0 < count → length (script_of number count devs) ≡ count + 39
length-script_of number count devs h =
    let first : hits (count / 4 + 1) count 1 ≡ 1 = hits_one (count / 4 + 1) count 1 (omega arith) (omega arith) in
    let second : hits (count / 2 + 1) count 1 ≡ 1 = hits_one (count / 2 + 1) count 1 (omega arith) (omega arith) in
    let third : hits (3 * count / 4 + 1) count 1 ≡ 1 = hits_one (3 * count / 4 + 1) count 1 (omega arith) (omega arith) in
    let lines : length (drawn_lines devs count count 1 number) ≡ count + 4 = omega (arith, length-drawn_lines devs count count 1 number) in
    let sums = map cmd.Sum (range_with_len 0 16) in
    omega (arith, length-append (drawn_lines devs count count 1 number ++ sums) (cmd.Audit ∷ (cmd.Export ∷ [])), length-append (drawn_lines devs count count 1 number) sums)
