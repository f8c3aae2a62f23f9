-- A step of the drawn lines: what one line and what stands before it add.
use Rattle.std.proofs.Common.{◌≡◌, ℕ, suc, ◌+◌, ◌-◌, ◌<◌, List, [], ◌∷◌, ◌++◌, ap, sym, ◌∙◌, append_assoc, arith}
use Rattle.zr_script.specs.declared.command.Command.{Command}
use Rattle.zr_script.specs.Generated.{drawn, before_line, drawn_lines}

joined : (a b c : List Command) (x : Command) → ((a ++ b) ++ x ∷ []) ++ c ≡ a ++ (b ++ x ∷ c)
joined a b c x = simp append_assoc

one_more : (devs : List (List ℕ)) (count left n x : ℕ) (p : Command × ℕ) → drawn x ≡ p → drawn_lines devs count (suc left) n x ≡ before_line devs count n ++ p.0 ∷ drawn_lines devs count left (n + 1) p.1
one_more devs count left n x p e = ap (λ (q : Command × ℕ). before_line devs count n ++ q.0 ∷ drawn_lines devs count left (n + 1) q.1) e

pub drawn_lines-more : (devs : List (List ℕ)) (count done x x' : ℕ) (so_far : List Command) (line : Command) → done < count → drawn x ≡ (line, x') → ((so_far ++ before_line devs count (done + 1)) ++ line ∷ []) ++ drawn_lines devs count (count - (done + 1)) (done + 1 + 1) x' ≡ so_far ++ drawn_lines devs count (count - done) (done + 1) x
drawn_lines-more devs count done x x' so_far line lt e =
    let s : count - done ≡ suc (count - (done + 1)) = omega arith in
    joined so_far (before_line devs count (done + 1)) (drawn_lines devs count (count - (done + 1)) (done + 1 + 1) x') line
    ∙ ap (λ (l : List Command). so_far ++ l) (sym (one_more devs count (count - (done + 1)) (done + 1) x (line, x') e))
    ∙ ap (λ (m : ℕ). so_far ++ drawn_lines devs count m (done + 1) x) (sym s)
