use Rattle.std.proofs.Common.{◌∙◌, ℕ, ap, sym}
use Rattle.zr_meta.specs.Parts.{piece}
use Rattle.zr_meta.proofs.EqualWords.{mapping_at}
use Rattle.zr_meta.proofs.Whole.{no_cond}
use Rattle.zr_meta.proofs.parts.cond_part.Goals as goal

pub returns-in_default-2 : goal.returns-in_default-2
returns-in_default-2 c = λ x k.
    let h = rw c.in-Some.is at k in
    let none = rw c.in_default-2.is at c.in_ok-m.ensures in
    let entries = c.as_slice.ensures ∙ (c.in_ok-entries.ensures ∙ ap (λ (n : ℕ). piece c.args.pieces.now n) c.saturating_sub.ensures) in
    let counts = c.as_slice-2.ensures ∙ (c.in_ok-counts.ensures ∙ ap (λ (n : ℕ). piece c.args.pieces.now n) c.saturating_sub-2.ensures) in
    no_cond c.in-Some.at c.args.pieces.now x (λ m s. none m (mapping_at _ _ _ _ m (sym entries) (sym counts) s)) h
