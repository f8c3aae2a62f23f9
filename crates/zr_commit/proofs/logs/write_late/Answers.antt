use Rattle.std.proofs.Common.{◌≡◌, ◌∙◌, ℕ, List, length, ap, subst, arith}
use Rattle.std.specs.Prelude.{IfOk}
use Rattle.std.specs.Int.{div_ceil}
use Rattle.zr_base.specs.Trees.{tree_units}
use Rattle.zr_store.specs.Causes.{Costs, HasCause}
use Rattle.zr_commit.proofs.LateWords.{late_long}
use Rattle.zr_commit.proofs.logs.write_late.Goals as goal

pub write_stream-requires : goal.write_stream-requires
write_stream-requires g c =
    let late = late_long c.args.version c.args.dev c.args.blocks.now.extents c.args.meta.now.extents c.in_ok-words.words.items c.requires.version c.requires.blocks c.requires.meta c.in_ok-words.ensures in
    let long = ap (λ (xs : List ℕ). length xs) c.as_slice.ensures.value ∙ late in
    record { most = omega (arith, long, c.requires.most) }

pub returns-clause-costs : goal.returns-clause-costs
returns-clause-costs g c =
    let late = late_long c.args.version c.args.dev c.args.blocks.now.extents c.args.meta.now.extents c.in_ok-words.words.items c.requires.version c.requires.blocks c.requires.meta c.in_ok-words.ensures in
    let long = ap (λ (xs : List ℕ). length xs) c.as_slice.ensures.value ∙ late in
    subst (λ (k : ℕ). Costs (tree_units (div_ceil k 512)) 0 (g.B.Blocks.account c.args.store.now) (g.B.Blocks.account c.write_stream.new.store)) long c.write_stream.ensures.costs

pub returns-clause-cause : goal.returns-clause-cause
returns-clause-cause g c =
    let late = late_long c.args.version c.args.dev c.args.blocks.now.extents c.args.meta.now.extents c.in_ok-words.words.items c.requires.version c.requires.blocks c.requires.meta c.in_ok-words.ensures in
    let long = ap (λ (xs : List ℕ). length xs) c.as_slice.ensures.value ∙ late in
    subst (λ (k : ℕ). HasCause (tree_units (div_ceil k 512)) (g.B.Blocks.account c.args.store.now) (g.B.Blocks.account c.write_stream.new.store) c.write_stream.result) long c.write_stream.ensures.cause

pub returns-clause-count : goal.returns-clause-count
returns-clause-count g c =
    let late = late_long c.args.version c.args.dev c.args.blocks.now.extents c.args.meta.now.extents c.in_ok-words.words.items c.requires.version c.requires.blocks c.requires.meta c.in_ok-words.ensures in
    let long = ap (λ (xs : List ℕ). length xs) c.as_slice.ensures.value ∙ late in
    subst (λ (k : ℕ). IfOk c.write_stream.result (λ stream. stream.words ≡ k)) long c.write_stream.ensures.count
