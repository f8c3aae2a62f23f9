use Rattle.std.proofs.Common.{◌≡◌, ◌/◌, ◌^◌, ℕ, arith, sym, ◌∙◌}
use Rattle.std.proofs.lemmas.List.Elements.{All-more}
use Rattle.zr_bptr.specs.declared.Ptr.{Ptr}
use Rattle.zr_tree.proofs.sets.run_len.Goals as goal

pub loop-i-preserved : goal.loop-i-preserved
loop-i-preserved c = All-more (λ (change : ℕ × Ptr). change.0 / 32 ^ c.args.level ≡ c.args.place) c.args.rest.now c.loop-i.i _ (omega arith) c.loop-i.invariant (sym c.place_of.ensures ∙ c.if-place_of-place.false)
