use Rattle.std.proofs.Common.{◌≡◌, refl, replicate}
use Rattle.std.proofs.lemmas.Result.{IfOk-weaker}
use Rattle.std.proofs.lemmas.List.Elements.{All-replicate, All-same}
use Rattle.zr_bptr.specs.declared.Ptr.{Ptr}
use Rattle.zr_bptr.specs.declared.Ptr.TheVariants.{Hole}
use Rattle.zr_tree.proofs.sets.holes.Goals as goal

pub returns-clause-holes : goal.returns-clause-holes
returns-clause-holes c = IfOk-weaker c.from_slice.result _ _ (λ v e. All-same (λ (p : Ptr). p ≡ Hole) v.items (replicate 32 Hole) e (All-replicate (λ (p : Ptr). p ≡ Hole) 32 Hole refl)) c.from_slice.ensures.items
