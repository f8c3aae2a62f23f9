use Rattle.std.proofs.Common.{◌≡◌, ◌/◌, ℕ, arith, Option}
use Rattle.std.proofs.lemmas.List.Elements.{All-more}
use Rattle.zr_bptr.specs.declared.ObjRec.{ObjRec}
use Rattle.zr_objset.proofs.stores.run_len.Goals as goal

pub loop-i-preserved : goal.loop-i-preserved
loop-i-preserved c = All-more (λ (change : ℕ × Option ObjRec). change.0 / 16 ≡ c.args.place) c.args.rest.now c.loop-i.i _ (omega arith) c.loop-i.invariant c.if-change-place.false
