use Rattle.std.proofs.Common.{◌≡◌, ◌<◌, ◌∷◌, [], List, length, false, subst, arith}
use Rattle.std.specs.List.{HoldsAt}
use Rattle.zr_store.specs.Store.{AreStored, one_at}
use Rattle.zr_store.specs.Memory.{is_kept}
use Rattle.zr_store.specs.declared.memory.Kept.{Kept}
use Rattle.zr_store.proofs.Keeping.{none_kept, stored_hits}
use Rattle.zr_store.proofs.Held.{free_held}
use Rattle.zr_store.proofs.mem_blocks.MemBlocksBlocks.free.Goals as goal

-- The block at the index is the pointer's.
pub returns-in-Some-clause-ok : goal.returns-in-Some-clause-ok
returns-in-Some-clause-ok c = λ s held stored.
    let lt = subst (λ (ks : List Kept). c.in-Some.i < length ks) c.as_slice.ensures.value c.in-Some.ensures.found in
    let there = subst (λ (ks : List Kept). HoldsAt (λ k. one_at c.args.b.now.at k.at ≡ 1) ks c.in-Some.i) c.as_slice.ensures.value c.in-Some.ensures.there in
    free_held c.args.self.now.units c.args.self.now.next c.args.self.now.kept.items _ c.in-Some.i c.remove.result c.args.b.now s lt (there c.remove.result) c.remove.ensures.items held stored

-- A pointer that is stored is found.
pub returns-in_default-clause-ok : goal.returns-in_default-clause-ok
returns-in_default-clause-ok c = λ s held stored.
    let none = none_kept c.args.b.now.at c.args.self.now.kept.items (subst (λ (ks : List Kept). is_kept c.args.b.now.at ks ≡ false) c.as_slice.ensures.value c.in_default.ensures.found) in
    let some = stored_hits c.args.b.now c.args.self.now.kept.items (subst (AreStored (c.args.b.now ∷ [])) held.same stored) in
    absurd (omega (arith, none, some))
