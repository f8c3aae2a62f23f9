use Rattle.std.proofs.Common.{◌≡◌, ◌++◌, ℕ, List, length, take, drop, arith, rules}
use Rattle.std.proofs.lemmas.Grind.{common_steps}
use Rattle.zr_change.proofs.plans.changed_block.Goals as goal

-- a slice that was written back has its length
back : (m n : ℕ) (xs ys : List ℕ) → length xs ≡ length ys → length ys ≡ n → m ≡ length ys → length (take m (xs ++ drop (length xs) ys)) ≡ n
back m n xs ys same is len = grind (arith, common_steps)

pub returns-clause-new : goal.returns-clause-new
returns-clause-new g c = c.stored.ensures.new c.args.rec.now.units (let h = c.in_ok-bytes.bytes in back h.len _ c.put_part.new.block h.items (search rules) c.in_ok-bytes.ensures.size (search rules))
