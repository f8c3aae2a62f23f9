use Rattle.std.proofs.Common.{[], ◌∷◌, refl, arith}
use Rattle.zr_moves.proofs.laws.a_reply_counts_when_it_is_whole.Goals as goal

pub returns-clause-part : goal.returns-clause-part
returns-clause-part c = record { among = omega arith; front = 111 ∷ []; rest = 107 ∷ (10 ∷ []); all = refl; part = refl; short = λ lt. omega arith }
