-- All that is stored is the blocks of the directory and of the objects.
use Rattle.std.proofs.Common.{◌≡◌, ◌≤◌, ℕ, arith}
use Rattle.zr_store.specs.Store.{Stored}
use Rattle.zr_model.specs.Objects.{Objects}
use Rattle.zr_moves.specs.Account.{Account}
use Rattle.zr_held.specs.Held.{HasObjects, AreAllOf}

equal : (m n : ℕ) → m ≤ n → n ≤ m → m ≡ n
equal m n le ge = omega (arith, le, ge)

pub all_of : (s : Stored) (a : Account) (objects : Objects) → HasObjects s a objects → AreAllOf s a
all_of s a objects has = record { blocks = has.blocks.blocks; each = has.blocks.each; all = λ n le weight. equal _ _ (has.blocks.whole n le weight) (has.blocks.stored n weight) }
