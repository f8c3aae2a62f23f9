-- What an outcome of checks says of each of them.
use Rattle.std.proofs.Common.{inl, inr, Ok}
use Rattle.zr_image.specs.Checks.{Check, ◌>>=◌}

module _ {A B : Type 0} (first : Check A) (next : A → Check B) where
  -- both passed
  pub passed : (b : B) → (first >>= next) (Ok b) → (a : A) × first (Ok a) × next a (Ok b)
  passed b (inl way) = way
  passed b (inr (r, told, is)) = absurd (cc)
