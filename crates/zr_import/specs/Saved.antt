-- A root that may be the saved one of another.
use Rattle.std.specs.Prelude.{◌≡◌, ℕ, ◌<◌}
use Rattle.zr_base.specs.declared.space.CkptPart.{CkptPart}
use Rattle.zr_base.specs.declared.space.CkptPart.TheVariants.{Held}
use Rattle.zr_image.specs.Current.{row_at}
use Rattle.zr_image.specs.Roots.{IsRowStill}
use Rattle.zr_label.specs.declared.root.Uber.{Uber}

-- It is an older root of the pool, of the checkpoint's group, and its devices are still there.
pub record IsOlder (saved current : Uber) (ckpt : CkptPart) : Type 0 where
  pub guid : saved.guid ≡ current.guid
  pub past : saved.txg < current.txg
  pub txg : ckpt ≡ Held saved.txg
  pub rows : (d : ℕ) → d < saved.count → IsRowStill (row_at saved d) (row_at current d)
