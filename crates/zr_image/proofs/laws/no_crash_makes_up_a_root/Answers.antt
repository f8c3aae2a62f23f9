use Rattle.std.proofs.Common.{◌≡◌, ℕ, List, [], inl, inr}
use Rattle.zr_shelf.specs.Disks.{Stand, disk, part, PendingWrite}
use Rattle.zr_shelf.specs.Publish.{WasAsked, IsHonestBlock}
use Rattle.zr_image.specs.Honest.{Mark, of_device, of_group, IsMark}
use Rattle.zr_image.proofs.laws.no_crash_makes_up_a_root.Goals as goal

none_asked : (writes : List PendingWrite) (slot at : ℕ) (bytes : List ℕ) → writes ≡ [] → WasAsked writes slot at bytes → ⊥
none_asked writes slot at bytes is asked = rw is at asked

module _ (stand : Stand) (image : List (List ℕ)) (slot at : ℕ) (none : stand.writes ≡ []) where
  -- a mark in the image was there before
  stays : IsHonestBlock IsMark stand image slot at → (m : Mark) → IsMark (part (disk image slot) at 4096) m → IsMark (part (disk stand.durable slot) at 4096) m
  stays (inl same) m mark = rw same at mark
  stays (inr (inl asked)) m mark = absurd (none_asked stand.writes slot at _ none asked)
  stays (inr (inr never)) m mark = absurd (never m mark)

pub returns-clause-label : goal.returns-clause-label
returns-clause-label c = λ stand image slot n l none left few spelled. stays stand image slot _ none (left.honest.labels slot n few) (of_device l) spelled

pub returns-clause-root : goal.returns-clause-root
returns-clause-root c = λ stand image slot n k u none left few low spelled. stays stand image slot _ none (left.honest.rings slot n k few low) (of_group u) spelled
