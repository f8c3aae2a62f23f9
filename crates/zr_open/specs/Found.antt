-- What the slots show of a pool, and where its devices stand.
use Rattle.std.specs.Prelude.{◌≡◌, ℕ, ◌<◌, List, length, slice_index, Result}
use Rattle.zr_base.specs.declared.refusal.Refusal.{Refusal}
use Rattle.zr_label.specs.declared.root.Uber.{Uber}
use Rattle.zr_label.specs.declared.root.Seen.{Seen}
use Rattle.zr_scan.specs.Scan.{IsSmallAndLawful}
use Rattle.zr_image.specs.Current.{FindsCurrent, ShowsAll, seen_at}

-- Each slot shows what its disk can show, and where the disks are told, what they have.
pub record IsSeen (sizes : List ℕ) (tells : Type 0) (disks : List (List ℕ)) (seen : List Seen) : Type 0 where
  pub count : length seen ≡ length sizes
  pub lawful : (slot : ℕ) → slot < length seen → IsSmallAndLawful (slice_index sizes slot) (seen_at seen slot)
  pub shows : tells → ShowsAll disks seen

-- what is looked for on the slots before a root is read: a root, or the first refusal
pub record FindsOn (sizes : List ℕ) (tells : Type 0) (disks : List (List ℕ)) (result : Result Uber Refusal) : Type 0 where
  pub seen : List Seen
  pub shown : IsSeen sizes tells disks seen
  pub finds : FindsCurrent seen result
