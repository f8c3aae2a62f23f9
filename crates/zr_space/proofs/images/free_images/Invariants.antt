use Rattle.std.proofs.Common.{◌≡◌, ◌+◌, ◌≤◌, ℕ, take}
use Rattle.std.specs.List.{list_any, sum_by}
use Rattle.zr_space.specs.Views.{kept_of}
use Rattle.zr_space.specs.FreeVisits.{FreesImages, is_image_by, overlap}
use Rattle.zr_space.proofs.images.free_images.Given as goal

abbrev pub invariant-loop-i : goal.invariant-loop-i
invariant-loop-i l = record {
  frees : FreesImages l.initial.slabs l.slabs l.initial.devs.items l.devs.items (λ d u. list_any (is_image_by l.e d u) (take l.i (kept_of l.initial.devs.items l.dev).moves.entries));
  source : kept_of l.devs.items l.dev ≡ kept_of l.initial.devs.items l.dev;
  spare : (d : ℕ) → (kept_of l.initial.devs.items d).uses.spare ≤ (kept_of l.devs.items d).uses.spare + sum_by (overlap l.e) (take l.i (kept_of l.initial.devs.items l.dev).moves.entries);
}
