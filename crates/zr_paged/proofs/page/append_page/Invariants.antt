use Rattle.std.proofs.Common.{◌≡◌, ◌++◌, take}
use Rattle.zr_paged.proofs.page.append_page.Given as goal

abbrev pub invariant-loop-i : goal.invariant-loop-i
invariant-loop-i l = l.set.extents ≡ l.initial.set.extents ++ take l.i l.page
