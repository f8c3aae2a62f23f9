use Rattle.zr_root.proofs.down.+level_of.Given as goal

abbrev pub decreases-level_of : goal.decreases-level_of
decreases-level_of g l = l.n
