use Rattle.zr_imap.proofs.image.gap_in.Given as goal

abbrev pub ghosts-gap_counted : goal.ghosts-gap_counted
ghosts-gap_counted g a = record { name = a.blank.name; parts = a.blank.parts }
