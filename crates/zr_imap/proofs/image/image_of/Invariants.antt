use Rattle.zr_imap.proofs.image.image_of.Given as goal

abbrev pub ghosts-pieces_counted : goal.ghosts-pieces_counted
ghosts-pieces_counted g a = record { name = a.blank.name; parts = a.blank.parts }
