use Rattle.zr_rows.proofs.mappings.an_entry_is_found_over_pages.Given as goal

abbrev pub ghosts-find : goal.ghosts-find
ghosts-find g a = record { name = a.blank.name; parts = a.blank.parts }
