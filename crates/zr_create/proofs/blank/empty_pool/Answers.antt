use Rattle.std.proofs.Common.{refl}
use Rattle.zr_slots.proofs.Places.{all_none}
use Rattle.zr_create.proofs.Blanks.{no_tree, no_cond, no_directory, blank_pool}
use Rattle.zr_create.proofs.blank.empty_pool.Goals as goal

pub returns-clause-pool : goal.returns-clause-pool
returns-clause-pool c = λ sizes.
    blank_pool sizes _ (record { count = refl; slots = all_none; space = c.new-2.ensures; last = refl; txg = c.new-4.ensures.txg; objects = c.new-4.ensures.empty; dir = refl; cache = c.in_ok-cache.ensures.empty; saved = refl; head = refl; streams = c.new-3.ensures.items; cond = refl }) c.requires.version c.requires.guid c.requires.name refl refl no_directory no_tree c.new-3.ensures.items no_cond refl

pub returns-clause-blank : goal.returns-clause-blank
returns-clause-blank c = record { count = refl; slots = all_none; space = c.new-2.ensures; last = refl; txg = c.new-4.ensures.txg; objects = c.new-4.ensures.empty; dir = refl; cache = c.in_ok-cache.ensures.empty; saved = refl; head = refl; streams = c.new-3.ensures.items; cond = refl }
