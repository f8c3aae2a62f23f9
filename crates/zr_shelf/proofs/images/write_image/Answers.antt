use Rattle.std.proofs.Common.{List, [], ◌∷◌, ℕ, take, sym, ◌∙◌, ap, subst}
use Rattle.zr_shelf.specs.Disks.{IsSameOutside}
use Rattle.zr_shelf.specs.Memory.{bytes_of, after_write, as_pending}
use Rattle.zr_shelf.proofs.Puts.{outside-front}
use Rattle.zr_shelf.proofs.images.write_image.Goals as goal

pub returns-clause-bytes : goal.returns-clause-bytes
returns-clause-bytes c =
    let asked = c.args.asked.now in
    c.put.ensures.bytes
    ∙ ap (λ (b : List ℕ). after_write (bytes_of c.args.image.now.items) (record { slot = asked.slot; at = asked.at; bytes = take c.args.len b })) c.deref.ensures.value

pub returns-clause-outside : goal.returns-clause-outside
returns-clause-outside c =
    let asked = c.args.asked.now in
    let old = bytes_of c.args.image.now.items in
    subst (IsSameOutside (as_pending asked ∷ []) old) (sym (returns-clause-bytes c))
    (outside-front old asked.slot asked.at c.args.len asked.bytes.items c.requires.within (record { slot = c.requires.fits.0; range = c.requires.fits.1 }))
