use Rattle.std.proofs.Common.{List, [], ◌∷◌, length, length-append, arith, vec_len, ap, refl}
use Rattle.zr_base.specs.declared.space.Entry.{Entry}
use Rattle.zr_imap.specs.Pages.{all_of}
use Rattle.zr_imap.proofs.Paging.{pushed_to, HasMore}
use Rattle.zr_imap.proofs.pages.push_in.Goals as goal

pub returns-clause-pages : goal.returns-clause-pages
returns-clause-pages c =
    let more : HasMore c.make_room.new.pages.items c.push_last.new.pages.items c.args.e = pushed_to c.make_room.new.pages.items c.push_last.new.pages.items (vec_len c.make_room.new.pages) c.args.e c.in_ok-make_room.ensures.pages c.make_room.new.pages.ok.0 c.in_ok-make_room.ensures.last.some c.in_ok-make_room.ensures.last.room c.push_last.ensures.pushed in
    more.are

pub returns-clause-ok : goal.returns-clause-ok
returns-clause-ok c =
    let more : HasMore c.make_room.new.pages.items c.push_last.new.pages.items c.args.e = pushed_to c.make_room.new.pages.items c.push_last.new.pages.items (vec_len c.make_room.new.pages) c.args.e c.in_ok-make_room.ensures.pages c.make_room.new.pages.ok.0 c.in_ok-make_room.ensures.last.some c.in_ok-make_room.ensures.last.room c.push_last.ensures.pushed in
    rw (more.all, c.in_ok-make_room.ensures.all) refl

pub returns-clause-spare : goal.returns-clause-spare
returns-clause-spare c =
    let more : HasMore c.make_room.new.pages.items c.push_last.new.pages.items c.args.e = pushed_to c.make_room.new.pages.items c.push_last.new.pages.items (vec_len c.make_room.new.pages) c.args.e c.in_ok-make_room.ensures.pages c.make_room.new.pages.ok.0 c.in_ok-make_room.ensures.last.some c.in_ok-make_room.ensures.last.room c.push_last.ensures.pushed in
    let one = ap (λ (es : List Entry). length es) more.all in
    let len = length-append (all_of c.make_room.new.pages.items) (c.args.e ∷ []) in
    omega (arith, one, len, c.in_ok-make_room.ensures.spare, c.push_last.ensures.len, c.push_last.ensures.capacity)
