use Rattle.std.proofs.Common.{◌≡◌, ◌*◌, List, length, arith, vec_len, ap}
use Rattle.std.specs.Prelude.{IsOk}
use Rattle.zr_base.specs.declared.space.Entry.{Entry}
use Rattle.zr_imap.specs.Pages.{all_of}
use Rattle.zr_imap.proofs.Paging.{opens_to, is_total, IsOpened}
use Rattle.zr_imap.proofs.pages.make_room.Goals as goal

pub returns-in_err-open_page-clause-room : goal.returns-in_err-open_page-clause-room
returns-in_err-open_page-clause-room c = λ some.
    let total : length (all_of c.args.pages.now.items) ≡ 170 * vec_len c.args.pages.now = is_total c.args.pages.now.items (vec_len c.args.pages.now) c.requires.pages c.args.pages.now.ok.0 (c.are_full.ensures.full c.if-not-are_full.false) in
    let ok : IsOk c.open_page.result = c.open_page.ensures.room (omega (arith, total)) (omega (arith, total)) in
    let no = rw c.in_err-open_page.was at ok in absurd (cc)

pub returns-clause-pages : goal.returns-clause-pages
returns-clause-pages c =
    let more : IsOpened c.args.pages.now.items c.open_page.new.pages.items = opens_to c.args.pages.now.items c.open_page.new.pages.items (vec_len c.args.pages.now) c.requires.pages c.args.pages.now.ok.0 (c.are_full.ensures.full c.if-not-are_full.false) c.in_ok-open_page.ensures.ok in
    more.are

pub returns-clause-all : goal.returns-clause-all
returns-clause-all c =
    let more : IsOpened c.args.pages.now.items c.open_page.new.pages.items = opens_to c.args.pages.now.items c.open_page.new.pages.items (vec_len c.args.pages.now) c.requires.pages c.args.pages.now.ok.0 (c.are_full.ensures.full c.if-not-are_full.false) c.in_ok-open_page.ensures.ok in
    more.all

pub returns-clause-spare : goal.returns-clause-spare
returns-clause-spare c =
    let more : IsOpened c.args.pages.now.items c.open_page.new.pages.items = opens_to c.args.pages.now.items c.open_page.new.pages.items (vec_len c.args.pages.now) c.requires.pages c.args.pages.now.ok.0 (c.are_full.ensures.full c.if-not-are_full.false) c.in_ok-open_page.ensures.ok in
    let same = ap (λ (es : List Entry). length es) more.all in
    let old = c.args.pages.now.ok.0 in
    let new = c.open_page.new.pages.ok.0 in
    omega (arith, more.total, more.count, same, old, new, c.in_ok-open_page.ensures.capacity, c.in_ok-open_page.ensures.ready)
