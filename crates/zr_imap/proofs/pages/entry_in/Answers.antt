use Rattle.std.proofs.Common.{◌≡◌, ℕ, [], ◌+◌, ◌*◌, ◌/◌, ◌%◌, arith, ap, ◌∙◌}
use Rattle.std.proofs.lemmas.List.{get_or_default}
use Rattle.zr_rules.specs.Mappings.{entry_at}
use Rattle.zr_imap.specs.Pages.{all_of, page_at}
use Rattle.zr_imap.proofs.Paging.{placed}
use Rattle.zr_imap.proofs.Searching.{entry_fits}
use Rattle.zr_imap.proofs.pages.entry_in.Goals as goal

pub bounds-pages-i : goal.bounds-pages-i
bounds-pages-i c = let at = placed c.args.pages.now (c.args.i / 170) (c.args.i % 170) c.requires.pages (omega arith) (omega arith) in at.page

pub bounds-as_slice-i : goal.bounds-as_slice-i
bounds-as_slice-i c =
    let at = placed c.args.pages.now (c.args.i / 170) (c.args.i % 170) c.requires.pages (omega arith) (omega arith) in
    let read : c.index-pages-i.result ≡ page_at c.args.pages.now (c.args.i / 170) = c.index-pages-i.is ∙ get_or_default c.args.pages.now (c.args.i / 170) c.index-pages-i.result [] at.page in
    rw (c.as_slice.ensures, read) at.within

entry_is : goal.returns-clause-value
entry_is c =
    let at = placed c.args.pages.now (c.args.i / 170) (c.args.i % 170) c.requires.pages (omega arith) (omega arith) in
    let read : c.index-pages-i.result ≡ page_at c.args.pages.now (c.args.i / 170) = c.index-pages-i.is ∙ get_or_default c.args.pages.now (c.args.i / 170) c.index-pages-i.result [] at.page in
    let whole : 170 * (c.args.i / 170) + c.args.i % 170 ≡ c.args.i = omega arith in
    rw (c.as_slice.ensures, read) (at.same ∙ ap (λ (i : ℕ). entry_at (all_of c.args.pages.now) i) whole)

pub returns-clause-value : goal.returns-clause-value
returns-clause-value c = entry_is c

pub returns-clause-lawful : goal.returns-clause-lawful
returns-clause-lawful c = rw (entry_is c) (entry_fits 0 c.args.i (all_of c.args.pages.now) c.requires.rising c.requires.index)
