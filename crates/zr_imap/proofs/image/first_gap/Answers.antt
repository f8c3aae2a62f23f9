use Rattle.std.proofs.Common.{◌<◌, length, arith, ap, ⊎_elim}
use Rattle.std.proofs.lemmas.Bool.{cases_lt}
use Rattle.zr_base.specs.declared.space.Entry.{Entry}
use Rattle.zr_rules.specs.Mappings.{entry_at, IsEntry, HasSourceAt}
use Rattle.zr_imap.proofs.Searching.{rising_searchable, entry_fits, has_source-at}
use Rattle.zr_imap.proofs.image.first_gap.Goals as goal

pub search-requires : goal.search-requires
search-requires g c = record { along = rising_searchable (g.O.Sorted.entries c.args.sorted.now) c.loop-i.u c.requires.rising }

pub overflow_add-u : goal.overflow_add-u
overflow_add-u g c =
    let es = g.O.Sorted.entries c.args.sorted.now in
    let at : (c.in-Some.i < length es) × HasSourceAt es c.in-Some.i c.loop-i.u = c.in-Some.ensures.found in
    let fits : IsEntry (entry_at es c.in-Some.i) = entry_fits 0 c.in-Some.i es c.requires.rising at.0 in
    rw c.item-found.ensures.entry (omega (arith, fits.source))

pub loop-i-preserved : goal.loop-i-preserved
loop-i-preserved g c =
    let es = g.O.Sorted.entries c.args.sorted.now in
    let at : (c.in-Some.i < length es) × HasSourceAt es c.in-Some.i c.loop-i.u = c.in-Some.ensures.found in
    let src_is = ap (λ (x : Entry). x.src) c.item-found.ensures.entry in
    let len_is = ap (λ (x : Entry). x.len) c.item-found.ensures.entry in
    record {
      from = omega (arith, at.1.ends, src_is, len_is, c.loop-i.invariant.from);
      before = λ v ge lt. ⊎_elim
          (λ old. c.loop-i.invariant.before v ge old)
          (λ new. has_source-at v c.in-Some.i es at.0 (omega (arith, at.1.starts)) (omega (arith, src_is, len_is)))
          (cases_lt v c.loop-i.u);
    }
