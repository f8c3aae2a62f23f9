use Rattle.std.proofs.Common.{◌≡◌, ℕ, ◌+◌, ◌-◌, ◌<◌, ◌≤◌, length, take, arith, add-one, refl, sym, subst, true, false, ap, ap₂, length-append, ◌++◌, ◌∷◌, [], List, ◌⊎◌, inl, inr, zero, suc, ◌∙◌}
use Rattle.zr_base.specs.declared.space.Entry.{Entry}
use Rattle.zr_rules.specs.Mappings.{entry_at, IsEntry, has_source}
use Rattle.zr_imap.proofs.Searching.{has_source-take, has_source-drop, has_source-parts, has_source-all, before_entry, apart, entry_fits, FollowFrom-push, targets_more, parts-before, parts-more, parts-all, part_is, meets-both, map_push}
use Rattle.zr_imap.specs.Searches.{FollowFrom, place_of}
use Rattle.zr_rules.specs.Steps.{meets}
use Rattle.zr_base.specs.declared.space.Dva.{Dva}
use Rattle.zr_imap.proofs.image.pieces_from.Goals as goal

first_or_joins : {A : Type 0} (n : ℕ) → (0 < n → A) → (n ≡ 0) ⊎ A
first_or_joins zero h = inl refl
first_or_joins (suc n) h = inr (h (omega arith))

pub loop-done-init : goal.loop-done-init
loop-done-init g c = record {
  within = omega arith;
  from = omega arith;
  index = omega arith;
  follow = rw c.new-pieces.ensures.items refl;
  targets = λ k lt. absurd (omega arith);
  cut = rw c.new-pieces.ensures.items (sym (parts-before 0 c.args.e.start c.args.e.len c.args.first (g.O.Sorted.entries c.args.sorted.now) c.requires.rising c.requires.index c.requires.holder.starts));
  beyond = λ some. absurd (omega arith);
  first = λ _. refl;
  count = rw c.new-pieces.ensures.items (omega arith);
  steps = refl;
  before = λ lt. before_entry 0 (c.args.e.start + 0) c.args.first (g.O.Sorted.entries c.args.sorted.now) c.requires.rising c.requires.index (omega (arith, c.requires.holder.starts));
  ahead = λ lt i_in. omega (arith, c.requires.holder.ends);
}

pub returns-then-i-len-clause-found : goal.returns-then-i-len-clause-found
returns-then-i-len-clause-found g c =
    let es = g.O.Sorted.entries c.args.sorted.now in
    let end : c.loop-done.i ≡ length es = omega (arith, c.len.ensures) in
    record {
      place = c.loop-done.done;
      within = omega arith;
      missing = has_source-all (c.args.e.start + c.loop-done.done) es (subst (λ (i : ℕ). has_source (take i es) (c.args.e.start + c.loop-done.done) ≡ false) end (c.loop-done.invariant.before (omega arith)));
    }

pub returns-then-u-entry-clause-found : goal.returns-then-u-entry-clause-found
returns-then-u-entry-clause-found g c =
    let es = g.O.Sorted.entries c.args.sorted.now in
    let i_in : c.loop-done.i < length es = omega (arith, c.len.ensures) in
    let starts : c.args.e.start + c.loop-done.done < (entry_at es c.loop-done.i).src = rw c.item-entry.ensures.entry at c.if-u-entry.true in
    record {
      place = c.loop-done.done;
      within = omega arith;
      missing = has_source-parts (c.args.e.start + c.loop-done.done) c.loop-done.i es (c.loop-done.invariant.before (omega arith))
          (has_source-drop 0 (c.args.e.start + c.loop-done.done) c.loop-done.i es c.requires.rising i_in starts);
    }

pub overflow_add-at : goal.overflow_add-at
overflow_add-at g c =
    let es = g.O.Sorted.entries c.args.sorted.now in
    let i_in : c.loop-done.i < length es = omega (arith, c.len.ensures) in
    let fits : IsEntry (entry_at es c.loop-done.i) = entry_fits 0 c.loop-done.i es c.requires.rising i_in in
    let ends = c.loop-done.invariant.ahead (omega arith) i_in in
    rw c.item-entry.ensures.entry (omega (arith, fits.destination, fits.source, ends))

pub loop-done-preserved : goal.loop-done-preserved
loop-done-preserved g c =
    let es = g.O.Sorted.entries c.args.sorted.now in
    let i_in : c.loop-done.i < length es = omega (arith, c.len.ensures) in
    let fits : IsEntry (entry_at es c.loop-done.i) = entry_fits 0 c.loop-done.i es c.requires.rising i_in in
    let ends = c.loop-done.invariant.ahead (omega arith) i_in in
    let starts : (entry_at es c.loop-done.i).src ≤ c.args.e.start + c.loop-done.done = rw c.item-entry.ensures.entry at c.if-u-entry.false in
    let len_is = ap (λ (x : Entry). x.len) c.item-entry.ensures.entry in
    let src_is = ap (λ (x : Entry). x.src) c.item-entry.ensures.entry in
    let some : 0 < c.min-n.result = omega (arith, len_is, src_is, ends, starts) in
    let within : c.args.e.start + c.loop-done.done + c.min-n.result ≤ (entry_at es c.loop-done.i).src + (entry_at es c.loop-done.i).len = omega (arith, len_is, src_is, ends, starts) in
    let last : c.loop-done.done + c.min-n.result < c.args.e.len → (entry_at es c.loop-done.i).src + (entry_at es c.loop-done.i).len ≡ c.args.e.start + (c.loop-done.done + c.min-n.result) = λ lt. omega (arith, len_is, src_is, ends, starts) in
    let meets_it : meets c.args.e.start c.args.e.len (entry_at es c.loop-done.i) ≡ true = meets-both c.args.e.start c.args.e.len (entry_at es c.loop-done.i) (omega (arith, ends)) (omega (arith, starts)) in
    let joins : (c.loop-done.done ≡ 0) ⊎ (c.args.e.start + c.loop-done.done ≤ (entry_at es c.loop-done.i).src) = first_or_joins c.loop-done.done (λ more. c.loop-done.invariant.beyond more i_in) in
    let part = part_is c.args.e.start c.args.e.len c.loop-done.done c.min-n.result (entry_at es c.loop-done.i)
    (record { split = c.loop-done.done; dev = c.item-entry.result.dev; at = record { start = c.item-entry.result.dst + (c.args.e.start + c.loop-done.done - c.item-entry.result.src); len = c.min-n.result } })
    (ap (λ (x : Entry). x.dev) c.item-entry.ensures.entry) (ap (λ (x : Entry). x.dst + (c.args.e.start + c.loop-done.done - x.src)) c.item-entry.ensures.entry) refl (omega (arith, len_is, src_is)) starts ends (omega arith) joins in
    record {
      within = omega arith;
      from = omega arith;
      index = omega arith;
      follow = rw c.in_ok-push.ensures.items (FollowFrom-push 0 c.loop-done.done c.loop-done.pieces.items _ c.loop-done.invariant.follow refl some);
      targets = rw c.in_ok-push.ensures.items (targets_more es c.loop-done.i c.args.e.start c.loop-done.done c.min-n.result c.loop-done.pieces.items _ c.requires.rising i_in c.loop-done.invariant.follow
          (record { split = refl; device = ap (λ (x : Entry). x.dev) c.item-entry.ensures.entry; start = ap (λ (x : Entry). x.dst + (c.args.e.start + c.loop-done.done - x.src)) c.item-entry.ensures.entry; len = refl; starts = starts; ends = within })
          c.loop-done.invariant.targets);
      cut = rw (c.in_ok-push.ensures.items, add-one) (rw (map_push place_of c.loop-done.pieces.items _, parts-more c.args.e.start c.args.e.len c.loop-done.i es i_in meets_it) (ap₂ (λ (t : List Dva) (x : Dva). t ++ x ∷ []) c.loop-done.invariant.cut part));
      beyond = λ some next_in. omega (arith, within, apart 0 c.loop-done.i (c.loop-done.i + 1) es c.requires.rising (omega arith) next_in);
      first = λ none. absurd (omega (arith, some));
      count = rw c.in_ok-push.ensures.items (rw (length-append c.loop-done.pieces.items _) (omega (arith, c.loop-done.invariant.count)));
      steps = omega (arith, c.loop-done.invariant.steps, c.item-entry.ensures.step);
      before = λ lt. rw add-one (has_source-take 0 (c.args.e.start + (c.loop-done.done + c.min-n.result)) c.loop-done.i es c.requires.rising i_in (omega (arith, last lt)));
      ahead = λ lt next_in.
          let next : IsEntry (entry_at es (c.loop-done.i + 1)) = entry_fits 0 (c.loop-done.i + 1) es c.requires.rising next_in in
          omega (arith, last lt, next.not_empty, apart 0 c.loop-done.i (c.loop-done.i + 1) es c.requires.rising (omega arith) next_in);
    }

pub returns-clause-found : goal.returns-clause-found
returns-clause-found g c =
    let es = g.O.Sorted.entries c.args.sorted.now in
    let whole : c.loop-done.done ≡ c.args.e.len = omega arith in
    record {
      follow = subst (λ (n : ℕ). FollowFrom 0 n c.loop-done.pieces.items) whole c.loop-done.invariant.follow;
      targets = λ k lt. c.loop-done.invariant.targets k (omega arith);
      cut = λ some. c.loop-done.invariant.cut ∙ parts-all 0 c.args.e.start c.args.e.len c.loop-done.i es c.requires.rising (λ lt. omega (arith, whole, c.loop-done.invariant.beyond (omega arith) lt));
    }
