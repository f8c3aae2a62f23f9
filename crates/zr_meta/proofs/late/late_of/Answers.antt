use Rattle.std.proofs.Common.{◌≡◌, ◌∙◌, List, ℕ, true, false, ap, subst, sym}
use Rattle.std.specs.List.{AllByRecursion}
use Rattle.zr_base.specs.declared.space.Change.{Change}
use Rattle.zr_base.specs.declared.space.Extent.{Extent}
use Rattle.zr_base.specs.Extents.{EndsBy}
use Rattle.zr_smap.specs.Spellings.{IsRun}
use Rattle.zr_rules.specs.Logs.{IsLate}
use Rattle.zr_meta.specs.Streams.{IsLateOf, IsOnlySet, late_list, runs_of_kind}
use Rattle.zr_meta.proofs.Logs.{reach_of}
use Rattle.zr_meta.proofs.Lates.{runs_lawful, found_blocks, found_meta, told_words, late_ends, ends_late}
use Rattle.zr_meta.proofs.late.late_of.Goals as goal

pub returns-in_default-2 : goal.returns-in_default-2
returns-in_default-2 c = λ runs h.
    let s = rw c.in-Some.is at c.in_ok-changes.ensures.some in
    let only = subst (λ (cs : List Change). IsOnlySet (runs_of_kind false cs) c.in_ok-blocks.field-0) c.as_slice.ensures.value c.in_ok-blocks.ensures in
    let found = rw c.in_default-2.is at (found_blocks c.args.version c.args.dev c.args.words.now runs c.in-Some.changes.items c.in_ok-blocks.field-0 c.requires.version s h.late only) in
    absurd cc

pub set_of-requires-2 : goal.set_of-requires-2
set_of-requires-2 c =
    let s = rw c.in-Some.is at c.in_ok-changes.ensures.some in
    subst (AllByRecursion IsRun) (sym c.as_slice-2.ensures.value) (runs_lawful c.args.version c.in-Some.changes.items c.requires.version s.lawful)

pub returns-in_default-3 : goal.returns-in_default-3
returns-in_default-3 c = λ runs h.
    let s = rw c.in-Some.is at c.in_ok-changes.ensures.some in
    let only = subst (λ (cs : List Change). IsOnlySet (runs_of_kind true cs) c.in_ok-meta.field-0) c.as_slice-2.ensures.value c.in_ok-meta.ensures in
    let found = rw c.in_default-3.is at (found_meta c.args.version c.args.dev c.args.words.now runs c.in-Some.changes.items c.in_ok-meta.field-0 c.requires.version s h.late only) in
    absurd cc

pub returns-then-not-ends_by : goal.returns-then-not-ends_by
returns-then-not-ends_by c = λ runs h.
    let s = rw c.in-Some.is at c.in_ok-changes.ensures.some in
    let only = subst (λ (cs : List Change). IsOnlySet (runs_of_kind false cs) c.in_ok-blocks.field-0) c.as_slice.ensures.value c.in_ok-blocks.ensures in
    let found = rw c.in-Some-2.is at (found_blocks c.args.version c.args.dev c.args.words.now runs c.in-Some.changes.items c.in_ok-blocks.field-0 c.requires.version s h.late only) in
    let same : c.in-Some-2.blocks.extents ≡ h.late.blocks = cc in
    let ends = (ends_late c.args.version c.args.dev c.args.units c.args.words.now runs h).0 in
    let k = c.ends_by.ensures.1 (subst (EndsBy c.args.units) (sym (c.extents.ensures.extents ∙ same)) ends) in
    let is = c.if-not-ends_by.true in absurd cc

pub returns-then-not-ends_by-2 : goal.returns-then-not-ends_by-2
returns-then-not-ends_by-2 c = λ runs h.
    let s = rw c.in-Some.is at c.in_ok-changes.ensures.some in
    let only = subst (λ (cs : List Change). IsOnlySet (runs_of_kind true cs) c.in_ok-meta.field-0) c.as_slice-2.ensures.value c.in_ok-meta.ensures in
    let found = rw c.in-Some-3.is at (found_meta c.args.version c.args.dev c.args.words.now runs c.in-Some.changes.items c.in_ok-meta.field-0 c.requires.version s h.late only) in
    let same : c.in-Some-3.meta.extents ≡ h.late.meta = cc in
    let ends = (ends_late c.args.version c.args.dev c.args.units c.args.words.now runs h).1 in
    let k = c.ends_by-2.ensures.1 (subst (EndsBy c.args.units) (sym (c.extents-2.ensures.extents ∙ same)) ends) in
    let is = c.if-not-ends_by-2.true in absurd cc

pub late_words-requires-clause-blocks : goal.late_words-requires-clause-blocks
late_words-requires-clause-blocks c =
    reach_of c.args.version c.args.units c.in-Some-2.blocks.extents c.requires.version c.requires.units
    (subst (EndsBy c.args.units) c.extents.ensures.extents (c.ends_by.ensures.0 c.if-not-ends_by.false))

pub late_words-requires-clause-meta : goal.late_words-requires-clause-meta
late_words-requires-clause-meta c =
    reach_of c.args.version c.args.units c.in-Some-3.meta.extents c.requires.version c.requires.units
    (subst (EndsBy c.args.units) c.extents-2.ensures.extents (c.ends_by-2.ensures.0 c.if-not-ends_by-2.false))

pub returns-then-not-is_same : goal.returns-then-not-is_same
returns-then-not-is_same c = λ runs h.
    let s = rw c.in-Some.is at c.in_ok-changes.ensures.some in
    let only = subst (λ (cs : List Change). IsOnlySet (runs_of_kind false cs) c.in_ok-blocks.field-0) c.as_slice.ensures.value c.in_ok-blocks.ensures in
    let found = rw c.in-Some-2.is at (found_blocks c.args.version c.args.dev c.args.words.now runs c.in-Some.changes.items c.in_ok-blocks.field-0 c.requires.version s h.late only) in
    let blocks : c.in-Some-2.blocks.extents ≡ h.late.blocks = cc in
    let only_meta = subst (λ (cs : List Change). IsOnlySet (runs_of_kind true cs) c.in_ok-meta.field-0) c.as_slice-2.ensures.value c.in_ok-meta.ensures in
    let found_too = rw c.in-Some-3.is at (found_meta c.args.version c.args.dev c.args.words.now runs c.in-Some.changes.items c.in_ok-meta.field-0 c.requires.version s h.late only_meta) in
    let meta : c.in-Some-3.meta.extents ≡ h.late.meta = cc in
    let same = told_words c.args.version c.args.dev c.args.words.now c.in_ok-again.again.items runs c.in-Some-2.blocks.extents c.in-Some-3.meta.extents c.requires.version h.late c.in_ok-again.ensures blocks meta in
    let k = c.is_same.ensures.1 (c.as_slice-3.ensures.value ∙ sym same) in
    let is = c.if-not-is_same.true in absurd cc

pub returns : goal.returns
returns c =
    let words : c.in_ok-again.again.items ≡ c.args.words.now = sym c.as_slice-3.ensures.value ∙ c.is_same.ensures.0 c.if-not-is_same.false in
    let runs : c.in_ok-runs.runs ≡ late_list c.in-Some-2.blocks.extents c.in-Some-3.meta.extents =
    c.in_ok-runs.ensures
    ∙ (ap (λ (b : List Extent). late_list b c.extents-4.result.now) c.extents-3.ensures.extents
    ∙ ap (λ (m : List Extent). late_list c.in-Some-2.blocks.extents m) c.extents-4.ensures.extents) in
    subst (IsLateOf c.args.version c.args.dev c.args.units c.args.words.now) (sym runs)
    (record {
      late = subst (λ (w : List ℕ). IsLate c.args.version c.args.dev w (late_list c.in-Some-2.blocks.extents c.in-Some-3.meta.extents)) words c.in_ok-again.ensures;
      within =
          late_ends c.args.units c.in-Some-2.blocks.extents c.in-Some-3.meta.extents
          (subst (EndsBy c.args.units) c.extents.ensures.extents (c.ends_by.ensures.0 c.if-not-ends_by.false))
          (subst (EndsBy c.args.units) c.extents-2.ensures.extents (c.ends_by-2.ensures.0 c.if-not-ends_by-2.false));
    })
