use Rattle.std.proofs.Common.{◌∙◌, ◌≤◌, List, length, subst, sym, ap}
use Rattle.std.specs.Prelude.{All}
use Rattle.zr_base.specs.declared.space.SpaceParts.{SpaceParts}
use Rattle.std.proofs.Common.{ℕ, ◌++◌, map}
use Rattle.std.specs.List.{flat_map}
use Rattle.zr_base.specs.declared.space.Dva.{Dva}
use Rattle.zr_bptr.specs.declared.Bptr.{Bptr}
use Rattle.zr_meta.specs.declared.Stream.{Stream}
use Rattle.zr_meta.specs.Parts.{SpellsParts}
use Rattle.zr_tree.specs.Trees.{tree_reach}
use Rattle.zr_image.specs.Roots.{head_tree, rows_of}
use Rattle.zr_import.specs.Words.{HaveWords}
use Rattle.zr_import.specs.Units.{HasMaximal, MarksAll, Meets, serving_units}
use Rattle.zr_import.proofs.Marking.{marks_then}
use Rattle.zr_import.proofs.Rows.{all_of, parts_maximal, counted_maximal, counted_few}
use Rattle.zr_import.proofs.metadata.read_meta.Goals as goal

pub of_held-requires : goal.of_held-requires
of_held-requires g c =
    let parts = c.in_ok-parts.parts in
    let is = c.in_ok-parts.ensures.parts.devices in
    subst (All HasMaximal) (sym c.as_slice-2.ensures) (all_of HasMaximal parts.devs (parts_maximal _ _ _ _ parts.devs is))

pub returns-clause-held : goal.returns-clause-held
returns-clause-held g c =
    let parts = c.in_ok-parts.parts in
    let is = c.in_ok-parts.ensures.parts.devices in
    subst (λ (p : SpaceParts). All HasMaximal p.devs) (sym c.in_ok-parts-2.ensures) (all_of HasMaximal _ (counted_maximal c.args.uber.now parts (parts_maximal _ _ _ _ parts.devs is)))

pub returns-clause-few : goal.returns-clause-few
returns-clause-few g c =
    subst (λ (p : SpaceParts). length p.devs ≤ 32) (sym c.in_ok-parts-2.ensures) (counted_few c.args.uber.now c.in_ok-head.head _ c.in_ok-parts.parts c.requires.uber.head.devices c.in_ok-parts.ensures.parts)

pub returns-clause-reads : goal.returns-clause-reads
returns-clause-reads g c = λ s holds.
    let h = c.in_ok-head.head in
    record {
      head = c.in_ok-head.ensures.bytes s holds;
      words = c.in_ok-words.words.items;
      streams = subst (λ (ts : List Stream). HaveWords s ts c.in_ok-words.words.items) c.as_slice-streams.ensures (c.in_ok-words.ensures.words s (c.in_ok-head.ensures.same s holds));
      parts = c.in_ok-parts.parts;
      spelled = subst (λ (ws : List ℕ). SpellsParts c.args.uber.now.version (rows_of c.args.uber.now) h ws c.in_ok-parts.parts) c.as_slice.ensures.value c.in_ok-parts.ensures.parts;
      counted_is = c.in_ok-parts-2.ensures;
    }

pub returns-clause-marks : goal.returns-clause-marks
returns-clause-marks g c = λ s holds.
    let streams = subst (λ (ts : List Stream). MarksAll Meets c.args.uber.now.txg c.read_head.new.marks c.read_streams.new.marks (flat_map (λ (t : Stream). tree_reach s t.tree) ts)) c.as_slice-streams.ensures (c.in_ok-words.ensures.marks s (c.in_ok-head.ensures.same s holds)) in
    record {
      start = c.in_ok-marks.marks;
      left = c.read_streams.new.marks;
      start_is = c.in_ok-marks.ensures ∙ ap (map serving_units) c.rows_of.ensures;
      marks = marks_then Meets c.args.uber.now.txg c.in_ok-marks.marks c.read_head.new.marks c.read_streams.new.marks _ _ (c.in_ok-head.ensures.marks s holds) streams;
    }

pub returns-clause-at : goal.returns-clause-at
returns-clause-at g c = λ s holds.
    let f : Bptr → Dva = λ b. b.at in
    let ts = ap (λ (xs : List Stream). c.read_head.new.met.items ++ flat_map (λ (t : Stream). tree_reach s t.tree) xs) c.as_slice-streams.ensures in
    let head = c.in_ok-head.ensures.met s holds ∙ ap (λ (xs : List Bptr). xs ++ tree_reach s (head_tree c.args.uber.now)) c.new-met.ensures.items in
    let all = c.in_ok-words.ensures.met s (c.in_ok-head.ensures.same s holds) ∙ ts ∙ ap (λ (xs : List Bptr). xs ++ flat_map (λ (t : Stream). tree_reach s t.tree) c.in_ok-head.head.streams) head in
    c.in_ok-at.ensures ∙ ap (map f) (c.as_slice-4.ensures.value ∙ all)
