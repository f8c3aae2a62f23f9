use Rattle.std.proofs.Common.{◌≡◌, ℕ, ◌<◌, false, cond, nat_eq, List, [], ◌∷◌, ◌++◌, length, length-append, take, get_or, refl, sym, ◌∙◌, ap, subst, arith, add-one, eq-eqb}
use Rattle.std.proofs.lemmas.List.{append-nil}
use Rattle.std.proofs.lemmas.Bool.Decides.{nat_tests}
use Rattle.zr_base.specs.declared.space.Entry.{Entry}
use Rattle.zr_rules.specs.Condense.{condensed, is_used}
use Rattle.zr_rules.specs.Mappings.{entry_at}
use Rattle.zr_base.specs.declared.space.CondPart.{CondPart}
use Rattle.zr_condense.specs.Condensing.{HasWorked}
use Rattle.zr_condense.proofs.Keeping.{condensed_more, zip_push, after_kept}
use Rattle.zr_condense.proofs.Condense.work.Goals as goal

-- an entry whose count is its length is left out, and another one is kept
left_out : (e : Entry) (c : ℕ) → c ≡ e.len → cond {A = List (Entry × ℕ)} (is_used (e, c)) ((e, c) ∷ []) [] ≡ []
left_out e c same = rw (eq-eqb c e.len same) refl

kept : (e : Entry) (c : ℕ) → (c ≡ e.len → ⊥) → cond {A = List (Entry × ℕ)} (is_used (e, c)) ((e, c) ∷ []) [] ≡ (e, c) ∷ []
kept e c other = let no : nat_eq c e.len ≡ false = grind (arith, nat_tests) in rw no refl

pub returns-then-count-entry-clause-worked : goal.returns-then-count-entry-clause-worked
returns-then-count-entry-clause-worked c =
    let es = c.args.map.now.entries in
    let at : ℕ = c.self.inside.at in
    let worked = subst (λ (v : CondPart). HasWorked es c.args.counts.now v) (sym c.self.view_is) c.requires.worked in
    let more : at < length es = rw (ap (λ (v : CondPart). v.at) c.self.view_is) c.requires.more in
    let step = condensed_more es c.args.counts.now at more c.requires.count in
    let out = left_out (entry_at es at) (get_or c.args.counts.now at 0) (c.if-count-entry.true ∙ ap (λ (e : Entry). e.len) c.entry-entry.ensures.value) in
    record {
      within = omega arith;
      kept = worked.kept ∙ sym (rw add-one (step ∙ rw out (append-nil (condensed (take at es) (take at c.args.counts.now)))));
      each = worked.each;
    }

pub push-requires-clause-after : goal.push-requires-clause-after
push-requires-clause-after c =
    let es = c.args.map.now.entries in
    let worked = subst (λ (v : CondPart). HasWorked es c.args.counts.now v) (sym c.self.view_is) c.requires.worked in
    let more : c.self.inside.at < length es = rw (ap (λ (v : CondPart). v.at) c.self.view_is) c.requires.more in
    rw c.entry-entry.ensures.value (after_kept es c.args.counts.now c.self.inside.at c.self.inside.kept.entries c.self.inside.counts.items c.entry-entry.ensures.rising more c.requires.count worked.each worked.kept)

pub returns-clause-worked : goal.returns-clause-worked
returns-clause-worked c =
    let es = c.args.map.now.entries in
    let at : ℕ = c.self.inside.at in
    let worked = subst (λ (v : CondPart). HasWorked es c.args.counts.now v) (sym c.self.view_is) c.requires.worked in
    let more : at < length es = rw (ap (λ (v : CondPart). v.at) c.self.view_is) c.requires.more in
    let step = condensed_more es c.args.counts.now at more c.requires.count in
    let e : Entry = entry_at es at in
    let n : ℕ = get_or c.args.counts.now at 0 in
    let in_it = kept e n (λ same. c.if-count-entry.false (same ∙ sym (ap (λ (x : Entry). x.len) c.entry-entry.ensures.value))) in
    let entries : c.push.new.self.entries ≡ c.self.inside.kept.entries ++ e ∷ [] = rw (sym c.entry-entry.ensures.value) c.in_ok-push.ensures.ok in
    let counts : c.push-2.new.self.items ≡ c.self.inside.counts.items ++ n ∷ [] = c.in-Ok.ensures.items ∙ ap (λ (ns : List ℕ). ns ++ n ∷ []) c.in_ok-reserve.ensures.items in
    let one_e = length-append c.self.inside.kept.entries (e ∷ []) in
    let one_n = length-append c.self.inside.counts.items (n ∷ []) in
    let lengths : length (c.self.inside.counts.items ++ n ∷ []) ≡ length (c.self.inside.kept.entries ++ e ∷ []) = omega (arith, one_e, one_n, worked.each) in
    record {
      within = omega arith;
      kept = rw (entries, counts) (zip_push c.self.inside.kept.entries c.self.inside.counts.items e n worked.each ∙ ap (λ (ps : List (Entry × ℕ)). ps ++ (e, n) ∷ []) worked.kept ∙ sym (rw add-one (step ∙ rw in_it refl)));
      each = rw (entries, counts) lengths;
    }
