use Rattle.std.proofs.Common.{◌≡◌, ℕ, List, [], ◌∷◌, codes, map, sym, ap, subst, ◌∙◌}
use Rattle.std.specs.String.{string_bytes}
use Rattle.zr_session.specs.Headline.{IsNoCommandLine}
use Rattle.zr_cli.specs.Statuses.{chooser_names, ComesTo}
use Rattle.zr_cli.proofs.answer.Goals as goal

same_names : (a b c : List ℕ) → a ≡ codes "dynamic" → b ≡ codes "first" → c ≡ codes "best" → a ∷ b ∷ c ∷ [] ≡ chooser_names
same_names a b c p q r = cc

pub returns-clause-bad_words : goal.returns-clause-bad_words
returns-clause-bad_words g c = λ is.
    let e = same_names _ _ _ (ap string_bytes c.new-dynamic.ensures.name ∙ c.in_ok-from_str-3.ensures.ok) (ap string_bytes c.new-first.ensures.name ∙ c.in_ok-from_str.ensures.ok)
    (ap string_bytes c.new-best.ensures.name ∙ c.in_ok-from_str-2.ensures.ok) in
    let h = c.run.ensures.bad_words is in
    (subst (λ (names : List (List ℕ)). IsNoCommandLine names (map string_bytes c.args.words.now)) e h.0, h.1)

pub returns-clause-words : goal.returns-clause-words
returns-clause-words g c = λ none.
    let e = same_names _ _ _ (ap string_bytes c.new-dynamic.ensures.name ∙ c.in_ok-from_str-3.ensures.ok) (ap string_bytes c.new-first.ensures.name ∙ c.in_ok-from_str.ensures.ok)
    (ap string_bytes c.new-best.ensures.name ∙ c.in_ok-from_str-2.ensures.ok) in
    c.run.ensures.words (subst (λ (names : List (List ℕ)). IsNoCommandLine names (map string_bytes c.args.words.now)) (sym e) none)

pub returns-clause-comes_to : goal.returns-clause-comes_to
returns-clause-comes_to g c = λ t.
    let e = same_names _ _ _ (ap string_bytes c.new-dynamic.ensures.name ∙ c.in_ok-from_str-3.ensures.ok) (ap string_bytes c.new-first.ensures.name ∙ c.in_ok-from_str.ensures.ok)
    (ap string_bytes c.new-best.ensures.name ∙ c.in_ok-from_str-2.ensures.ok) in
    let r = c.run.ensures in
    subst (λ (names : List (List ℕ)). ComesTo names (map string_bytes c.args.words.now) c.run.result (g.D.Shelf.world c.args.desk.now).now (g.D.Shelf.world c.run.new.desk).now) e
    (record { done = r.done t; taken = r.taken t; partly = r.partly t; stopped = r.stopped t; bad_line = r.bad_line t; damaged = r.damaged t; unattached = r.unattached t; limit = r.limit t; memory = r.memory t })

pub returns-clause-faults : goal.returns-clause-faults
returns-clause-faults g c =
    let r = c.run.ensures in
    record { input = r.input_fault; output = r.output_fault; disk = r.disk_fault; attach = r.attach_fault; complete = r.complete }
