use Rattle.std.proofs.Common.{ℕ, List, [], Bor, codes, map, option_map, unwrap_or, ap, subst, sym, ◌∙◌}
use Rattle.clap.specs.Words.{found_of}
use Rattle.clap.proofs.WalkLemmas.{first_value-rows, raw_values-rows}
use Rattle.zr_words.specs.Views.{device_of}
use Rattle.zr_words.specs.Reading.{AreEach, Gives, IsGenerate, IsPolicy, IsRounds}
use Rattle.zr_words.proofs.Values.{words_found}
use Rattle.zr_words.proofs.words.line_from.Goals as goal

pub returns-in_default-clause-none : goal.returns-in_default-clause-none
returns-in_default-clause-none c = λ line h.
    c.in_default.ensures.none line.policy (subst (λ o. Gives IsPolicy o line.policy) (sym (c.get_str.ensures ∙ first_value-rows (found_of c.args.matches.now) (codes "policy"))) h.policy)

pub returns-in_default-parse_rounds-clause-none : goal.returns-in_default-parse_rounds-clause-none
returns-in_default-parse_rounds-clause-none c = λ line h.
    c.in_default-parse_rounds.ensures.none line.auto (subst (λ o. Gives IsRounds o line.auto) (sym (c.get_str-2.ensures ∙ first_value-rows (found_of c.args.matches.now) (codes "auto"))) h.auto)

pub returns-in_default-parse_generate-clause-none : goal.returns-in_default-parse_generate-clause-none
returns-in_default-parse_generate-clause-none c = λ line h.
    c.in_default-parse_generate.ensures.none line.generate (subst (λ o. Gives IsGenerate o line.generate) (sym (c.get_str-3.ensures ∙ first_value-rows (found_of c.args.matches.now) (codes "gen"))) h.generate)

pub returns-in_default-2-clause-none : goal.returns-in_default-2-clause-none
returns-in_default-2-clause-none c = λ line h.
    let none = rw c.in_default-2.is at c.in_ok-devices.ensures.none in
    let words_are = ap (λ (w : Bor (List (Bor (List ℕ)))). map (λ word. word.now) w.now) c.unwrap_or-words.ensures
    ∙ (words_found c.get_strs.result _ ∙ ap (λ o. unwrap_or o []) (c.get_strs.ensures ∙ raw_values-rows (found_of c.args.matches.now) (codes "devs"))) in
    none line.devs (subst (λ words. AreEach words line.devs) (sym words_are) h.devs)

pub returns-clause-some : goal.returns-clause-some
returns-clause-some c =
    let matches = found_of c.args.matches.now in
    let words_are = ap (λ (w : Bor (List (Bor (List ℕ)))). map (λ word. word.now) w.now) c.unwrap_or-words.ensures
    ∙ (words_found c.get_strs.result _ ∙ ap (λ o. unwrap_or o []) (c.get_strs.ensures ∙ raw_values-rows (found_of c.args.matches.now) (codes "devs"))) in
    record {
      policy = subst (λ o. Gives IsPolicy o (option_map (λ text. text.now) c.in-Some.policy)) (c.get_str.ensures ∙ first_value-rows matches (codes "policy")) c.in-Some.ensures.some;
      auto = subst (λ o. Gives IsRounds o c.in-Some-parse_rounds.auto) (c.get_str-2.ensures ∙ first_value-rows matches (codes "auto")) c.in-Some-parse_rounds.ensures.some;
      generate = subst (λ o. Gives IsGenerate o c.in-Some-parse_generate.generate) (c.get_str-3.ensures ∙ first_value-rows matches (codes "gen")) c.in-Some-parse_generate.ensures.some;
      devs = subst (λ words. AreEach words (map device_of c.in-Some-2.devices.items)) words_are (rw c.in-Some-2.is at c.in_ok-devices.ensures.some);
    }
