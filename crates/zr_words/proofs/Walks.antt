-- What `clap` makes of the words is what their uses say.
use Rattle.std.proofs.Common.{◌≡◌, ◌∷◌, ◌++◌, Bool, true, false, cond, List, [], codes, Option, Some, None, refl, sym, ap, subst, ◌∙◌}
use Rattle.std.specs.Prelude.{⊤, ◌||◌, option_map, option_to_list, fold}
use Rattle.std.proofs.lemmas.List.{append_assoc, append-nil}
use Rattle.clap.specs.Walk.{Row, Rule, Text, Waiting, Walk, idle, option, positional, default_rows, has_row, is_empty, nothing_held, reading_by, settled, used, with_default, with_values, without}
use Rattle.clap.specs.Simple.{built, matches_of}
use Rattle.clap.specs.Faults.{default_fault, defaults_fault, fault_of, given_default_fault, repeat_fault, settle_fault, use_fault, walk_fault}
use Rattle.clap.specs.Kinds.{Kinds, or_else}
use Rattle.clap.specs.declared.error.kind.ErrorKind.{ErrorKind}
use Rattle.clap.specs.declared.error.kind.ErrorKind.TheVariants as kind
use Rattle.clap.specs.declared.builder.value_parser.Reading.{Reading}
use Rattle.clap.specs.declared.parser.matches.ValueSource.TheVariants.{CommandLine}
use Rattle.clap.proofs.FaultLemmas.{leaf_fault}
use Rattle.zr_words.specs.App.{zr}
use Rattle.zr_words.proofs.Uses.{Class, Key, Mode, Use, auto, class_of, dashes, device, free, free_word, generate, given, id_of, named, opened, plain, policy, trailing, unknown, uses_of, value_word}
use Rattle.zr_words.proofs.Steps.{IsOf, at, dashes_fault, dashes_step, device_fault_idle, device_fault_next, device_rule, device_step_idle, device_step_next, fault, is_of, joined_fault, joined_step, opening_fault, opening_step, or_none, rule_at, rules_of_zr, settled_in, settling, shape, step, trailing_fault, trailing_step, value_fault, value_step}

abbrev pub reading : Reading
reading = reading_by device_rule

-- the rows after a use
abbrev pub put : Use → List Row → List Row
put (given key value) rows = with_values (id_of key) reading CommandLine (value ∷ []) (without (id_of key) rows)
put (device word) rows = with_values (codes "devs") reading CommandLine (word ∷ []) rows

-- an option may be used once
abbrev pub once : Use → List Row → Kinds
once (given key value) rows = repeat_fault false (id_of key) rows
once (device word) rows = []

abbrev pub put_all : List Use → List Row → List Row
put_all [] rows = rows
put_all (u ∷ us) rows = put_all us (put u rows)

abbrev pub put_fault : List Use → List Row → Kinds
put_fault [] rows = []
put_fault (u ∷ us) rows = or_else (once u rows) (put_fault us (put u rows))

or_else_assoc : (a b c : Kinds) → or_else (or_else a b) c ≡ or_else a (or_else b c)
or_else_assoc [] b c = refl
or_else_assoc (k ∷ ks) b c = refl

put_fault-append : (us vs : List Use) (rows : List Row) → put_fault (us ++ vs) rows ≡ or_else (put_fault us rows) (put_fault vs (put_all us rows))
put_fault-append [] vs rows = refl
put_fault-append (u ∷ us) vs rows = ap (or_else (once u rows)) (put_fault-append us vs (put u rows)) ∙ sym (or_else_assoc (once u rows) (put_fault us (put u rows)) (put_fault vs (put_all us (put u rows))))

put_all-append : (us vs : List Use) (rows : List Row) → put_all (us ++ vs) rows ≡ put_all vs (put_all us rows)
put_all-append [] vs rows = refl
put_all-append (u ∷ us) vs rows = put_all-append us vs (put u rows)

-- where the walk stands between two words: behind a whole use or nothing, before `--` or behind it; or before a value
data Spot : Type 0 where
  after : Bool → Option Use → Spot
  waits : Key → Spot

abbrev pending_at : Option Use → Option (Text × List Text)
pending_at None = None
pending_at (Some (given key value)) = Some (id_of key, value ∷ [])
pending_at (Some (device word)) = Some (codes "devs", word ∷ [])

abbrev waiting_at : Option Use → Waiting
waiting_at None = idle
waiting_at (Some (given key value)) = idle
waiting_at (Some (device word)) = positional

abbrev spot : List Row → Spot → Walk
spot rows (after behind u) = at behind rows (pending_at u) (waiting_at u)
spot rows (waits key) = at false rows (Some (id_of key, [])) (option (id_of key))

abbrev mode_at : Spot → Mode
mode_at (after true u) = trailing
mode_at (after false u) = free
mode_at (waits key) = opened key

abbrev uses_at : Spot → List Use
uses_at (after behind u) = option_to_list u
uses_at (waits key) = []

settled_after : (u : Option Use) (rows : List Row) → settled_in rows (pending_at u) ≡ put_all (option_to_list u) rows
settled_after None rows = refl
settled_after (Some (given policy value)) rows = refl
settled_after (Some (given auto value)) rows = refl
settled_after (Some (given generate value)) rows = refl
settled_after (Some (device word)) rows = refl

settling_after : (u : Option Use) (rows : List Row) → settling rows (pending_at u) ≡ put_fault (option_to_list u) rows
settling_after None rows = refl
settling_after (Some (given policy value)) rows = refl
settling_after (Some (given auto value)) rows = refl
settling_after (Some (given generate value)) rows = refl
settling_after (Some (device word)) rows = refl

-- an option without its value
settling_open : (key : Key) (rows : List Row) → settling rows (Some (id_of key, [])) ≡ kind.InvalidValue ∷ []
settling_open policy rows = refl
settling_open auto rows = refl
settling_open generate rows = refl

used_put : (key : Key) (value : Text) (rows : List Row) → used (rule_at key) (value ∷ []) rows ≡ put (given key value) rows
used_put policy value rows = refl
used_put auto value rows = refl
used_put generate value rows = refl

use_once : (key : Key) (value : Text) (rows : List Row) → use_fault false (rule_at key) (value ∷ []) rows ≡ once (given key value) rows
use_once policy value rows = or_none _
use_once auto value rows = or_none _
use_once generate value rows = or_none _

-- the kinds of error from here on, and the rows at the end
abbrev faults : Walk → List Text → Kinds
faults w words = or_else (walk_fault shape [] w words) (settle_fault rules_of_zr false (fold step w words).held)

abbrev rows_at_end : Walk → List Text → List Row
rows_at_end w words = (settled rules_of_zr (fold step w words).held).rows

faults_more : (w : Walk) (word : Text) (words : List Text) → faults w (word ∷ words) ≡ or_else (fault w word) (faults (step w word) words)
unfolding walk_fault
faults_more w word words = or_else_assoc (fault w word) (walk_fault shape [] (step w word) words) (settle_fault rules_of_zr false (fold step (step w word) words).held)

faults_end : (w : Walk) → faults w [] ≡ settle_fault rules_of_zr false w.held
unfolding walk_fault
faults_end w = refl

-- the walk over the words comes to the uses, behind those before
abbrev Sim : Option (List Use) → Walk → List Text → List Use → List Row → Type 0
Sim None w words before rows = faults w words ≡ [] → ⊥
Sim (Some us) w words before rows = (faults w words ≡ put_fault (before ++ us) rows) × (rows_at_end w words ≡ put_all (before ++ us) rows)

second_none : (a b : Kinds) → or_else a b ≡ [] → b ≡ []
second_none [] b e = e
second_none (k ∷ ks) b e = absurd (cc)

some_kinds : (k : ErrorKind) (a : Kinds) → a ≡ k ∷ [] → a ≡ [] → ⊥
some_kinds k a e f = cc

-- one word on
module _ (w next : Walk) (word : Text) (words : List Text) (is : step w word ≡ next) where
  passes : (r : Option (List Use)) (before : List Use) (rows : List Row) → fault w word ≡ [] → Sim r next words before rows → Sim r w (word ∷ words) before rows
  passes None before rows none h = λ e. h (ap (λ x. faults x words) (sym is) ∙ second_none (fault w word) (faults (step w word) words) (sym (faults_more w word words) ∙ e))
  passes (Some us) before rows none h = (
    faults_more w word words ∙ (ap (λ a. or_else a (faults (step w word) words)) none ∙ (ap (λ x. faults x words) is ∙ h.0)),
    ap (λ x. rows_at_end x words) is ∙ h.1,
  )

  moves : (r : Option (List Use)) (before more : List Use) (rows : List Row) → fault w word ≡ put_fault before rows → Sim r next words more (put_all before rows)
      → Sim (option_map (λ us. more ++ us) r) w (word ∷ words) before rows
  moves None before more rows e h = λ f. h (ap (λ x. faults x words) (sym is) ∙ second_none (fault w word) (faults (step w word) words) (sym (faults_more w word words) ∙ f))
  moves (Some us) before more rows e h = (
    faults_more w word words
        ∙ (ap (λ a. or_else a (faults (step w word) words)) e
        ∙ (ap (or_else (put_fault before rows)) (ap (λ x. faults x words) is ∙ h.0) ∙ sym (put_fault-append before (more ++ us) rows))),
    ap (λ x. rows_at_end x words) is ∙ (h.1 ∙ sym (put_all-append before (more ++ us) rows)),
  )

  joins : (r : Option (List Use)) (before : List Use) (first : Use) (rows : List Row) → fault w word ≡ put_fault (before ++ first ∷ []) rows → Sim r next words [] (put_all (before ++ first ∷ []) rows)
      → Sim (option_map (λ us. first ∷ us) r) w (word ∷ words) before rows
  joins None before first rows e h = λ f. h (ap (λ x. faults x words) (sym is) ∙ second_none (fault w word) (faults (step w word) words) (sym (faults_more w word words) ∙ f))
  joins (Some us) before first rows e h =
      let all = append_assoc before (first ∷ []) us in (
        faults_more w word words
            ∙ (ap (λ a. or_else a (faults (step w word) words)) e
            ∙ (ap (or_else (put_fault (before ++ first ∷ []) rows)) (ap (λ x. faults x words) is ∙ h.0) ∙ (sym (put_fault-append (before ++ first ∷ []) us rows) ∙ ap (λ b. put_fault b rows) all))),
        ap (λ x. rows_at_end x words) is ∙ (h.1 ∙ (sym (put_all-append (before ++ first ∷ []) us rows) ∙ ap (λ b. put_all b rows) all)),
      )

stops : (w : Walk) (word : Text) (words : List Text) (k : ErrorKind) → fault w word ≡ k ∷ [] → faults w (word ∷ words) ≡ [] → ⊥
stops w word words k e f = some_kinds k _ (ap (λ a. or_else a (faults (step w word) words)) e) (sym (faults_more w word words) ∙ f)

unmapped : (r : Option (List Use)) → option_map (λ us. us) r ≡ r
unmapped None = refl
unmapped (Some us) = refl

-- an option that `--` cuts off from its value
lost : (words : List Text) (key : Key) (rows : List Row) → faults (at true rows (Some (id_of key, [])) (option (id_of key))) words ≡ [] → ⊥
lost [] key rows e = some_kinds kind.InvalidValue _ (settling_open key rows) (sym (faults_end (at true rows (Some (id_of key, [])) (option (id_of key)))) ∙ e)
lost (word ∷ words) key rows e =
    stops (at true rows (Some (id_of key, [])) (option (id_of key))) word words kind.InvalidValue (trailing_fault word rows (Some (id_of key, [])) (option (id_of key)) ∙ settling_open key rows) e

-- the words behind the first
abbrev Behind : List Text → Type 0
Behind words = (s : Spot) (rows : List Row) → Sim (uses_of words (mode_at s)) (spot rows s) words (uses_at s) rows

device_step : (u : Option Use) (word : Text) → IsOf word plain → (rows : List Row) → step (spot rows (after false u)) word ≡ spot (put_all (option_to_list u) rows) (after false (Some (device word)))
device_step None word h rows = device_step_idle word h rows None
device_step (Some (given key value)) word h rows =
    device_step_idle word h rows (pending_at (Some (given key value))) ∙ ap (λ rs. spot rs (after false (Some (device word)))) (settled_after (Some (given key value)) rows)
device_step (Some (device v)) word h rows = device_step_next word h rows (pending_at (Some (device v)))

device_fault : (u : Option Use) (word : Text) → IsOf word plain → (rows : List Row) → fault (spot rows (after false u)) word ≡ put_fault (option_to_list u) rows
device_fault None word h rows = device_fault_idle word h rows None
device_fault (Some (given key value)) word h rows = device_fault_idle word h rows (pending_at (Some (given key value))) ∙ settling_after (Some (given key value)) rows
device_fault (Some (device v)) word h rows = device_fault_next word h rows (pending_at (Some (device v)))

free_sim : (c : Class) (word : Text) (words : List Text) (u : Option Use) (rows : List Row) → IsOf word c → Behind words
    → Sim (free_word c word (uses_of words)) (spot rows (after false u)) (word ∷ words) (option_to_list u) rows
free_sim dashes word words u rows h more =
    passes (spot rows (after false u)) (spot rows (after true u)) word words (dashes_step word h rows (pending_at u) (waiting_at u)) (uses_of words trailing) (option_to_list u) rows
    (dashes_fault word h rows (pending_at u) (waiting_at u)) (more (after true u) rows)
free_sim (named key None) word words u rows h more =
    let is = opening_step word h.0 key h.1 rows (pending_at u) (waiting_at u) ∙ ap (λ rs. spot rs (waits key)) (settled_after u rows) in
    subst (λ r. Sim r (spot rows (after false u)) (word ∷ words) (option_to_list u) rows) (unmapped (uses_of words (opened key)))
    (moves (spot rows (after false u)) (spot (put_all (option_to_list u) rows) (waits key)) word words is (uses_of words (opened key)) (option_to_list u) [] rows
    (opening_fault word h.0 key h.1 rows (pending_at u) (waiting_at u) ∙ settling_after u rows) (more (waits key) (put_all (option_to_list u) rows)))
free_sim (named key (Some value)) word words u rows h more =
    let first = given key value in
    let rows_are : used (rule_at key) (value ∷ []) (settled_in rows (pending_at u)) ≡ put_all (option_to_list u ++ first ∷ []) rows =
    used_put key value (settled_in rows (pending_at u)) ∙ (ap (put first) (settled_after u rows) ∙ sym (put_all-append (option_to_list u) (first ∷ []) rows)) in
    let is = joined_step word h.0 key value h.1 rows (pending_at u) (waiting_at u) ∙ ap (λ rs. spot rs (after false None)) rows_are in
    let kinds = joined_fault word h.0 key value h.1 rows (pending_at u) (waiting_at u)
    ∙ (ap (or_else (settling rows (pending_at u))) (use_once key value (settled_in rows (pending_at u)) ∙ (ap (once first) (settled_after u rows) ∙ sym (or_none (once first (put_all (option_to_list u) rows)))))
    ∙ (ap (λ a. or_else a (put_fault (first ∷ []) (put_all (option_to_list u) rows))) (settling_after u rows) ∙ sym (put_fault-append (option_to_list u) (first ∷ []) rows))) in
    joins (spot rows (after false u)) (spot (put_all (option_to_list u ++ first ∷ []) rows) (after false None)) word words is (uses_of words free) (option_to_list u) first rows kinds
    (more (after false None) (put_all (option_to_list u ++ first ∷ []) rows))
free_sim unknown word words u rows h more = stops (spot rows (after false u)) word words kind.UnknownArgument (h rows (pending_at u) (waiting_at u))
free_sim plain word words u rows h more =
    moves (spot rows (after false u)) (spot (put_all (option_to_list u) rows) (after false (Some (device word)))) word words (device_step u word h rows) (uses_of words free) (option_to_list u) (device word ∷ []) rows
    (device_fault u word h rows) (more (after false (Some (device word))) (put_all (option_to_list u) rows))

value_sim : (c : Class) (word : Text) (words : List Text) (key : Key) (rows : List Row) → IsOf word c → Behind words
    → Sim (value_word c key word (uses_of words)) (spot rows (waits key)) (word ∷ words) [] rows
value_sim dashes word words key rows h more =
    passes (spot rows (waits key)) (at true rows (Some (id_of key, [])) (option (id_of key))) word words (dashes_step word h rows (Some (id_of key, [])) (option (id_of key))) None [] rows
    (dashes_fault word h rows (Some (id_of key, [])) (option (id_of key))) (lost words key rows)
value_sim (named other None) word words key rows h more =
    stops (spot rows (waits key)) word words kind.InvalidValue (opening_fault word h.0 other h.1 rows (Some (id_of key, [])) (option (id_of key)) ∙ settling_open key rows)
value_sim (named other (Some value)) word words key rows h more =
    stops (spot rows (waits key)) word words kind.InvalidValue
    (joined_fault word h.0 other value h.1 rows (Some (id_of key, [])) (option (id_of key))
    ∙ ap (λ a. or_else a (use_fault false (rule_at other) (value ∷ []) (settled_in rows (Some (id_of key, []))))) (settling_open key rows))
value_sim unknown word words key rows h more = stops (spot rows (waits key)) word words kind.UnknownArgument (h rows (Some (id_of key, [])) (option (id_of key)))
value_sim plain word words key rows h more =
    moves (spot rows (waits key)) (spot rows (after false (Some (given key word)))) word words (value_step word key h rows) (uses_of words free) [] (given key word ∷ []) rows
    (value_fault word key h rows) (more (after false (Some (given key word))) rows)

trailing_sim : (word : Text) (words : List Text) (u : Option Use) (rows : List Row) → Behind words
    → Sim (option_map (λ us. device word ∷ us) (uses_of words trailing)) (spot rows (after true u)) (word ∷ words) (option_to_list u) rows
trailing_sim word words u rows more =
    moves (spot rows (after true u)) (spot (put_all (option_to_list u) rows) (after true (Some (device word)))) word words
    (trailing_step word rows (pending_at u) (waiting_at u) ∙ ap (λ rs. spot rs (after true (Some (device word)))) (settled_after u rows)) (uses_of words trailing) (option_to_list u) (device word ∷ []) rows
    (trailing_fault word rows (pending_at u) (waiting_at u) ∙ settling_after u rows) (more (after true (Some (device word))) (put_all (option_to_list u) rows))

end_sim : (behind : Bool) (u : Option Use) (rows : List Row) → Sim (Some []) (spot rows (after behind u)) [] (option_to_list u) rows
end_sim behind u rows = (
  faults_end (spot rows (after behind u)) ∙ (settling_after u rows ∙ ap (λ us. put_fault us rows) (sym (append-nil (option_to_list u)))),
  settled_after u rows ∙ ap (λ us. put_all us rows) (sym (append-nil (option_to_list u))),
)

sim : (words : List Text) → Behind words
sim [] (after true u) rows = end_sim true u rows
sim [] (after false u) rows = end_sim false u rows
sim [] (waits key) rows = λ e. some_kinds kind.InvalidValue _ (settling_open key rows) (sym (faults_end (spot rows (waits key))) ∙ e)
sim (word ∷ words) (after true u) rows = trailing_sim word words u rows (sim words)
sim (word ∷ words) (after false u) rows = free_sim (class_of word) word words u rows (is_of word) (sim words)
sim (word ∷ words) (waits key) rows = value_sim (class_of word) word words key rows (is_of word) (sim words)

-- no argument has a default
same_either : (b : Bool) (rows : List Row) → cond b rows rows ≡ rows
same_either true rows = refl
same_either false rows = refl

no_default : (rows : List Row) (a : Rule) → a.defaults ≡ [] → with_default rows a ≡ rows
no_default rows a e = ap (λ d. cond (has_row a.id rows) rows (default_rows a.id (reading_by a) d rows)) e ∙ same_either (has_row a.id rows) rows

no_default_fault : (rows : List Row) (a : Rule) → a.defaults ≡ [] → default_fault rows a ≡ []
no_default_fault rows a e = go (has_row a.id rows) a.defaults e
  where
    go : (b : Bool) (d : List Text) → d ≡ [] → cond (b || is_empty d) [] (given_default_fault a d) ≡ []
    go true d e = refl
    go false [] e = refl
    go false (x ∷ d) e = absurd (cc)

abbrev NoDefaults : List Rule → Type 0
NoDefaults [] = ⊤
NoDefaults (a ∷ rules) = (a.defaults ≡ []) × NoDefaults rules

finished_same : (rules : List Rule) → NoDefaults rules → (rows : List Row) → fold with_default rows rules ≡ rows
finished_same [] none rows = refl
finished_same (a ∷ rules) none rows = ap (λ r. fold with_default r rules) (no_default rows a none.0) ∙ finished_same rules none.1 rows

no_faults_left : (rules : List Rule) → NoDefaults rules → (rows : List Row) → defaults_fault rows rules ≡ []
unfolding defaults_fault
no_faults_left [] none rows = refl
no_faults_left (a ∷ rules) none rows = ap (λ k. or_else k (defaults_fault (with_default rows a) rules)) (no_default_fault rows a none.0) ∙ no_faults_left rules none.1 (with_default rows a)

have_none : NoDefaults rules_of_zr
have_none = (refl, (refl, (refl, (refl, tt))))

-- the kinds of error of the words, and their matches
fault_is : (words : List Text) → fault_of zr words ≡ faults (spot [] (after false None)) words
fault_is words =
    let walk = walk_fault shape [] (spot [] (after false None)) words in
    let end = (fold step (spot [] (after false None)) words).held in
    let settle = settle_fault rules_of_zr false end in
    leaf_fault (built zr) nothing_held words refl
    ∙ (ap (λ d. or_else walk (or_else settle (or_else d []))) (no_faults_left rules_of_zr have_none (settled rules_of_zr end).rows) ∙ ap (or_else walk) (or_none settle))

matches_are : (words : List Text) → matches_of zr words ≡ rows_at_end (spot [] (after false None)) words
matches_are words = finished_same rules_of_zr have_none (rows_at_end (spot [] (after false None)) words)

-- words that are uses
pub uses_matches : (words : List Text) (us : List Use) → uses_of words free ≡ Some us → (fault_of zr words ≡ put_fault us []) × (matches_of zr words ≡ put_all us [])
uses_matches words us e =
    let s : Sim (Some us) (spot [] (after false None)) words [] [] = subst (λ r. Sim r (spot [] (after false None)) words [] []) e (sim words (after false None) []) in
    (fault_is words ∙ s.0, matches_are words ∙ s.1)

-- other words have an error
pub uses_none : (words : List Text) → uses_of words free ≡ None → fault_of zr words ≡ [] → ⊥
uses_none words e f =
    let s : Sim None (spot [] (after false None)) words [] [] = subst (λ r. Sim r (spot [] (after false None)) words [] []) e (sim words (after false None) []) in
    s (sym (fault_is words) ∙ f)
