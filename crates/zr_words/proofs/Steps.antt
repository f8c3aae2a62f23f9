-- What `clap` makes of one word.
use Rattle.std.proofs.Common.{◌≡◌, ◌&&◌, ◌∷◌, ℕ, Bool, true, false, List, [], codes, Option, Some, None, refl, sym, ap, ◌∙◌, length}
use Rattle.std.specs.Prelude.{slice_get, option_map, if◌then◌else◌}
use Rattle.std.specs.Option.{option_map_or}
use Rattle.std.specs.Str.{bytes_eq, chars}
use Rattle.clap.specs.Walk.{Held, Row, Rule, Text, Waiting, Walk, Outcome, idle, option, positional, after_flag, arg_by_long, plain_word, settled, short_or_plain, used, walked, plain as plain_flag}
use Rattle.clap.specs.Simple.{Shape, built, filled, with_index}
use Rattle.clap.specs.Faults.{bundle_fault, bundle_step_fault, flags_fault, settle_fault, turn_fault, use_fault}
use Rattle.clap.specs.Kinds.{Kinds, or_else}
use Rattle.clap.specs.Lexer.{long_of, short_of}
use Rattle.clap.specs.declared.error.kind.ErrorKind.TheVariants as kind
use Rattle.clap.proofs.FaultLemmas.{fault_ends}
use Rattle.clap.proofs.WalkLemmas.{bundle_ends}
use Rattle.zr_words.specs.App.{zr, policy_rule, auto_rule, generate_rule, devices_rule}
use Rattle.zr_words.proofs.Uses.{Class, Key, auto, class_first, class_long, class_named, class_of, dashes, generate, id_of, key_of, named, plain, policy, unknown}

abbrev pub shape : Shape
shape = (built zr).top

abbrev pub rules_of_zr : List Rule
rules_of_zr = shape.rules

abbrev pub rule_at : Key → Rule
rule_at policy = filled policy_rule
rule_at auto = filled auto_rule
rule_at generate = filled generate_rule

abbrev pub device_rule : Rule
device_rule = with_index 1 (filled devices_rule)

abbrev pub holds : List Row → Option (Text × List Text) → Held
holds rows pending = record { rows = rows; pending = pending; skip = 0 }

abbrev pub settled_in : List Row → Option (Text × List Text) → List Row
settled_in rows pending = (settled rules_of_zr (holds rows pending)).rows

abbrev pub settling : List Row → Option (Text × List Text) → Kinds
settling rows pending = settle_fault rules_of_zr false (holds rows pending)

abbrev pub at : Bool → List Row → Option (Text × List Text) → Waiting → Walk
at is_trailing rows pending waiting = record { held = holds rows pending; waiting = waiting; position = 1; is_trailing = is_trailing; stopped = None }

abbrev pub step : Walk → Text → Walk
step = walked rules_of_zr []

abbrev pub fault : Walk → Text → Kinds
fault = turn_fault shape []

pub or_none : (a : Kinds) → or_else a [] ≡ a
or_none [] = refl
or_none (k ∷ ks) = refl

and_false : (b : Bool) → (b && false) ≡ false
and_false true = refl
and_false false = refl

long_rule : (name : Text) → arg_by_long rules_of_zr name ≡ option_map rule_at (key_of name)
long_rule name = go (bytes_eq (codes "policy") name) refl (bytes_eq (codes "auto") name) refl (bytes_eq (codes "gen") name) refl
  where
    go : (a : Bool) → bytes_eq (codes "policy") name ≡ a → (b : Bool) → bytes_eq (codes "auto") name ≡ b → (c : Bool) → bytes_eq (codes "gen") name ≡ c
        → arg_by_long rules_of_zr name ≡ option_map rule_at (key_of name)
    go true e b f c g = rw e refl
    go false e true f c g = rw (e, f) refl
    go false e false f true g = rw (e, f, g) refl
    go false e false f false g = rw (e, f, g) refl

-- a word `--`
pub dashes_step : (word : Text) → bytes_eq word (45 ∷ 45 ∷ []) ≡ true → (rows : List Row) (pending : Option (Text × List Text)) (waiting : Waiting)
    → step (at false rows pending waiting) word ≡ at true rows pending waiting
unfolding walked
dashes_step word e rows pending idle = rw e refl
dashes_step word e rows pending (option id) = rw e refl
dashes_step word e rows pending positional = rw e refl

pub dashes_fault : (word : Text) → bytes_eq word (45 ∷ 45 ∷ []) ≡ true → (rows : List Row) (pending : Option (Text × List Text)) (waiting : Waiting)
    → fault (at false rows pending waiting) word ≡ []
dashes_fault word e rows pending idle = rw e refl
dashes_fault word e rows pending (option id) = rw e refl
dashes_fault word e rows pending positional = rw e refl

-- an option in a word: the first test fails, and the long name is known
pub record Longs (word name : Text) (key : Key) (value : Option Text) : Type 0 where
  pub no_dashes : bytes_eq word (45 ∷ 45 ∷ []) ≡ false
  pub long : long_of word ≡ Some (name, value)
  pub rule : arg_by_long rules_of_zr name ≡ Some (rule_at key)

-- an option whose value is the next word
pub opening_step : (word name : Text) (key : Key) → Longs word name key None → (rows : List Row) (pending : Option (Text × List Text)) (waiting : Waiting)
    → step (at false rows pending waiting) word ≡ at false (settled_in rows pending) (Some (id_of key, [])) (option (id_of key))
unfolding walked
opening_step word name policy h rows pending idle = rw (h.no_dashes, h.long, h.rule) refl
opening_step word name policy h rows pending (option id) = rw (h.no_dashes, h.long, h.rule) refl
opening_step word name policy h rows pending positional = rw (h.no_dashes, h.long, h.rule) refl
opening_step word name auto h rows pending idle = rw (h.no_dashes, h.long, h.rule) refl
opening_step word name auto h rows pending (option id) = rw (h.no_dashes, h.long, h.rule) refl
opening_step word name auto h rows pending positional = rw (h.no_dashes, h.long, h.rule) refl
opening_step word name generate h rows pending idle = rw (h.no_dashes, h.long, h.rule) refl
opening_step word name generate h rows pending (option id) = rw (h.no_dashes, h.long, h.rule) refl
opening_step word name generate h rows pending positional = rw (h.no_dashes, h.long, h.rule) refl

pub opening_fault : (word name : Text) (key : Key) → Longs word name key None → (rows : List Row) (pending : Option (Text × List Text)) (waiting : Waiting)
    → fault (at false rows pending waiting) word ≡ settling rows pending
opening_fault word name policy h rows pending idle = rw (h.no_dashes, h.long, h.rule) (or_none _)
opening_fault word name policy h rows pending (option id) = rw (h.no_dashes, h.long, h.rule) (or_none _)
opening_fault word name policy h rows pending positional = rw (h.no_dashes, h.long, h.rule) (or_none _)
opening_fault word name auto h rows pending idle = rw (h.no_dashes, h.long, h.rule) (or_none _)
opening_fault word name auto h rows pending (option id) = rw (h.no_dashes, h.long, h.rule) (or_none _)
opening_fault word name auto h rows pending positional = rw (h.no_dashes, h.long, h.rule) (or_none _)
opening_fault word name generate h rows pending idle = rw (h.no_dashes, h.long, h.rule) (or_none _)
opening_fault word name generate h rows pending (option id) = rw (h.no_dashes, h.long, h.rule) (or_none _)
opening_fault word name generate h rows pending positional = rw (h.no_dashes, h.long, h.rule) (or_none _)

-- an option with its value
pub joined_step : (word name : Text) (key : Key) (value : Text) → Longs word name key (Some value) → (rows : List Row) (pending : Option (Text × List Text)) (waiting : Waiting)
    → step (at false rows pending waiting) word ≡ at false (used (rule_at key) (value ∷ []) (settled_in rows pending)) None idle
unfolding walked
joined_step word name policy value h rows pending idle = rw (h.no_dashes, h.long, h.rule) refl
joined_step word name policy value h rows pending (option id) = rw (h.no_dashes, h.long, h.rule) refl
joined_step word name policy value h rows pending positional = rw (h.no_dashes, h.long, h.rule) refl
joined_step word name auto value h rows pending idle = rw (h.no_dashes, h.long, h.rule) refl
joined_step word name auto value h rows pending (option id) = rw (h.no_dashes, h.long, h.rule) refl
joined_step word name auto value h rows pending positional = rw (h.no_dashes, h.long, h.rule) refl
joined_step word name generate value h rows pending idle = rw (h.no_dashes, h.long, h.rule) refl
joined_step word name generate value h rows pending (option id) = rw (h.no_dashes, h.long, h.rule) refl
joined_step word name generate value h rows pending positional = rw (h.no_dashes, h.long, h.rule) refl

pub joined_fault : (word name : Text) (key : Key) (value : Text) → Longs word name key (Some value) → (rows : List Row) (pending : Option (Text × List Text)) (waiting : Waiting)
    → fault (at false rows pending waiting) word ≡ or_else (settling rows pending) (use_fault false (rule_at key) (value ∷ []) (settled_in rows pending))
joined_fault word name policy value h rows pending idle = rw (h.no_dashes, h.long, h.rule) (or_none _)
joined_fault word name policy value h rows pending (option id) = rw (h.no_dashes, h.long, h.rule) (or_none _)
joined_fault word name policy value h rows pending positional = rw (h.no_dashes, h.long, h.rule) (or_none _)
joined_fault word name auto value h rows pending idle = rw (h.no_dashes, h.long, h.rule) (or_none _)
joined_fault word name auto value h rows pending (option id) = rw (h.no_dashes, h.long, h.rule) (or_none _)
joined_fault word name auto value h rows pending positional = rw (h.no_dashes, h.long, h.rule) (or_none _)
joined_fault word name generate value h rows pending idle = rw (h.no_dashes, h.long, h.rule) (or_none _)
joined_fault word name generate value h rows pending (option id) = rw (h.no_dashes, h.long, h.rule) (or_none _)
joined_fault word name generate value h rows pending positional = rw (h.no_dashes, h.long, h.rule) (or_none _)

-- an unknown option
pub unknown_long : (word name : Text) (value : Option Text) → bytes_eq word (45 ∷ 45 ∷ []) ≡ false → long_of word ≡ Some (name, value) → arg_by_long rules_of_zr name ≡ None
    → (rows : List Row) (pending : Option (Text × List Text)) (waiting : Waiting) → fault (at false rows pending waiting) word ≡ kind.UnknownArgument ∷ []
unknown_long word name value d l r rows pending idle = rw (d, l, r) refl
unknown_long word name value d l r rows pending (option id) = rw (d, l, r) refl
unknown_long word name value d l r rows pending positional = rw (d, l, r) refl

-- a word that is no flag
pub record Plain (word : Text) : Type 0 where
  pub no_dashes : bytes_eq word (45 ∷ 45 ∷ []) ≡ false
  pub no_long : long_of word ≡ None
  pub met : (rows : List Row) (pending : Option (Text × List Text)) (waiting : Waiting)
      → short_or_plain rules_of_zr waiting word (short_of word) (holds rows pending) ≡ plain_word rules_of_zr waiting word (holds rows pending)
  pub passes : (rows : List Row) (pending : Option (Text × List Text)) → option_map_or (λ flags. bundle_fault rules_of_zr false flags (holds rows pending)) (short_of word) [] ≡ []

pub no_short : (word : Text) → bytes_eq word (45 ∷ 45 ∷ []) ≡ false → long_of word ≡ None → short_of word ≡ None → Plain word
no_short word d l s = record { no_dashes = d; no_long = l; met = λ rows pending waiting. rw s refl; passes = λ rows pending. rw s refl }

-- bytes that spell no character are no flags
pub no_flags : (word flags : Text) → bytes_eq word (45 ∷ 45 ∷ []) ≡ false → long_of word ≡ None → short_of word ≡ Some flags → None ≡ slice_get (chars flags) 0 → Plain word
no_flags word flags d l s none = record {
  no_dashes = d;
  no_long = l;
  met = λ rows pending waiting.
      ap (λ f. short_or_plain rules_of_zr waiting word f (holds rows pending)) s
      ∙ ap (λ (m : Held × Outcome). after_flag rules_of_zr waiting word m.0 m.1) (sym (bundle_ends rules_of_zr (length flags) flags 0 plain_flag (holds rows pending) none));
  passes = λ rows pending. rw s (sym (fault_ends rules_of_zr false (length flags) flags 0 (holds rows pending) none));
}

-- an unknown flag
pub unknown_short : (word flags : Text) (c : ℕ) → bytes_eq word (45 ∷ 45 ∷ []) ≡ false → long_of word ≡ None → short_of word ≡ Some flags → slice_get (chars flags) 0 ≡ Some c
    → (rows : List Row) (pending : Option (Text × List Text)) (waiting : Waiting) → fault (at false rows pending waiting) word ≡ kind.UnknownArgument ∷ []
unfolding flags_fault chars
unknown_short word flags c d l s some rows pending waiting = go waiting
  where
    refused : (fs : Text) → slice_get (chars fs) 0 ≡ Some c → bundle_fault rules_of_zr false fs (holds rows pending) ≡ kind.UnknownArgument ∷ []
    refused [] e = let bad : None ≡ Some c = e in absurd (cc)
    refused (x ∷ fs) e = ap (λ o. bundle_step_fault rules_of_zr false o (x ∷ fs) 0 (holds rows pending) (flags_fault rules_of_zr false (length fs))) e

    go : (waiting : Waiting) → fault (at false rows pending waiting) word ≡ kind.UnknownArgument ∷ []
    go idle = rw (d, l, s, refused flags some) refl
    go (option id) = rw (d, l, s, refused flags some) refl
    go positional = rw (d, l, s, refused flags some) refl

pub value_step : (word : Text) (key : Key) → Plain word → (rows : List Row)
    → step (at false rows (Some (id_of key, [])) (option (id_of key))) word ≡ at false rows (Some (id_of key, word ∷ [])) idle
unfolding walked
value_step word policy h rows = rw (h.no_dashes, h.no_long, h.met rows (Some (codes "policy", [])) (option (codes "policy"))) refl
value_step word auto h rows = rw (h.no_dashes, h.no_long, h.met rows (Some (codes "auto", [])) (option (codes "auto"))) refl
value_step word generate h rows = rw (h.no_dashes, h.no_long, h.met rows (Some (codes "gen", [])) (option (codes "gen"))) refl

pub value_fault : (word : Text) (key : Key) → Plain word → (rows : List Row) → fault (at false rows (Some (id_of key, [])) (option (id_of key))) word ≡ []
value_fault word policy h rows = rw (h.no_dashes, h.no_long, h.passes rows (Some (codes "policy", [])), h.met rows (Some (codes "policy", [])) (option (codes "policy"))) refl
value_fault word auto h rows = rw (h.no_dashes, h.no_long, h.passes rows (Some (codes "auto", [])), h.met rows (Some (codes "auto", [])) (option (codes "auto"))) refl
value_fault word generate h rows = rw (h.no_dashes, h.no_long, h.passes rows (Some (codes "gen", [])), h.met rows (Some (codes "gen", [])) (option (codes "gen"))) refl

-- whether the devices are pending
abbrev for_devices : Option (Text × List Text) → Bool
for_devices pending = option_map_or (λ q. bytes_eq q.0 (codes "devs")) pending false

pub device_step_idle : (word : Text) → Plain word → (rows : List Row) (pending : Option (Text × List Text))
    → step (at false rows pending idle) word ≡ at false (settled_in rows pending) (Some (codes "devs", word ∷ [])) positional
unfolding walked
device_step_idle word h rows pending = rw (h.no_dashes, h.no_long, h.met rows pending idle, and_false (for_devices pending)) refl

pub device_fault_idle : (word : Text) → Plain word → (rows : List Row) (pending : Option (Text × List Text)) → fault (at false rows pending idle) word ≡ settling rows pending
device_fault_idle word h rows pending = rw (h.no_dashes, h.no_long, h.passes rows pending, h.met rows pending idle, and_false (for_devices pending)) refl

pub device_step_next : (word : Text) → Plain word → (rows : List Row) (pending : Option (Text × List Text))
    → step (at false rows pending positional) word ≡ at false (settled_in rows pending) (Some (codes "devs", word ∷ [])) positional
unfolding walked
device_step_next word h rows pending = rw (h.no_dashes, h.no_long, h.met rows pending positional, and_false (for_devices pending)) refl

pub device_fault_next : (word : Text) → Plain word → (rows : List Row) (pending : Option (Text × List Text)) → fault (at false rows pending positional) word ≡ settling rows pending
device_fault_next word h rows pending = rw (h.no_dashes, h.no_long, h.passes rows pending, h.met rows pending positional, and_false (for_devices pending)) refl

-- behind `--`
pub trailing_step : (word : Text) (rows : List Row) (pending : Option (Text × List Text)) (waiting : Waiting)
    → step (at true rows pending waiting) word ≡ at true (settled_in rows pending) (Some (codes "devs", word ∷ [])) positional
unfolding walked
trailing_step word rows pending waiting = rw (and_false (for_devices pending)) refl

pub trailing_fault : (word : Text) (rows : List Row) (pending : Option (Text × List Text)) (waiting : Waiting) → fault (at true rows pending waiting) word ≡ settling rows pending
trailing_fault word rows pending waiting = rw (and_false (for_devices pending)) refl

-- what is known of a word of each class
abbrev pub IsOf : Text → Class → Type 0
IsOf word dashes = bytes_eq word (45 ∷ 45 ∷ []) ≡ true
IsOf word (named key value) = (name : Text) × Longs word name key value
IsOf word unknown = (rows : List Row) (pending : Option (Text × List Text)) (waiting : Waiting) → fault (at false rows pending waiting) word ≡ kind.UnknownArgument ∷ []
IsOf word plain = Plain word

pub is_of : (word : Text) → IsOf word (class_of word)
is_of word = go (bytes_eq word (45 ∷ 45 ∷ [])) refl (long_of word) refl (short_of word) refl
  where
    at_key : (name : Text) (value : Option Text) → bytes_eq word (45 ∷ 45 ∷ []) ≡ false → long_of word ≡ Some (name, value) → (key : Option Key) → key_of name ≡ key → IsOf word (class_named key value)
    at_key name value d l None k = unknown_long word name value d l (long_rule name ∙ ap (option_map rule_at) k)
    at_key name value d l (Some key) k = (name, record { no_dashes = d; long = l; rule = long_rule name ∙ ap (option_map rule_at) k })

    at_flag : (flags : Text) → bytes_eq word (45 ∷ 45 ∷ []) ≡ false → long_of word ≡ None → short_of word ≡ Some flags → (first : Option ℕ) → slice_get (chars flags) 0 ≡ first → IsOf word (class_first first)
    at_flag flags d l s None f = no_flags word flags d l s (sym f)
    at_flag flags d l s (Some c) f = unknown_short word flags c d l s f

    go : (d : Bool) → bytes_eq word (45 ∷ 45 ∷ []) ≡ d → (l : Option (Text × Option Text)) → long_of word ≡ l → (s : Option Text) → short_of word ≡ s → IsOf word (if◌then◌else◌ d dashes (class_long l s))
    go true d long l short s = d
    go false d (Some p) l short s = at_key p.0 p.1 d l (key_of p.0) refl
    go false d None l None s = no_short word d l s
    go false d None l (Some flags) s = at_flag flags d l s (slice_get (chars flags) 0) refl
