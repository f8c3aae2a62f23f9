-- Words spell options and devices exactly where their uses are those.
use Rattle.std.proofs.Common.{◌≡◌, ◌⊎◌, ◌==◌, ◌∷◌, ◌++◌, ◌||◌, ◌+◌, ℕ, suc, Bool, true, false, not, cond, List, [], codes, map, get_or, take, drop, Option, Some, None, refl, sym, ap, ap₂, subst, ◌∙◌, inl, inr, arith}
use Rattle.std.specs.Prelude.{filter_map, if◌then◌else◌, option_and_then, option_map, slice_get}
use Rattle.std.specs.List.{AllZip, flat_map, list_any, before_first, after_first, position_or_len}
use Rattle.std.specs.Str.{bytes_eq, chars}
use Rattle.std.proofs.lemmas.Bool.{false≢true}
use Rattle.std.proofs.lemmas.Bool.Decides.{nat_tests}
use Rattle.std.proofs.lemmas.List.{append_assoc, append-nil}
use Rattle.std.proofs.lemmas.List.Elements.{filter_map-append}
use Rattle.std.proofs.lemmas.Slice.Eq.{bytes_eq-Decides}
use Rattle.clap.specs.Lexer.{long_of, long_of_rest, name_and_value, short_of, strip_byte}
use Rattle.zr_script.specs.CommandLine.{CommandLine as Line, IsArgument, IsDevice, IsOption, policy_of, auto_of, generate_of, device_of}
use Rattle.zr_script.specs.declared.command.Argument.{Argument as Argued}
use Rattle.zr_script.specs.declared.command.Argument.TheVariants as argued
use Rattle.zr_words.specs.Reading.{AreEach, Spells}
use Rattle.zr_words.proofs.Devices.{device_first}
use Rattle.zr_words.proofs.Numbers.{number_first, pair_first}
use Rattle.zr_words.proofs.Uses.{Class, Key, Use, auto, class_first, class_long, class_named, class_of, dashes, device, free, free_word, generate, given, id_of, key_of, named, opened, plain, policy, trailing, unknown, uses_of, value_word}
use Rattle.zr_words.proofs.Meaning.{Tells, Valid}

abbrev Text : Type 0
Text = List ℕ

-- ---- what a word is

abbrev dashed : Key → Text
dashed key = 45 ∷ 45 ∷ id_of key

-- what is known of a word of each class
abbrev Spelled : Text → Class → Type 0
Spelled word dashes = word ≡ codes "--"
Spelled word (named key None) = word ≡ dashed key
Spelled word (named key (Some value)) = word ≡ dashed key ++ 61 ∷ value
Spelled word unknown = Unit {0}
Spelled word plain = Unit {0}

-- ---- a text before and behind its first '='

one_more : (n : ℕ) → 1 + n ≡ suc n
one_more n = omega arith

two_more : (n : ℕ) → 1 + n + 1 ≡ suc (n + 1)
two_more n = omega arith

abbrev is_equals : ℕ → Bool
is_equals x = x == 61

module _ (x : ℕ) (xs : Text) where
  before_at : (x == 61) ≡ true → before_first is_equals (x ∷ xs) ++ 61 ∷ after_first is_equals (x ∷ xs) ≡ 61 ∷ xs
  before_at e = ap (λ b. take (cond (not b) (1 + position_or_len is_equals xs) 0) (x ∷ xs) ++ 61 ∷ drop (cond (not b) (1 + position_or_len is_equals xs) 0 + 1) (x ∷ xs)) e

  before_more : (x == 61) ≡ false → before_first is_equals (x ∷ xs) ≡ x ∷ before_first is_equals xs
  before_more e = ap (λ b. take (cond (not b) (1 + position_or_len is_equals xs) 0) (x ∷ xs)) e ∙ ap (λ n. take n (x ∷ xs)) (one_more (position_or_len is_equals xs))

  after_more : (x == 61) ≡ false → after_first is_equals (x ∷ xs) ≡ after_first is_equals xs
  after_more e = ap (λ b. drop (cond (not b) (1 + position_or_len is_equals xs) 0 + 1) (x ∷ xs)) e ∙ ap (λ n. drop n (x ∷ xs)) (two_more (position_or_len is_equals xs))

with_equals : (text : Text) → list_any is_equals text ≡ true → text ≡ before_first is_equals text ++ 61 ∷ after_first is_equals text
with_equals [] e = absurd (false≢true e)
with_equals (x ∷ xs) e = go (x == 61) refl (with_equals xs)
  where
    go : (b : Bool) → (x == 61) ≡ b → (list_any is_equals xs ≡ true → xs ≡ before_first is_equals xs ++ 61 ∷ after_first is_equals xs)
        → x ∷ xs ≡ before_first is_equals (x ∷ xs) ++ 61 ∷ after_first is_equals (x ∷ xs)
    go true t more = let same : x ≡ 61 = grind (arith, nat_tests) in ap (λ y. y ∷ xs) same ∙ sym (before_at x xs t)
    go false t more =
        let rest : list_any is_equals xs ≡ true = sym (ap (λ b. b || list_any is_equals xs) t) ∙ e in
        ap (λ ys. x ∷ ys) (more rest) ∙ sym (ap₂ (λ a b. a ++ 61 ∷ b) (before_more x xs t) (after_more x xs t))

without_equals : (text : Text) → list_any is_equals text ≡ false → text ≡ before_first is_equals text
without_equals [] e = refl
without_equals (x ∷ xs) e = go (x == 61) refl (without_equals xs)
  where
    go : (b : Bool) → (x == 61) ≡ b → (list_any is_equals xs ≡ false → xs ≡ before_first is_equals xs) → x ∷ xs ≡ before_first is_equals (x ∷ xs)
    go true t more = absurd (false≢true (sym e ∙ ap (λ b. b || list_any is_equals xs) t))
    go false t more = let rest : list_any is_equals xs ≡ false = sym (ap (λ b. b || list_any is_equals xs) t) ∙ e in ap (λ ys. x ∷ ys) (more rest) ∙ sym (before_more x xs t)

-- ---- the text of a word that is an option

strip_is : (c : ℕ) (xs ys : Text) → strip_byte c xs ≡ Some ys → xs ≡ c ∷ ys
strip_is c [] ys e = absurd (cc)
strip_is c (x ∷ xs) ys e = go (x == c) refl
  where
    go : (b : Bool) → (x == c) ≡ b → x ∷ xs ≡ c ∷ ys
    go true t = let same : x ≡ c = grind (arith, nat_tests) in let rest : Some xs ≡ Some ys = rw t at e in cc
    go false t = let bad : None ≡ Some ys = rw t at e in absurd (cc)

record LongWord (word : Text) (p : Text × Option Text) : Type 0 where
  text : Text
  is : word ≡ 45 ∷ 45 ∷ text
  cut : name_and_value text ≡ p

long_word_is : (word : Text) (p : Text × Option Text) → long_of word ≡ Some p → LongWord word p
long_word_is word p e = first (strip_byte 45 word) refl
  where
    rest : (text : Text) → word ≡ 45 ∷ 45 ∷ text → long_of_rest text ≡ Some p → LongWord word p
    rest [] is t = absurd (cc)
    rest (x ∷ xs) is t = record { text = x ∷ xs; is = is; cut = cc }

    second : (one : Text) → word ≡ 45 ∷ one → option_and_then long_of_rest (strip_byte 45 one) ≡ Some p → (o : Option Text) → strip_byte 45 one ≡ o → LongWord word p
    second one is t None s = let bad : None ≡ Some p = rw s at t in absurd (cc)
    second one is t (Some two) s = rest two (is ∙ ap (λ r. 45 ∷ r) (strip_is 45 one two s)) (sym (ap (option_and_then long_of_rest) s) ∙ t)

    first : (o : Option Text) → strip_byte 45 word ≡ o → LongWord word p
    first None s = let bad : None ≡ Some p = sym (ap (λ o. option_and_then long_of_rest (option_and_then (strip_byte 45) o)) s) ∙ e in absurd (cc)
    first (Some one) s = second one (strip_is 45 word one s) (sym (ap (λ o. option_and_then long_of_rest (option_and_then (strip_byte 45) o)) s) ∙ e) (strip_byte 45 one) refl

key_name : (name : Text) (key : Key) → key_of name ≡ Some key → name ≡ id_of key
key_name name key k = go (bytes_eq (codes "policy") name) refl (bytes_eq (codes "auto") name) refl (bytes_eq (codes "gen") name) refl
  where
    go : (a : Bool) → bytes_eq (codes "policy") name ≡ a → (b : Bool) → bytes_eq (codes "auto") name ≡ b → (c : Bool) → bytes_eq (codes "gen") name ≡ c → name ≡ id_of key
    go true e b f c g = let is : Some policy ≡ Some key = rw e at k in let same : policy ≡ key = cc in sym ((bytes_eq-Decides (codes "policy") name).0 e) ∙ ap id_of same
    go false e true f c g = let is : Some auto ≡ Some key = rw (e, f) at k in let same : auto ≡ key = cc in sym ((bytes_eq-Decides (codes "auto") name).0 f) ∙ ap id_of same
    go false e false f true g = let is : Some generate ≡ Some key = rw (e, f, g) at k in let same : generate ≡ key = cc in sym ((bytes_eq-Decides (codes "gen") name).0 g) ∙ ap id_of same
    go false e false f false g = let bad : None ≡ Some key = rw (e, f, g) at k in absurd (cc)

named_text : (text : Text) (key : Key) (value : Option Text) → before_first is_equals text ≡ id_of key → (if◌then◌else◌ (list_any is_equals text) (Some (after_first is_equals text)) None) ≡ value
    → Spelled (45 ∷ 45 ∷ text) (named key value)
named_text text key value n v = go (list_any is_equals text) refl
  where
    go : (b : Bool) → list_any is_equals text ≡ b → Spelled (45 ∷ 45 ∷ text) (named key value)
    go true e =
        let is : Some (after_first is_equals text) ≡ value = rw e at v in
        subst (λ x. Spelled (45 ∷ 45 ∷ text) (named key x)) is (ap (λ t. 45 ∷ 45 ∷ t) (with_equals text e ∙ ap (λ b. b ++ 61 ∷ after_first is_equals text) n))
    go false e =
        let is : None ≡ value = rw e at v in
        subst (λ x. Spelled (45 ∷ 45 ∷ text) (named key x)) is (ap (λ t. 45 ∷ 45 ∷ t) (without_equals text e ∙ n))

spelled : (word : Text) → Spelled word (class_of word)
spelled word = go (bytes_eq word (45 ∷ 45 ∷ [])) refl (long_of word) refl (short_of word)
  where
    at_key : (p : Text × Option Text) → LongWord word p → (key : Option Key) → key_of p.0 ≡ key → Spelled word (class_named key p.1)
    at_key p l None k = tt
    at_key p l (Some key) k =
        subst (λ w. Spelled w (named key p.1)) (sym l.is) (named_text l.text key p.1 (ap (λ (q : Text × Option Text). q.0) l.cut ∙ key_name p.0 key k) (ap (λ (q : Text × Option Text). q.1) l.cut))

    at_flag : (first : Option ℕ) → Spelled word (class_first first)
    at_flag None = tt
    at_flag (Some c) = tt

    go : (d : Bool) → bytes_eq word (45 ∷ 45 ∷ []) ≡ d → (l : Option (Text × Option Text)) → long_of word ≡ l → (s : Option Text) → Spelled word (if◌then◌else◌ d dashes (class_long l s))
    go true d l e s = (bytes_eq-Decides word (45 ∷ 45 ∷ [])).0 d
    go false d (Some p) e s = at_key p (long_word_is word p e) (key_of p.0) refl
    go false d None e None = tt
    go false d None e (Some flags) = at_flag (slice_get (chars flags) 0)

-- a word that does not begin with '-'
class_plain : (word : Text) → ((rest : Text) → word ≡ 45 ∷ rest → ⊥) → class_of word ≡ plain
class_plain [] h = refl
class_plain (x ∷ xs) h = go (x == 45) refl
  where
    go : (b : Bool) → (x == 45) ≡ b → class_of (x ∷ xs) ≡ plain
    go true e = let same : x ≡ 45 = grind (arith, nat_tests) in absurd (h xs (ap (λ y. y ∷ xs) same))
    go false e = rw e refl

class_dashed : (key : Key) → class_of (dashed key) ≡ named key None
class_dashed policy = refl
class_dashed auto = refl
class_dashed generate = refl

class_joined : (key : Key) (value : Text) → class_of (dashed key ++ 61 ∷ value) ≡ named key (Some value)
class_joined policy value = refl
class_joined auto value = refl
class_joined generate value = refl

-- ---- from the spelling to the uses

-- the use of a spelled option
option_use : (key : Key) (value : Text) (part words : List Text) (uses : List Use) → IsOption (dashed key) value part → ((rest : Text) → value ≡ 45 ∷ rest → ⊥) → uses_of words free ≡ Some uses
    → uses_of (part ++ words) free ≡ Some (given key value ∷ uses)
option_use key value part words uses o h e = elim o [
  | inl two ↦
      ap (λ p. uses_of (p ++ words) free) two
      ∙ (ap (λ c. free_word c (dashed key) (uses_of (value ∷ words))) (class_dashed key)
      ∙ (ap (λ c. value_word c key value (uses_of words)) (class_plain value h) ∙ ap (option_map (λ us. given key value ∷ us)) e))
  | inr one ↦
      ap (λ p. uses_of (p ++ words) free) one
      ∙ (ap (λ c. free_word c (dashed key ++ 61 ∷ value) (uses_of words)) (class_joined key value) ∙ ap (option_map (λ us. given key value ∷ us)) e)
]

-- the use of an option or device in front
record UseOf (part words : List Text) (argument : Argued) (uses : List Use) : Type 0 where
  first : Use
  are : uses_of (part ++ words) free ≡ Some (first ∷ uses)
  valid : Valid first argument

use_of : (part words : List Text) (argument : Argued) (uses : List Use) → IsArgument part argument → uses_of words free ≡ Some uses → UseOf part words argument uses
use_of part words (argued.Policy name) uses h e = record { first = given policy name; are = option_use policy name part words uses h.0 h.1 e; valid = (refl, h.1) }
use_of part words (argued.Auto rounds) uses h e = record { first = given auto h.0; are = option_use auto h.0 part words uses h.1 (number_first h.0 rounds h.2) e; valid = (h.2, h.3) }
use_of part words (argued.Generate number count) uses h e = record {
  first = given generate (h.0 ++ 58 ∷ h.1);
  are = option_use generate (h.0 ++ 58 ∷ h.1) part words uses h.2 (pair_first h.0 h.1 number h.3) e;
  valid = (h.0, h.1, refl, h.3, record { number = h.4; some = h.5; most = h.6 });
}
use_of part words (argued.Device path make) uses h e = record {
  first = device h.0;
  are = ap (λ p. uses_of (p ++ words) free) h.1
      ∙ (ap (λ c. free_word c h.0 (uses_of words)) (class_plain h.0 (λ rest s. device_first h.0 path make h.2 (ap (λ w. get_or w 0 0) s))) ∙ ap (option_map (λ us. device h.0 ∷ us)) e);
  valid = h.2;
}

record UsesOf (words : List Text) (arguments : List Argued) : Type 0 where
  uses : List Use
  are : uses_of words free ≡ Some uses
  valid : AllZip Valid uses arguments

front_uses : (front : List (List Text)) (arguments more : List Argued) (tail : List Text) → AllZip IsArgument front arguments → UsesOf tail more → UsesOf (flat_map (λ part. part) front ++ tail) (arguments ++ more)
front_uses [] [] more tail h u = u
front_uses [] (a ∷ arguments) more tail h u = absurd h
front_uses (part ∷ front) [] more tail h u = absurd h
front_uses (part ∷ front) (a ∷ arguments) more tail h u =
    let rest = front_uses front arguments more tail h.1 u in
    let one = use_of part (flat_map (λ part. part) front ++ tail) a rest.uses h.0 rest.are in
    record {
      uses = one.first ∷ rest.uses;
      are = ap (λ ws. uses_of ws free) (append_assoc part (flat_map (λ part. part) front) tail) ∙ one.are;
      valid = (one.valid, rest.valid);
    }

abbrev as_argument : List ℕ × Option ℕ → Argued
as_argument dev = argued.Device dev.0 dev.1

back_uses : (back : List Text) (devices : List (List ℕ × Option ℕ)) → AreEach back devices → uses_of back trailing ≡ Some (map device back)
back_uses [] devices h = refl
back_uses (w ∷ back) [] h = absurd h
back_uses (w ∷ back) (d ∷ devices) h = ap (option_map (λ us. device w ∷ us)) (back_uses back devices h.1)

back_valid : (back : List Text) (devices : List (List ℕ × Option ℕ)) → AreEach back devices → AllZip Valid (map device back) (map as_argument devices)
back_valid [] [] h = tt
back_valid [] (d ∷ devices) h = absurd h
back_valid (w ∷ back) [] h = absurd h
back_valid (w ∷ back) (d ∷ devices) h = (h.0, back_valid back devices h.1)

-- ---- from the uses to the spelling

record Parts (words : List Text) (arguments : List Argued) : Type 0 where
  front : List (List Text)
  leading : List Argued
  each : AllZip IsArgument front leading
  back : List Text
  devices : List (List ℕ × Option ℕ)
  rest : AreEach back devices
  joins : ((words ≡ flat_map (λ part. part) front) × (back ≡ [])) ⊎ (words ≡ flat_map (λ part. part) front ++ codes "--" ∷ back)
  are : arguments ≡ leading ++ map as_argument devices

parts_more : (part words : List Text) (argument : Argued) (arguments : List Argued) → IsArgument part argument → Parts words arguments → Parts (part ++ words) (argument ∷ arguments)
parts_more part words argument arguments h p = record {
  front = part ∷ p.front;
  leading = argument ∷ p.leading;
  each = (h, p.each);
  back = p.back;
  devices = p.devices;
  rest = p.rest;
  joins = elim p.joins [
    | inl all ↦ inl (ap (λ ws. part ++ ws) all.0, all.1)
    | inr cut ↦ inr (ap (λ ws. part ++ ws) cut ∙ sym (append_assoc part (flat_map (λ p. p) p.front) (codes "--" ∷ p.back)))
  ];
  are = ap (λ rest. argument ∷ rest) p.are;
}

-- what is added is the first
added : (first : Use) (r : Option (List Use)) (uses : List Use) → option_map (λ us. first ∷ us) r ≡ Some uses → (more : List Use) × (r ≡ Some more) × (uses ≡ first ∷ more)
added first None uses e = absurd (cc)
added first (Some us) uses e = (us, refl, cc)

-- a use in front says the first argument
record Leads (first : Use) (uses : List Use) (arguments : List Argued) : Type 0 where
  argument : Argued
  more : List Argued
  are : arguments ≡ argument ∷ more
  says : Valid first argument
  valid : AllZip Valid uses more

leads : (first : Use) (uses : List Use) (arguments : List Argued) → AllZip Valid (first ∷ uses) arguments → Leads first uses arguments
leads first uses [] h = absurd h
leads first uses (a ∷ arguments) h = record { argument = a; more = arguments; are = refl; says = h.0; valid = h.1 }

leads_by : (first : Use) (r : Option (List Use)) (uses : List Use) (arguments : List Argued) → option_map (λ us. first ∷ us) r ≡ Some uses → AllZip Valid uses arguments
    → (more : List Use) × (r ≡ Some more) × Leads first more arguments
leads_by first r uses arguments e h =
    let a = added first r uses e in
    (a.0, a.1, leads first a.0 arguments (subst (λ us. AllZip Valid us arguments) a.2 h))

-- an option or device that a use says is spelled so
option_spelled : (key : Key) (value : Text) (part : List Text) (argument : Argued) → IsOption (dashed key) value part → Valid (given key value) argument → IsArgument part argument
option_spelled policy value part (argued.Policy name) o h = (subst (λ v. IsOption (codes "--policy") v part) h.0 o, λ rest e. h.1 rest (h.0 ∙ e))
option_spelled auto value part (argued.Auto rounds) o h = (value, o, h.0, h.1)
option_spelled generate value part (argued.Generate number count) o h = (h.0, h.1, subst (λ v. IsOption (codes "--gen") v part) h.2 o, h.3, h.4.number, h.4.some, h.4.most)
option_spelled key value part argument o h = absurd h

device_spelled : (word : Text) (argument : Argued) → Valid (device word) argument → IsArgument (word ∷ []) argument
device_spelled word (argued.Device path make) h = (word, refl, h)
device_spelled word argument h = absurd h

record Behind (words : List Text) (arguments : List Argued) : Type 0 where
  devices : List (List ℕ × Option ℕ)
  each : AreEach words devices
  are : arguments ≡ map as_argument devices

device_is : (word : Text) (argument : Argued) → Valid (device word) argument → (dev : List ℕ × Option ℕ) × (argument ≡ as_argument dev) × IsDevice word dev.0 dev.1
device_is word (argued.Device path make) h = ((path, make), refl, h)
device_is word argument h = absurd h

behind : (words : List Text) (uses : List Use) (arguments : List Argued) → uses_of words trailing ≡ Some uses → AllZip Valid uses arguments → Behind words arguments
behind [] [] [] e h = record { devices = []; each = tt; are = refl }
behind [] [] (a ∷ arguments) e h = absurd h
behind [] (u ∷ uses) arguments e h = absurd (cc)
behind (word ∷ words) uses arguments e h =
    let l = leads_by (device word) (uses_of words trailing) uses arguments e h in
    let d = device_is word l.2.argument l.2.says in
    let b = behind words l.0 l.2.more l.1 l.2.valid in
    record { devices = d.0 ∷ b.devices; each = (d.2, b.each); are = l.2.are ∙ (ap (λ a. a ∷ l.2.more) d.1 ∙ ap (λ rest. as_argument d.0 ∷ rest) b.are) }

abbrev Spelling : List Text → Type 0
Spelling words = (uses : List Use) (arguments : List Argued) → AllZip Valid uses arguments → uses_of words free ≡ Some uses → Parts words arguments

abbrev OpenSpelling : List Text → Type 0
OpenSpelling words = (key : Key) (uses : List Use) (arguments : List Argued) → AllZip Valid uses arguments → uses_of words (opened key) ≡ Some uses → Parts (dashed key ∷ words) arguments

parts_end : (uses : List Use) (arguments : List Argued) → AllZip Valid uses arguments → Some [] ≡ Some uses → Parts [] arguments
parts_end [] [] h e = record { front = []; leading = []; each = tt; back = []; devices = []; rest = tt; joins = inl (refl, refl); are = refl }
parts_end [] (a ∷ arguments) h e = absurd h
parts_end (u ∷ uses) arguments h e = absurd (cc)

free_spelling : (c : Class) (word : Text) (words : List Text) → Spelled word c → Spelling words → OpenSpelling words
    → (uses : List Use) (arguments : List Argued) → AllZip Valid uses arguments → free_word c word (uses_of words) ≡ Some uses → Parts (word ∷ words) arguments
free_spelling dashes word words s more waits uses arguments h e =
    let b = behind words uses arguments e h in
    record { front = []; leading = []; each = tt; back = words; devices = b.devices; rest = b.each; joins = inr (ap (λ w. w ∷ words) s); are = b.are }
free_spelling (named key None) word words s more waits uses arguments h e = subst (λ w. Parts (w ∷ words) arguments) (sym s) (waits key uses arguments h e)
free_spelling (named key (Some value)) word words s more waits uses arguments h e =
    let l = leads_by (given key value) (uses_of words free) uses arguments e h in
    subst (Parts (word ∷ words)) (sym l.2.are)
    (parts_more (word ∷ []) words l.2.argument l.2.more (option_spelled key value (word ∷ []) l.2.argument (inr (ap (λ w. w ∷ []) s)) l.2.says) (more l.0 l.2.more l.2.valid l.1))
free_spelling unknown word words s more waits uses arguments h e = absurd (cc)
free_spelling plain word words s more waits uses arguments h e =
    let l = leads_by (device word) (uses_of words free) uses arguments e h in
    subst (Parts (word ∷ words)) (sym l.2.are) (parts_more (word ∷ []) words l.2.argument l.2.more (device_spelled word l.2.argument l.2.says) (more l.0 l.2.more l.2.valid l.1))

value_spelling : (c : Class) (word : Text) (words : List Text) (key : Key) → Spelling words
    → (uses : List Use) (arguments : List Argued) → AllZip Valid uses arguments → value_word c key word (uses_of words) ≡ Some uses → Parts (dashed key ∷ word ∷ words) arguments
value_spelling plain word words key more uses arguments h e =
    let l = leads_by (given key word) (uses_of words free) uses arguments e h in
    subst (Parts (dashed key ∷ word ∷ words)) (sym l.2.are)
    (parts_more (dashed key ∷ word ∷ []) words l.2.argument l.2.more (option_spelled key word (dashed key ∷ word ∷ []) l.2.argument (inl refl) l.2.says) (more l.0 l.2.more l.2.valid l.1))
value_spelling dashes word words key more uses arguments h e = absurd (cc)
value_spelling (named other value) word words key more uses arguments h e = absurd (cc)
value_spelling unknown word words key more uses arguments h e = absurd (cc)

both_spellings : (words : List Text) → Spelling words × OpenSpelling words
both_spellings [] = (λ uses arguments h e. parts_end uses arguments h e, λ key uses arguments h e. absurd (cc))
both_spellings (word ∷ words) = (
  free_spelling (class_of word) word words (spelled word) (both_spellings words).0 (both_spellings words).1,
  λ key. value_spelling (class_of word) word words key (both_spellings words).0,
)

-- ---- words that spell a line

no_more_devs : (devices : List (List ℕ × Option ℕ)) → filter_map device_of (map as_argument devices) ≡ devices
no_more_devs [] = refl
no_more_devs (d ∷ devices) = ap (λ ds. d ∷ ds) (no_more_devs devices)

no_policy : (devices : List (List ℕ × Option ℕ)) → filter_map policy_of (map as_argument devices) ≡ []
no_policy [] = refl
no_policy (d ∷ devices) = no_policy devices

no_auto : (devices : List (List ℕ × Option ℕ)) → filter_map auto_of (map as_argument devices) ≡ []
no_auto [] = refl
no_auto (d ∷ devices) = no_auto devices

no_generate : (devices : List (List ℕ × Option ℕ)) → filter_map generate_of (map as_argument devices) ≡ []
no_generate [] = refl
no_generate (d ∷ devices) = no_generate devices

-- what stands before the devices that are left
before_devices : {X : Type 0} (f : Argued → Option X) (arguments : List Argued) (devices : List (List ℕ × Option ℕ)) → filter_map f (map as_argument devices) ≡ [] → filter_map f (arguments ++ map as_argument devices) ≡ filter_map f arguments
before_devices f arguments devices none = filter_map-append f arguments (map as_argument devices) ∙ (ap (λ l. filter_map f arguments ++ l) none ∙ append-nil (filter_map f arguments))

all_devices : (arguments : List Argued) (devices : List (List ℕ × Option ℕ)) → filter_map device_of (arguments ++ map as_argument devices) ≡ filter_map device_of arguments ++ devices
all_devices arguments devices = filter_map-append device_of arguments (map as_argument devices) ∙ ap (λ l. filter_map device_of arguments ++ l) (no_more_devs devices)

-- words that spell a line have uses, which say its options and devices
pub record Spelt (words : List Text) (line : Line) : Type 0 where
  pub arguments : List Argued
  pub uses : List Use
  pub are : uses_of words free ≡ Some uses
  pub valid : AllZip Valid uses arguments
  pub tells : Tells arguments line

pub spelt : (words : List Text) (line : Line) → Spells words line → Spelt words line
spelt words line h =
    let u = uses in
    record {
      arguments = h.arguments ++ map as_argument h.devices;
      uses = u.uses;
      are = u.are;
      valid = u.valid;
      tells = record {
        policy = before_devices policy_of h.arguments h.devices (no_policy h.devices) ∙ h.policy;
        auto = before_devices auto_of h.arguments h.devices (no_auto h.devices) ∙ h.auto;
        generate = before_devices generate_of h.arguments h.devices (no_generate h.devices) ∙ h.generate;
        devs = all_devices h.arguments h.devices ∙ h.devs;
      };
    }
  where
    uses : UsesOf words (h.arguments ++ map as_argument h.devices)
    uses = elim h.joins [
      | inl all ↦
          let none : AllZip Valid [] (map as_argument h.devices) = subst (λ b. AllZip Valid (map device b) (map as_argument h.devices)) all.1 (back_valid h.back h.devices h.rest) in
          subst (λ ws. UsesOf ws (h.arguments ++ map as_argument h.devices)) (append-nil (flat_map (λ part. part) h.front) ∙ sym all.0)
          (front_uses h.front h.arguments (map as_argument h.devices) [] h.each (record { uses = []; are = refl; valid = none }))
      | inr cut ↦
          subst (λ ws. UsesOf ws (h.arguments ++ map as_argument h.devices)) (sym cut)
          (front_uses h.front h.arguments (map as_argument h.devices) (codes "--" ∷ h.back) h.each
          (record { uses = map device h.back; are = back_uses h.back h.devices h.rest; valid = back_valid h.back h.devices h.rest }))
    ]

-- and words with such uses spell the line
pub spells : (words : List Text) (uses : List Use) (arguments : List Argued) (line : Line) → uses_of words free ≡ Some uses → AllZip Valid uses arguments → Tells arguments line → Spells words line
spells words uses arguments line e h t =
    let p = (both_spellings words).0 uses arguments h e in
    record {
      front = p.front;
      arguments = p.leading;
      each = p.each;
      back = p.back;
      devices = p.devices;
      rest = p.rest;
      joins = p.joins;
      policy = sym (before_devices policy_of p.leading p.devices (no_policy p.devices)) ∙ (ap (filter_map policy_of) (sym p.are) ∙ t.policy);
      auto = sym (before_devices auto_of p.leading p.devices (no_auto p.devices)) ∙ (ap (filter_map auto_of) (sym p.are) ∙ t.auto);
      generate = sym (before_devices generate_of p.leading p.devices (no_generate p.devices)) ∙ (ap (filter_map generate_of) (sym p.are) ∙ t.generate);
      devs = sym (all_devices p.leading p.devices) ∙ (ap (filter_map device_of) (sym p.are) ∙ t.devs);
    }
