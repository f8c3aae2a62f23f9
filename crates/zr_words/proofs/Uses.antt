-- The words as uses of options and devices, in order.
use Rattle.std.specs.Prelude.{ℕ, List, [], ◌∷◌, codes, Option, Some, None, option_map, if◌then◌else◌, slice_get}
use Rattle.std.specs.Str.{bytes_eq, chars}
use Rattle.clap.specs.Walk.{Text}
use Rattle.clap.specs.Lexer.{long_of, short_of}

pub data Key : Type 0 where
  policy : Key
  auto : Key
  generate : Key

-- an option with its value, or a device
pub data Use : Type 0 where
  given : Key → Text → Use
  device : Text → Use

abbrev pub id_of : Key → Text
id_of policy = codes "policy"
id_of auto = codes "auto"
id_of generate = codes "gen"

-- what a word is: `--`, an option with or without its value, a word that nothing takes, or any other
pub data Class : Type 0 where
  dashes : Class
  named : Key → Option Text → Class
  unknown : Class
  plain : Class

abbrev pub key_of : Text → Option Key
key_of name =
    if bytes_eq (codes "policy") name then Some policy
    else (if bytes_eq (codes "auto") name then Some auto
    else (if bytes_eq (codes "gen") name then Some generate else None))

abbrev pub class_named : Option Key → Option Text → Class
class_named None value = unknown
class_named (Some key) value = named key value

abbrev pub class_first : Option ℕ → Class
class_first None = plain
class_first (Some c) = unknown

abbrev pub class_short : Option Text → Class
class_short None = plain
class_short (Some flags) = class_first (slice_get (chars flags) 0)

abbrev pub class_long : Option (Text × Option Text) → Option Text → Class
class_long (Some p) short = class_named (key_of p.0) p.1
class_long None short = class_short short

abbrev pub class_of : Text → Class
class_of word = if bytes_eq word (45 ∷ 45 ∷ []) then dashes else class_long (long_of word) (short_of word)

-- what the next word may be: anything, the value of an option, or a device
pub data Mode : Type 0 where
  free : Mode
  opened : Key → Mode
  trailing : Mode

abbrev pub add : Use → Option (List Use) → Option (List Use)
add first = option_map (λ uses. first ∷ uses)

abbrev pub free_word : Class → Text → (Mode → Option (List Use)) → Option (List Use)
free_word dashes word next = next trailing
free_word (named key None) word next = next (opened key)
free_word (named key (Some value)) word next = add (given key value) (next free)
free_word unknown word next = None
free_word plain word next = add (device word) (next free)

abbrev pub value_word : Class → Key → Text → (Mode → Option (List Use)) → Option (List Use)
value_word plain key word next = add (given key word) (next free)
value_word _ key word next = None

abbrev pub word_in : Mode → Text → (Mode → Option (List Use)) → Option (List Use)
word_in free word next = free_word (class_of word) word next
word_in (opened key) word next = value_word (class_of word) key word next
word_in trailing word next = add (device word) (next trailing)

abbrev pub at_end : Mode → Option (List Use)
at_end (opened key) = None
at_end _ = Some []

-- None where a word is unknown, or an option lacks its value
abbrev pub uses_of : List Text → Mode → Option (List Use)
uses_of [] mode = at_end mode
uses_of (word ∷ words) mode = word_in mode word (uses_of words)
