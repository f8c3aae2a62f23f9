-- What the rows of the uses say.
use Rattle.std.proofs.Common.{◌≡◌, ◌∷◌, ◌++◌, true, false, List, [], codes, Option, Some, None, is_some, refl, sym, ap, subst, ◌∙◌, length, get_or, arith}
use Rattle.std.specs.Prelude.{filter_map, option_map, option_to_list, unwrap_or}
use Rattle.std.specs.List.{cons_option}
use Rattle.std.specs.Str.{bytes_eq}
use Rattle.std.proofs.lemmas.List.{append_assoc, append-nil}
use Rattle.clap.specs.Walk.{Row, Text, all_of, has_row, with_values}
use Rattle.clap.specs.Simple.{matches_of}
use Rattle.clap.specs.Faults.{fault_of}
use Rattle.clap.specs.Kinds.{Kinds, or_else}
use Rattle.clap.specs.declared.error.kind.ErrorKind.TheVariants as kind
use Rattle.clap.specs.declared.parser.matches.ValueSource.TheVariants.{CommandLine}
use Rattle.zr_words.specs.App.{zr}
use Rattle.zr_words.specs.Reading.{Raw, raw_of}
use Rattle.zr_words.proofs.Rows.{first_from_all, has_from_all, head_of, values_here, values_there, without_none}
use Rattle.zr_words.proofs.Uses.{Key, Use, auto, device, free, generate, given, id_of, policy, uses_of}
use Rattle.zr_words.proofs.Walks.{once, put, put_all, put_fault, reading, uses_matches, uses_none}

-- the values of an option, and the words of devices
abbrev pub text_for : Key → Use → Option Text
text_for policy (given policy value) = Some value
text_for auto (given auto value) = Some value
text_for generate (given generate value) = Some value
text_for _ _ = None

abbrev pub word_for : Use → Option Text
word_for (device word) = Some word
word_for _ = None

-- the uses are the options and devices, each option once at most
pub record Says (uses : List Use) (raw : Raw) : Type 0 where
  pub policy : filter_map (text_for policy) uses ≡ option_to_list raw.policy
  pub auto : filter_map (text_for auto) uses ≡ option_to_list raw.auto
  pub generate : filter_map (text_for generate) uses ≡ option_to_list raw.generate
  pub devs : filter_map word_for uses ≡ raw.devs

abbrev pub no_words : Raw
no_words = record { policy = None; auto = None; generate = None; devs = [] }

abbrev option_of : Key → Raw → Option Text
option_of policy raw = raw.policy
option_of auto raw = raw.auto
option_of generate raw = raw.generate

abbrev with_option : Key → Text → Raw → Raw
with_option policy value raw = record raw { policy = Some value }
with_option auto value raw = record raw { auto = Some value }
with_option generate value raw = record raw { generate = Some value }

abbrev with_device : Text → Raw → Raw
with_device word raw = record raw { devs = raw.devs ++ word ∷ [] }

abbrev alone : Option Text → Option (List Text)
alone = option_map (λ value. value ∷ [])

-- the rows are those of what was read
record Holds (rows : List Row) (raw : Raw) : Type 0 where
  options : (key : Key) → all_of (id_of key) rows ≡ alone (option_of key raw)
  devs : unwrap_or (all_of (codes "devs") rows) [] ≡ raw.devs

-- what was read, with the uses
record Fits (read : Raw) (uses : List Use) (raw : Raw) : Type 0 where
  options : (key : Key) → option_to_list (option_of key read) ++ filter_map (text_for key) uses ≡ option_to_list (option_of key raw)
  devs : read.devs ++ filter_map word_for uses ≡ raw.devs

same_option : (x y : Option Text) → option_to_list x ++ [] ≡ option_to_list y → x ≡ y
same_option None None e = refl
same_option None (Some b) e = let n = ap length e in absurd (omega arith)
same_option (Some a) None e = let n = ap length e in absurd (omega arith)
same_option (Some a) (Some b) e = ap Some (ap (λ l. get_or l 0 a) e)

-- what comes later comes for the first time
first_time : (x y : Option Text) (n : Text) (rest : List Text) → option_to_list x ++ n ∷ rest ≡ option_to_list y → x ≡ None
first_time None y n rest e = refl
first_time (Some a) None n rest e = let l = ap length e in absurd (omega arith)
first_time (Some a) (Some b) n rest e = let l = ap length e in absurd (omega arith)

text_here : (key : Key) (value : Text) → text_for key (given key value) ≡ Some value
text_here policy value = refl
text_here auto value = refl
text_here generate value = refl

-- the use of an option that was not read yet
listed : (key other : Key) (value : Text) (uses : List Use) (read : Raw) → option_of key read ≡ None
    → option_to_list (option_of other read) ++ filter_map (text_for other) (given key value ∷ uses) ≡ option_to_list (option_of other (with_option key value read)) ++ filter_map (text_for other) uses
listed policy policy value uses read e = ap (λ o. option_to_list o ++ value ∷ filter_map (text_for policy) uses) e
listed policy auto value uses read e = refl
listed policy generate value uses read e = refl
listed auto policy value uses read e = refl
listed auto auto value uses read e = ap (λ o. option_to_list o ++ value ∷ filter_map (text_for auto) uses) e
listed auto generate value uses read e = refl
listed generate policy value uses read e = refl
listed generate auto value uses read e = refl
listed generate generate value uses read e = ap (λ o. option_to_list o ++ value ∷ filter_map (text_for generate) uses) e

same_devs : (key : Key) (value : Text) (read : Raw) → (with_option key value read).devs ≡ read.devs
same_devs policy value read = refl
same_devs auto value read = refl
same_devs generate value read = refl

same_options : (key : Key) (word : Text) (read : Raw) → option_of key (with_device word read) ≡ option_of key read
same_options policy word read = refl
same_options auto word read = refl
same_options generate word read = refl

no_devs : (key : Key) → bytes_eq (id_of key) (codes "devs") ≡ false
no_devs policy = refl
no_devs auto = refl
no_devs generate = refl

devs_no : (key : Key) → bytes_eq (codes "devs") (id_of key) ≡ false
devs_no policy = refl
devs_no auto = refl
devs_no generate = refl

-- the rows after the use of an option
put_new : (key : Key) (value : Text) (rows : List Row) (read : Raw) → Holds rows read → option_of key read ≡ None → put (given key value) rows ≡ with_values (id_of key) reading CommandLine (value ∷ []) rows
put_new key value rows read h e = ap (λ rs. with_values (id_of key) reading CommandLine (value ∷ []) rs) (without_none (id_of key) rows (h.options key ∙ ap alone e))

value_here : (key : Key) (value : Text) (rows : List Row) (read : Raw) → Holds rows read → option_of key read ≡ None → all_of (id_of key) (put (given key value) rows) ≡ Some (value ∷ [])
value_here key value rows read h e =
    ap (all_of (id_of key)) (put_new key value rows read h e)
    ∙ (values_here (id_of key) reading CommandLine (value ∷ []) rows ∙ ap (λ o. Some (unwrap_or o [] ++ value ∷ [])) (h.options key ∙ ap alone e))

value_there : (key : Key) (id : Text) (value : Text) (rows : List Row) (read : Raw) → Holds rows read → option_of key read ≡ None → bytes_eq (id_of key) id ≡ false → all_of id (put (given key value) rows) ≡ all_of id rows
value_there key id value rows read h e d = ap (all_of id) (put_new key value rows read h e) ∙ values_there (id_of key) id reading CommandLine (value ∷ []) rows d

put_option : (key other : Key) (value : Text) (rows : List Row) (read : Raw) → Holds rows read → option_of key read ≡ None → all_of (id_of other) (put (given key value) rows) ≡ alone (option_of other (with_option key value read))
put_option policy policy value rows read h e = value_here policy value rows read h e
put_option policy auto value rows read h e = value_there policy (codes "auto") value rows read h e refl ∙ h.options auto
put_option policy generate value rows read h e = value_there policy (codes "gen") value rows read h e refl ∙ h.options generate
put_option auto policy value rows read h e = value_there auto (codes "policy") value rows read h e refl ∙ h.options policy
put_option auto auto value rows read h e = value_here auto value rows read h e
put_option auto generate value rows read h e = value_there auto (codes "gen") value rows read h e refl ∙ h.options generate
put_option generate policy value rows read h e = value_there generate (codes "policy") value rows read h e refl ∙ h.options policy
put_option generate auto value rows read h e = value_there generate (codes "auto") value rows read h e refl ∙ h.options auto
put_option generate generate value rows read h e = value_here generate value rows read h e

holds_option : (key : Key) (value : Text) (rows : List Row) (read : Raw) → Holds rows read → option_of key read ≡ None → Holds (put (given key value) rows) (with_option key value read)
holds_option key value rows read h e = record {
  options = λ other. put_option key other value rows read h e;
  devs = ap (λ o. unwrap_or o []) (value_there key (codes "devs") value rows read h e (no_devs key)) ∙ (h.devs ∙ sym (same_devs key value read));
}

holds_device : (word : Text) (rows : List Row) (read : Raw) → Holds rows read → Holds (put (device word) rows) (with_device word read)
holds_device word rows read h = record {
  options = λ key. values_there (codes "devs") (id_of key) reading CommandLine (word ∷ []) rows (devs_no key) ∙ (h.options key ∙ ap alone (sym (same_options key word read)));
  devs = ap (λ o. unwrap_or o []) (values_here (codes "devs") reading CommandLine (word ∷ []) rows) ∙ ap (λ ds. ds ++ word ∷ []) h.devs;
}

some_alone : (o : Option Text) → is_some (alone o) ≡ is_some o
some_alone None = refl
some_alone (Some v) = refl

once_new : (key : Key) (value : Text) (rows : List Row) (read : Raw) → Holds rows read → option_of key read ≡ None → once (given key value) rows ≡ []
once_new key value rows read h e =
    let no : has_row (id_of key) rows ≡ false = has_from_all (id_of key) rows ∙ ap is_some (h.options key ∙ ap alone e) in
    rw no refl

new_once : (key : Key) (value : Text) (rows : List Row) (read : Raw) → Holds rows read → once (given key value) rows ≡ [] → option_of key read ≡ None
new_once key value rows read h none = go (option_of key read) refl
  where
    go : (o : Option Text) → option_of key read ≡ o → o ≡ None
    go None e = refl
    go (Some v) e =
        let yes : has_row (id_of key) rows ≡ true = has_from_all (id_of key) rows ∙ ap is_some (h.options key ∙ ap alone e) in
        let bad : kind.ArgumentConflict ∷ [] ≡ [] = rw yes at none in
        absurd (cc)

first_none : (a b : Kinds) → or_else a b ≡ [] → (a ≡ []) × (b ≡ [])
first_none [] b e = (refl, e)
first_none (k ∷ ks) b e = absurd (cc)

no_text : (key : Key) (word : Text) (uses : List Use) → filter_map (text_for key) (device word ∷ uses) ≡ filter_map (text_for key) uses
no_text policy word uses = refl
no_text auto word uses = refl
no_text generate word uses = refl

-- uses that say each option once have no error, and their rows are what they say
fits_rows : (uses : List Use) (rows : List Row) (read raw : Raw) → Holds rows read → Fits read uses raw → (put_fault uses rows ≡ []) × Holds (put_all uses rows) raw
fits_rows [] rows read raw h f = (
  refl,
  record {
    options = λ key. h.options key ∙ ap alone (same_option (option_of key read) (option_of key raw) (f.options key));
    devs = h.devs ∙ (sym (append-nil read.devs) ∙ f.devs);
  },
)
fits_rows (given key value ∷ uses) rows read raw h f =
    let new : option_of key read ≡ None = first_time (option_of key read) (option_of key raw) value (filter_map (text_for key) uses)
    (ap (λ o. option_to_list (option_of key read) ++ cons_option o (filter_map (text_for key) uses)) (sym (text_here key value)) ∙ f.options key) in
    let more = fits_rows uses (put (given key value) rows) (with_option key value read) raw (holds_option key value rows read h new)
    (record { options = λ other. sym (listed key other value uses read new) ∙ f.options other; devs = ap (λ ds. ds ++ filter_map word_for uses) (same_devs key value read) ∙ f.devs }) in
    (ap (λ k. or_else k (put_fault uses (put (given key value) rows))) (once_new key value rows read h new) ∙ more.0, more.1)
fits_rows (device word ∷ uses) rows read raw h f =
    fits_rows uses (put (device word) rows) (with_device word read) raw (holds_device word rows read h)
    (record {
      options = λ key. ap (λ o. option_to_list o ++ filter_map (text_for key) uses) (same_options key word read) ∙ (sym (ap (λ us. option_to_list (option_of key read) ++ us) (no_text key word uses)) ∙ f.options key);
      devs = append_assoc read.devs (word ∷ []) (filter_map word_for uses) ∙ f.devs;
    })

-- uses with no error say each option once
rows_fit : (uses : List Use) (rows : List Row) (read : Raw) → Holds rows read → put_fault uses rows ≡ [] → (raw : Raw) × Fits read uses raw × Holds (put_all uses rows) raw
rows_fit [] rows read h e = (read, record { options = λ key. append-nil (option_to_list (option_of key read)); devs = append-nil read.devs }, h)
rows_fit (given key value ∷ uses) rows read h e =
    let none = first_none (once (given key value) rows) (put_fault uses (put (given key value) rows)) e in
    let new = new_once key value rows read h none.0 in
    let more = rows_fit uses (put (given key value) rows) (with_option key value read) (holds_option key value rows read h new) none.1 in (
      more.0,
      record { options = λ other. listed key other value uses read new ∙ more.1.options other; devs = ap (λ ds. ds ++ filter_map word_for uses) (sym (same_devs key value read)) ∙ more.1.devs },
      more.2,
    )
rows_fit (device word ∷ uses) rows read h e =
    let more = rows_fit uses (put (device word) rows) (with_device word read) (holds_device word rows read h) e in (
      more.0,
      record {
        options = λ key. ap (λ us. option_to_list (option_of key read) ++ us) (no_text key word uses) ∙ (sym (ap (λ o. option_to_list o ++ filter_map (text_for key) uses) (same_options key word read)) ∙ more.1.options key);
        devs = sym (append_assoc read.devs (word ∷ []) (filter_map word_for uses)) ∙ more.1.devs;
      },
      more.2,
    )

head_alone : (o : Option Text) → head_of (alone o) ≡ o
head_alone None = refl
head_alone (Some v) = refl

raw_is : (rows : List Row) (raw : Raw) → Holds rows raw → raw_of rows ≡ raw
raw_is rows raw h =
    let p = first_from_all (codes "policy") rows ∙ (ap head_of (h.options policy) ∙ head_alone raw.policy) in
    let a = first_from_all (codes "auto") rows ∙ (ap head_of (h.options auto) ∙ head_alone raw.auto) in
    let g = first_from_all (codes "gen") rows ∙ (ap head_of (h.options generate) ∙ head_alone raw.generate) in
    λ i. record { policy = p i; auto = a i; generate = g i; devs = h.devs i }

nothing_holds : Holds [] no_words
nothing_holds = record { options = nothing; devs = refl }
  where
    nothing : (key : Key) → all_of (id_of key) [] ≡ alone (option_of key no_words)
    nothing policy = refl
    nothing auto = refl
    nothing generate = refl

fits_from : (uses : List Use) (raw : Raw) → Says uses raw → Fits no_words uses raw
fits_from uses raw s = record { options = options; devs = s.devs }
  where
    options : (key : Key) → option_to_list (option_of key no_words) ++ filter_map (text_for key) uses ≡ option_to_list (option_of key raw)
    options policy = s.policy
    options auto = s.auto
    options generate = s.generate

-- words whose uses say it: `clap` takes them, and finds it
pub found : (words : List Text) (uses : List Use) (raw : Raw) → uses_of words free ≡ Some uses → Says uses raw → (fault_of zr words ≡ []) × (raw_of (matches_of zr words) ≡ raw)
found words uses raw e s =
    let m = uses_matches words uses e in
    let r = fits_rows uses [] no_words raw nothing_holds (fits_from uses raw s) in
    (m.0 ∙ r.0, ap raw_of m.1 ∙ raw_is (put_all uses []) raw r.1)

-- words that `clap` takes have uses, which say what it finds
pub record Taken (words : List Text) : Type 0 where
  pub uses : List Use
  pub are : uses_of words free ≡ Some uses
  pub say : Says uses (raw_of (matches_of zr words))

pub taken : (words : List Text) → fault_of zr words ≡ [] → Taken words
taken words none = go (uses_of words free) refl
  where
    go : (r : Option (List Use)) → uses_of words free ≡ r → Taken words
    go None e = absurd (uses_none words e none)
    go (Some uses) e =
        let m = uses_matches words uses e in
        let r = rows_fit uses [] no_words nothing_holds (sym m.0 ∙ none) in
        let same : r.0 ≡ raw_of (matches_of zr words) = sym (ap raw_of m.1 ∙ raw_is (put_all uses []) r.0 r.2) in
        record { uses = uses; are = e; say = subst (Says uses) same (record { policy = r.1.options policy; auto = r.1.options auto; generate = r.1.options generate; devs = r.1.devs }) }
