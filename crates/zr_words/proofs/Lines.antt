-- What the words mean, by what `clap` finds.
use Rattle.std.proofs.Common.{◌≡◌, ℕ, map, Bool, true, ◌&&◌, List, [], ◌∷◌, Option, Some, None, Result, Ok, Err, IfNone, IfSome, IfOk, refl, sym, ap, subst, ◌∙◌, inl, inr}
use Rattle.std.specs.List.{list_all}
use Rattle.clap.specs.Words.{App, HasKind, HasMatchesOf, IsAmong, fault_of, found_of, is_simple_and_free, kind_of, matches_of, rows_of}
use Rattle.clap.specs.declared.error.Error.{Error}
use Rattle.clap.specs.declared.error.kind.ErrorKind.TheVariants.{OutOfMemory}
use Rattle.clap.specs.declared.parser.matches.ArgMatches.{ArgMatches}
use Rattle.zr_script.specs.Words.{is_path}
use Rattle.zr_script.specs.CommandLine.{CommandLine as Line, IsCommandLine, IsDevice}
use Rattle.zr_script.proofs.Reading.{same_number}
use Rattle.zr_words.specs.App.{zr}
use Rattle.zr_words.specs.Reading.{AreEach, Gives, HasPaths, IsGenerate, IsPolicy, IsRounds, IsWhole, Means, Raw, Spells, raw_of}
use Rattle.zr_words.specs.Views.{line_of}
use Rattle.zr_words.specs.declared.line.CommandLine.{CommandLine}
use Rattle.zr_words.proofs.Devices.{same_devices}
use Rattle.zr_words.proofs.Numbers.{one_pair}
use Rattle.zr_words.proofs.Given.{found, taken}
use Rattle.zr_words.proofs.Meaning.{meant, told}
use Rattle.zr_words.proofs.Spelling.{spells, spelt}

-- ---- one meaning

one_given : {A : Type 0} (P : List ℕ → A → Type 0) → ((text : List ℕ) (x y : A) → P text x → P text y → x ≡ y) → (text : Option (List ℕ)) (p q : Option A) → Gives P text p → Gives P text q → p ≡ q
one_given P one None None None h k = refl
one_given P one None None (Some y) h k = absurd k
one_given P one None (Some x) q h k = absurd h
one_given P one (Some text) None q h k = absurd h
one_given P one (Some text) (Some x) None h k = absurd k
one_given P one (Some text) (Some x) (Some y) h k = ap Some (one text x y h k)

one_meaning : (raw : Raw) (a b : Line) → Means raw a → Means raw b → a ≡ b
one_meaning raw a b h k =
    let p = one_given IsPolicy (λ text x y m n. sym m.0 ∙ n.0) raw.policy a.policy b.policy h.policy k.policy in
    let r = one_given IsRounds (λ text x y m n. same_number text x y m.0 n.0) raw.auto a.auto b.auto h.auto k.auto in
    let g = one_given IsGenerate one_pair raw.generate a.generate b.generate h.generate k.generate in
    let d = same_devices raw.devs a.devs b.devs h.devs k.devs in
    λ i. record { policy = p i; auto = r i; generate = g i; devs = d i }

both : (a b : Bool) → a ≡ true → b ≡ true → (a && b) ≡ true
both a b e f = ap (λ x. x && b) e ∙ f

paths_each : (words : List (List ℕ)) (devs : List (List ℕ × Option ℕ)) → AreEach words devs → list_all is_path (map (λ d. d.0) devs) ≡ true
paths_each [] [] h = refl
paths_each [] (d ∷ devs) h = absurd h
paths_each (w ∷ words) [] h = absurd h
paths_each (w ∷ words) (d ∷ devs) h = both _ _ (path_is w d.0 d.1 h.0) (paths_each words devs h.1)
  where
    path_is : (word path : List ℕ) (make : Option ℕ) → IsDevice word path make → is_path path ≡ true
    path_is word path None h = h.1
    path_is word path (Some n) h = h.2

-- ---- the words and what `clap` finds in them

-- words that spell a line: `clap` takes them, and finds what means it
line_means : (words : List (List ℕ)) (line : Line) → Spells words line → (fault_of zr words ≡ []) × Means (raw_of (matches_of zr words)) line
line_means words line h =
    let s = spelt words line h in
    let t = told s.uses s.arguments line s.valid s.tells in
    let f = found words s.uses t.raw s.are t.says in
    (f.0, subst (λ raw. Means raw line) (sym f.1) t.means)

-- words that `clap` takes spell what it finds
means_line : (words : List (List ℕ)) (line : Line) → fault_of zr words ≡ [] → Means (raw_of (matches_of zr words)) line → Spells words line
means_line words line none h =
    let t = taken words none in
    let m = meant t.uses (raw_of (matches_of zr words)) line t.say h in
    spells words t.uses m.arguments line t.are m.valid m.tells

-- words at which `clap` fails, but not for want of memory
pub no_line : (app : App) (words : List (List ℕ)) (e : Error) → app ≡ zr → (is_simple_and_free app ≡ true → HasKind (fault_of app words) e) → (kind_of e ≡ OutOfMemory → ⊥) → (line : Line) → Spells words line → ⊥
no_line app words e is fails other line h =
    let kinds : HasKind (fault_of zr words) e = subst (λ a. is_simple_and_free a ≡ true → HasKind (fault_of a words) e) is fails refl in
    elim kinds [ inl memory ↦ other memory | inr among ↦ subst (λ ks. IsAmong (kind_of e) ks) (line_means words line h).0 among ]

-- `clap` took the words, and found this
pub record Took (words : List (List ℕ)) (raw : Raw) : Type 0 where
  none : fault_of zr words ≡ []
  is : raw_of (matches_of zr words) ≡ raw

pub took : (app : App) (words : List (List ℕ)) (matches : ArgMatches) → app ≡ zr → (is_simple_and_free app ≡ true → fault_of app words ≡ []) → HasMatchesOf app words matches → Took words (raw_of (rows_of (found_of matches)))
took app words matches is none has = record {
  none = subst (λ a. is_simple_and_free a ≡ true → fault_of a words ≡ []) is none refl;
  is = ap raw_of (sym (subst (λ a. HasMatchesOf a words matches) is has refl).0);
}

to_means : (words : List (List ℕ)) (raw : Raw) (line : Line) → Took words raw → Spells words line → Means raw line
to_means words raw line t h = subst (λ r. Means r line) t.is (line_means words line h).1

to_spelling : (words : List (List ℕ)) (raw : Raw) (line : Line) → Took words raw → Means raw line → Spells words line
to_spelling words raw line t h = means_line words line t.none (subst (λ r. Means r line) (sym t.is) h)

-- ---- the line that is read from what `clap` found

module _ {E : Type 0} (words : List (List ℕ)) (raw : Raw) (t : Took words raw) where
  pub none_spelt : (r : Result (Option CommandLine) E) → IfOk r (λ found. IfNone found ((line : Line) → Means raw line → ⊥)) → IfOk r (λ found. IfNone found ((line : Line) → Spells words line → ⊥))
  none_spelt (Ok None) h = λ line s. h line (to_means words raw line t s)
  none_spelt (Ok (Some line)) h = tt
  none_spelt (Err e) h = tt

  pub some_spelt : (r : Result (Option CommandLine) E) → IfOk r (λ found. IfSome found (λ line. Means raw (line_of line))) → IfOk r (λ found. IfSome found (λ line. Spells words (line_of line)))
  some_spelt (Ok None) h = tt
  some_spelt (Ok (Some line)) h = to_spelling words raw (line_of line) t h
  some_spelt (Err e) h = tt

  pub only_spelt : (r : Result (Option CommandLine) E) → IfOk r (λ found. IfSome found (λ line. Means raw (line_of line)))
      → IfOk r (λ found. IfSome found (λ line. (other : Line) → Spells words other → other ≡ line_of line))
  only_spelt (Ok None) h = tt
  only_spelt (Ok (Some line)) h = λ other s. one_meaning raw other (line_of line) (to_means words raw other t s) h
  only_spelt (Err e) h = tt

  pub paths_spelt : (r : Result (Option CommandLine) E) → IfOk r (λ found. IfSome found (λ line. Means raw (line_of line))) → IfOk r (λ found. IfSome found (λ line. HasPaths (line_of line)))
  paths_spelt (Ok None) h = tt
  paths_spelt (Ok (Some line)) h = paths_each raw.devs (line_of line).devs h.devs
  paths_spelt (Err e) h = tt

-- ---- whole lines

-- a command line is what words spell, and is whole
pub is_line : (words : List (List ℕ)) (line : Line) → Spells words line → IsWhole line → IsCommandLine words line
is_line words line h w = record {
  front = h.front;
  arguments = h.arguments;
  each = h.each;
  back = h.back;
  devices = h.devices;
  rest = h.rest;
  joins = h.joins;
  policy = h.policy;
  auto = h.auto;
  generate = h.generate;
  devs = h.devs;
  some = w.some;
  most = w.most;
  different = w.different;
  enough = w.enough;
}

pub line_spells : (words : List (List ℕ)) (line : Line) → IsCommandLine words line → Spells words line
line_spells words line h = record {
  front = h.front;
  arguments = h.arguments;
  each = h.each;
  back = h.back;
  devices = h.devices;
  rest = h.rest;
  joins = h.joins;
  policy = h.policy;
  auto = h.auto;
  generate = h.generate;
  devs = h.devs;
}

pub line_whole : (words : List (List ℕ)) (line : Line) → IsCommandLine words line → IsWhole line
line_whole words line h = record { some = h.some; most = h.most; different = h.different; enough = h.enough }
