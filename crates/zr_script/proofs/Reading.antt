-- Lemmas on what readers answer.
use Rattle.std.proofs.Common.{◌≡◌, ℕ, ◌≤◌, ◌<◌, List, [], ◌∷◌, length, map, codes, Option, Some, None, Result, Ok, Err, IfOk, Bool, not, true, false, refl, sym, ap, subst, ◌∙◌, inl, inr, arith, IsTrue, Bor, slice_index_or}
use Rattle.std.specs.Str.{bytes_eq}
use Rattle.std.proofs.lemmas.Slice.Eq.{bytes_eq-Decides}
use Rattle.std.proofs.lemmas.Bool.{false≢true}
use Rattle.std.specs.Str.Parse.{digits_value}
use Rattle.std.specs.Fmt.{decimal}
use Rattle.std.proofs.lemmas.Fmt.{decimal_is_IsNumeral}
use Rattle.zr_base.specs.Readers.{Reads}
use Rattle.zr_script.specs.declared.command.Command.{Command}
use Rattle.zr_script.specs.declared.command.Command.TheVariants as cmd
use Rattle.zr_script.specs.declared.command.Keyword.{Keyword}
use Rattle.zr_script.specs.Words.{IsNumber, is_name, is_letter}
use Rattle.zr_script.specs.Grammar.{IsLine, IsCommand, IsArguments, IsCreate, IsCreateNew, IsCreateOld, IsPool, words_of}
use Rattle.zr_script.specs.declared.lines.NewPool.{NewPool}

-- a word is a spelling of one number at most
pub same_number : (word : List ℕ) (m n : ℕ) → IsNumber word m → IsNumber word n → m ≡ n
same_number word m n h k =
    sym (decimal_is_IsNumeral m h.bound).1 ∙ ap (digits_value 10) (sym h.spelling ∙ k.spelling) ∙ (decimal_is_IsNumeral n k.bound).1

not_false : (b : Bool) → false ≡ not b → b ≡ true
not_false true e = refl
not_false false e = e

pub reads_line : {E : Type 0} (line : List ℕ) (words : List (List ℕ)) (r : Result (Option Command) E) → length line ≤ 16384 → words ≡ words_of line → IfOk r (Reads (IsCommand words)) → IfOk r (Reads (IsLine line))
reads_line line words (Err e) short is h = tt
reads_line line words (Ok None) short is h = λ c k. h c (rw is k.words)
reads_line line words (Ok (Some c)) short is h = record { short = short; words = rw is at h }

-- what printing a number and comparing says
pub printed_other : (word printed : List ℕ) (m n : ℕ) → true ≡ not (bytes_eq printed word) → printed ≡ decimal m → m ≡ n → IsNumber word n → ⊥
printed_other word printed m n b e same h =
    let t = (bytes_eq-Decides printed word).1 (e ∙ (ap decimal same ∙ sym h.spelling)) in
    false≢true (sym (b ∙ ap not t))

pub printed_same : (word printed : List ℕ) (m : ℕ) → false ≡ not (bytes_eq printed word) → printed ≡ decimal m → word ≡ decimal m
printed_same word printed m b e = sym ((bytes_eq-Decides printed word).0 (not_false (bytes_eq printed word) b)) ∙ e

-- what a reader behind a keyword answers
pub reads_behind : {E : Type 0} (k : Option Keyword) (w : Keyword) (words : List (List ℕ)) (r : Result (Option Command) E) → k ≡ Some w → IfOk r (Reads (IsArguments (Some w) words)) → IfOk r (Reads (IsArguments k words))
reads_behind k w words r e h = subst (λ (x : Option Keyword). IfOk r (Reads (IsArguments x words))) (sym e) h

pub finds_behind : (k : Option Keyword) (w : Keyword) (words : List (List ℕ)) (o : Option Command) → k ≡ Some w → Reads (IsArguments (Some w) words) o → Reads (IsArguments k words) o
finds_behind k w words o e h = subst (λ (x : Option Keyword). Reads (IsArguments x words) o) (sym e) h

-- a word that passed a comparison
pub same_word : (word other text : List ℕ) (b : Bool) → b ≡ bytes_eq word other → b ≡ true → other ≡ text → word ≡ text
same_word word other text b is passed e = (bytes_eq-Decides word other).0 (sym is ∙ passed) ∙ e

pub other_word : (word other text : List ℕ) (b : Bool) → b ≡ bytes_eq word other → b ≡ false → other ≡ text → word ≡ text → ⊥
other_word word other text b is failed e same = false≢true (sym failed ∙ (is ∙ (bytes_eq-Decides word other).1 (same ∙ sym e)))

-- the words are one, which passed a comparison
pub one_word : (words : List (Bor (List ℕ))) (d : Bor (List ℕ)) (other text : List ℕ) (b : Bool) → 1 ≤ length words → length words < 2 →
    b ≡ bytes_eq (slice_index_or words 0 d).now other → b ≡ true → other ≡ text → map (λ w. w.now) words ≡ text ∷ []
one_word [] d other text b some most is passed e = absurd (omega arith)
one_word (w ∷ []) d other text b some most is passed e = ap (λ (x : List ℕ). x ∷ []) (same_word w.now other text b is passed e)
one_word (w ∷ (x ∷ ws)) d other text b some most is passed e = absurd (omega arith)

-- the words are two, the first of which passed a comparison
pub two_words : (words : List (Bor (List ℕ))) (d : Bor (List ℕ)) (other text : List ℕ) (b : Bool) → 2 ≤ length words → length words < 3 →
    b ≡ bytes_eq (slice_index_or words 0 d).now other → b ≡ true → other ≡ text → map (λ w. w.now) words ≡ text ∷ (slice_index_or words 1 d).now ∷ []
two_words [] d other text b some most is passed e = absurd (omega arith)
two_words (w ∷ []) d other text b some most is passed e = absurd (omega arith)
two_words (w ∷ (x ∷ [])) d other text b some most is passed e = ap (λ (y : List ℕ). y ∷ (x.now ∷ [])) (same_word w.now other text b is passed e)
two_words (w ∷ (x ∷ (y ∷ ws))) d other text b some most is passed e = absurd (omega arith)

-- no name begins with '-'
not_named : IsTrue (is_name (codes "-1")) → ⊥
unfolding is_letter
not_named h = false≢true h

not_new : (words others : List (List ℕ)) (c : Command) → words ≡ codes "-1" ∷ others → IsCreateNew words c → ⊥
not_new words others (cmd.Create name guid devs) is h =
    let e : name ≡ codes "-1" = cc (is, h.1) in not_named (rw e at h.2)
not_new words others _ is h = h

-- a pool of version 1, where the first word says so
pub creates_old : {E : Type 0} (words others : List (List ℕ)) (r : Result (Option Command) E) → words ≡ codes "-1" ∷ others → IfOk r (Reads (IsCreateOld others)) → IfOk r (Reads (IsCreate words))
creates_old words others (Err e) is h = tt
creates_old words others (Ok (Some c)) is h = inr (others, is, h)
creates_old words others (Ok None) is h = λ c k.
    elim k [ inl new ↦ not_new words others c is new | inr old ↦ h c (subst (λ (x : List (List ℕ)). IsCreateOld x c) (tail_same old.0 others (sym old.1 ∙ is)) old.2) ]
  where
    tail_same : (a b : List (List ℕ)) → codes "-1" ∷ a ≡ codes "-1" ∷ b → a ≡ b
    tail_same a b e = cc

-- a pool of the newest version, where the first word does not say otherwise
pub creates_new : {E : Type 0} (words others : List (List ℕ)) (first : List ℕ) (r : Result (Option Command) E) → words ≡ first ∷ others → (first ≡ codes "-1" → ⊥) → IfOk r (Reads (IsCreateNew words)) → IfOk r (Reads (IsCreate words))
creates_new words others first (Err e) is other h = tt
creates_new words others first (Ok (Some c)) is other h = inl h
creates_new words others first (Ok None) is other h = λ c k.
    elim k [ inl new ↦ h c new | inr old ↦ other (cc (old.1, is)) ]

-- what stands behind 'create' names no pool
pub no_pool_new : (words : List (List ℕ)) (o : Option NewPool) → o ≡ None → Reads (λ p. IsPool words p.name p.guid p.devs) o → (c : Command) → IsCreateNew words c → ⊥
no_pool_new words o is reads (cmd.Create name guid devs) h = (rw is at reads) (record { name = name; guid = guid; devs = devs }) h
no_pool_new words o is reads _ h = h

pub no_pool_old : (words : List (List ℕ)) (o : Option NewPool) → o ≡ None → Reads (λ p. IsPool words p.name p.guid p.devs) o → (c : Command) → IsCreateOld words c → ⊥
no_pool_old words o is reads (cmd.CreateOld name guid devs) h = (rw is at reads) (record { name = name; guid = guid; devs = devs }) h
no_pool_old words o is reads _ h = h
