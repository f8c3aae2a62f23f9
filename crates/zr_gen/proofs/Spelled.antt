-- Each command of a generated run is that of a line.
use Rattle.std.proofs.Common.{◌≡◌, ◌≢◌, ℕ, zero, suc, ◌+◌, ◌*◌, ◌/◌, ◌%◌, ◌^◌, ◌<◌, ◌≤◌, ◌==◌, nat_lt, nat_le, Bool, true, false, not, ◌&&◌, List, [], ◌∷◌, ◌++◌, length, map, codes, slice_index, cond, if◌then◌else◌, inl, inr, refl, sym, ap, subst, ◌∙◌, arith, length-append}
use Rattle.std.specs.List.{AllByRecursion, list_all, slice_split, onto_first, range_with_len}
use Rattle.std.specs.Fmt.{decimal}
use Rattle.std.specs.Fmt as fmt
use Rattle.std.proofs.lemmas.Bool.{false≢true}
use Rattle.std.specs.Str.{bytes_eq}
use Rattle.std.proofs.lemmas.Bool.Decides.{eqb_tells, nat_tests}
use Rattle.std.proofs.lemmas.Fmt.{decimal_by_steps, length-decimal-le}
use Rattle.std.proofs.lemmas.List.Folds.{list_all-append}
use Rattle.std.proofs.Math.Nat.{mod-lt}
use Rattle.zr_script.specs.declared.command.Command.{Command}
use Rattle.zr_script.specs.declared.command.Command.TheVariants as cmd
use Rattle.zr_script.specs.Generated.{draw, line_by, drawn, before_line, drawn_lines, makes, script_of}
use Rattle.zr_script.specs.Grammar as grammar
use Rattle.zr_script.specs.Grammar.{IsLine, IsCommand, words_of}
use Rattle.zr_script.specs.Words as spelled
use Rattle.zr_script.specs.Words.{IsNumber, is_path, are_different, is_path_byte}
use Rattle.zr_gen.specs.Spelled.{HasLine}

-- ---- words without spaces, joined by single spaces

abbrev is_solid : ℕ → Bool
is_solid b = not (b == 32)

-- no space in the word, and it is not long
record IsWord (word : List ℕ) : Type 0 where
  solid : list_all is_solid word ≡ true
  short : length word ≤ 256

abbrev joined : List ℕ → List (List ℕ) → List ℕ
joined word [] = word
joined word (next ∷ more) = word ++ 32 ∷ joined next more

both_true : (a b : Bool) → (a && b) ≡ true → (a ≡ true) × (b ≡ true)
both_true true b e = (refl, e)
both_true false b e = absurd (false≢true e)

not_space : (b : Bool) → not b ≡ true → b ≡ false
not_space true e = absurd (false≢true e)
not_space false e = refl

split_end : (word : List ℕ) → list_all is_solid word ≡ true → slice_split (λ b. b == 32) word ≡ word ∷ []
split_end [] e = refl
split_end (b ∷ word) e =
    let h = both_true (is_solid b) (list_all is_solid word) e in
    ap (λ (x : Bool). cond x ([] ∷ slice_split (λ c. c == 32) word) (onto_first b (slice_split (λ c. c == 32) word))) (not_space (b == 32) h.0) ∙ ap (onto_first b) (split_end word h.1)

split_word : (word rest : List ℕ) → list_all is_solid word ≡ true → slice_split (λ b. b == 32) (word ++ 32 ∷ rest) ≡ word ∷ slice_split (λ b. b == 32) rest
split_word [] rest e = refl
split_word (b ∷ word) rest e =
    let h = both_true (is_solid b) (list_all is_solid word) e in
    ap (λ (x : Bool). cond x ([] ∷ slice_split (λ c. c == 32) (word ++ 32 ∷ rest)) (onto_first b (slice_split (λ c. c == 32) (word ++ 32 ∷ rest)))) (not_space (b == 32) h.0) ∙ ap (onto_first b) (split_word word rest h.1)

split_joined : (word : List ℕ) (more : List (List ℕ)) → IsWord word → AllByRecursion IsWord more → words_of (joined word more) ≡ word ∷ more
split_joined word [] w h = split_end word w.solid
split_joined word (next ∷ more) w h = split_word word (joined next more) w.solid ∙ ap (λ l. word ∷ l) (split_joined next more h.0 h.1)

joined_length : (word : List ℕ) (more : List (List ℕ)) → IsWord word → AllByRecursion IsWord more → length (joined word more) ≤ 256 + 257 * length more
joined_length word [] w h = let s = w.short in omega arith
joined_length word (next ∷ more) w h =
    let s = w.short in
    let r = joined_length next more h.0 h.1 in
    let l = length-append word (32 ∷ joined next more) in
    omega arith

-- few words are a line
line_by_words : (word : List ℕ) (more : List (List ℕ)) (c : Command) → IsWord word → AllByRecursion IsWord more → length more ≤ 32 → IsCommand (word ∷ more) c → HasLine c
line_by_words word more c w h few is = (
  joined word more,
  record {
    short = let l = joined_length word more w h in omega arith;
    words = subst (λ ws. IsCommand ws c) (sym (split_joined word more w h)) is;
  },
)

-- ---- numbers and paths are words

digit_solid : (n : ℕ) → is_solid (48 + n) ≡ true
digit_solid n = elim (eqb_tells (48 + n) 32) [ inl p ↦ let e = p.1 in absurd (omega arith) | inr p ↦ ap not p.0 ]

and_true : (a b : Bool) → a ≡ true → b ≡ true → (a && b) ≡ true
and_true a b e f = ap (λ x. x && b) e ∙ f

decimal_solid : (n : ℕ) → n < 2 ^ 64 → list_all is_solid (decimal n) ≡ true
decimal_solid n l = decimal_by_steps (λ m ds. list_all is_solid ds ≡ true) (λ m k. and_true (is_solid (48 + m)) true (digit_solid m) refl)
    (λ m ds k e. list_all-append is_solid ds ((48 + m % 10) ∷ []) ∙ and_true (list_all is_solid ds) (list_all is_solid ((48 + m % 10) ∷ [])) e (and_true (is_solid (48 + m % 10)) true (digit_solid (m % 10)) refl)) n l

decimal_word : (n : ℕ) → n < 2 ^ 64 → IsWord (decimal n)
decimal_word n l = record { solid = decimal_solid n l; short = let k = length-decimal-le 20 n (omega arith) (omega arith) l in omega arith }

space_is_none : is_path_byte 32 ≡ false
unfolding spelled.is_path_byte spelled.is_letter spelled.is_digit
space_is_none = refl

path_byte_solid : (b : ℕ) → is_path_byte b ≡ true → is_solid b ≡ true
path_byte_solid b e = elim (eqb_tells b 32) [ inl p ↦ absurd (false≢true (sym space_is_none ∙ (ap is_path_byte (sym p.1) ∙ e))) | inr p ↦ ap not p.0 ]

path_bytes_solid : (word : List ℕ) → list_all is_path_byte word ≡ true → list_all is_solid word ≡ true
path_bytes_solid [] e = refl
path_bytes_solid (b ∷ word) e =
    let h = both_true (is_path_byte b) (list_all is_path_byte word) e in
    and_true (is_solid b) (list_all is_solid word) (path_byte_solid b h.0) (path_bytes_solid word h.1)

number : (n : ℕ) → n < 2 ^ 64 → IsNumber (decimal n) n
number n l = record { spelling = refl; bound = l }

path_word : (path : List ℕ) → is_path path ≡ true → IsWord path
path_word path e =
    let a = both_true (nat_lt 0 (length path) && nat_le (length path) 255 && not (slice_index path 0 == 45)) (list_all is_path_byte path) e in
    let b = both_true (nat_lt 0 (length path) && nat_le (length path) 255) (not (slice_index path 0 == 45)) a.0 in
    let c = both_true (nat_lt 0 (length path)) (nat_le (length path) 255) b.0 in
    record { solid = path_bytes_solid path a.1; short = let l = c.1 in grind (arith, nat_tests) }

-- ---- commands

spelled_fill : (id off len byte : ℕ) → id < 2 ^ 64 → off < 2 ^ 64 → len < 2 ^ 64 → byte ≤ 255 → HasLine (cmd.Fill id off len byte)
unfolding grammar.keyword_of grammar.pool_keyword_of grammar.step_keyword_of
spelled_fill id off len byte a b c d =
    let small : byte < 2 ^ 64 = omega arith in
    line_by_words (codes "fill") (decimal id ∷ (decimal off ∷ (decimal len ∷ (decimal byte ∷ [])))) (cmd.Fill id off len byte) (record { solid = refl; short = omega arith })
    (decimal_word id a, (decimal_word off b, (decimal_word len c, (decimal_word byte small, tt)))) (omega arith)
    (decimal id, decimal off, decimal len, decimal byte, refl, number id a, number off b, number len c, record { number = number byte small; small = d })

spelled_punch : (id off len : ℕ) → id < 2 ^ 64 → off < 2 ^ 64 → len < 2 ^ 64 → HasLine (cmd.Punch id off len)
unfolding grammar.keyword_of grammar.pool_keyword_of grammar.step_keyword_of
spelled_punch id off len a b c =
    line_by_words (codes "punch") (decimal id ∷ (decimal off ∷ (decimal len ∷ []))) (cmd.Punch id off len) (record { solid = refl; short = omega arith })
    (decimal_word id a, (decimal_word off b, (decimal_word len c, tt))) (omega arith) (decimal id, decimal off, decimal len, refl, number id a, number off b, number len c)

spelled_read : (id off len : ℕ) → id < 2 ^ 64 → off < 2 ^ 64 → len < 2 ^ 64 → HasLine (cmd.Read id off len)
unfolding grammar.keyword_of grammar.pool_keyword_of grammar.step_keyword_of
spelled_read id off len a b c =
    line_by_words (codes "read") (decimal id ∷ (decimal off ∷ (decimal len ∷ []))) (cmd.Read id off len) (record { solid = refl; short = omega arith })
    (decimal_word id a, (decimal_word off b, (decimal_word len c, tt))) (omega arith) (decimal id, decimal off, decimal len, refl, number id a, number off b, number len c)

spelled_make : (id units : ℕ) → id < 2 ^ 64 → units < 2 ^ 64 → HasLine (cmd.Make id units)
unfolding grammar.keyword_of grammar.pool_keyword_of grammar.step_keyword_of
spelled_make id units a b =
    line_by_words (codes "make") (decimal id ∷ (decimal units ∷ [])) (cmd.Make id units) (record { solid = refl; short = omega arith })
    (decimal_word id a, (decimal_word units b, tt)) (omega arith) (decimal id, decimal units, refl, number id a, number units b)

spelled_sum : (id : ℕ) → id < 2 ^ 64 → HasLine (cmd.Sum id)
unfolding grammar.keyword_of grammar.pool_keyword_of grammar.step_keyword_of
spelled_sum id a = line_by_words (codes "sum") (decimal id ∷ []) (cmd.Sum id) (record { solid = refl; short = omega arith }) (decimal_word id a, tt) (omega arith) (decimal id, refl, number id a)

spelled_add : (dev : List ℕ) → is_path dev ≡ true → HasLine (cmd.Add dev)
unfolding grammar.keyword_of grammar.pool_keyword_of grammar.step_keyword_of
spelled_add dev p = line_by_words (codes "add") (dev ∷ []) (cmd.Add dev) (record { solid = refl; short = omega arith }) (path_word dev p, tt) (omega arith) (refl, p)

spelled_remove : (dev : List ℕ) → is_path dev ≡ true → HasLine (cmd.Remove dev)
unfolding grammar.keyword_of grammar.pool_keyword_of grammar.step_keyword_of
spelled_remove dev p = line_by_words (codes "remove") (dev ∷ []) (cmd.Remove dev) (record { solid = refl; short = omega arith }) (path_word dev p, tt) (omega arith) (refl, p)

spelled_sync : HasLine cmd.Sync
unfolding grammar.keyword_of grammar.pool_keyword_of grammar.step_keyword_of
spelled_sync = (codes "sync", record { short = omega arith; words = (refl, refl) })

spelled_evac : HasLine cmd.StepEvac
unfolding grammar.keyword_of grammar.pool_keyword_of grammar.step_keyword_of
spelled_evac = (codes "step evac", record { short = omega arith; words = refl })

spelled_discard : HasLine cmd.StepDiscard
unfolding grammar.keyword_of grammar.pool_keyword_of grammar.step_keyword_of
spelled_discard = (codes "step discard", record { short = omega arith; words = refl })

spelled_condense : HasLine cmd.StepCondense
unfolding grammar.keyword_of grammar.pool_keyword_of grammar.step_keyword_of
spelled_condense = (codes "step condense", record { short = omega arith; words = refl })

spelled_checkpoint : HasLine cmd.Checkpoint
unfolding grammar.keyword_of grammar.pool_keyword_of grammar.step_keyword_of
spelled_checkpoint = (codes "checkpoint", record { short = omega arith; words = refl })

spelled_give_up : HasLine cmd.Discard
unfolding grammar.keyword_of grammar.pool_keyword_of grammar.step_keyword_of
spelled_give_up = (codes "checkpoint -d", record { short = omega arith; words = refl })

spelled_audit : HasLine cmd.Audit
unfolding grammar.keyword_of grammar.pool_keyword_of grammar.step_keyword_of
spelled_audit = (codes "audit", record { short = omega arith; words = (refl, refl) })

spelled_export : HasLine cmd.Export
unfolding grammar.keyword_of grammar.pool_keyword_of grammar.step_keyword_of
spelled_export = (codes "export", record { short = omega arith; words = (refl, refl) })

two_paths : (p q n : Bool) → p ≡ true → q ≡ true → n ≡ true → (nat_lt 0 2 && nat_le 2 32 && (p && (q && true)) && ((n && true) && (true && true))) ≡ true
two_paths true true true a b c = refl
two_paths false q n a b c = absurd (false≢true a)
two_paths true false n a b c = absurd (false≢true b)
two_paths true true false a b c = absurd (false≢true c)

spelled_create : (one other : List ℕ) → is_path one ≡ true → is_path other ≡ true → not (bytes_eq other one) ≡ true → HasLine (cmd.Create (codes "gen") 1 (one ∷ (other ∷ [])))
unfolding fmt.digits spelled.is_letter spelled.is_digit spelled.is_name_byte grammar.keyword_of grammar.pool_keyword_of grammar.step_keyword_of
spelled_create one other p q n =
    line_by_words (codes "create") (codes "gen" ∷ (codes "1" ∷ (one ∷ (other ∷ [])))) (cmd.Create (codes "gen") 1 (one ∷ (other ∷ []))) (record { solid = refl; short = omega arith })
    (record { solid = refl; short = omega arith }, (record { solid = refl; short = omega arith }, (path_word one p, (path_word other q, tt)))) (omega arith)
    (inl (codes "1", refl, refl, record { number = record { spelling = refl; bound = omega arith }; some = omega arith }, two_paths (is_path one) (is_path other) (not (bytes_eq other one)) p q n))

-- ---- the run

all_both : (xs ys : List Command) → AllByRecursion HasLine xs → AllByRecursion HasLine ys → AllByRecursion HasLine (xs ++ ys)
all_both [] ys h k = k
all_both (x ∷ xs) ys h k = (h.0, all_both xs ys h.1 k)

all_if : (b : Bool) (xs : List Command) → AllByRecursion HasLine xs → AllByRecursion HasLine (if b then xs else [])
all_if true xs h = h
all_if false xs h = tt

line_if : (b : Bool) (y z : Command × ℕ) → HasLine y.0 → HasLine z.0 → HasLine (if b then y else z).0
line_if true y z h k = h
line_if false y z h k = k

small_if : (b : Bool) (y z : ℕ) → y < 2 ^ 64 → z < 2 ^ 64 → (if b then y else z) < 2 ^ 64
small_if true y z h k = h
small_if false y z h k = k

mod_small : (n m k : ℕ) → 0 < m → m ≤ k → n % m < k
mod_small n m k p l = let h = mod-lt n {m = m} p in omega arith

spelled_drawn : (k x : ℕ) → HasLine (line_by k x).0
spelled_drawn k x =
    let id : draw 1 x % 16 < 2 ^ 64 = mod_small (draw 1 x) 16 (2 ^ 64) (omega arith) (omega arith) in
    let place : draw 2 x % 1024 < 1024 = mod_small (draw 2 x) 1024 1024 (omega arith) (omega arith) in
    let off : 512 * (draw 2 x % 1024) < 2 ^ 64 = omega arith in
    let filled : draw 3 x % 4096 < 4096 = mod_small (draw 3 x) 4096 4096 (omega arith) (omega arith) in
    let byte : draw 4 x % 255 < 255 = mod_small (draw 4 x) 255 255 (omega arith) (omega arith) in
    let punched : draw 3 x % 8192 < 8192 = mod_small (draw 3 x) 8192 8192 (omega arith) (omega arith) in
    line_if (nat_lt k 8) _ _ (spelled_fill (draw 1 x % 16) (512 * (draw 2 x % 1024)) (1 + draw 3 x % 4096) (1 + draw 4 x % 255) id off (omega arith) (omega arith))
    (line_if (nat_lt k 11) _ _ (spelled_punch (draw 1 x % 16) (512 * (draw 2 x % 1024)) (1 + draw 3 x % 8192) id off (omega arith))
    (line_if (k == 11) _ _ (spelled_read (draw 1 x % 16) (512 * (draw 2 x % 1024)) 64 id off (omega arith))
    (line_if (k == 12) _ _ spelled_sync (line_if (k == 13) _ _ spelled_evac (line_if (k == 14) _ _ spelled_discard spelled_condense)))))

spelled_before : (one other third : List ℕ) (more : List (List ℕ)) (count n : ℕ) → is_path one ≡ true → is_path third ≡ true → AllByRecursion HasLine (before_line (one ∷ (other ∷ (third ∷ more))) count n)
spelled_before one other third more count n p q =
    all_both _ _ (all_both _ _ (all_if (n == count / 4 + 1) (cmd.Add third ∷ (cmd.Remove one ∷ [])) (spelled_add third q, (spelled_remove one p, tt))) (all_if (n == count / 2 + 1) (cmd.Checkpoint ∷ []) (spelled_checkpoint, tt)))
    (all_if (n == 3 * count / 4 + 1) (cmd.Discard ∷ []) (spelled_give_up, tt))

spelled_lines : (one other third : List ℕ) (more : List (List ℕ)) (count left n x : ℕ) → is_path one ≡ true → is_path third ≡ true → AllByRecursion HasLine (drawn_lines (one ∷ (other ∷ (third ∷ more))) count left n x)
spelled_lines one other third more count zero n x p q = tt
spelled_lines one other third more count (suc left) n x p q =
    all_both (before_line (one ∷ (other ∷ (third ∷ more))) count n) ((drawn x).0 ∷ drawn_lines (one ∷ (other ∷ (third ∷ more))) count left (n + 1) (drawn x).1) (spelled_before one other third more count n p q)
    (spelled_drawn (draw 0 x % 16) x, spelled_lines one other third more count left (n + 1) (drawn x).1 p q)

abbrev AreSmall : List ℕ → Type 0
AreSmall ns = AllByRecursion (λ n. n < 2 ^ 64) ns

sixteen : AreSmall (range_with_len 0 16)
sixteen = (omega arith, (omega arith, (omega arith, (omega arith, (omega arith, (omega arith, (omega arith, (omega arith, (omega arith, (omega arith, (omega arith, (omega arith, (omega arith, (omega arith, (omega arith, (omega arith, tt))))))))))))))))

spelled_makes : (ids : List ℕ) → AreSmall ids → AllByRecursion HasLine (map (λ i. cmd.Make i (if i % 3 == 0 then 1 else (if i % 3 == 1 then 2 else 4))) ids)
spelled_makes [] h = tt
spelled_makes (i ∷ ids) h = (spelled_make i _ h.0 (small_if (i % 3 == 0) 1 _ (omega arith) (small_if (i % 3 == 1) 2 4 (omega arith) (omega arith))), spelled_makes ids h.1)

spelled_sums : (ids : List ℕ) → AreSmall ids → AllByRecursion HasLine (map cmd.Sum ids)
spelled_sums [] h = tt
spelled_sums (i ∷ ids) h = (spelled_sum i h.0, spelled_sums ids h.1)

-- each command of the run is that of a line
pub spelled_script : (number count : ℕ) (devs : List (List ℕ)) → 3 ≤ length devs → list_all is_path devs ≡ true → are_different devs ≡ true → AllByRecursion HasLine (script_of number count devs)
spelled_script number count [] l p d = absurd (omega arith)
spelled_script number count (one ∷ []) l p d = absurd (omega arith)
spelled_script number count (one ∷ (other ∷ [])) l p d = absurd (omega arith)
spelled_script number count (one ∷ (other ∷ (third ∷ more))) l p d =
    let a = both_true (is_path one) (list_all is_path (other ∷ (third ∷ more))) p in
    let b = both_true (is_path other) (list_all is_path (third ∷ more)) a.1 in
    let c = both_true (is_path third) (list_all is_path more) b.1 in
    let e = both_true (list_all (λ word. not (bytes_eq word one)) (other ∷ (third ∷ more))) (are_different (other ∷ (third ∷ more))) d in
    let f = both_true (not (bytes_eq other one)) (list_all (λ word. not (bytes_eq word one)) (third ∷ more)) e.0 in
    let devs = one ∷ (other ∷ (third ∷ more)) in
    let front = all_both makes (drawn_lines devs count count 1 number) (spelled_makes (range_with_len 0 16) sixteen) (spelled_lines one other third more count count 1 number a.0 c.0) in
    let sums = all_both (makes ++ drawn_lines devs count count 1 number) (map cmd.Sum (range_with_len 0 16)) front (spelled_sums (range_with_len 0 16) sixteen) in
    (spelled_create one other a.0 b.0 f.0, all_both ((makes ++ drawn_lines devs count count 1 number) ++ map cmd.Sum (range_with_len 0 16)) (cmd.Audit ∷ (cmd.Export ∷ [])) sums (spelled_audit, (spelled_export, tt)))
