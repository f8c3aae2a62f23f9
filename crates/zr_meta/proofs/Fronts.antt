-- The parts of a head before the saved root are read back.
use Rattle.std.proofs.Common.{◌≡◌, ℕ, zero, suc, ◌%◌, ◌^◌, ◌<◌, ◌≤◌, ◌==◌, List, [], ◌∷◌, ◌++◌, length, take, drop, codes, Bool, true, false, Option, Some, None, refl, sym, ap, ◌∙◌, append_assoc, arith}
use Rattle.std.specs.Prelude.{if◌then◌else◌}
use Rattle.std.specs.Int.{div_ceil}
use Rattle.std.proofs.lemmas.Grind.{div_ceil_times}
use Rattle.std.proofs.lemmas.List.{take_at, take_all, length-append}
use Rattle.zr_base.specs.Words.{word, words}
use Rattle.zr_base.specs.declared.space.CkptPart.{CkptPart}
use Rattle.zr_base.specs.declared.space.CkptPart.TheVariants.{Clear, Held, Discarding}
use Rattle.zr_bptr.specs.declared.Ptr.{Ptr}
use Rattle.zr_bptr.specs.declared.Ptr.TheVariants.{Hole, At}
use Rattle.zr_bptr.specs.declared.Tree.{Tree}
use Rattle.zr_bptr.specs.Spelling.{IsLawful, SpellsPointer, pointer_bytes}
use Rattle.zr_bptr.specs.Fields.{word_at}
use Rattle.zr_bptr.proofs.Spelled.{word_back, one_pointer, leaves_below}
use Rattle.zr_bptr.proofs.Pieces.{pointer_long}
use Rattle.zr_meta.specs.declared.Stream.{Stream}
use Rattle.zr_meta.specs.Heads.{IsTreeOf, IsStream, IsRootOf, IsSaved, ckpt_words, form_bytes, front_bytes, stream_bytes}
use Rattle.zr_meta.specs.Fields.{ckpt_at, form_at, level_of}

-- ---- roots and streams

pub root_lawful : (height : ℕ) (p : Ptr) → IsRootOf height p → IsLawful p
root_lawful height Hole h = tt
root_lawful height (At b) h = h.2

pub stream_lawful : (words height : ℕ) (p : Ptr) → IsTreeOf words height p → IsLawful p
stream_lawful words height Hole h = tt
stream_lawful words height (At b) h = h.4

small_leaves : (words : ℕ) → div_ceil words 512 ≤ 33554432 → words ≤ 2 ^ 34
small_leaves words h = let t = div_ceil_times words 512 (omega arith) in omega (arith, t.0)

pub words_small : (words height : ℕ) (p : Ptr) → IsTreeOf words height p → words ≤ 2 ^ 34
words_small words height Hole h = omega (arith, h.0)
words_small words height (At b) h =
    let low : height ≤ 5 = omega (arith, h.2, h.4.level) in
    small_leaves words (omega (arith, h.1.reaches, leaves_below height low))

-- ---- the front

-- the bytes of a head from the front on
abbrev fronted : Bool → CkptPart → Tree → List ℕ → List ℕ
fronted b ckpt dir rest = (if b then codes "zr-head1" else codes "zr-head2") ++ (words (ckpt_words ckpt ++ dir.height ∷ []) ++ (pointer_bytes dir.root ++ rest))

front_is : (form : ℕ) (ckpt : CkptPart) (dir : Tree) (rest : List ℕ) → front_bytes form ckpt dir ++ rest ≡ fronted (form == 1) ckpt dir rest
unfolding front_bytes
front_is form ckpt dir rest =
    append_assoc (form_bytes form) (words (ckpt_words ckpt ++ dir.height ∷ []) ++ pointer_bytes dir.root) rest
    ∙ ap (λ (t : List ℕ). form_bytes form ++ t) (append_assoc (words (ckpt_words ckpt ++ dir.height ∷ [])) (pointer_bytes dir.root) rest)

behind_words : (b : Bool) (ckpt : CkptPart) (dir : Tree) (rest : List ℕ) → drop 32 (fronted b ckpt dir rest) ≡ pointer_bytes dir.root ++ rest
behind_words true Clear dir rest = refl
behind_words true (Held txg) dir rest = refl
behind_words true Discarding dir rest = refl
behind_words false Clear dir rest = refl
behind_words false (Held txg) dir rest = refl
behind_words false Discarding dir rest = refl

at_height : (b : Bool) (ckpt : CkptPart) (dir : Tree) (rest : List ℕ) → drop 24 (fronted b ckpt dir rest) ≡ word dir.height ++ (pointer_bytes dir.root ++ rest)
at_height true Clear dir rest = refl
at_height true (Held txg) dir rest = refl
at_height true Discarding dir rest = refl
at_height false Clear dir rest = refl
at_height false (Held txg) dir rest = refl
at_height false Discarding dir rest = refl

-- the group of a checkpoint that is held fits
abbrev pub Fits : CkptPart → Type 0
Fits (Held txg) = txg < 2 ^ 64
Fits _ = Unit {0}

pub saved_fits : (ckpt : CkptPart) (saved : Option (List ℕ)) → IsSaved ckpt saved → Fits ckpt
saved_fits Clear saved h = tt
saved_fits (Held txg) None h = absurd h
saved_fits (Held txg) (Some block) h = h.1
saved_fits Discarding saved h = tt

ckpt_back : (b : Bool) (ckpt : CkptPart) (dir : Tree) (rest : List ℕ) → Fits ckpt → ckpt_at (fronted b ckpt dir rest) ≡ ckpt
ckpt_back true Clear dir rest h = refl
ckpt_back true (Held txg) dir rest h = ap Held (word_back txg (word dir.height ++ (pointer_bytes dir.root ++ rest)) h)
ckpt_back true Discarding dir rest h = refl
ckpt_back false Clear dir rest h = refl
ckpt_back false (Held txg) dir rest h = ap Held (word_back txg (word dir.height ++ (pointer_bytes dir.root ++ rest)) h)
ckpt_back false Discarding dir rest h = refl

form_digit : (b : Bool) (ckpt : CkptPart) (dir : Tree) (rest : List ℕ) → form_at (fronted b ckpt dir rest) ≡ (if b then 1 else 2)
form_digit true ckpt dir rest = refl
form_digit false ckpt dir rest = refl

form_is : (form : ℕ) → 1 ≤ form → form ≤ 2 → (if form == 1 then 1 else 2) ≡ form
form_is zero some most = absurd (omega arith)
form_is (suc zero) some most = refl
form_is (suc (suc zero)) some most = refl
form_is (suc (suc (suc n))) some most = absurd (omega arith)

pub form_told : (bytes : List ℕ) (form : ℕ) (ckpt : CkptPart) (dir : Tree) (rest : List ℕ) → 1 ≤ form → form ≤ 2 → bytes ≡ front_bytes form ckpt dir ++ rest → form_at bytes ≡ form
form_told bytes form ckpt dir rest some most e =
    ap form_at (e ∙ front_is form ckpt dir rest) ∙ (form_digit (form == 1) ckpt dir rest ∙ form_is form some most)

pub ckpt_told : (bytes : List ℕ) (form : ℕ) (ckpt : CkptPart) (dir : Tree) (rest : List ℕ) → Fits ckpt → bytes ≡ front_bytes form ckpt dir ++ rest → ckpt_at bytes ≡ ckpt
ckpt_told bytes form ckpt dir rest fits e = ap ckpt_at (e ∙ front_is form ckpt dir rest) ∙ ckpt_back (form == 1) ckpt dir rest fits

pub height_told : (bytes : List ℕ) (form : ℕ) (ckpt : CkptPart) (dir : Tree) (rest : List ℕ) → dir.height < 2 ^ 32 → bytes ≡ front_bytes form ckpt dir ++ rest → word_at bytes 24 ≡ dir.height
height_told bytes form ckpt dir rest small e =
    ap (λ (t : List ℕ). word_at t 24) (e ∙ front_is form ckpt dir rest)
    ∙ (ap (λ (t : List ℕ). word_at t 0) (at_height (form == 1) ckpt dir rest) ∙ word_back dir.height (pointer_bytes dir.root ++ rest) (omega arith))

pub root_told : (bytes : List ℕ) (form : ℕ) (ckpt : CkptPart) (dir : Tree) (rest : List ℕ) → IsLawful dir.root → bytes ≡ front_bytes form ckpt dir ++ rest → SpellsPointer (take 128 (drop 32 bytes)) dir.root
root_told bytes form ckpt dir rest h e = record {
  lawful = h;
  spelling =
      ap (λ (t : List ℕ). take 128 (drop 32 t)) (e ∙ front_is form ckpt dir rest)
      ∙ (ap (take 128) (behind_words (form == 1) ckpt dir rest) ∙ take_at (pointer_bytes dir.root) rest 128 (pointer_long dir.root h));
}

abbrev made : Ptr → ℕ → Tree
made root height = record { root = root; height = height }

same_tree : (t : Tree) (root : Ptr) (height : ℕ) → root ≡ t.root → height ≡ t.height → made root height ≡ t
same_tree t root height e1 e2 = rw (e1, e2) refl

small_mod : (n : ℕ) → n < 2 ^ 32 → n % 2 ^ 32 ≡ n
small_mod n h = omega arith

-- the directory that was read is the front's own
pub dir_told : (bytes : List ℕ) (root : Ptr) (height : ℕ) (form : ℕ) (ckpt : CkptPart) (dir : Tree) (rest : List ℕ) → SpellsPointer (take 128 (drop 32 bytes)) root → height ≡ word_at bytes 24 →
    IsRootOf dir.height dir.root → dir.height < 2 ^ 32 → bytes ≡ front_bytes form ckpt dir ++ rest → made root (height % 2 ^ 32) ≡ dir
dir_told bytes root height form ckpt dir rest read is h small e =
    same_tree dir root (height % 2 ^ 32) (one_pointer _ root dir.root read (root_told bytes form ckpt dir rest (root_lawful dir.height dir.root h) e))
    (ap (λ (n : ℕ). n % 2 ^ 32) (is ∙ height_told bytes form ckpt dir rest small e) ∙ small_mod dir.height small)

words_long : (b : Bool) (ckpt : CkptPart) (height : ℕ) → length ((if b then codes "zr-head1" else codes "zr-head2") ++ words (ckpt_words ckpt ++ height ∷ [])) ≡ 32
words_long true Clear height = refl
words_long true (Held txg) height = refl
words_long true Discarding height = refl
words_long false Clear height = refl
words_long false (Held txg) height = refl
words_long false Discarding height = refl

pub front_long : (form : ℕ) (ckpt : CkptPart) (dir : Tree) → IsLawful dir.root → length (front_bytes form ckpt dir) ≡ 160
unfolding front_bytes
front_long form ckpt dir h =
    ap length (sym (append_assoc (form_bytes form) (words (ckpt_words ckpt ++ dir.height ∷ [])) (pointer_bytes dir.root)))
    ∙ (length-append (form_bytes form ++ words (ckpt_words ckpt ++ dir.height ∷ [])) (pointer_bytes dir.root)
    ∙ omega (arith, words_long (form == 1) ckpt dir.height, pointer_long dir.root h))

-- ---- a stream

pub stream_long : (s : Stream) → IsStream s → length (stream_bytes s) ≡ 136
unfolding stream_bytes
stream_long s h = omega (arith, pointer_long s.tree.root (stream_lawful s.words s.tree.height s.tree.root h))

pub stream_words : (bytes : List ℕ) (s : Stream) → IsStream s → bytes ≡ stream_bytes s → word_at bytes 0 ≡ s.words
unfolding stream_bytes
stream_words bytes s h e = ap (λ (t : List ℕ). word_at t 0) e ∙ word_back s.words (pointer_bytes s.tree.root) (omega (arith, words_small s.words s.tree.height s.tree.root h))

pub stream_root : (bytes : List ℕ) (s : Stream) → IsStream s → bytes ≡ stream_bytes s → SpellsPointer (take 128 (drop 8 bytes)) s.tree.root
unfolding stream_bytes
stream_root bytes s h e =
    let lawful = stream_lawful s.words s.tree.height s.tree.root h in
    record {
      lawful = lawful;
      spelling = ap (λ (t : List ℕ). take 128 (drop 8 t)) e ∙ take_all 128 (pointer_bytes s.tree.root) (omega (arith, pointer_long s.tree.root lawful));
    }

pub level_is : (words height : ℕ) (p : Ptr) → IsTreeOf words height p → level_of p ≡ height
level_is words height Hole h = sym h.1
level_is words height (At b) h = h.2

abbrev of_parts : ℕ → Ptr → ℕ → Stream
of_parts words root height = record { words = words; tree = record { root = root; height = height } }

same_stream : (s : Stream) (words : ℕ) (root : Ptr) (height : ℕ) → words ≡ s.words → root ≡ s.tree.root → height ≡ s.tree.height → of_parts words root height ≡ s
same_stream s words root height e1 e2 e3 = rw (e1, e2, e3) refl

-- the stream that was read is the piece's own
pub stream_told : (bytes : List ℕ) (words : ℕ) (root : Ptr) (height : ℕ) → words ≡ word_at bytes 0 → SpellsPointer (take 128 (drop 8 bytes)) root → height ≡ level_of root →
    (s : Stream) → IsStream s → bytes ≡ stream_bytes s → of_parts words root height ≡ s
stream_told bytes words root height is read tall s h e =
    let same = one_pointer _ root s.tree.root read (stream_root bytes s h e) in
    same_stream s words root height (is ∙ stream_words bytes s h e) same (tall ∙ (ap level_of same ∙ level_is s.words s.tree.height s.tree.root h))
