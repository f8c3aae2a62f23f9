-- The streams of a head, and what stands before them, are read back.
use Rattle.std.proofs.Common.{◌≡◌, ℕ, ◌+◌, ◌*◌, ◌/◌, ◌^◌, ◌<◌, ◌≤◌, ◌==◌, List, [], ◌∷◌, ◌++◌, length, take, drop, map, get_or, Option, Some, None, refl, sym, ap, subst, ◌∙◌, append_assoc, arith}
use Rattle.std.specs.Prelude.{if◌then◌else◌}
use Rattle.std.specs.List.{AllByRecursion, flat_map}
use Rattle.std.specs.Simd.{first_chunks}
use Rattle.std.proofs.lemmas.List.{take_at, drop_at, length-append, length-map}
use Rattle.std.proofs.lemmas.List.{get_or-map}
use Rattle.std.proofs.lemmas.Grind.{take_at_read}
use Rattle.zr_base.specs.Words.{word, words}
use Rattle.zr_bptr.specs.Fields.{word_at}
use Rattle.zr_bptr.proofs.Spelled.{word_back}
use Rattle.zr_bptr.proofs.Pieces.{AreLong, chunks-flat_map, length-pieces, each_at, same_map}
use Rattle.zr_meta.specs.declared.Stream.{Stream}
use Rattle.zr_meta.specs.declared.CondAt.{CondAt}
use Rattle.zr_base.specs.declared.space.DevRow.{DevRow}
use Rattle.zr_base.specs.declared.space.CkptPart.{CkptPart}
use Rattle.zr_base.specs.declared.space.CkptPart.TheVariants.{Clear, Held, Discarding}
use Rattle.zr_bptr.specs.declared.Ptr.TheVariants.{Hole}
use Rattle.zr_bptr.specs.declared.Tree.{Tree}
use Rattle.zr_meta.specs.declared.Head.{Head}
use Rattle.zr_meta.specs.declared.read.Back.{Back}
use Rattle.zr_meta.specs.Heads.{IsStream, IsSaved, IsCond, SpellsHead, stream_bytes, cond_words, saved_bytes, front_bytes, head_bytes}
use Rattle.zr_meta.specs.Fields.{IsOnlyBack, saved_long}
use Rattle.zr_meta.proofs.Fronts.{stream_long, front_long, root_lawful, form_told, ckpt_told, saved_fits, root_told, height_told, dir_told, stream_told, stream_words, stream_root, level_is}

-- no stream
abbrev pub nil : Stream
nil = record { words = 0; tree = record { root = Hole; height = 0 } }

pub streams_long : (ss : List Stream) → AllByRecursion IsStream ss → AreLong 136 stream_bytes ss
streams_long [] h = tt
streams_long (s ∷ ss) h = (stream_long s h.0, streams_long ss h.1)

-- one stream more
pub stream_more : (found : List Stream) (pieces : List (List ℕ)) (i : ℕ) (d : List ℕ) (ss : List Stream) (s : Stream) → i < length pieces → AllByRecursion IsStream ss → pieces ≡ map stream_bytes ss → found ≡ take i ss →
    ((x : Stream) → IsStream x → get_or pieces i d ≡ stream_bytes x → ◌≡◌ {A = Option Stream} (Some s) (Some x)) → found ++ s ∷ [] ≡ take (i + 1) ss
stream_more found pieces i d ss s lt h e before one =
    let long : length ss ≡ length pieces = sym (ap length e ∙ length-map ss stream_bytes) in
    let inside : i < length ss = omega arith in
    let at : get_or pieces i d ≡ stream_bytes (get_or ss i nil) = ap (λ (cs : List (List ℕ)). get_or cs i d) e ∙ get_or-map stream_bytes ss i nil d inside in
    let same : s ≡ get_or ss i nil = let k = one (get_or ss i nil) (each_at IsStream ss i nil h inside) at in cc in
    ap (λ (t : List Stream). t ++ s ∷ []) before ∙ (ap (λ (x : Stream). take i ss ++ x ∷ []) same ∙ sym (take_at_read ss i nil inside).1)

-- a piece that no stream spells
pub no_stream : (pieces : List (List ℕ)) (i : ℕ) (d : List ℕ) (ss : List Stream) → i < length pieces → AllByRecursion IsStream ss → pieces ≡ map stream_bytes ss →
    ((x : Stream) → IsStream x → get_or pieces i d ≡ stream_bytes x → ◌≡◌ {A = Option Stream} None (Some x)) → ⊥
no_stream pieces i d ss lt h e none =
    let long : length ss ≡ length pieces = sym (ap length e ∙ length-map ss stream_bytes) in
    let inside : i < length ss = omega arith in
    let at : get_or pieces i d ≡ stream_bytes (get_or ss i nil) = ap (λ (cs : List (List ℕ)). get_or cs i d) e ∙ get_or-map stream_bytes ss i nil d inside in
    let k = none (get_or ss i nil) (each_at IsStream ss i nil h inside) at in absurd cc

-- the pieces of the bytes of streams are those of the streams
pub pieces_of : (bytes : List ℕ) (pieces : List (List ℕ)) (ss : List Stream) → pieces ≡ first_chunks 136 (length bytes / 136) bytes → AllByRecursion IsStream ss → bytes ≡ flat_map stream_bytes ss → pieces ≡ map stream_bytes ss
pieces_of bytes pieces ss is h e =
    let long : length bytes ≡ 136 * length ss = ap length e ∙ length-pieces 136 stream_bytes ss (streams_long ss h) in
    let count : length bytes / 136 ≡ length ss = omega arith in
    is ∙ (ap (λ (n : ℕ). first_chunks 136 n bytes) count ∙ (ap (first_chunks 136 (length ss)) e ∙ chunks-flat_map 136 stream_bytes ss (streams_long ss h)))

-- ---- what stands before the streams

pub saved_is : (ckpt : CkptPart) (saved : Option (List ℕ)) → IsSaved ckpt saved → length (saved_bytes saved) ≡ saved_long ckpt
saved_is Clear None h = refl
saved_is Clear (Some block) h = absurd h
saved_is (Held txg) None h = absurd h
saved_is (Held txg) (Some block) h = h.0
saved_is Discarding None h = refl
saved_is Discarding (Some block) h = absurd h

pub cond_some : (cond : Option CondAt) → 8 ≤ length (words (cond_words cond))
cond_some None = omega arith
cond_some (Some c) = omega arith

-- the bytes behind the front
abbrev pub rest_of : Option (List ℕ) → Option CondAt → List Stream → List ℕ
rest_of saved cond streams = saved_bytes saved ++ (words (cond_words cond) ++ flat_map stream_bytes streams)

pub rest_long : (ckpt : CkptPart) (saved : Option (List ℕ)) (cond : Option CondAt) (streams : List Stream) (bytes : List ℕ) → IsSaved ckpt saved → bytes ≡ rest_of saved cond streams → saved_long ckpt + 8 ≤ length bytes
rest_long ckpt saved cond streams bytes h e =
    let all = ap length e in
    let both = length-append (saved_bytes saved) (words (cond_words cond) ++ flat_map stream_bytes streams) in
    let more = length-append (words (cond_words cond)) (flat_map stream_bytes streams) in
    omega (arith, saved_is ckpt saved h, cond_some cond)

pub front_part : (ckpt : CkptPart) (saved : Option (List ℕ)) (cond : Option CondAt) (streams : List Stream) (bytes : List ℕ) → IsSaved ckpt saved → bytes ≡ rest_of saved cond streams → take (saved_long ckpt) bytes ≡ saved_bytes saved
front_part ckpt saved cond streams bytes h e = ap (take (saved_long ckpt)) e ∙ take_at (saved_bytes saved) _ (saved_long ckpt) (saved_is ckpt saved h)

pub cond_part : (ckpt : CkptPart) (saved : Option (List ℕ)) (cond : Option CondAt) (streams : List Stream) (bytes : List ℕ) → IsSaved ckpt saved → bytes ≡ rest_of saved cond streams → drop (saved_long ckpt) bytes ≡ words (cond_words cond) ++ flat_map stream_bytes streams
cond_part ckpt saved cond streams bytes h e = ap (drop (saved_long ckpt)) e ∙ drop_at (saved_bytes saved) _ (saved_long ckpt) (saved_is ckpt saved h)

abbrev made : Option (List ℕ) → Option CondAt → List Stream → Back
made saved cond streams = record { saved = saved; cond = cond; streams = streams }

pub same_back : (b : Back) (saved : Option (List ℕ)) (cond : Option CondAt) (streams : List Stream) → saved ≡ b.saved → cond ≡ b.cond → streams ≡ b.streams → made saved cond streams ≡ b
same_back b saved cond streams e1 e2 e3 = rw (e1, e2, e3) refl

-- what stands behind the word or words on condensing
pub behind_cond : (cond other : Option CondAt) (streams : List Stream) (rest behind : List ℕ) (n : ℕ) → n ≡ length (words (cond_words cond)) → cond ≡ other → rest ≡ words (cond_words other) ++ flat_map stream_bytes streams → behind ≡ drop n rest → behind ≡ flat_map stream_bytes streams
behind_cond cond other streams rest behind n count same e is =
    is ∙ (ap (drop n) e ∙ drop_at (words (cond_words other)) (flat_map stream_bytes streams) n (sym (count ∙ ap (λ (c : Option CondAt). length (words (cond_words c))) same)))

-- the parts that encoding puts
pub laid : (v0 v1 v2 v3 v4 f s c t : List ℕ) → v0 ≡ [] → v1 ≡ v0 ++ f → v2 ≡ v1 ++ s → v3 ≡ v2 ++ c → v4 ≡ v3 ++ t → v4 ≡ f ++ (s ++ (c ++ t))
laid v0 v1 v2 v3 v4 f s c t e0 e1 e2 e3 e4 =
    e4 ∙ (ap (λ (x : List ℕ). x ++ t) (e3 ∙ ap (λ (x : List ℕ). x ++ c) (e2 ∙ ap (λ (x : List ℕ). x ++ s) (e1 ∙ ap (λ (x : List ℕ). x ++ f) e0)))
    ∙ (append_assoc (f ++ s) c t ∙ append_assoc f s (c ++ t)))

-- ---- the whole

pub parts : (table : List DevRow) (bytes : List ℕ) (h : Head) → SpellsHead table bytes h → bytes ≡ front_bytes h.form h.ckpt h.dir ++ rest_of h.saved h.cond h.streams
unfolding head_bytes
parts table bytes h k = k.spelling

pub behind_front : (table : List DevRow) (bytes : List ℕ) (h : Head) → SpellsHead table bytes h → drop 160 bytes ≡ rest_of h.saved h.cond h.streams
behind_front table bytes h k =
    ap (drop 160) (parts table bytes h k)
    ∙ drop_at (front_bytes h.form h.ckpt h.dir) _ 160 (front_long h.form h.ckpt h.dir (root_lawful h.dir.height h.dir.root k.lawful.dir))

pub not_short : (table : List DevRow) (bytes : List ℕ) (h : Head) → SpellsHead table bytes h → 160 ≤ length bytes
not_short table bytes h k =
    let all = ap length (parts table bytes h k) in
    let both = length-append (front_bytes h.form h.ckpt h.dir) (rest_of h.saved h.cond h.streams) in
    omega (arith, front_long h.form h.ckpt h.dir (root_lawful h.dir.height h.dir.root k.lawful.dir))

abbrev whole : ℕ → Tree → Option (List ℕ) → CkptPart → Option CondAt → List Stream → Head
whole form dir saved ckpt cond streams = record { form = form; dir = dir; saved = saved; ckpt = ckpt; cond = cond; streams = streams }

pub same_head : (h : Head) (form : ℕ) (dir : Tree) (saved : Option (List ℕ)) (ckpt : CkptPart) (cond : Option CondAt) (streams : List Stream) →
    form ≡ h.form → dir ≡ h.dir → saved ≡ h.saved → ckpt ≡ h.ckpt → cond ≡ h.cond → streams ≡ h.streams → whole form dir saved ckpt cond streams ≡ h
same_head h form dir saved ckpt cond streams e1 e2 e3 e4 e5 e6 = rw (e1, e2, e3, e4, e5, e6) refl

-- what was found behind the front is the head's own
pub one_back : (table : List DevRow) (bytes rest : List ℕ) (ckpt : CkptPart) (found : Option Back) (h : Head) → IsOnlyBack ckpt rest found → rest ≡ drop 160 bytes → ckpt ≡ h.ckpt → SpellsHead table bytes h → found ≡ Some (made h.saved h.cond h.streams)
one_back table bytes rest ckpt found h only is same k =
    only (made h.saved h.cond h.streams) (subst (λ (c : CkptPart). IsSaved c h.saved) (sym same) k.lawful.saved) k.lawful.cond k.lawful.streams (is ∙ behind_front table bytes h k)

-- ---- one value

cond_at : List ℕ → Option CondAt
cond_at bytes = if word_at bytes 0 == 0 then None else Some (record { dev = word_at bytes 8; at = word_at bytes 16 })

same_cond : (c : CondAt) (dev at : ℕ) → dev ≡ c.dev → at ≡ c.at → ◌≡◌ {A = CondAt} (record { dev = dev; at = at }) c
same_cond c dev at e1 e2 = rw (e1, e2) refl

cond_back : (cond : Option CondAt) (rest : List ℕ) → IsCond cond → cond_at (words (cond_words cond) ++ rest) ≡ cond
unfolding cond_at
cond_back None rest h = refl
cond_back (Some c) rest h =
    ap (λ (d : CondAt). Some d) (same_cond c _ _ (word_back c.dev (word c.at ++ rest) (omega (arith, h.0))) (word_back c.at rest h.1))

same_stream : (s t : Stream) → IsStream s → IsStream t → stream_bytes s ≡ stream_bytes t → s ≡ t
same_stream s t h k e =
    stream_told (stream_bytes s) s.words s.tree.root s.tree.height (sym (stream_words (stream_bytes s) s h refl)) (stream_root (stream_bytes s) s h refl) (sym (level_is s.words s.tree.height s.tree.root h)) t k e

same_streams : (bytes : List ℕ) (ss ts : List Stream) → AllByRecursion IsStream ss → AllByRecursion IsStream ts → bytes ≡ flat_map stream_bytes ss → bytes ≡ flat_map stream_bytes ts → ss ≡ ts
same_streams bytes ss ts h k e f =
    same_map stream_bytes IsStream same_stream ss ts h k (sym (pieces_of bytes _ ss refl h e) ∙ pieces_of bytes _ ts refl k f)

same_saved : (ckpt : CkptPart) (a b : Option (List ℕ)) → IsSaved ckpt a → IsSaved ckpt b → saved_bytes a ≡ saved_bytes b → a ≡ b
same_saved Clear None None h k e = refl
same_saved Clear None (Some b) h k e = absurd k
same_saved Clear (Some a) b h k e = absurd h
same_saved (Held txg) None b h k e = absurd h
same_saved (Held txg) (Some a) None h k e = absurd k
same_saved (Held txg) (Some a) (Some b) h k e = ap (λ (t : List ℕ). Some t) e
same_saved Discarding None None h k e = refl
same_saved Discarding None (Some b) h k e = absurd k
same_saved Discarding (Some a) b h k e = absurd h

-- the parts behind the front, of which the bytes spell at most one each
same_rest : (ckpt : CkptPart) (bytes : List ℕ) (h k : Head) → IsSaved ckpt h.saved → IsSaved ckpt k.saved → IsCond h.cond → IsCond k.cond → AllByRecursion IsStream h.streams → AllByRecursion IsStream k.streams →
    bytes ≡ rest_of h.saved h.cond h.streams → bytes ≡ rest_of k.saved k.cond k.streams → (h.saved ≡ k.saved) × (h.cond ≡ k.cond) × (h.streams ≡ k.streams)
same_rest ckpt bytes h k hs ks hc kc hss kss e f =
    let hr = cond_part ckpt h.saved h.cond h.streams bytes hs e in
    let kr = cond_part ckpt k.saved k.cond k.streams bytes ks f in
    let cond : h.cond ≡ k.cond = sym (cond_back h.cond (flat_map stream_bytes h.streams) hc) ∙ (ap cond_at (sym hr ∙ kr) ∙ cond_back k.cond (flat_map stream_bytes k.streams) kc) in
    let n = length (words (cond_words h.cond)) in
    let behind = drop n (drop (saved_long ckpt) bytes) in (
      same_saved ckpt h.saved k.saved hs ks (sym (front_part ckpt h.saved h.cond h.streams bytes hs e) ∙ front_part ckpt k.saved k.cond k.streams bytes ks f),
      cond,
      same_streams behind h.streams k.streams hss kss (behind_cond h.cond h.cond h.streams _ behind n refl refl hr refl) (behind_cond h.cond k.cond k.streams _ behind n refl cond kr refl),
    )

-- a spelling has one value
pub one_head : (table other : List DevRow) (bytes : List ℕ) (h k : Head) → SpellsHead table bytes h → SpellsHead other bytes k → h ≡ k
one_head table other bytes h k hh kk =
    let hp = parts table bytes h hh in let kp = parts other bytes k kk in
    let hl = hh.lawful in let kl = kk.lawful in
    let form : h.form ≡ k.form = sym (form_told bytes h.form h.ckpt h.dir _ hl.oldest hl.newest hp) ∙ form_told bytes k.form k.ckpt k.dir _ kl.oldest kl.newest kp in
    let ckpt : h.ckpt ≡ k.ckpt = sym (ckpt_told bytes h.form h.ckpt h.dir _ (saved_fits h.ckpt h.saved hl.saved) hp) ∙ ckpt_told bytes k.form k.ckpt k.dir _ (saved_fits k.ckpt k.saved kl.saved) kp in
    let root = root_told bytes h.form h.ckpt h.dir _ (root_lawful h.dir.height h.dir.root hl.dir) hp in
    let height = height_told bytes h.form h.ckpt h.dir _ (omega (arith, hl.low)) hp in
    let small : h.dir.height < 2 ^ 32 = omega (arith, hl.low) in
    let dir : h.dir ≡ k.dir =
    sym (dir_told bytes h.dir.root h.dir.height h.form h.ckpt h.dir _ root (sym height) hl.dir small hp)
    ∙ dir_told bytes h.dir.root h.dir.height k.form k.ckpt k.dir _ root (sym height) kl.dir (omega (arith, kl.low)) kp in
    let rest = same_rest h.ckpt (drop 160 bytes) h k hl.saved (subst (λ (c : CkptPart). IsSaved c k.saved) (sym ckpt) kl.saved) hl.cond kl.cond hl.streams kl.streams (behind_front table bytes h hh) (behind_front other bytes k kk) in
    same_head k h.form h.dir h.saved h.ckpt h.cond h.streams form dir rest.0 ckpt rest.1 rest.2
