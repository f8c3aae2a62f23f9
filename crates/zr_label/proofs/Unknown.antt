-- Roots of an unknown version.
use Rattle.std.proofs.Common.{◌≡◌, ◌≢◌, ℕ, ◌^◌, ◌<◌, List, [], ◌∷◌, ◌++◌, length, take, drop, codes, Bool, true, false, not, refl, sym, ap, ◌∙◌, arith}
use Rattle.std.specs.Str.{bytes_eq}
use Rattle.std.proofs.lemmas.Slice.Eq.{bytes_eq-Decides}
use Rattle.std.proofs.lemmas.List.{take_all, take-append-drop, length-drop}
use Rattle.sha2.specs.Sha256.{sha256}
use Rattle.zr_base.specs.Words.{words}
use Rattle.zr_bptr.specs.Fields.{word_at}
use Rattle.zr_bptr.proofs.Spelled.{word_back, was_other}
use Rattle.zr_label.specs.declared.root.Newer.{Newer}
use Rattle.zr_label.specs.Blocks.{SpellsNewer}

abbrev begin : ℕ → ℕ → ℕ → List ℕ
begin version txg guid = codes "zr-uber1" ++ words (version ∷ txg ∷ guid ∷ [])

newer_version : (block : List ℕ) (guid version txg : ℕ) → SpellsNewer block guid version txg → word_at block 8 ≡ version
newer_version block guid version txg h = ap (λ (t : List ℕ). word_at t 8) h.spelling ∙ word_back version (drop 16 (begin version txg guid ++ h.rest)) h.version_fits

newer_txg : (block : List ℕ) (guid version txg : ℕ) → SpellsNewer block guid version txg → word_at block 16 ≡ txg
newer_txg block guid version txg h = ap (λ (t : List ℕ). word_at t 16) h.spelling ∙ word_back txg (drop 24 (begin version txg guid ++ h.rest)) h.txg_fits

newer_front : (block : List ℕ) (guid version txg : ℕ) → SpellsNewer block guid version txg → take 32 block ≡ begin version txg guid
newer_front block guid version txg h = ap (take 32) h.spelling

not_false : (b : Bool) → not b ≡ false → b ≡ true
not_false true e = refl
not_false false e = sym e

was_same : (a b : List ℕ) (t : Bool) → t ≡ not (bytes_eq a b) → t ≡ false → a ≡ b
was_same a b t is failed = (bytes_eq-Decides a b).0 (not_false (bytes_eq a b) (sym is ∙ failed))

-- the block begins otherwise
pub other_front : (block front : List ℕ) (guid v t : ℕ) (b : Bool) → v ≡ word_at block 8 → t ≡ word_at block 16 → front ≡ begin v t guid → b ≡ not (bytes_eq front (take 32 block)) → b ≡ true →
    (x : Newer) → SpellsNewer block guid x.version x.txg → ⊥
other_front block front guid v t b v-is t-is is test passed x h =
    was_other _ _ _ test passed
    (is ∙ (ap (λ (n : ℕ). begin n t guid) (v-is ∙ newer_version block guid x.version x.txg h)
    ∙ (ap (λ (n : ℕ). begin x.version n guid) (t-is ∙ newer_txg block guid x.version x.txg h) ∙ sym (newer_front block guid x.version x.txg h))))

last_is : (block : List ℕ) → length block ≡ 4096 → take 32 (drop 4064 block) ≡ drop 4064 block
last_is block long = take_all 32 (drop 4064 block) (omega (arith, length-drop 4064 block))

-- the block has another sum
pub other_sum : (block sum : List ℕ) (guid : ℕ) (b : Bool) → length block ≡ 4096 → sum ≡ sha256 (take 4064 block) → b ≡ not (bytes_eq sum (take 32 (drop 4064 block))) → b ≡ true →
    (x : Newer) → SpellsNewer block guid x.version x.txg → ⊥
other_sum block sum guid b long is test passed x h = was_other _ _ _ test passed (is ∙ (sym h.sum ∙ sym (last_is block long)))

-- the block is such a root
pub is_newer : (block front sum : List ℕ) (guid v t : ℕ) (b d : Bool) → length block ≡ 4096 → v ≢ 1 → v ≢ 2 → v < 2 ^ 64 → t < 2 ^ 64 → front ≡ begin v t guid → b ≡ not (bytes_eq front (take 32 block)) → b ≡ false →
    sum ≡ sha256 (take 4064 block) → d ≡ not (bytes_eq sum (take 32 (drop 4064 block))) → d ≡ false → SpellsNewer block guid v t
is_newer block front sum guid v t b d long one two v_fits t_fits is test failed sum-is test2 failed2 = record {
  unknown = (one, two);
  version_fits = v_fits;
  txg_fits = t_fits;
  rest = drop 32 block;
  spelling = sym (take-append-drop 32 block) ∙ ap (λ (s : List ℕ). s ++ drop 32 block) (sym (was_same front (take 32 block) b test failed) ∙ is);
  sum = sym (last_is block long) ∙ (sym (was_same sum _ d test2 failed2) ∙ sum-is);
}
