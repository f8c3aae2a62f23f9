-- The words of a mapping, piece by piece.
use Rattle.std.proofs.Common.{◌≡◌, ℕ, ◌*◌, ◌/◌, ◌%◌, ◌<◌, List, [], ◌∷◌, length, get_or, Option, Some, None, refl, sym, ap, ◌∙◌, arith}
use Rattle.std.specs.List.{flat_map}
use Rattle.std.specs.Simd.{first_chunks}
use Rattle.std.proofs.lemmas.List.{length-map, get_or-map}
use Rattle.zr_base.specs.Readers.{Reads}
use Rattle.zr_base.specs.declared.space.Entry.{Entry}
use Rattle.zr_bptr.proofs.Pieces.{AreLong, chunks-flat_map, length-pieces, joined, flat_map-map, each_at}
use Rattle.zr_rules.specs.Logs.{IsStorable, SpellsEntries, SpellsCounts, entry_words}
use Rattle.zr_meta.specs.Streams.{SpellsEntry, SpellsEachEntry, SpellsMapping}
use Rattle.zr_meta.specs.declared.map.Mapping.{Mapping}

abbrev nil : Entry
nil = record { src = 0; dev = 0; dst = 0; len = 0 }

entries_long : (es : List Entry) → AreLong 3 entry_words es
entries_long [] = tt
entries_long (e ∷ es) = (refl, entries_long es)

-- a piece that spells no entry
pub no_entry : (pieces : List (List ℕ)) (i : ℕ) (d : List ℕ) → i < length pieces → ((e : Entry) → SpellsEntry (get_or pieces i d) e → ⊥) → (es : List Entry) → SpellsEachEntry pieces es → ⊥
no_entry pieces i d lt none es h =
    let long : length es ≡ length pieces = sym (ap length h.spelling ∙ length-map es entry_words) in
    let inside : i < length es = omega arith in
    let at : get_or pieces i d ≡ entry_words (get_or es i nil) = ap (λ (cs : List (List ℕ)). get_or cs i d) h.spelling ∙ get_or-map entry_words es i nil d inside in
    none (get_or es i nil) (record { lawful = each_at IsStorable es i nil h.lawful inside; spelling = at })

entries_size : (words : List ℕ) (es : List Entry) → SpellsEntries words es → length words ≡ 3 * length es
entries_size words es h = ap length h.spelling ∙ length-pieces 3 entry_words es (entries_long es)

pub by_threes : (words : List ℕ) (es : List Entry) → SpellsEntries words es → length words % 3 ≡ 0
by_threes words es h = omega (arith, entries_size words es h)

pub read_entries : (words : List ℕ) (pieces : List (List ℕ)) (found : Option (List Entry)) → length words % 3 ≡ 0 → pieces ≡ first_chunks 3 (length words / 3) words →
    Reads (SpellsEachEntry pieces) found → Reads (SpellsEntries words) found
read_entries words pieces None whole is h = λ es k.
    let count : length words / 3 ≡ length es = omega (arith, entries_size words es k) in
    h es (record {
      lawful = k.lawful;
      spelling = is ∙ (ap (λ (n : ℕ). first_chunks 3 n words) count ∙ (ap (first_chunks 3 (length es)) k.spelling ∙ chunks-flat_map 3 entry_words es (entries_long es)));
    })
read_entries words pieces (Some es) whole is h =
    let size : length words ≡ 3 * (length words / 3) = omega arith in
    record {
      lawful = h.lawful;
      spelling = sym (joined 3 (length words / 3) words size) ∙ (ap (flat_map (λ (c : List ℕ). c)) (sym is ∙ h.spelling) ∙ flat_map-map entry_words es);
    }

-- where a mapping is spelled, there are as many counts as entries
pub same_size : (entries counts : List ℕ) (m : Mapping) (es : List Entry) (cs : List ℕ) → SpellsMapping entries counts m → SpellsEntries entries es → SpellsCounts counts cs → length es ≡ length cs
same_size entries counts m es cs h e c =
    let a = entries_size entries es e in let b = entries_size entries m.entries h.entries_are in
    let d : length cs ≡ length m.counts = ap length (sym c.spelling ∙ h.counts_are.spelling) in
    omega (arith, h.each)
