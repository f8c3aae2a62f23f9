-- What was written of a mapping, and what comes to it.
use Rattle.std.proofs.Common.{◌≡◌, ◌∙◌, ℕ, zero, suc, ◌+◌, ◌-◌, ◌*◌, ◌≤◌, ◌<◌, ◌^◌, Bool, true, false, List, [], ◌∷◌, ◌++◌, length, take, drop, get_or, refl, sym, ap, subst, arith, length-append}
use Rattle.std.specs.Prelude.{Vec}
use Rattle.std.specs.Global.{Global}
use Rattle.std.proofs.Math.Seq.{drop-append_seam}
use Rattle.std.specs.List.{AllByRecursion, flat_map}
use Rattle.std.proofs.lemmas.Grind.{flat_map-append}
use Rattle.std.proofs.lemmas.List.{append_assoc, append-nil, length-take, length-take-le, take_all, take_more, take-append-drop}
use Rattle.zr_base.specs.declared.space.Entry.{Entry}
use Rattle.zr_rules.specs.Logs.{IsStorable, entry_words}
use Rattle.zr_sync.specs.Mappings.{HasFirst, IsEnd, IsSpelled, mapping_words, words_for}
use Rattle.zr_sync.specs.Words.{words_then}
use Rattle.zr_sync.specs.declared.mappings.MappingStream.{MappingStream}
use Rattle.zr_sync.specs.declared.mappings.MappingStream.TheVariants.{Entries, Counts}
use Rattle.zr_sync.specs.declared.words.LogWords.{LogWords}
use Rattle.zr_sync.specs.declared.words.LogWords.TheVariants.{Anew}

pub three_each : (es : List Entry) → length (flat_map entry_words es) ≡ 3 * length es
three_each [] = refl
three_each (e ∷ es) =
    let more = three_each es in
    let both = length-append (entry_words e) (flat_map entry_words es) in
    omega (arith, more, both)

pub storable_drop : (n : ℕ) (es : List Entry) → AllByRecursion IsStorable es → AllByRecursion IsStorable (drop n es)
storable_drop zero es all = all
storable_drop (suc n) [] all = tt
storable_drop (suc n) (e ∷ es) all = storable_drop n es all.1

-- the words of the first entries, and of those behind them
words_split : (which : MappingStream) (entries : List Entry) (counts : List ℕ) (n : ℕ) → mapping_words which (take n entries) (take n counts) ++ mapping_words which (drop n entries) (drop n counts) ≡ mapping_words which entries counts
words_split Entries entries counts n = sym (flat_map-append entry_words (take n entries) (drop n entries)) ∙ ap (λ (es : List Entry). flat_map entry_words es) (take-append-drop n entries)
words_split Counts entries counts n = take-append-drop n counts

-- where so many words are those of the first entries, that many entries have them
end_is : (which : MappingStream) (entries : List Entry) (counts : List ℕ) (n words from : ℕ) → n ≤ length entries → length counts ≡ length entries → words ≡ length (mapping_words which (take n entries) (take n counts)) → IsEnd which words from → from ≡ n
end_is Entries entries counts n words from le each long end =
    let few = length-take n entries in
    let three = three_each (take n entries) in
    omega (arith, few, three, le, long, end)
end_is Counts entries counts n words from le each long end =
    let few = length-take n counts in
    omega (arith, few, le, each, long, end)

-- words that come behind the first ones are those of the whole mapping
pub grown : (which : MappingStream) (entries : List Entry) (counts had added : List ℕ) (old from : ℕ) (words : LogWords) → length counts ≡ length entries → length had ≡ old → HasFirst which entries counts had → IsEnd which old from
    → added ≡ mapping_words which (drop from entries) (drop from counts) → words_then had words ≡ had ++ added → words_then had words ≡ mapping_words which entries counts
grown which entries counts had added old from words each long first end added_is then =
    let n = first.0 in
    let same : from ≡ n = end_is which entries counts n old from first.1 each (sym long ∙ ap (λ (ws : List ℕ). length ws) first.2) end in
    then
    ∙ (ap (λ (ws : List ℕ). ws ++ added) first.2
    ∙ (ap (λ (ws : List ℕ). mapping_words which (take n entries) (take n counts) ++ ws) (added_is ∙ ap (λ (k : ℕ). mapping_words which (drop k entries) (drop k counts)) same) ∙ words_split which entries counts n))

-- all words are those from the first entry on
pub all_anew : (which : MappingStream) (entries : List Entry) (counts added : List ℕ) (from : ℕ) → from ≡ 0 → added ≡ mapping_words which (drop from entries) (drop from counts) → added ≡ mapping_words which entries counts
all_anew which entries counts added from none is = is ∙ ap (λ (k : ℕ). mapping_words which (drop k entries) (drop k counts)) none

-- they fit into a stream
pub room_fits : (which : MappingStream) (old entries from n : ℕ) (anew : Bool) → entries ≤ 2 ^ 32 → from ≤ entries → (anew ≡ false → IsEnd which old from) → n ≡ words_for which (entries - from) → (anew ≡ false → old + n ≤ 2 ^ 34) × (n ≤ 2 ^ 34)
room_fits Entries old entries from n anew few within end count = (λ is. let e = end is in omega (arith, few, within, e, count), omega (arith, few, within, count))
room_fits Counts old entries from n anew few within end count = (λ is. let e = end is in omega (arith, few, within, e, count), omega (arith, few, within, count))

-- what the stream becomes has the words of the whole mapping
pub becomes_words : (which : MappingStream) (entries : List Entry) (counts had : List ℕ) (old from : ℕ) (asked anew : Bool) (added : Vec ℕ Global) (words : LogWords) → IsSpelled entries counts → length had ≡ old → (asked ≡ false → HasFirst which entries counts had)
    → (anew ≡ true → from ≡ 0) → (anew ≡ false → (asked ≡ false) × IsEnd which old from) → added.items ≡ mapping_words which (drop from entries) (drop from counts)
    → (anew ≡ true → words ≡ Anew added) → (anew ≡ false → (ws : List ℕ) → words_then ws words ≡ ws ++ added.items) → words_then had words ≡ mapping_words which entries counts
becomes_words which entries counts had old from asked true added words spelled long first none end is whole grows =
    ap (λ (w : LogWords). words_then had w) (whole refl) ∙ all_anew which entries counts added.items from (none refl) is
becomes_words which entries counts had old from asked false added words spelled long first none end is whole grows =
    let e = end refl in
    grown which entries counts had added.items old from words spelled.each long (first e.0) e.1 is (grows refl had)

-- ---- loops

pub storable_at : (es : List Entry) (i : ℕ) (d : Entry) → i < length es → AllByRecursion IsStorable es → IsStorable (get_or es i d)
storable_at [] i d lt all = absurd (omega (arith, lt))
storable_at (e ∷ es) zero d lt all = all.0
storable_at (e ∷ es) (suc i) d lt all = storable_at es i d (omega (arith, lt)) all.1

pub words_more : (es : List Entry) (i : ℕ) (d : Entry) (ws vs : List ℕ) → i < length es → ws ≡ flat_map entry_words (take i es) → vs ≡ entry_words (get_or es i d) → ws ++ vs ≡ flat_map entry_words (take (i + 1) es)
words_more es i d ws vs lt had came =
    ap (λ (xs : List ℕ). xs ++ vs) had
    ∙ (ap (λ (xs : List ℕ). flat_map entry_words (take i es) ++ xs) (came ∙ sym (append-nil (entry_words (get_or es i d))))
    ∙ (sym (flat_map-append entry_words (take i es) (get_or es i d ∷ [])) ∙ ap (λ (xs : List Entry). flat_map entry_words xs) (sym (take_more es i d lt))))

pub tail_more : (es tail : List Entry) (from i : ℕ) (d : Entry) → i < length es → take i es ≡ take from es ++ tail → take (i + 1) es ≡ take from es ++ (tail ++ get_or es i d ∷ [])
tail_more es tail from i d lt had =
    take_more es i d lt ∙ (ap (λ (xs : List Entry). xs ++ get_or es i d ∷ []) had ∙ append_assoc (take from es) tail (get_or es i d ∷ []))

pub tail_all : (es tail : List Entry) (from i : ℕ) → from ≤ length es → length es ≤ i → take i es ≡ take from es ++ tail → tail ≡ drop from es
tail_all es tail from i within past had =
    let all : es ≡ take from es ++ tail = sym (take_all i es past) ∙ had in
    let seam = drop-append_seam (take from es) tail in
    let long = length-take-le from es within in
    sym (ap (λ (xs : List Entry). drop from xs) all ∙ subst (λ (n : ℕ). drop n (take from es ++ tail) ≡ tail) long seam)
