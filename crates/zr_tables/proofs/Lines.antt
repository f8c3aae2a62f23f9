-- Lines by index.
use Rattle.std.proofs.Common.{◌≡◌, ℕ, zero, suc, ◌+◌, ◌<◌, ◌≤◌, Bool, true, false, not, List, [], ◌∷◌, ◌++◌, map, length, refl, ◌∙◌, sym, ap, arith}
use Rattle.std.specs.Prelude.{if◌then◌else◌, slice_index}
use Rattle.std.specs.List.{filter, range_with_len}
use Rattle.std.proofs.lemmas.List.{append-nil, append_assoc, map-append, map-id}
use Rattle.std.proofs.lemmas.List.FromFn.{filter_of_map_range_with_len_more, get_or-map-range_with_len, length-map-range_with_len, map-range_with_len_more}
use Rattle.zr_audit.specs.Found.{for_each_device}
use Rattle.zr_rules.specs.Places.{is_gone, state_of_dev}
use Rattle.zr_rules.specs.Space.{Space}
use Rattle.zr_script.specs.declared.reply.AuditLine.{AuditLine}
use Rattle.zr_script.specs.declared.reply.MapLine.{MapLine}
use Rattle.zr_tables.specs.Audits.{audit_line, concrete, lines_from}

-- one line more
pub line_more : {X : Type 0} (f : ℕ → X) (d : ℕ) (x : X) (old new : List X) → x ≡ f d → old ≡ map f (range_with_len 0 d) → new ≡ old ++ x ∷ [] → new ≡ map f (range_with_len 0 (d + 1))
line_more f d x old new is before after = after ∙ (rw before rw is (sym (map-range_with_len_more f 0 d d (omega arith))))

twice : {X Y : Type 0} (g : X → Y) (f : ℕ → X) (ds : List ℕ) → map g (map f ds) ≡ map (λ d. g (f d)) ds
twice g f [] = refl
twice {X} {Y} g f (d ∷ ds) = ap (λ (ys : List Y). g (f d) ∷ ys) (twice g f ds)

-- ---- lines of the devices that are not gone

abbrev pub there : Space → ℕ → Bool
there s d = not (is_gone (state_of_dev s.parts.devs d))

filter_more : (p : ℕ → Bool) (n : ℕ) → filter p (range_with_len 0 (n + 1)) ≡ filter p (range_with_len 0 n) ++ (if p n then n ∷ [] else [])
filter_more p n =
    let all = filter_of_map_range_with_len_more p (λ (d : ℕ). d) 0 n n (omega arith) in
    ap (filter p) (sym (map-id (range_with_len 0 (n + 1)))) ∙ (all ∙ ap (λ (xs : List ℕ). filter p xs ++ (if p n then n ∷ [] else [])) (map-id (range_with_len 0 n)))

-- a device more, which has a line
pub line_there : {X : Type 0} (p : ℕ → Bool) (f : ℕ → X) (d : ℕ) (x : X) (old new : List X) → p d ≡ true → x ≡ f d → old ≡ map f (filter p (range_with_len 0 d)) → new ≡ old ++ x ∷ [] → new ≡ map f (filter p (range_with_len 0 (d + 1)))
line_there p f d x old new has is before after =
    let one : filter p (range_with_len 0 (d + 1)) ≡ filter p (range_with_len 0 d) ++ d ∷ [] = filter_more p d ∙ ap (λ (b : Bool). filter p (range_with_len 0 d) ++ (if b then d ∷ [] else [])) has in
    after ∙ (rw before rw is (sym (ap (map f) one ∙ map-append f (filter p (range_with_len 0 d)) (d ∷ []))))

-- or none
pub line_none : {X : Type 0} (p : ℕ → Bool) (f : ℕ → X) (d : ℕ) (old : List X) → p d ≡ false → old ≡ map f (filter p (range_with_len 0 d)) → old ≡ map f (filter p (range_with_len 0 (d + 1)))
line_none p f d old lacks before =
    let none : filter p (range_with_len 0 (d + 1)) ≡ filter p (range_with_len 0 d) = filter_more p d ∙ (ap (λ (b : Bool). filter p (range_with_len 0 d) ++ (if b then d ∷ [] else [])) lacks ∙ append-nil (filter p (range_with_len 0 d))) in
    before ∙ sym (ap (map f) none)

pub lines_done : {X : Type 0} (p : ℕ → Bool) (f : ℕ → X) (d n many : ℕ) (lines : List X) → n ≡ many → n ≤ d → d ≤ n → lines ≡ map f (filter p (range_with_len 0 d)) → lines ≡ map f (filter p (range_with_len 0 many))
lines_done p f d n many lines is low high so_far = let all : d ≡ many = omega (arith, is, low, high) in so_far ∙ ap (λ (k : ℕ). map f (filter p (range_with_len 0 k))) all

-- the same of two functions that agree below a number
pub filter_same : {X : Type 0} (p : ℕ → Bool) (f g : ℕ → X) (a n : ℕ) → ((d : ℕ) → d < a + n → f d ≡ g d) → map f (filter p (range_with_len a n)) ≡ map g (filter p (range_with_len a n))
filter_same p f g a zero same = refl
filter_same {X} p f g a (suc n) same =
    let rest = filter_same p f g (a + 1) n (λ d lt. same d (omega (arith, lt))) in
    let first = same a (omega arith) in
    (elim (p a) as (λ (b : Bool). map f (if b then a ∷ filter p (range_with_len (a + 1) n) else filter p (range_with_len (a + 1) n)) ≡ map g (if b then a ∷ filter p (range_with_len (a + 1) n) else filter p (range_with_len (a + 1) n))) [
      | true ↦ ap (λ (x : X). x ∷ map f (filter p (range_with_len (a + 1) n))) first ∙ ap (λ (xs : List X). g a ∷ xs) rest
      | false ↦ rest
    ])

-- a number for each device is read at its index
pub read_each : (s : Space) (f : ℕ → ℕ) (numbers : List ℕ) → numbers ≡ for_each_device s f → map (slice_index numbers) (concrete s) ≡ map f (concrete s)
read_each s f numbers are =
    filter_same (there s) (slice_index numbers) f 0 (length s.parts.devs)
    (λ d lt. ap (λ (xs : List ℕ). slice_index xs d) are ∙ get_or-map-range_with_len f 0 (length s.parts.devs) d d 0 (omega (arith, lt)) (omega arith))

pub indices_are : (s : Space) (walked allocated : List ℕ) → map (λ (l : AuditLine). l.index) (lines_from s walked allocated) ≡ concrete s
indices_are s walked allocated = twice (λ (l : AuditLine). l.index) (audit_line walked allocated) (concrete s) ∙ map-id (concrete s)

pub walked_are : (s : Space) (walked allocated : List ℕ) → map (λ (l : AuditLine). l.walked) (lines_from s walked allocated) ≡ map (slice_index walked) (concrete s)
walked_are s walked allocated = twice (λ (l : AuditLine). l.walked) (audit_line walked allocated) (concrete s)

pub allocated_are : (s : Space) (walked allocated : List ℕ) → map (λ (l : AuditLine). l.allocated) (lines_from s walked allocated) ≡ map (slice_index allocated) (concrete s)
allocated_are s walked allocated = twice (λ (l : AuditLine). l.allocated) (audit_line walked allocated) (concrete s)

-- a number for each device, where the space is the same
pub as_many : (s t : Space) (f : ℕ → ℕ) (numbers : List ℕ) → s ≡ t → numbers ≡ for_each_device s f → length numbers ≡ length t.parts.devs
as_many s t f numbers is are = ap length are ∙ (length-map-range_with_len f 0 (length s.parts.devs) ∙ ap (λ (x : Space). length x.parts.devs) is)

-- one entry more
pub entry_more : (f : ℕ → MapLine) (i : ℕ) (x : MapLine) (first old new : List MapLine) → x ≡ f i → old ≡ first ++ map f (range_with_len 0 i) → new ≡ old ++ x ∷ [] → new ≡ first ++ map f (range_with_len 0 (i + 1))
entry_more f i x first old new is before after =
    after ∙ (ap (λ (l : List MapLine). l ++ x ∷ []) before ∙ (append_assoc first (map f (range_with_len 0 i)) (x ∷ [])
    ∙ ap (λ (l : List MapLine). first ++ l) (ap (λ (y : MapLine). map f (range_with_len 0 i) ++ y ∷ []) is ∙ sym (map-range_with_len_more f 0 i i (omega arith)))))
