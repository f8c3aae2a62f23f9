-- Where an entry stands in pages of 170, and what one more entry or page does to them.
use Rattle.std.proofs.Common.{◌≡◌, ◌⊎◌, inl, inr, ℕ, zero, suc, ◌+◌, ◌-◌, ◌*◌, ◌<◌, ◌≤◌, ◌^◌, List, [], ◌∷◌, ◌++◌, length, set, refl, sym, ◌∙◌, ap, arith, append_assoc, length-append, subst}
use Rattle.std.proofs.lemmas.List.{append-nil, get_or_append_left, get_or-append-add}
use Rattle.std.proofs.lemmas.List.Sums.{sum_by-cons}
use Rattle.zr_base.specs.declared.space.Entry.{Entry}
use Rattle.zr_rules.specs.Mappings.{entry_at, IsRisingFrom, mapped_units}
use Rattle.zr_imap.specs.Pages.{all_of, page_at, ArePages}

-- where entry r of page k stands among all
pub record IsPlaced (pages : List (List Entry)) (k r : ℕ) : Type 0 where
  pub page : k < length pages
  pub within : r < length (page_at pages k)
  pub same : entry_at (page_at pages k) r ≡ entry_at (all_of pages) (170 * k + r)

zero_place : (r : ℕ) → 170 * 0 + r ≡ r
zero_place r = omega arith

pub placed : (pages : List (List Entry)) (k r : ℕ) → ArePages pages → r < 170 → 170 * k + r < length (all_of pages) → IsPlaced pages k r
placed [] k r are lt here = absurd (omega arith)
placed (page ∷ []) zero r are lt here =
    let len = length-append page [] in
    record { page = omega arith; within = omega (arith, len); same = sym (ap (λ (i : ℕ). entry_at (page ++ []) i) (zero_place r) ∙ ap (λ (es : List Entry). entry_at es r) (append-nil page)) }
placed (page ∷ []) (suc k) r are lt here = absurd (omega (arith, length-append page []))
placed (page ∷ (next ∷ pages)) zero r are lt here =
    record { page = omega arith; within = omega (arith, are.0); same = sym (ap (λ (i : ℕ). entry_at (page ++ all_of (next ∷ pages)) i) (zero_place r) ∙ get_or_append_left page (all_of (next ∷ pages)) _ r (omega (arith, are.0))) }
placed (page ∷ (next ∷ pages)) (suc k) r are lt here =
    let rest = placed (next ∷ pages) k r are.1 lt (omega (arith, are.0, length-append page (all_of (next ∷ pages)))) in
    let at : 170 * suc k + r ≡ length page + (170 * k + r) = omega (arith, are.0) in
    record {
      page = omega (arith, rest.page);
      within = rest.within;
      same = rest.same ∙ sym (get_or-append-add page (all_of (next ∷ pages)) (170 * k + r) _) ∙ ap (λ (i : ℕ). entry_at (page ++ all_of (next ∷ pages)) i) (sym at);
    }

-- one entry more in the last page
pub record HasMore (pages new : List (List Entry)) (e : Entry) : Type 0 where
  pub are : ArePages new
  pub all : all_of new ≡ all_of pages ++ e ∷ []

pub pushed : (pages : List (List Entry)) (n : ℕ) (e : Entry) → ArePages pages → length pages ≡ suc n → length (page_at pages n) < 170 → HasMore pages (set pages n (page_at pages n ++ e ∷ [])) e
pushed [] n e are len room = absurd (omega arith)
pushed (page ∷ []) zero e are len room = record {
  are = omega (arith, length-append page (e ∷ []));
  all = append-nil (page ++ e ∷ []) ∙ ap (λ (es : List Entry). es ++ e ∷ []) (sym (append-nil page));
}
pushed (page ∷ []) (suc n) e are len room = absurd (omega arith)
pushed (page ∷ (next ∷ pages)) zero e are len room = absurd (omega arith)
pushed (page ∷ (next ∷ pages)) (suc n) e are len room =
    let rest = pushed (next ∷ pages) n e are.1 (omega arith) room in
    record {
      are = cons_pages page (next ∷ pages) n (page_at (next ∷ pages) n ++ e ∷ []) are.0 rest.are;
      all = ap (λ (es : List Entry). page ++ es) rest.all ∙ sym (append_assoc page (all_of (next ∷ pages)) (e ∷ []));
    }
  where
    cons_pages : (page : List Entry) (pages : List (List Entry)) (n : ℕ) (new : List Entry) → length page ≡ 170 → ArePages (set pages n new) → ArePages (page ∷ set pages n new)
    cons_pages page [] n new full are = omega arith
    cons_pages page (p ∷ pages) zero new full are = (full, are)
    cons_pages page (p ∷ pages) (suc n) new full are = (full, are)

-- an empty page more, where the last one is full
pub record HasRoom (pages : List (List Entry)) : Type 0 where
  pub are : ArePages (pages ++ [] ∷ [])
  pub all : all_of (pages ++ [] ∷ []) ≡ all_of pages

pub first_page : HasRoom []
first_page = record { are = omega arith; all = refl }

pub next_page : (pages : List (List Entry)) (n : ℕ) → ArePages pages → length pages ≡ suc n → length (page_at pages n) ≡ 170 → HasRoom pages
next_page [] n are len full = absurd (omega arith)
next_page (page ∷ []) zero are len full = record { are = (full, omega arith); all = refl }
next_page (page ∷ []) (suc n) are len full = absurd (omega arith)
next_page (page ∷ (next ∷ pages)) zero are len full = absurd (omega arith)
next_page (page ∷ (next ∷ pages)) (suc n) are len full =
    let rest = next_page (next ∷ pages) n are.1 (omega arith) full in
    record { are = (are.0, rest.are); all = ap (λ (es : List Entry). page ++ es) rest.all }

-- a rising mapping has fewer entries than units
pub few : (low : ℕ) (xs : List Entry) → IsRisingFrom low xs → low ≤ 2 ^ 62 → length xs + low ≤ 2 ^ 62
few low [] m le = omega arith
few low (x ∷ xs) m le = let some : 0 < x.len = m.1.not_empty in let ends : x.src + x.len ≤ 2 ^ 62 = m.1.source in omega (arith, few (x.src + x.len) xs m.2 ends, m.0)

all_full : (pages : List (List Entry)) (n : ℕ) → ArePages pages → length pages ≡ suc n → length (page_at pages n) ≡ 170 → length (all_of pages) ≡ 170 * length pages
all_full [] n are len full = absurd (omega arith)
all_full (page ∷ []) zero are len full = omega (arith, length-append page [], full)
all_full (page ∷ []) (suc n) are len full = absurd (omega arith)
all_full (page ∷ (next ∷ pages)) zero are len full = absurd (omega arith)
all_full (page ∷ (next ∷ pages)) (suc n) are len full =
    omega (arith, are.0, length-append page (all_of (next ∷ pages)), all_full (next ∷ pages) n are.1 (omega arith) full)

-- pages that are all full, or none, and what one empty page more makes of them
pub record IsOpened (pages new : List (List Entry)) : Type 0 where
  pub are : ArePages new
  pub all : all_of new ≡ all_of pages
  pub total : length (all_of pages) ≡ 170 * length pages
  pub count : length new ≡ length pages + 1
  pub empty : page_at new (length pages) ≡ []

last_page : (pages : List (List Entry)) → (length (pages ++ [] ∷ []) ≡ length pages + 1) × (page_at (pages ++ [] ∷ []) (length pages) ≡ [])
last_page [] = (omega arith, refl)
last_page (page ∷ pages) = let rest = last_page pages in (omega (arith, rest.0), rest.1)

opens : (pages : List (List Entry)) → ArePages pages → (pages ≡ []) ⊎ (length (page_at pages (length pages - 1)) ≡ 170) → IsOpened pages (pages ++ [] ∷ [])
opens [] are full = record { are = first_page.are; all = refl; total = omega arith; count = omega arith; empty = refl }
opens (page ∷ pages) are (inl none) = absurd (cc)
opens (page ∷ pages) are (inr full) =
    let n : ℕ = length pages in
    let is : length (page ∷ pages) - 1 ≡ length pages = omega arith in
    let last : length (page_at (page ∷ pages) (length pages)) ≡ 170 = subst (λ (i : ℕ). length (page_at (page ∷ pages) i) ≡ 170) is full in
    let more = next_page (page ∷ pages) (length pages) are refl last in
    let end = last_page (page ∷ pages) in
    record { are = more.are; all = more.all; total = all_full (page ∷ pages) (length pages) are refl last; count = end.0; empty = end.1 }

pub opens_to : (pages new : List (List Entry)) (n : ℕ) → ArePages pages → n ≡ length pages → (pages ≡ []) ⊎ (length (page_at pages (n - 1)) ≡ 170) → new ≡ pages ++ [] ∷ [] → IsOpened pages new
opens_to pages new n are len full is =
    subst (λ (to : List (List Entry)). IsOpened pages to) (sym is)
    (opens pages are (subst (λ (i : ℕ). (pages ≡ []) ⊎ (length (page_at pages (i - 1)) ≡ 170)) len full))

pub pushed_to : (pages new : List (List Entry)) (n : ℕ) (e : Entry) → ArePages pages → n ≡ length pages → 0 < n → length (page_at pages (n - 1)) < 170 → new ≡ set pages (n - 1) (page_at pages (n - 1) ++ e ∷ []) → HasMore pages new e
pushed_to pages new n e are len some room is = subst (λ (to : List (List Entry)). HasMore pages to e) (sym is) (pushed pages (n - 1) e are (omega arith) room)

pub is_total : (pages : List (List Entry)) (n : ℕ) → ArePages pages → n ≡ length pages → (pages ≡ []) ⊎ (length (page_at pages (n - 1)) ≡ 170) → length (all_of pages) ≡ 170 * n
is_total pages n are len full = let more = opens_to pages (pages ++ [] ∷ []) n are len full refl in omega (arith, more.total, len)

mapped_cons : (x : Entry) (xs : List Entry) → mapped_units (x ∷ xs) ≡ x.len + mapped_units xs
mapped_cons x xs = sum_by-cons (λ (e : Entry). e.len) x xs

-- the units of a rising mapping lie below 2 ^ 62
pub mapped_few : (low : ℕ) (xs : List Entry) → IsRisingFrom low xs → low ≤ 2 ^ 62 → mapped_units xs + low ≤ 2 ^ 62
mapped_few low [] m le = omega arith
mapped_few low (x ∷ xs) m le = let ends : x.src + x.len ≤ 2 ^ 62 = m.1.source in omega (arith, mapped_few (x.src + x.len) xs m.2 ends, m.0, mapped_cons x xs)

pub mapped_more : (xs : List Entry) (e : Entry) → mapped_units (xs ++ e ∷ []) ≡ mapped_units xs + e.len
mapped_more [] e = omega arith
mapped_more (x ∷ xs) e = omega (arith, mapped_more xs e, mapped_cons x xs, mapped_cons x (xs ++ e ∷ []))
