-- All extents of a node, by those below its page, its page, and those above it.
use Rattle.std.proofs.Common.{◌≡◌, ℕ, ◌<◌, ◌≤◌, List, [], ◌∷◌, ◌++◌, length, refl, arith, ap, sym, subst, ◌∙◌, append_assoc, length-append}
use Rattle.zr_base.specs.declared.space.Extent.{Extent}
use Rattle.zr_base.specs.Extents.{IsMaximal}
use Rattle.zr_paged.specs.Runs.{start_of}
use Rattle.zr_paged.specs.Pages.{all_of, AreFit, ArePages, IsClear}
use Rattle.zr_paged.proofs.Joined.{maximal_back, maximal_front}

pub all_append : (xs ys : List (List Extent)) → all_of (xs ++ ys) ≡ all_of xs ++ all_of ys
all_append [] ys = refl
all_append (x ∷ xs) ys = ap (λ (l : List Extent). x ++ l) (all_append xs ys) ∙ sym (append_assoc x (all_of xs) (all_of ys))

pub all_three : (lows : List (List Extent)) (p : List Extent) (highs : List (List Extent)) → all_of (lows ++ p ∷ highs) ≡ all_of lows ++ (p ++ all_of highs)
all_three lows p highs = all_append lows (p ∷ highs)

pub fit_front : (xs ys : List (List Extent)) → AreFit (xs ++ ys) → AreFit xs
fit_front [] ys fit = tt
fit_front (x ∷ xs) ys fit = (fit.0, fit.1, fit_front xs ys fit.2)

pub fit_back : (xs ys : List (List Extent)) → AreFit (xs ++ ys) → AreFit ys
fit_back [] ys fit = fit
fit_back (x ∷ xs) ys fit = fit_back xs ys fit.2

pub fit_append : (xs ys : List (List Extent)) → AreFit xs → AreFit ys → AreFit (xs ++ ys)
fit_append [] ys fit other = other
fit_append (x ∷ xs) ys fit other = (fit.0, fit.1, fit_append xs ys fit.2 other)

-- a node's page has extents, and no more than fit
pub fit_page : (lows : List (List Extent)) (p : List Extent) (highs : List (List Extent)) → AreFit (lows ++ p ∷ highs) → (0 < length p) × (length p ≤ 64)
fit_page lows p highs fit = let back = fit_back lows (p ∷ highs) fit in (back.0, back.1)

pub fit_high : (lows : List (List Extent)) (p : List Extent) (highs : List (List Extent)) → AreFit (lows ++ p ∷ highs) → AreFit highs
fit_high lows p highs fit = (fit_back lows (p ∷ highs) fit).2

pub fit_join : (lows : List (List Extent)) (p : List Extent) (highs : List (List Extent)) → AreFit lows → 0 < length p → length p ≤ 64 → AreFit highs → AreFit (lows ++ p ∷ highs)
fit_join lows p highs low some few high = fit_append lows (p ∷ highs) low (some, few, high)

-- the three parts have what all have
pub split : (lows : List (List Extent)) (p : List Extent) (highs : List (List Extent)) → IsMaximal (all_of (lows ++ p ∷ highs)) → IsMaximal (all_of lows ++ (p ++ all_of highs))
split lows p highs m = subst (λ (l : List Extent). IsMaximal l) (all_three lows p highs) m

pub maximal_low : (lows : List (List Extent)) (p : List Extent) (highs : List (List Extent)) → IsMaximal (all_of (lows ++ p ∷ highs)) → IsMaximal (all_of lows)
maximal_low lows p highs m = maximal_front 0 (all_of lows) (p ++ all_of highs) (split lows p highs m)

pub maximal_rest : (lows : List (List Extent)) (p : List Extent) (highs : List (List Extent)) → IsMaximal (all_of (lows ++ p ∷ highs)) → IsMaximal (p ++ all_of highs)
maximal_rest lows p highs m = maximal_back 0 (all_of lows) (p ++ all_of highs) (split lows p highs m)

pub maximal_page : (lows : List (List Extent)) (p : List Extent) (highs : List (List Extent)) → IsMaximal (all_of (lows ++ p ∷ highs)) → IsMaximal p
maximal_page lows p highs m = maximal_front 0 p (all_of highs) (maximal_rest lows p highs m)

pub maximal_high : (lows : List (List Extent)) (p : List Extent) (highs : List (List Extent)) → IsMaximal (all_of (lows ++ p ∷ highs)) → IsMaximal (all_of highs)
maximal_high lows p highs m = maximal_back 0 p (all_of highs) (maximal_rest lows p highs m)

pub low_pages : (lows : List (List Extent)) (p : List Extent) (highs : List (List Extent)) → ArePages (lows ++ p ∷ highs) → ArePages lows
low_pages lows p highs a = record { fit = fit_front lows (p ∷ highs) a.fit; maximal = maximal_low lows p highs a.maximal }

pub high_pages : (lows : List (List Extent)) (p : List Extent) (highs : List (List Extent)) → ArePages (lows ++ p ∷ highs) → ArePages highs
high_pages lows p highs a = record { fit = fit_high lows p highs a.fit; maximal = maximal_high lows p highs a.maximal }

pub clear_low : (lows : List (List Extent)) (p : List Extent) (highs : List (List Extent)) (u : ℕ) → IsClear (lows ++ p ∷ highs) u → IsClear lows u
clear_low [] p highs u c = tt
clear_low (x ∷ lows) p highs u c = (c.0, clear_low lows p highs u c.1)

pub clear_back : (lows highs : List (List Extent)) (u : ℕ) → IsClear (lows ++ highs) u → IsClear highs u
clear_back [] highs u c = c
clear_back (x ∷ lows) highs u c = clear_back lows highs u c.1

-- pages have extents
pub some_extents : (xs : List (List Extent)) → AreFit xs → 0 < length xs → 0 < length (all_of xs)
some_extents [] fit some = absurd (omega (arith, some))
some_extents (x ∷ xs) fit some = omega (arith, length-append x (all_of xs), fit.0)

-- the first unit of all is that of the first page
pub start_all : (x : List Extent) (xs : List (List Extent)) → 0 < length x → start_of (all_of (x ∷ xs)) ≡ start_of x
start_all [] xs some = absurd (omega (arith, some))
start_all (e ∷ es) xs some = refl

-- a page is cut, and its upper half stands among the pages above
pub all_cut : (lows : List (List Extent)) (p : List Extent) (highs lows2 : List (List Extent)) (q : List Extent) (highs2 : List (List Extent)) → lows2 ≡ lows → q ++ all_of highs2 ≡ p ++ all_of highs → all_of (lows ++ p ∷ highs) ≡ all_of (lows2 ++ q ∷ highs2)
all_cut lows p highs lows2 q highs2 low same = all_three lows p highs ∙ ap (λ (l : List Extent). all_of lows ++ l) (sym same) ∙ ap (λ (ls : List (List Extent)). all_of ls ++ (q ++ all_of highs2)) (sym low) ∙ sym (all_three lows2 q highs2)

-- an empty page goes
pub all_without : (lows : List (List Extent)) (p : List Extent) (highs : List (List Extent)) → p ≡ [] → all_of (lows ++ highs) ≡ all_of (lows ++ p ∷ highs)
all_without lows p highs none = all_append lows highs ∙ ap (λ (l : List Extent). all_of lows ++ (l ++ all_of highs)) (sym none) ∙ sym (all_three lows p highs)

pub nil_is : (page : List Extent) → length page ≡ 0 → page ≡ []
nil_is [] h = refl
nil_is (e ∷ es) h = absurd (omega arith)
