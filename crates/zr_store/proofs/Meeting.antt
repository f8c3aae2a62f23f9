-- Blocks that are stored, and their addresses.
use Rattle.std.proofs.Common.{◌≡◌, ◌<◌, inl, inr, ℕ, List, [], ◌∷◌, ◌∙◌, sym, ap, subst, arith}
use Rattle.std.specs.Prelude.{All}
use Rattle.std.proofs.lemmas.List.Sums.{sum_by-cons}
use Rattle.std.proofs.lemmas.List.Elements.{All-head, All-tail}
use Rattle.std.proofs.lemmas.Bool.Decides.{nat_tests}
use Rattle.zr_base.specs.declared.space.Dva.{Dva}
use Rattle.zr_bptr.specs.declared.Bptr.{Bptr}
use Rattle.zr_store.specs.Store.{Stored, AreStored, hits, one_at}
use Rattle.zr_store.proofs.Keeping.{one_itself, one_cases}

-- at the address of a block that is stored a block is met
pub met : (b : Bptr) (s : Stored) → AreStored (b ∷ []) s → 0 < hits s.pointers b.at
met b s held = let h = held (one_at b.at) in omega (arith, h, one_itself b, sum_by-cons (one_at b.at) b [])

same_dev : (at : Dva) (b : Bptr) → one_at at b ≡ 1 → at.dev ≡ b.at.dev
same_dev at b e = grind (arith, nat_tests)

same_start : (at : Dva) (b : Bptr) → one_at at b ≡ 1 → at.start ≡ b.at.start
same_start at b e = grind (arith, nat_tests)

same_len : (at : Dva) (b : Bptr) → one_at at b ≡ 1 → at.len ≡ b.at.len
same_len at b e = grind (arith, nat_tests)

abbrev dva : ℕ → ℕ → ℕ → Dva
dva dev start len = record { dev = dev; start = start; len = len }

same_at : (at : Dva) (b : Bptr) → one_at at b ≡ 1 → at ≡ b.at
same_at at b e =
    ap (λ (n : ℕ). dva n at.start at.len) (same_dev at b e) ∙ ap (λ (n : ℕ). dva b.at.dev n at.len) (same_start at b e) ∙ ap (dva b.at.dev b.at.start) (same_len at b e)

-- what holds of each address that is stored holds where a block is met
pub at_each : (P : Dva → Type 0) (bs : List Bptr) (at : Dva) → All (λ b. P b.at) bs → 0 < hits bs at → P at
at_each P [] at all h = absurd (omega (arith, h))
at_each P (b ∷ bs) at all h = elim (one_cases at b) [
  | inl e ↦ at_each P bs at (All-tail (λ (x : Bptr). P x.at) b bs all) (omega (arith, e, h, sum_by-cons (one_at at) b bs))
  | inr e ↦ subst P (sym (same_at at b e)) (All-head (λ (x : Bptr). P x.at) b bs all)
]
